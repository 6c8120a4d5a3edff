use Rattle.std.proofs.Common.{◌+◌, length, rules}
use Rattle.parts_arrays.proofs.ArrayLaws.{rises_to, offset_within}
use Rattle.parts_arrays.proofs.array_bytes.builder.parts_at.Goals as goal

pub slice_bounds-result-count : goal.slice_bounds-result-count
slice_bounds-result-count c = rises_to c.args.ends.now (length c.args.from.now) c.args.first c.args.count c.requires.ends c.requires.within

pub slice_bounds-result-start : goal.slice_bounds-result-start
slice_bounds-result-start c =
    let rise = rises_to c.args.ends.now (length c.args.from.now) c.args.first c.args.count c.requires.ends c.requires.within in
    search rules

pub slice_bounds-result-end : goal.slice_bounds-result-end
slice_bounds-result-end c =
    let within = offset_within c.args.ends.now (length c.args.from.now) (c.args.first + c.args.count) c.requires.ends c.requires.within in
    search rules
