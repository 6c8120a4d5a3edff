use Rattle.std.proofs.Common.{◌+◌, rules, length}
use Rattle.parts_arrays.proofs.ArrayLaws.{offset_within}
use Rattle.parts_arrays.proofs.array_bytes.part_at.Goals as goal

pub slice_bounds-result-end : goal.slice_bounds-result-end
slice_bounds-result-end c = let within =
    offset_within c.args.offsets.now (length c.args.bytes.now) (c.args.i + 1) c.requires.offsets c.requires.below in search rules
