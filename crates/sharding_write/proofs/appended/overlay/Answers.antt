use Rattle.std.proofs.Common.{arith}
use Rattle.parts_row_major.specs.Numbering.{count_of}
use Rattle.sharding_write.proofs.InPlaceLemmas.{many_bytes}
use Rattle.sharding_write.proofs.AppendLemmas.{overlaid_whole}
use Rattle.sharding_write.proofs.appended.overlay.Goals as goal

pub copy_subset-requires-clause-whole_update : goal.copy_subset-requires-clause-whole_update
copy_subset-requires-clause-whole_update c =
    rw (c.bytes-given.ensures, c.shape-axes.ensures.value)
    (many_bytes c.args.size (count_of c.args.update.now.subset.now.shape) c.args.update.now.elements.now (rw c.requires.kind at c.args.update.now.fitting) c.args.update.now.counted)

pub returns : goal.returns
returns c =
    let written = rw (c.bytes-given.ensures, c.shape-axes.ensures.value) at c.copy_subset.ensures in
    overlaid_whole c.args.size c.args.part.now c.args.update.now.elements.now c.copy_subset.new.output c.args.overlap.now.in_subchunk c.args.overlap.now.in_subset c.args.sub.now c.args.update.now.subset.now.shape c.requires.some c.requires.whole c.requires.kind
    (rw c.requires.kind at c.args.update.now.fitting) c.args.update.now.counted c.requires.subset_served.0 c.requires.same (omega (arith, c.copy_subset.auto.output)) written
