use Rattle.std.proofs.Common.{◌≡◌, ◌∙◌, ap, length, arith}
use Rattle.parts_errors.proofs.ListLaws.{whole_after}
use Rattle.parts_row_major.specs.Numbering.{count_of}
use Rattle.sharding_write.proofs.InPlaceLemmas.{many_bytes, whole_new, overlaid_subset}
use Rattle.sharding_write.proofs.overlay.overlaid_in_place.Goals as goal

pub copy_subset-requires-clause-whole : goal.copy_subset-requires-clause-whole
copy_subset-requires-clause-whole c =
    let items = c.in_ok-bytes.ensures ∙ c.in-Ok.ensures.bytes in
    rw (c.deref_mut.ensures.value, items) (many_bytes c.args.size (count_of c.args.shape.now) c.args.old c.requires.fitting c.requires.all)

pub copy_subset-requires-clause-whole_update : goal.copy_subset-requires-clause-whole_update
copy_subset-requires-clause-whole_update c =
    rw (c.bytes-given.ensures, c.shape-axes.ensures.value) (many_bytes c.args.size (count_of c.args.update.now.subset.now.shape) c.args.update.now.elements.now (rw c.requires.update_kind at c.args.update.now.fitting) c.args.update.now.counted)

pub unreachable-requires-in-None : goal.unreachable-requires-in-None
unreachable-requires-in-None c =
    let items = c.in_ok-bytes.ensures ∙ c.in-Ok.ensures.bytes in
    let long : length c.copy_subset.new.output ≡ length c.in_ok-bytes.bytes.items = omega (arith, c.copy_subset.auto.output, ap length c.deref_mut.ensures.value) in
    let after = whole_after c.in_ok-bytes.bytes.len c.copy_subset.new.output c.in_ok-bytes.bytes.items long (omega (arith, c.in_ok-bytes.bytes.ok.0)) in
    c.in-None.ensures (rw after (whole_new c.args.size c.args.old c.copy_subset.new.output c.requires.some c.requires.fitting (long ∙ ap length items)))

pub returns : goal.returns
returns c =
    let items = c.in_ok-bytes.ensures ∙ c.in-Ok.ensures.bytes in
    let long : length c.copy_subset.new.output ≡ length c.in_ok-bytes.bytes.items = omega (arith, c.copy_subset.auto.output, ap length c.deref_mut.ensures.value) in
    let after = whole_after c.in_ok-bytes.bytes.len c.copy_subset.new.output c.in_ok-bytes.bytes.items long (omega (arith, c.in_ok-bytes.bytes.ok.0)) in
    let written = rw (c.deref_mut.ensures.value, items, c.bytes-given.ensures, c.shape-axes.ensures.value) at c.copy_subset.ensures in
    rw (c.in-Some.ensures.1, after)
    (overlaid_subset c.args.size c.args.old c.args.update.now.elements.now c.copy_subset.new.output c.args.overlap.now.in_subchunk c.args.overlap.now.in_subset c.args.shape.now c.args.update.now.subset.now.shape c.requires.some c.requires.kind c.requires.update_kind
    c.requires.fitting (rw c.requires.update_kind at c.args.update.now.fitting) c.args.update.now.counted c.requires.part_served.0 c.requires.same (long ∙ ap length items) written)
