use Rattle.std.proofs.Common.{◌∙◌, ap, map, refl, true}
use Rattle.parts_row_major.specs.Numbering.{number_of}
use Rattle.codec_bytes.proofs.BytesCodecSteps.{array_kept, picked_in, requested_of, requested_swapped, requested_whole}
use Rattle.codec_bytes.proofs.byte_order.requested_in_memory.Goals as goal

pub requested_elements-requires-clause-valid : goal.requested_elements-requires-clause-valid
requested_elements-requires-clause-valid g c = rw (array_kept c.args.element.size c.args.bytes.now c.in_ok-stored.stored c.requires.whole c.in_ok-stored.ensures) c.requires.valid

pub turned-requires-clause-kind : goal.turned-requires-clause-kind
turned-requires-clause-kind g c =
    let n = c.args.element.size in
    let bytes = c.args.bytes.now in
    let stored = array_kept n bytes c.in_ok-stored.stored c.requires.whole c.in_ok-stored.ensures in
    let points = (g.N.Indexer.selection c.args.indexer.now).points in
    (requested_of n bytes c.args.shape.now points c.in_ok-stored.stored c.in_ok-requested.requested c.requires.valid.counted c.requires.inside stored c.in_ok-requested.ensures.requested).kind

pub turned-requires-clause-whole : goal.turned-requires-clause-whole
turned-requires-clause-whole g c =
    let n = c.args.element.size in
    let bytes = c.args.bytes.now in
    let stored = array_kept n bytes c.in_ok-stored.stored c.requires.whole c.in_ok-stored.ensures in
    let points = (g.N.Indexer.selection c.args.indexer.now).points in
    requested_whole n bytes _ c.in_ok-requested.requested c.requires.whole
    (requested_of n bytes c.args.shape.now points c.in_ok-stored.stored c.in_ok-requested.requested c.requires.valid.counted c.requires.inside stored c.in_ok-requested.ensures.requested)

pub returns-then-element-clause-requested : goal.returns-then-element-clause-requested
returns-then-element-clause-requested g c =
    let n = c.args.element.size in
    let bytes = c.args.bytes.now in
    let stored = array_kept n bytes c.in_ok-stored.stored c.requires.whole c.in_ok-stored.ensures in
    let points = (g.N.Indexer.selection c.args.indexer.now).points in
    let requested = requested_of n bytes c.args.shape.now points c.in_ok-stored.stored c.in_ok-requested.requested c.requires.valid.counted c.requires.inside stored c.in_ok-requested.ensures.requested in
    rw c.if-element.true (requested_swapped n true bytes _ _ c.in_ok-requested.requested c.in_ok-turned.turned c.requires.whole requested refl c.in_ok-turned.ensures.turned)

pub returns-clause-requested : goal.returns-clause-requested
returns-clause-requested g c =
    let points = (g.N.Indexer.selection c.args.indexer.now).points in
    rw c.if-element.false (c.in_ok-requested.ensures.requested ∙ ap (picked_in (map (λ point. number_of point c.args.shape.now) points)) c.in_ok-stored.ensures)
