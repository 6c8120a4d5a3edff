use Rattle.std.proofs.Common.{◌∙◌, ap, arith, length}
use Rattle.parts_errors.proofs.ListLaws.{whole_after}
use Rattle.codec_bytes.proofs.BytesCodecSteps.{kept_elements, turned_elements}
use Rattle.codec_bytes.proofs.byte_order.copied.Goals as goal
use Rattle.codec_bytes.proofs.byte_order.copied.Goals.{then-reversed, else-reversed}

pub returns : goal.returns
returns c =
    let copy = c.in_ok-copy.ensures.items in
    elim c.if-reversed.branch [
      | then-reversed w ↦
          rw (w.if-reversed.true, w.copy-is)
          (whole_after c.in_ok-copy.copy.len w.reverse_elements.new.bytes c.in_ok-copy.copy.items (omega (arith, ap length w.deref_mut.ensures.value)) (omega (arith, c.in_ok-copy.copy.ok.0))
          ∙ turned_elements c.args.size c.args.bytes.now w.deref_mut.result.now w.reverse_elements.new.bytes (w.deref_mut.ensures.value ∙ copy) w.reverse_elements.ensures)
      | else-reversed w ↦ rw (w.if-reversed.false, w.copy-is) (copy ∙ kept_elements c.args.size c.args.bytes.now c.requires)
    ]
