use Rattle.std.proofs.Common.{◌∙◌, ap, arith, length, sym, true}
use Rattle.std.specs.List.{concat}
use Rattle.parts_arrays.specs.Arrays.{fixed_array}
use Rattle.parts_errors.proofs.ListLaws.{whole_after}
use Rattle.codec_bytes.proofs.BytesCodecSteps.{turned_elements, whole_swapped}
use Rattle.codec_bytes.proofs.byte_order.turned.Goals as goal

pub returns-in_err-bytes-clause-refused : goal.returns-in_err-bytes-clause-refused
returns-in_err-bytes-clause-refused c =
    let variable = sym c.requires.kind ∙ c.in_err-bytes.ensures.refused.1 in cc

pub unreachable-requires : goal.unreachable-requires
unreachable-requires c =
    let n = c.args.size in
    let own = c.in_ok-elements.ensures.items_if_clones_equal (λ x y h. h) ∙ c.in_ok-bytes.ensures.bytes in
    let old = c.in_ok-elements.elements.items in
    let stored = whole_after c.in_ok-elements.elements.len c.reverse_elements.new.bytes old (omega (arith, ap length c.deref_mut.ensures.value)) (omega (arith, c.in_ok-elements.elements.ok.0))
    ∙ turned_elements n (concat c.args.array.elements) c.deref_mut.result.now c.reverse_elements.new.bytes (c.deref_mut.ensures.value ∙ own) c.reverse_elements.ensures in
    c.in-None.ensures (whole_swapped n true (concat c.args.array.elements) _ c.requires.whole stored)

pub returns-clause-turned : goal.returns-clause-turned
returns-clause-turned c =
    let n = c.args.size in
    let own = c.in_ok-elements.ensures.items_if_clones_equal (λ x y h. h) ∙ c.in_ok-bytes.ensures.bytes in
    let old = c.in_ok-elements.elements.items in
    let stored = whole_after c.in_ok-elements.elements.len c.reverse_elements.new.bytes old (omega (arith, ap length c.deref_mut.ensures.value)) (omega (arith, c.in_ok-elements.elements.ok.0))
    ∙ turned_elements n (concat c.args.array.elements) c.deref_mut.result.now c.reverse_elements.new.bytes (c.deref_mut.ensures.value ∙ own) c.reverse_elements.ensures in
    c.in-Some.ensures.1 ∙ ap (fixed_array n) stored
