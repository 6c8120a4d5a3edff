use Rattle.std.proofs.Common.{◌∙◌, ℕ, IfOk, IfErr, length, inl, inr, arith}
use Rattle.std.specs.declared.result.Result.{Result}
use Rattle.std.specs.List.{AllZip, range_with_len}
use Rattle.rayon.proofs.ListFacts.{AllZip-weaken}
use Rattle.parts_errors.specs.declared.error.CodecError.{CodecError}
use Rattle.parts_errors.specs.Order.{RefusedBy}
use Rattle.parts_subsets.specs.Grid.{subchunk}
use Rattle.codec_traits.specs.RefusalLaws.{passed_on}
use Rattle.parts_row_major.specs.Numbering.{count_of}
use Rattle.sharding_format.specs.WriteOrderLaws.{order_counted}
use Rattle.sharding_format.specs.Encoding.{IsStored}
use Rattle.sharding_format.proofs.LayingLemmas.{part_stored}
use Rattle.sharding_format.specs.EncodeRefusals.{RefusesToStore}
use Rattle.sharding_subchunks.specs.steps.Inner.{inner_meaning}
use Rattle.sharding_subchunks.specs.declared.encoded.Stored.{Stored}
use Rattle.sharding_workers.proofs.OrderLemmas.{taken_counted, taken_at, each_before, refused_below, refused_at}
use Rattle.sharding_workers.proofs.encoded.lay_out_subchunks.Goals as goal

pub by_number-requires-after_bounds : goal.by_number-requires-after_bounds
by_number-requires-after_bounds g c = λ κs within k below. record {
  serves = c.requires.serves;
  cut = c.requires.cut;
  below = omega (arith, below, c.len.ensures, order_counted (count_of c.args.cut.now.grid.now) c.args.sequence.now c.requires.order);
}

pub stored_in_sequence-requires-clause-order : goal.stored_in_sequence-requires-clause-order
stored_in_sequence-requires-clause-order g c =
    let order = c.args.sequence.now in
    let counted = taken_counted _ c.len.result c.in_ok-results.results.items c.in_ok-stored.stored.items c.in_ok-results.ensures c.in_ok-stored.ensures.taken in
    rw (c.deref.ensures.value, counted, c.len.ensures, order_counted (count_of c.args.cut.now.grid.now) order c.requires.order) c.requires.order

pub stored_in_sequence-requires-clause-stored : goal.stored_in_sequence-requires-clause-stored
stored_in_sequence-requires-clause-stored g c =
    let s = c.args.subchunks.now in
    let inner = inner_meaning g.I.ArrayToBytesCodecTraits.meaning s in
    let fill = s.fill_value.now in
    let part = subchunk c.args.cut.now.shape.now s.shape.now c.args.cut.now.array.now.elements in
    let Gives : ℕ → Result Stored CodecError → Type 0 = λ k r. IfOk r (λ stored. IsStored inner.written fill (part k) stored.present stored.bytes.items)
    × IfErr r (RefusedBy (RefusesToStore inner.encodable inner.fits fill (part k))) in
    let results = c.in_ok-results.results.items in
    let n = c.len.result in
    let all : AllZip Gives (range_with_len 0 n) results = AllZip-weaken _ Gives (λ k r p. (p.0, p.1)) _ _ c.in_ok-results.ensures in
    rw c.deref.ensures.value (λ k d below. (taken_at Gives n results c.in_ok-stored.stored.items all c.in_ok-stored.ensures.taken k d below).0)

pub returns-clause-stored_slices : goal.returns-clause-stored_slices
returns-clause-stored_slices g c =
    let counted = taken_counted _ c.len.result c.in_ok-results.results.items c.in_ok-stored.stored.items c.in_ok-results.ensures c.in_ok-stored.ensures.taken in
    rw (c.deref.ensures.value, counted ∙ c.len.ensures ∙ order_counted (count_of c.args.cut.now.grid.now) c.args.sequence.now c.requires.order) at c.in_ok-stored_slices.ensures.stored_slices

pub returns-in_err-stored-clause-refused : goal.returns-in_err-stored-clause-refused
returns-in_err-stored-clause-refused g c =
    let s = c.args.subchunks.now in
    let inner = inner_meaning g.I.ArrayToBytesCodecTraits.meaning s in
    let fill = s.fill_value.now in
    let part = subchunk c.args.cut.now.shape.now s.shape.now c.args.cut.now.array.now.elements in
    let Gives : ℕ → Result Stored CodecError → Type 0 = λ k r. IfOk r (λ stored. IsStored inner.written fill (part k) stored.present stored.bytes.items)
    × IfErr r (RefusedBy (RefusesToStore inner.encodable inner.fits fill (part k))) in
    let results = c.in_ok-results.results.items in
    let n = c.len.result in
    let all : AllZip Gives (range_with_len 0 n) results = AllZip-weaken _ Gives (λ k r p. (p.0, p.1)) _ _ c.in_ok-results.ensures in
    let e = c.in_err-stored.field-0.0 in
    passed_on _ e _ c.from_residual-in_err-stored.ensures.1
    (elim c.in_err-stored.ensures.refused [
      | inl memory ↦ inl memory
      | inr first ↦ elim (refused_at Gives n results e all first).1 [
        | inl memory ↦ inl memory
        | inr refuses ↦ inr (inl (
          length first.before,
          (
            omega (arith, refused_below Gives n results e all first, c.len.ensures, order_counted (count_of c.args.cut.now.grid.now) c.args.sequence.now c.requires.order),
            (λ j before.
                let earlier = each_before Gives n results e all first j before in
                let stored : Stored = earlier.0 in
                (stored.bytes.items, part_stored inner.written fill (part j) stored.present stored.bytes.items earlier.1.0)),
            refuses,
          ),
        ))
      ]
    ])
