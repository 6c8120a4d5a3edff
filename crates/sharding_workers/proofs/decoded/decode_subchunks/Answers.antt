use Rattle.std.proofs.Common.{◌/◌, ◌∙◌, ℕ, Option, None, IfOk, IfErr, length, inl, inr, arith}
use Rattle.std.specs.declared.result.Result.{Result}
use Rattle.std.specs.List.{AllZip, range_with_len}
use Rattle.rayon.proofs.ListFacts.{AllZip-weaken}
use Rattle.parts_errors.specs.declared.error.CodecError.{CodecError}
use Rattle.parts_errors.specs.Order.{RefusedBy}
use Rattle.parts_arrays.specs.Arrays.{Array}
use Rattle.codec_traits.specs.RefusalLaws.{passed_on}
use Rattle.sharding_format.specs.Index.{slot_at}
use Rattle.sharding_format.specs.DecodeRefusals.{RefusesSubchunk}
use Rattle.sharding_format.specs.steps.Decoding.{IsDecoded}
use Rattle.sharding_format.proofs.RefusalLemmas.{one_refused}
use Rattle.sharding_subchunks.specs.steps.Inner.{spec_of_subchunks}
use Rattle.sharding_workers.proofs.OrderLemmas.{taken_counted, taken_at, before_at, refused_below, refused_at}
use Rattle.sharding_workers.proofs.decoded.decode_subchunks.Goals as goal

pub returns-clause-counted : goal.returns-clause-counted
returns-clause-counted g c =
    taken_counted _ c.subchunks.result c.in_ok-results.results.items c.in_ok-found.found.items c.in_ok-results.ensures c.in_ok-found.ensures.taken
    ∙ c.subchunks.ensures

pub returns-clause-decoded : goal.returns-clause-decoded
returns-clause-decoded g c = λ k below.
    let a = c.args in
    let sub_g = spec_of_subchunks a.subchunks.now in
    let inner = g.I.ArrayToBytesCodecTraits.meaning a.subchunks.now.codec.now sub_g in
    let numbers = a.index.now.numbers.items in
    let b = a.bytes.now in
    let Gives : ℕ → Result (Option Array) CodecError → Type 0 = λ k r. IfOk r (IsDecoded inner.cells sub_g b (slot_at (length b) numbers k))
    × IfErr r (RefusedBy (RefusesSubchunk inner.decode_refusals inner.cells b (slot_at (length b) numbers k) k)) in
    let results = c.in_ok-results.results.items in
    let all : AllZip Gives (range_with_len 0 c.subchunks.result) results =
    AllZip-weaken _ Gives (λ k r p. (p.0, p.1)) _ _ c.in_ok-results.ensures in
    (taken_at Gives c.subchunks.result results c.in_ok-found.found.items all c.in_ok-found.ensures.taken k None below).0

pub returns-in_err-found-clause-refused : goal.returns-in_err-found-clause-refused
returns-in_err-found-clause-refused g c =
    let a = c.args in
    let sub_g = spec_of_subchunks a.subchunks.now in
    let inner = g.I.ArrayToBytesCodecTraits.meaning a.subchunks.now.codec.now sub_g in
    let numbers = a.index.now.numbers.items in
    let b = a.bytes.now in
    let Gives : ℕ → Result (Option Array) CodecError → Type 0 = λ k r. IfOk r (IsDecoded inner.cells sub_g b (slot_at (length b) numbers k))
    × IfErr r (RefusedBy (RefusesSubchunk inner.decode_refusals inner.cells b (slot_at (length b) numbers k) k)) in
    let results = c.in_ok-results.results.items in
    let n = c.subchunks.result in
    let all : AllZip Gives (range_with_len 0 n) results =
    AllZip-weaken _ Gives (λ k r p. (p.0, p.1)) _ _ c.in_ok-results.ensures in
    let e = c.in_err-found.field-0.0 in
    passed_on _ e _ c.from_residual-in_err-found.ensures.1
    (elim c.in_err-found.ensures.refused [
      | inl memory ↦ inl memory
      | inr first ↦ one_refused inner.decode_refusals inner.cells sub_g b numbers first.before (length numbers / 2) (length first.before) e
          (omega (arith, refused_below Gives n results e all first, c.subchunks.ensures))
          (λ j before. (before_at Gives n results e all first j None before).0) (refused_at Gives n results e all first).1
    ])
