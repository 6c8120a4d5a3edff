use Rattle.std.proofs.Common.{◌≡◌, ◌∙◌, ◌++◌, Some, length, ap, arith}
use Rattle.serde_json.specs.Find.{as_array}
use Rattle.serde_json.specs.View.{view, items_view}
use Rattle.array_fields.proofs.SaidBytes.{complex_pair}
use Rattle.array_fields.proofs.fill.complex_bytes.Goals as goal

pub returns-clause-read : goal.returns-clause-read
returns-clause-read c =
    let values = c.as_slice.result.now in
    let list : Some (items_view values) ≡ as_array (view c.args.value.now) =
    ap (λ vs. Some (items_view vs)) c.as_slice.ensures.value ∙ c.in-Some.ensures in
    let two : length values ≡ 2 = omega (arith, c.in-len2.len_at_least, c.in-len2.len_below) in
    let size = rw c.in-Some-2.is at c.in_ok-bytes.ensures.size in
    let real = rw c.in-Some-2.is at c.in_ok-bytes.ensures.read in
    let imaginary = rw c.in-Some-3.is at c.in_ok-behind.ensures.read in
    let more = c.in_ok-extend_from_slice.ensures.items ∙ ap (λ tail. c.in-Some-2.bytes.items ++ tail) c.deref.ensures.value in
    rw more
    (complex_pair c.args.format values c.real-item.result c.imaginary-item.result _ c.in-Some-2.bytes.items c.in-Some-3.behind.items list two c.real-item.is c.imaginary-item.is size real imaginary)
