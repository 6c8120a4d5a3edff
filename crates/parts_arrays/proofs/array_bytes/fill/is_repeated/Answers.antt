use Rattle.std.proofs.Common.{◌≡◌, ◌<◌, ◌∙◌, sym, arith, length, take}
use Rattle.std.proofs.lemmas.Bool.Decides.{Decides-eqb, nat_tests}
use Rattle.std.proofs.lemmas.Slice.Eq.{slice_eq-Decides}
use Rattle.parts_arrays.proofs.FillLaws.{whole_some, pieces_from_shift, shift_from_pieces}
use Rattle.parts_arrays.proofs.array_bytes.fill.is_repeated.Goals as goal
use Rattle.parts_arrays.proofs.array_bytes.fill.is_repeated.Goals.{Else-is_empty}

some : (c : Else-is_empty) → 0 < length c.args.bytes.now
some c = grind (arith, nat_tests)

pub split_at-requires : goal.split_at-requires
split_at-requires c = whole_some c.args.size c.args.bytes.now c.requires (some (goal.at.split_at-requires c).Else-is_empty)

pub returns-then-eq : goal.returns-then-eq
returns-then-eq c =
    let bytes = c.args.bytes.now in
    let first = c.split_at.result.0.now in
    let later = c.split_at.result.1.now in
    let size = c.args.size in
    let fill = c.args.element.now in
    let is_first = slice_eq-Decides Decides-eqb first fill c.eq.result c.eq.ensures in
    let is_shift = slice_eq-Decides Decides-eqb later (take (length later) bytes) c.eq-then-eq.result c.eq-then-eq.ensures in
    let front : take size bytes ≡ fill = sym c.split_at.ensures.front ∙ is_first.0 c.if-eq.true in
    let back = c.split_at.ensures.back in (
      λ t. pieces_from_shift size bytes fill c.requires front (rw back at (is_shift.0 t)),
      λ each. is_shift.1 (rw back (shift_from_pieces size bytes fill c.requires (some (goal.at.returns-then-eq c).Else-is_empty) each).1),
    )

pub returns-else-eq : goal.returns-else-eq
returns-else-eq c =
    let bytes = c.args.bytes.now in
    let first = c.split_at.result.0.now in
    let fill = c.args.element.now in
    let is_first = slice_eq-Decides Decides-eqb first fill c.eq.result c.eq.ensures in (
      λ t. let no : ⊥ = cc in absurd no,
      λ each. is_first.1 (c.split_at.ensures.front ∙ (shift_from_pieces c.args.size bytes fill c.requires (some (goal.at.returns-else-eq c).Else-is_empty) each).0),
    )
