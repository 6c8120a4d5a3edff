-- Bytes put behind slices: kept as a subchunk, or taken back.
use Rattle.std.proofs.Common.{◌≡◌, ◌↔◌, ℕ, ◌-◌, ◌/◌, ◌<◌, ◌≤◌, Bool, true, false, List, [], ◌++◌, length, get_or, take, drop, refl, sym, ap, ◌∙◌, arith, length-append, get_or-take}
use Rattle.std.specs.List.{concat}
use Rattle.std.proofs.lemmas.List.{append-nil, take-append-drop, length-drop, length-take-le, take_at, drop_at, take_all, ext_get_or}
use Rattle.std.proofs.Math.Seq.{take-length}
use Rattle.parts_errors.specs.Words.{Elements}
use Rattle.parts_row_major.specs.Pieces.{piece}
use Rattle.parts_arrays.specs.Arrays.{IsWhole, fixed_array}
use Rattle.parts_arrays.proofs.ArrayLaws.{concat-fixed_array}
use Rattle.parts_arrays.proofs.FillLaws.{pieces_from_shift, shift_from_pieces, all_from_each, each_from_all}
use Rattle.sharding_format.specs.Encoding.{IsAllFill, IsStored}
use Rattle.sharding_format.specs.Laying.{IsStoredAfter}
use Rattle.sharding_format.specs.declared.slot.Slot.{Slot}
use Rattle.sharding_format.specs.declared.slot.Slot.TheVariants.{Absent, InRange}

-- elements that are all fill begin as the fill value
pub blank_begins : (row fill : List ℕ) → IsWhole (length fill) row → 0 < length row → IsAllFill fill (fixed_array (length fill) row).elements → get_or row 0 0 ≡ get_or fill 0 0
blank_begins row fill whole some all =
    let first = (shift_from_pieces (length fill) row fill whole some (each_from_all (piece (length fill) row) (length row / length fill) fill all)).0 in
    sym (get_or-take (length fill) row 0 0 whole.0) ∙ ap (λ (e : List ℕ). get_or e 0 0) first

-- one element is all fill where it is the fill value
pub blank_one : (row fill : List ℕ) → IsWhole (length fill) row → length row ≡ length fill → row ≡ fill ↔ IsAllFill fill (fixed_array (length fill) row).elements
blank_one row fill whole one =
    let n = length fill in
    let all_of : take n row ≡ row = take_all n row (omega arith) in
    let none : length (drop n row) ≡ 0 = omega (arith, length-drop n row) in
    let nothing : drop n row ≡ [] = ext_get_or 0 (drop n row) [] none (λ i lt. absurd (omega arith)) in (
      λ same. all_from_each (piece n row) (length row / n) fill (pieces_from_shift n row fill whole (all_of ∙ same) (nothing ∙ ap (λ m. take m row) (sym none))),
      λ all. sym all_of ∙ (shift_from_pieces n row fill whole (omega (arith, whole.0)) (each_from_all (piece n row) (length row / n) fill all)).0,
    )

-- a codec that lays elements end to end has written what is so laid
stored_as : (inner_written : List (List ℕ) → List ℕ → Type 0) (fill : List ℕ) (e : Elements) (present : Bool) (slice : List ℕ) → inner_written e (concat e)
    → IsStored (λ elements bytes. bytes ≡ concat elements) fill e present slice → IsStored inner_written fill e present slice
stored_as inner_written fill e true slice written stored = (stored.0, rw stored.1 written)
stored_as inner_written fill e false slice written stored = stored

pub stored_plainly : (inner_written : List (List ℕ) → List ℕ → Type 0) (fill : List ℕ) (e : Elements) (before after : List ℕ) (slot : Slot) → inner_written e (concat e)
    → IsStoredAfter (λ elements bytes. bytes ≡ concat elements) fill e before after slot → IsStoredAfter inner_written fill e before after slot
stored_plainly inner_written fill e before after slot written s = record {
  present = s.present;
  slice = s.slice;
  stored = stored_as inner_written fill e s.present s.slice written s.stored;
  appended = s.appended;
  placed = s.placed;
}

-- nothing is kept of what is all fill
pub taken_back : (fill : List ℕ) (e : Elements) (slices new : List ℕ) → IsAllFill fill e → new ≡ slices → IsStoredAfter (λ elements bytes. bytes ≡ concat elements) fill e slices new Absent
taken_back fill e slices new all is = record {
  present = false;
  slice = [];
  stored = (all, refl);
  appended = is ∙ sym (append-nil slices);
  placed = refl;
}

-- and of what isn't all
pub kept_after : (fill : List ℕ) (size from count : ℕ) (slices : List ℕ) → from ≤ length slices → IsWhole size (drop from slices) → count ≡ length slices - from
    → ¬ (IsAllFill fill (fixed_array size (drop from slices)).elements)
    → IsStoredAfter (λ elements bytes. bytes ≡ concat elements) fill (fixed_array size (drop from slices)).elements (take from slices) slices (InRange from count)
kept_after fill size from count slices within whole counted some = record {
  present = true;
  slice = drop from slices;
  stored = (some, sym (concat-fixed_array size (drop from slices) whole));
  appended = sym (take-append-drop from slices);
  placed = rw (length-take-le from slices within, length-drop from slices, counted) refl;
}

-- a part up to the end
pub tail_is : (from : ℕ) (xs : List ℕ) → take (length xs - from) (drop from xs) ≡ drop from xs
tail_is from xs = rw (← length-drop from xs) (take-length (drop from xs))

-- what stands before a place, and from it on
pub front_of : (from : ℕ) (old part all : List ℕ) → length old ≡ from → all ≡ old ++ part → take from all ≡ old
front_of from old part all long is = rw is (take_at old part from long)

pub part_of : (from : ℕ) (old part all : List ℕ) → length old ≡ from → all ≡ old ++ part → drop from all ≡ part
part_of from old part all long is = rw is (drop_at old part from long)

pub long_after : (from size : ℕ) (old part all over : List ℕ) → length old ≡ from → all ≡ old ++ part → length part ≡ size → length over ≡ length all → length (drop from over) ≡ size
long_after from size old part all over long is sized same = omega (arith, length-drop from over, same, ap length is, length-append old part, long, sized)
