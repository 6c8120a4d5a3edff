-- Slices of ranges, and the fetches in which they lie.
use Rattle.std.proofs.Common.{◌≡◌, ℕ, zero, suc, ◌+◌, ◌<◌, ◌≤◌, List, [], ◌∷◌, length, get_or, set, take, inl, inr, refl, ◌∙◌, subst, arith}
use Rattle.std.specs.List.{All, Contains}
use Rattle.std.proofs.lemmas.Bool.{cases_eq}
use Rattle.std.proofs.lemmas.List.{get_or-set_same, get_or-set_other}
use Rattle.std.proofs.lemmas.List.Elements.{Contains-push, Contains-append_left, Contains-append_right}
use Rattle.storage_handles.specs.declared.bytes.Interval.{Interval}
use Rattle.sharding_format.specs.declared.slot.Slot.{Slot}
use Rattle.sharding_format.specs.declared.slot.Slot.TheVariants.{Absent, InRange, Bad}
use Rattle.parts_errors.specs.Order.{done, RefusedBy}
use Rattle.parts_errors.specs.declared.error.CodecError.TheVariants.{BadIndexEntry}
use Rattle.sharding_format.specs.Compacting.{IsGood}
use Rattle.sharding_plans.specs.Fetches.{slice_of_slot, stored_slices}
use Rattle.sharding_c.specs.declared.layout.Range.{Range}
use Rattle.sharding_c.specs.Fetching.{AreRangesWritten, SliceRefusals, range_of, slot_of_range, slots_of_ranges}

-- the slice of a slot is one of the stored ones
pub stored_slot : (slots : List Slot) (i : ℕ) (d : Slot) (offset size : ℕ) → i < length slots → get_or slots i d ≡ InRange offset size
    → Contains (stored_slices slots) (record { offset = offset; size = size })
stored_slot [] i d offset size lt is = absurd (omega (arith, lt))
stored_slot (slot ∷ slots) zero d offset size lt is =
    Contains-append_left (slice_of_slot slot) (stored_slices slots) (record { offset = offset; size = size })
    (rw is (Contains-push [] (record { offset = offset; size = size })))
stored_slot (slot ∷ slots) (suc i) d offset size lt is =
    Contains-append_right (slice_of_slot slot) (stored_slices slots) (record { offset = offset; size = size }) (stored_slot slots i d offset size (omega (arith, lt)) is)

-- the lowest range that ends past 2^64
abbrev none : Range
none = record { offset = 0; size = 0 }

slot_at_range : (ranges : List Range) (k : ℕ) → k < length ranges → get_or (slots_of_ranges ranges) k Absent ≡ slot_of_range (get_or ranges k none)
slot_at_range [] k lt = absurd (omega (arith, lt))
slot_at_range (range ∷ ranges) zero lt = refl
slot_at_range (range ∷ ranges) (suc k) lt = slot_at_range ranges k (omega (arith, lt))

slot_before : (ranges : List Range) (i k : ℕ) → k < i → i ≤ length ranges → get_or (slots_of_ranges (take i ranges)) k Absent ≡ get_or (slots_of_ranges ranges) k Absent
slot_before [] i k before le = absurd (omega (arith, before, le))
slot_before (range ∷ ranges) zero k before le = absurd (omega (arith, before))
slot_before (range ∷ ranges) (suc i) zero before le = refl
slot_before (range ∷ ranges) (suc i) (suc k) before le = slot_before ranges i k (omega (arith, before)) (omega (arith, le))

long_before : (ranges : List Range) (i : ℕ) → i ≤ length ranges → length (slots_of_ranges (take i ranges)) ≡ i
long_before [] zero le = refl
long_before [] (suc i) le = absurd (omega (arith, le))
long_before (range ∷ ranges) zero le = refl
long_before (range ∷ ranges) (suc i) le = omega (arith, long_before ranges i (omega (arith, le)))

pub bad_range : (ranges : List Range) (i : ℕ) (slots : List Slot) → slots ≡ slots_of_ranges (take i ranges) → All IsGood slots → i < length ranges
    → slot_of_range (get_or ranges i none) ≡ Bad → RefusedBy (SliceRefusals ranges done) (BadIndexEntry i)
bad_range ranges i slots are good lt bad =
    inr (inl (
      i,
      (
        lt,
        (λ j before. subst IsGood (slot_before ranges i j before (omega (arith, lt)))
            ((rw are at good) j Absent (omega (arith, before, long_before ranges i (omega (arith, lt)))))),
        (λ h. subst IsGood (slot_at_range ranges i lt ∙ bad) h),
        refl,
      ),
    ))

-- one range more
pub range_written : (fetches : List Interval) (old room : List Range) (i : ℕ) (range : Range) → i < length room → i < length fetches
    → ((e : Interval) → range ≡ range_of (get_or fetches i e)) → AreRangesWritten fetches old room i → AreRangesWritten fetches old (set room i range) (i + 1)
range_written fetches old room i range lt below is known = record {
  ranges = λ k d e upto. elim (cases_eq k i) [
    | inl same ↦ rw same (get_or-set_same room i range d lt ∙ is e)
    | inr other ↦ get_or-set_other room i k range d other ∙ known.ranges k d e (omega (arith, upto, other))
  ];
  others = λ k d from. get_or-set_other room i k range d (λ same. omega (arith, same, from)) ∙ known.others k d (omega (arith, from));
}
