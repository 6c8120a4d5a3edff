-- The entries of the touched subchunks of a write.
use Rattle.std.proofs.Common.{◌≡◌, ◌≢◌, ℕ, zero, suc, ◌+◌, ◌*◌, ◌/◌, ◌^◌, ◌<◌, ◌≤◌, ◌⊎◌, List, length, get_or, inl, inr, refl, sym, ap, ◌∙◌, subst, arith}
use Rattle.std.specs.List.{All}
use Rattle.std.proofs.lemmas.Bool.{cases_eq}
use Rattle.std.proofs.lemmas.List.{get_or_default}
use borrow.Author.Count.{below_more}
use Rattle.sharding_format.specs.Index.{slot_at, data_start}
use Rattle.sharding_format.specs.Encoding.{slot_size}
use Rattle.sharding_format.specs.Laying.{offset_number, size_number}
use Rattle.sharding_format.specs.Compacting.{present_size}
use Rattle.sharding_format.specs.Packing.{moved_slot}
use Rattle.sharding_format.proofs.LayingLemmas.{sum_more, sum_same, sum_grows_to}
use Rattle.parts_errors.specs.Order.{◌or◌then◌, Each, done, RefusedBy}
use Rattle.parts_errors.specs.declared.error.CodecError.{CodecError}
use Rattle.parts_errors.specs.declared.error.CodecError.TheVariants.{TooLarge, BadIndexEntry}
use Rattle.sharding_format.specs.Compacting.{IsGood}
use Rattle.sharding_format.specs.declared.location.ShardingIndexLocation.{ShardingIndexLocation}
use Rattle.sharding_format.specs.declared.location.ShardingIndexLocation.TheVariants.{Start, End}
use Rattle.sharding_layout.specs.Offsets.{offset_after, length_after, index_after}
use Rattle.sharding_plans.specs.declared.packed.IndexPlace.{IndexPlace}
use Rattle.sharding_plans.specs.declared.write_plan.Outcome.TheVariants.{Anew, Append}
use Rattle.sharding_plans.specs.declared.write_plan.WritePlan.{WritePlan}
use Rattle.sharding_plans.proofs.PackLemmas.{sizes_refused}
use Rattle.parts_row_major.specs.Numbering.{count_of}
use Rattle.parts_row_major.specs.Subsets.{Subset}
use Rattle.parts_subsets.specs.Grid.{grid_of}
use Rattle.parts_subsets.specs.Touched.{AreTouched}
use Rattle.sharding_index.specs.DataPart.{IsInDataPart}
use Rattle.sharding_plans.specs.ReadPlans.{HasEntries, IsWithin}
use Rattle.sharding_plans.specs.PackedShards.{slots_of_sizes}
use Rattle.sharding_plans.specs.WritePlans.{AreAbsent, AreOthersAbsent, total_of, HasNewEntries, AreCleared, HasRoom, HasLength, WriteRefusals, IsOutcome, IsWritePlan}

-- one touched subchunk more
module _ (touched sizes old numbers new : List ℕ) (write_offset j : ℕ) (rising : (i k : ℕ) → i < k → k < length touched → get_or touched i 0 < get_or touched k 0)
    (lt : j < length touched) (known : HasNewEntries touched sizes write_offset old numbers j)
    (offset : get_or new (2 * get_or touched j 0) 0 ≡ offset_number write_offset (moved_slot (slots_of_sizes sizes j) (present_size (slots_of_sizes sizes) j)))
    (size : get_or new (2 * get_or touched j 0 + 1) 0 ≡ size_number (slots_of_sizes sizes j))
    (others : (i : ℕ) → get_or touched j 0 ≢ i / 2 → get_or new i 0 ≡ get_or numbers i 0) (counted : length new ≡ length numbers) where
  earlier : (i : ℕ) → i < j → get_or touched j 0 ≢ get_or touched i 0
  earlier i before same = omega (arith, rising i j before lt, same)

  pub entries_more : HasNewEntries touched sizes write_offset old new (j + 1)
  entries_more = record {
    counted = counted ∙ known.counted;
    offsets = below_more (λ i. get_or new (2 * get_or touched i 0) 0 ≡ offset_number write_offset (moved_slot (slots_of_sizes sizes i) (present_size (slots_of_sizes sizes) i))) j
        (λ i before. others (2 * get_or touched i 0) (λ same. earlier i before (omega (arith, same))) ∙ known.offsets i before) offset;
    sizes_are = below_more (λ i. get_or new (2 * get_or touched i 0 + 1) 0 ≡ size_number (slots_of_sizes sizes i)) j
        (λ i before. others (2 * get_or touched i 0 + 1) (λ same. earlier i before (omega (arith, same))) ∙ known.sizes_are i before) size;
    others = λ i is. others i (is j lt) ∙ known.others i is;
  }

-- the bytes of the slices so far, and of the next
pub total_more : (sizes : List ℕ) (j : ℕ) → present_size (slots_of_sizes sizes) (j + 1) ≡ present_size (slots_of_sizes sizes) j + slot_size (slots_of_sizes sizes j)
total_more sizes j = sum_more (λ k. slot_size (slots_of_sizes sizes k)) j

pub total_upto : (sizes : List ℕ) (j : ℕ) → j ≤ length sizes → present_size (slots_of_sizes sizes) j ≤ total_of sizes
total_upto sizes j le = sum_grows_to (λ k. slot_size (slots_of_sizes sizes k)) j (length sizes) le

pub no_new_entries : (touched sizes old : List ℕ) (write_offset : ℕ) → HasNewEntries touched sizes write_offset old old 0
no_new_entries touched sizes old write_offset = record {
  counted = refl;
  offsets = λ j below. absurd (omega (arith, below));
  sizes_are = λ j below. absurd (omega (arith, below));
  others = λ i is. refl;
}

-- some touched subchunk is this one, or none is
find : (touched : List ℕ) (k n : ℕ) → n ≤ length touched → ((j : ℕ) × (j < n) × (get_or touched j 0 ≡ k)) ⊎ ((j : ℕ) → j < n → get_or touched j 0 ≢ k)
find touched k zero le = inr (λ j below. absurd (omega (arith, below)))
find touched k (suc n) le = elim (find touched k n (omega (arith, le))) [
  | inl found ↦ inl (found.0, omega (arith, found.1), found.2)
  | inr none ↦ elim (cases_eq (get_or touched n 0) k) [
    | inl same ↦ inl (n, omega arith, same)
    | inr other ↦ inr (λ j below. elim (cases_eq j n) [
      | inl e ↦ rw e other
      | inr before ↦ none j (omega (arith, below, before))
    ])
  ]
]

-- without the touched entries none is left exactly where all numbers are absent once these are cleared
pub others_absent : (touched old new : List ℕ) → AreCleared touched old new (length touched) → AreAbsent new → AreOthersAbsent touched old
others_absent touched old new are all i below other = sym (are.others i other) ∙ all i 0 (omega (arith, below, are.counted))

pub all_absent : (touched old new : List ℕ) → AreCleared touched old new (length touched) → AreOthersAbsent touched old → AreAbsent new
all_absent touched old new are others i d below =
    rw (get_or_default new i d 0 below) (elim (find touched (i / 2) (length touched) (omega arith)) [
      | inl found ↦ are.absent i found.0 found.1 found.2
      | inr none ↦ are.others i none ∙ others i (omega (arith, below, are.counted)) none
    ])

-- the entries that were not touched are still those of the index before it was cleared
pub entries_over : (touched sizes old cleared new : List ℕ) (write_offset n : ℕ) → AreCleared touched old cleared (length touched)
    → HasNewEntries touched sizes write_offset cleared new n → HasNewEntries touched sizes write_offset old new n
entries_over touched sizes old cleared new write_offset n are known = record {
  counted = known.counted ∙ are.counted;
  offsets = known.offsets;
  sizes_are = known.sizes_are;
  others = λ i is. known.others i is ∙ are.others i is;
}

-- where all new slices are absent, so are the entries
pub entries_cleared : (touched sizes old cleared : List ℕ) → length sizes ≡ length touched → All (λ k. 2 * k + 1 < length old) touched
    → AreCleared touched old cleared (length touched) → AreAbsent sizes → HasNewEntries touched sizes 0 old cleared (length touched)
entries_cleared touched sizes old cleared same below are none = record {
  counted = are.counted;
  offsets = λ j lt. rw (none j 0 (omega (arith, lt, same))) (are.absent (2 * get_or touched j 0) j lt (omega arith));
  sizes_are = λ j lt. rw (none j 0 (omega (arith, lt, same))) (are.absent (2 * get_or touched j 0 + 1) j lt (omega arith));
  others = are.others;
}

-- the bytes of all slices, by an index of their sizes
module _ (len : ℕ) (sizes numbers : List ℕ) (counted : length numbers ≡ 2 * length sizes) (same : (k : ℕ) → k < length sizes → slot_at len numbers k ≡ slots_of_sizes sizes k) where
  many : length numbers / 2 ≡ length sizes
  many = omega (arith, counted)

  pub total_is : present_size (slot_at len numbers) (length numbers / 2) ≡ total_of sizes
  total_is =
      sum_same (λ j. slot_size (slot_at len numbers j)) (λ j. slot_size (slots_of_sizes sizes j)) (length numbers / 2)
      (λ j lt. ap slot_size (same j (omega (arith, lt, counted))))
      ∙ ap (present_size (slots_of_sizes sizes)) many

  pub total_refused : (e : CodecError)
      → RefusedBy (Each (length numbers / 2) (λ k. IsGood (slot_at len numbers k)) (λ k. BadIndexEntry k)
      (0 + present_size (slot_at len numbers) (length numbers / 2) + 1 < 2 ^ 64 or TooLarge then done)) e
      → RefusedBy (total_of sizes + 1 < 2 ^ 64 or TooLarge then done) e
  total_refused e h =
      elim (sizes_refused (record { location = End; size = 0 }) (length numbers / 2) (slot_at len numbers) sizes e (λ k lt. same k (omega (arith, lt, counted))) h) [
        | inl memory ↦ inl memory
        | inr refused ↦ elim refused [
          | inl large ↦ inr (inl ((λ small. large.0 (omega (arith, small, ap (present_size (slots_of_sizes sizes)) many))), large.1))
          | inr later ↦ absurd later.1
        ]
      ]

-- what becomes of an object, by the tests of its index without the touched entries
module _ (place : IndexPlace) (len : ℕ) (numbers cleared touched sizes : List ℕ) (are : AreCleared touched numbers cleared (length touched)) where
  pub some_room : HasRoom place len numbers → ¬ (AreAbsent cleared) → place.size ≤ len
  some_room room some = elim room [
    | inl enough ↦ enough
    | inr none ↦ absurd (some (all_absent touched numbers cleared are (λ i below other. none.1 i 0 below)))
  ]

  pub some_others : ¬ (AreAbsent cleared) → ¬ (AreOthersAbsent touched numbers)
  some_others some others = some (all_absent touched numbers cleared are others)

  pub no_others : AreAbsent cleared → AreOthersAbsent touched numbers
  no_others none = others_absent touched numbers cleared are none

  pub appended : (plan : WritePlan) (total : ℕ) → total ≡ total_of sizes → ¬ (AreAbsent cleared) → plan.outcome ≡ Append
      → HasNewEntries touched sizes plan.write_offset cleared plan.numbers.items (length touched)
      → plan.write_offset ≡ offset_after place.location place.size len numbers (length numbers / 2)
      → plan.index_offset ≡ index_after place.location plan.write_offset total → plan.len ≡ length_after place.location len plan.write_offset total
      → plan.len + 1 < 2 ^ 64 → IsWritePlan place len numbers touched sizes plan
  appended plan total is some outcome entries write_offset index_offset long small = record {
    entries = entries_over touched sizes numbers cleared plan.numbers.items plan.write_offset (length touched) are entries;
    outcome = subst (λ o. IsOutcome o place len touched numbers sizes plan) (sym outcome) (record {
      others = some_others some;
      write_offset = write_offset;
      index_offset = index_offset ∙ ap (index_after place.location plan.write_offset) is;
      long = long ∙ ap (length_after place.location len plan.write_offset) is;
    });
    small = small;
  }

  pub begun : (plan : WritePlan) (total : ℕ) → total ≡ total_of sizes → AreAbsent cleared → ¬ (AreAbsent sizes) → plan.outcome ≡ Anew
      → HasNewEntries touched sizes plan.write_offset cleared plan.numbers.items (length touched)
      → plan.write_offset ≡ data_start place.location place.size
      → plan.index_offset ≡ index_after place.location plan.write_offset total → plan.len ≡ place.size + total
      → plan.len + 1 < 2 ^ 64 → IsWritePlan place len numbers touched sizes plan
  begun plan total is none some outcome entries write_offset index_offset long small = record {
    entries = entries_over touched sizes numbers cleared plan.numbers.items plan.write_offset (length touched) are entries;
    outcome = subst (λ o. IsOutcome o place len touched numbers sizes plan) (sym outcome) (record {
      others = no_others none;
      some = some;
      write_offset = write_offset;
      index_offset = index_offset ∙ ap (index_after place.location plan.write_offset) is;
      len = long ∙ ap (λ m. place.size + m) is;
    });
    small = small;
  }

  pub no_length_after : (total : ℕ) → ¬ (AreAbsent cleared)
      → ¬ (length_after place.location len (offset_after place.location place.size len numbers (length numbers / 2)) total + 1 < 2 ^ 64)
      → ¬ (HasLength place len touched numbers total)
  no_length_after total some large has = elim has [ inl anew ↦ some_others some anew.0 | inr after ↦ large after.1 ]

  pub no_length_anew : (total : ℕ) → AreAbsent cleared → ¬ (place.size + total + 1 < 2 ^ 64) → ¬ (HasLength place len touched numbers total)
  no_length_anew total none large has = elim has [ inl anew ↦ large anew.1 | inr after ↦ after.0 (no_others none) ]

total_within : (location : ShardingIndexLocation) (len write_offset total : ℕ) → total ≤ length_after location len write_offset total
total_within Start len write_offset total = omega arith
total_within End len write_offset total = omega arith

-- slices whose bytes no number counts give no length
pub no_length_of : (place : IndexPlace) (len total : ℕ) (touched numbers : List ℕ) → ¬ (total + 1 < 2 ^ 64) → ¬ (HasLength place len touched numbers total)
no_length_of place len total touched numbers large has =
    elim has [
      | inl anew ↦ large (omega (arith, anew.1))
      | inr after ↦ large (omega (arith, after.1, total_within place.location len (offset_after place.location place.size len numbers (length numbers / 2)) total))
    ]

-- the last test of a write
pub too_large : (shape sub : List ℕ) (place : IndexPlace) (len : ℕ) (numbers : List ℕ) (subset : Subset) (sizes touched : List ℕ) (total : ℕ) (e : CodecError)
    → HasEntries shape sub numbers → HasRoom place len numbers
    → ((k : ℕ) → k < count_of (grid_of shape sub) → IsInDataPart place.location place.size len (slot_at len numbers k)) → IsWithin shape subset
    → AreTouched shape sub subset touched → length sizes ≡ length touched → total ≡ total_of sizes
    → (e ≡ TooLarge) × ¬ (HasLength place len touched numbers total) → RefusedBy (WriteRefusals shape sub place len numbers subset sizes) e
too_large shape sub place len numbers subset sizes touched total e entries room inside within are counted is h =
    let large : ¬ (HasLength place len touched numbers (total_of sizes)) = subst (λ n. ¬ (HasLength place len touched numbers n)) is h.1 in
    inr (inr (entries, inr (room, inr (inside, inr (within.same_axes, inr (within.inside, (touched, are, inr (counted, inl (large, h.0)))))))))
