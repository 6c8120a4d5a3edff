-- When a shard starts anew: by the numbers of its index without the touched entries.
use Rattle.std.proofs.Common.{◌≡◌, ◌≢◌, ℕ, zero, suc, ◌+◌, ◌*◌, ◌/◌, ◌%◌, ◌<◌, ◌⊎◌, inl, inr, Bool, true, false, ◌&&◌, ◌||◌, ◌==◌, nat_le, if◌then◌else◌, List, [], ◌∷◌, length, get_or, refl, sym, ap, ◌∙◌, subst, arith, eqb-true}
use Rattle.std.proofs.lemmas.Nat.{mod_below, div-add-mod'}
use Rattle.std.proofs.lemmas.Bool.{cases_lt, cases_eq}
use Rattle.std.proofs.lemmas.List.Elements.{All-get_or, All-from_get_or}
use Rattle.parts_row_major.specs.Numbering.{count_of}
use Rattle.parts_row_major.specs.Subsets.{Subset}
use Rattle.parts_subsets.specs.Grid.{grid_of}
use Rattle.parts_subsets.specs.Touched.{Touches, AreTouched}
use Rattle.sharding_format.specs.Index.{absent_number, slot_at}
use Rattle.sharding_format.specs.declared.slot.Slot.TheVariants.{Absent, InRange, Bad}
use Rattle.sharding_write.specs.Writing.{AreAbsent, IsAnew, HasEntries}
use Rattle.sharding_write.proofs.WrittenLemmas.{absent_slot}

-- both numbers of an entry are the absent one
abbrev IsEntryAbsent : List ℕ → ℕ → Type 0
IsEntryAbsent numbers k = (get_or numbers (2 * k) 0 ≡ absent_number) × (get_or numbers (2 * k + 1) 0 ≡ absent_number)

pub entry_absent : (numbers : List ℕ) (n k : ℕ) → length numbers ≡ 2 * n → AreAbsent numbers → k < n → IsEntryAbsent numbers k
entry_absent numbers n k counted absent below =
    (All-get_or (λ x. x ≡ absent_number) numbers (2 * k) 0 (omega arith) absent, All-get_or (λ x. x ≡ absent_number) numbers (2 * k + 1) 0 (omega arith) absent)

pub all_absent : (numbers : List ℕ) (n : ℕ) → length numbers ≡ 2 * n → ((k : ℕ) → k < n → IsEntryAbsent numbers k) → AreAbsent numbers
all_absent numbers n counted each = All-from_get_or (λ x. x ≡ absent_number) numbers 0 (λ i lt.
    let whole = div-add-mod' i 2 in
    let rest = mod_below i 2 (omega arith) in
    let below : i / 2 < n = omega (arith, lt, counted, whole) in
    elim (cases_lt (i % 2) 1) [
      | inl even ↦ let is : 2 * (i / 2) ≡ i = omega (arith, whole, even) in ap (λ j. get_or numbers j 0) (sym is) ∙ (each (i / 2) below).0
      | inr odd ↦ let is : 2 * (i / 2) + 1 ≡ i = omega (arith, whole, odd, rest) in ap (λ j. get_or numbers j 0) (sym is) ∙ (each (i / 2) below).1
    ])

in_neither : (x : ℕ) (xs : List ℕ) (k : ℕ) → x ≢ k → ((i : ℕ) → i < length xs → get_or xs i 0 ≢ k) → (i : ℕ) → i < length (x ∷ xs) → get_or (x ∷ xs) i 0 ≢ k
in_neither x xs k first rest zero lt = first
in_neither x xs k first rest (suc i) lt = rest i (omega arith)

-- a number stands in a list, or at none of its places
pub in_list : (xs : List ℕ) (k : ℕ) → ((i : ℕ) × (i < length xs) × (get_or xs i 0 ≡ k)) ⊎ ((i : ℕ) → i < length xs → get_or xs i 0 ≢ k)
in_list [] k = inr (λ i lt. absurd (omega (arith, lt)))
in_list (x ∷ xs) k = elim (cases_eq x k) [
  | inl same ↦ inl (0, omega arith, same)
  | inr other ↦ elim (in_list xs k) [
    | inl found ↦ inl (suc found.0, omega (arith, found.1), found.2)
    | inr none ↦ inr (in_neither x xs k other none)
  ]
]

-- where no entry is left, none is left without some
pub cleared_absent : (touched numbers cleared : List ℕ) (n : ℕ) → length numbers ≡ 2 * n → HasEntries touched (λ i. Absent) 0 numbers cleared (length touched)
    → AreAbsent numbers → AreAbsent cleared
cleared_absent touched numbers cleared n counted clear absent =
    all_absent cleared n (clear.counted ∙ counted) (λ k k_below. elim (in_list touched k) [
      | inl found ↦ subst (IsEntryAbsent cleared) found.2 (clear.offsets found.0 found.1, clear.sizes found.0 found.1)
      | inr other ↦
          let entry = entry_absent numbers n k counted absent k_below in
          (clear.other_offsets k other ∙ entry.0, clear.other_sizes k other ∙ entry.1)
    ])

-- a slot that is absent has an entry that is
entry_of_slot : (t u v : Bool) (offset size : ℕ) → (if t then Absent else (if u then Bad else (if v then InRange offset size else Bad))) ≡ Absent → t ≡ true
entry_of_slot true u v offset size h = refl
entry_of_slot false true v offset size h = cc
entry_of_slot false false true offset size h = cc
entry_of_slot false false false offset size h = cc

both_true : (a b : Bool) → (a && b) ≡ true → (a ≡ true) × (b ≡ true)
both_true true true h = (refl, refl)
both_true true false h = cc
both_true false b h = cc

pub absent_entry : (len : ℕ) (numbers : List ℕ) (k : ℕ) → slot_at len numbers k ≡ Absent → IsEntryAbsent numbers k
unfolding slot_at
absent_entry len numbers k h =
    let offset = get_or numbers (2 * k) 0 in
    let size = get_or numbers (2 * k + 1) 0 in
    let both = both_true (offset == absent_number) (size == absent_number)
    (entry_of_slot ((offset == absent_number) && (size == absent_number)) ((offset == absent_number) || (size == absent_number)) (nat_le (offset + size) len) offset size h) in
    (eqb-true offset absent_number both.0, eqb-true size absent_number both.1)

module _ (shape sub : List ℕ) (subset : Subset) (touched numbers cleared : List ℕ) (len : ℕ) (are : AreTouched shape sub subset touched)
    (counted : length numbers ≡ 2 * count_of (grid_of shape sub)) (clear : HasEntries touched (λ i. Absent) 0 numbers cleared (length touched)) where
  apart : (k : ℕ) → ¬ (Touches shape sub subset k) → (i : ℕ) → i < length touched → get_or touched i 0 ≢ k
  apart k off i lt is = off (subst (λ m. Touches shape sub subset m) is (are.touched i lt))

  -- where no entry is left without the touched ones, the shard starts anew
  pub anew_of_absent : AreAbsent cleared → IsAnew shape sub subset len numbers
  anew_of_absent absent k below off =
      let here = entry_absent cleared (count_of (grid_of shape sub)) k (clear.counted ∙ counted) absent below in
      absent_slot len numbers k (sym (clear.other_offsets k (apart k off)) ∙ here.0) (sym (clear.other_sizes k (apart k off)) ∙ here.1)

  -- and only there
  pub absent_of_anew : IsAnew shape sub subset len numbers → AreAbsent cleared
  absent_of_anew anew =
      all_absent cleared (count_of (grid_of shape sub)) (clear.counted ∙ counted) (λ k below. elim (in_list touched k) [
        | inl found ↦ subst (IsEntryAbsent cleared) found.2 (clear.offsets found.0 found.1, clear.sizes found.0 found.1)
        | inr none ↦
            let off : ¬ (Touches shape sub subset k) = λ touches. let found = are.all k touches in none found.0 found.1 found.2 in
            let here = absent_entry len numbers k (anew k below off) in
            (clear.other_offsets k (apart k off) ∙ here.0, clear.other_sizes k (apart k off) ∙ here.1)
      ])
