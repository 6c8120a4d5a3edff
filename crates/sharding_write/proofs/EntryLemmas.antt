-- The numbers of an index with new entries.
use Rattle.std.proofs.Common.{◌≡◌, ◌≢◌, ℕ, ◌+◌, ◌*◌, ◌<◌, List, length, get_or, set, refl, sym, ap, ◌∙◌, arith, get_or-set_other, get_or-set_same}
use Rattle.std.proofs.lemmas.List.{length-set}
use borrow.Author.Count.{below_more}
use Rattle.sharding_format.specs.Laying.{offset_number, size_number}
use Rattle.sharding_format.specs.declared.slot.Slot.{Slot}
use Rattle.sharding_write.specs.Writing.{HasEntries}

pub no_entries : (touched : List ℕ) (slot : ℕ → Slot) (start : ℕ) (old : List ℕ) → HasEntries touched slot start old old 0
no_entries touched slot start old = record {
  counted = refl;
  offsets = λ i lt. absurd (omega (arith, lt));
  sizes = λ i lt. absurd (omega (arith, lt));
  other_offsets = λ k other. refl;
  other_sizes = λ k other. refl;
}

-- two numbers of a list set
abbrev two_set : List ℕ → (k a b : ℕ) → List ℕ
two_set xs k a b = set (set xs (2 * k) a) (2 * k + 1) b

set_offset : (xs : List ℕ) (k a b : ℕ) → 2 * k + 1 < length xs → get_or (two_set xs k a b) (2 * k) 0 ≡ a
set_offset xs k a b lt =
    let ne : 2 * k ≢ 2 * k + 1 = omega arith in
    let fits : 2 * k < length xs = omega (arith, lt) in
    rw get_or-set_other (rw get_or-set_same refl)

set_size : (xs : List ℕ) (k a b : ℕ) → 2 * k + 1 < length xs → get_or (two_set xs k a b) (2 * k + 1) 0 ≡ b
set_size xs k a b lt =
    let fits : 2 * k + 1 < length (set xs (2 * k) a) = omega (arith, lt, length-set xs (2 * k) a) in
    rw get_or-set_same refl

set_other : (xs : List ℕ) (k a b i : ℕ) → i ≢ 2 * k → i ≢ 2 * k + 1 → get_or (two_set xs k a b) i 0 ≡ get_or xs i 0
set_other xs k a b i ne_a ne_b = rw get_or-set_other (rw get_or-set_other refl)

-- the entry of one more
pub one_more_entry : (touched : List ℕ) (slot : ℕ → Slot) (start : ℕ) (old new newer : List ℕ) (n a b : ℕ) → HasEntries touched slot start old new n
    → ((i j : ℕ) → i < j → j < length touched → get_or touched i 0 < get_or touched j 0) → n < length touched → 2 * get_or touched n 0 + 1 < length old
    → a ≡ offset_number start (slot n) → b ≡ size_number (slot n) → newer ≡ set (set new (2 * get_or touched n 0) a) (2 * get_or touched n 0 + 1) b
    → HasEntries touched slot start old newer (n + 1)
one_more_entry touched slot start old new newer n a b h rising below inside a_is b_is is =
    let k = get_or touched n 0 in
    let fits : 2 * k + 1 < length new = omega (arith, inside, h.counted) in
    let apart : (i : ℕ) → i < n → get_or touched i 0 ≢ k = λ i lt same. absurd (omega (arith, rising i n lt below, same)) in
    let last : (m : ℕ) → ((i : ℕ) → i < n + 1 → get_or touched i 0 ≢ m) → m ≢ k = λ m other same. other n (omega arith) (sym same) in
    record {
      counted = ap length is ∙ length-set (set new (2 * k) a) (2 * k + 1) b ∙ length-set new (2 * k) a ∙ h.counted;
      offsets = below_more (λ i. get_or newer (2 * get_or touched i 0) 0 ≡ offset_number start (slot i)) n
          (λ i lt. let ne = apart i lt in ap (λ xs. get_or xs (2 * get_or touched i 0) 0) is ∙ set_other new k a b (2 * get_or touched i 0) (omega arith) (omega arith) ∙ h.offsets i lt)
          (ap (λ xs. get_or xs (2 * k) 0) is ∙ set_offset new k a b fits ∙ a_is);
      sizes = below_more (λ i. get_or newer (2 * get_or touched i 0 + 1) 0 ≡ size_number (slot i)) n
          (λ i lt. let ne = apart i lt in ap (λ xs. get_or xs (2 * get_or touched i 0 + 1) 0) is ∙ set_other new k a b (2 * get_or touched i 0 + 1) (omega arith) (omega arith) ∙ h.sizes i lt)
          (ap (λ xs. get_or xs (2 * k + 1) 0) is ∙ set_size new k a b fits ∙ b_is);
      other_offsets = λ m other. let ne = last m other in
          ap (λ xs. get_or xs (2 * m) 0) is ∙ set_other new k a b (2 * m) (omega arith) (omega arith) ∙ h.other_offsets m (λ i lt. other i (omega (arith, lt)));
      other_sizes = λ m other. let ne = last m other in
          ap (λ xs. get_or xs (2 * m + 1) 0) is ∙ set_other new k a b (2 * m + 1) (omega arith) (omega arith) ∙ h.other_sizes m (λ i lt. other i (omega (arith, lt)));
    }
