-- Slices laid out behind bytes that are there.
use Rattle.std.proofs.Common.{◌≡◌, ℕ, ◌+◌, ◌-◌, ◌<◌, ◌≤◌, Bool, List, [], ◌++◌, length, get_or, set, replicate, take, drop, sym, ap, ◌∙◌, arith, IsPermutation, length-drop, length-take}
use Rattle.std.specs.List.{range_with_len}
use Rattle.std.proofs.lemmas.List.{length-replicate, take_all, drop_all, take-take, take-append-le, drop-append-le}
use Rattle.parts_subsets.specs.Grid.{subchunk}
use Rattle.sharding_format.specs.Encoding.{IsStored}
use Rattle.sharding_format.specs.Laying.{placed_slot, IsStoredInOrder}
use Rattle.sharding_format.specs.declared.slot.Slot.{Slot}
use Rattle.sharding_format.specs.declared.slot.Slot.TheVariants.{Absent}
use Rattle.sharding_format.specs.WriteOrderLaws.{order_counted}
use Rattle.sharding_format.proofs.LayingLemmas.{one_more_stored, none_stored_yet}

-- bytes stay where they are
pub stay_themselves : (old : List ℕ) → take (length old) old ≡ old
stay_themselves old = take_all (length old) old (omega arith)

-- and nothing stands after them yet
pub nothing_after : (old : List ℕ) → drop (length old) old ≡ []
nothing_after old = drop_all (length old) old (omega arith)

pub old_within : (old bytes : List ℕ) → take (length old) bytes ≡ old → length old ≤ length bytes
old_within old bytes stay = omega (arith, ap length stay, length-take (length old) bytes)

-- what stays, stays where all that stands there does
pub stay_through : (old bytes all : List ℕ) → take (length old) bytes ≡ old → take (length bytes) all ≡ bytes → take (length old) all ≡ old
stay_through old bytes all stay more =
    sym (take-take (length old) (length bytes) all (old_within old bytes stay)) ∙ ap (take (length old)) more ∙ stay

-- more bytes after them
pub stay_before : (old bytes more all : List ℕ) → take (length old) bytes ≡ old → all ≡ bytes ++ more → take (length old) all ≡ old
stay_before old bytes more all stay is =
    ap (take (length old)) is ∙ take-append-le (length old) bytes more (old_within old bytes stay) ∙ stay

pub more_after : (old bytes more all : List ℕ) → take (length old) bytes ≡ old → all ≡ bytes ++ more → drop (length old) all ≡ drop (length old) bytes ++ more
more_after old bytes more all stay is =
    ap (drop (length old)) is ∙ drop-append-le (length old) bytes more (old_within old bytes stay)

-- one subchunk more is laid out behind them
pub one_more_after : (inner_written : List (List ℕ) → List ℕ → Type 0) (fill shape sub : List ℕ) (a : List (List ℕ)) (old bytes more all : List ℕ) (slots grown : List Slot) (order : List ℕ) (n i k : ℕ) (present : Bool)
    → IsPermutation (range_with_len 0 n) order → i < n → get_or order i 0 ≡ k
    → take (length old) bytes ≡ old
    → IsStoredInOrder inner_written fill shape sub a (drop (length old) bytes) slots order i
    → IsStored inner_written fill (subchunk shape sub a k) present more
    → all ≡ bytes ++ more → grown ≡ set slots k (placed_slot present (length bytes - length old) (length more))
    → IsStoredInOrder inner_written fill shape sub a (drop (length old) all) grown order (i + 1)
one_more_after inner_written fill shape sub a old bytes more all slots grown order n i k present permutes below number stay stored_slices stored is put =
    one_more_stored inner_written fill shape sub a (drop (length old) bytes) more (drop (length old) all) slots grown order n i k present permutes below number
    stored_slices stored (more_after old bytes more all stay is) (rw (length-drop (length old) bytes) put)

-- nothing is laid out behind them yet
pub none_after : (inner_written : List (List ℕ) → List ℕ → Type 0) (fill shape sub : List ℕ) (a : List (List ℕ)) (old : List ℕ) (slots : List Slot) (order : List ℕ) (n : ℕ)
    → IsPermutation (range_with_len 0 n) order → slots ≡ replicate n Absent
    → IsStoredInOrder inner_written fill shape sub a (drop (length old) old) slots order 0
none_after inner_written fill shape sub a old slots order n permutes is =
    none_stored_yet inner_written fill shape sub a (drop (length old) old) slots order (ap length is ∙ length-replicate n Absent ∙ sym (order_counted n order permutes)) (nothing_after old)
