-- Where new slices go.
use Rattle.std.proofs.Common.{◌≡◌, ◌∙◌, ℕ, zero, suc, ◌+◌, ◌*◌, ◌≤◌, Bool, true, false, ◌&&◌, ◌||◌, ◌==◌, nat_le, if◌then◌else◌, List, [], ◌∷◌, map, fold, max, get_or, inl, inr, refl, sym, ap, subst, arith}
use Rattle.std.specs.List.{range_with_len}
use Rattle.std.proofs.lemmas.List.FromFn.{map-range_with_len_more}
use Rattle.std.proofs.lemmas.Bool.{false≢true}
use Rattle.std.proofs.lemmas.Bool.Decides.{leb_tells}
use Rattle.std.proofs.lemmas.Grind.{fold-append}
use Rattle.sharding_format.specs.Index.{absent_number, slot_at}
use Rattle.sharding_format.specs.declared.slot.Slot.TheVariants.{Absent, InRange, Bad}
use Rattle.sharding_layout.specs.Offsets.{slot_end, last_end}

-- the greatest end with one slice more
pub last_end_more : (least len : ℕ) (numbers : List ℕ) (k : ℕ) → last_end least len numbers (k + 1) ≡ max (last_end least len numbers k) (slot_end (slot_at len numbers k))
last_end_more least len numbers k =
    let f : ℕ → ℕ = λ j. slot_end (slot_at len numbers j) in
    ap (fold max least) (map-range_with_len_more f 0 k k (omega arith)) ∙ fold-append max least (map f (range_with_len 0 k)) (f k ∷ [])

pub last_more : (least len : ℕ) (numbers : List ℕ) (k last end newer : ℕ) → last ≡ last_end least len numbers k → end ≡ slot_end (slot_at len numbers k) → newer ≡ max last end
    → newer ≡ last_end least len numbers (k + 1)
last_more least len numbers k last end newer so is more = rw (more, so, is) (sym (last_end_more least len numbers k))

-- a slice ends within the shard
slot_end_within : (t u v : Bool) (offset size len : ℕ) → (v ≡ true → offset + size ≤ len)
    → slot_end (if t then Absent else (if u then Bad else (if v then InRange offset size else Bad))) ≤ len
slot_end_within true u v offset size len h = omega arith
slot_end_within false true v offset size len h = omega arith
slot_end_within false false true offset size len h = h refl
slot_end_within false false false offset size len h = omega arith

pub slot_end_le : (len : ℕ) (numbers : List ℕ) (k : ℕ) → slot_end (slot_at len numbers k) ≤ len
unfolding slot_at
slot_end_le len numbers k =
    let offset = get_or numbers (2 * k) 0 in
    let size = get_or numbers (2 * k + 1) 0 in
    slot_end_within ((offset == absent_number) && (size == absent_number)) ((offset == absent_number) || (size == absent_number)) (nat_le (offset + size) len) offset size len (λ is.
    elim (leb_tells (offset + size) len) [ inl below ↦ below.1 | inr above ↦ absurd (false≢true (sym above.0 ∙ is)) ])

-- so the greatest end lies between
pub last_end_least : (least len : ℕ) (numbers : List ℕ) (k : ℕ) → least ≤ last_end least len numbers k
last_end_least least len numbers zero = omega arith
last_end_least least len numbers (suc k) =
    let step : k + 1 ≡ suc k = omega arith in
    subst (λ n. least ≤ last_end least len numbers n) step (omega (arith, last_end_more least len numbers k, last_end_least least len numbers k))

pub last_end_most : (least len : ℕ) (numbers : List ℕ) (k : ℕ) → least ≤ len → last_end least len numbers k ≤ len
last_end_most least len numbers zero le = le
last_end_most least len numbers (suc k) le =
    let step : k + 1 ≡ suc k = omega arith in
    subst (λ n. last_end least len numbers n ≤ len) step (omega (arith, last_end_more least len numbers k, last_end_most least len numbers k le, slot_end_le len numbers k))
