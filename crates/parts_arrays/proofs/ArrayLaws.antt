-- Arrays by their elements.
use Rattle.std.proofs.Common.{◌≡◌, ℕ, zero, suc, ◌+◌, ◌-◌, ◌*◌, ◌/◌, ◌<◌, ◌≤◌, List, [], ◌∷◌, ◌++◌, length, get_or, take, drop, refl, ap, sym, ◌∙◌, arith, map, inl, inr, Option, Some, None, IfSome, set, ◌≢◌}
use Rattle.std.proofs.lemmas.List.FromFn.{length-map-range_with_len, get_or-map-range_with_len, sum_by-map-range_with_len_more}
use Rattle.std.proofs.lemmas.List.Sums.{sum_by-cons}
use Rattle.std.proofs.lemmas.List.{drop_all, take_all, get_or_past, length-take-le, length-drop, length-append, get_or-set_same, get_or-set_other}
use Rattle.std.proofs.lemmas.List.Elements.{All-map}
use Rattle.std.proofs.lemmas.Option.{same_Some}
use Rattle.std.proofs.lemmas.Bool.{cases_lt, cases_eq}
use Rattle.std.proofs.lemmas.Nat.{div-add-mod', row_fits, mul-le}
use Rattle.std.proofs.Math.Nat.{div-eq_of_eq-mul_left, mul-mod_left}
use Rattle.std.specs.List.{range_with_len, flat_map, All, concat, sum_by}
use Rattle.parts_row_major.specs.Numbering.{count_of}
use Rattle.parts_row_major.specs.Subsets.{Subset, LiesIn, number_in, numbers_in}
use Rattle.parts_row_major.specs.Pieces.{piece, pieces, IsUpdated}
use Rattle.parts_arrays.specs.Arrays.{Array, element_of, IsWhole, AreOffsets, fixed_array, variable_array, part, parts, extracted, IsOverlaid, SourcesAre, chosen, array_of, IsHeld}
use Rattle.parts_arrays.specs.Types.{FitsKind}
use Rattle.parts_arrays.specs.declared.array_bytes.Held.{Held}
use Rattle.parts_arrays.specs.declared.array_bytes.Held.TheVariants as held
use Rattle.parts_arrays.specs.declared.data_type.DataTypeSize.TheVariants.{Fixed}
use Rattle.parts_row_major.proofs.PieceLaws.{pieces_more, length-concat, piece_of-concat, pieces-concat, concat-pieces, All-pieces, gathered, map-map, map_range_same, number_in_below, updated_more}

pub length-fixed_array : (n : ℕ) (bytes : List ℕ) → length (fixed_array n bytes).elements ≡ length bytes / n
length-fixed_array n bytes = length-map-range_with_len (piece n bytes) 0 (length bytes / n)

pub length-variable_array : (offsets bytes : List ℕ) → length (variable_array offsets bytes).elements ≡ length offsets - 1
length-variable_array offsets bytes = length-map-range_with_len (part bytes offsets) 0 (length offsets - 1)

pub element_of-fixed_array : (n : ℕ) (bytes : List ℕ) (i : ℕ) → i < length bytes / n → element_of (fixed_array n bytes) i ≡ piece n bytes i
element_of-fixed_array n bytes i lt = get_or-map-range_with_len (piece n bytes) 0 (length bytes / n) i i [] lt (omega arith)

pub element_of-variable_array : (offsets bytes : List ℕ) (i : ℕ) → i < length offsets - 1 → element_of (variable_array offsets bytes) i ≡ part bytes offsets i
element_of-variable_array offsets bytes i lt = get_or-map-range_with_len (part bytes offsets) 0 (length offsets - 1) i i [] lt (omega arith)

pub whole_bytes : (n : ℕ) (bytes : List ℕ) → IsWhole n bytes → length bytes ≡ (length bytes / n) * n
whole_bytes n bytes h = omega (arith, h.1, div-add-mod' (length bytes) n)

pub piece_within : (n : ℕ) (bytes : List ℕ) (i : ℕ) → IsWhole n bytes → i < length bytes / n → i * n + n ≤ length bytes
piece_within n bytes i h lt = omega (arith, row_fits i n (length bytes / n) n lt (omega arith), whole_bytes n bytes h)

-- offsets never fall
pub rises_to : (offsets : List ℕ) (size i k : ℕ) → AreOffsets offsets size → i + k < length offsets → get_or offsets i 0 ≤ get_or offsets (i + k) 0
rises_to offsets size i zero h lt =
    let e : i + 0 ≡ i = omega arith in
    let same : get_or offsets (i + 0) 0 ≡ get_or offsets i 0 = ap (λ j. get_or offsets j 0) e in
    omega (arith, same)
rises_to offsets size i (suc k) h lt =
    let before = rises_to offsets size i k h (omega arith) in
    let step = h.rises (i + k) (omega arith) in
    let e : i + k + 1 ≡ i + suc k = omega arith in
    let last : get_or offsets (i + k + 1) 0 ≡ get_or offsets (i + suc k) 0 = ap (λ j. get_or offsets j 0) e in
    omega (arith, before, step, last)

-- an offset is at most the number of bytes
pub offset_within : (offsets : List ℕ) (size i : ℕ) → AreOffsets offsets size → i < length offsets → get_or offsets i 0 ≤ size
offset_within offsets size i h lt =
    let e : i + (length offsets - 1 - i) ≡ length offsets - 1 = omega arith in
    let rise = rw e at (rises_to offsets size i (length offsets - 1 - i) h (omega arith)) in
    omega (arith, rise, h.ends)

-- the element with a number is the piece at that place, also past the end
pub element_is_piece : (n : ℕ) (bytes : List ℕ) (i : ℕ) → IsWhole n bytes → element_of (fixed_array n bytes) i ≡ piece n bytes i
element_is_piece n bytes i h = elim (cases_lt i (length bytes / n)) [
  | inl below ↦ element_of-fixed_array n bytes i below
  | inr past ↦
      let whole = whole_bytes n bytes h in
      let far : length bytes ≤ i * n = omega (arith, whole, mul-le (length bytes / n) n i n past (omega arith)) in
      get_or_past (fixed_array n bytes).elements i [] (omega (arith, length-fixed_array n bytes))
      ∙ sym (ap (take n) (drop_all (i * n) bytes far) ∙ take_all n [] (omega arith))
]

pub length-piece : (n : ℕ) (bytes : List ℕ) (i : ℕ) → i * n + n ≤ length bytes → length (piece n bytes i) ≡ n
length-piece n bytes i h = length-take-le n (drop (i * n) bytes) (omega (arith, length-drop (i * n) bytes))

-- the array of the gathered pieces
pub record IsGathered (n : ℕ) (bytes part : List ℕ) (subset : Subset) (shape : List ℕ) : Type 0 where
  pub whole : IsWhole n part
  pub same : fixed_array n part ≡ extracted (fixed_array n bytes) subset shape

pub gathered_array : (n : ℕ) (bytes part : List ℕ) (subset : Subset) (shape : List ℕ) → IsWhole n bytes → length bytes / n ≡ count_of shape → LiesIn subset shape
    → part ≡ flat_map (piece n bytes) (numbers_in subset shape) → IsGathered n bytes part subset shape
gathered_array n bytes part subset shape whole all inside is =
    let many = count_of subset.shape in
    let number = number_in subset shape in
    let got = gathered n (piece n bytes) number many
    (λ k lt. length-piece n bytes (number k) (piece_within n bytes (number k) whole (omega (arith, number_in_below subset shape k inside lt)))) in
    let long : length part ≡ many * n = ap length is ∙ got.long in
    let count : length part / n ≡ many = div-eq_of_eq-mul_left whole.0 long in
    let elements : pieces n (length part / n) part ≡ map (element_of (fixed_array n bytes)) (numbers_in subset shape) =
    ap (λ m. pieces n m part) count ∙ (ap (pieces n many) is ∙ (got.are
    ∙ (map_range_same (λ k. piece n bytes (number k)) (λ k. element_of (fixed_array n bytes) (number k)) many [] (λ k lt. sym (element_is_piece n bytes (number k) whole))
    ∙ sym (map-map (element_of (fixed_array n bytes)) number (range_with_len 0 many))))) in
    record {
      whole = (whole.0, rw long (mul-mod_left many n));
      same = ap (λ es. record { kind = (fixed_array n bytes).kind; elements = es }) elements;
    }

-- pieces written over are elements written over
pub overlaid_array : (n : ℕ) (bytes update new : List ℕ) (subset : Subset) (shape : List ℕ) → IsWhole n bytes → IsWhole n update → length new ≡ length bytes
    → IsUpdated (count_of subset.shape) (number_in subset shape) (piece n bytes) (piece n update) (piece n new)
    → IsOverlaid subset shape (fixed_array n bytes) (fixed_array n update) (fixed_array n new)
overlaid_array n bytes update new subset shape whole whole_update long pieces_are =
    let whole_new : IsWhole n new = rw long whole in
    record {
      same_kind = refl;
      same_count = length-fixed_array n new ∙ (ap (λ m. m / n) long ∙ sym (length-fixed_array n bytes));
      elements = record {
        inside = λ k lt. element_is_piece n new (number_in subset shape k) whole_new ∙ (pieces_are.inside k lt ∙ sym (element_is_piece n update k whole_update));
        outside = λ i h. element_is_piece n new i whole_new ∙ (pieces_are.outside i h ∙ sym (element_is_piece n bytes i whole));
      };
    }

-- the array of the parts that are taken at the points of a subset
pub taken_array : (offsets bytes ends taken : List ℕ) (subset : Subset) (shape : List ℕ) (i : ℕ) → length offsets ≡ count_of shape + 1 → LiesIn subset shape → i ≡ count_of subset.shape
    → parts ends taken ≡ map (λ k. part bytes offsets (number_in subset shape k)) (range_with_len 0 i) → variable_array ends taken ≡ extracted (variable_array offsets bytes) subset shape
taken_array offsets bytes ends taken subset shape i all inside whole are =
    let many = count_of subset.shape in
    let number = number_in subset shape in
    let elements : parts ends taken ≡ map (element_of (variable_array offsets bytes)) (numbers_in subset shape) =
    are ∙ (ap (λ n. map (λ k. part bytes offsets (number k)) (range_with_len 0 n)) whole
    ∙ (map_range_same (λ k. part bytes offsets (number k)) (λ k. element_of (variable_array offsets bytes) (number k)) many []
    (λ k lt. sym (element_of-variable_array offsets bytes (number k) (omega (arith, all, number_in_below subset shape k inside lt))))
    ∙ sym (map-map (element_of (variable_array offsets bytes)) number (range_with_len 0 many)))) in
    ap (λ es. record { kind = (variable_array offsets bytes).kind; elements = es }) elements

-- one source more is set
pub source_more : (n at : ℕ) (position : ℕ → ℕ) (made : List (Option ℕ)) → at ≡ position n → at < length made → ((k : ℕ) → k < n → position k ≢ position n)
    → IsUpdated n position (λ i. None) (λ k. Some k) (λ i. get_or made i None) → IsUpdated (n + 1) position (λ i. None) (λ k. Some k) (λ i. get_or (set made at (Some n)) i None)
source_more n at position made e lt apart so_far =
    updated_more n position (λ i. None) (λ k. Some k) (λ i. get_or made i None) (λ i. get_or (set made at (Some n)) i None) so_far apart
    (rw (← e) (get_or-set_same made at (Some n) None lt))
    (λ i ne. get_or-set_other made at i (Some n) None (λ same. ne (same ∙ e)))

pub source_below : (n at : ℕ) (made : List (Option ℕ)) → at < length made → ((i k : ℕ) → get_or made i None ≡ Some k → k < n) → (i k : ℕ) → get_or (set made at (Some n)) i None ≡ Some k → k < n + 1
source_below n at made lt below i k is = elim (cases_eq i at) [
  | inl same ↦
      let here : get_or (set made at (Some n)) i None ≡ Some n = rw same (get_or-set_same made at (Some n) None lt) in
      let value = same_Some n k (sym here ∙ is) in
      omega (arith, value)
  | inr ne ↦ omega (arith, below i k (sym (get_or-set_other made at i (Some n) None ne) ∙ is))
]

-- what holds of each value that an answer can have holds of the one that it has
pub if_some_from_each : (o : Option ℕ) (P : ℕ → Type 0) → ((k : ℕ) → o ≡ Some k → P k) → IfSome o P
if_some_from_each None P h = tt
if_some_from_each (Some k) P h = h k refl

-- chosen parts are elements written over
pub chosen_array : (offsets bytes update_offsets update ends taken : List ℕ) (made : List (Option ℕ)) (subset : Subset) (shape : List ℕ) (count : ℕ)
    → length offsets ≡ count_of shape + 1 → length update_offsets ≡ count_of subset.shape + 1 → count ≡ count_of shape → LiesIn subset shape → SourcesAre subset shape made
    → parts ends taken ≡ map (λ i. chosen bytes offsets update update_offsets (get_or made i None) i) (range_with_len 0 count)
    → IsOverlaid subset shape (variable_array offsets bytes) (variable_array update_offsets update) (variable_array ends taken)
chosen_array offsets bytes update_offsets update ends taken made subset shape count all all_update whole inside sources are =
    let choose = λ (i : ℕ). chosen bytes offsets update update_offsets (get_or made i None) i in
    let long : length (parts ends taken) ≡ count = ap length are ∙ length-map-range_with_len choose 0 count in
    let at : (i : ℕ) → i < count → get_or (parts ends taken) i [] ≡ choose i = λ i lt.
    ap (λ es. get_or es i []) are ∙ get_or-map-range_with_len choose 0 count i i [] lt (omega arith) in
    record {
      same_kind = refl;
      same_count = long ∙ (omega (arith, length-variable_array offsets bytes));
      elements = record {
        inside = λ k lt.
            at (number_in subset shape k) (omega (arith, number_in_below subset shape k inside lt))
            ∙ (ap (λ o. chosen bytes offsets update update_offsets o (number_in subset shape k)) (sources.inside k lt)
            ∙ sym (element_of-variable_array update_offsets update k (omega arith)));
        outside = λ i none. elim (cases_lt i count) [
          | inl lt ↦
              at i lt
              ∙ (ap (λ o. chosen bytes offsets update update_offsets o i) (sources.outside i none)
              ∙ sym (element_of-variable_array offsets bytes i (omega arith)))
          | inr past ↦
              get_or_past (parts ends taken) i [] (omega arith)
              ∙ sym (get_or_past (variable_array offsets bytes).elements i [] (omega (arith, length-variable_array offsets bytes)))
        ];
      };
    }

-- an array of elements of one size, laid end to end, and what its pieces are
pub concat-fixed_array : (n : ℕ) (bytes : List ℕ) → IsWhole n bytes → concat (fixed_array n bytes).elements ≡ bytes
concat-fixed_array n bytes h = concat-pieces n (length bytes / n) bytes (whole_bytes n bytes h)

pub All-fixed_array : (n : ℕ) (bytes : List ℕ) → IsWhole n bytes → All (FitsKind (Fixed n)) (fixed_array n bytes).elements
All-fixed_array n bytes h = All-pieces n (length bytes / n) bytes (omega (arith, whole_bytes n bytes h))

-- bytes of so many elements of one size
pub whole_from_length : (n many : ℕ) (bytes : List ℕ) → 0 < n → length bytes ≡ many * n → IsWhole n bytes
whole_from_length n many bytes pos long = (pos, rw long (mul-mod_left many n))

pub whole-concat : (n : ℕ) (elements : List (List ℕ)) → 0 < n → All (λ e. length e ≡ n) elements → IsWhole n (concat elements)
whole-concat n elements pos h = whole_from_length n (length elements) (concat elements) pos (length-concat n elements h)

pub fixed_array-concat : (n : ℕ) (elements : List (List ℕ)) → 0 < n → All (λ e. length e ≡ n) elements → fixed_array n (concat elements) ≡ record { kind = Fixed n; elements = elements }
fixed_array-concat n elements pos h =
    let count : length (concat elements) / n ≡ length elements = div-eq_of_eq-mul_left pos (length-concat n elements h) in
    let same : pieces n (length (concat elements) / n) (concat elements) ≡ elements = ap (λ m. pieces n m (concat elements)) count ∙ pieces-concat n elements h in
    ap (λ es. record { kind = Fixed n; elements = es }) same

-- elements of one size, told one by one
flat_map-concat : {X : Type 0} (f : X → List ℕ) (xs : List X) → flat_map f xs ≡ concat (map f xs)
flat_map-concat f [] = refl
flat_map-concat f (x ∷ xs) = ap (λ rest. f x ++ rest) (flat_map-concat f xs)

pub whole-flat_map : {X : Type 0} (n : ℕ) (f : X → List ℕ) (xs : List X) → 0 < n → ((x : X) → length (f x) ≡ n) → IsWhole n (flat_map f xs)
whole-flat_map n f xs pos h = rw (flat_map-concat f xs) (whole-concat n (map f xs) pos (All-map (λ e. length e ≡ n) f xs (λ k d below. h _)))

pub fixed_array-flat_map : {X : Type 0} (n : ℕ) (f : X → List ℕ) (xs : List X) → 0 < n → ((x : X) → length (f x) ≡ n)
    → fixed_array n (flat_map f xs) ≡ record { kind = Fixed n; elements = map f xs }
fixed_array-flat_map n f xs pos h = rw (flat_map-concat f xs) (fixed_array-concat n (map f xs) pos (All-map (λ e. length e ≡ n) f xs (λ k d below. h _)))

-- one element more at the end
pub whole_push : (n : ℕ) (bytes e : List ℕ) → IsWhole n bytes → length e ≡ n → IsWhole n (bytes ++ e)
whole_push n bytes e h long =
    whole_from_length n (length bytes / n + 1) (bytes ++ e) h.0 (omega (arith, length-append bytes e, whole_bytes n bytes h))

pub fixed_array-push : (n : ℕ) (bytes e : List ℕ) → IsWhole n bytes → length e ≡ n → (fixed_array n (bytes ++ e)).elements ≡ (fixed_array n bytes).elements ++ e ∷ []
fixed_array-push n bytes e h long =
    let whole = whole_bytes n bytes h in
    let count : length (bytes ++ e) / n ≡ length bytes / n + 1 = div-eq_of_eq-mul_left h.0 (omega (arith, length-append bytes e, whole)) in
    ap (λ m. pieces n m (bytes ++ e)) count ∙ pieces_more n (length bytes / n) bytes e whole long

-- an array of elements of one size is cut back out of its bytes
pub cut_elements : (array : Array) (size count : ℕ) (bytes : List ℕ) → array.kind ≡ Fixed size → All (FitsKind array.kind) array.elements → bytes ≡ concat array.elements → length array.elements ≡ count
    → (length bytes ≡ count * size) × ((k : ℕ) → k < count → piece size bytes k ≡ element_of array k)
cut_elements array size count bytes kind fits is many =
    let sized : All (λ e. length e ≡ size) array.elements = rw kind at fits in
    (ap length is ∙ (length-concat size array.elements sized ∙ ap (λ n. n * size) many), λ k lt. ap (λ xs. piece size xs k) is ∙ piece_of-concat size array.elements k sized (omega arith))

-- the lengths of lists add up to that of the lists joined
length-concat_by : (xs : List (List ℕ)) → length (concat xs) ≡ sum_by length xs
length-concat_by [] = refl
length-concat_by (x ∷ xs) = omega (arith, length-append x (concat xs), length-concat_by xs, sum_by-cons length x xs)

-- the lengths of the first parts add up to the offset where they end
sum_of_parts : (offsets bytes : List ℕ) (i : ℕ) → AreOffsets offsets (length bytes) → i < length offsets → sum_by length (map (part bytes offsets) (range_with_len 0 i)) ≡ get_or offsets i 0
sum_of_parts offsets bytes zero h lt = sym h.begins
sum_of_parts offsets bytes (suc i) h lt =
    let next : i + 1 ≡ suc i = omega arith in
    let more = sum_by-map-range_with_len_more length (part bytes offsets) 0 i i (omega arith) in
    let start = get_or offsets i 0 in
    let end = get_or offsets (i + 1) 0 in
    let within = offset_within offsets (length bytes) (i + 1) h (omega arith) in
    let long : length (part bytes offsets i) ≡ end - start =
    length-take-le (end - start) (drop start bytes) (omega (arith, within, length-drop start bytes)) in
    let all : sum_by length (map (part bytes offsets) (range_with_len 0 (i + 1))) ≡ get_or offsets (i + 1) 0 =
    omega (arith, more, long, h.rises i (omega arith), sum_of_parts offsets bytes i h (omega arith)) in
    rw next at all

-- the elements of an array have as many bytes together as hold them
pub sum_of_held : (held : Held) (bytes : List ℕ) → IsHeld held bytes → sum_by length (array_of held bytes).elements ≡ length bytes
sum_of_held (held.Fixed n) bytes h = sym (length-concat_by (fixed_array n bytes).elements) ∙ ap length (concat-fixed_array n bytes h)
sum_of_held (held.Variable offsets) bytes h =
    sum_of_parts offsets.items bytes (length offsets.items - 1) h (omega (arith, h.some)) ∙ h.ends
