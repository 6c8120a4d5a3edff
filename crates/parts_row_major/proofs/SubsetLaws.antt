-- The points of a subset, and their numbers in the array that it lies in.
use Rattle.std.proofs.Common.{◌≡◌, ℕ, zero, suc, ◌+◌, ◌/◌, ◌%◌, ◌^◌, ◌<◌, ◌≤◌, List, [], ◌∷◌, ◌++◌, length, replicate, get_or, take, drop, refl, ap, sym, ◌∙◌, arith}
use Rattle.std.proofs.lemmas.List.{ext_get_or, length-replicate, get_or-replicate, take_more}
use Rattle.std.proofs.lemmas.List.Elements.{length_all_zip, AllZip-get_or}
use Rattle.std.proofs.lemmas.List.FromFn.{length-map-range_with_len, get_or-map-range_with_len}
use Rattle.std.specs.List.{AllZip}
use Rattle.parts_row_major.specs.Numbering.{count_of, IsInside, point_of, zip_with}
use Rattle.parts_row_major.proofs.NumberingLaws.{length-point_of}
use Rattle.parts_row_major.proofs.PointLaws.{point_of_at}
use Rattle.parts_row_major.specs.Subsets.{Subset, IsSubset, point_in, points_of}

-- a fact of each pair of numbers is a fact of the lists
pub all_zip_from_each : (R : ℕ → ℕ → Type 0) (xs ys : List ℕ) → length xs ≡ length ys → ((k : ℕ) → k < length xs → R (get_or xs k 0) (get_or ys k 0)) → AllZip R xs ys
all_zip_from_each R [] [] e h = tt
all_zip_from_each R [] (y ∷ ys) e h = absurd (omega arith)
all_zip_from_each R (x ∷ xs) [] e h = absurd (omega arith)
all_zip_from_each R (x ∷ xs) (y ∷ ys) e h = (h 0 (omega arith), all_zip_from_each R xs ys (omega arith) (λ k lt. h (suc k) (omega arith)))

pub length-zip_with : (f : ℕ → ℕ → ℕ) (xs ys : List ℕ) → length xs ≡ length ys → length (zip_with f xs ys) ≡ length xs
length-zip_with f [] ys e = refl
length-zip_with f (x ∷ xs) [] e = absurd (omega arith)
length-zip_with f (x ∷ xs) (y ∷ ys) e = omega (arith, length-zip_with f xs ys (omega arith))

pub get_or-zip_with : (f : ℕ → ℕ → ℕ) (xs ys : List ℕ) (k : ℕ) → k < length xs → k < length ys → get_or (zip_with f xs ys) k 0 ≡ f (get_or xs k 0) (get_or ys k 0)
get_or-zip_with f [] ys k h g = absurd (omega arith)
get_or-zip_with f (x ∷ xs) [] k h g = absurd (omega arith)
get_or-zip_with f (x ∷ xs) (y ∷ ys) zero h g = refl
get_or-zip_with f (x ∷ xs) (y ∷ ys) (suc k) h g = get_or-zip_with f xs ys k (omega arith) (omega arith)

-- the points of a subset that lies in a shape lie inside it
pub shifted_inside : (start len point shape : List ℕ) → IsInside point len → AllZip ◌≤◌ (zip_with ◌+◌ start len) shape → IsInside (zip_with ◌+◌ start point) shape
shifted_inside [] len point [] h g = tt
shifted_inside [] len point (s ∷ ss) h g = elim g [ ]
shifted_inside (a ∷ rest) [] [] [] h g = tt
shifted_inside (a ∷ rest) [] [] (s ∷ ss) h g = elim g [ ]
shifted_inside (a ∷ rest) [] (c ∷ cs) ss h g = elim h [ ]
shifted_inside (a ∷ rest) (n ∷ ns) [] ss h g = elim h [ ]
shifted_inside (a ∷ rest) (n ∷ ns) (c ∷ cs) [] h g = elim g [ ]
shifted_inside (a ∷ rest) (n ∷ ns) (c ∷ cs) (s ∷ ss) h g = (omega (arith, h.0, g.0), shifted_inside rest ns cs ss h.1 g.1)

-- where a point of a subset stands along an axis
pub point_in_at : (start shape : List ℕ) (i axis j : ℕ) → i < count_of shape → length start ≡ length shape → axis < length shape → axis + 1 ≡ j → get_or (zip_with ◌+◌ start (point_of i shape)) axis 0 ≡ get_or start axis 0 + (i / count_of (drop j shape)) % get_or shape axis 0
point_in_at start shape i axis j h same lt e =
    rw (← point_of_at i shape axis j h lt e)
    (get_or-zip_with ◌+◌ start (point_of i shape) axis (omega arith) (omega (arith, length-point_of i shape)))

pub length-point_in : (start shape : List ℕ) (i : ℕ) → length start ≡ length shape → length (zip_with ◌+◌ start (point_of i shape)) ≡ length shape
length-point_in start shape i same =
    omega (arith, length-zip_with ◌+◌ start (point_of i shape) (omega (arith, length-point_of i shape)))

-- a subset ends within a shape exactly where it does along each axis
pub lies_in_length : (start len s : List ℕ) → length start ≡ length len → AllZip ◌≤◌ (zip_with ◌+◌ start len) s → length start ≡ length s
lies_in_length start len s same h =
    sym (length-zip_with ◌+◌ start len same) ∙ length_all_zip ◌≤◌ (zip_with ◌+◌ start len) s h

pub lies_in_at : (start len s : List ℕ) (k : ℕ) → length start ≡ length len → AllZip ◌≤◌ (zip_with ◌+◌ start len) s → k < length s → get_or start k 0 + get_or len k 0 ≤ get_or s k 0
lies_in_at start len s k same h lt =
    let long = lies_in_length start len s same h in
    rw (get_or-zip_with ◌+◌ start len k (omega arith) (omega arith)) at
    (AllZip-get_or ◌≤◌ (zip_with ◌+◌ start len) s k 0 0 h (omega (arith, length-zip_with ◌+◌ start len same)))

pub lies_in_from_each : (start len s : List ℕ) → length start ≡ length len → length start ≡ length s → ((k : ℕ) → k < length s → get_or start k 0 + get_or len k 0 ≤ get_or s k 0) → AllZip ◌≤◌ (zip_with ◌+◌ start len) s
lies_in_from_each start len s same long h =
    let whole = length-zip_with ◌+◌ start len same in
    all_zip_from_each ◌≤◌ (zip_with ◌+◌ start len) s (whole ∙ long)
    (λ k lt. rw (get_or-zip_with ◌+◌ start len k (omega arith) (omega arith)) (h k (omega arith)))

-- points that are one when shifted alike are one
pub same_shift : (start c d : List ℕ) → length start ≡ length c → length start ≡ length d → zip_with ◌+◌ start c ≡ zip_with ◌+◌ start d → c ≡ d
same_shift start c d ec ed e = ext_get_or 0 c d (omega arith) (λ k lt.
    let at_c = get_or-zip_with ◌+◌ start c k (omega arith) lt in
    let at_d = get_or-zip_with ◌+◌ start d k (omega arith) (omega arith) in
    omega (arith, at_c, at_d, ap (λ xs. get_or xs k 0) e))

pub length-points_of : (subset : Subset) → length (points_of subset) ≡ count_of subset.shape
length-points_of subset = length-map-range_with_len (point_in subset) 0 (count_of subset.shape)

pub point_of-points_of : (subset : Subset) (i : ℕ) → i < count_of subset.shape → get_or (points_of subset) i [] ≡ point_in subset i
point_of-points_of subset i lt = get_or-map-range_with_len (point_in subset) 0 (count_of subset.shape) i i [] lt (omega arith)

-- a subset that starts at 0 on every axis ends where its lengths say
pub is_subset_from_zero : (start shape : List ℕ) → start ≡ replicate (length shape) 0 → ((k : ℕ) → k < length shape → get_or shape k 0 < 2 ^ 64) → IsSubset start shape
is_subset_from_zero start shape e fits =
    let long = ap length e ∙ length-replicate (length shape) 0 in
    all_zip_from_each (λ first len. first + len < 2 ^ 64) start shape long
    (λ k lt. omega (arith, fits k (omega arith), ap (λ xs. get_or xs k 0) e, get_or-replicate {A = ℕ} (length shape) k 0 0 (omega arith)))

-- one more number of two lists joined number by number
pub zip_with_more : (f : ℕ → ℕ → ℕ) (xs ys : List ℕ) (axis a b : ℕ) (so more : List ℕ) → length xs ≡ length ys → axis < length xs → a ≡ get_or xs axis 0 → b ≡ get_or ys axis 0
    → so ≡ take axis (zip_with f xs ys) → more ≡ so ++ f a b ∷ [] → more ≡ take (axis + 1) (zip_with f xs ys)
zip_with_more f xs ys axis a b so more same lt ae be before e =
    let long = length-zip_with f xs ys same in
    let at = get_or-zip_with f xs ys axis lt (omega arith) in
    rw (e, before, ae, be, ← at) (sym (take_more (zip_with f xs ys) axis 0 (omega arith)))
