-- The subchunks cover a shape: each cell has one subchunk and one place in it.
use Rattle.std.proofs.Common.{◌≡◌, ℕ, zero, suc, ◌+◌, ◌*◌, ◌/◌, ◌%◌, ◌^◌, ◌<◌, ◌≤◌, List, [], ◌∷◌, length, get_or, refl, sym, ap, ◌∙◌, arith}
use Rattle.std.proofs.lemmas.Nat.{mul-le, mul-add-lt, div-mul-add, mod-mul-add}
use Rattle.std.proofs.Math.Nat.{div-lt_iff_lt-mul, div-add-mod, mod-zero, mul_comm}
use Rattle.std.proofs.lemmas.List.Elements.{length_all_zip, AllZip-get_or, All-from_get_or}
use Rattle.std.proofs.lemmas.List.FromFn.{get_or-map-range_with_len, length-map-range_with_len}
use Rattle.std.specs.List.{AllZip}
use Rattle.parts_row_major.specs.Numbering.{count_of, IsInside, point_of, AllPositive, zip_with}
use Rattle.parts_row_major.specs.Subsets.{IsSubset, LiesIn, number_in}
use Rattle.parts_subsets.specs.Grid.{Divides, grid_of, subchunk_of, position_of, joined, subchunk_number, position_number, cell_number, subset_of_subchunk, subchunk}
use Rattle.parts_row_major.proofs.NumberingLaws.{number_below, point_inside, point_of-number_of, number_of-point_of, count_positive, le_product, length-point_of}
use Rattle.parts_row_major.proofs.SubsetLaws.{all_zip_from_each, length-zip_with, get_or-zip_with, lies_in_length, lies_in_at}

-- ---- one axis
pub quotient_below : (x n d : ℕ) → n % d ≡ 0 → x < n → x / d < n / d
quotient_below x n zero e h = absurd (omega (arith, mod-zero n))
quotient_below x n (suc d) e h =
    let pos : 0 < suc d = omega arith in
    (div-lt_iff_lt-mul pos).1 (omega (arith, div-add-mod n (suc d), mul_comm (n / suc d) (suc d)))

pub remainder_below : (x n d : ℕ) → n % d ≡ 0 → x < n → x % d < d
remainder_below x n zero e h = absurd (omega (arith, mod-zero n))
remainder_below x n (suc d) e h = omega arith

-- a product divided by its first factor
pub over_first : (n c : ℕ) → 0 < n → (n * c) / n ≡ c
over_first n c pos = ap (λ t. t / n) (mul_comm n c ∙ omega arith) ∙ div-mul-add c n 0 pos

pub positive_factor : (d q n : ℕ) → 0 < n → d * q ≡ n → 0 < q
positive_factor d zero n pos e = absurd (omega arith)
positive_factor d (suc q) n pos e = omega arith

pub at_least : (n c : ℕ) → 0 < c → n ≤ n * c
at_least n zero pos = absurd (omega arith)
at_least n (suc c) pos = omega arith

pub whole_part : (n d : ℕ) → 0 < n → n % d ≡ 0 → 0 < n / d
whole_part n d pos h = positive_factor d (n / d) n pos (omega (arith, div-add-mod n d))

-- ---- coordinates
pub subchunk_of_inside : (c s ds : List ℕ) → Divides ds s → IsInside c s → IsInside (subchunk_of c ds) (grid_of s ds)
subchunk_of_inside [] [] ds h i = tt
subchunk_of_inside [] (n ∷ s) ds h i = elim i [ ]
subchunk_of_inside (x ∷ c) [] ds h i = elim i [ ]
subchunk_of_inside (x ∷ c) (n ∷ s) [] h i = elim h [ ]
subchunk_of_inside (x ∷ c) (n ∷ s) (d ∷ ds) h i = (quotient_below x n d h.0 i.0, subchunk_of_inside c s ds h.1 i.1)

pub position_of_inside : (c s ds : List ℕ) → Divides ds s → IsInside c s → IsInside (position_of c ds) ds
position_of_inside [] [] [] h i = tt
position_of_inside [] [] (d ∷ ds) h i = elim h [ ]
position_of_inside [] (n ∷ s) ds h i = elim i [ ]
position_of_inside (x ∷ c) [] ds h i = elim i [ ]
position_of_inside (x ∷ c) (n ∷ s) [] h i = elim h [ ]
position_of_inside (x ∷ c) (n ∷ s) (d ∷ ds) h i = (remainder_below x n d h.0 i.0, position_of_inside c s ds h.1 i.1)

pub joined_split : (c s ds : List ℕ) → Divides ds s → IsInside c s → joined (subchunk_of c ds) ds (position_of c ds) ≡ c
joined_split [] [] ds h i = refl
joined_split [] (n ∷ s) ds h i = elim i [ ]
joined_split (x ∷ c) [] ds h i = elim i [ ]
joined_split (x ∷ c) (n ∷ s) [] h i = elim h [ ]
joined_split (x ∷ c) (n ∷ s) (d ∷ ds) h i =
    let e : (x / d) * d + x % d ≡ x = omega (arith, div-add-mod x d, mul_comm (x / d) d) in
    rw e (ap (λ t. x ∷ t) (joined_split c s ds h.1 i.1))

pub joined_inside : (k s ds p : List ℕ) → Divides ds s → IsInside k (grid_of s ds) → IsInside p ds → IsInside (joined k ds p) s
joined_inside [] [] ds p h i j = tt
joined_inside [] (n ∷ s) [] p h i j = elim h [ ]
joined_inside [] (n ∷ s) (d ∷ ds) p h i j = elim i [ ]
joined_inside (k ∷ c) [] ds p h i j = elim i [ ]
joined_inside (k ∷ c) (n ∷ s) [] p h i j = elim h [ ]
joined_inside (k ∷ c) (n ∷ s) (d ∷ ds) [] h i j = elim j [ ]
joined_inside (k ∷ c) (n ∷ s) (d ∷ ds) (p ∷ q) h i j =
    (omega (arith, mul-add-lt k d p (n / d) i.0 j.0, div-add-mod n d), joined_inside c s ds q h.1 i.1 j.1)

pub subchunk_of_joined : (k s ds p : List ℕ) → IsInside k (grid_of s ds) → IsInside p ds → subchunk_of (joined k ds p) ds ≡ k
subchunk_of_joined [] s ds p i j = refl
subchunk_of_joined (k ∷ c) [] ds p i j = elim i [ ]
subchunk_of_joined (k ∷ c) (n ∷ s) [] p i j = elim i [ ]
subchunk_of_joined (k ∷ c) (n ∷ s) (d ∷ ds) [] i j = elim j [ ]
subchunk_of_joined (k ∷ c) (n ∷ s) (d ∷ ds) (p ∷ q) i j = rw (div-mul-add k d p j.0) (ap (λ t. k ∷ t) (subchunk_of_joined c s ds q i.1 j.1))

pub position_of_joined : (k s ds p : List ℕ) → Divides ds s → IsInside k (grid_of s ds) → IsInside p ds → position_of (joined k ds p) ds ≡ p
position_of_joined [] [] [] [] h i j = refl
position_of_joined [] [] [] (p ∷ q) h i j = elim j [ ]
position_of_joined [] [] (d ∷ ds) p h i j = elim h [ ]
position_of_joined [] (n ∷ s) [] p h i j = elim h [ ]
position_of_joined [] (n ∷ s) (d ∷ ds) p h i j = elim i [ ]
position_of_joined (k ∷ c) [] ds p h i j = elim i [ ]
position_of_joined (k ∷ c) (n ∷ s) [] p h i j = elim h [ ]
position_of_joined (k ∷ c) (n ∷ s) (d ∷ ds) [] h i j = elim j [ ]
position_of_joined (k ∷ c) (n ∷ s) (d ∷ ds) (p ∷ q) h i j = rw (mod-mul-add k d p j.0) (ap (λ t. p ∷ t) (position_of_joined c s ds q h.1 i.1 j.1))

-- ---- numbers
module _ (shape sub : List ℕ) (divides : Divides sub shape) where
  pub subchunk_number-below : (i : ℕ) → i < count_of shape → subchunk_number shape sub i < count_of (grid_of shape sub)
  unfolding subchunk_number
  subchunk_number-below i h = number_below _ _ (subchunk_of_inside (point_of i shape) shape sub divides (point_inside i shape h))

  pub position_number-below : (i : ℕ) → i < count_of shape → position_number shape sub i < count_of sub
  unfolding position_number
  position_number-below i h = number_below _ _ (position_of_inside (point_of i shape) shape sub divides (point_inside i shape h))

  pub cell_number-below : (k p : ℕ) → k < count_of (grid_of shape sub) → p < count_of sub → cell_number shape sub k p < count_of shape
  unfolding cell_number
  cell_number-below k p hk hp =
      number_below _ _ (joined_inside (point_of k (grid_of shape sub)) shape sub (point_of p sub) divides (point_inside k (grid_of shape sub) hk) (point_inside p sub hp))

  -- the cell at a cell's place in its subchunk is that cell
  pub cell_number-located : (i : ℕ) → i < count_of shape → cell_number shape sub (subchunk_number shape sub i) (position_number shape sub i) ≡ i
  unfolding cell_number subchunk_number position_number
  cell_number-located i h =
      let inside = point_inside i shape h in
      let subchunk = subchunk_of_inside (point_of i shape) shape sub divides inside in
      let position = position_of_inside (point_of i shape) shape sub divides inside in
      rw (
        point_of-number_of (subchunk_of (point_of i shape) sub) (grid_of shape sub) subchunk,
        point_of-number_of (position_of (point_of i shape) sub) sub position,
        joined_split (point_of i shape) shape sub divides inside,
      )
      (number_of-point_of i shape h)

  -- the cell at a place of a subchunk lies in that subchunk
  pub subchunk_number-cell_number : (k p : ℕ) → k < count_of (grid_of shape sub) → p < count_of sub → subchunk_number shape sub (cell_number shape sub k p) ≡ k
  unfolding subchunk_number cell_number
  subchunk_number-cell_number k p hk hp =
      let ck = point_of k (grid_of shape sub) in
      let cp = point_of p sub in
      let ik = point_inside k (grid_of shape sub) hk in
      let ip = point_inside p sub hp in
      rw (point_of-number_of (joined ck sub cp) shape (joined_inside ck shape sub cp divides ik ip), subchunk_of_joined ck shape sub cp ik ip)
      (number_of-point_of k (grid_of shape sub) hk)

  -- the cell at a place of a subchunk has that place
  pub position_number-cell_number : (k p : ℕ) → k < count_of (grid_of shape sub) → p < count_of sub → position_number shape sub (cell_number shape sub k p) ≡ p
  unfolding position_number cell_number
  position_number-cell_number k p hk hp =
      let ck = point_of k (grid_of shape sub) in
      let cp = point_of p sub in
      let ik = point_inside k (grid_of shape sub) hk in
      let ip = point_inside p sub hp in
      rw (point_of-number_of (joined ck sub cp) shape (joined_inside ck shape sub cp divides ik ip), position_of_joined ck shape sub cp divides ik ip)
      (number_of-point_of p sub hp)

-- ---- the elements of a subchunk
pub length-subchunk : (shape sub : List ℕ) (elements : List (List ℕ)) (k : ℕ) → length (subchunk shape sub elements k) ≡ count_of sub
unfolding subchunk
length-subchunk shape sub elements k = length-map-range_with_len (λ p. get_or elements (cell_number shape sub k p) []) 0 (count_of sub)

pub get_or-subchunk : (shape sub : List ℕ) (elements : List (List ℕ)) (k p : ℕ) (d : List ℕ) → p < count_of sub → get_or (subchunk shape sub elements k) p d ≡ get_or elements (cell_number shape sub k p) []
unfolding subchunk
get_or-subchunk shape sub elements k p d h =
    get_or-map-range_with_len (λ q. get_or elements (cell_number shape sub k q) []) 0 (count_of sub) p p d h (omega arith)

-- ---- counts
pub count-positive : (s : List ℕ) → AllPositive s → 0 < count_of s
count-positive s h = count_positive s (λ i lt. h i 0 lt)

pub swap_middle : (a b c d : ℕ) → a * b * (c * d) ≡ a * c * (b * d)
swap_middle a b c d = grind arith

-- the cells are those of the subchunks
pub count-grid : (shape sub : List ℕ) → Divides sub shape → count_of shape ≡ count_of (grid_of shape sub) * count_of sub
count-grid [] [] h = refl
count-grid [] (d ∷ ds) h = elim h [ ]
count-grid (n ∷ s) [] h = elim h [ ]
count-grid (n ∷ s) (d ∷ ds) h =
    let rest = count-grid s ds h.1 in
    let whole : n ≡ n / d * d = omega (arith, div-add-mod n d, mul_comm (n / d) d, h.0) in
    ap (λ t. t * count_of s) whole ∙ ap (λ t. n / d * d * t) rest ∙ swap_middle (n / d) d (count_of (grid_of s ds)) (count_of ds)

-- the number of the cells of a subchunk
pub positions_of : (cells n : ℕ) (shape sub : List ℕ) → Divides sub shape → cells ≡ count_of shape → n ≡ count_of (grid_of shape sub) → 0 < n → cells / n ≡ count_of sub
positions_of cells n shape sub h e f pos =
    ap (λ t. t / n) (e ∙ count-grid shape sub h ∙ ap (λ t. t * count_of sub) (sym f)) ∙ over_first n (count_of sub) pos

pub length-grid : (shape sub : List ℕ) → Divides sub shape → length (grid_of shape sub) ≡ length shape
length-grid shape sub h = length-zip_with ◌/◌ shape sub (sym (length_all_zip (λ part axis. axis % part ≡ 0) sub shape h))

-- how many subchunks there are along an axis
pub get_or-grid : (shape sub : List ℕ) (axis : ℕ) → Divides sub shape → axis < length shape → get_or (grid_of shape sub) axis 0 ≡ get_or shape axis 0 / get_or sub axis 0
get_or-grid shape sub axis h lt =
    get_or-zip_with ◌/◌ shape sub axis lt (omega (arith, length_all_zip (λ part n. n % part ≡ 0) sub shape h))

-- a part divides its axis
pub axis_divided : (shape sub : List ℕ) (axis : ℕ) → Divides sub shape → axis < length shape → get_or shape axis 0 % get_or sub axis 0 ≡ 0
axis_divided shape sub axis h lt =
    AllZip-get_or (λ part n. n % part ≡ 0) sub shape axis 0 0 h (omega (arith, length_all_zip (λ part n. n % part ≡ 0) sub shape h))

-- no axis of the grid is 0
pub grid_positive : (shape sub : List ℕ) → AllPositive shape → Divides sub shape → AllPositive (grid_of shape sub)
grid_positive shape sub pos h =
    All-from_get_or (λ axis. 0 < axis) (grid_of shape sub) 0 (λ axis lt.
    let small : axis < length shape = omega (arith, length-grid shape sub h) in
    rw (get_or-grid shape sub axis h small) (whole_part (get_or shape axis 0) (get_or sub axis 0) (pos axis 0 small) (axis_divided shape sub axis h small)))

-- ---- the subset of a subchunk
pub corner_lies_in : (k s ds : List ℕ) → Divides ds s → IsInside k (grid_of s ds) → AllZip ◌≤◌ (zip_with ◌+◌ (zip_with ◌*◌ k ds) ds) s
corner_lies_in [] [] ds h i = tt
corner_lies_in [] (n ∷ s) [] h i = elim h [ ]
corner_lies_in [] (n ∷ s) (d ∷ ds) h i = elim i [ ]
corner_lies_in (k ∷ c) [] ds h i = elim i [ ]
corner_lies_in (k ∷ c) (n ∷ s) [] h i = elim h [ ]
corner_lies_in (k ∷ c) (n ∷ s) (d ∷ ds) h i =
    let more : (k + 1) * d ≤ (n / d) * d = mul-le (k + 1) d (n / d) d (omega (arith, i.0)) (omega arith) in
    (omega (arith, more, div-add-mod n d), corner_lies_in c s ds h.1 i.1)

-- a subset that ends within numbers of 64 bits is well formed
pub is_subset_within : (start len shape : List ℕ) → length start ≡ length len → ((axis : ℕ) → axis < length shape → get_or shape axis 0 < 2 ^ 64) → AllZip ◌≤◌ (zip_with ◌+◌ start len) shape → IsSubset start len
is_subset_within start len shape same fits inside =
    let long = lies_in_length start len shape same inside in
    all_zip_from_each (λ first n. first + n < 2 ^ 64) start len same (λ axis lt.
    omega (arith, lies_in_at start len shape axis same inside (omega arith), fits axis (omega arith)))

-- an axis is no more than the count
pub axis_le_count : (s : List ℕ) (axis : ℕ) → AllPositive s → axis < length s → get_or s axis 0 ≤ count_of s
axis_le_count [] axis pos lt = absurd (omega arith)
axis_le_count (n ∷ ns) zero pos lt = at_least n (count_of ns) (count-positive ns (λ i d small. pos (suc i) d (omega arith)))
axis_le_count (n ∷ ns) (suc axis) pos lt =
    le_product n (count_of ns) (get_or ns axis 0) (pos 0 0 (omega arith)) (axis_le_count ns axis (λ i d small. pos (suc i) d (omega arith)) (omega arith))

-- the subset of a subchunk begins at a point of as many axes
pub subset_of_subchunk-axes : (shape sub : List ℕ) (k : ℕ) → Divides sub shape → length (zip_with ◌*◌ (point_of k (grid_of shape sub)) sub) ≡ length sub
subset_of_subchunk-axes shape sub k divides =
    let same = length_all_zip (λ part axis. axis % part ≡ 0) sub shape divides in
    let point = length-point_of k (grid_of shape sub) ∙ length-grid shape sub divides in
    length-zip_with ◌*◌ (point_of k (grid_of shape sub)) sub (omega arith) ∙ omega arith

module _ (shape sub : List ℕ) (k : ℕ) (divides : Divides sub shape) (below : k < count_of (grid_of shape sub)) where
  -- the subset of a subchunk lies in the shape
  pub subset_of_subchunk-lies_in : LiesIn (subset_of_subchunk shape sub k) shape
  subset_of_subchunk-lies_in = corner_lies_in (point_of k (grid_of shape sub)) shape sub divides (point_inside k (grid_of shape sub) below)

  pub subset_of_subchunk-is_subset : ((axis : ℕ) → axis < length shape → get_or shape axis 0 < 2 ^ 64) → IsSubset (subset_of_subchunk shape sub k).start (subset_of_subchunk shape sub k).shape
  subset_of_subchunk-is_subset fits = is_subset_within (subset_of_subchunk shape sub k).start sub shape (subset_of_subchunk-axes shape sub k divides) fits subset_of_subchunk-lies_in

-- the cell at a place of a subchunk is the place's of its subset
pub number_in-subset_of_subchunk : (shape sub : List ℕ) (k p : ℕ) → number_in (subset_of_subchunk shape sub k) shape p ≡ cell_number shape sub k p
unfolding cell_number
number_in-subset_of_subchunk shape sub k p = refl
