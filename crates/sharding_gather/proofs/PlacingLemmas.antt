-- A subset of an array that is itself a subset of another array.
use Rattle.std.proofs.Common.{◌≡◌, ℕ, zero, suc, ◌+◌, ◌*◌, ◌<◌, ◌≤◌, List, [], ◌∷◌, length, replicate, refl, sym, ap, ◌∙◌, arith}
use Rattle.std.specs.List.{AllZip}
use Rattle.parts_row_major.specs.Numbering.{count_of, zip_with, number_of, point_of}
use Rattle.parts_row_major.specs.Subsets.{Subset, IsSubset, LiesIn, point_in, number_in}
use Rattle.parts_subsets.specs.Grid.{Divides, grid_of, grid_subset, joined, cell_number}
use Rattle.parts_row_major.proofs.NumberingLaws.{point_inside, point_of-number_of, number_of-point_of, length-point_of}
use Rattle.parts_row_major.proofs.SubsetLaws.{shifted_inside}
use Rattle.parts_subsets.proofs.GridLaws.{joined_inside}
use Rattle.sharding_gather.specs.steps.Placings.{shifted_subset}

-- sums can be taken in either order
sums_in_order : (a b c : List ℕ) → zip_with ◌+◌ (zip_with ◌+◌ a b) c ≡ zip_with ◌+◌ a (zip_with ◌+◌ b c)
sums_in_order [] b c = refl
sums_in_order (x ∷ a) [] c = refl
sums_in_order (x ∷ a) (y ∷ b) [] = refl
sums_in_order (x ∷ a) (y ∷ b) (z ∷ c) =
    let e : x + y + z ≡ x + (y + z) = omega arith in
    rw (e, sums_in_order a b c) refl

-- ends that are no further lie within what the further ones lie in
nearer_ends : (w e shape axes : List ℕ) → AllZip ◌≤◌ e shape → AllZip ◌≤◌ (zip_with ◌+◌ w shape) axes → AllZip ◌≤◌ (zip_with ◌+◌ w e) axes
nearer_ends [] e shape axes h i = i
nearer_ends (x ∷ w) [] [] axes h i = i
nearer_ends (x ∷ w) [] (z ∷ shape) axes h i = elim h [ ]
nearer_ends (x ∷ w) (y ∷ e) [] axes h i = elim h [ ]
nearer_ends (x ∷ w) (y ∷ e) (z ∷ shape) [] h i = elim i [ ]
nearer_ends (x ∷ w) (y ∷ e) (z ∷ shape) (n ∷ axes) h i = (omega (arith, h.0, i.0), nearer_ends w e shape axes h.1 i.1)

-- no start of the subset passes 64 bits
pub starts_fit : (w s sub shape : List ℕ) → length s ≡ length sub → AllZip ◌≤◌ (zip_with ◌+◌ s sub) shape → IsSubset w shape → IsSubset w s
starts_fit [] [] sub shape same h i = tt
starts_fit [] (y ∷ s) [] shape same h i = absurd (omega (arith, same))
starts_fit [] (y ∷ s) (u ∷ sub) [] same h i = elim h [ ]
starts_fit [] (y ∷ s) (u ∷ sub) (z ∷ shape) same h i = elim i [ ]
starts_fit (x ∷ w) s sub [] same h i = elim i [ ]
starts_fit (x ∷ w) [] [] (z ∷ shape) same h i = elim h [ ]
starts_fit (x ∷ w) [] (u ∷ sub) (z ∷ shape) same h i = absurd (omega (arith, same))
starts_fit (x ∷ w) (y ∷ s) [] (z ∷ shape) same h i = absurd (omega (arith, same))
starts_fit (x ∷ w) (y ∷ s) (u ∷ sub) (z ∷ shape) same h i = (omega (arith, h.0, i.0), starts_fit w s sub shape (omega (arith, same)) h.1 i.1)

-- nor does an end
pub placed-is_subset : (w s sub shape : List ℕ) → length s ≡ length sub → AllZip ◌≤◌ (zip_with ◌+◌ s sub) shape → IsSubset w shape → IsSubset (zip_with ◌+◌ w s) sub
placed-is_subset [] [] [] shape same h i = tt
placed-is_subset [] [] (u ∷ sub) shape same h i = absurd (omega (arith, same))
placed-is_subset [] (y ∷ s) [] shape same h i = absurd (omega (arith, same))
placed-is_subset [] (y ∷ s) (u ∷ sub) [] same h i = elim h [ ]
placed-is_subset [] (y ∷ s) (u ∷ sub) (z ∷ shape) same h i = elim i [ ]
placed-is_subset (x ∷ w) s sub [] same h i = elim i [ ]
placed-is_subset (x ∷ w) [] [] (z ∷ shape) same h i = elim h [ ]
placed-is_subset (x ∷ w) [] (u ∷ sub) (z ∷ shape) same h i = absurd (omega (arith, same))
placed-is_subset (x ∷ w) (y ∷ s) [] (z ∷ shape) same h i = absurd (omega (arith, same))
placed-is_subset (x ∷ w) (y ∷ s) (u ∷ sub) (z ∷ shape) same h i = (omega (arith, h.0, i.0), placed-is_subset w s sub shape (omega (arith, same)) h.1 i.1)

-- the subset lies where the outer one lies
pub placed-lies_in : (outer inner : Subset) (axes : List ℕ) → LiesIn inner outer.shape → LiesIn outer axes → LiesIn (shifted_subset outer inner) axes
placed-lies_in outer inner axes h i =
    rw (sums_in_order outer.start inner.start inner.shape) (nearer_ends outer.start (zip_with ◌+◌ inner.start inner.shape) outer.shape axes h i)

-- the points of a subchunk's subset are those of its cells
pub placed_number : (shape sub axes : List ℕ) (outer : Subset) (k p : ℕ) → Divides sub shape → outer.shape ≡ shape → k < count_of (grid_of shape sub) → p < count_of sub
    → number_in (shifted_subset outer (grid_subset (grid_of shape sub) sub k)) axes p ≡ number_in outer axes (cell_number shape sub k p)
unfolding cell_number
placed_number shape sub axes outer k p divides same lk lp =
    let ck = point_of k (grid_of shape sub) in
    let cp = point_of p sub in
    let point = joined ck sub cp in
    let inside = joined_inside ck shape sub cp divides (point_inside k (grid_of shape sub) lk) (point_inside p sub lp) in
    ap (λ c. number_of c axes) (sums_in_order outer.start (zip_with ◌*◌ ck sub) cp)
    ∙ sym (ap (λ s. number_of (zip_with ◌+◌ outer.start (point_of (number_of point shape) s)) axes) same ∙ ap (λ c. number_of (zip_with ◌+◌ outer.start c) axes) (point_of-number_of point shape inside))

-- the points of a subset of another are those of it there
pub placed_point : (outer inner : Subset) (axes : List ℕ) (r : ℕ) → LiesIn inner outer.shape → r < count_of inner.shape
    → number_in (shifted_subset outer inner) axes r ≡ number_in outer axes (number_in inner outer.shape r)
placed_point outer inner axes r lies lt =
    let point = point_of r inner.shape in
    let inside = shifted_inside inner.start inner.shape point outer.shape (point_inside r inner.shape lt) lies in
    ap (λ c. number_of c axes) (sums_in_order outer.start inner.start point)
    ∙ sym (ap (λ c. number_of (zip_with ◌+◌ outer.start c) axes) (point_of-number_of (point_in inner r) outer.shape inside))

-- nothing is added
zeros : (n : ℕ) (xs : List ℕ) → length xs ≡ n → zip_with ◌+◌ (replicate n 0) xs ≡ xs
zeros zero [] same = refl
zeros zero (x ∷ xs) same = absurd (omega (arith, same))
zeros (suc n) [] same = absurd (omega (arith, same))
zeros (suc n) (x ∷ xs) same = let first : 0 + x ≡ x = omega arith in rw (first, zeros n xs (omega (arith, same))) refl

-- a point of the subset of all coordinates has its own number
pub number_in-whole : (shape : List ℕ) (p : ℕ) → p < count_of shape → number_in (record { start = replicate (length shape) 0; shape = shape }) shape p ≡ p
number_in-whole shape p below =
    ap (λ point. number_of point shape) (zeros (length shape) (point_of p shape) (length-point_of p shape)) ∙ number_of-point_of p shape below

no_less : (xs : List ℕ) → AllZip ◌≤◌ xs xs
no_less [] = tt
no_less (x ∷ xs) = (omega arith, no_less xs)

-- the subset of all coordinates of a shape lies in the shape
pub lies_in-whole : (shape : List ℕ) → LiesIn (record { start = replicate (length shape) 0; shape = shape }) shape
lies_in-whole shape = rw (zeros (length shape) shape refl) (no_less shape)
