-- Where a cell lies, axis by axis.
use Rattle.std.proofs.Common.{◌≡◌, ℕ, suc, ◌+◌, ◌-◌, ◌*◌, ◌/◌, ◌%◌, ◌<◌, ◌≤◌, List, [], ◌∷◌, length, get_or, take, drop, refl, sym, ap, ◌∙◌, subst, arith}
use Rattle.std.proofs.Math.Seq.{take-length}
use Rattle.parts_row_major.specs.Numbering.{AllPositive, count_of}
use Rattle.parts_subsets.specs.Grid.{Divides, grid_of, subchunk_number, position_number}
use Rattle.parts_subsets.proofs.GridLaws.{over_first, whole_part, count-positive, subchunk_number-below, position_number-below}

pub empty_subchunk : (i : ℕ) (shape sub : List ℕ) → length shape < 1 → 0 ≡ subchunk_number shape sub i
unfolding subchunk_number
empty_subchunk i [] sub h = refl
empty_subchunk i (n ∷ s) sub h = absurd (omega arith)

pub empty_position : (i : ℕ) (shape sub : List ℕ) → length shape < 1 → 0 ≡ position_number shape sub i
unfolding position_number
empty_position i [] sub h = refl
empty_position i (n ∷ s) sub h = absurd (omega arith)

-- the first axis and the axes after it
pub record Front (i : ℕ) (shape sub s ds : List ℕ) (n d : ℕ) : Type 0 where
  pub first_positive : 0 < n
  pub sub_positive : 0 < d
  pub parts_positive : 0 < n / d
  pub rest_positive : 0 < count_of s
  pub shape_rest : AllPositive s
  pub sub_rest : AllPositive ds
  pub divides : Divides ds s
  pub cells : count_of shape / n ≡ count_of s
  pub subchunks : count_of (grid_of shape sub) / (n / d) ≡ count_of (grid_of s ds)
  pub positions : count_of sub / d ≡ count_of ds
  pub below : i % count_of s < count_of s
  pub subchunk : subchunk_number shape sub i ≡ ((i / count_of s) / d) * count_of (grid_of s ds) + subchunk_number s ds (i % count_of s)
  pub position : position_number shape sub i ≡ ((i / count_of s) % d) * count_of ds + position_number s ds (i % count_of s)
  pub subchunk_below : subchunk_number shape sub i < count_of (grid_of shape sub)
  pub position_below : position_number shape sub i < count_of sub

pub front_cons : (i : ℕ) (n d : ℕ) (s ds : List ℕ) → AllPositive (n ∷ s) → AllPositive (d ∷ ds) → Divides (d ∷ ds) (n ∷ s) → i < count_of (n ∷ s) → Front i (n ∷ s) (d ∷ ds) s ds n d
unfolding subchunk_number position_number
front_cons i n d s ds ps pd divides below =
    let n_pos : 0 < n = ps 0 0 (omega arith) in
    let d_pos : 0 < d = pd 0 0 (omega arith) in
    let s_pos : AllPositive s = λ k e lt. ps (suc k) e (omega arith) in
    let ds_pos : AllPositive ds = λ k e lt. pd (suc k) e (omega arith) in
    let rest : 0 < count_of s = count-positive s s_pos in
    let parts : 0 < n / d = whole_part n d n_pos divides.0 in
    record {
      first_positive = n_pos;
      sub_positive = d_pos;
      parts_positive = parts;
      rest_positive = rest;
      shape_rest = s_pos;
      sub_rest = ds_pos;
      divides = divides.1;
      cells = over_first n (count_of s) n_pos;
      subchunks = over_first (n / d) (count_of (grid_of s ds)) parts;
      positions = over_first d (count_of ds) d_pos;
      below = omega arith;
      subchunk = refl;
      position = refl;
      subchunk_below = subchunk_number-below (n ∷ s) (d ∷ ds) divides i below;
      position_below = position_number-below (n ∷ s) (d ∷ ds) divides i below;
    }

pub front : (i : ℕ) (shape sub : List ℕ) → 1 ≤ length shape → 1 ≤ length sub → AllPositive shape → AllPositive sub → Divides sub shape → i < count_of shape
    → Front i shape sub (take (length shape - 1) (drop 1 shape)) (take (length sub - 1) (drop 1 sub)) (get_or shape 0 0) (get_or sub 0 0)
front i [] sub h k ps pd divides below = absurd (omega arith)
front i (n ∷ s) [] h k ps pd divides below = absurd (omega arith)
front i (n ∷ s) (d ∷ ds) h k ps pd divides below =
    let e : take (length (n ∷ s) - 1) (drop 1 (n ∷ s)) ≡ s = ap (λ m. take m s) (omega arith) ∙ take-length s in
    let f : take (length (d ∷ ds) - 1) (drop 1 (d ∷ ds)) ≡ ds = ap (λ m. take m ds) (omega arith) ∙ take-length ds in
    subst (λ (x : List ℕ). Front i (n ∷ s) (d ∷ ds) x (take (length (d ∷ ds) - 1) (drop 1 (d ∷ ds))) n d) (sym e)
    (subst (λ (y : List ℕ). Front i (n ∷ s) (d ∷ ds) s y n d) (sym f) (front_cons i n d s ds ps pd divides below))

-- a cell's numbers from those that it has among the axes after the first
pub record LocatedMore (i shape_n sub_n cells subchunks positions s p : ℕ) (shape sub : List ℕ) : Type 0 where
  pub subchunk : i / (cells / shape_n) / sub_n * (subchunks / (shape_n / sub_n)) + s ≡ subchunk_number shape sub i
  pub position : i / (cells / shape_n) % sub_n * (positions / sub_n) + p ≡ position_number shape sub i
  pub subchunk_below : subchunk_number shape sub i < subchunks
  pub position_below : position_number shape sub i < positions

pub located_more : (i cells subchunks positions s p n d : ℕ) (shape sub rest sub_rest : List ℕ) → Front i shape sub rest sub_rest n d
    → cells ≡ count_of shape → subchunks ≡ count_of (grid_of shape sub) → positions ≡ count_of sub
    → s ≡ subchunk_number rest sub_rest (i % (cells / n)) → p ≡ position_number rest sub_rest (i % (cells / n))
    → LocatedMore i n d cells subchunks positions s p shape sub
located_more i cells subchunks positions s p n d shape sub rest sub_rest f ce se pe s_is p_is =
    let c = ap (λ m. m / n) ce ∙ f.cells in
    let g = ap (λ m. m / (n / d)) se ∙ f.subchunks in
    let q = ap (λ m. m / d) pe ∙ f.positions in
    record {
      subchunk = rw (g, s_is, c) (sym f.subchunk);
      position = rw (q, p_is, c) (sym f.position);
      subchunk_below = rw se f.subchunk_below;
      position_below = rw pe f.position_below;
    }
