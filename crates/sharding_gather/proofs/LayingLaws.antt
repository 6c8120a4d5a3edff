-- The cells of a shard, laid subchunk by subchunk.
use Rattle.std.proofs.Common.{◌≡◌, ◌≢◌, ℕ, ◌+◌, ◌*◌, ◌%◌, ◌<◌, ◌≤◌, List, [], ◌++◌, Option, Some, None, inl, inr, length, map, get_or, drop, replicate, refl, sym, ap, ◌∙◌, arith}
use Rattle.std.specs.List.{All, concat, range_with_len}
use Rattle.std.proofs.lemmas.List.{ext_get_or, map-append, length-replicate, get_or-replicate}
use Rattle.std.proofs.lemmas.List.Elements.{All-get_or, All-from_get_or, length_all_zip}
use Rattle.std.proofs.lemmas.List.Folds.{concat-append}
use Rattle.std.proofs.lemmas.List.FromFn.{get_or-map-range_with_len, length-map-range_with_len}
use Rattle.std.proofs.lemmas.Bool.{cases_lt}
use Rattle.parts_errors.specs.declared.error.CodecError.{CodecError}
use Rattle.parts_errors.specs.declared.error.CodecError.TheVariants.{OutOfMemory}
use Rattle.parts_errors.specs.Order.{RefusedBy}
use Rattle.parts_row_major.specs.Numbering.{count_of}
use Rattle.parts_row_major.specs.Pieces.{piece, pieces, IsUpdated}
use Rattle.parts_subsets.specs.Grid.{Divides, grid_of, subchunk_number, position_number, cell_number}
use Rattle.parts_arrays.specs.Arrays.{Array}
use Rattle.parts_arrays.specs.declared.data_type.DataTypeSize.{DataTypeSize}
use Rattle.parts_arrays.specs.declared.data_type.DataTypeSize.TheVariants.{Fixed}
use Rattle.parts_row_major.proofs.PieceLaws.{map_range_same, concat-pieces, piece_of-pieces, piece_of-concat}
use Rattle.parts_row_major.proofs.RunLaws.{range_split}
use Rattle.parts_subsets.proofs.FollowLaws.{contiguous_number}
use Rattle.parts_subsets.proofs.GridLaws.{number_in-subset_of_subchunk, subchunk_number-below, position_number-below, cell_number-located, subchunk_number-cell_number, position_number-cell_number}
use Rattle.sharding_format.specs.Grids.{GridRefusals}
use Rattle.sharding_format.specs.steps.Decoding.{AreChunks, IsPartOf, element_at, element_in}
use Rattle.sharding_gather.specs.steps.Gathering.{elements_in, positions_there}

-- as many elements as places
pub length-elements_in : (kind : DataTypeSize) (fill : List ℕ) (positions : ℕ) (o : Option Array) → IsPartOf kind positions o → length (elements_in fill positions o) ≡ positions
length-elements_in kind fill positions None h = length-replicate positions fill
length-elements_in kind fill positions (Some a) h = h.0

-- the element at a place is one of them
get_or-elements_in : (fill : List ℕ) (positions p : ℕ) (o : Option Array) → p < positions → get_or (elements_in fill positions o) p [] ≡ element_at fill o p
get_or-elements_in fill positions p None lt = get_or-replicate positions p fill [] lt
get_or-elements_in fill positions p (Some a) lt = refl

-- each element of the shard has the fill value's length
pub fits_in : (size : ℕ) (fill : List ℕ) (positions p : ℕ) (o : Option Array) → length fill ≡ size → IsPartOf (Fixed size) positions o → p < positions → length (element_at fill o p) ≡ size
fits_in size fill positions p None long h lt = long
fits_in size fill positions p (Some a) long h lt = All-get_or (λ e. length e ≡ size) a.elements p [] (omega (arith, h.0)) h.1

-- the subchunks below k are laid where their subsets lie, and where a later one is absent the fill value stands
pub record IsFilledTo (chunks : List (Option Array)) (fill shape sub : List ℕ) (size k : ℕ) (bytes : List ℕ) : Type 0 where
  pub done : (i : ℕ) → i < count_of shape → subchunk_number shape sub i < k → piece size bytes i ≡ element_in chunks fill shape sub i
  pub left : (i : ℕ) → i < count_of shape → k ≤ subchunk_number shape sub i → get_or chunks (subchunk_number shape sub i) None ≡ None → piece size bytes i ≡ fill

module _ (chunks : List (Option Array)) (fill shape sub : List ℕ) (divides : Divides sub shape) where
  -- the element at a place of subchunk k
  element_at_cell : (k p : ℕ) → k < count_of (grid_of shape sub) → p < count_of sub → element_in chunks fill shape sub (cell_number shape sub k p) ≡ element_at fill (get_or chunks k None) p
  element_at_cell k p lk lp = rw (subchunk_number-cell_number shape sub divides k p lk lp, position_number-cell_number shape sub divides k p lk lp) refl

  -- one subchunk more, which is one run of the cells, end to end with those before it
  pub appended_run : (kind : DataTypeSize) (k : ℕ) (bytes part more : List ℕ) → ((p : ℕ) → p < count_of sub → cell_number shape sub k p ≡ k * count_of sub + p)
      → k < count_of (grid_of shape sub)
      → IsPartOf kind (count_of sub) (get_or chunks k None) → bytes ≡ concat (map (element_in chunks fill shape sub) (range_with_len 0 (k * count_of sub)))
      → part ≡ concat (elements_in fill (count_of sub) (get_or chunks k None)) → more ≡ bytes ++ part
      → more ≡ concat (map (element_in chunks fill shape sub) (range_with_len 0 ((k + 1) * count_of sub)))
  appended_run kind k bytes part more run lk is_part so_far is grown =
      let f : ℕ → List ℕ = element_in chunks fill shape sub in
      let positions = count_of sub in
      let o = get_or chunks k None in
      let from = 0 + k * positions in
      let last : map f (range_with_len from positions) ≡ elements_in fill positions o =
      ext_get_or [] _ _ (length-map-range_with_len f from positions ∙ sym (length-elements_in kind fill positions o is_part)) (λ p below.
      let lp : p < positions = omega (arith, length-map-range_with_len f from positions) in
      let cell : cell_number shape sub k p ≡ from + p = run p lp ∙ omega arith in
      get_or-map-range_with_len f from positions p (from + p) [] lp refl
      ∙ (ap f (sym cell) ∙ (element_at_cell k p lk lp ∙ sym (get_or-elements_in fill positions p o lp)))) in
      let split : (k + 1) * positions ≡ k * positions + positions = omega arith in
      let all : map f (range_with_len 0 ((k + 1) * positions)) ≡ map f (range_with_len 0 (k * positions)) ++ elements_in fill positions o =
      rw (split, range_split 0 (k * positions) positions) (map-append f (range_with_len 0 (k * positions)) (range_with_len from positions) ∙ ap (λ t. map f (range_with_len 0 (k * positions)) ++ t) last) in
      grown ∙ (ap (λ t. t ++ part) so_far ∙ (ap (λ t. concat (map f (range_with_len 0 (k * positions))) ++ t) is
      ∙ (sym (concat-append (map f (range_with_len 0 (k * positions))) (elements_in fill positions o)) ∙ ap concat (sym all))))

  -- the same where all axes but the first are whole
  pub appended_more : (kind : DataTypeSize) (k : ℕ) (bytes part more : List ℕ) → drop 1 shape ≡ drop 1 sub → 0 < length shape → 0 < count_of shape → k < count_of (grid_of shape sub)
      → IsPartOf kind (count_of sub) (get_or chunks k None) → bytes ≡ concat (map (element_in chunks fill shape sub) (range_with_len 0 (k * count_of sub)))
      → part ≡ concat (elements_in fill (count_of sub) (get_or chunks k None)) → more ≡ bytes ++ part
      → more ≡ concat (map (element_in chunks fill shape sub) (range_with_len 0 ((k + 1) * count_of sub)))
  appended_more kind k bytes part more same axes some =
      appended_run kind k bytes part more (λ p lp. sym (number_in-subset_of_subchunk shape sub k p) ∙ contiguous_number shape sub k p divides same axes some)

  -- a cell of another subchunk is at no place of this one
  elsewhere : (k i many : ℕ) → k < count_of (grid_of shape sub) → many ≤ count_of sub → subchunk_number shape sub i ≢ k → (p : ℕ) → p < many → cell_number shape sub k p ≢ i
  elsewhere k i many lk most apart p lp e =
      apart (ap (subchunk_number shape sub) (sym e) ∙ subchunk_number-cell_number shape sub divides k p lk (omega arith))

  few_there : (o : Option Array) → positions_there (count_of sub) o ≤ count_of sub
  few_there None = omega arith
  few_there (Some a) = omega arith

  -- what stands at a cell of subchunk k
  filled_here : (size k i : ℕ) (o : Option Array) (old new : List ℕ) → i < count_of shape → subchunk_number shape sub i ≡ k
      → (o ≡ None → piece size old i ≡ fill) → IsUpdated (positions_there (count_of sub) o) (cell_number shape sub k) (piece size old) (element_at [] o) (piece size new)
      → piece size new i ≡ element_at fill o (position_number shape sub i)
  filled_here size k i None old new li at absent wrote = wrote.outside i (λ p lp. absurd (omega arith)) ∙ absent refl
  filled_here size k i (Some a) old new li at absent wrote =
      let p = position_number shape sub i in
      let cell : cell_number shape sub k p ≡ i = ap (λ j. cell_number shape sub j p) (sym at) ∙ cell_number-located shape sub divides i li in
      ap (piece size new) (sym cell) ∙ wrote.inside p (position_number-below shape sub divides i li)

  pub filled_more : (size k : ℕ) (old new : List ℕ) → k < count_of (grid_of shape sub) → IsFilledTo chunks fill shape sub size k old
      → IsUpdated (positions_there (count_of sub) (get_or chunks k None)) (cell_number shape sub k) (piece size old) (element_at [] (get_or chunks k None)) (piece size new)
      → IsFilledTo chunks fill shape sub size (k + 1) new
  filled_more size k old new lk known wrote =
      let o = get_or chunks k None in
      record {
        done = λ i li lt. elim (cases_lt (subchunk_number shape sub i) k) [
          | inl below ↦ wrote.outside i (elsewhere k i (positions_there (count_of sub) o) lk (few_there o) (λ e. omega arith)) ∙ known.done i li below
          | inr past ↦
              let at : subchunk_number shape sub i ≡ k = omega arith in
              let here = filled_here size k i o old new li at (λ none. known.left i li past (rw at none)) wrote in
              here ∙ ap (λ j. element_at fill (get_or chunks j None) (position_number shape sub i)) (sym at)
        ];
        left = λ i li past none.
            wrote.outside i (elsewhere k i (positions_there (count_of sub) o) lk (few_there o) (λ e. omega arith)) ∙ known.left i li (omega arith) none;
      }

  -- when all are laid, the bytes are those of the shard's elements
  pub filled_all : (size n : ℕ) (bytes : List ℕ) → n ≡ count_of (grid_of shape sub) → length bytes ≡ count_of shape * size → IsFilledTo chunks fill shape sub size n bytes
      → bytes ≡ concat (map (element_in chunks fill shape sub) (range_with_len 0 (count_of shape)))
  filled_all size n bytes is long known =
      sym (concat-pieces size (count_of shape) bytes long)
      ∙ ap concat (map_range_same (piece size bytes) (element_in chunks fill shape sub) (count_of shape) []
      (λ i li. known.done i li (omega (arith, subchunk_number-below shape sub divides i li))))

  -- each element of the shard fits
  pub elements_fit : (size : ℕ) → length fill ≡ size → AreChunks (Fixed size) sub (count_of (grid_of shape sub)) chunks
      → All (λ e. length e ≡ size) (map (element_in chunks fill shape sub) (range_with_len 0 (count_of shape)))
  elements_fit size long are =
      let f : ℕ → List ℕ = element_in chunks fill shape sub in
      All-from_get_or (λ e. length e ≡ size) (map f (range_with_len 0 (count_of shape))) [] (λ i lt.
      let li : i < count_of shape = omega (arith, length-map-range_with_len f 0 (count_of shape)) in
      let k = subchunk_number shape sub i in
      rw (get_or-map-range_with_len f 0 (count_of shape) i i [] li (omega arith))
      (fits_in size fill (count_of sub) (position_number shape sub i) (get_or chunks k None) long (are.each k (subchunk_number-below shape sub divides i li)) (position_number-below shape sub divides i li)))

-- a decoded subchunk's elements, laid end to end, are cut at its places
pub filled_pieces : (size positions p : ℕ) (a : Array) → IsPartOf (Fixed size) positions (Some a) → p < positions → piece size (concat a.elements) p ≡ element_at [] (Some a) p
filled_pieces size positions p a h lt = piece_of-concat size a.elements p h.1 (omega (arith, h.0))

-- so many fill values, end to end
pub filled : (size n : ℕ) (bytes fill : List ℕ) → length bytes ≡ n * size → pieces size n bytes ≡ replicate n fill → bytes ≡ concat (replicate n fill)
filled size n bytes fill long each = sym (concat-pieces size n bytes long) ∙ ap concat each

pub filled_piece : (size n i : ℕ) (bytes fill : List ℕ) → i < n → pieces size n bytes ≡ replicate n fill → piece size bytes i ≡ fill
filled_piece size n i bytes fill lt each =
    sym (piece_of-pieces size n bytes i lt) ∙ (ap (λ xs. get_or xs i []) each ∙ get_or-replicate n i fill [] lt)

-- before the first subchunk
pub filled_none : (chunks : List (Option Array)) (fill shape sub : List ℕ) (size : ℕ) (bytes : List ℕ) → Divides sub shape → length chunks ≡ count_of (grid_of shape sub)
    → ((k i : ℕ) → k < length chunks → get_or chunks k None ≡ None → i < count_of shape → piece size bytes i ≡ fill) → IsFilledTo chunks fill shape sub size 0 bytes
filled_none chunks fill shape sub size bytes divides many absent = record {
  done = λ i li lt. absurd (omega arith);
  left = λ i li past none. absent (subchunk_number shape sub i) i (omega (arith, many, subchunk_number-below shape sub divides i li)) none li;
}

-- the grid of a shape that is divided is refused only for memory
pub grid_refused : (shape sub : List ℕ) (e : CodecError) → Divides sub shape → RefusedBy (GridRefusals shape sub) e → e ≡ OutOfMemory
grid_refused shape sub e divides h =
    let same = sym (length_all_zip (λ part axis. axis % part ≡ 0) sub shape divides) in
    elim h [
      | inl memory ↦ memory
      | inr refusals ↦ elim refusals [
        | inl other ↦ absurd (other.0 same)
        | inr after ↦ elim after.1 [
          | inl uneven ↦ absurd (uneven.0 divides)
          | inr nothing ↦ absurd nothing.1
        ]
      ]
    ]
