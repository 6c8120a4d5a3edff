-- A subset of a shard that is put into a target, subchunk by subchunk.
use Rattle.std.proofs.Common.{◌≡◌, ◌≢◌, ℕ, ◌+◌, ◌<◌, List, [], Option, Some, None, inl, inr, length, map, get_or, refl, sym, ap, subst, ◌∙◌, arith}
use Rattle.std.proofs.lemmas.Bool.{cases_lt}
use Rattle.std.proofs.lemmas.List.FromFn.{get_or-map-range_with_len}
use Rattle.std.specs.List.{range_with_len}
use Rattle.parts_errors.specs.Words.{CellsOf}
use Rattle.parts_row_major.specs.Numbering.{count_of}
use Rattle.parts_row_major.specs.Subsets.{Subset, IsSubset, LiesIn, number_in, numbers_in}
use Rattle.parts_row_major.specs.Pieces.{piece, IsUpdated}
use Rattle.parts_subsets.specs.Grid.{Divides, grid_of, subchunk_number, position_number, cell_number}
use Rattle.parts_subsets.specs.Touched.{AreTouched}
use Rattle.parts_arrays.specs.declared.target.FixedTarget.{FixedTarget}
use Rattle.parts_arrays.specs.Targets.{target_bytes, target_element_size, target_shape, target_subset}
use Rattle.parts_row_major.proofs.PieceLaws.{same_point, number_in_below, map-map, map_range_same}
use Rattle.parts_subsets.proofs.GridLaws.{position_number-below, cell_number-located, subchunk_number-cell_number}
use Rattle.codec_traits.specs.Reads.{IsDecodedInto, IsOverwritten}
use Rattle.sharding_format.specs.Index.{slot_at}
use Rattle.sharding_format.specs.Cells.{cell_in, indexed_cell}
use Rattle.sharding_format.specs.declared.slot.Slot.{Slot}
use Rattle.sharding_gather.specs.SubchunkOverlaps.{IsSubchunkOverlap}
use Rattle.sharding_gather.specs.steps.Placings.{shifted_subset}
use Rattle.sharding_gather.proofs.PlacingLemmas.{placed_point}
use Rattle.sharding_subchunks.specs.steps.Writes.{IsPartPut}

-- the element of a target at a point of its subset
abbrev pub element_at_point : (first target : FixedTarget) (size q : ℕ) → List ℕ
element_at_point first target size q = piece size (target_bytes target).now (number_in (target_subset first) (target_shape first) q)

-- cells that were put are those of places that are the same
pub part_put_at : {told : Type 0} {inner_cells : CellsOf} {fill b : List ℕ} {slot : Slot} {many other : ℕ} {from there : ℕ → ℕ} {position : Subset} {old new : FixedTarget} → many ≡ other
    → ((r : ℕ) → r < other → from r ≡ there r) → IsPartPut told inner_cells fill b slot many from position old new → IsPartPut told inner_cells fill b slot other there position old new
part_put_at {inner_cells = inner_cells} {fill = fill} {b = b} {slot = slot} counted same put = record {
  element = put.element;
  cells = λ t r lt. ap (cell_in inner_cells fill b slot) (sym (same r lt)) ∙ put.cells t r (omega (arith, lt, counted));
  written = put.written;
}

-- the touched subchunks before j were put into a target where they meet the subset
pub record IsSubsetPut (told : Type 0) (inner_cells : CellsOf) (shape sub fill b index : List ℕ) (len : ℕ) (subset : Subset) (touched : List ℕ) (j : ℕ) (first new : FixedTarget) : Type 0 where
  pub reference : (target_bytes new).ghost_name ≡ (target_bytes first).ghost_name
  pub element_size : target_element_size new ≡ target_element_size first
  pub axes : target_shape new ≡ target_shape first
  pub position : target_subset new ≡ target_subset first
  pub whole : length (target_bytes new).now ≡ length (target_bytes first).now
  pub others : (i : ℕ) → ((q : ℕ) → q < count_of subset.shape → number_in (target_subset first) (target_shape first) q ≢ i) → piece (length fill) (target_bytes new).now i ≡ piece (length fill) (target_bytes first).now i
  pub done : told → (i q : ℕ) → i < j → q < count_of subset.shape → subchunk_number shape sub (number_in subset shape q) ≡ get_or touched i 0
      → cell_in inner_cells fill b (slot_at len index (get_or touched i 0)) (position_number shape sub (number_in subset shape q)) ≡ Some (element_at_point first new (length fill) q)

-- a target of which some were put was overwritten by some elements
pub subset_put_written : {told : Type 0} {inner_cells : CellsOf} {shape sub fill b index : List ℕ} {len : ℕ} {subset : Subset} {touched : List ℕ} {j : ℕ} {first new : FixedTarget}
    → target_element_size first ≡ length fill → (target_subset first).shape ≡ subset.shape → IsSubsetPut told inner_cells shape sub fill b index len subset touched j first new → IsOverwritten first new
subset_put_written {fill = fill} {subset = subset} {first = first} {new = new} sized shaped known =
    let many = count_of subset.shape in
    let all : count_of (target_subset first).shape ≡ many = ap count_of shaped in
    let elements = map (element_at_point first new (length fill)) (range_with_len 0 many) in
    let element : ℕ → List ℕ = λ q. get_or elements q [] in
    let wrote : IsUpdated many (number_in (target_subset first) (target_shape first)) (piece (length fill) (target_bytes first).now) element (piece (length fill) (target_bytes new).now) = record {
      inside = λ q lt. sym (get_or-map-range_with_len (element_at_point first new (length fill)) 0 many q q [] lt (omega arith));
      outside = λ i none. known.others i none;
    } in (
      elements,
      record {
        reference = known.reference;
        element_size = known.element_size;
        shape = known.axes;
        subset = known.position;
        length = known.whole;
        elements = subst (λ n. IsUpdated (count_of (target_subset first).shape) (number_in (target_subset first) (target_shape first)) (piece n (target_bytes first).now) element (piece n (target_bytes new).now)) (sym sized)
            (subst (λ n. IsUpdated n (number_in (target_subset first) (target_shape first)) (piece (length fill) (target_bytes first).now) element (piece (length fill) (target_bytes new).now)) (sym all) wrote);
      },
    )

module _ (told : Type 0) (inner_cells : CellsOf) (shape sub fill b index : List ℕ) (len : ℕ) (subset : Subset) (touched : List ℕ) (first : FixedTarget)
    (divides : Divides sub shape) (inside : LiesIn subset shape) (are : AreTouched shape sub subset touched) (sized : target_element_size first ≡ length fill) (shaped : (target_subset first).shape ≡ subset.shape) where
  -- before the first
  pub subset_put_none : IsSubsetPut told inner_cells shape sub fill b index len subset touched 0 first first
  subset_put_none = record {
    reference = refl;
    element_size = refl;
    axes = refl;
    position = refl;
    whole = refl;
    others = λ i none. refl;
    done = λ t i q lt. absurd (omega (arith, lt));
  }

  module _ (j : ℕ) (lt : j < length touched) (below : get_or touched j 0 < count_of (grid_of shape sub)) (in_subchunk in_subset position : Subset) (m : IsSubchunkOverlap shape sub subset (get_or touched j 0) in_subchunk in_subset)
      (old new : FixedTarget) (well : IsSubset (target_subset first).start (target_subset first).shape) (lies : LiesIn (target_subset first) (target_shape first)) (is : position ≡ shifted_subset (target_subset first) in_subset)
      (put : IsPartPut told inner_cells fill b (slot_at len index (get_or touched j 0)) (count_of in_subchunk.shape) (number_in in_subchunk sub) position old new)
      (known : IsSubsetPut told inner_cells shape sub fill b index len subset touched j first old) where
    abbrev k : ℕ
    k = get_or touched j 0

    abbrev point : ℕ → ℕ
    point = number_in (target_subset first) (target_shape first)

    -- where a cell that both have goes
    there : (r : ℕ) → r < count_of in_subchunk.shape → number_in position (target_shape first) r ≡ point (number_in in_subset subset.shape r)
    there r lr =
        let small : r < count_of in_subset.shape = omega (arith, lr, ap count_of m.same_shape) in
        ap (λ (p : Subset). number_in p (target_shape first) r) is
        ∙ (placed_point (target_subset first) in_subset (target_shape first) r (subst (LiesIn in_subset) (sym shaped) m.subset_inside) small
        ∙ ap (λ (axes : List ℕ). point (number_in in_subset axes r)) shaped)

    in_subset_below : (r : ℕ) → r < count_of in_subchunk.shape → number_in in_subset subset.shape r < count_of subset.shape
    in_subset_below r lr = number_in_below in_subset subset.shape r m.subset_inside (omega (arith, lr, ap count_of m.same_shape))

    wrote : IsUpdated (count_of in_subchunk.shape) (number_in position (target_shape first)) (piece (length fill) (target_bytes old).now) put.element (piece (length fill) (target_bytes new).now)
    wrote =
        let counted : count_of position.shape ≡ count_of in_subchunk.shape = ap (λ (p : Subset). count_of p.shape) is ∙ sym (ap count_of m.same_shape) in
        rw (known.element_size ∙ sized, known.axes, counted) at put.written.elements

    -- a cell of another subchunk is not overwritten
    kept : (q : ℕ) → q < count_of subset.shape → subchunk_number shape sub (number_in subset shape q) ≢ k → element_at_point first new (length fill) q ≡ element_at_point first old (length fill) q
    kept q lq other = wrote.outside (point q) (λ r lr e.
        let all : count_of (target_subset first).shape ≡ count_of subset.shape = ap count_of shaped in
        let same : number_in in_subset subset.shape r ≡ q =
        same_point (target_subset first) (target_shape first) (number_in in_subset subset.shape r) q well lies (omega (arith, in_subset_below r lr, all)) (omega (arith, lq, all)) (sym (there r lr) ∙ e) in
        other (
        ap (λ i. subchunk_number shape sub (number_in subset shape i)) (sym same)
        ∙ (ap (subchunk_number shape sub) (sym (m.one_cell r lr)) ∙ subchunk_number-cell_number shape sub divides k (number_in in_subchunk sub r) below (number_in_below in_subchunk sub r m.sub_inside lr))))

    put_here : told → (q : ℕ) → q < count_of subset.shape → subchunk_number shape sub (number_in subset shape q) ≡ k
        → cell_in inner_cells fill b (slot_at len index k) (position_number shape sub (number_in subset shape q)) ≡ Some (element_at_point first new (length fill) q)
    put_here t q lq at =
        let i = number_in subset shape q in
        let li = number_in_below subset shape q inside lq in
        let cell : cell_number shape sub k (position_number shape sub i) ≡ i = ap (λ s. cell_number shape sub s (position_number shape sub i)) (sym at) ∙ cell_number-located shape sub divides i li in
        let met = m.met (position_number shape sub i) q (position_number-below shape sub divides i li) lq cell in
        ap (cell_in inner_cells fill b (slot_at len index k)) (sym met.2)
        ∙ (put.cells t met.0 met.1
        ∙ ap Some (sym (wrote.inside met.0 met.1) ∙ ap (piece (length fill) (target_bytes new).now) (there met.0 met.1 ∙ ap point met.3)))

    -- one more
    pub subset_put_more : IsSubsetPut told inner_cells shape sub fill b index len subset touched (j + 1) first new
    subset_put_more = record {
      reference = put.written.reference ∙ known.reference;
      element_size = put.written.element_size ∙ known.element_size;
      axes = put.written.shape ∙ known.axes;
      position = put.written.subset ∙ known.position;
      whole = put.written.length ∙ known.whole;
      others = λ i none. wrote.outside i (λ r lr e. none (number_in in_subset subset.shape r) (in_subset_below r lr) (sym (there r lr) ∙ e)) ∙ known.others i none;
      done = λ t i q li lq at. elim (cases_lt i j) [
        | inl before ↦ known.done t i q before lq at ∙ ap Some (sym (kept q lq (λ e. omega (arith, are.rising i j before lt, at, e))))
        | inr after ↦
            let this : i ≡ j = omega (arith, li, after) in
            rw this (put_here t q lq (at ∙ ap (λ n. get_or touched n 0) this))
      ];
    }

  -- when all are put, the target's subset has the requested cells
  pub subset_put_all : (n : ℕ) (new : FixedTarget) → n ≡ length touched → len ≡ length b → told → IsSubsetPut told inner_cells shape sub fill b index len subset touched n first new
      → IsDecodedInto first new (map (indexed_cell inner_cells shape sub fill b index) (numbers_in subset shape))
  unfolding subset_put_written
  subset_put_all n new all long t known =
      let cell : ℕ → Option (List ℕ) = indexed_cell inner_cells shape sub fill b index in
      let at = element_at_point first new (length fill) in
      let positions = range_with_len 0 (count_of subset.shape) in
      let over = subset_put_written sized shaped known in
      record {
        elements = over.0;
        there = map-map cell (number_in subset shape) positions
            ∙ (map_range_same (λ q. cell (number_in subset shape q)) (λ q. Some (at q)) (count_of subset.shape) None (λ q lq.
            let found = are.all (subchunk_number shape sub (number_in subset shape q)) (q, lq, refl) in
            let stands = known.done t found.0 q (omega (arith, found.1, all)) lq (sym found.2) in
            rw (found.2, long) at stands)
            ∙ sym (map-map Some at positions));
        written = over.1;
      }
