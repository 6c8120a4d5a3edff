-- A subset that is read subchunk by subchunk, each where both meet.
use Rattle.std.proofs.Common.{◌≡◌, ◌≢◌, ℕ, ◌+◌, ◌*◌, ◌/◌, ◌<◌, ◌≤◌, List, [], Option, Some, None, IsTrue, inl, inr, length, map, get_or, refl, sym, ap, ◌∙◌, arith}
use Rattle.std.proofs.lemmas.Bool.{cases_lt, cases_eq}
use Rattle.std.specs.List.{range_with_len}
use Rattle.parts_errors.specs.Order.{RefusedBy}
use Rattle.parts_errors.specs.Words.{Refusals}
use Rattle.parts_errors.specs.declared.error.CodecError.{CodecError}
use Rattle.parts_row_major.specs.Numbering.{count_of}
use Rattle.parts_row_major.specs.Subsets.{Subset, IsSubset, LiesIn, number_in, numbers_in}
use Rattle.parts_row_major.specs.Pieces.{piece, pieces, IsUpdated}
use Rattle.parts_subsets.specs.Grid.{Divides, grid_of, subchunk_number, position_number, cell_number}
use Rattle.parts_subsets.specs.Touched.{AreTouched}
use Rattle.parts_arrays.specs.Arrays.{Array, fixed_array}
use Rattle.parts_row_major.proofs.PieceLaws.{number_in_below, map-map, map_range_same}
use Rattle.parts_subsets.proofs.TouchedLaws.{whole_quotient}
use Rattle.parts_subsets.proofs.GridLaws.{position_number-below, cell_number-located, subchunk_number-cell_number}
use Rattle.storage_handles.specs.declared.bytes.Interval.{Interval}
use Rattle.storage_handles.specs.Handles.{HandleState, IsRead}
use Rattle.storage_handles.specs.Objects.{interval_part, HasInterval, ObjectRefusals}
use Rattle.codec_traits.proofs.ReadLemmas.{length-interval_part}
use Rattle.sharding_format.specs.Index.{slot_at}
use Rattle.sharding_format.specs.Cells.{cell_in, indexed_cell}
use Rattle.sharding_format.specs.steps.Decoding.{element_at}
use Rattle.sharding_format.specs.ReadRefusals.{positions_in, HasPositions, RefusesPositions, PositionsRefusals}
use Rattle.sharding_format.specs.steps.Reading.{IsReadAt}
use Rattle.sharding_format.specs.declared.slot.Slot.{Slot}
use Rattle.sharding_format.specs.declared.slot.Slot.TheVariants.{Absent, InRange, Bad}
use Rattle.sharding_gather.specs.steps.Gathering.{positions_there}
use Rattle.sharding_gather.specs.SubchunkOverlaps.{IsSubchunkOverlap}
use Rattle.sharding_gather.proofs.GatherLemmas.{cell_of_part}
use Rattle.sharding_gather.proofs.ReadGroupLemmas.{is_empty, unused, there}
use Rattle.sharding_gather.proofs.MetPositions.{positions_met, touched_from_requested, numbers_at, numbers_counted}

-- the touched subchunks before j have been read where they meet the subset, and where a later one is absent the fill value stands
pub record IsReadTo (inner_cells : List ℕ → List (Option (List ℕ))) (shape sub fill b index : List ℕ) (subset : Subset) (touched : List ℕ) (len j : ℕ) (bytes : List ℕ) : Type 0 where
  pub held : (i : ℕ) → i < j → HasPositions inner_cells b (slot_at len index (get_or touched i 0)) (positions_in shape sub (numbers_in subset shape) (get_or touched i 0))
  pub done : (i q : ℕ) → i < j → q < count_of subset.shape → subchunk_number shape sub (number_in subset shape q) ≡ get_or touched i 0
      → cell_in inner_cells fill b (slot_at len index (get_or touched i 0)) (position_number shape sub (number_in subset shape q)) ≡ Some (piece (length fill) bytes q)
  pub left : (i q : ℕ) → j ≤ i → i < length touched → q < count_of subset.shape → subchunk_number shape sub (number_in subset shape q) ≡ get_or touched i 0
      → slot_at len index (get_or touched i 0) ≡ Absent → piece (length fill) bytes q ≡ fill

-- before the first
pub read_none : (inner_cells : List ℕ → List (Option (List ℕ))) (shape sub fill b index : List ℕ) (subset : Subset) (touched : List ℕ) (len : ℕ) (bytes : List ℕ)
    → ((i q : ℕ) → i < length touched → slot_at len index (get_or touched i 0) ≡ Absent → q < count_of subset.shape → piece (length fill) bytes q ≡ fill)
    → IsReadTo inner_cells shape sub fill b index subset touched len 0 bytes
read_none inner_cells shape sub fill b index subset touched len bytes blank = record {
  held = λ i lt. absurd (omega (arith, lt));
  done = λ i q lt. absurd (omega (arith, lt));
  left = λ i q le lt below at absent. blank i q lt absent below;
}

few_there : (n : ℕ) (part : Option Array) (r : ℕ) → r < positions_there n part → r < n
few_there n None r lt = absurd (omega (arith, lt))
few_there n (Some a) r lt = lt

-- what stands at a cell whose place was read
stands_here : (inner_cells : List ℕ → List (Option (List ℕ))) (fill b : List ℕ) (s : Slot) (part : Option Array) (positions : List ℕ) (r p q n : ℕ) (at : ℕ → ℕ) (old new : List ℕ)
    → IsReadAt inner_cells b s positions part → r < length positions → get_or positions r 0 ≡ p → r < n → at r ≡ q → (s ≡ Absent → piece (length fill) old q ≡ fill)
    → IsUpdated (positions_there n part) at (piece (length fill) old) (element_at [] part) (piece (length fill) new)
    → cell_in inner_cells fill b s p ≡ Some (piece (length fill) new q)
stands_here inner_cells fill b s (Some a) positions r p q n at old new read lt is below there blank wrote =
    ap (cell_in inner_cells fill b s) (sym is) ∙ cell_of_part inner_cells fill b s positions (Some a) r read lt
    ∙ ap Some (sym (wrote.inside r below) ∙ ap (piece (length fill) new) there)
stands_here inner_cells fill b Absent None positions r p q n at old new read lt is below there blank wrote =
    ap Some (sym (wrote.outside q (λ k lk. absurd (omega (arith, lk))) ∙ blank refl))
stands_here inner_cells fill b (InRange offset size) None positions r p q n at old new read lt is below there blank wrote = absurd read
stands_here inner_cells fill b Bad None positions r p q n at old new read lt is below there blank wrote = absurd read

module _ (inner_cells : List ℕ → List (Option (List ℕ))) (shape sub fill b index : List ℕ) (subset : Subset) (touched : List ℕ) (len : ℕ)
    (divides : Divides sub shape) (well : IsSubset subset.start subset.shape) (inside : LiesIn subset shape) (are : AreTouched shape sub subset touched) where
  earlier : (i j : ℕ) → i < length touched → j < length touched → get_or touched i 0 < get_or touched j 0 → i < j
  earlier i j i_below j_below lower =
      elim (cases_lt i j) [
        | inl less ↦ less
        | inr ge ↦ elim (cases_eq i j) [
          | inl same ↦ absurd (omega (arith, lower, ap (λ n. get_or touched n 0) same))
          | inr other ↦ absurd (omega (arith, lower, are.rising j i (omega (arith, ge, other)) i_below))
        ]
      ]

  -- what is asked of the subchunks before one that is read is there
  pub held_before : (j : ℕ) (bytes : List ℕ) → j < length touched → IsReadTo inner_cells shape sub fill b index subset touched len j bytes
      → (k : ℕ) → k < get_or touched j 0 → HasPositions inner_cells b (slot_at len index k) (positions_in shape sub (numbers_in subset shape) k)
  held_before j bytes below known k lower =
      elim (is_empty (positions_in shape sub (numbers_in subset shape) k)) [
        | inl none ↦ unused inner_cells b (slot_at len index k) (positions_in shape sub (numbers_in subset shape) k) none
        | inr some ↦
            let found = are.all k (touched_from_requested shape sub subset k some) in
            let first : found.0 < j = earlier found.0 j found.1 below (omega (arith, found.2, lower)) in
            rw found.2 at (known.held found.0 first)
      ]

  -- after the last all that is asked is there
  pub held_all : (n : ℕ) (bytes : List ℕ) → n ≡ length touched → IsReadTo inner_cells shape sub fill b index subset touched len n bytes
      → (k : ℕ) → HasPositions inner_cells b (slot_at len index k) (positions_in shape sub (numbers_in subset shape) k)
  held_all n bytes all known k =
      elim (is_empty (positions_in shape sub (numbers_in subset shape) k)) [
        | inl none ↦ unused inner_cells b (slot_at len index k) (positions_in shape sub (numbers_in subset shape) k) none
        | inr some ↦
            let found = are.all k (touched_from_requested shape sub subset k some) in
            rw found.2 at (known.held found.0 (omega (arith, found.1, all)))
      ]

  module _ (j : ℕ) (lt : j < length touched) (below : get_or touched j 0 < count_of (grid_of shape sub)) (in_subchunk in_subset : Subset) (m : IsSubchunkOverlap shape sub subset (get_or touched j 0) in_subchunk in_subset)
      (part : Option Array) (old new : List ℕ) (read : IsReadAt inner_cells b (slot_at len index (get_or touched j 0)) (numbers_in in_subchunk sub) part)
      (wrote : IsUpdated (positions_there (count_of in_subset.shape) part) (number_in in_subset subset.shape) (piece (length fill) old) (element_at [] part) (piece (length fill) new))
      (known : IsReadTo inner_cells shape sub fill b index subset touched len j old) where
    abbrev k : ℕ
    k = get_or touched j 0

    -- a cell of another subchunk is at no place of this part
    kept : (q : ℕ) → subchunk_number shape sub (number_in subset shape q) ≢ k → piece (length fill) new q ≡ piece (length fill) old q
    kept q other = wrote.outside q (λ r lr e.
        let small : r < count_of in_subchunk.shape = omega (arith, few_there (count_of in_subset.shape) part r lr, ap count_of m.same_shape) in
        other (
        ap (λ i. subchunk_number shape sub (number_in subset shape i)) (sym e)
        ∙ (ap (subchunk_number shape sub) (sym (m.one_cell r small)) ∙ subchunk_number-cell_number shape sub divides k (number_in in_subchunk sub r) below (number_in_below in_subchunk sub r m.sub_inside small))))

    placed : (q : ℕ) → q < count_of subset.shape → subchunk_number shape sub (number_in subset shape q) ≡ k
        → cell_in inner_cells fill b (slot_at len index k) (position_number shape sub (number_in subset shape q)) ≡ Some (piece (length fill) new q)
    placed q lq at =
        let i = number_in subset shape q in
        let li = number_in_below subset shape q inside lq in
        let cell : cell_number shape sub k (position_number shape sub i) ≡ i = ap (λ s. cell_number shape sub s (position_number shape sub i)) (sym at) ∙ cell_number-located shape sub divides i li in
        let met = m.met (position_number shape sub i) q (position_number-below shape sub divides i li) lq cell in
        stands_here inner_cells fill b (slot_at len index k) part (numbers_in in_subchunk sub) met.0 (position_number shape sub i) q (count_of in_subset.shape) (number_in in_subset subset.shape) old new read
        (omega (arith, met.1, numbers_counted in_subchunk sub)) (numbers_at in_subchunk sub met.0 0 met.1 ∙ met.2) (omega (arith, met.1, ap count_of m.same_shape)) met.3
        (λ absent. known.left j q (omega arith) lt lq at absent) wrote

    -- one more
    pub read_more : IsReadTo inner_cells shape sub fill b index subset touched len (j + 1) new
    read_more = record {
      held = λ i li. elim (cases_lt i j) [
        | inl before ↦ known.held i before
        | inr after ↦
            let this : i ≡ j = omega (arith, li, after) in
            let all = there inner_cells b (slot_at len index k) (numbers_in in_subchunk sub) part read in
            rw (this, positions_met shape sub subset k divides below well inside in_subchunk in_subset m) all
      ];
      done = λ i q li lq at. elim (cases_lt i j) [
        | inl before ↦ known.done i q before lq at ∙ ap Some (sym (kept q (λ e. omega (arith, are.rising i j before lt, at, e))))
        | inr after ↦
            let this : i ≡ j = omega (arith, li, after) in
            rw this (placed q lq (at ∙ ap (λ n. get_or touched n 0) this))
      ];
      left = λ i q le li lq at absent. kept q (λ e. omega (arith, are.rising j i (omega (arith, le)) li, at, e)) ∙ known.left i q (omega (arith, le)) li lq at absent;
    }

  -- when all are read, the pieces are the requested cells
  pub subset_read : (n : ℕ) (bytes : List ℕ) → n ≡ length touched → len ≡ length b → IsReadTo inner_cells shape sub fill b index subset touched len n bytes
      → map (indexed_cell inner_cells shape sub fill b index) (numbers_in subset shape) ≡ map Some (pieces (length fill) (count_of subset.shape) bytes)
  subset_read n bytes all long known =
      let cell : ℕ → Option (List ℕ) = indexed_cell inner_cells shape sub fill b index in
      let positions = range_with_len 0 (count_of subset.shape) in
      map-map cell (number_in subset shape) positions
      ∙ (map_range_same (λ q. cell (number_in subset shape q)) (λ q. Some (piece (length fill) bytes q)) (count_of subset.shape) None (λ q lq.
      let found = are.all (subchunk_number shape sub (number_in subset shape q)) (q, lq, refl) in
      let stands = known.done found.0 q (omega (arith, found.1, all)) lq (sym found.2) in
      rw (found.2, long) at stands)
      ∙ sym (map-map Some (piece (length fill) bytes) positions))

  -- the first touched subchunk that is refused
  pub refused_here : (inner_read : List ℕ → List (List ℕ) → CodecError → Type 0) (j : ℕ) (in_subchunk in_subset : Subset) (bytes : List ℕ) (later : Refusals) (e : CodecError) → len ≡ length b
      → j < length touched → get_or touched j 0 < count_of (grid_of shape sub) → IsSubchunkOverlap shape sub subset (get_or touched j 0) in_subchunk in_subset → IsReadTo inner_cells shape sub fill b index subset touched len j bytes
      → RefusesPositions inner_read inner_cells sub b (slot_at len index (get_or touched j 0)) (numbers_in in_subchunk sub) (get_or touched j 0) e
      → PositionsRefusals inner_read inner_cells shape sub b (Some index) (numbers_in subset shape) later e
  refused_here inner_read j in_subchunk in_subset bytes later e long lt below m known refused =
      let before = held_before j bytes lt known in
      let met = positions_met shape sub subset (get_or touched j 0) divides below well inside in_subchunk in_subset m in
      inl (get_or touched j 0, (below, rw long at before, rw (long, ← met) at refused))

-- the same, where the shard stands in an interval
pub met_refused : (inner_read : List ℕ → List (List ℕ) → CodecError → Type 0) (inner_cells : List ℕ → List (Option (List ℕ))) (shape sub fill index : List ℕ) (subset : Subset) (touched : List ℕ)
    → Divides sub shape → IsSubset subset.start subset.shape → LiesIn subset shape → AreTouched shape sub subset touched
    → (first old new : HandleState) (outer : Interval) (j : ℕ) (in_subchunk in_subset : Subset) (bytes : List ℕ) (later : Refusals) (e : CodecError) → IsRead first old → (IsTrue first.transparent → HasInterval outer first.contents)
    → j < length touched → get_or touched j 0 < count_of (grid_of shape sub) → IsSubchunkOverlap shape sub subset (get_or touched j 0) in_subchunk in_subset
    → (IsTrue first.transparent → IsReadTo inner_cells shape sub fill (interval_part outer first.contents) index subset touched outer.size j bytes)
    → RefusedBy (ObjectRefusals old new (RefusesPositions inner_read inner_cells sub (interval_part outer first.contents) (slot_at outer.size index (get_or touched j 0)) (numbers_in in_subchunk sub) (get_or touched j 0))) e
    → RefusedBy (ObjectRefusals first new (PositionsRefusals inner_read inner_cells shape sub (interval_part outer first.contents) (Some index) (numbers_in subset shape) later)) e
met_refused inner_read inner_cells shape sub fill index subset touched divides well inside are first old new outer j in_subchunk in_subset bytes later e since has lt below m known h =
    let b = interval_part outer first.contents in
    elim h [
      | inl memory ↦ inl memory
      | inr refused ↦ inr (λ t. elim (refused (rw since.transparent_same t)) [
        | inl fault ↦ inl (fault.0, omega (arith, since.faults_kept, fault.1))
        | inr positions ↦ inr (refused_here inner_cells shape sub fill b index subset touched outer.size divides well inside are inner_read j in_subchunk in_subset bytes later e
            (sym (length-interval_part outer first.contents (has t))) lt below m (known t) positions)
      ])
    ]

-- bytes of so many elements of one size are the array of their pieces
pub fixed_pieces : (size many : ℕ) (bytes : List ℕ) → 0 < size → length bytes ≡ many * size → (fixed_array size bytes).elements ≡ pieces size many bytes
fixed_pieces size many bytes some long = ap (λ n. pieces size n bytes) (ap (λ n. n / size) long ∙ whole_quotient many size some)
