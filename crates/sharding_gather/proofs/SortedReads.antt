-- Asked cells in the order of their subchunks, read subchunk by subchunk.
use Rattle.std.proofs.Common.{◌≡◌, ◌≢◌, ℕ, ◌+◌, ◌-◌, ◌*◌, ◌<◌, ◌≤◌, List, [], Option, Some, None, IsTrue, inl, inr, length, map, get_or, take, drop, refl, sym, ap, ◌∙◌, arith}
use Rattle.std.proofs.Math.Nat.{mul-le-mul_right}
use Rattle.std.proofs.lemmas.Bool.{cases_lt}
use Rattle.std.proofs.lemmas.List.{ext_get_or, length-take-le, length-drop, length-map, get_or-take, get_or-drop, get_or-map, get_or_default}
use Rattle.std.proofs.lemmas.List.Elements.{All-from_get_or, All-take, All-drop, All-map}
use Rattle.std.specs.List.{All}
use Rattle.parts_errors.specs.Order.{RefusedBy}
use Rattle.parts_errors.specs.Words.{Refusals}
use Rattle.parts_errors.specs.declared.error.CodecError.{CodecError}
use Rattle.parts_row_major.specs.Numbering.{count_of}
use Rattle.parts_row_major.specs.Pieces.{piece, pieces}
use Rattle.parts_subsets.specs.Grid.{Divides, grid_of, subchunk_number, position_number}
use Rattle.parts_arrays.specs.Arrays.{Array}
use Rattle.parts_row_major.proofs.PieceLaws.{piece_of-pieces, length-pieces}
use Rattle.parts_subsets.proofs.GridLaws.{subchunk_number-below, position_number-below}
use Rattle.storage_handles.specs.declared.bytes.Interval.{Interval}
use Rattle.storage_handles.specs.Handles.{HandleState, IsRead}
use Rattle.storage_handles.specs.Objects.{interval_part, HasInterval, ObjectRefusals}
use Rattle.codec_traits.proofs.ReadLemmas.{length-interval_part}
use Rattle.sharding_format.specs.Index.{slot_at}
use Rattle.sharding_format.specs.Cells.{cell_in, indexed_cell}
use Rattle.sharding_format.specs.steps.Decoding.{element_at}
use Rattle.sharding_format.specs.ReadRefusals.{positions_in, HasPositions, RefusesPositions, PositionsRefusals}
use Rattle.sharding_format.specs.steps.Reading.{IsReadAt}
use Rattle.sharding_format.specs.declared.slot.Slot.{Slot}
use Rattle.sharding_format.specs.declared.slot.Slot.TheVariants.{Absent, InRange, Bad}
use Rattle.sharding_gather.specs.steps.Gathering.{positions_there}
use Rattle.sharding_gather.specs.steps.Sorting.{requested_cell, requested_at, AreSorted, IsWritten}
use Rattle.sharding_gather.specs.declared.sorted.RequestedCell.{RequestedCell}
use Rattle.sharding_gather.proofs.GatherLemmas.{cell_of_part}
use Rattle.sharding_gather.proofs.GroupingLemmas.{member_from_requested}
use Rattle.sharding_gather.proofs.ReadGroupLemmas.{is_empty, unused, there}
use Rattle.sharding_gather.proofs.SortingLemmas.{cell_of, IsRun, run_positions}

-- the cells before place j have been read, whole subchunks of them, and at those after it the fill value stands
pub record IsReadSorted (inner_cells : List ℕ → List (Option (List ℕ))) (shape sub fill b index numbers : List ℕ) (requested : List RequestedCell) (len j : ℕ) (bytes : List ℕ) : Type 0 where
  pub lower : (i : ℕ) → i < j → j < length requested → (requested_at requested i).subchunk < (requested_at requested j).subchunk
  pub held : (i : ℕ) → i < j → HasPositions inner_cells b (slot_at len index (requested_at requested i).subchunk) (positions_in shape sub numbers (requested_at requested i).subchunk)
  pub done : (i : ℕ) → i < j → cell_in inner_cells fill b (slot_at len index (requested_at requested i).subchunk) (requested_at requested i).position ≡ Some (piece (length fill) bytes (requested_at requested i).rank)
  pub left : (i : ℕ) → j ≤ i → i < length requested → piece (length fill) bytes (requested_at requested i).rank ≡ fill

-- before the first
pub sorted_none : (inner_cells : List ℕ → List (Option (List ℕ))) (shape sub fill b index numbers : List ℕ) (requested : List RequestedCell) (len : ℕ) (bytes : List ℕ)
    → AreSorted shape sub numbers requested → ((i : ℕ) → i < length numbers → piece (length fill) bytes i ≡ fill) → IsReadSorted inner_cells shape sub fill b index numbers requested len 0 bytes
sorted_none inner_cells shape sub fill b index numbers requested len bytes sorted blank = record {
  lower = λ i lt. absurd (omega (arith, lt));
  held = λ i lt. absurd (omega (arith, lt));
  done = λ i lt. absurd (omega (arith, lt));
  left = λ i le lt. blank (requested_at requested i).rank (sorted.each i (cell_of 0 0 0) lt).0;
}

-- each requested cell is what its rank says
module _ (shape sub numbers : List ℕ) (requested : List RequestedCell) (sorted : AreSorted shape sub numbers requested) where
  pub rank_below : (i : ℕ) → i < length requested → (requested_at requested i).rank < length numbers
  rank_below i lt = (sorted.each i (cell_of 0 0 0) lt).0

  own_subchunk : (i : ℕ) → i < length requested → (requested_at requested i).subchunk ≡ subchunk_number shape sub (get_or numbers (requested_at requested i).rank 0)
  own_subchunk i lt = ap (λ (cell : RequestedCell). cell.subchunk) (sorted.each i (cell_of 0 0 0) lt).1

  own_position : (i : ℕ) → i < length requested → (requested_at requested i).position ≡ position_number shape sub (get_or numbers (requested_at requested i).rank 0)
  own_position i lt = ap (λ (cell : RequestedCell). cell.position) (sorted.each i (cell_of 0 0 0) lt).1

  -- cells of one rank are one
  same_subchunk : (i j : ℕ) → i < length requested → j < length requested → (requested_at requested i).rank ≡ (requested_at requested j).rank → (requested_at requested i).subchunk ≡ (requested_at requested j).subchunk
  same_subchunk i j li lj same = own_subchunk i li ∙ (ap (λ r. subchunk_number shape sub (get_or numbers r 0)) same ∙ sym (own_subchunk j lj))

  same_position : (i j : ℕ) → i < length requested → j < length requested → (requested_at requested i).rank ≡ (requested_at requested j).rank → (requested_at requested i).position ≡ (requested_at requested j).position
  same_position i j li lj same = own_position i li ∙ (ap (λ r. position_number shape sub (get_or numbers r 0)) same ∙ sym (own_position j lj))

  module _ (divides : Divides sub shape) (inside : All (λ number. number < count_of shape) numbers) where
    -- each lies in the grid
    pub requested_below : (i : ℕ) → i < length requested → (requested_at requested i).subchunk < count_of (grid_of shape sub)
    requested_below i lt =
        let below = subchunk_number-below shape sub divides (get_or numbers (requested_at requested i).rank 0) (inside (requested_at requested i).rank 0 (rank_below i lt)) in
        omega (arith, below, own_subchunk i lt)

    -- at a place of its subchunk
    pub positions_inside : (i n : ℕ) → All (λ p. p < count_of sub) (map (λ (cell : RequestedCell). cell.position) (take n (drop i requested)))
    positions_inside i n =
        let Inside : RequestedCell → Type 0 = λ cell. cell.position < count_of sub in
        let all : All Inside requested = All-from_get_or Inside requested (cell_of 0 0 0) (λ a lt.
        let below = position_number-below shape sub divides (get_or numbers (requested_at requested a).rank 0) (inside (requested_at requested a).rank 0 (rank_below a lt)) in
        omega (arith, below, own_position a lt)) in
        All-map (λ p. p < count_of sub) (λ (cell : RequestedCell). cell.position) (take n (drop i requested)) (All-take Inside n (drop i requested) (All-drop Inside i requested all))

  -- each rank has room in bytes of as many elements
  pub ranks_inside : (size many i n : ℕ) → many ≡ length numbers * size → All (λ (cell : RequestedCell). cell.rank * size + size ≤ many) (take n (drop i requested))
  ranks_inside size many i n long =
      let Inside : RequestedCell → Type 0 = λ cell. cell.rank * size + size ≤ many in
      let all : All Inside requested = All-from_get_or Inside requested (cell_of 0 0 0) (λ a lt. room (requested_at requested a).rank (length numbers) size many (rank_below a lt) long) in
      All-take Inside n (drop i requested) (All-drop Inside i requested all)
    where
      room : (r n size many : ℕ) → r < n → many ≡ n * size → r * size + size ≤ many
      room r n size many lt is = omega (arith, is, mul-le-mul_right {m = r + 1} {n = n} size (omega arith))

  module _ (inner_cells : List ℕ → List (Option (List ℕ))) (fill b index : List ℕ) (len : ℕ) where
    abbrev Known : ℕ → List ℕ → Type 0
    Known j bytes = IsReadSorted inner_cells shape sub fill b index numbers requested len j bytes

    -- what is asked of the subchunks before one that is read is there
    held_before : (j : ℕ) (bytes : List ℕ) → j < length requested → Known j bytes → (k : ℕ) → k < (requested_at requested j).subchunk → HasPositions inner_cells b (slot_at len index k) (positions_in shape sub numbers k)
    held_before j bytes lt known k lower =
        elim (is_empty (positions_in shape sub numbers k)) [
          | inl none ↦ unused inner_cells b (slot_at len index k) (positions_in shape sub numbers k) none
          | inr some ↦
              let found = requested_with k some in
              let first : found.0 < j = elim (cases_lt found.0 j) [
                | inl less ↦ less
                | inr ge ↦ absurd (omega (arith, sorted.rising j found.0 (cell_of 0 0 0) ge found.1, found.2, lower))
              ] in
              rw found.2 at (known.held found.0 first)
        ]
      where
        -- a subchunk of which cells are asked has one of them
        requested_with : (k : ℕ) → positions_in shape sub numbers k ≢ [] → (i : ℕ) × (i < length requested) × ((requested_at requested i).subchunk ≡ k)
        requested_with k some =
            let member = member_from_requested shape sub numbers k some in
            let below : member.0 < length numbers = omega (arith, member.1, length-map numbers (subchunk_number shape sub)) in
            let at : subchunk_number shape sub (get_or numbers member.0 0) ≡ k = sym (get_or-map (subchunk_number shape sub) numbers member.0 0 k below) ∙ member.2 in
            let cell = sorted.all member.0 below in
            let is : requested_at requested cell.0 ≡ requested_cell shape sub numbers member.0 = get_or_default requested cell.0 (cell_of 0 0 0) (requested_cell shape sub numbers member.0) cell.1 ∙ cell.2 in
            (cell.0, cell.1, ap (λ (c : RequestedCell). c.subchunk) is ∙ at)

    module _ (j n : ℕ) (run : IsRun requested j n) (part : Option Array) (old new : List ℕ)
        (read : IsReadAt inner_cells b (slot_at len index (requested_at requested j).subchunk) (map (λ (cell : RequestedCell). cell.position) (take n (drop j requested))) part)
        (wrote : IsWritten (take n (drop j requested)) (positions_there (length (take n (drop j requested))) part) (piece (length fill) old) (element_at [] part) (piece (length fill) new))
        (known : Known j old) where
      abbrev k : ℕ
      k = (requested_at requested j).subchunk

      abbrev cells : List RequestedCell
      cells = take n (drop j requested)

      many : length cells ≡ n
      many = length-take-le n (drop j requested) (omega (arith, length-drop j requested, run.within))

      cell_at : (r : ℕ) → r < n → requested_at cells r ≡ requested_at requested (j + r)
      cell_at r lt = get_or-take n (drop j requested) r (cell_of 0 0 0) lt ∙ get_or-drop j requested r (cell_of 0 0 0)

      rank_at : (r : ℕ) → r < n → (requested_at cells r).rank ≡ (requested_at requested (j + r)).rank
      rank_at r lt = ap (λ (cell : RequestedCell). cell.rank) (cell_at r lt)

      few : (o : Option Array) (r : ℕ) → r < positions_there (length cells) o → r < n
      few None r lt = absurd (omega (arith, lt))
      few (Some a) r lt = omega (arith, lt, many)

      -- a cell of another subchunk keeps what stands at its rank
      kept : (i : ℕ) → i < length requested → (requested_at requested i).subchunk ≢ k → piece (length fill) new (requested_at requested i).rank ≡ piece (length fill) old (requested_at requested i).rank
      kept i lt other = wrote.outside (requested_at requested i).rank (λ r lr e.
          let below = few part r lr in
          let at : j + r < length requested = omega (arith, below, run.within) in
          other (same_subchunk i (j + r) lt at (sym (sym (rank_at r below) ∙ e)) ∙ run.same (j + r) (omega arith) (omega (arith, below))))

      -- a cell of the run has what was read
      placed : (o : Option Array) → IsReadAt inner_cells b (slot_at len index k) (map (λ (cell : RequestedCell). cell.position) cells) o
          → IsWritten cells (positions_there (length cells) o) (piece (length fill) old) (element_at [] o) (piece (length fill) new)
          → (r : ℕ) → r < n → cell_in inner_cells fill b (slot_at len index k) (requested_at requested (j + r)).position ≡ Some (piece (length fill) new (requested_at requested (j + r)).rank)
      placed (Some a) is written r lt =
          let position : RequestedCell → ℕ = λ cell. cell.position in
          let found = written.inside r (omega (arith, lt, many)) in
          let s = found.0 in
          let ls : s < n = omega (arith, found.1, many) in
          let at : j + r < length requested = omega (arith, lt, run.within) in
          let other : j + s < length requested = omega (arith, ls, run.within) in
          let rank : (requested_at requested (j + s)).rank ≡ (requested_at requested (j + r)).rank = sym (rank_at s ls) ∙ (found.2 ∙ rank_at r lt) in
          let listed : get_or (map position cells) s 0 ≡ (requested_at requested (j + s)).position = get_or-map position cells s (cell_of 0 0 0) 0 found.1 ∙ ap position (cell_at s ls) in
          ap (cell_in inner_cells fill b (slot_at len index k)) (sym (listed ∙ same_position (j + s) (j + r) other at rank))
          ∙ (cell_of_part inner_cells fill b (slot_at len index k) (map position cells) (Some a) s is (omega (arith, found.1, length-map cells position))
          ∙ ap Some (sym (ap (piece (length fill) new) (sym (rank_at r lt)) ∙ found.3)))
      placed None is written r lt =
          let at : j + r < length requested = omega (arith, lt, run.within) in
          absent (slot_at len index k) (requested_at requested (j + r)).position is
          ∙ ap Some (sym (written.outside (requested_at requested (j + r)).rank (λ q lq. absurd (omega (arith, lq))) ∙ known.left (j + r) (omega arith) at))
        where
          absent : (s : Slot) (p : ℕ) → IsReadAt inner_cells b s (map (λ (cell : RequestedCell). cell.position) cells) None → cell_in inner_cells fill b s p ≡ Some fill
          absent Absent p h = refl
          absent (InRange offset size) p h = absurd h
          absent Bad p h = absurd h

      -- a run more
      pub sorted_more : Known (j + n) new
      sorted_more = record {
        lower = λ i li lt. elim (cases_lt i j) [
          | inl before ↦ omega (arith, run.lower i before, run.higher (j + n) (omega arith) lt)
          | inr after ↦ omega (arith, run.same i after li, run.higher (j + n) (omega arith) lt)
        ];
        held = λ i li. elim (cases_lt i j) [
          | inl before ↦ known.held i before
          | inr after ↦
              rw (run.same i after li, ← run_positions shape sub numbers requested j n sorted run)
              (there inner_cells b (slot_at len index k) (map (λ (cell : RequestedCell). cell.position) cells) part read)
        ];
        done = λ i li. elim (cases_lt i j) [
          | inl before ↦ known.done i before ∙ ap Some (sym (kept i (omega (arith, before, run.within)) (λ e. omega (arith, e, run.lower i before))))
          | inr after ↦
              let at : j + (i - j) ≡ i = omega (arith, after) in
              let here = placed part read wrote (i - j) (omega (arith, after, li)) in
              rw (run.same i after li) (rw at at here)
        ];
        left = λ i le li. kept i li (λ e. omega (arith, e, run.higher i le li)) ∙ known.left i (omega (arith, le)) li;
      }

    -- when all are read, the pieces are the requested cells
    pub sorted_read : (n : ℕ) (bytes : List ℕ) → n ≡ length requested → len ≡ length b → Known n bytes
        → map (indexed_cell inner_cells shape sub fill b index) numbers ≡ map Some (pieces (length fill) (length numbers) bytes)
    sorted_read n bytes all long known =
        let cell : ℕ → Option (List ℕ) = indexed_cell inner_cells shape sub fill b index in
        let size = length fill in
        let read = pieces size (length numbers) bytes in
        ext_get_or None _ _ (length-map numbers cell ∙ sym (length-map read Some ∙ length-pieces size (length numbers) bytes)) (λ i below.
        let lt : i < length numbers = omega (arith, below, length-map numbers cell) in
        let found = sorted.all i lt in
        let is : requested_at requested found.0 ≡ requested_cell shape sub numbers i = get_or_default requested found.0 (cell_of 0 0 0) (requested_cell shape sub numbers i) found.1 ∙ found.2 in
        let stands = known.done found.0 (omega (arith, found.1, all)) in
        get_or-map cell numbers i 0 None lt ∙ (rw (is, long) at stands
        ∙ (ap Some (sym (piece_of-pieces size (length numbers) bytes i lt)) ∙ sym (get_or-map Some read i [] None (omega (arith, lt, length-pieces size (length numbers) bytes))))))

    -- the first subchunk that is refused
    sorted_refused_here : (inner_read : List ℕ → List (List ℕ) → CodecError → Type 0) (j n : ℕ) (bytes : List ℕ) (later : Refusals) (e : CodecError) → len ≡ length b → IsRun requested j n
        → (requested_at requested j).subchunk < count_of (grid_of shape sub) → Known j bytes
        → RefusesPositions inner_read inner_cells sub b (slot_at len index (requested_at requested j).subchunk) (map (λ (cell : RequestedCell). cell.position) (take n (drop j requested))) (requested_at requested j).subchunk e
        → PositionsRefusals inner_read inner_cells shape sub b (Some index) numbers later e
    sorted_refused_here inner_read j n bytes later e long run below known refused =
        let before = held_before j bytes (omega (arith, run.some, run.within)) known in
        inl ((requested_at requested j).subchunk, (below, rw long at before, rw (long, run_positions shape sub numbers requested j n sorted run) at refused))

-- the same, where the shard stands in an interval
pub sorted_refused : (inner_read : List ℕ → List (List ℕ) → CodecError → Type 0) (inner_cells : List ℕ → List (Option (List ℕ))) (shape sub fill index numbers : List ℕ) (requested : List RequestedCell)
    → AreSorted shape sub numbers requested
    → (first old new : HandleState) (outer : Interval) (j n : ℕ) (bytes : List ℕ) (later : Refusals) (e : CodecError) → IsRead first old → (IsTrue first.transparent → HasInterval outer first.contents)
    → IsRun requested j n → (requested_at requested j).subchunk < count_of (grid_of shape sub)
    → (IsTrue first.transparent → IsReadSorted inner_cells shape sub fill (interval_part outer first.contents) index numbers requested outer.size j bytes)
    → RefusedBy (ObjectRefusals old new (RefusesPositions inner_read inner_cells sub (interval_part outer first.contents) (slot_at outer.size index (requested_at requested j).subchunk)
    (map (λ (cell : RequestedCell). cell.position) (take n (drop j requested))) (requested_at requested j).subchunk)) e
    → RefusedBy (ObjectRefusals first new (PositionsRefusals inner_read inner_cells shape sub (interval_part outer first.contents) (Some index) numbers later)) e
sorted_refused inner_read inner_cells shape sub fill index numbers requested sorted first old new outer j n bytes later e since has run below known h =
    let b = interval_part outer first.contents in
    elim h [
      | inl memory ↦ inl memory
      | inr refused ↦ inr (λ t. elim (refused (rw since.transparent_same t)) [
        | inl fault ↦ inl (fault.0, omega (arith, since.faults_kept, fault.1))
        | inr positions ↦ inr (sorted_refused_here shape sub numbers requested sorted inner_cells fill b index outer.size inner_read j n bytes later e
            (sym (length-interval_part outer first.contents (has t))) run below (known t) positions)
      ])
    ]
