-- The steps of a read of some cells of a shard.
use Rattle.std.proofs.Common.{◌≡◌, ℕ, ◌^◌, ◌<◌, ◌≤◌, IsTrue, List, [], Option, Some, None, IsSome, inl, inr, length, map, get_or, refl, sym, ap, ◌∙◌, subst, arith}
use Rattle.std.specs.List.{All, sum_by, range_with_len}
use Rattle.std.proofs.lemmas.List.{ext_get_or, length-map, get_or-map}
use Rattle.std.proofs.lemmas.List.FromFn.{length-range_with_len, get_or-range_with_len, get_or-map-range_with_len}
use Rattle.parts_row_major.specs.Numbering.{count_of, number_of, IsInside}
use Rattle.parts_errors.specs.Order.{done, RefusedBy}
use Rattle.parts_errors.specs.declared.error.CodecError.{CodecError}
use Rattle.codec_traits.specs.Meanings.{Meaning}
use Rattle.codec_traits.specs.Cells.{cell_length}
use Rattle.storage_handles.specs.Handles.{HandleState, IsRead}
use Rattle.codec_traits.specs.Reads.{cells_at}
use Rattle.storage_handles.specs.Objects.{interval_part, HasInterval, IntervalRefusals, ObjectRefusals}
use Rattle.storage_handles.specs.declared.bytes.Interval.{Interval}
use Rattle.codec_traits.specs.Refusals.{AreTooLong}
use Rattle.parts_row_major.proofs.NumberingLaws.{number_below}
use Rattle.sharding_format.specs.Index.{numbers_in_index}
use Rattle.sharding_format.specs.Cells.{Layout, cell_by, shard_cells, indexed_cell}
use Rattle.sharding_format.specs.DecodeRefusals.{RefusesLengths}
use Rattle.sharding_format.specs.ReadRefusals.{AnswerRefusals, numbers_of, PositionsRefusals, ReadRefusals}
use Rattle.sharding_format.proofs.RefusalLemmas.{long_enough}

-- cells whose lengths add up past what memory can address
pub too_long_together : (cells : List (Option (List ℕ))) → 2 ^ 64 ≤ sum_by (λ i. cell_length (get_or cells i None)) (range_with_len 0 (length cells)) → AreTooLong cells
too_long_together cells h =
    let n : ℕ = length cells in
    let many = length-range_with_len 0 n in
    record {
      positions = range_with_len 0 n;
      below = λ i below. omega (arith, many, get_or-range_with_len 0 n i 0 (omega (arith, many)));
      apart = λ i j before below same. omega (arith, many, get_or-range_with_len 0 n i 0 (omega (arith, many)), get_or-range_with_len 0 n j 0 (omega (arith, many)), same);
      long = h;
    }

-- the first subchunk that is refused, whatever is tested later
pub positions_first : (inner_read : List ℕ → List (List ℕ) → CodecError → Type 0) (inner_cells : List ℕ → List (Option (List ℕ))) (shape sub b : List ℕ) (index : Option (List ℕ)) (numbers : List ℕ) (later : CodecError → Type 0) (e : CodecError)
    → PositionsRefusals inner_read inner_cells shape sub b index numbers done e → PositionsRefusals inner_read inner_cells shape sub b index numbers later e
positions_first inner_read inner_cells shape sub b index numbers later e h = elim h [ inl one ↦ inl one | inr nothing ↦ absurd nothing.1 ]

module _ (inner_cells index_cells : List ℕ → List (Option (List ℕ))) (l : Layout) (b : List ℕ) where
  -- the shard's cell with a row-major number
  pub shard_cell : (i : ℕ) → i < count_of l.shape → get_or (shard_cells inner_cells index_cells l b) i None ≡ cell_by inner_cells l b (numbers_in_index index_cells l.location l.index_size b) i
  unfolding shard_cells
  shard_cell i below = get_or-map-range_with_len (cell_by inner_cells l b (numbers_in_index index_cells l.location l.index_size b)) 0 (count_of l.shape) i i None below (omega arith)

  -- the shard's cells at coordinates inside are those with the coordinates' numbers
  pub requested_by : (points : List (List ℕ)) → All (λ point. IsInside point l.shape) points
      → cells_at (shard_cells inner_cells index_cells l b) l.shape points ≡ map (cell_by inner_cells l b (numbers_in_index index_cells l.location l.index_size b)) (numbers_of l.shape points)
  requested_by points inside =
      let cells : List (Option (List ℕ)) = shard_cells inner_cells index_cells l b in
      let at : List ℕ → Option (List ℕ) = λ point. get_or cells (number_of point l.shape) None in
      let number : List ℕ → ℕ = λ point. number_of point l.shape in
      let numbers : List ℕ = map number points in
      let cell : ℕ → Option (List ℕ) = cell_by inner_cells l b (numbers_in_index index_cells l.location l.index_size b) in
      let many = length-map points at in
      ext_get_or None _ _ (many ∙ sym (length-map points number) ∙ sym (length-map numbers cell))
      (λ i below.
      let in_points : i < length points = omega (arith, many) in
      get_or-map at points i [] None in_points
      ∙ shard_cell (number (get_or points i [])) (number_below (get_or points i []) l.shape (inside i [] in_points))
      ∙ ap cell (sym (get_or-map number points i [] 0 in_points))
      ∙ sym (get_or-map cell numbers i 0 None (omega (arith, length-map points number))))

module _ (inner index : Meaning) (l : Layout) (b ns : List ℕ) (points : List (List ℕ))
    (told : numbers_in_index index.cells l.location l.index_size b ≡ Some ns) (inside : All (λ point. IsInside point l.shape) points) where
  pub requested_cells : cells_at (shard_cells inner.cells index.cells l b) l.shape points ≡ map (indexed_cell inner.cells l.shape l.sub l.fill b ns) (numbers_of l.shape points)
  requested_cells = requested_by inner.cells index.cells l b points inside ∙ ap (λ o. map (cell_by inner.cells l b o) (numbers_of l.shape points)) told

  -- the tests of the index are passed, and those of the requested cells come after them
  pub cells_next : (numbers : List ℕ) (e : CodecError) → numbers ≡ numbers_of l.shape points
      → PositionsRefusals (AnswerRefusals inner.answerable inner.read_refusals) inner.cells l.shape l.sub b (Some ns) numbers (RefusesLengths (map (indexed_cell inner.cells l.shape l.sub l.fill b ns) numbers)) e
      → ReadRefusals inner index l b points e
  cells_next numbers e same h =
      let there : IsSome (numbers_in_index index.cells l.location l.index_size b) = rw told refl in
      let lengths : AreTooLong (map (indexed_cell inner.cells l.shape l.sub l.fill b ns) (numbers_of l.shape points)) → AreTooLong (cells_at (shard_cells inner.cells index.cells l b) l.shape points) =
      subst AreTooLong (sym requested_cells) in
      inr (
        long_enough index.cells l.location l.index_size b ns told,
        inr (
          there,
          elim (rw same at h) [
            | inl one ↦ inl (rw told one)
            | inr later ↦ inr (rw told later.0, (later.1.0, lengths later.1.1))
          ],
        ),
      )

-- also where the index and the cells are read one after the other of a shard that stands in an object
pub cells_refused : (first old new : HandleState) (interval : Interval) (inner index : Meaning) (l : Layout) (ns numbers : List ℕ) (points : List (List ℕ))
    (e : CodecError) → IsRead first old
    → (IsTrue first.transparent → HasInterval interval first.contents) → (IsTrue first.transparent → numbers_in_index index.cells l.location l.index_size (interval_part interval first.contents) ≡ Some ns)
    → All (λ point. IsInside point l.shape) points → numbers ≡ numbers_of l.shape points
    → RefusedBy (ObjectRefusals old new (PositionsRefusals (AnswerRefusals inner.answerable inner.read_refusals) inner.cells l.shape l.sub (interval_part interval first.contents) (Some ns) numbers
    (RefusesLengths (map (indexed_cell inner.cells l.shape l.sub l.fill (interval_part interval first.contents) ns) numbers)))) e
    → RefusedBy (ObjectRefusals first new (IntervalRefusals interval first.contents (λ b. ReadRefusals inner index l b points))) e
cells_refused first old new interval inner index l ns numbers points e read there told inside numbered h =
    let b : List ℕ = interval_part interval first.contents in
    elim h [
      | inl memory ↦ inl memory
      | inr refusals ↦ inr (λ t. elim (refusals (rw read.transparent_same t)) [
        | inl fault ↦ inl (fault.0, omega (arith, fault.1, read.faults_kept))
        | inr refused ↦ inr (inr (there t, cells_next inner index l b ns points (told t) inside numbers e numbered refused))
      ])
    ]
