-- A chunk of which a part has been written.
use Rattle.std.proofs.Common.{◌≡◌, ◌≢◌, ℕ, zero, suc, ◌<◌, ◌^◌, List, [], ◌∷◌, Option, Some, None, inl, inr, length, get_or, refl, sym, ap, ◌∙◌, arith}
use Rattle.std.proofs.lemmas.Bool.{cases_eq}
use Rattle.std.proofs.lemmas.List.{get_or-map}
use Rattle.std.proofs.Math.Nat.{div-le_self}
use Rattle.std.specs.List.{All}
use Rattle.parts_errors.specs.Words.{Bytes, CellsOf, Elements}
use Rattle.parts_row_major.specs.Numbering.{AllPositive, count_of, IsInside, number_of, point_of}
use Rattle.parts_row_major.specs.Subsets.{Subset, LiesIn, number_in, point_in}
use Rattle.parts_row_major.proofs.NumberingLaws.{number_below, point_inside, point_of-number_of, number_of-point_of, same_from_number, length-point_of}
use Rattle.parts_row_major.proofs.PieceLaws.{number_in_below}
use Rattle.parts_row_major.proofs.SubsetLaws.{shifted_inside}
use Rattle.parts_subsets.specs.Grid.{Divides, grid_of, subchunk_of, position_of, subchunk_number, position_number, cell_number}
use Rattle.parts_subsets.specs.Laws.{IsElsewhere}
use Rattle.parts_subsets.proofs.GridLaws.{subchunk_of_inside, position_of_inside, cell_number-located, subchunk_number-cell_number}
use Rattle.codec_traits.specs.Meanings.{Meaning}
use Rattle.sharding_gather.specs.SubchunkOverlaps.{IsSubchunkOverlap}
use Rattle.sharding_plans.proofs.RoundingLemmas.{lies_in_whole, whole_divided}
use Rattle.array_fields.specs.ChunkKeys.{chunk_key}
use Rattle.array_fields.proofs.KeyLemmas.{key_once}
use Rattle.array_store.specs.ArrayElements.{cell_of, element_at}
use Rattle.array_store.specs.ArrayWrites.{key_at, chunk_number}
use Rattle.array_store.specs.ChunkWrites.{HoldsEncoding, IsUpdatedObject}
use Rattle.array_store.specs.declared.format.ArrayFormat.{ArrayFormat}
use Rattle.array_store.specs.steps.Writing.{IsChunkWritten, whole_of}

-- the cell of an object that stands for elements
cell_there : (m : Meaning) (fill : Bytes) (object : Option Bytes) (elements : Elements) (p : ℕ) → HoldsEncoding m elements object → p < length elements
    → cell_of m.cells fill object p ≡ Some (get_or elements p [])
cell_there m fill None elements p held few = elim held [ ]
cell_there m fill (Some bytes) elements p held few = ap (λ cells. get_or cells p None) held.1 ∙ get_or-map Some elements p [] None few

-- coordinates in the grid of axes that fit 64 bits
axes_small : (shape sub point : List ℕ) → All (λ axis. axis < 2 ^ 64) shape → IsInside point (grid_of shape sub) → All (λ n. n < 2 ^ 64) point
axes_small shape sub [] small within k d below = absurd (omega (arith, below))
axes_small [] sub (x ∷ point) small within k d below = elim within [ ]
axes_small (n ∷ shape) [] (x ∷ point) small within k d below = elim within [ ]
axes_small (n ∷ shape) (p ∷ sub) (x ∷ point) small within zero d below = omega (arith, within.0, div-le_self n p, small 0 0 (omega arith))
axes_small (n ∷ shape) (p ∷ sub) (x ∷ point) small within (suc k) d below =
    axes_small shape sub point (λ j e under. small (suc j) e (omega (arith, under))) within.1 k d (omega (arith, below))

inside_length : (point shape : List ℕ) → IsInside point shape → length point ≡ length shape
inside_length [] [] within = refl
inside_length [] (n ∷ shape) within = elim within [ ]
inside_length (x ∷ point) [] within = elim within [ ]
inside_length (x ∷ point) (n ∷ shape) within = omega (arith, inside_length point shape within.1)

module _ (format : ArrayFormat) (m : Meaning) (subset : Subset) (same : length format.shape.now ≡ length format.chunk.now)
    (some : AllPositive format.chunk.now) (lies : LiesIn subset format.shape.now) (small : All (λ axis. axis < 2 ^ 64) (whole_of format)) where
  abbrev whole : List ℕ
  whole = whole_of format

  abbrev chunk : List ℕ
  chunk = format.chunk.now

  abbrev grid : List ℕ
  grid = grid_of whole chunk

  pub divides : Divides chunk whole
  divides = whole_divided format.shape.now chunk same some

  pub inside : LiesIn subset whole
  inside = lies_in_whole subset format.shape.now chunk whole refl same some lies

  pub point_within : (q : ℕ) → q < count_of subset.shape → IsInside (point_in subset q) whole
  point_within q few = shifted_inside subset.start subset.shape (point_of q subset.shape) whole (point_inside q subset.shape few) inside

  -- the number of a point's chunk, by its number in the array
  pub chunk_of_number : (point : List ℕ) → IsInside point whole → subchunk_number whole chunk (number_of point whole) ≡ chunk_number format point
  unfolding subchunk_number
  chunk_of_number point within = ap (λ p. number_of (subchunk_of p chunk) grid) (point_of-number_of point whole within)

  place_of_number : (point : List ℕ) → IsInside point whole → position_number whole chunk (number_of point whole) ≡ number_of (position_of point chunk) chunk
  unfolding position_number
  place_of_number point within = ap (λ p. number_of (position_of p chunk) chunk) (point_of-number_of point whole within)

  chunk_inside : (point : List ℕ) → IsInside point whole → IsInside (subchunk_of point chunk) grid
  chunk_inside point within = subchunk_of_inside point whole chunk divides within

  -- the chunk of a point that has a number
  pub coordinates_of_chunk : (k : ℕ) (point : List ℕ) → IsInside point whole → chunk_number format point ≡ k → subchunk_of point chunk ≡ point_of k grid
  coordinates_of_chunk k point within is =
      sym (point_of-number_of (subchunk_of point chunk) grid (chunk_inside point within)) ∙ ap (λ n. point_of n grid) is

  -- points that lie in two chunks have two keys
  pub other_key : (k : ℕ) (point : List ℕ) → k < count_of grid → IsInside point whole → chunk_number format point ≢ k
      → key_at format point ≢ chunk_key format.keys (point_of k grid)
  other_key k point below within other at =
      let here = chunk_inside point within in
      let there = point_inside k grid below in
      let long : length (subchunk_of point chunk) ≡ length (point_of k grid) = inside_length _ grid here ∙ sym (length-point_of k grid) in
      let one = key_once format.keys (subchunk_of point chunk) (point_of k grid) long
      (axes_small whole chunk _ small here) (axes_small whole chunk _ small there) at in
      other (ap (λ c. number_of c grid) one ∙ number_of-point_of k grid below)

  -- an element by its key and its place
  element_by : (contents : Bytes → Option Bytes) (cells : CellsOf) (key : Bytes) (point : List ℕ) → key_at format point ≡ key
      → element_at contents format cells point ≡ cell_of cells format.fill_value.now (contents key) (number_of (position_of point chunk) chunk)
  unfolding element_at
  element_by contents cells key point at = ap (λ k. cell_of cells format.fill_value.now (contents k) (number_of (position_of point chunk) chunk)) at

  -- an object that stays leaves the elements of its chunk
  pub element_kept : (old new : Bytes → Option Bytes) (cells : CellsOf) (point : List ℕ) → new (key_at format point) ≡ old (key_at format point)
      → element_at new format cells point ≡ element_at old format cells point
  element_kept old new cells point kept =
      element_by new cells _ point refl
      ∙ ap (λ object. cell_of cells format.fill_value.now object (number_of (position_of point chunk) chunk)) kept
      ∙ sym (element_by old cells _ point refl)

  -- a part of chunk k has been written, under its key
  module _ (k : ℕ) (in_chunk in_subset : Subset) (part update : ℕ → Bytes) (old new : Bytes → Option Bytes) (below : k < count_of grid)
      (o : IsSubchunkOverlap whole chunk subset k in_chunk in_subset)
      (parts : (r : ℕ) → r < count_of in_chunk.shape → part r ≡ update (number_in in_subset subset.shape r))
      (u : IsUpdatedObject m chunk in_chunk part (cell_of m.cells format.fill_value.now (old (chunk_key format.keys (point_of k grid)))) (new (chunk_key format.keys (point_of k grid))))
      (kept : (key : Bytes) → key ≢ chunk_key format.keys (point_of k grid) → new key ≡ old key) where
    abbrev key : Bytes
    key = chunk_key format.keys (point_of k grid)

    key_here : (point : List ℕ) → IsInside point whole → chunk_number format point ≡ k → key_at format point ≡ key
    key_here point within is = ap (chunk_key format.keys) (coordinates_of_chunk k point within is)

    -- the cell of a point by its chunk and its place there
    number_here : (point : List ℕ) → IsInside point whole → chunk_number format point ≡ k
        → cell_number whole chunk k (number_of (position_of point chunk) chunk) ≡ number_of point whole
    number_here point within is =
        ap (λ c. cell_number whole chunk c (number_of (position_of point chunk) chunk)) (sym (chunk_of_number point within ∙ is))
        ∙ ap (cell_number whole chunk (subchunk_number whole chunk (number_of point whole))) (sym (place_of_number point within))
        ∙ cell_number-located whole chunk divides (number_of point whole) (number_below point whole within)

    place_below : (point : List ℕ) → IsInside point whole → number_of (position_of point chunk) chunk < count_of chunk
    place_below point within = number_below (position_of point chunk) chunk (position_of_inside point whole chunk divides within)

    written_here : (q : ℕ) → q < count_of subset.shape → chunk_number format (point_in subset q) ≡ k
        → element_at new format m.cells (point_in subset q) ≡ Some (update q)
    written_here q few is =
        let point = point_in subset q in
        let within = point_within q few in
        let p = number_of (position_of point chunk) chunk in
        let met = o.met p q (place_below point within) few (number_here point within is) in
        element_by new m.cells key point (key_here point within is)
        ∙ cell_there m format.fill_value.now (new key) u.elements p u.encoded (omega (arith, place_below point within, u.updated.counted))
        ∙ ap Some (ap (λ n. get_or u.elements n []) (sym met.2) ∙ u.updated.inside met.0 met.1 ∙ parts met.0 met.1 ∙ ap update met.3)

    elsewhere : (point : List ℕ) → IsInside point whole → chunk_number format point ≡ k
        → ((q : ℕ) → q < count_of subset.shape → chunk_number format (point_in subset q) ≡ k → point ≢ point_in subset q)
        → IsElsewhere in_chunk chunk (number_of (position_of point chunk) chunk)
    elsewhere point within is apart r few at =
        let q = number_in in_subset subset.shape r in
        let lies_there = number_in_below in_chunk chunk r o.sub_inside few in
        let under : q < count_of subset.shape = number_in_below in_subset subset.shape r o.subset_inside (omega (arith, few, ap count_of o.same_shape)) in
        let inside_q = point_within q under in
        let number : number_of point whole ≡ number_of (point_in subset q) whole =
        sym (number_here point within is) ∙ ap (cell_number whole chunk k) (sym at) ∙ o.one_cell r few in
        let chunk_q : chunk_number format (point_in subset q) ≡ k =
        sym (chunk_of_number (point_in subset q) inside_q) ∙ ap (subchunk_number whole chunk) (sym (o.one_cell r few))
        ∙ subchunk_number-cell_number whole chunk divides k (number_in in_chunk chunk r) below lies_there in
        apart q under chunk_q (same_from_number point (point_in subset q) whole within inside_q number)

    left_there : (point : List ℕ) → IsInside point whole
        → ((q : ℕ) → q < count_of subset.shape → chunk_number format (point_in subset q) ≡ k → point ≢ point_in subset q)
        → element_at new format m.cells point ≡ element_at old format m.cells point
    left_there point within apart = elim (cases_eq (chunk_number format point) k) [
      | inl is ↦
          let p = number_of (position_of point chunk) chunk in
          element_by new m.cells key point (key_here point within is)
          ∙ cell_there m format.fill_value.now (new key) u.elements p u.encoded (omega (arith, place_below point within, u.updated.counted))
          ∙ sym (u.updated.outside p (place_below point within) (elsewhere point within is apart))
          ∙ sym (element_by old m.cells key point (key_here point within is))
      | inr other ↦ element_kept old new m.cells point (kept (key_at format point) (other_key k point below within other))
    ]

    pub chunk_written : IsChunkWritten format subset update k (element_at old format m.cells) (element_at new format m.cells)
    chunk_written = record { here = written_here; others = left_there }
