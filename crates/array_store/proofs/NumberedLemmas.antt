-- The part of a subset that has a number, which is read.
use Rattle.std.proofs.Common.{◌≡◌, ℕ, ◌<◌, List, Option, length, get_or, refl, sym, ap, subst, ◌∙◌}
use Rattle.parts_errors.specs.Words.{Bytes, CellsOf}
use Rattle.parts_row_major.specs.Numbering.{AllPositive, count_of, number_of, point_of}
use Rattle.parts_row_major.specs.Pieces.{piece}
use Rattle.parts_row_major.specs.Subsets.{Subset, LiesIn, number_in, point_in}
use Rattle.parts_subsets.specs.Grid.{Divides, grid_of, subchunk_of, position_of, position_number}
use Rattle.parts_subsets.specs.Touched.{AreTouched}
use Rattle.sharding_plans.specs.Chunks.{whole_chunks}
use Rattle.sharding_plans.proofs.RoundingLemmas.{lies_in_whole, whole_divided}
use Rattle.array_grid.specs.Cells.{CellsOfSubset}
use Rattle.array_grid.specs.Parts.{IsPartAt}
use Rattle.array_grid.specs.declared.parts.ShardPart.{ShardPart}
use Rattle.array_store.specs.ArrayElements.{cell_of, object_of, element_at}
use Rattle.array_store.specs.declared.format.ArrayFormat.{ArrayFormat}
use Rattle.array_store.specs.steps.Reading.{IsPartPut, chunk_at, IsChunkRead}
use Rattle.array_store.proofs.PlaceLemmas.{chunk_of_point, place_of_point, touched_same}
use Rattle.array_store.proofs.ReadLemmas.{chunk_read}

module _ (contents : Bytes → Option Bytes) (format : ArrayFormat) (cells : CellsOf) (subset : Subset)
    (same : length format.shape.now ≡ length format.chunk.now) (some : AllPositive format.chunk.now) (lies : LiesIn subset format.shape.now) where
  abbrev whole : List ℕ
  whole = whole_chunks format.shape.now format.chunk.now

  divides : Divides format.chunk.now whole
  divides = whole_divided format.shape.now format.chunk.now same some

  inside : LiesIn subset whole
  inside = lies_in_whole subset format.shape.now format.chunk.now whole refl same some lies

  -- an element by its chunk's number and its place there
  pub element_of_chunk : (k q : ℕ) → q < count_of subset.shape → chunk_at whole format.chunk.now subset q ≡ k
      → element_at contents format cells (point_in subset q)
      ≡ cell_of cells format.fill_value.now (object_of contents format (point_of k (grid_of whole format.chunk.now))) (position_number whole format.chunk.now (number_in subset whole q))
  unfolding element_at
  element_of_chunk k q few at =
      let coordinates : point_of k (grid_of whole format.chunk.now) ≡ subchunk_of (point_in subset q) format.chunk.now =
      ap (λ n. point_of n (grid_of whole format.chunk.now)) (sym at) ∙ chunk_of_point whole format.chunk.now subset divides inside q few in
      ap (λ p. cell_of cells format.fill_value.now (object_of contents format p) (number_of (position_of (point_in subset q) format.chunk.now) format.chunk.now)) (sym coordinates)
      ∙ ap (cell_of cells format.fill_value.now (object_of contents format (point_of k (grid_of whole format.chunk.now)))) (sym (place_of_point whole format.chunk.now subset divides inside q few))

  pub numbered : (number count : ℕ) (part : ShardPart) (old new : CellsOfSubset) (touched : List ℕ) → number < count → old.shape ≡ subset.shape
      → IsPartAt (record { shape = format.shape.now; shard = format.chunk.now }) subset count number part → AreTouched whole format.chunk.now subset touched
      → IsPartPut (cell_of cells format.fill_value.now (object_of contents format part.coordinates.items)) format.chunk.now part.in_shard part.in_subset old new
      → IsChunkRead (λ q. element_at contents format cells (point_in subset q)) (chunk_at whole format.chunk.now subset) (count_of subset.shape) (get_or touched number 0)
      (piece old.element_size old.bytes) (piece old.element_size new.bytes)
  numbered number count part old new touched below around at are put =
      let one : at.shards ≡ touched = touched_same whole format.chunk.now subset at.shards touched at.touched are in
      let here : part.shard ≡ get_or touched number 0 = sym at.here ∙ ap (λ xs. get_or xs number 0) one in
      let read = chunk_read (cell_of cells format.fill_value.now (object_of contents format (point_of part.shard (grid_of whole format.chunk.now))))
      whole format.chunk.now subset part.shard part.in_shard part.in_subset old new divides inside at.coordinates.0.0 at.meets around
      (rw (at.coordinates.1) at put) (λ q. element_at contents format cells (point_in subset q)) (element_of_chunk part.shard) in
      subst (λ k. IsChunkRead (λ q. element_at contents format cells (point_in subset q)) (chunk_at whole format.chunk.now subset) (count_of subset.shape) k
      (piece old.element_size old.bytes) (piece old.element_size new.bytes)) here read
