use Rattle.std.proofs.Common.{◌≡◌, ℕ, List, IsTrue, length}
use Rattle.parts_row_major.specs.Numbering.{count_of}
use Rattle.parts_row_major.specs.Pieces.{piece}
use Rattle.parts_row_major.specs.Subsets.{point_in}
use Rattle.parts_subsets.specs.Touched.{AreTouched}
use Rattle.sharding_plans.specs.Chunks.{whole_chunks}
use Rattle.array_store.specs.ArrayElements.{chunk_spec, element_at}
use Rattle.array_store.specs.steps.Reading.{AreReadTo, chunk_at}
use Rattle.array_store.proofs.array.Array.read_parts.Given as goal

abbrev pub invariant-loop-number : goal.invariant-loop-number
invariant-loop-number g l = record {
  same_size : l.cells.element_size ≡ l.fn.cells.element_size;
  same_shape : l.cells.shape ≡ l.fn.cells.shape;
  read : IsTrue (g.S.Store.state l.self.store).transparent → (touched : List ℕ)
      → AreTouched (whole_chunks l.self.format.shape.now l.self.format.chunk.now) l.self.format.chunk.now l.parts.subset touched → length touched ≡ l.parts.count
      → AreReadTo (λ q. element_at (g.S.Store.state l.self.store).contents l.self.format (g.C.ArrayToBytesCodecTraits.meaning l.self.codec.now (chunk_spec l.self.format)).cells (point_in l.parts.subset q))
      (chunk_at (whole_chunks l.self.format.shape.now l.self.format.chunk.now) l.self.format.chunk.now l.parts.subset)
      (count_of l.parts.subset.shape) touched l.number (piece l.fn.cells.element_size l.cells.bytes);
}
