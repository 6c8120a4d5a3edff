use Rattle.std.proofs.Common.{◌≡◌, ◌<◌, ℕ, List, IsTrue, length, get_or}
use Rattle.parts_arrays.specs.Arrays.{element_of}
use Rattle.parts_subsets.specs.Touched.{AreTouched}
use Rattle.array_store.specs.ArrayElements.{chunk_spec, element_at}
use Rattle.array_store.specs.ArrayWrites.{AreOthersKept}
use Rattle.array_store.specs.steps.Writing.{AreWrittenTo, whole_of}
use Rattle.array_store.proofs.array.Array.write_parts.Given as goal

abbrev pub invariant-loop-place : goal.invariant-loop-place
invariant-loop-place g l = record {
  same_format : l.self.format ≡ l.fn.self.format;
  same_codec : l.self.codec ≡ l.fn.self.codec;
  same_store : (g.S.Store.state l.self.store).transparent ≡ (g.S.Store.state l.fn.self.store).transparent;
  counted : length l.written.items ≡ l.place;
  others : IsTrue (g.S.Store.state l.fn.self.store).transparent → AreOthersKept l.fn.self.format l.subset (g.S.Store.state l.fn.self.store) (g.S.Store.state l.self.store);
  listed : (touched : List ℕ) → AreTouched (whole_of l.fn.self.format) l.fn.self.format.chunk.now l.subset touched
      → (i : ℕ) → i < length l.written.items → get_or touched i 0 ≡ get_or l.written.items i 0;
  done : IsTrue (g.S.Store.state l.fn.self.store).transparent
      → AreWrittenTo l.fn.self.format l.subset (element_of l.elements) l.written.items
      (element_at (g.S.Store.state l.fn.self.store).contents l.fn.self.format (g.C.ArrayToBytesCodecTraits.meaning l.fn.self.codec.now (chunk_spec l.fn.self.format)).cells)
      (element_at (g.S.Store.state l.self.store).contents l.fn.self.format (g.C.ArrayToBytesCodecTraits.meaning l.fn.self.codec.now (chunk_spec l.fn.self.format)).cells);
}
