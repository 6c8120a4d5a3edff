use Rattle.std.proofs.Common.{ap}
use Rattle.parts_arrays.specs.Arrays.{Array, element_of}
use Rattle.array_store.specs.ArrayElements.{cell_of, chunk_spec}
use Rattle.array_store.proofs.UpdateLemmas.{all_updated, updated_array}
use Rattle.array_store.proofs.array.Array.update_elements.Goals as goal

pub returns-then-has_all-clause-written : goal.returns-then-has_all-clause-written
returns-then-has_all-clause-written g c = λ t.
    let f = c.args.self.now.format in
    let cells = (g.C.ArrayToBytesCodecTraits.meaning c.args.self.now.codec.now (chunk_spec f)).cells in
    let whole = c.has_all.ensures c.if-has_all.true in
    record {
      elements = c.args.elements.now.elements;
      updated = all_updated f.chunk.now c.args.in_chunk.now (cell_of cells f.fill_value.now ((g.S.Store.state c.args.self.now.store).contents c.args.key.now))
          c.args.elements.now whole c.in_ok-put_elements.ensures.array.counted;
      encoded = c.in_ok-put_elements.ensures.written t;
    }

pub returns-clause-written : goal.returns-clause-written
returns-clause-written g c = λ t.
    let f = c.args.self.now.format in
    let cells = (g.C.ArrayToBytesCodecTraits.meaning c.args.self.now.codec.now (chunk_spec f)).cells in
    let is = ap (λ (a : Array). a.elements) (rw c.in_ok-put.ensures.same_size at c.array-updated.ensures) in
    let wrote = rw c.in_ok-cells.ensures.shape at c.in_ok-put.ensures.written in
    let lies = rw c.in_ok-cells.ensures.shape at c.in_ok-put.ensures.served.0 in
    record {
      elements = c.array-updated.result.elements;
      updated = updated_array f.chunk.now c.args.in_chunk.now (element_of c.args.elements.now) (cell_of cells f.fill_value.now ((g.S.Store.state c.args.self.now.store).contents c.args.key.now))
          c.in_ok-cells.cells.element_size _ c.in_ok-cells.cells.bytes c.put.new.self.bytes c.array-updated.result.elements is (c.in_ok-cells.ensures.old t) wrote lies c.in_ok-put_elements-2.ensures.array.counted;
      encoded = c.in_ok-put_elements-2.ensures.written t;
    }
