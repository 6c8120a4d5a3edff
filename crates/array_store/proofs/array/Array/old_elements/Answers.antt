use Rattle.std.proofs.Common.{◌∙◌, ap}
use Rattle.parts_row_major.specs.Subsets.{Subset}
use Rattle.array_store.specs.ArrayElements.{cell_of, chunk_spec}
use Rattle.array_store.proofs.UpdateLemmas.{whole_read}
use Rattle.array_store.proofs.array.Array.old_elements.Goals as goal

pub returns-clause-old : goal.returns-clause-old
returns-clause-old g c = λ t.
    let f = c.args.self.now.format in
    let filled = c.in_ok-cells.ensures.filled in
    let whole_is = rw (c.in_ok-shape.ensures.items, c.as_slice.ensures.value) at c.in_ok-whole.ensures in
    let around = filled.same_shape ∙ ap (λ (w : Subset). w.shape) whole_is in
    let put = rw whole_is at (c.in_ok-put_part.ensures.put t) in
    rw c.in_ok-put_part.ensures.same_size
    (whole_read (cell_of (g.C.ArrayToBytesCodecTraits.meaning c.args.self.now.codec.now (chunk_spec f)).cells f.fill_value.now ((g.S.Store.state c.args.self.now.store).contents c.args.key.now))
    f.chunk.now c.in_ok-cells.cells c.put_part.new.cells around put)
