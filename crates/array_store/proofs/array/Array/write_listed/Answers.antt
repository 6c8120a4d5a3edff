use Rattle.std.proofs.Common.{◌∙◌, sym, arith}
use Rattle.parts_arrays.specs.Arrays.{element_of}
use Rattle.array_store.specs.ArrayElements.{chunk_spec, element_at}
use Rattle.array_store.proofs.ProgressLemmas.{both_ok, told_err, all_written, told}
use Rattle.array_store.proofs.array.Array.write_listed.Goals as goal

pub returns-clause-elements : goal.returns-clause-elements
returns-clause-elements g c =
    let f = c.args.self.now.format in
    let m = g.C.ArrayToBytesCodecTraits.meaning c.args.self.now.codec.now (chunk_spec f) in
    let meets = rw c.in_ok-grid.ensures.grid at c.in_ok-parts.ensures.counted in
    let lies = rw c.in_ok-grid.ensures.grid at c.in_ok-parts.ensures.served in
    both_ok c.write_parts.result c.write_parts.ensures.all c.write_parts.ensures.done (λ counted done t.
    all_written f m c.args.subset.now c.in_ok-grid.ensures.served.0 c.as_slice-axes.ensures.positive lies c.in_ok-grid.ensures.axes meets.shards meets.touched
    (element_of c.args.elements.now) c.write_parts.new.written.items (element_at (g.S.Store.state c.args.self.now.store).contents f m.cells)
    (element_at (g.S.Store.state c.write_parts.new.self.store).contents f m.cells) (counted ∙ sym meets.counted) (c.write_parts.ensures.listed meets.shards meets.touched) (done t))

pub returns-clause-stopped : goal.returns-clause-stopped
returns-clause-stopped g c =
    let f = c.args.self.now.format in
    let m = g.C.ArrayToBytesCodecTraits.meaning c.args.self.now.codec.now (chunk_spec f) in
    let meets = rw c.in_ok-grid.ensures.grid at c.in_ok-parts.ensures.counted in
    let lies = rw c.in_ok-grid.ensures.grid at c.in_ok-parts.ensures.served in
    told_err c.write_parts.result c.write_parts.ensures.stopped (λ e stopped t.
    told f m c.args.subset.now c.in_ok-grid.ensures.served.0 c.as_slice-axes.ensures.positive lies c.in_ok-grid.ensures.axes meets.shards meets.touched
    (element_of c.args.elements.now) c.write_parts.new.written.items e (g.S.Store.state c.args.self.now.store).contents (g.S.Store.state c.write_parts.new.self.store).contents
    (omega (arith, c.write_parts.ensures.few, meets.counted)) c.write_parts.ensures.listed (stopped t))
