use Rattle.parts_row_major.specs.Pieces.{piece}
use Rattle.parts_row_major.specs.Subsets.{point_in}
use Rattle.sharding_plans.specs.Chunks.{whole_chunks}
use Rattle.array_store.specs.ArrayElements.{chunk_spec, element_at}
use Rattle.array_store.proofs.ReadLemmas.{read_all}
use Rattle.array_store.proofs.PartLemmas.{read_refused}
use Rattle.array_store.proofs.ProgressLemmas.{passed_error}
use Rattle.array_store.proofs.array.Array.read_into.Goals as goal

pub returns-in_err-read_parts-clause-refused : goal.returns-in_err-read_parts-clause-refused
returns-in_err-read_parts-clause-refused g c =
    let lies = rw c.in_ok-grid.ensures.grid at c.in_ok-parts.ensures.served in
    passed_error c.from_residual-in_err-read_parts.result c.in_err-read_parts.field-0.0 _ c.from_residual-in_err-read_parts.ensures.1
    (read_refused c.args.self.now.format c.args.subset.now c.in_err-read_parts.field-0.0 c.in_ok-grid.ensures.served lies
    (rw c.in_ok-parts.ensures.same_subset at c.in_err-read_parts.ensures.refused))

pub returns-clause-elements : goal.returns-clause-elements
returns-clause-elements g c = λ t.
    let f = c.args.self.now.format in
    let meets = rw c.in_ok-grid.ensures.grid at c.in_ok-parts.ensures.counted in
    let known = rw (c.in_ok-parts.ensures.same_subset, ← c.in_ok-read_parts.ensures.same_size) at (c.in_ok-read_parts.ensures.read t) in
    read_all (whole_chunks f.shape.now f.chunk.now) f.chunk.now c.args.subset.now
    (λ q. element_at (g.S.Store.state c.args.self.now.store).contents f (g.C.ArrayToBytesCodecTraits.meaning c.args.self.now.codec.now (chunk_spec f)).cells (point_in c.args.subset.now q))
    meets.shards c.in_ok-parts.parts.count (piece c.read_parts.new.cells.element_size c.read_parts.new.cells.bytes) meets.touched meets.counted
    (known meets.shards meets.touched meets.counted)
