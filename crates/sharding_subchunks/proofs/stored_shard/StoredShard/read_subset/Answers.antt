use Rattle.std.proofs.Common.{◌≡◌, ◌∙◌, List, ℕ, ap, length, map, Some, Option, sym}
use Rattle.parts_row_major.specs.Pieces.{pieces}
use Rattle.parts_arrays.specs.Arrays.{Array}
use Rattle.parts_arrays.proofs.ArrayLaws.{whole_from_length}
use Rattle.sharding_gather.proofs.SubsetReadLemmas.{fixed_pieces}
use Rattle.sharding_subchunks.proofs.ShardLemmas.{some_bytes, bytes_have_elements}
use Rattle.sharding_subchunks.proofs.stored_shard.StoredShard.read_subset.Goals as goal

pub unreachable-requires : goal.unreachable-requires
unreachable-requires g c =
    let s = c.args.self.now.subchunks in
    let positive = some_bytes s.data_type.now s.fill_value.now c.args.self.now.supported c.requires.fixed in
    let fill = s.fill_value.now in
    c.in-None.ensures (rw c.as_ne_bytes-fill.ensures (whole_from_length (length fill) c.args.count c.in_ok-bytes.bytes.items positive c.in_ok-bytes.ensures.counted))

pub returns-clause-elements : goal.returns-clause-elements
returns-clause-elements g c =
    let s = c.args.self.now.subchunks in
    let positive = some_bytes s.data_type.now s.fill_value.now c.args.self.now.supported c.requires.fixed in
    let made = rw c.as_ne_bytes-fill.ensures at c.in-Some.ensures.1 in
    rw c.requires.fixed (bytes_have_elements (length s.fill_value.now) c.args.count c.in_ok-bytes.bytes.items c.in-Some.array positive c.in_ok-bytes.ensures.counted made)

pub returns-clause-cells : goal.returns-clause-cells
returns-clause-cells g c = λ t.
    let s = c.args.self.now.subchunks in
    let positive = some_bytes s.data_type.now s.fill_value.now c.args.self.now.supported c.requires.fixed in
    let size = length s.fill_value.now in
    let bytes = c.in_ok-bytes.bytes.items in
    let made = rw c.as_ne_bytes-fill.ensures at c.in-Some.ensures.1 in
    let same : c.in-Some.array.elements ≡ pieces size c.args.count bytes = ap (λ (array : Array). array.elements) made ∙ fixed_pieces size c.args.count bytes positive c.in_ok-bytes.ensures.counted in
    let some : List (List ℕ) → List (Option (List ℕ)) = map (λ x. Some x) in
    c.in_ok-bytes.ensures.cells t ∙ ap some (sym same)
