use Rattle.std.proofs.Common.{◌≡◌, ◌∙◌, List, ℕ, ap, length, map, Some, Option, sym}
use Rattle.parts_row_major.specs.Pieces.{pieces}
use Rattle.parts_arrays.specs.Arrays.{Array}
use Rattle.parts_arrays.proofs.ArrayLaws.{whole_from_length}
use Rattle.sharding_gather.proofs.SubsetReadLemmas.{fixed_pieces}
use Rattle.sharding_subchunks.proofs.ShardLemmas.{bytes_have_elements}
use Rattle.sharding_subchunks.proofs.held_shard.HeldShard.decode_whole.Goals as goal

pub unreachable-requires : goal.unreachable-requires
unreachable-requires g c =
    let fill = c.args.self.now.subchunks.now.fill_value.now in
    c.in-None.ensures (rw c.as_ne_bytes-fill.ensures (whole_from_length (length fill) c.args.self.now.cells c.in_ok-whole.whole.items c.requires.some c.in_ok-whole.ensures.counted))

pub returns-clause-elements : goal.returns-clause-elements
returns-clause-elements g c =
    let size = length c.args.self.now.subchunks.now.fill_value.now in
    let made = rw c.as_ne_bytes-fill.ensures at c.in-Some.ensures.1 in
    rw c.requires.fixed (bytes_have_elements size c.args.self.now.cells c.in_ok-whole.whole.items c.in-Some.array c.requires.some c.in_ok-whole.ensures.counted made)

pub returns-clause-cells : goal.returns-clause-cells
returns-clause-cells g c =
    let size = length c.args.self.now.subchunks.now.fill_value.now in
    let bytes = c.in_ok-whole.whole.items in
    let made = rw c.as_ne_bytes-fill.ensures at c.in-Some.ensures.1 in
    let same : c.in-Some.array.elements ≡ pieces size c.args.self.now.cells bytes = ap (λ (array : Array). array.elements) made ∙ fixed_pieces size c.args.self.now.cells bytes c.requires.some c.in_ok-whole.ensures.counted in
    let some : List (List ℕ) → List (Option (List ℕ)) = map (λ x. Some x) in
    c.in_ok-whole.ensures.cells ∙ ap some (sym same)
