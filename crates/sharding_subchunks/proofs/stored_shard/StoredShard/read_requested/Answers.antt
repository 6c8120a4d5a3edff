use Rattle.std.proofs.Common.{◌∙◌, ap, length}
use Rattle.parts_subsets.specs.Selections.{Selection}
use Rattle.parts_row_major.proofs.SubsetLaws.{length-points_of}
use Rattle.parts_subsets.proofs.SelectionLemmas.{numbers_of-points_of}
use Rattle.sharding_subchunks.proofs.stored_shard.StoredShard.read_requested.Goals as goal

pub read_subset-requires-clause-count : goal.read_subset-requires-clause-count
read_subset-requires-clause-count g c = c.requires.count ∙ (ap (λ (s : Selection). length s.points) c.in-Some.ensures.some ∙ length-points_of c.in-Some.subset.now)

pub returns-then-in_room-clause-cells : goal.returns-then-in_room-clause-cells
returns-then-in_room-clause-cells g c = rw c.in-Some.ensures.some (rw (numbers_of-points_of c.in-Some.subset.now c.args.self.now.shape.now) at c.read_subset.ensures.cells)

pub returns-then-in_room-clause-refused : goal.returns-then-in_room-clause-refused
returns-then-in_room-clause-refused g c = rw c.in-Some.ensures.some (rw (numbers_of-points_of c.in-Some.subset.now c.args.self.now.shape.now) at c.read_subset.ensures.refused)

pub returns-clause-refused : goal.returns-clause-refused
returns-clause-refused g c = rw (c.deref-2.ensures.value, c.in_ok-numbers.ensures.numbers) at c.read_cells.ensures.refused

pub returns-then-in_room-2-clause-refused : goal.returns-then-in_room-2-clause-refused
returns-then-in_room-2-clause-refused g c = rw (c.deref.ensures.value, c.in_ok-numbers.ensures.numbers) at c.read_listed.ensures.refused
