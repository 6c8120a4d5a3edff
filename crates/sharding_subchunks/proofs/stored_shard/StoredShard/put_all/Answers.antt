use Rattle.std.proofs.Common.{◌≡◌, ◌∙◌, ◌*◌, ◌<◌, length, map, refl, rules}
use Rattle.std.proofs.lemmas.List.{length-map}
use Rattle.parts_row_major.specs.Numbering.{count_of}
use Rattle.parts_row_major.specs.Subsets.{numbers_in}
use Rattle.storage_handles.specs.Objects.{interval_part}
use Rattle.sharding_format.specs.Cells.{indexed_cell}
use Rattle.sharding_gather.proofs.MetPositions.{numbers_counted}
use Rattle.sharding_gather.proofs.PlacingLemmas.{lies_in-whole}
use Rattle.sharding_subchunks.specs.steps.Inner.{inner_meaning}
use Rattle.sharding_subchunks.proofs.TargetLemmas.{whole_decoded}
use Rattle.sharding_subchunks.proofs.stored_shard.StoredShard.put_all.Goals as goal

pub over-target-requires : goal.over-target-requires
over-target-requires g c =
    let a = c.args in
    let axes = a.subset.now.shape in
    let some : 0 < length c.as_ne_bytes-element.result.now = search rules in
    let whole : length a.bytes.now ≡ count_of axes * length c.as_ne_bytes-element.result.now = search rules in
    rw (c.in_ok-whole.ensures, c.shape-axes.ensures.value) (record {
      served = (lies_in-whole axes, c.requires.count);
      some = some;
      whole = whole;
    })

pub returns-clause-cells : goal.returns-clause-cells
returns-clause-cells g c = λ put t.
    let a = c.args in
    let s = a.self.now.subchunks in
    let inner = inner_meaning g.I.ArrayToBytesCodecTraits.meaning s in
    let object = interval_part a.self.now.interval (g.H.BytesPartialDecoderTraits.state a.handle.now).contents in
    let subset = a.subset.now in
    let cell = indexed_cell inner.cells a.self.now.shape.now s.shape.now s.fill_value.now object a.self.now.index.now.numbers.items in
    let numbers = numbers_in subset a.self.now.shape.now in
    let many : length (map cell numbers) ≡ count_of subset.shape = length-map numbers cell ∙ numbers_counted subset a.self.now.shape.now in
    whole_decoded (map cell numbers) subset.shape (length s.fill_value.now) (count_of subset.shape) c.over-target.result c.put_subset.new.target _ (rw c.as_ne_bytes-element.ensures at c.over-target.ensures.element_size)
    (c.over-target.ensures.shape ∙ c.shape-axes.ensures.value) (c.over-target.ensures.subset ∙ (rw c.shape-axes.ensures.value at c.in_ok-whole.ensures)) (search rules) refl many (c.in_ok-put.ensures.put put t)
