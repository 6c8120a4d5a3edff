use Rattle.std.proofs.Common.{◌≡◌, ◌∙◌, ◌*◌, ◌%◌, length, ap, sym}
use Rattle.std.proofs.lemmas.List.Elements.{length_all_zip}
use Rattle.parts_row_major.specs.Numbering.{count_of}
use Rattle.parts_row_major.specs.Pieces.{piece}
use Rattle.parts_subsets.proofs.GridLaws.{number_in-subset_of_subchunk, subset_of_subchunk-lies_in}
use Rattle.parts_row_major.proofs.PieceLaws.{length-concat}
use Rattle.codec_traits.specs.RefusalLaws.{passed_on}
use Rattle.sharding_format.proofs.SubsetLemmas.{subset_refused}
use Rattle.sharding_gather.proofs.LayingLaws.{filled_pieces}
use Rattle.sharding_gather.proofs.laying.put_subchunk.Goals as goal

pub returns-in_err-subset-clause-refused : goal.returns-in_err-subset-clause-refused
returns-in_err-subset-clause-refused c =
    let shape = c.args.shard.now.shape.now in
    let sub = c.args.shard.now.sub.now in
    let e = c.in_err-subset.field-0.0 in
    let same = sym (length_all_zip (λ part axis. axis % part ≡ 0) sub shape c.requires.divides) in
    let below = rw c.requires.grid at c.requires.below in
    let refused = rw c.requires.grid at c.in_err-subset.ensures.refused in
    passed_on _ e _ c.from_residual.ensures.1 (subset_refused shape sub c.args.number c.as_slice-axes.ensures.positive c.requires.divides c.requires.fits below e same refused)

pub scatter-requires-clause-served : goal.scatter-requires-clause-served
scatter-requires-clause-served c =
    let found = rw (c.in-Some-2.is, c.requires.grid) at c.in_ok-subset.ensures.subset in
    let below = rw c.requires.grid at c.requires.below in
    rw (c.as_slice-axes.ensures.value, found.1) (subset_of_subchunk-lies_in c.args.shard.now.shape.now c.args.shard.now.sub.now c.args.number c.requires.divides below, c.requires.fits)

pub scatter-requires-clause-whole_update : goal.scatter-requires-clause-whole_update
scatter-requires-clause-whole_update c =
    let found = rw (c.in-Some-2.is, c.requires.grid) at c.in_ok-subset.ensures.subset in
    let part = rw c.in-Some.is at c.requires.part in
    rw (found.1, c.bytes.ensures) (length-concat (length c.args.shard.now.fill.now) c.in-Some.array.elements part.1 ∙ ap (λ n. n * (length c.args.shard.now.fill.now)) part.0)

pub returns-clause-written : goal.returns-clause-written
returns-clause-written c =
    let found = rw (c.in-Some-2.is, c.requires.grid) at c.in_ok-subset.ensures.subset in
    let part = rw c.in-Some.is at c.requires.part in
    let shape = c.args.shard.now.shape.now in
    let sub = c.args.shard.now.sub.now in
    let k = c.args.number in
    let size = length c.args.shard.now.fill.now in
    let wrote = rw (found.1, c.as_slice-axes.ensures.value, c.bytes.ensures) at c.scatter.ensures in
    rw c.in-Some.is (record {
      inside = λ p lt.
          ap (piece size c.scatter.new.output) (sym (number_in-subset_of_subchunk shape sub k p))
          ∙ (wrote.inside p lt ∙ filled_pieces size (count_of sub) p c.in-Some.array part lt);
      outside = λ i h. wrote.outside i (λ p lt e. h p lt (sym (number_in-subset_of_subchunk shape sub k p) ∙ e));
    })
