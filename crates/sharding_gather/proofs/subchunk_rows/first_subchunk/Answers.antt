use Rattle.std.proofs.Common.{◌≡◌, ◌%◌, sym}
use Rattle.std.proofs.lemmas.List.Elements.{length_all_zip}
use Rattle.parts_subsets.proofs.GridLaws.{count-positive}
use Rattle.codec_traits.specs.RefusalLaws.{passed_on}
use Rattle.sharding_format.proofs.SubsetLemmas.{subset_refused}
use Rattle.sharding_gather.proofs.subchunk_rows.first_subchunk.Goals as goal

pub returns-in_err-first-clause-refused : goal.returns-in_err-first-clause-refused
returns-in_err-first-clause-refused c =
    let shape = c.args.shape.now in
    let sub = c.args.sub.now in
    let e = c.in_err-first.field-0.0 in
    let same = sym (length_all_zip (λ part axis. axis % part ≡ 0) sub shape c.requires.divides) in
    let below = rw c.requires.grid at (count-positive c.args.grid.now c.as_slice-grid.ensures.positive) in
    let refused = rw c.requires.grid at c.in_err-first.ensures.refused in
    passed_on _ e _ c.from_residual.ensures.1 (subset_refused shape sub 0 c.as_slice-axes.ensures.positive c.requires.divides c.requires.fits below e same refused)

pub unreachable-requires : goal.unreachable-requires
unreachable-requires c = (rw c.in_default.is at c.in_ok-first.ensures.subset) (count-positive c.args.grid.now c.as_slice-grid.ensures.positive)
