use Rattle.std.proofs.Common.{◌≡◌, ◌∙◌, ◌%◌, ap, sym}
use Rattle.std.proofs.lemmas.List.Elements.{length_all_zip}
use Rattle.parts_subsets.proofs.GridLaws.{subset_of_subchunk-lies_in}
use Rattle.codec_traits.specs.RefusalLaws.{passed_on}
use Rattle.sharding_format.proofs.SubsetLemmas.{subset_refused}
use Rattle.sharding_gather.specs.steps.Placings.{shifted_subset}
use Rattle.sharding_gather.proofs.placing.placed_subset.Goals as goal

pub returns-in_err-part-clause-refused : goal.returns-in_err-part-clause-refused
returns-in_err-part-clause-refused c =
    let shape = c.args.shape.now in
    let sub = c.args.sub.now in
    let e = c.in_err-part.field-0.0 in
    let same = sym (length_all_zip (λ part axis. axis % part ≡ 0) sub shape c.requires.divides) in
    let below = rw c.requires.grid at c.requires.below in
    let refused = rw c.requires.grid at c.in_err-part.ensures.refused in
    passed_on _ e _ c.from_residual.ensures.1 (subset_refused shape sub c.args.number c.as_slice-axes.ensures.positive c.requires.divides c.requires.fits below e same refused)

pub placed_part-requires : goal.placed_part-requires
placed_part-requires c =
    let shape = c.args.shape.now in
    let sub = c.args.sub.now in
    let k = c.args.number in
    let found = rw (c.in-Some.is, c.requires.grid) at c.in_ok-part.ensures.subset in
    let below = rw c.requires.grid at c.requires.below in
    rw (found.1, c.requires.same) (subset_of_subchunk-lies_in shape sub k c.requires.divides below)

pub returns-clause-placed : goal.returns-clause-placed
returns-clause-placed c =
    let found = rw c.in-Some.is at c.in_ok-part.ensures.subset in
    c.in_ok-placed.ensures.placed ∙ ap (shifted_subset c.args.within.now) found.1
