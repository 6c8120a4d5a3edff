use Rattle.parts_subsets.proofs.GridLaws.{count-positive}
use Rattle.codec_traits.specs.RefusalLaws.{passed_on}
use Rattle.sharding_format.proofs.SubsetLemmas.{subset_refused, part_refused, extracted_subset}
use Rattle.sharding_layout.proofs.laying.gather_subchunk.Goals as goal

pub borrowed_subchunk-requires-clause-some : goal.borrowed_subchunk-requires-clause-some
borrowed_subchunk-requires-clause-some c = count-positive c.args.cut.now.shape.now c.as_slice-axes.ensures.positive

pub returns-in_err-subset-clause-refused : goal.returns-in_err-subset-clause-refused
returns-in_err-subset-clause-refused c =
    let shape = c.args.cut.now.shape.now in
    let sub = c.args.spec.now.shape.now in
    let e = c.in_err-subset.field-0.0 in
    let below = rw c.requires.cut.grid at c.requires.below in
    let refused = rw c.requires.cut.grid at c.in_err-subset.ensures.refused in
    passed_on _ e _ c.from_residual.ensures.1 (subset_refused shape sub c.args.number c.as_slice-axes.ensures.positive c.requires.cut.divides c.requires.cut.fits below e c.requires.cut.axes refused)

pub returns-in_err-part-clause-refused : goal.returns-in_err-part-clause-refused
returns-in_err-part-clause-refused c =
    let shape = c.args.cut.now.shape.now in
    let sub = c.args.spec.now.shape.now in
    let e = c.in_err-part.field-0.0 in
    let below = rw c.requires.cut.grid at c.requires.below in
    let found = rw (c.in-Some-2.is, c.requires.cut.grid) at c.in_ok-subset.ensures.subset in
    let refused = rw c.as_slice-axes.ensures.value at c.in_err-part.ensures.refused in
    passed_on _ e _ c.from_residual-in_err-part.ensures.1
    (part_refused shape sub c.args.number c.as_slice-axes.ensures.positive c.requires.cut.divides c.requires.cut.fits below c.args.cut.now.array.now c.args.spec.now.data_type.now c.in-Some-2.subset e
    c.requires.cut.axes c.requires.cut.supported c.requires.cut.kind c.requires.cut.array.counted found.1 refused)

pub returns-clause-elements : goal.returns-clause-elements
returns-clause-elements c =
    let found = rw (c.in-Some-2.is, c.requires.cut.grid) at c.in_ok-subset.ensures.subset in
    extracted_subset c.args.cut.now.array.now c.in_ok-part.part c.args.cut.now.shape.now c.args.spec.now.shape.now c.in-Some-2.subset c.args.number found.1 (rw c.as_slice-axes.ensures.value at c.in_ok-part.ensures.extracted)
