use Rattle.std.proofs.Common.{◌∙◌, ap, length}
use Rattle.codec_traits.specs.RefusalLaws.{passed_on}
use Rattle.parts_arrays.specs.Arrays.{Array}
use Rattle.sharding_write.proofs.PartLemmas.{counted, taken_refused, put_refused}
use Rattle.sharding_write.proofs.overlay.overlaid.Goals as goal

pub returns-in_err-taken-clause-refused : goal.returns-in_err-taken-clause-refused
returns-in_err-taken-clause-refused c =
    let a = c.args in
    let r = c.requires in
    let e = c.in_err-taken.field-0.0 in
    passed_on _ e _ c.from_residual-in_err-taken.ensures.1
    (taken_refused a.update.now.elements.now a.overlap.now.in_subset a.update.now.subset.now.shape a.data_type.now e r.part_well_formed r.part_served r.supported r.update_kind a.update.now.counted (rw c.shape-axes.ensures.value at c.in_err-taken.ensures.refused))

pub returns-in_err-updated-clause-refused : goal.returns-in_err-updated-clause-refused
returns-in_err-updated-clause-refused c =
    let a = c.args in
    let r = c.requires in
    let e = c.in_err-updated.field-0.0 in
    let taken = rw c.shape-axes.ensures.value at c.in_ok-taken.ensures.extracted in
    let many = ap (λ (x : Array). length x.elements) taken ∙ (counted a.update.now.elements.now a.overlap.now.in_subset a.update.now.subset.now.shape ∙ r.same) in
    passed_on _ e _ c.from_residual-in_err-updated.ensures.1
    (put_refused a.old c.in_ok-taken.taken a.overlap.now.in_subchunk a.shape.now a.data_type.now e r.well_formed r.served r.supported r.kind r.all (ap (λ (x : Array). x.kind) taken ∙ r.update_kind) many c.in_err-updated.ensures.refused)
