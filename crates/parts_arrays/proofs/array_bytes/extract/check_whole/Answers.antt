use Rattle.std.proofs.Common.{◌+◌, ◌<◌, ◌^◌, ◌∙◌, ap, length}
use Rattle.std.proofs.lemmas.List.Elements.{length_all_zip}
use Rattle.parts_row_major.proofs.SubsetLaws.{lies_in_length}
use Rattle.parts_arrays.proofs.array_bytes.extract.check_whole.Goals as goal

pub prove_eq-unreachable-requires : goal.prove_eq-unreachable-requires
prove_eq-unreachable-requires c =
    let subset = c.args.subset.now in
    let well = length_all_zip (λ first len. first + len < 2 ^ 64) subset.start subset.shape c.start.ensures.well_formed in
    c.if-prove_eq.true (ap length c.start.ensures.value ∙ lies_in_length subset.start subset.shape c.args.shape.now well c.in_ok-total.ensures.served.0)
