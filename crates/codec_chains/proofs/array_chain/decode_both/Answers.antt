use Rattle.std.proofs.Common.{◌≡◌, ◌<◌, ◌∙◌, Some, map, sym, ap}
use Rattle.parts_arrays.specs.ArraySpec.{array_spec, IsArrayOf}
use Rattle.parts_row_major.specs.Numbering.{count_of}
use Rattle.parts_row_major.proofs.NumberingLaws.{count_positive}
use Rattle.codec_traits.specs.RefusalLaws.{passed_on}
use Rattle.codec_chains.specs.ArrayChains.{chain_elements}
use Rattle.codec_chains.specs.ArrayChainLaws.{same_array_of, if_there}
use Rattle.codec_chains.specs.ArrayCodings.{SameLengths}
use Rattle.codec_chains.proofs.ArrayChainSteps.{refused_second, refused_first, refused_in_order, chain_elements-found}
use Rattle.codec_chains.proofs.array_chain.decode_both.Goals as goal

pub returns-in_err-encoded-clause-lawful : goal.returns-in_err-encoded-clause-lawful
returns-in_err-encoded-clause-lawful g c =
    let a = c.args in
    let spec_is = array_spec a.shape.now a.data_type.now a.fill_value.now in
    let m = g.C.ArrayToBytesCodecTraits.meaning a.chain.now.array_to_bytes spec_is in
    let coding = g.A.ArrayToArrayCodecTraits.coding a.chain.now.array_to_array in
    let some : 0 < count_of a.shape.now = count_positive a.shape.now (λ i lt. c.as_slice-axes.ensures.positive i 0 lt) in
    let e = c.in_err-encoded.field-0.0 in
    passed_on c.from_residual.result e _ c.from_residual.ensures.1
    (refused_second coding m spec_is (g.met.A.ArrayToArrayCodecTraits.keeps_lengths a.chain.now.array_to_array) a.bytes.now e some (c.in_err-encoded.ensures.lawful c.requires))

pub returns-in_err-array-clause-lawful : goal.returns-in_err-array-clause-lawful
returns-in_err-array-clause-lawful g c =
    let a = c.args in
    let spec_is = array_spec a.shape.now a.data_type.now a.fill_value.now in
    let m = g.C.ArrayToBytesCodecTraits.meaning a.chain.now.array_to_bytes spec_is in
    let coding = g.A.ArrayToArrayCodecTraits.coding a.chain.now.array_to_array in
    let some : 0 < count_of a.shape.now = count_positive a.shape.now (λ i lt. c.as_slice-axes.ensures.positive i 0 lt) in
    let e = c.in_err-array.field-0.0 in
    passed_on c.from_residual-in_err-array.result e _ c.from_residual-in_err-array.ensures.1
    (refused_first coding m spec_is a.bytes.now c.in_ok-encoded.encoded.elements e some c.in_ok-encoded.ensures.cells c.in_err-array.ensures.refused)

pub returns-in_err-array-clause-refused : goal.returns-in_err-array-clause-refused
returns-in_err-array-clause-refused g c =
    let a = c.args in
    let spec_is = array_spec a.shape.now a.data_type.now a.fill_value.now in
    let m = g.C.ArrayToBytesCodecTraits.meaning a.chain.now.array_to_bytes spec_is in
    let coding = g.A.ArrayToArrayCodecTraits.coding a.chain.now.array_to_array in
    let e = c.in_err-array.field-0.0 in
    passed_on c.from_residual-in_err-array.result e _ c.from_residual-in_err-array.ensures.1
    (refused_in_order coding m spec_is a.bytes.now c.in_ok-encoded.encoded.elements e c.in_ok-encoded.ensures.cells c.in_err-array.ensures.refused)

pub returns-clause-array : goal.returns-clause-array
returns-clause-array g c =
    let a = c.args in
    let spec_is = array_spec a.shape.now a.data_type.now a.fill_value.now in
    let coding = g.A.ArrayToArrayCodecTraits.coding a.chain.now.array_to_array in
    let xs = c.in_ok-encoded.encoded.elements in
    let keeps = g.met.A.ArrayToArrayCodecTraits.keeps_lengths a.chain.now.array_to_array in
    same_array_of spec_is xs c.in_ok-array.array.elements
    (if_there (SameLengths xs) (coding.decoding xs) c.in_ok-array.array.elements c.in_ok-array.ensures.decoded (keeps.decoded xs)) c.in_ok-encoded.ensures.array.1

pub returns-clause-valid : goal.returns-clause-valid
returns-clause-valid g c =
    let kind = c.in_ok-array.ensures.kind ∙ c.in_ok-encoded.ensures.array.0 in
    let array : IsArrayOf (array_spec c.args.shape.now c.args.data_type.now c.args.fill_value.now) c.in_ok-array.array.elements = returns-clause-array g c in
    record {
      supported = λ none. c.kind-kind.ensures.sized (c.in_ok-encoded.ensures.array.0 ∙ none);
      kind = kind;
      counted = array.counted;
    }

pub returns-clause-elements : goal.returns-clause-elements
returns-clause-elements g c =
    let a = c.args in
    let spec_is = array_spec a.shape.now a.data_type.now a.fill_value.now in
    let m = g.C.ArrayToBytesCodecTraits.meaning a.chain.now.array_to_bytes spec_is in
    let coding = g.A.ArrayToArrayCodecTraits.coding a.chain.now.array_to_array in
    chain_elements-found coding m spec_is a.bytes.now c.in_ok-encoded.encoded.elements c.in_ok-encoded.ensures.cells ∙ c.in_ok-array.ensures.decoded
