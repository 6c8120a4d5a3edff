use Rattle.std.proofs.Common.{◌≡◌, ◌∙◌, sym, ap}
use Rattle.parts_arrays.specs.ArraySpec.{array_spec, IsArrayOf}
use Rattle.parts_arrays.specs.Arrays.{Array}
use Rattle.codec_traits.specs.RefusalLaws.{passed_on}
use Rattle.codec_traits.specs.Refusals.{MayRefuseEncode}
use Rattle.codec_chains.specs.ArrayChainLaws.{same_array_of}
use Rattle.codec_chains.proofs.ArrayChainSteps.{refused_encoding}
use Rattle.codec_chains.proofs.array_chain.ArrayChainArrayToBytesCodecTraits.encode.Goals as goal

pub returns-in_err-encoded-clause-lawful : goal.returns-in_err-encoded-clause-lawful
returns-in_err-encoded-clause-lawful g c =
    let a = c.args in
    let spec_is = array_spec a.shape.now a.data_type.now a.fill_value.now in
    let m = g.C.ArrayToBytesCodecTraits.meaning a.self.now.array_to_bytes spec_is in
    let coding = g.A.ArrayToArrayCodecTraits.coding a.self.now.array_to_array in
    let keeps = g.met.A.ArrayToArrayCodecTraits.keeps_lengths a.self.now.array_to_array in
    let e = c.in_err-encoded.field-0.0 in
    let inner = c.in_ok-inner.ensures.encoded in
    passed_on c.from_residual-in_err-encoded.result e _ c.from_residual-in_err-encoded.ensures.1 (λ s kind array.
    let given : IsArrayOf spec_is (coding.encoding a.bytes.now.elements) = same_array_of spec_is a.bytes.now.elements (coding.encoding a.bytes.now.elements) (keeps.encoded a.bytes.now.elements) array in
    refused_encoding coding m spec_is a.bytes.now.elements e
    (rw inner at (c.in_err-encoded.ensures.lawful s (rw inner kind) (rw inner given))))
