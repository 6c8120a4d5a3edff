use Rattle.parts_arrays.specs.ArraySpec.{array_spec}
use Rattle.codec_chains.proofs.ArrayChainSteps.{chain_cells-found}
use Rattle.codec_chains.proofs.array_chain.ArrayChainArrayToBytesCodecTraits.decode.Goals as goal

pub returns-clause-cells : goal.returns-clause-cells
returns-clause-cells g c =
    let a = c.args in
    let spec_is = array_spec a.shape.now a.data_type.now a.fill_value.now in
    chain_cells-found (g.A.ArrayToArrayCodecTraits.coding a.self.now.array_to_array) (g.C.ArrayToBytesCodecTraits.meaning a.self.now.array_to_bytes spec_is) spec_is
    a.bytes.now c.in_ok-array.array.elements c.in_ok-array.ensures.elements
