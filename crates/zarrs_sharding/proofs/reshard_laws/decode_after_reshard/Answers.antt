use Rattle.codec_traits.proofs.CodecLaws.{refused_so}
use Rattle.zarrs_sharding.proofs.ReshardLemmas.{refused_again}
use Rattle.sharding_index.specs.steps.Plans.{spec_of}
use Rattle.zarrs_sharding.proofs.reshard_laws.decode_after_reshard.Goals as goal

pub returns-clause-lawful : goal.returns-clause-lawful
returns-clause-lawful g c =
    let arrays = spec_of c.args.spec.now in
    let resharded = c.requires.resharded in
    let law = g.met.D.ArrayToBytesCodecTraits.lawful c.args.to.now arrays in
    refused_so _ _ c.decode.result c.decode.ensures.lawful
    (λ e may. refused_again _ _ resharded.elements e
    (law.written_cells resharded.elements c.args.resharded.now c.requires.serves resharded.array resharded.written)
    resharded.cells (may c.requires.serves))
