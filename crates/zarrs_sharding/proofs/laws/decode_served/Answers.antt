use Rattle.parts_arrays.specs.ArraySpec.{array_spec}
use Rattle.parts_subsets.specs.Grid.{grid_of}
use Rattle.sharding_format.specs.Index.{index_spec}
use Rattle.sharding_format.specs.Serves.{subchunk_spec, layout}
use Rattle.sharding_codec.specs.Meanings.{shard_meaning}
use Rattle.codec_traits.proofs.CodecLaws.{refused_so}
use Rattle.sharding_format.proofs.CallerLemmas.{reported}
use Rattle.zarrs_sharding.proofs.laws.decode_served.Goals as goal

pub returns-clause-lawful : goal.returns-clause-lawful
returns-clause-lawful g c = refused_so _ _ c.decode.result c.decode.ensures.lawful (λ e may. may c.requires.serves)

pub returns-clause-lowest : goal.returns-clause-lowest
returns-clause-lowest g c =
    let s = c.args.codec.now in
    let spec = array_spec c.args.shape.now c.args.data_type.now c.args.fill_value.now in
    let inner_g = subchunk_spec s.subchunk_shape spec in
    let index_g = index_spec (grid_of c.args.shape.now s.subchunk_shape) in
    let inner = g.I.ArrayToBytesCodecTraits in
    let index = g.X.ArrayToBytesCodecTraits in
    let representation = (index.meaning s.index_codec index_g).representation in
    refused_so _ _ c.decode.result c.decode.ensures.refused
    (λ e refusals number is.
    reported (shard_meaning s (inner.meaning s.inner inner_g) (index.meaning s.index_codec index_g) spec) (inner.meaning s.inner inner_g) (index.meaning s.index_codec index_g)
    (layout s.subchunk_shape s.location s.order representation spec) c.args.shard.now e number
    c.requires.serves refusals is)
