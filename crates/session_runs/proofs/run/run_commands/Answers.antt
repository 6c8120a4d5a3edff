use Rattle.parts_arrays.specs.ArraySpec.{array_spec}
use Rattle.parts_subsets.specs.Grid.{grid_of}
use Rattle.sharding_format.specs.Index.{index_spec}
use Rattle.sharding_format.specs.Serves.{subchunk_spec}
use Rattle.session_runs.proofs.FromScratchLemmas.{leaves_bytes}
use Rattle.session_runs.proofs.run.run_commands.Goals as goal

pub returns-clause-scratch : goal.returns-clause-scratch
returns-clause-scratch g c =
    λ told serves.
    let state = g.H.BytesPartialDecoderTraits.state in
    let codec = c.args.codec.now in
    let spec = array_spec c.args.shape.now c.args.data_type.now c.args.fill_value.now in
    (leaves_bytes g.I.ArrayToBytesCodecTraits.meaning g.X.ArrayToBytesCodecTraits.meaning codec spec
    (g.met.I.ArrayToBytesCodecTraits.lawful codec.inner (subchunk_spec codec.subchunk_shape spec))
    (g.met.X.ArrayToBytesCodecTraits.lawful codec.index_codec (index_spec (grid_of spec.shape codec.subchunk_shape)))
    serves (state c.args.handle) (state c.run_each.result.handle) _ _ (c.run_each.ensures.run told)).0

pub returns-clause-unwritten : goal.returns-clause-unwritten
returns-clause-unwritten g c =
    λ told serves.
    let state = g.H.BytesPartialDecoderTraits.state in
    let codec = c.args.codec.now in
    let spec = array_spec c.args.shape.now c.args.data_type.now c.args.fill_value.now in
    (leaves_bytes g.I.ArrayToBytesCodecTraits.meaning g.X.ArrayToBytesCodecTraits.meaning codec spec
    (g.met.I.ArrayToBytesCodecTraits.lawful codec.inner (subchunk_spec codec.subchunk_shape spec))
    (g.met.X.ArrayToBytesCodecTraits.lawful codec.index_codec (index_spec (grid_of spec.shape codec.subchunk_shape)))
    serves (state c.args.handle) (state c.run_each.result.handle) _ _ (c.run_each.ensures.run told)).1

pub returns-clause-untouched : goal.returns-clause-untouched
returns-clause-untouched g c =
    λ told serves.
    let state = g.H.BytesPartialDecoderTraits.state in
    let codec = c.args.codec.now in
    let spec = array_spec c.args.shape.now c.args.data_type.now c.args.fill_value.now in
    (leaves_bytes g.I.ArrayToBytesCodecTraits.meaning g.X.ArrayToBytesCodecTraits.meaning codec spec
    (g.met.I.ArrayToBytesCodecTraits.lawful codec.inner (subchunk_spec codec.subchunk_shape spec))
    (g.met.X.ArrayToBytesCodecTraits.lawful codec.index_codec (index_spec (grid_of spec.shape codec.subchunk_shape)))
    serves (state c.args.handle) (state c.run_each.result.handle) _ _ (c.run_each.ensures.run told)).2
