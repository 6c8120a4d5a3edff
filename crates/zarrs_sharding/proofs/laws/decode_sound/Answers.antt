use Rattle.std.proofs.Common.{arith}
use Rattle.parts_arrays.specs.ArraySpec.{array_spec}
use Rattle.parts_subsets.specs.Grid.{grid_of}
use Rattle.parts_arrays.specs.Types.{size_of, byte_size}
use Rattle.sharding_format.specs.Index.{index_spec}
use Rattle.sharding_format.specs.Cells.{shard_cells}
use Rattle.sharding_format.specs.Serves.{subchunk_spec, layout, fixed_size}
use Rattle.sharding_format.specs.Laws.{length-shard_cells, shard_cells_fitting}
use Rattle.sharding_format.proofs.CellLemmas.{not_too_long}
use Rattle.sharding_format.proofs.CallerLemmas.{sound_refused}
use Rattle.zarrs_sharding.proofs.laws.decode_sound.Goals as goal

pub returns-clause-refused : goal.returns-clause-refused
returns-clause-refused g c =
    let s = c.args.codec.now in
    let b = c.args.bytes.now in
    let spec = array_spec c.args.shape.now c.args.data_type.now c.args.fill_value.now in
    let index_g = index_spec (grid_of c.args.shape.now s.subchunk_shape) in
    let inner = (g.I.ArrayToBytesCodecTraits.meaning s.inner (subchunk_spec s.subchunk_shape spec)).cells in
    let index = (g.X.ArrayToBytesCodecTraits.meaning s.index_codec index_g).cells in
    let representation = (g.X.ArrayToBytesCodecTraits.meaning s.index_codec index_g).representation in
    let serves = c.requires.serves in
    let cells = shard_cells inner index (layout s.subchunk_shape s.location s.order representation spec) b in
    let counted = length-shard_cells inner index (layout s.subchunk_shape s.location s.order representation spec) b in
    sound_refused c.decode.result _ cells serves c.requires.sound
    (not_too_long (byte_size (size_of c.args.data_type.now)) cells
    (λ i below. rw c.requires.fixed at (shard_cells_fitting inner index s.subchunk_shape s.location s.order (fixed_size representation) spec b i serves.fill_fits serves.divides (omega (arith, below, counted))
    (λ x j inside. (g.met.I.ArrayToBytesCodecTraits.lawful s.inner _).cells_fitting x j serves.inner_served inside)))
    (rw counted serves.bytes_fit))
    c.decode.ensures.lawful
