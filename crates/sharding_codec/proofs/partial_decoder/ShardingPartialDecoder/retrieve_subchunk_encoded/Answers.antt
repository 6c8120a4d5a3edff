use Rattle.parts_arrays.specs.ArraySpec.{array_spec}
use Rattle.parts_subsets.specs.Grid.{grid_of}
use Rattle.parts_row_major.specs.Numbering.{number_of}
use Rattle.storage_handles.specs.Objects.{ObjectRefusals}
use Rattle.parts_errors.specs.Order.{done}
use Rattle.sharding_open.specs.Cached.{cached_len, cached_numbers}
use Rattle.sharding_open.specs.Slices.{cached_slot}
use Rattle.sharding_codec.specs.Decoders.{index_in}
use Rattle.codec_traits.specs.RefusalLaws.{passed_on}
use Rattle.sharding_open.proofs.OpenLemmas.{slot_first, slice_refused}
use Rattle.sharding_codec.proofs.partial_decoder.ShardingPartialDecoder.retrieve_subchunk_encoded.Goals as goal

pub returns-in_err-range-clause-refused : goal.returns-in_err-range-clause-refused
returns-in_err-range-clause-refused g c =
    let d = c.self.inside in
    let h = g.H.BytesPartialDecoderTraits in
    let grid = grid_of d.shard.shape d.codec.now.subchunk_shape in
    let subchunk = c.args.subchunk.now in
    let e = c.in_err-range.field-0.0 in
    rw (← c.self.view_is) (passed_on _ e _ c.from_residual.ensures.1
    (slot_first grid subchunk (cached_slot (cached_len d.shard.cached) (cached_numbers d.shard.cached) (number_of subchunk grid)) (ObjectRefusals (h.state d.handle) (h.state d.handle) done) e
    (rw c.self.invariant.grid at c.in_err-range.ensures.refused)))

pub returns-in_err-bytes-clause-refused : goal.returns-in_err-bytes-clause-refused
returns-in_err-bytes-clause-refused g c =
    let d = c.self.inside in
    let s = d.codec.now in
    let h = g.H.BytesPartialDecoderTraits in
    let spec = array_spec d.shard.shape d.shard.data_type d.shard.fill_value in
    let grid = grid_of d.shard.shape s.subchunk_shape in
    let subchunk = c.args.subchunk.now in
    let index = cached_numbers d.shard.cached in
    let e = c.in_err-bytes.field-0.0 in
    let found = rw c.self.invariant.grid at c.in_ok-range.ensures in
    rw (← c.self.view_is) (passed_on _ e _ c.from_residual-in_err-bytes.ensures.1
    (slice_refused (h.state d.handle) (h.state c.copy_range.new.handle) grid subchunk (index_in g.X.ArrayToBytesCodecTraits.meaning s spec)
    index (cached_len d.shard.cached) c.in-Some.range e c.self.invariant.is_open.cached found.axes found.inside (rw c.in-Some.is at found.range) found.fits c.in_err-bytes.ensures.refused))
