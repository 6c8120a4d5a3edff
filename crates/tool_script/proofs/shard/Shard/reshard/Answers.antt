use Rattle.parts_arrays.specs.ArraySpec.{ArraySpec}
use Rattle.parts_subsets.specs.Grid.{grid_of}
use Rattle.codec_traits.specs.Meanings.{Meaning}
use Rattle.codec_vlen.specs.DefaultCodec.{default_meaning}
use Rattle.codec_bytes.specs.BytesCodec.{bytes_meaning}
use Rattle.codec_traits.specs.RefusalLaws.{passed_on}
use Rattle.sharding_format.specs.Index.{index_spec}
use Rattle.sharding_codec.specs.Meanings.{shard_meaning}
use Rattle.sharding_format.specs.Serves.{subchunk_spec}
use Rattle.tool_script.specs.Shards.{ScriptCodec, codec_with, spec_of_shard}
use Rattle.tool_script.proofs.ReshardLaws.{object_refused, unserved_refused}
use Rattle.tool_script.proofs.shard.Shard.reshard.Goals as goal

-- what a script's codec means
abbrev meant : ScriptCodec → ArraySpec → Meaning
meant s g = shard_meaning s (default_meaning s.inner (subchunk_spec s.subchunk_shape g)) (bytes_meaning s.index_codec (index_spec (grid_of g.shape s.subchunk_shape))) g

pub returns-in_err-object-clause-refused : goal.returns-in_err-object-clause-refused
returns-in_err-object-clause-refused c =
    let a = c.args in
    let g = spec_of_shard a.self.now in
    let to = codec_with a.subchunk_shape a.self.now.element_type a.location a.self.now.codec.order in
    let e = c.in_err-object.field-0.0 in
    passed_on _ e _ c.from_residual.ensures.1
    (object_refused (λ bytes. bytes.items) g (meant a.self.now.codec g) (meant to g) a.self.now.object e (rw c.built_codec-codec.ensures at c.in_err-object.ensures.refused))

pub returns-in_err-grid-clause-refused : goal.returns-in_err-grid-clause-refused
returns-in_err-grid-clause-refused c =
    let a = c.args in
    let g = spec_of_shard a.self.now in
    let to = codec_with a.subchunk_shape a.self.now.element_type a.location a.self.now.codec.order in
    let e = c.in_err-grid.field-0.0 in
    let made = c.in_ok-object.ensures in
    passed_on _ e _ c.from_residual-in_err-grid.ensures.1
    (unserved_refused (λ bytes. bytes.items) g (meant a.self.now.codec g) (meant to g) c.in_ok-object.object a.self.now.object e made.none
    (rw c.built_codec-codec.ensures at made.serves)
    (rw (c.built_codec-codec.ensures, c.data_type-data_type.ensures.value) at c.in_err-grid.ensures.refused))
