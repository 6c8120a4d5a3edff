use Rattle.std.proofs.Common.{Result, Ok, Err, OnOk, IfOk}
use Rattle.parts_arrays.specs.ArraySpec.{array_spec}
use Rattle.parts_subsets.specs.Grid.{grid_of}
use Rattle.codec_traits.specs.Cells.{all_there}
use Rattle.sharding_format.specs.Index.{index_spec}
use Rattle.sharding_format.specs.Encoding.{IsEncoding}
use Rattle.sharding_format.specs.ScratchLaws.{ordered_of_encoding, IsFunctional, functional_parts}
use Rattle.sharding_format.specs.Serves.{subchunk_spec, layout, ShardServes}
use Rattle.zarrs_sharding.proofs.laws.encode_functional.Goals as goal

-- what an answer's facts say of it
answered : {V E : Type 0} (P Q : Type 0) (W Told : V → Type 0) (r : Result V E) → OnOk r P → OnOk r Q → IfOk r W → (P → Q → (v : V) → W v → Told v) → IfOk r Told
answered P Q W Told (Ok v) p q w told = told p q v w
answered P Q W Told (Err e) p q w told = tt

pub returns-clause-one : goal.returns-clause-one
returns-clause-one g c =
    let s = c.args.codec.now in
    let spec = array_spec c.args.shape.now c.args.data_type.now c.args.fill_value.now in
    let inner_g = subchunk_spec s.subchunk_shape spec in
    let index_g = index_spec (grid_of c.args.shape.now s.subchunk_shape) in
    let inner = g.I.FunctionalCodec in
    let index = g.X.FunctionalCodec in
    let parts : IsFunctional s.order (inner.functional s.inner) (index.functional s.index_codec) = functional_parts s.order (inner.functional s.inner) (index.functional s.index_codec) c.requires.functional in
    answered _ _ _ _ c.encode.result c.encode.ensures.serves c.encode.ensures.array c.encode.ensures.written
    (λ serves array shard written.
    ordered_of_encoding _ _ (inner.encoding s.inner inner_g) (index.encoding s.index_codec index_g) s.subchunk_shape s.location s.order _ spec c.args.array.now.elements shard.items
    serves.divides array.1 parts.ordered
    (λ x y of written. g.met.I.FunctionalCodec.one_encoding s.inner inner_g x y parts.inner serves.inner_served of written)
    (λ x y of written. g.met.X.FunctionalCodec.one_encoding s.index_codec index_g x y parts.index serves.index_served.served of written)
    written)
