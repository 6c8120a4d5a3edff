use Rattle.std.proofs.Common.{Option, Some, None, Result, Ok, Err, IfOk, IfSome}
use Rattle.std.proofs.lemmas.Bool.{and_parts}
use Rattle.parts_subsets.specs.Grid.{grid_of}
use Rattle.sharding_format.specs.Index.{index_spec}
use Rattle.sharding_format.specs.Serves.{subchunk_spec}
use Rattle.codec_traits.proofs.CodecLaws.{refused_so}
use Rattle.sharding_format.proofs.CompactionLemmas.{scratch_of_compacted}
use Rattle.sharding_index.specs.steps.Plans.{spec_of}
use Rattle.zarrs_sharding.proofs.laws.compact_encoded.Goals as goal

-- what an answer's facts say of it
rewritten : {V E : Type 0} (P Q : V → Type 0) (r : Result (Option V) E) → IfOk r (λ o. IfSome o P) → ((v : V) → P v → Q v) → IfOk r (λ o. IfSome o Q)
rewritten P Q (Ok (Some v)) h told = told v h
rewritten P Q (Ok None) h told = tt
rewritten P Q (Err e) h told = tt

pub returns-clause-scratch : goal.returns-clause-scratch
returns-clause-scratch g c =
    let s = c.args.codec.now in
    let spec = spec_of c.args.spec.now in
    let inner_g = subchunk_spec s.subchunk_shape spec in
    let index_g = index_spec (grid_of c.args.spec.now.shape.now s.subchunk_shape) in
    let inner = g.I.FunctionalCodec in
    let index = g.X.FunctionalCodec in
    let serves = c.requires.serves in
    let functional = and_parts (inner.functional s.inner) (index.functional s.index_codec) c.requires.functional in
    rewritten _ _ c.compact.result c.compact.ensures.compacted
    (λ new compacted.
    scratch_of_compacted _ _ (inner.encoding s.inner inner_g) (index.encoding s.index_codec index_g) s.subchunk_shape s.location s.order _ spec c.args.array.now.elements
    c.args.encoded.now new.items serves.divides c.requires.array
    (λ x y of written. g.met.I.FunctionalCodec.one_encoding s.inner inner_g x y functional.0 serves.inner_served of written)
    (λ x y of written. g.met.X.FunctionalCodec.one_encoding s.index_codec index_g x y functional.1 serves.index_served.served of written)
    c.requires.holds compacted)

pub returns-clause-lawful : goal.returns-clause-lawful
returns-clause-lawful g c = refused_so _ _ c.compact.result c.compact.ensures.lawful (λ e may. may c.requires.serves)
