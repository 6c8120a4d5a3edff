-- What a reading that gives a value says of its steps and of the call that makes it.
use Rattle.std.proofs.Common.{◌≡◌, Result, Ok, Err, IfErr, IsErrAnd, inl, inr, refl, sym, subst, Option}
use Rattle.parts_errors.specs.Words.{Bytes}
use Rattle.serde_json.specs.Data.{Members, object}
use Rattle.codec_metadata.specs.Metadata.{metadata_of}
use Rattle.sharding_codec.specs.declared.codec.ShardingCodec.{ShardingCodec}
use Rattle.sharding_codec.specs.ShardMetadata.{shard_written, shard_told}
use Rattle.codec_metadata.specs.CreateErrors.{Reading, RefusedAs, and_then}
use Rattle.codec_metadata.specs.declared.error.PluginCreateError.{PluginCreateError}
use Rattle.codec_metadata.specs.declared.error.PluginCreateError.TheVariants.{OutOfMemory}

-- what is read after the first step
pub read_later : {A B : Type 0} (first : Reading A) (later : A → Reading B) (b : B) (a : A) → and_then first later ≡ Ok b → first ≡ Ok a → later a ≡ Ok b
read_later (Ok x) later b a whole is = let same : x ≡ a = cc in subst (λ y. later y ≡ Ok b) same whole
read_later (Err refusal) later b a whole is = cc

-- a call that makes the first step is refused for memory alone
pub first_unrefused : {A B : Type 0} (first : Reading A) (later : A → Reading B) (b : B) (e : PluginCreateError) → and_then first later ≡ Ok b → RefusedAs first e → e ≡ OutOfMemory
first_unrefused first later b e whole (inl memory) = memory
first_unrefused (Ok x) later b e whole (inr refused) = cc
first_unrefused (Err refusal) later b e whole (inr refused) = cc

-- a call that makes the reading is refused for memory alone
pub unrefused : {A : Type 0} (reading : Reading A) (a : A) (e : PluginCreateError) → reading ≡ Ok a → RefusedAs reading e → e ≡ OutOfMemory
unrefused reading a e is (inl memory) = memory
unrefused (Ok x) a e is (inr refused) = cc
unrefused (Err refusal) a e is (inr refused) = cc

-- a reading gives one value
pub read_same : {A : Type 0} (reading : Reading A) (a b : A) → reading ≡ Ok a → reading ≡ Ok b → b ≡ a
read_same reading a b one other = cc

-- a refusal that `?` passes on
pub passes_on : {T : Type 0} (r : Result T PluginCreateError) (e : PluginCreateError) (P : PluginCreateError → Type 0) → IsErrAnd r (λ x. x ≡ e) → P e → IfErr r P
passes_on (Ok x) e P is h = tt
passes_on (Err x) e P is h = subst P (sym is) h

-- a codec that is told has the configuration of the codec that it is told of
pub written_again : {I X : Type 0} (I_name : I → Bytes) (X_name : X → Bytes) (I_written : I → Option Members) (X_written : X → Option Members) (s made : ShardingCodec I X) (inner : I) (index : X)
    → made ≡ shard_told inner index s → (I_name inner ≡ I_name s.inner) × (I_written inner ≡ I_written s.inner)
    → (X_name index ≡ X_name s.index_codec) × (X_written index ≡ X_written s.index_codec)
    → object (shard_written (metadata_of (I_name s.inner) (I_written s.inner)) (metadata_of (X_name s.index_codec) (X_written s.index_codec)) s)
    ≡ object (shard_written (metadata_of (I_name made.inner) (I_written made.inner)) (metadata_of (X_name made.index_codec) (X_written made.index_codec)) made)
written_again I_name X_name I_written X_written s made inner index same I_same X_same = rw (same, I_same.0, I_same.1, X_same.0, X_same.1) refl
