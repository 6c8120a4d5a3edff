-- One of two codecs.
use Rattle.std.specs.Prelude.{ℕ, List}
use Rattle.parts_errors.specs.declared.error.CodecError.{CodecError}
use Rattle.parts_arrays.specs.ArraySpec.{ArraySpec}
use Rattle.codec_traits.specs.Meanings.{Meaning, Concurrency}
use Rattle.codec_traits.specs.Laws.{IsLawful}
use Rattle.codec_traits.specs.Refusals.{IsNoFault}
use Rattle.codec_chains.specs.declared.either_codec.EitherCodec.{EitherCodec}
use Rattle.codec_chains.specs.declared.either_codec.EitherCodec.TheVariants.{First, Second}

-- what it means: what the codec that it holds means
abbrev pub either_meaning : {A B : Type 0} → (A → ArraySpec → Meaning) → (B → ArraySpec → Meaning) → EitherCodec A B → ArraySpec → Meaning
either_meaning first second (First codec) g = first codec g
either_meaning first second (Second codec) g = second codec g

-- how its work is shared: as that of the codec that it holds
abbrev pub either_concurrency : {A B : Type 0} → (A → List ℕ → Concurrency) → (B → List ℕ → Concurrency)
    → EitherCodec A B → List ℕ → Concurrency
either_concurrency first second (First codec) shape = first codec shape
either_concurrency first second (Second codec) shape = second codec shape

-- it keeps the laws as both codecs keep them
pub either_lawful : {A B : Type 0} (first : A → ArraySpec → Meaning) (second : B → ArraySpec → Meaning)
    → ((x : A) (g : ArraySpec) → IsLawful g (first x g)) → ((x : B) (g : ArraySpec) → IsLawful g (second x g))
    → (codec : EitherCodec A B) (g : ArraySpec) → IsLawful g (either_meaning first second codec g)
either_lawful first second one other (First codec) g = one codec g
either_lawful first second one other (Second codec) g = other codec g

-- and refuses no question about workers as a fault
pub either_faultless : {A B : Type 0} (first : A → List ℕ → Concurrency) (second : B → List ℕ → Concurrency)
    → ((x : A) (shape : List ℕ) (e : CodecError) → (first x shape).refusals e → IsNoFault e)
    → ((x : B) (shape : List ℕ) (e : CodecError) → (second x shape).refusals e → IsNoFault e)
    → (codec : EitherCodec A B) (shape : List ℕ) (e : CodecError)
    → (either_concurrency first second codec shape).refusals e → IsNoFault e
either_faultless first second one other (First codec) shape e = one codec shape e
either_faultless first second one other (Second codec) shape e = other codec shape e
