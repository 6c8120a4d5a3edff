-- Steps of decoding bytes whose length is known.
use Rattle.std.proofs.Common.{◌≡◌, ◌≢◌, ℕ, ◌≤◌, Option, Some, None, IsSome, IsSomeAnd, length, refl, sym, subst, arith, inl, inr}
use Rattle.std.proofs.lemmas.Bool.{ne_eqb}
use Rattle.parts_errors.specs.Words.{Bytes}
use Rattle.parts_errors.specs.Order.{◌or◌then◌, done, RefusedBy}
use Rattle.parts_errors.specs.declared.error.CodecError.{CodecError}
use Rattle.parts_errors.specs.declared.error.CodecError.TheVariants.{Damaged}
use Rattle.codec_traits.specs.declared.representation.BytesRepresentation.TheVariants.{FixedSize}
use Rattle.codec_chains.specs.Chains.{inner_bytes}
use Rattle.codec_chains.specs.ChainLaws.{told_bytes}

-- where there are no bytes, it is refused
none_refused : (inner : Option Bytes) → inner ≡ None → RefusedBy (IsSome inner or Damaged then done) Damaged
none_refused None h = inr (inl ((λ some. cc), refl))
none_refused (Some b) h = cc

-- bytes of another length than is known are none
other_none : (n : ℕ) (b : Bytes) → length b ≢ n → inner_bytes (Some (FixedSize n)) (Some b) ≡ None
unfolding inner_bytes
other_none n b other = rw (ne_eqb (length b) n other) refl

-- so are more bytes
longer_none : (n : ℕ) (decoded : Option Bytes) → ¬ (IsSomeAnd decoded (λ b. length b ≤ n)) → inner_bytes (Some (FixedSize n)) decoded ≡ None
unfolding inner_bytes
longer_none n None h = refl
longer_none n (Some b) h = rw (ne_eqb (length b) n (λ same. h (omega (arith, same)))) refl

-- what `decode_within` refuses at the length that is known
pub refused_within : (n : ℕ) (decoded : Option Bytes) (e : CodecError)
    → RefusedBy (IsSomeAnd decoded (λ b. length b ≤ n) or Damaged then done) e
    → RefusedBy (IsSome (inner_bytes (Some (FixedSize n)) decoded) or Damaged then done) e
refused_within n decoded e (inl memory) = inl memory
refused_within n decoded e (inr (inl longer)) =
    subst (RefusedBy (IsSome (inner_bytes (Some (FixedSize n)) decoded) or Damaged then done)) (sym longer.1)
    (none_refused (inner_bytes (Some (FixedSize n)) decoded) (longer_none n decoded longer.0))
refused_within n decoded e (inr (inr never)) = absurd never.1

-- bytes of another length
pub refused_other_length : (n : ℕ) (decoded : Option Bytes) (b : Bytes) → decoded ≡ Some b → length b ≢ n
    → RefusedBy (IsSome (inner_bytes (Some (FixedSize n)) decoded) or Damaged then done) Damaged
refused_other_length n decoded b is other = none_refused (inner_bytes (Some (FixedSize n)) decoded) (rw is (other_none n b other))

-- bytes of this length
pub sized : (n : ℕ) (decoded : Option Bytes) (b : Bytes) → decoded ≡ Some b → length b ≡ n
    → inner_bytes (Some (FixedSize n)) decoded ≡ Some b
sized n decoded b is same = rw is (told_bytes (Some (FixedSize n)) b same)
