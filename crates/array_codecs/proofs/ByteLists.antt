-- Steps of the lists of codecs from bytes to bytes.
use Rattle.std.proofs.Common.{◌≡◌, ◌≤◌, ◌<◌, ◌^◌, ℕ, ◌+◌, Bool, true, false, if◌then◌else◌, Option, Some, None, SomeIff, IsSomeAnd, length, bytes_eq, refl, sym, ap, ◌∙◌, subst, arith, inl, inr, option_and_then}
use Rattle.std.proofs.lemmas.Slice.Eq.{bytes_eq-Decides}
use Rattle.parts_errors.specs.Words.{Bytes}
use Rattle.parts_errors.specs.Order.{◌or◌then◌}
use Rattle.parts_errors.specs.declared.error.CodecError.{CodecError}
use Rattle.codec_chains.specs.Codings.{Coding}
use Rattle.codec_chains.specs.Trailers.{with_trailer, before_trailer, without_trailer}
use Rattle.codec_chains.specs.TrailerLaws.{length-with_trailer}
use Rattle.codec_checksums.specs.Crc32c.{checksum_bytes}
use Rattle.array_codecs.specs.ByteCodecs.{followed, IsAtMost, LimitsEncodings, RefusedOver}

some_where : (test : Bool) (x d : Bytes) → (if test then Some x else None) ≡ Some d → (test ≡ true) × (x ≡ d)
some_where true x d h = (refl, cc)
some_where false x d h = absurd (cc)

-- bytes before a checksum of theirs are four fewer
before_checksum : (b encoded : Bytes) → without_trailer 4 checksum_bytes encoded ≡ Some b → length encoded ≡ length b + 4
unfolding without_trailer
before_checksum b encoded h =
    let before = before_trailer 4 encoded in
    let (passed, same) = some_where (bytes_eq (with_trailer checksum_bytes before) encoded) before b h in
    let whole : with_trailer checksum_bytes before ≡ encoded = (bytes_eq-Decides (with_trailer checksum_bytes before) encoded).0 passed in
    ap (λ (xs : Bytes). length xs) (sym whole) ∙ (length-with_trailer 4 checksum_bytes (λ _. refl) before ∙ ap (λ (xs : Bytes). length xs + 4) same)

at_most : (told : Option ℕ) (n size : ℕ) → SomeIff told (n < 2 ^ 64) n → size ≤ n → IsAtMost told size
at_most None n size h less = tt
at_most (Some m) n size h less = omega (arith, h.1, less)

pub checksum_limit : (limit told : Option ℕ) (n : ℕ) → limit ≡ Some n → SomeIff told (n + 4 < 2 ^ 64) (n + 4)
    → (b encoded : Bytes) → without_trailer 4 checksum_bytes encoded ≡ Some b → IsAtMost limit (length b) → IsAtMost told (length encoded)
checksum_limit limit told n is sum b encoded before within =
    let less : length b ≤ n = subst (λ l. IsAtMost l (length b)) is within in
    at_most told (n + 4) (length encoded) sum (omega (arith, before_checksum b encoded before, less))

-- limits one behind the other
through : (first second : Coding) (limit between told : Option ℕ) → LimitsEncodings first limit between → LimitsEncodings second between told
    → (b encoded : Bytes) (o : Option Bytes) → second.decoding encoded ≡ o → option_and_then first.decoding o ≡ Some b → IsAtMost limit (length b) → IsAtMost told (length encoded)
through first second limit between told limits behind b encoded None is h within = absurd (cc)
through first second limit between told limits behind b encoded (Some x) is h within = behind x encoded is (limits b x h within)

pub limits_followed : (first second : Coding) (limit between told : Option ℕ) → LimitsEncodings first limit between → LimitsEncodings second between told
    → LimitsEncodings (followed first second) limit told
limits_followed first second limit between told limits behind b encoded h within =
    through first second limit between told limits behind b encoded (second.decoding encoded) refl h within

-- what a codec refuses is refused by those before it
found : (o : Option Bytes) (limit : Option ℕ) → IsSomeAnd o (λ b. IsAtMost limit (length b)) → (b : Bytes) × (o ≡ Some b) × (IsAtMost limit (length b))
found (Some b) limit h = (b, refl, h)
found None limit h = absurd h

within_told : (first second : Coding) (limit told : Option ℕ) → LimitsEncodings first limit told → (between : Option Bytes)
    → IsSomeAnd (option_and_then first.decoding between) (λ b. IsAtMost limit (length b)) → IsSomeAnd between (λ x. IsAtMost told (length x))
within_told first second limit told limits None h = h
within_told first second limit told limits (Some x) h = let (b, is, within) = found (first.decoding x) limit h in limits b x is within

pub refused_before : (first second : Coding) (limit told : Option ℕ) (encoded : Bytes) (e : CodecError) → LimitsEncodings first limit told
    → RefusedOver told (second.decoding encoded) e → RefusedOver limit ((followed first second).decoding encoded) e
refused_before first second limit told encoded e limits (inl memory) = inl memory
refused_before first second limit told encoded e limits (inr (inl refused)) =
    inr (inl ((λ h. refused.0 (within_told first second limit told limits (second.decoding encoded) h)), refused.1))
refused_before first second limit told encoded e limits (inr (inr never)) = absurd never.1
