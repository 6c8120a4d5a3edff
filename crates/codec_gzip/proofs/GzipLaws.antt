-- Laws of the members of a gzip file.
use Rattle.std.proofs.Common.{◌≡◌, ℕ, zero, suc, ◌+◌, ◌<◌, ◌≢◌, [], ◌∷◌, Option, Some, None, length, get_or, drop, refl, sym, ap, subst, ◌∙◌, arith}
use Rattle.codec_compression.specs.Options.{◌>>=◌}
use Rattle.codec_compression.specs.Bits.{Bytes}
use Rattle.codec_deflate.specs.Inflate.{inflated}
use Rattle.codec_compression.specs.Refusals.{content_of}
use Rattle.codec_compression.proofs.Exits.{IsOver}
use Rattle.codec_gzip.specs.Gzip.{after_zero, after_header, after_trailer, member_at}

pub text_more : (place : ℕ) (bytes : Bytes) → place < length bytes → get_or bytes place 0 ≢ 0 → after_zero (drop place bytes) ≡ after_zero (drop (place + 1) bytes)
unfolding after_zero
text_more place [] h some = absurd (omega arith)
text_more zero (zero ∷ bytes) h some = absurd (some refl)
text_more zero (suc byte ∷ bytes) h some = refl
text_more (suc place) (byte ∷ bytes) h some =
    let one : suc place + 1 ≡ suc (place + 1) = omega arith in
    text_more place bytes (omega arith) some ∙ ap (λ n. after_zero (drop n (byte ∷ bytes))) (sym one)

pub text_end : (place : ℕ) (bytes : Bytes) → place < length bytes → get_or bytes place 0 ≡ 0 → after_zero (drop place bytes) ≡ Some (drop (place + 1) bytes)
unfolding after_zero
text_end place [] h none = absurd (omega arith)
text_end zero (zero ∷ bytes) h none = refl
text_end zero (suc byte ∷ bytes) h none = cc
text_end (suc place) (byte ∷ bytes) h none =
    let one : suc place + 1 ≡ suc (place + 1) = omega arith in
    text_end place bytes (omega arith) none ∙ ap (λ n. Some (drop n (byte ∷ bytes))) (sym one)

pub text_none : (place : ℕ) (bytes : Bytes) → length bytes < place + 1 → after_zero (drop place bytes) ≡ None
unfolding after_zero
text_none zero [] h = refl
text_none (suc place) [] h = refl
text_none zero (byte ∷ bytes) h = absurd (omega arith)
text_none (suc place) (byte ∷ bytes) h = text_none place bytes (omega arith)

-- ---- one member

pub member_no_header : (bytes : Bytes) → after_header bytes ≡ None → member_at bytes ≡ None
unfolding member_at
member_no_header bytes h = ap (λ r. r >>= (λ stream. inflated stream >>= (λ c. after_trailer c.0 c.1 >>= (λ rest. Some (c.0, rest))))) h

module _ (bytes stream : Bytes) (header : after_header bytes ≡ Some stream) where
  from_stream : member_at bytes ≡ (inflated stream >>= (λ c. after_trailer c.0 c.1 >>= (λ rest. Some (c.0, rest))))
  unfolding member_at
  from_stream = ap (λ r. r >>= (λ stream. inflated stream >>= (λ c. after_trailer c.0 c.1 >>= (λ rest. Some (c.0, rest))))) header

  pub member_no_stream : inflated stream ≡ None → member_at bytes ≡ None
  member_no_stream h = from_stream ∙ ap (λ r. r >>= (λ c. after_trailer c.0 c.1 >>= (λ rest. Some (c.0, rest)))) h

  over_trailer : (limit : ℕ) (content tail : Bytes) (rest : Option Bytes) → limit < length content → IsOver limit (content_of (rest >>= (λ r. Some (content, r))))
  over_trailer limit content tail (Some r) h = h
  over_trailer limit content tail None h = tt

  over_stream : (limit : ℕ) (read : Option (Bytes × Bytes)) → IsOver limit (content_of read) → IsOver limit (content_of (read >>= (λ c. after_trailer c.0 c.1 >>= (λ rest. Some (c.0, rest)))))
  over_stream limit (Some c) h = over_trailer limit c.0 c.1 (after_trailer c.0 c.1) h
  over_stream limit None h = tt

  pub member_over : (limit : ℕ) → IsOver limit (content_of (inflated stream)) → IsOver limit (content_of (member_at bytes))
  member_over limit h = subst (λ r. IsOver limit (content_of r)) (sym from_stream) (over_stream limit (inflated stream) h)

  module _ (content tail : Bytes) (read : inflated stream ≡ Some (content, tail)) where
    pub member_no_trailer : after_trailer content tail ≡ None → member_at bytes ≡ None
    member_no_trailer h =
        from_stream ∙ (ap (λ r. r >>= (λ c. after_trailer c.0 c.1 >>= (λ rest. Some (c.0, rest)))) read ∙ ap (λ r. r >>= (λ rest. Some (content, rest))) h)

    pub member_there : (rest : Bytes) → after_trailer content tail ≡ Some rest → member_at bytes ≡ Some (content, rest)
    member_there rest h =
        from_stream ∙ (ap (λ r. r >>= (λ c. after_trailer c.0 c.1 >>= (λ rest. Some (c.0, rest)))) read ∙ ap (λ r. r >>= (λ rest. Some (content, rest))) h)
