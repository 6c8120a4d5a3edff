-- A codec that puts a trailer behind bytes keeps the laws.
use Rattle.std.proofs.Common.{◌≡◌, ◌≢◌, ℕ, ◌+◌, ◌-◌, ◌^◌, Bool, true, false, if◌then◌else◌, nat_lt, Some, None, length, take, bytes_eq, refl, ap, ◌∙◌, arith, length-append}
use Rattle.std.proofs.lemmas.Slice.Eq.{bytes_eq-Decides}
use Rattle.std.proofs.Math.Seq.{take-append_seam}
use Rattle.parts_errors.specs.Words.{Bytes}
use Rattle.codec_traits.specs.declared.representation.BytesRepresentation.{BytesRepresentation}
use Rattle.codec_traits.specs.declared.representation.BytesRepresentation.TheVariants.{FixedSize, BoundedSize, UnboundedSize}
use Rattle.codec_traits.specs.Representations.{IsWithin}
use Rattle.codec_chains.specs.Codings.{IsInvertible, IsBounded}
use Rattle.codec_chains.specs.Trailers.{with_trailer, before_trailer, without_trailer, longer_by, trailer_coding}

none_where : (test : Bool) (bytes : Bytes) → (test ≡ true → ⊥) → (if test then Some bytes else None) ≡ None
none_where true bytes h = absurd (h refl)
none_where false bytes h = refl

within_where : (test : Bool) (told : BytesRepresentation) (n : ℕ) → IsWithin (Some told) n
    → IsWithin (Some (if test then told else UnboundedSize)) n
within_where true told n h = h
within_where false told n h = tt

module _ (size : ℕ) (trailer : Bytes → Bytes) where
  -- bytes with their trailer behind them
  pub checked : (b : Bytes) → with_trailer trailer (before_trailer size b) ≡ b
      → without_trailer size trailer b ≡ Some (before_trailer size b)
  unfolding without_trailer
  checked b same = rw ((bytes_eq-Decides (with_trailer trailer (before_trailer size b)) b).1 same) refl

  -- other bytes
  pub unchecked : (b : Bytes) → with_trailer trailer (before_trailer size b) ≢ b → without_trailer size trailer b ≡ None
  unfolding without_trailer
  unchecked b other = none_where (bytes_eq (with_trailer trailer (before_trailer size b)) b) (before_trailer size b)
      (λ passed. other ((bytes_eq-Decides (with_trailer trailer (before_trailer size b)) b).0 passed))

  module _ (sized : (bytes : Bytes) → length (trailer bytes) ≡ size) where
    -- as many bytes more
    pub length-with_trailer : (bytes : Bytes) → length (with_trailer trailer bytes) ≡ length bytes + size
    length-with_trailer bytes = length-append bytes (trailer bytes) ∙ ap (λ n. length bytes + n) (sized bytes)

    -- the bytes stand before their trailer
    pub before-with_trailer : (bytes : Bytes) → before_trailer size (with_trailer trailer bytes) ≡ bytes
    before-with_trailer bytes =
        let position : length (with_trailer trailer bytes) - size ≡ length bytes = omega (arith, length-with_trailer bytes) in
        ap (λ n. take n (with_trailer trailer bytes)) position ∙ take-append_seam bytes (trailer bytes)

    -- the bytes come back
    pub trailer_invertible : IsInvertible (trailer_coding size trailer)
    trailer_invertible bytes encoded is =
        let before = before-with_trailer bytes in
        ap (without_trailer size trailer) is
        ∙ (checked (with_trailer trailer bytes) (ap (with_trailer trailer) before) ∙ ap Some before)

    longer : (told : BytesRepresentation) (bytes : Bytes) → IsWithin (Some told) (length bytes)
        → IsWithin (Some (longer_by size told)) (length (with_trailer trailer bytes))
    longer (FixedSize n) bytes h =
        within_where (nat_lt (n + size) (2 ^ 64)) (FixedSize (n + size)) _ (length-with_trailer bytes ∙ ap (λ k. k + size) h)
    longer (BoundedSize n) bytes h =
        within_where (nat_lt (n + size) (2 ^ 64)) (BoundedSize (n + size)) _ (omega (arith, length-with_trailer bytes, h))
    longer UnboundedSize bytes h = tt

    -- an encoding is as long as is told
    pub trailer_bounded : IsBounded (trailer_coding size trailer)
    trailer_bounded = record { unbounded = refl; within = λ told bytes encoded h is. rw is (longer told bytes h) }
