-- Eight bytes at once: a number of 64 bits is its eight bytes, and a list is its eights and what is left.
use Rattle.std.proofs.Common.{◌≡◌, ℕ, zero, suc, ◌+◌, ◌*◌, ◌/◌, ◌%◌, ◌^◌, ◌<◌, refl, sym, ap, ◌∙◌, arith, bit_xor, List, [], ◌∷◌, length, get_or, fold, take, drop}
use Rattle.std.specs.Int.{w64, from_le_bytes}
use Rattle.std.specs.Simd.{first_chunks}
use Rattle.std.proofs.Math.Seq.{take-add}
use Rattle.std.proofs.lemmas.List.{take-append-drop}
use Rattle.std.proofs.lemmas.List.Sums.{fold-append}
use Rattle.std.proofs.lemmas.List.Elements.{All-from_get_or}
use Rattle.codec_checksums.specs.Checksum.{with_bits, with_byte}
use Rattle.codec_checksums.proofs.ChecksumLaws.{with_bits-split, with_bits-bytes, number_of}

-- eight bytes as one number
eight_in : (bytes : List ℕ) → length bytes ≡ 8 → from_le_bytes w64 bytes ≡ number_of bytes
unfolding number_of
eight_in [] l = absurd (omega arith)
eight_in (a ∷ []) l = absurd (omega arith)
eight_in (a ∷ b ∷ []) l = absurd (omega arith)
eight_in (a ∷ b ∷ c ∷ []) l = absurd (omega arith)
eight_in (a ∷ b ∷ c ∷ d ∷ []) l = absurd (omega arith)
eight_in (a ∷ b ∷ c ∷ d ∷ e ∷ []) l = absurd (omega arith)
eight_in (a ∷ b ∷ c ∷ d ∷ e ∷ f ∷ []) l = absurd (omega arith)
eight_in (a ∷ b ∷ c ∷ d ∷ e ∷ f ∷ g ∷ []) l = absurd (omega arith)
eight_in (a ∷ b ∷ c ∷ d ∷ e ∷ f ∷ g ∷ h ∷ []) l = omega arith
eight_in (a ∷ b ∷ c ∷ d ∷ e ∷ f ∷ g ∷ h ∷ x ∷ bytes) l = absurd (omega arith)

-- what is done with each element is done with chunks of them, and with those that are left
fold-chunks : {A B : Type 0} (f : B → A → B) (a : B) (n k : ℕ) (xs : List A) → fold (fold f) a (first_chunks n k xs) ≡ fold f a (take (k * n) xs)
fold-chunks f a n zero xs = let none : 0 * n ≡ 0 = omega arith in sym (ap (λ j. fold f a (take j xs)) none)
fold-chunks f a n (suc k) xs =
    let more : suc k * n ≡ n + k * n = grind arith in
    fold-chunks f (fold f a (take n xs)) n k (drop n xs)
    ∙ (sym (fold-append f a (take n xs) (take (k * n) (drop n xs)))
    ∙ (ap (fold f a) (sym (take-add n (k * n) xs)) ∙ sym (ap (λ j. fold f a (take j xs)) more)))

pub fold-all : {A B : Type 0} (f : B → A → B) (a : B) (n k : ℕ) (xs : List A) → fold f (fold (fold f) a (first_chunks n k xs)) (drop (k * n) xs) ≡ fold f a xs
fold-all f a n k xs =
    ap (λ b. fold f b (drop (k * n) xs)) (fold-chunks f a n k xs)
    ∙ (sym (fold-append f a (take (k * n) xs) (drop (k * n) xs)) ∙ ap (fold f a) (take-append-drop (k * n) xs))

module _ (polynomial : ℕ) where
  split : (n y z : ℕ) → y / 256 ≡ z → with_bits polynomial (n + 8) y ≡ bit_xor (with_bits polynomial (n + 8) (y % 256)) (with_bits polynomial n z)
  split n y z is = with_bits-split polynomial n y ∙ ap (λ k. bit_xor (with_bits polynomial (n + 8) (y % 256)) (with_bits polynomial n k)) is

  under : (n y : ℕ) {a b : ℕ} → a ≡ b → bit_xor (with_bits polynomial n y) a ≡ bit_xor (with_bits polynomial n y) b
  under n y e = ap (bit_xor (with_bits polynomial n y)) e

  -- what 64 bits leave, by the bytes that they are
  pub with_bits-eight : (x : ℕ) → x < 2 ^ 64 → with_bits polynomial 64 x
      ≡ bit_xor (with_bits polynomial 64 (x % 256)) (bit_xor (with_bits polynomial 56 (x / 256 % 256)) (bit_xor (with_bits polynomial 48 (x / 65536 % 256))
      (bit_xor (with_bits polynomial 40 (x / 16777216 % 256)) (bit_xor (with_bits polynomial 32 (x / 4294967296 % 256)) (bit_xor (with_bits polynomial 24 (x / 1099511627776 % 256))
      (bit_xor (with_bits polynomial 16 (x / 281474976710656 % 256)) (with_bits polynomial 8 (x / 72057594037927936 % 256))))))))
  with_bits-eight x small =
      let last : x / 72057594037927936 ≡ x / 72057594037927936 % 256 = omega arith in
      split 56 x (x / 256) refl
      ∙ under 64 (x % 256) (split 48 (x / 256) (x / 65536) (omega arith)
      ∙ under 56 (x / 256 % 256) (split 40 (x / 65536) (x / 16777216) (omega arith)
      ∙ under 48 (x / 65536 % 256) (split 32 (x / 16777216) (x / 4294967296) (omega arith)
      ∙ under 40 (x / 16777216 % 256) (split 24 (x / 4294967296) (x / 1099511627776) (omega arith)
      ∙ under 32 (x / 4294967296 % 256) (split 16 (x / 1099511627776) (x / 281474976710656) (omega arith)
      ∙ under 24 (x / 1099511627776 % 256) (split 8 (x / 281474976710656) (x / 72057594037927936) (omega arith)
      ∙ under 16 (x / 281474976710656 % 256) (ap (with_bits polynomial 8) last)))))))

  -- what eight bytes leave, taken at once
  pub with_eight : (bytes : List ℕ) (register n : ℕ) → length bytes ≡ 8 → ((i : ℕ) → get_or bytes i 0 < 256) → n ≡ from_le_bytes w64 bytes
      → with_bits polynomial 64 (bit_xor register n) ≡ fold (with_byte polynomial) register bytes
  with_eight bytes register n long small is =
      let number : n ≡ number_of bytes = is ∙ eight_in bytes long in
      let bits : 64 ≡ length bytes * 8 = omega arith in
      ap (λ k. with_bits polynomial 64 (bit_xor register k)) number
      ∙ (ap (λ k. with_bits polynomial k (bit_xor register (number_of bytes))) bits
      ∙ with_bits-bytes polynomial bytes register (All-from_get_or (λ b. b < 256) bytes 0 (λ i lt. small i)))
