-- The sums of Adler-32 may be reduced later.
use Rattle.std.proofs.Common.{◌≡◌, ℕ, ◌+◌, ◌%◌, ap, sym, ◌∙◌, arith}
use Rattle.codec_gzip.specs.declared.zlib_streams.adler.Sums.{Sums}
use Rattle.codec_gzip.specs.Adler.{base, after_byte}

abbrev pub reduced : ℕ → ℕ → Sums
reduced s1 s2 = record { s1 = s1 % base; s2 = s2 % base }

first_later : (s1 byte : ℕ) → (s1 % 65521 + byte) % 65521 ≡ (s1 + byte) % 65521
first_later s1 byte = omega arith

second_later : (s1 s2 byte : ℕ) → (s2 % 65521 + (s1 % 65521 + byte) % 65521) % 65521 ≡ (s2 + (s1 + byte)) % 65521
second_later s1 s2 byte = omega arith

pub byte_later : (s1 s2 byte : ℕ) → reduced (s1 + byte) (s2 + (s1 + byte)) ≡ after_byte (reduced s1 s2) byte
unfolding after_byte
byte_later s1 s2 byte =
    ap (λ n. let sums : Sums = record { s1 = n; s2 = (s2 + (s1 + byte)) % base } in sums) (sym (first_later s1 byte))
    ∙ ap (λ n. let sums : Sums = record { s1 = (s1 % base + byte) % base; s2 = n } in sums) (sym (second_later s1 s2 byte))
