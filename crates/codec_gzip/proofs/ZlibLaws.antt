-- What is written as a zlib stream is read as its content.
use Rattle.std.proofs.Common.{◌≡◌, ℕ, ◌+◌, ◌*◌, ◌/◌, ◌%◌, ◌≤◌, ◌++◌, ◌==◌, true, ◌∷◌, Some, length, refl, ap, ◌∙◌, arith, length-append, bytes_eq}
use Rattle.std.proofs.lemmas.Bool.{le-leb}
use Rattle.std.proofs.lemmas.Slice.Eq.{bytes_eq-Decides}
use Rattle.std.specs.Int.{w32, to_be_bytes}
use Rattle.codec_compression.specs.Options.{◌>>=◌, guard}
use Rattle.codec_compression.specs.Bits.{Bytes}
use Rattle.codec_deflate.specs.Inflate.{inflated}
use Rattle.codec_deflate.specs.Streams.{IsStreamOf, stored_length}
use Rattle.codec_gzip.specs.Adler.{adler32}
use Rattle.codec_gzip.specs.Gzip.{after}
use Rattle.codec_gzip.specs.Zlib.{after_flags, zlib_content}
use Rattle.codec_gzip.specs.ZlibWritten.{plain_stream, zlib_bound}

module _ (flg : ℕ) (check : (0x7800 + flg) % 31 ≡ 0) (no_dictionary : flg / 32 % 2 ≡ 0) where
  after_two : (rest : Bytes) → after 2 (0x78 ∷ flg ∷ rest) ≡ Some rest
  unfolding after
  after_two rest = ap (λ b. guard b >>= (λ _. Some rest)) (le-leb 2 (length (0x78 ∷ flg ∷ rest)) (omega arith))

  flags_read : (rest : Bytes) → after_flags (0x78 ∷ flg ∷ rest) ≡ Some rest
  unfolding after_flags
  flags_read rest =
      let checked : (0x78 * 256 + flg) % 31 ≡ 0 = omega (arith, check) in
      ap (λ r. r >>= (λ compressed. guard true >>= (λ _. guard true >>= (λ _. guard ((0x78 * 256 + flg) % 31 == 0) >>= (λ _. guard (flg / 32 % 2 == 0)
      >>= (λ _. Some compressed)))))) (after_two rest)
      ∙ rw (checked, no_dictionary) refl

  pub stream_read : (compressed content : Bytes) → IsStreamOf content compressed → zlib_content (plain_stream flg compressed content) ≡ Some content
  unfolding zlib_content
  stream_read compressed content reads =
      let t = to_be_bytes w32 (adler32 content) in
      let same : bytes_eq t t ≡ true = (bytes_eq-Decides t t).1 refl in
      ap (λ r. r >>= (λ compressed. inflated compressed >>= (λ c. guard (bytes_eq (c.1) (to_be_bytes w32 (adler32 (c.0)))) >>= (λ _. Some (c.0))))) (flags_read (compressed ++ t))
      ∙ (ap (λ r. r >>= (λ c. guard (bytes_eq (c.1) (to_be_bytes w32 (adler32 (c.0)))) >>= (λ _. Some (c.0)))) (reads t)
      ∙ ap (λ b. guard b >>= (λ _. Some content)) same)

pub length-stream : (flg : ℕ) (compressed content : Bytes) → length compressed ≤ stored_length (length content) → length (plain_stream flg compressed content) ≤ zlib_bound (length content)
length-stream flg compressed content short = omega (arith, short, length-append compressed (to_be_bytes w32 (adler32 content)))
