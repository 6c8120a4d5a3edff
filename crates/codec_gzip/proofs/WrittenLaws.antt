-- What is written as a file is read as its content.
use Rattle.std.proofs.Common.{◌≡◌, ℕ, ◌%◌, ◌^◌, ◌<◌, ◌≤◌, ◌++◌, true, [], ◌∷◌, Some, length, take, refl, ap, ◌∙◌, arith, length-append, nat_lt, bytes_eq}
use Rattle.std.proofs.lemmas.Bool.{le-leb}
use Rattle.std.proofs.lemmas.Slice.Eq.{bytes_eq-Decides}
use Rattle.std.specs.Int.{w32, to_le_bytes}
use Rattle.codec_compression.specs.Options.{◌>>=◌, guard}
use Rattle.codec_compression.specs.Bits.{Bytes}
use Rattle.codec_compression.proofs.PartLaws.{one_part}
use Rattle.codec_deflate.specs.Inflate.{inflated}
use Rattle.codec_deflate.specs.Streams.{IsStreamOf, stored_length}
use Rattle.codec_gzip.specs.Checksum.{crc32}
use Rattle.codec_gzip.specs.Gzip.{after, after_zero, after_extra, after_crc16, if_set, after_header, after_trailer, member_at, gunzipped}
use Rattle.codec_gzip.specs.Written.{plain_header, plain_file, gzip_bound}

-- the trailer
pub trailer_read : (content : Bytes) → after_trailer content (to_le_bytes w32 (crc32 content) ++ to_le_bytes w32 (length content % 2 ^ 32)) ≡ Some []
unfolding after_trailer after
trailer_read content =
    let t = to_le_bytes w32 (crc32 content) ++ to_le_bytes w32 (length content % 2 ^ 32) in
    let same : bytes_eq t t ≡ true = (bytes_eq-Decides t t).1 refl in
    ap (λ b. guard b >>= (λ _. Some (let none : Bytes = [] in none))) same

after_ten : (xfl : ℕ) (rest : Bytes) → after 10 (plain_header xfl ++ rest) ≡ Some rest
unfolding after
after_ten xfl rest =
    let enough : 10 ≤ length (plain_header xfl ++ rest) = omega arith in
    ap (λ b. guard b >>= (λ _. Some rest)) (le-leb 10 (length (plain_header xfl ++ rest)) enough)

pub header_read : (xfl : ℕ) (rest : Bytes) → after_header (plain_header xfl ++ rest) ≡ Some rest
unfolding after_header
header_read xfl rest =
    ap (λ r. r >>= (λ start. guard (bytes_eq (take 3 (plain_header xfl ++ rest)) (31 ∷ 139 ∷ 8 ∷ [])) >>= (λ _. guard (nat_lt 0 32) >>= (λ _.
    if_set 0 (after_extra start) start >>= (λ extra. if_set 0 (after_zero extra) extra >>= (λ name.
    if_set 0 (after_zero name) name >>= (λ comment. if_set 0 (after_crc16 (plain_header xfl ++ rest) comment) comment))))))) (after_ten xfl rest)

-- the whole file
member_read : (xfl : ℕ) (stream content : Bytes) → IsStreamOf content stream → member_at (plain_file xfl stream content) ≡ Some (content, [])
unfolding member_at
member_read xfl stream content reads =
    let t = to_le_bytes w32 (crc32 content) ++ to_le_bytes w32 (length content % 2 ^ 32) in
    ap (λ r. r >>= (λ stream. inflated stream >>= (λ c. after_trailer c.0 c.1 >>= (λ rest. Some (c.0, rest))))) (header_read xfl (stream ++ t))
    ∙ (ap (λ r. r >>= (λ c. after_trailer c.0 c.1 >>= (λ rest. Some (c.0, rest)))) (reads t)
    ∙ ap (λ r. r >>= (λ rest. Some (content, rest))) (trailer_read content))

pub file_read : (xfl : ℕ) (stream content : Bytes) → IsStreamOf content stream → gunzipped (plain_file xfl stream content) ≡ Some content
file_read xfl stream content reads =
    let some : 0 < length (plain_file xfl stream content) = omega arith in
    one_part member_at (length (plain_file xfl stream content)) [] (plain_file xfl stream content) content some (member_read xfl stream content reads)

pub length-file : (xfl : ℕ) (stream content : Bytes) → length stream ≤ stored_length (length content) → length (plain_file xfl stream content) ≤ gzip_bound (length content)
length-file xfl stream content short =
    let t = to_le_bytes w32 (crc32 content) ++ to_le_bytes w32 (length content % 2 ^ 32) in
    omega (arith, short, length-append stream t)
