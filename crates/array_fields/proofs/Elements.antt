-- The lowest bytes of a number, of which the number is read where it fits them.
use Rattle.std.proofs.Common.{◌≡◌, ℕ, ◌<◌, ◌^◌, ◌%◌, ◌-◌, suc, take, refl, ◌∙◌, ap, arith}
use Rattle.std.specs.Prelude.{ℤ, pos, negsuc, ◌≤ℤ◌}
use Rattle.std.specs.Int.{w8, w16, w32, w64, to_le_bytes, from_le_bytes, cast_signed, cast_unsigned}
use Rattle.std.proofs.lemmas.Nat.{from_le_bytes-to_le_bytes_2, from_le_bytes-to_le_bytes_4, from_le_bytes-to_le_bytes_8}
use Rattle.std.proofs.lemmas.Int.{ints, to_z_pos, to_z-of_z}
use Rattle.std.proofs.Math.Facts.{to_z-neg}

pub read_1 : (n : ℕ) → from_le_bytes w8 (take 1 (to_le_bytes w64 n)) ≡ n % 2 ^ 8
read_1 n = refl

pub read_2 : (n : ℕ) → from_le_bytes w16 (take 2 (to_le_bytes w64 n)) ≡ n % 2 ^ 16
read_2 n = omega arith

pub read_4 : (n : ℕ) → from_le_bytes w32 (take 4 (to_le_bytes w64 n)) ≡ n % 2 ^ 32
read_4 n = omega (arith, from_le_bytes-to_le_bytes_4 (n % 2 ^ 32))

-- and of a number with a sign, from its bits
pub signed_1 : (z : ℤ) → negsuc 127 ≤ℤ z → z ≤ℤ pos 127 → cast_signed w8 (cast_unsigned w64 z % 2 ^ 8) ≡ z
signed_1 (pos n) low high =
    let h : n < 128 = omega (arith, ints) in
    let e : n % 256 ≡ n = omega arith in ap (cast_signed w8) e ∙ to_z_pos w8 n h
signed_1 (negsuc n) low high =
    let h : n < 128 = omega (arith, ints) in
    let e : (2 ^ 64 - suc n) % 256 ≡ 256 - suc n = omega arith in ap (cast_signed w8) e ∙ to_z-neg w8 n h

pub signed_2 : (z : ℤ) → negsuc 0x7fff ≤ℤ z → z ≤ℤ pos 0x7fff → cast_signed w16 (cast_unsigned w64 z % 2 ^ 16) ≡ z
signed_2 (pos n) low high =
    let h : n < 32768 = omega (arith, ints) in
    let e : n % 65536 ≡ n = omega arith in ap (cast_signed w16) e ∙ to_z_pos w16 n h
signed_2 (negsuc n) low high =
    let h : n < 32768 = omega (arith, ints) in
    let e : (2 ^ 64 - suc n) % 65536 ≡ 65536 - suc n = omega arith in ap (cast_signed w16) e ∙ to_z-neg w16 n h

pub signed_4 : (z : ℤ) → negsuc 0x7fff_ffff ≤ℤ z → z ≤ℤ pos 0x7fff_ffff → cast_signed w32 (cast_unsigned w64 z % 2 ^ 32) ≡ z
signed_4 (pos n) low high =
    let h : n < 2147483648 = omega (arith, ints) in
    let e : n % 4294967296 ≡ n = omega arith in ap (cast_signed w32) e ∙ to_z_pos w32 n h
signed_4 (negsuc n) low high =
    let h : n < 2147483648 = omega (arith, ints) in
    let e : (2 ^ 64 - suc n) % 4294967296 ≡ 4294967296 - suc n = omega arith in ap (cast_signed w32) e ∙ to_z-neg w32 n h

-- what the bytes of an element are read as
pub ruleset read_elements = (read_1, read_2, read_4, from_le_bytes-to_le_bytes_8, signed_1, signed_2, signed_4, to_z-of_z)
