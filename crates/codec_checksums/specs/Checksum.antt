-- Cyclic redundancy checks of 32 bits, bit by bit: the remainder of a division by a polynomial over bits. A register of 32 bits holds the
-- remainder; its least significant bit is the highest power, and is the next to leave.
use Rattle.std.specs.Prelude.{List, ℕ, zero, suc, ◌/◌, ◌%◌, ◌==◌, if◌then◌else◌, fold, bit_xor}

-- the register after a bit more, by any polynomial: where the highest power leaves it, the polynomial is added
abbrev pub with_bit : ℕ → ℕ → ℕ
with_bit polynomial register = if register % 2 == 1 then bit_xor (register / 2) polynomial else register / 2

-- the register after n bits more
unfoldable pub with_bits : ℕ → ℕ → ℕ → ℕ
with_bits polynomial zero register = register
with_bits polynomial (suc n) register = with_bit polynomial (with_bits polynomial n register)

-- the register after a byte more, whose least significant bit is the first
abbrev pub with_byte : ℕ → ℕ → ℕ → ℕ
with_byte polynomial register byte = with_bits polynomial 8 (bit_xor register byte)

-- the checksum of bytes: all bits of the register are set at first, and inverted at the end
abbrev pub crc : ℕ → List ℕ → ℕ
crc polynomial bytes = bit_xor (fold (with_byte polynomial) 0xFFFFFFFF bytes) 0xFFFFFFFF
