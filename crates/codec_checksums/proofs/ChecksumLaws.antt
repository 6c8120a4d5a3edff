-- Laws of the register of a CRC, by any polynomial: its steps keep sums of bits modulo 2, so that a byte's eight bits can be taken at once.
use Rattle.std.proofs.Common.{◌≡◌, ◌≢◌, ◌⊎◌, ℕ, zero, suc, ◌+◌, ◌*◌, ◌/◌, ◌%◌, ◌^◌, ◌<◌, refl, sym, ap, ◌∙◌, arith, inl, inr, bit_xor, pow-suc, List, [], ◌∷◌, length, map, get_or, fold}
use Rattle.std.specs.List.{All}
use Rattle.std.specs.List.{range_with_len}
use Rattle.std.proofs.lemmas.List.{get_or-map}
use Rattle.std.proofs.lemmas.List.FromFn.{length-range_with_len, get_or-range_with_len}
use Rattle.std.proofs.lemmas.Bool.Decides.{eqb_tells}
use Rattle.std.proofs.lemmas.Nat.{xor_comm, xor_shr, xor_mod, xor_block}
use Rattle.std.specs.Int.Bits.{xor_assoc, xor_self, xor_zero_l, xor_zero_r}
use Rattle.codec_checksums.specs.Checksum.{with_bit, with_bits, with_byte}

is_odd : (r : ℕ) → (r % 2 ≡ 1) ⊎ (r % 2 ≡ 0)
is_odd r = elim (eqb_tells (r % 2) 1) [
  | inl odd ↦ inl odd.1
  | inr even ↦ let other : r % 2 ≢ 1 = even.1 in inr (omega arith)
]

-- sums modulo 2 in another order
swapped : (x y p : ℕ) → bit_xor (bit_xor x y) p ≡ bit_xor (bit_xor x p) y
swapped x y p = xor_assoc x y p ∙ (ap (bit_xor x) (xor_comm y p) ∙ sym (xor_assoc x p y))

cancelled : (x y p : ℕ) → bit_xor x y ≡ bit_xor (bit_xor x p) (bit_xor y p)
cancelled x y p =
    let twice : bit_xor (bit_xor (bit_xor x y) p) p ≡ bit_xor x y = xor_assoc (bit_xor x y) p p ∙ (ap (bit_xor (bit_xor x y)) (xor_self p) ∙ xor_zero_r (bit_xor x y)) in
    sym twice ∙ (ap (λ z. bit_xor z p) (swapped x y p) ∙ xor_assoc (bit_xor x p) y p)

-- a number with its lowest eight bits apart
apart : (low rest : ℕ) → low < 256 → low + 256 * rest ≡ bit_xor low (rest * 2 ^ 8)
apart low rest small =
    let block : bit_xor (0 * 2 ^ 8 + low) (rest * 2 ^ 8 + 0) ≡ bit_xor 0 rest * 2 ^ 8 + bit_xor low 0 = xor_block 8 0 rest low 0 small (omega arith) in
    let left : bit_xor (0 * 2 ^ 8 + low) (rest * 2 ^ 8 + 0) ≡ bit_xor low (rest * 2 ^ 8) =
    ap (λ k. bit_xor k (rest * 2 ^ 8 + 0)) (omega arith) ∙ ap (bit_xor low) (omega arith) in
    let right : bit_xor 0 rest * 2 ^ 8 + bit_xor low 0 ≡ low + 256 * rest =
    ap (λ k. k * 2 ^ 8 + bit_xor low 0) (xor_zero_l rest) ∙ (ap (λ k. rest * 2 ^ 8 + k) (xor_zero_r low) ∙ omega arith) in
    sym right ∙ (sym block ∙ left)

-- bytes as one number, the first byte the lowest
unfoldable pub number_of : List ℕ → ℕ
number_of [] = 0
number_of (b ∷ bytes) = b + 256 * number_of bytes

-- by a polynomial, what each byte leaves in the register, where a number of bytes that are 0 come after it
abbrev pub row : ℕ → ℕ → List ℕ
row polynomial zeros = map (with_bits polynomial (8 * (1 + zeros))) (range_with_len 0 256)

unfoldable pub tables : ℕ → List (List ℕ)
tables polynomial = map (row polynomial) (range_with_len 0 8)

module _ (polynomial : ℕ) where
  with_bit-odd : (r : ℕ) → r % 2 ≡ 1 → with_bit polynomial r ≡ bit_xor (r / 2) polynomial
  with_bit-odd r odd = rw odd refl

  with_bit-even : (r : ℕ) → r % 2 ≡ 0 → with_bit polynomial r ≡ r / 2
  with_bit-even r even = rw even refl

  -- a bit more of a sum
  with_bit-xor : (a b : ℕ) → with_bit polynomial (bit_xor a b) ≡ bit_xor (with_bit polynomial a) (with_bit polynomial b)
  with_bit-xor a b =
      let low : bit_xor a b % 2 ≡ bit_xor (a % 2) (b % 2) = xor_mod a b 1 in
      let high : bit_xor a b / 2 ≡ bit_xor (a / 2) (b / 2) = xor_shr a b 1 in
      elim (is_odd a) [
        | inl x ↦ elim (is_odd b) [
          | inl y ↦
              with_bit-even (bit_xor a b) (low ∙ rw (x, y) refl)
              ∙ (high ∙ (cancelled (a / 2) (b / 2) polynomial ∙ rw (with_bit-odd a x, with_bit-odd b y) refl))
          | inr y ↦
              with_bit-odd (bit_xor a b) (low ∙ rw (x, y) refl)
              ∙ (ap (λ z. bit_xor z polynomial) high ∙ (swapped (a / 2) (b / 2) polynomial ∙ rw (with_bit-odd a x, with_bit-even b y) refl))
        ]
        | inr x ↦ elim (is_odd b) [
          | inl y ↦
              with_bit-odd (bit_xor a b) (low ∙ rw (x, y) refl)
              ∙ (ap (λ z. bit_xor z polynomial) high ∙ (xor_assoc (a / 2) (b / 2) polynomial ∙ rw (with_bit-even a x, with_bit-odd b y) refl))
          | inr y ↦ with_bit-even (bit_xor a b) (low ∙ rw (x, y) refl) ∙ (high ∙ rw (with_bit-even a x, with_bit-even b y) refl)
        ]
      ]

  with_bits-xor : (n a b : ℕ) → with_bits polynomial n (bit_xor a b) ≡ bit_xor (with_bits polynomial n a) (with_bits polynomial n b)
  unfolding with_bits
  with_bits-xor zero a b = refl
  with_bits-xor (suc n) a b = ap (with_bit polynomial) (with_bits-xor n a b) ∙ with_bit-xor (with_bits polynomial n a) (with_bits polynomial n b)

  -- bits that are all 0 only shift
  with_bits-shifted : (n y : ℕ) → with_bits polynomial n (y * 2 ^ n) ≡ y
  unfolding with_bits
  with_bits-shifted zero y = omega arith
  with_bits-shifted (suc n) y =
      let twice : y * 2 ^ suc n ≡ (y * 2) * 2 ^ n = ap (λ k. y * k) (pow-suc 2 n) ∙ grind arith in
      ap (λ x. with_bit polynomial (with_bits polynomial n x)) twice ∙ (ap (with_bit polynomial) (with_bits-shifted n (y * 2)) ∙ (with_bit-even (y * 2) (omega arith) ∙ omega arith))

  -- bits in two steps
  with_bits-more : (n m r : ℕ) → with_bits polynomial (n + m) r ≡ with_bits polynomial n (with_bits polynomial m r)
  unfolding with_bits
  with_bits-more zero m r = let same : 0 + m ≡ m = omega arith in ap (λ k. with_bits polynomial k r) same
  with_bits-more (suc n) m r =
      let more : suc n + m ≡ suc (n + m) = omega arith in
      ap (λ k. with_bits polynomial k r) more ∙ ap (with_bit polynomial) (with_bits-more n m r)

  -- eight bits of a sum leave the register, and then others
  with_bits-apart : (n r low rest : ℕ) → low < 256 → with_bits polynomial (n + 8) (bit_xor r (low + 256 * rest)) ≡ with_bits polynomial n (bit_xor (with_byte polynomial r low) rest)
  with_bits-apart n r low rest small =
      let whole : bit_xor r (low + 256 * rest) ≡ bit_xor (bit_xor r low) (rest * 2 ^ 8) = ap (bit_xor r) (apart low rest small) ∙ sym (xor_assoc r low (rest * 2 ^ 8)) in
      let eight : with_bits polynomial 8 (bit_xor r (low + 256 * rest)) ≡ bit_xor (with_byte polynomial r low) rest =
      ap (with_bits polynomial 8) whole ∙ (with_bits-xor 8 (bit_xor r low) (rest * 2 ^ 8) ∙ ap (bit_xor (with_byte polynomial r low)) (with_bits-shifted 8 rest)) in
      with_bits-more n 8 (bit_xor r (low + 256 * rest)) ∙ ap (with_bits polynomial n) eight

  -- the bits of bytes leave a register at once as they do one byte after the other
  pub with_bits-bytes : (bytes : List ℕ) (r : ℕ) → All (λ b. b < 256) bytes → with_bits polynomial (length bytes * 8) (bit_xor r (number_of bytes)) ≡ fold (with_byte polynomial) r bytes
  unfolding with_bits number_of
  with_bits-bytes [] r small = let none : 0 * 8 ≡ 0 = omega arith in ap (λ n. with_bits polynomial n (bit_xor r 0)) none ∙ xor_zero_r r
  with_bits-bytes (b ∷ bytes) r small =
      let more : length (b ∷ bytes) * 8 ≡ length bytes * 8 + 8 = omega arith in
      ap (λ n. with_bits polynomial n (bit_xor r (b + 256 * number_of bytes))) more
      ∙ (with_bits-apart (length bytes * 8) r b (number_of bytes) (small 0 0 (omega arith)) ∙ with_bits-bytes bytes (with_byte polynomial r b) (λ k d lt. small (suc k) d (omega arith)))

  -- the bits of a number, by what its lowest eight leave
  pub with_bits-split : (n x : ℕ) → with_bits polynomial (n + 8) x ≡ bit_xor (with_bits polynomial (n + 8) (x % 256)) (with_bits polynomial n (x / 256))
  with_bits-split n x =
      let low = x % 256 in
      let rest = x / 256 in
      let digits : x ≡ low + 256 * rest = omega arith in
      let whole : x ≡ bit_xor low (rest * 2 ^ 8) = digits ∙ apart low rest (omega arith) in
      let shifted : with_bits polynomial (n + 8) (rest * 2 ^ 8) ≡ with_bits polynomial n rest = with_bits-more n 8 (rest * 2 ^ 8) ∙ ap (with_bits polynomial n) (with_bits-shifted 8 rest) in
      ap (with_bits polynomial (n + 8)) whole ∙ (with_bits-xor (n + 8) low (rest * 2 ^ 8) ∙ ap (bit_xor (with_bits polynomial (n + 8) low)) shifted)

  -- eight bits more, by what the lowest eight take with them
  pub with_byte-table : (register byte : ℕ) → byte < 256
      → with_byte polynomial register byte ≡ bit_xor (with_bits polynomial 8 (bit_xor register byte % 256)) (register / 256)
  unfolding with_bits
  with_byte-table register byte small =
      let x = bit_xor register byte in
      let high : x / 256 ≡ register / 256 = xor_shr register byte 8 ∙ (ap (bit_xor (register / 2 ^ 8)) (omega arith) ∙ xor_zero_r (register / 2 ^ 8)) in
      with_bits-split 0 x ∙ ap (bit_xor (with_bits polynomial 8 (x % 256))) high

  -- a table of what each byte leaves in the register after a number of bits
  pub remainder_at : (bits : ℕ) (table : List ℕ) (byte : ℕ) → byte < 256 → table ≡ map (with_bits polynomial bits) (range_with_len 0 256) → get_or table byte 0 ≡ with_bits polynomial bits byte
  remainder_at bits table byte small is =
      let below : byte < length (range_with_len 0 256) = rw (length-range_with_len 0 256) small in
      rw is (get_or-map (with_bits polynomial bits) (range_with_len 0 256) byte 0 0 below ∙ ap (with_bits polynomial bits) (get_or-range_with_len 0 256 byte 0 small ∙ omega arith))

  pub remainder_in : (found : List (List ℕ)) (zeros byte : ℕ) → zeros < 8 → byte < 256 → found ≡ tables polynomial → get_or (get_or found zeros []) byte 0 ≡ with_bits polynomial (8 * (1 + zeros)) byte
  unfolding tables
  remainder_in found zeros byte few small is =
      let below : zeros < length (range_with_len 0 8) = rw (length-range_with_len 0 8) few in
      let found_row : get_or found zeros [] ≡ row polynomial zeros =
      rw is (get_or-map (row polynomial) (range_with_len 0 8) zeros 0 [] below ∙ ap (row polynomial) (get_or-range_with_len 0 8 zeros 0 few ∙ omega arith)) in
      remainder_at (8 * (1 + zeros)) (get_or found zeros []) byte small found_row
