-- Numbers of eight bytes each, laid end to end.
use Rattle.std.proofs.Common.{◌≡◌, ℕ, ◌+◌, ◌*◌, ◌/◌, ◌<◌, ◌≤◌, List, [], ◌∷◌, ◌++◌, length, map, take, drop, get_or, refl, sym, ap, ◌∙◌, arith, below_more}
use Rattle.std.specs.List.{All, concat}
use Rattle.std.specs.Simd.{first_chunks}
use Rattle.std.proofs.lemmas.List.{take_at, take-take, take-append-drop, drop_at, drop-take, ext_get_or, length-drop, length-map, length-take-le, map-append, get_or-map}
use Rattle.std.proofs.lemmas.List.Folds.{concat-append}
use lib.Seq.{take-append-add}
use Rattle.std.proofs.lemmas.List.Elements.{All-map, All-head, All-rest, All-from_get_or}
use Rattle.std.proofs.Math.Nat.{div-eq_of_eq-mul_left}
use borrow.Rule.Slice.PartMut.{put_mid}
use Rattle.parts_row_major.specs.Pieces.{piece, pieces}
use Rattle.parts_row_major.proofs.PieceLaws.{length-concat, concat-pieces, All-pieces, length-pieces, piece_of-pieces, piece_written, piece_kept}
use Rattle.sharding_format.specs.Index.{element_of_number}

-- lists of one length, laid end to end and cut again
cut_again : (n : ℕ) (xs : List (List ℕ)) → All (λ e. length e ≡ n) xs → first_chunks n (length xs) (concat xs) ≡ xs
cut_again n [] h = refl
cut_again n (x ∷ xs) h =
    let long : length x ≡ n = All-head (λ (e : List ℕ). length e ≡ n) x xs h in
    let rest : All (λ e. length e ≡ n) xs = All-rest (λ (e : List ℕ). length e ≡ n) x xs (x ∷ xs) refl h in
    ap (λ y. y ∷ first_chunks n (length xs) (drop n (x ++ concat xs))) (take_at x (concat xs) n long)
    ∙ ap (λ ys. x ∷ ys) (ap (first_chunks n (length xs)) (drop_at x (concat xs) n long) ∙ cut_again n xs rest)

pub chunks_of : (n : ℕ) (xs : List (List ℕ)) (bytes : List ℕ) → 0 < n → All (λ e. length e ≡ n) xs → bytes ≡ concat xs → first_chunks n (length bytes / n) bytes ≡ xs
chunks_of n xs bytes some h is =
    let many : length bytes / n ≡ length xs = div-eq_of_eq-mul_left some (ap length is ∙ length-concat n xs h) in
    ap (λ k. first_chunks n k bytes) many ∙ (ap (first_chunks n (length xs)) is ∙ cut_again n xs h)

-- where pieces fill the bytes, the chunks are the pieces
pub chunks_as_pieces : (n many : ℕ) (bytes : List ℕ) → 0 < n → length bytes ≡ many * n → first_chunks n (length bytes / n) bytes ≡ pieces n many bytes
chunks_as_pieces n many bytes some whole =
    chunks_of n (pieces n many bytes) bytes some (All-pieces n many bytes (omega arith)) (sym (concat-pieces n many bytes whole))

-- each number has eight bytes
pub numbers_sized : (numbers : List ℕ) → All (λ e. length e ≡ 8) (map element_of_number numbers)
numbers_sized numbers =
    All-map (λ (e : List ℕ). length e ≡ 8) element_of_number numbers (All-from_get_or (λ n. length (element_of_number n) ≡ 8) numbers 0 (λ k lt. refl))

-- the first numbers are written, eight bytes for each
abbrev pub AreWritten : (numbers bytes : List ℕ) (many : ℕ) → Type 0
AreWritten numbers bytes many = (j : ℕ) → j < many → piece 8 bytes j ≡ element_of_number (get_or numbers j 0)

-- the bytes of numbers, one after the other
abbrev pub bytes_of : List ℕ → List ℕ
bytes_of numbers = concat (map element_of_number numbers)

length-bytes_of : (numbers : List ℕ) → length (bytes_of numbers) ≡ length numbers * 8
length-bytes_of numbers =
    length-concat 8 (map element_of_number numbers) (numbers_sized numbers) ∙ ap (λ n. n * 8) (length-map numbers element_of_number)

bytes_of-append : (xs ys : List ℕ) → bytes_of (xs ++ ys) ≡ bytes_of xs ++ bytes_of ys
bytes_of-append xs ys =
    ap concat (map-append element_of_number xs ys) ∙ concat-append (map element_of_number xs) (map element_of_number ys)

-- the first numbers are written, and nothing is said of the bytes behind
abbrev pub AreFirst : (numbers bytes : List ℕ) (many : ℕ) → Type 0
AreFirst numbers bytes many = take (many * 8) bytes ≡ bytes_of (take many numbers)

take_block : (many n : ℕ) (xs : List ℕ) → take (many + n) xs ≡ take many xs ++ take n (drop many xs)
take_block many n xs =
    sym (take-append-drop many (take (many + n) xs))
    ∙ ap (λ ys. ys ++ drop many (take (many + n) xs)) (take-take many (many + n) xs (omega arith))
    ∙ ap (λ ys. take many xs ++ ys) (drop-take many n xs)

-- a block more
pub block_written : (numbers now part : List ℕ) (many n at k : ℕ) → at ≡ many * 8 → many + n ≤ length numbers → length now ≡ length numbers * 8
    → part ≡ bytes_of (take n (drop many numbers)) → AreFirst numbers now many → AreFirst numbers (put_mid at k now part) (many + n)
block_written numbers now part many n at k begins fits whole is first =
    let before = take at now in
    let behind = drop k (drop at now) in
    let before_long : length before ≡ at = length-take-le at now (omega (arith, begins, whole, fits)) in
    let block : length (take n (drop many numbers)) ≡ n = length-take-le n (drop many numbers) (omega (arith, fits, length-drop many numbers)) in
    let long : length part ≡ n * 8 = ap length is ∙ length-bytes_of (take n (drop many numbers)) ∙ ap (λ m. m * 8) block in
    let total : (many + n) * 8 ≡ length before + n * 8 = omega (arith, begins, before_long) in
    ap (λ m. take m (before ++ (part ++ behind))) total
    ∙ take-append-add before (part ++ behind) (n * 8)
    ∙ ap (λ ys. before ++ ys) (take_at part behind (n * 8) long)
    ∙ ap (λ m. take m now ++ part) begins
    ∙ ap (λ ys. ys ++ part) first
    ∙ ap (λ ys. bytes_of (take many numbers) ++ ys) is
    ∙ sym (bytes_of-append (take many numbers) (take n (drop many numbers)))
    ∙ ap bytes_of (sym (take_block many n numbers))

-- and all that are left
pub rest_written : (numbers now part : List ℕ) (many : ℕ) → part ≡ bytes_of (drop many numbers) → AreFirst numbers now many
    → take (many * 8) now ++ part ≡ bytes_of numbers
rest_written numbers now part many is first =
    ap (λ ys. ys ++ part) first ∙ ap (λ ys. bytes_of (take many numbers) ++ ys) is
    ∙ sym (bytes_of-append (take many numbers) (drop many numbers)) ∙ ap bytes_of (take-append-drop many numbers)

-- one number more
pub written_more : (numbers now part : List ℕ) (i k : ℕ) → i * 8 + 8 ≤ length now → k ≡ 8 → part ≡ element_of_number (get_or numbers i 0)
    → AreWritten numbers now i → AreWritten numbers (put_mid (i * 8) k now part) (i + 1)
written_more numbers now part i k fits e is so_far =
    let long : length part ≡ 8 = ap length is in
    below_more (λ j. piece 8 (put_mid (i * 8) k now part) j ≡ element_of_number (get_or numbers j 0)) i
    (λ j lt. piece_kept 8 i now part fits long k j e (omega arith) ∙ so_far j lt)
    (piece_written 8 i now part fits long k ∙ is)

-- bytes that are written whole
pub all_written : (numbers bytes : List ℕ) → length bytes ≡ length numbers * 8 → AreWritten numbers bytes (length numbers)
    → bytes ≡ concat (map element_of_number numbers)
all_written numbers bytes long each =
    let many = length numbers in
    let same : pieces 8 many bytes ≡ map element_of_number numbers =
    ext_get_or [] (pieces 8 many bytes) (map element_of_number numbers) (length-pieces 8 many bytes ∙ sym (length-map numbers element_of_number)) (λ j lt.
    let small : j < many = omega (arith, lt, length-pieces 8 many bytes) in
    piece_of-pieces 8 many bytes j small ∙ (each j small ∙ sym (get_or-map element_of_number numbers j 0 [] small))) in
    sym (concat-pieces 8 many bytes long) ∙ ap concat same
