-- The numbers of an interval that is read in pieces.
use Rattle.std.proofs.Common.{◌≡◌, ℕ, zero, suc, ◌+◌, ◌*◌, ◌/◌, ◌≤◌, List, [], ◌∷◌, ◌++◌, Option, length, map, take, drop, sym, ap, ◌∙◌, arith}
use Rattle.std.proofs.lemmas.List.{append-nil, append_assoc, map-append, length-append, length-map}
use Rattle.std.proofs.lemmas.List.FromFn.{map-range_with_len_more}
use Rattle.std.specs.List.{range_with_len}
use Rattle.std.specs.Simd.{first_chunks}
use Rattle.parts_row_major.specs.Pieces.{piece, pieces}
use Rattle.parts_row_major.proofs.PieceLaws.{map_range_same, piece_in_run, length-pieces}
use Rattle.storage_handles.specs.declared.bytes.Interval.{Interval}
use Rattle.storage_handles.specs.Objects.{interval_part}
use Rattle.sharding_format.specs.Index.{number_of_element}
use Rattle.sharding_format.proofs.IntervalLemmas.{interval_part-nested}
use Rattle.sharding_index.proofs.NumberLaws.{chunks_as_pieces}

-- what a function gives at the first numbers, in two parts
map_range_joined : {X : Type 0} (f : ℕ → X) (a c : ℕ) → map f (range_with_len 0 (a + c)) ≡ map f (range_with_len 0 a) ++ map (λ k. f (a + k)) (range_with_len 0 c)
map_range_joined f a zero =
    let none : a + 0 ≡ a = omega arith in
    rw none (sym (append-nil (map f (range_with_len 0 a))))
map_range_joined f a (suc c) =
    let more : a + suc c ≡ (a + c) + 1 = omega arith in
    let last : suc c ≡ c + 1 = omega arith in
    ap (λ n. map f (range_with_len 0 n)) more
    ∙ map-range_with_len_more f 0 (a + c) (a + c) (omega arith)
    ∙ ap (λ xs. xs ++ f (a + c) ∷ []) (map_range_joined f a c)
    ∙ append_assoc (map f (range_with_len 0 a)) (map (λ k. f (a + k)) (range_with_len 0 c)) (f (a + c) ∷ [])
    ∙ ap (λ xs. map f (range_with_len 0 a) ++ xs) (sym (ap (λ n. map (λ k. f (a + k)) (range_with_len 0 n)) last ∙ map-range_with_len_more (λ k. f (a + k)) 0 c c (omega arith)))

-- the first pieces, and those of the part of the list behind them
pieces_joined : (n a c : ℕ) (xs : List ℕ) → pieces n (a + c) xs ≡ pieces n a xs ++ pieces n c (take (c * n) (drop (a * n) xs))
pieces_joined n a c xs =
    map_range_joined (piece n xs) a c
    ∙ ap (λ ys. pieces n a xs ++ ys) (map_range_same (λ k. piece n xs (a + k)) (piece n (take (c * n) (drop (a * n) xs))) c [] (λ k lt. sym (piece_in_run n a c k xs lt)))

-- the numbers that bytes are stand behind others
pub record AreBehind (many : ℕ) (bytes old numbers : List ℕ) : Type 0 where
  pub counted : length numbers ≡ length old + many
  pub are : numbers ≡ old ++ map number_of_element (pieces 8 many bytes)

pub numbers_behind : (many : ℕ) (bytes old numbers : List ℕ) → length bytes ≡ many * 8 → numbers ≡ old ++ map number_of_element (first_chunks 8 (length bytes / 8) bytes)
    → AreBehind many bytes old numbers
numbers_behind many bytes old numbers whole read =
    let more = map number_of_element (pieces 8 many bytes) in
    let are = read ∙ ap (λ xs. old ++ map number_of_element xs) (chunks_as_pieces 8 many bytes (omega arith) whole) in
    let counted = length-map (pieces 8 many bytes) number_of_element ∙ length-pieces 8 many bytes in
    record {
      counted = ap length are ∙ omega (arith, length-append old more, counted);
      are = are;
    }

-- the numbers of an interval's next piece stand behind those before it
pub numbers_more : (outer : Interval) (contents : Option (List ℕ)) (a c : ℕ) (old new : List ℕ) → a * 8 + c * 8 ≤ outer.size
    → old ≡ map number_of_element (pieces 8 a (interval_part outer contents))
    → new ≡ old ++ map number_of_element (pieces 8 c (interval_part (record { offset = outer.offset + a * 8; size = c * 8 }) contents))
    → new ≡ map number_of_element (pieces 8 (a + c) (interval_part outer contents))
numbers_more outer contents a c old new fits before appended =
    let part = interval_part outer contents in
    let here = take (c * 8) (drop (a * 8) part) in
    appended
    ∙ ap (λ bytes. old ++ map number_of_element (pieces 8 c bytes)) (interval_part-nested (a * 8) (c * 8) outer contents fits)
    ∙ ap (λ ys. ys ++ map number_of_element (pieces 8 c here)) before
    ∙ sym (map-append number_of_element (pieces 8 a part) (pieces 8 c here))
    ∙ ap (map number_of_element) (sym (pieces_joined 8 a c part))
