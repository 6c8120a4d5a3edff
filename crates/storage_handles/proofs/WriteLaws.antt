-- Pieces that are written one after the other.
use Rattle.std.proofs.Common.{◌≡◌, ◌∙◌, ℕ, ◌+◌, ◌-◌, ◌<◌, ◌≤◌, ◌⊎◌, List, [], ◌∷◌, length, get_or, take, drop, max, sym, ap, arith}
use Rattle.std.specs.Borrow.{Bor}
use Rattle.std.proofs.lemmas.List.{length-take, length-drop, length-append, length-replicate, take-append-drop, places}
use Rattle.std.proofs.lemmas.List.Sums.{fold_more}
use Rattle.std.proofs.lemmas.Grind.{fold-append}
use Rattle.storage_handles.specs.Writes.{written_at, written_all}

abbrev write_piece : List ℕ → ℕ × Bor (List ℕ) → List ℕ
write_piece written piece = written_at piece.0 piece.1.now written

-- what is read past the end of a list of pieces
abbrev pub no_piece : ℕ × Bor (List ℕ)
no_piece = (0, record { ref_ptr = (0, 0); now = [] })

pub length-written_at : (offset : ℕ) (piece bytes : List ℕ) → length (written_at offset piece bytes) ≡ max (length bytes) (offset + length piece)
length-written_at offset piece bytes = simp (length-append, length-take, length-drop, length-replicate) (omega arith)

-- the bytes in the piece
pub written_inside : (offset : ℕ) (piece bytes : List ℕ) (k : ℕ) → offset ≤ k → k < offset + length piece → get_or (written_at offset piece bytes) k 0 ≡ get_or piece (k - offset) 0
written_inside offset piece bytes k from below = grind (arith, places)

-- and those beside it
pub written_outside : (offset : ℕ) (piece bytes : List ℕ) (k : ℕ) → (k < offset) ⊎ (offset + length piece ≤ k) → get_or (written_at offset piece bytes) k 0 ≡ get_or bytes k 0
written_outside offset piece bytes k beside = grind (arith, places)

-- bytes after all pieces are no shorter than before
pub written_longer : (pieces : List (ℕ × Bor (List ℕ))) (bytes : List ℕ) → length bytes ≤ length (written_all pieces bytes)
written_longer [] bytes = omega arith
written_longer (p ∷ ps) bytes = omega (arith, length-written_at p.0 p.1.now bytes, written_longer ps (written_at p.0 p.1.now bytes))

-- the length of the bytes after one more piece
pub length-written_more : (pieces : List (ℕ × Bor (List ℕ))) (bytes : List ℕ) (i : ℕ) (d : ℕ × Bor (List ℕ)) → i < length pieces
    → length (written_all (take (i + 1) pieces) bytes) ≡ max (length (written_all (take i pieces) bytes)) ((get_or pieces i d).0 + length (get_or pieces i d).1.now)
length-written_more pieces bytes i d below =
    ap length (fold_more write_piece bytes pieces i d below) ∙ length-written_at (get_or pieces i d).0 (get_or pieces i d).1.now (written_all (take i pieces) bytes)

-- after some of the pieces the bytes are no longer than after all
pub written_rest : (pieces : List (ℕ × Bor (List ℕ))) (bytes : List ℕ) (i : ℕ) → length (written_all (take i pieces) bytes) ≤ length (written_all pieces bytes)
written_rest pieces bytes i =
    let whole : written_all pieces bytes ≡ written_all (drop i pieces) (written_all (take i pieces) bytes) =
    ap (λ ps. written_all ps bytes) (sym (take-append-drop i pieces)) ∙ fold-append write_piece bytes (take i pieces) (drop i pieces) in
    rw whole (written_longer (drop i pieces) (written_all (take i pieces) bytes))

-- each piece ends within the bytes that all pieces leave
pub piece_within : (pieces : List (ℕ × Bor (List ℕ))) (bytes : List ℕ) (i : ℕ) (d : ℕ × Bor (List ℕ)) → i < length pieces
    → (get_or pieces i d).0 + length (get_or pieces i d).1.now ≤ length (written_all pieces bytes)
piece_within pieces bytes i d below = omega (arith, length-written_more pieces bytes i d below, written_rest pieces bytes (i + 1))
