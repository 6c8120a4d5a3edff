-- Lists of bytes that are written over.
use Rattle.std.proofs.Common.{◌≡◌, ℕ, ◌++◌, List, length, take, drop, arith}
use Rattle.std.proofs.lemmas.List.{take_at}

-- a whole that is written from its start
pub whole_after : (n : ℕ) (new old : List ℕ) → length new ≡ length old → n ≡ length old → take n (new ++ drop (length new) old) ≡ new
whole_after n new old e len = take_at new (drop (length new) old) n (omega arith)
