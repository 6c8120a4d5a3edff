-- Steps of what a chain decodes and reads.
use Rattle.std.proofs.Common.{◌≡◌, ℕ, zero, suc, ◌+◌, ◌<◌, ◌≤◌, ◌⊎◌, List, Option, Some, None, IsSome, length, take, drop, replicate, refl, sym, subst, arith, inl, inr}
use Rattle.std.proofs.Math.Seq.{take-length}
use Rattle.parts_errors.specs.Words.{Bytes, CellsOf}
use Rattle.parts_errors.specs.Order.{◌or◌then◌, done, RefusedBy}
use Rattle.parts_errors.specs.declared.error.CodecError.{CodecError}
use Rattle.parts_errors.specs.declared.error.CodecError.TheVariants.{Damaged, Fault}
use Rattle.codec_traits.specs.Cells.{all_there}
use Rattle.codec_traits.specs.Refusals.{MayRefuseDecode}
use Rattle.codec_traits.specs.Reads.{MayRefuseRead, cells_at}
use Rattle.codec_chains.specs.Chains.{cells_of}

-- no cell of some is not all of them
all_there-none : (n : ℕ) → 0 < n → all_there {A = List ℕ} (replicate n None) ≡ None
all_there-none zero h = absurd (omega arith)
all_there-none (suc n) h = refl

-- what the codec from bytes to bytes refuses, `decode` may refuse
pub refused_decode : (cells : CellsOf) (n : ℕ) (inner : Option Bytes) (e : CodecError) → 0 < n
    → RefusedBy (IsSome inner or Damaged then done) e → MayRefuseDecode (cells_of cells n inner) e
refused_decode cells n inner e some (inl memory) = rw memory tt
refused_decode cells n None e some (inr (inl none)) = rw none.1 (all_there-none n some)
refused_decode cells n (Some b) e some (inr (inl none)) = absurd (none.0 refl)
refused_decode cells n inner e some (inr (inr never)) = absurd never.1

-- and a read of some cells
pub refused_read : (decoding : Bytes → Option Bytes) (cells : CellsOf) (n : ℕ) (b part : Bytes) (shape : List ℕ) (points : List (List ℕ)) (e : CodecError) → 0 < n → b ≡ part
    → RefusedBy (IsSome (decoding b) or Damaged then done) e → MayRefuseRead (cells_of cells n (decoding part)) (cells_at (cells_of cells n (decoding part)) shape points) e
refused_read decoding cells n b part shape points e some same (inl memory) = rw memory tt
refused_read decoding cells n b part shape points e some same (inr (inl none)) =
    rw none.1 (no_inner (decoding part) (λ there. none.0 (rw same there)))
  where
    no_inner : (inner : Option Bytes) → ¬ (IsSome inner) → all_there (cells_of cells n inner) ≡ None
    no_inner None h = all_there-none n some
    no_inner (Some x) h = absurd (h refl)
refused_read decoding cells n b part shape points e some same (inr (inr never)) = absurd never.1

-- bytes that are held whole
pub whole_lies_in : (inner held : Bytes) (size : ℕ) → held ≡ inner → size ≡ length inner → 0 + size ≤ length held
whole_lies_in inner held size same whole = rw same (omega (arith, whole))

-- what the first codec refuses of the bytes that were encoded, which it reads in memory, a read may refuse
pub refused_inner : (cells : CellsOf) (n : ℕ) (decoded : Option Bytes) (inner held : Bytes) (size : ℕ) (shape : List ℕ) (points : List (List ℕ)) (e : CodecError)
    → decoded ≡ Some inner → held ≡ inner → size ≡ length inner
    → ((e ≡ Fault) × 0 < 0) ⊎ MayRefuseRead (cells (take size (drop 0 held))) (cells_at (cells (take size (drop 0 held))) shape points) e
    → MayRefuseRead (cells_of cells n decoded) (cells_at (cells_of cells n decoded) shape points) e
refused_inner cells n decoded inner held size shape points e is same whole (inl fault) = absurd (omega (arith, fault.1))
refused_inner cells n decoded inner held size shape points e is same whole (inr may) =
    let all : take size (drop 0 held) ≡ inner = rw (same, whole) (take-length inner) in
    subst (λ o. MayRefuseRead (cells_of cells n o) (cells_at (cells_of cells n o) shape points) e) (sym is)
    (subst (λ b. MayRefuseRead (cells b) (cells_at (cells b) shape points) e) all may)
