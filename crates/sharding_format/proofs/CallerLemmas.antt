-- What callers learn from a refusal.
use Rattle.std.proofs.Common.{◌≡◌, ℕ, List, Option, IsSome, Result, Ok, Err, IfErr, inl, inr, length, take, drop, refl}
use Rattle.parts_row_major.specs.Numbering.{count_of}
use Rattle.parts_subsets.specs.Grid.{grid_of}
use Rattle.parts_errors.specs.Order.{◌or◌then◌, ◌or_as◌then◌, RefusedBy}
use Rattle.parts_errors.specs.declared.error.CodecError.{CodecError}
use Rattle.parts_errors.specs.declared.error.CodecError.TheVariants.{OutOfMemory, TooLarge, Fault, Damaged, BadIndexEntry}
use Rattle.codec_traits.specs.Meanings.{Meaning}
use Rattle.codec_traits.specs.Cells.{all_there}
use Rattle.codec_traits.specs.Refusals.{AreTooLong, AreDamaged, MayRefuseDecode, RefusesUnserved}
use Rattle.sharding_format.specs.Index.{index_part, numbers_in_index}
use Rattle.sharding_format.specs.Cells.{Layout}
use Rattle.sharding_format.specs.DecodeRefusals.{RefusesStored, RefusesSubchunk, IsLowestBad, slot_by, DecodeRefusals}
use Rattle.sharding_format.specs.declared.slot.Slot.{Slot}
use Rattle.sharding_format.specs.declared.slot.Slot.TheVariants.{Absent, InRange, Bad}
use Rattle.sharding_format.proofs.RefusalLemmas.{passed_refusal}

never_damaged : (cells : List (Option (List ℕ))) → IsSome (all_there cells) → ¬ (AreDamaged cells)
never_damaged cells h = λ d. let k = rw d at h in cc

only_memory : (cells : List (Option (List ℕ))) (e : CodecError) → IsSome (all_there cells) → (¬ (AreTooLong cells)) → MayRefuseDecode cells e → e ≡ OutOfMemory
only_memory cells OutOfMemory h k m = refl
only_memory cells TooLarge h k m = elim m [ inl long ↦ absurd (k long) | inr d ↦ absurd (never_damaged cells h d) ]
only_memory cells Fault h k m = absurd m
only_memory cells _ h k m = absurd (never_damaged cells h m)

-- an array that is there is refused only for memory
pub sound_refused : {T : Type 0} (r : Result T CodecError) (Serves : Type 0) (cells : List (Option (List ℕ))) → Serves → IsSome (all_there cells) → (¬ (AreTooLong cells))
    → IfErr r (λ e. Serves → MayRefuseDecode cells e) → IfErr r (λ e. e ≡ OutOfMemory)
sound_refused (Ok x) Serves cells s h k m = tt
sound_refused (Err e) Serves cells s h k m = only_memory cells e h k (m s)

-- other codecs' refusals are not taken for a bad entry
not_bad : (refusals : CodecError → Type 0) (cells : List (Option (List ℕ))) (n : ℕ) → ¬ (RefusesStored refusals cells (BadIndexEntry n))
not_bad refusals cells n h =
    elim (passed_refusal cells h.inner (BadIndexEntry n) h.lawful h.no_memory h.passed_on) [
      | inl t ↦ let e : BadIndexEntry n ≡ TooLarge = t.0 in cc
      | inr t ↦ let e : BadIndexEntry n ≡ Damaged = t.0 in cc
    ]

bad_slot : (inner_decode : List ℕ → CodecError → Type 0) (inner_cells : List ℕ → List (Option (List ℕ))) (b : List ℕ) (s : Slot) (k n : ℕ) → RefusesSubchunk inner_decode inner_cells b s k (BadIndexEntry n) → (s ≡ Bad) × (n ≡ k)
bad_slot inner_decode inner_cells b Absent k n h = absurd h
bad_slot inner_decode inner_cells b (InRange offset size) k n h = absurd (not_bad (inner_decode (take size (drop offset b))) (inner_cells (take size (drop offset b))) n h)
bad_slot inner_decode inner_cells b Bad k n h = (refl, cc)

lowest_bad : (inner index : Meaning) (l : Layout) (b : List ℕ) (n : ℕ)
    → DecodeRefusals inner index l b (BadIndexEntry n)
    → IsLowestBad inner.cells b (numbers_in_index index.cells l.location l.index_size b) (count_of (grid_of l.shape l.sub)) n
lowest_bad inner index l b n h =
    elim h [
      | inl short ↦ let e = short.1 in cc
      | inr after_length ↦ elim after_length.1 [
        | inl found ↦ absurd (not_bad (index.decode_refusals (index_part l.location l.index_size b)) (index.cells (index_part l.location l.index_size b)) n found)
        | inr after_index ↦ elim after_index.1 [
          | inl one ↦
              let bad = bad_slot inner.decode_refusals inner.cells b (slot_by (length b) (numbers_in_index index.cells l.location l.index_size b) one.0) one.0 n one.1.2 in
              rw bad.1 (record { below = one.1.0; before = one.1.1; bad = bad.0 })
          | inr after_subchunks ↦ let e = after_subchunks.1.0 in cc
        ]
      ]
    ]

-- a shard that is served and refused for a bad entry
pub reported : (codec inner index : Meaning) (l : Layout) (b : List ℕ) (e : CodecError) (n : ℕ)
    → codec.serves
    → RefusedBy (
    codec.serves or_as RefusesUnserved codec then
    DecodeRefusals inner index l b) e
    → e ≡ BadIndexEntry n
    → IsLowestBad inner.cells b (numbers_in_index index.cells l.location l.index_size b) (count_of (grid_of l.shape l.sub)) n
reported codec inner index l b e n s h is =
    elim (rw is at h) [
      | inl memory ↦ let k = memory in cc
      | inr refusals ↦ elim refusals [
        | inl unserved ↦ absurd (unserved.0 s)
        | inr decode ↦ lowest_bad inner index l b n decode.1
      ]
    ]
