-- Elements that are stored one after the other, as they are in memory, and the refusals of a read behind an earlier one.
use Rattle.std.proofs.Common.{◌≡◌, ◌∙◌, ℕ, ◌+◌, ◌-◌, ◌*◌, ◌<◌, ◌≤◌, List, [], ◌∷◌, ◌++◌, Option, Some, None, map, length, take, drop, get_or, ap, sym, add-one, inl, inr, arith}
use Rattle.std.proofs.Math.Seq.{take-suc}
use Rattle.std.proofs.lemmas.List.{drop-take, drop-drop, take-take, get_or-map, map-append, length-take, length-drop}
use Rattle.parts_row_major.specs.Pieces.{piece, pieces}
use Rattle.parts_errors.specs.Words.{CellsOf, Refusals}
use Rattle.parts_errors.specs.Order.{RefusedBy}
use Rattle.parts_errors.specs.declared.error.CodecError.{CodecError}
use Rattle.storage_handles.specs.declared.bytes.Interval.{Interval}
use Rattle.storage_handles.specs.declared.bytes.ByteRange.TheVariants.{FromStart}
use Rattle.storage_handles.specs.Handles.{HandleState, IsRead, IsPart}
use Rattle.storage_handles.specs.Objects.{interval_part, HasInterval, ObjectRefusals}
use Rattle.codec_traits.proofs.ReadLemmas.{length-interval_part}
use Rattle.parts_row_major.proofs.PieceLaws.{length-pieces, piece_of-pieces, pieces_more}

-- a part of a slice of a list
pub part_of_slice : (n offset size k : ℕ) (bytes : List ℕ) → k + n ≤ size → take n (drop k (take size (drop offset bytes))) ≡ take n (drop (offset + k) bytes)
part_of_slice n offset size k bytes fits =
    let rest = size - k in
    let whole : size ≡ k + rest = omega arith in
    ap (λ m. take n (drop k (take m (drop offset bytes)))) whole
    ∙ (ap (take n) (drop-take k rest (drop offset bytes))
    ∙ (take-take n rest (drop k (drop offset bytes)) (omega arith)
    ∙ ap (take n) (drop-drop k offset bytes)))

-- the cell at a place of a slice whose bytes are the elements
pub cell_of_slice : (n offset size position many : ℕ) (bytes : List ℕ) (cells : CellsOf) → offset + size ≤ length bytes → position * n + n ≤ size → position < many
    → ((b : List ℕ) → length b ≡ size → cells b ≡ map Some (pieces n many b))
    → get_or (cells (take size (drop offset bytes))) position None ≡ Some (take n (drop (offset + position * n) bytes))
cell_of_slice n offset size position many bytes cells inside fits lt plain =
    let slice = take size (drop offset bytes) in
    let long : length slice ≡ size = rw (length-take size (drop offset bytes), length-drop offset bytes) (omega arith) in
    let some : List ℕ → Option (List ℕ) = λ x. Some x in
    ap (λ (xs : List (Option (List ℕ))). get_or xs position None) (plain slice long)
    ∙ (get_or-map some (pieces n many slice) position [] None (omega (arith, length-pieces n many slice))
    ∙ ap some (piece_of-pieces n many slice position lt ∙ part_of_slice n offset size (position * n) bytes fits))

-- the cell at a place of a slice, in an interval of an object, of which its bytes were read
pub cell_read : (outer : Interval) (n offset size position many : ℕ) (contents : Option (List ℕ)) (element : List ℕ) (cells : CellsOf) → HasInterval outer contents → offset + size ≤ outer.size
    → position * n + n ≤ size → position < many → ((b : List ℕ) → length b ≡ size → cells b ≡ map Some (pieces n many b))
    → IsPart (FromStart (outer.offset + (offset + position * n)) (Some n)) contents (Some element)
    → get_or (cells (take size (drop offset (interval_part outer contents)))) position None ≡ Some element
cell_read outer n offset size position many None element cells has inside fits lt plain told = absurd has
cell_read outer n offset size position many (Some bytes) element cells has inside fits lt plain told =
    let some : List ℕ → Option (List ℕ) = λ x. Some x in
    let whole = length-interval_part outer (Some bytes) has in
    cell_of_slice n offset size position many (interval_part outer (Some bytes)) cells (omega (arith, whole, inside)) fits lt plain
    ∙ (ap some (part_of_slice n outer.offset outer.size (offset + position * n) bytes (omega arith)) ∙ sym told.1)

some_same : (x y : List ℕ) → Some x ≡ Some y → x ≡ y
some_same x y h = cc

-- the cell at a place of a slice, in an interval of an object, which was read
pub slice_read : (outer : Interval) (n offset size position many : ℕ) (contents : Option (List ℕ)) (slice : List ℕ) (cells : CellsOf) → HasInterval outer contents → offset + size ≤ outer.size
    → length slice ≡ size → position < many → ((b : List ℕ) → length b ≡ size → cells b ≡ map Some (pieces n many b))
    → IsPart (FromStart (outer.offset + offset) (Some size)) contents (Some slice)
    → get_or (cells (take size (drop offset (interval_part outer contents)))) position None ≡ Some (piece n slice position)
slice_read outer n offset size position many None slice cells has inside long lt plain told = absurd has
slice_read outer n offset size position many (Some bytes) slice cells has inside long lt plain told =
    let some : List ℕ → Option (List ℕ) = λ x. Some x in
    let same : take size (drop offset (interval_part outer (Some bytes))) ≡ slice = some_same _ _ (ap some (part_of_slice size outer.offset outer.size offset bytes inside) ∙ sym told.1) in
    ap (λ b. get_or (cells b) position None) same
    ∙ (ap (λ (xs : List (Option (List ℕ))). get_or xs position None) (plain slice long)
    ∙ (get_or-map some (pieces n many slice) position [] None (omega (arith, length-pieces n many slice)) ∙ ap some (piece_of-pieces n many slice position lt)))

-- the element of one number more
pub element_more : (n i : ℕ) (f : ℕ → Option (List ℕ)) (numbers before element after : List ℕ) → i < length numbers → length before ≡ i * n → length element ≡ n
    → map f (take i numbers) ≡ map Some (pieces n i before) → f (get_or numbers i 0) ≡ Some element → after ≡ before ++ element
    → map f (take (i + 1) numbers) ≡ map Some (pieces n (i + 1) after)
element_more n i f numbers before element after lt whole long are here is =
    let some : List ℕ → Option (List ℕ) = λ x. Some x in
    let next : take (i + 1) numbers ≡ take i numbers ++ get_or numbers i 0 ∷ [] = rw add-one (take-suc numbers i 0 lt) in
    ap (map f) next
    ∙ (map-append f (take i numbers) (get_or numbers i 0 ∷ [])
    ∙ (ap (λ (xs : List (Option (List ℕ))). xs ++ f (get_or numbers i 0) ∷ []) are
    ∙ (ap (λ (x : Option (List ℕ)). map some (pieces n i before) ++ x ∷ []) here
    ∙ (sym (map-append some (pieces n i before) (element ∷ []))
    ∙ (ap (map some) (sym (pieces_more n i before element whole long))
    ∙ ap (λ xs. map some (pieces n (i + 1) xs)) (sym is))))))

-- a refusal after an earlier read
pub refused_after : (old mid new : HandleState) (refusals : Refusals) (e : CodecError) → IsRead old mid → RefusedBy (ObjectRefusals mid new refusals) e → RefusedBy (ObjectRefusals old new refusals) e
refused_after old mid new refusals e read (inl memory) = inl memory
refused_after old mid new refusals e read (inr h) = inr (λ t. elim (h (rw read.transparent_same t)) [
  | inl fault ↦ inl (fault.0, omega (arith, fault.1, read.faults_kept))
  | inr refused ↦ inr refused
])
