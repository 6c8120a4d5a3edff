-- The codec `bytes` keeps the laws.
use Rattle.std.proofs.Common.{◌≡◌, ◌≢◌, ℕ, zero, suc, ◌*◌, ◌<◌, Bool, true, false, List, [], ◌∷◌, Option, Some, None, IfSome, length, map, replicate, get_or, refl, sym, ap, ◌∙◌, arith, inl, inr}
use Rattle.std.proofs.lemmas.Bool.{eq-eqb}
use Rattle.std.proofs.lemmas.Bool.Decides.{eqb_tells}
use Rattle.std.proofs.lemmas.List.{length-map, length-replicate, get_or-map, get_or-replicate, length-reverse, reverse-reverse}
use Rattle.std.proofs.lemmas.List.Elements.{All-nil, All-cons, All-head, All-tail}
use Rattle.std.specs.List.{All, concat}
use Rattle.parts_row_major.specs.Numbering.{count_of}
use Rattle.parts_arrays.specs.ArraySpec.{ArraySpec, IsArrayOf}
use Rattle.parts_arrays.specs.Types.{size_of, FitsKind}
use Rattle.parts_arrays.specs.Arrays.{Array}
use Rattle.parts_row_major.specs.Pieces.{pieces}
use Rattle.parts_arrays.specs.declared.data_type.DataTypeSize.{DataTypeSize}
use Rattle.parts_arrays.specs.declared.data_type.DataTypeSize.TheVariants.{Fixed}
use Rattle.parts_row_major.proofs.PieceLaws.{length-pieces, length-concat, pieces-concat, All-pieces}
use Rattle.codec_bytes.specs.declared.bytes_codec.Endianness.{Endianness}
use Rattle.codec_traits.specs.Cells.{all_there}
use Rattle.parts_errors.specs.declared.error.CodecError.{CodecError}
use Rattle.parts_errors.specs.declared.error.CodecError.TheVariants.{UnsupportedDataType, BadFillValue, TooLarge, WrongElementKind, InvalidNumberOfElements}
use Rattle.codec_traits.specs.Laws.{IsLawful}
use Rattle.codec_traits.specs.Refusals.{IsNoFault}
use Rattle.codec_traits.specs.RefusalLaws.{test_faultless}
use Rattle.codec_bytes.specs.BytesCodec.{is_reversed, swapped, element_size, BytesServes, bytes_of, bytes_cells, BytesCheckRefusals, BytesEncodeRefusals, bytes_meaning}

-- swapping twice gives the element back, and keeps its length
pub swapped-swapped : (reversed : Bool) (e : List ℕ) → swapped reversed (swapped reversed e) ≡ e
swapped-swapped false e = refl
swapped-swapped true e = reverse-reverse e

pub length-swapped : (reversed : Bool) (e : List ℕ) → length (swapped reversed e) ≡ length e
length-swapped false e = refl
length-swapped true e = length-reverse e

pub All-swapped : (n : ℕ) (reversed : Bool) (elements : List (List ℕ))
    → All (λ e. length e ≡ n) elements → All (λ e. length e ≡ n) (map (swapped reversed) elements)
All-swapped n reversed [] h = All-nil (λ e. length e ≡ n)
All-swapped n reversed (e ∷ es) h =
    All-cons (λ x. length x ≡ n) (swapped reversed e) (map (swapped reversed) es)
    (length-swapped reversed e ∙ All-head (λ x. length x ≡ n) e es h)
    (All-swapped n reversed es (All-tail (λ x. length x ≡ n) e es h))

-- the cells of stored elements are the elements
pub cells_swapped : (reversed : Bool) (elements : List (List ℕ))
    → map (λ e. Some (swapped reversed e)) (map (swapped reversed) elements) ≡ map Some elements
cells_swapped reversed [] = refl
cells_swapped reversed (e ∷ es) = rw (swapped-swapped reversed e, cells_swapped reversed es) refl

-- the elements of a fixed kind have its size
sized : (kind : DataTypeSize) (n : ℕ) (elements : List (List ℕ))
    → kind ≡ Fixed n → All (FitsKind kind) elements → All (λ e. length e ≡ n) elements
sized kind n elements e h = rw e at h

pub elements_sized : (endianness : Option Endianness) (g : ArraySpec) (elements : List (List ℕ))
    → BytesServes endianness g → IsArrayOf g elements → All (λ e. length e ≡ element_size g) elements
elements_sized endianness g elements s h = sized (size_of g.data_type) (element_size g) elements s.supported.fixed h.fitting

-- the stored bytes of an array have the right length
pub length-bytes_of : (endianness : Option Endianness) (g : ArraySpec) (elements : List (List ℕ)) (b : List ℕ)
    → BytesServes endianness g → IsArrayOf g elements → b ≡ bytes_of endianness g elements → length b ≡ count_of g.shape * element_size g
length-bytes_of endianness g elements b s h e =
    let reversed = is_reversed endianness g.data_type in
    ap length e
    ∙ (length-concat (element_size g) (map (swapped reversed) elements)
    (All-swapped (element_size g) reversed elements (elements_sized endianness g elements s h))
    ∙ ap (λ n. n * element_size g) (length-map elements (swapped reversed) ∙ h.counted))

-- bytes of the right length have all cells
pub bytes_cells-whole : (endianness : Option Endianness) (g : ArraySpec) (b : List ℕ) → length b ≡ count_of g.shape * element_size g
    → bytes_cells endianness g b
    ≡ map (λ e. Some (swapped (is_reversed endianness g.data_type) e)) (pieces (element_size g) (count_of g.shape) b)
unfolding bytes_cells
bytes_cells-whole endianness g b h = rw (eq-eqb (length b) (count_of g.shape * element_size g) h) refl

-- bytes of another length have none
pub bytes_cells-damaged : (endianness : Option Endianness) (g : ArraySpec) (b : List ℕ)
    → length b ≢ count_of g.shape * element_size g → bytes_cells endianness g b ≡ replicate (count_of g.shape) None
unfolding bytes_cells
bytes_cells-damaged endianness g b h = elim (eqb_tells (length b) (count_of g.shape * element_size g)) [
  | inl same ↦ absurd (h same.1)
  | inr other ↦ rw other.0 refl
]

all_there-none : (n : ℕ) → 0 < n → all_there {A = List ℕ} (replicate n None) ≡ None
all_there-none zero h = absurd (omega arith)
all_there-none (suc n) h = refl

pub bytes_damaged : (endianness : Option Endianness) (g : ArraySpec) (b : List ℕ)
    → 0 < count_of g.shape → length b ≢ count_of g.shape * element_size g → all_there (bytes_cells endianness g b) ≡ None
bytes_damaged endianness g b some h = rw (bytes_cells-damaged endianness g b h) (all_there-none (count_of g.shape) some)

-- the laws
pub bytes_cells_counted : (endianness : Option Endianness) (g : ArraySpec) (b : List ℕ) → length (bytes_cells endianness g b) ≡ count_of g.shape
bytes_cells_counted endianness g b =
    let size = element_size g in
    let many = count_of g.shape in
    elim (eqb_tells (length b) (many * size)) [
      | inl same ↦
          ap length (bytes_cells-whole endianness g b same.1)
          ∙ (length-map (pieces size many b) (λ e. Some (swapped (is_reversed endianness g.data_type) e)) ∙ length-pieces size many b)
      | inr other ↦ ap length (bytes_cells-damaged endianness g b other.1) ∙ length-replicate many None
    ]

pub bytes_cells_fitting : (endianness : Option Endianness) (g : ArraySpec) (b : List ℕ) (i : ℕ) → BytesServes endianness g → i < count_of g.shape
    → IfSome (get_or (bytes_cells endianness g b) i None) (FitsKind (size_of g.data_type))
bytes_cells_fitting endianness g b i s below =
    let size = element_size g in
    let many = count_of g.shape in
    let reversed = is_reversed endianness g.data_type in
    elim (eqb_tells (length b) (many * size)) [
      | inl same ↦
          let lt : i < length (pieces size many b) = omega (arith, length-pieces size many b) in
          let long = All-pieces size many b (omega (arith, same.1)) i [] lt in
          rw (
            bytes_cells-whole endianness g b same.1,
            get_or-map (λ e. Some (swapped reversed e)) (pieces size many b) i [] None lt,
            s.supported.fixed,
          )
          (length-swapped reversed (get_or (pieces size many b) i []) ∙ long)
      | inr other ↦ rw (bytes_cells-damaged endianness g b other.1, get_or-replicate {A = Option (List ℕ)} many i None None below) tt
    ]

pub bytes_written_cells : (endianness : Option Endianness) (g : ArraySpec) (elements : List (List ℕ)) (b : List ℕ)
    → BytesServes endianness g → IsArrayOf g elements → b ≡ bytes_of endianness g elements → bytes_cells endianness g b ≡ map Some elements
bytes_written_cells endianness g elements b s h e =
    let size = element_size g in
    let reversed = is_reversed endianness g.data_type in
    let stored = map (swapped reversed) elements in
    let many : count_of g.shape ≡ length stored = sym (length-map elements (swapped reversed) ∙ h.counted) in
    let cut : pieces size (count_of g.shape) b ≡ stored =
    ap (pieces size (count_of g.shape)) e
    ∙ (ap (λ n. pieces size n (concat stored)) many
    ∙ pieces-concat size stored (All-swapped size reversed elements (elements_sized endianness g elements s h))) in
    bytes_cells-whole endianness g b (length-bytes_of endianness g elements b s h e)
    ∙ (ap (map (λ x. Some (swapped reversed x))) cut ∙ cells_swapped reversed elements)

-- `check` refuses nothing as a fault
pub bytes_check_faultless : (endianness : Option Endianness) (g : ArraySpec) (e : CodecError) → BytesCheckRefusals endianness g e → IsNoFault e
bytes_check_faultless endianness g e =
    test_faultless _ UnsupportedDataType _ tt (test_faultless _ BadFillValue _ tt (test_faultless _ TooLarge _ tt (λ x h. absurd h))) e

-- nor does `encode`
pub bytes_encode_faultless : (g : ArraySpec) (array : Array) (e : CodecError) → BytesEncodeRefusals g array e → IsNoFault e
bytes_encode_faultless g array e =
    test_faultless _ WrongElementKind _ tt (test_faultless _ InvalidNumberOfElements _ tt (λ x h. absurd h)) e

-- what the codec means keeps the laws
pub bytes_lawful : (endianness : Option Endianness) (g : ArraySpec) → IsLawful g (bytes_meaning endianness g)
bytes_lawful endianness g = record {
  check_faultless = λ e h. bytes_check_faultless endianness g e h;
  encode_faultless = λ array e h. bytes_encode_faultless g array e h;
  compact_faultless = λ b e h. absurd h;
  cells_counted = λ b s. bytes_cells_counted endianness g b;
  cells_fitting = λ b i s below. bytes_cells_fitting endianness g b i s below;
  written_cells = λ a b s h e. bytes_written_cells endianness g a b s h e;
  compacted_cells = λ old new s rewritten. absurd rewritten;
  bounded = λ a b s h e. length-bytes_of endianness g a b s h e;
}
