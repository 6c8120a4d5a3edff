-- Steps of the codec for elements that have lengths of their own.
use Rattle.std.proofs.Common.{◌≡◌, ◌<◌, ℕ, Option, Some, IfSome, length, map, sym, ap, ◌∙◌}
use Rattle.std.specs.List.{All}
use Rattle.parts_errors.specs.Words.{Bytes}
use Rattle.parts_errors.specs.Order.{RefusedBy}
use Rattle.parts_errors.specs.declared.error.CodecError.{CodecError}
use Rattle.parts_row_major.specs.Numbering.{count_of}
use Rattle.parts_arrays.specs.ArraySpec.{ArraySpec, IsArrayOf}
use Rattle.parts_arrays.specs.Types.{size_of, FitsKind}
use Rattle.parts_arrays.specs.Arrays.{Array}
use Rattle.parts_arrays.specs.Refusals.{IsValid}
use Rattle.parts_arrays.specs.declared.data_type.DataTypeSize.TheVariants.{Fixed, Variable}
use Rattle.codec_traits.specs.Refusals.{MayRefuseDecode}
use Rattle.codec_traits.specs.WholeArrays.{whole_cells, WholeRefusals}
use Rattle.codec_traits.proofs.WholeArrayLaws.{refused_whole}
use Rattle.codec_vlen.specs.Text.{vlen_elements}
use Rattle.codec_vlen.specs.VlenCodec.{VlenServes, vlen_cells}
use Rattle.codec_vlen.specs.VlenLaws.{vlen_counted, each_fits}

-- what holds of what is there
holds_of : {A : Type 0} (P : A → Type 0) (o : Option A) (x : A) → o ≡ Some x → IfSome o P → P x
holds_of P o x is h = rw is at h

-- what is read of an encoding is an array
pub record IsTextArray (g : ArraySpec) (b : Bytes) (array : Array) : Type 0 where
  pub kind : array.kind ≡ size_of g.data_type
  pub is_array : IsArrayOf g array.elements
  pub elements : vlen_elements (count_of g.shape) b ≡ Some array.elements
  pub cells : vlen_cells g b ≡ map Some array.elements
  pub valid : IsValid array (count_of g.shape) g.data_type

pub text_array : (g : ArraySpec) (b : Bytes) (array : Array) (n : ℕ) → VlenServes g → n ≡ count_of g.shape → array.kind ≡ Variable
    → vlen_elements n b ≡ Some array.elements → IsTextArray g b array
unfolding vlen_cells
text_array g b array n serves same kind read =
    let count = count_of g.shape in
    let elements : vlen_elements count b ≡ Some array.elements = ap (λ k. vlen_elements k b) (sym same) ∙ read in
    let counted : length array.elements ≡ count = holds_of (λ es. length es ≡ count) (vlen_elements count b) array.elements elements (vlen_counted count b) in
    let sized : array.kind ≡ size_of g.data_type = kind ∙ sym serves.variable in
    record {
      kind = sized;
      is_array = record {
        counted = counted;
        fitting = holds_of (All (FitsKind (size_of g.data_type))) (vlen_elements count b) array.elements elements
            (each_fits (size_of g.data_type) (vlen_elements count b) serves.variable);
      };
      elements = elements;
      cells = ap (whole_cells count) elements;
      valid = record { supported = λ none. variable_sized (sym serves.variable ∙ none); kind = sized; counted = counted };
    }
  where
    variable_sized : Variable ≡ Fixed 0 → ⊥
    variable_sized h = cc

-- what is refused of an encoding, `decode` may refuse
pub refused_text : (g : ArraySpec) (b : Bytes) (n : ℕ) (e : CodecError) → 0 < count_of g.shape → n ≡ count_of g.shape
    → RefusedBy (WholeRefusals (vlen_elements n b)) e → MayRefuseDecode (vlen_cells g b) e
unfolding vlen_cells
refused_text g b n e some same h =
    refused_whole (count_of g.shape) (vlen_elements (count_of g.shape) b) e some (rw same at h)
