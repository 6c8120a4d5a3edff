-- A codec from arrays to bytes, with the codec `transpose` before it (Zarr V3).
use Rattle.std.specs.Prelude.{◌≡◌, ⊤, ℕ, true, None, [], List, length}
use Rattle.parts_errors.specs.Words.{Elements}
use Rattle.parts_errors.specs.Order.{◌or◌then◌, done}
use Rattle.parts_errors.specs.declared.error.CodecError.TheVariants.{IncompatibleDimensionality}
use Rattle.parts_row_major.specs.Numbering.{count_of}
use Rattle.parts_arrays.specs.ArraySpec.{ArraySpec}
use Rattle.parts_arrays.specs.Types.{size_of}
use Rattle.codec_traits.specs.Meanings.{Meaning, Concurrency}
use Rattle.codec_chains.specs.ArrayChains.{ArrayElementRefusals}
use Rattle.array_codecs.specs.AxisOrders.{inverse_of, is_order, permuted, transposed}

-- the transposed arrays
abbrev pub transposed_spec : List ℕ → ArraySpec → ArraySpec
transposed_spec order g = record g { shape = permuted order g.shape }

-- the elements of the transposed array
abbrev pub encoded_elements : List ℕ → ArraySpec → Elements → Elements
encoded_elements order g elements = transposed (inverse_of order) (permuted order g.shape) [] elements

-- the order is one of the array's axes, and the codec serves the transposed arrays
pub record TransposeServes (order : List ℕ) (m : Meaning) (g : ArraySpec) : Type 0 where
  pub permutation : is_order order ≡ true
  pub axes : length g.shape ≡ length order
  pub inner : m.serves

-- what it means, by what the codec means of the transposed arrays
abbrev pub transpose_meaning : List ℕ → Meaning → ArraySpec → Meaning
transpose_meaning order m g = record {
  serves = TransposeServes order m g;
  cells = λ b. transposed order g.shape None (m.cells b);
  written = λ elements b. m.written (encoded_elements order g elements) b;
  encodable = λ elements. m.encodable (encoded_elements order g elements);
  fits = λ elements. m.fits (encoded_elements order g elements);
  representation = m.representation;
  check_refusals = length g.shape ≡ length order or IncompatibleDimensionality then m.check_refusals;
  encode_refusals = λ array. ArrayElementRefusals (size_of g.data_type) (count_of g.shape) array
      (m.encode_refusals (record { kind = array.kind; elements = encoded_elements order g array.elements }));
  decode_refusals = m.decode_refusals;
  compacted = λ old new. ⊥;
  compact_refusals = λ b. done;
  answerable = λ n. ⊤;
  read_refusals = λ b points. m.decode_refusals b;
}

-- its work is not shared
abbrev pub one_worker : Concurrency
one_worker = record { served = ⊤; workers = 1; refusals = done }
