-- A codec that is not looked into keeps the laws.
use Rattle.std.proofs.Common.{None}
use Rattle.parts_errors.specs.declared.error.CodecError.TheVariants.{CannotEncode}
use Rattle.parts_row_major.specs.Numbering.{count_of}
use Rattle.parts_arrays.specs.ArraySpec.{ArraySpec}
use Rattle.parts_arrays.specs.Types.{size_of, FitsKind}
use Rattle.codec_traits.specs.Laws.{IsLawful}
use Rattle.codec_traits.specs.RefusalLaws.{test_faultless}
use Rattle.codec_traits.proofs.WholeArrayLaws.{length-whole_cells, whole_cells-each}
use Rattle.array_codecs.specs.OpaqueCodec.{opaque_meaning}

pub opaque_lawful : (g : ArraySpec) → IsLawful g (opaque_meaning g)
opaque_lawful g = record {
  check_faultless = λ e h. absurd h;
  encode_faultless = λ array e h. test_faultless _ CannotEncode _ tt (λ x later. absurd later) e h;
  compact_faultless = λ b e h. absurd h;
  cells_counted = λ b s. length-whole_cells (count_of g.shape) None tt;
  cells_fitting = λ b i s below. whole_cells-each (FitsKind (size_of g.data_type)) (count_of g.shape) i None below tt tt;
  written_cells = λ a b s h e. absurd e;
  compacted_cells = λ old new s rewritten. absurd rewritten;
  bounded = λ a b s h e. absurd e;
}
