-- A chain keeps the laws.
use Rattle.std.proofs.Common.{◌≡◌, ◌<◌, ℕ, List, Option, Some, None, IfSome, length, get_or, refl, ap, ◌∙◌}
use Rattle.std.proofs.lemmas.Bool.{eq-eqb}
use Rattle.std.proofs.lemmas.List.{length-replicate, get_or-replicate}
use Rattle.std.specs.Option.{option_map}
use Rattle.parts_errors.specs.Words.{Bytes, Elements, CellsOf, Written}
use Rattle.parts_errors.specs.declared.error.CodecError.TheVariants.{TooLarge}
use Rattle.parts_row_major.specs.Numbering.{count_of}
use Rattle.parts_arrays.specs.ArraySpec.{ArraySpec}
use Rattle.codec_traits.specs.declared.representation.BytesRepresentation.{BytesRepresentation}
use Rattle.codec_traits.specs.declared.representation.BytesRepresentation.TheVariants.{FixedSize, BoundedSize, UnboundedSize}
use Rattle.codec_traits.specs.Meanings.{Meaning}
use Rattle.codec_traits.specs.Laws.{IsLawful}
use Rattle.codec_traits.specs.RefusalLaws.{test_faultless, test_as_faultless}
use Rattle.codec_traits.specs.Representations.{IsWithin}
use Rattle.codec_chains.specs.Codings.{Coding, IsInvertible, IsBounded}
use Rattle.codec_chains.specs.Chains.{inner_bytes, chain_bytes, cells_of, IsChained, chain_meaning}

-- bytes that are as long as is known are those that were encoded
pub told_bytes : (told : Option BytesRepresentation) (decoded : Bytes) → IsWithin told (length decoded)
    → inner_bytes told (Some decoded) ≡ Some decoded
unfolding inner_bytes
told_bytes None decoded h = refl
told_bytes (Some (FixedSize n)) decoded h = rw (eq-eqb (length decoded) n h) refl
told_bytes (Some (BoundedSize n)) decoded h = refl
told_bytes (Some UnboundedSize) decoded h = refl

-- as many cells, whether there are bytes or not
length-cells_of : (cells : CellsOf) (n : ℕ) (inner : Option Bytes) → ((b : Bytes) → length (cells b) ≡ n)
    → length (cells_of cells n inner) ≡ n
length-cells_of cells n None h = length-replicate n None
length-cells_of cells n (Some b) h = h b

-- what holds of each cell that is there
cells_of-each : (P : Bytes → Type 0) (cells : CellsOf) (n i : ℕ) (inner : Option Bytes) → i < n
    → ((b : Bytes) → IfSome (get_or (cells b) i None) P) → IfSome (get_or (cells_of cells n inner) i None) P
cells_of-each P cells n i None below h = rw (get_or-replicate {A = Option (List ℕ)} n i None None below) tt
cells_of-each P cells n i (Some b) below h = h b

-- an encoding of an encoding is as long as is told
within_both : (coding : Coding) (told : Option BytesRepresentation) (inner b : Bytes) → IsBounded coding
    → IsWithin told (length inner) → coding.written inner b → IsWithin (option_map coding.representation told) (length b)
within_both coding None inner b bounded h encoded = tt
within_both coding (Some told) inner b bounded h encoded = bounded.within told inner b h encoded

-- what the chain means keeps the laws
pub chain_lawful : (coding : Coding) (m : Meaning) (g : ArraySpec) → IsInvertible coding → IsBounded coding → IsLawful g m
    → IsLawful g (chain_meaning coding m g)
chain_lawful coding m g invertible bounded law = record {
  check_faultless = λ e h. law.check_faultless e h;
  encode_faultless = λ array e h.
      test_as_faultless _ _ _ (law.encode_faultless array) (test_faultless _ TooLarge _ tt (λ x h. absurd h)) e h;
  compact_faultless = λ b e h. absurd h;
  cells_counted = λ b s. length-cells_of m.cells (count_of g.shape) (chain_bytes coding m b) (λ inner. law.cells_counted inner s);
  cells_fitting = λ b i s below.
      cells_of-each _ m.cells (count_of g.shape) i (chain_bytes coding m b) below (λ inner. law.cells_fitting inner i s below);
  written_cells = λ a b s h e.
      let back : chain_bytes coding m b ≡ Some e.inner =
      ap (inner_bytes m.representation) (invertible e.inner b e.encoded)
      ∙ told_bytes m.representation e.inner (law.bounded a e.inner s h e.inner_written) in
      rw back (law.written_cells a e.inner s h e.inner_written);
  compacted_cells = λ old new s rewritten. absurd rewritten;
  bounded = λ a b s h e. within_both coding m.representation e.inner b bounded (law.bounded a e.inner s h e.inner_written) e.encoded;
}

-- where the elements are written in one way, and their bytes encoded in one way, the chain encodes them in one way
pub chained_encoding : (written : Written) (coding : Coding) (encoding : Bytes → Bytes) (elements : Elements) (b one : Bytes)
    → IsChained written coding elements b → ((inner : Bytes) → written elements inner → inner ≡ one)
    → ((inner encoded : Bytes) → coding.written inner encoded → encoded ≡ encoding inner) → b ≡ encoding one
chained_encoding written coding encoding elements b one h same sole = sole h.inner b h.encoded ∙ ap encoding (same h.inner h.inner_written)
