-- Steps of a codec with a codec from arrays to arrays before it.
use Rattle.std.proofs.Common.{◌≡◌, ◌<◌, ◌⊎◌, ℕ, zero, suc, List, [], ◌∷◌, Option, Some, None, IfSome, IsSome, length, map, get_or, option_and_then, refl, sym, ap, ◌∙◌, subst, arith, inl, inr}
use Rattle.std.proofs.lemmas.List.{length-map}
use Rattle.std.proofs.lemmas.List.Sums.{sum_by-cons}
use Rattle.std.specs.List.{sum_by}
use Rattle.parts_errors.specs.Words.{Bytes, Elements, CellList}
use Rattle.parts_errors.specs.Order.{◌or◌then◌, ◌or_as◌then◌, done, RefusedBy}
use Rattle.parts_errors.specs.declared.error.CodecError.{CodecError}
use Rattle.parts_errors.specs.declared.error.CodecError.TheVariants.{OutOfMemory, TooLarge, CannotEncode, Fault}
use Rattle.parts_row_major.specs.Numbering.{count_of}
use Rattle.parts_arrays.specs.ArraySpec.{ArraySpec}
use Rattle.codec_traits.specs.Cells.{all_there, cell_length}
use Rattle.codec_traits.specs.CellLaws.{all_there-map_some}
use Rattle.codec_traits.specs.Meanings.{Meaning}
use Rattle.codec_traits.specs.Refusals.{AreTooLong, AreDamaged, MayRefuseDecode, MayRefuseEncode}
use Rattle.codec_traits.specs.Reads.{MayRefuseRead}
use Rattle.codec_traits.specs.WholeArrays.{whole_cells, WholeRefusals}
use Rattle.codec_traits.proofs.WholeArrayLaws.{whole_damaged, refused_whole}
use Rattle.codec_chains.specs.ArrayCodings.{ArrayCoding, SameLengths, KeepsLengths}
use Rattle.codec_chains.specs.ArrayChains.{chain_elements, array_chain_cells, ArrayChainDecodeRefusals, array_chain_meaning}
use Rattle.codec_chains.specs.ArrayChainLaws.{there, same_count}

none_found : IsSome {T = Elements} None → ⊥
none_found h = cc

-- elements that are as long as others have cells that are
cell_lengths : (es : Elements) (p : ℕ) → cell_length (get_or (map {B = Option (List ℕ)} Some es) p None) ≡ get_or (map length es) p 0
cell_lengths [] p = refl
cell_lengths (e ∷ es) zero = refl
cell_lengths (e ∷ es) (suc p) = cell_lengths es p

sum_same : (xs es : Elements) (ps : List ℕ) → SameLengths xs es
    → sum_by (λ p. cell_length (get_or (map {B = Option (List ℕ)} Some es) p None)) ps ≡ sum_by (λ p. cell_length (get_or (map {B = Option (List ℕ)} Some xs) p None)) ps
sum_same xs es [] same = refl
sum_same xs es (p ∷ ps) same =
    let f : ℕ → ℕ = λ p. cell_length (get_or (map {B = Option (List ℕ)} Some es) p None) in
    let h : ℕ → ℕ = λ p. cell_length (get_or (map {B = Option (List ℕ)} Some xs) p None) in
    let here : f p ≡ h p = cell_lengths es p ∙ (ap (λ ls. get_or ls p 0) same ∙ sym (cell_lengths xs p)) in
    omega (arith, here, sum_same xs es ps same, sum_by-cons f p ps, sum_by-cons h p ps)

too_long_same : (xs es : Elements) → SameLengths xs es → AreTooLong (map Some xs) → AreTooLong (map Some es)
too_long_same xs es same t =
    let counted : length (map {B = Option (List ℕ)} Some es) ≡ length (map {B = Option (List ℕ)} Some xs) =
    length-map es Some ∙ (same_count xs es same ∙ sym (length-map xs Some)) in
    record {
      positions = t.positions;
      below = λ i lt. omega (arith, counted, t.below i lt);
      apart = t.apart;
      long = rw (sum_same xs es t.positions same) t.long;
    }

module _ (coding : ArrayCoding) (m : Meaning) (g : ArraySpec) where
  -- the elements of bytes that the second codec finds an array in
  pub chain_elements-found : (b : Bytes) (xs : Elements) → m.cells b ≡ map Some xs → chain_elements coding m b ≡ coding.decoding xs
  unfolding chain_elements
  chain_elements-found b xs is =
      ap (λ cells. option_and_then coding.decoding (all_there cells)) is ∙ ap (option_and_then coding.decoding) (all_there-map_some xs)

  -- the array's elements are the cells of the bytes
  pub chain_cells-found : (b : Bytes) (es : Elements) → chain_elements coding m b ≡ Some es → array_chain_cells coding m g b ≡ map Some es
  unfolding array_chain_cells
  chain_cells-found b es is = ap (whole_cells (count_of g.shape)) is

  -- what the second codec does not find is damaged
  second_damaged : (b : Bytes) → 0 < count_of g.shape → all_there (m.cells b) ≡ None → AreDamaged (array_chain_cells coding m g b)
  unfolding chain_elements array_chain_cells
  second_damaged b some none =
      let nothing : option_and_then coding.decoding (all_there (m.cells b)) ≡ None = ap (option_and_then coding.decoding) none in
      rw nothing (whole_damaged (count_of g.shape) None some none_found)

  module _ (keeps : KeepsLengths coding) where
    too_long_found : (b : Bytes) (xs : Elements) (read : Option Elements) → chain_elements coding m b ≡ read → IfSome read (SameLengths xs)
        → AreTooLong (map Some xs) → 0 < count_of g.shape → AreTooLong (array_chain_cells coding m g b) ⊎ AreDamaged (array_chain_cells coding m g b)
    unfolding array_chain_cells
    too_long_found b xs None is same long some = inr (rw is (whole_damaged (count_of g.shape) None some none_found))
    too_long_found b xs (Some es) is same long some = inl (rw is (too_long_same xs es same long))

    too_long_second : (b : Bytes) (found : Option Elements) → all_there (m.cells b) ≡ found → IfSome found (λ xs. m.cells b ≡ map Some xs)
        → AreTooLong (m.cells b) → 0 < count_of g.shape → AreTooLong (array_chain_cells coding m g b) ⊎ AreDamaged (array_chain_cells coding m g b)
    too_long_second b None none cells long some = inr (second_damaged b some none)
    too_long_second b (Some xs) is cells long some =
        too_long_found b xs (coding.decoding xs) (chain_elements-found b xs cells) (keeps.decoded xs) (subst AreTooLong cells long) some

    -- what the second codec refuses of bytes, the chain may refuse
    pub refused_second : (b : Bytes) (e : CodecError) → 0 < count_of g.shape → MayRefuseDecode (m.cells b) e
        → MayRefuseDecode (array_chain_cells coding m g b) e
    refused_second b OutOfMemory some may = tt
    refused_second b TooLarge some (inl long) = too_long_second b (all_there (m.cells b)) refl (there (m.cells b)) long some
    refused_second b TooLarge some (inr damaged) = inr (second_damaged b some damaged)
    refused_second b Fault some may = absurd may
    refused_second b _ some may = second_damaged b some may

  -- what the first codec refuses of the array, the chain may refuse
  pub refused_first : (b : Bytes) (xs : Elements) (e : CodecError) → 0 < count_of g.shape → m.cells b ≡ map Some xs
      → RefusedBy (WholeRefusals (coding.decoding xs)) e → MayRefuseDecode (array_chain_cells coding m g b) e
  unfolding array_chain_cells
  refused_first b xs e some is h =
      refused_whole (count_of g.shape) (chain_elements coding m b) e some (rw (chain_elements-found b xs is) h)

  all_found : (b : Bytes) (xs : Elements) → m.cells b ≡ map Some xs → IsSome (all_there (m.cells b))
  all_found b xs is = rw (ap all_there is ∙ all_there-map_some xs) refl

  -- and it does so after the tests of the second
  pub refused_in_order : (b : Bytes) (xs : Elements) (e : CodecError) → m.cells b ≡ map Some xs
      → RefusedBy (WholeRefusals (coding.decoding xs)) e → RefusedBy (ArrayChainDecodeRefusals coding m b) e
  refused_in_order b xs e is (inl memory) = inl memory
  refused_in_order b xs e is (inr h) = inr (inr (all_found b xs is, rw (chain_elements-found b xs is) h))

  -- what the second codec refuses of the array that it is given, the chain may refuse
  pub refused_encoding : (elements : Elements) (e : CodecError) → MayRefuseEncode m (coding.encoding elements) e
      → MayRefuseEncode (array_chain_meaning coding m g) elements e
  refused_encoding elements OutOfMemory may = tt
  refused_encoding elements CannotEncode may = may
  refused_encoding elements TooLarge may = λ fits. may fits.fits
  refused_encoding elements _ may = absurd may

-- what `decode` may refuse, a read may refuse
pub refused_as_decode : (cells requested : CellList) (e : CodecError) → MayRefuseDecode cells e → MayRefuseRead cells requested e
refused_as_decode cells requested OutOfMemory may = tt
refused_as_decode cells requested TooLarge may = inr (inr may)
refused_as_decode cells requested Fault may = absurd may
refused_as_decode cells requested _ may = may
