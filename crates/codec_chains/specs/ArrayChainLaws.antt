-- A codec from arrays to bytes keeps the laws with a codec from arrays to arrays before it.
use Rattle.std.proofs.Common.{◌≡◌, ◌<◌, ℕ, zero, suc, List, [], ◌∷◌, Option, Some, None, IfSome, length, map, get_or, option_and_then, refl, sym, ap, ◌∙◌, arith}
use Rattle.std.proofs.lemmas.List.{length-map, get_or-map}
use Rattle.std.proofs.lemmas.List.Elements.{All-nil, All-cons, All-head, All-tail}
use Rattle.std.specs.List.{All}
use Rattle.parts_errors.specs.Words.{Bytes, Elements, CellList}
use Rattle.parts_errors.specs.declared.error.CodecError.TheVariants.{WrongElementKind, InvalidNumberOfElements}
use Rattle.parts_row_major.specs.Numbering.{count_of}
use Rattle.parts_arrays.specs.ArraySpec.{ArraySpec, IsArrayOf}
use Rattle.parts_arrays.specs.Types.{size_of, FitsKind}
use Rattle.parts_arrays.specs.declared.data_type.DataTypeSize.{DataTypeSize}
use Rattle.parts_arrays.specs.declared.data_type.DataTypeSize.TheVariants.{Fixed, Variable}
use Rattle.codec_traits.specs.Cells.{all_there}
use Rattle.codec_traits.specs.CellLaws.{all_there-map_some}
use Rattle.codec_traits.specs.Meanings.{Meaning}
use Rattle.codec_traits.specs.Laws.{IsLawful}
use Rattle.codec_traits.specs.RefusalLaws.{test_faultless}
use Rattle.codec_traits.specs.WholeArrays.{whole_cells}
use Rattle.codec_traits.proofs.WholeArrayLaws.{length-whole_cells, whole_cells-each}
use Rattle.codec_chains.specs.ArrayCodings.{ArrayCoding, IsInvertible, SameLengths, KeepsLengths}
use Rattle.codec_chains.specs.ArrayChains.{chain_elements, array_chain_cells, array_chain_meaning}

-- what is known of what is there
pub if_there : {A : Type 0} (P : A → Type 0) (o : Option A) (x : A) → o ≡ Some x → IfSome o P → P x
if_there P o x is h = rw is at h

-- cells that are all there are their elements
more_there : (e : Bytes) (cells : CellList) (later : Option Elements) → IfSome later (λ xs. cells ≡ map Some xs)
    → IfSome (option_and_then (λ xs. Some (e ∷ xs)) later) (λ xs. (Some e ∷ cells) ≡ map Some xs)
more_there e cells None h = tt
more_there e cells (Some xs) h = ap (λ cs. Some e ∷ cs) h

pub there : (cells : CellList) → IfSome (all_there cells) (λ xs. cells ≡ map Some xs)
there [] = refl
there (None ∷ cells) = tt
there (Some e ∷ cells) = more_there e cells (all_there cells) (there cells)

-- as many elements
pub same_count : (before after : Elements) → SameLengths before after → length after ≡ length before
same_count before after same = sym (length-map after length) ∙ (ap length same ∙ length-map before length)

-- elements as long as others fit what these fit
head_same : (x y : ℕ) (xs ys : List ℕ) → (x ∷ xs) ≡ (y ∷ ys) → x ≡ y
head_same x y xs ys h = cc

tail_same : (x y : ℕ) (xs ys : List ℕ) → (x ∷ xs) ≡ (y ∷ ys) → xs ≡ ys
tail_same x y xs ys h = cc

fits_same : (kind : DataTypeSize) (x y : Bytes) → length y ≡ length x → FitsKind kind x → FitsKind kind y
fits_same (Fixed n) x y same h = same ∙ h
fits_same Variable x y same h = tt

pub all_fit : (kind : DataTypeSize) (before after : Elements) → SameLengths before after
    → All (FitsKind kind) before → All (FitsKind kind) after
all_fit kind [] [] same h = All-nil (FitsKind kind)
all_fit kind [] (y ∷ ys) same h = cc
all_fit kind (x ∷ xs) [] same h = cc
all_fit kind (x ∷ xs) (y ∷ ys) same h =
    All-cons (FitsKind kind) y ys
    (fits_same kind x y (head_same _ _ _ _ same) (All-head (FitsKind kind) x xs h))
    (all_fit kind xs ys (tail_same _ _ _ _ same) (All-tail (FitsKind kind) x xs h))

pub same_array_of : (g : ArraySpec) (before after : Elements) → SameLengths before after → IsArrayOf g before → IsArrayOf g after
same_array_of g before after same h = record {
  counted = same_count before after same ∙ h.counted;
  fitting = all_fit (size_of g.data_type) before after same h.fitting;
}

-- the elements of cells that are all there are an array where the cells keep the laws
pub there_array : (g : ArraySpec) (m : Meaning) (b : Bytes) (xs : Elements) → IsLawful g m → m.serves → m.cells b ≡ map Some xs → IsArrayOf g xs
there_array g m b xs law serves is =
    let counted : length xs ≡ count_of g.shape = sym (length-map xs Some) ∙ (sym (ap length is) ∙ law.cells_counted b serves) in
    record {
      counted = counted;
      fitting = λ k d lt.
          let below : k < count_of g.shape = omega (arith, counted) in
          let here : get_or (m.cells b) k None ≡ Some (get_or xs k d) =
          ap (λ cells. get_or cells k None) is ∙ get_or-map Some xs k d None lt in
          if_there (FitsKind (size_of g.data_type)) (get_or (m.cells b) k None) (get_or xs k d) here (law.cells_fitting b k serves below);
    }

module _ (coding : ArrayCoding) (m : Meaning) (g : ArraySpec) (keeps : KeepsLengths coding) (law : IsLawful g m) where
  -- what is decoded is an array
  decoded_array : (xs : Elements) (read : Option Elements) → IsArrayOf g xs → IfSome read (SameLengths xs) → IfSome read (IsArrayOf g)
  decoded_array xs None h same = tt
  decoded_array xs (Some es) h same = same_array_of g xs es same h

  elements_array : (b : Bytes) (xs : Option Elements) → m.serves → IfSome xs (λ es. m.cells b ≡ map Some es)
      → IfSome (option_and_then coding.decoding xs) (IsArrayOf g)
  elements_array b None serves is = tt
  elements_array b (Some xs) serves is = decoded_array xs (coding.decoding xs) (there_array g m b xs law serves is) (keeps.decoded xs)

  pub chain_array : (b : Bytes) → m.serves → IfSome (chain_elements coding m b) (IsArrayOf g)
  unfolding chain_elements
  chain_array b serves = elements_array b (all_there (m.cells b)) serves (there (m.cells b))

  only_counted : (read : Option Elements) → IfSome read (IsArrayOf g) → IfSome read (λ es. length es ≡ count_of g.shape)
  only_counted None h = tt
  only_counted (Some es) h = h.counted

  only_fitting : (read : Option Elements) → IfSome read (IsArrayOf g) → IfSome read (All (FitsKind (size_of g.data_type)))
  only_fitting None h = tt
  only_fitting (Some es) h = h.fitting

  chain_counted : (b : Bytes) → m.serves → length (array_chain_cells coding m g b) ≡ count_of g.shape
  unfolding array_chain_cells
  chain_counted b serves =
      length-whole_cells (count_of g.shape) (chain_elements coding m b) (only_counted (chain_elements coding m b) (chain_array b serves))

  chain_fitting : (b : Bytes) (i : ℕ) → m.serves → i < count_of g.shape
      → IfSome (get_or (array_chain_cells coding m g b) i None) (FitsKind (size_of g.data_type))
  unfolding array_chain_cells
  chain_fitting b i serves below =
      whole_cells-each (FitsKind (size_of g.data_type)) (count_of g.shape) i (chain_elements coding m b) below
      (only_counted (chain_elements coding m b) (chain_array b serves)) (only_fitting (chain_elements coding m b) (chain_array b serves))

  module _ (invertible : IsInvertible coding) where
    chain_written : (a : Elements) (b : Bytes) → m.serves → IsArrayOf g a → m.written (coding.encoding a) b
        → array_chain_cells coding m g b ≡ map Some a
    unfolding array_chain_cells chain_elements
    chain_written a b serves h written =
        let inner : m.cells b ≡ map Some (coding.encoding a) =
        law.written_cells (coding.encoding a) b serves (same_array_of g a (coding.encoding a) (keeps.encoded a) h) written in
        let read : option_and_then coding.decoding (all_there (m.cells b)) ≡ Some a =
        ap (λ cells. option_and_then coding.decoding (all_there cells)) inner
        ∙ (ap (option_and_then coding.decoding) (all_there-map_some (coding.encoding a)) ∙ invertible a) in
        ap (whole_cells (count_of g.shape)) read

    -- what the chain means keeps the laws
    pub array_chain_lawful : IsLawful g (array_chain_meaning coding m g)
    array_chain_lawful = record {
      check_faultless = λ e h. law.check_faultless e h;
      encode_faultless = λ array e h.
          test_faultless _ WrongElementKind _ tt (test_faultless _ InvalidNumberOfElements _ tt (law.encode_faultless _)) e h;
      compact_faultless = λ b e h. absurd h;
      cells_counted = λ b s. chain_counted b s;
      cells_fitting = λ b i s below. chain_fitting b i s below;
      written_cells = λ a b s h e. chain_written a b s h e;
      compacted_cells = λ old new s rewritten. absurd rewritten;
      bounded = λ a b s h e. law.bounded (coding.encoding a) b s (same_array_of g a (coding.encoding a) (keeps.encoded a) h) e;
    }
