-- Steps of reads of some cells.
use Rattle.std.proofs.Common.{◌≡◌, ℕ, zero, suc, ◌+◌, ◌*◌, ◌^◌, ◌<◌, ◌≤◌, List, [], ◌∷◌, Option, Some, None, length, take, drop, map, get_or, refl, sym, ap, ◌∙◌, arith}
use Rattle.std.specs.List.{All, sum_by, range_with_len}
use Rattle.std.proofs.lemmas.List.{length-map, length-take, length-drop, get_or-map}
use Rattle.std.proofs.lemmas.List.Sums.{sum_by-cons}
use Rattle.std.proofs.lemmas.List.FromFn.{length-range_with_len, get_or-range_with_len}
use Rattle.std.proofs.lemmas.List.Elements.{All-head, All-tail, All-map}
use Rattle.parts_row_major.specs.Numbering.{count_of, number_of, IsInside}
use Rattle.parts_arrays.specs.ArraySpec.{ArraySpec, IsArrayOf}
use Rattle.parts_arrays.specs.Types.{size_of, FitsKind}
use Rattle.parts_arrays.specs.Arrays.{Array, element_of}
use Rattle.parts_subsets.specs.Selections.{Selection, IsSelectionOf}
use Rattle.parts_row_major.proofs.NumberingLaws.{number_below}
use Rattle.storage_handles.specs.declared.bytes.Interval.{Interval}
use Rattle.storage_handles.specs.declared.bytes.ByteRange.TheVariants.{FromStart}
use Rattle.storage_handles.specs.Handles.{IsPart}
use Rattle.codec_traits.specs.Cells.{cell_length}
use Rattle.codec_traits.specs.Refusals.{AreTooLong}
use Rattle.codec_traits.specs.Reads.{cells_at, IsAnswer, IsReadOf}
use Rattle.codec_traits.proofs.CodecLaws.{same_elements}
use Rattle.storage_handles.specs.Objects.{interval_part, HasInterval}
use Rattle.parts_row_major.proofs.PieceLaws.{map-map}
use Rattle.std.proofs.Math.Seq.{take-length}

some_same : (x y : List ℕ) → Some x ≡ Some y → x ≡ y
some_same x y h = cc

some_none : (x : List ℕ) → Some x ≡ None → ⊥
some_none x h = cc

-- an interval that an object has is as long as it says
pub length-interval_part : (i : Interval) (contents : Option (List ℕ)) → HasInterval i contents → length (interval_part i contents) ≡ i.size
length-interval_part i None h = absurd h
length-interval_part i (Some bytes) h = rw (length-take i.size (drop i.offset bytes), length-drop i.offset bytes) (omega arith)

-- elements of an array, by numbers below its count
pub elements_at : (cells : List (Option (List ℕ))) (elements : List (List ℕ)) (shape : List ℕ) (points : List (List ℕ)) → cells ≡ map Some elements → length elements ≡ count_of shape
    → All (λ point. IsInside point shape) points → cells_at cells shape points ≡ map Some (map (λ i. get_or elements i []) (map (λ point. number_of point shape) points))
elements_at cells elements shape [] is counted inside = refl
elements_at cells elements shape (p ∷ ps) is counted inside =
    let below : number_of p shape < length elements = omega (arith, number_below p shape (All-head (λ point. IsInside point shape) p ps inside), counted) in
    let here : get_or cells (number_of p shape) None ≡ Some (get_or elements (number_of p shape) []) = rw is (get_or-map Some elements (number_of p shape) [] None below) in
    rw (here, elements_at cells elements shape ps is counted (All-tail (λ point. IsInside point shape) p ps inside)) refl

-- a sum of numbers that are all the same
pub sum_alike : (f : ℕ → ℕ) (size a n : ℕ) → ((i : ℕ) → a ≤ i → i < a + n → f i ≡ size) → sum_by f (range_with_len a n) ≡ n * size
sum_alike f size a zero each = omega arith
sum_alike f size a (suc n) each =
    let here : f a ≡ size = each a (omega arith) (omega arith) in
    let rest : sum_by f (range_with_len (a + 1) n) ≡ n * size = sum_alike f size (a + 1) n (λ i le lt. each i (omega arith) (omega arith)) in
    sum_by-cons f a (range_with_len (a + 1) n) ∙ omega (arith, here, rest)

-- requested cells whose lengths add up past what memory can address
pub requested_too_long : (requested : List (Option (List ℕ))) → 2 ^ 64 ≤ sum_by (λ i. cell_length (get_or requested i None)) (range_with_len 0 (length requested)) → AreTooLong requested
requested_too_long requested long =
    let positions = range_with_len 0 (length requested) in
    let many : length positions ≡ length requested = length-range_with_len 0 (length requested) in
    record {
      positions = positions;
      below = λ i lt. rw (get_or-range_with_len 0 (length requested) i 0 (omega (arith, many))) (omega (arith, many));
      apart = λ i j lt below same.
          let at_i = get_or-range_with_len 0 (length requested) i 0 (omega (arith, many)) in
          let at_j = get_or-range_with_len 0 (length requested) j 0 (omega (arith, many)) in
          omega (arith, at_i, at_j, same);
      long = long;
    }

-- elements that are asked, each of one size, whose bytes pass what memory can address
pub sized_too_long : (requested : List (Option (List ℕ))) (elements : List (List ℕ)) (size : ℕ) → requested ≡ map Some elements → All (λ e. length e ≡ size) elements → 2 ^ 64 ≤ length elements * size → AreTooLong requested
sized_too_long requested elements size is sized long =
    let many : length requested ≡ length elements = ap length is ∙ length-map elements Some in
    let total : sum_by (λ i. cell_length (get_or requested i None)) (range_with_len 0 (length requested)) ≡ length requested * size =
    sum_alike (λ i. cell_length (get_or requested i None)) size 0 (length requested) (λ i le lt.
    let below : i < length elements = omega (arith, many) in
    let here : get_or requested i None ≡ Some (get_or elements i []) = rw is (get_or-map Some elements i [] None below) in
    ap cell_length here ∙ sized i [] below) in
    requested_too_long requested (rw (total, many) long)

-- what is asked of an array
pub requested_answer : (g : ArraySpec) (selection : Selection) (numbers : List ℕ) (a requested : Array) → IsSelectionOf g.shape selection → a.kind ≡ size_of g.data_type → IsArrayOf g a.elements
    → numbers ≡ map (λ point. number_of point g.shape) selection.points → All (λ n. n < count_of g.shape) numbers
    → requested ≡ record { kind = a.kind; elements = map (element_of a) numbers } → IsAnswer g selection requested
requested_answer g selection numbers a requested selected kind array are below is =
    rw is (record {
      selected = selected;
      kind = kind;
      counted = length-map numbers (element_of a) ∙ (ap length are ∙ length-map selection.points (λ point. number_of point g.shape));
      fitting = All-map (FitsKind (size_of g.data_type)) (element_of a) numbers (λ k d lt. array.fitting (get_or numbers k d) [] (omega (arith, below k d lt, array.counted)));
    })

-- a range that was read is the interval
pub interval_read : (i : Interval) (size : ℕ) (contents : Option (List ℕ)) (b : List ℕ) → i.size ≡ size → IsPart (FromStart i.offset (Some size)) contents (Some b) → b ≡ interval_part i contents
interval_read i size None b total told = absurd (some_none b told)
interval_read i size (Some bytes) b total told = some_same b (take size (drop i.offset bytes)) told.1 ∙ ap (λ n. take n (drop i.offset bytes)) (sym total)

-- cells that are read of bytes are the elements of the array that the bytes are
pub reads_agree : (cells : List ℕ → List (Option (List ℕ))) (b : List ℕ) (shape : List ℕ) (points read elements : List (List ℕ))
    → IsReadOf cells (record { offset = 0; size = length b }) (Some b) shape points read → cells b ≡ map Some elements → length elements ≡ count_of shape → All (λ point. IsInside point shape) points
    → read ≡ map (λ point. get_or elements (number_of point shape) []) points
reads_agree cells b shape points read elements h are counted inside =
    let numbered = map (λ point. number_of point shape) points in
    let whole : cells_at (cells b) shape points ≡ map Some read = rw (take-length b) at h.read in
    same_elements read (map (λ i. get_or elements i []) numbered) (sym whole ∙ elements_at (cells b) elements shape points are counted inside)
    ∙ map-map (λ i. get_or elements i []) (λ point. number_of point shape) points
