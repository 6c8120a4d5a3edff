-- The steps of the calls of the codec `bytes`.
use Rattle.std.proofs.Common.{◌≡◌, ◌≢◌, ℕ, zero, suc, ◌+◌, ◌*◌, ◌/◌, ◌^◌, ◌<◌, ◌≤◌, Bool, true, false, List, [], ◌∷◌, Option, Some, length, take, drop, map, get_or, reverse, refl, sym, ap, ◌∙◌, arith, below_more}
use Rattle.std.proofs.Math.Nat.{div-eq_of_eq-mul_left}
use Rattle.std.proofs.lemmas.List.{length-map, length-reverse, drop-drop}
use Rattle.std.proofs.lemmas.List.Elements.{All-head, All-tail, All-map}
use Rattle.codec_traits.specs.Refusals.{AreTooLong}
use Rattle.codec_traits.specs.Encodings.{IsPlain}
use Rattle.codec_traits.specs.Reads.{cells_at}
use Rattle.codec_traits.proofs.ReadLemmas.{elements_at, sized_too_long}
use Rattle.parts_subsets.proofs.SelectionLemmas.{numbers_below}
use Rattle.std.specs.List.{All, range_with_len, concat}
use Rattle.std.specs.Simd.{first_chunks}
use borrow.Rule.Slice.PartMut.{put_mid}
use Rattle.parts_row_major.specs.Numbering.{count_of, number_of, AllPositive, IsInside}
use Rattle.parts_arrays.specs.ArraySpec.{ArraySpec, IsArrayOf}
use Rattle.parts_arrays.specs.Types.{size_of, byte_size, FitsKind}
use Rattle.parts_row_major.specs.Pieces.{piece, pieces}
use Rattle.parts_arrays.specs.Arrays.{Array, IsWhole, fixed_array}
use Rattle.parts_arrays.specs.Refusals.{IsValid}
use Rattle.parts_arrays.specs.declared.data_type.DataType.{DataType}
use Rattle.parts_arrays.specs.declared.data_type.DataTypeSize.TheVariants.{Fixed}
use Rattle.parts_row_major.proofs.NumberingLaws.{count_positive}
use Rattle.parts_row_major.proofs.PieceLaws.{map-map, map_range_same, length-pieces, All-pieces, piece_written, piece_kept}
use Rattle.parts_arrays.proofs.ArrayLaws.{concat-fixed_array, fixed_array-concat, whole_from_length, All-fixed_array, whole-concat, length-piece}
use Rattle.codec_bytes.specs.declared.bytes_codec.Endianness.{Endianness}
use Rattle.codec_bytes.specs.BytesCodec.{is_reversed, swapped, KnowsOrder, SwapsAs, element_size, IsMeasured, bytes_of, bytes_cells, bytes_meaning}
use Rattle.codec_bytes.specs.BytesCodecLaws.{All-swapped, elements_sized, bytes_cells-whole}

-- what the tests find
pub measured : (endianness : Option Endianness) (g : ArraySpec) (size count total : ℕ) (reversed : Bool) → size_of g.data_type ≡ Fixed size → size ≢ 0
    → KnowsOrder endianness g.data_type → SwapsAs endianness g.data_type reversed → length g.fill ≡ size → AllPositive g.shape → count ≡ count_of g.shape
    → count * size < 2 ^ 64 → total ≡ count * size → IsMeasured endianness g size count total reversed
measured endianness g size count total reversed kind some order swaps fill axes counted fits whole =
    let size_is : size ≡ element_size g = sym (ap byte_size kind) in
    record {
      serves = record {
        supported = record { fixed = kind ∙ ap Fixed size_is; positive = omega arith; order = order };
        fill_fits = fill ∙ size_is;
        fits = rw (← size_is, ← counted) fits;
      };
      size_is = size_is;
      count_is = counted;
      some = count_positive g.shape (λ i lt. axes i 0 lt);
      total_is = rw (← size_is, ← counted) whole;
      swaps = swaps;
    }

-- so many pieces are reversed, and the later ones are as before
pub record AreReversed (n many : ℕ) (old new : List ℕ) : Type 0 where
  pub done : (k : ℕ) → k < many → piece n new k ≡ reverse (piece n old k)
  pub rest : (k : ℕ) → many ≤ k → piece n new k ≡ piece n old k

-- one piece more
pub reversed_more : (n i k : ℕ) (old now part : List ℕ) → i * n + n ≤ length now → k ≡ n → AreReversed n i old now → part ≡ reverse (take k (drop (i * n) now))
    → AreReversed n (i + 1) old (put_mid (i * n) k now part)
reversed_more n i k old now part fits e so_far is =
    let this : part ≡ reverse (piece n now i) = is ∙ ap (λ m. reverse (take m (drop (i * n) now))) e in
    let long : length part ≡ n = ap length this ∙ (length-reverse (piece n now i) ∙ length-piece n now i fits) in
    let written = piece_written n i now part fits long k in
    let kept = piece_kept n i now part fits long k in
    record {
      done = below_more (λ j. piece n (put_mid (i * n) k now part) j ≡ reverse (piece n old j)) i
          (λ j lt. kept j e (omega arith) ∙ so_far.done j lt)
          (written ∙ (this ∙ ap reverse (so_far.rest i (omega arith))));
      rest = λ j le. kept j e (omega arith) ∙ so_far.rest j (omega arith);
    }

-- the chunks of a list are its pieces
pub chunk_at : (n many i : ℕ) (bytes e : List ℕ) → i < many → get_or (first_chunks n many bytes) i e ≡ piece n bytes i
chunk_at n zero i bytes e lt = absurd (omega arith)
chunk_at n (suc many) zero bytes e lt = let none : 0 * n ≡ 0 = omega arith in rw none refl
chunk_at n (suc many) (suc i) bytes e lt =
    let more : suc i * n ≡ n + i * n = grind arith in
    chunk_at n many i (drop n bytes) e (omega arith) ∙ ap (take n) (drop-drop (i * n) n bytes ∙ ap (λ k. drop k bytes) (sym more))

-- bytes whose pieces are those of other bytes reversed
pub reversed_elements : (n : ℕ) (old new : List ℕ) → IsWhole n old → length new ≡ length old → AreReversed n (length old / n) old new
    → new ≡ concat (map reverse (fixed_array n old).elements)
reversed_elements n old new whole long each =
    let many = length old / n in
    let same : (fixed_array n new).elements ≡ map reverse (fixed_array n old).elements =
    ap (λ len. pieces n (len / n) new) long
    ∙ (map_range_same (piece n new) (λ k. reverse (piece n old k)) many [] each.done ∙ sym (map-map reverse (piece n old) (range_with_len 0 many))) in
    sym (concat-fixed_array n new (rw long whole)) ∙ ap concat same

map_swapped-false : (elements : List (List ℕ)) → map (swapped false) elements ≡ elements
map_swapped-false [] = refl
map_swapped-false (e ∷ es) = ap (λ xs. e ∷ xs) (map_swapped-false es)

-- bytes that are kept
pub kept_elements : (n : ℕ) (bytes : List ℕ) → IsWhole n bytes → bytes ≡ concat (map (swapped false) (fixed_array n bytes).elements)
kept_elements n bytes whole = sym (ap concat (map_swapped-false (fixed_array n bytes).elements) ∙ concat-fixed_array n bytes whole)

map_swapped-true : (elements : List (List ℕ)) → map (swapped true) elements ≡ map reverse elements
map_swapped-true [] = refl
map_swapped-true (e ∷ es) = ap (λ xs. reverse e ∷ xs) (map_swapped-true es)

-- bytes that are reversed
pub turned_elements : (n : ℕ) (bytes copy items : List ℕ) → copy ≡ bytes → items ≡ concat (map reverse (fixed_array n copy).elements)
    → items ≡ concat (map (swapped true) (fixed_array n bytes).elements)
turned_elements n bytes copy items same is =
    is ∙ (ap (λ xs. concat (map reverse (fixed_array n xs).elements)) same ∙ ap concat (sym (map_swapped-true (fixed_array n bytes).elements)))

-- elements of the type's size are swapped as the codec swaps them
pub swaps_same : (endianness : Option Endianness) (data_type : DataType) (reversed : Bool) (elements : List (List ℕ)) → SwapsAs endianness data_type reversed
    → All (λ e. length e ≡ byte_size (size_of data_type)) elements → map (swapped reversed) elements ≡ map (swapped (is_reversed endianness data_type)) elements
swaps_same endianness data_type reversed [] swaps h = refl
swaps_same endianness data_type reversed (e ∷ es) swaps h =
    let n = byte_size (size_of data_type) in
    rw (swaps e (All-head (λ x. length x ≡ n) e es h), swaps_same endianness data_type reversed es swaps (All-tail (λ x. length x ≡ n) e es h)) refl

-- what `decode` answers
pub record IsDecoded (endianness : Option Endianness) (g : ArraySpec) (b : List ℕ) (array : Array) : Type 0 where
  pub kind : array.kind ≡ size_of g.data_type
  pub is_array : IsArrayOf g array.elements
  pub cells : bytes_cells endianness g b ≡ map Some array.elements

pub decoded : (endianness : Option Endianness) (g : ArraySpec) (size count total : ℕ) (reversed : Bool) (b items : List ℕ) (array : Array) → IsMeasured endianness g size count total reversed
    → length b ≡ total → items ≡ concat (map (swapped reversed) (fixed_array size b).elements) → array ≡ fixed_array size items → IsDecoded endianness g b array
decoded endianness g size count total reversed b items array m long is made =
    let n = element_size g in
    let many = count_of g.shape in
    let some = m.serves.supported.positive in
    let len : length b ≡ many * n = long ∙ m.total_is in
    let stored = pieces n many b in
    let cut : (fixed_array size b).elements ≡ stored = ap (λ s. (fixed_array s b).elements) m.size_is ∙ ap (λ k. pieces n k b) (div-eq_of_eq-mul_left some len) in
    let sized : All (λ e. length e ≡ n) stored = All-pieces n many b (omega (arith, len)) in
    let codec_swaps = swapped (is_reversed endianness g.data_type) in
    let elements = map codec_swaps stored in
    let items_are : items ≡ concat elements = is ∙ (ap (λ xs. concat (map (swapped reversed) xs)) cut ∙ ap concat (swaps_same endianness g.data_type reversed stored m.swaps sized)) in
    let swapped_sized : All (λ e. length e ≡ n) elements = All-swapped n (is_reversed endianness g.data_type) stored sized in
    let array_is : array ≡ record { kind = Fixed n; elements = elements } =
    made ∙ (ap (λ s. fixed_array s items) m.size_is ∙ (ap (fixed_array n) items_are ∙ fixed_array-concat n elements some swapped_sized)) in
    rw array_is (record {
      kind = sym m.serves.supported.fixed;
      is_array = record {
        counted = length-map stored codec_swaps ∙ length-pieces n many b;
        fitting = rw m.serves.supported.fixed swapped_sized;
      };
      cells = bytes_cells-whole endianness g b len ∙ sym (map-map Some codec_swaps stored);
    })

-- stored elements as they are in memory
abbrev pub in_memory : ℕ → Bool → List ℕ → Array
in_memory n reversed b = fixed_array n (concat (map (swapped reversed) (fixed_array n b).elements))

-- stored bytes of an array are a valid array, before their elements are swapped
pub stored_valid : (endianness : Option Endianness) (g : ArraySpec) (size count total : ℕ) (reversed : Bool) (b : List ℕ) → IsMeasured endianness g size count total reversed
    → length b ≡ total → IsValid (fixed_array size b) (count_of g.shape) g.data_type
stored_valid endianness g size count total reversed b m long =
    let n = element_size g in
    let some = m.serves.supported.positive in
    let len : length b ≡ count_of g.shape * n = long ∙ m.total_is in
    record {
      supported = λ none. omega (arith, some, ap byte_size none);
      kind = ap Fixed m.size_is ∙ sym m.serves.supported.fixed;
      counted = ap (λ s. length (fixed_array s b).elements) m.size_is ∙ (length-pieces n (length b / n) b ∙ div-eq_of_eq-mul_left some len);
    }

-- what `encode` answers
pub encoded : (endianness : Option Endianness) (g : ArraySpec) (size count total : ℕ) (reversed : Bool) (array : Array) (bytes items : List ℕ) → IsMeasured endianness g size count total reversed
    → IsArrayOf g array.elements → bytes ≡ concat array.elements → items ≡ concat (map (swapped reversed) (fixed_array size bytes).elements) → items ≡ bytes_of endianness g array.elements
encoded endianness g size count total reversed array bytes items m h bytes_are is =
    let n = element_size g in
    let elements = array.elements in
    let sized = elements_sized endianness g elements m.serves h in
    let cut : (fixed_array size bytes).elements ≡ elements =
    ap (λ s. (fixed_array s bytes).elements) m.size_is
    ∙ (ap (λ xs. (fixed_array n xs).elements) bytes_are ∙ ap (λ (a : Array). a.elements) (fixed_array-concat n elements m.serves.supported.positive sized)) in
    is ∙ (ap (λ xs. concat (map (swapped reversed) xs)) cut ∙ ap concat (swaps_same endianness g.data_type reversed elements m.swaps sized))

-- bytes of so many elements are whole elements
pub whole_elements : (endianness : Option Endianness) (g : ArraySpec) (size count total : ℕ) (reversed : Bool) (b : List ℕ) → IsMeasured endianness g size count total reversed
    → length b ≡ total → IsWhole size b
whole_elements endianness g size count total reversed b m long =
    rw m.size_is (whole_from_length (element_size g) (count_of g.shape) b m.serves.supported.positive (long ∙ m.total_is))

-- as many elements as the shape has cells, of the type's kind
pub is_array : (endianness : Option Endianness) (g : ArraySpec) (size count total : ℕ) (reversed : Bool) (array : Array) → IsMeasured endianness g size count total reversed
    → array.kind ≡ Fixed size → All (FitsKind array.kind) array.elements → length array.elements ≡ count → (array.kind ≡ size_of g.data_type) × IsArrayOf g array.elements
is_array endianness g size count total reversed array m kind fitting counted =
    let same : array.kind ≡ size_of g.data_type = kind ∙ (ap Fixed m.size_is ∙ sym m.serves.supported.fixed) in
    (same, record { counted = counted ∙ m.count_is; fitting = rw same at fitting })

-- elements that are swapped are whole elements
pub whole_swapped : (n : ℕ) (reversed : Bool) (b items : List ℕ) → IsWhole n b → items ≡ concat (map (swapped reversed) (fixed_array n b).elements) → IsWhole n items
whole_swapped n reversed b items whole is =
    let elements = (fixed_array n b).elements in
    rw is (whole-concat n (map (swapped reversed) elements) whole.0 (All-swapped n reversed elements (All-fixed_array n b whole)))

-- more cells are asked than the bytes of their elements fit
pub requested_past : (endianness : Option Endianness) (g : ArraySpec) (size count total : ℕ) (reversed : Bool) (many : ℕ) (b : List ℕ) (points : List (List ℕ)) → IsMeasured endianness g size count total reversed
    → length b ≡ total → All (λ point. IsInside point g.shape) points → many ≡ length points → ¬ (many * size < 2 ^ 64) → AreTooLong (cells_at (bytes_cells endianness g b) g.shape points)
requested_past endianness g size count total reversed many b points m long inside counted past =
    let n = element_size g in
    let len : length b ≡ count_of g.shape * n = long ∙ m.total_is in
    let codec_swaps = swapped (is_reversed endianness g.data_type) in
    let stored = pieces n (count_of g.shape) b in
    let elements = map codec_swaps stored in
    let sized : All (λ e. length e ≡ n) elements = All-swapped n (is_reversed endianness g.data_type) stored (All-pieces n (count_of g.shape) b (omega (arith, len))) in
    let there : bytes_cells endianness g b ≡ map Some elements = bytes_cells-whole endianness g b len ∙ sym (map-map Some codec_swaps stored) in
    let elements_counted : length elements ≡ count_of g.shape = length-map stored codec_swaps ∙ length-pieces n (count_of g.shape) b in
    let numbers = map (λ point. number_of point g.shape) points in
    let requested = map (λ i. get_or elements i []) numbers in
    let requested_sized : All (λ e. length e ≡ n) requested = All-map (λ e. length e ≡ n) (λ i. get_or elements i []) numbers (λ k d lt.
    sized (get_or numbers k d) [] (omega (arith, numbers_below g.shape points inside k d lt, elements_counted))) in
    let requested_counted : length requested ≡ many = length-map numbers (λ i. get_or elements i []) ∙ (length-map points (λ point. number_of point g.shape) ∙ sym counted) in
    sized_too_long (cells_at (bytes_cells endianness g b) g.shape points) requested n (elements_at _ elements g.shape points there elements_counted inside) requested_sized
    (rw (requested_counted, ← m.size_is) (omega (arith, past)))

-- elements that are stored as in memory
pub plain : (endianness : Option Endianness) (g : ArraySpec) (size count total : ℕ) (reversed : Bool) → IsMeasured endianness g size count total reversed → reversed ≡ false
    → IsPlain g (bytes_meaning endianness g) total
plain endianness g size count total reversed m kept =
    let n = element_size g in
    let fill = m.serves.fill_fits in
    let codec_swaps = swapped (is_reversed endianness g.data_type) in
    let swaps = rw kept at m.swaps in
    record {
      serves = m.serves;
      fixed = m.serves.supported.fixed ∙ ap Fixed (sym fill);
      some = rw fill m.serves.supported.positive;
      size_is = rw fill m.total_is;
      cells = λ b long.
          let len : length b ≡ count_of g.shape * n = long ∙ m.total_is in
          let stored = pieces n (count_of g.shape) b in
          let sized : All (λ e. length e ≡ n) stored = All-pieces n (count_of g.shape) b (omega (arith, len)) in
          rw fill (bytes_cells-whole endianness g b len ∙ (sym (map-map Some codec_swaps stored)
          ∙ ap (map Some) (sym (swaps_same endianness g.data_type false stored swaps sized) ∙ map_swapped-false stored)));
      written = λ a is.
          let sized = elements_sized endianness g a m.serves is in
          ap concat (sym (map_swapped-false a) ∙ swaps_same endianness g.data_type false a swaps sized);
    }

-- an element of others that are swapped
get_or-swapped : (reversed : Bool) (elements : List (List ℕ)) (i : ℕ) → get_or (map (swapped reversed) elements) i [] ≡ swapped reversed (get_or elements i [])
get_or-swapped false [] i = refl
get_or-swapped true [] i = refl
get_or-swapped reversed (e ∷ es) zero = refl
get_or-swapped reversed (e ∷ es) (suc i) = get_or-swapped reversed es i

map-swapped : (reversed : Bool) (elements : List (List ℕ)) (numbers : List ℕ)
    → map (λ i. get_or (map (swapped reversed) elements) i []) numbers ≡ map (swapped reversed) (map (λ i. get_or elements i []) numbers)
map-swapped reversed elements [] = refl
map-swapped reversed elements (i ∷ numbers) = λ k. get_or-swapped reversed elements i k ∷ map-swapped reversed elements numbers k

-- elements that are swapped, as an array
pub array_swapped : (n : ℕ) (reversed : Bool) (b : List ℕ) → IsWhole n b
    → fixed_array n (concat (map (swapped reversed) (fixed_array n b).elements)) ≡ record { kind = Fixed n; elements = map (swapped reversed) (fixed_array n b).elements }
array_swapped n reversed b whole =
    let elements = (fixed_array n b).elements in
    fixed_array-concat n (map (swapped reversed) elements) whole.0 (All-swapped n reversed elements (All-fixed_array n b whole))

-- elements with these numbers
abbrev pub picked_in : List ℕ → Array → Array
picked_in numbers a = record { kind = a.kind; elements = map (λ i. get_or a.elements i []) numbers }

-- stored elements that stay as they are
pub array_kept : (n : ℕ) (b : List ℕ) (array : Array) → IsWhole n b → array ≡ fixed_array n (concat (map (swapped false) (fixed_array n b).elements)) → array ≡ fixed_array n b
array_kept n b array whole is = is ∙ ap (fixed_array n) (sym (kept_elements n b whole))

-- the requested ones of stored elements
pub record AreRequested (n : ℕ) (b : List ℕ) (numbers : List ℕ) (requested : Array) : Type 0 where
  pub elements : requested.elements ≡ map (λ i. get_or (fixed_array n b).elements i []) numbers
  pub kind : requested.kind ≡ Fixed n
  pub below : All (λ i. i < length (fixed_array n b).elements) numbers

pub requested_of : (n : ℕ) (b : List ℕ) (shape : List ℕ) (points : List (List ℕ)) (array requested : Array) → length (fixed_array n b).elements ≡ count_of shape
    → All (λ point. IsInside point shape) points → array ≡ fixed_array n b → requested ≡ picked_in (map (λ point. number_of point shape) points) array
    → AreRequested n b (map (λ point. number_of point shape) points) requested
requested_of n b shape points array requested counted inside stored is =
    let numbers = map (λ point. number_of point shape) points in
    record {
      elements = ap (λ (a : Array). a.elements) is ∙ ap (λ (a : Array). map (λ i. get_or a.elements i []) numbers) stored;
      kind = ap (λ (a : Array). a.kind) is ∙ ap (λ (a : Array). a.kind) stored;
      below = rw counted (numbers_below shape points inside);
    }

pub requested_whole : (n : ℕ) (b : List ℕ) (numbers : List ℕ) (requested : Array) → IsWhole n b → AreRequested n b numbers requested → IsWhole n (concat requested.elements)
requested_whole n b numbers requested whole r =
    let stored = (fixed_array n b).elements in
    rw r.elements (whole-concat n (map (λ i. get_or stored i []) numbers) whole.0
    (All-map (λ e. length e ≡ n) (λ i. get_or stored i []) numbers (λ k d lt. All-fixed_array n b whole (get_or numbers k d) [] (r.below k d lt))))

-- the requested ones of stored elements, of which each is swapped then, are the requested ones of swapped elements
pub requested_swapped : (n : ℕ) (reversed : Bool) (b items : List ℕ) (numbers : List ℕ) (requested array : Array) → IsWhole n b → AreRequested n b numbers requested
    → items ≡ concat (map (swapped reversed) (fixed_array n (concat requested.elements)).elements) → array ≡ fixed_array n items
    → let swapped_array = fixed_array n (concat (map (swapped reversed) (fixed_array n b).elements)) in
    array ≡ record { kind = swapped_array.kind; elements = map (λ i. get_or swapped_array.elements i []) numbers }
requested_swapped n reversed b items numbers requested array whole r is made =
    let stored = (fixed_array n b).elements in
    let picked = map (λ i. get_or stored i []) numbers in
    let sized : All (λ e. length e ≡ n) picked = All-map (λ e. length e ≡ n) (λ i. get_or stored i []) numbers (λ k d lt. All-fixed_array n b whole (get_or numbers k d) [] (r.below k d lt)) in
    let cut : (fixed_array n (concat requested.elements)).elements ≡ picked =
    ap (λ es. (fixed_array n (concat es)).elements) r.elements ∙ ap (λ (a : Array). a.elements) (fixed_array-concat n picked whole.0 sized) in
    let items_are : items ≡ concat (map (swapped reversed) picked) = is ∙ ap (λ es. concat (map (swapped reversed) es)) cut in
    let turned = map (swapped reversed) picked in
    let array_is : array ≡ record { kind = Fixed n; elements = turned } =
    made ∙ (ap (fixed_array n) items_are ∙ fixed_array-concat n turned whole.0 (All-swapped n reversed picked sized)) in
    let same : map (swapped reversed) picked ≡ map (λ i. get_or (map (swapped reversed) stored) i []) numbers = sym (map-swapped reversed stored numbers) in
    array_is ∙ (ap (λ es. record { kind = Fixed n; elements = es }) same ∙ ap (picked_in numbers) (sym (array_swapped n reversed b whole)))
