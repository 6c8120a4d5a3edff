-- Pieces of one size: what is joined, cut and written over.
use Rattle.std.proofs.Common.{◌≡◌, ◌≢◌, ℕ, zero, suc, ◌+◌, ◌-◌, ◌*◌, ◌^◌, ◌<◌, ◌≤◌, List, [], ◌∷◌, ◌++◌, length, get_or, take, drop, refl, ap, sym, ◌∙◌, arith, map, inl, inr, below_more}
use Rattle.std.proofs.Math.Seq.{take-add, take-append_seam, drop-append_seam}
use Rattle.std.proofs.lemmas.List.{drop-take, drop-drop, drop_at, take_all, length-take-le, append-nil, drop-append-le, take-append-le, take-take, length-drop, length-append}
use Rattle.std.proofs.lemmas.List.FromFn.{map-range_with_len_more, fill_by_all, length-map-range_with_len, get_or-map-range_with_len}
use Rattle.std.proofs.lemmas.List.Concat.{flat_map-append}
use Rattle.std.proofs.lemmas.Slice.{take-put_mid_below, take-put_mid, drop-put_mid, between-put_mid}
use Rattle.std.proofs.lemmas.Nat.{row_fits, mul-le}
use Rattle.std.proofs.lemmas.List.Elements.{length_all_zip, All-head, All-tail, All-from_get_or}
use Rattle.std.proofs.lemmas.Bool.{cases_lt}
use Rattle.std.specs.List.{range_with_len, flat_map, All, concat}
use borrow.Rule.Slice.PartMut.{put_mid}
use Rattle.parts_row_major.specs.Numbering.{count_of, number_of, point_of}
use Rattle.parts_row_major.specs.Subsets.{Subset, IsSubset, point_in, LiesIn, number_in}
use Rattle.parts_row_major.specs.Pieces.{piece, pieces, IsUpdated}
use Rattle.parts_row_major.proofs.NumberingLaws.{number_below, point_inside, same_from_number, number_of-point_of, length-point_of}
use Rattle.parts_row_major.proofs.SubsetLaws.{shifted_inside, same_shift}

-- the number of a point of a subset is below the count of the shape that it lies in
pub number_in_below : (subset : Subset) (shape : List ℕ) (i : ℕ) → LiesIn subset shape → i < count_of subset.shape → number_in subset shape i < count_of shape
number_in_below subset shape i h lt =
    number_below (point_in subset i) shape (shifted_inside subset.start subset.shape (point_of i subset.shape) shape (point_inside i subset.shape lt) h)

-- one piece more
pub gathered_more : (f : ℕ → List ℕ) (position : ℕ → ℕ) (i : ℕ) → flat_map f (map position (range_with_len 0 (i + 1))) ≡ flat_map f (map position (range_with_len 0 i)) ++ f (position i)
gathered_more f position i =
    rw (map-range_with_len_more position 0 i i (omega arith), flat_map-append f (map position (range_with_len 0 i)) (position i ∷ []))
    (simp append-nil)

-- a piece, cut the other way round
pub piece_is : (size i : ℕ) (xs : List ℕ) → piece size xs i ≡ drop (i * size) (take (i * size + size) xs)
piece_is size i xs = sym (drop-take (i * size) size xs)

-- a write over one piece
module _ (size m : ℕ) (xs ys : List ℕ) (fits : m * size + size ≤ length xs) (long : length ys ≡ size) where
  pub piece_written : (k : ℕ) → piece size (put_mid (m * size) k xs ys) m ≡ ys
  piece_written k =
      piece_is size m (put_mid (m * size) k xs ys)
      ∙ (ap (drop (m * size)) (take-put_mid (m * size) k xs ys (m * size + size) (omega arith) (omega arith))
      ∙ drop_at (take (m * size) xs) ys (m * size) (length-take-le (m * size) xs (omega arith)))

  pub piece_kept : (k j : ℕ) → k ≡ size → j ≢ m → piece size (put_mid (m * size) k xs ys) j ≡ piece size xs j
  piece_kept k j e ne = elim (cases_lt j m) [
    | inl below ↦
        piece_is size j (put_mid (m * size) k xs ys)
        ∙ (ap (drop (j * size)) (take-put_mid_below (m * size) k xs ys (j * size + size) (row_fits j size m size below (omega arith)) (omega arith))
        ∙ sym (piece_is size j xs))
    | inr above ↦
        let past : m * size + size ≤ j * size = row_fits m size j size (omega arith) (omega arith) in
        ap (take size) (drop-put_mid (m * size) k xs ys (j * size) (omega arith) (omega arith) (omega arith))
  ]

-- the numbers of two points of a subset differ
pub same_point : (subset : Subset) (shape : List ℕ) (i k : ℕ) → IsSubset subset.start subset.shape → LiesIn subset shape → i < count_of subset.shape → k < count_of subset.shape → number_in subset shape i ≡ number_in subset shape k → i ≡ k
same_point subset shape i k well h li lk e =
    let inside_i = shifted_inside subset.start subset.shape (point_of i subset.shape) shape (point_inside i subset.shape li) h in
    let inside_k = shifted_inside subset.start subset.shape (point_of k subset.shape) shape (point_inside k subset.shape lk) h in
    let shifted = same_from_number (point_in subset i) (point_in subset k) shape inside_i inside_k e in
    let points = same_shift subset.start (point_of i subset.shape) (point_of k subset.shape) (omega (arith, length-point_of i subset.shape, length_all_zip (λ first len. first + len < 2 ^ 64) subset.start subset.shape well)) (omega (arith, length-point_of k subset.shape, length_all_zip (λ first len. first + len < 2 ^ 64) subset.start subset.shape well)) shifted in
    sym (number_of-point_of i subset.shape li) ∙ (ap (λ c. number_of c subset.shape) points ∙ number_of-point_of k subset.shape lk)

-- one place more is written
pub updated_none : {X : Type 0} (position : ℕ → ℕ) (old update : ℕ → X) → IsUpdated 0 position old update old
updated_none position old update = record { inside = λ k lt. absurd (omega arith); outside = λ i h. refl }

pub updated_more : {X : Type 0} (n : ℕ) (position : ℕ → ℕ) (old update new newer : ℕ → X) → IsUpdated n position old update new
    → ((k : ℕ) → k < n → position k ≢ position n) → newer (position n) ≡ update n → ((i : ℕ) → i ≢ position n → newer i ≡ new i) → IsUpdated (n + 1) position old update newer
updated_more n position old update new newer so_far apart written others = record {
  inside = below_more (λ k. newer (position k) ≡ update k) n (λ k lt. others (position k) (apart k lt) ∙ so_far.inside k lt) written;
  outside = λ i h. others i (λ e. h n (omega arith) (sym e)) ∙ so_far.outside i (λ k lt. h k (omega arith));
}

pub joined_more : (f : ℕ → List ℕ) (position : ℕ → ℕ) (i at : ℕ) (before after added : List ℕ)
    → before ≡ flat_map f (map position (range_with_len 0 i)) → at ≡ position i → added ≡ f at → after ≡ before ++ added
    → after ≡ flat_map f (map position (range_with_len 0 (i + 1)))
joined_more f position i at before after added b p a s =
    s ∙ (ap (λ xs. xs ++ added) b ∙ (ap (λ xs. flat_map f (map position (range_with_len 0 i)) ++ xs) (a ∙ ap f p) ∙ sym (gathered_more f position i)))

-- lists of what two functions give at the first numbers are one where the functions agree there
pub map_range_same : {X : Type 0} (f g : ℕ → X) (n : ℕ) (d : X) → ((k : ℕ) → k < n → f k ≡ g k) → map f (range_with_len 0 n) ≡ map g (range_with_len 0 n)
map_range_same f g n d h =
    fill_by_all g (map f (range_with_len 0 n)) n d (length-map-range_with_len f 0 n)
    (λ k lt. get_or-map-range_with_len f 0 n k k d lt (omega arith) ∙ h k lt)

pub map-map : {X Y Z : Type 0} (f : Y → Z) (g : X → Y) (xs : List X) → map f (map g xs) ≡ map (λ x. f (g x)) xs
map-map f g [] = refl
map-map f g (x ∷ xs) = ap (λ ys. f (g x) ∷ ys) (map-map f g xs)

-- one piece more at the end
pub pieces_more : (n many : ℕ) (xs p : List ℕ) → length xs ≡ many * n → length p ≡ n → pieces n (many + 1) (xs ++ p) ≡ pieces n many xs ++ p ∷ []
pieces_more n many xs p whole long =
    let last : piece n (xs ++ p) many ≡ p = ap (take n) (drop_at xs p (many * n) whole) ∙ take_all n p (omega arith) in
    let before : (k : ℕ) → k < many → piece n (xs ++ p) k ≡ piece n xs k = λ k lt.
    let within = row_fits k n many n lt (omega arith) in
    ap (take n) (drop-append-le (k * n) xs p (omega arith))
    ∙ take-append-le n (drop (k * n) xs) p (omega (arith, length-drop (k * n) xs)) in
    map-range_with_len_more (piece n (xs ++ p)) 0 many many (omega arith)
    ∙ (ap (λ ys. ys ++ piece n (xs ++ p) many ∷ []) (map_range_same (piece n (xs ++ p)) (piece n xs) many [] before)
    ∙ ap (λ y. map (piece n xs) (range_with_len 0 many) ++ y ∷ []) last)

pub record Gathered (n : ℕ) (g : ℕ → List ℕ) (position : ℕ → ℕ) (many : ℕ) : Type 0 where
  pub long : length (flat_map g (map position (range_with_len 0 many))) ≡ many * n
  pub are : pieces n many (flat_map g (map position (range_with_len 0 many))) ≡ map (λ k. g (position k)) (range_with_len 0 many)

-- pieces of one size that are joined and cut again
pub gathered : (n : ℕ) (g : ℕ → List ℕ) (position : ℕ → ℕ) (many : ℕ) → ((k : ℕ) → k < many → length (g (position k)) ≡ n) → Gathered n g position many
gathered n g position zero each = record { long = omega arith; are = refl }
gathered n g position (suc m) each =
    let e : suc m ≡ m + 1 = omega arith in
    let before = gathered n g position m (λ k lt. each k (omega arith)) in
    let joined = gathered_more g position m in
    let last = each m (omega arith) in
    let xs = flat_map g (map position (range_with_len 0 m)) in
    rw e (record {
      long = rw joined (omega (arith, length-append xs (g (position m)), before.long, last));
      are = rw (joined, pieces_more n m xs (g (position m)) before.long last, before.are)
          (sym (map-range_with_len_more (λ k. g (position k)) 0 m m (omega arith)));
    })

pub length-pieces : (n many : ℕ) (xs : List ℕ) → length (pieces n many xs) ≡ many
length-pieces n many xs = length-map-range_with_len (piece n xs) 0 many

pub piece_of-pieces : (n many : ℕ) (xs : List ℕ) (i : ℕ) → i < many → get_or (pieces n many xs) i [] ≡ piece n xs i
piece_of-pieces n many xs i lt = get_or-map-range_with_len (piece n xs) 0 many i i [] lt (omega arith)

-- neighbouring pieces are one part of the list
pub run_pieces : (size first n : ℕ) (xs : List ℕ) → take (n * size) (drop (first * size) xs) ≡ flat_map (piece size xs) (range_with_len first n)
run_pieces size first zero xs = let z : 0 * size ≡ 0 = omega arith in rw z refl
run_pieces size first (suc n) xs =
    let more : suc n * size ≡ size + n * size = omega arith in
    let next : first * size + size ≡ (first + 1) * size = omega arith in
    ap (λ k. take k (drop (first * size) xs)) more
    ∙ (take-add size (n * size) (drop (first * size) xs)
    ∙ ap (λ ys. piece size xs first ++ ys)
    (ap (take (n * size)) (drop-drop size (first * size) xs ∙ ap (λ k. drop k xs) next) ∙ run_pieces size (first + 1) n xs))

-- a piece of a run of pieces
pub piece_in_run : (size first len r : ℕ) (xs : List ℕ) → r < len → piece size (take (len * size) (drop (first * size) xs)) r ≡ piece size xs (first + r)
piece_in_run size first len r xs lt =
    let fits = row_fits r size len size lt (omega arith) in
    let rest = len * size - r * size in
    let whole : len * size ≡ r * size + rest = omega (arith, fits) in
    let at : first * size + r * size ≡ (first + r) * size = omega arith in
    ap (λ n. take size (drop (r * size) (take n (drop (first * size) xs)))) whole
    ∙ (ap (take size) (drop-take (r * size) rest (drop (first * size) xs))
    ∙ (take-take size rest (drop (r * size) (drop (first * size) xs)) (omega (arith, fits))
    ∙ ap (take size) (drop-drop (r * size) (first * size) xs ∙ ap (λ n. drop n xs) at)))

-- a piece of the front of a list
pub piece_in_front : (size n i : ℕ) (xs : List ℕ) → i < n → piece size (take (n * size) xs) i ≡ piece size xs i
piece_in_front size n i xs lt =
    let none : 0 * size ≡ 0 = omega arith in
    let same : 0 + i ≡ i = omega arith in
    rw (none, same) at (piece_in_run size 0 n i xs lt)

-- what a part of a run's length holds
pub record RunTaken (size from len : ℕ) (xs taken : List ℕ) : Type 0 where
  pub long : length taken ≡ len * size
  pub each : (r : ℕ) → r < len → piece size taken r ≡ piece size xs (from + r)

pub run_taken : (size from len : ℕ) (xs taken : List ℕ) → (from + len) * size ≤ length xs → taken ≡ take ((from * size + len * size) - from * size) (drop (from * size) xs) → RunTaken size from len xs taken
run_taken size from len xs taken fits is =
    let cut : (from * size + len * size) - from * size ≡ len * size = omega arith in
    let took : taken ≡ take (len * size) (drop (from * size) xs) = rw cut at is in
    record {
      long = ap length took ∙ length-take-le (len * size) (drop (from * size) xs) (omega (arith, length-drop (from * size) xs, fits));
      each = λ r lt. ap (λ ys. piece size ys r) took ∙ piece_in_run size from len r xs lt;
    }

-- a write over one run of pieces
module _ (size first len : ℕ) (xs ys : List ℕ) (fits : (first + len) * size ≤ length xs) (long : length ys ≡ len * size) where
  pub run_written : (k r : ℕ) → r < len → piece size (put_mid (first * size) k xs ys) (first + r) ≡ piece size ys r
  run_written k r lt =
      let cut : (first * size + len * size) - first * size ≡ len * size = omega arith in
      let held : take (len * size) (drop (first * size) (put_mid (first * size) k xs ys)) ≡ ys =
      rw cut at (between-put_mid (first * size) k xs ys (first * size + len * size) (omega (arith, fits)) (omega (arith, long))) in
      sym (piece_in_run size first len r (put_mid (first * size) k xs ys) lt) ∙ ap (λ zs. piece size zs r) held

  pub run_before : (k j : ℕ) → j < first → piece size (put_mid (first * size) k xs ys) j ≡ piece size xs j
  run_before k j lt =
      piece_is size j (put_mid (first * size) k xs ys)
      ∙ (ap (drop (j * size)) (take-put_mid_below (first * size) k xs ys (j * size + size) (row_fits j size first size lt (omega arith)) (omega (arith, fits)))
      ∙ sym (piece_is size j xs))

  pub run_after : (k j : ℕ) → k ≡ len * size → first + len ≤ j → piece size (put_mid (first * size) k xs ys) j ≡ piece size xs j
  run_after k j e le =
      let past : (first + len) * size ≤ j * size = mul-le (first + len) size j size le (omega arith) in
      ap (take size) (drop-put_mid (first * size) k xs ys (j * size) (omega (arith, past)) (omega (arith, fits)) (omega (arith, long)))

-- the places of one run more are written
pub updated_run : (done len first : ℕ) (position : ℕ → ℕ) (old update new newer : ℕ → List ℕ) → IsUpdated done position old update new
    → ((k r : ℕ) → k < done → r < len → position k ≢ position (done + r)) → ((r : ℕ) → r < len → position (done + r) ≡ first + r)
    → ((r : ℕ) → r < len → newer (first + r) ≡ update (done + r)) → ((i : ℕ) → i < first → newer i ≡ new i) → ((i : ℕ) → first + len ≤ i → newer i ≡ new i)
    → IsUpdated (done + len) position old update newer
updated_run done len first position old update new newer so_far apart follow written before after =
    let others : (i : ℕ) → ((r : ℕ) → r < len → position (done + r) ≢ i) → newer i ≡ new i = λ i h. elim (cases_lt i first) [
      | inl lt ↦ before i lt
      | inr ge ↦ elim (cases_lt i (first + len)) [
        | inl lt ↦
            let at : first + (i - first) ≡ i = omega arith in
            absurd (h (i - first) (omega arith) (follow (i - first) (omega arith) ∙ at))
        | inr past ↦ after i past
      ]
    ] in
    record {
      inside = λ k lt. elim (cases_lt k done) [
        | inl below ↦ others (position k) (λ r small e. apart k r below small (sym e)) ∙ so_far.inside k below
        | inr past ↦
            let at : done + (k - done) ≡ k = omega arith in
            let here = follow (k - done) (omega arith) in
            let wrote = written (k - done) (omega arith) in
            rw at at (ap newer here ∙ wrote)
      ];
      outside = λ i h. others i (λ r small. h (done + r) (omega arith)) ∙ so_far.outside i (λ k lt. h k (omega arith));
    }

-- elements of one length, laid end to end
pub length-concat : (n : ℕ) (elements : List (List ℕ)) → All (λ e. length e ≡ n) elements → length (concat elements) ≡ length elements * n
length-concat n [] h = omega arith
length-concat n (e ∷ es) h =
    omega (arith, length-append e (concat es), All-head (λ x. length x ≡ n) e es h, length-concat n es (All-tail (λ x. length x ≡ n) e es h))

-- the piece at a place of elements laid end to end is the element there
pub piece_of-concat : (n : ℕ) (elements : List (List ℕ)) (k : ℕ) → All (λ e. length e ≡ n) elements → k < length elements → piece n (concat elements) k ≡ get_or elements k []
piece_of-concat n [] k h lt = absurd (omega arith)
piece_of-concat n (e ∷ es) zero h lt =
    let none : 0 * n ≡ 0 = omega arith in
    let long = All-head (λ x. length x ≡ n) e es h in
    rw none (ap (λ m. take m (e ++ concat es)) (sym long) ∙ take-append_seam e (concat es))
piece_of-concat n (e ∷ es) (suc k) h lt =
    let long = All-head (λ x. length x ≡ n) e es h in
    let later : suc k * n ≡ length e + k * n = omega (arith, long) in
    ap (λ m. take n (drop m (e ++ concat es))) later
    ∙ (ap (take n) (sym (drop-drop (k * n) (length e) (e ++ concat es)) ∙ ap (drop (k * n)) (drop-append_seam e (concat es)))
    ∙ piece_of-concat n es k (All-tail (λ x. length x ≡ n) e es h) (omega arith))

-- the pieces of elements laid end to end are the elements
pub pieces-concat : (n : ℕ) (elements : List (List ℕ)) → All (λ e. length e ≡ n) elements → pieces n (length elements) (concat elements) ≡ elements
pieces-concat n elements h =
    sym (fill_by_all (piece n (concat elements)) elements (length elements) [] refl (λ k lt. sym (piece_of-concat n elements k h lt)))

pub concat-map : (f : ℕ → List ℕ) (xs : List ℕ) → concat (map f xs) ≡ flat_map f xs
concat-map f [] = refl
concat-map f (x ∷ xs) = ap (λ ys. f x ++ ys) (concat-map f xs)

-- the pieces laid end to end are the list
pub concat-pieces : (n many : ℕ) (xs : List ℕ) → length xs ≡ many * n → concat (pieces n many xs) ≡ xs
concat-pieces n many xs whole =
    let none : 0 * n ≡ 0 = omega arith in
    concat-map (piece n xs) (range_with_len 0 many)
    ∙ (sym (rw none at (run_pieces n 0 many xs)) ∙ take_all (many * n) xs (omega arith))

-- bytes whose pieces are those of others at some places
pub joined_pieces : (n many : ℕ) (xs part : List ℕ) (position : ℕ → ℕ) → length part ≡ many * n → ((k : ℕ) → k < many → piece n part k ≡ piece n xs (position k))
    → part ≡ flat_map (piece n xs) (map position (range_with_len 0 many))
joined_pieces n many xs part position long each =
    sym (concat-pieces n many part long)
    ∙ ap concat (map_range_same (piece n part) (λ k. piece n xs (position k)) many [] each ∙ sym (map-map (piece n xs) position (range_with_len 0 many)))
    ∙ concat-map (piece n xs) (map position (range_with_len 0 many))

-- each piece of a list that is long enough has the size
pub All-pieces : (n many : ℕ) (xs : List ℕ) → many * n ≤ length xs → All (λ e. length e ≡ n) (pieces n many xs)
All-pieces n many xs fits = All-from_get_or (λ e. length e ≡ n) (pieces n many xs) [] (λ i lt.
    let small : i < many = omega (arith, length-pieces n many xs) in
    let room = row_fits i n many n small (omega arith) in
    rw (piece_of-pieces n many xs i small) (length-take-le n (drop (i * n) xs) (omega (arith, length-drop (i * n) xs))))
