-- The lengths of a shard's cells add up as those of its decoded subchunks.
use Rattle.std.proofs.Common.{◌≡◌, ℕ, zero, suc, ◌+◌, ◌*◌, ◌/◌, ◌%◌, ◌^◌, ◌<◌, ◌≤◌, List, [], Option, Some, None, length, get_or, take, map, refl, sym, ap, ◌∙◌, inl, inr, arith}
use Rattle.std.specs.List.{range_with_len, sum_by}
use Rattle.std.proofs.lemmas.List.{take_all, get_or-map, length-map}
use Rattle.std.proofs.lemmas.List.Sums.{sum_by_more}
use Rattle.std.proofs.lemmas.List.FromFn.{length-range_with_len, get_or-range_with_len}
use Rattle.std.proofs.lemmas.Bool.{cases_lt}
use Rattle.std.proofs.lemmas.Nat.{div-mul-add, mod-mul-add}
use Rattle.std.proofs.Math.Nat.{div-lt_iff_lt-mul, div-add-mod}
use Rattle.parts_errors.specs.Order.{◌or◌then◌, RefusedBy}
use Rattle.parts_errors.specs.declared.error.CodecError.{CodecError}
use Rattle.parts_errors.specs.declared.error.CodecError.TheVariants.{OutOfMemory, TooLarge}
use Rattle.parts_row_major.specs.Numbering.{count_of}
use Rattle.parts_subsets.specs.Grid.{Divides, grid_of, subchunk_number, position_number, cell_number}
use Rattle.parts_arrays.specs.ArraySpec.{ArraySpec}
use Rattle.parts_arrays.specs.Types.{size_of}
use Rattle.parts_arrays.specs.Arrays.{Array}
use Rattle.parts_arrays.specs.declared.data_type.DataTypeSize.{DataTypeSize}
use Rattle.parts_subsets.proofs.GridLaws.{cell_number-below, subchunk_number-cell_number, position_number-cell_number}
use Rattle.codec_traits.specs.Meanings.{Meaning}
use Rattle.codec_traits.specs.Cells.{cell_length}
use Rattle.codec_traits.specs.Refusals.{AreTooLong}
use Rattle.sharding_format.specs.Index.{slot_at, numbers_in_index}
use Rattle.sharding_format.specs.Cells.{cell_in, shard_cells}
use Rattle.sharding_format.specs.Serves.{subchunk_spec, layout_of}
use Rattle.sharding_format.specs.steps.Decoding.{IsDecoded, IsPartOf, element_at, bytes_in, bytes_gathered}
use Rattle.sharding_format.specs.DecodeRefusals.{slot_by, DecodeRefusals}
use Rattle.sharding_format.specs.declared.location.ShardingIndexLocation.{ShardingIndexLocation}
use Rattle.sharding_format.specs.declared.order.SubchunkWriteOrder.{SubchunkWriteOrder}
use Rattle.sharding_format.proofs.DecodingLemmas.{IsPartOf-decoded, cell_of_decoded}
use Rattle.codec_traits.proofs.ReadLemmas.{sum_alike}
use Rattle.sharding_format.proofs.LayingLemmas.{sum_more, sum_same}
use Rattle.sharding_format.proofs.CellLemmas.{same_sum}
use Rattle.sharding_format.proofs.RefusalLemmas.{cell_here, cells_counted, HasArray-decoded, long_enough}

-- a sum over the items of a list is one over their places
sum_to : {X : Type 0} (f : X → ℕ) (d : X) (xs : List X) (n : ℕ) → n ≤ length xs → sum_by (λ i. f (get_or xs i d)) (range_with_len 0 n) ≡ sum_by f (take n xs)
sum_to f d xs zero h = refl
sum_to f d xs (suc n) h =
    let next : n + 1 ≡ suc n = omega arith in
    let all : sum_by (λ i. f (get_or xs i d)) (range_with_len 0 (n + 1)) ≡ sum_by f (take (n + 1) xs) =
    omega (arith, sum_more (λ i. f (get_or xs i d)) n, sum_by_more f xs n d (omega arith), sum_to f d xs n (omega arith)) in
    rw next at all

pub sum_by_positions : {X : Type 0} (f : X → ℕ) (d : X) (xs : List X) (n : ℕ) → length xs ≡ n → sum_by (λ i. f (get_or xs i d)) (range_with_len 0 n) ≡ sum_by f xs
sum_by_positions f d xs n h = sum_to f d xs n (omega arith) ∙ ap (sum_by f) (take_all n xs (omega arith))

-- a sum in two parts
sum_split : (f : ℕ → ℕ) (m n : ℕ) → sum_by f (range_with_len 0 (m + n)) ≡ sum_by f (range_with_len 0 m) + sum_by (λ i. f (m + i)) (range_with_len 0 n)
sum_split f m zero =
    let none : m + 0 ≡ m = omega arith in
    rw none (omega arith)
sum_split f m (suc n) =
    let next : n + 1 ≡ suc n = omega arith in
    let last : m + n + 1 ≡ m + suc n = omega arith in
    let all : sum_by f (range_with_len 0 (m + n + 1)) ≡ sum_by f (range_with_len 0 m) + sum_by (λ i. f (m + i)) (range_with_len 0 (n + 1)) =
    omega (arith, sum_more f (m + n), sum_more (λ i. f (m + i)) n, sum_split f m n) in
    rw (last, next) at all

-- a sum over numbers is one over rows of n of them
pub sum_by_rows : (f : ℕ → ℕ → ℕ) (n k : ℕ) → sum_by (λ i. f (i / n) (i % n)) (range_with_len 0 (k * n)) ≡ sum_by (λ j. sum_by (f j) (range_with_len 0 n)) (range_with_len 0 k)
sum_by_rows f n zero =
    let none : 0 * n ≡ 0 = omega arith in
    rw none refl
sum_by_rows f n (suc k) =
    let next : k + 1 ≡ suc k = omega arith in
    let last : k * n + n ≡ suc k * n = omega arith in
    let row = sum_same (λ i. f ((k * n + i) / n) ((k * n + i) % n)) (f k) n (λ i below. rw (div-mul-add k n i below, mod-mul-add k n i below) refl) in
    let all : sum_by (λ i. f (i / n) (i % n)) (range_with_len 0 (k * n + n)) ≡ sum_by (λ j. sum_by (f j) (range_with_len 0 n)) (range_with_len 0 (k + 1)) =
    omega (arith, sum_split (λ i. f (i / n) (i % n)) (k * n) n, row, sum_by_rows f n k, sum_more (λ j. sum_by (f j) (range_with_len 0 n)) k) in
    rw (last, next) at all

-- a number is known by its row and its place there
pub same_number : (i j n : ℕ) → i / n ≡ j / n → i % n ≡ j % n → i ≡ j
same_number i j n row position = sym (div-add-mod i n) ∙ ap (λ q. n * q + i % n) row ∙ ap (λ r. n * (j / n) + r) position ∙ div-add-mod j n

-- the bytes of a decoded subchunk are those of the elements at its places
bytes_in_positions : (kind : DataTypeSize) (sub fill : List ℕ) (o : Option Array) → IsPartOf kind (count_of sub) o → sum_by (λ p. length (element_at fill o p)) (range_with_len 0 (count_of sub)) ≡ bytes_in fill (count_of sub) o
bytes_in_positions kind sub fill None h = sum_alike (λ i. length fill) (length fill) 0 (count_of sub) (λ i le below. refl)
bytes_in_positions kind sub fill (Some a) h = sum_by_positions length [] a.elements (count_of sub) h.0

module _ (inner index : Meaning) (sub : List ℕ) (location : ShardingIndexLocation) (order : SubchunkWriteOrder) (size : ℕ) (g : ArraySpec) (b ns : List ℕ) (subchunks : List (Option Array))
    (divides : Divides sub g.shape) (told : numbers_in_index index.cells location size b ≡ Some ns) (counted : length subchunks ≡ count_of (grid_of g.shape sub))
    (each : (k : ℕ) → k < count_of (grid_of g.shape sub) → IsDecoded inner.cells (subchunk_spec sub g) b (slot_at (length b) ns k) (get_or subchunks k None)) where
  -- the bytes of all of them are those of the elements at their places, row by row
  bytes_by_rows : sum_by (λ i. length (element_at g.fill (get_or subchunks (i / count_of sub) None) (i % count_of sub))) (range_with_len 0 (count_of (grid_of g.shape sub) * count_of sub))
      ≡ bytes_gathered g.fill (count_of sub) subchunks
  bytes_by_rows =
      let element_length : ℕ → ℕ → ℕ = λ k p. length (element_at g.fill (get_or subchunks k None) p) in
      let many : ℕ = count_of (grid_of g.shape sub) in
      sum_by_rows element_length (count_of sub) many
      ∙ sum_same (λ k. sum_by (element_length k) (range_with_len 0 (count_of sub))) (λ k. bytes_in g.fill (count_of sub) (get_or subchunks k None)) many
      (λ k below. bytes_in_positions (size_of g.data_type) sub g.fill (get_or subchunks k None) (IsPartOf-decoded inner.cells (subchunk_spec sub g) b (slot_at (length b) ns k) (get_or subchunks k None) (each k below)))
      ∙ sum_by_positions (bytes_in g.fill (count_of sub)) None subchunks many counted

  -- the shard's cell at a place of a subchunk has the length of the element there
  length_here : (k p : ℕ) → k < count_of (grid_of g.shape sub) → p < count_of sub
      → cell_length (get_or (shard_cells inner.cells index.cells (layout_of sub location order size g) b) (cell_number g.shape sub k p) None) ≡ length (element_at g.fill (get_or subchunks k None) p)
  length_here k p hk hp =
      ap cell_length (cell_here inner.cells index.cells sub location order size g b divides k p hk hp
      ∙ ap (λ o. cell_in inner.cells g.fill b (slot_by (length b) o k) p) told
      ∙ cell_of_decoded inner.cells (subchunk_spec sub g) g.fill b (slot_at (length b) ns k) (get_or subchunks k None) p (each k hk) hp)

  -- where the subchunks have too many bytes together, the shard's cells are too long
  pub long_subchunks : 0 < count_of sub → 2 ^ 64 ≤ bytes_gathered g.fill (count_of sub) subchunks → AreTooLong (shard_cells inner.cells index.cells (layout_of sub location order size g) b)
  long_subchunks some long =
      let n : ℕ = count_of sub in
      let many : ℕ = count_of (grid_of g.shape sub) in
      let cells : List (Option (List ℕ)) = shard_cells inner.cells index.cells (layout_of sub location order size g) b in
      let number : ℕ → ℕ = λ i. cell_number g.shape sub (i / n) (i % n) in
      let all : List ℕ = range_with_len 0 (many * n) in
      let long_all : length all ≡ many * n = length-range_with_len 0 (many * n) in
      let row : (i : ℕ) → i < many * n → i / n < many = λ i below. (div-lt_iff_lt-mul some).1 below in
      let position : (i : ℕ) → i % n < n = λ i. omega arith in
      let at : (i : ℕ) → i < many * n → get_or (map number all) i 0 ≡ number i = λ i below.
      get_or-map number all i 0 0 (omega (arith, long_all)) ∙ ap number (get_or-range_with_len 0 (many * n) i 0 below ∙ omega arith) in
      record {
        positions = map number all;
        below = λ i inside.
            let lt : i < many * n = omega (arith, length-map all number, long_all) in
            omega (arith, at i lt, cells_counted inner.cells index.cells sub location order size g b divides, cell_number-below g.shape sub divides (i / n) (i % n) (row i lt) (position i));
        apart = λ i j before inside same.
            let lt : j < many * n = omega (arith, length-map all number, long_all) in
            let lt_i : i < many * n = omega arith in
            let cell : number i ≡ number j = sym (at i lt_i) ∙ same ∙ at j lt in
            let rows : i / n ≡ j / n = sym (subchunk_number-cell_number g.shape sub divides (i / n) (i % n) (row i lt_i) (position i))
            ∙ ap (subchunk_number g.shape sub) cell ∙ subchunk_number-cell_number g.shape sub divides (j / n) (j % n) (row j lt) (position j) in
            let positions : i % n ≡ j % n = sym (position_number-cell_number g.shape sub divides (i / n) (i % n) (row i lt_i) (position i))
            ∙ ap (position_number g.shape sub) cell ∙ position_number-cell_number g.shape sub divides (j / n) (j % n) (row j lt) (position j) in
            omega (arith, before, same_number i j n rows positions);
        long = omega (
          arith,
          long,
          bytes_by_rows,
          same_sum (λ p. cell_length (get_or cells p None)) (λ i. length (element_at g.fill (get_or subchunks (i / n) None) (i % n))) number all
              (λ i inside.
              let lt : i < many * n = omega (arith, long_all) in
              let is : get_or all i 0 ≡ i = get_or-range_with_len 0 (many * n) i 0 lt ∙ omega arith in
              rw is (length_here (i / n) (i % n) (row i lt) (position i))),
        );
      }

  -- the test of the lengths comes last
  pub lengths_last : (Varies : Type 0) (e : CodecError) → 0 < count_of sub
      → ((Varies → bytes_gathered g.fill (count_of sub) subchunks < 2 ^ 64) or TooLarge then λ e. e ≡ OutOfMemory) e
      → RefusedBy (DecodeRefusals inner index (layout_of sub location order size g) b) e
  lengths_last Varies e some h =
      elim h [
        | inl long ↦ elim (cases_lt (bytes_gathered g.fill (count_of sub) subchunks) (2 ^ 64)) [
          | inl fits ↦ absurd (long.0 (λ varies. fits))
          | inr far ↦
              inr (inr (
                long_enough index.cells location size b ns told,
                inr (
                  rw told refl,
                  inr (
                    λ k below. rw told (HasArray-decoded inner.cells (subchunk_spec sub g) b (slot_at (length b) ns k) (get_or subchunks k None) (each k below)),
                    (long.1, long_subchunks some (omega (arith, far))),
                  ),
                ),
              ))
        ]
        | inr memory ↦ inl memory.1
      ]
