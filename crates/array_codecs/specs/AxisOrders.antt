-- Orders of the axes of an array, and arrays whose axes are in another order (Zarr V3, codec `transpose`): the transposed array B of A has
-- B.shape[k] = A.shape[order[k]] for each axis k, and B[j] = A[i] where j[k] = i[order[k]] for each k.
use Rattle.std.specs.Prelude.{ℕ, Bool, ◌==◌, ◌&&◌, nat_lt, List, length, map, slice_index, slice_index_or}
use Rattle.std.specs.List.{list_all, position_or_len, range_with_len}
use Rattle.parts_row_major.specs.Numbering.{count_of, number_of, point_of}

-- where an axis stands in an order, or how long the order is
abbrev pub place_of : List ℕ → ℕ → ℕ
place_of order axis = position_or_len (λ other. other == axis) order

-- where each axis stands in an order: the order that undoes it
abbrev pub inverse_of : List ℕ → List ℕ
inverse_of order = map (place_of order) (range_with_len 0 (length order))

-- the number at a place is an axis, and the inverse has the place there
abbrev pub is_undone : List ℕ → List ℕ → ℕ → Bool
is_undone order inverse place =
    nat_lt (slice_index order place) (length order) && (slice_index inverse (slice_index order place) == place)

-- two orders undo one another at a place
abbrev pub are_undone : List ℕ → List ℕ → ℕ → Bool
are_undone order inverse place = is_undone order inverse place && is_undone inverse order place

-- the numbers are a permutation of the axes: they and their places undo one another
abbrev pub is_order : List ℕ → Bool
is_order order = list_all (are_undone order (inverse_of order)) (range_with_len 0 (length order))

-- the numbers of a shape, or of a coordinate, in an order of axes: at k stands the number at order[k]
abbrev pub permuted : List ℕ → List ℕ → List ℕ
permuted order numbers = map (slice_index numbers) order

-- the number in the transposed array of the element with a number: that at i is there at j
abbrev pub number_moved : List ℕ → List ℕ → ℕ → ℕ
number_moved order shape number = number_of (permuted order (point_of number shape)) (permuted order shape)

-- the cells of an array of a shape, by those of the transposed array, both in row-major order: A[i] = B[j]
unfoldable pub transposed : {X : Type 0} → List ℕ → List ℕ → X → List X → List X
transposed order shape absent cells =
    map (λ number. slice_index_or cells (number_moved order shape number) absent) (range_with_len 0 (count_of shape))
