-- The rows of a plan: for each part the number of its subchunk, the offset and the size of its slice, where it starts in the subchunk
-- and in the answer, and its shape.
use Rattle.std.specs.Prelude.{◌+◌, ◌*◌, ◌++◌, ℕ, List, ◌∷◌, flat_map, take, drop}
use Rattle.parts_row_major.specs.Subsets.{Subset}
use Rattle.sharding_format.specs.Index.{absent_number}
use Rattle.sharding_format.specs.declared.slot.Slot.{Slot}
use Rattle.sharding_format.specs.declared.slot.Slot.TheVariants.{Absent, InRange, Bad}
use Rattle.sharding_plans.specs.declared.read_plan.ReadPart.{ReadPart}

-- offset and size of a slot; an absent subchunk has the absent number twice
abbrev pub offset_of : Slot → ℕ
offset_of Absent = absent_number
offset_of (InRange offset size) = offset
offset_of Bad = absent_number

abbrev pub size_of : Slot → ℕ
size_of Absent = absent_number
size_of (InRange offset size) = size
size_of Bad = absent_number

abbrev pub row_of : ReadPart → List ℕ
row_of part =
    part.number ∷ offset_of part.slot ∷ size_of part.slot
    ∷ (part.overlap.in_subchunk.start ++ part.overlap.in_subset.start ++ part.overlap.in_subset.shape)

abbrev pub rows_of : List ReadPart → List ℕ
rows_of parts = flat_map row_of parts

-- how many numbers a row has
abbrev pub row_length : ℕ → ℕ
row_length axes = 3 + 3 * axes

-- the part of a row in its subchunk, and in the answer
abbrev pub in_subchunk : ℕ → List ℕ → Subset
in_subchunk axes row = record { start = take axes (drop 3 row); shape = take axes (drop (3 + 2 * axes) row) }

abbrev pub in_answer : ℕ → List ℕ → Subset
in_answer axes row = record { start = take axes (drop (3 + axes) row); shape = take axes (drop (3 + 2 * axes) row) }
