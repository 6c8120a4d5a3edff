-- The one shard of an array whose subchunks are written in an order, by codecs of which each has one encoding of an array.
use Rattle.std.specs.Prelude.{Bool, if◌then◌else◌, ℕ, ◌+◌, List, [], ◌∷◌, map, length}
use Rattle.std.specs.List.{flat_map, list_all, range_with_len, sum_by}
use Rattle.std.specs.Str.{bytes_eq}
use Rattle.parts_row_major.specs.Numbering.{count_of}
use Rattle.parts_subsets.specs.Grid.{grid_of, subchunk}
use Rattle.sharding_format.specs.Index.{absent_number, data_start, element_of_number}
use Rattle.sharding_format.specs.Cells.{Layout}
use Rattle.sharding_format.specs.Laying.{whole_shard}
use Rattle.sharding_format.specs.WriteOrder.{numbers_in_order, numbers_before}
use Rattle.sharding_format.specs.declared.order.SubchunkWriteOrder.TheVariants.{C}

-- whether every element is the fill value
abbrev pub is_all_fill : List ℕ → List (List ℕ) → Bool
is_all_fill fill elements = list_all (λ e. bytes_eq e fill) elements

-- what is stored of a subchunk: nothing where it is all fill, and else its encoding
abbrev pub part_of : (List (List ℕ) → List ℕ) → List ℕ → List (List ℕ) → List ℕ
part_of inner_encoding fill elements = if is_all_fill fill elements then [] else inner_encoding elements

-- what is stored of subchunk k
abbrev pub part_at : (List (List ℕ) → List ℕ) → Layout → List (List ℕ) → ℕ → List ℕ
part_at inner_encoding l a k = part_of inner_encoding l.fill (subchunk l.shape l.sub a k)

-- the entry of subchunk k: absent where it is all fill, and else where its encoding begins, after those of the subchunks that
-- come before it in the order, and its size
abbrev pub entry_at : (List (List ℕ) → List ℕ) → Layout → (order : List ℕ) → List (List ℕ) → ℕ → List ℕ
entry_at inner_encoding l order a k =
    if is_all_fill l.fill (subchunk l.shape l.sub a k)
    then absent_number ∷ absent_number ∷ []
    else (data_start l.location l.index_size + sum_by (λ j. length (part_at inner_encoding l a j)) (numbers_before k order))
    ∷ length (part_at inner_encoding l a k) ∷ []

-- the shard: the encodings of the subchunks that aren't all fill, laid end to end in the order of this list, and the encoded
-- index at its place
abbrev pub shard_by : (inner_encoding index_encoding : List (List ℕ) → List ℕ) → Layout → (order : List ℕ) → List (List ℕ) → List ℕ
shard_by inner_encoding index_encoding l order a =
    whole_shard l.location
    (index_encoding (map element_of_number
    (flat_map (entry_at inner_encoding l order a) (range_with_len 0 (count_of (grid_of l.shape l.sub))))))
    (flat_map (part_at inner_encoding l a) order)

-- the shard that is written in the order of its layout
abbrev pub ordered_shard : (inner_encoding index_encoding : List (List ℕ) → List ℕ) → Layout → List (List ℕ) → List ℕ
ordered_shard inner_encoding index_encoding l a =
    shard_by inner_encoding index_encoding l (numbers_in_order l.order (grid_of l.shape l.sub)) a

-- the shard that is made from scratch: whatever the order of the layout, in order `C`
abbrev pub scratch : (inner_encoding index_encoding : List (List ℕ) → List ℕ) → Layout → List (List ℕ) → List ℕ
scratch inner_encoding index_encoding l a = shard_by inner_encoding index_encoding l (numbers_in_order C (grid_of l.shape l.sub)) a
