-- The keys of the chunks of an array (Zarr V3 core, "Chunk key encoding").
use Rattle.std.specs.Prelude.{ℕ, Bool, true, false, List, [], ◌∷◌, ◌++◌, codes}
use Rattle.std.specs.Fmt.{decimal}
use Rattle.parts_errors.specs.Words.{Bytes}
use Rattle.array_fields.specs.declared.keys.ChunkKeys.{ChunkKeys}
use Rattle.array_fields.specs.declared.keys.KeyEncoding.{KeyEncoding}
use Rattle.array_fields.specs.declared.keys.KeyEncoding.TheVariants.{Default, V2}

-- numbers, each behind a separator
abbrev pub behind_separators : Bytes → List ℕ → Bytes
behind_separators separator [] = []
behind_separators separator (number ∷ rest) = separator ++ decimal number ++ behind_separators separator rest

-- the key of the chunk at some coordinates of the chunk grid: `c` and each coordinate behind a separator, or the coordinates with a
-- separator between, which are `0` where there are none
abbrev pub key_with : KeyEncoding → Bytes → List ℕ → Bytes
key_with Default separator coordinates = codes "c" ++ behind_separators separator coordinates
key_with V2 separator [] = codes "0"
key_with V2 separator (first ∷ rest) = decimal first ++ behind_separators separator rest

-- the separator of keys
abbrev pub separator_of : Bool → Bytes
separator_of true = codes "/"
separator_of false = codes "."

unfoldable pub chunk_key : ChunkKeys → List ℕ → Bytes
chunk_key keys coordinates = key_with keys.encoding (separator_of keys.slashes) coordinates
