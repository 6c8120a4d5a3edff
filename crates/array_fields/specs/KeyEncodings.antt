-- What the metadata says of the keys of chunks.
use Rattle.std.specs.Prelude.{codes}
use Rattle.parts_errors.specs.Words.{Bytes}
use Rattle.array_fields.specs.declared.keys.KeyEncoding.{KeyEncoding}
use Rattle.array_fields.specs.declared.keys.KeyEncoding.TheVariants.{Default, V2}

-- the name of an encoding
abbrev pub encoding_name : KeyEncoding → Bytes
encoding_name Default = codes "default"
encoding_name V2 = codes "v2"

-- the separator where the configuration gives none
abbrev pub default_separator : KeyEncoding → Bytes
default_separator Default = codes "/"
default_separator V2 = codes "."
