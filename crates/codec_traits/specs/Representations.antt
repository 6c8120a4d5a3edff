-- How long encodings are.
use Rattle.std.specs.Prelude.{◌≡◌, ◌≤◌, ⊤, ℕ, Option, Some, None}
use Rattle.codec_traits.specs.declared.representation.BytesRepresentation.{BytesRepresentation}
use Rattle.codec_traits.specs.declared.representation.BytesRepresentation.TheVariants.{FixedSize, BoundedSize, UnboundedSize}

-- an encoding's length is as the representation says
abbrev pub IsWithin : Option BytesRepresentation → ℕ → Type 0
IsWithin None n = ⊤
IsWithin (Some (FixedSize m)) n = n ≡ m
IsWithin (Some (BoundedSize m)) n = n ≤ m
IsWithin (Some UnboundedSize) n = ⊤
