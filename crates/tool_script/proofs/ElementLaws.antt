-- The bytes of elements.
use Rattle.std.proofs.Common.{◌≡◌, ◌≤◌, ℕ, List, length, take, arith}
use Rattle.std.proofs.lemmas.Grind.{common_steps}
use Rattle.tool_script.specs.declared.element_type.NumberType.{NumberType}
use Rattle.tool_script.specs.declared.element_type.NumberType.TheVariants.{UInt8, UInt16, UInt32, UInt64}
use Rattle.tool_script.specs.Elements.{width_of}

-- no element has more than eight bytes
pub width_of-le : (number_type : NumberType) → width_of number_type ≤ 8
width_of-le UInt8 = omega arith
width_of-le UInt16 = omega arith
width_of-le UInt32 = omega arith
width_of-le UInt64 = omega arith

-- the lowest bytes of eight are as many as the element has
pub length-lowest : (number_type : NumberType) (bytes : List ℕ) → length bytes ≡ 8 → length (take (width_of number_type) bytes) ≡ width_of number_type
length-lowest number_type bytes eight =
    let within : width_of number_type ≤ length bytes = omega (arith, width_of-le number_type) in
    grind (arith, common_steps)
