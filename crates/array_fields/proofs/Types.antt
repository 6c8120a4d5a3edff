-- Data types by their names.
use Rattle.std.proofs.Common.{◌≡◌, ℕ, Option, Some, None, refl, sym, ap, ◌∙◌, get_or, arith}
use Rattle.parts_errors.specs.Words.{Bytes as Text}
use Rattle.parts_arrays.specs.Types.{type_name}
use Rattle.parts_arrays.specs.declared.data_type.DataType.TheVariants.{Bool, Int8, Int16, Int32, Int64, UInt8, UInt16, UInt32, UInt64, Raw, Bytes, Optional}
use Rattle.array_fields.specs.ElementTypes.{IsUnnamed}

-- the second letter of a name, in which `bytes` differs from the others
abbrev second : Option Text → ℕ
second None = 0
second (Some name) = get_or name 1 0

seconds : (first other name : Option Text) → first ≡ name → other ≡ name → second first ≡ second other
seconds first other name a b = ap second (a ∙ sym b)

-- the name `bytes` is no other type's
pub unnamed : (name : Text) → type_name Bytes ≡ Some name → IsUnnamed name
unnamed name is Bool e = let h : 121 ≡ 111 = seconds (type_name Bytes) (type_name Bool) (Some name) is e in absurd (omega (arith, h))
unnamed name is Int8 e = let h : 121 ≡ 110 = seconds (type_name Bytes) (type_name Int8) (Some name) is e in absurd (omega (arith, h))
unnamed name is Int16 e = let h : 121 ≡ 110 = seconds (type_name Bytes) (type_name Int16) (Some name) is e in absurd (omega (arith, h))
unnamed name is Int32 e = let h : 121 ≡ 110 = seconds (type_name Bytes) (type_name Int32) (Some name) is e in absurd (omega (arith, h))
unnamed name is Int64 e = let h : 121 ≡ 110 = seconds (type_name Bytes) (type_name Int64) (Some name) is e in absurd (omega (arith, h))
unnamed name is UInt8 e = let h : 121 ≡ 105 = seconds (type_name Bytes) (type_name UInt8) (Some name) is e in absurd (omega (arith, h))
unnamed name is UInt16 e = let h : 121 ≡ 105 = seconds (type_name Bytes) (type_name UInt16) (Some name) is e in absurd (omega (arith, h))
unnamed name is UInt32 e = let h : 121 ≡ 105 = seconds (type_name Bytes) (type_name UInt32) (Some name) is e in absurd (omega (arith, h))
unnamed name is UInt64 e = let h : 121 ≡ 105 = seconds (type_name Bytes) (type_name UInt64) (Some name) is e in absurd (omega (arith, h))
unnamed name is (Raw n) e = absurd (cc)
unnamed name is Bytes e = refl
unnamed name is Optional e = absurd (cc)
