-- The numbers and names of refusals.
use Rattle.std.specs.Prelude.{ℕ, codes}
use Rattle.parts_errors.specs.Words.{Bytes}
use Rattle.parts_errors.specs.declared.error.CodecError.{CodecError}
use Rattle.parts_errors.specs.declared.error.CodecError.TheVariants.{OutOfMemory, TooLarge, IncompatibleDimensionality, OutOfBounds, InvalidNumberOfElements, InvalidSubchunkShape, ShardTooShort, VariableIndexSize, BadIndexEntry, UnsupportedDataType, BadFillValue, WrongElementKind, UnsupportedIndexer, CannotEncode, Damaged, Fault, SessionFailed}

-- the number of a refusal: its place among them, from 1 on
abbrev pub error_number : CodecError → ℕ
error_number OutOfMemory = 1
error_number TooLarge = 2
error_number IncompatibleDimensionality = 3
error_number OutOfBounds = 4
error_number InvalidNumberOfElements = 5
error_number InvalidSubchunkShape = 6
error_number ShardTooShort = 7
error_number VariableIndexSize = 8
error_number (BadIndexEntry _) = 9
error_number UnsupportedDataType = 10
error_number BadFillValue = 11
error_number WrongElementKind = 12
error_number UnsupportedIndexer = 13
error_number CannotEncode = 14
error_number Damaged = 15
error_number Fault = 16
error_number SessionFailed = 17

-- the name of a refusal
abbrev pub error_name : CodecError → Bytes
error_name OutOfMemory = codes "OutOfMemory"
error_name TooLarge = codes "TooLarge"
error_name IncompatibleDimensionality = codes "IncompatibleDimensionality"
error_name OutOfBounds = codes "OutOfBounds"
error_name InvalidNumberOfElements = codes "InvalidNumberOfElements"
error_name InvalidSubchunkShape = codes "InvalidSubchunkShape"
error_name ShardTooShort = codes "ShardTooShort"
error_name VariableIndexSize = codes "VariableIndexSize"
error_name (BadIndexEntry _) = codes "BadIndexEntry"
error_name UnsupportedDataType = codes "UnsupportedDataType"
error_name BadFillValue = codes "BadFillValue"
error_name WrongElementKind = codes "WrongElementKind"
error_name UnsupportedIndexer = codes "UnsupportedIndexer"
error_name CannotEncode = codes "CannotEncode"
error_name Damaged = codes "Damaged"
error_name Fault = codes "Fault"
error_name SessionFailed = codes "SessionFailed"
