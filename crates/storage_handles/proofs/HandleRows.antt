-- The types of what a read through a handle answers, with their laws.
use Rattle.std.proofs.Common.{refl}
use denote.RattleType.{RattleType}
use denote.Param.Laws.{Laws, of_field}
use denote.Param.Shared.{copy_shared}
use denote.Struct.Field.{Field, u8-field, shr_slice_field}
use denote.Struct.Laws.{u8-laws, u8-copy, shr_slice_laws, shr_slice_copy}
use denote.Ref.{NamedLft}
use Rattle.std.proofs.alloc.Global.TheLaws as global
use Rattle.std.proofs.borrow.CowSlice.TheLaws as cow
use Rattle.std.proofs.option.Option.TheLaws as option
use Rattle.std.proofs.result.Result.TheLaws as result
use Rattle.parts_errors.proofs.error.CodecError.TheLaws as error
use Rattle.parts_errors.specs.contracts.error.CodecError as CodecError
use Rattle.std.specs.contracts.alloc.Global as Global
use Rattle.std.specs.contracts.borrow.CowSlice as CowSlice
use Rattle.std.specs.contracts.impls.GlobalAllocator.TheImpl as TheImpl
use Rattle.std.specs.contracts.option.Option as Option'
use Rattle.std.specs.contracts.result.Result as Result'
use Rattle.std.specs.contracts.vec.Vec as Vec

abbrev pub Byte-laws : Laws u8-field.row
Byte-laws = of_field u8-field u8-laws refl (copy_shared u8-field u8-copy)

abbrev pub Cow : NamedLft → RattleType
Cow ν = CowSlice.the_row ν u8-field.row Global.the_row TheImpl.ghosts

abbrev pub Borrowed : NamedLft → RattleType
Borrowed ν = Result'.the_row (Option'.the_row (Cow ν)) CodecError.the_row

abbrev pub Borrowed-laws : (ν : NamedLft) → Laws (Borrowed ν)
Borrowed-laws ν = result.the_row_laws (Option'.the_row (Cow ν)) CodecError.the_row (option.the_row_laws (Cow ν) (cow.the_row_laws ν u8-field.row Global.the_row TheImpl.ghosts Byte-laws global.the_row_laws)) error.the_row_laws

abbrev pub Slice : NamedLft → Field
Slice ν = shr_slice_field ν u8-field.row tt

abbrev pub Part : NamedLft → RattleType
Part ν = Result'.the_row (Option'.the_row (Slice ν).row) CodecError.the_row

abbrev pub Part-laws : (ν : NamedLft) → Laws (Part ν)
Part-laws ν = result.the_row_laws (Option'.the_row (Slice ν).row) CodecError.the_row (option.the_row_laws (Slice ν).row
    (of_field (Slice ν) (shr_slice_laws ν u8-field.row tt) refl (copy_shared (Slice ν) (shr_slice_copy ν u8-field.row tt (Byte-laws).shr_laws)))) error.the_row_laws

abbrev pub Bytes : RattleType
Bytes = Vec.the_row u8-field.row Global.the_row TheImpl.ghosts
