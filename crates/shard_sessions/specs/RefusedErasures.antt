-- How a recorded erasure is refused.
use Rattle.std.specs.Prelude.{◌≡◌, false}
use Rattle.parts_errors.specs.declared.error.CodecError.{CodecError}
use Rattle.parts_errors.specs.declared.error.CodecError.TheVariants.{SessionFailed}
use Rattle.parts_errors.specs.Order.{◌or◌then◌, RefusedBy}
use Rattle.storage_handles.specs.Handles.{HandleState, MayFault}
use Rattle.sharding_codec.specs.Sessions.{Session, IsLeftOrFailed}

-- a session refused to let the object go, or there was no memory for the event: it left all else, or it is failed from now on
pub record HasRefusedToErase {C H : Type 0} (state : H → HandleState) (e : CodecError) (old new : Session C H) : Type 0 where
  pub failed : IsLeftOrFailed state old new e
  pub refused : RefusedBy (
      old.failed ≡ false or SessionFailed then
      MayFault (state old.handle) (state new.handle)) e
