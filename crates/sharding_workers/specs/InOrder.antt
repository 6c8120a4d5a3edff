-- What became of numbered work, in the order of the numbers.
use Rattle.std.specs.Prelude.{◌≡◌, List, ◌++◌, ◌∷◌, Ok, Err, map}
use Rattle.std.specs.declared.result.Result.{Result}
use Rattle.parts_errors.specs.declared.error.CodecError.{CodecError}

-- the work was refused so, and all before it was done
pub record IsFirstRefusal {T : Type 0} (results : List (Result T CodecError)) (e : CodecError) : Type 0 where
  pub before : List T
  pub after : List (Result T CodecError)
  pub are : results ≡ map Ok before ++ Err e ∷ after
