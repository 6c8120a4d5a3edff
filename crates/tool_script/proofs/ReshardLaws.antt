-- What refuses a reshard of an object, or one where there is none.
use Rattle.std.specs.Prelude.{◌≡◌, Option, Some, None, IsSomeAnd, IfSome, IfNone}
use Rattle.std.proofs.Common.{inl, inr, sym, subst}
use Rattle.parts_errors.specs.Words.{Bytes}
use Rattle.parts_errors.specs.Order.{RefusedBy}
use Rattle.parts_errors.specs.declared.error.CodecError.{CodecError}
use Rattle.parts_arrays.specs.ArraySpec.{ArraySpec}
use Rattle.storage_handles.specs.Handles.{seen}
use Rattle.codec_traits.specs.Meanings.{Meaning}
use Rattle.codec_traits.specs.Refusals.{RefusesUnserved}
use Rattle.zarrs_sharding.specs.Resharding.{ReshardRefusals}
use Rattle.tool_script.specs.Shards.{ObjectReshardRefusals}

module _ {A : Type 0} (items : A → Bytes) (g : ArraySpec) (from to : Meaning) where
  -- of an object
  pub object_refused : (object : Option A) (e : CodecError) → IsSomeAnd object (λ old. RefusedBy (ReshardRefusals g from to (items old)) e)
      → RefusedBy (ObjectReshardRefusals g from to (seen items object)) e
  object_refused None e h = absurd h
  object_refused (Some old) e h = h

  -- by a codec that does not serve the arrays, where none was made by it of an object
  pub unserved_refused : {B : Type 0} (made : Option B) (object : Option A) (e : CodecError) → IfNone made (object ≡ None) → IfSome made (λ _. to.serves)
      → RefusedBy (RefusesUnserved to) e → RefusedBy (ObjectReshardRefusals g from to (seen items object)) e
  unserved_refused None object e none serves h = subst (λ o. RefusedBy (ObjectReshardRefusals g from to (seen items o)) e) (sym none) h
  unserved_refused (Some b) object e none serves h = elim h [ inl memory ↦ inl memory | inr unserved ↦ absurd (unserved.0 serves) ]
