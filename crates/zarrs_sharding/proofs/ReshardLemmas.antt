-- What is refused of an array that was decoded, and of one that is decoded again.
use Rattle.std.proofs.Common.{◌≡◌, Some, IsSome, IsSomeAnd, inl, inr, map, refl, ap, ◌∙◌, subst}
use Rattle.parts_errors.specs.Words.{Bytes, Elements, CellList}
use Rattle.parts_errors.specs.Order.{◌or_as◌then◌, RefusedBy}
use Rattle.parts_errors.specs.declared.error.CodecError.{CodecError}
use Rattle.parts_errors.specs.declared.error.CodecError.TheVariants.{OutOfMemory, TooLarge}
use Rattle.parts_arrays.specs.ArraySpec.{ArraySpec}
use Rattle.parts_arrays.specs.Types.{size_of}
use Rattle.parts_arrays.specs.Arrays.{Array}
use Rattle.codec_traits.specs.Cells.{all_there}
use Rattle.codec_traits.specs.CellLaws.{all_there-map_some}
use Rattle.codec_traits.specs.Meanings.{Meaning}
use Rattle.codec_traits.specs.Refusals.{RefusesUnserved, MayRefuseDecode, MayRefuseEncode}
use Rattle.codec_traits.specs.RoundTrip.{MayRefuseRoundTrip}
use Rattle.codec_traits.proofs.CodecLaws.{refused_by_decode}
use Rattle.zarrs_sharding.specs.Resharding.{array_of, ReshardRefusals, MayRefuseReshard, MayRefuseDecodeAgain}

-- what holds of the elements holds of the cells that are they
of_elements : (cells : CellList) (elements : Elements) (P : Elements → Type 0) → cells ≡ map Some elements → P elements → IsSomeAnd (all_there cells) P
of_elements cells elements P is h = rw (ap all_there is ∙ all_there-map_some elements) h

all_found : (cells : CellList) (elements : Elements) → cells ≡ map Some elements → IsSome (all_there cells)
all_found cells elements is = rw (ap all_there is ∙ all_there-map_some elements) refl

-- an array of the kind of a type is told by its elements
array_is : (g : ArraySpec) (array : Array) → array.kind ≡ size_of g.data_type → array ≡ array_of g array.elements
array_is g array kind = ap (λ k. record { kind = k; elements = array.elements }) kind

module _ (g : ArraySpec) (from to : Meaning) (old : Bytes) (array : Array) where
  -- what the second codec refuses of the array that the first decoded
  pub encode_refused : (e : CodecError) → array.kind ≡ size_of g.data_type → from.cells old ≡ map Some array.elements → from.serves
      → RefusedBy (to.serves or_as RefusesUnserved to then to.encode_refusals array) e → RefusedBy (ReshardRefusals g from to old) e
  encode_refused e kind cells serves (inl memory) = inl memory
  encode_refused e kind cells serves (inr (inl unserved)) = inr (inr (serves, inl unserved))
  encode_refused e kind cells serves (inr (inr later)) =
      let tested : to.encode_refusals (array_of g array.elements) e = subst (λ a. to.encode_refusals a e) (array_is g array kind) later.1 in
      inr (inr (serves, inr (later.0, inr (all_found (from.cells old) array.elements cells, of_elements (from.cells old) array.elements (λ es. to.encode_refusals (array_of g es) e) cells tested))))

  -- and may refuse of it
  pub encode_may_refuse : (e : CodecError) → from.cells old ≡ map Some array.elements → MayRefuseEncode to array.elements e → MayRefuseReshard from to old e
  encode_may_refuse e cells may = inr (of_elements (from.cells old) array.elements (λ es. MayRefuseEncode to es e) cells may)

-- what may be refused of the cells of an array that was encoded
again : (cells : CellList) (elements : Elements) (e : CodecError) → cells ≡ map Some elements → MayRefuseRoundTrip elements e → MayRefuseDecodeAgain cells e
again cells elements OutOfMemory is h = tt
again cells elements TooLarge is h = rw is h
again cells elements _ is h = absurd h

pub refused_again : (cells old : CellList) (elements : Elements) (e : CodecError) → cells ≡ map Some elements → old ≡ map Some elements
    → MayRefuseDecode cells e → MayRefuseDecodeAgain old e
refused_again cells old elements e is old_is may = again old elements e old_is (refused_by_decode elements cells e is may)
