-- The tests of `check`, `encode`, `compact` and `recommended_concurrency` refuse nothing as a fault, where those of the inner and the
-- index codec do not.
use Rattle.std.specs.Prelude.{ℕ, List}
use Rattle.std.proofs.Common.{inl, inr, sym, subst}
use Rattle.parts_errors.specs.Words.{CellList, Refusals}
use Rattle.parts_errors.specs.Order.{done, Each, EachAs}
use Rattle.parts_arrays.specs.ArraySpec.{ArraySpec}
use Rattle.parts_errors.specs.declared.error.CodecError.{CodecError}
use Rattle.parts_errors.specs.declared.error.CodecError.TheVariants.{UnsupportedDataType, BadFillValue, IncompatibleDimensionality, InvalidSubchunkShape, TooLarge, VariableIndexSize, OutOfMemory, ShardTooShort, Fault, WrongElementKind, InvalidNumberOfElements}
use Rattle.parts_arrays.specs.Arrays.{Array}
use Rattle.parts_arrays.specs.declared.data_type.DataTypeSize.{DataTypeSize}
use Rattle.codec_traits.specs.Refusals.{IsNoFault, RefusesUnserved, MayRefuseDecode}
use Rattle.codec_traits.specs.RefusalLaws.{test_faultless, test_as_faultless}
use Rattle.codec_traits.specs.Meanings.{Meaning}
use Rattle.sharding_format.specs.Serves.{IndexCodecRefusals, CheckRefusals}
use Rattle.sharding_format.specs.Cells.{Layout}
use Rattle.sharding_format.specs.Grids.{ConcurrencyRefusals}
use Rattle.sharding_format.specs.EncodeRefusals.{RefusesToEncode, EncodeRefusals}
use Rattle.sharding_format.specs.DecodeRefusals.{stored_refusal, RefusesStored}
use Rattle.sharding_format.specs.Compacting.{CompactRefusals}

unserved_faultless : (codec : Meaning) → ((e : CodecError) → codec.check_refusals e → IsNoFault e) → (e : CodecError)
    → RefusesUnserved codec e → IsNoFault e
unserved_faultless codec h e refused = h e refused.1

pub index_codec_faultless : (index : Meaning) (later : Refusals)
    → ((e : CodecError) → index.check_refusals e → IsNoFault e) → ((e : CodecError) → later e → IsNoFault e) → (e : CodecError)
    → IndexCodecRefusals index later e → IsNoFault e
index_codec_faultless index later h rest =
    test_as_faultless _ _ _ (unserved_faultless index h)
    (test_faultless _ TooLarge _ tt (test_faultless _ VariableIndexSize _ tt rest))

pub check_refusals_faultless : (inner index : Meaning) (sub : List ℕ) (g : ArraySpec)
    → ((e : CodecError) → inner.check_refusals e → IsNoFault e) → ((e : CodecError) → index.check_refusals e → IsNoFault e)
    → (e : CodecError)
    → CheckRefusals inner index sub g e → IsNoFault e
check_refusals_faultless inner index sub g inner_law index_law =
    test_faultless _ UnsupportedDataType _ tt
    (test_faultless _ BadFillValue _ tt (test_faultless _ IncompatibleDimensionality _ tt (test_faultless _ InvalidSubchunkShape _ tt
    (test_faultless _ TooLarge _ tt (index_codec_faultless index _ index_law
    (test_as_faultless _ _ done (unserved_faultless inner inner_law) (λ e h. absurd h)))))))

each_faultless : (n : ℕ) (P : ℕ → Type 0) (r : ℕ → CodecError) (later : Refusals)
    → ((k : ℕ) → IsNoFault (r k)) → ((e : CodecError) → later e → IsNoFault e) → (e : CodecError) → Each n P r later e → IsNoFault e
each_faultless n P r later h rest e (inl refused) = subst IsNoFault (sym refused.1.3) (h refused.0)
each_faultless n P r later h rest e (inr passed) = rest e passed.1

each_as_faultless : (n : ℕ) (P : ℕ → Type 0) (R : ℕ → Refusals) (later : Refusals)
    → ((k : ℕ) (e : CodecError) → R k e → IsNoFault e) → ((e : CodecError) → later e → IsNoFault e) → (e : CodecError)
    → EachAs n P R later e → IsNoFault e
each_as_faultless n P R later h rest e (inl refused) = h refused.0 e refused.1.2
each_as_faultless n P R later h rest e (inr passed) = rest e passed.1

to_encode_faultless : (Encodable Fits : Type 0) (e : CodecError) → RefusesToEncode Encodable Fits e → IsNoFault e
to_encode_faultless Encodable Fits e (inl refused) = subst IsNoFault (sym refused.0) tt
to_encode_faultless Encodable Fits e (inr refused) = subst IsNoFault (sym refused.0) tt

passed_on_faultless : (cells : CellList) (e : CodecError) → MayRefuseDecode cells e → IsNoFault (stored_refusal e)
passed_on_faultless cells OutOfMemory h = tt
passed_on_faultless cells TooLarge h = tt
passed_on_faultless cells Fault h = absurd h
passed_on_faultless cells _ h = tt

stored_faultless : (refusals : Refusals) (cells : CellList) (e : CodecError) → RefusesStored refusals cells e → IsNoFault e
stored_faultless refusals cells e refused = subst IsNoFault (sym refused.passed_on) (passed_on_faultless cells refused.inner refused.lawful)

pub encode_refusals_faultless : (inner index : Meaning) (l : Layout) (kind : DataTypeSize) (array : Array) (e : CodecError)
    → EncodeRefusals inner index l kind array e → IsNoFault e
encode_refusals_faultless inner index l kind array =
    test_faultless _ WrongElementKind _ tt
    (test_faultless _ InvalidNumberOfElements _ tt (each_as_faultless _ _ _ _ (λ k e refused. to_encode_faultless _ _ e refused.1)
    (test_as_faultless _ _ _ (λ e refused. subst IsNoFault (sym refused.0) tt) (λ e refused. to_encode_faultless _ _ e refused.refuses))))

pub compact_refusals_faultless : (index : Meaning) (l : Layout) (b : List ℕ)
    → ((e : CodecError) → index.check_refusals e → IsNoFault e) → (e : CodecError) → CompactRefusals index l b e → IsNoFault e
compact_refusals_faultless index l b index_law =
    test_faultless _ IncompatibleDimensionality _ tt
    (test_faultless _ InvalidSubchunkShape _ tt (test_faultless _ TooLarge _ tt (index_codec_faultless index _ index_law
    (test_faultless _ ShardTooShort _ tt (test_as_faultless _ _ _ (λ e refused. stored_faultless _ _ e refused)
    (each_faultless _ _ _ _ (λ k. tt) (test_faultless _ TooLarge _ tt (λ e refused. to_encode_faultless _ _ e refused.1.refuses))))))))

pub concurrency_refusals_faultless : (shape sub : List ℕ) (e : CodecError) → ConcurrencyRefusals shape sub e → IsNoFault e
concurrency_refusals_faultless shape sub =
    test_faultless _ IncompatibleDimensionality _ tt
    (test_faultless _ InvalidSubchunkShape _ tt (test_faultless _ TooLarge _ tt (λ e h. absurd h)))
