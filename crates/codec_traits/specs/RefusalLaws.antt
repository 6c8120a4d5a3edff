-- Tests that refuse nothing as a fault, and a refusal that is passed on.
use Rattle.std.proofs.Common.{◌≡◌, Result, Ok, Err, IfErr, IsErrAnd, inl, inr, sym, subst}
use Rattle.parts_errors.specs.Order.{◌or◌then◌, ◌or_as◌then◌}
use Rattle.parts_errors.specs.declared.error.CodecError.{CodecError}
use Rattle.codec_traits.specs.Refusals.{IsNoFault}

-- a test of our own, and the later tests
pub test_faultless : (P : Type 0) (r : CodecError) (later : CodecError → Type 0)
    → IsNoFault r → ((e : CodecError) → later e → IsNoFault e)
    → (e : CodecError) → (P or r then later) e → IsNoFault e
test_faultless P r later h rest e (inl refused) = subst IsNoFault (sym refused.1) h
test_faultless P r later h rest e (inr passed) = rest e passed.1

-- a test that another codec makes, and the later tests
pub test_as_faultless : (P : Type 0) (R later : CodecError → Type 0)
    → ((e : CodecError) → R e → IsNoFault e) → ((e : CodecError) → later e → IsNoFault e)
    → (e : CodecError) → (P or_as R then later) e → IsNoFault e
test_as_faultless P R later h rest e (inl refused) = h e refused
test_as_faultless P R later h rest e (inr passed) = rest e passed.1

-- a refusal that `?` passes on
pub passed_on : {T : Type 0} (r : Result T CodecError) (e : CodecError) (P : CodecError → Type 0)
    → IsErrAnd r (λ x. x ≡ e) → P e → IfErr r P
passed_on (Ok x) e P is h = tt
passed_on (Err x) e P is h = subst P (sym is) h
