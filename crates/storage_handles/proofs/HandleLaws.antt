-- What two calls said of what was lent, together.
use mathlib.Core.Path.{subst}
use Rattle.std.proofs.Common.{◌≡◌, sym, ℕ, List, Option, IfOk, Some, None}
use Rattle.std.specs.Prelude.{Result, Ok, Err}
use Rattle.storage_handles.specs.Handles.{seen, Agrees}

abbrev IsNothing : {E : Type 0} → Option E → Type 0
IsNothing None = Unit {0}
IsNothing (Some e) = ⊥

none≢some : {E : Type 0} (e : E) → None ≡ Some e → ⊥
none≢some e h = subst IsNothing h tt

pub joined : {A B E : Type 0} (P : Option (List ℕ) → Type 0) (f : A → List ℕ) (g : B → List ℕ) (r : Result (Option A) E) (s : Result (Option B) E)
    → IfOk r (λ o. P (seen f o)) → Agrees f g r s → IfOk s (λ o. P (seen g o))
joined P f g (Ok p) (Ok o) h a = subst P (sym a.same_bytes) h
joined P f g (Err e) (Ok o) h a = absurd (none≢some e a.same_refusal)
joined P f g r (Err e) h a = tt
