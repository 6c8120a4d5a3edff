-- What is known of a value that is there.
use Rattle.std.specs.Prelude.{◌≡◌, Option, Some, IsSomeAnd}
use Rattle.std.proofs.Common.{sym, subst}

pub there : {A : Type 0} (o : Option A) (x : A) (P : A → Type 0) → o ≡ Some x → P x → IsSomeAnd o P
there o x P is h = subst (λ found. IsSomeAnd found P) (sym is) h
