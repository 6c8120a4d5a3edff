-- What several clauses say of an answer, said together.
use Rattle.std.proofs.Common.{Result, Ok, Err, IfOk, IfErr}

module _ {T E : Type 0} where
  pub ok_and : (P Q : T → Type 0) (r : Result T E) → IfOk r P → IfOk r Q → IfOk r (λ x. P x × Q x)
  ok_and P Q (Ok x) p q = (p, q)
  ok_and P Q (Err e) p q = tt

  pub ok_so : {P Q : T → Type 0} (r : Result T E) → IfOk r P → ((x : T) → P x → Q x) → IfOk r Q
  ok_so (Ok x) p f = f x p
  ok_so (Err e) p f = tt

  pub err_and : (P Q : E → Type 0) (r : Result T E) → IfErr r P → IfErr r Q → IfErr r (λ e. P e × Q e)
  err_and P Q (Ok x) p q = tt
  err_and P Q (Err e) p q = (p, q)

  pub err_so : {P Q : E → Type 0} (r : Result T E) → IfErr r P → ((e : E) → P e → Q e) → IfErr r Q
  err_so (Ok x) p f = tt
  err_so (Err e) p f = f e p
