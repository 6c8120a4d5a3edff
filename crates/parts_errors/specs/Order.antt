-- The order of a call's tests: the first that fails gives the refusal.
use Rattle.std.specs.Prelude.{◌≡◌, ◌<◌, ◌⊎◌, ℕ}
use Rattle.parts_errors.specs.Words.{Refusals}
use Rattle.parts_errors.specs.declared.error.CodecError.{CodecError}
use Rattle.parts_errors.specs.declared.error.CodecError.TheVariants.{OutOfMemory}

-- where P fails the refusal is r, and where it holds it comes from the later tests
infixr 1 ◌or◌then◌
abbrev pub ◌or◌then◌ : Type 0 → CodecError → Refusals → Refusals
P or r then later = λ e. ((¬ P) × (e ≡ r)) ⊎ (P × later e)

-- a test that another codec makes: it refuses as R says, and where it does not P holds
infixr 1 ◌or_as◌then◌
abbrev pub ◌or_as◌then◌ : Type 0 → Refusals → Refusals → Refusals
P or_as R then later = λ e. R e ⊎ (P × later e)

-- a test of each number below n, from 0 on: the first that fails gives the refusal, which r makes of it
abbrev pub Each : ℕ → (ℕ → Type 0) → (ℕ → CodecError) → Refusals → Refusals
Each n P r later = λ e.
    ((k : ℕ) × ((k < n) × ((j : ℕ) → j < k → P j) × (¬ (P k)) × (e ≡ r k))) ⊎ (((j : ℕ) → j < n → P j) × later e)

-- the same where another codec makes the tests: it refuses number k as R says
abbrev pub EachAs : ℕ → (ℕ → Type 0) → (ℕ → Refusals) → Refusals → Refusals
EachAs n P R later = λ e.
    ((k : ℕ) × ((k < n) × ((j : ℕ) → j < k → P j) × R k e)) ⊎ (((j : ℕ) → j < n → P j) × later e)

-- no test is left
abbrev pub done : Refusals
done e = ⊥

-- a refusal is for memory, or it comes from the tests
abbrev pub RefusedBy : Refusals → Refusals
RefusedBy refusals e = (e ≡ OutOfMemory) ⊎ refusals e
