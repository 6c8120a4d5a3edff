-- What always holds of a stored shard, of a write or of an update holds in one way at most, so that a struct can keep it.
use Rattle.std.specs.Prelude.{◌≡◌, ◌%◌, ℕ, List, [], ◌∷◌, length}
use Rattle.std.specs.List.{AllZip}
use Rattle.std.specs.Coded.{×_prop, Unit-prop, Coded-set, coded_ℕ}
use Rattle.parts_subsets.specs.Grid.{Divides}
use Rattle.parts_arrays.specs.Types.{FitsKind}
use Rattle.parts_arrays.specs.declared.data_type.DataTypeSize.{DataTypeSize}
use Rattle.parts_arrays.specs.declared.data_type.DataTypeSize.TheVariants.{Fixed, Variable}

-- so it is of a fact that holds of two lists place by place
pub all_zip-prop : {A B : Type 0} (R : A → B → Type 0) → ((x : A) (y : B) → IsProp (R x y)) → (xs : List A) (ys : List B)
    → IsProp (AllZip R xs ys)
all_zip-prop R each [] [] = Unit-prop
all_zip-prop R each [] (y ∷ ys) = λ h. absurd h
all_zip-prop R each (x ∷ xs) [] = λ h. absurd h
all_zip-prop R each (x ∷ xs) (y ∷ ys) = ×_prop (each x y) (all_zip-prop R each xs ys)

pub divides-prop : (sub shape : List ℕ) → IsProp (Divides sub shape)
divides-prop sub shape = all_zip-prop (λ part axis. axis % part ≡ 0) (λ part axis. Coded-set coded_ℕ (axis % part) 0) sub shape

pub fits_kind-prop : (kind : DataTypeSize) (element : List ℕ) → IsProp (FitsKind kind element)
fits_kind-prop (Fixed size) element = Coded-set coded_ℕ (length element) size
fits_kind-prop Variable element = Unit-prop
