-- The parts of a list.
use Rattle.std.specs.Prelude.{◌≡◌, ◌%◌, ℕ}

-- one of the parts to which the places of a list are dealt out in turn: which one, counted from 0, and of how many
pub record PartOfList : Type 0 where
  pub number : ℕ
  pub parts : ℕ

-- all of a list
abbrev pub whole_list : PartOfList
whole_list = record { number = 0; parts = 1 }

-- a place of a list, counted from 0, is in a part
abbrev pub IsIn : ℕ → PartOfList → Type 0
IsIn place part = place % part.parts ≡ part.number

-- a part has a place, and each part of as many that has it is this one
pub record HoldsAlone (place parts : ℕ) (part : PartOfList) : Type 0 where
  pub counted : part.parts ≡ parts
  pub has : IsIn place part
  pub alone : (other : PartOfList) → other.parts ≡ parts → IsIn place other → other ≡ part
