-- What a value holds, by where its numbers stand.
use Rattle.std.proofs.Common.{ℕ, List, [], ◌∷◌, ◌≡◌, ◌<◌, ◌++◌, ◌∙◌, sym, take, take_all, length, refl, arith}
use Rattle.parts_subsets.specs.Axes.{numbers_held}

pub held_apart : (few : List ℕ) (len : ℕ) (many : List ℕ) → 0 < length many → numbers_held few len many ≡ many
unfolding numbers_held
held_apart few len [] some = absurd (omega (arith, some))
held_apart few len (number ∷ more) some = refl

pub held_within : (few : List ℕ) (len : ℕ) (many : List ℕ) → length many ≡ 0 → numbers_held few len many ≡ take len few
unfolding numbers_held
held_within few len [] none = refl
held_within few len (number ∷ more) none = absurd (omega (arith, none))

pub held_whole : (few many : List ℕ) → numbers_held few 0 many ≡ many
unfolding numbers_held
held_whole few [] = refl
held_whole few (number ∷ more) = refl

pub moved_apart : (few many all : List ℕ) (len : ℕ) → length many ≡ 0 → length few ≡ len → all ≡ many ++ few → take len few ≡ all
moved_apart few [] all len none full so = take_all len few (omega (arith, full)) ∙ sym so
moved_apart few (number ∷ more) all len none full so = absurd (omega (arith, none))
