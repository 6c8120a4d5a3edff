-- A walk over the sets of a subset: each begins a stride after the one before it, or is found anew.
use Rattle.std.proofs.Common.{◌≡◌, ℕ, ◌+◌, ◌-◌, ◌*◌, ◌<◌, ◌≤◌, List, [], ◌∷◌, length, get_or, drop, refl, ap, ◌∙◌, arith}
use Rattle.std.proofs.lemmas.Nat.{row_fits}
use Rattle.std.proofs.Math.Nat.{zero-div, zero-mod}
use Rattle.parts_row_major.specs.Numbering.{count_of, point_of, zip_with}
use Rattle.parts_row_major.specs.Subsets.{Subset, LiesIn, number_in}
use Rattle.parts_row_major.specs.Runs.{AreRows, AreSets, IsAtSet}
use Rattle.parts_row_major.proofs.NumberingLaws.{rest_positive, count_of-drop}
use Rattle.parts_row_major.proofs.RowLaws.{stepping_none, stepping_turn, stepping_more, position_next, turn_fits, subset_rows_at}

-- a set more, which lies in the group of the last
pub record NextSet (position : ℕ → ℕ) (group stride passed turn sets here : ℕ) : Type 0 where
  pub there : here + stride ≡ position (passed + 1)
  pub further : passed + 1 < sets
  pub known : IsAtSet position group stride (passed + 1) turn sets (here + stride)

pub next_set : (position : ℕ → ℕ) (group stride passed turn sets here : ℕ) → IsAtSet position group stride passed turn sets here → passed < sets → passed + 1 < turn → NextSet position group stride passed turn sets here
next_set position group stride passed turn sets here at lt inside =
    let known = at.steps lt in
    let there = position_next position group stride (passed + 1) turn sets here known inside in
    record {
      there = there;
      further = omega (arith, known.within);
      known = record {
        inside = omega (arith, known.within);
        at = λ _. there;
        steps = λ _. stepping_more position group stride (passed + 1) turn sets here known inside;
      };
    }

-- the first set of a further group
pub record NextGroup (position : ℕ → ℕ) (group stride passed turn sets first : ℕ) : Type 0 where
  pub fits : turn + group ≤ sets
  pub known : IsAtSet position group stride (passed + 1) (turn + group) sets first

pub next_group : (position : ℕ → ℕ) (group stride passed turn sets here first : ℕ) → IsAtSet position group stride passed turn sets here → turn ≤ passed + 1 → passed + 1 < sets → first ≡ position (passed + 1)
    → NextGroup position group stride passed turn sets first
next_group position group stride passed turn sets here first at out lt is =
    let known = at.steps (omega arith) in
    let e : passed + 1 ≡ turn = omega (arith, known.before) in
    record {
      fits = turn_fits position group stride (passed + 1) turn sets here known e lt;
      known = record {
        inside = omega arith;
        at = λ _. is;
        steps = λ _. stepping_turn position group stride (passed + 1) turn sets here first known e lt is;
      };
    }

-- the walk is at its end
pub last_set : (position : ℕ → ℕ) (group stride passed turn sets here : ℕ) → passed ≡ sets → IsAtSet position group stride passed turn sets here
last_set position group stride passed turn sets here e = record { inside = omega arith; at = λ lt. absurd (omega arith); steps = λ lt. absurd (omega arith) }

-- the walk begins
pub first_set : (position : ℕ → ℕ) (group stride sets first : ℕ) → AreRows position group stride sets → 0 < sets → first ≡ position 0 → IsAtSet position group stride 0 group sets first
first_set position group stride sets first are some is =
    let none : 0 + group ≡ group = omega arith in
    record {
      inside = omega arith;
      at = λ _. is;
      steps = λ _. rw none at (stepping_turn position group stride 0 0 sets 0 first (stepping_none position group stride sets are) refl some is);
    }

-- a set that is to come begins at a point of the subset
pub set_below : (subset : Subset) (shape : List ℕ) (each sets q : ℕ) → AreSets subset shape each sets → q < sets → q * each < count_of subset.shape
set_below subset shape each sets q are lt = omega (arith, are.whole, are.some, row_fits q each sets each lt (omega arith))

-- one axis more of the last axes of a shape
pub tail_more : (s : List ℕ) (i j k : ℕ) → i < length s → i + 1 ≡ j → k ≡ count_of (drop j s) → k * get_or s i 0 ≡ count_of (drop i s)
tail_more s i j k lt e is =
    let here : k ≡ count_of (drop (i + 1) s) = rw e is in
    omega (arith, here, ap (λ n. n * get_or s i 0) here, count_of-drop s i lt)

-- groups of one set each
pub one_each : (position : ℕ → ℕ) (stride sets : ℕ) → AreRows position 1 stride sets
one_each position stride sets = record {
  some = omega arith;
  whole = (sets, omega arith);
  steps = λ q r small lt.
      let none : r ≡ 0 = omega arith in
      let at : q * 1 + r ≡ q * 1 = omega arith in
      ap position at ∙ rw none (omega arith);
}

-- the sets along the axis before those that a set covers
pub along_axis : (subset : Subset) (shape : List ℕ) (axis j each stride many : ℕ) → length subset.start ≡ length subset.shape → LiesIn subset shape → 0 < count_of subset.shape → axis + 1 ≡ j → axis < length subset.shape
    → each ≡ count_of (drop j subset.shape) → stride ≡ count_of (drop j shape) → many * each ≡ count_of subset.shape
    → AreRows (λ q. number_in subset shape (q * each)) (get_or subset.shape axis 0) stride many
along_axis subset shape axis j each stride many same inside some e lt is around all =
    let back : j - 1 ≡ axis = omega arith in
    subset_rows_at subset shape j each (get_or subset.shape axis 0) stride many same inside some (omega arith) is around (λ none. absurd (omega arith)) (λ _. rw back refl) all

-- the first point of a subset
pub first_point : (start len : List ℕ) → length start ≡ length len → 0 < count_of len → zip_with ◌+◌ start (point_of 0 len) ≡ start
first_point [] [] same some = refl
first_point [] (n ∷ ns) same some = refl
first_point (a ∷ more) [] same some = absurd (omega arith)
first_point (a ∷ more) (n ∷ ns) same some =
    let none : a + 0 ≡ a = omega arith in
    rw (zero-div (count_of ns), zero-mod (count_of ns), none, first_point more ns (omega arith) (rest_positive 0 n (count_of ns) some)) refl
