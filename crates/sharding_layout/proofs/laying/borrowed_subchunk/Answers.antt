use Rattle.std.proofs.Common.{◌+◌, ◌*◌, ◌≤◌, ◌∙◌, ℕ, ap, sym, arith, map}
use Rattle.std.specs.List.{range_with_len}
use Rattle.std.proofs.lemmas.Nat.{row_fits}
use Rattle.parts_row_major.specs.Numbering.{count_of}
use Rattle.parts_subsets.specs.Grid.{grid_of}
use Rattle.parts_arrays.specs.Arrays.{Array, element_of}
use Rattle.parts_subsets.proofs.GridLaws.{count-grid}
use Rattle.parts_subsets.proofs.FollowLaws.{subchunk_follows}
use Rattle.sharding_layout.proofs.laying.borrowed_subchunk.Goals as goal
use Rattle.sharding_layout.proofs.laying.borrowed_subchunk.Goals.{Start}

-- the subchunk ends within the array
within : (c : Start) → c.args.number * c.args.positions + c.args.positions ≤ count_of c.args.cut.now.shape.now
within c =
    let sub = c.args._spec.now.shape.now in
    let shape = c.args.cut.now.shape.now in
    let fits = row_fits c.args.number (count_of sub) (count_of (grid_of shape sub)) (count_of sub) (rw c.requires.cut.grid at c.requires.below) (omega arith) in
    rw c.requires.follow.positions_are (omega (arith, fits, count-grid shape sub c.requires.cut.divides))

pub overflow_mul-first : goal.overflow_mul-first
overflow_mul-first c = omega (arith, within (goal.at.overflow_mul-first c).Start, c.requires.cut.fits)

pub borrowed_range-requires : goal.borrowed_range-requires
borrowed_range-requires c = omega (arith, within (goal.at.borrowed_range-requires c).Start, c.requires.cut.array.counted)

pub returns-clause-elements : goal.returns-clause-elements
returns-clause-elements c =
    let array = c.args.cut.now.array.now in
    let sub = c.args._spec.now.shape.now in
    let shape = c.args.cut.now.shape.now in
    let k = c.args.number in
    let taken : ℕ → ℕ → _ = λ (from many : ℕ). map (element_of array) (range_with_len from many) in
    let is = c.requires.follow.positions_are in
    ap (λ (a : Array). a.elements) c.in_ok-part.ensures.some
    ∙ (ap (λ (n : ℕ). taken (k * n) n) is
    ∙ sym (subchunk_follows shape sub array.elements k c.requires.cut.divides c.requires.follow.follow c.requires.follow.axes c.requires.some))
