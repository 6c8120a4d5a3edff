use Rattle.std.proofs.Common.{◌≡◌, ◌<◌, ℕ, false, get_or}
use Rattle.array_grid.specs.declared.words.Position.TheVariants.{FromStart}
use Rattle.array_grid.specs.declared.words.Word.TheVariants as word
use Rattle.array_grid.specs.Subsets.{is_ellipsis}
use Rattle.array_grid.proofs.picking.ellipsis_place.Given as goal

abbrev pub invariant-loop-at : goal.invariant-loop-at
invariant-loop-at l = (k : ℕ) → k < l.at → is_ellipsis (get_or l.words k (word.Coordinate (FromStart 0))) ≡ false
