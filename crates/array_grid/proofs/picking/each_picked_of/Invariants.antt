-- The ranges so far.
use Rattle.std.proofs.Common.{◌≡◌, map, take}
use Rattle.std.specs.List.{All, zip}
use Rattle.array_grid.specs.Subsets.{picked, LiesOn}
use Rattle.array_grid.proofs.picking.each_picked_of.Given as goal

abbrev pub invariant-loop-axis : goal.invariant-loop-axis
invariant-loop-axis l = record {
  picked : l.ranges.items ≡ map (λ named. picked named.0 named.1) (take l.axis (zip l.words l.shape));
  on : All (λ named. LiesOn named.0 named.1) (take l.axis (zip l.words l.shape));
}
