use Rattle.std.proofs.Common.{◌≡◌, map, take}
use Rattle.parts_subsets.specs.Grid.{subchunk_number, position_number}
use Rattle.sharding_gather.proofs.grouping.located_all.Given as goal

abbrev pub invariant-loop-number : goal.invariant-loop-number
invariant-loop-number l = record {
  subchunks : map (λ cell. cell.subchunk) l.located.items ≡ map (subchunk_number l.shape l.sub) (take l.number-index l.numbers);
  positions : map (λ cell. cell.position) l.located.items ≡ map (position_number l.shape l.sub) (take l.number-index l.numbers);
}
