-- The bytes of the numbers so far stand in their places.
use Rattle.std.proofs.Common.{◌≡◌, take, map, length}
use Rattle.sharding_format.specs.Index.{element_of_number}
use Rattle.sharding_index.proofs.numbers.elements_of.Given as goal

abbrev pub invariant-loop-k : goal.invariant-loop-k
invariant-loop-k l = record {
  whole : length l.elements ≡ 256;
  so_far : take l.k l.elements ≡ map element_of_number (take l.k l.numbers);
}
