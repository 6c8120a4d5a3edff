-- The numbers of the pieces so far stand in their places.
use Rattle.std.proofs.Common.{◌≡◌, take, map, length}
use Rattle.sharding_format.specs.Index.{number_of_element}
use Rattle.sharding_index.proofs.numbers.read_numbers.Given as goal

abbrev pub invariant-loop-k : goal.invariant-loop-k
invariant-loop-k l = record {
  whole : length l.numbers ≡ length l.pieces;
  so_far : take l.k l.numbers ≡ map number_of_element (take l.k l.pieces);
}
