use Rattle.std.proofs.Common.{◌≡◌, map, take}
use Rattle.test_helpers.specs.Inverted.{inverted_byte}
use Rattle.test_helpers.proofs.inverted.inverted_array.Given as goal

abbrev pub invariant-loop-i : goal.invariant-loop-i
invariant-loop-i l = record {
  kind : l.builder.kind ≡ l.array.kind;
  done : l.builder.elements ≡ map (map inverted_byte) (take l.i l.array.elements);
}
