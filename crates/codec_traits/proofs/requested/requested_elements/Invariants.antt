-- The elements so far are those of the coordinates so far.
use Rattle.std.proofs.Common.{◌≡◌, map, take}
use Rattle.parts_row_major.specs.Numbering.{number_of}
use Rattle.parts_arrays.specs.Arrays.{element_of}
use Rattle.codec_traits.proofs.requested.requested_elements.Given as goal

abbrev pub invariant-loop-i : goal.invariant-loop-i
invariant-loop-i g l = record {
  kind : l.requested.kind ≡ l.array.kind;
  so_far : l.requested.elements ≡ map (λ point. element_of l.array (number_of point l.axes)) (take l.i (g.N.Indexer.selection l.indexer).points);
}
