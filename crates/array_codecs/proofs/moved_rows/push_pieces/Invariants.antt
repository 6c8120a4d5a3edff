use Rattle.std.proofs.Common.{◌≡◌, ◌+◌, ◌*◌, ◌++◌, map}
use Rattle.std.specs.List.{range_with_len}
use Rattle.parts_row_major.specs.Pieces.{piece}
use Rattle.array_codecs.proofs.moved_rows.push_pieces.Given as goal

-- the elements of the row up to here stand behind the others
abbrev pub invariant-loop-k : goal.invariant-loop-k
invariant-loop-k l = record {
  kind : l.moved.kind ≡ l.fn.moved.kind;
  elements : l.moved.elements ≡ l.fn.moved.elements ++ map (λ k. piece l.size l.bytes (l.first + k * l.step)) (range_with_len 0 l.k);
}
