use Rattle.parts_row_major.specs.Numbering.{point_of}
use Rattle.sharding_gather.proofs.SubchunkOverlapLemmas.{SpansSoFar}
use Rattle.sharding_gather.proofs.overlap.spans_of.Given as goal

abbrev pub invariant-loop-axis : goal.invariant-loop-axis
invariant-loop-axis l = SpansSoFar l.start l.len (point_of l.number l.grid) l.sub l.axis l.in_subchunk.items l.in_subset.items l.lengths.items
