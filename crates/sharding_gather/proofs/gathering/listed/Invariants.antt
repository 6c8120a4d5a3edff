use Rattle.std.proofs.Common.{◌≡◌, ◌*◌, map}
use Rattle.std.specs.List.{range_with_len}
use Rattle.parts_arrays.specs.declared.data_type.DataTypeSize.TheVariants.{Variable}
use Rattle.sharding_format.specs.steps.Decoding.{element_in}
use Rattle.sharding_gather.proofs.gathering.listed.Given as goal

abbrev pub invariant-loop-q : goal.invariant-loop-q
invariant-loop-q l = record {
  kind : l.elements.kind ≡ Variable;
  elements : l.elements.elements ≡ map (element_in l.shard.subchunks.now l.shard.fill.now l.shard.shape.now l.shard.sub.now) (range_with_len 0 (l.q * l.run));
}
