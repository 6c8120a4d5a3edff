use Rattle.std.proofs.Common.{◌≡◌, ◌^◌, ◌<◌, take}
use Rattle.sharding_format.specs.steps.Decoding.{bytes_gathered}
use Rattle.sharding_gather.proofs.gathering.check_lengths.Given as goal

abbrev pub invariant-loop-subchunk : goal.invariant-loop-subchunk
invariant-loop-subchunk l = record {
  total : l.total ≡ bytes_gathered l.fill l.positions (take l.subchunk-index l.subchunks);
  fits : l.total < 2 ^ 64;
}
