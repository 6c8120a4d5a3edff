use Rattle.std.proofs.Common.{◌≡◌, ◌<◌, fold, take}
use Rattle.codec_gzip.specs.Adler.{base, after_byte, first_sums}
use Rattle.codec_gzip.proofs.zlib_streams.adler.after_blocks.Given as goal

abbrev pub invariant-loop-block : goal.invariant-loop-block
invariant-loop-block l = record {
  sums : l.sums ≡ fold (fold after_byte) first_sums (take l.block-index l.blocks);
  first : l.sums.s1 < base;
  second : l.sums.s2 < base;
}
