use Rattle.std.proofs.Common.{◌≡◌, ◌≤◌, fold, take, ◌+◌, ◌*◌}
use Rattle.codec_gzip.specs.Adler.{after_byte}
use Rattle.codec_gzip.proofs.AdlerLaws.{reduced}
use Rattle.codec_gzip.proofs.zlib_streams.adler.after_block.Given as goal

abbrev pub invariant-loop-byte : goal.invariant-loop-byte
invariant-loop-byte l = record {
  sums : reduced l.s1 l.s2 ≡ fold after_byte l.fn.sums (take l.byte-index l.bytes);
  first : l.s1 ≤ 65520 + 255 * l.byte-index;
  second : l.s2 ≤ 65520 + 587760 * l.byte-index;
}
