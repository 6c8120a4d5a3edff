use Rattle.std.proofs.Common.{arith, rules, slice_index_or}
use Rattle.std.proofs.lemmas.Grind.{common_steps}
use Rattle.codec_gzip.proofs.AdlerLaws.{byte_later}
use Rattle.codec_gzip.proofs.zlib_streams.adler.after_block.Goals as goal

pub loop-byte-preserved : goal.loop-byte-preserved
loop-byte-preserved c =
    let byte = slice_index_or c.args.bytes.now c.loop-byte.byte-index 0 in
    record {
      sums = grind (arith, common_steps, byte_later c.loop-byte.s1 c.loop-byte.s2 byte, c.loop-byte.invariant.sums);
      first = search rules;
      second = omega (arith, c.loop-byte.invariant.first, c.loop-byte.invariant.second);
    }
