use Rattle.std.proofs.Common.{◌≡◌, ◌≤◌, ◌-◌, [], length, vec_len}
use Rattle.codec_compression.specs.Parts.{parts}
use Rattle.codec_gzip.specs.Gzip.{member_at}
use Rattle.codec_gzip.proofs.members.gunzip.Given as goal

abbrev pub invariant-loop : goal.invariant-loop
invariant-loop l = record {
  within : vec_len l.out ≤ l.limit;
  left : parts member_at (length l.bytes - l.counter) l.out.items l.left ≡ parts member_at (length l.bytes) [] l.bytes;
}
