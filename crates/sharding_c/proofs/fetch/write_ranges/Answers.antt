use Rattle.std.proofs.Common.{◌∙◌, ap, arith}
use Rattle.std.proofs.lemmas.List.{get_or_default, length-set}
use Rattle.sharding_c.specs.Fetching.{range_of}
use Rattle.sharding_c.proofs.FetchLemmas.{range_written}
use Rattle.sharding_c.proofs.fetch.write_ranges.Goals as goal

pub loop-i-preserved : goal.loop-i-preserved
loop-i-preserved c =
    let a = c.args in
    let l = c.loop-i in
    record {
      same_length = length-set l.room l.i _ ∙ l.invariant.same_length;
      written = range_written a.fetches.now a.room.now l.room l.i _ (omega (arith, c.loop-i-test.true, c.requires, l.invariant.same_length)) c.loop-i-test.true
          (λ e. ap range_of (get_or_default a.fetches.now l.i _ e c.loop-i-test.true)) l.invariant.written;
    }
