use Rattle.std.proofs.Common.{length}
use Rattle.sharding_gather.proofs.LayingLaws.{filled}
use Rattle.sharding_subchunks.proofs.plain_decoded.make_blank.Goals as goal

pub returns-in_ok-all : goal.returns-in_ok-all
returns-in_ok-all c =
    let subchunk = c.args.subchunk.now in
    filled (length subchunk.fill.now) subchunk.positions c.in_ok-all.all.items subchunk.fill.now c.in_ok-all.ensures.len c.in_ok-all.ensures.each
