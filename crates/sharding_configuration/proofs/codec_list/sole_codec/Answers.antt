use Rattle.std.proofs.Common.{inr}
use Rattle.sharding_configuration.proofs.ValueLists.{sole_of-other}
use Rattle.sharding_configuration.proofs.codec_list.sole_codec.Goals as goal

pub returns-then-codecs-ne1-clause-refused : goal.returns-then-codecs-ne1-clause-refused
returns-then-codecs-ne1-clause-refused g c =
    rw c.in_ok-test_names.ensures.tested (inr (sole_of-other _ _ c.if-codecs-ne1.true))
