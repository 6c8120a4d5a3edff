use Rattle.sharding_codec.proofs.codec.ShardingCodec.partial_encoder.Goals as goal

pub returns-clause-opened : goal.returns-clause-opened
returns-clause-opened g c =
    let opened = c.in_ok-session.ensures in
    (c.in_ok-session.session, opened.in_step, (opened.codec, opened.spec, opened.usable, opened.read))
