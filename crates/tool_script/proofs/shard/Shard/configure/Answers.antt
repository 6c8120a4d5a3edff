use Rattle.tool_script.proofs.shard.Shard.configure.Goals as goal

pub returns-in-Err-clause-refused : goal.returns-in-Err-clause-refused
returns-in-Err-clause-refused c =
    (c.in_ok-codec.codec, c.in_ok-codec.ensures.made, rw c.data_type-data_type.ensures.value at c.in-Err.ensures.refused)
