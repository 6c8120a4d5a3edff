use Rattle.std.proofs.Common.{◌∙◌, ap}
use Rattle.array_fields.specs.ChunkKeys.{chunk_key, key_with}
use Rattle.array_fields.proofs.keys.ChunkKeys.key_of.Goals as goal

pub returns : goal.returns
unfolding chunk_key
returns c =
    c.in_ok-push_numbers.ensures ∙ c.in_ok-key.ensures c.separator.result.now
    ∙ ap (λ separator. key_with c.args.self.now.encoding separator c.args.coordinates.now) c.separator.ensures
