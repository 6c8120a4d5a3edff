use Rattle.std.proofs.Common.{◌≡◌, ◌∙◌, arith, ap}
use Rattle.serde_json.specs.View.{view, items_view}
use Rattle.array_metadata.specs.ArrayCodecs.{subchunks_in}
use Rattle.array_metadata.proofs.ShardCodecs.{shards_read}
use Rattle.array_metadata.proofs.chunk_codecs.shards.Goals as goal

pub returns-clause-read : goal.returns-clause-read
returns-clause-read c =
    let same : c.in_ok-parts.parts.configuration.codecs.items ≡ c.as_slice-values.result.now =
    grind (arith, c.as_slice-values.ensures.value) in
    let inner = ap (λ items. subchunks_in c.args.axes (items_view items)) same ∙ c.in_ok-inner.ensures.read in
    let said = shards_read (subchunks_in c.args.axes) (view c.args.metadata.now.value.now) _ _ _ c.requires.named c.in_ok-parts.ensures.read
    inner c.in_ok-parts.ensures.index in
    grind (arith, said, c.with_inner.ensures)
