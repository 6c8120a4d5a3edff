use Rattle.std.proofs.lemmas.Result.{IfOk-weaker}
use Rattle.sharding_write.proofs.OverlayLemmas.{read_after}
use Rattle.zarrs_sharding.proofs.laws.read_after_write.Goals as goal

pub returns-clause-agree : goal.returns-clause-agree
returns-clause-agree g c =
    let a = c.args in
    IfOk-weaker c.partial_decode.result _ _
    (λ array h. read_after a.decoder.now.array_spec.shape a._subset.now a._update.now.elements _ _ (g.N.Indexer.selection a.indexer.now).points array.elements c.requires.written (h c.requires.told))
    c.partial_decode.ensures.cells
