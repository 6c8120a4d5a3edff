use Rattle.std.proofs.Common.{refl}
use Rattle.parts_subsets.proofs.SelectionLemmas.{selection_inside}
use Rattle.codec_traits.proofs.CodecLaws.{answered_so}
use Rattle.codec_traits.proofs.ReadLemmas.{reads_agree}
use Rattle.codec_traits.proofs.laws.read_after_decode.Goals as goal

pub returns-clause-agree : goal.returns-clause-agree
returns-clause-agree g c =
    let selection = g.N.Indexer.selection c.args.indexer.now in
    answered_so _ _ _ c.partial_decode.result c.partial_decode.ensures.answer c.partial_decode.ensures.cells
    (λ cells answer read. reads_agree _ c.args.bytes.now c.args.shape.now selection.points cells.elements c.args._decoded.now.elements
    (rw c.new-handle.ensures at (read refl)) c.requires.cells c.requires.array.counted
    (selection_inside c.args.shape.now selection (g.met.N.Indexer.matches_subset c.args.indexer.now) answer.selected))
