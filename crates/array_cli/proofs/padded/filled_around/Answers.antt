use Rattle.array_cli.proofs.PaddedLemmas.{padded}
use Rattle.array_cli.proofs.padded.filled_around.Goals as goal

pub returns-clause-padded : goal.returns-clause-padded
returns-clause-padded c =
    let e = c.in_ok-put.ensures in
    padded c.args.fill_value.now c.args.part.now.shape c.args.chunk.now.shape c.args.elements.now c.args.part.now c.in_ok-cells.cells c.put.new.self c.requires.start
    c.in_ok-cells.ensures.filled e.same_size e.same_shape e.whole e.written
