use Rattle.std.proofs.Common.{◌∙◌, ap, length}
use Rattle.std.proofs.lemmas.List.{length-map}
use Rattle.sharding_format.specs.Index.{number_of_element}
use Rattle.sharding_format.specs.Laws.{count-append_two}
use Rattle.sharding_format.proofs.ReadIndexLemmas.{numbers_found, served, stored}
use Rattle.sharding_index.specs.Indexes.{index_meaning}
use Rattle.sharding_index.proofs.index.IndexCodec.decode_part.Goals as goal

pub returns-in-Err-clause-refused : goal.returns-in-Err-clause-refused
returns-in-Err-clause-refused g c =
    let a = c.args in
    let index = index_meaning g.X.ArrayToBytesCodecTraits.meaning a.self.now.codec.now a.plan.now.grid in
    let refused = rw (c.requires.shape, c.requires.fill) at c.in-Err.ensures.refused in
    let lawful = rw (c.requires.shape, c.requires.fill) at c.in-Err.ensures.lawful in
    stored (index.decode_refusals a.part.now) (index.cells a.part.now) c.in-Err.error c.of_stored.result
    (lawful c.requires.serves.served) (served index (index.decode_refusals a.part.now) c.in-Err.error c.requires.serves.served refused) c.of_stored.ensures

pub returns-clause-numbers : goal.returns-clause-numbers
returns-clause-numbers g c =
    let a = c.args in
    let index = index_meaning g.X.ArrayToBytesCodecTraits.meaning a.self.now.codec.now a.plan.now.grid in
    let read = rw (c.requires.shape, c.requires.fill) at c.in-Ok.ensures.cells in
    numbers_found (index.cells a.part.now) c.in-Ok.index.elements c.in_ok-numbers.numbers.items read c.in_ok-numbers.ensures.numbers

pub returns-clause-counted : goal.returns-clause-counted
returns-clause-counted g c =
    let read = rw (c.requires.shape, c.requires.fill) at c.in-Ok.ensures.array in
    ap length c.in_ok-numbers.ensures.numbers ∙ length-map c.in-Ok.index.elements number_of_element ∙ read.1.counted ∙ count-append_two _
