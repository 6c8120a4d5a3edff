use Rattle.std.proofs.Common.{◌∙◌, ap, arith, map}
use Rattle.sharding_format.specs.Index.{number_of_element}
use Rattle.sharding_index.proofs.NumberLaws.{chunks_of}
use Rattle.sharding_index.proofs.numbers.numbers_of_array.Goals as goal

pub returns-clause-numbers : goal.returns-clause-numbers
returns-clause-numbers c =
    c.in_ok-numbers.ensures ∙ ap (map number_of_element) (chunks_of 8 c.args.index.now.elements c.bytes.result.now (omega arith) c.requires c.bytes.ensures)
