use Rattle.std.proofs.Common.{◌≡◌, ◌+◌, ◌∙◌, ◌<◌, ◌^◌, [], ◌∷◌, ap, sym}
use Rattle.std.proofs.lemmas.List.Elements.{length_all_zip}
use Rattle.parts_row_major.specs.Numbering.{count_of}
use Rattle.parts_row_major.specs.Subsets.{numbers_in}
use Rattle.parts_row_major.proofs.NumberingLaws.{number_below}
use Rattle.codec_traits.specs.RefusalLaws.{passed_on}
use Rattle.sharding_subchunks.proofs.OneCell.{number_of_one, all_of_one}
use Rattle.sharding_subchunks.proofs.stored_shard.StoredShard.plain_cell.Goals as goal

pub read_plain-requires-clause-numbers : goal.read_plain-requires-clause-numbers
read_plain-requires-clause-numbers g c =
    let shape = c.args.self.now.shape.now in
    let start = c.args.subset.now.start in
    let there = rw (c.start.ensures.value, c.as_slice.ensures.value) at c.in-Some.ensures in
    all_of_one (λ n. n < count_of shape) c.in-Some.number (rw there.1 (number_below start shape there.0.0))

pub returns-in_err-read-clause-refused : goal.returns-in_err-read-clause-refused
returns-in_err-read-clause-refused g c =
    let a = c.args in
    let shape = a.self.now.shape.now in
    let same = length_all_zip (λ first len. first + len < 2 ^ 64) a.subset.now.start a.subset.now.shape c.start.ensures.well_formed in
    let there = rw (c.start.ensures.value, c.as_slice.ensures.value) at c.in-Some.ensures in
    let is : numbers_in a.subset.now shape ≡ c.in-Some.number ∷ [] = number_of_one a.subset.now shape same c.requires.one ∙ ap (λ n. n ∷ []) (sym there.1) in
    passed_on c.from_residual.result c.in_err-read.field-0.0 _ c.from_residual.ensures.1 (rw is c.in_err-read.ensures.refused)

pub returns-clause-cells : goal.returns-clause-cells
returns-clause-cells g c =
    let a = c.args in
    let shape = a.self.now.shape.now in
    let same = length_all_zip (λ first len. first + len < 2 ^ 64) a.subset.now.start a.subset.now.shape c.start.ensures.well_formed in
    let there = rw (c.start.ensures.value, c.as_slice.ensures.value) at c.in-Some.ensures in
    let is : numbers_in a.subset.now shape ≡ c.in-Some.number ∷ [] = number_of_one a.subset.now shape same c.requires.one ∙ ap (λ n. n ∷ []) (sym there.1) in
    rw is c.in_ok-read.ensures.cells
