use Rattle.std.proofs.Common.{◌≡◌, ◌∙◌, ℕ, ◌+◌, ◌<◌, ◌^◌, ◌*◌, ap, arith, length}
use Rattle.std.proofs.lemmas.List.Elements.{length_all_zip}
use Rattle.std.proofs.lemmas.Nat.{mul-le}
use Rattle.parts_row_major.specs.Numbering.{count_of}
use Rattle.parts_row_major.specs.Subsets.{number_in}
use Rattle.parts_row_major.specs.Pieces.{piece}
use Rattle.parts_row_major.proofs.CountLaws.{subset_count_le}
use Rattle.parts_row_major.proofs.PieceLaws.{joined_pieces}
use Rattle.parts_errors.proofs.ListLaws.{whole_after}
use Rattle.parts_strided_copy.proofs.RowParts.{element_inside}
use Rattle.parts_strided_copy.proofs.rows.gather.Goals as goal

pub overflow_mul-room : goal.overflow_mul-room
overflow_mul-room c =
    let subset = c.args.subset.now in
    let same = length_all_zip (λ first len. first + len < 2 ^ 64) subset.start subset.shape c.points_in.ensures.well_formed in
    let small = subset_count_le subset.start subset.shape c.args.shape.now same c.requires.served.0 in
    let fits = mul-le (count_of subset.shape) c.args.size (count_of c.args.shape.now) c.args.size small (omega arith) in
    omega (arith, fits, ap (λ n. n * c.args.size) c.points_in.ensures.value, c.requires.whole)

pub gather-requires-clause-inside : goal.gather-requires-clause-inside
gather-requires-clause-inside c =
    rw c.new-strided.ensures (λ k lt. element_inside c.args.subset.now c.args.shape.now k c.args.size c.requires.served.0 lt c.requires.whole)

pub returns : goal.returns
returns c =
    let items = c.in_ok-part.part.items in
    let output = c.gather.new.part in
    let taken = rw c.new-strided.ensures at c.gather.ensures in
    let at : ℕ → _ = piece c.args.size c.args.bytes.now in
    let long : length output ≡ length items = omega (arith, c.gather.auto.part, ap length c.deref_mut.ensures.value) in
    let whole : length output ≡ count_of c.args.subset.now.shape * c.args.size = omega (arith, long, c.in_ok-part.part.ok.0, c.in_ok-part.ensures.len, ap (λ n. n * c.args.size) c.points_in.ensures.value) in
    rw (whole_after c.in_ok-part.part.len output items long (omega (arith, c.in_ok-part.part.ok.0)))
    (joined_pieces c.args.size (count_of c.args.subset.now.shape) c.args.bytes.now output (number_in c.args.subset.now c.args.shape.now) whole (λ k lt. taken k lt ∙ ap at (omega arith)))
