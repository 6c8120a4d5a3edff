use Rattle.std.proofs.Common.{◌∙◌, length, arith, sym}
use Rattle.std.proofs.lemmas.List.Sums.{position_or_len_is}
use Rattle.array_grid.specs.declared.words.Position.TheVariants.{FromStart}
use Rattle.array_grid.specs.declared.words.Word.TheVariants as word
use Rattle.array_grid.specs.Subsets.{is_ellipsis}
use Rattle.array_grid.proofs.picking.ellipsis_place.Goals as goal

pub returns-then-is_ellipsis-clause-place : goal.returns-then-is_ellipsis-clause-place
returns-then-is_ellipsis-clause-place c =
    sym (position_or_len_is is_ellipsis c.args.words.now c.loop-at.at (word.Coordinate (FromStart 0)) (omega arith) c.loop-at.invariant (λ lt. sym c.is_ellipsis.ensures ∙ c.if-is_ellipsis.true))

pub returns-clause-place : goal.returns-clause-place
returns-clause-place c =
    sym (position_or_len_is is_ellipsis c.args.words.now (length c.args.words.now) (word.Coordinate (FromStart 0)) (omega arith) (λ k lt. c.loop-at.invariant k (omega arith)) (λ lt. absurd (omega (arith, lt))))
