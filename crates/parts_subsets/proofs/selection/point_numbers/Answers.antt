use Rattle.std.proofs.Common.{◌≡◌, ◌<◌, ℕ, List, [], map, ap, sym, ◌∙◌, arith, All}
use Rattle.std.proofs.lemmas.Result.{IfOk-weaker}
use Rattle.std.proofs.lemmas.List.{take_all}
use Rattle.std.proofs.lemmas.List.Elements.{All-same}
use Rattle.parts_row_major.specs.Numbering.{count_of, number_of}
use Rattle.parts_row_major.specs.Subsets.{points_of, numbers_in}
use Rattle.parts_subsets.specs.Selections.{Selection}
use Rattle.parts_subsets.proofs.SelectionLemmas.{numbers_of-points_of, selection_inside, point_inside_at, numbers_below, mapped_more}
use Rattle.parts_subsets.proofs.selection.point_numbers.Goals as goal

pub returns-in-Some : goal.returns-in-Some
returns-in-Some g c =
    let selection = g.N.Indexer.selection c.args.indexer.now in
    let subset = c.in-Some.subset.now in
    let shape = c.args.shape.now in
    let number = λ (point : List ℕ). number_of point shape in
    let inside = selection_inside shape selection (g.met.N.Indexer.matches_subset c.args.indexer.now) c.requires.selection in
    let points : map number selection.points ≡ map number (points_of subset) = ap (λ (s : Selection). map number s.points) c.in-Some.ensures.some in
    let all = IfOk-weaker c.subset_numbers.result (λ numbers. numbers.items ≡ numbers_in subset shape) (λ numbers. numbers.items ≡ map number selection.points)
    (λ numbers e. e ∙ (numbers_of-points_of subset shape ∙ sym points)) (rw c.as_slice-shape.ensures.value at c.subset_numbers.ensures) in
    record {
      numbers = all;
      below = IfOk-weaker c.subset_numbers.result (λ numbers. numbers.items ≡ map number selection.points) (λ numbers. All (λ n. n < count_of shape) numbers.items)
          (λ numbers e. All-same (λ n. n < count_of shape) numbers.items (map number selection.points) e (numbers_below shape selection.points inside)) all;
    }

pub requested_number-requires-clause-inside : goal.requested_number-requires-clause-inside
requested_number-requires-clause-inside g c =
    let selection = g.N.Indexer.selection c.args.indexer.now in
    let inside = selection_inside c.args.shape.now selection (g.met.N.Indexer.matches_subset c.args.indexer.now) c.requires.selection in
    rw c.as_slice-shape.ensures.value (point_inside_at c.args.shape.now selection.points c.loop-i.i inside (omega arith))

pub loop-i-preserved : goal.loop-i-preserved
loop-i-preserved g c =
    let points = (g.N.Indexer.selection c.args.indexer.now).points in
    mapped_more (λ point. number_of point c.as_slice-shape.result.now) points c.loop-i.i [] c.loop-i.numbers.items c.push.new.self.items c.requested_number.result (omega arith) c.loop-i.invariant c.requested_number.ensures.value c.in_ok-push.ensures.items

pub returns : goal.returns
returns g c =
    let selection = g.N.Indexer.selection c.args.indexer.now in
    let shape = c.args.shape.now in
    let whole = take_all c.loop-i.i selection.points (omega arith) in
    let inside = selection_inside shape selection (g.met.N.Indexer.matches_subset c.args.indexer.now) c.requires.selection in
    let all : c.loop-i.numbers.items ≡ map (λ point. number_of point shape) selection.points =
    rw c.as_slice-shape.ensures.value at c.loop-i.invariant ∙ ap (map (λ point. number_of point shape)) whole in
    record {
      numbers = all;
      below = All-same (λ number. number < count_of shape) c.loop-i.numbers.items (map (λ point. number_of point shape) selection.points) all (numbers_below shape selection.points inside);
    }
