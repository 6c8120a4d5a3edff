use Rattle.std.proofs.Common.{rules}
use Rattle.std.proofs.lemmas.List.Sorted.{answers_always, IsNonDecreasingBy-from_sort}
use Rattle.sharding_gather.proofs.SortingLemmas.{sorted_from_stable}
use Rattle.sharding_gather.proofs.sorted.sorted_cells.Goals as goal

pub returns : goal.returns
returns c =
    let a = c.args in
    record {
      sorted = sorted_from_stable a.shape.now a.sub.now a.numbers.now c.in_ok-requested.requested.items c.sort_by_key.new.self.items c.in_ok-requested.ensures.cells c.in_ok-sort_by_key.ensures.permutation
          (IsNonDecreasingBy-from_sort (λ cell. cell.subchunk) _ (c.in_ok-sort_by_key.ensures.sorted (λ cell. cell.subchunk) (answers_always _ _ _ (λ f a r g h. search rules))))
          (c.in_ok-sort_by_key.ensures.stable (λ cell. cell.subchunk) (answers_always _ _ _ (λ f a r g h. search rules)));
    }
