use Rattle.parts_subsets.proofs.GridLaws.{count-positive, subset_of_subchunk-lies_in}
use Rattle.sharding_gather.proofs.subchunk_rows.SubchunkRows.new.Goals as goal

pub new-requires : goal.new-requires
new-requires c =
    let a = c.args in
    let some = rw c.requires.grid at (count-positive a.grid.now c.as_slice-2.ensures.positive) in
    rw (c.as_slice-axes.ensures.value, c.requires.first) (subset_of_subchunk-lies_in a.shape.now a.sub.now 0 c.requires.divides some, c.requires.fits)

pub invariant_of-result : goal.invariant_of-result
invariant_of-result c =
    rw (c.as_slice-axes.ensures.value, c.as_slice.ensures.value, c.as_slice-2.ensures.value) (record {
      divides = c.requires.divides;
      fits = c.requires.fits;
      positive = c.as_slice-axes.ensures.positive;
      some = count-positive c.args.sub.now c.as_slice.ensures.positive;
      grid_is = c.requires.grid;
      counted = c.requires.many;
      first_is = rw (c.as_slice-axes.ensures.value, c.requires.first) at c.new.ensures;
    })
