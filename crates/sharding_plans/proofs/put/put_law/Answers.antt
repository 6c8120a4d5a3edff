use Rattle.std.proofs.Common.{refl}
use Rattle.sharding_plans.proofs.PutLemmas.{put_more, put_read}
use Rattle.sharding_plans.proofs.put.put_law.Goals as goal

pub returns : goal.returns
returns c =
    let shape = c.args._shape.now in
    let sub = c.args._subchunk_shape.now in
    let subset = c.args._subset.now in
    record {
      none = λ place element first. record { inside = λ q lq among. absurd among; outside = λ i none. refl };
      more = λ place element puts first old new k in_subchunk in_subset apart below m wrote known.
          put_more shape sub subset c.requires.divides c.requires.inside place element puts first old new k in_subchunk in_subset apart below m wrote known;
      all = λ place element puts first new all known. record {
        inside = λ q lq. known.inside q lq (all _ (q, lq, refl));
        outside = λ i none. known.outside i none;
      };
      read = λ inner_cells fill object numbers place element puts first new all decoded known.
          put_read shape sub subset c.requires.divides c.requires.inside place element inner_cells fill object numbers puts first new all decoded known;
    }
