use Rattle.std.proofs.lemmas.Bool.Decides.{Decides-at}
use Rattle.parts_arrays.specs.Arrays.{same_array}
use Rattle.session_runs.proofs.EqualityLemmas.{same_array-Decides}
use Rattle.session_runs.proofs.event.same_elements.Goals as goal

pub returns : goal.returns
returns c = Decides-at c.eq.result (same_array c.args.a.now c.args.b.now) c.eq.ensures (same_array-Decides c.args.a.now c.args.b.now)
