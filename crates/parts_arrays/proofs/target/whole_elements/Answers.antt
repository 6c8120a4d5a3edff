use Rattle.std.proofs.Common.{refl}
use Rattle.parts_arrays.proofs.ArrayLaws.{cut_elements}
use Rattle.parts_arrays.proofs.target.whole_elements.Goals as goal

pub returns-clause-whole : goal.returns-clause-whole
returns-clause-whole c = (cut_elements c.args.array.now c.args.size _ c.bytes.result.now c.requires c.kind-kind.ensures.fitting c.bytes.ensures refl).0

pub returns-clause-elements : goal.returns-clause-elements
returns-clause-elements c = (cut_elements c.args.array.now c.args.size _ c.bytes.result.now c.requires c.kind-kind.ensures.fitting c.bytes.ensures refl).1
