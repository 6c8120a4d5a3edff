use Rattle.parts_arrays.proofs.ArrayLaws.{gathered_array}
use Rattle.parts_arrays.proofs.array_bytes.extract.extract_fixed.Goals as goal

pub invariant_of-result : goal.invariant_of-result
invariant_of-result c =
    (gathered_array c.args.size c.args.bytes.now c.in_ok-part.part.items c.args.subset.now c.args.shape.now c.requires.whole c.requires.all c.requires.served.0 c.in_ok-part.ensures).whole

pub returns : goal.returns
returns c =
    (gathered_array c.args.size c.args.bytes.now c.in_ok-part.part.items c.args.subset.now c.args.shape.now c.requires.whole c.requires.all c.requires.served.0 c.in_ok-part.ensures).same
