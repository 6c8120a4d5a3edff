use Rattle.parts_arrays.specs.ArraySpec.{array_spec}
use Rattle.sharding_format.specs.Laws.{IsArrayOf-subchunk}
use Rattle.sharding_subchunks.proofs.subchunks.Subchunks.cut_out.Goals as goal

pub returns-clause-array : goal.returns-clause-array
returns-clause-array g c =
    let cut = c.args.cut.now in
    let s = c.args.self.now in
    let spec = array_spec cut.shape.now s.data_type.now s.fill_value.now in
    rw c.in_ok-part.ensures.elements
    (IsArrayOf-subchunk s.shape.now spec cut.array.now.elements c.args.number c.requires.cut.divides c.requires.cut.array (rw c.requires.cut.grid at c.requires.below))
