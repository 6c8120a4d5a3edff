use Rattle.std.proofs.Common.{◌+◌, ◌/◌, length, arith}
use Rattle.std.proofs.lemmas.Nat.{mul-le}
use Rattle.parts_arrays.proofs.ArrayLaws.{whole_bytes}
use Rattle.parts_arrays.proofs.TakenLaws.{range_taken}
use Rattle.parts_arrays.proofs.array_bytes.range_of.Goals as goal

pub run_at-requires : goal.run_at-requires
run_at-requires c =
    let bytes = c.args.bytes.now in
    let size = c.args.size in
    omega (arith, whole_bytes size bytes c.requires.whole, mul-le (c.args.first + c.args.count) size (length bytes / size) size c.requires.within (omega arith))

pub invariant_of-result : goal.invariant_of-result
invariant_of-result c = (range_taken c.args.size c.args.bytes.now c.run_at.result.now c.args.first c.args.count c.requires.whole c.requires.within c.run_at.ensures).whole

pub returns : goal.returns
returns c = (range_taken c.args.size c.args.bytes.now c.run_at.result.now c.args.first c.args.count c.requires.whole c.requires.within c.run_at.ensures).same
