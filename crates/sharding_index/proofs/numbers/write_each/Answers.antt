use Rattle.std.proofs.Common.{◌≡◌, ◌+◌, ◌*◌, ◌≤◌, ◌<◌, ◌∙◌, arith, length}
use Rattle.std.proofs.lemmas.Nat.{row_fits}
use Rattle.sharding_index.proofs.NumberLaws.{written_more, all_written}
use Rattle.sharding_index.proofs.numbers.write_each.Goals as goal

pub loop-k-preserved : goal.loop-k-preserved
loop-k-preserved c =
    let fits : c.loop-k.k * 8 + 8 ≤ length c.loop-k.bytes = omega (arith, c.requires, c.loop-k.auto.bytes, c.loop-k-test.true) in
    written_more c.args.numbers.now c.loop-k.bytes c.copy_from_slice.new.self c.loop-k.k _ fits (omega arith)
    (c.copy_from_slice.ensures.after ∙ c.to_le_bytes.ensures) c.loop-k.invariant

pub returns : goal.returns
returns c =
    let all : c.loop-k.k ≡ length c.args.numbers.now = omega arith in
    all_written c.args.numbers.now c.loop-k.bytes (omega (arith, c.requires, c.loop-k.auto.bytes)) (rw all at c.loop-k.invariant)
