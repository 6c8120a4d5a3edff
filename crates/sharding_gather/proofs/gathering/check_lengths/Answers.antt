use Rattle.std.proofs.Common.{◌≡◌, refl, arith, rules}
use Rattle.std.proofs.lemmas.List.Sums.{sum_by_more, sum_by_more_le}
use Rattle.parts_arrays.specs.declared.data_type.DataTypeSize.TheVariants.{Variable}
use Rattle.sharding_format.specs.steps.Decoding.{bytes_in}
use Rattle.sharding_gather.proofs.gathering.check_lengths.Goals as goal

pub returns-in_default-clause-refused : goal.returns-in_default-clause-refused
returns-in_default-clause-refused c =
    let a = c.args in
    let i = c.loop-subchunk.subchunk-index in
    let subchunk = c.subchunk-item.result in
    let within = rw (← c.subchunk-item.is) at (sum_by_more_le (bytes_in a.fill.now a.positions) a.subchunks.now i subchunk (omega arith)) in
    let variable : a.kind ≡ Variable = search rules in
    (refl, variable, omega (arith, within, c.in_default.ensures))

pub returns-in_default-checked_add-clause-refused : goal.returns-in_default-checked_add-clause-refused
returns-in_default-checked_add-clause-refused c =
    let a = c.args in
    let i = c.loop-subchunk.subchunk-index in
    let subchunk = c.subchunk-item.result in
    let within = rw (← c.subchunk-item.is) at (sum_by_more_le (bytes_in a.fill.now a.positions) a.subchunks.now i subchunk (omega arith)) in
    let variable : a.kind ≡ Variable = search rules in
    (refl, variable, omega (arith, within, c.in-Some.ensures, c.in_default-checked_add.ensures))

pub loop-subchunk-preserved : goal.loop-subchunk-preserved
loop-subchunk-preserved c =
    let a = c.args in
    let i = c.loop-subchunk.subchunk-index in
    let subchunk = c.subchunk-item.result in
    let more = rw (← c.subchunk-item.is) at (sum_by_more (bytes_in a.fill.now a.positions) a.subchunks.now i subchunk (omega arith)) in
    record {
      total = omega (arith, more, c.in-Some.ensures, c.in-Some-checked_add.ensures);
      fits = omega (arith, c.in-Some-checked_add.ensures);
    }
