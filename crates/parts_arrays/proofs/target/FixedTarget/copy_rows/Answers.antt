use Rattle.std.proofs.Common.{◌≡◌, ◌+◌, ◌*◌, ◌<◌, ◌≤◌, refl, length, arith}
use Rattle.std.proofs.lemmas.Nat.{row_fits}
use Rattle.parts_row_major.specs.Numbering.{count_of}
use Rattle.parts_strided_copy.specs.Paired.{into_at}
use Rattle.parts_strided_copy.proofs.PairedLemmas.{rows_updated}
use Rattle.parts_arrays.proofs.target.FixedTarget.copy_rows.Goals as goal

pub copy-requires-clause-inside : goal.copy-requires-clause-inside
copy-requires-clause-inside c = λ k lt.
    let target = c.args.self.now in
    let size = target.element_size in
    omega (arith, row_fits (into_at c.args.rows.now k) size (count_of target.shape.now) size (c.requires.rows.inside k lt) (omega arith), target.is_target.whole)

pub returns : goal.returns
returns c = λ position are. record {
  reference = refl;
  element_size = refl;
  shape = refl;
  subset = refl;
  length = c.copy.auto.output;
  elements = rows_updated c.args.rows.now position c.args.self.now.shape.now are c.copy.ensures;
}
