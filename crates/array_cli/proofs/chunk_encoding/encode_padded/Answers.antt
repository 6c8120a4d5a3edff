use Rattle.std.proofs.Common.{◌≡◌, subst, sym, inr}
use Rattle.parts_arrays.specs.Arrays.{Array}
use Rattle.array_cli.specs.Padded.{ArePadded}
use Rattle.array_cli.proofs.chunk_encoding.encode_padded.Goals as goal

pub returns-clause-stored : goal.returns-clause-stored
returns-clause-stored g c =
    let a = c.args in
    let metadata = a.metadata.now in
    let fill = metadata.fill_value in
    let padded = c.array-padded.result in
    inr (record {
      padded = padded;
      are_padded = subst (λ (p : Array). ArePadded fill a.shape.now metadata.shard a.elements.now p) (sym c.array-padded.ensures) (rw c.as_slice-whole.ensures.value at c.in_ok-cells.ensures.padded);
      stored = c.in_ok-chunk-2.ensures.stored;
    })
