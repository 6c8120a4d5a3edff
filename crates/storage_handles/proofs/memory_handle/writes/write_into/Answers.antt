use Rattle.std.proofs.Common.{length, ap, arith}
use Rattle.storage_handles.specs.Writes.{written_all}
use Rattle.storage_handles.proofs.WriteLaws.{written_longer}
use Rattle.storage_handles.proofs.memory_handle.writes.write_into.Goals as goal

pub overflow_sub-length : goal.overflow_sub-length
overflow_sub-length c =
    omega (
      arith,
      c.in_ok-length.ensures.length,
      ap (λ bytes. length (written_all c.args.pieces.now bytes)) c.as_slice.ensures.value,
      c.as_slice.ensures.len,
      written_longer c.args.pieces.now c.args.bytes.now.items,
      c.len.ensures,
      c.args.bytes.now.ok.0,
    )
