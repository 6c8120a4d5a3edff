use Rattle.std.proofs.Common.{refl, ◌∙◌, ap}
use Rattle.parts_arrays.specs.ArraySpec.{array_spec}
use Rattle.session_runs.specs.Maps.{filled}
use Rattle.session_runs.specs.Objects.{shards_of}
use Rattle.session_runs.proofs.ReadBackLaws.{shows_fill, replied_back}
use Rattle.session_runs.proofs.laws.read_back.Goals as goal

-- the run starts from no object, which shows the fill value in each cell
pub returns-in-Cells : goal.returns-in-Cells
returns-in-Cells g c =
    let a = c.args in
    let s = shards_of g.I.ArrayToBytesCodecTraits.meaning g.X.ArrayToBytesCodecTraits.meaning a.codec.now (array_spec a.shape.now a.data_type.now a.fill_value.now) in
    let run = rw (c.new-handle.ensures, c.in_ok-again.ensures) at c.run_commands-replies.ensures.run in
    let ended = run refl (filled s.array_spec) (shows_fill s) tt tt in
    let least = rw c.as_slice.ensures.value at c.in-len4.len_at_least in
    let most = rw c.as_slice.ensures.value at c.in-len4.len_below in
    let read = rw c.as_slice.ensures.value at c.read-item.is in
    let written = rw c.as_slice.ensures.value at c.written-item.is in
    record {
      written = ap (λ array. array.elements) c.in_ok-try_clone-in-Cells.ensures
          ∙ replied_back s _ _ _ _ _ _ _ _ _ _ least most written c.in-Done.is read c.in-Cells.is ended.2;
    }
