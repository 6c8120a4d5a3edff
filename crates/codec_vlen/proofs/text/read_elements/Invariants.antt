use Rattle.std.proofs.Common.{◌≡◌, ◌≤◌, ◌+◌, ◌-◌, ◌++◌, length, option_map}
use Rattle.std.specs.Vec.{vec_len, vec_capacity}
use Rattle.parts_arrays.specs.Arrays.{AreOffsets, parts}
use Rattle.codec_vlen.specs.Text.{elements_in}
use Rattle.codec_vlen.proofs.text.read_elements.Given as goal

abbrev pub invariant-loop-i : goal.invariant-loop-i
invariant-loop-i l = record {
  offsets : AreOffsets l.offsets.items (length l.bytes.items);
  room : vec_len l.offsets + (l.count - l.i) ≤ vec_capacity l.offsets;
  read : elements_in l.count l.text ≡ option_map (λ es. parts l.offsets.items l.bytes.items ++ es) (elements_in (l.count - l.i) l.rest);
}
