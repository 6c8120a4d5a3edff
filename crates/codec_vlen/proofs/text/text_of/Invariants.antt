use Rattle.std.proofs.Common.{◌≡◌, ◌++◌, length, take}
use Rattle.std.specs.List.{flat_map}
use Rattle.codec_vlen.specs.Text.{number_bytes, element_text}
use Rattle.codec_vlen.proofs.text.text_of.Given as goal

abbrev pub invariant-loop-i : goal.invariant-loop-i
invariant-loop-i l = l.text.items ≡ number_bytes (length l.array.elements) ++ flat_map element_text (take l.i l.array.elements)
