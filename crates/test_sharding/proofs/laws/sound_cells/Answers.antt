use Rattle.std.proofs.Common.{refl}
use Rattle.codec_traits.specs.CellLaws.{all_there-map_some}
use Rattle.test_sharding.proofs.laws.sound_cells.Goals as goal

pub decode_sound-requires-clause-sound : goal.decode_sound-requires-clause-sound
decode_sound-requires-clause-sound c = rw (c.in_ok-first.ensures.cells, all_there-map_some c.in_ok-first.first.elements) refl
