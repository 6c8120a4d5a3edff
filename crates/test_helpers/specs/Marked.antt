-- A codec that puts one byte behind bytes.
use Rattle.std.specs.Prelude.{[], ◌∷◌}
use Rattle.parts_errors.specs.Words.{Bytes}
use Rattle.codec_chains.specs.Codings.{Coding}
use Rattle.codec_chains.specs.Trailers.{trailer_coding}

-- the byte that is put after bytes, whatever they are
abbrev pub mark : Bytes → Bytes
mark bytes = 42 ∷ []

-- what the codec means
abbrev pub marked_coding : Coding
marked_coding = trailer_coding 1 mark
