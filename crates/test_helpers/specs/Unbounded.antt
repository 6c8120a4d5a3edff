-- A codec that leaves bytes as they are, and tells nothing of how long they are.
use Rattle.std.proofs.Common.{◌≡◌, Some, refl, ap}
use Rattle.codec_traits.specs.declared.representation.BytesRepresentation.TheVariants.{UnboundedSize}
use Rattle.codec_chains.specs.Codings.{Coding, IsInvertible, IsBounded}

-- what the codec means
abbrev pub unbounded_coding : Coding
unbounded_coding = record { written = λ b encoded. encoded ≡ b; decoding = λ b. Some b; representation = λ _. UnboundedSize }

-- the bytes come back
pub unbounded_invertible : IsInvertible unbounded_coding
unbounded_invertible b encoded is = ap Some is

-- nothing is told of how long they are
pub unbounded_bounded : IsBounded unbounded_coding
unbounded_bounded = record { unbounded = refl; within = λ told b encoded h is. tt }
