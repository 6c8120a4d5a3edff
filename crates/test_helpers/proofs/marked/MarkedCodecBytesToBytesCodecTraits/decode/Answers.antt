use Rattle.std.proofs.Common.{refl}
use Rattle.codec_chains.proofs.TrailerSteps.{refused_short, refused_other, decoded}
use Rattle.test_helpers.specs.Marked.{mark}
use Rattle.test_helpers.proofs.marked.MarkedCodecBytesToBytesCodecTraits.decode.Goals as goal

pub returns-then-bytes-lt1-clause-refused : goal.returns-then-bytes-lt1-clause-refused
returns-then-bytes-lt1-clause-refused c = refused_short 1 mark (λ _. refl) c.args.bytes.now c.if-bytes-lt1.true

pub returns-then-ne-clause-refused : goal.returns-then-ne-clause-refused
returns-then-ne-clause-refused c = refused_other 1 mark (λ _. refl) c.args.bytes.now _ c.as_slice.ensures c.if-ne.ensures

pub returns-clause-decoded : goal.returns-clause-decoded
returns-clause-decoded c = decoded 1 mark (λ _. refl) c.args.bytes.now _ c.as_slice.ensures c.if-ne.ensures
