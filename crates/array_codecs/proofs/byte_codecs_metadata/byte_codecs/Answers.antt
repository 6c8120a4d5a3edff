use Rattle.std.proofs.Common.{subst}
use Rattle.array_codecs.specs.ByteCodecsMetadata.{IsOptionalCodec}
use Rattle.array_codecs.proofs.ByteNames.{listed_read, found_at}
use Rattle.array_codecs.proofs.byte_codecs_metadata.byte_codecs.Goals as goal

pub returns : goal.returns
returns c =
    let codecs = c.args.codecs.now in
    let second = c.in_ok-second.second in
    let third = c.in_ok-third.third in
    let at_one = c.get.ensures.lookup in
    let at_two = c.get-2.ensures.lookup in
    record {
      read = listed_read codecs c.index-codecs-0.result c.in_ok-first.first second third c.requires.served c.index-codecs-0.is c.in_ok-first.ensures.read
          (subst (λ codec. IsOptionalCodec codec second) (found_at (λ codec. codec.now) c.get.result codecs 1 at_one.1 at_one.3) c.in_ok-second.ensures.read)
          (subst (λ codec. IsOptionalCodec codec third) (found_at (λ codec. codec.now) c.get-2.result codecs 2 at_two.1 at_two.3) c.in_ok-third.ensures.read);
    }
