use Rattle.std.proofs.Common.{inl, inr}
use Rattle.codec_traits.proofs.CodecLaws.{refused_so}
use Rattle.session_runs.specs.Objects.{shards_of}
use Rattle.session_runs.specs.Served.{served_spec}
use Rattle.session_runs.proofs.ReplaceLemmas.{whole_refusals}
use Rattle.session_runs.proofs.served.Served.compaction.Goals as goal

pub returns-clause-refused : goal.returns-clause-refused
returns-clause-refused g c =
    let served = c.args.self.now in
    let s = shards_of g.I.ArrayToBytesCodecTraits.meaning g.X.ArrayToBytesCodecTraits.meaning served.codec.now (served_spec served) in
    let old = g.H.BytesPartialDecoderTraits.state c.args.handle.now in
    let read = rw c.in-Some.is at c.in_ok-bytes.ensures.told in
    refused_so _ _ c.compact.result c.compact.ensures.refused (λ e h. elim h [
      | inl memory ↦ inl memory
      | inr refusals ↦ inr (λ told. inr (whole_refusals s old.contents c.in-Some.bytes.now e (read.told told) refusals))
    ])
