use Rattle.std.proofs.Common.{◌+◌, ◌^◌, ◌<◌, arith}
use Rattle.sharding_format.specs.Index.{index_spec}
use Rattle.codec_traits.specs.RefusalLaws.{passed_on}
use Rattle.sharding_open.proofs.OpenLemmas.{open_refused}
use Rattle.sharding_open.proofs.cached.read_cached_index.Goals as goal

pub returns-in_err-index-clause-refused : goal.returns-in_err-index-clause-refused
returns-in_err-index-clause-refused g c =
    let a = c.args in
    let h = g.H.BytesPartialDecoderTraits in
    let s = a.index_codec.now in
    let index = g.X.ArrayToBytesCodecTraits.meaning s.codec.now (index_spec a.plan.now.grid) in
    let len = c.in-Some.len in
    let before = c.len.ensures.read in
    let room : len + 1 < 2 ^ 64 = omega (arith, c.if-len.false) in
    let e = c.in_err-index.field-0.0 in
    passed_on _ e _ c.from_residual-in_err-index.ensures.1
    (open_refused (h.state a.handle.now) (h.state c.len.new.self) (h.state c.read.new.handle) len index s.location a.plan.now.size e
    before room (rw c.in-Some.is at c.in_ok-len.ensures.told) c.requires.size (rw before.contents_same at c.in_err-index.ensures.refused))
