use Rattle.std.proofs.Common.{◌≡◌, ◌*◌, ◌/◌, ◌∙◌, arith}
use Rattle.parts_row_major.specs.Numbering.{count_of}
use Rattle.storage_handles.specs.Objects.{interval_part}
use Rattle.codec_traits.proofs.ReadLemmas.{length-interval_part}
use Rattle.codec_traits.specs.Encodings.{IsPlain}
use Rattle.sharding_format.specs.Index.{index_spec}
use Rattle.sharding_index.specs.Indexes.{index_meaning}
use Rattle.sharding_index.proofs.IndexReads.{plain_counted, plain_numbers}
use Rattle.sharding_index.proofs.index.IndexCodec.read_interval.Goals as goal

pub returns-then-is_plain-clause-counted : goal.returns-then-is_plain-clause-counted
returns-then-is_plain-clause-counted g c =
    let a = c.args in
    let plan = a.plan.now in
    let index = index_meaning g.X.ArrayToBytesCodecTraits.meaning a.self.now.codec.now plan.grid in
    let plain : IsPlain (index_spec plan.grid) index plan.size = c.is_plain.ensures c.if-is_plain.true in
    omega (arith, c.in_ok-numbers.ensures.counted, c.requires.size, plain_counted plan.grid index plan.size plain)

pub returns-then-is_plain-clause-numbers : goal.returns-then-is_plain-clause-numbers
returns-then-is_plain-clause-numbers g c = λ t.
    let a = c.args in
    let plan = a.plan.now in
    let index = index_meaning g.X.ArrayToBytesCodecTraits.meaning a.self.now.codec.now plan.grid in
    let contents = (g.H.BytesPartialDecoderTraits.state a.handle.now).contents in
    let plain : IsPlain (index_spec plan.grid) index plan.size = c.is_plain.ensures c.if-is_plain.true in
    let many : a.interval.size / 8 ≡ 2 * count_of plan.grid = omega (arith, c.requires.size, plain_counted plan.grid index plan.size plain) in
    plain_numbers plan.grid index plan.size (a.interval.size / 8) (interval_part a.interval contents) c.in_ok-numbers.numbers.items plain
    (length-interval_part a.interval contents (c.requires.inside t) ∙ c.requires.size) many (c.in_ok-numbers.ensures.numbers t)
