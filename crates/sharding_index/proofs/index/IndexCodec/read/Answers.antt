use Rattle.std.proofs.Common.{◌≤◌, IsTrue, arith, length}
use Rattle.storage_handles.specs.Objects.{interval_part}
use Rattle.codec_traits.proofs.ReadLemmas.{length-interval_part}
use Rattle.codec_traits.specs.RefusalLaws.{passed_on}
use Rattle.sharding_format.proofs.ReadIndexLemmas.{numbers_of_part}
use Rattle.sharding_index.specs.Indexes.{index_meaning}
use Rattle.sharding_index.proofs.IndexReads.{index_interval, interval_part-index, index_refused}
use Rattle.sharding_index.proofs.index.IndexCodec.read.Goals as goal

pub returns-in_err-numbers-clause-refused : goal.returns-in_err-numbers-clause-refused
returns-in_err-numbers-clause-refused g c =
    let a = c.args in
    let h = g.H.BytesPartialDecoderTraits in
    let location = a.self.now.location in
    let size = a.plan.now.size in
    let index = index_meaning g.X.ArrayToBytesCodecTraits.meaning a.self.now.codec.now a.plan.now.grid in
    let e = c.in_err-numbers.field-0.0 in
    let contents = (h.state a.handle.now).contents in
    let bytes = interval_part a.outer contents in
    let fits : size ≤ a.outer.size = omega (arith, c.if-outer-plan.false) in
    let room : IsTrue (h.state a.handle.now).transparent → size ≤ length bytes = λ t. omega (arith, fits, length-interval_part a.outer contents (c.requires.inside t)) in
    passed_on _ e _ c.from_residual.ensures.1
    (index_refused (h.state a.handle.now) (h.state c.read_interval.new.handle) index.decode_refusals index.cells location size bytes
    (interval_part (index_interval location size a.outer) contents) e room
    (λ t. interval_part-index location size a.outer contents fits (c.requires.inside t)) (rw c.start_of_index.ensures at c.in_err-numbers.ensures.refused))

pub returns-clause-numbers : goal.returns-clause-numbers
returns-clause-numbers g c = λ t.
    let a = c.args in
    let location = a.self.now.location in
    let size = a.plan.now.size in
    let index = index_meaning g.X.ArrayToBytesCodecTraits.meaning a.self.now.codec.now a.plan.now.grid in
    let contents = (g.H.BytesPartialDecoderTraits.state a.handle.now).contents in
    let fits : size ≤ a.outer.size = omega (arith, c.if-outer-plan.false) in
    let numbers = rw c.start_of_index.ensures at c.in_ok-numbers.ensures.numbers in
    numbers_of_part index.cells location size (interval_part a.outer contents) (interval_part (index_interval location size a.outer) contents) c.in_ok-numbers.numbers.items
    (omega (arith, fits, length-interval_part a.outer contents (c.requires.inside t))) (interval_part-index location size a.outer contents fits (c.requires.inside t)) (numbers t)
