use Rattle.std.proofs.Common.{◌≡◌, ◌*◌, ◌/◌, ◌++◌, ◌∙◌, ap, refl, arith, length, map}
use Rattle.parts_row_major.specs.Pieces.{pieces}
use Rattle.codec_traits.proofs.ReadLemmas.{interval_read}
use Rattle.sharding_format.specs.Index.{number_of_element}
use Rattle.sharding_index.proofs.PieceReads.{numbers_behind}
use Rattle.sharding_index.proofs.pieces.read_piece.Goals as goal

pub returns-clause-numbers : goal.returns-clause-numbers
returns-clause-numbers g c = λ t.
    let a = c.args in
    let many = a.interval.size / 8 in
    let old = a.numbers.now.items in
    let found = c.in-Some.bytes.now in
    let read = rw c.in-Some.is at c.in_ok-bytes.ensures.told in
    let long : length found ≡ a.interval.size = read.requested in
    let whole : length found ≡ many * 8 = omega (arith, long, c.requires.whole) in
    (numbers_behind many found old c.append_numbers.new.numbers.items whole c.in_ok-append_numbers.ensures).are
    ∙ ap (λ bytes. old ++ map number_of_element (pieces 8 many bytes))
    (interval_read a.interval a.interval.size (g.H.BytesPartialDecoderTraits.state a.handle.now).contents found refl (read.told t))

pub returns-clause-counted : goal.returns-clause-counted
returns-clause-counted g c =
    let many = c.args.interval.size / 8 in
    let found = c.in-Some.bytes.now in
    let read = rw c.in-Some.is at c.in_ok-bytes.ensures.told in
    let long : length found ≡ c.args.interval.size = read.requested in
    let whole : length found ≡ many * 8 = omega (arith, long, c.requires.whole) in
    (numbers_behind many found c.args.numbers.now.items c.append_numbers.new.numbers.items whole c.in_ok-append_numbers.ensures).counted
