use Rattle.parts_row_major.specs.Numbering.{count_of}
use Rattle.codec_traits.specs.Encodings.{IsPlain}
use Rattle.sharding_format.specs.Index.{index_spec, element_of_number}
use Rattle.codec_traits.specs.RefusalLaws.{passed_on}
use Rattle.sharding_format.proofs.EncodeRefusals.{array_of_index, index_refused, size_within}
use Rattle.std.proofs.Common.{map, length, ◌∙◌, sym, subst}
use Rattle.sharding_format.specs.Serves.{fixed_size}
use Rattle.sharding_index.specs.Indexes.{index_meaning}
use Rattle.sharding_index.proofs.index.IndexCodec.encode_numbers.Goals as goal

pub returns-then-is_plain-clause-written : goal.returns-then-is_plain-clause-written
returns-then-is_plain-clause-written g c =
    let a = c.args in
    let grid = a.plan.now.grid in
    let index = index_meaning g.X.ArrayToBytesCodecTraits.meaning a.self.now.codec.now grid in
    let plain : IsPlain (index_spec grid) index a.plan.now.size = c.is_plain.ensures c.if-is_plain.true in
    let elements = map element_of_number a.numbers.now in
    let written : index.written elements c.in_ok-bytes.bytes.items =
    subst (index.written elements) (sym c.in_ok-bytes.ensures) (plain.written elements (array_of_index grid a.numbers.now c.requires.counted)) in
    written

pub returns-then-is_plain-clause-size : goal.returns-then-is_plain-clause-size
returns-then-is_plain-clause-size g c =
    let a = c.args in
    let grid = a.plan.now.grid in
    let x = a.self.now.codec.now in
    let index = index_meaning g.X.ArrayToBytesCodecTraits.meaning x grid in
    let plain : IsPlain (index_spec grid) index a.plan.now.size = c.is_plain.ensures c.if-is_plain.true in
    let elements = map element_of_number a.numbers.now in
    let array = array_of_index grid a.numbers.now c.requires.counted in
    let written : index.written elements c.in_ok-bytes.bytes.items = subst (index.written elements) (sym c.in_ok-bytes.ensures) (plain.written elements array) in
    size_within index.representation (fixed_size index.representation) (length c.in_ok-bytes.bytes.items) c.requires.plan.serves.fixed
    ((g.met.X.ArrayToBytesCodecTraits.lawful x (index_spec grid)).bounded elements c.in_ok-bytes.bytes.items c.requires.plan.serves.served array written)
    ∙ sym c.requires.plan.size

pub returns-in_err-index-clause-refused : goal.returns-in_err-index-clause-refused
returns-in_err-index-clause-refused g c =
    let x = c.args.self.now.codec.now in
    let grid = c.args.plan.now.grid in
    let codec = g.X.ArrayToBytesCodecTraits in
    let e = c.in_err-index.field-0.0 in
    let numbers = c.args.numbers.now in
    let law = rw (c.requires.plan.shape, c.requires.plan.fill, c.array_of_numbers-array.ensures.elements) at c.in_err-index.ensures.lawful in
    passed_on _ e _ c.from_residual-in_err-index.ensures.1
    (index_refused (codec.meaning x (index_spec grid)) (count_of grid) numbers e c.requires.counted c.requires.below
    (law c.requires.plan.serves.served c.array_of_numbers-array.ensures.kind (array_of_index grid numbers c.requires.counted)))

pub returns-clause-size : goal.returns-clause-size
returns-clause-size g c =
    let x = c.args.self.now.codec.now in
    let grid = c.args.plan.now.grid in
    let codec = g.X.ArrayToBytesCodecTraits in
    let index = codec.meaning x (index_spec grid) in
    let numbers = c.args.numbers.now in
    let written = rw (c.requires.plan.shape, c.requires.plan.fill, c.array_of_numbers-array.ensures.elements) at c.in_ok-index.ensures.written in
    size_within index.representation (fixed_size index.representation) (length c.in_ok-index.index.items) c.requires.plan.serves.fixed
    ((g.met.X.ArrayToBytesCodecTraits.lawful x (index_spec grid)).bounded (map element_of_number numbers) c.in_ok-index.index.items c.requires.plan.serves.served (array_of_index grid numbers c.requires.counted) written)
    ∙ sym c.requires.plan.size
