use Rattle.std.proofs.Common.{◌≡◌, ◌+◌, ◌/◌, ◌<◌, ℕ, length, subst, sym, arith}
use Rattle.parts_row_major.specs.Numbering.{count_of}
use Rattle.sharding_format.specs.Index.{absent_number, slot_at, index_spec, data_start}
use Rattle.sharding_format.specs.Laying.{AreNumbersOf}
use Rattle.sharding_format.specs.Compacting.{present_size}
use Rattle.sharding_format.proofs.EncodingLemmas.{start_small}
use Rattle.sharding_layout.specs.Repacking.{packed_slots}
use Rattle.sharding_layout.proofs.OffsetLemmas.{packed_below, index_of_packed}
use Rattle.sharding_layout.proofs.plan.packed_index.Given.{Over}
use Rattle.sharding_layout.proofs.plan.packed_index.Goals as goal
use Rattle.sharding_layout.proofs.plan.packed_index.Goals.{After-deref}

module _ (g : Over) (c : After-deref g) where
  abbrev count : ℕ
  count = count_of c.args.plan.now.grid

  many : length c.args.old.now.numbers.items / 2 ≡ count
  many = omega (arith, c.requires.counted)

  are : AreNumbersOf (data_start c.args.index_codec.now.location c.args.plan.now.size)
      (packed_slots (slot_at c.args.old.now.len c.args.old.now.numbers.items) count) c.deref.result.now count
  are =
      let slot = slot_at c.args.old.now.len c.args.old.now.numbers.items in
      let start = data_start c.args.index_codec.now.location c.args.plan.now.size in
      subst (λ ns. AreNumbersOf start (packed_slots slot count) ns count) (sym c.deref.ensures.value)
      (rw (many, c.start_of_data-start.ensures) at c.in_ok-numbers.ensures)

  small : data_start c.args.index_codec.now.location c.args.plan.now.size + present_size (slot_at c.args.old.now.len c.args.old.now.numbers.items) count < absent_number
  small = omega (arith, start_small c.args.index_codec.now.location c.args.plan.now.size, c.requires.small)

pub encode_numbers-requires-clause-below : goal.encode_numbers-requires-clause-below
encode_numbers-requires-clause-below g c =
    packed_below (data_start c.args.index_codec.now.location c.args.plan.now.size) (count g c) (slot_at c.args.old.now.len c.args.old.now.numbers.items) c.deref.result.now
    (are g c) (small g c)

pub returns-clause-index : goal.returns-clause-index
returns-clause-index g c =
    let a = c.args in
    let d = (goal.at.returns-clause-index g c).After-deref in
    let written = (g.X.ArrayToBytesCodecTraits.meaning a.index_codec.now.codec.now (index_spec a.plan.now.grid)).written in
    index_of_packed written (data_start a.index_codec.now.location a.plan.now.size) (count g d) (slot_at a.old.now.len a.old.now.numbers.items) c.deref.result.now
    c.in_ok-index.index.items (are g d) (small g d) c.in_ok-index.ensures.written
