use Rattle.std.proofs.Common.{◌∙◌, inl, inr, arith}
use Rattle.parts_arrays.specs.Types.{size_of}
use Rattle.storage_handles.specs.Objects.{interval_part}
use Rattle.codec_traits.proofs.ReadLemmas.{length-interval_part}
use Rattle.codec_traits.specs.RefusalLaws.{passed_on}
use Rattle.sharding_gather.proofs.GatherLemmas.{elements_counted, elements_fitting, AreRead-parts, cells_read, too_long_read, positions_read}
use Rattle.sharding_gather.proofs.ReadGroupLemmas.{groups_counted, groups_some}
use Rattle.sharding_subchunks.specs.steps.Inner.{inner_meaning}
use Rattle.sharding_subchunks.proofs.stored_shard.StoredShard.read_cells.Goals as goal

pub read_groups-requires-clause-below : goal.read_groups-requires-clause-below
read_groups-requires-clause-below g c = λ j d below.
    let inside = rw (c.as_slice.ensures.value, c.as_slice-2.ensures.value) at c.in_ok-groups.ensures.below in
    omega (arith, inside j d below, c.args.self.now.indexed)

pub read_groups-requires-clause-lists : goal.read_groups-requires-clause-lists
read_groups-requires-clause-lists g c = groups_counted c.in_ok-groups.ensures.grouped

pub read_groups-requires-clause-some : goal.read_groups-requires-clause-some
read_groups-requires-clause-some g c = groups_some c.in_ok-groups.ensures.grouped

pub returns-in_err-parts-clause-refused : goal.returns-in_err-parts-clause-refused
returns-in_err-parts-clause-refused g c =
    let a = c.args in
    let grouped = rw (c.as_slice.ensures.value, c.as_slice-2.ensures.value) at c.in_ok-groups.ensures.grouped in
    let below = rw (c.as_slice.ensures.value, c.as_slice-2.ensures.value) at c.in_ok-groups.ensures.below in
    let refused = c.in_err-parts.ensures.refused a.self.now.shape.now a.numbers.now grouped below in
    passed_on _ c.in_err-parts.field-0.0 _ c.from_residual-in_err-parts.ensures.1 (elim refused [
      | inl memory ↦ inl memory
      | inr refusals ↦ inr (λ transparent. elim (refusals transparent) [
        | inl fault ↦ inl fault
        | inr positions ↦ inr (elim positions [ inl one ↦ inl one | inr none ↦ absurd none.1 ])
      ])
    ])

pub returns-in_err-array-clause-refused : goal.returns-in_err-array-clause-refused
returns-in_err-array-clause-refused g c =
    let a = c.args in
    let s = a.self.now.subchunks in
    let index = a.self.now.index.now.numbers.items in
    let groups = c.in_ok-groups.groups in
    let parts = c.in_ok-parts.parts.items in
    let fill = s.fill_value.now in
    let sub = s.shape.now in
    let cells = (inner_meaning g.I.ArrayToBytesCodecTraits.meaning s).cells in
    let bytes = interval_part a.self.now.interval (g.H.BytesPartialDecoderTraits.state a.handle.now).contents in
    let grouped = rw (c.as_slice.ensures.value, c.as_slice-2.ensures.value) at c.in_ok-groups.ensures.grouped in
    let refused = rw (c.deref.ensures.value, c.as_ne_bytes.ensures) at c.in_err-array.ensures.refused in
    passed_on _ c.in_err-array.field-0.0 _ c.from_residual-in_err-array.ensures.1 (elim refused [
      | inl memory ↦ inl memory
      | inr large ↦ inr (λ transparent.
          let size = length-interval_part a.self.now.interval (g.H.BytesPartialDecoderTraits.state a.handle.now).contents (c.requires.inside transparent) in
          let read = c.in_ok-parts.ensures.cells transparent in
          let placed = positions_read cells a.self.now.shape.now sub fill bytes index a.numbers.now a.self.now.interval.size groups parts size grouped c.in_ok-parts.ensures.counted read in
          let long = too_long_read cells a.self.now.shape.now sub fill bytes index a.numbers.now a.self.now.interval.size groups parts size grouped c.in_ok-parts.ensures.counted read large.1 in
          inr (inr ((λ k below. placed k), (large.0, long))))
    ])

pub returns-clause-elements : goal.returns-clause-elements
returns-clause-elements g c =
    let s = c.args.self.now.subchunks in
    let kind = size_of s.data_type.now in
    let parts = c.in_ok-parts.parts.items in
    let elements = rw (c.deref.ensures.value, c.as_ne_bytes.ensures) at c.in_ok-array.ensures.elements in
    let read = AreRead-parts _ _ _ kind c.in_ok-groups.groups parts c.in_ok-groups.ensures.grouped c.in_ok-parts.ensures.counted c.in_ok-parts.ensures.parts in
    record {
      kind_is = c.in_ok-array.ensures.kind ∙ c.size.ensures;
      counted = elements_counted c.in_ok-groups.groups parts s.fill_value.now c.in_ok-array.array.elements elements ∙ c.in_ok-groups.ensures.grouped.counted;
      fitting = elements_fitting c.in_ok-groups.groups parts s.fill_value.now c.in_ok-array.array.elements elements kind c.args.self.now.fill read;
    }

pub returns-clause-cells : goal.returns-clause-cells
returns-clause-cells g c = λ transparent.
    let a = c.args in
    let s = a.self.now.subchunks in
    let fill = s.fill_value.now in
    let sub = s.shape.now in
    let cells = (inner_meaning g.I.ArrayToBytesCodecTraits.meaning s).cells in
    let contents = (g.H.BytesPartialDecoderTraits.state a.handle.now).contents in
    let grouped = rw (c.as_slice.ensures.value, c.as_slice-2.ensures.value) at c.in_ok-groups.ensures.grouped in
    let elements = rw (c.deref.ensures.value, c.as_ne_bytes.ensures) at c.in_ok-array.ensures.elements in
    let size = length-interval_part a.self.now.interval contents (c.requires.inside transparent) in
    let read = c.in_ok-parts.ensures.cells transparent in
    cells_read cells a.self.now.shape.now sub fill (interval_part a.self.now.interval contents) a.self.now.index.now.numbers.items a.numbers.now a.self.now.interval.size c.in_ok-groups.groups c.in_ok-parts.parts.items size grouped c.in_ok-parts.ensures.counted read
    c.in_ok-array.array.elements elements
