use Rattle.std.proofs.Common.{◌≡◌, ◌∙◌, ◌%◌, inl, sym, ap, length, rules}
use Rattle.std.proofs.lemmas.List.{take_rest}
use Rattle.std.proofs.lemmas.List.Elements.{length_all_zip}
use Rattle.parts_subsets.proofs.GridLaws.{subset_of_subchunk-lies_in}
use Rattle.parts_row_major.specs.Numbering.{count_of}
use Rattle.parts_row_major.specs.Subsets.{Subset}
use Rattle.parts_row_major.specs.Pieces.{piece}
use Rattle.parts_subsets.specs.Grid.{cell_number}
use Rattle.parts_arrays.specs.Types.{size_of}
use Rattle.parts_arrays.specs.declared.data_type.DataTypeSize.TheVariants.{Fixed}
use Rattle.codec_traits.specs.Refusals.{RefusesUnserved}
use Rattle.codec_traits.specs.RefusalLaws.{passed_on}
use Rattle.sharding_format.specs.Index.{slice_at}
use Rattle.sharding_format.proofs.SubsetLemmas.{subset_refused}
use Rattle.sharding_subchunks.specs.steps.Inner.{spec_of_subchunks}
use Rattle.sharding_subchunks.proofs.TargetLemmas.{fitting_target}
use Rattle.sharding_subchunks.proofs.WholeLemmas.{cells_written, slice_written, stored_refused}
use Rattle.sharding_subchunks.proofs.held_shard.HeldShard.decode_to_subset.Goals as goal

pub returns-in_err-subset-in-InRange-clause-refused : goal.returns-in_err-subset-in-InRange-clause-refused
returns-in_err-subset-in-InRange-clause-refused g c =
    let a = c.args in
    let shape = a.self.now.shape.now in
    let sub = a.self.now.subchunks.now.shape.now in
    let e = c.in_err-subset-in-InRange.field-0.0 in
    let same = sym (length_all_zip (λ part axis. axis % part ≡ 0) sub shape c.args.self.now.divides) in
    let below = rw c.requires.grid at c.requires.below in
    let refused = rw c.requires.grid at c.in_err-subset-in-InRange.ensures.refused in
    passed_on _ e _ c.from_residual.ensures.1 (inl (subset_refused shape sub a.number c.as_slice-axes.ensures.positive c.args.self.now.divides c.args.self.now.fits below e same refused))

pub over-target-requires : goal.over-target-requires
over-target-requires g c =
    let a = c.args in
    let found = rw (c.in-Some.is, c.requires.grid) at c.in_ok-subset-in-InRange.ensures.subset in
    let below = rw c.requires.grid at c.requires.below in
    rw (c.as_ne_bytes-element.ensures, c.as_slice-axes.ensures.value, found.1) (record {
      served = (subset_of_subchunk-lies_in a.self.now.shape.now a.self.now.subchunks.now.shape.now a.number c.args.self.now.divides below, c.args.self.now.fits);
      some = c.requires.some;
      whole = c.requires.whole;
    })

pub returns-in-Ok-clause-written : goal.returns-in-Ok-clause-written
returns-in-Ok-clause-written g c =
    let a = c.args in
    let s = a.self.now.subchunks.now in
    let sub_g = spec_of_subchunks s in
    let m = g.I.ArrayToBytesCodecTraits.meaning s.codec.now sub_g in
    let size = length s.fill_value.now in
    let part = slice_at c.in-InRange.offset c.in-InRange.size a.self.now.bytes.now in
    let found = rw (c.in-Some.is, c.requires.grid) at c.in_ok-subset-in-InRange.ensures.subset in
    let decoded = rw (take_rest a.self.now.bytes.now c.in-InRange.offset) at c.in-Ok.ensures.cells in
    let wrote = cells_written a.self.now.shape.now s.shape.now a.number size _ c.over-target.result c.decode_into.new.target a.output.now _
    (rw c.as_ne_bytes-element.ensures at c.over-target.ensures.element_size) (c.over-target.ensures.shape ∙ c.as_slice-axes.ensures.value) (c.over-target.ensures.subset ∙ found.1)
    (search rules) (search rules) decoded.written in
    rw c.in-InRange.is
    (slice_written m.cells s.fill_value.now a.self.now.bytes.now c.in-InRange.offset c.in-InRange.size (count_of s.shape.now) (cell_number a.self.now.shape.now s.shape.now a.number) (piece size a.output.now) _ decoded.elements
    ((g.met.I.ArrayToBytesCodecTraits.lawful s.codec.now sub_g).cells_counted part c.requires.serves) decoded.there wrote)

pub returns-in-InRange-clause-refused : goal.returns-in-InRange-clause-refused
returns-in-InRange-clause-refused g c =
    let a = c.args in
    let s = a.self.now.subchunks.now in
    let m = g.I.ArrayToBytesCodecTraits.meaning s.codec.now (spec_of_subchunks s) in
    let part = slice_at c.in-InRange.offset c.in-InRange.size a.self.now.bytes.now in
    let found = rw (c.in-Some.is, c.requires.grid) at c.in_ok-subset-in-InRange.ensures.subset in
    let target = c.over-target.result in
    let kind : size_of s.data_type.now ≡ Fixed target.element_size = c.requires.fixed ∙ ap Fixed (ap length (sym c.as_ne_bytes-element.ensures) ∙ sym c.over-target.ensures.element_size) in
    let counted : count_of target.subset.now.shape ≡ count_of s.shape.now = ap (λ (r : Subset). count_of r.shape) (c.over-target.ensures.subset ∙ found.1) in
    let refused = fitting_target m.serves (RefusesUnserved m) (size_of s.data_type.now) (count_of s.shape.now) target (m.decode_refusals part) c.in-Err.error kind counted (rw (take_rest a.self.now.bytes.now c.in-InRange.offset) at c.in-Err.ensures.refused) in
    let lawful = rw (take_rest a.self.now.bytes.now c.in-InRange.offset) at c.in-Err.ensures.lawful in
    rw c.in-InRange.is
    (stored_refused m part c.in-Err.error c.of_stored.result c.requires.serves refused (lawful c.requires.serves kind counted) c.of_stored.ensures)
