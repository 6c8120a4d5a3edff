-- A compacted shard compacts no further.
use Rattle.std.proofs.Common.{◌≡◌, ℕ, ◌+◌, ◌^◌, ◌<◌, inl, inr, List, Some, None, length, map, refl, sym, ap, ◌∙◌, subst, arith}
use Rattle.parts_arrays.specs.ArraySpec.{ArraySpec, IsArrayOf}
use Rattle.parts_row_major.specs.Numbering.{count_of}
use Rattle.parts_subsets.specs.Grid.{grid_of}
use Rattle.parts_errors.specs.Order.{RefusedBy}
use Rattle.parts_errors.specs.declared.error.CodecError.{CodecError}
use Rattle.parts_errors.specs.declared.error.CodecError.TheVariants.{OutOfMemory}
use Rattle.codec_traits.specs.Meanings.{Meaning}
use Rattle.codec_traits.specs.Refusals.{AreTooLong}
use Rattle.sharding_format.specs.Index.{index_spec, index_part, slot_at, numbers_in_index}
use Rattle.sharding_format.specs.Cells.{Layout}
use Rattle.sharding_format.specs.Encoding.{slot_size}
use Rattle.sharding_format.specs.Serves.{fixed_size, layout, ShardServes}
use Rattle.sharding_format.specs.Compacting.{IsMoved, IsGood, IsCompact, IsCompacted, compact_size, CompactRefusals}
use Rattle.sharding_format.specs.Laws.{numbers_of_index}
use Rattle.sharding_format.specs.declared.location.ShardingIndexLocation.{ShardingIndexLocation}
use Rattle.sharding_format.specs.declared.order.SubchunkWriteOrder.{SubchunkWriteOrder}
use Rattle.sharding_format.specs.declared.slot.Slot.{Slot}
use Rattle.sharding_format.specs.declared.slot.Slot.TheVariants.{Absent, InRange, Bad}
use Rattle.sharding_format.proofs.CompactionLemmas.{size_moved}
use Rattle.sharding_format.proofs.LayingLemmas.{sum_same}
use Rattle.sharding_format.proofs.RefusalLemmas.{passed_refusal, long_enough, damaged_index}

moved_good : (old new : List ℕ) (s t : Slot) (write_offset : ℕ) → IsMoved old s write_offset new t → IsGood t
moved_good old new Absent t write_offset h = rw h tt
moved_good old new (InRange offset size) t write_offset h = rw h.0 tt
moved_good old new Bad t write_offset h = absurd h

module _ (inner index : Meaning)
    (sub : List ℕ) (location : ShardingIndexLocation) (order : SubchunkWriteOrder) (g : ArraySpec) where
  abbrev l : Layout
  l = layout sub location order index.representation g

  -- what was compacted is compact
  pub again_compact : (old new : List ℕ)
      → ((e : List (List ℕ)) (bytes : List ℕ) → IsArrayOf (index_spec (grid_of g.shape sub)) e → index.written e bytes → index.cells bytes ≡ map Some e)
      → IsCompacted index l old new → IsCompact index.cells l new
  again_compact old new law h =
      let r = h.rewritten in
      let n : ℕ = count_of (grid_of g.shape sub) in
      record {
        numbers = r.numbers;
        read = record {
          told = numbers_of_index index.cells index.written sub g location (fixed_size index.representation) new r.numbers law (omega (arith, r.long)) r.counted r.below r.index;
          good = λ k below. moved_good old new (slot_at (length old) h.old_numbers k) (slot_at (length new) r.numbers k) _ (r.moved k below);
        };
        same_size =
            ap (λ m. fixed_size index.representation + m)
            (sum_same (λ k. slot_size (slot_at (length new) r.numbers k)) (λ k. slot_size (slot_at (length old) h.old_numbers k)) n
            (λ k below. size_moved old new (slot_at (length old) h.old_numbers k) (slot_at (length new) r.numbers k) _ (r.moved k below)))
            ∙ sym r.long;
      }

  module _ (b : List ℕ) (h : IsCompact index.cells l b) where
    -- what is compact isn't compacted
    pub never_compacted : (new : List ℕ) → ¬ (IsCompacted index l b new)
    never_compacted new k =
        let both : Some h.numbers ≡ Some k.old_numbers = sym h.read.told ∙ k.read.told in
        let same : h.numbers ≡ k.old_numbers = cc in
        k.other_size (subst (λ ns. compact_size l (slot_at (length b) ns) ≡ length b) same h.same_size)

    never_damaged : ¬ (numbers_in_index index.cells location (fixed_size index.representation) b ≡ None)
    never_damaged none =
        let both : Some h.numbers ≡ None = sym h.read.told ∙ none in
        cc

    -- and is refused only for memory
    pub refused_for_memory : (e : CodecError) → ShardServes inner index sub g → ((x : List ℕ) → ¬ (AreTooLong (index.cells x))) → length b + 1 < 2 ^ 64
        → RefusedBy (CompactRefusals index l b) e → e ≡ OutOfMemory
    refused_for_memory e serves short small k =
        let size : ℕ = fixed_size index.representation in
        let part : List ℕ = index_part location size b in
        let told : numbers_in_index index.cells location size b ≡ Some h.numbers = h.read.told in
        elim k [
          | inl memory ↦ memory
          | inr refusals ↦ elim refusals [
            | inl axes ↦ absurd (axes.0 serves.same_axes)
            | inr after_axes ↦ elim after_axes.1 [
              | inl uneven ↦ absurd (uneven.0 serves.divides)
              | inr after_divides ↦ elim after_divides.1 [
                | inl large ↦ absurd (large.0 (serves.cells_fit, omega arith, serves.index_fits))
                | inr after_fits ↦ elim after_fits.1 [
                  | inl unserved ↦ absurd (unserved.0 serves.index_served.served)
                  | inr after_served ↦ elim after_served.1 [
                    | inl long ↦ absurd (long.0 (rw serves.index_served.fixed refl))
                    | inr after_some ↦ elim after_some.1 [
                      | inl variable ↦ absurd (variable.0 serves.index_served.fixed)
                      | inr after_fixed ↦ elim after_fixed.1 [
                        | inl too_short ↦ absurd (too_short.0 (long_enough index.cells location size b h.numbers told))
                        | inr after_length ↦ elim after_length.1 [
                          | inl found ↦ elim (passed_refusal (index.cells part) found.inner e found.lawful found.no_memory found.passed_on) [
                            | inl large ↦ elim large.1 [ inl long ↦ absurd (short part long) | inr d ↦ absurd (never_damaged (damaged_index index.cells location size b d)) ]
                            | inr d ↦ absurd (never_damaged (damaged_index index.cells location size b d.1))
                          ]
                          | inr after_index ↦ elim after_index.1 [
                            | inl bad ↦ absurd (bad.1.2 (rw told (h.read.good bad.0 bad.1.0)))
                            | inr after_entries ↦ elim after_entries.1 [
                              | inl large ↦ absurd (large.0 (rw told (omega (arith, h.same_size, small))))
                              | inr after_size ↦ absurd (after_size.1.0 (rw told h.same_size))
                            ]
                          ]
                        ]
                      ]
                    ]
                  ]
                ]
              ]
            ]
          ]
        ]
