-- Why a shard is not compacted.
use Rattle.std.proofs.Common.{◌≡◌, ◌≢◌, ℕ, ◌+◌, ◌^◌, ◌<◌, inl, inr, List, Option, Some, None, length, refl, sym, subst, arith}
use Rattle.parts_arrays.specs.ArraySpec.{ArraySpec}
use Rattle.parts_row_major.specs.Numbering.{count_of}
use Rattle.parts_subsets.specs.Grid.{grid_of}
use Rattle.parts_errors.specs.Order.{Each, done, RefusedBy}
use Rattle.parts_errors.specs.declared.error.CodecError.{CodecError}
use Rattle.parts_errors.specs.declared.error.CodecError.TheVariants.{TooLarge, BadIndexEntry}
use Rattle.codec_traits.specs.Meanings.{Meaning}
use Rattle.codec_traits.specs.Refusals.{MayRefuseCompact}
use Rattle.sharding_format.specs.Index.{slot_at, index_part, numbers_in_index}
use Rattle.sharding_format.specs.Cells.{Layout, cell_in, shard_cells}
use Rattle.sharding_format.specs.Serves.{fixed_size, layout, ShardServes, PlanRefusals, HasPlan}
use Rattle.sharding_format.specs.DecodeRefusals.{IndexRefusals, slot_by}
use Rattle.sharding_format.specs.EncodeRefusals.{RefusesIndex}
use Rattle.sharding_format.specs.Compacting.{IsGood, compact_size, PresentRefusals, CompactRefusals}
use Rattle.sharding_format.specs.declared.location.ShardingIndexLocation.{ShardingIndexLocation}
use Rattle.sharding_format.specs.declared.order.SubchunkWriteOrder.{SubchunkWriteOrder}
use Rattle.sharding_format.specs.declared.slot.Slot.{Slot}
use Rattle.sharding_format.specs.declared.slot.Slot.TheVariants.{Absent, InRange, Bad}
use Rattle.sharding_format.proofs.RefusalLemmas.{passed_refusal, short_index, long_enough, damaged_index, damaged_cell, no_index}

module _ (index : Meaning) (l : Layout) (b : List ℕ) where
  -- the tests of the bytes
  abbrev byte_refusals : CodecError → Type 0
  byte_refusals =
      IndexRefusals index.decode_refusals index.cells l.location l.index_size b
      (PresentRefusals index l (length b) (slot_by (length b) (numbers_in_index index.cells l.location l.index_size b)))

  module _ (plan : HasPlan index l.shape l.sub 0) where
    planned : (e : CodecError) → byte_refusals e → PlanRefusals index l.shape l.sub 0 byte_refusals e
    planned e h =
        inr (plan.same_axes, inr (plan.divides, inr (plan.fits, inr (plan.index_served.served, inr (rw plan.index_served.fixed refl, inr (plan.index_served.fixed, h))))))

    -- the tests of the index come after those that look at no byte
    pub index_next : (e : CodecError) → RefusedBy (IndexRefusals index.decode_refusals index.cells l.location l.index_size b done) e
        → RefusedBy (CompactRefusals index l b) e
    index_next e h =
        elim h [
          | inl memory ↦ inl memory
          | inr refusals ↦ inr (planned e (elim refusals [
            | inl too_short ↦ inl too_short
            | inr after_length ↦ inr (after_length.0, elim after_length.1 [ inl found ↦ inl found | inr nothing ↦ absurd nothing.1 ])
          ]))
        ]

    module _ (numbers : List ℕ) (told : numbers_in_index index.cells l.location l.index_size b ≡ Some numbers) where
      present_next : (e : CodecError) → PresentRefusals index l (length b) (slot_at (length b) numbers) e
          → CompactRefusals index l b e
      present_next e h =
          planned e (inr (
            long_enough index.cells l.location l.index_size b numbers told,
            inr (
              rw told refl,
              subst (λ o. PresentRefusals index l (length b) (slot_by (length b) o) e) (sym told) h,
            ),
          ))

      -- then those of the entries
      pub entries_next : (n : ℕ) (e : CodecError) → n ≡ count_of (grid_of l.shape l.sub)
          → RefusedBy (Each n (λ k. IsGood (slot_at (length b) numbers k)) (λ k. BadIndexEntry k) done) e
          → RefusedBy (CompactRefusals index l b) e
      entries_next n e same h =
          elim h [
            | inl memory ↦ inl memory
            | inr refusals ↦ elim refusals [
              | inl bad ↦ inr (present_next e (inl (bad.0, (omega (arith, bad.1.0, same), bad.1.1, bad.1.2, bad.1.3))))
              | inr nothing ↦ absurd nothing.1
            ]
          ]

      module _ (good : (k : ℕ) → k < count_of (grid_of l.shape l.sub) → IsGood (slot_at (length b) numbers k)) where
        -- that of the size
        pub size_next : ¬ (compact_size l (slot_at (length b) numbers) + 1 < 2 ^ 64)
            → RefusedBy (CompactRefusals index l b) TooLarge
        size_next large = inr (present_next TooLarge (inr (good, inl (large, refl))))

        -- and that of the new index
        pub rewrite_next : (e : CodecError) → compact_size l (slot_at (length b) numbers) + 1 < 2 ^ 64 → compact_size l (slot_at (length b) numbers) ≢ length b
            → RefusedBy (RefusesIndex index (count_of (grid_of l.shape l.sub))) e
            → RefusedBy (CompactRefusals index l b) e
        rewrite_next e small other h =
            elim h [
              | inl memory ↦ inl memory
              | inr refused ↦ inr (present_next e (inr (good, inr (small, (other, refused)))))
            ]

-- a bad entry names no cell
cell_of_bad : (inner_cells : List ℕ → List (Option (List ℕ))) (fill b : List ℕ) (s : Slot) (p : ℕ) → ¬ (IsGood s) → cell_in inner_cells fill b s p ≡ None
cell_of_bad inner_cells fill b Absent p bad = absurd (bad tt)
cell_of_bad inner_cells fill b (InRange offset size) p bad = absurd (bad tt)
cell_of_bad inner_cells fill b Bad p bad = refl

-- a refusal by the tests is one that the codec laws allow
pub may_refuse_compact : (inner index : Meaning)
    (sub : List ℕ) (location : ShardingIndexLocation) (order : SubchunkWriteOrder) (g : ArraySpec) (b : List ℕ) (e : CodecError)
    → ShardServes inner index sub g → 0 < count_of (grid_of g.shape sub) → 0 < count_of sub
    → RefusedBy (CompactRefusals index (layout sub location order index.representation g) b) e
    → MayRefuseCompact (shard_cells inner.cells index.cells (layout sub location order index.representation g) b) e
may_refuse_compact inner index sub location order g b e serves some pos h =
    let size : ℕ = fixed_size index.representation in
    let none = no_index inner.cells index.cells sub location order size g b serves.divides some pos in
    let part : List ℕ = index_part location size b in
    elim h [
      | inl memory ↦ rw memory tt
      | inr refusals ↦ elim refusals [
        | inl axes ↦ absurd (axes.0 serves.same_axes)
        | inr after_axes ↦ elim after_axes.1 [
          | inl uneven ↦ absurd (uneven.0 serves.divides)
          | inr after_divides ↦ elim after_divides.1 [
            | inl large ↦ absurd (large.0 (serves.cells_fit, omega arith, serves.index_fits))
            | inr after_fits ↦ elim after_fits.1 [
              | inl unserved ↦ absurd (unserved.0 serves.index_served.served)
              | inr after_served ↦ elim after_served.1 [
                | inl long ↦ absurd (long.0 (rw serves.index_served.fixed refl))
                | inr after_some ↦ elim after_some.1 [
                  | inl variable ↦ absurd (variable.0 serves.index_served.fixed)
                  | inr after_fixed ↦ elim after_fixed.1 [
                    | inl too_short ↦ rw too_short.1 (none (short_index index.cells location size b too_short.0))
                    | inr after_length ↦ elim after_length.1 [
                      | inl found ↦ elim (passed_refusal (index.cells part) found.inner e found.lawful found.no_memory found.passed_on) [
                        | inl large ↦ rw large.0 tt
                        | inr d ↦ rw d.0 (none (damaged_index index.cells location size b d.1))
                      ]
                      | inr after_index ↦ elim after_index.1 [
                        | inl bad ↦ rw bad.1.3 (damaged_cell inner.cells index.cells sub location order size g b serves.divides bad.0 0 bad.1.0 pos
                            (cell_of_bad inner.cells g.fill b (slot_by (length b) (numbers_in_index index.cells location size b) bad.0) 0 bad.1.2))
                        | inr after_entries ↦ elim after_entries.1 [
                          | inl large ↦ rw large.1 tt
                          | inr after_size ↦ elim after_size.1.1.refuses [
                            | inl cannot ↦ rw cannot.0 tt
                            | inr large ↦ rw large.0 tt
                          ]
                        ]
                      ]
                    ]
                  ]
                ]
              ]
            ]
          ]
        ]
      ]
    ]
