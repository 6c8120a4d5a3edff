-- The refusals of each step of a plan, in its tests.
use Rattle.std.proofs.Common.{◌≡◌, ◌≢◌, ◌≤◌, ℕ, ◌+◌, ◌^◌, ◌<◌, inl, inr, List, Some, length, refl, sym, subst}
use Rattle.parts_row_major.specs.Numbering.{count_of}
use Rattle.parts_subsets.specs.Grid.{grid_of}
use Rattle.parts_errors.specs.Words.{Refusals}
use Rattle.parts_errors.specs.Order.{◌or◌then◌, Each, done, RefusedBy}
use Rattle.parts_errors.specs.declared.error.CodecError.{CodecError}
use Rattle.parts_errors.specs.declared.error.CodecError.TheVariants.{TooLarge, BadIndexEntry, ShardTooShort}
use Rattle.codec_traits.specs.Meanings.{Meaning}
use Rattle.sharding_format.specs.Cells.{Layout}
use Rattle.sharding_format.specs.Index.{slot_at, numbers_in_index}
use Rattle.sharding_format.specs.Serves.{PlanRefusals, HasPlan}
use Rattle.sharding_format.specs.DecodeRefusals.{IndexRefusals, slot_by}
use Rattle.sharding_format.specs.EncodeRefusals.{RefusesIndex}
use Rattle.sharding_format.specs.Compacting.{IsGood, present_size, compact_size, PresentRefusals, CompactRefusals}
use Rattle.sharding_format.proofs.RefusalLemmas.{long_enough}
use Rattle.sharding_layout.specs.CompactionPlans.{PlannedRefusals, NumberedRefusals}

-- where a shard has a plan, a refusal comes from the tests after those of its shape
pub plan_passed : (index : Meaning) (shape sub : List ℕ) (element_size : ℕ) (later : Refusals) (e : CodecError)
    → HasPlan index shape sub element_size → later e → PlanRefusals index shape sub element_size later e
plan_passed index shape sub element_size later e plan h =
    inr (plan.same_axes, inr (plan.divides, inr (plan.fits, inr (plan.index_served.served, inr (rw plan.index_served.fixed refl, inr (plan.index_served.fixed, h))))))

module _ (index : Meaning) (l : Layout) (bytes : List ℕ) (len : ℕ) (plan : HasPlan index l.shape l.sub 0) where
  -- the tests of the length and of the bytes
  abbrev byte_refusals : CodecError → Type 0
  byte_refusals =
      l.index_size ≤ len or ShardTooShort then
      IndexRefusals index.decode_refusals index.cells l.location l.index_size bytes (
      PresentRefusals index l len (slot_by len (numbers_in_index index.cells l.location l.index_size bytes)))

  -- those of `compact` on an object
  abbrev object_refusals : List ℕ → CodecError → Type 0
  object_refusals object =
      IndexRefusals index.decode_refusals index.cells l.location l.index_size object (
      PresentRefusals index l (length object) (slot_by (length object) (numbers_in_index index.cells l.location l.index_size object)))

  planned : (e : CodecError) → byte_refusals e → PlannedRefusals index l bytes len e
  planned e h = plan_passed index l.shape l.sub 0 byte_refusals e plan h

  -- the tests of the index come after those that look at no byte
  pub index_tested : (e : CodecError)
      → RefusedBy (l.index_size ≤ len or ShardTooShort then IndexRefusals index.decode_refusals index.cells l.location l.index_size bytes done) e
      → RefusedBy (PlannedRefusals index l bytes len) e
  index_tested e h =
      elim h [
        | inl memory ↦ inl memory
        | inr refusals ↦ inr (planned e (elim refusals [
          | inl too_short ↦ inl too_short
          | inr after_len ↦ inr (
            after_len.0,
            elim after_len.1 [
              | inl short_bytes ↦ inl short_bytes
              | inr after_length ↦ inr (after_length.0, elim after_length.1 [ inl found ↦ inl found | inr nothing ↦ absurd nothing.1 ])
            ],
          )
        ]))
      ]

  module _ (enough : l.index_size ≤ len) (numbers : List ℕ) (told : numbers_in_index index.cells l.location l.index_size bytes ≡ Some numbers) where
    present_tested : (e : CodecError) → PresentRefusals index l len (slot_at len numbers) e → PlannedRefusals index l bytes len e
    present_tested e h =
        planned e (inr (
          enough,
          inr (
            long_enough index.cells l.location l.index_size bytes numbers told,
            inr (
              rw told refl,
              subst (λ o. PresentRefusals index l len (slot_by len o) e) (sym told) h,
            ),
          ),
        ))

    -- then those of the entries, of the size and of the new index
    pub numbers_tested : (e : CodecError) → RefusedBy (PresentRefusals index l len (slot_at len numbers)) e
        → RefusedBy (PlannedRefusals index l bytes len) e
    numbers_tested e h = elim h [ inl memory ↦ inl memory | inr refused ↦ inr (present_tested e refused) ]

    -- which are those of `compact` on each object that has this index
    pub numbers_compacted : (object : List ℕ) → length object ≡ len → numbers_in_index index.cells l.location l.index_size object ≡ Some numbers
        → (e : CodecError) → RefusedBy (PresentRefusals index l len (slot_at len numbers)) e → RefusedBy (CompactRefusals index l object) e
    numbers_compacted object long there e h =
        elim h [
          | inl memory ↦ inl memory
          | inr refused ↦ inr (plan_passed index l.shape l.sub 0 (object_refusals object) e plan (inr (
            long_enough index.cells l.location l.index_size object numbers there,
            inr (
              rw there refl,
              subst (λ o. PresentRefusals index l (length object) (slot_by (length object) o) e) (sym there)
                  (subst (λ m. PresentRefusals index l m (slot_at m numbers) e) (sym long) refused),
            ),
          )))
        ]

-- the refusals of each step of a plan by the numbers of the index, among the tests of these
module _ (index : Meaning) (l : Layout) (len : ℕ) (numbers : List ℕ) where
  -- of the entries and of the size
  pub entries_present : (n : ℕ) (e : CodecError) → n ≡ count_of (grid_of l.shape l.sub)
      → RefusedBy (Each n (λ k. IsGood (slot_at len numbers k)) (λ k. BadIndexEntry k) (l.index_size + present_size (slot_at len numbers) n + 1 < 2 ^ 64 or TooLarge then done)) e
      → RefusedBy (PresentRefusals index l len (slot_at len numbers)) e
  entries_present n e same h =
      elim (subst (λ m. RefusedBy (Each m (λ k. IsGood (slot_at len numbers k)) (λ k. BadIndexEntry k) (l.index_size + present_size (slot_at len numbers) m + 1 < 2 ^ 64 or TooLarge then done)) e) same h) [
        | inl memory ↦ inl memory
        | inr refusals ↦ elim refusals [
          | inl bad ↦ inr (inl bad)
          | inr after_entries ↦ elim after_entries.1 [
            | inl large ↦ inr (inr (after_entries.0, inl large))
            | inr nothing ↦ absurd nothing.1
          ]
        ]
      ]

  -- and of the new index
  pub written_present : (e : CodecError) → ((k : ℕ) → k < count_of (grid_of l.shape l.sub) → IsGood (slot_at len numbers k))
      → compact_size l (slot_at len numbers) + 1 < 2 ^ 64 → compact_size l (slot_at len numbers) ≢ len
      → RefusedBy (RefusesIndex index (count_of (grid_of l.shape l.sub))) e
      → RefusedBy (PresentRefusals index l len (slot_at len numbers)) e
  written_present e good small other h =
      elim h [
        | inl memory ↦ inl memory
        | inr refused ↦ inr (inr (good, inr (small, (other, refused))))
      ]

  -- they come after those that look at no number
  pub numbered : HasPlan index l.shape l.sub 0 → l.index_size ≤ len → (e : CodecError)
      → RefusedBy (PresentRefusals index l len (slot_at len numbers)) e → RefusedBy (NumberedRefusals index l numbers len) e
  numbered plan enough e h =
      elim h [
        | inl memory ↦ inl memory
        | inr refused ↦ inr (plan_passed index l.shape l.sub 0
            (l.index_size ≤ len or ShardTooShort then PresentRefusals index l len (slot_at len numbers)) e plan (inr (enough, refused)))
      ]
