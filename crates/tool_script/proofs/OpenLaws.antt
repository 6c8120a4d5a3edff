-- What is held of an object says that it can be opened, and why a read of it is refused.
use Rattle.std.specs.Prelude.{◌≡◌, ◌<◌, ◌^◌, ℕ, ◌+◌, Bool, false, List, Option, Some, None}
use Rattle.std.proofs.Common.{inl, inr, refl, arith}
use Rattle.parts_errors.specs.Words.{Refusals}
use Rattle.parts_errors.specs.declared.error.CodecError.{CodecError}
use Rattle.parts_errors.specs.declared.error.CodecError.TheVariants.{SessionFailed}
use Rattle.parts_errors.specs.Order.{◌or◌then◌, ◌or_as◌then◌, RefusedBy}
use Rattle.parts_arrays.specs.Arrays.{Array}
use Rattle.parts_arrays.specs.ArraySpec.{ArraySpec}
use Rattle.parts_subsets.specs.Selections.{Selection}
use Rattle.storage_handles.specs.Handles.{in_memory, MayFault}
use Rattle.storage_handles.specs.Objects.{ObjectRefusals}
use Rattle.codec_traits.specs.Reads.{RequestRefusals}
use Rattle.sharding_open.specs.Cached.{HoldsIndex}
use Rattle.sharding_gather.specs.Updates.{UpdateRefusals}
use Rattle.sharding_codec.specs.Decoders.{index_in}
use Rattle.sharding_codec.specs.Sessions.{index_size_of, subchunks_of}
use Rattle.sharding_write.specs.Writing.{HoldsNumbers, IsCachedIndex}
use Rattle.codec_traits.specs.Meanings.{Meaning}
use Rattle.sharding_codec.specs.declared.codec.ShardingCodec.{ShardingCodec}
use Rattle.tool_script.specs.Shards.{Opens, OpensWith, OpensToWrite}

pub opens : (index_in : List ℕ → Option (List ℕ)) (contents : Option (List ℕ)) (len : ℕ) (index : Option (List ℕ))
    → HoldsIndex index_in contents len index → len + 1 < 2 ^ 64 → Opens index_in contents
opens index_in None len index cached room = tt
opens index_in (Some bytes) len None cached room = absurd cached
opens index_in (Some bytes) len (Some numbers) cached room = (rw cached.0 room, rw cached.1 refl)

-- a handle in memory does not fail
pub no_fault : (old new : Option (List ℕ)) (e : CodecError) → MayFault (in_memory old) (in_memory new) e → ⊥
no_fault old new e fault = omega (arith, fault.1)

-- why a read of an open shard is refused, told from the opening on
pub read_refused : (serves can_open : Type 0) (unserved unopened refusals : Refusals) (g : ArraySpec) (selection : Selection) (CanAnswer : ℕ → Type 0)
    (old new : Option (List ℕ)) (e : CodecError) → serves → can_open
    → RefusedBy (RequestRefusals g selection CanAnswer (ObjectRefusals (in_memory old) (in_memory new) refusals)) e
    → RefusedBy (serves or_as unserved then can_open or_as unopened then RequestRefusals g selection CanAnswer refusals) e
read_refused serves can_open unserved unopened refusals g selection CanAnswer old new e served opened h =
    elim h [
      | inl memory ↦ inl memory
      | inr a ↦ inr (inr (
        served,
        inr (
          opened,
          elim a [
            | inl axes ↦ inl axes
            | inr b ↦ inr (
              b.0,
              elim b.1 [
                | inl outside ↦ inl outside
                | inr d ↦ inr (
                  d.0,
                  elim d.1 [
                    | inl many ↦ inl many
                    | inr f ↦ inr (
                      f.0,
                      elim f.1 [
                        | inl large ↦ inl large
                        | inr later ↦ inr (later.0, elim (later.1 refl) [ inl fault ↦ absurd (no_fault old new e fault) | inr found ↦ found ])
                      ],
                    )
                  ],
                )
              ],
            )
          ],
        ),
      ))
    ]

-- why a write into an object that is open is refused, told from the opening on
pub write_refused : {I X : Type 0} (meaning : X → ArraySpec → Meaning) (codec : ShardingCodec I X) (g : ArraySpec) (object : Option (List ℕ)) (len : ℕ)
    (numbers : List ℕ) (refusals : List ℕ → Refusals) (Serves : Type 0) (unserved unopened : Refusals) (selection : Selection) (update : Array)
    (failed : Bool) (old new : Option (List ℕ)) → HoldsNumbers (index_in meaning codec g) object len numbers
    → IsCachedIndex codec.location (index_size_of meaning codec g) (subchunks_of codec g) len numbers → Serves → failed ≡ false → (e : CodecError)
    → RefusedBy (failed ≡ false or SessionFailed then UpdateRefusals g.shape g.data_type selection update
    (ObjectRefusals (in_memory old) (in_memory new) (refusals numbers))) e
    → RefusedBy (Serves or_as unserved then OpensToWrite meaning codec g object or_as unopened then
    UpdateRefusals g.shape g.data_type selection update (λ f. OpensWith meaning codec g object (λ n. refusals n f))) e
write_refused meaning codec g object len numbers refusals Serves unserved unopened selection update failed old new cached placed served usable e h =
    elim h [
      | inl memory ↦ inl memory
      | inr a ↦ elim a [
        | inl unusable ↦ absurd (unusable.0 usable)
        | inr b ↦ inr (inr (
          served,
          inr (
            record { len = len; numbers = numbers; cached = cached; placed = placed; holds = tt },
            elim b.1 [
              | inl listed ↦ inl listed
              | inr c ↦ inr (
                c.0,
                elim c.1 [
                  | inl axes ↦ inl axes
                  | inr d ↦ inr (
                    d.0,
                    elim d.1 [
                      | inl outside ↦ inl outside
                      | inr f ↦ inr (
                        f.0,
                        elim f.1 [
                          | inl kind ↦ inl kind
                          | inr m ↦ inr (
                            m.0,
                            elim m.1 [
                              | inl count ↦ inl count
                              | inr k ↦ inr (k.0, elim (k.1 refl) [ inl fault ↦ absurd (no_fault old new e fault) | inr found ↦ record { len = len; numbers = numbers; cached = cached; placed = placed; holds = found } ])
                            ],
                          )
                        ],
                      )
                    ],
                  )
                ],
              )
            ],
          ),
        ))
      ]
    ]
