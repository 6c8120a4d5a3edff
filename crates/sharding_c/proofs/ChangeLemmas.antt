-- What calls refuse behind the tests of a layout, of room and of a subset.
use Rattle.std.proofs.Common.{◌<◌, ◌≤◌, ◌+◌, ◌*◌, ◌^◌, ℕ, List, inl, inr, refl}
use Rattle.std.proofs.lemmas.List.Elements.{length_all_zip}
use Rattle.parts_errors.specs.Words.{Refusals}
use Rattle.parts_errors.specs.Order.{RefusedBy}
use Rattle.parts_errors.specs.declared.error.CodecError.{CodecError}
use Rattle.parts_row_major.specs.Subsets.{IsSubset}
use Rattle.sharding_c.specs.declared.layout.Layout.{Layout}
use Rattle.sharding_c.specs.declared.status.Refusal.TheVariants.{Codec}
use Rattle.sharding_c.specs.Layouts.{IsLaidOut, StartRefusals, subchunks_of}
use Rattle.sharding_c.specs.Changes.{IndexRoomTests}

pub after_room : (layout : Layout) (room : ℕ) (later : Refusals) (e : CodecError) → layout.index < 8 → IsLaidOut layout → 2 * subchunks_of layout ≤ room
    → RefusedBy later e → IndexRoomTests layout room later (Codec e)
after_room layout room later e flags laid fits h = inr (flags, inr (laid, inr (fits, (e, refl, h))))

pub after_start : (start shape : List ℕ) (later : Refusals) (e : CodecError) → IsSubset start shape → RefusedBy later e
    → RefusedBy (StartRefusals start shape later) e
after_start start shape later e well h = elim h [
  | inl memory ↦ inl memory
  | inr refused ↦ inr (inr (length_all_zip (λ first len. first + len < 2 ^ 64) start shape well, inr (well, refused)))
]
