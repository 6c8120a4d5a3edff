-- The rows of a plan have room where there is room for a row of each touched subchunk.
use Rattle.std.proofs.Common.{◌≡◌, ◌<◌, ◌≤◌, ◌+◌, ◌*◌, ◌^◌, ◌++◌, ◌∙◌, ℕ, List, [], ◌∷◌, Option, Some, None, length, refl, sym, ap, inl, inr, arith}
use Rattle.std.specs.List.{All}
use Rattle.std.proofs.lemmas.List.{length-append, length-map}
use Rattle.std.proofs.lemmas.List.Elements.{All-head, All-tail, length_all_zip}
use Rattle.parts_errors.specs.Order.{done, RefusedBy}
use Rattle.parts_errors.specs.declared.error.CodecError.{CodecError}
use Rattle.parts_errors.specs.declared.error.CodecError.TheVariants.{TooLarge}
use Rattle.parts_row_major.specs.Subsets.{Subset as Part, IsSubset}
use Rattle.parts_row_major.proofs.SubsetLaws.{length-zip_with}
use Rattle.parts_subsets.specs.Touched.{AreTouched}
use Rattle.sharding_plans.specs.declared.read_plan.ReadPart.{ReadPart}
use Rattle.sharding_plans.specs.declared.read_plan.ReadPlan.{ReadPlan}
use Rattle.sharding_gather.specs.SubchunkOverlaps.{IsSubchunkOverlap}
use Rattle.sharding_plans.specs.Chunks.{rounded_up, whole_chunks, IsChunked, IsMeeting}
use Rattle.sharding_plans.specs.ReadPlans.{EndsAt, IsPlanOf, IsReadPart, IsWithin, WithinRefusals}
use Rattle.sharding_plans.proofs.AxesLemmas.{lies_axes}
use Rattle.sharding_c.specs.declared.layout.Layout.{Layout}
use Rattle.sharding_c.specs.declared.layout.Subset.{Subset}
use Rattle.sharding_c.specs.declared.status.Refusal.TheVariants.{Codec}
use Rattle.sharding_c.specs.Layouts.{IsLaidOut, StartRefusals}
use Rattle.sharding_c.specs.Rows.{row_of, rows_of, row_length}
use Rattle.sharding_c.specs.Exports.{CanBeCounted, PlanTests, RowsTests, told_subset}
use Rattle.sharding_c.specs.Meetings.{MeetTests, RoomTests}

-- a part whose starts and shape have this number of axes
record HasAxes (axes : ℕ) (part : ReadPart) : Type 0 where
  start : length part.overlap.in_subchunk.start ≡ axes
  in_answer : length part.overlap.in_subset.start ≡ axes
  lengths : length part.overlap.in_subset.shape ≡ axes

length-row_of : (axes : ℕ) (part : ReadPart) → HasAxes axes part → length (row_of part) ≡ row_length axes
length-row_of axes part has =
    omega (
      arith,
      has.start,
      has.in_answer,
      has.lengths,
      length-append (part.overlap.in_subchunk.start ++ part.overlap.in_subset.start) part.overlap.in_subset.shape,
      length-append part.overlap.in_subchunk.start part.overlap.in_subset.start,
    )

length-rows_of : (axes : ℕ) (parts : List ReadPart) → All (HasAxes axes) parts → length (rows_of parts) ≡ length parts * row_length axes
length-rows_of axes [] all = omega arith
length-rows_of axes (part ∷ parts) all =
    let row = length-row_of axes part (All-head (HasAxes axes) part parts all) in
    let rest = length-rows_of axes parts (All-tail (HasAxes axes) part parts all) in
    length-append (row_of part) (rows_of parts) ∙ grind (arith, row, rest)

-- what a subset and a subchunk have in common has the axes of the shape
has_axes_of : (shape sub : List ℕ) (subset : Part) (part : ReadPart) → length shape ≡ length sub → IsSubset subset.start subset.shape → length subset.start ≡ length shape
    → IsSubchunkOverlap shape sub subset part.number part.overlap.in_subchunk part.overlap.in_subset → HasAxes (length shape) part
has_axes_of shape sub subset part same well within m =
    let lengths = length_all_zip (λ first len. first + len < 2 ^ 64) in
    let shape_axes : length subset.start ≡ length subset.shape = lengths subset.start subset.shape well in
    let in_subchunk : length part.overlap.in_subchunk.start ≡ length sub = lies_axes part.overlap.in_subchunk sub m.sub_well_formed m.sub_inside in
    let in_subset : length part.overlap.in_subset.start ≡ length subset.shape = lies_axes part.overlap.in_subset subset.shape m.subset_well_formed m.subset_inside in
    let own : length part.overlap.in_subset.start ≡ length part.overlap.in_subset.shape = lengths part.overlap.in_subset.start part.overlap.in_subset.shape m.subset_well_formed in
    record {
      start = omega (arith, in_subchunk, same);
      in_answer = omega (arith, in_subset, shape_axes, within);
      lengths = omega (arith, own, in_subset, shape_axes, within);
    }

-- the rows of chunks that a subset meets have room
pub met_rows_fit : (shape chunk : List ℕ) (subset : Part) (touched : List ℕ) (plan : ReadPlan) (room : ℕ) → length shape ≡ length chunk
    → IsSubset subset.start subset.shape → IsWithin shape subset → IsMeeting (whole_chunks shape chunk) chunk subset touched plan
    → length touched * row_length (length shape) ≤ room → length (rows_of plan.parts.items) ≤ room
met_rows_fit shape chunk subset touched plan room same well within is fits =
    let whole : length (whole_chunks shape chunk) ≡ length shape = length-zip_with rounded_up shape chunk same in
    let has : All (HasAxes (length (whole_chunks shape chunk))) plan.parts.items =
    λ k d lt. has_axes_of (whole_chunks shape chunk) chunk subset _ (omega (arith, whole, same)) well (omega (arith, whole, within.same_axes)) ((is.parts k d lt).overlap) in
    let counted = length-rows_of (length (whole_chunks shape chunk)) plan.parts.items has in
    let many : length plan.parts.items ≡ length touched = sym (length-map plan.parts.items (λ (part : ReadPart). part.number)) ∙ ap length is.numbered in
    grind (arith, rw whole at counted, many, fits)

module _ (shape sub : List ℕ) (len : ℕ) (numbers : List ℕ) (subset : Part) (same : length shape ≡ length sub) (well : IsSubset subset.start subset.shape) (within : IsWithin shape subset) where
  has_axes : (part : ReadPart) → IsReadPart shape sub len numbers subset part → HasAxes (length shape) part
  has_axes part is = has_axes_of shape sub subset part same well within.same_axes is.overlap

  ends_within : (touched : List ℕ) (parts : ℕ) (bad : Option ℕ) → EndsAt len numbers touched parts bad → parts ≤ length touched
  ends_within touched parts None ends = omega (arith, ends)
  ends_within touched parts (Some k) ends = omega (arith, ends.0)

  pub rows_fit : (touched : List ℕ) (plan : ReadPlan) (room : ℕ) → IsPlanOf shape sub len numbers subset touched plan
      → length touched * row_length (length shape) ≤ room → length (rows_of plan.parts.items) ≤ room
  rows_fit touched plan room is fits =
      let counted = length-rows_of (length shape) plan.parts.items (λ k d lt. has_axes _ (is.parts k d lt)) in
      let few = ends_within touched (length plan.parts.items) plan.bad is.ends in
      grind (arith, counted, few, fits)

-- what the tests of a subset refuse, and rows that no number counts
module _ (layout : Layout) (numbers : List ℕ) (subset : Subset) (room : ℕ) (flags : layout.index < 8) (laid : IsLaidOut layout) (well : IsSubset subset.start.now subset.shape.now) where
  pub outside_refused : (e : CodecError) → RefusedBy (WithinRefusals layout.shape.now (told_subset subset) done) e → PlanTests layout numbers subset room (Codec e)
  outside_refused e h =
      let axes = length_all_zip (λ first len. first + len < 2 ^ 64) subset.start.now subset.shape.now well in
      let tested : RefusedBy (StartRefusals subset.start.now subset.shape.now (WithinRefusals layout.shape.now (told_subset subset) done)) e =
      elim h [ inl memory ↦ inl memory | inr tests ↦ inr (inr (axes, inr (well, tests))) ] in
      inr (flags, inr (laid, inl (e, refl, tested)))

  pub uncounted_refused : (touched : List ℕ) → IsWithin layout.shape.now (told_subset subset)
      → AreTouched layout.shape.now layout.subchunk_shape.now (told_subset subset) touched → ¬ (CanBeCounted layout (length touched))
      → PlanTests layout numbers subset room (Codec TooLarge)
  uncounted_refused touched within are many =
      let rows : RowsTests layout numbers (length touched) room (Codec TooLarge) = inl (many, refl) in
      inr (flags, inr (laid, inr ((well, within), (touched, are, rows))))

-- the same of chunks that a subset meets
module _ (shape chunk : List ℕ) (subset : Subset) (room : ℕ) (chunked : IsChunked shape chunk) (well : IsSubset subset.start.now subset.shape.now) where
  pub outside_array : (e : CodecError) → RefusedBy (WithinRefusals shape (told_subset subset) done) e → MeetTests shape chunk subset room (Codec e)
  outside_array e h =
      let axes = length_all_zip (λ first len. first + len < 2 ^ 64) subset.start.now subset.shape.now well in
      let tested : RefusedBy (StartRefusals subset.start.now subset.shape.now (WithinRefusals shape (told_subset subset) done)) e =
      elim h [ inl memory ↦ inl memory | inr tests ↦ inr (inr (axes, inr (well, tests))) ] in
      inr (chunked, inl (e, refl, tested))

  pub uncounted_chunks : (touched : List ℕ) → IsWithin shape (told_subset subset) → AreTouched (whole_chunks shape chunk) chunk (told_subset subset) touched
      → ¬ (row_length (length shape) < 2 ^ 64 × length touched * row_length (length shape) < 2 ^ 64) → MeetTests shape chunk subset room (Codec TooLarge)
  uncounted_chunks touched within are many =
      let rows : RoomTests (length shape) (length touched) room (Codec TooLarge) = inl (many, refl) in
      inr (chunked, inr ((well, within), (touched, are, rows)))
