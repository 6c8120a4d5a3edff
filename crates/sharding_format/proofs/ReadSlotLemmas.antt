-- Reads of some places of a subchunk that a slot names.
use Rattle.std.proofs.Common.{◌≡◌, ◌≢◌, ℕ, ◌+◌, ◌<◌, ◌≤◌, List, [], ◌∷◌, Option, Some, None, IsTrue, ◌⊎◌, inl, inr, length, map, get_or, refl, sym, ap, ◌∙◌}
use Rattle.std.specs.List.{All}
use Rattle.std.proofs.lemmas.List.Elements.{All-head, All-tail, All-map}
use Rattle.parts_errors.specs.Order.{◌or◌then◌, ◌or_as◌then◌, RefusedBy}
use Rattle.parts_row_major.specs.Numbering.{count_of, number_of, point_of, IsInside}
use Rattle.parts_arrays.specs.ArraySpec.{ArraySpec}
use Rattle.parts_subsets.specs.Selections.{Selection, LiesWithin, IsSelectionOf}
use Rattle.parts_errors.specs.declared.error.CodecError.{CodecError}
use Rattle.parts_errors.specs.declared.error.CodecError.TheVariants.{OutOfMemory, Fault}
use Rattle.parts_row_major.proofs.NumberingLaws.{number_of-point_of, point_of-number_of, point_inside}
use Rattle.codec_traits.specs.Meanings.{Meaning}
use Rattle.storage_handles.specs.declared.bytes.Interval.{Interval}
use Rattle.storage_handles.specs.Handles.{HandleState, MayFault}
use Rattle.codec_traits.specs.Refusals.{RefusesUnserved}
use Rattle.codec_traits.specs.Reads.{cells_at, IsReadOf, MayRefuseRead, RequestRefusals}
use Rattle.storage_handles.specs.Objects.{interval_part, HasInterval, IntervalRefusals, ObjectRefusals}
use Rattle.sharding_format.specs.Index.{slice_at}
use Rattle.sharding_format.specs.DecodeRefusals.{stored_refusal}
use Rattle.sharding_format.specs.ReadRefusals.{numbers_of, position_points, cells_of_positions, AnswerRefusals, RefusesPositions}
use Rattle.sharding_format.specs.declared.slot.Slot.TheVariants.{InRange}
use Rattle.sharding_format.proofs.IntervalLemmas.{interval_part-nested, HasInterval-nested}

-- the cells at coordinates are those at their numbers
cells_of_positions-numbers_of : (cells : List (Option (List ℕ))) (sub : List ℕ) (points : List (List ℕ)) → cells_of_positions cells (numbers_of sub points) ≡ cells_at cells sub points
cells_of_positions-numbers_of cells sub [] = refl
cells_of_positions-numbers_of cells sub (point ∷ points) = ap (λ t. get_or cells (number_of point sub) None ∷ t) (cells_of_positions-numbers_of cells sub points)

-- places below the count have coordinates inside
pub inside-position_points : (sub positions : List ℕ) → All (λ position. position < count_of sub) positions → All (λ point. IsInside point sub) (position_points sub positions)
inside-position_points sub positions below = All-map (λ point. IsInside point sub) (λ position. point_of position sub) positions (λ k d lt. point_inside (get_or positions k d) sub (below k d lt))

is_memory : (e : CodecError) → (e ≡ OutOfMemory) ⊎ (e ≢ OutOfMemory)
is_memory OutOfMemory = inl refl
is_memory e = inr (λ is. cc)

no_fault : (cells requested : List (Option (List ℕ))) (e : CodecError) → MayRefuseRead cells requested e → e ≢ Fault
no_fault cells requested e lawful is = let none = rw is at lawful in none

-- coordinates inside are those of their numbers
pub position_points-numbers_of : (sub : List ℕ) (points : List (List ℕ)) → All (λ point. IsInside point sub) points → position_points sub (numbers_of sub points) ≡ points
position_points-numbers_of sub [] inside = refl
position_points-numbers_of sub (point ∷ points) inside =
    let P : List ℕ → Type 0 = λ p. IsInside p sub in
    rw (point_of-number_of point sub (All-head P point points inside), position_points-numbers_of sub points (All-tail P point points inside)) refl

-- and places below the count those of their coordinates
pub numbers_of-position_points : (sub positions : List ℕ) → All (λ position. position < count_of sub) positions → numbers_of sub (position_points sub positions) ≡ positions
numbers_of-position_points sub [] below = refl
numbers_of-position_points sub (position ∷ positions) below =
    let P : ℕ → Type 0 = λ p. p < count_of sub in
    rw (number_of-point_of position sub (All-head P position positions below), numbers_of-position_points sub positions (All-tail P position positions below)) refl

-- some coordinates have some numbers
pub some_numbers : (sub : List ℕ) (points : List (List ℕ)) → points ≢ [] → numbers_of sub points ≢ []
some_numbers sub [] some = absurd (some refl)
some_numbers sub (point ∷ points) some = λ none. cc

-- another codec's read of what is asked inside a shape, of bytes that stand in an interval inside another
module _ (inner_cells : List ℕ → List (Option (List ℕ))) (g : ArraySpec) (outer : Interval) (contents : Option (List ℕ)) (offset size : ℕ) (requested : Selection)
    (fits : offset + size ≤ outer.size) (inside : All (λ point. IsInside point g.shape) requested.points) where
  abbrev interval : Interval
  interval = record { offset = outer.offset + offset; size = size }

  abbrev positions : List ℕ
  positions = numbers_of g.shape requested.points

  abbrev bytes : List ℕ
  bytes = slice_at offset size (interval_part outer contents)

  nested : interval_part interval contents ≡ bytes
  nested = interval_part-nested offset size outer contents fits

  -- what it reads are the cells at the places
  pub positions_read : (elements : List (List ℕ)) → IsReadOf inner_cells interval contents g.shape requested.points elements → cells_of_positions (inner_cells bytes) positions ≡ map Some elements
  positions_read elements h =
      cells_of_positions-numbers_of (inner_cells bytes) g.shape requested.points
      ∙ ap (λ b. cells_at (inner_cells b) g.shape requested.points) (sym nested)
      ∙ h.read

  module _ (codec : Meaning) (old new : HandleState) (e r : CodecError)
      (serves : codec.serves) (selected : IsSelectionOf g.shape requested) (there : IsTrue old.transparent → HasInterval outer contents)
      (lawful : codec.serves → IsTrue old.transparent → requested.axes ≡ length g.shape → LiesWithin requested.subset requested.points g.shape → HasInterval interval contents
      → MayFault old new e ⊎ MayRefuseRead (inner_cells (interval_part interval contents)) (cells_at (inner_cells (interval_part interval contents)) g.shape requested.points) e)
      (refused : RefusedBy (
      codec.serves or_as RefusesUnserved codec then
      RequestRefusals g requested codec.answerable (
      ObjectRefusals old new (
      IntervalRefusals interval contents (λ b. codec.read_refusals b requested.points)))) e)
      (is : r ≡ stored_refusal e) where
    -- a refusal that is none for memory and no fault comes from its own tests of what it answers and reads
    tested : IsTrue old.transparent → e ≢ OutOfMemory → e ≢ Fault → AnswerRefusals codec.answerable codec.read_refusals bytes requested.points e
    tested t no_memory no_fault =
        elim refused [
          | inl memory ↦ absurd (no_memory memory)
          | inr checked ↦ elim checked [
            | inl unserved ↦ absurd (unserved.0 serves)
            | inr later ↦ elim later.1 [
              | inl axes ↦ absurd (axes.0 selected.axes)
              | inr within ↦ elim within.1 [
                | inl outside ↦ absurd (outside.0 selected.within)
                | inr counted ↦ elim counted.1 [
                  | inl too_many ↦ absurd (too_many.0 selected.counted)
                  | inr answer ↦ elim answer.1 [
                    | inl large ↦ inl large
                    | inr object ↦ elim (object.1 t) [
                      | inl fault ↦ absurd (no_fault fault.0)
                      | inr found ↦ elim found [
                        | inl outside ↦ absurd (outside.0 (HasInterval-nested offset size outer contents fits (there t)))
                        | inr read ↦ inr (object.0, rw nested at read.1)
                      ]
                    ]
                  ]
                ]
              ]
            ]
          ]
        ]

    -- and what becomes of it is one of the places of the slot
    pub positions_refused : (k : ℕ) → requested.points ≢ [] → RefusedBy (ObjectRefusals old new (RefusesPositions (AnswerRefusals codec.answerable codec.read_refusals) inner_cells g.shape (interval_part outer contents) (InRange offset size) positions k)) r
    positions_refused k some =
        elim (is_memory e) [
          | inl memory ↦ inl (is ∙ ap stored_refusal memory)
          | inr no_memory ↦ inr (λ t. elim (lawful serves t selected.axes selected.within (HasInterval-nested offset size outer contents fits (there t))) [
            | inl fault ↦ inl (is ∙ ap stored_refusal fault.0, fault.1)
            | inr law ↦ inr (
              some_numbers g.shape requested.points some,
              record {
                inner = e;
                tested = rw (position_points-numbers_of g.shape requested.points inside) (tested t no_memory (no_fault _ _ e law));
                lawful = rw cells_of_positions-numbers_of (rw nested at law);
                no_memory = no_memory;
                passed_on = is;
              },
            )
          ])
        ]
