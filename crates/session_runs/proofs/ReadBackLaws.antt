-- What a run of a write, a reopening, a compaction and a read of the same cells replies.
use Rattle.std.proofs.Common.{◌≡◌, ℕ, ◌<◌, true, false, List, [], ◌∷◌, Option, Some, None, length, get_or, take, map, replicate, refl, ◌≤◌, sym, ap, ◌∙◌, subst, arith}
use Rattle.std.proofs.lemmas.List.{ext_get_or, get_or-replicate, length-replicate, get_or-map, length-map}
use Rattle.std.proofs.lemmas.List.FromFn.{get_or-map-range_with_len, length-map-range_with_len}
use Rattle.std.specs.List.{range_with_len}
use Rattle.parts_errors.specs.Words.{Bytes, Elements}
use Rattle.parts_arrays.specs.ArraySpec.{ArraySpec}
use Rattle.parts_row_major.specs.Numbering.{count_of, number_of}
use Rattle.parts_row_major.specs.Subsets.{Subset, points_of, point_in, number_in}
use Rattle.parts_arrays.specs.Arrays.{Array}
use Rattle.session_runs.specs.Maps.{CellMap, filled, elements_at, IsOverridden}
use Rattle.session_runs.specs.Objects.{Shards, Shows}
use Rattle.session_runs.specs.Runs.{Run, ReopenStep, CompactStep}
use Rattle.session_runs.specs.declared.command.Command.TheVariants.{Write, Read, Compact, Reopen}
use Rattle.session_runs.specs.declared.command.Reply.{Reply}
use Rattle.session_runs.specs.declared.command.Reply.TheVariants.{Done, Cells, Compacted, Refused}
use Rattle.session_runs.proofs.ShownLemmas.{shown_by_each}

-- without an object each cell is the fill value
pub shows_fill : (s : Shards) → Shows s None (filled s.array_spec)
shows_fill s = shown_by_each s.array_spec (filled s.array_spec) (replicate (count_of s.array_spec.shape) (Some s.array_spec.fill)) (length-replicate (count_of s.array_spec.shape) (Some s.array_spec.fill))
    (λ i below. get_or-replicate (count_of s.array_spec.shape) i (Some s.array_spec.fill) None below)

-- what was written over a subset is found there
overridden_back : (g : ArraySpec) (subset : Subset) (update : Elements) (old new : CellMap) → length update ≡ length (points_of subset)
    → IsOverridden g subset update old new → elements_at g new (points_of subset) ≡ update
overridden_back g subset update old new counted over =
    let points = points_of subset in
    let n = count_of subset.shape in
    let many : length points ≡ n = length-map-range_with_len (point_in subset) 0 n in
    let f : List ℕ → Bytes = λ point. new (number_of point g.shape) in
    ext_get_or [] (map f points) update (length-map points f ∙ sym counted) (λ i below.
    let lt : i < n = omega (arith, below, length-map points f, many) in
    let within : i < length points = omega (arith, lt, many) in
    get_or-map f points i [] [] within
    ∙ ap f (get_or-map-range_with_len (point_in subset) 0 n i i [] lt (omega arith))
    ∙ over.inside i lt)

-- a reopening and a compaction leave the map
reopened_same : (r : Reply) (m m' : CellMap) (o o' : Option Bytes) → ReopenStep m o r m' o' → m' ≡ m
reopened_same Done m m' o o' step = step.0
reopened_same (Cells cells) m m' o o' step = absurd step
reopened_same (Compacted b) m m' o o' step = absurd step
reopened_same (Refused e) m m' o o' step = absurd step

compacted_same : (s : Shards) (r : Reply) (m m' : CellMap) (o o' : Option Bytes) → CompactStep s m o r m' o' → m' ≡ m
compacted_same s (Compacted true) m m' o o' step = step.0
compacted_same s (Compacted false) m m' o o' step = step.0.0
compacted_same s (Refused e) m m' o o' step = step.0.0
compacted_same s Done m m' o o' step = absurd step
compacted_same s (Cells cells) m m' o o' step = absurd step

-- the cells that are read are those that were written
read_back : (s : Shards) (subset : Subset) (update cells : Array) (r1 r2 : Reply) (m m' : CellMap) (o o' : Option Bytes)
    → Run s (Write subset update ∷ Reopen ∷ Compact ∷ Read subset ∷ []) m o (Done ∷ r1 ∷ r2 ∷ Cells cells ∷ []) m' o'
    → cells.elements ≡ update.elements
read_back s subset update cells r1 r2 m m' o o' run =
    let m1 = run.0 in
    let reopen = run.3 in
    let compact = reopen.3 in
    let read = compact.3 in
    let same : compact.0 ≡ m1 = compacted_same s r2 reopen.0 compact.0 reopen.1 compact.1 compact.2 ∙ reopened_same r1 m1 reopen.0 run.1 reopen.1 reopen.2 in
    let found : cells.elements ≡ elements_at s.array_spec compact.0 (points_of subset) = read.2.2 in
    found ∙ subst (λ x. elements_at s.array_spec x (points_of subset) ≡ update.elements) (sym same)
    (overridden_back s.array_spec subset update.elements m m1 run.2.0.counted run.2.1)

-- so they are where a run has four replies, of which the first is that the write was done and the last has the cells
pub replied_back : (s : Shards) (subset : Subset) (update cells : Array) (replies : List Reply) (first last : Reply) (m m' : CellMap) (o o' : Option Bytes)
    → 4 ≤ length replies → length replies < 5 → first ≡ get_or replies 0 first → first ≡ Done → last ≡ get_or replies 3 last → last ≡ Cells cells
    → Run s (take (length replies) (Write subset update ∷ Reopen ∷ Compact ∷ Read subset ∷ [])) m o replies m' o'
    → cells.elements ≡ update.elements
replied_back s subset update cells [] first last m m' o o' least most is_first done is_last told run = absurd (omega (arith, least))
replied_back s subset update cells (r0 ∷ []) first last m m' o o' least most is_first done is_last told run = absurd (omega (arith, least))
replied_back s subset update cells (r0 ∷ r1 ∷ []) first last m m' o o' least most is_first done is_last told run = absurd (omega (arith, least))
replied_back s subset update cells (r0 ∷ r1 ∷ r2 ∷ []) first last m m' o o' least most is_first done is_last told run = absurd (omega (arith, least))
replied_back s subset update cells (r0 ∷ r1 ∷ r2 ∷ r3 ∷ r4 ∷ rest) first last m m' o o' least most is_first done is_last told run = absurd (omega (arith, most))
replied_back s subset update cells (r0 ∷ r1 ∷ r2 ∷ r3 ∷ []) first last m m' o o' least most is_first done is_last told run =
    let done_first : r0 ≡ Done = sym is_first ∙ done in
    let cells_last : r3 ≡ Cells cells = sym is_last ∙ told in
    read_back s subset update cells r1 r2 m m' o o' (rw (done_first, cells_last) at run)
