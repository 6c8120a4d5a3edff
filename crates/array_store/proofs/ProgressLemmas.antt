-- A subset that is written chunk by chunk.
use Rattle.std.proofs.Common.{◌≡◌, ◌≢◌, ℕ, ◌<◌, ◌≤◌, ◌^◌, List, [], ◌∷◌, ◌++◌, Option, Some, Result, Ok, Err, IfErr, OnOk, inl, inr, length, get_or, refl, sym, ap, subst, ◌∙◌, arith}
use Rattle.std.proofs.lemmas.Bool.{cases_eq}
use Rattle.std.proofs.lemmas.Grind.{get_or_default_zero}
use Rattle.std.proofs.lemmas.List.{get_or_append_left, length-append}
use Rattle.std.proofs.lemmas.List.Elements.{Contains-append_left, Contains-append_right, Contains-append_cases}
use Rattle.std.proofs.Math.Seq.{get_or-append_seam}
use Rattle.std.specs.List.{All, Contains}
use Rattle.std.specs.Result.{IsErrAnd}
use Rattle.parts_errors.specs.Words.{Bytes}
use Rattle.parts_row_major.specs.Numbering.{AllPositive, count_of, IsInside}
use Rattle.parts_row_major.specs.Subsets.{Subset, LiesIn, number_in, point_in}
use Rattle.parts_row_major.proofs.PieceLaws.{number_in_below}
use Rattle.parts_subsets.specs.Grid.{grid_of}
use Rattle.parts_subsets.specs.Touched.{AreTouched}
use Rattle.parts_subsets.proofs.GridLaws.{subchunk_number-below}
use Rattle.codec_traits.specs.Meanings.{Meaning}
use Rattle.array_fields.specs.ChunkKeys.{chunk_key}
use Rattle.array_grid.proofs.RoundingLemmas.{inside_whole}
use Rattle.array_store.specs.ArrayElements.{element_at}
use Rattle.array_store.specs.ArrayWrites.{IsArrayWritten, IsFaultAt, IsWriteStopped, key_at, chunk_number}
use Rattle.array_store.specs.declared.error.ArrayError.{ArrayError}
use Rattle.array_store.specs.declared.format.ArrayFormat.{ArrayFormat}
use Rattle.array_store.specs.steps.Writing.{whole_of, touched_key, AreOtherChunksKept, IsChunkWritten, AreWrittenTo, AreStoppedAt}
use Rattle.array_store.proofs.PlaceLemmas.{touched_same}
use Rattle.array_store.proofs.WriteLemmas.{divides, inside, point_within, chunk_of_number, coordinates_of_chunk, other_key, element_kept}

-- a refusal that `?` passes on
pub passed_error : {T : Type 0} (r : Result T ArrayError) (e : ArrayError) (P : ArrayError → Type 0) → IsErrAnd r (λ x. x ≡ e) → P e → IfErr r P
passed_error (Ok x) e P is h = tt
passed_error (Err x) e P is h = subst P (sym is) h

pub both_ok : {T E : Type 0} {P Q R : Type 0} (r : Result T E) → OnOk r P → OnOk r Q → (P → Q → R) → OnOk r R
both_ok (Ok x) p q f = f p q
both_ok (Err x) p q f = tt

pub told_err : {T E : Type 0} {P Q : E → Type 0} (r : Result T E) → IfErr r P → ((e : E) → P e → Q e) → IfErr r Q
told_err (Ok x) p f = tt
told_err (Err x) p f = f x p

-- a list with one more number
pub listed_more : (xs ys : List ℕ) (n i : ℕ) → ((j : ℕ) → j < length xs → get_or ys j 0 ≡ get_or xs j 0) → get_or ys (length xs) 0 ≡ n → i < length (xs ++ n ∷ [])
    → get_or ys i 0 ≡ get_or (xs ++ n ∷ []) i 0
listed_more xs ys n i same last few = elim (cases_eq i (length xs)) [
  | inl at ↦ ap (λ j. get_or ys j 0) at ∙ last ∙ sym (get_or-append_seam xs n [] 0) ∙ ap (λ j. get_or (xs ++ n ∷ []) j 0) (sym at)
  | inr before ↦
      let under : i < length xs = omega (arith, few, length-append xs (n ∷ []), before) in
      same i under ∙ sym (get_or_append_left xs (n ∷ []) 0 i under)
]

last_in : (xs : List ℕ) (n x : ℕ) → x ≡ n → Contains (xs ++ n ∷ []) x
last_in xs n x is = Contains-append_right xs (n ∷ []) x (0, omega arith, sym is)

only_last : (n x : ℕ) → Contains (n ∷ []) x → x ≡ n
only_last n x (k, few, is) = let first : k ≡ 0 = omega (arith, few) in sym (ap (λ j. get_or (n ∷ []) j x) (sym first) ∙ is)

-- chunks that have been written, one after the other
module _ (format : ArrayFormat) (subset : Subset) (update : ℕ → Bytes) where
  pub write_none : (elements : List ℕ → Option Bytes) → AreWrittenTo format subset update [] elements elements
  write_none elements = record { done = λ q few there. absurd (omega (arith, there.1)); left = λ point within apart. refl }

  module _ (written : List ℕ) (number : ℕ) (old mid new : List ℕ → Option Bytes) (before : AreWrittenTo format subset update written old mid)
      (after : IsChunkWritten format subset update number mid new)
      (within : (q : ℕ) → q < count_of subset.shape → IsInside (point_in subset q) (whole_of format)) where
    done_more : (q : ℕ) → q < count_of subset.shape → Contains (written ++ number ∷ []) (chunk_number format (point_in subset q)) → new (point_in subset q) ≡ Some (update q)
    done_more q few there = elim (cases_eq (chunk_number format (point_in subset q)) number) [
      | inl is ↦ after.here q few is
      | inr other ↦ elim (Contains-append_cases written (number ∷ []) (chunk_number format (point_in subset q)) there) [
        | inl earlier ↦
            after.others (point_in subset q) (within q few) (λ r less at one. other (ap (chunk_number format) one ∙ at))
            ∙ before.done q few earlier
        | inr last ↦ absurd (other (only_last number (chunk_number format (point_in subset q)) last))
      ]
    ]

    left_more : (point : List ℕ) → IsInside point (whole_of format)
        → ((q : ℕ) → q < count_of subset.shape → Contains (written ++ number ∷ []) (chunk_number format (point_in subset q)) → point ≢ point_in subset q) → new point ≡ old point
    left_more point here apart =
        after.others point here (λ q few is. apart q few (last_in written number (chunk_number format (point_in subset q)) is))
        ∙ before.left point here (λ q few there. apart q few (Contains-append_left written (number ∷ []) (chunk_number format (point_in subset q)) there))

    pub write_more : AreWrittenTo format subset update (written ++ number ∷ []) old new
    write_more = record { done = done_more; left = left_more }

  -- a refusal that changes nothing
  pub stop_here : (written : List ℕ) (error : ArrayError) (old new : List ℕ → Option Bytes) → AreWrittenTo format subset update written old new
      → AreStoppedAt format subset update written error old new
  stop_here written error old new before = record { done = before.done; left = λ point within apart sound. before.left point within apart }

-- the chunks that a subset touches, by their keys
module _ (format : ArrayFormat) (m : Meaning) (subset : Subset) (same : length format.shape.now ≡ length format.chunk.now)
    (some : AllPositive format.chunk.now) (lies : LiesIn subset format.shape.now) (small : All (λ axis. axis < 2 ^ 64) (whole_of format))
    (touched : List ℕ) (are : AreTouched (whole_of format) format.chunk.now subset touched) where
  pub within : (q : ℕ) → q < count_of subset.shape → IsInside (point_in subset q) (whole_of format)
  within = point_within format m subset same some lies small

  -- a point of the subset lies in the chunk with a place
  touching : (place : ℕ) → place < length touched
      → (q : ℕ) × (q < count_of subset.shape) × (chunk_number format (point_in subset q) ≡ get_or touched place 0)
  touching place below =
      let found = are.touched place below in
      (found.0, found.1, sym (chunk_of_number format m subset same some lies small (point_in subset found.0) (within found.0 found.1)) ∙ found.2)

  chunk_below : (place : ℕ) → place < length touched → get_or touched place 0 < count_of (grid_of (whole_of format) format.chunk.now)
  chunk_below place below =
      let found = are.touched place below in
      rw (← found.2) (subchunk_number-below (whole_of format) format.chunk.now (divides format m subset same some lies small) (number_in subset (whole_of format) found.0)
      (number_in_below subset (whole_of format) found.0 (inside format m subset same some lies small) found.1))

  -- its key is that of the chunk with the place
  pub touched_point : (place : ℕ) → place < length touched
      → (q : ℕ) × (q < count_of subset.shape) × (touched_key format touched place ≡ key_at format (point_in subset q))
  touched_point place below =
      let found = touching place below in
      let coordinates = coordinates_of_chunk format m subset same some lies small (get_or touched place 0) (point_in subset found.0) (within found.0 found.1) found.2 in
      (found.0, found.1, ap (chunk_key format.keys) (sym coordinates))

  -- a key of no chunk of the subset is not the key of the chunk with a place
  pub not_touched : (place : ℕ) (key : Bytes) → place < length touched → ((q : ℕ) → q < count_of subset.shape → key ≢ key_at format (point_in subset q))
      → key ≢ touched_key format touched place
  not_touched place key below apart at =
      let found = touched_point place below in
      apart found.0 found.1 (at ∙ found.2)

  -- every point of the subset lies in one of the chunks
  pub all_touched : (written : List ℕ) → length written ≡ length touched → ((i : ℕ) → i < length written → get_or touched i 0 ≡ get_or written i 0)
      → (q : ℕ) → q < count_of subset.shape → Contains written (chunk_number format (point_in subset q))
  all_touched written counted listed q few =
      let point = point_in subset q in
      let number = chunk_number format point in
      let found = are.all number (q, few, chunk_of_number format m subset same some lies small point (within q few)) in
      let under : found.0 < length written = omega (arith, found.1, counted) in
      (found.0, under, get_or_default_zero written found.0 number under ∙ sym (listed found.0 under) ∙ found.2)

  -- a chunk of the list has another key than the one with the place behind
  listed_key : (written : List ℕ) (q : ℕ) → q < count_of subset.shape → length written < length touched
      → ((i : ℕ) → i < length written → get_or touched i 0 ≡ get_or written i 0) → Contains written (chunk_number format (point_in subset q))
      → key_at format (point_in subset q) ≢ touched_key format touched (length written)
  listed_key written q few more listed (i, below, is) =
      let number = chunk_number format (point_in subset q) in
      let rises = are.rising i (length written) below more in
      let here : get_or touched i 0 ≡ number = listed i below ∙ sym (get_or_default_zero written i number below) ∙ is in
      other_key format m subset same some lies small (get_or touched (length written) 0) (point_in subset q) (chunk_below (length written) more) (within q few)
      (λ at. omega (arith, rises, here, at))

  -- a refusal at the chunk behind those of the list
  pub stopped : (update : ℕ → Bytes) (written : List ℕ) (error : ArrayError) (old : List ℕ → Option Bytes) (mid new : Bytes → Option Bytes) → length written < length touched
      → ((i : ℕ) → i < length written → get_or touched i 0 ≡ get_or written i 0)
      → AreWrittenTo format subset update written old (element_at mid format m.cells)
      → AreOtherChunksKept format subset (length written) mid new → ((key : Bytes) → ¬ IsFaultAt error key → new key ≡ mid key)
      → AreStoppedAt format subset update written error old (element_at new format m.cells)
  stopped update written error old mid new more listed before others kept = record {
    done = λ q few there.
        element_kept format m subset same some lies small mid new m.cells (point_in subset q)
        (others touched are (key_at format (point_in subset q)) (listed_key written q few more listed there))
        ∙ before.done q few there;
    left = λ point here apart sound.
        element_kept format m subset same some lies small mid new m.cells point (kept (key_at format point) sound) ∙ before.left point here apart;
  }

  -- all chunks have been written
  pub all_written : (update : ℕ → Bytes) (written : List ℕ) (old new : List ℕ → Option Bytes) → length written ≡ length touched
      → ((i : ℕ) → i < length written → get_or touched i 0 ≡ get_or written i 0) → AreWrittenTo format subset update written old new
      → IsArrayWritten old new format.shape.now subset update
  all_written update written old new counted listed to = record {
    inside = λ q few. to.done q few (all_touched written counted listed q few);
    outside = λ point here apart. to.left point (inside_whole point format.shape.now format.chunk.now same some here) (λ q few there. apart q few);
  }

  -- a refusal, as a caller sees it
  pub told : (update : ℕ → Bytes) (written : List ℕ) (error : ArrayError) (old new : Bytes → Option Bytes) → length written ≤ length touched
      → ((xs : List ℕ) → AreTouched (whole_of format) format.chunk.now subset xs → (i : ℕ) → i < length written → get_or xs i 0 ≡ get_or written i 0)
      → AreStoppedAt format subset update written error (element_at old format m.cells) (element_at new format m.cells)
      → IsWriteStopped format m.cells subset update written error old new
  told update written error old new few listed at = record {
    first = λ xs same_ones.
        let one : xs ≡ touched = touched_same (whole_of format) format.chunk.now subset xs touched same_ones are in
        (omega (arith, few, ap length one), listed xs same_ones);
    inside = at.done;
    outside = λ point here apart sound. at.left point (inside_whole point format.shape.now format.chunk.now same some here) apart sound;
  }
