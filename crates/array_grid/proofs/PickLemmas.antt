-- What words pick lies in the shape.
use Rattle.std.proofs.Common.{◌≡◌, ◌≤◌, ◌<◌, ◌+◌, ◌++◌, ℕ, suc, List, [], ◌∷◌, length, map, take, get_or, arith, refl}
use Rattle.std.specs.List.{All, zip}
use Rattle.std.proofs.lemmas.List.{take_more, take_all}
use Rattle.std.proofs.lemmas.List.Elements.{All-push}
use Rattle.std.specs.declared.ops.Range.{Range}
use Rattle.std.proofs.lemmas.List.{map-append}
use Rattle.std.proofs.lemmas.Slice.Zip.{length-zip, get_or-zip}
use Rattle.parts_row_major.specs.Subsets.{subset_of_ranges, LiesIn}
use Rattle.array_grid.specs.declared.words.Position.{Position}
use Rattle.array_grid.specs.declared.words.Position.TheVariants.{FromStart, FromEnd}
use Rattle.array_grid.specs.declared.words.Word.{Word}
use Rattle.array_grid.specs.declared.words.Word.TheVariants as word
use Rattle.array_grid.specs.Subsets.{place, IsOn, picked, LiesOn, IsForward, each_picked, AllLieOn}

place_within : (position : Position) (axis : ℕ) → IsOn position axis → place position axis ≤ axis
place_within (FromStart count) axis on = on
place_within (FromEnd count) axis on = omega arith

-- what a word picks ends within its axis
end_within : (w : Word) (axis : ℕ) → LiesOn w axis → (picked w axis).end ≤ axis
end_within (word.Coordinate position) axis on = omega (arith, on.1)
end_within (word.Range start end) axis on = place_within end axis on.1
end_within (word.RangeInclusive start last) axis on = omega (arith, on.1.1)
end_within word.Ellipsis axis on = omega arith

-- the facts of the later elements of a list
later : {X : Type 0} (P : X → Type 0) (x : X) (xs : List X) → All P (x ∷ xs) → All P xs
later P x xs all k d lt = all (suc k) d (omega arith)

-- what words pick lies in the shape
pub picked_lie_in : (words : List Word) (shape : List ℕ) → length words ≡ length shape → AllLieOn words shape → All IsForward (each_picked words shape) → LiesIn (subset_of_ranges (each_picked words shape)) shape
picked_lie_in [] [] same on forward = tt
picked_lie_in [] (axis ∷ shape) same on forward = absurd (omega (arith, same))
picked_lie_in (w ∷ words) [] same on forward = absurd (omega (arith, same))
picked_lie_in (w ∷ words) (axis ∷ shape) same on forward =
    let first = on 0 (w, axis) (omega arith) in
    let ordered = forward 0 (picked w axis) (omega arith) in
    (omega (arith, end_within w axis first, ordered), picked_lie_in words shape (omega (arith, same)) (later (λ named. LiesOn named.0 named.1) (w, axis) (zip words shape) on) (later IsForward (picked w axis) (each_picked words shape) forward))

-- the words and axes so far, and one more
one_more : (words : List Word) (shape : List ℕ) (axis : ℕ) (w d : Word) (n : ℕ) → length words ≡ length shape → axis < length shape → w ≡ get_or words axis d → n ≡ get_or shape axis 0
    → take (axis + 1) (zip words shape) ≡ take axis (zip words shape) ++ (w, n) ∷ []
one_more words shape axis w d n same lt we ne =
    rw (we, ne, ← get_or-zip words shape axis (d, 0) (omega (arith, same)) lt) (take_more (zip words shape) axis (d, 0) (omega (arith, length-zip words shape, same)))

pub picked_more : (words : List Word) (shape : List ℕ) (axis : ℕ) (w d : Word) (n : ℕ) (so more : List (Range ℕ)) → length words ≡ length shape → axis < length shape → w ≡ get_or words axis d → n ≡ get_or shape axis 0
    → so ≡ map (λ named. picked named.0 named.1) (take axis (zip words shape)) → more ≡ so ++ picked w n ∷ [] → more ≡ map (λ named. picked named.0 named.1) (take (axis + 1) (zip words shape))
picked_more words shape axis w d n so more same lt we ne before e =
    rw (e, before, one_more words shape axis w d n same lt we ne, map-append (λ (named : Word × ℕ). picked named.0 named.1) (take axis (zip words shape)) ((w, n) ∷ [])) refl

pub on_more : (words : List Word) (shape : List ℕ) (axis : ℕ) (w d : Word) (n : ℕ) → length words ≡ length shape → axis < length shape → w ≡ get_or words axis d → n ≡ get_or shape axis 0
    → All (λ named. LiesOn named.0 named.1) (take axis (zip words shape)) → LiesOn w n → All (λ named. LiesOn named.0 named.1) (take (axis + 1) (zip words shape))
on_more words shape axis w d n same lt we ne before on =
    rw (one_more words shape axis w d n same lt we ne) (All-push (λ (named : Word × ℕ). LiesOn named.0 named.1) (take axis (zip words shape)) (w, n) before on)

-- a word that lies with all others on its axis
pub lies_on_at : (words : List Word) (shape : List ℕ) (axis : ℕ) (d : Word) → length words ≡ length shape → axis < length shape → AllLieOn words shape → LiesOn (get_or words axis d) (get_or shape axis 0)
lies_on_at words shape axis d same lt all =
    rw (get_or-zip words shape axis (d, 0) (omega (arith, same)) lt) at (all axis (d, 0) (omega (arith, length-zip words shape, same)))

-- past the last axis these are all words and axes
pub all_zipped : (words : List Word) (shape : List ℕ) (axis : ℕ) → length words ≡ length shape → length shape ≤ axis → take axis (zip words shape) ≡ zip words shape
all_zipped words shape axis same past = take_all axis (zip words shape) (omega (arith, length-zip words shape, same))
