-- The subset of ranges, one range more at a time.
use Rattle.std.proofs.Common.{◌≡◌, ℕ, ◌+◌, ◌-◌, ◌^◌, ◌<◌, ◌≤◌, List, [], ◌∷◌, ◌++◌, All, length, get_or, take, map, refl, sym, arith}
use Rattle.std.proofs.lemmas.List.{take_more, map-append}
use Rattle.std.proofs.lemmas.List.Elements.{All-more, AllZip-push}
use Rattle.std.specs.declared.ops.Range.{Range}
use Rattle.parts_row_major.specs.Subsets.{IsSubset}

-- the starts and lengths of the first ranges, each of which ends no earlier than it starts
pub record RangesSoFar (ranges : List (Range ℕ)) (i : ℕ) (start shape : List ℕ) : Type 0 where
  pub well_formed : IsSubset start shape
  pub starts : start ≡ map (λ range. range.start) (take i ranges)
  pub lengths : shape ≡ map (λ range. range.end - range.start) (take i ranges)
  pub ordered : All (λ range. range.start ≤ range.end) (take i ranges)

map_more : (f : Range ℕ → ℕ) (ranges : List (Range ℕ)) (i : ℕ) (d : Range ℕ) (xs ys : List ℕ) (y : ℕ) → i < length ranges → xs ≡ map f (take i ranges) → y ≡ f (get_or ranges i d) → ys ≡ xs ++ y ∷ [] → ys ≡ map f (take (i + 1) ranges)
map_more f ranges i d xs ys y lt so e more = rw (more, so, e, take_more ranges i d lt) (sym (map-append f (take i ranges) (get_or ranges i d ∷ [])))

pub range_more : (ranges : List (Range ℕ)) (i : ℕ) (d : Range ℕ) (start shape more_start more_shape : List ℕ) (len : ℕ) → i < length ranges → RangesSoFar ranges i start shape
    → (get_or ranges i d).start ≤ (get_or ranges i d).end → (get_or ranges i d).end < 2 ^ 64 → len ≡ (get_or ranges i d).end - (get_or ranges i d).start
    → more_start ≡ start ++ (get_or ranges i d).start ∷ [] → more_shape ≡ shape ++ len ∷ [] → RangesSoFar ranges (i + 1) more_start more_shape
range_more ranges i d start shape more_start more_shape len lt so le fits e s n = record {
  well_formed = rw (s, n) (AllZip-push (λ first many. first + many < 2 ^ 64) start shape (get_or ranges i d).start len so.well_formed (omega arith));
  starts = map_more (λ range. range.start) ranges i d start more_start (get_or ranges i d).start lt so.starts refl s;
  lengths = map_more (λ range. range.end - range.start) ranges i d shape more_shape len lt so.lengths e n;
  ordered = All-more (λ range. range.start ≤ range.end) ranges i d lt so.ordered le;
}
