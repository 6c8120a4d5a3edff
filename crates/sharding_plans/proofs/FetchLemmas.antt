-- Ranges in which slices are fetched, one slice after the other.
use Rattle.std.proofs.Common.{◌≡◌, ℕ, ◌+◌, ◌-◌, ◌<◌, ◌≤◌, max, List, [], ◌∷◌, ◌++◌, length, get_or, take, inl, inr, refl, sym, ap, ◌∙◌, subst, arith}
use Rattle.std.specs.List.{All, AllAdjacentBelow, Contains}
use Rattle.std.specs.List.Sorted.{IsNonDecreasingBy, IsPermutation}
use Rattle.std.proofs.lemmas.Bool.{cases_eq}
use Rattle.std.proofs.lemmas.Bool.Decides.{leb_tells}
use Rattle.std.proofs.lemmas.List.{get_or_append_left, get_or-append-add, get_or_default, length_push, take_more, take_all}
use Rattle.std.proofs.lemmas.List.Elements.{All-nil, All-push, All-contains, All-weaker, Contains-push, Contains-push_cases, Contains-append_left}
use Rattle.std.proofs.lemmas.List.Sorted.{Contains-permutation, All-permutation, IsPermutation-sym, IsNonDecreasingBy-from_all_adjacent}
use Rattle.storage_handles.specs.declared.bytes.Interval.{Interval}
use Rattle.sharding_plans.specs.Fetches.{end_of, Fits, IsHeldBy, IsFetched, IsNear, IsFetch, AreApart, AreFetches}

-- the ranges of more slices
more_slices : (gap : ℕ) (slices more : List Interval) (range : Interval) → ((slice : Interval) → Contains slices slice → Contains more slice)
    → IsFetch gap slices range → IsFetch gap more range
more_slices gap slices more range has is = record {
  first = is.first;
  has_first = has is.first is.has_first;
  begins = is.begins;
  last = is.last;
  has_last = has is.last is.has_last;
  ends = is.ends;
  near = λ p from below. let n = is.near p from below in (n.0, has n.0 n.1, n.2);
}

-- a slice is a range
one_slice : (gap : ℕ) (slices : List Interval) (slice : Interval) → Contains slices slice → IsFetch gap slices slice
one_slice gap slices slice has = record {
  first = slice;
  has_first = has;
  begins = refl;
  last = slice;
  has_last = has;
  ends = refl;
  near = λ p from below. (slice, has, (from, omega (arith, below)));
}

pub no_fetches : (gap : ℕ) → AreFetches gap [] []
no_fetches gap = record {
  held = All-nil (IsFetched []);
  each = All-nil (IsFetch gap []);
  apart = λ k d below. absurd (omega (arith, below));
}

pub first_fetch : (gap : ℕ) (slice : Interval) → AreFetches gap (slice ∷ []) (slice ∷ [])
first_fetch gap slice = record {
  held = All-push (IsFetched (slice ∷ [])) [] slice (All-nil (IsFetched (slice ∷ []))) (slice, Contains-push [] slice, (omega arith, omega arith));
  each = All-push (IsFetch gap (slice ∷ [])) [] slice (All-nil (IsFetch gap (slice ∷ []))) (one_slice gap (slice ∷ []) slice (Contains-push [] slice));
  apart = λ k d below. absurd (omega (arith, below));
}

-- the last of a list, and those before it
at_end : (xs : List Interval) (x d : Interval) (k : ℕ) → k ≡ length xs → get_or (xs ++ x ∷ []) k d ≡ x
at_end xs x d k e =
    let at : k ≡ length xs + 0 = omega (arith, e) in
    ap (λ n. get_or (xs ++ x ∷ []) n d) at ∙ get_or-append-add xs (x ∷ []) 0 d

before_end : (xs : List Interval) (x d : Interval) (k : ℕ) → k < length xs → get_or (xs ++ x ∷ []) k d ≡ get_or xs k d
before_end xs x d k lt = get_or_append_left xs (x ∷ []) d k lt

-- neighbours in a list to whose end something is put
apart_push : (gap : ℕ) (xs : List Interval) (next : Interval) → AllAdjacentBelow (AreApart gap) xs (length xs)
    → ((k : ℕ) (d : Interval) → k + 1 ≡ length xs → AreApart gap (get_or xs k d) next)
    → AllAdjacentBelow (AreApart gap) (xs ++ next ∷ []) (length (xs ++ next ∷ []))
apart_push gap xs next known last k d below =
    let here : k < length xs = omega (arith, below, length_push xs next) in
    elim (cases_eq (k + 1) (length xs)) [
      | inl e ↦ rw (before_end xs next d k here, at_end xs next d (k + 1) e) (last k d e)
      | inr other ↦
          let inner : k + 1 < length xs = omega (arith, here, other) in
          rw (before_end xs next d k here, before_end xs next d (k + 1) inner) (known k d inner)
    ]

-- neighbours but the last
apart_pop : (gap : ℕ) (xs : List Interval) (last : Interval) → AllAdjacentBelow (AreApart gap) (xs ++ last ∷ []) (length (xs ++ last ∷ []))
    → AllAdjacentBelow (AreApart gap) xs (length xs)
apart_pop gap xs last known k d below =
    let here : k < length xs = omega (arith, below) in
    rw (before_end xs last d k here, before_end xs last d (k + 1) below) at (known k d (omega (arith, below, length_push xs last)))

module _ (gap : ℕ) (slices fetches : List Interval) (current slice : Interval) (known : AreFetches gap slices (fetches ++ current ∷ [])) where
  -- the next slice is apart: it begins a range
  pub next_fetch : AreApart gap current slice → AreFetches gap (slices ++ slice ∷ []) ((fetches ++ current ∷ []) ++ slice ∷ [])
  next_fetch apart =
      let more = slices ++ slice ∷ [] in
      let all = (fetches ++ current ∷ []) ++ slice ∷ [] in
      record {
        held = All-push (IsFetched all) slices slice
            (All-weaker (IsFetched (fetches ++ current ∷ [])) (IsFetched all) (λ it h. (h.0, Contains-append_left (fetches ++ current ∷ []) (slice ∷ []) h.0 h.1, h.2)) slices known.held)
            (slice, Contains-push (fetches ++ current ∷ []) slice, (omega arith, omega arith));
        each = All-push (IsFetch gap more) (fetches ++ current ∷ []) slice
            (All-weaker (IsFetch gap slices) (IsFetch gap more) (λ it h. more_slices gap slices more it (λ s c. Contains-append_left slices (slice ∷ []) s c) h) (fetches ++ current ∷ []) known.each)
            (one_slice gap more slice (Contains-push slices slice));
        apart = apart_push gap (fetches ++ current ∷ []) slice known.apart (λ k d e. rw (at_end fetches current d k (omega (arith, e, length_push fetches current))) apart);
      }

  -- it is not: it lies in the last range, which may become longer
  module _ (wide : Interval) (from : current.offset ≤ slice.offset) (near : ¬ (AreApart gap current slice)) (begins : wide.offset ≡ current.offset)
      (ends : end_of wide ≡ max (end_of current) (end_of slice)) where
    abbrev more : List Interval
    more = slices ++ slice ∷ []

    was : IsFetch gap slices current
    was = All-contains (IsFetch gap slices) (fetches ++ current ∷ []) current known.each (Contains-push fetches current)

    in_wide : (it : Interval) → IsHeldBy it current → IsHeldBy it wide
    in_wide it h = (omega (arith, h.0, begins), omega (arith, h.1, ends))

    held_still : (it : Interval) → IsFetched (fetches ++ current ∷ []) it → IsFetched (fetches ++ wide ∷ []) it
    held_still it h = elim (Contains-push_cases fetches current h.0 h.1) [
      | inl before ↦ (h.0, Contains-append_left fetches (wide ∷ []) h.0 before, h.2)
      | inr last ↦ (wide, Contains-push fetches wide, in_wide it (rw (sym last) at h.2))
    ]

    -- a byte behind the range as it was is of the slice, or of the gap before it
    near_wide : (p : ℕ) → wide.offset ≤ p → p < end_of wide → (it : Interval) × Contains more it × IsNear gap it p
    near_wide p above below = elim (leb_tells (end_of current) p) [
      | inl behind ↦ elim (leb_tells slice.offset p) [
        | inl within ↦ (slice, Contains-push slices slice, (within.1, omega (arith, below, ends, behind.1)))
        | inr before ↦ (was.last, Contains-append_left slices (slice ∷ []) was.last was.has_last, (omega (arith, was.ends, behind.1), omega (arith, was.ends, before.1, near)))
      ]
      | inr inside ↦ let n = was.near p (omega (arith, above, begins)) (omega (arith, inside.1)) in (n.0, Contains-append_left slices (slice ∷ []) n.0 n.1, n.2)
    ]

    whole_wide : IsFetch gap more wide
    whole_wide = elim (leb_tells (end_of slice) (end_of current)) [
      | inl longer ↦ record {
        first = was.first;
        has_first = Contains-append_left slices (slice ∷ []) was.first was.has_first;
        begins = was.begins ∙ sym begins;
        last = was.last;
        has_last = Contains-append_left slices (slice ∷ []) was.last was.has_last;
        ends = omega (arith, was.ends, ends, longer.1);
        near = near_wide;
      }
      | inr shorter ↦ record {
        first = was.first;
        has_first = Contains-append_left slices (slice ∷ []) was.first was.has_first;
        begins = was.begins ∙ sym begins;
        last = slice;
        has_last = Contains-push slices slice;
        ends = omega (arith, ends, shorter.1);
        near = near_wide;
      }
    ]

    pub same_fetch : AreFetches gap more (fetches ++ wide ∷ [])
    same_fetch = record {
      held = All-push (IsFetched (fetches ++ wide ∷ [])) slices slice
          (All-weaker (IsFetched (fetches ++ current ∷ [])) (IsFetched (fetches ++ wide ∷ [])) held_still slices known.held)
          (wide, Contains-push fetches wide, (omega (arith, from, begins), omega (arith, ends)));
      each = All-push (IsFetch gap more) fetches wide
          (All-weaker (IsFetch gap slices) (IsFetch gap more) (λ it h. more_slices gap slices more it (λ s c. Contains-append_left slices (slice ∷ []) s c) h) fetches
          (λ k d lt. rw (before_end fetches current d k lt) at (known.each k d (omega (arith, lt, length_push fetches current)))))
          whole_wide;
      apart = apart_push gap fetches wide (apart_pop gap fetches current known.apart)
          (λ k d e.
          let lt : k < length fetches = omega (arith, e) in
          let was_apart = rw (before_end fetches current d k lt, at_end fetches current d (k + 1) e) at (known.apart k d (omega (arith, e, length_push fetches current))) in
          omega (arith, was_apart, begins));
    }

-- what a read of a list gives behind its end
abbrev none : Interval
none = record { offset = 0; size = 0 }

-- the first slices, in the order of their offsets, are fetched in some ranges and a last one, which may become longer
pub record IsMergedTo (gap : ℕ) (slices : List Interval) (i : ℕ) (fetches : List Interval) (current : Interval) : Type 0 where
  pub fetched : AreFetches gap (take i slices) (fetches ++ current ∷ [])
  pub before : (k : ℕ) (d : Interval) → i ≤ k → k < length slices → current.offset ≤ (get_or slices k d).offset
  pub fits : Fits current

module _ (gap : ℕ) (slices : List Interval) (sorted : IsNonDecreasingBy (λ (slice : Interval). slice.offset) slices) (all_fit : All Fits slices) where
  later : (i : ℕ) (slice : Interval) → i < length slices → slice ≡ get_or slices i none → (k : ℕ) (d : Interval) → i ≤ k → k < length slices
      → slice.offset ≤ (get_or slices k d).offset
  later i slice lt is k d le below =
      let at : get_or slices i none ≡ get_or slices i d = get_or_default slices i none d lt in
      let le' = sorted i k d le below in
      rw (is ∙ at) le'

  slice_fits : (i : ℕ) (slice : Interval) → i < length slices → slice ≡ get_or slices i none → Fits slice
  slice_fits i slice lt is = subst Fits (sym is) (all_fit i none lt)

  pub merged_first : (slice : Interval) → 0 < length slices → slice ≡ get_or slices 0 none → IsMergedTo gap slices 1 [] slice
  merged_first slice some is = record {
    fetched = rw (take_more slices 0 none some, sym is) (first_fetch gap slice);
    before = λ k d le below. later 0 slice some is k d (omega arith) below;
    fits = slice_fits 0 slice some is;
  }

  module _ (i : ℕ) (fetches : List Interval) (current slice : Interval) (lt : i < length slices) (is : slice ≡ get_or slices i none)
      (known : IsMergedTo gap slices i fetches current) where
    pub merged_next : AreApart gap current slice → IsMergedTo gap slices (i + 1) (fetches ++ current ∷ []) slice
    merged_next apart = record {
      fetched = rw (take_more slices i none lt, sym is) (next_fetch gap (take i slices) fetches current slice known.fetched apart);
      before = λ k d le below. later i slice lt is k d (omega (arith, le)) below;
      fits = slice_fits i slice lt is;
    }

    pub merged_same : (wide : Interval) → ¬ (AreApart gap current slice) → wide.offset ≡ current.offset → end_of wide ≡ max (end_of current) (end_of slice)
        → IsMergedTo gap slices (i + 1) fetches wide
    merged_same wide near begins ends = record {
      fetched = rw (take_more slices i none lt, sym is)
          (same_fetch gap (take i slices) fetches current slice known.fetched wide (subst (λ s. current.offset ≤ s.offset) (sym is) (known.before i none (omega arith) lt)) near begins ends);
      before = λ k d le below. omega (arith, begins, known.before k d (omega (arith, le)) below);
      fits = omega (arith, ends, known.fits, slice_fits i slice lt is);
    }

  pub merged_all : (i : ℕ) (fetches : List Interval) (current : Interval) → length slices ≤ i → IsMergedTo gap slices i fetches current → AreFetches gap slices (fetches ++ current ∷ [])
  merged_all i fetches current le known = rw (take_all i slices le) at known.fetched

-- in whichever order
pub fetched_in_any_order : (gap : ℕ) (slices sorted fetches : List Interval) → IsPermutation slices sorted → AreFetches gap sorted fetches → AreFetches gap slices fetches
fetched_in_any_order gap slices sorted fetches perm are = record {
  held = All-permutation (IsFetched fetches) sorted slices (IsPermutation-sym slices sorted perm) are.held;
  each = All-weaker (IsFetch gap sorted) (IsFetch gap slices)
      (λ it h. more_slices gap sorted slices it (λ s c. Contains-permutation sorted slices s (IsPermutation-sym slices sorted perm) c) h) fetches are.each;
  apart = are.apart;
}

-- the range in which a slice lies is the last that does not begin behind it
module _ (gap : ℕ) (fetches : List Interval) (apart : AllAdjacentBelow (AreApart gap) fetches (length fetches)) where
  pub rising : IsNonDecreasingBy (λ (range : Interval). range.offset) fetches
  rising = IsNonDecreasingBy-from_all_adjacent (λ (range : Interval). range.offset) fetches (λ k d below. omega (arith, apart k d below))

  module _ (slice : Interval) (fetched : IsFetched fetches slice) (after : ℕ) (not_behind : (k : ℕ) (d : Interval) → k < after → (get_or fetches k d).offset ≤ slice.offset)
      (behind : (k : ℕ) (d : Interval) → after ≤ k → k < length fetches → slice.offset < (get_or fetches k d).offset) (within : after ≤ length fetches) where
    abbrev n : ℕ
    n = fetched.1.0

    at_n : (d : Interval) → get_or fetches n d ≡ fetched.0
    at_n d = get_or_default fetches n d fetched.0 fetched.1.1 ∙ fetched.1.2

    not_after : n < after
    not_after = elim (leb_tells after n) [
      | inl h ↦
          let b = rw (at_n slice) at (behind n slice h.1 fetched.1.1) in
          absurd (omega (arith, b, fetched.2.0))
      | inr h ↦ h.1
    ]

    not_before : ¬ (n + 1 < after)
    not_before h =
        let a = rw (at_n slice) at (apart n slice (omega (arith, h, within))) in
        omega (arith, a, not_behind (n + 1) slice h, fetched.2.1)

    pub some : 1 ≤ after
    some = omega (arith, not_after)

    pub holds : (after - 1 < length fetches) × IsHeldBy slice (get_or fetches (after - 1) slice)
    holds =
        let is : n ≡ after - 1 = omega (arith, not_after, not_before) in
        let same : fetched.0 ≡ get_or fetches (after - 1) slice = sym (at_n slice) ∙ ap (λ i. get_or fetches i slice) is in
        (omega (arith, is, fetched.1.1), subst (IsHeldBy slice) same fetched.2)
