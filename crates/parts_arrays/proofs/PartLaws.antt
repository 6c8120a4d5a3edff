-- Parts of a list between neighbouring offsets, one more at a time.
use Rattle.std.proofs.Common.{◌≡◌, ℕ, zero, suc, ◌+◌, ◌-◌, ◌<◌, ◌≤◌, List, [], ◌∷◌, ◌++◌, length, get_or, take, drop, refl, ap, sym, ◌∙◌, arith, map, inl, inr}
use Rattle.std.proofs.lemmas.List.{ext_get_or, map-append, drop_at, take_all, drop-append-le, take-append-le, length-drop, length-take-le, length-append, append-nil, append_assoc, length_push, get_or_append_left, get_or_push, get_or-take, get_or-drop, get_or_default}
use Rattle.std.proofs.lemmas.List.FromFn.{map-range_with_len_more, length-range_with_len, get_or-range_with_len, length-map-range_with_len, get_or-map-range_with_len}
use Rattle.std.proofs.lemmas.Bool.{cases_lt}
use Rattle.std.specs.List.{All, range_with_len, slice_range}
use Rattle.std.proofs.lemmas.List.Elements.{All-rest}
use Rattle.std.proofs.lemmas.List.Folds.{drop_split}
use Rattle.std.proofs.Math.Seq.{take-append-add, take-suc}
use Rattle.parts_arrays.specs.Arrays.{AreOffsets, part, parts}
use Rattle.parts_row_major.specs.Numbering.{count_of}
use Rattle.parts_row_major.specs.Subsets.{Subset, number_in}
use Rattle.parts_row_major.specs.Runs.{AreLeft}
use Rattle.parts_row_major.proofs.PieceLaws.{map-map, map_range_same}
use Rattle.parts_row_major.proofs.RunLaws.{left_more, range_split}
use Rattle.parts_arrays.proofs.ArrayLaws.{offset_within, rises_to}

module _ (es : List ℕ) (xs p : List ℕ) (e : ℕ) (ok : AreOffsets es (length xs)) (end : e ≡ length xs + length p) where
  -- the offsets with one more at the end
  pub offsets_more : AreOffsets (es ++ e ∷ []) (length (xs ++ p))
  offsets_more =
      let long = length_push es e in
      record {
        some = omega (arith, long);
        begins = get_or_append_left es (e ∷ []) 0 0 ok.some ∙ ok.begins;
        rises = λ i lt. elim (cases_lt (i + 1) (length es)) [
          | inl below ↦
              let a = get_or_append_left es (e ∷ []) 0 i (omega arith) in
              let b = get_or_append_left es (e ∷ []) 0 (i + 1) below in
              omega (arith, a, b, ok.rises i below)
          | inr past ↦
              let at : length es ≡ i + 1 = omega (arith, long) in
              let a = get_or_append_left es (e ∷ []) 0 i (omega arith) in
              let b = get_or_push es e 0 (i + 1) at in
              let w = offset_within es (length xs) i ok (omega arith) in
              omega (arith, a, b, w)
        ];
        ends =
            let last : length (es ++ e ∷ []) - 1 ≡ length es = omega (arith, long) in
            ap (λ k. get_or (es ++ e ∷ []) k 0) last ∙ (get_or_push es e 0 (length es) refl ∙ (end ∙ sym (length-append xs p)));
      }

  part_before : (k : ℕ) → k < length es - 1 → part (xs ++ p) (es ++ e ∷ []) k ≡ part xs es k
  part_before k lt =
      let a = get_or_append_left es (e ∷ []) 0 k (omega arith) in
      let b = get_or_append_left es (e ∷ []) 0 (k + 1) (omega arith) in
      let i = get_or es k 0 in
      let j = get_or es (k + 1) 0 in
      let in_i = offset_within es (length xs) k ok (omega arith) in
      let in_j = offset_within es (length xs) (k + 1) ok (omega arith) in
      rw (a, b) (ap (take (j - i)) (drop-append-le i xs p in_i) ∙ take-append-le (j - i) (drop i xs) p (omega (arith, length-drop i xs)))

  part_last : part (xs ++ p) (es ++ e ∷ []) (length es - 1) ≡ p
  part_last =
      let a = get_or_append_left es (e ∷ []) 0 (length es - 1) (omega (arith, ok.some)) in
      let next : length es - 1 + 1 ≡ length es = omega (arith, ok.some) in
      let b = get_or_push es e 0 (length es) refl in
      rw (a, next, b, ok.ends, drop_at xs p (length xs) refl) (take_all (e - length xs) p (omega arith))

  -- the parts with one more at the end
  pub parts_more : parts (es ++ e ∷ []) (xs ++ p) ≡ parts es xs ++ p ∷ []
  parts_more =
      let many : length (es ++ e ∷ []) - 1 ≡ length es - 1 + 1 = omega (arith, length_push es e, ok.some) in
      let f = part (xs ++ p) (es ++ e ∷ []) in
      ap (λ m. map f (range_with_len 0 m)) many
      ∙ (map-range_with_len_more f 0 (length es - 1) (length es - 1) (omega arith)
      ∙ (ap (λ ys. ys ++ f (length es - 1) ∷ []) (map_range_same f (part xs es) (length es - 1) [] part_before)
      ∙ ap (λ y. parts es xs ++ y ∷ []) part_last))

pub record TakenMore (f : ℕ → List ℕ) (position : ℕ → ℕ) (i : ℕ) (es xs : List ℕ) : Type 0 where
  pub are_offsets : AreOffsets es (length xs)
  pub so_far : parts es xs ≡ map (λ k. f (position k)) (range_with_len 0 i)

-- one part more is taken
pub taken_more : (f : ℕ → List ℕ) (position : ℕ → ℕ) (i : ℕ) (es xs more added : List ℕ) (newer : List ℕ) (at end : ℕ) → AreOffsets es (length xs) → parts es xs ≡ map (λ k. f (position k)) (range_with_len 0 i)
    → at ≡ position i → added ≡ f at → more ≡ xs ++ added → end ≡ length more → newer ≡ es ++ end ∷ [] → TakenMore f position (i + 1) newer more
taken_more f position i es xs more added newer at end ok so_far a p m e n =
    let long : end ≡ length xs + length added = e ∙ (ap length m ∙ length-append xs added) in
    rw (n, m) (record {
      are_offsets = offsets_more es xs added end ok long;
      so_far = parts_more es xs added end ok long
          ∙ (ap (λ ys. ys ++ added ∷ []) so_far
          ∙ (ap (λ y. map (λ k. f (position k)) (range_with_len 0 i) ++ y ∷ []) (p ∙ ap f a)
          ∙ sym (map-range_with_len_more (λ k. f (position k)) 0 i i (omega arith))));
    })

-- two neighbouring ranges are one
range_join : (s : List ℕ) (a b c : ℕ) → a ≤ b → b ≤ c → b ≤ length s → slice_range s a c ≡ slice_range s a b ++ slice_range s b c
range_join s a b c ab bc within =
    let long : length (slice_range s a b) ≡ b - a = length-take-le (b - a) (drop a s) (omega (arith, length-drop a s)) in
    let steps : c - a ≡ length (slice_range s a b) + (c - b) = omega (arith, long, ab, bc) in
    ap (take (c - a)) (drop_split s a b ab)
    ∙ (ap (λ n. take n (slice_range s a b ++ drop b s)) steps ∙ take-append-add (slice_range s a b) (drop b s) (c - b))

-- a part of which neighbouring ranges are made, and those that were added behind others so far: up to the end of the part with a number
pub record AreAdded (es xs ends from : List ℕ) (first i : ℕ) (old : List (List ℕ)) (start : List ℕ) : Type 0 where
  pub bytes : xs ≡ start ++ slice_range from (get_or ends first 0) (get_or ends (first + i) 0)
  pub are_offsets : AreOffsets es (length xs)
  pub so_far : parts es xs ≡ old ++ map (part from ends) (range_with_len first i)

pub added_none : (es ends from : List ℕ) (first : ℕ) (start : List ℕ) → AreOffsets es (length start)
    → AreAdded es start ends from first 0 (parts es start) start
added_none es ends from first start ok =
    let z : first + 0 ≡ first = omega arith in
    let a = get_or ends first 0 in
    let n : a - a ≡ 0 = omega arith in
    record { bytes = rw (z, n) (sym (append-nil start)); are_offsets = ok; so_far = sym (append-nil (parts es start)) }

pub added_more : (es xs ends from : List ℕ) (first i : ℕ) (old : List (List ℕ)) (start : List ℕ) (e : ℕ) → AreOffsets ends (length from)
    → first + i + 1 < length ends → e ≡ length start + (get_or ends (first + i + 1) 0 - get_or ends first 0)
    → AreAdded es xs ends from first i old start
    → AreAdded (es ++ e ∷ []) (xs ++ part from ends (first + i)) ends from first (i + 1) old start
added_more es xs ends from first i old start e ok lt end h =
    let a = get_or ends first 0 in
    let b = get_or ends (first + i) 0 in
    let c = get_or ends (first + i + 1) 0 in
    let ab = rises_to ends (length from) first i ok (omega arith) in
    let bc = ok.rises (first + i) lt in
    let within = offset_within ends (length from) (first + i + 1) ok lt in
    let p = part from ends (first + i) in
    let p_long : length p ≡ c - b = length-take-le (c - b) (drop b from) (omega (arith, length-drop b from, within)) in
    let before_long : length (slice_range from a b) ≡ b - a = length-take-le (b - a) (drop a from) (omega (arith, length-drop a from, within, bc)) in
    let xs_long : length xs ≡ length start + (b - a) = ap length h.bytes ∙ (length-append start (slice_range from a b) ∙ ap (λ n. length start + n) before_long) in
    let here : e ≡ length xs + length p = omega (arith, end, xs_long, p_long, ab, bc) in
    let next : first + (i + 1) ≡ first + i + 1 = omega arith in
    let f : ℕ → List ℕ = part from ends in
    record {
      bytes =
          rw next (ap (λ ys. ys ++ p) h.bytes
          ∙ (append_assoc start (slice_range from a b) p
          ∙ ap (λ ys. start ++ ys) (sym (range_join from a b c ab bc (omega (arith, within, bc))))));
      are_offsets = offsets_more es xs p e h.are_offsets here;
      so_far =
          parts_more es xs p e h.are_offsets here
          ∙ (ap (λ ys. ys ++ p ∷ []) h.so_far
          ∙ (append_assoc old (map f (range_with_len first i)) (p ∷ [])
          ∙ ap (λ ys. old ++ ys) (sym (map-range_with_len_more f first i (first + i) refl))));
    }

-- a number is the offset where the part with a number ends, no lower than where the first begins nor past where the last ends
pub record IsEnd (ends : List ℕ) (first count k e : ℕ) : Type 0 where
  pub is : e ≡ get_or ends (first + k + 1) 0
  pub past : get_or ends first 0 ≤ e
  pub within : e ≤ get_or ends (first + count) 0

pub end_of_part : (ends from : List ℕ) (first count k d : ℕ) → AreOffsets ends (length from) → first + count < length ends → k < count
    → IsEnd ends first count k (get_or (slice_range ends (first + 1) (first + count + 1)) k d)
end_of_part ends from first count k d ok fits lt =
    let n : first + count + 1 - (first + 1) ≡ count = omega arith in
    let at : first + 1 + k ≡ first + k + 1 = omega arith in
    let is : get_or (slice_range ends (first + 1) (first + count + 1)) k d ≡ get_or ends (first + k + 1) 0 =
    get_or-take (first + count + 1 - (first + 1)) (drop (first + 1) ends) k d (omega arith)
    ∙ (get_or-drop (first + 1) ends k d ∙ (ap (λ j. get_or ends j d) at ∙ get_or_default ends (first + k + 1) d 0 (omega arith))) in
    let here : first + (k + 1) ≡ first + k + 1 = omega arith in
    let past = rw here at (rises_to ends (length from) first (k + 1) ok (omega arith)) in
    let last : first + k + 1 + (count - (k + 1)) ≡ first + count = omega arith in
    let within = rw last at (rises_to ends (length from) (first + k + 1) (count - (k + 1)) ok (omega arith)) in
    record { is = is; past = rw is past; within = rw is within }

-- the offsets where the parts end were moved to end behind others, all up to a number
pub added_all : (es moved ends from : List ℕ) (first i : ℕ) (start : List ℕ) → AreOffsets es (length start) → AreOffsets ends (length from)
    → first + i < length ends → i ≤ length moved
    → ((k : ℕ) → k < i → get_or moved k 0 ≡ length start + (get_or ends (first + k + 1) 0 - get_or ends first 0))
    → (xs : List ℕ) × AreAdded (es ++ take i moved) xs ends from first i (parts es start) start
added_all es moved ends from first zero start ok h below enough are = (start, rw (append-nil es) (added_none es ends from first start ok))
added_all es moved ends from first (suc i) start ok h below enough are =
    let before = added_all es moved ends from first i start ok h (omega arith) (omega arith) (λ k lt. are k (omega arith)) in
    let e = get_or moved i 0 in
    let more : es ++ take (suc i) moved ≡ (es ++ take i moved) ++ e ∷ [] =
    ap (λ ys. es ++ ys) (take-suc moved i 0 (omega arith)) ∙ sym (append_assoc es (take i moved) (e ∷ [])) in
    let next : i + 1 ≡ suc i = omega arith in
    let added = added_more (es ++ take i moved) before.0 ends from first i (parts es start) start e h (omega arith) (are i (omega arith)) before.1 in
    (before.0 ++ part from ends (first + i), rw (more, ← next) added)

-- the offsets were copied, and moved to end behind others
pub moved_after : (es moved ends from : List ℕ) (first count : ℕ) (start new : List ℕ) → AreOffsets es (length start) → AreOffsets ends (length from)
    → first + count < length ends → new ≡ start ++ slice_range from (get_or ends first 0) (get_or ends (first + count) 0) → length moved ≡ count
    → ((k : ℕ) → k < count → get_or moved k 0 ≡ length start + (get_or (slice_range ends (first + 1) (first + count + 1)) k 0 - get_or ends first 0))
    → AreAdded (es ++ moved) new ends from first count (parts es start) start
moved_after es moved ends from first count start new ok h fits is many are =
    let all = added_all es moved ends from first count start ok h fits (omega arith)
    (λ k lt. are k lt ∙ ap (λ e. length start + (e - get_or ends first 0)) (end_of_part ends from first count k 0 h fits lt).is) in
    let whole : take count moved ≡ moved = take_all count moved (omega arith) in
    let bytes : all.0 ≡ new = all.1.bytes ∙ sym is in
    rw (whole, bytes) at all.1

-- a walk over the runs of a subset: some are left, and the parts at the places before them were taken
pub record AreTaken (f : ℕ → List ℕ) (subset : Subset) (shape : List ℕ) (done : ℕ) (runs : List (ℕ × ℕ)) (taken : List (List ℕ)) : Type 0 where
  pub left : AreLeft (number_in subset shape) (count_of subset.shape) done runs
  pub within : All (λ run. run.0 + run.1 ≤ count_of shape) runs
  pub so_far : taken ≡ map (λ k. f (number_in subset shape k)) (range_with_len 0 done)

-- one run more is taken
pub run_taken : (f : ℕ → List ℕ) (subset : Subset) (shape : List ℕ) (done first len : ℕ) (runs rest : List (ℕ × ℕ)) (old new : List (List ℕ))
    → runs ≡ (first, len) ∷ rest → AreTaken f subset shape done runs old → new ≡ old ++ map f (range_with_len first len)
    → AreTaken f subset shape (done + len) rest new
run_taken f subset shape done first len runs rest old new is h more =
    let number = number_in subset shape in
    let next = left_more number (count_of subset.shape) done first len runs rest is h.left in
    let there : map number (range_with_len done len) ≡ range_with_len first len =
    ext_get_or 0 (map number (range_with_len done len)) (range_with_len first len)
    (length-map-range_with_len number done len ∙ sym (length-range_with_len first len))
    (λ k lt.
    let small : k < len = omega (arith, length-map-range_with_len number done len) in
    get_or-map-range_with_len number done len k (done + k) 0 small refl
    ∙ (next.follow k small ∙ sym (get_or-range_with_len first len k 0 small))) in
    let zero : 0 + done ≡ done = omega arith in
    record {
      left = next.left;
      within = All-rest (λ (run : ℕ × ℕ). run.0 + run.1 ≤ count_of shape) (first, len) rest runs is h.within;
      so_far =
          more
          ∙ (ap (λ ys. ys ++ map f (range_with_len first len)) h.so_far
          ∙ (ap (λ ys. map (λ k. f (number k)) (range_with_len 0 done) ++ map f ys) (sym there)
          ∙ (ap (λ ys. map (λ k. f (number k)) (range_with_len 0 done) ++ ys) (map-map f number (range_with_len done len))
          ∙ sym (ap (map (λ k. f (number k))) (range_split 0 done len ∙ ap (λ n. range_with_len 0 done ++ range_with_len n len) zero)
          ∙ map-append (λ k. f (number k)) (range_with_len 0 done) (range_with_len done len)))));
    }
