use Rattle.std.proofs.Common.{◌≡◌, ℕ, ◌+◌, ◌-◌, ◌<◌, List, [], ◌++◌, length, get_or, take, drop, arith, ap, ◌∙◌}
use Rattle.std.proofs.lemmas.List.{length-append, length-drop, length-take-le, take_all, drop_all, append-nil}
use Rattle.std.proofs.Math.Seq.{take-append_seam, drop-append_seam}
use Rattle.std.specs.List.{slice_range}
use Rattle.parts_arrays.specs.Arrays.{AreOffsets, parts}
use Rattle.parts_arrays.proofs.ArrayLaws.{offset_within}
use Rattle.parts_arrays.proofs.PartLaws.{AreAdded, end_of_part, moved_after}
use Rattle.parts_arrays.proofs.array_bytes.builder.push_parts.Goals as goal
use Rattle.parts_arrays.proofs.array_bytes.builder.push_parts.Goals.{After-slice_mut, After-move_offsets}

-- what was added behind a list is what stands after it
appended : (old added items : List ℕ) (held len : ℕ) → items ≡ old ++ added → held ≡ length old → len ≡ length items → slice_range items held len ≡ added
appended old added items held len is h l =
    let long : length items ≡ length old + length added = ap length is ∙ length-append old added in
    let rest : drop held items ≡ added = rw (is, h) (drop-append_seam old added) in
    ap (take (len - held)) rest ∙ take_all (len - held) added (omega arith)

-- a list that was written over from a place on
abbrev front_over : ℕ → List ℕ → List ℕ → List ℕ
front_over held items moved = take held items ++ (moved ++ drop (length moved) (drop held items))

abbrev written_over : ℕ → List ℕ → List ℕ → List ℕ
written_over held items moved = front_over held items moved ++ drop (length (front_over held items moved)) items

written_back : (old added items moved : List ℕ) (held len : ℕ) → items ≡ old ++ added → held ≡ length old → len ≡ length items → length moved ≡ length added
    → take len (written_over held items moved) ≡ old ++ moved
written_back old added items moved held len is h l m =
    let long : length items ≡ length old + length added = ap length is ∙ length-append old added in
    let front : take held items ≡ old = rw (is, h) (take-append_seam old added) in
    let past : drop (length moved) (drop held items) ≡ [] = drop_all (length moved) (drop held items) (omega (arith, length-drop held items)) in
    let whole : length (old ++ moved) ≡ len = omega (arith, length-append old moved) in
    rw (front, past, append-nil moved, ← whole) (take-append_seam (old ++ moved) (drop (length (old ++ moved)) items))

-- the copied bytes are as many as the last offset tells
joined : (from ends old new : List ℕ) (first count : ℕ) → AreOffsets ends (length from) → first + count < length ends
    → new ≡ old ++ slice_range from (get_or ends first 0) (get_or ends (first + count) 0)
    → length new ≡ length old + (get_or ends (first + count) 0 - get_or ends first 0)
joined from ends old new first count ok fits is =
    let a = get_or ends first 0 in
    let z = get_or ends (first + count) 0 in
    let within = offset_within ends (length from) (first + count) ok fits in
    let taken : length (slice_range from a z) ≡ z - a = length-take-le (z - a) (drop a from) (omega (arith, length-drop a from, within)) in
    ap length is ∙ (length-append old (slice_range from a z) ∙ ap (λ n. length old + n) taken)

-- as many offsets are copied as there are parts
length-copied : (ends : List ℕ) (first count : ℕ) → first + count < length ends → length (slice_range ends (first + 1) (first + count + 1)) ≡ count
length-copied ends first count fits =
    length-take-le (first + count + 1 - (first + 1)) (drop (first + 1) ends) (omega (arith, length-drop (first + 1) ends)) ∙ omega arith

-- the copied offsets stand after the others
copied : (c : After-slice_mut) → c.extend_from_slice-2.new.self.items ≡ c.args.offsets.now.items ++ slice_range c.args.ends.now (c.args.first + 1) (c.args.first + c.args.count + 1)
copied c =
    c.in-Ok.ensures.items ∙ ap (λ ys. ys ++ slice_range c.args.ends.now (c.args.first + 1) (c.args.first + c.args.count + 1)) c.reserve.ensures.items

borrowed : (c : After-slice_mut) → c.slice_mut.result.now ≡ slice_range c.args.ends.now (c.args.first + 1) (c.args.first + c.args.count + 1)
borrowed c =
    let added = slice_range c.args.ends.now (c.args.first + 1) (c.args.first + c.args.count + 1) in
    c.slice_mut.ensures.value
    ∙ appended c.args.offsets.now.items added c.extend_from_slice-2.new.self.items c.len-held.result _ (copied c) (omega (arith, c.len-held.ensures)) (omega arith)

-- the copied bytes stand after the others
bytes_copied : (c : After-slice_mut) → c.extend_from_slice.new.self.items
    ≡ c.args.bytes.now.items ++ slice_range c.args.from.now (get_or c.args.ends.now c.args.first 0) (get_or c.args.ends.now (c.args.first + c.args.count) 0)
bytes_copied c = c.in_ok-extend_from_slice.ensures.items ∙ ap (λ ys. c.args.bytes.now.items ++ ys) c.parts_at.ensures

pub move_offsets-requires : goal.move_offsets-requires
move_offsets-requires c = λ k d lt.
    let at = (goal.at.move_offsets-requires c).After-slice_mut in
    let ends = c.args.ends.now in
    let are = borrowed at in
    let below : k < c.args.count = omega (arith, ap length are, length-copied ends c.args.first c.args.count c.requires.within, lt) in
    let end = end_of_part ends c.args.from.now c.args.first c.args.count k d c.requires.ends c.requires.within below in
    let long = joined c.args.from.now ends c.args.bytes.now.items c.extend_from_slice.new.self.items c.args.first c.args.count c.requires.ends c.requires.within
    (bytes_copied at) in
    rw are (end.past, omega (arith, end.past, end.within, long, c.len-start.ensures, c.extend_from_slice.new.self.ok.0))

-- all parts were added
whole : (c : After-move_offsets) → c.slice_mut.result.now ≡ slice_range c.args.ends.now (c.args.first + 1) (c.args.first + c.args.count + 1)
    → c.extend_from_slice.new.self.items ≡ c.args.bytes.now.items ++ slice_range c.args.from.now (get_or c.args.ends.now c.args.first 0) (get_or c.args.ends.now (c.args.first + c.args.count) 0)
    → AreAdded (c.args.offsets.now.items ++ c.move_offsets.new.offsets) c.extend_from_slice.new.self.items c.args.ends.now c.args.from.now
    c.args.first c.args.count (parts c.args.offsets.now.items c.args.bytes.now.items) c.args.bytes.now.items
whole c borrowed bytes =
    let a = get_or c.args.ends.now c.args.first 0 in
    let copies = slice_range c.args.ends.now (c.args.first + 1) (c.args.first + c.args.count + 1) in
    let many : length c.move_offsets.new.offsets ≡ c.args.count =
    c.move_offsets.auto.offsets ∙ (ap length borrowed ∙ length-copied c.args.ends.now c.args.first c.args.count c.requires.within) in
    let start : c.len-start.result ≡ length c.args.bytes.now.items = omega (arith, c.len-start.ensures) in
    moved_after c.args.offsets.now.items c.move_offsets.new.offsets c.args.ends.now c.args.from.now c.args.first c.args.count c.args.bytes.now.items _
    c.requires.offsets c.requires.ends c.requires.within bytes many
    (λ k lt. c.move_offsets.ensures k (omega (arith, many))
    ∙ (ap (λ n. n + (get_or c.slice_mut.result.now k 0 - a)) start ∙ ap (λ ys. length c.args.bytes.now.items + (get_or ys k 0 - a)) borrowed))

-- the offsets are those that there were and the moved ones
written : (c : After-move_offsets) → c.extend_from_slice-2.new.self.items ≡ c.args.offsets.now.items ++ slice_range c.args.ends.now (c.args.first + 1) (c.args.first + c.args.count + 1)
    → c.slice_mut.result.now ≡ slice_range c.args.ends.now (c.args.first + 1) (c.args.first + c.args.count + 1)
    → take c.extend_from_slice-2.new.self.len (written_over c.len-held.result c.extend_from_slice-2.new.self.items c.move_offsets.new.offsets)
    ≡ c.args.offsets.now.items ++ c.move_offsets.new.offsets
written c copied borrowed =
    written_back c.args.offsets.now.items _ c.extend_from_slice-2.new.self.items c.move_offsets.new.offsets c.len-held.result c.extend_from_slice-2.new.self.len copied
    (omega (arith, c.len-held.ensures)) (omega arith) (c.move_offsets.auto.offsets ∙ ap length borrowed)

pub returns-clause-offsets : goal.returns-clause-offsets
returns-clause-offsets c =
    let b = (goal.at.returns-clause-offsets c).After-slice_mut in
    let m = (goal.at.returns-clause-offsets c).After-move_offsets in
    rw (written m (copied b) (borrowed b)) (whole m (borrowed b) (bytes_copied b)).are_offsets

pub returns-clause-ok : goal.returns-clause-ok
returns-clause-ok c =
    let b = (goal.at.returns-clause-ok c).After-slice_mut in
    let m = (goal.at.returns-clause-ok c).After-move_offsets in
    rw (written m (copied b) (borrowed b)) (whole m (borrowed b) (bytes_copied b)).so_far
