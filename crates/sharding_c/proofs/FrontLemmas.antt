-- Numbers that stand in front of a room.
use Rattle.std.proofs.Common.{◌≡◌, ◌<◌, ◌≤◌, ◌+◌, ◌-◌, ◌++◌, ◌∙◌, ℕ, List, [], ◌∷◌, length, get_or, set, drop, sym, ap, refl, arith}
use Rattle.std.proofs.lemmas.List.{get_or_append_left, get_or-append-add, get_or-drop, drop-drop, length-append, length-drop}
use Rattle.parts_errors.specs.Words.{Bytes}
use Rattle.sharding_c.specs.Layouts.{AreIndexNumbers, number_at}

module _ (many : ℕ) (front room : List ℕ) (counted : length front ≡ many) (fits : many ≤ length room) where
  pub same_room : length (front ++ drop many room) ≡ length room
  same_room = omega (arith, length-append front (drop many room), length-drop many room, counted, fits)

  pub after_front : (i : ℕ) → many ≤ i → get_or (front ++ drop many room) i 0 ≡ get_or room i 0
  after_front i le =
      let at : length front + (i - many) ≡ i = omega (arith, counted, le) in
      let back : many + (i - many) ≡ i = omega (arith, le) in
      ap (λ n. get_or (front ++ drop many room) n 0) (sym at)
      ∙ (get_or-append-add front (drop many room) (i - many) 0 ∙ (get_or-drop many room (i - many) 0 ∙ ap (λ n. get_or room n 0) back))

  pub are_numbers : (flags : ℕ) (index : Bytes) → ((i : ℕ) → i < many → get_or front i 0 ≡ number_at flags index i)
      → AreIndexNumbers flags many index room (front ++ drop many room)
  are_numbers flags index read = record {
    same_length = same_room;
    numbers = λ i lt. get_or_append_left front (drop many room) 0 i (omega (arith, lt, counted)) ∙ read i lt;
    others = after_front;
  }

-- a number in place of the first one after others
set_after : (front back : List ℕ) (n : ℕ) → 0 < length back → set (front ++ back) (length front) n ≡ front ++ n ∷ drop 1 back
set_after [] [] n some = absurd (omega (arith, some))
set_after [] (first ∷ back) n some = refl
set_after (first ∷ front) back n some = ap (λ rest. first ∷ rest) (set_after front back n some)

pub ended_by : (text room : List ℕ) (n : ℕ) → length text < length room
    → set (text ++ drop (length text) room) (length text) n ≡ text ++ n ∷ drop (length text + 1) room
ended_by text room n fits =
    let some : 0 < length (drop (length text) room) = omega (arith, length-drop (length text) room, fits) in
    set_after text (drop (length text) room) n some ∙ ap (λ rest. text ++ n ∷ rest) (drop-drop 1 (length text) room ∙ ap (λ k. drop k room) (omega arith))
