-- One more receipt, one more seat, one more mark.
use Rattle.std.proofs.Common.{◌≡◌, ◌≤◌, ◌<◌, ◌+◌, ◌↔◌, ℕ, zero, suc, inl, inr, Bool, true, false, List, [], ◌∷◌, ◌++◌, length, take, set, get_or, replicate, Some, refl, ap, sym, ◌∙◌, subst, arith}
use Rattle.std.specs.Prelude.{◌==◌, if◌then◌else◌}
use Rattle.std.specs.List.{All}
use Rattle.std.proofs.lemmas.Grind.{common_steps}
use Rattle.std.proofs.lemmas.Bool.Decides.{nat_tests}
use Rattle.std.proofs.lemmas.List.{append-nil, append_assoc, take_more}
use Rattle.std.proofs.lemmas.List.Elements.{All-head, All-tail, All-append, All-push}
use Rattle.std.proofs.lemmas.Option.{slice_get-get_or}
use Rattle.session_runs.specs.declared.event.Event.{Event}
use Rattle.session_runs.specs.declared.event.Receipt.{Receipt}
use Rattle.shard_sessions.specs.Receipts.{receipts_of, Stands, RiseFrom, times, Agree, IsMismatch}
use Rattle.shard_sessions.specs.steps.Marks.{number_of_mark, mark_at, marks, IsSeatMismatch}

-- ---- lists
pub all_last : {X : Type 0} (P : X → Type 0) (xs : List X) (x : X) → All P (xs ++ x ∷ []) → P x
all_last P [] x h = All-head P x [] h
all_last P (y ∷ xs) x h = all_last P xs x (All-tail P y (xs ++ x ∷ []) h)

pub receipts_of-push : (seats : List (List Receipt)) (seat : List Receipt) → receipts_of (seats ++ seat ∷ []) ≡ receipts_of seats ++ seat
receipts_of-push [] seat = append-nil seat
receipts_of-push (first ∷ seats) seat = ap (λ (rs : List Receipt). first ++ rs) (receipts_of-push seats seat) ∙ sym (append_assoc first (receipts_of seats) seat)

pub length-receipts_of-next : (n : ℕ) (seats : List (List Receipt)) (seat : List Receipt) → n < length seats → seat ≡ get_or seats n seat
    → length (receipts_of (take (n + 1) seats)) ≡ length (receipts_of (take n seats)) + length seat
length-receipts_of-next n seats seat below is =
    let more : take (n + 1) seats ≡ take n seats ++ seat ∷ [] = take_more seats n seat below ∙ ap (λ (x : List Receipt). take n seats ++ x ∷ []) (sym is) in
    rw (more, receipts_of-push (take n seats) seat) (grind (arith, common_steps))

pub length-receipts_of-take : (n : ℕ) (seats : List (List Receipt)) → length (receipts_of (take n seats)) ≤ length (receipts_of seats)
length-receipts_of-take n [] = grind (arith, common_steps)
length-receipts_of-take zero (seat ∷ seats) = omega arith
length-receipts_of-take (suc n) (seat ∷ seats) = grind (arith, common_steps, length-receipts_of-take n seats)

-- ---- places
pub times-append : (place : ℕ) (xs ys : List Receipt) → times place (xs ++ ys) ≡ times place xs + times place ys
times-append place [] ys = omega arith
times-append place (x ∷ xs) ys = omega (arith, times-append place xs ys)

pub times-one : (r : Receipt) → times r.place (r ∷ []) ≡ 1
times-one r = grind (arith, nat_tests)

-- places that rise go on to rise just where the next is above the last
pub rise_more : (low : ℕ) (rs : List Receipt) (r next : Receipt) → RiseFrom low (rs ++ r ∷ []) → RiseFrom low ((rs ++ r ∷ []) ++ next ∷ []) ↔ (r.place + 1 ≤ next.place)
rise_more low [] r next h = (λ more. more.1.0, λ above. (h.0, (above, tt)))
rise_more low (x ∷ rs) r next h =
    let rest = rise_more (x.place + 1) rs r next h.1 in (λ more. rest.0 more.1, λ above. (h.0, rest.1 above))

-- ---- marks
pub mark_below : (b : Bool) → number_of_mark b ≤ 1
mark_below true = omega arith
mark_below false = omega arith

pub marks-set : (seen : List Bool) (at : ℕ) → at < length seen → get_or seen at false ≡ false → marks (set seen at true) ≡ marks seen + 1
marks-set [] at below was = absurd (omega arith)
marks-set (b ∷ seen) zero below was = let none : number_of_mark b ≡ 0 = ap number_of_mark was in omega arith
marks-set (b ∷ seen) (suc at) below was = omega (arith, marks-set seen at (omega arith) was)

pub mark_at-set : (seen : List Bool) (at place : ℕ) → at < length seen → get_or seen at false ≡ false
    → mark_at (set seen at true) place ≡ mark_at seen place + (if at == place then 1 else 0)
mark_at-set [] at place below was = absurd (omega arith)
mark_at-set (b ∷ seen) zero zero below was = let none : number_of_mark b ≡ 0 = ap number_of_mark was in omega arith
mark_at-set (b ∷ seen) zero (suc place) below was = grind (arith, nat_tests)
mark_at-set (b ∷ seen) (suc at) zero below was = grind (arith, nat_tests)
mark_at-set (b ∷ seen) (suc at) (suc place) below was = grind (arith, nat_tests, mark_at-set seen at place (omega arith) was)

pub marks_most : (seen : List Bool) → marks seen ≤ length seen
marks_most [] = omega arith
marks_most (true ∷ seen) = omega (arith, marks_most seen)
marks_most (false ∷ seen) = omega (arith, marks_most seen)

pub none_marked : (n : ℕ) → marks (replicate n false) ≡ 0
none_marked zero = refl
none_marked (suc n) = omega (arith, none_marked n)

pub unmarked : (n place : ℕ) → mark_at (replicate n false) place ≡ 0
unmarked zero place = grind (arith, common_steps)
unmarked (suc n) zero = refl
unmarked (suc n) (suc place) = unmarked n place

-- ---- seats
-- the first receipt of a seat that does not agree, after seats that do
module _ (events : List Event) (seats : List (List Receipt)) (i : ℕ) (seen : List Bool)
    (stand : All (Stands events) (receipts_of (take i seats))) (rise : All (RiseFrom 0) (take i seats))
    (once : (place : ℕ) → mark_at seen place ≡ times place (receipts_of (take i seats))) where
  abbrev done : List (List Receipt)
  done = take i seats

  pub agree_before : (place : ℕ) (seat : List Receipt) → (m : IsSeatMismatch events seen seat place) → Agree events (done ++ m.before ∷ [])
  agree_before place seat m = record {
    stand = rw (receipts_of-push done m.before) (All-append (Stands events) (receipts_of done) m.before stand m.stand);
    rise = All-push (RiseFrom 0) done m.before rise m.rise;
    once = λ p. rw (receipts_of-push done m.before, times-append p (receipts_of done) m.before) (let a = once p in let b = m.once p in omega arith);
  }

  pub not_more : (place : ℕ) (seat : List Receipt) → (m : IsSeatMismatch events seen seat place) → ¬ (Agree events (done ++ (m.before ++ m.receipt ∷ []) ∷ []))
  not_more place seat m h =
      let longer : List Receipt = m.before ++ m.receipt ∷ [] in
      let all : receipts_of (done ++ longer ∷ []) ≡ (receipts_of done ++ m.before) ++ m.receipt ∷ []
      = receipts_of-push done longer ∙ sym (append_assoc (receipts_of done) m.before (m.receipt ∷ [])) in
      elim m.fails [
        | inl away ↦ away (all_last (Stands events) (receipts_of done ++ m.before) m.receipt (rw all at h.stand))
        | inr other ↦ elim other [
          | inl falls ↦ falls (all_last (RiseFrom 0) done longer h.rise)
          | inr twice ↦
              let here : times place (receipts_of (done ++ longer ∷ [])) ≡ times place (receipts_of done) + times place m.before + times place (m.receipt ∷ [])
              = ap (times place) all ∙ (times-append place (receipts_of done ++ m.before) (m.receipt ∷ []) ∙ ap (λ k. k + times place (m.receipt ∷ [])) (times-append place (receipts_of done) m.before)) in
              let one : times place (m.receipt ∷ []) ≡ 1 = subst (λ p. times p (m.receipt ∷ []) ≡ 1) m.position_is (times-one m.receipt) in
              let most = h.once place in
              let o = once place in
              absurd (omega arith)
        ]
      ]

  pub is_mismatch : (place : ℕ) (seat : List Receipt) → i < length seats → seat ≡ get_or seats i seat → IsSeatMismatch events seen seat place → IsMismatch events seats i place
  is_mismatch place seat below is m = record {
    before = m.before;
    receipt = m.receipt;
    after = m.after;
    here = slice_get-get_or seats i seat below ∙ ap Some (sym is ∙ m.split);
    position_is = m.position_is;
    agree = agree_before place seat m;
    fails = not_more place seat m;
  }
