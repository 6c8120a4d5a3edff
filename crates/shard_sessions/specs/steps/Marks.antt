-- The marks of events whose receipts were seen: words of the steps that compare receipts with a history.
use Rattle.std.specs.Prelude.{ℕ, ◌≡◌, ◌≤◌, ◌+◌, ◌⊎◌, Bool, true, false, List, [], ◌∷◌, ◌++◌, slice_index_or}
use Rattle.std.specs.List.{All}
use Rattle.shard_sessions.specs.Receipts.{Stands, RiseFrom, times}
use Rattle.session_runs.specs.declared.event.Event.{Event}
use Rattle.session_runs.specs.declared.event.Receipt.{Receipt}

-- a mark, as a number
abbrev pub number_of_mark : Bool → ℕ
number_of_mark true = 1
number_of_mark false = 0

-- the mark at a place
abbrev pub mark_at : List Bool → ℕ → ℕ
mark_at seen place = number_of_mark (slice_index_or seen place false)

-- how many are set
abbrev pub marks : List Bool → ℕ
marks [] = 0
marks (b ∷ seen) = number_of_mark b + marks seen

-- a receipt with this place is the first that does not agree: its event stands elsewhere, its place does not rise, or has a receipt already
pub record IsSeatMismatch (events : List Event) (seen : List Bool) (receipts : List Receipt) (place : ℕ) : Type 0 where
  pub before : List Receipt
  pub receipt : Receipt
  pub after : List Receipt
  pub split : receipts ≡ before ++ receipt ∷ after
  pub position_is : receipt.place ≡ place
  pub stand : All (Stands events) before
  pub rise : RiseFrom 0 before
  pub once : (p : ℕ) → mark_at seen p + times p before ≤ 1
  pub fails : (¬ (Stands events receipt)) ⊎ ((¬ (RiseFrom 0 (before ++ receipt ∷ []))) ⊎ (mark_at seen place + times place before ≡ 1))
