-- How the receipts of seats agree with a history.
use Rattle.std.specs.Prelude.{ℕ, ◌≡◌, ◌≤◌, ◌+◌, ◌==◌, ⊤, List, [], ◌∷◌, ◌++◌, Some, take, slice_get, if◌then◌else◌}
use Rattle.std.specs.List.{All}
use Rattle.session_runs.specs.declared.event.Event.{Event}
use Rattle.session_runs.specs.declared.event.Receipt.{Receipt}

-- the receipts of seats, one seat after the other
abbrev pub receipts_of : List (List Receipt) → List Receipt
receipts_of [] = []
receipts_of (seat ∷ seats) = seat ++ receipts_of seats

-- a receipt's event stands in the history at the receipt's place
abbrev pub Stands : List Event → Receipt → Type 0
Stands events receipt = slice_get events receipt.place ≡ Some receipt.event

-- the places of receipts rise, from a number on
abbrev pub RiseFrom : ℕ → List Receipt → Type 0
RiseFrom low [] = ⊤
RiseFrom low (receipt ∷ receipts) = (low ≤ receipt.place) × RiseFrom (receipt.place + 1) receipts

-- how many receipts have a place
abbrev pub times : ℕ → List Receipt → ℕ
times place [] = 0
times place (receipt ∷ receipts) = (if receipt.place == place then 1 else 0) + times place receipts

-- each receipt's event stands at its place, a seat's places rise, and no place has two receipts
pub record Agree (events : List Event) (seats : List (List Receipt)) : Type 0 where
  pub stand : All (Stands events) (receipts_of seats)
  pub rise : All (RiseFrom 0) seats
  pub once : (place : ℕ) → times place (receipts_of seats) ≤ 1

-- a receipt with this place in the seat with this number is the first up to which the seats do not agree with a history
pub record IsMismatch (events : List Event) (seats : List (List Receipt)) (seat place : ℕ) : Type 0 where
  pub before : List Receipt
  pub receipt : Receipt
  pub after : List Receipt
  pub here : slice_get seats seat ≡ Some (before ++ receipt ∷ after)
  pub position_is : receipt.place ≡ place
  pub agree : Agree events (take seat seats ++ before ∷ [])
  pub fails : ¬ (Agree events (take seat seats ++ (before ++ receipt ∷ []) ∷ []))
