-- Objects in memory, by their keys.
use Rattle.std.proofs.Common.{◌≡◌, ◌≢◌, ◌++◌, ◌∙◌, Bool, true, false, List, [], ◌∷◌, Some, None, cond, filter, not, map, refl, sym, ap}
use Rattle.std.proofs.lemmas.List.{map-append}
use Rattle.std.proofs.lemmas.Slice.Eq.{bytes_eq-Decides}
use Rattle.std.specs.Str.{bytes_eq}
use Rattle.parts_errors.specs.Words.{Bytes}
use Rattle.array_store.specs.Stores.{ObjectList, stored_at}

-- the test of two texts, where they differ and where they are the same
differ_by : (key other : Bytes) → other ≢ key → (t : Bool) → bytes_eq key other ≡ t → t ≡ false
differ_by key other other_key true is = absurd (other_key (sym ((bytes_eq-Decides key other).0 is)))
differ_by key other other_key false is = refl

pub differ : (key other : Bytes) → other ≢ key → bytes_eq key other ≡ false
differ key other other_key = differ_by key other other_key (bytes_eq key other) refl

pub same : (key : Bytes) → bytes_eq key key ≡ true
same key = (bytes_eq-Decides key key).1 refl

-- objects and their keys, of which those of one key are removed
module _ {X : Type 0} (k b : X → Bytes) (key : Bytes) where
  others_by : (other : Bytes) → other ≢ key → (x : X) (xs : List X) (t : Bool) → bytes_eq (k x) key ≡ t
      → stored_at (map (λ x. (k x, b x)) (filter (λ x. not (bytes_eq (k x) key)) xs)) other ≡ stored_at (map (λ x. (k x, b x)) xs) other
      → stored_at (map (λ x. (k x, b x)) (cond (not t) (x ∷ filter (λ x. not (bytes_eq (k x) key)) xs) (filter (λ x. not (bytes_eq (k x) key)) xs))) other
      ≡ cond (bytes_eq (k x) other) (Some (b x)) (stored_at (map (λ x. (k x, b x)) xs) other)
  others_by other other_key x xs true is rest =
      let at : k x ≡ key = (bytes_eq-Decides (k x) key).0 is in
      rw (at, differ key other other_key) rest
  others_by other other_key x xs false is rest = ap (cond (bytes_eq (k x) other) (Some (b x))) rest

  pub others_left : (other : Bytes) → other ≢ key → (xs : List X)
      → stored_at (map (λ x. (k x, b x)) (filter (λ x. not (bytes_eq (k x) key)) xs)) other ≡ stored_at (map (λ x. (k x, b x)) xs) other
  others_left other other_key [] = refl
  others_left other other_key (x ∷ xs) = others_by other other_key x xs (bytes_eq (k x) key) refl (others_left other other_key xs)

  gone_by : (x : X) (xs : List X) (t : Bool) → bytes_eq (k x) key ≡ t
      → stored_at (map (λ x. (k x, b x)) (filter (λ x. not (bytes_eq (k x) key)) xs)) key ≡ None
      → stored_at (map (λ x. (k x, b x)) (cond (not t) (x ∷ filter (λ x. not (bytes_eq (k x) key)) xs) (filter (λ x. not (bytes_eq (k x) key)) xs))) key ≡ None
  gone_by x xs true is rest = rest
  gone_by x xs false is rest = rw is rest

  pub none_left : (xs : List X) → stored_at (map (λ x. (k x, b x)) (filter (λ x. not (bytes_eq (k x) key)) xs)) key ≡ None
  none_left [] = refl
  none_left (x ∷ xs) = gone_by x xs (bytes_eq (k x) key) refl (none_left xs)

-- an object behind others that have not its key
pub behind_others : (objects : ObjectList) (key bytes other : Bytes) → other ≢ key → stored_at (objects ++ (key, bytes) ∷ []) other ≡ stored_at objects other
behind_others [] key bytes other other_key = rw (differ key other other_key) refl
behind_others (object ∷ rest) key bytes other other_key = ap (cond (bytes_eq object.0 other) (Some object.1)) (behind_others rest key bytes other other_key)

behind_by : (object : Bytes × Bytes) (rest : ObjectList) (key bytes : Bytes) (t : Bool) → bytes_eq object.0 key ≡ t
    → cond t (Some object.1) (stored_at rest key) ≡ None → (stored_at rest key ≡ None → stored_at (rest ++ (key, bytes) ∷ []) key ≡ Some bytes)
    → cond t (Some object.1) (stored_at (rest ++ (key, bytes) ∷ []) key) ≡ Some bytes
behind_by object rest key bytes true is none more = cc
behind_by object rest key bytes false is none more = more none

pub behind : (objects : ObjectList) (key bytes : Bytes) → stored_at objects key ≡ None → stored_at (objects ++ (key, bytes) ∷ []) key ≡ Some bytes
behind [] key bytes none = rw (same key) refl
behind (object ∷ rest) key bytes none = behind_by object rest key bytes (bytes_eq object.0 key) refl none (behind rest key bytes)

-- an object behind those of other keys
module _ {X : Type 0} (k b : X → Bytes) (object : X) (old new : List X)
    (added : new ≡ filter (λ x. not (bytes_eq (k x) (k object))) old ++ object ∷ []) where
  view_added : map {B = Bytes × Bytes} (λ x. (k x, b x)) new ≡ map (λ x. (k x, b x)) (filter (λ x. not (bytes_eq (k x) (k object))) old) ++ (k object, b object) ∷ []
  view_added =
      let pair : X → Bytes × Bytes = λ x. (k x, b x) in
      ap (map pair) added ∙ map-append pair (filter (λ x. not (bytes_eq (k x) (k object))) old) (object ∷ [])

  pub put_others : (other : Bytes) → other ≢ k object → stored_at (map (λ x. (k x, b x)) new) other ≡ stored_at (map (λ x. (k x, b x)) old) other
  put_others other other_key =
      ap (λ objects. stored_at objects other) view_added
      ∙ behind_others (map (λ x. (k x, b x)) (filter (λ x. not (bytes_eq (k x) (k object))) old)) (k object) (b object) other other_key
      ∙ others_left k b (k object) other other_key old

  pub put_here : stored_at (map (λ x. (k x, b x)) new) (k object) ≡ Some (b object)
  put_here =
      ap (λ objects. stored_at objects (k object)) view_added
      ∙ behind (map (λ x. (k x, b x)) (filter (λ x. not (bytes_eq (k x) (k object))) old)) (k object) (b object) (none_left k b (k object) old)
