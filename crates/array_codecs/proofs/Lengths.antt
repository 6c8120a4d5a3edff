-- Lists of another length than one.
use Rattle.std.proofs.Common.{◌≡◌, ◌≢◌, List, [], ◌∷◌, None, length, refl}
use Rattle.serde_json.specs.declared.value.Value.{Value}
use Rattle.serde_json.specs.View.{items_view}
use Rattle.array_codecs.specs.UnreadCodecs.{sole_shards}

-- values of other than one codec name no shards alone
pub not_sole_items : (values : List Value) → length values ≢ 1 → sole_shards (items_view values) ≡ None
not_sole_items [] other = refl
not_sole_items (value ∷ []) other = absurd (other refl)
not_sole_items (value ∷ next ∷ later) other = refl
