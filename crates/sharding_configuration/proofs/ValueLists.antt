-- Lists of values beside the items that they stand for.
use Rattle.std.proofs.Common.{◌≡◌, ◌≢◌, List, [], ◌∷◌, length, Err, refl, ap₂}
use Rattle.std.specs.List.{AllZip}
use Rattle.serde_json.specs.Data.{Data, item}
use Rattle.serde_json.specs.View.{view, items_view}
use Rattle.serde_json.specs.declared.value.Value.{Value}
use Rattle.codec_metadata.specs.CreateErrors.{Reading, unsupported_chain}
use Rattle.sharding_configuration.specs.CodecLists.{sole_of}

-- copies stand for the same items
pub items_view-clones : (vs ws : List Value) → AllZip (λ v w. view w ≡ view v) vs ws → items_view ws ≡ items_view vs
items_view-clones [] [] h = refl
items_view-clones [] (w ∷ ws) h = absurd h
items_view-clones (v ∷ vs) [] h = absurd h
items_view-clones (v ∷ vs) (w ∷ ws) h = ap₂ item h.0 (items_view-clones vs ws h.1)

-- a list of other than one member has no codec
pub sole_of-other : {Codec : Type 0} (codec : Data → Reading Codec) (vs : List Value) → length vs ≢ 1 → sole_of codec (items_view vs) ≡ Err unsupported_chain
sole_of-other codec [] other = refl
sole_of-other codec (v ∷ []) other = absurd (other refl)
sole_of-other codec (v ∷ w ∷ vs) other = refl
