-- Lists that `transpose` begins, and others.
use Rattle.std.proofs.Common.{◌≡◌, ◌<◌, List, [], ◌∷◌, Option, None, Some, Bool, true, false, ◌&&◌, bytes_eq, codes, length, get_or, drop, option_map, unwrap_or, refl, sym, ap, arith}
use Rattle.std.proofs.lemmas.Slice.Eq.{bytes_eq-Decides}
use Rattle.parts_errors.specs.Words.{Bytes}
use Rattle.serde_json.specs.declared.value.Value.{Value}
use Rattle.serde_json.specs.View.{view, items_view}
use Rattle.codec_metadata.specs.Metadata.{name_in}
use Rattle.array_fields.specs.MetadataFields.{is_named}
use Rattle.array_codecs.specs.Transposes.{is_transposed, first_of, behind_first}

-- a list of fewer than two codecs has no `transpose` before `bytes`
pub short_list : (name : Bytes) (values : List Value) → length values < 2 → is_transposed name (items_view values) ≡ false
short_list name [] few = refl
short_list name (value ∷ []) few = refl
short_list name (value ∷ next ∷ later) few = absurd (omega arith)

-- one of more has it where its first two codecs have these names
pub long_list : (name : Bytes) (values : List Value) (d e : Value) → 1 < length values
    → is_transposed name (items_view values) ≡ (is_named (codes "transpose") (view (get_or values 0 d)) && is_named name (view (get_or values 1 e)))
long_list name [] d e many = absurd (omega arith)
long_list name (value ∷ []) d e many = absurd (omega arith)
long_list name (value ∷ next ∷ later) d e many = refl

never : false ≡ true → ⊥
never h = cc

pub transposed_long : (name : Bytes) (values : List Value) → is_transposed name (items_view values) ≡ true → 1 < length values
transposed_long name [] h = absurd (never h)
transposed_long name (value ∷ []) h = absurd (never h)
transposed_long name (value ∷ next ∷ later) h = omega arith

both_left : (a b : Bool) → (a && b) ≡ true → a ≡ true
both_left true b h = refl
both_left false b h = cc

named_as : (name : Bytes) (found : Option Bytes) → unwrap_or (option_map (bytes_eq name) found) false ≡ true → found ≡ Some name
named_as name None h = absurd (never h)
named_as name (Some other) h = ap Some (sym ((bytes_eq-Decides name other).0 h))

pub transposed_named : (name : Bytes) (values : List Value) (d : Value) → is_transposed name (items_view values) ≡ true → name_in (view (get_or values 0 d)) ≡ Some (codes "transpose")
transposed_named name [] d h = absurd (never h)
transposed_named name (value ∷ []) d h = absurd (never h)
transposed_named name (value ∷ next ∷ later) d h = named_as (codes "transpose") (name_in (view value)) (both_left _ _ h)

-- its first value, and those behind it
pub first_list : (values : List Value) (d : Value) → 0 < length values → first_of (items_view values) ≡ Some (view (get_or values 0 d))
first_list [] d some = absurd (omega arith)
first_list (value ∷ later) d some = refl

pub behind_list : (values : List Value) → behind_first (items_view values) ≡ items_view (drop 1 values)
behind_list [] = refl
behind_list (value ∷ later) = refl
