use Rattle.std.proofs.Common.{◌≡◌, ◌++◌, drop, option_map}
use Rattle.serde_json.specs.View.{items_view}
use Rattle.array_fields.specs.MetadataFields.{whole_numbers_of}
use Rattle.array_fields.proofs.fields.whole_numbers.Given as goal

-- the numbers of the values up to here, and those of the rest
abbrev pub invariant-loop-value : goal.invariant-loop-value
invariant-loop-value l =
    whole_numbers_of (items_view l.values) ≡ option_map (λ rest. l.numbers.items ++ rest) (whole_numbers_of (items_view (drop l.value-index l.values)))
