use Rattle.std.proofs.Common.{◌≡◌, ◌++◌, drop, option_map}
use Rattle.serde_json.specs.View.{items_view}
use Rattle.parts_row_major.specs.Numbering.{AllPositive}
use Rattle.sharding_configuration.specs.Configuration.{axes_in}
use Rattle.sharding_configuration.proofs.configuration_fields.axes.Given as goal

-- the axes of the members up to here, and those of the rest
abbrev pub invariant-loop-value : goal.invariant-loop-value
invariant-loop-value l = record {
  read : axes_in (items_view l.values) ≡ option_map (λ rest. l.axes.items ++ rest) (axes_in (items_view (drop l.value-index l.values)));
  positive : AllPositive l.axes.items;
}
