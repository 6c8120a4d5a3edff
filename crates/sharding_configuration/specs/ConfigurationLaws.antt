-- A configuration that is written is read as the configuration.
use Rattle.std.proofs.Common.{◌≡◌, ℕ, suc, ◌<◌, List, [], ◌∷◌, Some, Ok, refl, arith}
use Rattle.std.proofs.lemmas.Bool.{lt-ltb}
use Rattle.parts_row_major.specs.Numbering.{AllPositive}
use Rattle.serde_json.specs.Data.{object}
use Rattle.sharding_format.specs.declared.location.ShardingIndexLocation.{ShardingIndexLocation}
use Rattle.sharding_format.specs.declared.location.ShardingIndexLocation.TheVariants.{Start, End}
use Rattle.sharding_configuration.specs.Configuration.{Configuration, axes_in, axes_written, positive, configuration_in, configuration_written, location_named, location_word}

positive-above : (n : ℕ) → 0 < n → positive n ≡ Some n
positive-above n above = rw (lt-ltb 0 n above) refl

pub axes_in-written : (axes : List ℕ) → AllPositive axes → axes_in (axes_written axes) ≡ Some axes
axes_in-written [] h = refl
axes_in-written (axis ∷ axes) h =
    rw (positive-above axis (h 0 0 (omega arith)), axes_in-written axes (λ k d within. h (suc k) d (omega arith))) refl

location_named-word : (location : ShardingIndexLocation) → location_named (location_word location) ≡ Some location
location_named-word Start = refl
location_named-word End = refl

pub configuration_in-written : (c : Configuration) → AllPositive c.chunk_shape → configuration_in (object (configuration_written c)) ≡ Ok c
configuration_in-written c h = rw (axes_in-written c.chunk_shape h, location_named-word c.index_location) refl
