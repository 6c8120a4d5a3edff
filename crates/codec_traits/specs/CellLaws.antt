-- Cells that are all there.
use Rattle.std.proofs.Common.{◌≡◌, ℕ, List, [], ◌∷◌, Some, map, refl}
use Rattle.codec_traits.specs.Cells.{all_there}

pub all_there-map_some : (es : List (List ℕ)) → all_there (map Some es) ≡ Some es
all_there-map_some [] = refl
all_there-map_some (e ∷ es) = rw (all_there-map_some es) refl
