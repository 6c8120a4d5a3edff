-- The part of an array that lies in a chunk (Zarr V3 core, "Regular grids": a chunk may reach past the end of the array).
use Rattle.std.specs.Prelude.{◌≡◌, ◌≢◌, ◌<◌, ◌≤◌, ◌+◌, ◌*◌, ◌⊎◌, ℕ, List, length, slice_index}
use Rattle.parts_row_major.specs.Subsets.{Subset}

-- along an axis: the part begins where the chunk does, and ends where the chunk does or the array, whichever comes first
abbrev pub IsClipped : ℕ → ℕ → ℕ → ℕ → ℕ → Type 0
IsClipped coordinate size end start count =
    (start ≡ coordinate * size) × (count ≤ size) × (start + count ≤ end) × ((count ≡ size) ⊎ (start + count ≡ end))

-- the part of an array of a shape that lies in the chunk at some coordinates of the chunk grid
pub record LiesInChunk (coordinates chunk shape : List ℕ) (part : Subset) : Type 0 where
  pub axes : (length part.start ≡ length shape) × (length part.shape ≡ length shape)
  pub each : (axis : ℕ) → axis < length shape → IsClipped (slice_index coordinates axis) (slice_index chunk axis) (slice_index shape axis)
      (slice_index part.start axis) (slice_index part.shape axis)

-- a chunk begins behind the end of an array along an axis, or has other axes
abbrev pub IsBehind : List ℕ → List ℕ → List ℕ → Type 0
IsBehind coordinates chunk shape =
    (length coordinates ≢ length shape) ⊎ (length chunk ≢ length shape)
    ⊎ ((axis : ℕ) × (axis < length shape) × (slice_index shape axis < slice_index coordinates axis * slice_index chunk axis))
