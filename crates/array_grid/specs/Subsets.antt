-- What the words of a subset pick of the axes of an array.
use Rattle.std.specs.Prelude.{◌≡◌, ◌<◌, ◌≤◌, ◌+◌, ◌-◌, ◌++◌, ℕ, ⊤, Bool, true, false, List, length, map, replicate}
use Rattle.std.proofs.Math.Bool.{not}
use Rattle.std.specs.List.{All, filter, zip, count_by, before_first, after_first}
use Rattle.std.specs.declared.ops.Range.{Range}
use Rattle.array_grid.specs.declared.words.Position.{Position}
use Rattle.array_grid.specs.declared.words.Position.TheVariants.{FromStart, FromEnd}
use Rattle.array_grid.specs.declared.words.Word.{Word}
use Rattle.array_grid.specs.declared.words.Word.TheVariants as word
use Rattle.array_grid.specs.declared.subsets.SubsetError.{SubsetError}
use Rattle.array_grid.specs.declared.subsets.SubsetError.TheVariants as error

-- the coordinate at which a position stands, on an axis with this number of coordinates
abbrev pub place : Position → ℕ → ℕ
place (FromStart count) axis = count
place (FromEnd count) axis = axis - count

-- a position stands on an axis: at one of its coordinates, or at its end
abbrev pub IsOn : Position → ℕ → Type 0
IsOn (FromStart count) axis = count ≤ axis
IsOn (FromEnd count) axis = count ≤ axis

-- a position is one of the coordinates of an axis
abbrev pub IsCoordinate : Position → ℕ → Type 0
IsCoordinate position axis = IsOn position axis × (place position axis < axis)

-- the coordinates that a word picks of an axis: from a start to before an end
abbrev pub picked : Word → ℕ → Range ℕ
picked (word.Coordinate position) axis = record { start = place position axis; end = place position axis + 1 }
picked (word.Range start end) axis = record { start = place start axis; end = place end axis }
picked (word.RangeInclusive start last) axis = record { start = place start axis; end = place last axis + 1 }
picked word.Ellipsis axis = record { start = 0; end = axis }

-- a word lies on an axis: what it names is there
abbrev pub LiesOn : Word → ℕ → Type 0
LiesOn (word.Coordinate position) axis = IsCoordinate position axis
LiesOn (word.Range start end) axis = IsOn start axis × IsOn end axis
LiesOn (word.RangeInclusive start last) axis = IsOn start axis × IsCoordinate last axis
LiesOn word.Ellipsis axis = ⊤

-- a range starts no later than it ends
abbrev pub IsForward : Range ℕ → Type 0
IsForward range = range.start ≤ range.end

-- what words, one for each axis, pick of the axes of a shape
abbrev pub each_picked : List Word → List ℕ → List (Range ℕ)
each_picked words shape = map (λ named. picked named.0 named.1) (zip words shape)

-- words, one for each axis, lie on the axes of a shape
abbrev pub AllLieOn : List Word → List ℕ → Type 0
AllLieOn words shape = All (λ named. LiesOn named.0 named.1) (zip words shape)

-- whether a word is the ellipsis
abbrev pub is_ellipsis : Word → Bool
is_ellipsis word.Ellipsis = true
is_ellipsis (word.Coordinate position) = false
is_ellipsis (word.Range start end) = false
is_ellipsis (word.RangeInclusive start last) = false

-- whether a word names one coordinate, so that its axis is dropped
abbrev pub is_coordinate : Word → Bool
is_coordinate (word.Coordinate position) = true
is_coordinate (word.Range start end) = false
is_coordinate (word.RangeInclusive start last) = false
is_coordinate word.Ellipsis = false

-- how many coordinates each axis has that is not dropped
abbrev pub kept_of : List Bool → List ℕ → List ℕ
kept_of dropped shape = map (λ axis. axis.1) (filter (λ axis. not axis.0) (zip dropped shape))

-- how many axes are named by a word of their own, before the ellipsis or after it
abbrev pub axes_named : List Word → ℕ
axes_named words = length (before_first is_ellipsis words) + length (after_first is_ellipsis words)

-- words for a number of axes, one for each: the ellipsis stands as often as axes are missing, and at the end where there is none
abbrev pub spread : List Word → ℕ → List Word
spread words axes = before_first is_ellipsis words ++ replicate (axes - axes_named words) word.Ellipsis ++ after_first is_ellipsis words

-- the ellipsis stands once at most
abbrev pub HasOneEllipsis : List Word → Type 0
HasOneEllipsis words = count_by is_ellipsis words ≤ 1

-- why words, one for each axis, are refused of a shape
abbrev pub PickRefusal : List Word → List ℕ → SubsetError → Type 0
PickRefusal words shape error.OutOfMemory = ⊤
PickRefusal words shape (error.Outside array) = (¬ AllLieOn words shape) × (array.items ≡ shape)
PickRefusal words shape (error.Backwards array) = AllLieOn words shape × (¬ All IsForward (each_picked words shape)) × (array.items ≡ shape)
PickRefusal words shape (error.Malformed word column) = ⊥
PickRefusal words shape error.Ellipses = ⊥
PickRefusal words shape (error.Axes requested axes) = ⊥

-- why words are refused of a shape
abbrev pub IsRefusal : List Word → List ℕ → SubsetError → Type 0
IsRefusal words shape error.OutOfMemory = ⊤
IsRefusal words shape error.Ellipses = ¬ HasOneEllipsis words
IsRefusal words shape (error.Axes requested axes) =
    HasOneEllipsis words × (requested ≡ axes_named words) × (axes ≡ length shape) × (axes < requested)
IsRefusal words shape (error.Outside array) =
    HasOneEllipsis words × (axes_named words ≤ length shape) × PickRefusal (spread words (length shape)) shape (error.Outside array)
IsRefusal words shape (error.Backwards array) =
    HasOneEllipsis words × (axes_named words ≤ length shape) × PickRefusal (spread words (length shape)) shape (error.Backwards array)
IsRefusal words shape (error.Malformed word column) = ⊥
