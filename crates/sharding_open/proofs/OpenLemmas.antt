-- A shard that is open, by what is held of it.
use Rattle.std.proofs.Common.{◌≡◌, ◌≢◌, ℕ, ◌+◌, ◌*◌, ◌^◌, ◌<◌, ◌≤◌, Bool, IsTrue, List, [], ◌∷◌, Option, Some, None, IfSome, IfNone, inl, inr, length, map, get_or, take, replicate, refl, sym, ap, ◌∙◌, subst, arith}
use Rattle.std.specs.List.{All}
use Rattle.std.specs.Option.{option_map}
use Rattle.std.proofs.Math.Seq.{take-length}
use Rattle.std.proofs.lemmas.List.{get_or-replicate, length-replicate}
use Rattle.std.proofs.lemmas.List.Elements.{All-head, All-tail}
use Rattle.parts_row_major.specs.Numbering.{count_of, number_of, IsInside}
use Rattle.parts_arrays.specs.ArraySpec.{ArraySpec}
use Rattle.parts_subsets.specs.Selections.{Selection, IsSelectionOf}
use Rattle.parts_errors.specs.Order.{RefusedBy, done}
use Rattle.parts_errors.specs.declared.error.CodecError.{CodecError}
use Rattle.parts_errors.specs.declared.error.CodecError.TheVariants.{OutOfMemory, TooLarge, OutOfBounds, Fault}
use Rattle.parts_row_major.proofs.NumberingLaws.{number_below}
use Rattle.codec_traits.specs.Meanings.{Meaning}
use Rattle.storage_handles.specs.Handles.{HandleState, IsRead, RangeLiesIn, RefusesRead}
use Rattle.storage_handles.specs.declared.bytes.ByteRange.{ByteRange}
use Rattle.storage_handles.specs.declared.bytes.ByteRange.TheVariants.{FromStart}
use Rattle.codec_traits.specs.Reads.{cells_at, RequestRefusals}
use Rattle.storage_handles.specs.Objects.{interval_part, HasInterval, ObjectRefusals}
use Rattle.codec_traits.specs.Refusals.{AreTooLong}
use Rattle.codec_traits.proofs.ReadLemmas.{sized_too_long}
use Rattle.parts_subsets.specs.Grid.{grid_of}
use Rattle.codec_traits.specs.declared.representation.BytesRepresentation.{BytesRepresentation}
use Rattle.sharding_format.specs.Index.{index_spec, slot_at, numbers_in_index}
use Rattle.sharding_format.specs.Serves.{subchunk_spec, fixed_size, layout}
use Rattle.sharding_format.specs.declared.location.ShardingIndexLocation.{ShardingIndexLocation}
use Rattle.sharding_format.specs.steps.Decoding.{FitsSlot}
use Rattle.sharding_format.specs.declared.slot.Slot.{Slot}
use Rattle.sharding_format.specs.declared.slot.Slot.TheVariants.{Absent, InRange, Bad}
use Rattle.sharding_format.specs.Cells.{Layout, shard_cells, indexed_cell}
use Rattle.sharding_format.specs.DecodeRefusals.{IndexRefusals}
use Rattle.sharding_format.specs.ReadRefusals.{numbers_of}
use Rattle.sharding_format.specs.steps.Reading.{ReadByRefusals}
use Rattle.sharding_open.specs.Cached.{HoldsIndex, object_cells, ObjectIndexRefusals, CachedCellsRefusals}
use Rattle.sharding_open.specs.Slices.{cached_slot, IsRangeOf, SlotRefusals}
use Rattle.sharding_format.proofs.ReadLemmas.{requested_cells}

-- all bytes of an object are an interval of it
pub whole_part : (len : ℕ) (b : List ℕ) → length b ≡ len → interval_part (record { offset = 0; size = len }) (Some b) ≡ b
whole_part len b is = ap (λ n. take n b) (sym is) ∙ take-length b

some_length : (len : ℕ) (b : List ℕ) → Some len ≡ Some (length b) → length b ≡ len
some_length len b h = cc

no_length : (len : ℕ) → Some len ≡ None → ⊥
no_length len h = cc

-- the tests of the index of an object whose length was read
open_refusals : (len : ℕ) (contents : Option (List ℕ)) (index : Meaning) (location : ShardingIndexLocation) (size : ℕ) (e : CodecError)
    → len + 1 < 2 ^ 64 → Some len ≡ option_map length contents → size ≡ fixed_size index.representation
    → IndexRefusals index.decode_refusals index.cells location size (interval_part (record { offset = 0; size = len }) contents) done e
    → ObjectIndexRefusals index location contents (λ bytes. done) e
open_refusals len None index location size e room is sized h = absurd (no_length len is)
open_refusals len (Some b) index location size e room is sized h =
    let long : length b ≡ len = some_length len b is in
    inr (omega arith, rw (whole_part len b long, sized) at h)

pub open_refused : (first old new : HandleState) (len : ℕ) (index : Meaning) (location : ShardingIndexLocation) (size : ℕ) (e : CodecError)
    → IsRead first old → len + 1 < 2 ^ 64 → (IsTrue first.transparent → Some len ≡ option_map length first.contents) → size ≡ fixed_size index.representation
    → RefusedBy (ObjectRefusals old new (IndexRefusals index.decode_refusals index.cells location size
    (interval_part (record { offset = 0; size = len }) first.contents) done)) e
    → RefusedBy (ObjectRefusals first new (ObjectIndexRefusals index location first.contents (λ bytes. done))) e
open_refused first old new len index location size e read room told sized h =
    elim h [
      | inl memory ↦ inl memory
      | inr refusals ↦ inr (λ t. elim (refusals (rw read.transparent_same t)) [
        | inl fault ↦ inl (fault.0, omega (arith, fault.1, read.faults_kept))
        | inr refused ↦ inr (open_refusals len first.contents index location size e room (told t) sized refused)
      ])
    ]

-- an index has an entry for each subchunk
pub entry_below : (index : Option (List ℕ)) (n number : ℕ) → IfSome index (λ numbers. length numbers ≡ 2 * n) → number < n → IfSome index (λ numbers. 2 * number + 1 < length numbers)
entry_below None n number counted below = tt
entry_below (Some numbers) n number counted below = omega arith

no_numbers : (ns : List ℕ) → Some ns ≡ None → ⊥
no_numbers ns h = cc

-- an object whose index is held has all bytes of its length
pub cached_interval : (index_in : List ℕ → Option (List ℕ)) (contents : Option (List ℕ)) (len : ℕ) (ns : List ℕ) → HoldsIndex index_in contents len (Some ns) → HasInterval (record { offset = 0; size = len }) contents
cached_interval index_in None len ns cached = absurd (no_numbers ns cached)
cached_interval index_in (Some b) len ns cached = omega (arith, cached.0)

-- the cells that were read by the cached index are those of the object
pub stored_cells : (inner index : Meaning) (l : Layout) (g : ArraySpec) (contents : Option (List ℕ)) (len : ℕ) (ns numbers : List ℕ) (points elements : List (List ℕ))
    → HoldsIndex (numbers_in_index index.cells l.location l.index_size) contents len (Some ns) → All (λ point. IsInside point l.shape) points → numbers ≡ numbers_of l.shape points
    → map (indexed_cell inner.cells l.shape l.sub l.fill (interval_part (record { offset = 0; size = len }) contents) ns) numbers ≡ map Some elements
    → cells_at (object_cells (shard_cells inner.cells index.cells l) g contents) l.shape points ≡ map Some elements
stored_cells inner index l g None len ns numbers points elements cached inside same read = absurd (no_numbers ns cached)
stored_cells inner index l g (Some b) len ns numbers points elements cached inside same read =
    requested_cells inner index l b ns points cached.1 inside ∙ rw (whole_part len b cached.0, same) at read

-- and what refuses them is a test of the object
stored_refusals : (inner index : Meaning) (l : Layout) (contents : Option (List ℕ)) (len : ℕ) (ns numbers : List ℕ) (points : List (List ℕ)) (e : CodecError)
    → HoldsIndex (numbers_in_index index.cells l.location l.index_size) contents len (Some ns) → All (λ point. IsInside point l.shape) points → numbers ≡ numbers_of l.shape points
    → ReadByRefusals inner l.shape l.sub l.fill (interval_part (record { offset = 0; size = len }) contents) ns numbers e
    → CachedCellsRefusals inner index l contents points e
stored_refusals inner index l None len ns numbers points e cached inside same h = absurd (no_numbers ns cached)
stored_refusals inner index l (Some b) len ns numbers points e cached inside same h =
    let told : numbers_in_index index.cells l.location l.index_size b ≡ Some ns = cached.1 in
    let lengths : AreTooLong (map (indexed_cell inner.cells l.shape l.sub l.fill b ns) (numbers_of l.shape points)) → AreTooLong (cells_at (shard_cells inner.cells index.cells l b) l.shape points) =
    subst AreTooLong (sym (requested_cells inner index l b ns points told inside)) in
    elim (rw (whole_part len b cached.0, same) at h) [
      | inl one ↦ inl (rw told one)
      | inr later ↦ inr (rw told later.0, (later.1.0, lengths later.1.1))
    ]

pub stored_refused : (old new : HandleState) (inner index : Meaning) (l : Layout) (len : ℕ) (ns numbers : List ℕ) (points : List (List ℕ)) (e : CodecError)
    → (IsTrue old.transparent → HoldsIndex (numbers_in_index index.cells l.location l.index_size) old.contents len (Some ns)) → All (λ point. IsInside point l.shape) points → numbers ≡ numbers_of l.shape points
    → RefusedBy (ObjectRefusals old new (ReadByRefusals inner l.shape l.sub l.fill (interval_part (record { offset = 0; size = len }) old.contents) ns numbers)) e
    → RefusedBy (ObjectRefusals old new (CachedCellsRefusals inner index l old.contents points)) e
stored_refused old new inner index l len ns numbers points e cached inside same h =
    elim h [
      | inl memory ↦ inl memory
      | inr refusals ↦ inr (λ t. elim (refusals t) [
        | inl fault ↦ inl fault
        | inr refused ↦ inr (stored_refusals inner index l old.contents len ns numbers points e (cached t) inside same refused)
      ])
    ]

-- fill values at coordinates
fill_at : (shape fill : List ℕ) (points : List (List ℕ)) → All (λ point. IsInside point shape) points → cells_at (replicate (count_of shape) (Some fill)) shape points ≡ map Some (replicate (length points) fill)
fill_at shape fill [] inside = refl
fill_at shape fill (p ∷ ps) inside =
    let below : number_of p shape < count_of shape = number_below p shape (All-head (λ point. IsInside point shape) p ps inside) in
    let here : get_or (replicate (count_of shape) (Some fill)) (number_of p shape) None ≡ Some fill = get_or-replicate (count_of shape) (number_of p shape) (Some fill) None below in
    rw (here, fill_at shape fill ps (All-tail (λ point. IsInside point shape) p ps inside)) refl

-- where there is no object, each cell is the fill value
pub no_object_cells : (index_of : List ℕ → Option (List ℕ)) (cells : List ℕ → List (Option (List ℕ))) (g : ArraySpec) (contents : Option (List ℕ)) (len : ℕ) (points : List (List ℕ))
    → HoldsIndex index_of contents len None → All (λ point. IsInside point g.shape) points → cells_at (object_cells cells g contents) g.shape points ≡ map Some (replicate (length points) g.fill)
no_object_cells index_of cells g None len points cached inside = fill_at g.shape g.fill points inside
no_object_cells index_of cells g (Some b) len points cached inside = absurd cached

-- and is refused for the length of all of them alone
no_object_refusals : (index_of : List ℕ → Option (List ℕ)) (inner index : Meaning) (l : Layout) (contents : Option (List ℕ)) (len : ℕ)
    (points : List (List ℕ)) (e : CodecError) → HoldsIndex index_of contents len None → All (λ point. IsInside point l.shape) points → (e ≡ TooLarge) × (2 ^ 64 ≤ length points * length l.fill)
    → CachedCellsRefusals inner index l contents points e
no_object_refusals index_of inner index l None len points e cached inside h =
    let elements = replicate (length points) l.fill in
    let many : length elements ≡ length points = length-replicate (length points) l.fill in (
      h.0,
      sized_too_long (cells_at (replicate (count_of l.shape) (Some l.fill)) l.shape points) elements (length l.fill) (fill_at l.shape l.fill points inside)
          (λ i d below. ap length (get_or-replicate (length points) i l.fill d (omega (arith, many)))) (rw many h.1),
    )
no_object_refusals index_of inner index l (Some b) len points e cached inside h = absurd cached

pub no_object_refused : (old new : HandleState) (count : ℕ) (index_of : List ℕ → Option (List ℕ)) (inner index : Meaning) (l : Layout)
    (len : ℕ) (points : List (List ℕ)) (e : CodecError) → (IsTrue old.transparent → HoldsIndex index_of old.contents len None) → All (λ point. IsInside point l.shape) points → count ≡ length points
    → RefusedBy (λ x. (x ≡ TooLarge) × (2 ^ 64 ≤ count * length l.fill)) e
    → RefusedBy (ObjectRefusals old new (CachedCellsRefusals inner index l old.contents points)) e
no_object_refused old new count index_of inner index l len points e cached inside counted h =
    elim h [
      | inl memory ↦ inl memory
      | inr long ↦ inr (λ t. inr (no_object_refusals index_of inner index l old.contents len points e (cached t) inside (rw counted at long)))
    ]

-- what is asked passes its tests
pub requested_refused : (g : ArraySpec) (selection : Selection) (CanAnswer : ℕ → Type 0) (later : CodecError → Type 0) (e : CodecError) → IsSelectionOf g.shape selection → CanAnswer (length selection.points)
    → RefusedBy later e → RefusedBy (RequestRefusals g selection CanAnswer later) e
requested_refused g selection CanAnswer later e selected can h =
    elim h [ inl memory ↦ inl memory | inr refused ↦ inr (inr (selected.axes, inr (selected.within, inr (selected.counted, inr (can, refused))))) ]

-- the tests of a subchunk, whatever is tested later
pub slot_first : (grid subchunk : List ℕ) (slot : Slot) (later : CodecError → Type 0) (e : CodecError) → SlotRefusals grid subchunk slot done e → RefusedBy (SlotRefusals grid subchunk slot later) e
slot_first grid subchunk slot later e h =
    inr (elim h [
      | inl axes ↦ inl axes
      | inr h ↦ inr (
        h.0,
        elim h.1 [
          | inl outside ↦ inl outside
          | inr h ↦ inr (
            h.0,
            elim h.1 [
              | inl bad ↦ inl bad
              | inr h ↦ absurd h.1
            ],
          )
        ],
      )
    ])

has_range : (slot : Slot) (range : ByteRange) → IsRangeOf slot (Some range) → slot ≢ Bad
has_range Absent range is = λ same. cc
has_range (InRange offset size) range is = λ same. cc
has_range Bad range is = λ same. is

-- the range of a slot that fits lies in an object
range_lies : (slot : Slot) (range : ByteRange) (b : List ℕ) (len : ℕ) → IsRangeOf slot (Some range) → FitsSlot len slot → length b ≡ len → RangeLiesIn range b
range_lies Absent range b len is fits long = let same : Some range ≡ None = is in absurd (let P : Option ByteRange → Type 0 = λ o. IfNone o ⊥ in subst P same tt)
range_lies (InRange offset size) range b len is fits long = let same : range ≡ FromStart offset (Some size) = cc in rw same (omega arith)
range_lies Bad range b len is fits long = absurd is

-- the range of a held subchunk lies in the object
cached_lies : (index_in : List ℕ → Option (List ℕ)) (contents index : Option (List ℕ)) (len k : ℕ) (range : ByteRange) → HoldsIndex index_in contents len index → IsRangeOf (cached_slot len index k) (Some range) → FitsSlot len (cached_slot len index k)
    → (b : List ℕ) × (contents ≡ Some b) × RangeLiesIn range b
cached_lies index_in None index len k range cached is fits = let nothing : IsRangeOf Absent (Some range) = let P : Option (List ℕ) → Type 0 = λ o. IsRangeOf (cached_slot len o k) (Some range) in subst P cached is in
    absurd (let P : Option ByteRange → Type 0 = λ o. IfNone o ⊥ in subst P nothing tt)
cached_lies index_in (Some b) None len k range cached is fits = absurd cached
cached_lies index_in (Some b) (Some ns) len k range cached is fits = (b, refl, range_lies (slot_at len ns k) range b len is fits cached.0)

-- a read of a range that lies in the object is refused for memory or as a fault
read_refused : (old new : HandleState) (range : ByteRange) (e : CodecError) → (IsTrue old.transparent → (b : List ℕ) × (old.contents ≡ Some b) × RangeLiesIn range b)
    → RefusesRead range old new e → RefusedBy (ObjectRefusals old new done) e
read_refused old new range OutOfMemory lies h = inl refl
read_refused old new range Fault lies h = inr (λ t. inl (refl, h.0))
read_refused old new range OutOfBounds lies h = inr (λ t. let found = lies t in absurd ((rw found.1 at (h.1 t)) found.2))
read_refused old new range _ lies h = inr (λ t. absurd (h.1 t))

-- so only memory and the handle itself refuse a read of it
pub slice_refused : (old new : HandleState) (grid subchunk : List ℕ) (index_in : List ℕ → Option (List ℕ)) (index : Option (List ℕ)) (len : ℕ) (range : ByteRange) (e : CodecError)
    → (IsTrue old.transparent → HoldsIndex index_in old.contents len index) → length subchunk ≡ length grid → IsInside subchunk grid
    → IsRangeOf (cached_slot len index (number_of subchunk grid)) (Some range) → FitsSlot len (cached_slot len index (number_of subchunk grid)) → RefusesRead range old new e
    → RefusedBy (SlotRefusals grid subchunk (cached_slot len index (number_of subchunk grid)) (ObjectRefusals old new done)) e
slice_refused old new grid subchunk index_in index len range e cached axes inside is fits h =
    let k = number_of subchunk grid in
    let good = has_range (cached_slot len index k) range is in
    let last : RefusedBy (ObjectRefusals old new done) e = read_refused old new range e (λ t. cached_lies index_in old.contents index len k range (cached t) is fits) h in
    elim last [ inl memory ↦ inl memory | inr refused ↦ inr (inr (axes, inr (inside, inr (good, refused)))) ]
