-- Why a command on a sound object is refused: from the tests of the calls to the causes of a run.
use Rattle.std.proofs.Common.{◌≡◌, ◌≢◌, ℕ, ◌^◌, ◌<◌, ◌==◌, ◌⊎◌, inl, inr, Bool, false, IsTrue, List, [], ◌∷◌, Option, Some, None, length, get_or, map, take, drop, refl, sym, ap, ◌∙◌, arith}
use Rattle.std.specs.List.{All, filter}
use Rattle.std.proofs.lemmas.List.{length-map}
use Rattle.std.proofs.lemmas.List.Elements.{All-from_get_or, All-head, All-tail}
use Rattle.std.proofs.lemmas.List.Sums.{length-filter, count_by-le-length}
use Rattle.parts_errors.specs.Words.{Bytes, Elements, Refusals}
use Rattle.parts_errors.specs.Order.{◌or◌then◌, RefusedBy}
use Rattle.parts_arrays.specs.ArraySpec.{ArraySpec}
use Rattle.parts_row_major.specs.Numbering.{count_of, number_of, IsInside}
use Rattle.parts_row_major.specs.Subsets.{Subset}
use Rattle.parts_subsets.specs.Grid.{Divides, grid_of, subchunk_number, position_number}
use Rattle.parts_arrays.specs.Arrays.{Array}
use Rattle.parts_subsets.specs.Selections.{Selection, SelectionRefusals, LiesWithin}
use Rattle.parts_arrays.specs.declared.data_type.DataType.{DataType}
use Rattle.parts_subsets.proofs.GridLaws.{length-subchunk}
use Rattle.parts_row_major.proofs.NumberingLaws.{number_below}
use Rattle.parts_errors.specs.declared.error.CodecError.{CodecError}
use Rattle.parts_errors.specs.declared.error.CodecError.TheVariants.{OutOfMemory, TooLarge, Fault, SessionFailed}
use Rattle.storage_handles.specs.Handles.{HandleState}
use Rattle.storage_handles.specs.Objects.{ObjectRefusals}
use Rattle.storage_handles.specs.Writes.{bytes_of}
use Rattle.codec_traits.specs.Meanings.{Meaning}
use Rattle.codec_traits.specs.Refusals.{AreTooLong}
use Rattle.codec_traits.specs.Reads.{cells_at, MayRefuseRead}
use Rattle.codec_traits.proofs.CodecLaws.{undamaged}
use Rattle.codec_traits.proofs.ReadLemmas.{sized_too_long}
use Rattle.sharding_format.specs.Index.{slot_at, index_part, numbers_in_index}
use Rattle.sharding_format.specs.Serves.{fixed_size, subchunk_spec, ShardServes}
use Rattle.sharding_format.specs.Compacting.{IsGood}
use Rattle.sharding_format.specs.DecodeRefusals.{stored_refusal, RefusesLengths}
use Rattle.sharding_format.specs.ReadRefusals.{AnswerRefusals, numbers_of, cells_of_positions, RefusesPositions}
use Rattle.sharding_format.specs.EncodeRefusals.{RefusesToStore}
use Rattle.sharding_format.specs.declared.location.ShardingIndexLocation.{ShardingIndexLocation}
use Rattle.sharding_format.specs.declared.order.SubchunkWriteOrder.{SubchunkWriteOrder}
use Rattle.sharding_format.specs.declared.slot.Slot.{Slot}
use Rattle.sharding_format.specs.declared.slot.Slot.TheVariants.{Absent, InRange, Bad}
use Rattle.sharding_format.proofs.RefusalLemmas.{passed_refusal, long_enough, damaged_index}
use Rattle.sharding_index.specs.DataPart.{IsInDataPart}
use Rattle.sharding_gather.specs.Updates.{UpdateRefusals}
use Rattle.sharding_write.specs.Writing.{HoldsNumbers, IsCachedIndex}
use Rattle.parts_subsets.specs.Touched.{Touches}
use Rattle.sharding_write.proofs.CachedLemmas.{told_len}
use Rattle.sharding_write.specs.WriteRefusals.{Straddles, RefusesOld, SomeNewCells, WriteRefusals}
use Rattle.session_runs.specs.Maps.{CellMap, elements_at, elements_of}
use Rattle.session_runs.specs.Objects.{Shards, index_numbers, Shows, IsSound, written_layout}
use Rattle.session_runs.specs.Causes.{subchunk_elements, requested_positions, ReadSizes, IsLongTouched, IsUnstorable, WriteSizes, CompactCauses}
use Rattle.session_runs.specs.Ended.{IsShort}
use Rattle.session_runs.specs.steps.Serving.{ObjectCompactRefusals, ReadObjectRefusals}
use Rattle.session_runs.proofs.ShownLemmas.{shards, get_or-shown, shown_slice, shown_position, shown_absent}

-- the cells that are read of an object that shows a map are the map's elements
pub cells_shown : (g : ArraySpec) (m : CellMap) (cells : List (Option Bytes)) (points : List (List ℕ)) → cells ≡ map Some (elements_of g m) → All (λ point. IsInside point g.shape) points
    → cells_at cells g.shape points ≡ map Some (elements_at g m points)
cells_shown g m cells [] is inside = refl
cells_shown g m cells (p ∷ ps) is inside =
    let below : number_of p g.shape < count_of g.shape = number_below p g.shape (All-head (λ point. IsInside point g.shape) p ps inside) in
    let here : get_or cells (number_of p g.shape) None ≡ Some (m (number_of p g.shape)) = rw is (get_or-shown g m (number_of p g.shape) below) in
    rw (here, cells_shown g m cells ps is (All-tail (λ point. IsInside point g.shape) p ps inside)) refl

-- a refusal of a read of stored bytes whose cells are there says that lengths are too large
read_too_long : (cells requested : List (Option Bytes)) (elements : Elements) (inner e : CodecError) → cells ≡ map Some elements → length requested < 2 ^ 64
    → MayRefuseRead cells requested inner → inner ≢ OutOfMemory → e ≡ stored_refusal inner → (e ≡ TooLarge) × (AreTooLong cells ⊎ AreTooLong requested)
read_too_long cells requested elements OutOfMemory e is few h no_memory same = absurd (no_memory refl)
read_too_long cells requested elements TooLarge e is few h no_memory same = (
  same,
  elim h [
    | inl many ↦ absurd (omega arith)
    | inr long ↦ elim long [ inl these ↦ inr these | inr whole ↦ elim whole [ inl all ↦ inl all | inr damaged ↦ absurd (undamaged cells elements is damaged) ] ]
  ],
)
read_too_long cells requested elements Fault e is few h no_memory same = absurd h
read_too_long cells requested elements _ e is few h no_memory same = absurd (undamaged cells elements is h)

-- a slot in the data part is good
good_placed : (location : ShardingIndexLocation) (size len : ℕ) (slot : Slot) → IsInDataPart location size len slot → IsGood slot
good_placed location size len Absent h = tt
good_placed location size len (InRange offset n) h = tt
good_placed location size len Bad h = absurd h

module _ (inner index : Meaning) (sub : List ℕ) (location : ShardingIndexLocation) (order : SubchunkWriteOrder) (g : ArraySpec) where
  abbrev s : Shards
  s = shards inner index sub location order g

  module _ (object : Option Bytes) (len : ℕ) (numbers : List ℕ) (m : CellMap) (divides : Divides sub g.shape)
      (cached : HoldsNumbers (index_numbers s) object len numbers)
      (is_cached : IsCachedIndex location s.layout.index_size (count_of (grid_of g.shape sub)) len numbers) (shows : Shows s object m)
      (inner_counted : (x : Bytes) → length (inner.cells x) ≡ count_of sub) where
    abbrev slot : ℕ → Slot
    slot k = slot_at (length (bytes_of object)) numbers k

    never_bad : (k : ℕ) → k < count_of (grid_of g.shape sub) → slot k ≡ Bad → ⊥
    never_bad k below bad =
        let placed = is_cached.placed k below in
        rw (← told_len (index_numbers s) object len numbers cached, bad) at placed

    -- ---- writes
    old_cause : (subset : Subset) (k : ℕ) (t : Slot) (e : CodecError) → k < count_of (grid_of g.shape sub) → slot k ≡ t → Straddles g.shape sub subset k
        → RefusesOld inner (count_of sub) g.fill (bytes_of object) t k e → (e ≡ TooLarge) × IsLongTouched s m subset
    old_cause subset k Absent e hk is straddles h =
        let elements = subchunk_elements s m k in
        let many : length elements ≡ count_of sub = length-subchunk g.shape sub (elements_of g m) k in
        let each = All-from_get_or (λ e. length e ≡ length g.fill) elements [] (λ p below.
        ap length (shown_absent inner index sub location order g object len numbers m divides is_cached.counted cached shows k p hk (omega (arith, many)) is)) in
        (h.0, record { subchunk = k; touched = straddles.touches; long = sized_too_long (map Some elements) elements (length g.fill) refl each (rw many h.1) })
    old_cause subset k (InRange offset size) e hk is straddles h =
        let cells = inner.cells (take size (drop offset (bytes_of object))) in
        let there : cells ≡ map Some (subchunk_elements s m k)
        = shown_slice inner index sub location order g object len numbers m divides is_cached.counted cached shows k offset size hk is (inner_counted _) in
        elim (passed_refusal cells h.inner e h.lawful h.no_memory h.passed_on) [
          | inl large ↦ (
            large.0,
            elim large.1 [
              | inl long ↦ record { subchunk = k; touched = straddles.touches; long = rw there at long }
              | inr damaged ↦ absurd (undamaged cells (subchunk_elements s m k) there damaged)
            ],
          )
          | inr damaged ↦ absurd (undamaged cells (subchunk_elements s m k) there damaged.1)
        ]
    old_cause subset k Bad e hk is straddles h = absurd (never_bad k hk is)

    new_cause : (subset : Subset) (update : Elements) (k : ℕ) (e : CodecError) → k < count_of (grid_of g.shape sub) → Touches g.shape sub subset k
        → SomeNewCells inner (written_layout s) (subchunk_spec sub g) subset update (bytes_of object) numbers k (λ elements. RefusesToStore inner.encodable inner.fits g.fill elements e)
        → IsUnstorable s m subset update e
    new_cause subset update k e hk touches new = record {
      subchunk = k;
      touched = touches;
      elements = new.elements;
      cells = record {
        array = new.cells.array;
        given = new.cells.given;
        kept = λ p hp off.
            sym (shown_position inner index sub location order g object len numbers m divides is_cached.counted cached shows k p hk hp) ∙ new.cells.kept p hp off;
      };
      refused = new.holds;
    }

    pub write_cause : (subset : Subset) (update : Elements) (e : CodecError)
        → WriteRefusals inner index (written_layout s) (subchunk_spec sub g) subset update (bytes_of object) numbers e → WriteSizes s m object subset update e
    write_cause subset update e h =
        elim h [
          | inl old ↦ inl (old_cause subset old.0 (slot old.0) e old.1.0 refl old.1.2.0 old.1.2.1)
          | inr refusals ↦ elim refusals.1 [
            | inl new ↦ inr (inl (new_cause subset update new.0 e new.1.0 new.1.2.0 new.1.2.1))
            | inr later ↦ elim later.1 [
              | inl long ↦ inr (inr (inl (long.0, record { len = len; numbers = numbers; cached = cached; long = long.1 })))
              | inr fits ↦ inr (inr (inr fits.1))
            ]
          ]
        ]

    -- ---- reads
    module _ (points : List (List ℕ)) (inside : All (λ point. IsInside point g.shape) points) (few : length points < 2 ^ 64) where
      few_requested : (cells : List (Option Bytes)) (k : ℕ) → length (cells_of_positions cells (requested_positions s points k)) < 2 ^ 64
      few_requested cells k =
          let numbers : List ℕ = numbers_of g.shape points in
          let p : ℕ → Bool = λ i. subchunk_number g.shape sub i == k in
          omega (
            arith,
            length-map (requested_positions s points k) (λ write_offset. get_or cells write_offset None),
            length-map (filter p numbers) (position_number g.shape sub),
            length-filter p numbers,
            count_by-le-length p numbers,
            length-map points (λ point. number_of point g.shape),
          )

      positions_cause : (k : ℕ) (t : Slot) (e : CodecError) → k < count_of (grid_of g.shape sub) → slot k ≡ t
          → RefusesPositions (AnswerRefusals inner.answerable inner.read_refusals) inner.cells sub (bytes_of object) t (requested_positions s points k) k e → ReadSizes s m points e
      positions_cause k Absent e hk is h = absurd h
      positions_cause k (InRange offset size) e hk is h =
          let cells = inner.cells (take size (drop offset (bytes_of object))) in
          let there : cells ≡ map Some (subchunk_elements s m k)
          = shown_slice inner index sub location order g object len numbers m divides is_cached.counted cached shows k offset size hk is (inner_counted _) in
          let large = read_too_long cells (cells_of_positions cells (requested_positions s points k)) (subchunk_elements s m k) h.1.inner e there (few_requested cells k) h.1.lawful h.1.no_memory h.1.passed_on in
          (large.0, inr (inr (record { subchunk = k; used = h.0; long = rw there at large.1 })))
      positions_cause k Bad e hk is h = absurd (never_bad k hk is)

      lengths_cause : (cells : List (Option Bytes)) (e : CodecError) → cells ≡ map Some (elements_of g m) → RefusesLengths (cells_at cells g.shape points) e → ReadSizes s m points e
      lengths_cause cells e is h = (h.0, inr (inl (rw (cells_shown g m cells points is inside) at h.1)))

  -- a read of the cells of a sound object
  pub read_cause : (object : Option Bytes) (len : ℕ) (numbers : List ℕ) (m : CellMap) → Divides sub g.shape → HoldsNumbers (index_numbers s) object len numbers
      → IsCachedIndex location s.layout.index_size (count_of (grid_of g.shape sub)) len numbers → Shows s object m → ((x : Bytes) → length (inner.cells x) ≡ count_of sub)
      → (points : List (List ℕ)) (e : CodecError) → All (λ point. IsInside point g.shape) points → length points < 2 ^ 64
      → ReadObjectRefusals s object points e → ReadSizes s m points e
  read_cause None len numbers m divides cached is_cached shows inner_counted points e inside few h =
      lengths_cause None len numbers m divides cached is_cached shows inner_counted points inside few _ e shows h
  read_cause (Some b) len numbers m divides cached is_cached shows inner_counted points e inside few h =
      elim (rw cached.1 at h) [
        | inl one ↦ positions_cause (Some b) len numbers m divides cached is_cached shows inner_counted points inside few one.0 (slot_at (length b) numbers one.0) e one.1.0 refl one.1.2
        | inr later ↦ lengths_cause (Some b) len numbers m divides cached is_cached shows inner_counted points inside few _ e shows later.1
      ]

  -- a compaction of a sound object
  pub compact_cause : (object : Option Bytes) (e : CodecError) → ShardServes inner index sub g → ((x : Bytes) → ¬ (AreTooLong (index.cells x))) → IsSound s object → IsShort object
      → RefusedBy (ObjectCompactRefusals s object) e → RefusedBy (CompactCauses s object) e
  compact_cause None e serves short sound small k = elim k [ inl memory ↦ inl memory | inr none ↦ absurd none ]
  compact_cause (Some b) e serves short sound small k =
      let size : ℕ = fixed_size index.representation in
      let part : Bytes = index_part location size b in
      let told : numbers_in_index index.cells location size b ≡ Some sound.numbers = sound.told in
      let never_damaged : (numbers_in_index index.cells location size b ≡ None) → ⊥ = λ none. let both : Some sound.numbers ≡ None = sym told ∙ none in cc in
      elim k [
        | inl memory ↦ inl memory
        | inr refusals ↦ inr (elim refusals [
          | inl axes ↦ absurd (axes.0 serves.same_axes)
          | inr after_axes ↦ elim after_axes.1 [
            | inl uneven ↦ absurd (uneven.0 serves.divides)
            | inr after_divides ↦ elim after_divides.1 [
              | inl large ↦ absurd (large.0 (serves.cells_fit, omega arith, serves.index_fits))
              | inr after_fits ↦ elim after_fits.1 [
                | inl unserved ↦ absurd (unserved.0 serves.index_served.served)
                | inr after_served ↦ elim after_served.1 [
                  | inl long ↦ absurd (long.0 (rw serves.index_served.fixed refl))
                  | inr after_some ↦ elim after_some.1 [
                    | inl variable ↦ absurd (variable.0 serves.index_served.fixed)
                    | inr after_fixed ↦ elim after_fixed.1 [
                      | inl too_short ↦ absurd (too_short.0 (long_enough index.cells location size b sound.numbers told))
                      | inr after_length ↦ elim after_length.1 [
                        | inl found ↦ elim (passed_refusal (index.cells part) found.inner e found.lawful found.no_memory found.passed_on) [
                          | inl large ↦ elim large.1 [ inl long ↦ absurd (short part long) | inr d ↦ absurd (never_damaged (damaged_index index.cells location size b d)) ]
                          | inr d ↦ absurd (never_damaged (damaged_index index.cells location size b d.1))
                        ]
                        | inr after_index ↦ elim after_index.1 [
                          | inl bad ↦ absurd (bad.1.2 (rw told (good_placed location size (length b) _ (sound.placed bad.0 bad.1.0))))
                          | inr after_entries ↦ elim after_entries.1 [
                            | inl large ↦ let not_small = rw told at large.0 in inl (large.1, (sound.numbers, told, omega (arith, not_small)))
                            | inr after_size ↦ inr after_size.1.1
                          ]
                        ]
                      ]
                    ]
                  ]
                ]
              ]
            ]
          ]
        ])
      ]

-- ---- the tests of arguments come first
pub update_first : (shape : List ℕ) (data_type : DataType) (selection : Selection) (update : Array) (refusals causes : Refusals) (e : CodecError)
    → (refusals e → causes e) → UpdateRefusals shape data_type selection update refusals e → UpdateRefusals shape data_type selection update causes e
update_first shape data_type selection update refusals causes e step h =
    elim h [
      | inl no_subset ↦ inl no_subset
      | inr a ↦ inr (
        a.0,
        elim a.1 [
          | inl axes ↦ inl axes
          | inr b ↦ inr (
            b.0,
            elim b.1 [
              | inl outside ↦ inl outside
              | inr c ↦ inr (
                c.0,
                elim c.1 [
                  | inl kind ↦ inl kind
                  | inr d ↦ inr (d.0, elim d.1 [ inl counted ↦ inl counted | inr later ↦ inr (later.0, step later.1) ])
                ],
              )
            ],
          )
        ],
      )
    ]

pub selection_first : (shape : List ℕ) (selection : Selection) (refusals causes : Refusals) (e : CodecError)
    → (LiesWithin selection.subset selection.points shape → length selection.points < 2 ^ 64 → refusals e → causes e)
    → SelectionRefusals shape selection refusals e → SelectionRefusals shape selection causes e
selection_first shape selection refusals causes e step h =
    elim h [
      | inl axes ↦ inl axes
      | inr a ↦ inr (
        a.0,
        elim a.1 [
          | inl outside ↦ inl outside
          | inr b ↦ inr (b.0, elim b.1 [ inl many ↦ inl many | inr later ↦ inr (later.0, step b.0 later.0 later.1) ])
        ],
      )
    ]

-- a refusal of a session that is no fault comes from the tests after that of the session
pub session_first : (failed : Bool) (refusals : Refusals) (e : CodecError) → failed ≡ false → RefusedBy (failed ≡ false or SessionFailed then refusals) e → RefusedBy refusals e
session_first failed refusals e usable h = elim h [ inl memory ↦ inl memory | inr t ↦ elim t [ inl bad ↦ absurd (bad.0 usable) | inr later ↦ inr later.1 ] ]

pub object_first : (old new : HandleState) (refusals causes : Refusals) (e : CodecError) → IsTrue old.transparent → e ≢ Fault → (refusals e → causes e) → ObjectRefusals old new refusals e → causes e
object_first old new refusals causes e told no_fault step h = elim (h told) [ inl fault ↦ absurd (no_fault fault.0) | inr later ↦ step later ]
