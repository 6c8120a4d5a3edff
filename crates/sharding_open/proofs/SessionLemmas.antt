-- What a session holds of a shard, by what was read and tested.
use Rattle.std.proofs.Common.{◌≡◌, ℕ, ◌+◌, ◌*◌, ◌/◌, ◌^◌, ◌<◌, ◌≤◌, IsTrue, List, Option, Some, None, IfSome, IfNone, inr, length, replicate, refl, sym, ap, ◌∙◌, subst, arith}
use Rattle.std.proofs.lemmas.List.{get_or-replicate, length-replicate}
use Rattle.std.proofs.lemmas.List.Elements.{All-replicate}
use Rattle.parts_row_major.specs.Numbering.{count_of}
use Rattle.parts_subsets.specs.Grid.{grid_of}
use Rattle.parts_arrays.specs.ArraySpec.{ArraySpec}
use Rattle.parts_errors.specs.Order.{◌or_as◌then◌, RefusedBy, done}
use Rattle.parts_errors.specs.declared.error.CodecError.{CodecError}
use Rattle.codec_traits.specs.Meanings.{Meaning}
use Rattle.codec_traits.specs.Refusals.{RefusesUnserved}
use Rattle.storage_handles.specs.Handles.{HandleState, IsRead}
use Rattle.storage_handles.specs.Objects.{ObjectRefusals}
use Rattle.sharding_format.specs.Index.{absent_number, slot_at}
use Rattle.sharding_format.specs.Serves.{fixed_size}
use Rattle.sharding_format.specs.declared.index.ShardIndex.{ShardIndex}
use Rattle.sharding_format.specs.declared.location.ShardingIndexLocation.{ShardingIndexLocation}
use Rattle.sharding_format.specs.declared.slot.Slot.TheVariants.{Absent}
use Rattle.sharding_format.proofs.RefusalLemmas.{long_enough}
use Rattle.sharding_index.specs.DataPart.{IsInDataPart, EntryRefusals}
use Rattle.sharding_index.specs.Indexes.{IsIndexPlan}
use Rattle.sharding_write.specs.Writing.{AreAbsent, HoldsNumbers}
use Rattle.sharding_open.specs.Cached.{HoldsIndex, cached_len, cached_numbers}
use Rattle.sharding_open.specs.OpenShards.{IsKnown}
use Rattle.sharding_open.specs.OpenSessions.{absent_index, numbers_cached, numbers_in, IsOpenSession, SessionIndexRefusals}
use Rattle.sharding_open.specs.declared.session.OpenSession.{OpenSession}

no_numbers : (ns : List ℕ) → Some ns ≡ None → ⊥
no_numbers ns h = cc

-- what refuses an entry of the cached index is a test of the object
entries_refusals : (index : (grid : List ℕ) → Meaning) (location : ShardingIndexLocation) (sub : List ℕ) (g : ArraySpec) (contents : Option (List ℕ)) (len n size : ℕ) (numbers : List ℕ) (e : CodecError)
    → len + 1 < 2 ^ 64 → n ≡ count_of (grid_of g.shape sub) → size ≡ fixed_size (index (grid_of g.shape sub)).representation
    → HoldsIndex (numbers_in (index (grid_of g.shape sub)) location) contents len (Some numbers)
    → EntryRefusals location size len (Some numbers) n done e → SessionIndexRefusals index location sub g contents e
entries_refusals index location sub g None len n size numbers e room counted sized cached h = absurd (no_numbers numbers cached)
entries_refusals index location sub g (Some b) len n size numbers e room counted sized cached h =
    let meant = index (grid_of g.shape sub) in
    let entries : EntryRefusals location (fixed_size meant.representation) (length b) (numbers_in meant location b) (count_of (grid_of g.shape sub)) done e
    = rw (cached.0, cached.1, ← sized, ← counted) h in
    inr (omega (arith, cached.0), inr (long_enough meant.cells location (fixed_size meant.representation) b numbers cached.1, inr (rw cached.1 refl, entries)))

pub entries_refused : (meaning : ArraySpec → Meaning) (old new : HandleState) (index : (grid : List ℕ) → Meaning) (location : ShardingIndexLocation) (sub : List ℕ) (g spec : ArraySpec) (len n size : ℕ) (numbers : List ℕ) (e : CodecError)
    → g ≡ spec → (meaning g).serves → IsRead old new → len + 1 < 2 ^ 64 → n ≡ count_of (grid_of g.shape sub) → size ≡ fixed_size (index (grid_of spec.shape sub)).representation
    → (IsTrue new.transparent → HoldsIndex (numbers_in (index (grid_of g.shape sub)) location) new.contents len (Some numbers))
    → EntryRefusals location size len (Some numbers) n done e
    → RefusedBy ((meaning spec).serves or_as RefusesUnserved (meaning spec) then ObjectRefusals old new (SessionIndexRefusals index location sub spec old.contents)) e
entries_refused meaning old new index location sub g spec len n size numbers e same served read room counted sized cached h =
    let Q : ArraySpec → Type 0 = λ x. SessionIndexRefusals index location sub x old.contents e in
    let Serves : ArraySpec → Type 0 = λ x. (meaning x).serves in
    inr (inr (
      subst Serves same served,
      λ t. inr (subst Q same (entries_refusals index location sub g old.contents len n size numbers e room counted
          (sized ∙ ap (λ (x : ArraySpec). fixed_size (index (grid_of x.shape sub)).representation) (sym same)) (rw read.contents_same at (cached (rw read.transparent_same t))) h)),
    ))

-- a blank index has each subchunk absent
absent_slot : (len n k : ℕ) → k < n → slot_at len (absent_index n) k ≡ Absent
unfolding slot_at
absent_slot len n k h =
    let first : 2 * k < 2 * n = omega arith in
    let second : 2 * k + 1 < 2 * n = omega arith in
    rw (get_or-replicate (2 * n) (2 * k) absent_number 0 first, get_or-replicate (2 * n) (2 * k + 1) absent_number 0 second) refl

pub absent_placed : (location : ShardingIndexLocation) (size len n k : ℕ) (numbers : List ℕ) → numbers ≡ absent_index n → k < n → IsInDataPart location size len (slot_at len numbers k)
absent_placed location size len n k numbers blank h =
    let same : slot_at len numbers k ≡ Absent = ap (λ ns. slot_at len ns k) blank ∙ absent_slot len n k h in
    rw same tt

blank_absent : (n : ℕ) (numbers : List ℕ) → numbers ≡ absent_index n → AreAbsent numbers
blank_absent n numbers is = rw is (All-replicate (λ x. x ≡ absent_number) (2 * n) absent_number refl)

-- what a decoder holds of the object, or else a blank index, is what a session holds of it
pub holds_numbers : (index_of : List ℕ → Option (List ℕ)) (contents : Option (List ℕ)) (cached : Option ShardIndex) (blank : List ℕ) (n : ℕ)
    → HoldsIndex index_of contents (cached_len cached) (cached_numbers cached) → IfNone cached (blank ≡ absent_index n) → HoldsNumbers index_of contents (cached_len cached) (numbers_cached cached blank)
holds_numbers index_of None None blank n holds is = (refl, blank_absent n blank is)
holds_numbers index_of None (Some index) blank n holds is = absurd (no_numbers index.numbers.items holds)
holds_numbers index_of (Some b) None blank n holds is = absurd holds
holds_numbers index_of (Some b) (Some index) blank n holds is = holds

counted_cached : (cached : Option ShardIndex) (blank : List ℕ) (n : ℕ) → IfSome (cached_numbers cached) (λ numbers. length numbers ≡ 2 * n) → IfNone cached (blank ≡ absent_index n) → length (numbers_cached cached blank) ≡ 2 * n
counted_cached None blank n counted is = ap length is ∙ length-replicate (2 * n) absent_number
counted_cached (Some index) blank n counted is = counted

-- the entries of an index that were tested, or those of a blank one
abbrev pub AreTested : ShardingIndexLocation → ℕ → Option ShardIndex → Type 0
AreTested location size cached = IfSome cached (λ index. (k : ℕ) → k < length index.numbers.items / 2 → IsInDataPart location size index.len (slot_at index.len index.numbers.items k))

placed_cached : (location : ShardingIndexLocation) (size : ℕ) (cached : Option ShardIndex) (blank : List ℕ) (n : ℕ) → AreTested location size cached
    → IfSome (cached_numbers cached) (λ numbers. length numbers ≡ 2 * n) → IfNone cached (blank ≡ absent_index n)
    → (k : ℕ) → k < n → IsInDataPart location size (cached_len cached) (slot_at (cached_len cached) (numbers_cached cached blank) k)
placed_cached location size None blank n tested counted is k h = absent_placed location size 0 n k blank is h
placed_cached location size (Some index) blank n tested counted is k h = tested k (omega arith)

-- an object of which some subchunk is stored has room for its index
abbrev pub HasRoom : (index_size : ℕ) → Option ShardIndex → Type 0
HasRoom size cached = IfSome cached (λ index. ¬ (AreAbsent index.numbers.items) → size ≤ index.len)

enough_cached : (size : ℕ) (cached : Option ShardIndex) (blank : List ℕ) (n : ℕ) → HasRoom size cached → IfNone cached (blank ≡ absent_index n)
    → ¬ (AreAbsent (numbers_cached cached blank)) → size ≤ cached_len cached
enough_cached size None blank n enough is some = absurd (some (blank_absent n blank is))
enough_cached size (Some index) blank n enough is some = enough some

-- what is held of a shard that is open
pub cached_open : {H : Type 0} (meaning : ArraySpec → Meaning) (index : (grid : List ℕ) → Meaning) (location : ShardingIndexLocation) (sub : List ℕ) (state : H → HandleState) (handle : H) (opened : OpenSession)
    → IsKnown meaning (λ g. numbers_in (index (grid_of g.shape sub)) location) sub state handle opened.shard
    → IsIndexPlan index opened.plan
    → opened.plan.grid ≡ grid_of opened.shard.shape sub
    → IfNone opened.shard.cached (opened.blank.items ≡ absent_index (count_of (grid_of opened.shard.shape sub)))
    → AreTested location opened.plan.size opened.shard.cached
    → HasRoom opened.plan.size opened.shard.cached
    → IsOpenSession meaning index location sub state handle opened
cached_open meaning index location sub state handle opened known plan grid blank tested enough =
    let cached = opened.shard.cached in
    let n = count_of (grid_of opened.shard.shape sub) in
    let size = fixed_size (index (grid_of opened.shard.shape sub)).representation in
    let sized : opened.plan.size ≡ size = rw grid at plan.size in
    record {
      known = known;
      plan = plan;
      grid = grid;
      blank = blank;
      numbers = record {
        counted = counted_cached cached opened.blank.items n known.counted blank;
        room = known.room;
        long_enough = enough_cached size cached opened.blank.items n (rw (← sized) enough) blank;
        placed = placed_cached location size cached opened.blank.items n (rw (← sized) tested) known.counted blank;
      };
      cached = λ t. holds_numbers (numbers_in (index (grid_of opened.shard.shape sub)) location) (state handle).contents cached opened.blank.items n (known.cached t) blank;
    }

pub holds_none : (index_of : List ℕ → Option (List ℕ)) (contents : Option (List ℕ)) → contents ≡ None → HoldsIndex index_of contents 0 None
holds_none index_of None is = refl
holds_none index_of (Some b) is = absurd (no_numbers b is)

-- the blank index then, by what was held
blank_after : (cached : Option ShardIndex) (old new : List ℕ) (n : ℕ) → IfSome (cached_numbers cached) (λ numbers. length numbers ≡ 2 * n) → IfNone cached (old ≡ absent_index n)
    → IfSome cached (λ index. new ≡ replicate (length index.numbers.items) absent_number) → IfNone cached (new ≡ old) → new ≡ absent_index n
blank_after None old new n counted is blank kept = kept ∙ is
blank_after (Some index) old new n counted is blank kept = blank ∙ ap (λ k. replicate k absent_number) counted

-- what is held where there is no object any more
pub none_open : {H : Type 0} (meaning : ArraySpec → Meaning) (index : (grid : List ℕ) → Meaning) (location : ShardingIndexLocation) (sub : List ℕ) (state : H → HandleState) (old new : H) (opened left : OpenSession)
    → IsOpenSession meaning index location sub state old opened
    → (IsTrue (state new).transparent → (state new).contents ≡ None)
    → left.shard ≡ record opened.shard { cached = None }
    → left.plan ≡ opened.plan
    → IfSome opened.shard.cached (λ index. left.blank.items ≡ replicate (length index.numbers.items) absent_number)
    → IfNone opened.shard.cached (left.blank.items ≡ opened.blank.items)
    → IsOpenSession meaning index location sub state new left
none_open meaning index location sub state old new opened left h gone shard plan blank kept =
    let known = h.known in
    let n = count_of (grid_of opened.shard.shape sub) in
    let after : IsKnown meaning (λ g. numbers_in (index (grid_of g.shape sub)) location) sub state new (record opened.shard { cached = None }) = record {
      serves = known.serves;
      room = omega arith;
      counted = tt;
      cached = λ t. holds_none (numbers_in (index (grid_of opened.shard.shape sub)) location) (state new).contents (gone t);
      cells = known.cells;
      grid = known.grid;
      subchunks = known.subchunks;
    } in
    let same_shape : left.shard.shape ≡ opened.shard.shape = ap (λ s. s.shape) shard in
    cached_open meaning index location sub state new left (rw shard after) (rw plan h.plan) (rw (plan, same_shape) h.grid)
    (rw shard (blank_after opened.shard.cached opened.blank.items left.blank.items n known.counted h.blank blank kept)) (rw (plan, shard) tt) (rw (plan, shard) tt)
