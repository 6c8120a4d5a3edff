-- Subchunks whose bytes are their elements.
use Rattle.std.proofs.Common.{◌≡◌, ℕ, ◌+◌, ◌*◌, ◌^◌, ◌<◌, ◌≤◌, List, ◌++◌, Option, None, length, map, get_or, take, drop, refl, sym, ap, ◌∙◌, append_assoc, arith}
use Rattle.std.specs.List.{All, concat, range_with_len}
use Rattle.std.proofs.Math.Seq.{take-add}
use Rattle.std.proofs.lemmas.List.{drop-drop, length-take-le, length-drop}
use Rattle.std.proofs.lemmas.List.FromFn.{get_or-map-range_with_len, length-map-range_with_len}
use Rattle.parts_row_major.specs.Numbering.{count_of}
use Rattle.parts_arrays.specs.ArraySpec.{ArraySpec}
use Rattle.parts_subsets.specs.Grid.{Divides, grid_of, cell_number}
use Rattle.parts_arrays.specs.Arrays.{Array, IsWhole, fixed_array}
use Rattle.parts_arrays.specs.declared.data_type.DataTypeSize.TheVariants.{Fixed}
use Rattle.parts_row_major.proofs.PieceLaws.{length-pieces, All-pieces, concat-pieces}
use Rattle.parts_arrays.proofs.ArrayLaws.{whole-concat, fixed_array-concat}
use Rattle.codec_traits.specs.Meanings.{Meaning}
use Rattle.codec_traits.specs.Encodings.{IsPlain}
use Rattle.sharding_format.specs.Index.{slot_at, slice_at}
use Rattle.sharding_format.specs.Serves.{subchunk_spec}
use Rattle.sharding_format.specs.steps.Decoding.{AreChunks, IsDecoded, IsPartOf, element_in}
use Rattle.sharding_format.specs.declared.slot.Slot.{Slot}
use Rattle.sharding_format.specs.declared.slot.Slot.TheVariants.{Absent, InRange, Bad}
use Rattle.sharding_gather.specs.steps.Gathering.{elements_in}
use Rattle.sharding_gather.proofs.LayingLaws.{appended_run, elements_fit}
use Rattle.sharding_subchunks.specs.steps.DecodedRows.{IsPlainSlot, plain_part, plain_chunks, plain_bytes, AreRowsOfShard, AreGathered}

-- a run, and the bytes after it
pub slice_longer : (from len more : ℕ) (b : List ℕ) → slice_at from (len + more) b ≡ slice_at from len b ++ slice_at (from + len) more b
slice_longer from len more b =
    take-add len more (drop from b) ∙ ap (λ t. take len (drop from b) ++ take more t) (drop-drop len from b)

pub run_longer : (bytes b fill : List ℕ) (from len offset size positions : ℕ) (s : Slot) → s ≡ InRange offset size → offset ≡ from + len
    → bytes ++ slice_at from (len + size) b ≡ (bytes ++ slice_at from len b) ++ plain_bytes fill positions b s
run_longer bytes b fill from len offset size positions s is at =
    rw (is, at) (ap (λ t. bytes ++ t) (slice_longer from len size b) ∙ sym (append_assoc bytes (slice_at from len b) (slice_at (from + len) size b)))

length-slice : (offset size : ℕ) (b : List ℕ) → offset + size ≤ length b → length (slice_at offset size b) ≡ size
length-slice offset size b fits = length-take-le size (drop offset b) (omega (arith, length-drop offset b, fits))

-- such a subchunk has an element for each place
pub IsPartOf-plain : (n positions size : ℕ) (b : List ℕ) (s : Slot) → size ≡ positions * n → IsPlainSlot (length b) size s → IsPartOf (Fixed n) positions (plain_part n positions b s)
IsPartOf-plain n positions size b Absent is h = tt
IsPartOf-plain n positions size b (InRange offset named) is h = (
  length-pieces n positions (slice_at offset named b),
  All-pieces n positions (slice_at offset named b) (omega (arith, length-slice offset named b h.1, h.0, is)),
)
IsPartOf-plain n positions size b Bad is h = absurd h

-- its bytes are those of its elements
pub concat-plain : (fill : List ℕ) (positions size : ℕ) (b : List ℕ) (s : Slot) → size ≡ positions * length fill → IsPlainSlot (length b) size s
    → plain_bytes fill positions b s ≡ concat (elements_in fill positions (plain_part (length fill) positions b s))
concat-plain fill positions size b Absent is h = refl
concat-plain fill positions size b (InRange offset named) is h =
    sym (concat-pieces (length fill) positions (slice_at offset named b) (length-slice offset named b h.1 ∙ h.0 ∙ is))
concat-plain fill positions size b Bad is h = absurd h

-- and a plain codec decodes them
pub IsDecoded-plain : (g : ArraySpec) (m : Meaning) (size : ℕ) (b : List ℕ) (s : Slot) → IsPlain g m size → IsPlainSlot (length b) size s
    → IsDecoded m.cells g b s (plain_part (length g.fill) (count_of g.shape) b s)
IsDecoded-plain g m size b Absent plain h = tt
IsDecoded-plain g m size b (InRange offset named) plain h =
    let n = length g.fill in
    let positions = count_of g.shape in
    let slice = slice_at offset named b in
    let long : length slice ≡ size = length-slice offset named b h.1 ∙ h.0 in (
      record {
        counted = length-pieces n positions slice;
        fitting = rw plain.fixed (All-pieces n positions slice (omega (arith, long, plain.size_is)));
      },
      plain.cells slice long,
    )
IsDecoded-plain g m size b Bad plain h = absurd h

-- each of many such subchunks
pub get_or-plain_chunks : (n positions many : ℕ) (b numbers : List ℕ) (k : ℕ) → k < many
    → get_or (plain_chunks n positions b numbers many) k None ≡ plain_part n positions b (slot_at (length b) numbers k)
get_or-plain_chunks n positions many b numbers k lt =
    get_or-map-range_with_len (λ j. plain_part n positions b (slot_at (length b) numbers j)) 0 many k k None lt (omega arith)

pub AreChunks-plain : (n size : ℕ) (shape sub b numbers : List ℕ) → size ≡ count_of sub * n
    → ((k : ℕ) → k < count_of (grid_of shape sub) → IsPlainSlot (length b) size (slot_at (length b) numbers k))
    → AreChunks (Fixed n) sub (count_of (grid_of shape sub)) (plain_chunks n (count_of sub) b numbers (count_of (grid_of shape sub)))
AreChunks-plain n size shape sub b numbers is plain =
    let many = count_of (grid_of shape sub) in
    record {
      counted = length-map-range_with_len (λ j. plain_part n (count_of sub) b (slot_at (length b) numbers j)) 0 many;
      each = λ k lt. rw (get_or-plain_chunks n (count_of sub) many b numbers k lt) (IsPartOf-plain n (count_of sub) size b (slot_at (length b) numbers k) is (plain k lt));
    }

-- one subchunk more, end to end with those before it
pub plain_more : (fill shape sub b numbers : List ℕ) (size k : ℕ) (before after : List ℕ) → Divides sub shape
    → ((p : ℕ) → p < count_of sub → cell_number shape sub k p ≡ k * count_of sub + p) → k < count_of (grid_of shape sub) → size ≡ count_of sub * length fill → IsPlainSlot (length b) size (slot_at (length b) numbers k)
    → before ≡ concat (map (element_in (plain_chunks (length fill) (count_of sub) b numbers (count_of (grid_of shape sub))) fill shape sub) (range_with_len 0 (k * count_of sub)))
    → after ≡ before ++ plain_bytes fill (count_of sub) b (slot_at (length b) numbers k)
    → after ≡ concat (map (element_in (plain_chunks (length fill) (count_of sub) b numbers (count_of (grid_of shape sub))) fill shape sub) (range_with_len 0 ((k + 1) * count_of sub)))
plain_more fill shape sub b numbers size k before after divides run lt is plain so_far grown =
    let n = length fill in
    let positions = count_of sub in
    let many = count_of (grid_of shape sub) in
    let slot = slot_at (length b) numbers k in
    let chunk = get_or-plain_chunks n positions many b numbers k lt in
    appended_run (plain_chunks n positions b numbers many) fill shape sub divides (Fixed n) k before (plain_bytes fill positions b slot) after
    run lt (rw chunk (IsPartOf-plain n positions size b slot is plain)) so_far
    (rw chunk (concat-plain fill positions size b slot is plain)) grown

-- as many subchunks as there are have as many bytes as the shard's elements
pub rows_fit : (q many sub n shape size : ℕ) → q ≡ many → shape ≡ many * sub → size ≡ sub * n → shape * n < 2 ^ 64 → q * size < 2 ^ 64
rows_fit q many sub n shape size counted cells is fits =
    let same : many * (sub * n) ≡ (many * sub) * n = omega arith in
    rw (counted, is, same) (rw cells at fits)

-- the elements of a shard whose subchunks, each plain, follow one another
module _ (g : ArraySpec) (m : Meaning) (sub b numbers bytes : List ℕ) (size : ℕ) (divides : Divides sub g.shape) (plain : IsPlain (subchunk_spec sub g) m size)
    (rows : AreRowsOfShard g.fill g.shape sub b numbers size bytes) where
  abbrev chunks_there : List (Option Array)
  chunks_there = plain_chunks (length g.fill) (count_of sub) b numbers (count_of (grid_of g.shape sub))

  abbrev elements_there : List (List ℕ)
  elements_there = map (element_in chunks_there g.fill g.shape sub) (range_with_len 0 (count_of g.shape))

  each_fits : All (λ e. length e ≡ length g.fill) elements_there
  each_fits = elements_fit chunks_there g.fill g.shape sub divides (length g.fill) refl (AreChunks-plain (length g.fill) size g.shape sub b numbers plain.size_is rows.plain)

  pub IsWhole-rows : IsWhole (length g.fill) bytes
  IsWhole-rows = rw rows.bytes_are (whole-concat (length g.fill) elements_there plain.some each_fits)

  pub AreGathered-rows : (array : Array) → array ≡ fixed_array (length g.fill) bytes → AreGathered m.cells g sub b numbers array.elements
  AreGathered-rows array made = record {
    subchunks = chunks_there;
    decoded = λ k lt.
        rw (get_or-plain_chunks (length g.fill) (count_of sub) (count_of (grid_of g.shape sub)) b numbers k lt)
        (IsDecoded-plain (subchunk_spec sub g) m size b (slot_at (length b) numbers k) plain (rows.plain k lt));
    elements_are = ap (λ (a : Array). a.elements) (rw rows.bytes_are at made ∙ fixed_array-concat (length g.fill) elements_there plain.some each_fits);
  }
