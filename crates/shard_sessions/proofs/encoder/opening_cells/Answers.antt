use Rattle.std.proofs.Common.{◌≡◌, List, Option, length, refl, sym, ap, ◌∙◌, subst, false, IsTrue}
use Rattle.parts_errors.specs.Words.{Bytes, Refusals}
use Rattle.parts_errors.specs.declared.error.CodecError.TheVariants.{SessionFailed}
use Rattle.parts_row_major.specs.Subsets.{Subset, points_of}
use Rattle.parts_row_major.specs.Numbering.{count_of}
use Rattle.parts_arrays.specs.Arrays.{Array}
use Rattle.parts_errors.specs.Order.{◌or◌then◌, RefusedBy}
use Rattle.parts_subsets.specs.Selections.{subset_selection}
use Rattle.storage_handles.specs.Objects.{ObjectRefusals}
use Rattle.codec_traits.specs.Reads.{cells_at, RequestRefusals}
use Rattle.sharding_format.specs.Cells.{shard_cells}
use Rattle.sharding_open.specs.Cached.{object_cells}
use Rattle.sharding_codec.specs.Decoders.{ObjectCellsRefusals}
use Rattle.sharding_open.proofs.PreparedLemmas.{length-object_cells}
use Rattle.session_runs.specs.Objects.{shards_of}
use Rattle.session_runs.proofs.CauseLemmas.{session_first}
use Rattle.session_runs.specs.Histories.{IsCellsOf}
use Rattle.shard_sessions.specs.Recorded.{full_subset, meaning_in}
use Rattle.shard_sessions.proofs.WholeLemmas.{whole_cells}
use Rattle.shard_sessions.proofs.OpeningLemmas.{cells_left}
use Rattle.shard_sessions.proofs.encoder.opening_cells.Goals as goal

pub returns-in-Ok-clause-cells : goal.returns-in-Ok-clause-cells
returns-in-Ok-clause-cells g c =
    λ told.
    let session = c.args.state.now in
    let s = shards_of g.I.ArrayToBytesCodecTraits.meaning g.X.ArrayToBytesCodecTraits.meaning session.codec session.array_spec in
    let object = (g.H.BytesPartialDecoderTraits.state session.handle).contents in
    let cells : List (Option Bytes) = object_cells (shard_cells s.inner.cells s.index.cells s.layout) session.array_spec object in
    let counted : length cells ≡ count_of session.array_spec.shape = length-object_cells s.inner.cells s.index.cells s.layout session.array_spec object refl in
    let here : c.in_ok-whole.whole ≡ full_subset session.array_spec.shape = c.in_ok-whole.ensures ∙ ap full_subset (sym c.requires.shape) in
    sym (whole_cells cells session.array_spec.shape counted) ∙ (ap (λ (subset : Subset). cells_at cells session.array_spec.shape (points_of subset)) (sym here) ∙ c.in-Ok.ensures.cells told)

pub returns-in-Ok-clause-under : goal.returns-in-Ok-clause-under
returns-in-Ok-clause-under g c =
    λ told.
    let inner = g.I.ArrayToBytesCodecTraits.meaning in
    let index = g.X.ArrayToBytesCodecTraits.meaning in
    let state = g.H.BytesPartialDecoderTraits.state in
    let session = c.args.state.now in
    let s = shards_of inner index session.codec session.array_spec in
    let object = (state session.handle).contents in
    let cells : List (Option Bytes) = object_cells (shard_cells s.inner.cells s.index.cells s.layout) session.array_spec object in
    let counted : length cells ≡ count_of session.array_spec.shape = length-object_cells s.inner.cells s.index.cells s.layout session.array_spec object refl in
    let here : c.in_ok-whole.whole ≡ full_subset session.array_spec.shape = c.in_ok-whole.ensures ∙ ap full_subset (sym c.requires.shape) in
    let before : IsTrue (state session.handle).transparent → IsCellsOf s object c.in-Ok.cells.elements = λ there.
    sym (whole_cells cells session.array_spec.shape counted) ∙ (ap (λ (subset : Subset). cells_at cells session.array_spec.shape (points_of subset)) (sym here) ∙ c.in-Ok.ensures.cells there) in
    subst (λ (array : Array). IsCellsOf (shards_of inner index c.partial_decode.new.self.codec c.partial_decode.new.self.array_spec) (state c.partial_decode.new.self.handle).contents array.elements)
    (sym c.in_ok-copy-in-Ok.ensures) (cells_left inner index state session c.partial_decode.new.self c.in-Ok.cells.elements c.partial_decode.ensures.left before told)

pub returns-clause-refused : goal.returns-clause-refused
returns-clause-refused g c =
    λ usable.
    let inner = g.I.ArrayToBytesCodecTraits.meaning in
    let index = g.X.ArrayToBytesCodecTraits.meaning in
    let state = g.H.BytesPartialDecoderTraits.state in
    let session = c.args.state.now in
    let after = c.partial_decode.new.self in
    let here : c.in_ok-whole.whole ≡ full_subset session.array_spec.shape = c.in_ok-whole.ensures ∙ ap full_subset (sym c.requires.shape) in
    let T : Subset → Refusals = λ subset.
    RequestRefusals session.array_spec (subset_selection subset) (meaning_in inner index session.codec session.array_spec).answerable (
    ObjectRefusals (state session.handle) (state after.handle) (
    ObjectCellsRefusals inner index session.codec session.array_spec (state session.handle).contents (points_of subset))) in
    session_first session.failed (T (full_subset session.array_spec.shape)) c.in-Err.error usable
    (subst (λ subset. RefusedBy (session.failed ≡ false or SessionFailed then T subset) c.in-Err.error) here c.in-Err.ensures.refused)
