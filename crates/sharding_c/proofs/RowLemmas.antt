-- What a put by a row refuses, in the order of its tests.
use Rattle.std.proofs.Common.{◌≡◌, ◌<◌, ◌+◌, ◌^◌, ℕ, List, Result, Ok, Err, IfErr, IsErrAnd, length, inl, inr, subst, sym}
use Rattle.std.proofs.lemmas.List.Elements.{length_all_zip}
use Rattle.parts_errors.specs.Words.{Refusals}
use Rattle.parts_errors.specs.Order.{RefusedBy}
use Rattle.parts_errors.specs.declared.error.CodecError.{CodecError}
use Rattle.parts_row_major.specs.Subsets.{Subset, IsSubset}
use Rattle.sharding_plans.specs.Puts.{PutRefusals, FillRefusals}
use Rattle.sharding_c.specs.declared.layout.Layout.{Layout}
use Rattle.sharding_c.specs.declared.status.Refusal.{Refusal}
use Rattle.sharding_c.specs.declared.status.Refusal.TheVariants.{Codec}
use Rattle.sharding_c.specs.Layouts.{StartRefusals}
use Rattle.sharding_c.specs.Rows.{row_length, in_subchunk, in_answer}
use Rattle.sharding_c.specs.Exports.{RowPutRefusals, RowFillRefusals, RowUpdateRefusals}

-- a refusal that another one is
pub refused_as : {T : Type 0} (P Q : Refusals) (r : Result T CodecError) → IfErr r P → ((e : CodecError) → P e → Q e) → IfErr r Q
refused_as P Q (Ok x) h to = tt
refused_as P Q (Err e) h to = to e h

-- a refusal that `?` passes on as one of this library
pub passed_to : {T : Type 0} (r : Result T Refusal) (e : CodecError) (P : Refusal → Type 0) → IsErrAnd r (λ x. x ≡ Codec e) → P (Codec e) → IfErr r P
passed_to (Ok x) e P is h = tt
passed_to (Err x) e P is h = subst P (sym is) h

-- a subset whose start and shape pass
started_then : (subset : Subset) (later : Refusals) (e : CodecError) → IsSubset subset.start subset.shape → later e
    → StartRefusals subset.start subset.shape later e
started_then subset later e well h = inr (length_all_zip (λ first len. first + len < 2 ^ 64) subset.start subset.shape well, inr (well, h))

module _ (row : List ℕ) (shape : List ℕ) (answer : ℕ) (axes : length row ≡ row_length (length shape)) (well : IsSubset (in_answer (length shape) row).start (in_answer (length shape) row).shape) where
  pub row_fill_refused : (element : ℕ) (e : CodecError) → FillRefusals element (in_answer (length shape) row) shape answer e
      → RefusedBy (RowFillRefusals row element shape answer) e
  row_fill_refused element e h =
      inr (inr (axes, started_then (in_answer (length shape) row) (FillRefusals element (in_answer (length shape) row) shape answer) e well h))

  pub row_put_refused : (layout : Layout) (decoded : ℕ) (e : CodecError) → IsSubset (in_subchunk (length shape) row).start (in_subchunk (length shape) row).shape
      → PutRefusals layout.element_size (in_subchunk (length shape) row) layout.subchunk_shape.now (in_answer (length shape) row) shape decoded answer e
      → RefusedBy (RowPutRefusals layout row decoded shape answer) e
  row_put_refused layout decoded e from h =
      let rest : Refusals = PutRefusals layout.element_size (in_subchunk (length shape) row) layout.subchunk_shape.now (in_answer (length shape) row) shape decoded answer in
      inr (inr (
        axes,
        started_then (in_subchunk (length shape) row) (StartRefusals (in_answer (length shape) row).start (in_answer (length shape) row).shape rest) e from
            (started_then (in_answer (length shape) row) rest e well h),
      ))

-- the same of an update that is put into a subchunk
pub row_update_refused : (row shape : List ℕ) (layout : Layout) (update decoded : ℕ) (e : CodecError) → length row ≡ row_length (length shape)
    → IsSubset (in_answer (length shape) row).start (in_answer (length shape) row).shape
    → IsSubset (in_subchunk (length shape) row).start (in_subchunk (length shape) row).shape
    → RefusedBy (PutRefusals layout.element_size (in_answer (length shape) row) shape (in_subchunk (length shape) row) layout.subchunk_shape.now update decoded) e
    → RefusedBy (RowUpdateRefusals layout row update shape decoded) e
row_update_refused row shape layout update decoded e axes from into h =
    let rest : Refusals = PutRefusals layout.element_size (in_answer (length shape) row) shape (in_subchunk (length shape) row) layout.subchunk_shape.now update decoded in
    elim h [
      | inl memory ↦ inl memory
      | inr refused ↦ inr (inr (
        axes,
        started_then (in_answer (length shape) row) (StartRefusals (in_subchunk (length shape) row).start (in_subchunk (length shape) row).shape rest) e from
            (started_then (in_subchunk (length shape) row) rest e into refused),
      ))
    ]
