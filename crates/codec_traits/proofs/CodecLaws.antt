-- What follows from the laws of codecs.
use Rattle.std.proofs.Common.{◌≡◌, inl, inr, ℕ, List, [], ◌∷◌, Option, Some, None, Result, Ok, Err, IfOk, IfErr, map, refl, sym, ap, ◌∙◌}
use Rattle.parts_arrays.specs.Arrays.{Array}
use Rattle.parts_arrays.specs.declared.data_type.DataTypeSize.{DataTypeSize}
use Rattle.parts_errors.specs.declared.error.CodecError.{CodecError}
use Rattle.parts_errors.specs.declared.error.CodecError.TheVariants.{OutOfMemory, TooLarge, Fault}
use Rattle.codec_traits.specs.Cells.{all_there}
use Rattle.codec_traits.specs.CellLaws.{all_there-map_some}
use Rattle.codec_traits.specs.Refusals.{AreDamaged, MayRefuseDecode}
use Rattle.codec_traits.specs.RoundTrip.{MayRefuseRoundTrip}

-- elements are told by their cells
pub same_elements : (xs ys : List (List ℕ)) → map {B = Option (List ℕ)} Some xs ≡ map Some ys → xs ≡ ys
same_elements [] [] h = refl
same_elements [] (y ∷ ys) h = cc
same_elements (x ∷ xs) [] h = cc
same_elements (x ∷ xs) (y ∷ ys) h =
    let first : x ≡ y = cc in
    let rest : map {B = Option (List ℕ)} Some xs ≡ map Some ys = cc in
    rw (first, same_elements xs ys rest) refl

-- arrays of one kind are told by their cells
pub same_array : (x y : Array) (kind : DataTypeSize) (cells : List (Option (List ℕ))) → x.kind ≡ kind → y.kind ≡ kind → cells ≡ map Some x.elements → cells ≡ map Some y.elements → x ≡ y
same_array x y kind cells kind_x kind_y cells_x cells_y =
    let same_kind : x.kind ≡ y.kind = kind_x ∙ sym kind_y in
    let elements : x.elements ≡ y.elements = same_elements x.elements y.elements (sym cells_x ∙ cells_y) in
    ap (λ k. record { kind = k; elements = x.elements }) same_kind ∙ ap (λ es. record { kind = y.kind; elements = es }) elements

-- cells that are all there are not damaged
pub undamaged : (cells : List (Option (List ℕ))) (xs : List (List ℕ)) → cells ≡ map Some xs → AreDamaged cells → ⊥
undamaged cells xs is damaged =
    let some : Some xs ≡ None = sym (ap all_there is ∙ all_there-map_some xs) ∙ damaged in
    cc

-- what `decode` may refuse of an array that was encoded
pub refused_by_decode : (xs : List (List ℕ)) (cells : List (Option (List ℕ))) (e : CodecError) → cells ≡ map Some xs → MayRefuseDecode cells e
    → MayRefuseRoundTrip xs e
refused_by_decode xs cells OutOfMemory is h = tt
refused_by_decode xs cells TooLarge is (inl long) = rw is at long
refused_by_decode xs cells TooLarge is (inr damaged) = absurd (undamaged cells xs is damaged)
refused_by_decode xs cells Fault is h = absurd h
refused_by_decode xs cells _ is h = absurd (undamaged cells xs is h)

-- what a refusal's facts say of it
pub refused_so : {V E : Type 0} (P Q : E → Type 0) (r : Result V E) → IfErr r P → ((e : E) → P e → Q e) → IfErr r Q
refused_so P Q (Ok v) h told = tt
refused_so P Q (Err e) h told = told e h

-- what two facts of an answer say of it
pub answered_so : {V E : Type 0} (P P' Q : V → Type 0) (r : Result V E) → IfOk r P → IfOk r P' → ((v : V) → P v → P' v → Q v) → IfOk r Q
answered_so P P' Q (Ok v) h h' told = told v h h'
answered_so P P' Q (Err e) h h' told = tt
