-- When two arrays are one.
use Rattle.std.proofs.Common.{◌≡◌, ◌&&◌, refl, ap, Decides, eqb}
use Rattle.std.proofs.lemmas.Bool.Decides.{Decides-and, Decides-like}
use Rattle.std.proofs.lemmas.Slice.Eq.{slice_eq-Decides, bytes_eq-Decides}
use Rattle.std.specs.Cmp.Lexicographic.{pointwise}
use Rattle.parts_arrays.specs.Arrays.{Array, size_list, same_array}
use Rattle.parts_arrays.specs.declared.data_type.DataTypeSize.{DataTypeSize}
use Rattle.parts_arrays.specs.declared.data_type.DataTypeSize.TheVariants.{Fixed, Variable}

same_kind : (a b : DataTypeSize) → size_list a ≡ size_list b → a ≡ b
same_kind (Fixed n) (Fixed m) h = cc
same_kind (Fixed n) Variable h = cc
same_kind Variable (Fixed m) h = cc
same_kind Variable Variable h = refl

-- `==` on arrays says whether they are one
pub same_array-Decides : (a b : Array) → Decides (same_array a b) (a ≡ b)
same_array-Decides a b =
    let kinds = pointwise eqb (size_list a.kind) (size_list b.kind) in
    let elements = pointwise (pointwise eqb) a.elements b.elements in
    let by_kinds : Decides kinds (a.kind ≡ b.kind)
    = Decides-like kinds (λ e. same_kind a.kind b.kind e) (λ e. ap size_list e) (bytes_eq-Decides (size_list a.kind) (size_list b.kind)) in
    let by_elements : Decides elements (a.elements ≡ b.elements) = slice_eq-Decides bytes_eq-Decides a.elements b.elements elements refl in
    Decides-like (kinds && elements)
    (λ same i. record { kind = same.0 i; elements = same.1 i })
    (λ e. (ap (λ (array : Array). array.kind) e, ap (λ (array : Array). array.elements) e))
    (Decides-and kinds elements by_kinds by_elements)
