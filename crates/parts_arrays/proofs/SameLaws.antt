-- When two arrays are one: by how they are held, and by their elements.
use Rattle.std.proofs.Common.{◌≡◌, ℕ, zero, suc, ◌+◌, ◌-◌, ◌<◌, ◌&&◌, List, [], ◌++◌, length, get_or, take, drop, refl, ap, sym, ◌∙◌, arith, Decides, eqb}
use Rattle.std.proofs.Math.Seq.{take-add}
use Rattle.std.proofs.lemmas.List.{ext_get_or, length-take-le, length-drop, take_all, append-nil, append_assoc}
use Rattle.std.proofs.lemmas.List.FromFn.{get_or-map-range_with_len}
use Rattle.std.proofs.lemmas.Bool.Decides.{Decides-eqb, Decides-and, Decides-like}
use Rattle.std.proofs.lemmas.Slice.Eq.{slice_eq-Decides}
use Rattle.std.specs.List.{range_with_len, flat_map, concat}
use Rattle.std.specs.Cmp.Lexicographic.{pointwise}
use Rattle.parts_arrays.specs.declared.data_type.DataTypeSize.{DataTypeSize}
use Rattle.parts_arrays.specs.declared.data_type.DataTypeSize.TheVariants.{Fixed, Variable}
use Rattle.parts_arrays.specs.declared.array_bytes.Held.{Held}
use Rattle.parts_arrays.specs.declared.array_bytes.Held.TheVariants as held
use Rattle.parts_arrays.specs.Arrays.{Array, AreOffsets, IsHeld, array_of, variable_array, part, parts, held_layout, size_list, same_array}
use Rattle.parts_row_major.proofs.PieceLaws.{concat-map}
use Rattle.parts_arrays.proofs.ArrayLaws.{offset_within, length-variable_array, concat-fixed_array}

length-part : (bytes offsets : List ℕ) (k : ℕ) → AreOffsets offsets (length bytes) → k + 1 < length offsets → get_or offsets k 0 + length (part bytes offsets k) ≡ get_or offsets (k + 1) 0
length-part bytes offsets k h lt =
    let from = get_or offsets k 0 in
    let to = get_or offsets (k + 1) 0 in
    let rise = h.rises k lt in
    let within = offset_within offsets (length bytes) (k + 1) h lt in
    let long = length-take-le (to - from) (drop from bytes) (omega (arith, length-drop from bytes)) in
    omega (arith, long)

-- parts that are one lie between one list of offsets
same_offsets_to : (x y o p : List ℕ) (k : ℕ) → AreOffsets o (length x) → AreOffsets p (length y) → parts o x ≡ parts p y → k < length o → k < length p → get_or o k 0 ≡ get_or p k 0
same_offsets_to x y o p zero h g e lo lp = h.begins ∙ sym g.begins
same_offsets_to x y o p (suc k) h g e lo lp =
    let before = same_offsets_to x y o p k h g e (omega arith) (omega arith) in
    let one_o = length-part x o k h (omega arith) in
    let one_p = length-part y p k g (omega arith) in
    let at_o = get_or-map-range_with_len (part x o) 0 (length o - 1) k k [] (omega arith) (omega arith) in
    let at_p = get_or-map-range_with_len (part y p) 0 (length p - 1) k k [] (omega arith) (omega arith) in
    let same : part x o k ≡ part y p k = sym at_o ∙ (ap (λ es. get_or es k []) e ∙ at_p) in
    let more : suc k ≡ k + 1 = omega arith in
    rw more (omega (arith, before, one_o, one_p, ap length same))

pub same_offsets : (x y o p : List ℕ) → AreOffsets o (length x) → AreOffsets p (length y) → parts o x ≡ parts p y → o ≡ p
same_offsets x y o p h g e =
    let long : length o ≡ length p = omega (arith, h.some, g.some, length-variable_array o x, length-variable_array p y, ap length e) in
    ext_get_or 0 o p long (λ k lt. same_offsets_to x y o p k h g e lt (omega arith))

-- the parts laid end to end, up to an offset
joined_to : (x o : List ℕ) (a n : ℕ) → AreOffsets o (length x) → a + n < length o → take (get_or o a 0) x ++ flat_map (part x o) (range_with_len a n) ≡ take (get_or o (a + n) 0) x
joined_to x o a zero h lt =
    let e : a + 0 ≡ a = omega arith in
    rw (append-nil, e) refl
joined_to x o a (suc n) h lt =
    let from = get_or o a 0 in
    let to = get_or o (a + 1) 0 in
    let rise : from + (to - from) ≡ to = omega (arith, h.rises a (omega arith)) in
    let next : a + 1 + n ≡ a + suc n = omega arith in
    sym (append_assoc (take from x) (part x o a) (flat_map (part x o) (range_with_len (a + 1) n)))
    ∙ (ap (λ ys. ys ++ flat_map (part x o) (range_with_len (a + 1) n)) (sym (take-add from (to - from) x) ∙ ap (λ m. take m x) rise)
    ∙ (joined_to x o (a + 1) n h (omega arith)
    ∙ ap (λ k. take (get_or o k 0) x) next))

-- the parts laid end to end are the bytes
pub concat-variable_array : (x o : List ℕ) → AreOffsets o (length x) → concat (variable_array o x).elements ≡ x
concat-variable_array x o h =
    let last : 0 + (length o - 1) ≡ length o - 1 = omega arith in
    let joined = rw (h.begins, last, h.ends) at (joined_to x o 0 (length o - 1) h (omega (arith, h.some))) in
    concat-map (part x o) (range_with_len 0 (length o - 1)) ∙ (joined ∙ take_all (length x) x (omega arith))

-- the elements of an array, laid end to end, are its bytes
pub concat_held : (held : Held) (bytes : List ℕ) → IsHeld held bytes → concat (array_of held bytes).elements ≡ bytes
concat_held (held.Fixed n) bytes h = concat-fixed_array n bytes h
concat_held (held.Variable offsets) bytes h = concat-variable_array bytes offsets.items h

pub record IsSameHeld (h k : Held) (x y : List ℕ) : Type 0 where
  pub layout : held_layout h ≡ held_layout k
  pub bytes : x ≡ y

-- arrays that are one are held alike
pub same_held : (h k : Held) (x y : List ℕ) → IsHeld h x → IsHeld k y → array_of h x ≡ array_of k y → IsSameHeld h k x y
same_held (held.Fixed n) (held.Fixed m) x y h g e =
    let kinds : Fixed n ≡ Fixed m = ap (λ (a : Array). a.kind) e in
    let size : n ≡ m = cc in
    record {
      layout = ap (λ s. (Fixed s, [])) size;
      bytes = sym (concat-fixed_array n x h) ∙ (ap (λ (a : Array). concat a.elements) e ∙ concat-fixed_array m y g);
    }
same_held (held.Fixed n) (held.Variable p) x y h g e =
    let kinds : Fixed n ≡ Variable = ap (λ (a : Array). a.kind) e in
    let no : ⊥ = cc in
    absurd no
same_held (held.Variable o) (held.Fixed m) x y h g e =
    let kinds : Variable ≡ Fixed m = ap (λ (a : Array). a.kind) e in
    let no : ⊥ = cc in
    absurd no
same_held (held.Variable o) (held.Variable p) x y h g e =
    let elements : parts o.items x ≡ parts p.items y = ap (λ (a : Array). a.elements) e in
    record {
      layout = ap (λ offsets. (Variable, offsets)) (same_offsets x y o.items p.items h g elements);
      bytes = sym (concat-variable_array x o.items h) ∙ (ap concat elements ∙ concat-variable_array y p.items g);
    }

-- arrays that are held alike are one
pub same_from_held : (h k : Held) (x y : List ℕ) → held_layout h ≡ held_layout k → x ≡ y → array_of h x ≡ array_of k y
same_from_held (held.Fixed n) (held.Fixed m) x y l b =
    let kinds : Fixed n ≡ Fixed m = ap (λ (s : DataTypeSize × List ℕ). s.0) l in
    let size : n ≡ m = cc in
    rw (size, b) refl
same_from_held (held.Fixed n) (held.Variable p) x y l b =
    let kinds : Fixed n ≡ Variable = ap (λ (s : DataTypeSize × List ℕ). s.0) l in
    let no : ⊥ = cc in
    absurd no
same_from_held (held.Variable o) (held.Fixed m) x y l b =
    let kinds : Variable ≡ Fixed m = ap (λ (s : DataTypeSize × List ℕ). s.0) l in
    let no : ⊥ = cc in
    absurd no
same_from_held (held.Variable o) (held.Variable p) x y l b =
    let offsets : o.items ≡ p.items = ap (λ (s : DataTypeSize × List ℕ). s.1) l in
    rw (offsets, b) refl

same_size : (j k : DataTypeSize) → size_list j ≡ size_list k → j ≡ k
same_size (Fixed n) (Fixed m) e = let size : n ≡ m = cc in ap Fixed size
same_size (Fixed n) Variable e = let no : ⊥ = cc in absurd no
same_size Variable (Fixed m) e = let no : ⊥ = cc in absurd no
same_size Variable Variable e = refl

Decides-bytes : (x y : List ℕ) → Decides (pointwise eqb x y) (x ≡ y)
Decides-bytes x y = slice_eq-Decides Decides-eqb x y (pointwise eqb x y) refl

-- `==` on arrays says whether they are one
pub same_array-Decides : (a b : Array) → Decides (same_array a b) (a ≡ b)
same_array-Decides a b =
    let sizes = pointwise eqb (size_list a.kind) (size_list b.kind) in
    let elements = pointwise (pointwise eqb) a.elements b.elements in
    let by_size = Decides-bytes (size_list a.kind) (size_list b.kind) in
    let by_elements : Decides elements (a.elements ≡ b.elements) = slice_eq-Decides Decides-bytes a.elements b.elements elements refl in
    Decides-like (sizes && elements)
    (λ same. let k = same_size a.kind b.kind same.0 in λ i. record { kind = k i; elements = same.1 i })
    (λ e. (ap (λ (c : Array). size_list c.kind) e, ap (λ (c : Array). c.elements) e))
    (Decides-and sizes elements by_size by_elements)
