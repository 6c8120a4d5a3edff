-- Asked cells by the subchunks in which they lie: ascending lists of numbers, and lists of places that grow.
use Rattle.std.proofs.Common.{◌≡◌, ◌≢◌, ◌↔◌, ℕ, zero, suc, ◌+◌, ◌<◌, ◌≤◌, Bool, true, false, cond, eqb, List, [], ◌∷◌, ◌++◌, Err, length, map, replicate, get_or, take, set, refl, ap, sym, subst, ◌∙◌, arith, inl, inr}
use Rattle.std.proofs.lemmas.Bool.{cases_lt, cases_eq, eq-eqb, ne_eqb}
use Rattle.std.proofs.lemmas.Bool.Decides.{eqb_tells}
use Rattle.std.proofs.lemmas.List.{append-nil, map-append, ext_get_or, length-map, length-set, length_push, get_or_default, get_or-map, get_or-set_same, get_or-set_other, get_or_append_left, get_or_push, get_or-replicate, length-replicate, take_all}
use Rattle.std.proofs.lemmas.List.Elements.{filter_more, Contains-get_or, All-map, All-filter, All-contains, All-weaker, All-from_get_or}
use Rattle.std.proofs.lemmas.List.Kept.{AllPairs-from_increasing}
use Rattle.std.proofs.lemmas.List.Sorted.{searched}
use Rattle.std.specs.List.{All, Contains, filter}
use Rattle.std.specs.List.Sorted.{IsStrictlyIncreasing, IsBinarySearchResult}
use Rattle.std.specs.Ordering.{nat_cmp}
use Rattle.parts_row_major.specs.Numbering.{count_of}
use Rattle.parts_subsets.specs.Grid.{Divides, grid_of, subchunk_number, position_number}
use Rattle.sharding_format.specs.ReadRefusals.{positions_in}
use Rattle.parts_subsets.proofs.GridLaws.{subchunk_number-below, position_number-below}
use Rattle.sharding_gather.specs.steps.Grouping.{AreUsed, IsSeated, AreGrouped, lists_of}
use Rattle.sharding_gather.specs.declared.grouping.Grouping.{Grouping}
use Rattle.sharding_gather.specs.declared.grouping.Standing.{Standing}

-- in a strictly ascending list no number is above a later one
pub at_most_later : (xs : List ℕ) → IsStrictlyIncreasing xs → (i j : ℕ) → i ≤ j → j < length xs → get_or xs i 0 ≤ get_or xs j 0
at_most_later xs up i j le lt =
    elim (cases_lt i j) [
      | inl less ↦ omega (arith, AllPairs-from_increasing xs up i j 0 less lt)
      | inr ge ↦ let same : i ≡ j = omega arith in omega (arith, ap (λ k. get_or xs k 0) same)
    ]

-- a binary search finds each number of a strictly ascending list
pub not_missed : (xs : List ℕ) (x i : ℕ) → IsStrictlyIncreasing xs → IsBinarySearchResult (λ y. nat_cmp y x) xs (Err i) → Contains xs x → ⊥
not_missed xs x i up missed (k, below, is) =
    let found = searched xs x (Err i) missed (at_most_later xs up) in
    let there : get_or xs k 0 ≡ x = get_or_default xs k 0 x below ∙ is in
    elim (cases_lt k i) [
      | inl before ↦ omega (arith, found.1 k before)
      | inr after ↦ omega (arith, found.2 k after below)
    ]

-- the numbers of a strictly ascending list differ
pub other_later : (xs : List ℕ) → IsStrictlyIncreasing xs → (i j : ℕ) → i < length xs → j < length xs → (i ≡ j → ⊥) → get_or xs i 0 ≡ get_or xs j 0 → ⊥
other_later xs up i j lt below other same =
    elim (cases_lt i j) [
      | inl less ↦ omega (arith, AllPairs-from_increasing xs up i j 0 less below)
      | inr ge ↦ omega (arith, AllPairs-from_increasing xs up j i 0 (omega arith) lt)
    ]

-- an element of a list gives a member of what a function makes of it
pub Contains-map : {X : Type 0} (f : X → ℕ) (xs : List X) (i : ℕ) (d : X) → i < length xs → Contains (map f xs) (f (get_or xs i d))
Contains-map f xs i d lt = (i, omega (arith, length-map xs f), get_or-map f xs i d (f (get_or xs i d)) lt)

-- two functions that make one list of two lists agree at each place
pub same_at : {X Y : Type 0} (f : X → ℕ) (g : Y → ℕ) (xs : List X) (ys : List Y) (i : ℕ) (d : X) (e : Y) → map f xs ≡ map g ys → i < length xs → f (get_or xs i d) ≡ g (get_or ys i e)
same_at f g xs ys i d e same lt =
    let long : i < length ys = omega (arith, ap length same, length-map xs f, length-map ys g) in
    sym (get_or-map f xs i d 0 lt) ∙ ap (λ zs. get_or zs i 0) same ∙ get_or-map g ys i e 0 long

map-one : (f : ℕ → ℕ) (b : Bool) (x : ℕ) → map f (cond b (x ∷ []) []) ≡ cond b (f x ∷ []) []
map-one f true x = refl
map-one f false x = refl

-- the places in a subchunk of one more cell, which lies in it or doesn't
pub positions_more : (shape sub numbers : List ℕ) (n k : ℕ) (b : Bool) → n < length numbers → eqb (subchunk_number shape sub (get_or numbers n 0)) k ≡ b
    → positions_in shape sub (take (n + 1) numbers) k ≡ positions_in shape sub (take n numbers) k ++ cond b (position_number shape sub (get_or numbers n 0) ∷ []) []
positions_more shape sub numbers n k b lt is =
    let test : ℕ → Bool = λ i. eqb (subchunk_number shape sub i) k in
    let x = get_or numbers n 0 in
    ap (map (position_number shape sub)) (filter_more test numbers n 0 lt)
    ∙ map-append (position_number shape sub) (filter test (take n numbers)) (cond (test x) (x ∷ []) [])
    ∙ ap (λ t. positions_in shape sub (take n numbers) k ++ t) (map-one (position_number shape sub) (test x) x ∙ ap (λ v. cond v (position_number shape sub x ∷ []) []) is)

-- the lists of places with one more cell, whose place goes to the end of its own subchunk's list
lists_more : (shape sub numbers used : List ℕ) (n j : ℕ) (lists : List (List ℕ)) → IsStrictlyIncreasing used → n < length numbers → j < length used
    → get_or used j 0 ≡ subchunk_number shape sub (get_or numbers n 0) → lists ≡ map (positions_in shape sub (take n numbers)) used
    → set lists j (get_or lists j [] ++ position_number shape sub (get_or numbers n 0) ∷ []) ≡ map (positions_in shape sub (take (n + 1) numbers)) used
lists_more shape sub numbers used n j lists up lt below own are =
    let x = get_or numbers n 0 in
    let last = get_or lists j [] ++ position_number shape sub x ∷ [] in
    let before = positions_in shape sub (take n numbers) in
    let after = positions_in shape sub (take (n + 1) numbers) in
    let long : length lists ≡ length used = ap length are ∙ length-map used before in
    let same_length : length (set lists j last) ≡ length (map after used) = length-set lists j last ∙ long ∙ sym (length-map used after) in
    ext_get_or [] (set lists j last) (map after used) same_length (λ k k_lt.
    let k_used : k < length used = omega (arith, length-set lists j last) in
    let old : get_or lists k [] ≡ before (get_or used k 0) = ap (λ ls. get_or ls k []) are ∙ get_or-map before used k 0 [] k_used in
    let new = get_or-map after used k 0 [] k_used in
    elim (cases_eq k j) [
      | inl here ↦
          let own_k : subchunk_number shape sub x ≡ get_or used k 0 = sym own ∙ ap (λ i. get_or used i 0) (sym here) in
          ap (λ i. get_or (set lists j last) i []) here
          ∙ get_or-set_same lists j last [] (omega arith)
          ∙ ap (λ i. get_or lists i [] ++ position_number shape sub x ∷ []) (sym here)
          ∙ ap (λ l. l ++ position_number shape sub x ∷ []) old
          ∙ sym (positions_more shape sub numbers n (get_or used k 0) true lt (eq-eqb _ _ own_k))
          ∙ sym new
      | inr there ↦
          let other : subchunk_number shape sub x ≡ get_or used k 0 → ⊥ = λ e. other_later used up j k below k_used (λ q. there (sym q)) (own ∙ e) in
          get_or-set_other lists j k last [] there
          ∙ old
          ∙ sym (append-nil (before (get_or used k 0)))
          ∙ sym (positions_more shape sub numbers n (get_or used k 0) false lt (ne_eqb _ _ other))
          ∙ sym new
    ])

-- a cell stands where it stood when another place goes to the end of a list
stands_on : (shape sub used : List ℕ) (lists : List (List ℕ)) (number j x : ℕ) (at : Standing) → j < length lists
    → IsSeated shape sub used lists number at → IsSeated shape sub used (set lists j (get_or lists j [] ++ x ∷ [])) number at
stands_on shape sub used lists number j x at below stood =
    let last = get_or lists j [] ++ x ∷ [] in
    let grown = set lists j last in
    elim (cases_eq at.group j) [
      | inl here ↦
          let own : get_or grown at.group [] ≡ get_or lists at.group [] ++ x ∷ [] =
          ap (λ i. get_or grown i []) here ∙ get_or-set_same lists j last [] below ∙ ap (λ i. get_or lists i [] ++ x ∷ []) (sym here) in
          record {
            group_below = stood.group_below;
            rank_below = omega (arith, ap length own, length_push (get_or lists at.group []) x, stood.rank_below);
            subchunk = stood.subchunk;
            position = ap (λ l. get_or l at.rank 0) own ∙ get_or_append_left (get_or lists at.group []) (x ∷ []) 0 at.rank stood.rank_below ∙ stood.position;
          }
      | inr there ↦
          let same : get_or grown at.group [] ≡ get_or lists at.group [] = get_or-set_other lists j at.group last [] there in
          record {
            group_below = stood.group_below;
            rank_below = omega (arith, ap length same, stood.rank_below);
            subchunk = stood.subchunk;
            position = ap (λ l. get_or l at.rank 0) same ∙ stood.position;
          }
    ]

-- the first n cells stand in the lists of places
pub record AreStanding (shape sub numbers used : List ℕ) (n : ℕ) (lists : List (List ℕ)) (standings : List Standing) : Type 0 where
  pub positions : lists ≡ map (positions_in shape sub (take n numbers)) used
  pub counted : length standings ≡ n
  pub each : (i : ℕ) → i < n → IsSeated shape sub used lists (get_or numbers i 0) (get_or standings i (record { group = 0; rank = 0 }))

pub none_standing : (shape sub numbers used : List ℕ) → AreStanding shape sub numbers used 0 (replicate (length used) []) []
none_standing shape sub numbers used = record {
  positions =
      ext_get_or [] (replicate (length used) []) (map (positions_in shape sub []) used)
      (length-replicate (length used) [] ∙ sym (length-map used (positions_in shape sub [])))
      (λ i lt.
      let below : i < length used = omega (arith, length-replicate {A = List ℕ} (length used) []) in
      get_or-replicate (length used) i [] [] below ∙ sym (get_or-map (positions_in shape sub []) used i 0 [] below));
  counted = refl;
  each = λ i lt. absurd (omega arith);
}

-- one more cell, which goes to the end of its own subchunk's list
pub one_more_stands : (shape sub numbers used : List ℕ) (n j : ℕ) (lists : List (List ℕ)) (standings : List Standing) → IsStrictlyIncreasing used → n < length numbers → j < length used
    → get_or used j 0 ≡ subchunk_number shape sub (get_or numbers n 0) → AreStanding shape sub numbers used n lists standings
    → AreStanding shape sub numbers used (n + 1) (set lists j (get_or lists j [] ++ position_number shape sub (get_or numbers n 0) ∷ []))
    (standings ++ (record { group = j; rank = length (get_or lists j []) }) ∷ [])
one_more_stands shape sub numbers used n j lists standings up lt below own known =
    let x = position_number shape sub (get_or numbers n 0) in
    let at : Standing = record { group = j; rank = length (get_or lists j []) } in
    let none : Standing = record { group = 0; rank = 0 } in
    let last = get_or lists j [] ++ x ∷ [] in
    let long : length lists ≡ length used = ap length known.positions ∙ length-map used (positions_in shape sub (take n numbers)) in
    let within : j < length lists = omega arith in
    let there : get_or (set lists j last) j [] ≡ last = get_or-set_same lists j last [] within in
    let stands : IsSeated shape sub used (set lists j last) (get_or numbers n 0) at = record {
      group_below = below;
      rank_below = omega (arith, ap length there, length_push (get_or lists j []) x);
      subchunk = own;
      position = ap (λ l. get_or l at.rank 0) there ∙ get_or_push (get_or lists j []) x 0 at.rank refl;
    } in
    record {
      positions = lists_more shape sub numbers used n j lists up lt below own known.positions;
      counted = length_push standings at ∙ ap (λ k. k + 1) known.counted;
      each = λ i i_lt.
          elim (cases_lt i n) [
            | inl before ↦
                subst (IsSeated shape sub used (set lists j last) (get_or numbers i 0))
                (sym (get_or_append_left standings (at ∷ []) none i (omega (arith, known.counted))))
                (stands_on shape sub used lists (get_or numbers i 0) j x (get_or standings i none) within (known.each i before))
            | inr after ↦
                let this : i ≡ n = omega arith in
                subst (λ k. IsSeated shape sub used (set lists j last) (get_or numbers k 0) (get_or (standings ++ at ∷ []) k none)) (sym this)
                (subst (IsSeated shape sub used (set lists j last) (get_or numbers n 0)) (sym (get_or_push standings at none n known.counted)) stands)
          ];
    }

-- a subchunk has places that are asked just where it is the subchunk of an asked cell
pub requested_from_member : (shape sub numbers : List ℕ) (k : ℕ) → Contains (map (subchunk_number shape sub) numbers) k → positions_in shape sub numbers k ≢ []
requested_from_member shape sub [] k (i, lt, is) none = absurd (omega arith)
requested_from_member shape sub (x ∷ xs) k (zero, lt, is) none =
    let here : positions_in shape sub (x ∷ xs) k ≡ position_number shape sub x ∷ positions_in shape sub xs k = rw (eq-eqb _ _ is) refl in
    cc
requested_from_member shape sub (x ∷ xs) k (suc i, lt, is) none =
    elim (eqb_tells (subchunk_number shape sub x) k) [
      | inl here ↦
          let more : positions_in shape sub (x ∷ xs) k ≡ position_number shape sub x ∷ positions_in shape sub xs k = rw here.0 refl in
          cc
      | inr there ↦
          let same : positions_in shape sub (x ∷ xs) k ≡ positions_in shape sub xs k = rw there.0 refl in
          requested_from_member shape sub xs k (i, omega arith, is) (sym same ∙ none)
    ]

pub member_from_requested : (shape sub numbers : List ℕ) (k : ℕ) → positions_in shape sub numbers k ≢ [] → Contains (map (subchunk_number shape sub) numbers) k
member_from_requested shape sub [] k some = absurd (some refl)
member_from_requested shape sub (x ∷ xs) k some =
    elim (eqb_tells (subchunk_number shape sub x) k) [
      | inl here ↦ (0, omega arith, here.1)
      | inr there ↦
          let same : positions_in shape sub (x ∷ xs) k ≡ positions_in shape sub xs k = rw there.0 refl in
          let found = member_from_requested shape sub xs k (λ none. some (same ∙ none)) in
          (suc found.0, omega (arith, found.1), found.2)
    ]

-- the subchunks of requested cells, ascending and each once, are those that are used
pub used_from_members : (shape sub numbers used : List ℕ) → IsStrictlyIncreasing used → ((k : ℕ) → Contains used k ↔ Contains (map (subchunk_number shape sub) numbers) k) → AreUsed shape sub numbers used
used_from_members shape sub numbers used up members = record {
  rising = λ i j less lt. AllPairs-from_increasing used up i j 0 less lt;
  requested = λ j lt. requested_from_member shape sub numbers (get_or used j 0) ((members (get_or used j 0)).0 (Contains-get_or used j 0 lt));
  all = λ k some.
      let found = (members k).1 (member_from_requested shape sub numbers k some) in
      (found.0, found.1, get_or_default used found.0 0 k found.1 ∙ found.2);
}

-- all cells stand: they are grouped
pub grouped_cells : (shape sub numbers : List ℕ) (n : ℕ) (groups : Grouping) → n ≡ length numbers → AreUsed shape sub numbers groups.subchunks.items
    → AreStanding shape sub numbers groups.subchunks.items n (lists_of groups) groups.standings.items → AreGrouped shape sub numbers groups
grouped_cells shape sub numbers n groups all used known = record {
  used = used;
  positions = known.positions ∙ ap (λ is. map (positions_in shape sub is) groups.subchunks.items) (take_all n numbers (omega arith));
  counted = known.counted ∙ all;
  each = λ i lt. known.each i (omega arith);
}

-- subchunks that are used are below the count of the grid
pub used_below : (shape sub numbers used : List ℕ) → Divides sub shape → All (λ i. i < count_of shape) numbers → ((k : ℕ) → Contains used k → Contains (map (subchunk_number shape sub) numbers) k) → All (λ k. k < count_of (grid_of shape sub)) used
used_below shape sub numbers used divides inside members =
    let below : All (λ k. k < count_of (grid_of shape sub)) (map (subchunk_number shape sub) numbers) =
    All-map (λ k. k < count_of (grid_of shape sub)) (subchunk_number shape sub) numbers (All-weaker (λ i. i < count_of shape) _ (subchunk_number-below shape sub divides) numbers inside) in
    All-from_get_or (λ k. k < count_of (grid_of shape sub)) used 0
    (λ i lt. All-contains (λ k. k < count_of (grid_of shape sub)) (map (subchunk_number shape sub) numbers) (get_or used i 0) below (members (get_or used i 0) (Contains-get_or used i 0 lt)))

-- places are below the count of a subchunk's cells
pub positions_below : (shape sub numbers used : List ℕ) → Divides sub shape → All (λ i. i < count_of shape) numbers → All (All (λ p. p < count_of sub)) (map (positions_in shape sub numbers) used)
positions_below shape sub numbers used divides inside =
    All-map (All (λ p. p < count_of sub)) (positions_in shape sub numbers) used
    (λ j d lt.
    let k = get_or used j d in
    let test : ℕ → Bool = λ i. eqb (subchunk_number shape sub i) k in
    All-map (λ p. p < count_of sub) (position_number shape sub) (filter test numbers)
    (All-weaker (λ i. i < count_of shape) _ (position_number-below shape sub divides) (filter test numbers) (All-filter test (λ i. i < count_of shape) numbers inside)))
