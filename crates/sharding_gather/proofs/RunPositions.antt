-- The cells of a run along the last axis of a subchunk lie in one subchunk, at neighbouring places.
use Rattle.std.proofs.Common.{◌≡◌, ℕ, suc, ◌+◌, ◌*◌, ◌/◌, ◌%◌, ◌-◌, ◌<◌, ◌≤◌, List, [], ◌∷◌, ◌++◌, Option, Some, None, length, get_or, map, replicate, refl, sym, ap, ◌∙◌, arith}
use Rattle.std.proofs.lemmas.Nat.{div-mul-add, mod-mul-add, div-add-mod', mul-le}
use Rattle.std.proofs.Math.Nat.{mul_assoc}
use Rattle.std.proofs.lemmas.List.{ext_get_or, map-append}
use Rattle.std.proofs.lemmas.List.FromFn.{length-map-range_with_len, get_or-map-range_with_len}
use Rattle.std.specs.List.{range_with_len}
use Rattle.parts_arrays.specs.Arrays.{Array}
use Rattle.parts_row_major.specs.Numbering.{AllPositive, count_of}
use Rattle.parts_subsets.specs.Grid.{Divides, subchunk_number, position_number}
use Rattle.parts_subsets.proofs.GridLaws.{whole_part, position_number-below}
use Rattle.parts_arrays.proofs.FillLaws.{map_const-range_with_len}
use Rattle.parts_row_major.proofs.RunLaws.{blocks, whole_blocks, range_split}
use Rattle.parts_arrays.specs.declared.data_type.DataTypeSize.{DataTypeSize}
use Rattle.std.specs.Prelude.{IfSome}
use Rattle.sharding_format.specs.steps.Decoding.{IsPartOf, element_at, element_in}

-- the last axis, or 1 where there is none
abbrev pub last_axis : List ℕ → ℕ
last_axis [] = 1
last_axis (d ∷ []) = d
last_axis (d ∷ e ∷ ds) = last_axis (e ∷ ds)

pub last_axis-get_or : (sub : List ℕ) → get_or sub (length sub - 1) 1 ≡ last_axis sub
last_axis-get_or [] = refl
last_axis-get_or (d ∷ []) = refl
last_axis-get_or (d ∷ e ∷ ds) =
    let at : length (d ∷ e ∷ ds) - 1 ≡ suc (length (e ∷ ds) - 1) = omega arith in
    ap (λ k. get_or (d ∷ e ∷ ds) k 1) at ∙ last_axis-get_or (e ∷ ds)

-- a number is so many times another one, which is not 0
record IsMany (n run : ℕ) : Type 0 where
  pub times : ℕ
  pub some : 0 < times
  pub some_run : 0 < run
  pub is : n ≡ times * run

-- a shape has whole runs
many_runs : (shape sub : List ℕ) → AllPositive shape → AllPositive sub → Divides sub shape → IsMany (count_of shape) (last_axis sub)
many_runs [] [] ps pd divides = record { times = 1; some = omega arith; some_run = omega arith; is = omega arith }
many_runs (n ∷ s) [] ps pd divides = absurd divides
many_runs [] (d ∷ ds) ps pd divides = absurd divides
many_runs (n ∷ []) (d ∷ []) ps pd divides =
    let n_pos : 0 < n = ps 0 0 (omega arith) in
    let whole = div-add-mod' n d in
    record {
      times = n / d;
      some = whole_part n d n_pos divides.0;
      some_run = pd 0 0 (omega arith);
      is = omega (arith, whole, divides.0);
    }
many_runs (n ∷ []) (d ∷ e ∷ ds) ps pd divides = absurd divides.1
many_runs (n ∷ m ∷ s) (d ∷ []) ps pd divides = absurd divides.1
many_runs (n ∷ m ∷ s) (d ∷ e ∷ ds) ps pd divides =
    let n_pos : 0 < n = ps 0 0 (omega arith) in
    let later = many_runs (m ∷ s) (e ∷ ds) (λ k x lt. ps (suc k) x (omega arith)) (λ k x lt. pd (suc k) x (omega arith)) divides.1 in
    let t = later.times in
    let run = last_axis (e ∷ ds) in
    record {
      times = n * t;
      some = omega (arith, mul-le 1 1 n t n_pos later.some);
      some_run = later.some_run;
      is = ap (λ c. n * c) later.is ∙ sym (mul_assoc n t run);
    }

-- a cell of a run lies in the subchunk of the run's first cell, as many places behind it
pub record IsInRun (shape sub : List ℕ) (first j : ℕ) : Type 0 where
  pub subchunk : subchunk_number shape sub (first + j) ≡ subchunk_number shape sub first
  pub position : position_number shape sub (first + j) ≡ position_number shape sub first + j

pub run_position : (shape sub : List ℕ) (q j : ℕ) → AllPositive shape → AllPositive sub → Divides sub shape → j < last_axis sub
    → IsInRun shape sub (q * last_axis sub) j
unfolding subchunk_number position_number
run_position [] [] q j ps pd divides lt = record { subchunk = refl; position = omega (arith, lt) }
run_position (n ∷ s) [] q j ps pd divides lt = absurd divides
run_position [] (d ∷ ds) q j ps pd divides lt = absurd divides
run_position (n ∷ []) (d ∷ []) q j ps pd divides lt =
    let whole : (i : ℕ) → i / 1 ≡ i = λ i. omega arith in
    let some : 0 < d = pd 0 0 (omega arith) in
    let none : q * d + 0 ≡ q * d = omega arith in
    let number = div-mul-add q d j lt in
    let start = div-mul-add q d 0 some in
    let rest = mod-mul-add q d j lt in
    let start_rest = mod-mul-add q d 0 some in
    record {
      subchunk = rw (whole (q * d + j), whole (q * d), number) (omega (arith, rw none at start));
      position = rw (whole (q * d + j), whole (q * d), rest) (omega (arith, rw none at start_rest));
    }
run_position (n ∷ []) (d ∷ e ∷ ds) q j ps pd divides lt = absurd divides.1
run_position (n ∷ m ∷ s) (d ∷ []) q j ps pd divides lt = absurd divides.1
run_position (n ∷ m ∷ s) (d ∷ e ∷ ds) q j ps pd divides lt =
    let run = last_axis (e ∷ ds) in
    let many = many_runs (m ∷ s) (e ∷ ds) (λ k x lt. ps (suc k) x (omega arith)) (λ k x lt. pd (suc k) x (omega arith)) divides.1 in
    let here = blocks q j many.times run (count_of (m ∷ s)) many.some lt many.is in
    let start = whole_blocks q many.times run (count_of (m ∷ s)) many.some many.some_run many.is in
    let later = run_position (m ∷ s) (e ∷ ds) (q % many.times) j (λ k x lt. ps (suc k) x (omega arith)) (λ k x lt. pd (suc k) x (omega arith)) divides.1 lt in
    record {
      subchunk = rw (here.0, here.1, start.0, start.1, later.subchunk) refl;
      position = rw (here.0, here.1, start.0, start.1, later.position) (omega arith);
    }

-- the elements of a run are those at neighbouring places of its subchunk
pub run_elements : (chunks : List (Option Array)) (fill : List ℕ) (shape sub : List ℕ) (q : ℕ) → AllPositive shape → AllPositive sub → Divides sub shape
    → map (element_in chunks fill shape sub) (range_with_len 0 (q * last_axis sub + last_axis sub))
    ≡ map (element_in chunks fill shape sub) (range_with_len 0 (q * last_axis sub))
    ++ map (element_at fill (get_or chunks (subchunk_number shape sub (q * last_axis sub)) None))
    (range_with_len (position_number shape sub (q * last_axis sub)) (last_axis sub))
run_elements chunks fill shape sub q ps pd divides =
    let run = last_axis sub in
    let first = q * run in
    let position = position_number shape sub first in
    let f : ℕ → List ℕ = element_in chunks fill shape sub in
    let g : ℕ → List ℕ = element_at fill (get_or chunks (subchunk_number shape sub first) None) in
    let zero_first : 0 + first ≡ first = omega arith in
    let there : map f (range_with_len first run) ≡ map g (range_with_len position run) =
    ext_get_or [] (map f (range_with_len first run)) (map g (range_with_len position run))
    (length-map-range_with_len f first run ∙ sym (length-map-range_with_len g position run))
    (λ k lt.
    let small : k < run = omega (arith, length-map-range_with_len f first run) in
    let at = run_position shape sub q k ps pd divides small in
    get_or-map-range_with_len f first run k (first + k) [] small refl
    ∙ (ap (λ c. element_at fill (get_or chunks c None) (position_number shape sub (first + k))) at.subchunk
    ∙ (ap g at.position ∙ sym (get_or-map-range_with_len g position run k (position + k) [] small refl)))) in
    ap (map f) (range_split 0 first run ∙ ap (λ n. range_with_len 0 first ++ range_with_len n run) zero_first)
    ∙ (map-append f (range_with_len 0 first) (range_with_len first run) ∙ ap (λ ys. map f (range_with_len 0 first) ++ ys) there)

-- so many whole runs are all cells
pub whole_runs : (shape sub : List ℕ) → AllPositive shape → AllPositive sub → Divides sub shape
    → (0 < last_axis sub) × ((count_of shape / last_axis sub) * last_axis sub ≡ count_of shape)
whole_runs shape sub ps pd divides =
    let many = many_runs shape sub ps pd divides in
    let run = last_axis sub in
    let none : many.times * run + 0 ≡ count_of shape = omega (arith, many.is) in
    let over : count_of shape / run ≡ many.times = ap (λ n. n / run) (sym none) ∙ div-mul-add many.times run 0 many.some_run in
    (many.some_run, rw over (sym many.is))

-- a run ends within the shape, and within its subchunk
pub record RunFits (shape sub : List ℕ) (q : ℕ) : Type 0 where
  pub inside : q * last_axis sub < count_of shape
  pub within : position_number shape sub (q * last_axis sub) + last_axis sub ≤ count_of sub

pub run_fits : (shape sub : List ℕ) (q : ℕ) → AllPositive shape → AllPositive sub → Divides sub shape → q < count_of shape / last_axis sub
    → RunFits shape sub q
run_fits shape sub q ps pd divides below =
    let run = last_axis sub in
    let all = whole_runs shape sub ps pd divides in
    let j = run - 1 in
    let small : j < run = omega (arith, all.0) in
    let whole = mul-le (q + 1) run (count_of shape / run) run (omega (arith, below)) (omega arith) in
    let at = run_position shape sub q j ps pd divides small in
    let inside = position_number-below shape sub divides (q * run + j) (omega (arith, whole, all.1, all.0)) in
    record { inside = omega (arith, whole, all.1, all.0); within = omega (arith, at.position, inside, all.0) }

-- so a decoded subchunk has the elements of a run
pub part_fits : (kind : DataTypeSize) (n m : ℕ) (o : Option Array) → IsPartOf kind n o → m ≤ n → IfSome o (λ array. m ≤ length array.elements)
part_fits kind n m None h le = tt
part_fits kind n m (Some a) h le = omega (arith, h.0, le)

-- the elements of an absent subchunk are fill values
pub filled : (fill : List ℕ) (position count : ℕ) → map (element_at fill None) (range_with_len position count) ≡ replicate count fill
filled fill position count = map_const-range_with_len fill position count
