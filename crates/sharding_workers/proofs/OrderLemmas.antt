-- What numbered work gave, when it is taken in order.
use Rattle.std.proofs.Common.{◌≡◌, ◌<◌, ◌+◌, ◌++◌, [], ◌∷◌, ◌∙◌, ℕ, zero, suc, List, length, map, get_or, Ok, Err, ap, subst, arith}
use Rattle.std.specs.declared.result.Result.{Result}
use Rattle.std.specs.List.{AllZip, range_with_len}
use Rattle.std.proofs.lemmas.List.{get_or-map, length-map, length-append, get_or_append_left}
use Rattle.std.proofs.lemmas.List.FromFn.{get_or-range_with_len, length-range_with_len}
use Rattle.std.proofs.lemmas.Slice.Zip.{AllZip-long}
use Rattle.std.proofs.Math.Seq.{get_or-append_seam}
use Rattle.parts_errors.specs.declared.error.CodecError.{CodecError}
use Rattle.sharding_workers.specs.InOrder.{IsFirstRefusal}

-- what holds of two lists place by place
zip_at : {A B : Type 0} (Q : A → B → Type 0) (xs : List A) (ys : List B) → AllZip Q xs ys → (k : ℕ) (d : A) (r : B) → k < length xs
    → Q (get_or xs k d) (get_or ys k r)
zip_at Q [] [] all k d r below = absurd (omega (arith, below))
zip_at Q [] (y ∷ ys) all k d r below = absurd all
zip_at Q (x ∷ xs) [] all k d r below = absurd all
zip_at Q (x ∷ xs) (y ∷ ys) all zero d r below = all.0
zip_at Q (x ∷ xs) (y ∷ ys) all (suc k) d r below = zip_at Q xs ys all.1 k d r (omega (arith, below))

abbrev done : {T : Type 0} → T → Result T CodecError
done x = Ok x

-- there are as many results as numbers
results_counted : {T : Type 0} (Gives : ℕ → Result T CodecError → Type 0) (n : ℕ) (results : List (Result T CodecError))
    → AllZip Gives (range_with_len 0 n) results → length results ≡ n
results_counted Gives n results all = AllZip-long Gives (range_with_len 0 n) results all ∙ length-range_with_len 0 n

-- the result at a place is that of its number
result_at : {T : Type 0} (Gives : ℕ → Result T CodecError → Type 0) (n : ℕ) (results : List (Result T CodecError))
    → AllZip Gives (range_with_len 0 n) results → (k : ℕ) (r : Result T CodecError) → k < n → Gives k (get_or results k r)
result_at Gives n results all k r below =
    let inside : k < length (range_with_len 0 n) = omega (arith, below, length-range_with_len 0 n) in
    let plain : 0 + k ≡ k = omega arith in
    subst (λ i. Gives i (get_or results k r)) (get_or-range_with_len 0 n k k below ∙ plain) (zip_at Gives (range_with_len 0 n) results all k k r inside)

-- where all was done, there are as many as numbers, and each number has its own
pub taken_counted : {T : Type 0} (Gives : ℕ → Result T CodecError → Type 0) (n : ℕ) (results : List (Result T CodecError)) (taken : List T)
    → AllZip Gives (range_with_len 0 n) results → results ≡ map Ok taken → length taken ≡ n
taken_counted Gives n results taken all are = omega (arith, results_counted Gives n results all, ap length are, length-map taken done)

pub taken_at : {T : Type 0} (Gives : ℕ → Result T CodecError → Type 0) (n : ℕ) (results : List (Result T CodecError)) (taken : List T)
    → AllZip Gives (range_with_len 0 n) results → results ≡ map Ok taken → (k : ℕ) (d : T) → k < length taken → Gives k (Ok (get_or taken k d))
taken_at Gives n results taken all are k d below =
    let inside : k < n = omega (arith, below, taken_counted Gives n results taken all are) in
    let here : get_or results k (Ok d) ≡ Ok (get_or taken k d) = ap (λ l. get_or l k (Ok d)) are ∙ get_or-map done taken k d (Ok d) below in
    subst (Gives k) here (result_at Gives n results all k (Ok d) inside)

-- where one was refused, each number before it has its own
pub refused_below : {T : Type 0} (Gives : ℕ → Result T CodecError → Type 0) (n : ℕ) (results : List (Result T CodecError)) (e : CodecError)
    → AllZip Gives (range_with_len 0 n) results → (first : IsFirstRefusal results e) → length first.before < n
refused_below Gives n results e all first =
    omega (arith, results_counted Gives n results all, ap length first.are, length-append (map done first.before) (Err e ∷ first.after), length-map first.before done)

pub before_at : {T : Type 0} (Gives : ℕ → Result T CodecError → Type 0) (n : ℕ) (results : List (Result T CodecError)) (e : CodecError)
    → AllZip Gives (range_with_len 0 n) results → (first : IsFirstRefusal results e) → (k : ℕ) (d : T) → k < length first.before
    → Gives k (Ok (get_or first.before k d))
before_at Gives n results e all first k d below =
    let inside : k < n = omega (arith, below, refused_below Gives n results e all first) in
    let within : k < length (map done first.before) = omega (arith, below, length-map first.before done) in
    let here : get_or results k (Ok d) ≡ Ok (get_or first.before k d) =
    ap (λ l. get_or l k (Ok d)) first.are ∙ get_or_append_left (map done first.before) (Err e ∷ first.after) (Ok d) k within
    ∙ get_or-map done first.before k d (Ok d) below in
    subst (Gives k) here (result_at Gives n results all k (Ok d) inside)

some_of : {T : Type 0} (xs : List T) (k : ℕ) → k < length xs → T
some_of [] k below = absurd (omega (arith, below))
some_of (x ∷ xs) k below = x

pub each_before : {T : Type 0} (Gives : ℕ → Result T CodecError → Type 0) (n : ℕ) (results : List (Result T CodecError)) (e : CodecError)
    → AllZip Gives (range_with_len 0 n) results → (first : IsFirstRefusal results e) → (k : ℕ) → k < length first.before
    → (x : T) × Gives k (Ok x)
each_before Gives n results e all first k below =
    let d = some_of first.before k below in
    (get_or first.before k d, before_at Gives n results e all first k d below)

-- and it has the refusal
pub refused_at : {T : Type 0} (Gives : ℕ → Result T CodecError → Type 0) (n : ℕ) (results : List (Result T CodecError)) (e : CodecError)
    → AllZip Gives (range_with_len 0 n) results → (first : IsFirstRefusal results e) → Gives (length first.before) (Err e)
refused_at {T} Gives n results e all first =
    let err : Result T CodecError = Err e in
    let place : length (map done first.before) ≡ length first.before = length-map first.before done in
    let here : get_or results (length first.before) err ≡ err =
    ap (λ l. get_or l (length first.before) err) first.are
    ∙ subst (λ k. get_or (map done first.before ++ err ∷ first.after) k err ≡ err) place (get_or-append_seam (map done first.before) err first.after err) in
    subst (Gives (length first.before)) here (result_at Gives n results all (length first.before) err (refused_below Gives n results e all first))
