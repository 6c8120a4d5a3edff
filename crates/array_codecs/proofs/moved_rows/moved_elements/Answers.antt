use Rattle.std.proofs.Common.{◌≡◌, ◌<◌, ◌+◌, ◌-◌, ◌*◌, ◌++◌, ◌∙◌, ℕ, List, [], length, map, drop, get_or, sym, ap, arith}
use Rattle.std.specs.List.{range_with_len}
use Rattle.parts_row_major.specs.Numbering.{count_of}
use Rattle.parts_arrays.specs.Arrays.{element_of}
use Rattle.array_codecs.specs.AxisOrders.{number_moved, permuted, transposed}
use Rattle.array_codecs.specs.AxisOrderLaws.{count_permuted, length-permuted, moved_below}
use Rattle.array_codecs.proofs.MovedRows.{row_steps, rows_join, array_parts}
use Rattle.array_codecs.proofs.moved_rows.moved_elements.Goals as goal

pub step_of-step-requires-clause-within : goal.step_of-step-requires-clause-within
step_of-step-requires-clause-within c l lt =
    rw (c.as_slice-inner_axes.ensures.value, c.requires.shape)
    (omega (arith, c.requires.undoes.within l lt, c.requires.undone.alike, length-permuted c.args.order.now c.args.shape.now))

pub step_of-step-requires-clause-fits : goal.step_of-step-requires-clause-fits
step_of-step-requires-clause-fits c = rw c.as_slice-inner_axes.ensures.value (omega (arith, c.requires.counted, c.len-count.ensures))

pub invariant_of-points : goal.invariant_of-points
invariant_of-points c =
    let a = c.args in
    let same = c.as_slice-axes.ensures.value in
    let many : count_of (permuted a.order.now a.shape.now) ≡ count_of a.shape.now =
    count_permuted a.order.now a.inverse.now a.shape.now c.requires.undone c.requires.undoes c.requires.axes in
    record {
      axes = ap length same ∙ c.requires.axes;
      within = c.requires.undone.within;
      counted = c.len-count.ensures ∙ (c.requires.counted ∙ (ap count_of c.requires.shape ∙ (many ∙ ap count_of (sym same))));
    }

pub moved_number-first-requires-clause-permutation : goal.moved_number-first-requires-clause-permutation
moved_number-first-requires-clause-permutation c = record { inverse = c.args.inverse.now; undone = c.requires.undone; undoes = c.requires.undoes }

pub push_row-requires-clause-within : goal.push_row-requires-clause-within
push_row-requires-clause-within c k lt =
    let a = c.args in
    let order = a.order.now in
    let inverse = a.inverse.now in
    let axes = c.as_slice-axes.result.now in
    let same = c.as_slice-axes.ensures.value in
    let long : length axes ≡ length order = ap length same ∙ c.requires.axes in
    let inner_is : c.as_slice-inner_axes.result.now ≡ permuted order axes = c.as_slice-inner_axes.ensures.value ∙ (c.requires.shape ∙ ap (permuted order) (sym same)) in
    let total : length a.inner.now.elements ≡ count_of (permuted order axes) = c.requires.counted ∙ ap count_of (c.requires.shape ∙ ap (permuted order) (sym same)) in
    let many : count_of (permuted order axes) ≡ count_of axes = count_permuted order inverse axes c.requires.undone c.requires.undoes long in
    let below : c.loop-done.done < count_of axes = omega (arith, c.len-count.ensures, total, many) in
    let steps : (l : ℕ) → length inverse ≡ l + 1 → c.step_of-step.result ≡ count_of (drop (get_or inverse l 0 + 1) (permuted order axes)) =
    λ l is. c.step_of-step.ensures l is ∙ ap (λ s. count_of (drop (get_or inverse l 0 + 1) s)) inner_is in
    let row : (k : ℕ) → k < c.rest_of_row-run.result → (c.loop-done.done + k < count_of axes) × (number_moved order axes (c.loop-done.done + k) ≡ number_moved order axes c.loop-done.done + k * c.step_of-step.result) =
    λ k lt. row_steps order inverse axes c.loop-done.done c.rest_of_row-run.result c.step_of-step.result k c.requires.undone c.requires.undoes long below
    c.rest_of_row-run.ensures.none c.rest_of_row-run.ensures.rest steps lt in
    omega (arith, c.moved_number-first.ensures, (row k lt).1, total, moved_below order inverse axes (c.loop-done.done + k) c.requires.undone long (row k lt).0)

pub overflow_add-done : goal.overflow_add-done
overflow_add-done c =
    let a = c.args in
    let order = a.order.now in
    let inverse = a.inverse.now in
    let axes = c.as_slice-axes.result.now in
    let same = c.as_slice-axes.ensures.value in
    let long : length axes ≡ length order = ap length same ∙ c.requires.axes in
    let inner_is : c.as_slice-inner_axes.result.now ≡ permuted order axes = c.as_slice-inner_axes.ensures.value ∙ (c.requires.shape ∙ ap (permuted order) (sym same)) in
    let total : length a.inner.now.elements ≡ count_of (permuted order axes) = c.requires.counted ∙ ap count_of (c.requires.shape ∙ ap (permuted order) (sym same)) in
    let many : count_of (permuted order axes) ≡ count_of axes = count_permuted order inverse axes c.requires.undone c.requires.undoes long in
    let below : c.loop-done.done < count_of axes = omega (arith, c.len-count.ensures, total, many) in
    let steps : (l : ℕ) → length inverse ≡ l + 1 → c.step_of-step.result ≡ count_of (drop (get_or inverse l 0 + 1) (permuted order axes)) =
    λ l is. c.step_of-step.ensures l is ∙ ap (λ s. count_of (drop (get_or inverse l 0 + 1) s)) inner_is in
    let row : (k : ℕ) → k < c.rest_of_row-run.result → (c.loop-done.done + k < count_of axes) × (number_moved order axes (c.loop-done.done + k) ≡ number_moved order axes c.loop-done.done + k * c.step_of-step.result) =
    λ k lt. row_steps order inverse axes c.loop-done.done c.rest_of_row-run.result c.step_of-step.result k c.requires.undone c.requires.undoes long below
    c.rest_of_row-run.ensures.none c.rest_of_row-run.ensures.rest steps lt in
    omega (arith, c.rest_of_row-run.ensures.some, c.len-count.ensures, total, many, (row (c.rest_of_row-run.result - 1) (omega (arith, c.rest_of_row-run.ensures.some))).0)

pub loop-done-preserved : goal.loop-done-preserved
loop-done-preserved c =
    let a = c.args in
    let order = a.order.now in
    let inverse = a.inverse.now in
    let axes = c.as_slice-axes.result.now in
    let same = c.as_slice-axes.ensures.value in
    let long : length axes ≡ length order = ap length same ∙ c.requires.axes in
    let inner_is : c.as_slice-inner_axes.result.now ≡ permuted order axes = c.as_slice-inner_axes.ensures.value ∙ (c.requires.shape ∙ ap (permuted order) (sym same)) in
    let total : length a.inner.now.elements ≡ count_of (permuted order axes) = c.requires.counted ∙ ap count_of (c.requires.shape ∙ ap (permuted order) (sym same)) in
    let many : count_of (permuted order axes) ≡ count_of axes = count_permuted order inverse axes c.requires.undone c.requires.undoes long in
    let below : c.loop-done.done < count_of axes = omega (arith, c.len-count.ensures, total, many) in
    let steps : (l : ℕ) → length inverse ≡ l + 1 → c.step_of-step.result ≡ count_of (drop (get_or inverse l 0 + 1) (permuted order axes)) =
    λ l is. c.step_of-step.ensures l is ∙ ap (λ s. count_of (drop (get_or inverse l 0 + 1) s)) inner_is in
    let row : (k : ℕ) → k < c.rest_of_row-run.result → (c.loop-done.done + k < count_of axes) × (number_moved order axes (c.loop-done.done + k) ≡ number_moved order axes c.loop-done.done + k * c.step_of-step.result) =
    λ k lt. row_steps order inverse axes c.loop-done.done c.rest_of_row-run.result c.step_of-step.result k c.requires.undone c.requires.undoes long below
    c.rest_of_row-run.ensures.none c.rest_of_row-run.ensures.rest steps lt in
    let known = c.loop-done.invariant in
    let f : ℕ → List ℕ = λ i. element_of a.inner.now (number_moved order axes i) in
    let g : ℕ → List ℕ = λ k. element_of a.inner.now (c.moved_number-first.result + k * c.step_of-step.result) in
    record {
      within = omega (arith, c.rest_of_row-run.ensures.some, c.len-count.ensures, total, many, (row (c.rest_of_row-run.result - 1) (omega (arith, c.rest_of_row-run.ensures.some))).0);
      kind = c.push_row.ensures.kind ∙ known.kind;
      elements = c.in_ok-push_row.ensures.ok
          ∙ (ap (λ ys. ys ++ map g (range_with_len 0 c.rest_of_row-run.result)) known.elements
          ∙ rows_join f g c.loop-done.done c.rest_of_row-run.result (λ k lt. ap (element_of a.inner.now) ((row k lt).1 ∙ ap (λ n. n + k * c.step_of-step.result) (sym c.moved_number-first.ensures))));
    }

pub returns-clause-moved : goal.returns-clause-moved
unfolding transposed
returns-clause-moved c =
    let a = c.args in
    let known = c.loop-done.invariant in
    let many : count_of (permuted a.order.now a.shape.now) ≡ count_of a.shape.now =
    count_permuted a.order.now a.inverse.now a.shape.now c.requires.undone c.requires.undoes c.requires.axes in
    let whole : c.loop-done.done ≡ count_of a.shape.now =
    omega (arith, known.within, c.len-count.ensures, c.requires.counted, ap count_of c.requires.shape, many) in
    let elements = rw (c.as_slice-axes.ensures.value, whole) at known.elements in
    c.finish.ensures ∙ array_parts c.loop-done.moved a.inner.now.kind (transposed a.order.now a.shape.now [] a.inner.now.elements) known.kind elements
