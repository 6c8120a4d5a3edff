use Rattle.std.proofs.Common.{◌∙◌, ◌*◌, rules, arith, ap, inl, inr, refl}
use Rattle.sharding_format.proofs.PlanLemmas.{some_subchunks, some_positions}
use Rattle.sharding_index.proofs.plan.Plan.new.Goals as goal

pub returns-in_default-clause-refused : goal.returns-in_default-clause-refused
returns-in_default-clause-refused g c =
    let served = c.in_ok-grid.ensures.served in
    inr (inr (served.0, inr (served.1, inl (λ fits. c.in_default.ensures.value fits.0, refl))))

pub returns-in_default-checked_mul-clause-refused : goal.returns-in_default-checked_mul-clause-refused
returns-in_default-checked_mul-clause-refused g c =
    let served = c.in_ok-grid.ensures.served in
    let bytes = ap (λ cells. cells * c.args.element_size) c.in-Some.ensures.value.1 in
    inr (inr (served.0, inr (served.1, inl (λ fits. omega (arith, fits.1, c.in_default-checked_mul.ensures, bytes), refl))))

pub returns-in_default-num_elements-clause-refused : goal.returns-in_default-num_elements-clause-refused
returns-in_default-num_elements-clause-refused g c =
    let served = c.in_ok-grid.ensures.served in
    inr (inr (served.0, inr (served.1, inl (λ fits. c.in_default-num_elements.ensures.value (rw c.in_ok-grid.ensures.grid (omega (arith, fits.2))), refl))))

pub returns-in_default-checked_mul-2-clause-refused : goal.returns-in_default-checked_mul-2-clause-refused
returns-in_default-checked_mul-2-clause-refused g c =
    let served = c.in_ok-grid.ensures.served in
    let count = rw c.in_ok-grid.ensures.grid at c.in-Some-num_elements.ensures.value.1 in
    inr (inr (served.0, inr (served.1, inl (λ fits. omega (arith, fits.2, c.in_default-checked_mul-2.ensures, count), refl))))

pub returns-clause-plan : goal.returns-clause-plan
returns-clause-plan g c =
    let a = c.args in
    let divides = c.in_ok-grid.ensures.served.1 in
    let grid = c.in_ok-grid.ensures.grid in
    record {
      cells = search rules;
      grid = c.in_ok-index.ensures.grid ∙ grid;
      subchunks = rw grid at c.in-Some-num_elements.ensures.value.1;
      some = rw (c.in-Some-num_elements.ensures.value.1, grid) (some_subchunks a.shape.now a.subchunk_shape.now c.num_elements-count.ensures.positive divides);
      positions = some_positions a.shape.now a.subchunk_shape.now c.num_elements-count.ensures.positive divides;
      index = c.in_ok-index.ensures.plan;
    }
