use Rattle.std.proofs.Common.{◌≡◌, ◌+◌, ◌*◌, ◌-◌, ◌/◌, ◌∙◌, map, ap, sym, get_or, None, length, arith}
use Rattle.std.proofs.lemmas.List.{get_or_default}
use Rattle.std.specs.List.{range_with_len}
use Rattle.parts_row_major.specs.Numbering.{count_of}
use Rattle.parts_subsets.specs.Grid.{subchunk_number, position_number}
use Rattle.parts_arrays.specs.declared.data_type.DataTypeSize.TheVariants.{Variable}
use Rattle.sharding_format.specs.steps.Decoding.{element_in, IsPartOf}
use Rattle.sharding_gather.proofs.RunPositions.{last_axis, last_axis-get_or, run_elements, run_fits, RunFits, part_fits, whole_runs}
use Rattle.sharding_gather.proofs.gathering.listed.Goals as goal
use Rattle.sharding_gather.proofs.gathering.listed.Goals.{After-index-subchunks-subchunk}

is_run : (c : After-index-subchunks-subchunk) → c.run_length-run.result ≡ last_axis c.args.shard.now.sub.now
is_run c = c.run_length-run.ensures ∙ (ap (λ s. get_or s (length s - 1) 1) c.as_slice-parts.ensures.value ∙ last_axis-get_or c.args.shard.now.sub.now)

fits : (c : After-index-subchunks-subchunk) → RunFits c.args.shard.now.shape.now c.args.shard.now.sub.now c.loop-q.q
fits c =
    run_fits c.args.shard.now.shape.now c.args.shard.now.sub.now c.loop-q.q c.as_slice-axes.ensures.positive c.as_slice-parts.ensures.positive c.requires.shard.divides
    (rw (c.requires.shard.cells, is_run c) at c.loop-q-test.true)

position_is : (c : After-index-subchunks-subchunk) → c.locate-subchunk.result.position ≡ position_number c.args.shard.now.shape.now c.args.shard.now.sub.now (c.loop-q.q * last_axis c.args.shard.now.sub.now)
position_is c = rw (c.as_slice-axes.ensures.value, c.as_slice-parts.ensures.value, is_run c) at c.locate-subchunk.ensures.position

-- the subchunk of the run
found : (c : After-index-subchunks-subchunk) → c.index-subchunks-subchunk.result ≡ get_or c.args.shard.now.subchunks.now c.locate-subchunk.result.subchunk None
found c =
    let below = rw (c.as_slice-axes.ensures.value, c.as_slice-parts.ensures.value) at c.locate-subchunk.ensures.subchunk_below in
    c.index-subchunks-subchunk.is ∙ get_or_default c.args.shard.now.subchunks.now c.locate-subchunk.result.subchunk _ None (omega (arith, below, c.requires.shard.subchunks.counted))

part : (c : After-index-subchunks-subchunk) → IsPartOf Variable (count_of c.args.shard.now.sub.now) (get_or c.args.shard.now.subchunks.now c.locate-subchunk.result.subchunk None)
part c =
    let below = rw (c.as_slice-axes.ensures.value, c.as_slice-parts.ensures.value) at c.locate-subchunk.ensures.subchunk_below in
    c.requires.shard.subchunks.each c.locate-subchunk.result.subchunk below

subchunk_is : (c : After-index-subchunks-subchunk) → c.locate-subchunk.result.subchunk ≡ subchunk_number c.args.shard.now.shape.now c.args.shard.now.sub.now (c.loop-q.q * last_axis c.args.shard.now.sub.now)
subchunk_is c = rw (c.as_slice-axes.ensures.value, c.as_slice-parts.ensures.value, is_run c) at c.locate-subchunk.ensures.subchunk

pub push_positions-requires-clause-within : goal.push_positions-requires-clause-within
push_positions-requires-clause-within c =
    let d = (goal.at.push_positions-requires-clause-within c).After-index-subchunks-subchunk in
    part_fits Variable (count_of c.args.shard.now.sub.now) _ _ (rw (found d) (part d)) (omega (arith, position_is d, is_run d, (fits d).within))

pub push_positions-requires-clause-fits : goal.push_positions-requires-clause-fits
push_positions-requires-clause-fits c =
    let d = (goal.at.push_positions-requires-clause-fits c).After-index-subchunks-subchunk in
    omega (arith, position_is d, is_run d, (fits d).within, c.requires.shard.positions)

pub loop-q-preserved : goal.loop-q-preserved
loop-q-preserved c =
    let d = (goal.at.loop-q-preserved c).After-index-subchunks-subchunk in
    let a = c.args.shard.now in
    let sub = a.sub.now in
    let f = element_in a.subchunks.now a.fill.now a.shape.now sub in
    let run = last_axis sub in
    let q = c.loop-q.q in
    let next : q * run + run ≡ (q + 1) * run = omega arith in
    let whole = run_elements a.subchunks.now a.fill.now a.shape.now sub q c.as_slice-axes.ensures.positive c.as_slice-parts.ensures.positive c.requires.shard.divides in
    let more = rw (found d, subchunk_is d, position_is d, c.loop-q.invariant.elements, is_run d) at c.in_ok-push_positions.ensures.ok in
    record {
      kind = c.in_ok-push_positions.ensures.kind;
      elements = rw (is_run d) (more ∙ (sym whole ∙ ap (λ n. map f (range_with_len 0 n)) next));
    }

pub returns-clause-elements : goal.returns-clause-elements
returns-clause-elements c =
    let sub = c.args.shard.now.sub.now in
    let shape = c.args.shard.now.shape.now in
    let f = element_in c.args.shard.now.subchunks.now c.args.shard.now.fill.now shape sub in
    let run : c.run_length-run.result ≡ last_axis sub =
    c.run_length-run.ensures ∙ (ap (λ s. get_or s (length s - 1) 1) c.as_slice-parts.ensures.value ∙ last_axis-get_or sub) in
    let all = whole_runs shape sub c.as_slice-axes.ensures.positive c.as_slice-parts.ensures.positive c.requires.shard.divides in
    let counted = rw (c.requires.shard.cells, run) at c.loop-q-test.false in
    let below = rw (c.requires.shard.cells, run) at c.loop-q.auto.q-end in
    let last : c.loop-q.q ≡ count_of shape / last_axis sub = omega (arith, counted, below) in
    ap (λ a. a.elements) c.finish.ensures
    ∙ (c.loop-q.invariant.elements ∙ ap (λ n. map f (range_with_len 0 n)) (ap (λ r. c.loop-q.q * r) run ∙ (ap (λ q. q * last_axis sub) last ∙ all.1)))
