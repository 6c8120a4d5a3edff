use Rattle.std.proofs.Common.{◌≡◌, ◌+◌, [], arith, rules, length}
use Rattle.parts_arrays.specs.Arrays.{AreOffsets, part, parts}
use Rattle.parts_row_major.proofs.RunLaws.{left_all, left_none, next_within}
use Rattle.parts_arrays.proofs.PartLaws.{run_taken}
use Rattle.parts_arrays.proofs.ArrayLaws.{taken_array}
use Rattle.parts_arrays.proofs.array_bytes.extract.extract_variable.Goals as goal

pub loop-first-init : goal.loop-first-init
loop-first-init c =
    let gives = c.into_iter-first-iterator.ensures.into_iter_gives in
    let runs = c.runs_in-first-items in
    let offsets : AreOffsets c.push.new.self.items (length c.new-taken.result.items) = search rules in
    let none : parts c.push.new.self.items c.new-taken.result.items ≡ [] = search rules in
    record {
      are_offsets = offsets;
      so_far = (
        0,
        rw gives (record {
          left = left_all c.args.subset.now c.args.shape.now runs.result runs.ensures.runs;
          within = runs.ensures.within;
          so_far = none;
        }),
      );
    }

pub push_parts-requires-clause-within : goal.push_parts-requires-clause-within
push_parts-requires-clause-within c =
    let fits = next_within _ c.in-Some.first c.in-Some.len c.loop-first.first-iterator c.next.new.self c.in-Some.ensures.steps c.loop-first.invariant.so_far.1.within in
    omega (arith, fits, c.requires.all)

pub loop-first-preserved : goal.loop-first-preserved
loop-first-preserved c =
    let known = c.loop-first.invariant.so_far in
    record {
      are_offsets = c.in_ok-push_parts.ensures.offsets;
      so_far = (
        known.0 + c.in-Some.len,
        run_taken (part c.args.bytes.now c.args.offsets.now) c.args.subset.now c.args.shape.now known.0 c.in-Some.first c.in-Some.len c.loop-first.first-iterator c.next.new.self
            (parts c.loop-first.ends.items c.loop-first.taken.items) _ c.in-Some.ensures.steps known.1 c.in_ok-push_parts.ensures.ok,
      );
    }

pub returns : goal.returns
returns c =
    let known = c.loop-first.invariant.so_far in
    let all = left_none _ _ known.0 (rw c.in-None.ensures.steps.0 at known.1.left) in
    taken_array c.args.offsets.now c.args.bytes.now c.loop-first.ends.items c.loop-first.taken.items c.args.subset.now c.args.shape.now known.0
    c.requires.all c.requires.served.0 all known.1.so_far
