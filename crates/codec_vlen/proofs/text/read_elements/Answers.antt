use Rattle.std.proofs.Common.{◌≡◌, ◌-◌, length, None, Some, ◌++◌, ◌∷◌, [], take, drop, sym, arith, rules}
use Rattle.std.proofs.lemmas.List.{take_all, length-drop}
use Rattle.parts_arrays.specs.Arrays.{parts}
use Rattle.codec_vlen.specs.Text.{first_element}
use Rattle.codec_vlen.proofs.TextSteps.{too_many, read_next, read_none, read_past, read_all, damaged}
use Rattle.codec_vlen.proofs.text.read_elements.Goals as goal

pub returns-then-count-text-clause-refused : goal.returns-then-count-text-clause-refused
returns-then-count-text-clause-refused c = damaged _ (too_many c.args.count c.args.text.now (omega (arith, c.if-count-text.true)))

pub returns-in_default-clause-refused : goal.returns-in_default-clause-refused
returns-in_default-clause-refused c =
    let none : None ≡ first_element c.loop-i.rest.now = rw c.in_default.is at c.split_len.ensures.read in
    let so_far = parts c.loop-i.offsets.items c.loop-i.bytes.items in
    damaged _ (read_none c.args.count c.args.text.now so_far c.loop-i.i c.loop-i.rest.now c.loop-i-test.true (sym none) c.loop-i.invariant.read)

pub loop-i-preserved : goal.loop-i-preserved
loop-i-preserved c =
    let so_far = parts c.loop-i.offsets.items c.loop-i.bytes.items in
    let element = take c.in-Some.len c.in-Some.found.now in
    let later = drop c.in-Some.len c.in-Some.found.now in
    let first : Some (element, later) ≡ first_element c.loop-i.rest.now = rw c.in-Some.is at c.split_len.ensures.read in
    let next = read_next c.args.count c.args.text.now so_far c.loop-i.i c.loop-i.rest.now element later c.loop-i-test.true (sym first) c.loop-i.invariant.read in
    let pushed : parts c.push_part.new.offsets.items c.push_part.new.bytes.items ≡ so_far ++ element ∷ [] = c.in_ok-push_part.ensures.ok in
    let found = c.in-Some.found.now in
    let rest : take (length found - c.in-Some.len) later ≡ later = take_all (length found - c.in-Some.len) later (omega (arith, length-drop c.in-Some.len found)) in
    record {
      offsets = c.push_part.ensures.offsets;
      room = omega (arith, c.loop-i.invariant.room, c.in_ok-push_part.ensures.len, c.push_part.ensures.capacity, c.loop-i-test.true);
      read = rw (pushed, rest) next;
    }

pub returns-then-not-is_empty-clause-refused : goal.returns-then-not-is_empty-clause-refused
returns-then-not-is_empty-clause-refused c =
    let so_far = parts c.loop-i.offsets.items c.loop-i.bytes.items in
    damaged _ (read_past c.args.count c.args.text.now so_far c.loop-i.i c.loop-i.rest.now (omega arith) (search rules) c.loop-i.invariant.read)

pub returns-clause-elements : goal.returns-clause-elements
returns-clause-elements c =
    let so_far = parts c.loop-i.offsets.items c.loop-i.bytes.items in
    let none : length c.loop-i.rest.now ≡ 0 = search rules in
    let all = read_all c.args.count c.args.text.now so_far c.loop-i.i c.loop-i.rest.now (omega arith) none c.loop-i.invariant.read in
    rw c.from_variable.ensures all
