use Rattle.std.proofs.Common.{◌≡◌, ◌∷◌, append_assoc}
use Rattle.std.proofs.lemmas.List.Elements.{All-cons, All-rest}
use Rattle.tool_script.specs.Text.{IsNumber, pieces_left}
use Rattle.tool_script.proofs.parse.parse_members.Goals as goal

pub loop-member-preserved : goal.loop-member-preserved
loop-member-preserved c =
    let P = IsNumber c.args.greatest in
    let left = pieces_left c.next.new.self in
    let member = c.in-Some.member.now in
    let steps : pieces_left c.loop-member.member-iterator ≡ member ∷ left = c.in-Some.ensures.steps in
    record {
      numbers = rw c.in_ok-push-in-Some-parse_number.ensures.items (rw append_assoc (rw c.in-Some-parse_number.ensures.1 (rw steps at c.loop-member.invariant.numbers)));
      onwards = λ all. c.loop-member.invariant.onwards (rw steps (All-cons P member left c.in-Some-parse_number.ensures.0 all));
      back = λ all. All-rest P member left _ steps (c.loop-member.invariant.back all);
    }
