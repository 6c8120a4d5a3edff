use Rattle.std.proofs.Common.{◌≡◌, ◌∷◌, ◌∙◌, append_assoc}
use Rattle.std.proofs.lemmas.List.{map-append}
use Rattle.std.proofs.lemmas.List.Elements.{All-rest}
use Rattle.tool_script.specs.Hex.{hex_word, IsHexWord}
use Rattle.tool_script.specs.Text.{pieces_left}
use Rattle.tool_script.proofs.elements.bytes_members.Goals as goal

pub loop-member-preserved : goal.loop-member-preserved
loop-member-preserved c =
    let left = pieces_left c.next.new.self in
    let member = c.in-Some.member.now in
    let steps : pieces_left c.loop-member.member-iterator ≡ member ∷ left = c.in-Some.ensures.steps in
    let before = rw steps at c.loop-member.invariant.elements in
    record {
      kind = c.in_ok-push.ensures.kind ∙ c.loop-member.invariant.kind;
      elements = rw (c.in_ok-push.ensures.ok, map-append hex_word c.loop-member.array.elements _, append_assoc, c.deref.ensures.value, ← c.in_ok-element.ensures.bytes) before;
      back = λ all. All-rest IsHexWord member left _ steps (c.loop-member.invariant.back all);
    }
