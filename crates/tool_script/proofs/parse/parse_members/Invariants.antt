use Rattle.std.proofs.Common.{◌≡◌, map, ◌++◌}
use Rattle.std.specs.List.{All}
use Rattle.tool_script.specs.Text.{decimal_value, IsNumber, members_of, pieces_left, IsNumberList}
use Rattle.tool_script.proofs.parse.parse_members.Given as goal

abbrev pub invariant-loop-member : goal.invariant-loop-member
invariant-loop-member l = record {
  numbers : l.numbers.items ++ map decimal_value (pieces_left l.member-iterator) ≡ map decimal_value (members_of l.text);
  onwards : All (IsNumber l.greatest) (pieces_left l.member-iterator) → IsNumberList l.greatest l.text;
  back : IsNumberList l.greatest l.text → All (IsNumber l.greatest) (pieces_left l.member-iterator);
}
