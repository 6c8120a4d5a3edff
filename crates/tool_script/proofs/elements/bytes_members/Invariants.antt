use Rattle.std.proofs.Common.{◌≡◌, map, ◌++◌}
use Rattle.std.specs.List.{All}
use Rattle.parts_arrays.specs.declared.data_type.DataTypeSize.TheVariants.{Variable}
use Rattle.tool_script.specs.Hex.{hex_word, IsHexWord}
use Rattle.tool_script.specs.Text.{members_of, pieces_left}
use Rattle.tool_script.proofs.elements.bytes_members.Given as goal

-- what was taken and what is left are the members of the text
abbrev pub invariant-loop-member : goal.invariant-loop-member
invariant-loop-member l = record {
  kind : l.array.kind ≡ Variable;
  elements : map hex_word l.array.elements ++ pieces_left l.member-iterator ≡ members_of l.text;
  back : All IsHexWord (members_of l.text) → All IsHexWord (pieces_left l.member-iterator);
}
