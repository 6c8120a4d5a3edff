use Rattle.std.proofs.Common.{◌++◌, codes, refl, ◌∙◌, ap, inl, inr}
use Rattle.std.proofs.lemmas.Bool.Decides.{Decides-eqb}
use Rattle.std.proofs.lemmas.Slice.Eq.{strip_prefix_is}
use Rattle.hex.specs.Hex.{decode_of}
use Rattle.hex.proofs.HexLemmas.{decode_of-encode_lower}
use Rattle.tool_script.proofs.HexLaws.{encode_lower-decode_of, encode_lower-no_upper_case, text_of_word}
use Rattle.tool_script.proofs.parse.parse_bytes.Goals as goal

pub returns-then-not-is_lower_case-clause-malformed : goal.returns-then-not-is_lower_case-clause-malformed
returns-then-not-is_lower_case-clause-malformed c = λ _ _ word.
    let is = rw c.in_ok-digits.ensures.ok_part at (strip_prefix_is Decides-eqb c.args.word.now (codes "x") c.strip_prefix.result c.strip_prefix.ensures.cases) in
    let text = text_of_word c.args.word.now c.in_ok-digits.digits.now is word in
    let lower = c.if-not-is_lower_case.ensures.1 (rw text (encode_lower-no_upper_case word.bytes word.fit)) in
    cc

pub returns-in_err-decode-clause-malformed : goal.returns-in_err-decode-clause-malformed
returns-in_err-decode-clause-malformed c = λ reason malformed word.
    let is = rw c.in_ok-digits.ensures.ok_part at (strip_prefix_is Decides-eqb c.args.word.now (codes "x") c.strip_prefix.result c.strip_prefix.ensures.cases) in
    let text = text_of_word c.args.word.now c.in_ok-digits.digits.now is word in
    let read = ap decode_of text ∙ decode_of-encode_lower word.bytes word.fit in
    let stop = rw malformed at c.from_residual-in_err-decode.ensures.1 in
    elim c.in_err-decode.ensures.err [ inl memory ↦ let failed = stop.1 memory in cc | inr unread ↦ cc ]

pub returns-clause-bytes : goal.returns-clause-bytes
returns-clause-bytes c =
    let is = rw c.in_ok-digits.ensures.ok_part at (strip_prefix_is Decides-eqb c.args.word.now (codes "x") c.strip_prefix.result c.strip_prefix.ensures.cases) in
    let text = encode_lower-decode_of c.in_ok-digits.digits.now c.in_ok-decode.field-0.items c.in_ok-decode.ensures.ok (c.if-not-is_lower_case.ensures.0 refl) in
    is ∙ ap (λ digits. codes "x" ++ digits) text
