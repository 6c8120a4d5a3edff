use Rattle.codec_vlen.proofs.TextSteps.{number_found, number_missing}
use Rattle.codec_vlen.proofs.text.split_number.Goals as goal

pub returns-in_default : goal.returns-in_default
returns-in_default c = number_missing c.args.text.now c.in_default.ensures.cases

pub returns : goal.returns
returns c =
    let cases = c.in-Some.ensures.cases in
    number_found c.args.text.now c.in-Some.number.now c.in-Some.rest.now c.from_le_bytes.result cases.2 cases.0 cases.1 c.from_le_bytes.ensures
