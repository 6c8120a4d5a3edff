use Rattle.parts_row_major.proofs.NumberingLaws.{count_positive}
use Rattle.codec_vlen.proofs.vlen_codec.counted.Goals as goal

pub returns-clause-some : goal.returns-clause-some
returns-clause-some c = count_positive c.args.shape.now (λ i lt. c.num_elements.ensures.positive i 0 lt)
