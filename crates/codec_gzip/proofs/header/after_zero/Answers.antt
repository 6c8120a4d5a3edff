use Rattle.std.proofs.Common.{◌+◌, Some, arith, sym, ap, ◌∙◌}
use Rattle.std.proofs.lemmas.List.{take_rest}
use Rattle.codec_gzip.proofs.GzipLaws.{text_more, text_end, text_none}
use Rattle.codec_gzip.proofs.header.after_zero.Goals as goal

pub loop-place-preserved : goal.loop-place-preserved
loop-place-preserved c = sym (text_more c.loop-place.place c.args.bytes.now c.loop-place-test.true c.if-byte-eq0.false) ∙ c.loop-place.invariant

pub returns-then-byte-eq0-clause-read : goal.returns-then-byte-eq0-clause-read
returns-then-byte-eq0-clause-read c = sym c.loop-place.invariant ∙ (text_end c.loop-place.place c.args.bytes.now c.loop-place-test.true c.if-byte-eq0.true ∙ ap Some (sym (take_rest c.args.bytes.now (c.loop-place.place + 1))))

pub returns-clause-read : goal.returns-clause-read
returns-clause-read c = sym c.loop-place.invariant ∙ text_none c.loop-place.place c.args.bytes.now (omega arith)
