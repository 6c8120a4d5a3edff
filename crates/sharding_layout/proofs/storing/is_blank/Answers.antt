use Rattle.std.proofs.lemmas.Bool.Decides.{Decides-eqb}
use Rattle.std.proofs.lemmas.Slice.Eq.{slice_eq-Decides}
use Rattle.sharding_layout.proofs.StoringLemmas.{blank_begins, blank_one}
use Rattle.sharding_layout.proofs.storing.is_blank.Goals as goal

pub returns-then-bytes-fill : goal.returns-then-bytes-fill
returns-then-bytes-fill c =
    let differ = rw c.as_ne_bytes-fill.ensures at c.if-bytes-fill.true in
    (λ t. cc, λ all. absurd (differ (blank_begins c.args.bytes.now c.args.fill_value.now c.requires c.if-bytes-gt0.true all)))

pub returns-then-bytes-fill-2 : goal.returns-then-bytes-fill-2
returns-then-bytes-fill-2 c =
    let bytes = c.args.bytes.now in
    let fill = c.args.fill_value.now in
    let one = rw c.as_ne_bytes-fill.ensures at c.if-bytes-fill-2.true in
    let is = slice_eq-Decides Decides-eqb bytes fill c.eq.result (rw c.as_ne_bytes-fill.ensures at c.eq.ensures) in
    let blank = blank_one bytes fill c.requires one in
    (λ t. blank.0 (is.0 t), λ all. is.1 (blank.1 all))
