use Rattle.std.proofs.Common.{◌≡◌, ◌-◌, ◌∙◌, sym, length, arith}
use Rattle.std.proofs.lemmas.Bool.{false≢true}
use Rattle.sharding_layout.proofs.StoringLemmas.{kept_after, tail_is}
use Rattle.sharding_layout.proofs.storing.slot_after.Goals as goal

pub returns : goal.returns
returns c =
    let slices = c.args.slices.now.items in
    let told = rw (c.deref.ensures.value, tail_is c.args.from slices) at c.is_blank.ensures in
    let counted : c.len.result - c.args.from ≡ length slices - c.args.from = omega (arith, c.len.ensures, c.args.slices.now.ok.0) in
    record {
      stored = kept_after c.args.fill_value.now (length c.args.fill_value.now) c.args.from (c.len.result - c.args.from) slices c.requires.from c.requires.whole counted
          (λ all. false≢true (sym c.if-is_blank.false ∙ told.1 all));
    }
