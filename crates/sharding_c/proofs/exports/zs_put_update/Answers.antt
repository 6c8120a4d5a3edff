use Rattle.std.proofs.Common.{refl}
use Rattle.sharding_c.specs.declared.status.Refusal.TheVariants.{Codec}
use Rattle.sharding_c.proofs.exports.zs_put_update.Goals as goal

pub returns-in-Err-clause-refused : goal.returns-in-Err-clause-refused
returns-in-Err-clause-refused c = λ refused. record {
  refusal = Codec c.in-Err.error;
  tested = (c.in-Err.error, refl, c.in-Err.ensures.refused);
  numbered = c.number.ensures;
}
