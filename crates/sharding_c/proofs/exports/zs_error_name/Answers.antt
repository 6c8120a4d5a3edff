use Rattle.std.proofs.Common.{◌≡◌, rules}
use Rattle.sharding_c.specs.Statuses.{status_name}
use Rattle.sharding_c.proofs.FrontLemmas.{ended_by}
use Rattle.sharding_c.proofs.exports.zs_error_name.Goals as goal

pub returns-then-length-name-clause-written : goal.returns-then-length-name-clause-written
returns-then-length-name-clause-written c = λ fits.
    let text : c.as_bytes-text.result.now ≡ status_name c.args.status = search rules in
    let copied : c.copy_from_slice.new.self ≡ status_name c.args.status = search rules in
    rw (copied, text) (ended_by (status_name c.args.status) c.args.name.now 0 fits)
