use Rattle.std.proofs.Common.{◌∙◌}
use Rattle.sharding_gather.specs.steps.Gathering.{element_read}
use Rattle.sharding_format.proofs.DecodingLemmas.{gathered_more}
use Rattle.sharding_gather.proofs.requested.put_together.Goals as goal

pub loop-i-preserved : goal.loop-i-preserved
loop-i-preserved c =
    let a = c.args in
    record {
      kind = c.push.ensures.kind ∙ c.loop-i.invariant.kind;
      elements = gathered_more (element_read a.groups.now a.parts.now a.fill.now) _ _ c.requested_element-element.result.now c.loop-i.i c.loop-i.invariant.elements c.in_ok-push.ensures.ok
          c.requested_element-element.ensures.element;
    }
