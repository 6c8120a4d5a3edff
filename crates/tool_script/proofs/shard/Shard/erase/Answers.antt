use Rattle.std.proofs.Common.{◌≡◌, None, inl, inr, refl, rules}
use Rattle.storage_handles.specs.Handles.{seen}
use Rattle.tool_script.proofs.OpenLaws.{no_fault}
use Rattle.tool_script.proofs.shard.Shard.erase.Goals as goal

pub returns-in-Err-clause-refused : goal.returns-in-Err-clause-refused
returns-in-Err-clause-refused c =
    let kept : c.new-handle.result ≡ seen (λ bytes. bytes.items) c.args.self.now.object = search rules in
    let refused = rw (c.data_type.ensures.value, kept) at c.in-Err.ensures.refused in
    elim refused [
      | inl memory ↦ inl memory
      | inr a ↦ inr (elim a [
        | inl unlike ↦ inl unlike
        | inr b ↦ inr (b.0, elim (b.1 refl) [ inl fault ↦ absurd (no_fault None None _ fault) | inr found ↦ found ])
      ])
    ]
