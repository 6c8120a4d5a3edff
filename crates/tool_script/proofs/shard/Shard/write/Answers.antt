use Rattle.std.proofs.Common.{◌≡◌, None, inl, inr, refl, rules}
use Rattle.parts_subsets.specs.Selections.{subset_selection}
use Rattle.storage_handles.specs.Handles.{seen}
use Rattle.codec_bytes.specs.BytesCodec.{bytes_meaning}
use Rattle.sharding_format.proofs.EncodeRefusals.{refused_as}
use Rattle.tool_script.specs.Shards.{spec_of_shard}
use Rattle.tool_script.proofs.OpenLaws.{no_fault, write_refused}
use Rattle.tool_script.proofs.shard.Shard.write.Goals as goal

-- the session was opened, so that the codec serves and the object has an index with pairs in the data part; what is left are the tests of
-- the write
pub returns-in-Ok-clause-refused : goal.returns-in-Ok-clause-refused
returns-in-Ok-clause-refused c =
    let d = c.in-Ok.session in
    let codec : d.codec ≡ c.args.self.now.codec = c.in-Ok.ensures.codec in
    let requested : d.array_spec ≡ spec_of_shard c.args.self.now = search rules in
    let kept : d.handle ≡ seen (λ bytes. bytes.items) c.args.self.now.object = search rules in
    let serves = rw (codec, requested) at c.in-Ok.ensures.in_step.serves in
    let placed = rw (codec, requested) at c.in-Ok.ensures.in_step.index in
    let cached = rw (codec, requested, kept) at c.in-Ok.ensures.in_step.cached in
    let refused = rw (codec, requested, kept) at c.partial_encode-written.ensures.refused in
    let object = seen (λ bytes. bytes.items) c.args.self.now.object in
    refused_as c.partial_encode-written.result _ _ (write_refused bytes_meaning c.args.self.now.codec (spec_of_shard c.args.self.now) object d.len d.index _ _ _ _
    (subset_selection c.args.subset.now) c.args.elements.now d.failed object c.partial_encode-written.new.self.handle (cached c.in-Ok.ensures.usable refl) placed serves
    c.in-Ok.ensures.usable) refused

-- the session was not opened
pub returns-in-Err-clause-refused : goal.returns-in-Err-clause-refused
returns-in-Err-clause-refused c =
    let kept : c.new-handle.result ≡ seen (λ bytes. bytes.items) c.args.self.now.object = search rules in
    let refused = rw (c.data_type.ensures.value, kept) at c.in-Err.ensures.refused in
    elim refused [
      | inl memory ↦ inl memory
      | inr a ↦ inr (elim a [
        | inl unlike ↦ inl unlike
        | inr b ↦ inr (b.0, inl (elim (b.1 refl) [ inl fault ↦ absurd (no_fault None None _ fault) | inr found ↦ found ]))
      ])
    ]
