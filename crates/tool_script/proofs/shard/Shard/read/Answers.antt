use Rattle.std.proofs.Common.{◌≡◌, None, inl, inr, refl, rules}
use Rattle.storage_handles.specs.Handles.{seen}
use Rattle.sharding_format.proofs.EncodeRefusals.{refused_as}
use Rattle.tool_script.specs.Shards.{spec_of_shard}
use Rattle.tool_script.proofs.OpenLaws.{opens, no_fault}
use Rattle.tool_script.proofs.shard.Shard.read.Goals as goal

-- the reader was opened, so that the codec serves and the object has an index; what is left are the tests of what is asked
pub returns-in-Ok-clause-refused : goal.returns-in-Ok-clause-refused
returns-in-Ok-clause-refused g c =
    let d = c.in-Ok.decoder in
    let codec : d.codec ≡ c.args.self.now.codec = c.in-Ok.ensures.codec in
    let requested : d.array_spec ≡ spec_of_shard c.args.self.now = search rules in
    let kept : d.handle ≡ seen (λ bytes. bytes.items) c.args.self.now.object = search rules in
    let serves = rw (codec, requested) at c.in-Ok.ensures.is_open.serves in
    let cached = rw (codec, requested, kept) at c.in-Ok.ensures.is_open.cached in
    let refused = rw (codec, requested, kept) at c.partial_decode-cells.ensures.refused in
    refused_as c.partial_decode-cells.result _ _ (λ e h. elim h [
      | inl memory ↦ inl memory
      | inr a ↦ inr (inr (
        serves,
        inr (
          opens _ _ _ _ (cached refl) c.in-Ok.ensures.is_open.room,
          elim a [
            | inl axes ↦ inl axes
            | inr b ↦ inr (
              b.0,
              elim b.1 [
                | inl outside ↦ inl outside
                | inr f ↦ inr (
                  f.0,
                  elim f.1 [
                    | inl many ↦ inl many
                    | inr k ↦ inr (
                      k.0,
                      elim k.1 [
                        | inl large ↦ inl large
                        | inr later ↦ inr (later.0, elim (later.1 refl) [ inl fault ↦ absurd (no_fault None None _ fault) | inr found ↦ found ])
                      ],
                    )
                  ],
                )
              ],
            )
          ],
        ),
      ))
    ]) refused

-- the reader was not opened
pub returns-in-Err-clause-refused : goal.returns-in-Err-clause-refused
returns-in-Err-clause-refused g c =
    let kept : c.new-handle.result ≡ seen (λ bytes. bytes.items) c.args.self.now.object = search rules in
    let refused = rw (c.data_type.ensures.value, kept) at c.in-Err.ensures.refused in
    elim refused [
      | inl memory ↦ inl memory
      | inr a ↦ inr (elim a [
        | inl unlike ↦ inl unlike
        | inr b ↦ inr (b.0, inl (elim (b.1 refl) [ inl fault ↦ absurd (no_fault None None _ fault) | inr found ↦ found ]))
      ])
    ]
