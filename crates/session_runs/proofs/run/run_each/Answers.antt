use Rattle.std.proofs.Common.{◌+◌, ◌++◌, ◌∷◌, [], take, refl, sym, ap, ◌∙◌, arith}
use Rattle.std.proofs.lemmas.List.{take_more, length_push}
use Rattle.parts_subsets.specs.Grid.{grid_of}
use Rattle.sharding_format.specs.Index.{index_spec}
use Rattle.session_runs.specs.Objects.{shards_of}
use Rattle.session_runs.specs.Served.{served_spec}
use Rattle.session_runs.specs.declared.command.Command.{Command}
use Rattle.session_runs.proofs.OpeningLemmas.{meant, index_never_long, opening_refused, usable_closed}
use Rattle.session_runs.proofs.RunLemmas.{ran_more, ended_by, ended_by_halt, length-with_reply, halts_last, writing_on}
use Rattle.session_runs.proofs.run.run_each.Goals as goal

pub returns-in-Err-clause-stops : goal.returns-in-Err-clause-stops
returns-in-Err-clause-stops g c =
    λ told serves sound short.
    let inner = g.I.ArrayToBytesCodecTraits.meaning in
    let outer = g.X.ArrayToBytesCodecTraits.meaning in
    let state = g.H.BytesPartialDecoderTraits.state in
    let codec = c.args.served.now.codec.now in
    let spec = served_spec c.args.served.now in
    let s = shards_of inner outer codec spec in
    opening_refused inner outer codec spec
    (index_never_long s.inner s.index codec.subchunk_shape spec (g.met.X.ArrayToBytesCodecTraits.lawful codec.index_codec (index_spec (grid_of spec.shape codec.subchunk_shape))) serves)
    (meant inner outer codec spec) (state c.args.handle) (state c.in-Err.handle) c.in-Err.error serves told (record { sound = sound; short = short }) c.in-Err.ensures.refused

pub returns-then-is_err-clause-run : goal.returns-then-is_err-clause-run
returns-then-is_err-clause-run g c =
    λ told.
    let inner = g.I.ArrayToBytesCodecTraits.meaning in
    let outer = g.X.ArrayToBytesCodecTraits.meaning in
    let state = g.H.BytesPartialDecoderTraits.state in
    let codec = c.args.served.now.codec.now in
    let spec = served_spec c.args.served.now in
    let i = c.loop-command.invariant in
    let session = c.loop-command.state in
    let usable = usable_closed inner outer state session codec spec session.handle i.in_step i.session.codec i.session.array_spec i.session.usable refl (rw i.writing.transparent_same told) in
    rw c.reserve.ensures.items
    (ended_by (shards_of inner outer codec spec) (state c.args.handle) (state c.close.result) c.args.commands.now c.loop-command.command-index c.loop-command.replies.items (state session.handle).contents
    i.count (i.ran told) usable (λ same. ap (λ h. (state h).contents) c.close.ensures.handle))

pub returns-in-Err-step-clause-counted : goal.returns-in-Err-step-clause-counted
returns-in-Err-step-clause-counted g c =
    rw (c.halted.ensures.replies, c.reserve.ensures.items) (omega (arith, length-with_reply c.loop-command.replies.items c.in-Err-step.halt.reply, c.loop-command.invariant.count, c.loop-command-test.true))

pub returns-in-Err-step-clause-run : goal.returns-in-Err-step-clause-run
returns-in-Err-step-clause-run g c =
    λ told.
    let inner = g.I.ArrayToBytesCodecTraits.meaning in
    let outer = g.X.ArrayToBytesCodecTraits.meaning in
    let state = g.H.BytesPartialDecoderTraits.state in
    let codec = c.args.served.now.codec.now in
    let spec = served_spec c.args.served.now in
    let i = c.loop-command.invariant in
    let n = c.loop-command.command-index in
    let session = c.loop-command.state in
    let here = c.command-item.result in
    let more = take_more c.args.commands.now n here c.loop-command-test.true ∙ ap (λ (x : Command). take n c.args.commands.now ++ x ∷ []) (sym c.command-item.is) in
    let halt = c.in-Err-step.halt in
    let usable = usable_closed inner outer state session codec spec session.handle i.in_step i.session.codec i.session.array_spec i.session.usable refl (rw i.writing.transparent_same told) in
    rw (c.halted.ensures.handle, c.halted.ensures.replies, c.reserve.ensures.items)
    (ended_by_halt (shards_of inner outer codec spec) (state c.args.handle) (state session.handle) (state halt.handle) c.args.commands.now n c.loop-command.replies.items here halt.reply halt.error
    i.count more i.writing.faults_kept (i.ran told) usable (c.in-Err-step.ensures.halts (rw i.writing.transparent_same told)))

pub returns-in-Err-step-clause-last : goal.returns-in-Err-step-clause-last
returns-in-Err-step-clause-last g c =
    let n = c.loop-command.command-index in
    let here = c.command-item.result in
    let more = take_more c.args.commands.now n here c.loop-command-test.true ∙ ap (λ (x : Command). take n c.args.commands.now ++ x ∷ []) (sym c.command-item.is) in
    rw (c.halted.ensures.replies, c.reserve.ensures.items)
    (λ whole stopped. halts_last c.args.commands.now n c.loop-command.replies.items here c.in-Err-step.halt.reply c.loop-command.invariant.count c.loop-command-test.true more c.in-Err-step.ensures.compacted whole)

pub loop-command-preserved : goal.loop-command-preserved
loop-command-preserved g c =
    let inner = g.I.ArrayToBytesCodecTraits.meaning in
    let outer = g.X.ArrayToBytesCodecTraits.meaning in
    let state = g.H.BytesPartialDecoderTraits.state in
    let codec = c.args.served.now.codec.now in
    let spec = served_spec c.args.served.now in
    let i = c.loop-command.invariant in
    let n = c.loop-command.command-index in
    let session = c.loop-command.state in
    let here = c.command-item.result in
    let more = take_more c.args.commands.now n here c.loop-command-test.true ∙ ap (λ (x : Command). take n c.args.commands.now ++ x ∷ []) (sym c.command-item.is) in
    let next = c.in-Ok-step.next in
    record {
      session = c.in-Ok-step.ensures.session;
      in_step = c.in-Ok-step.ensures.in_step;
      writing = writing_on (state c.args.handle) (state session.handle) (state next.handle) i.writing c.in-Ok-step.ensures.writing;
      count = rw (c.push_reserved.ensures.items, c.reserve.ensures.items) (length_push c.loop-command.replies.items c.in-Ok-step.reply ∙ ap (λ m. m + 1) i.count);
      ran = λ told. rw (c.push_reserved.ensures.items, c.reserve.ensures.items, more)
          (ran_more (shards_of inner outer codec spec) (state c.args.handle).contents (take n c.args.commands.now) c.loop-command.replies.items (state session.handle).contents here c.in-Ok-step.reply (state next.handle).contents
          (i.ran told) (c.in-Ok-step.ensures.leads (rw i.writing.transparent_same told)));
    }

pub returns-clause-run : goal.returns-clause-run
returns-clause-run g c =
    λ told.
    let inner = g.I.ArrayToBytesCodecTraits.meaning in
    let outer = g.X.ArrayToBytesCodecTraits.meaning in
    let state = g.H.BytesPartialDecoderTraits.state in
    let codec = c.args.served.now.codec.now in
    let spec = served_spec c.args.served.now in
    let i = c.loop-command.invariant in
    let session = c.loop-command.state in
    let usable = usable_closed inner outer state session codec spec session.handle i.in_step i.session.codec i.session.array_spec i.session.usable refl (rw i.writing.transparent_same told) in
    ended_by (shards_of inner outer codec spec) (state c.args.handle) (state c.close-2.result) c.args.commands.now c.loop-command.command-index c.loop-command.replies.items (state session.handle).contents
    i.count (i.ran told) usable (λ same. ap (λ h. (state h).contents) c.close-2.ensures.handle)
