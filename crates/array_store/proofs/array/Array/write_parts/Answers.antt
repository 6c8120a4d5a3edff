use Rattle.std.proofs.Common.{◌≡◌, ◌<◌, ◌∙◌, IsTrue, [], ◌∷◌, ◌++◌, length, ap, sym, subst, arith}
use Rattle.std.proofs.lemmas.List.{length-append}
use Rattle.parts_arrays.specs.Arrays.{element_of}
use Rattle.parts_errors.specs.declared.error.CodecError.TheVariants.{OutOfMemory}
use Rattle.array_store.specs.ArrayElements.{chunk_spec}
use Rattle.array_store.specs.declared.error.ArrayError.TheVariants.{Whole}
use Rattle.array_store.proofs.ProgressLemmas.{passed_error, stop_here, not_touched, stopped, listed_more, write_more, within}
use Rattle.array_store.proofs.array.Array.write_parts.Goals as goal

pub returns-in_err-reserve-clause-stopped : goal.returns-in_err-reserve-clause-stopped
returns-in_err-reserve-clause-stopped g c =
    passed_error c.from_residual.result (Whole OutOfMemory) _ c.from_residual.ensures.1
    (λ t. stop_here c.args.self.now.format c.args.subset.now (element_of c.args.elements.now) _ (Whole OutOfMemory) _ _ (rw (← c.reserve.ensures.items) at (c.loop-place.invariant.done t)))

pub returns-in_err-number-clause-others : goal.returns-in_err-number-clause-others
returns-in_err-number-clause-others g c = λ t key apart.
    let f = c.args.self.now.format in
    let m = g.C.ArrayToBytesCodecTraits.meaning c.args.self.now.codec.now (chunk_spec f) in
    let r = c.requires.parts in
    let i = c.loop-place.invariant in
    let more : c.loop-place.place < length r.met.shards = omega (arith, r.met.counted, c.loop-place-test.true, c.len-place-end.ensures) in
    (rw i.same_format at (c.write_part.ensures.others (subst IsTrue (sym i.same_store) t))) r.met.shards r.met.touched key
    (not_touched f m c.args.subset.now r.axes r.some r.inside r.small r.met.shards r.met.touched c.loop-place.place key more apart)
    ∙ i.others t key apart

pub returns-in_err-number-clause-stopped : goal.returns-in_err-number-clause-stopped
returns-in_err-number-clause-stopped g c =
    passed_error c.from_residual-in_err-number.result c.in_err-number.field-0.0 _ c.from_residual-in_err-number.ensures.1 (λ t.
    let f = c.args.self.now.format in
    let m = g.C.ArrayToBytesCodecTraits.meaning c.args.self.now.codec.now (chunk_spec f) in
    let r = c.requires.parts in
    let i = c.loop-place.invariant in
    let more : length c.loop-place.written.items < length r.met.shards = omega (arith, r.met.counted, i.counted, c.loop-place-test.true, c.len-place-end.ensures) in
    let others = rw (i.same_format, ← i.counted) at (c.write_part.ensures.others (subst IsTrue (sym i.same_store) t)) in
    let known = stopped f m c.args.subset.now r.axes r.some r.inside r.small r.met.shards r.met.touched (element_of c.args.elements.now) c.loop-place.written.items c.in_err-number.field-0.0 _ _ _ more
    (i.listed r.met.shards r.met.touched) (i.done t) others (c.in_err-number.ensures.kept (subst IsTrue (sym i.same_store) t)) in
    rw (← c.reserve.ensures.items) at known)

pub loop-place-preserved : goal.loop-place-preserved
loop-place-preserved g c =
    let f = c.args.self.now.format in
    let m = g.C.ArrayToBytesCodecTraits.meaning c.args.self.now.codec.now (chunk_spec f) in
    let r = c.requires.parts in
    let i = c.loop-place.invariant in
    let more : c.loop-place.place < length r.met.shards = omega (arith, r.met.counted, c.loop-place-test.true, c.len-place-end.ensures) in
    let all : c.push.new.self.items ≡ c.loop-place.written.items ++ c.in_ok-number.number ∷ [] = rw c.reserve.ensures.items at c.in-Ok.ensures.items in
    record {
      same_format = c.write_part.ensures.same_format ∙ i.same_format;
      same_codec = c.write_part.ensures.same_codec ∙ i.same_codec;
      same_store = c.write_part.ensures.same_store ∙ i.same_store;
      counted = omega (arith, ap length all, length-append c.loop-place.written.items (c.in_ok-number.number ∷ []), i.counted);
      others = λ t key apart.
          (rw i.same_format at (c.write_part.ensures.others (subst IsTrue (sym i.same_store) t))) r.met.shards r.met.touched key
          (not_touched f m c.args.subset.now r.axes r.some r.inside r.small r.met.shards r.met.touched c.loop-place.place key more apart)
          ∙ i.others t key apart;
      listed = λ touched are k few.
          let last = rw (i.same_format, ← i.counted) at (c.in_ok-number.ensures.number) in
          rw all (listed_more c.loop-place.written.items touched c.in_ok-number.number k (i.listed touched are) (last touched are) (rw all at few));
      done = λ t.
          let written = rw (i.same_format, i.same_codec) at (c.in_ok-number.ensures.written (subst IsTrue (sym i.same_store) t)) in
          rw all (write_more f c.args.subset.now (element_of c.args.elements.now) c.loop-place.written.items c.in_ok-number.number _ _ _ (i.done t) written
          (within f m c.args.subset.now r.axes r.some r.inside r.small r.met.shards r.met.touched));
    }
