use Rattle.std.proofs.Common.{◌≡◌, ◌<◌, ◌+◌, ◌++◌, ◌∷◌, [], ◌⊎◌, inl, inr, suc, length, take, drop, get_or, false, IsTrue, refl, sym, ap, ◌∙◌, arith}
use Rattle.std.proofs.Math.Seq.{split_at}
use Rattle.std.proofs.lemmas.List.{take_more}
use Rattle.std.proofs.lemmas.List.Elements.{All-push}
use Rattle.session_runs.specs.declared.event.Receipt.{Receipt}
use Rattle.shard_sessions.specs.Receipts.{Stands, RiseFrom, times}
use Rattle.shard_sessions.specs.steps.Marks.{number_of_mark, mark_at, IsSeatMismatch}
use Rattle.shard_sessions.proofs.ReceiptLemmas.{times-append, rise_more, mark_below, mark_at-set, marks-set}
use Rattle.shard_sessions.proofs.receipts.seat_mismatch.Goals as goal
use Rattle.shard_sessions.proofs.receipts.seat_mismatch.Goals.{then-place-next-via-then-place-next, then-place-next-via-else-place-next+then-not-stands, then-place-next-via-else-place-next+else-not-stands+then-not-mark}

pub returns-then-place-next-clause-mismatch : goal.returns-then-place-next-clause-mismatch
returns-then-place-next-clause-mismatch c =
    let n = c.loop-receipt.receipt-index in
    let i = c.loop-receipt.invariant in
    let rs = c.args.receipts.now in
    let r = c.receipt-item.result in
    let made : (¬ (Stands c.args.events.now r)) ⊎ ((¬ (RiseFrom 0 (take n rs ++ r ∷ []))) ⊎ (mark_at c.args.seen.now r.place + times r.place (take n rs) ≡ 1))
    → IsSeatMismatch c.args.events.now c.args.seen.now rs r.place
    = λ why. record {
      before = take n rs;
      receipt = r;
      after = drop (suc n) rs;
      split = split_at rs n r c.loop-receipt-test.true ∙ ap (λ (x : Receipt). take n rs ++ x ∷ drop (suc n) rs) (sym c.receipt-item.is);
      position_is = refl;
      stand = i.stand;
      rise = i.rise;
      once = λ p. let a = i.once p in let b = mark_below (get_or c.loop-receipt.seen p false) in omega arith;
      fails = why;
    } in
    elim c.then-place-next.branch [
      | then-place-next-via-then-place-next w ↦ made (inr (inl (λ h. let a = (i.above r).0 h in let b = w.if-place-next.true in absurd (omega arith))))
      | then-place-next-via-else-place-next+then-not-stands w ↦ made (inl (λ h. let a : IsTrue w.stands.result = w.stands.ensures.stands.1 h in let b = w.if-not-stands.true in cc))
      | then-place-next-via-else-place-next+else-not-stands+then-not-mark w ↦ made (inr (inr (sym (i.once r.place) ∙ ap number_of_mark w.if-not-mark.ensures.set)))
    ]

pub loop-receipt-preserved : goal.loop-receipt-preserved
loop-receipt-preserved c =
    let n = c.loop-receipt.receipt-index in
    let i = c.loop-receipt.invariant in
    let rs = take n c.args.receipts.now in
    let r = c.receipt-item.result in
    let more : take (n + 1) c.args.receipts.now ≡ rs ++ r ∷ [] = take_more c.args.receipts.now n r c.loop-receipt-test.true ∙ ap (λ (x : Receipt). rs ++ x ∷ []) (sym c.receipt-item.is) in
    let stands = c.stands.ensures.stands.0 c.if-not-stands.false in
    let set = c.if-not-mark.ensures.set in
    let inside = c.stands.ensures.inside c.if-not-stands.false in
    let here : r.place < length c.loop-receipt.seen = let l = i.as_long in let m = c.requires in omega arith in
    let rises : RiseFrom 0 (rs ++ r ∷ []) = (i.above r).1 (let a = c.if-place-next.false in omega arith) in
    record {
      as_long = c.mark.ensures.as_long ∙ i.as_long;
      stand = rw more (All-push (Stands c.args.events.now) rs r i.stand stands);
      rise = rw more rises;
      above = λ next. rw more (rise_more 0 rs r next rises);
      once = λ p. rw (more, set.1) (let a = i.once p in let b = mark_at-set c.loop-receipt.seen r.place p here set.0 in omega (arith, times-append p rs (r ∷ [])));
      count = rw set.1 (let a = i.count in let b = marks-set c.loop-receipt.seen r.place here set.0 in omega arith);
    }
