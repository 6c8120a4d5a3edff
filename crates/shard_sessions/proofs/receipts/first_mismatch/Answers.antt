use Rattle.std.proofs.Common.{◌≡◌, ◌+◌, ◌++◌, ◌∷◌, [], List, false, length, take, sym, ap, ◌∙◌, arith}
use Rattle.std.proofs.lemmas.List.{take_more, take_all, length-replicate, length-append}
use Rattle.std.proofs.lemmas.List.Elements.{All-nil, All-append, All-push}
use Rattle.session_runs.specs.declared.event.Receipt.{Receipt}
use Rattle.shard_sessions.specs.Receipts.{receipts_of, Stands, RiseFrom}
use Rattle.shard_sessions.specs.steps.Marks.{mark_at, marks}
use Rattle.shard_sessions.proofs.ReceiptLemmas.{receipts_of-push, times-append, none_marked, unmarked, marks_most, is_mismatch}
use Rattle.shard_sessions.proofs.receipts.first_mismatch.Goals as goal

pub loop-i-init : goal.loop-i-init
loop-i-init c =
    let n = length c.args.events.now in
    record {
      as_long = ap length c.requires ∙ length-replicate n false;
      stand = All-nil (Stands c.args.events.now);
      rise = All-nil (RiseFrom 0);
      once = λ place. ap (λ seen. mark_at seen place) c.requires ∙ unmarked n place;
      count = ap marks c.requires ∙ none_marked n;
    }

pub returns-in-Some-clause-mismatch : goal.returns-in-Some-clause-mismatch
returns-in-Some-clause-mismatch c =
    let i = c.loop-i.invariant in
    is_mismatch c.args.events.now c.args.seats.now c.loop-i.i c.loop-i.seen i.stand i.rise i.once c.in-Some.place c.index-seats-i.result c.loop-i-test.true c.index-seats-i.is
    (rw c.receipts.ensures at c.in-Some.ensures.mismatch)

pub loop-i-preserved : goal.loop-i-preserved
loop-i-preserved c =
    let n = c.loop-i.i in
    let i = c.loop-i.invariant in
    let done = take n c.args.seats.now in
    let seat = c.index-seats-i.result in
    let more : take (n + 1) c.args.seats.now ≡ done ++ seat ∷ [] = take_more c.args.seats.now n seat c.loop-i-test.true ∙ ap (λ (x : List Receipt). done ++ x ∷ []) (sym c.index-seats-i.is) in
    let ok = c.in_default.ensures in
    let e = c.receipts.ensures in
    record {
      as_long = ok.as_long ∙ i.as_long;
      stand = rw (more, receipts_of-push done seat) (All-append (Stands c.args.events.now) (receipts_of done) seat i.stand (rw e at ok.stand));
      rise = rw more (All-push (RiseFrom 0) done seat i.rise (rw e at ok.rise));
      once = λ p. rw (more, receipts_of-push done seat, times-append p (receipts_of done) seat) (let a = i.once p in let b = rw e at (ok.once p) in omega arith);
      count = rw (more, receipts_of-push done seat) (let a = i.count in let b = rw e at ok.count in omega (arith, length-append (receipts_of done) seat));
    }

pub returns-clause-not_more : goal.returns-clause-not_more
returns-clause-not_more c =
    let i = c.loop-i.invariant in
    let all : take c.loop-i.i c.args.seats.now ≡ c.args.seats.now = take_all c.loop-i.i c.args.seats.now (let t = c.loop-i-test.false in omega arith) in
    let count : marks c.loop-i.seen ≡ length (receipts_of c.args.seats.now) = rw all at i.count in
    let long = i.as_long in
    omega (arith, marks_most c.loop-i.seen)
