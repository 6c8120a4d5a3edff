-- A run that goes on by one command, and one that ends.
use Rattle.std.proofs.Common.{◌≡◌, ◌≤◌, ◌<◌, ◌+◌, ℕ, List, [], ◌∷◌, ◌++◌, length, take, Option, Some, None, IsSome, sym, refl, ap, subst, ◌∙◌, arith, inl, inr}
use Rattle.std.proofs.lemmas.List.{length_push, take_all}
use Rattle.parts_errors.specs.Words.{Bytes}
use Rattle.parts_errors.specs.declared.error.CodecError.{CodecError}
use Rattle.storage_handles.specs.Handles.{HandleState}
use Rattle.storage_handles.specs.Writes.{IsWriting}
use Rattle.session_runs.specs.Maps.{CellMap}
use Rattle.session_runs.specs.Objects.{Shards}
use Rattle.session_runs.specs.Runs.{Step, Run}
use Rattle.session_runs.specs.Ended.{Ended, StopsBy, MayStopLast}
use Rattle.session_runs.specs.steps.Serving.{Leads, IsUsable}
use Rattle.session_runs.specs.Halting.{Halts, Ran, with_reply}
use Rattle.session_runs.specs.declared.command.Command.{Command}
use Rattle.session_runs.specs.declared.command.Command.TheVariants.{Compact}
use Rattle.session_runs.specs.declared.command.Reply.{Reply}

module _ (s : Shards) where
  run_more : (m : CellMap) (o : Option Bytes) (cs : List Command) (rs : List Reply) (mid : CellMap) (oid : Option Bytes) (c : Command) (r : Reply) (m' : CellMap) (o' : Option Bytes)
      → Run s cs m o rs mid oid → Step s c mid oid r m' o' → Run s (cs ++ c ∷ []) m o (rs ++ r ∷ []) m' o'
  run_more m o [] [] mid oid c r m' o' run step =
      (m', o', subst (λ (x : CellMap). Step s c x o r m' o') run.0 (subst (λ (x : Option Bytes). Step s c mid x r m' o') run.1 step), (refl, refl))
  run_more m o [] (r2 ∷ rs) mid oid c r m' o' run step = absurd run
  run_more m o (c2 ∷ cs) [] mid oid c r m' o' run step = absurd run
  run_more m o (c2 ∷ cs) (r2 ∷ rs) mid oid c r m' o' run step = (run.0, run.1, run.2, run_more run.0 run.1 cs rs mid oid c r m' o' run.3 step)

  pub ran_none : (o o' : Option Bytes) → o' ≡ o → Ran s o [] [] o'
  ran_none o o' same = λ m shows. (m, (refl, same), rw same shows)

  pub ran_more : (o : Option Bytes) (cs : List Command) (rs : List Reply) (oid : Option Bytes) (c : Command) (r : Reply) (o' : Option Bytes)
      → Ran s o cs rs oid → Leads s (λ m m'. Step s c m oid r m' o') oid o' → Ran s o (cs ++ c ∷ []) (rs ++ r ∷ []) o'
  ran_more o cs rs oid c r o' ran leads = λ m shows.
      let a = ran m shows in
      let b = leads a.0 a.2 in
      (b.0, run_more m o cs rs a.0 oid c r b.0 o' a.1 b.1, b.2)

  -- a run over the first n commands has ended, with its object there or lost by a fault
  pub ended_by : (start end : HandleState) (commands : List Command) (n : ℕ) (rs : List Reply) (object : Option Bytes) → length rs ≡ n
      → Ran s start.contents (take n commands) rs object → IsUsable s object → (end.faults ≡ start.faults → end.contents ≡ object) → Ended s start end commands rs
  ended_by start end commands n rs object counted ran usable there = λ m shows sound short.
      let a = ran m shows in
      (a.0, object, subst (λ (k : ℕ). Run s (take k commands) m start.contents rs a.0 object) (sym counted) a.1, a.2, usable.sound, usable.short, there)

  pub ended_by_halt : (start mid end : HandleState) (commands : List Command) (n : ℕ) (rs : List Reply) (c : Command) (reply : Option Reply) (e : CodecError)
      → length rs ≡ n → take (n + 1) commands ≡ take n commands ++ c ∷ [] → start.faults ≤ mid.faults
      → Ran s start.contents (take n commands) rs mid.contents → IsUsable s mid.contents
      → Halts (λ r. Leads s (λ m m'. Step s c m mid.contents r m' end.contents) mid.contents end.contents × IsUsable s end.contents) (end.contents ≡ mid.contents) mid end reply e
      → Ended s start end commands (with_reply rs reply)
  ended_by_halt start mid end commands n rs c (Some r) e counted more le ran usable h =
      ended_by start end commands (n + 1) (rs ++ r ∷ []) end.contents (length_push rs r ∙ ap (λ k. k + 1) counted)
      (subst (λ (cs : List Command). Ran s start.contents cs (rs ++ r ∷ []) end.contents) (sym more) (ran_more start.contents (take n commands) rs mid.contents c r end.contents ran h.0.0)) h.0.1 (λ same. refl)
  ended_by_halt start mid end commands n rs c None e counted more le ran usable (inl kept) =
      ended_by start end commands n rs mid.contents counted ran usable (λ same. kept.0)
  ended_by_halt start mid end commands n rs c None e counted more le ran usable (inr fault) =
      ended_by start end commands n rs mid.contents counted ran usable (λ same. absurd (omega (arith, same, fault.1, le)))

-- an opening that is refused ends a run with no reply
pub ended_at_opening : (s : Shards) (start end : HandleState) (commands : List Command) → end.contents ≡ start.contents → Ended s start end commands []
ended_at_opening s start end commands same = λ m shows sound short. (m, start.contents, (refl, refl), shows, sound, short, λ _. same)

-- why a step stops a run, counted from the start of it
pub stops_from : (start mid end : HandleState) (e : CodecError) → start.faults ≤ mid.faults → StopsBy mid end e → StopsBy start end e
stops_from start mid end e le (inl memory) = inl memory
stops_from start mid end e le (inr fault) = inr (fault.0, omega (arith, fault.1, le))

pub halt_stops : (Led : Reply → Type 0) (Kept : Type 0) (start mid end : HandleState) (reply : Option Reply) (e : CodecError) → start.faults ≤ mid.faults
    → Halts Led Kept mid end reply e → StopsBy start end e
halt_stops Led Kept start mid end (Some reply) e le h = stops_from start mid end e le h.1
halt_stops Led Kept start mid end None e le (inl kept) = stops_from start mid end e le kept.1
halt_stops Led Kept start mid end None e le (inr fault) = inr (fault.0, omega (arith, fault.1, le))

-- one reply more, or none
pub length-with_reply : (rs : List Reply) (reply : Option Reply) → length (with_reply rs reply) ≤ length rs + 1
length-with_reply rs None = omega arith
length-with_reply rs (Some r) = omega (arith, length_push rs r)

-- a run that stops with all its replies ends in a compaction
pub halts_last : (commands : List Command) (n : ℕ) (rs : List Reply) (c : Command) (reply : Option Reply) → length rs ≡ n → n < length commands → take (n + 1) commands ≡ take n commands ++ c ∷ []
    → (IsSome reply → c ≡ Compact) → length (with_reply rs reply) ≡ length commands → MayStopLast commands
halts_last commands n rs c None counted below more compacted whole = absurd (omega (arith, counted, below, whole))
halts_last commands n rs c (Some r) counted below more compacted whole =
    let all : n + 1 ≡ length commands = omega (arith, counted, length_push rs r, whole) in
    let is : c ≡ Compact = compacted refl in
    inr (take n commands, sym (take_all (n + 1) commands (omega (arith, all))) ∙ more ∙ ap (λ (x : Command). take n commands ++ x ∷ []) is)

pub writing_on : (a b c : HandleState) → IsWriting a b → IsWriting b c → IsWriting a c
writing_on a b c first second = record {
  transparent_same = second.transparent_same ∙ first.transparent_same;
  faults_kept = omega (arith, first.faults_kept, second.faults_kept);
  supports_same = second.supports_same ∙ first.supports_same;
}
