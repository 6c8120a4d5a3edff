-- The handle is passed on at its own lifetime, and what the callee says of its last value is passed on as it stands.
use Rattle.std.proofs.Common.{List, [], ◌∷◌, refl, IfOk, sym}
use Rattle.std.proofs.raw_atomic.Walks.{proved, leaves}
use base.Logic.{id⊢, emp}
use base.Fml.{ftrue, flft}
use mir.Syntax.{named, a_type, dcons, dnil}
use mir.MapTy.{inst_fn}
use mir.Val.{Val}
use contract.Monad.{fact, fact_i}
use contract.Running.{tables}
use types.Kit.{Item, rewrite, ‵, raw, ◌⊛◌, some, later, ◌$◌, ◌∵◌, !, qed, done, move, drop, use0, use1, split, split3, join, fjoin, pick, await, suffices}
use types.Run.{enter, no_more, and_then, addr, stop, returns}
use types.ByLocal.{alloc_all, pass_all, free_all, look_at, get, through, sets, lands_as}
use denote.Builtin.{RefMutOf}
use denote.Exit.{yes, no}
use denote.Laws.{Is, shows}
use denote.Ref.{MutRef, mut_vals, mut_Tells}
use denote.Signature.{plain}
use denote.Steps.{nothing, heard, peeks}
use denote.Param.{param, bounded}
use denote.Triple.Call.{calls_at}
use denote.Triple.Clauses.{lasts, Lasts}
use denote.Triple.Spec.{triple_of}
use denote.Triple.Walked.{Stays, walk_of, stay_dropped, Goes-dropped, Goes-spent_ref}
use denote.Triple.Table.{framed}
use denote.Ref.{NamedLft}
use Rattle.std.specs.Cow.{cow_slice_items}
use Rattle.storage_handles.specs.Handles.{Rests, HasRead, WasRead, Agrees, refusal, seen}
use Rattle.parts_errors.specs.declared.error.CodecError as Error
use Rattle.std.specs.declared.option.Option as Maybe
use denote.Struct.Laws as of_struct
use denote.Enum.Laws as of_enum
use Rattle.std.specs.contracts.alloc.Global as Global
use Rattle.std.proofs.alloc.Global.TheLaws as global
use Rattle.storage_handles.specs.contracts.bytes.ByteRange as ByteRange
use Rattle.storage_handles.proofs.bytes.ByteRange.TheLaws as range
use Rattle.storage_handles.specs.contracts.handle.read_range as f
use Rattle.storage_handles.specs.contracts.handle.split as g
use Rattle.storage_handles.specs.contracts.handle.BytesPartialDecoderTraits.partial_decode as h
use Rattle.storage_handles.proofs.handle.read_range.Statement.{statement}
use Rattle.storage_handles.proofs.handle.read_range.Code as code
use Rattle.storage_handles.proofs.handle.split.Met as split_met
use Rattle.storage_handles.proofs.HandleLaws.{joined}
use Rattle.storage_handles.proofs.HandleRows.{Borrowed, Borrowed-laws, Part, Part-laws, Bytes}

pub read_range_spec : {M : Type 1} → statement M
read_range_spec 𝓤 𝓛 𝓜 𝓡 wired H L gs d met =
    let T = f.ended H gs d in let R = param 0 H in
    let vG : (Global.the_row).Denot → List Val = λ x. of_struct.val Global.the_type global.the_laws x ∷ [] in let vB : (ByteRange.the_row).Denot → List Val = λ x. of_enum.val ByteRange.the_type range.the_laws x ∷ [] in
    let hs : Stays T.signature.params T.kept = (stay_dropped (RefMutOf (0 ∷ []) tt (plain (λ _. R)) (λ _. tt)) no, (stay_dropped (RefMutOf (0 ∷ []) tt (plain (λ _. Bytes)) (λ _. tt)) no, (stay_dropped (plain (λ _. Global.the_row)) yes, (stay_dropped (plain (λ _. ByteRange.the_row)) yes, tt)))) in
    let c = f.clauses H gs d 𝓛 𝓜.mem 𝓡.returns in let W = walk_of 𝓛 T hs c in let 𝓣 = tables 𝓤 𝓛.H 𝓜 𝓡 𝓡.env in
    proved 𝓛 T hs c 𝓜 𝓡 (Goes-spent_ref 𝓛 2 (0 ∷ []) tt (plain (λ _. R)), (Goes-spent_ref 𝓛 2 (0 ∷ []) tt (plain (λ _. Bytes)), (Goes-dropped 𝓛 2 (plain (λ _. Global.the_row)) yes (λ κs x w. refl), (Goes-dropped 𝓛 2 (plain (λ _. ByteRange.the_row)) yes (λ κs x w. refl), tt))))
    (f.Key.name (bounded (a_type ∷ []) (H, tt) (dcons d dnil))) (inst_fn (bounded (a_type ∷ []) (H, tt) (dcons d dnil)) code.function) (code.unfolded 𝓤 𝓛.H 𝓜 𝓡 wired (H, tt) d)
    (λ κs. (mut_vals, (mut_vals, (vG, (vB, tt))))) (λ κs. (mut_Tells (named 0) κs.0 R, (mut_Tells (named 0) κs.0 Bytes, (of_struct.tells Global.the_type global.the_laws, (of_enum.tells ByteRange.the_type range.the_laws, tt))))) (λ κs qs bounds a _ are.
    let ν : NamedLft = record { mir = named 0; lft = κs.0 } in
    let y : W.Ghost = ((κs, qs, bounds, a, (mut_vals a.0, (mut_vals a.1.0, (vG a.1.1.0, (vB a.1.1.1.0, tt))))), tt) in
    let O₀ : Item 𝓤 = ‵ ((MutRef (named 0) κs.0 R).own_val a.0 (mut_vals a.0)) in
    let O₁ : Item 𝓤 = ‵ ((MutRef (named 0) κs.0 Bytes).own_val a.1.0 (mut_vals a.1.0)) in
    let plain_ones : Item 𝓤 = ‵ ((Global.the_row).own_val a.1.1.0 (vG a.1.1.0)) ⊛ ‵ ((ByteRange.the_row).own_val a.1.1.1.0 (vB a.1.1.1.0)) ⊛ ‵ ftrue in
    let both : Item 𝓤 = ‵ (flft κs.0 qs.0) ⊛ ‵ (flft κs.1.0 qs.1.0) ⊛ ‵ ftrue in
    let one : Item 𝓤 = ‵ (flft κs.0 qs.0) ⊛ ‵ ftrue in
    let G₁ = triple_of 𝓛 (h.signature H) (h.spec H gs d 𝓛 𝓜.mem 𝓡.returns) in
    let z₁ : G₁.Ghost = ((κs, qs, bounds, (a.0, (a.1.1.0, (a.1.1.1.0, tt))), (mut_vals a.0, (vG a.1.1.0, (vB a.1.1.1.0, tt)))), tt) in
    let G₂ = triple_of 𝓛 g.signature (g.spec 𝓛 𝓜.mem 𝓡.returns) in
    qed 𝓛 ((both ⊛ O₀ ⊛ O₁ ⊛ plain_ones) ∷ raw ((c κs a).requires tt) ∷ []) ∵
    split ! $ move ! (1 ∷ []) $ split3 ! $
    -- [handle; room; alloc and range; the tokens; the requires]
    move ! (0 ∷ 2 ∷ 1 ∷ []) $ join ! $ move ! (2 ∷ 0 ∷ []) $ join ! $ move ! (0 ∷ 2 ∷ []) $ join ! $
    use1 𝓛 (raw (G₁.pre z₁)) (id⊢ 𝓤 _) $
    enter ! _ _ _ _ _ $ alloc_all ! (λ l. pass_all ! refl ((tt, tt), ((tt, tt), (((((global.the_row_laws).lawful 𝓛).typed a.1.1.0 (vG a.1.1.0) are.1.1.0).0), (((((range.the_row_laws).lawful 𝓛).typed a.1.1.1.0 (vB a.1.1.1.0) are.1.1.1.0).0), tt)))) $
    sets ! (addr ! (through ! refl (stop !))) refl (tt, tt) $
    calls_at ! (framed 𝓤 𝓛.H 𝓜 𝓣) G₁ met.partial_decode z₁ (and_then ! (get ! refl) (and_then ! (get ! refl) (and_then ! (get ! refl) (no_more !)))) (λ v.
    use1 𝓛 (later (some (λ (r : (Borrowed ν).Denot). (both ⊛ ‵ ((Borrowed ν).own_val r (v ∷ []))) ⊛ some (λ (ws : Lasts (h.ended H gs d) κs z₁.0.3).
    ‵ (lasts (h.ended H gs d) κs z₁.0.3 ws) ⊛ ‵ (Rests R a.0 (λ n. HasRead a.1.1.1.0 (gs.state a.0.now) (gs.state n) (refusal r))) ⊛ raw (fact 𝓤 (IfOk r (λ o. WasRead a.1.1.1.0 (gs.state a.0.now) (seen (λ b. cow_slice_items b) o)))))))) (id⊢ 𝓤 _) $
    await ! tt $ pick ! (λ r. split ! $ split ! $ move ! (1 ∷ []) $
    peeks ! (Borrowed ν) (Is (Borrowed ν)) (shows 𝓛 (Borrowed ν)) r (v ∷ []) (λ r_is.
    lands_as ! refl refl ((((Borrowed-laws ν).lawful 𝓛).typed r (v ∷ []) r_is).0) $
    move ! (2 ∷ []) $ pick ! (λ ws. split ! $ drop ! $ split ! $ move ! (1 ∷ []) $ heard ! _ (λ told.
    -- [what the handle rests as; the first result; the tokens; room]
    sets ! (addr ! (through ! refl (stop !))) refl (tt, tt) $
    let z₂ : G₂.Ghost = (((κs.0, tt), (qs.0, tt), tt, (r, (a.1.0, tt)), (v ∷ [], (mut_vals a.1.0, tt))), tt) in
    nothing ! $ move ! (4 ∷ 0 ∷ []) $ join ! $ move ! (2 ∷ 0 ∷ []) $ join ! $ move ! (2 ∷ []) $ split ! $ nothing ! $ move ! (1 ∷ 0 ∷ []) $ join ! $ move ! (0 ∷ 2 ∷ []) $ join ! $
    nothing ! $ move ! (1 ∷ 0 ∷ []) $ join ! $ use1 𝓛 (raw (G₂.pre z₂)) (id⊢ 𝓤 _) $
    calls_at ! (framed 𝓤 𝓛.H 𝓜 𝓣) G₂ (split_met.met 𝓤 𝓛 𝓜 𝓡 (code.calls-storage_handles::handle::split 𝓡.env wired)) z₂ (and_then ! (get ! refl) (and_then ! (get ! refl) (no_more !))) (λ w.
    use1 𝓛 (later (some (λ (s : (Part ν).Denot). (one ⊛ ‵ ((Part ν).own_val s (w ∷ []))) ⊛ some (λ (ws₂ : Lasts g.ended (κs.0, tt) z₂.0.3).
    ‵ (lasts g.ended (κs.0, tt) z₂.0.3 ws₂) ⊛ raw (fact 𝓤 (Agrees (λ b. cow_slice_items b) (λ b. b.now) r s)))))) (id⊢ 𝓤 _) $
    await ! tt $ pick ! (λ s. split ! $ split ! $ move ! (1 ∷ []) $
    peeks ! (Part ν) (Is (Part ν)) (shows 𝓛 (Part ν)) s (w ∷ []) (λ s_is.
    lands_as ! refl refl ((((Part-laws ν).lawful 𝓛).typed s (w ∷ []) s_is).0) $
    move ! (2 ∷ []) $ pick ! (λ ws₂. split ! $ drop ! $ heard ! _ (λ agrees.
    -- [the second result; the first token; the other tokens; what the handle rests as]
    rewrite ! 3 (λ (e : Maybe.Option Error.CodecError). ‵ (Rests R a.0 (λ n. HasRead a.1.1.1.0 (gs.state a.0.now) (gs.state n) (e)))) (sym agrees.same_refusal) refl $
    returns ! (look_at ! 0 refl) $ free_all ! refl $
    suffices ! _ (leaves 𝓛 T hs c y w s (tt, (tt, (tt, (tt, tt)))) (tt, (tt, (tt, (tt, tt))))) $
    use0 𝓛 (raw (fact 𝓤 (IfOk s (λ o. WasRead a.1.1.1.0 (gs.state a.0.now) (seen (λ b. b.now) o))))) (fact_i 𝓤 (IfOk s (λ o. WasRead a.1.1.1.0 (gs.state a.0.now) (seen (λ b. b.now) o))) (emp 𝓤) (joined (WasRead a.1.1.1.0 (gs.state a.0.now)) (λ b. cow_slice_items b) (λ b. b.now) r s told agrees)) $
    move ! (4 ∷ 0 ∷ []) $ join ! $ move ! (1 ∷ 0 ∷ []) $ join ! $ nothing ! $ nothing ! $ fjoin ! $ nothing ! $ fjoin ! $ nothing ! $ fjoin ! $ nothing ! $ fjoin ! $ join ! $
    move ! (1 ∷ []) $ split ! $ move ! (1 ∷ []) $ drop ! $ move ! (0 ∷ 2 ∷ []) $ join ! $ join ! $ done !))))))))))))
