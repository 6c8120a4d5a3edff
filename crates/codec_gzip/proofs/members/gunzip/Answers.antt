use Rattle.std.proofs.Common.{◌≡◌, ◌≢◌, ◌-◌, ◌+◌, Some, length, arith, sym, ap, subst, ◌∙◌, length-append}
use Rattle.std.proofs.lemmas.Bool.{eqb-true, eqb-false}
use Rattle.std.proofs.lemmas.Result.{err_from_is_err_and}
use Rattle.codec_compression.specs.Bits.{Bytes}
use Rattle.codec_compression.proofs.Exits.{IsOver, refuses_whole}
use Rattle.codec_compression.specs.Parts.{parts}
use Rattle.codec_compression.proofs.PartLaws.{parts_none, parts_last, parts_more, parts_end, parts_over}
use Rattle.codec_gzip.specs.Gzip.{member_at}
use Rattle.codec_gzip.proofs.members.gunzip.Goals as goal

pub loop-preserved : goal.loop-preserved
loop-preserved c =
    let some : length c.in_ok-content.rest.now ≢ 0 = eqb-false _ _ (sym c.if-is_empty.ensures) in
    record {
      within = omega (
        arith,
        c.in_ok-content.ensures.within,
        ap (λ (xs : Bytes). length xs) c.in_ok-append.ensures,
        length-append c.loop.out.items c.in_ok-content.content.items,
        c.append.new.out.ok.0,
        c.loop.out.ok.0,
        c.len.ensures,
        c.loop.invariant.within,
      );
      left =
          ap (λ (o : Bytes). parts member_at (length c.args.bytes.now - (c.loop.counter + 1)) o c.in_ok-content.rest.now) c.in_ok-append.ensures
          ∙ (sym (parts_more member_at (length c.args.bytes.now) c.loop.counter c.loop.out.items c.loop.left.now c.in_ok-content.content.items c.in_ok-content.rest.now
          c.loop-test.true c.in_ok-content.ensures.read some) ∙ c.loop.invariant.left);
    }

pub returns-in_err-content-clause-refused : goal.returns-in_err-content-clause-refused
returns-in_err-content-clause-refused c =
    let p = err_from_is_err_and c.from_residual.result c.from_residual.ensures.1 in
    rw (p.1, p.2) (refuses_whole (c.args.limit - c.len.result) c.args.limit _ _ _ c.in_err-content.ensures.read
    (λ none. sym c.loop.invariant.left ∙ parts_none member_at (length c.args.bytes.now - c.loop.counter) c.loop.out.items c.loop.left.now none)
    (λ past. subst (λ r. IsOver c.args.limit r) c.loop.invariant.left
    (parts_over member_at c.args.limit (c.args.limit - c.len.result) (length c.args.bytes.now - c.loop.counter) c.loop.out.items c.loop.left.now
    (omega (arith, c.len.ensures, c.loop.out.ok.0)) past)))

pub returns-then-is_empty-clause-read : goal.returns-then-is_empty-clause-read
returns-then-is_empty-clause-read c =
    let none : length c.in_ok-content.rest.now ≡ 0 = eqb-true _ _ (sym c.if-is_empty.ensures) in
    sym c.loop.invariant.left
    ∙ (parts_last member_at (length c.args.bytes.now) c.loop.counter c.loop.out.items c.loop.left.now c.in_ok-content.content.items c.in_ok-content.rest.now
    c.loop-test.true c.in_ok-content.ensures.read none
    ∙ ap Some (sym c.in_ok-append.ensures))

pub returns-then-is_empty-clause-within : goal.returns-then-is_empty-clause-within
returns-then-is_empty-clause-within c = omega (
  arith,
  c.in_ok-content.ensures.within,
  ap (λ (xs : Bytes). length xs) c.in_ok-append.ensures,
  length-append c.loop.out.items c.in_ok-content.content.items,
  c.loop.out.ok.0,
  c.len.ensures,
  c.loop.invariant.within,
)

pub returns-clause-refused : goal.returns-clause-refused
returns-clause-refused c = sym c.loop.invariant.left ∙ parts_end member_at (length c.args.bytes.now) c.loop.counter c.loop.out.items c.loop.left.now c.loop-test.false
