use Rattle.std.proofs.Common.{◌≡◌, ◌∙◌, ◌^◌, ◌<◌, ◌≤◌, ◌+◌, ◌/◌, sym, inl, inr, refl, length, arith}
use Rattle.std.proofs.lemmas.Bool.{false≢true}
use Rattle.sharding_write.specs.Writing.{offset_after, length_after}
use Rattle.sharding_write.proofs.OffsetLemmas.{goes_after, at_least}
use Rattle.codec_traits.specs.RefusalLaws.{passed_on}
use Rattle.sharding_write.proofs.writing.Writing.settle.Goals as goal

pub returns-in_default-clause-refused : goal.returns-in_default-clause-refused
returns-in_default-clause-refused g c =
    let s = c.args.self.now in
    let location = s.index_codec.location in
    let size = s.plan.now.size in
    let numbers = c.args.cached.now.numbers.now in
    let slices = c.args.stored_slices.bytes.items in
    let known = rw c.deref.ensures.value at c.are_absent.ensures in
    let total : c.len-total.result ≡ length slices = omega (arith, c.len-total.ensures, c.args.stored_slices.bytes.ok.0) in
    let past = rw (c.offset_after-write_offset.ensures, total) at c.in_default.ensures in
    let large : 2 ^ 64 ≤ length_after location c.args.cached.now.len (offset_after location size c.args.cached.now.len numbers (length numbers / 2)) (length slices) + 1 = at_least _ past in
    inr (inl (refl, (c.in_ok-new.new.items, c.in_ok-new.ensures.cleared, inr (λ absent. false≢true (sym c.if-are_absent.false ∙ known.1 absent), large))))

pub returns-then-long-clause-refused : goal.returns-then-long-clause-refused
returns-then-long-clause-refused g c =
    let s = c.args.self.now in
    let location = s.index_codec.location in
    let size = s.plan.now.size in
    let numbers = c.args.cached.now.numbers.now in
    let slices = c.args.stored_slices.bytes.items in
    let known = rw c.deref.ensures.value at c.are_absent.ensures in
    let total : c.len-total.result ≡ length slices = omega (arith, c.len-total.ensures, c.args.stored_slices.bytes.ok.0) in
    let long = rw (c.offset_after-write_offset.ensures, total) at c.in-Some.ensures in
    let large : 2 ^ 64 ≤ length_after location c.args.cached.now.len (offset_after location size c.args.cached.now.len numbers (length numbers / 2)) (length slices) + 1 = omega (arith, long.1, c.if-long.true) in
    inr (inl (refl, (c.in_ok-new.new.items, c.in_ok-new.ensures.cleared, inr (λ absent. false≢true (sym c.if-are_absent.false ∙ known.1 absent), large))))

pub returns-clause-settled : goal.returns-clause-settled
returns-clause-settled g c = λ old same.
    let s = c.args.self.now in
    let location = s.index_codec.location in
    let size = s.plan.now.size in
    let numbers = c.args.cached.now.numbers.now in
    let slices = c.args.stored_slices.bytes.items in
    let known = rw c.deref.ensures.value at c.are_absent.ensures in
    let total : c.len-total.result ≡ length slices = omega (arith, c.len-total.ensures, c.args.stored_slices.bytes.ok.0) in
    let long = (rw (c.offset_after-write_offset.ensures, total) at c.in-Some.ensures).1 in
    let put = rw (c.offset_after-write_offset.ensures, long) at c.in_ok-appended.ensures.put in
    let stays = rw long at c.in_ok-appended.ensures.long in
    inr (inr (record {
      cleared = c.in_ok-new.new.items;
      clear = c.in_ok-new.ensures.cleared;
      present = λ absent. false≢true (sym c.if-are_absent.false ∙ known.1 absent);
      put = rw same (λ enough. put old (rw same enough) (rw same (goes_after location size c.args.cached.now.len (length slices) numbers (length numbers / 2) enough)));
      long = rw same stays;
    }))

pub returns-in_err-appended-clause-refused : goal.returns-in_err-appended-clause-refused
returns-in_err-appended-clause-refused g c =
    let s = c.args.self.now in
    let location = s.index_codec.location in
    let size = s.plan.now.size in
    let numbers = c.args.cached.now.numbers.now in
    let slices = c.args.stored_slices.bytes.items in
    let known = rw c.deref.ensures.value at c.are_absent.ensures in
    let total : c.len-total.result ≡ length slices = omega (arith, c.len-total.ensures, c.args.stored_slices.bytes.ok.0) in
    let long = rw (c.offset_after-write_offset.ensures, total) at c.in-Some.ensures in
    let fits : length_after location c.args.cached.now.len (offset_after location size c.args.cached.now.len numbers (length numbers / 2)) (length slices) + 1 < 2 ^ 64 = omega (arith, long.0, long.1, c.if-long.false) in
    passed_on _ c.in_err-appended.field-0.0 _ c.from_residual-in_err-appended.ensures.1 (elim c.in_err-appended.ensures.refused [
      | inl memory ↦ inl memory
      | inr index ↦ inr (inr ((c.in_ok-new.new.items, c.in_ok-new.ensures.cleared, inr (λ absent. false≢true (sym c.if-are_absent.false ∙ known.1 absent), fits)), index))
    ])
