use Rattle.std.proofs.Common.{◌≡◌, ◌+◌, ◌-◌, ◌*◌, ◌/◌, ◌≤◌, ◌++◌, ◌∙◌, arith, ap, refl, subst, sym, length, take, drop}
use Rattle.std.specs.List.{concat}
use Rattle.std.proofs.lemmas.List.{append-nil, drop_all, length-drop, take_all}
use Rattle.std.proofs.lemmas.List.Concat.{concat_is}
use borrow.Rule.Slice.PartMut.{put_mid}
use Rattle.sharding_index.proofs.NumberLaws.{AreFirst, bytes_of, block_written, rest_written}
use Rattle.sharding_index.proofs.numbers.write_numbers.Goals as goal

pub loop-k-preserved : goal.loop-k-preserved
loop-k-preserved c =
    let numbers = c.args.numbers.now in
    let bytes = c.loop-k.bytes in
    let part = c.copy_from_slice.new.self in
    let many = c.loop-k.k * 256 in
    let one : many + 256 - many ≡ 256 = omega arith in
    let fits : many + 256 ≤ length numbers = omega (arith, c.loop-k-test.true) in
    let is : part ≡ bytes_of (take 256 (drop many numbers)) =
    c.copy_from_slice.ensures.after ∙ c.as_flattened.ensures.value ∙ sym (concat_is c.elements_of-elements.result)
    ∙ ap concat c.elements_of-elements.ensures ∙ ap (λ n. bytes_of (take n (drop many numbers))) one in
    let next : many + 256 ≡ (c.loop-k.k + 1) * 256 = omega arith in
    let size = (many + 256) * 8 - many * 8 in
    subst (AreFirst numbers (put_mid (many * 8) size bytes part)) next
    (block_written numbers bytes part many 256 (many * 8) size refl fits (omega (arith, c.requires, c.loop-k.auto.bytes)) is c.loop-k.invariant)

pub returns : goal.returns
returns c =
    let numbers = c.args.numbers.now in
    let bytes = c.loop-k.bytes in
    let part = c.write_each.new.bytes in
    let many = length numbers / 256 * 256 in
    let all : c.loop-k.k ≡ length numbers / 256 = omega (arith, c.loop-k-test.false, c.loop-k.auto.k-end) in
    let left : part ≡ bytes_of (drop many numbers) =
    c.write_each.ensures
    ∙ ap bytes_of (take_all (length numbers - many) (drop many numbers) (omega (arith, length-drop many numbers))) in
    let none : length (drop (many * 8) bytes) ≤ length bytes - many * 8 = omega (arith, length-drop (many * 8) bytes) in
    ap (λ ys. take (many * 8) bytes ++ (part ++ ys)) (drop_all (length bytes - many * 8) (drop (many * 8) bytes) none)
    ∙ ap (λ ys. take (many * 8) bytes ++ ys) (append-nil part)
    ∙ rest_written numbers bytes part many left (rw all at c.loop-k.invariant)
