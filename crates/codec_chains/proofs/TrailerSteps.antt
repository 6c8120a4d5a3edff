-- Steps of a codec that puts a trailer behind bytes, where it decodes.
use Rattle.std.proofs.Common.{◌≡◌, ◌≢◌, ℕ, ◌+◌, ◌-◌, ◌<◌, ◌++◌, Bool, true, false, not, nat_eq, Option, Some, None, IsSome, length, take, drop, length-drop, take-append-drop, refl, sym, ap, ◌∙◌, arith, inl, inr, rules}
use Rattle.std.proofs.lemmas.List.Prefix.{end_rest}
use Rattle.std.proofs.lemmas.Bool.Decides.{Decides-eqb}
use Rattle.std.proofs.Math.Seq.{take-length}
use Rattle.std.specs.Cmp.Lexicographic.{pointwise, pointwise_decides}
use Rattle.parts_errors.specs.Words.{Bytes}
use Rattle.parts_errors.specs.Order.{◌or◌then◌, done, RefusedBy}
use Rattle.parts_errors.specs.declared.error.CodecError.TheVariants.{Damaged}
use Rattle.codec_chains.specs.Trailers.{with_trailer, before_trailer, without_trailer}
use Rattle.codec_chains.specs.TrailerLaws.{length-with_trailer, checked, unchecked}

-- where there is no inverse, it is refused
refused : (inner : Option Bytes) → inner ≡ None → RefusedBy (IsSome inner or Damaged then done) Damaged
refused None h = inr (inl ((λ some. cc), refl))
refused (Some b) h = cc

-- the last bytes, as a slice
last_bytes : (size : ℕ) (b : Bytes) → take (length b - (length b - size)) (drop (length b - size) b) ≡ drop (length b - size) b
last_bytes size b = ap (λ n. take n (drop (length b - size) b)) (sym (length-drop (length b - size) b)) ∙ take-length (drop (length b - size) b)

-- what a test of two slices says
differ : (xs ys : Bytes) → true ≡ not (pointwise nat_eq xs ys) → xs ≢ ys
differ xs ys test same = let equal = (pointwise_decides Decides-eqb xs ys).1 same in let never = rw equal at test in cc

not_false : (test : Bool) → false ≡ not test → test ≡ true
not_false true h = refl
not_false false h = cc

agree : (xs ys : Bytes) → false ≡ not (pointwise nat_eq xs ys) → xs ≡ ys
agree xs ys test = (pointwise_decides Decides-eqb xs ys).0 (not_false (pointwise nat_eq xs ys) test)

module _ (size : ℕ) (trailer : Bytes → Bytes) (sized : (bytes : Bytes) → length (trailer bytes) ≡ size) where
  -- bytes that are too short for a trailer
  pub refused_short : (b : Bytes) → length b < size → RefusedBy (IsSome (without_trailer size trailer b) or Damaged then done) Damaged
  refused_short b short =
      refused (without_trailer size trailer b)
      (unchecked size trailer b (λ same. omega (arith, length-with_trailer size trailer sized (before_trailer size b), ap length same)))

  -- bytes with another trailer
  pub refused_other : (b found : Bytes) → found ≡ trailer (before_trailer size b)
      → true ≡ not (pointwise nat_eq (take (length b - (length b - size)) (drop (length b - size) b)) found)
      → RefusedBy (IsSome (without_trailer size trailer b) or Damaged then done) Damaged
  refused_other b found is test =
      let appended = trailer (before_trailer size b) in
      refused (without_trailer size trailer b) (unchecked size trailer b (λ same. differ _ found test
      (last_bytes size b ∙ (ap (λ n. drop (length b - n) b) (sym (sized (before_trailer size b))) ∙ (end_rest b appended (before_trailer size b) (sym same) ∙ sym is)))))

  -- bytes with their trailer
  pub decoded : (b found : Bytes) → found ≡ trailer (before_trailer size b)
      → false ≡ not (pointwise nat_eq (take (length b - (length b - size)) (drop (length b - size) b)) found)
      → without_trailer size trailer b ≡ Some (before_trailer size b)
  decoded b found is test =
      let stored : drop (length b - size) b ≡ trailer (before_trailer size b) = sym (last_bytes size b) ∙ (agree _ found test ∙ is) in
      checked size trailer b (ap (λ appended. before_trailer size b ++ appended) (sym stored) ∙ take-append-drop (length b - size) b)
