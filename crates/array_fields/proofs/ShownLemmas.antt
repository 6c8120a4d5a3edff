-- Texts with printed characters after them.
use Rattle.std.proofs.Common.{◌≡◌, ◌≢◌, ◌+◌, ℕ, List, [], ◌∷◌, ◌++◌, length, IsUtf8, chars, refl, sym, ap, ◌∙◌, subst, arith, append_assoc, append-nil, length-append}
use Rattle.std.proofs.lemmas.List.{get_or-append-add}
use Rattle.std.specs.List.{All}
use Rattle.std.proofs.Math.ListN.{get_or-append}
use Rattle.std.proofs.Math.Utf8.{encode, encodes}
use Rattle.std.proofs.lemmas.Str.{encodes-chars, chars_from_encodes, encodes-append, chars_past_char, IsUtf8-nil}
use Rattle.std.proofs.lemmas.List.Elements.{All-append, All-cons}
use Rattle.array_fields.specs.Printed.{IsPrinted, IsShown}

-- one character more
pushed_char : (old new : List ℕ) (c : ℕ) → IsUtf8 old → IsUtf8 new → new ≡ old ++ encode c → chars new ≡ chars old ++ c ∷ []
pushed_char old new c utf8 new_utf8 is =
    sym (chars_from_encodes (chars old ++ c ∷ []) new new_utf8
    (encodes-append (chars old) (c ∷ []) ∙ ap (λ bs. bs ++ encodes (c ∷ [])) (encodes-chars old utf8) ∙ ap (λ bs. old ++ bs) (append-nil (encode c)) ∙ sym is))

none : (P : ℕ → Type 0) → All P []
none P = λ k d below. absurd (omega (arith, below))

all_one : (c : ℕ) → IsPrinted c → All IsPrinted (c ∷ [])
all_one c printed = All-cons IsPrinted c [] printed (none IsPrinted)

pub shown_char : (old new : List ℕ) (c : ℕ) → IsUtf8 old → IsUtf8 new → IsPrinted c → new ≡ old ++ encode c → IsShown (c ∷ []) old new
shown_char old new c utf8 new_utf8 printed is = record {
  added = c ∷ [];
  is = pushed_char old new c utf8 new_utf8 is;
  printed = all_one c printed;
  same = λ all. refl;
}

-- another character in the place of one that is not printed
pub shown_mark : (old new : List ℕ) (c mark : ℕ) → IsPrinted mark → (IsPrinted c → mark ≡ c) → IsShown (mark ∷ []) old new → IsShown (c ∷ []) old new
shown_mark old new c mark printed is h = record {
  added = h.added;
  is = h.is;
  printed = h.printed;
  same = λ all. h.same (all_one mark printed) ∙ ap (λ x. x ∷ []) (is (all 0 0 (omega arith)));
}

-- anything in the place of what is not printed
pub shown_escape : (old new text : List ℕ) (c : ℕ) → ¬ (IsPrinted c) → IsShown text old new → IsShown (c ∷ []) old new
shown_escape old new text c hidden h = record { added = h.added; is = h.is; printed = h.printed; same = λ all. absurd (hidden (all 0 0 (omega arith))) }

pub shown_none : (text : List ℕ) → IsShown [] text text
shown_none text = record { added = []; is = sym (append-nil (chars text)); printed = none IsPrinted; same = λ all. refl }

all_left : (xs ys : List ℕ) → All IsPrinted (xs ++ ys) → All IsPrinted xs
all_left xs ys all = λ k d below. subst IsPrinted (get_or-append xs ys d k below) (all k d (omega (arith, below, length-append xs ys)))

all_right : (xs ys : List ℕ) → All IsPrinted (xs ++ ys) → All IsPrinted ys
all_right xs ys all = λ k d below. subst IsPrinted (get_or-append-add xs ys k d) (all (length xs + k) d (omega (arith, below, length-append xs ys)))

-- more after them
pub shown_more : (xs ys old mid new : List ℕ) → IsShown xs old mid → IsShown ys mid new → IsShown (xs ++ ys) old new
shown_more xs ys old mid new h g = record {
  added = h.added ++ g.added;
  is = g.is ∙ ap (λ cs. cs ++ g.added) h.is ∙ append_assoc (chars old) h.added g.added;
  printed = All-append IsPrinted h.added g.added h.printed g.printed;
  same = λ all. ap (λ cs. cs ++ g.added) (h.same (all_left xs ys all)) ∙ ap (λ cs. xs ++ cs) (g.same (all_right xs ys all));
}

-- the next character of a text
pub next_split : (text rest next done : List ℕ) (c : ℕ) → IsUtf8 rest → rest ≡ encode c ++ next → chars text ≡ done ++ chars rest
    → chars text ≡ (done ++ c ∷ []) ++ chars next
next_split text rest next done c utf8 parts split =
    split ∙ ap (λ cs. done ++ cs) (chars_past_char rest next c utf8 parts) ∙ sym (append_assoc done (c ∷ []) (chars next))

some : (b : ℕ) (rest : List ℕ) → length (b ∷ rest) ≢ 0
some b rest same = omega (arith, same)

-- no character is left
pub no_more : (text rest done : List ℕ) → length rest ≡ 0 → chars text ≡ done ++ chars rest → chars text ≡ done
no_more text [] done empty split = split ∙ ap (λ cs. done ++ cs) (sym (chars_from_encodes [] [] IsUtf8-nil refl)) ∙ append-nil done
no_more text (b ∷ rest) done empty split = absurd (some b rest empty)

pub shown_all : (new cs : List ℕ) (h : IsShown cs [] new) → chars new ≡ h.added
shown_all new cs h = h.is ∙ ap (λ xs. xs ++ h.added) (sym (chars_from_encodes [] [] IsUtf8-nil refl))

-- the whole text is printed
pub shown_whole : (new : List ℕ) (text : List ℕ) → IsShown (chars text) [] new → All IsPrinted (chars text) → chars new ≡ chars text
shown_whole new text h all = shown_all new (chars text) h ∙ h.same all

pub all_printed : (new cs : List ℕ) → IsShown cs [] new → All IsPrinted (chars new)
all_printed new cs h = subst (All IsPrinted) (sym (shown_all new cs h)) h.printed

-- more after what is printed
pub all_more : (old new cs : List ℕ) → All IsPrinted (chars old) → IsShown cs old new → All IsPrinted (chars new)
all_more old new cs all h = subst (All IsPrinted) (sym h.is) (All-append IsPrinted (chars old) h.added all h.printed)

-- texts of the same characters are the same
pub same_bytes : (a b : List ℕ) → IsUtf8 a → IsUtf8 b → chars a ≡ chars b → a ≡ b
same_bytes a b utf8 other same = sym (encodes-chars a utf8) ∙ ap encodes same ∙ encodes-chars b other
