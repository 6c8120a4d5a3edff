-- What values say of raw bits.
use Rattle.std.proofs.Common.{◌≡◌, None, Some, sym, subst}
use Rattle.serde_json.specs.Data.{Data, null, boolean, number, string, array, object}
use Rattle.serde_json.specs.Find.{as_str}
use Rattle.parts_errors.specs.Words.{Bytes as Text}
use Rattle.array_fields.specs.MetadataFields.{whole_numbers_in}
use Rattle.array_fields.specs.RawBits.{base64_in, IsRawIn}

some_same : {A : Type 0} (a b : A) → Some a ≡ Some b → a ≡ b
some_same a b e = cc

-- a text says the bytes that it is the base64 of
pub raw_text : (d : Data) (text element : Text) → as_str d ≡ Some text → base64_in text ≡ Some element → IsRawIn d element
raw_text null text element is h = absurd (cc)
raw_text (boolean b) text element is h = absurd (cc)
raw_text (number n) text element is h = absurd (cc)
raw_text (string s) text element is h = subst (λ (t : Text). base64_in t ≡ Some element) (sym (some_same s text is)) h
raw_text (array ds) text element is h = absurd (cc)
raw_text (object ms) text element is h = absurd (cc)

-- and what is no text, those of a list
pub raw_list : (d : Data) (element : Text) → as_str d ≡ None → whole_numbers_in d ≡ Some element → IsRawIn d element
raw_list null element none h = h
raw_list (boolean b) element none h = h
raw_list (number n) element none h = h
raw_list (string s) element none h = absurd (cc)
raw_list (array ds) element none h = h
raw_list (object ms) element none h = h
