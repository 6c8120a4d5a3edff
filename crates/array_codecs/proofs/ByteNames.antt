-- Lists of codecs from bytes to bytes, by what each is read as.
use Rattle.std.proofs.Common.{◌≡◌, ◌≤◌, ◌<◌, ℕ, List, [], ◌∷◌, Option, Some, None, Ok, IfSome, MatchOption, length, get_or, slice_get, option_map, refl, sym, subst}
use Rattle.std.specs.List.{HoldsAt}
use Rattle.std.proofs.lemmas.Option.{slice_get_read, slice_get_past}
use Rattle.array_codecs.specs.declared.byte_codec.ByteCodec.{ByteCodec}
use Rattle.array_codecs.specs.ByteCodecsMetadata.{byte_codec_in, IsOptionalCodec, byte_codecs_in}
use Rattle.array_codecs.specs.CodecNames.{AreByteCodecs, listed, metadata_of}
use Rattle.array_codecs.specs.declared.codec_list.NamedCodec.{NamedCodec}

pub listed_read : (codecs : List NamedCodec) (head : NamedCodec) (first : ByteCodec) (second third : Option ByteCodec) → AreByteCodecs codecs
    → head ≡ get_or codecs 0 head → byte_codec_in (metadata_of head) ≡ Ok first
    → IsOptionalCodec (slice_get codecs 1) second → IsOptionalCodec (slice_get codecs 2) third
    → byte_codecs_in (listed codecs) ≡ Ok (record { first = first; second = second; third = third })
listed_read [] head first second third served is read no_second no_third = absurd served
listed_read (a ∷ []) head first second third served is read no_second no_third =
    let begins : byte_codec_in (metadata_of a) ≡ Ok first = subst (λ codec. byte_codec_in (metadata_of codec) ≡ Ok first) is read in
    rw (begins, no_second, no_third) refl
listed_read (a ∷ b ∷ []) head first second third served is read (next, next_read, is_next) no_third =
    let begins : byte_codec_in (metadata_of a) ≡ Ok first = subst (λ codec. byte_codec_in (metadata_of codec) ≡ Ok first) is read in
    rw (begins, next_read, is_next, no_third) refl
listed_read (a ∷ b ∷ c ∷ []) head first second third served is read (next, next_read, is_next) (last, last_read, is_last) =
    let begins : byte_codec_in (metadata_of a) ≡ Ok first = subst (λ codec. byte_codec_in (metadata_of codec) ≡ Ok first) is read in
    rw (begins, next_read, last_read, is_next, is_last) refl
listed_read (a ∷ b ∷ c ∷ d ∷ codecs) head first second third served is read some_second some_third = absurd served

-- what `get` gives is what stands at a place
pub found_at : {R : Type 0} (seen : R → NamedCodec) (r : Option R) (codecs : List NamedCodec) (i : ℕ) → IfSome r (λ x. seen x ≡ get_or codecs i (seen x))
    → MatchOption r (length codecs ≤ i) (λ x. (i < length codecs) × HoldsAt (λ y. seen x ≡ y) codecs i) → option_map seen r ≡ slice_get codecs i
found_at seen None codecs i is past = sym (slice_get_past codecs i past)
found_at seen (Some x) codecs i is (inside, holds) = sym (slice_get_read codecs (length codecs) i (seen x) refl inside is)
