-- Lists of metadata, and the configuration of a shard.
use Rattle.std.proofs.Common.{◌≡◌, ◌≢◌, ℕ, List, [], ◌∷◌, Option, None, Some, Ok, Err, length, refl, codes, option_map, option_and_then, ap, sym, ◌∙◌}
use Rattle.serde_json.specs.Data.{Data, Items}
use Rattle.serde_json.specs.Find.{get, as_array, as_object}
use Rattle.parts_errors.specs.Words.{Bytes}
use Rattle.codec_metadata.specs.CreateErrors.{Reading, Refusal, or_refused, and_then, missing_field, bad_field}
use Rattle.codec_metadata.specs.Metadata.{first_refused, unless_refused}
use Rattle.sharding_configuration.specs.Configuration.{Configuration, configuration_in, is_configuration_member, field, shape_in}
use Rattle.array_fields.specs.MetadataFields.{configured_in}

ok_same : {A : Type 0} (a b : A) → let first : Reading A = Ok a in first ≡ Ok b → a ≡ b
ok_same a b e = cc

pub some_same : {A : Type 0} (a b : A) → Some a ≡ Some b → a ≡ b
some_same a b e = cc

-- what is read of an optional value is read of a value
or_read : {A B : Type 0} (o : Option A) (refusal : Refusal) (later : A → Reading B) (b : B)
    → or_refused o refusal later ≡ Ok b → (a : A) × (o ≡ Some a) × (later a ≡ Ok b)
or_read None refusal later b e = absurd (cc)
or_read (Some a) refusal later b e = (a, refl, e)

unless_read : {A : Type 0} (o : Option Bytes) (later : Reading A) (a : A) → unless_refused o later ≡ Ok a → later ≡ Ok a
unless_read None later a e = e
unless_read (Some key) later a e = absurd (cc)

then_read : {A B : Type 0} (first : Reading A) (later : A → Reading B) (b : B)
    → and_then first later ≡ Ok b → (a : A) × (first ≡ Ok a) × (later a ≡ Ok b)
then_read (Ok a) later b e = (a, refl, e)
then_read (Err refusal) later b e = absurd (cc)

form_read : {A : Type 0} (form : Data → Option A) (missing wrong : Refusal) (o : Option Data) (a : A)
    → or_refused o missing (λ value. or_refused (form value) wrong Ok) ≡ Ok a → option_and_then form o ≡ Some a
form_read form missing wrong None a e = absurd (cc)
form_read form missing wrong (Some value) a e =
    let (b, formed, same) = or_read (form value) wrong Ok a e in formed ∙ ap Some (ok_same b a same)

-- the shape that a configuration is read with is what stands under its key
shape_in_fields : (d : Data) (c : Configuration) (later : List ℕ → Reading Configuration)
    → ((shape : List ℕ) → later shape ≡ Ok c → shape ≡ c.chunk_shape)
    → and_then (field (codes "chunk_shape") shape_in d) later ≡ Ok c → option_and_then shape_in (get (codes "chunk_shape") d) ≡ Some c.chunk_shape
shape_in_fields d c later kept e =
    let (shape, read, rest) = then_read (field (codes "chunk_shape") shape_in d) later c e in
    form_read shape_in (missing_field (codes "chunk_shape")) (bad_field (codes "chunk_shape")) (get (codes "chunk_shape") d) shape read
    ∙ ap Some (kept shape rest)

-- the fields behind the shape
abbrev with_location : {P : Type 0} → Reading P → (P → Configuration) → Reading Configuration
with_location place made = and_then place (λ location. Ok (made location))

abbrev with_codecs : {P : Type 0} → (codecs index : Reading Items) → Reading P → (List ℕ → Items → Items → P → Configuration) → List ℕ → Reading Configuration
with_codecs codecs index place made shape = and_then codecs (λ codecs. and_then index (λ index. with_location place (made shape codecs index)))

shape_kept : {P : Type 0} (codecs index : Reading Items) (place : Reading P) (made : List ℕ → Items → Items → P → Configuration)
    → ((s : List ℕ) (x y : Items) (p : P) → (made s x y p).chunk_shape ≡ s)
    → (c : Configuration) (shape : List ℕ) → with_codecs codecs index place made shape ≡ Ok c → shape ≡ c.chunk_shape
shape_kept (Err r) index place made keeps c shape e = absurd (cc)
shape_kept (Ok x) (Err r) place made keeps c shape e = absurd (cc)
shape_kept (Ok x) (Ok y) (Err r) made keeps c shape e = absurd (cc)
shape_kept (Ok x) (Ok y) (Ok p) made keeps c shape e =
    sym (keeps shape x y p) ∙ ap (λ (made : Configuration). made.chunk_shape) (ok_same (made shape x y p) c e)

shape_of : {P : Type 0} (made : List ℕ → Items → Items → P → Configuration)
    → ((s : List ℕ) (x y : Items) (p : P) → (made s x y p).chunk_shape ≡ s) → (place : Reading P) (d : Data) (c : Configuration)
    → or_refused (as_object d) (bad_field (codes "configuration")) (λ members. unless_refused (first_refused is_configuration_member members)
    (and_then (field (codes "chunk_shape") shape_in d) (with_codecs (field (codes "codecs") as_array d) (field (codes "index_codecs") as_array d) place made))) ≡ Ok c
    → option_and_then shape_in (get (codes "chunk_shape") d) ≡ Some c.chunk_shape
shape_of made keeps place d c e =
    let codecs : Reading Items = field (codes "codecs") as_array d in
    let index : Reading Items = field (codes "index_codecs") as_array d in
    let fields : Reading Configuration = and_then (field (codes "chunk_shape") shape_in d) (with_codecs codecs index place made) in
    let (members, is, read) = or_read (as_object d) (bad_field (codes "configuration"))
    (λ members. unless_refused (first_refused is_configuration_member members) fields) c e in
    shape_in_fields d c (with_codecs codecs index place made) (shape_kept codecs index place made keeps c)
    (unless_read (first_refused is_configuration_member members) fields c read)

shape_read : (d : Data) (c : Configuration) → configuration_in d ≡ Ok c → option_and_then shape_in (get (codes "chunk_shape") d) ≡ Some c.chunk_shape
shape_read d c e =
    shape_of (λ s x y p. record { chunk_shape = s; codecs = x; index_codecs = y; index_location = p }) (λ s x y p. refl) _ d c e

-- of metadata
configured_shape : (o : Option Data) (c : Configuration) → option_map configuration_in o ≡ Some (Ok c)
    → option_and_then shape_in (option_and_then (get (codes "chunk_shape")) o) ≡ Some c.chunk_shape
configured_shape None c e = absurd (cc)
configured_shape (Some d) c e = shape_read d c (some_same (configuration_in d) (Ok c) e)

pub shape_said : (d : Data) (c : Configuration) → option_map configuration_in (get (codes "configuration") d) ≡ Some (Ok c)
    → option_and_then shape_in (configured_in (codes "chunk_shape") d) ≡ Some c.chunk_shape
shape_said d c e = configured_shape (get (codes "configuration") d) c e
