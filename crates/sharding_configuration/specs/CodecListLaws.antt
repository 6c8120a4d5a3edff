-- A list of the metadata that a codec writes is read as the codec.
use Rattle.std.proofs.Common.{◌≡◌, Bool, true, Option, Some, None, Ok, option_map}
use Rattle.parts_errors.specs.Words.{Bytes}
use Rattle.serde_json.specs.Data.{Data, Members, object, item, no_items}
use Rattle.codec_metadata.specs.CreateErrors.{Reading}
use Rattle.codec_metadata.specs.Metadata.{metadata_of}
use Rattle.sharding_configuration.specs.CodecLists.{codec_in_list}

pub codec_in_list-written : {Codec : Type 0} (key : Bytes) (named : Bytes → Bool) (configured : Bytes → Option Data → Reading Codec) (name : Bytes) (written : Option Members) (codec : Codec)
    → named name ≡ true → configured name (option_map object written) ≡ Ok codec
    → codec_in_list key named configured (item (metadata_of name written) no_items) ≡ Ok codec
codec_in_list-written key named configured name None codec known made = rw known made
codec_in_list-written key named configured name (Some written) codec known made = rw known made
