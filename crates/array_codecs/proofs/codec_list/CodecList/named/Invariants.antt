use Rattle.std.proofs.Common.{◌≡◌, map, take}
use Rattle.std.specs.List.{All}
use Rattle.serde_json.specs.View.{view}
use Rattle.array_codecs.specs.CodecNames.{IsNamed, metadata_of}
use Rattle.array_codecs.proofs.codec_list.CodecList.named.Given as goal

-- the codecs of the values up to here
abbrev pub invariant-loop-index : goal.invariant-loop-index
invariant-loop-index l = record {
  values : map metadata_of l.codecs.items ≡ map view (take l.index l.values);
  named : All IsNamed l.codecs.items;
}
