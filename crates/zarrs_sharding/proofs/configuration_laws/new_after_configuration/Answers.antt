use Rattle.std.proofs.Common.{codes, ◌∙◌}
use Rattle.std.proofs.lemmas.Result.{IfOk-weaker, IfErr-weaker}
use Rattle.serde_json.specs.Data.{object}
use Rattle.codec_metadata.specs.Metadata.{metadata_of}
use Rattle.sharding_configuration.specs.CodecLists.{codec_in_list}
use Rattle.sharding_configuration.specs.Configuration.{configuration_in}
use Rattle.sharding_configuration.specs.Configurations.{configuration_of}
use Rattle.sharding_codec.specs.ShardMetadata.{shard_of, shard_written, shard_told}
use Rattle.sharding_codec.specs.ShardMetadataLaws.{shard_remembers}
use Rattle.zarrs_sharding.proofs.ReadingLemmas.{read_later, first_unrefused, unrefused, read_same, passes_on, written_again}
use Rattle.zarrs_sharding.proofs.configuration_laws.new_after_configuration.Goals as goal

pub returns-in_err-configuration-clause-refused : goal.returns-in_err-configuration-clause-refused
returns-in_err-configuration-clause-refused g c =
    let i = g.I.CodecTraitsV3 in
    let x = g.X.CodecTraitsV3 in
    let s = c.args._codec.now in
    let told = shard_told (i.told s.inner) (x.told s.index_codec) s in
    let first = configuration_in (object (shard_written (metadata_of (i.own_name s.inner) (i.written s.inner)) (metadata_of (x.own_name s.index_codec) (x.written s.index_codec)) s)) in
    let later = shard_of (codec_in_list (codes "codecs") i.named i.configured) (codec_in_list (codes "index_codecs") x.named x.configured) in
    let whole = shard_remembers i.named x.named i.configured x.configured (i.own_name s.inner) (x.own_name s.index_codec) (i.written s.inner) (x.written s.index_codec)
    s (i.told s.inner) (x.told s.index_codec) c.requires.valid.0 (g.met.I.CodecTraitsV3.names_itself s.inner) (g.met.I.CodecTraitsV3.remembers s.inner c.requires.valid.1)
    (g.met.X.CodecTraitsV3.names_itself s.index_codec) (g.met.X.CodecTraitsV3.remembers s.index_codec c.requires.valid.2) in
    let refused = rw c.requires.written at c.in_err-configuration.ensures.refused in
    passes_on _ c.in_err-configuration.field-0.0 _ c.from_residual.ensures.1
    (first_unrefused first later told c.in_err-configuration.field-0.0 whole refused)

pub returns-clause-same : goal.returns-clause-same
returns-clause-same g c =
    let i = g.I.CodecTraitsV3 in
    let x = g.X.CodecTraitsV3 in
    let s = c.args._codec.now in
    let told = shard_told (i.told s.inner) (x.told s.index_codec) s in
    let first = configuration_in (object (shard_written (metadata_of (i.own_name s.inner) (i.written s.inner)) (metadata_of (x.own_name s.index_codec) (x.written s.index_codec)) s)) in
    let later = shard_of (codec_in_list (codes "codecs") i.named i.configured) (codec_in_list (codes "index_codecs") x.named x.configured) in
    let whole = shard_remembers i.named x.named i.configured x.configured (i.own_name s.inner) (x.own_name s.index_codec) (i.written s.inner) (x.written s.index_codec)
    s (i.told s.inner) (x.told s.index_codec) c.requires.valid.0 (g.met.I.CodecTraitsV3.names_itself s.inner) (g.met.I.CodecTraitsV3.remembers s.inner c.requires.valid.1)
    (g.met.X.CodecTraitsV3.names_itself s.index_codec) (g.met.X.CodecTraitsV3.remembers s.index_codec c.requires.valid.2) in
    let read = rw c.requires.written at c.in_ok-configuration.ensures.read in
    let is = read_later first later told (configuration_of c.in_ok-configuration.configuration) whole read in
    IfOk-weaker _ _ _ (λ codec other. read_same (later (configuration_of c.in_ok-configuration.configuration)) told codec is other)
    c.new_with_configuration.ensures.made

pub returns-clause-again : goal.returns-clause-again
returns-clause-again g c =
    let i = g.I.CodecTraitsV3 in
    let x = g.X.CodecTraitsV3 in
    let s = c.args._codec.now in
    let told = shard_told (i.told s.inner) (x.told s.index_codec) s in
    let first = configuration_in (object (shard_written (metadata_of (i.own_name s.inner) (i.written s.inner)) (metadata_of (x.own_name s.index_codec) (x.written s.index_codec)) s)) in
    let later = shard_of (codec_in_list (codes "codecs") i.named i.configured) (codec_in_list (codes "index_codecs") x.named x.configured) in
    let whole = shard_remembers i.named x.named i.configured x.configured (i.own_name s.inner) (x.own_name s.index_codec) (i.written s.inner) (x.written s.index_codec)
    s (i.told s.inner) (x.told s.index_codec) c.requires.valid.0 (g.met.I.CodecTraitsV3.names_itself s.inner) (g.met.I.CodecTraitsV3.remembers s.inner c.requires.valid.1)
    (g.met.X.CodecTraitsV3.names_itself s.index_codec) (g.met.X.CodecTraitsV3.remembers s.index_codec c.requires.valid.2) in
    let read = rw c.requires.written at c.in_ok-configuration.ensures.read in
    let is = read_later first later told (configuration_of c.in_ok-configuration.configuration) whole read in
    IfOk-weaker _ _ _ (λ codec other.
    let same = read_same (later (configuration_of c.in_ok-configuration.configuration)) told codec is other in
    c.requires.written ∙ written_again i.own_name x.own_name i.written x.written s codec (i.told s.inner) (x.told s.index_codec) same
    (g.met.I.CodecTraitsV3.told_again s.inner) (g.met.X.CodecTraitsV3.told_again s.index_codec))
    c.new_with_configuration.ensures.made

pub returns-clause-refused : goal.returns-clause-refused
returns-clause-refused g c =
    let i = g.I.CodecTraitsV3 in
    let x = g.X.CodecTraitsV3 in
    let s = c.args._codec.now in
    let told = shard_told (i.told s.inner) (x.told s.index_codec) s in
    let first = configuration_in (object (shard_written (metadata_of (i.own_name s.inner) (i.written s.inner)) (metadata_of (x.own_name s.index_codec) (x.written s.index_codec)) s)) in
    let later = shard_of (codec_in_list (codes "codecs") i.named i.configured) (codec_in_list (codes "index_codecs") x.named x.configured) in
    let whole = shard_remembers i.named x.named i.configured x.configured (i.own_name s.inner) (x.own_name s.index_codec) (i.written s.inner) (x.written s.index_codec)
    s (i.told s.inner) (x.told s.index_codec) c.requires.valid.0 (g.met.I.CodecTraitsV3.names_itself s.inner) (g.met.I.CodecTraitsV3.remembers s.inner c.requires.valid.1)
    (g.met.X.CodecTraitsV3.names_itself s.index_codec) (g.met.X.CodecTraitsV3.remembers s.index_codec c.requires.valid.2) in
    let read = rw c.requires.written at c.in_ok-configuration.ensures.read in
    let is = read_later first later told (configuration_of c.in_ok-configuration.configuration) whole read in
    IfErr-weaker _ _ _ (λ e refused. unrefused (later (configuration_of c.in_ok-configuration.configuration)) told e is refused)
    c.new_with_configuration.ensures.refused
