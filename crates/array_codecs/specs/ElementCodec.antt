-- A codec of elements: `bytes`, or that of elements which have lengths of their own, and codecs from bytes to bytes behind it.
use Rattle.parts_arrays.specs.ArraySpec.{ArraySpec}
use Rattle.codec_traits.specs.Meanings.{Meaning}
use Rattle.codec_traits.specs.Laws.{IsLawful}
use Rattle.codec_vlen.specs.DefaultCodec.{default_meaning, default_lawful}
use Rattle.codec_chains.specs.Chains.{chain_meaning}
use Rattle.codec_chains.specs.ChainLaws.{chain_lawful}
use Rattle.array_codecs.specs.ByteCodecs.{list_coding}
use Rattle.array_codecs.specs.ByteCodecsLaws.{list_invertible, list_bounded}
use Rattle.array_codecs.specs.declared.element_codec.ElementCodec.{ElementCodec}
use Rattle.array_codecs.specs.declared.element_codec.ElementCodec.TheVariants.{Alone, Chain}

-- what it means: what the codec that it holds means
abbrev pub element_meaning : ElementCodec → ArraySpec → Meaning
element_meaning (Alone codec) g = default_meaning codec g
element_meaning (Chain chain) g = chain_meaning (list_coding chain.bytes_to_bytes) (default_meaning chain.array_to_bytes g) g

-- it keeps the laws
pub element_lawful : (codec : ElementCodec) (g : ArraySpec) → IsLawful g (element_meaning codec g)
element_lawful (Alone codec) g = default_lawful codec g
element_lawful (Chain chain) g =
    chain_lawful (list_coding chain.bytes_to_bytes) (default_meaning chain.array_to_bytes g) g
    (list_invertible chain.bytes_to_bytes) (list_bounded chain.bytes_to_bytes) (default_lawful chain.array_to_bytes g)
