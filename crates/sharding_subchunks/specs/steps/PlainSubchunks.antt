-- Subchunks whose bytes are their elements, and where these lie.
use Rattle.std.specs.Prelude.{◌≡◌, List, ℕ}
use Rattle.std.specs.List.{concat}
use Rattle.parts_arrays.specs.ArraySpec.{ArraySpec}
use Rattle.codec_traits.specs.Meanings.{Meaning}
use Rattle.codec_traits.specs.Encodings.{IsPlain}
use Rattle.sharding_layout.specs.declared.laying.CutArray.{CutArray}
use Rattle.sharding_subchunks.specs.declared.plain_subchunks.PlainSubchunks.{PlainSubchunks}
use Rattle.sharding_subchunks.specs.declared.plain_subchunks.PlainCut.{PlainCut}

-- each subchunk of a shape is stored as so many bytes that are its elements
pub record ArePlainSubchunks (sub_g : ArraySpec) (inner : Meaning) (shape : List ℕ) (subchunks : PlainSubchunks) : Type 0 where
  pub plain : IsPlain sub_g inner subchunks.size
  pub rows : subchunks.rows ≡ record { shape = shape; sub = sub_g.shape }

-- and the bytes are the array's elements
pub record IsPlainCut (sub_g : ArraySpec) (inner : Meaning) (cut : CutArray) (plain_cut : PlainCut) : Type 0 where
  pub subchunks : ArePlainSubchunks sub_g inner cut.shape.now plain_cut.subchunks
  pub bytes : plain_cut.bytes.now ≡ concat cut.array.now.elements
