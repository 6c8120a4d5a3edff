use Rattle.array_codecs.proofs.byte_codec.ByteCodecBytesToBytesCodecTraits.encode.Goals as goal

pub returns-in-Crc32c-clause-encoded : goal.returns-in-Crc32c-clause-encoded
returns-in-Crc32c-clause-encoded c = rw c.in-Crc32c.is c.encode.ensures.encoded

pub returns-in-Gzip-clause-encoded : goal.returns-in-Gzip-clause-encoded
returns-in-Gzip-clause-encoded c = rw c.in-Gzip.is c.encode-in-Gzip.ensures.encoded

pub returns-in-Zlib-clause-encoded : goal.returns-in-Zlib-clause-encoded
returns-in-Zlib-clause-encoded c = rw c.in-Zlib.is c.encode-in-Zlib.ensures.encoded

pub returns-in-Zstd-clause-encoded : goal.returns-in-Zstd-clause-encoded
returns-in-Zstd-clause-encoded c = rw c.in-Zstd.is c.encode-in-Zstd.ensures.encoded
