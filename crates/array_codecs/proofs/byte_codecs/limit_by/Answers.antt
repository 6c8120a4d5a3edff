use Rattle.array_codecs.proofs.ByteLists.{checksum_limit}
use Rattle.array_codecs.proofs.byte_codecs.limit_by.Goals as goal

pub returns-in_ok-limit-in-Crc32c : goal.returns-in_ok-limit-in-Crc32c
returns-in_ok-limit-in-Crc32c c =
    rw c.in-Crc32c.is (checksum_limit c.args.limit c.checked_add.result c.in_ok-limit-in-Crc32c.field-0 c.in_ok-limit-in-Crc32c.was c.checked_add.ensures)
