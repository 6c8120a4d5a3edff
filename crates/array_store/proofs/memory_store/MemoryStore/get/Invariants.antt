use Rattle.std.proofs.Common.{◌≡◌, drop, map, string_bytes}
use Rattle.array_store.specs.Stores.{stored_at}
use Rattle.array_store.proofs.memory_store.MemoryStore.get.Given as goal

abbrev pub invariant-loop-object : goal.invariant-loop-object
invariant-loop-object l =
    stored_at (map (λ object. (string_bytes object.key, object.bytes.items)) (drop l.object-index l.object-items)) l.key ≡ stored_at l.self l.key
