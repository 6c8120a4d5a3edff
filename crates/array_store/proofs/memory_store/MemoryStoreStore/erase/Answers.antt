use Rattle.std.proofs.Common.{refl, string_bytes}
use Rattle.array_store.proofs.StoredLemmas.{others_left, none_left}
use Rattle.array_store.proofs.memory_store.MemoryStoreStore.erase.Goals as goal

pub returns-clause-others : goal.returns-clause-others
returns-clause-others c = record {
  transparent_same = refl;
  others = λ t other other_key. rw (← c.self.view_is, c.forget.ensures.left)
      (others_left (λ o. string_bytes o.key) (λ o. o.bytes.items) c.args.key.now other other_key c.self.inside.objects.items);
}

pub returns-clause-erased : goal.returns-clause-erased
returns-clause-erased c = λ t. rw c.forget.ensures.left (none_left (λ o. string_bytes o.key) (λ o. o.bytes.items) c.args.key.now c.self.inside.objects.items)
