use Rattle.std.proofs.Common.{refl, string_bytes}
use Rattle.codec_traits.specs.RefusalLaws.{passed_on}
use Rattle.array_store.proofs.StoredLemmas.{put_others, put_here}
use Rattle.array_store.proofs.memory_store.MemoryStoreStore.put.Goals as goal

pub returns-clause-others : goal.returns-clause-others
returns-clause-others c = record {
  transparent_same = refl;
  others = λ t other other_key. rw (← c.self.view_is)
      (put_others (λ o. string_bytes o.key) (λ o. o.bytes.items) _ _ _ c.in_ok-add.ensures.added other (rw c.in_ok-from_str.ensures.ok other_key));
}

pub returns-clause-put : goal.returns-clause-put
returns-clause-put c = λ t. rw (← c.in_ok-from_str.ensures.ok) (put_here (λ o. string_bytes o.key) (λ o. o.bytes.items) _ _ _ c.in_ok-add.ensures.added)

pub returns-in_err-add-clause-refused : goal.returns-in_err-add-clause-refused
returns-in_err-add-clause-refused c =
    passed_on _ c.in_err-add.field-0.0 _ c.from_residual-in_err-add.ensures.1
    (rw c.in_err-add.ensures.refused (λ t. rw (← c.self.view_is, c.in_err-add.ensures.kept) refl))
