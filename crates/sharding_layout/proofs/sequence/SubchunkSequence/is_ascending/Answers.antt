use Rattle.std.proofs.Common.{◌≡◌, Bool, true, false, IsTrue, List, length, ℕ, sym, ap, ◌∙◌}
use Rattle.std.proofs.lemmas.Bool.{false≢true}
use Rattle.std.specs.List.{range_with_len}
use Rattle.std.proofs.lemmas.List.FromFn.{length-range_with_len}
use Rattle.sharding_layout.specs.steps.Sequences.{numbers_of}
use Rattle.sharding_layout.proofs.sequence.SubchunkSequence.is_ascending.Goals as goal

ascends : (is : Bool) (count : ℕ) (listed value : List ℕ) → value ≡ numbers_of is count listed → IsTrue is → value ≡ range_with_len 0 (length value)
ascends true count listed value same h = same ∙ ap (range_with_len 0) (sym (length-range_with_len 0 count) ∙ ap length (sym same))
ascends false count listed value same h = absurd (false≢true h)

pub returns : goal.returns
returns c = ascends c.self.inside.is_ascending c.self.inside.count c.self.inside.listed.items c.args.self.now (sym c.self.view_is)
