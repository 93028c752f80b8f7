use Rattle.std.proofs.Common.{◌≡◌, replicate}
use Rattle.tags.specs.declared.slot.SlotState.TheVariants.{Empty}
use Rattle.frame_store.proofs.store.Store.new.Given as goal

abbrev pub invariant-loop : goal.invariant-loop
invariant-loop g l = l.all.items ≡ replicate l.counter Empty
