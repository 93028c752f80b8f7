use Rattle.std.proofs.Common.{◌≡◌, ℕ, ◌<◌, [], Some}
use Rattle.std.specs.Prelude.{slice_get}
use Rattle.element.specs.Holding.{Holding}
use Rattle.schedule.specs.State.{state_of}
use Rattle.schedule.proofs.elements.Elements.has_tokens.Given as goal

abbrev pub invariant-loop-element : goal.invariant-loop-element
invariant-loop-element g l = (i : ℕ) (h : Holding) → i < l.element → slice_get (state_of g.C.Instructions.program g.C.Instructions.width l.self).lanes
    i ≡ Some h → h.queue ≡ []
