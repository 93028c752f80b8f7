use Rattle.std.proofs.Common.{◌≡◌, ◌*◌, ◌-◌, length, map}
use Rattle.std.specs.Prelude.{All, replicate}
use Rattle.tags.specs.declared.slot.SlotState.TheVariants.{Empty}
use Rattle.element.specs.Holding.{held_of, fixed_of}
use Rattle.frame_store.specs.Banked.{remaining_of, size_of}
use Rattle.schedule.specs.State.{AllFrom, RunsAs}
use Rattle.schedule.specs.Starts.{IsFresh, sized}
use Rattle.schedule.proofs.opening.fresh_lanes.Given as goal

abbrev pub invariant-loop-element : goal.invariant-loop-element
invariant-loop-element g l = record {
  count : length l.lanes.items ≡ l.element;
  left : remaining_of l.banks ≡ replicate ((l.elements - l.element) * (l.fn.store.frames * l.fn.store.width)) Empty;
  size : size_of l.banks ≡ l.fn.store.frames * l.fn.store.width;
  frames : l.banks.frames ≡ l.fn.store.frames;
  width : l.banks.width ≡ l.fn.store.width;
  fresh : AllFrom (IsFresh (sized (g.C.Instructions.program l.code) l.elements l.fn.store.frames l.fn.store.width 0)) 0 (map held_of l.lanes.items);
  runs : All (RunsAs (sized (g.C.Instructions.program l.code) l.elements l.fn.store.frames l.fn.store.width l.steps)) (map fixed_of l.lanes.items);
}
