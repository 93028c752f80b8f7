use Rattle.std.proofs.Common.{◌≡◌, [], None}
use Rattle.semantics.specs.Machine.{Events}
use Rattle.schedule.specs.State.{setting_in}
use Rattle.schedule.specs.Steps.{logged}
use Rattle.rounds.specs.Rounds.{lanes_held, IsBetween, Leads}
use Rattle.rounds.specs.Counted.{MakesRounds}
use Rattle.rounds.proofs.rounds.play.Given as goal

abbrev pub invariant-rounds : goal.invariant-rounds
invariant-rounds g l = record {
  setting : setting_in g.C.Instructions.program g.C.Instructions.width l.setup.shape ≡ setting_in g.C.Instructions.program g.C.Instructions.width
      l.fn.setup.shape;
  between : IsBetween (setting_in g.C.Instructions.program g.C.Instructions.width l.fn.setup.shape) l.turners.items;
  tokens : l.tokens.items ≡ [];
  made : Events;
  noted : l.setup.log.events.items ≡ logged g.L.Log.KEEPS_EVENTS l.fn.setup.log.events.items made;
  leads : Leads (setting_in g.C.Instructions.program g.C.Instructions.width l.fn.setup.shape) l.fn.turners.items l.turners.items [] made;
  makes : MakesRounds l.fn.way.take (setting_in g.C.Instructions.program g.C.Instructions.width l.fn.setup.shape) g.G.Gate.may_stop l.rounds
      (lanes_held l.fn.turners.items) (lanes_held l.turners.items) made None;
}
