use Rattle.machine.proofs.free.list_events.Goals as goal

pub returns-clause-keeps_events : goal.returns-clause-keeps_events
returns-clause-keeps_events g c = λ on log start last history opens. (
  c.in_ok-events.events.items,
  c.in_ok-events.ensures log start last history
      opens,
  c.in_ok-append.ensures.items,
)
