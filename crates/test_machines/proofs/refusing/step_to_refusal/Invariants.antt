use Rattle.std.proofs.Common.{◌≡◌}
use Rattle.test_machines.proofs.refusing.step_to_refusal.Given as goal

abbrev pub invariant-loop-turn : goal.invariant-loop-turn
invariant-loop-turn l = l.machine.state.setting.elements ≡ l.elements
