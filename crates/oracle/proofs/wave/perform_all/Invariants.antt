use Rattle.std.proofs.Common.{◌≡◌, [], map, drop}
use Rattle.oracle.specs.Running.{plain}
use Rattle.oracle.specs.Telling.{told}
use Rattle.oracle.specs.Gathering.{performed_all}
use Rattle.oracle.proofs.wave.perform_all.Given as goal

abbrev pub invariant-loop-activity : goal.invariant-loop-activity
invariant-loop-activity g l =
    let s = l.fn.state in
    let t = l.state in
    (
    performed_all l.checked (plain s.invocations s.fresh.items [] s.deferred.items s.cells.items s.outputs.items)
    (map (λ a. (a.values.items, told a.act)) l.acts)
    ≡ performed_all l.checked (plain t.invocations t.fresh.items [] t.deferred.items t.cells.items t.outputs.items)
    (map (λ a. (a.values.items, told a.act)) (drop l.activity-index l.acts))
    )
    × (t.waiting.items ≡ s.waiting.items)
