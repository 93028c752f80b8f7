use Rattle.std.proofs.Common.{sym, subst, get_or}
use Rattle.crossbeam_utils.specs.declared.cache_padded.CachePadded.{CachePadded}
use Rattle.crossbeam_utils.specs.Padded.{padded_value}
use Rattle.schedule.specs.State.{setting_in}
use Rattle.schedule.specs.Setting.{Setting}
use Rattle.machine.specs.declared.runner.Runner.{Runner}
use Rattle.machine.specs.Runners.{Runs, IsClear, Ended}
use Rattle.machine.proofs.free.run_each.Goals as goal

pub for_each_mut-requires-clause-accepts : goal.for_each_mut-requires-clause-accepts
for_each_mut-requires-clause-accepts g c = λ a b i p low is.
    let s : Setting = setting_in g.C.Instructions.program g.C.Instructions.width c.args.shape.now in
    let r = c.requires.ready i p.now low in (
      c.requires.good,
      subst (λ (q : CachePadded (Runner g.row.C.Denot g.row.A.Denot g.row.L.Denot)). Runs g.L.Log.KEEPS_EVENTS s c.args.mesh.now
          (padded_value q)) (sym is) r.0,
      subst (λ (q : CachePadded (Runner g.row.C.Denot g.row.A.Denot g.row.L.Denot)). IsClear (padded_value q)) (sym is) r.1,
    )

pub returns-clause-each : goal.returns-clause-each
returns-clause-each g c = λ i d low.
    let s : Setting = setting_in g.C.Instructions.program g.C.Instructions.width c.args.shape.now in
    let may = g.G.Gate.may_stop in
    let k = (c.for_each_mut.ensures i d low).1 in
    subst (λ (q : CachePadded (Runner g.row.C.Denot g.row.A.Denot g.row.L.Denot)). Ended c.args.take g.L.Log.KEEPS_EVENTS s c.args.mesh.now may
    (padded_value (get_or c.args.runners.now i d)) (padded_value q)) k.left
    (subst (λ (q : CachePadded (Runner g.row.C.Denot g.row.A.Denot g.row.L.Denot)). Ended c.args.take g.L.Log.KEEPS_EVENTS s c.args.mesh.now may (padded_value q)
    (padded_value k.after_call.now)) k.argument_is k.call)
