use Rattle.std.proofs.Common.{◌∙◌, ◌<◌, All, length, ap, subst, sym}
use Rattle.crossbeam_utils.specs.Padded.{padded_value}
use Rattle.schedule.specs.State.{setting_in}
use Rattle.machine.specs.Runners.{Runs, IsClear}
use Rattle.machine.specs.Starts.{AllEnded}
use Rattle.machine.proofs.Lists.{written_back}
use Rattle.machine.proofs.free.run_all.Goals as goal

pub run_passes-requires-clause-some : goal.run_passes-requires-clause-some
run_passes-requires-clause-some g c κs within = subst (λ ps. 0 < length ps) (sym c.deref_mut.ensures.value) c.requires.some

pub run_passes-requires-clause-ready : goal.run_passes-requires-clause-ready
run_passes-requires-clause-ready g c κs within =
    subst (λ ps. All (λ p. Runs g.L.Log.KEEPS_EVENTS (setting_in g.C.Instructions.program g.C.Instructions.width c.args.shape.now) c.args.mesh.now
    (padded_value p) × IsClear (padded_value p)) ps) (sym c.deref_mut.ensures.value) c.requires.ready

pub returns-clause-each : goal.returns-clause-each
returns-clause-each g c =
    let old = c.args.runners.now.items in
    let is = c.deref_mut.ensures.value in
    let each = subst (λ ps. AllEnded c.args.take g.L.Log.KEEPS_EVENTS (setting_in g.C.Instructions.program g.C.Instructions.width c.args.shape.now)
    c.args.mesh.now g.G.Gate.may_stop ps c.run_passes.new.runners) is c.run_passes.ensures.each in
    subst (λ ps. AllEnded c.args.take g.L.Log.KEEPS_EVENTS (setting_in g.C.Instructions.program g.C.Instructions.width c.args.shape.now) c.args.mesh.now
    g.G.Gate.may_stop old ps)
    (sym (written_back c.args.runners.now.len old c.run_passes.new.runners (sym (ap length is) ∙ c.deref_mut.ensures.len) (c.run_passes.ensures.count
    ∙ ap length is))) each

pub returns-clause-count : goal.returns-clause-count
returns-clause-count g c =
    let old = c.args.runners.now.items in
    let is = c.deref_mut.ensures.value in
    let same = c.run_passes.ensures.count ∙ ap length is in
    ap length (written_back c.args.runners.now.len old c.run_passes.new.runners (sym (ap length is) ∙ c.deref_mut.ensures.len) same) ∙ same
