use Rattle.std.proofs.Common.{sym, subst, ◌≤◌, List, length, take, arith}
use Rattle.std.specs.Prelude.{All}
use Rattle.tags.specs.declared.token.Token.{Token}
use Rattle.schedule.specs.State.{setting_in}
use Rattle.machine.specs.Runners.{KeepsTokens, Fits}
use Rattle.machine.proofs.Keeping.{keeps_twice, kept_count, fits_bundles, keeps_filled, keeps_cleared}
use Rattle.machine.proofs.bundling.fill_bundles.Goals as goal

pub fill-runner-requires-clause-count : goal.fill-runner-requires-clause-count
fill-runner-requires-clause-count g c =
    kept_count {C = g.row.C.Denot} {A = g.row.A.Denot} {L = g.row.L.Denot} g.L.Log.KEEPS_EVENTS
    (setting_in g.C.Instructions.program g.C.Instructions.width c.args.shape.now) c.args.mesh.now c.args.runner.now c.requires.runs

pub fill-runner-requires-clause-near : goal.fill-runner-requires-clause-near
fill-runner-requires-clause-near g c =
    subst (λ (l : List Token). All (Fits c.args.shape.now.elements c.args.runner.now.unposted.items) l) (sym c.deref.ensures.value)
    (fits_bundles {C = g.row.C.Denot} {A = g.row.A.Denot} {L = g.row.L.Denot} g.L.Log.KEEPS_EVENTS
    (setting_in g.C.Instructions.program g.C.Instructions.width c.args.shape.now) c.args.mesh.now c.args.runner.now c.requires.runs)

pub returns-then-runner-len-clause-keeps : goal.returns-then-runner-len-clause-keeps
returns-then-runner-len-clause-keeps g c =
    let filled : KeepsTokens c.args.shape.now.elements c.args.runner.now.unposted.items c.fill-runner.new.unposted.items
    (take c.fill-runner.result c.args.runner.now.sent.items) = subst (λ (l : List Token). KeepsTokens c.args.shape.now.elements
    c.args.runner.now.unposted.items c.fill-runner.new.unposted.items (take c.fill-runner.result l)) c.deref.ensures.value c.fill-runner.ensures.keeps in
    keeps_filled {C = g.row.C.Denot} {A = g.row.A.Denot} {L = g.row.L.Denot} g.L.Log.KEEPS_EVENTS
    (setting_in g.C.Instructions.program g.C.Instructions.width c.args.shape.now) c.args.mesh.now c.args.runner.now c.fill-runner.new.unposted
    c.fill-runner.result c.requires.unbundled filled

pub returns-clause-keeps : goal.returns-clause-keeps
returns-clause-keeps g c =
    let filled : KeepsTokens c.args.shape.now.elements c.args.runner.now.unposted.items c.fill-runner.new.unposted.items
    (take c.fill-runner.result c.args.runner.now.sent.items) = subst (λ (l : List Token). KeepsTokens c.args.shape.now.elements
    c.args.runner.now.unposted.items c.fill-runner.new.unposted.items (take c.fill-runner.result l)) c.deref.ensures.value c.fill-runner.ensures.keeps in
    let count = c.len.ensures in
    let test = c.if-runner-len.false in
    let past : length c.args.runner.now.sent.items ≤ c.fill-runner.result = omega (arith, count, test) in
    keeps_twice {C = g.row.C.Denot} {A = g.row.A.Denot} {L = g.row.L.Denot} g.L.Log.KEEPS_EVENTS
    (setting_in g.C.Instructions.program g.C.Instructions.width c.args.shape.now) c.args.mesh.now c.args.runner.now
    (record c.args.runner.now { unposted = c.fill-runner.new.unposted; bundled = c.fill-runner.result }) _
    (keeps_filled {C = g.row.C.Denot} {A = g.row.A.Denot} {L = g.row.L.Denot} g.L.Log.KEEPS_EVENTS
    (setting_in g.C.Instructions.program g.C.Instructions.width c.args.shape.now) c.args.mesh.now c.args.runner.now c.fill-runner.new.unposted
    c.fill-runner.result c.requires.unbundled filled)
    (keeps_cleared {C = g.row.C.Denot} {A = g.row.A.Denot} {L = g.row.L.Denot} g.L.Log.KEEPS_EVENTS
    (setting_in g.C.Instructions.program g.C.Instructions.width c.args.shape.now) c.args.mesh.now
    (record c.args.runner.now { unposted = c.fill-runner.new.unposted; bundled = c.fill-runner.result }) c.clear.new.self past c.clear.ensures.items)
