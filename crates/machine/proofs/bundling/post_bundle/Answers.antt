use Rattle.std.proofs.Common.{◌≡◌, ◌∙◌, sym, ap, subst, refl, ◌<◌, length, get_or, arith}
use Rattle.schedule.specs.State.{setting_in}
use Rattle.machine.specs.Bundles.{BundleView}
use Rattle.machine.proofs.Keeping.{kept_count, may_post, keeps_posted, keeps_refused}
use Rattle.machine.proofs.bundling.post_bundle.Goals as goal

pub post-requires-clause-held : goal.post-requires-clause-held
post-requires-clause-held g c =
    let count = kept_count {C = g.row.C.Denot} {A = g.row.A.Denot} {L = g.row.L.Denot} g.L.Log.KEEPS_EVENTS
    (setting_in g.C.Instructions.program g.C.Instructions.width c.args.shape.now) c.args.mesh.now c.args.runner.now c.requires.runs in
    let to = c.requires.to in
    let low : c.args.to < length c.args.runner.now.unposted.items = omega (arith, count, to) in
    let value = subst (λ v. v ≡ get_or c.args.runner.now.unposted.items c.args.to v) (sym c.replace-bundle.ensures.value) c.index_mut.ensures.value in
    let is_empty = c.replace-bundle.ensures.after ∙ c.requires.empty in
    let none = ap (λ (v : BundleView). v.tokens) is_empty in
    let fits = ap (λ (v : BundleView). v.bounds) is_empty in
    may_post {A = g.row.A.Denot} {C = g.row.C.Denot} {L = g.row.L.Denot} g.L.Log.KEEPS_EVENTS
    (setting_in g.C.Instructions.program g.C.Instructions.width c.args.shape.now) c.args.mesh.now c.args.runner.now c.args.to
    c.replace-bundle.result c.replace-bundle.new.dest low value none fits c.requires.runs

pub returns-in-Err-clause-keeps : goal.returns-in-Err-clause-keeps
returns-in-Err-clause-keeps g c =
    let count = kept_count {C = g.row.C.Denot} {A = g.row.A.Denot} {L = g.row.L.Denot} g.L.Log.KEEPS_EVENTS
    (setting_in g.C.Instructions.program g.C.Instructions.width c.args.shape.now) c.args.mesh.now c.args.runner.now c.requires.runs in
    let to = c.requires.to in
    let low : c.args.to < length c.args.runner.now.unposted.items = omega (arith, count, to) in
    let value = subst (λ v. v ≡ get_or c.args.runner.now.unposted.items c.args.to v) (sym c.replace-bundle.ensures.value) c.index_mut.ensures.value in
    let is_empty = c.replace-bundle.ensures.after ∙ c.requires.empty in
    let none = ap (λ (v : BundleView). v.tokens) is_empty in
    let fits = ap (λ (v : BundleView). v.bounds) is_empty in
    let e = c.in-Err.ensures.err in
    keeps_refused {A = g.row.A.Denot} {C = g.row.C.Denot} {L = g.row.L.Denot} g.L.Log.KEEPS_EVENTS
    (setting_in g.C.Instructions.program g.C.Instructions.width c.args.shape.now) c.args.mesh.now c.args.runner.now c.args.to
    c.replace-bundle.result c.replace-bundle.new.dest low value none fits _ c.replace-empty.new.dest c.post.new.seat _ count refl
    (c.replace-empty.ensures.after ∙ e.0) e.1

pub returns-in_default-clause-keeps : goal.returns-in_default-clause-keeps
returns-in_default-clause-keeps g c =
    let count = kept_count {C = g.row.C.Denot} {A = g.row.A.Denot} {L = g.row.L.Denot} g.L.Log.KEEPS_EVENTS
    (setting_in g.C.Instructions.program g.C.Instructions.width c.args.shape.now) c.args.mesh.now c.args.runner.now c.requires.runs in
    let to = c.requires.to in
    let low : c.args.to < length c.args.runner.now.unposted.items = omega (arith, count, to) in
    let value = subst (λ v. v ≡ get_or c.args.runner.now.unposted.items c.args.to v) (sym c.replace-bundle.ensures.value) c.index_mut.ensures.value in
    let is_empty = c.replace-bundle.ensures.after ∙ c.requires.empty in
    let none = ap (λ (v : BundleView). v.tokens) is_empty in
    let fits = ap (λ (v : BundleView). v.bounds) is_empty in
    keeps_posted {A = g.row.A.Denot} {C = g.row.C.Denot} {L = g.row.L.Denot} g.L.Log.KEEPS_EVENTS
    (setting_in g.C.Instructions.program g.C.Instructions.width c.args.shape.now) c.args.mesh.now c.args.runner.now c.args.to
    c.replace-bundle.result c.replace-bundle.new.dest low value none fits _ c.post.new.seat refl to c.in_default.ensures.ok
