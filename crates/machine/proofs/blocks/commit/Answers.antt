use Rattle.std.proofs.Common.{◌≡◌, ◌∙◌, ap, List, ◌≤◌, ◌<◌, ◌+◌, ◌-◌, ◌^◌, length, arith}
use Rattle.tags.specs.declared.token.Token.{Token}
use Rattle.schedule.specs.State.{setting_in}
use Rattle.machine.proofs.Committing.{some_gone, within, behind, asked, addressed, has, committed, nothing_made}
use Rattle.machine.proofs.blocks.commit.Goals as goal

pub overflow_sub-left : goal.overflow_sub-left
overflow_sub-left g c =
    let h = c.requires.made in
    let w = within {C = g.row.C.Denot} {A = g.row.A.Denot} {L = g.row.L.Denot} g.L.Log.KEEPS_EVENTS
    (setting_in g.C.Instructions.program g.C.Instructions.width c.args.shape.now) c.args.mesh.now h.0 h.1 c.args.before c.args.events c.args.spent
    c.args.runner.now h.2 in
    omega (arith, w)

pub overflow_sub-left-2 : goal.overflow_sub-left-2
overflow_sub-left-2 g c =
    let h = c.requires.made in
    let b = behind {C = g.row.C.Denot} {A = g.row.A.Denot} {L = g.row.L.Denot} g.L.Log.KEEPS_EVENTS
    (setting_in g.C.Instructions.program g.C.Instructions.width c.args.shape.now) c.args.mesh.now h.0 h.1 c.args.before c.args.events c.args.spent
    c.args.runner.now h.2 in
    let l = c.len.ensures ∙ ap (λ (q : List Token). length q) c.queue.ensures in omega (arith, b, l)

pub commit_counts-requires-clause-some : goal.commit_counts-requires-clause-some
commit_counts-requires-clause-some g c =
    let h = c.requires.made in
    let f = c.if-events-eq0.false in
    let some : 0 < c.args.events = omega (arith, f) in
    some_gone {C = g.row.C.Denot} {A = g.row.A.Denot} {L = g.row.L.Denot} g.L.Log.KEEPS_EVENTS
    (setting_in g.C.Instructions.program g.C.Instructions.width c.args.shape.now) c.args.mesh.now h.0 h.1 c.args.before c.args.events c.args.spent
    c.args.runner.now h.2 some

pub commit_counts-requires-clause-asked : goal.commit_counts-requires-clause-asked
commit_counts-requires-clause-asked g c =
    let h = c.requires.made in
    let made : c.len.result - (c.args.before - c.args.spent) + c.len-sent.result
    ≡ (length c.args.runner.now.lane.held.queue - (c.args.before - c.args.spent)) + length c.args.runner.now.sent.items =
    (let l = c.len.ensures ∙ ap (λ (q : List Token). length q) c.queue.ensures in let k = c.len-sent.ensures in omega (arith, l, k)) in
    asked {C = g.row.C.Denot} {A = g.row.A.Denot} {L = g.row.L.Denot} g.L.Log.KEEPS_EVENTS (setting_in g.C.Instructions.program g.C.Instructions.width
    c.args.shape.now) c.args.mesh.now h.0 h.1 c.args.before c.args.events c.args.spent c.args.runner.now h.2
    (c.len.result - (c.args.before - c.args.spent) + c.len-sent.result) made

pub commit_counts-requires-clause-address : goal.commit_counts-requires-clause-address
commit_counts-requires-clause-address g c =
    let h = c.requires.made in
    let made : c.len.result - (c.args.before - c.args.spent) + c.len-sent.result
    ≡ (length c.args.runner.now.lane.held.queue - (c.args.before - c.args.spent)) + length c.args.runner.now.sent.items =
    (let l = c.len.ensures ∙ ap (λ (q : List Token). length q) c.queue.ensures in let k = c.len-sent.ensures in omega (arith, l, k)) in
    addressed {C = g.row.C.Denot} {A = g.row.A.Denot} {L = g.row.L.Denot} g.L.Log.KEEPS_EVENTS
    (setting_in g.C.Instructions.program g.C.Instructions.width c.args.shape.now) c.args.mesh.now h.0 h.1 c.args.before c.args.events c.args.spent
    c.args.runner.now h.2 (c.len.result - (c.args.before - c.args.spent) + c.len-sent.result) made

pub commit_counts-requires-clause-held : goal.commit_counts-requires-clause-held
commit_counts-requires-clause-held g c =
    let h = c.requires.made in
    let made : c.len.result - (c.args.before - c.args.spent) + c.len-sent.result
    ≡ (length c.args.runner.now.lane.held.queue - (c.args.before - c.args.spent)) + length c.args.runner.now.sent.items =
    (let l = c.len.ensures ∙ ap (λ (q : List Token). length q) c.queue.ensures in let k = c.len-sent.ensures in omega (arith, l, k)) in
    has {C = g.row.C.Denot} {A = g.row.A.Denot} {L = g.row.L.Denot} g.L.Log.KEEPS_EVENTS (setting_in g.C.Instructions.program g.C.Instructions.width
    c.args.shape.now) c.args.mesh.now h.0 h.1 c.args.before c.args.events c.args.spent c.args.runner.now h.2
    (c.len.result - (c.args.before - c.args.spent) + c.len-sent.result) made

pub returns-then-events-eq0-clause-keeps : goal.returns-then-events-eq0-clause-keeps
returns-then-events-eq0-clause-keeps g c = λ start old h. nothing_made {C = g.row.C.Denot} {A = g.row.A.Denot} {L = g.row.L.Denot}
    g.L.Log.KEEPS_EVENTS (setting_in g.C.Instructions.program g.C.Instructions.width c.args.shape.now) c.args.mesh.now start old c.args.before
    c.args.events c.args.spent c.args.runner.now h c.if-events-eq0.true

pub returns-in-Ok-clause-keeps : goal.returns-in-Ok-clause-keeps
returns-in-Ok-clause-keeps g c = λ start old h.
    let made : c.len.result - (c.args.before - c.args.spent) + c.len-sent.result
    ≡ (length c.args.runner.now.lane.held.queue - (c.args.before - c.args.spent)) + length c.args.runner.now.sent.items =
    (let l = c.len.ensures ∙ ap (λ (q : List Token). length q) c.queue.ensures in let k = c.len-sent.ensures in omega (arith, l, k)) in
    let room : c.args.runner.now.created + (c.len.result - (c.args.before - c.args.spent) + c.len-sent.result) ≤ 2 ^ 40 =
    (let one = c.if-sent-room.false in let two = c.if-left-room.false in let few = h.tidy.few in omega (arith, one, two, few)) in
    committed {C = g.row.C.Denot} {A = g.row.A.Denot} {L = g.row.L.Denot} g.L.Log.KEEPS_EVENTS
    (setting_in g.C.Instructions.program g.C.Instructions.width c.args.shape.now) c.args.mesh.now start old c.args.before c.args.events c.args.spent
    c.args.runner.now h (c.len.result - (c.args.before - c.args.spent) + c.len-sent.result) made
    c.commit_counts.new.runner c.note_block.new.runner c.commit_counts.ensures.others c.commit_counts.ensures.commits room c.in-Ok.ensures.notes
