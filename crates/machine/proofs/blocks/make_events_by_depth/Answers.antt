use Rattle.std.proofs.Common.{◌≡◌, sym, ◌∙◌, ap, subst, ℕ, ◌-◌, false, List, length, Option, None, arith}
use Rattle.tags.specs.declared.token.Token.{Token}
use Rattle.semantics.specs.Program.{Program}
use Rattle.element.specs.Holding.{Holding, held_of}
use Rattle.schedule.specs.declared.halt.Halt.{Halt}
use Rattle.schedule.specs.declared.take.Take.TheVariants.{Depth}
use Rattle.schedule.specs.Setting.{Setting}
use Rattle.schedule.specs.State.{setting_in}
use Rattle.rounds.specs.ByDepth.{IsWholeByDepth, HaltsTaking}
use Rattle.machine.specs.Blocks.{turn_of}
use Rattle.machine.specs.ByDepth.{HasNoReason, IsNext}
use Rattle.machine.proofs.Committing.{has_made_by_depth, made_by, no_reason_by_depth, halts_by_depth}
use Rattle.machine.proofs.blocks.make_events_by_depth.Goals as goal

pub overflow_sub-events : goal.overflow_sub-events
overflow_sub-events g c =
    let s : Setting = setting_in g.C.Instructions.program g.C.Instructions.width c.args.shape.now in
    let run = c.requires.runs in
    let turned = c.take_turn_by_depth-turned in
    let t = turned.ensures.turns in
    let first = c.made-first.ensures in
    let last = c.made.ensures in
    let more = (made_by {C = g.row.C.Denot} {A = g.row.A.Denot} {L = g.row.L.Denot} g.L.Log.KEEPS_EVENTS s c.args.mesh.now run.0 c.args.runner.now run.1
    c.requires.clear turned.new.lane turned.new.sent t.0 c.turn_of-turn.result c.args.ordinary turned.result.halt turned.result.spent t.1).0 in
    omega arith

pub commit-requires : goal.commit-requires
commit-requires g c =
    let s : Setting = setting_in g.C.Instructions.program g.C.Instructions.width c.args.shape.now in
    let run = c.requires.runs in
    let turned = c.take_turn_by_depth-turned in
    let t = turned.ensures.turns in record {
      made = (
        run.0,
        held_of c.args.runner.now.lane,
        has_made_by_depth {C = g.row.C.Denot} {A = g.row.A.Denot} {L = g.row.L.Denot} g.L.Log.KEEPS_EVENTS s c.args.mesh.now run.0 c.args.runner.now
            run.1 c.requires.clear turned.new.lane turned.new.sent turned.new.log turned.new.order t.0 c.args.ordinary turned.result.halt
            c.len-before.result (c.made.result - c.made-first.result) turned.result.spent c.turn_of-turn.result t.1 turned.ensures.fixed
            (c.len-before.ensures ∙ ap (λ (q : List Token). length q) c.queue.ensures)
            (ap (λ (n : ℕ). n - c.made-first.result) c.made.ensures ∙ ap (λ (n : ℕ). turned.new.lane.held.made - n) c.made-first.ensures) t.2
            (c.turn_of-turn.ensures.exact ∙ ap (λ (e : ℕ). turn_of s e) c.element.ensures) t.3,
      );
    }

pub returns-clause-keeps : goal.returns-clause-keeps
returns-clause-keeps g c = λ start run.
    let s : Setting = setting_in g.C.Instructions.program g.C.Instructions.width c.args.shape.now in
    let turned = c.take_turn_by_depth-turned in
    let t = turned.ensures.turns in
    c.in_ok-commit.ensures.keeps start (held_of c.args.runner.now.lane)
    (has_made_by_depth {C = g.row.C.Denot} {A = g.row.A.Denot} {L = g.row.L.Denot} g.L.Log.KEEPS_EVENTS s c.args.mesh.now start c.args.runner.now
    run c.requires.clear turned.new.lane turned.new.sent turned.new.log turned.new.order t.0 c.args.ordinary turned.result.halt
    c.len-before.result (c.made.result - c.made-first.result) turned.result.spent c.turn_of-turn.result t.1 turned.ensures.fixed
    (c.len-before.ensures ∙ ap (λ (q : List Token). length q) c.queue.ensures)
    (ap (λ (n : ℕ). n - c.made-first.result) c.made.ensures ∙ ap (λ (n : ℕ). turned.new.lane.held.made - n) c.made-first.ensures) t.2
    (c.turn_of-turn.ensures.exact ∙ ap (λ (e : ℕ). turn_of s e) c.element.ensures) t.3)

pub returns-clause-halts : goal.returns-clause-halts
returns-clause-halts g c =
    let s : Setting = setting_in g.C.Instructions.program g.C.Instructions.width c.args.shape.now in
    let run = c.requires.runs in
    let turned = c.take_turn_by_depth-turned in
    let t = turned.ensures.turns in
    let new : Holding = held_of turned.new.lane in
    let same = (made_by {C = g.row.C.Denot} {A = g.row.A.Denot} {L = g.row.L.Denot} g.L.Log.KEEPS_EVENTS s c.args.mesh.now run.0 c.args.runner.now run.1
    c.requires.clear turned.new.lane turned.new.sent t.0 c.turn_of-turn.result c.args.ordinary turned.result.halt turned.result.spent t.1).1 in
    let old = c.args.runner.now.lane in
    let halts = halts_by_depth old.program old.steps c.turn_of-turn.result c.args.ordinary (held_of old) c.args.runner.now.sent.items t.0 new
    turned.new.sent.items turned.result.halt (same ∙ c.requires.first) t.1.turns in
    subst (λ (h : Holding). HaltsTaking IsNext s.program s.steps false h turned.result.halt) (sym c.in_ok-commit.ensures.lane)
    (subst (λ (p : Program). HaltsTaking IsNext p s.steps false new turned.result.halt) run.1.runs.program
    (subst (λ (n : ℕ). HaltsTaking IsNext old.program n false new turned.result.halt) run.1.runs.steps halts))

pub returns-clause-whole : goal.returns-clause-whole
returns-clause-whole g c = λ none.
    let s : Setting = setting_in g.C.Instructions.program g.C.Instructions.width c.args.shape.now in
    let run = c.requires.runs in
    let turned = c.take_turn_by_depth-turned in
    let t = turned.ensures.turns in
    let old : Holding = held_of c.args.runner.now.lane in
    let new : Holding = held_of turned.new.lane in
    let turn : ℕ = c.turn_of-turn.result in
    let whole : IsWholeByDepth turn old new None = subst (λ (why : Option Halt). IsWholeByDepth turn old new why) none turned.ensures.whole in
    let same = (made_by {C = g.row.C.Denot} {A = g.row.A.Denot} {L = g.row.L.Denot} g.L.Log.KEEPS_EVENTS s c.args.mesh.now run.0 c.args.runner.now run.1
    c.requires.clear turned.new.lane turned.new.sent t.0 c.turn_of-turn.result c.args.ordinary turned.result.halt turned.result.spent t.1).1 in
    let long = ap (λ (e : ℕ). turn_of s e) same ∙ sym (c.turn_of-turn.ensures.exact ∙ ap (λ (e : ℕ). turn_of s e) c.element.ensures) in
    subst (λ (h : Holding). HasNoReason Depth s h) (sym c.in_ok-commit.ensures.lane) (no_reason_by_depth s turn old new (same ∙ c.requires.first) long whole)

pub returns-clause-few : goal.returns-clause-few
returns-clause-few g c =
    let s : Setting = setting_in g.C.Instructions.program g.C.Instructions.width c.args.shape.now in
    let run = c.requires.runs in
    let turned = c.take_turn_by_depth-turned in
    let t = turned.ensures.turns in
    let more = (made_by {C = g.row.C.Denot} {A = g.row.A.Denot} {L = g.row.L.Denot} g.L.Log.KEEPS_EVENTS s c.args.mesh.now run.0 c.args.runner.now run.1
    c.requires.clear turned.new.lane turned.new.sent t.0 c.turn_of-turn.result c.args.ordinary turned.result.halt turned.result.spent t.1).0 in
    let few = t.3 in
    let turn = c.turn_of-turn.ensures.exact ∙ ap (λ (e : ℕ). turn_of s e) c.element.ensures in
    let lane = ap (λ (h : Holding). h.made) c.commit.ensures.lane in
    omega (arith, more, few, turn, lane)

pub returns-in_err-commit-clause-few : goal.returns-in_err-commit-clause-few
returns-in_err-commit-clause-few g c =
    let s : Setting = setting_in g.C.Instructions.program g.C.Instructions.width c.args.shape.now in
    let run = c.requires.runs in
    let turned = c.take_turn_by_depth-turned in
    let t = turned.ensures.turns in
    let more = (made_by {C = g.row.C.Denot} {A = g.row.A.Denot} {L = g.row.L.Denot} g.L.Log.KEEPS_EVENTS s c.args.mesh.now run.0 c.args.runner.now run.1
    c.requires.clear turned.new.lane turned.new.sent t.0 c.turn_of-turn.result c.args.ordinary turned.result.halt turned.result.spent t.1).0 in
    let few = t.3 in
    let turn = c.turn_of-turn.ensures.exact ∙ ap (λ (e : ℕ). turn_of s e) c.element.ensures in
    let lane = ap (λ (h : Holding). h.made) c.commit.ensures.lane in
    omega (arith, more, few, turn, lane)
