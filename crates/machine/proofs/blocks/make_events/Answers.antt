use Rattle.std.proofs.Common.{sym, ◌∙◌, ap, subst, ℕ, ◌-◌, false, List, length, Option, None, arith}
use Rattle.tags.specs.declared.token.Token.{Token}
use Rattle.semantics.specs.Program.{Program}
use Rattle.element.specs.Holding.{Holding, held_of}
use Rattle.schedule.specs.declared.halt.Halt.{Halt}
use Rattle.rounds.specs.Turns.{HaltsLane, IsWhole}
use Rattle.machine.specs.Blocks.{turn_of}
use Rattle.machine.specs.ByDepth.{HasNoReason}
use Rattle.schedule.specs.declared.take.Take.TheVariants.{Oldest}
use Rattle.schedule.specs.Setting.{Setting}
use Rattle.schedule.specs.State.{setting_in}
use Rattle.machine.proofs.Committing.{has_made, made_more, no_reason, same_element}
use Rattle.machine.proofs.blocks.make_events.Goals as goal

pub overflow_sub-events : goal.overflow_sub-events
overflow_sub-events g c =
    let run = c.requires.runs in
    let t = c.take_turn-halt.ensures.turns in
    let first = c.made-first.ensures in
    let last = c.made.ensures in
    let more = made_more {C = g.row.C.Denot} {A = g.row.A.Denot} {L = g.row.L.Denot} g.L.Log.KEEPS_EVENTS
    (setting_in g.C.Instructions.program g.C.Instructions.width c.args.shape.now) c.args.mesh.now run.0 c.args.runner.now run.1 c.requires.clear
    c.take_turn-halt.new.lane c.take_turn-halt.new.sent t.0 t.1 in
    omega arith

pub commit-requires : goal.commit-requires
commit-requires g c =
    let s : Setting = setting_in g.C.Instructions.program g.C.Instructions.width c.args.shape.now in
    let run = c.requires.runs in
    let t = c.take_turn-halt.ensures.turns in record {
      made = (
        run.0,
        held_of c.args.runner.now.lane,
        has_made {C = g.row.C.Denot} {A = g.row.A.Denot} {L = g.row.L.Denot} g.L.Log.KEEPS_EVENTS
            (setting_in g.C.Instructions.program g.C.Instructions.width c.args.shape.now) c.args.mesh.now run.0 c.args.runner.now run.1
            c.requires.clear c.take_turn-halt.new.lane c.take_turn-halt.new.sent c.take_turn-halt.new.log t.0 c.len-before.result
            (c.made.result - c.made-first.result) c.min-spent.result
            t.1 c.take_turn-halt.ensures.fixed (c.len-before.ensures
            ∙ ap (λ (q : List Token). length q) c.queue.ensures) (ap (λ (n : ℕ). n - c.made-first.result) c.made.ensures
            ∙ ap (λ (n : ℕ). c.take_turn-halt.new.lane.held.made - n) c.made-first.ensures) c.min-spent.ensures t.2 c.turn_of-turn.result
            (c.turn_of-turn.ensures.exact ∙ ap (λ (e : ℕ). turn_of s e) c.element.ensures) t.3,
      );
    }

pub returns-clause-keeps : goal.returns-clause-keeps
returns-clause-keeps g c = λ start run.
    let s : Setting = setting_in g.C.Instructions.program g.C.Instructions.width c.args.shape.now in
    let t = c.take_turn-halt.ensures.turns in
    c.in_ok-commit.ensures.keeps start (held_of c.args.runner.now.lane)
    (has_made {C = g.row.C.Denot} {A = g.row.A.Denot} {L = g.row.L.Denot} g.L.Log.KEEPS_EVENTS
    (setting_in g.C.Instructions.program g.C.Instructions.width c.args.shape.now) c.args.mesh.now start c.args.runner.now run c.requires.clear
    c.take_turn-halt.new.lane c.take_turn-halt.new.sent c.take_turn-halt.new.log t.0 c.len-before.result (c.made.result - c.made-first.result)
    c.min-spent.result t.1 c.take_turn-halt.ensures.fixed (c.len-before.ensures ∙ ap (λ (q : List Token). length q) c.queue.ensures)
    (ap (λ (n : ℕ). n - c.made-first.result) c.made.ensures ∙ ap (λ (n : ℕ). c.take_turn-halt.new.lane.held.made - n) c.made-first.ensures)
    c.min-spent.ensures t.2 c.turn_of-turn.result (c.turn_of-turn.ensures.exact ∙ ap (λ (e : ℕ). turn_of s e) c.element.ensures) t.3)

pub returns-clause-halts : goal.returns-clause-halts
returns-clause-halts g c =
    let s : Setting = setting_in g.C.Instructions.program g.C.Instructions.width c.args.shape.now in
    let runs = c.requires.runs.1.runs in
    let new : Holding = held_of c.take_turn-halt.new.lane in
    let why = c.take_turn-halt.result in
    subst (λ (h : Holding). HaltsLane s.program s.steps false h why) (sym c.in_ok-commit.ensures.lane)
    (subst (λ (p : Program). HaltsLane p s.steps false new why) runs.program
    (subst (λ (n : ℕ). HaltsLane c.args.runner.now.lane.program n false new why) runs.steps c.take_turn-halt.ensures.halts))

pub returns-clause-whole : goal.returns-clause-whole
returns-clause-whole g c = λ none.
    let s : Setting = setting_in g.C.Instructions.program g.C.Instructions.width c.args.shape.now in
    let old : Holding = held_of c.args.runner.now.lane in
    let new : Holding = held_of c.take_turn-halt.new.lane in
    let turn : ℕ = c.turn_of-turn.result in
    let whole : IsWhole turn old new None = subst (λ (why : Option Halt). IsWhole turn old new why) none c.take_turn-halt.ensures.whole in
    let t = c.take_turn-halt.ensures.turns in
    let same = ap (λ (e : ℕ). turn_of s e) (same_element {C = g.row.C.Denot} {A = g.row.A.Denot} {L = g.row.L.Denot} g.L.Log.KEEPS_EVENTS s
    c.args.mesh.now c.requires.runs.0 c.args.runner.now c.requires.runs.1 c.requires.clear c.take_turn-halt.new.lane c.take_turn-halt.new.sent t.0 t.1)
    ∙ sym (c.turn_of-turn.ensures.exact ∙ ap (λ (e : ℕ). turn_of s e) c.element.ensures) in
    subst (λ (h : Holding). HasNoReason Oldest s h) (sym c.in_ok-commit.ensures.lane) (no_reason s turn old new same whole)

pub returns-clause-few : goal.returns-clause-few
returns-clause-few g c =
    let s : Setting = setting_in g.C.Instructions.program g.C.Instructions.width c.args.shape.now in
    let run = c.requires.runs in
    let t = c.take_turn-halt.ensures.turns in
    let more = made_more {C = g.row.C.Denot} {A = g.row.A.Denot} {L = g.row.L.Denot} g.L.Log.KEEPS_EVENTS s c.args.mesh.now run.0 c.args.runner.now
    run.1 c.requires.clear c.take_turn-halt.new.lane c.take_turn-halt.new.sent t.0 t.1 in
    let few = t.3 in
    let turn = c.turn_of-turn.ensures.exact ∙ ap (λ (e : ℕ). turn_of s e) c.element.ensures in
    let lane = ap (λ (h : Holding). h.made) c.commit.ensures.lane in
    omega (arith, more, few, turn, lane)

pub returns-in_err-commit-clause-few : goal.returns-in_err-commit-clause-few
returns-in_err-commit-clause-few g c =
    let s : Setting = setting_in g.C.Instructions.program g.C.Instructions.width c.args.shape.now in
    let run = c.requires.runs in
    let t = c.take_turn-halt.ensures.turns in
    let more = made_more {C = g.row.C.Denot} {A = g.row.A.Denot} {L = g.row.L.Denot} g.L.Log.KEEPS_EVENTS s c.args.mesh.now run.0 c.args.runner.now
    run.1 c.requires.clear c.take_turn-halt.new.lane c.take_turn-halt.new.sent t.0 t.1 in
    let few = t.3 in
    let turn = c.turn_of-turn.ensures.exact ∙ ap (λ (e : ℕ). turn_of s e) c.element.ensures in
    let lane = ap (λ (h : Holding). h.made) c.commit.ensures.lane in
    omega (arith, more, few, turn, lane)
