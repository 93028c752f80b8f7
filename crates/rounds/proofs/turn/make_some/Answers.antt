use Rattle.std.proofs.Common.{subst, arith}
use Rattle.element.specs.declared.lane.Stepped.{Stepped}
use Rattle.element.specs.Steps.{Steps}
use Rattle.rounds.proofs.Turning.{turns_of, took_more, took_same}
use Rattle.rounds.proofs.turn.make_some.Goals as goal

pub returns-in-Err-clause-turns : goal.returns-in-Err-clause-turns
returns-in-Err-clause-turns g c =
    let start = c.args.lane.now in
    let mid = c.makes_ration.new.self in
    let events = c.makes_ration.ensures.exact in
    turns_of start.program start.steps events.0 start.held mid.held c.args.sent.now.items c.makes_ration.new.sent.items events.1

pub returns-in-Ok-true-clause-turns : goal.returns-in-Ok-true-clause-turns
returns-in-Ok-true-clause-turns g c =
    let start = c.args.lane.now in
    let mid = c.makes_ration.new.self in
    let events = c.makes_ration.ensures.exact in
    turns_of start.program start.steps events.0 start.held mid.held c.args.sent.now.items c.makes_ration.new.sent.items events.1

pub returns-in-None-clause-turns : goal.returns-in-None-clause-turns
returns-in-None-clause-turns g c =
    let start = c.args.lane.now in
    let mid = c.makes_ration.new.self in
    let events = c.makes_ration.ensures.exact in
    took_same start c.args.sent.now.items mid.held c.makes_ration.new.sent.items c.step_otherwise.new.self.held c.step_otherwise.new.sent.items
    c.in-None.ensures.spent.2 (turns_of start.program start.steps events.0 start.held mid.held c.args.sent.now.items c.makes_ration.new.sent.items events.1)

pub returns-in-Some-Did-clause-turns : goal.returns-in-Some-Did-clause-turns
returns-in-Some-Did-clause-turns g c =
    let start = c.args.lane.now in
    let mid = c.makes_ration.new.self in
    let events = c.makes_ration.ensures.exact in
    let step = subst (λ (s : Stepped). Steps mid.program mid.held 0 c.makes_ration.new.sent.items s c.step_otherwise.new.self.held c.step_otherwise.new.sent.items)
    c.in-Some-Did.field-0-is c.in-Some-Did.ensures.exact in
    took_more start mid c.step_otherwise.new.self c.args.sent.now.items c.makes_ration.new.sent.items c.step_otherwise.new.sent.items
    c.makes_ration.ensures.fixed c.step_otherwise.ensures.fixed c.step_otherwise.ensures.sound c.in-Some-Did.ensures.allowed step
    (turns_of start.program start.steps events.0 start.held mid.held c.args.sent.now.items c.makes_ration.new.sent.items events.1)

pub returns-in-Some-Did-clause-some : goal.returns-in-Some-Did-clause-some
returns-in-Some-Did-clause-some g c = λ _.
    let start = c.args.lane.now in
    let mid = c.makes_ration.new.self in
    let events = c.makes_ration.ensures.exact in
    let took = turns_of start.program start.steps events.0 start.held mid.held c.args.sent.now.items c.makes_ration.new.sent.items events.1 in
    let step = subst (λ (s : Stepped). Steps mid.program mid.held 0 c.makes_ration.new.sent.items s c.step_otherwise.new.self.held c.step_otherwise.new.sent.items)
    c.in-Some-Did.field-0-is c.in-Some-Did.ensures.exact in
    omega (arith, took.2, step.count)

pub returns-in-Some-Idle-clause-turns : goal.returns-in-Some-Idle-clause-turns
returns-in-Some-Idle-clause-turns g c =
    let start = c.args.lane.now in
    let mid = c.makes_ration.new.self in
    let events = c.makes_ration.ensures.exact in
    let step = subst (λ (s : Stepped). Steps mid.program mid.held 0 c.makes_ration.new.sent.items s c.step_otherwise.new.self.held c.step_otherwise.new.sent.items)
    c.in-Some-Idle.field-0-is c.in-Some-Idle.ensures.exact in
    took_same start c.args.sent.now.items mid.held c.makes_ration.new.sent.items c.step_otherwise.new.self.held c.step_otherwise.new.sent.items step.1
    (turns_of start.program start.steps events.0 start.held mid.held c.args.sent.now.items c.makes_ration.new.sent.items events.1)

pub returns-in-Some-Clash-clause-turns : goal.returns-in-Some-Clash-clause-turns
returns-in-Some-Clash-clause-turns g c =
    let start = c.args.lane.now in
    let mid = c.makes_ration.new.self in
    let events = c.makes_ration.ensures.exact in
    let step = subst (λ (s : Stepped). Steps mid.program mid.held 0 c.makes_ration.new.sent.items s c.step_otherwise.new.self.held c.step_otherwise.new.sent.items)
    c.in-Some-Clash.field-0-is c.in-Some-Clash.ensures.exact in
    took_same start c.args.sent.now.items mid.held c.makes_ration.new.sent.items c.step_otherwise.new.self.held c.step_otherwise.new.sent.items step.1
    (turns_of start.program start.steps events.0 start.held mid.held c.args.sent.now.items c.makes_ration.new.sent.items events.1)

pub returns-in-Some-Stuck-clause-turns : goal.returns-in-Some-Stuck-clause-turns
returns-in-Some-Stuck-clause-turns g c =
    let start = c.args.lane.now in
    let mid = c.makes_ration.new.self in
    let events = c.makes_ration.ensures.exact in
    let step = subst (λ (s : Stepped). Steps mid.program mid.held 0 c.makes_ration.new.sent.items s c.step_otherwise.new.self.held c.step_otherwise.new.sent.items)
    c.in-Some-Stuck.field-0-is c.in-Some-Stuck.ensures.exact in
    took_same start c.args.sent.now.items mid.held c.makes_ration.new.sent.items c.step_otherwise.new.self.held c.step_otherwise.new.sent.items step.1
    (turns_of start.program start.steps events.0 start.held mid.held c.args.sent.now.items c.makes_ration.new.sent.items events.1)

pub returns-in-Some-Memory-clause-turns : goal.returns-in-Some-Memory-clause-turns
returns-in-Some-Memory-clause-turns g c =
    let start = c.args.lane.now in
    let mid = c.makes_ration.new.self in
    let events = c.makes_ration.ensures.exact in
    let step = subst (λ (s : Stepped). Steps mid.program mid.held 0 c.makes_ration.new.sent.items s c.step_otherwise.new.self.held c.step_otherwise.new.sent.items)
    c.in-Some-Memory.field-0-is c.in-Some-Memory.ensures.exact in
    took_same start c.args.sent.now.items mid.held c.makes_ration.new.sent.items c.step_otherwise.new.self.held c.step_otherwise.new.sent.items step.1
    (turns_of start.program start.steps events.0 start.held mid.held c.args.sent.now.items c.makes_ration.new.sent.items events.1)
