use Rattle.std.proofs.Common.{◌∙◌, sym, ap, subst, List, ◌<◌, length, inr, arith}
use Rattle.tags.specs.declared.token.Token.{Token}
use Rattle.element.specs.Holding.{Holding, held_of}
use Rattle.schedule.specs.State.{state_of}
use Rattle.element.specs.Requests.{held_back}
use Rattle.schedule.specs.Turns.{AreFew, first_queue}
use Rattle.schedule.proofs.Memory.{lane_there, none_arriving}
use Rattle.schedule.proofs.Turning.{first_is, choice_oldest, choice_request, choice_other, choice_none}
use Rattle.schedule.proofs.elements.Elements.choose.Goals as goal

pub returns-then-held-eq0-clause-some : goal.returns-then-held-eq0-clause-some
returns-then-held-eq0-clause-some g c =
    let m = c.args.self.now in
    let s = state_of g.C.Instructions.program g.C.Instructions.width m in
    let x = c.index.result.now in
    let there = lane_there g.C.Instructions.program g.C.Instructions.width m 0 x c.requires.well c.requires.well.sound.setting.some c.requires.sent c.requires.arrived c.index.ensures in
    let q = first_is s.lanes (held_of x) there ∙ sym c.queue-queue.ensures in
    choice_oldest s c.queue-queue.result.now.items c.requests_before-held.result q c.requests_before-held.ensures.exact c.if-held-eq0.true

pub are_few-requires-clause-held : goal.are_few-requires-clause-held
are_few-requires-clause-held g c =
    let m = c.args.self.now in
    let s = state_of g.C.Instructions.program g.C.Instructions.width m in
    let x = c.index.result.now in
    let there = lane_there g.C.Instructions.program g.C.Instructions.width m 0 x c.requires.well c.requires.well.sound.setting.some c.requires.sent c.requires.arrived c.index.ensures in
    let q = first_is s.lanes (held_of x) there ∙ sym c.queue-queue.ensures in
    c.requests_before-held.ensures.exact
    ∙ ap (λ (ts : List Token). held_back ts) (sym q ∙ ap (λ (l : List Holding). first_queue l) (none_arriving m.lanes.items m.sent.items m.arrived c.requires.sent c.requires.arrived))

pub returns-then-are_few-clause-some : goal.returns-then-are_few-clause-some
returns-then-are_few-clause-some g c =
    let m = c.args.self.now in
    let s = state_of g.C.Instructions.program g.C.Instructions.width m in
    let x = c.index.result.now in
    let there = lane_there g.C.Instructions.program g.C.Instructions.width m 0 x c.requires.well c.requires.well.sound.setting.some c.requires.sent c.requires.arrived c.index.ensures in
    let q = first_is s.lanes (held_of x) there ∙ sym c.queue-queue.ensures in
    let few = subst (λ (l : List Holding). AreFew s.setting l) (sym (none_arriving m.lanes.items m.sent.items m.arrived c.requires.sent c.requires.arrived))
    (c.are_few.ensures.yes c.if-are_few.true) in
    inr (choice_request s c.queue-queue.result.now.items c.requests_before-held.result c.best_of.result q c.requests_before-held.ensures.exact c.best_of.ensures few)

pub returns-then-held-len-clause-none : goal.returns-then-held-len-clause-none
returns-then-held-len-clause-none g c =
    let m = c.args.self.now in
    let s = state_of g.C.Instructions.program g.C.Instructions.width m in
    let x = c.index.result.now in
    let there = lane_there g.C.Instructions.program g.C.Instructions.width m 0 x c.requires.well c.requires.well.sound.setting.some c.requires.sent c.requires.arrived c.index.ensures in
    let q = first_is s.lanes (held_of x) there ∙ sym c.queue-queue.ensures in
    let many = subst (λ (l : List Holding). AreFew s.setting l → ⊥) (sym (none_arriving m.lanes.items m.sent.items m.arrived c.requires.sent c.requires.arrived))
    (c.are_few.ensures.no c.if-are_few.false) in
    choice_none s c.queue-queue.result.now.items c.requests_before-held.result q c.requests_before-held.ensures.exact c.if-held-eq0.false
    (c.if-held-len.true ∙ c.len.ensures) many

pub returns-clause-some : goal.returns-clause-some
returns-clause-some g c =
    let m = c.args.self.now in
    let s = state_of g.C.Instructions.program g.C.Instructions.width m in
    let x = c.index.result.now in
    let there = lane_there g.C.Instructions.program g.C.Instructions.width m 0 x c.requires.well c.requires.well.sound.setting.some c.requires.sent c.requires.arrived c.index.ensures in
    let q = first_is s.lanes (held_of x) there ∙ sym c.queue-queue.ensures in
    let many = subst (λ (l : List Holding). AreFew s.setting l → ⊥) (sym (none_arriving m.lanes.items m.sent.items m.arrived c.requires.sent c.requires.arrived))
    (c.are_few.ensures.no c.if-are_few.false) in
    let within = c.requests_before-held.ensures.within in
    let other = c.if-held-len.false in
    let long = c.len.ensures in
    let low : c.requests_before-held.result < length c.queue-queue.result.now.items = omega arith in
    inr (choice_other s c.queue-queue.result.now.items c.requests_before-held.result q c.requests_before-held.ensures.exact low many)
