use Rattle.std.proofs.Common.{◌<◌, length, arith}
use Rattle.lemmas.proofs.SliceGet.{get_some}
use Rattle.schedule.specs.State.{state_of}
use Rattle.schedule.proofs.Playing.{tokens_some, tokens_none}
use Rattle.schedule.proofs.elements.Elements.has_tokens.Goals as goal

pub returns-then-has_token-clause-yes : goal.returns-then-has_token-clause-yes
returns-then-has_token-clause-yes g c = λ _.
    let s = state_of g.C.Instructions.program g.C.Instructions.width c.args.self.now in
    let low : c.loop-element.element < length s.lanes = (let n = c.requires.well.sound.count in let l = c.loop-element-test.true in omega arith) in
    let lane = get_some s.lanes c.loop-element.element low in
    tokens_some s.lanes c.loop-element.element lane.0 lane.1 (c.has_token.ensures.yes c.if-has_token.true lane.0 lane.1)

pub returns-clause-no : goal.returns-clause-no
returns-clause-no g c = λ _.
    let s = state_of g.C.Instructions.program g.C.Instructions.width c.args.self.now in
    let n = c.requires.well.sound.count in
    let past = c.loop-element-test.false in
    tokens_none s.lanes (λ i h low e. c.loop-element.invariant i h (omega arith) e)
