use Rattle.std.proofs.Common.{◌≡◌, ◌∙◌, sym, ◌<◌, length, map, drop, arith}
use Rattle.std.proofs.lemmas.Grind.{common_steps}
use Rattle.std.proofs.lemmas.List.{nil_from_length}
use Rattle.element.specs.Holding.{held_of}
use Rattle.schedule.specs.State.{IsAt, state_of}
use Rattle.schedule.proofs.Places.{first_get}
use Rattle.schedule.proofs.Memory.{raw_at, held_at, lane_count, has_waiting, has_arriving, has_none}
use Rattle.schedule.proofs.elements.Elements.has_token.Goals as goal

pub returns-then-waiting-ne0-clause-yes : goal.returns-then-waiting-ne0-clause-yes
returns-then-waiting-ne0-clause-yes g c = λ yes h there.
    let items = c.args.self.now.lanes.items in
    let x = c.index.result.now in
    let count = lane_count items (drop c.args.self.now.arrived c.args.self.now.sent.items) c.args.self.now.shape.elements c.requires.well.sound.count in
    let low : c.args.element < length items = (let l = c.requires.element in omega arith) in
    let some : 0 < length x.held.queue = grind (arith, common_steps) in
    has_waiting items (drop c.args.self.now.arrived c.args.self.now.sent.items) c.args.element x h low c.index.ensures there some

pub returns-else-waiting-ne0-clause-yes : goal.returns-else-waiting-ne0-clause-yes
returns-else-waiting-ne0-clause-yes g c = λ yes h there.
    let m = c.args.self.now in
    let items = m.lanes.items in
    let ts = drop m.arrived m.sent.items in
    let x = c.index.result.now in
    let count = lane_count items ts m.shape.elements c.requires.well.sound.count in
    let low : c.args.element < length items = (let l = c.requires.element in omega arith) in
    let at = first_get (IsAt m.shape.elements) (map held_of items) c.args.element (held_of x)
    (raw_at (state_of g.C.Instructions.program g.C.Instructions.width m).setting items ts c.requires.well.sound.lanes)
    (held_at items c.args.element x low c.index.ensures) in
    let e = rw c.deref.ensures.value at c.has_token_for.ensures in
    has_arriving items ts m.shape.elements c.args.element x h low c.index.ensures at there (sym e ∙ yes)

pub returns-else-waiting-ne0-clause-no : goal.returns-else-waiting-ne0-clause-no
returns-else-waiting-ne0-clause-no g c = λ no h there.
    let m = c.args.self.now in
    let items = m.lanes.items in
    let ts = drop m.arrived m.sent.items in
    let x = c.index.result.now in
    let count = lane_count items ts m.shape.elements c.requires.well.sound.count in
    let low : c.args.element < length items = (let l = c.requires.element in omega arith) in
    let at = first_get (IsAt m.shape.elements) (map held_of items) c.args.element (held_of x)
    (raw_at (state_of g.C.Instructions.program g.C.Instructions.width m).setting items ts c.requires.well.sound.lanes)
    (held_at items c.args.element x low c.index.ensures) in
    let e = rw c.deref.ensures.value at c.has_token_for.ensures in
    let none : length x.held.queue ≡ 0 = grind (arith, common_steps) in
    has_none items ts m.shape.elements c.args.element x h low c.index.ensures at there (nil_from_length x.held.queue none) (sym e ∙ no)
