use Rattle.std.proofs.Common.{◌≡◌, sym, ◌∙◌, subst, ◌<◌, List, [], length, arith}
use Rattle.ordering.specs.declared.log.Counts.{Counts}
use Rattle.ordering.specs.Pools.{amount}
use Rattle.ordering.proofs.Going.{goes_nowhere, goes_aside, goes_block, goes_then, no_tokens}
use Rattle.ordering.proofs.rest.take_block.Goals as goal

pub returns-in_default-clause-goes : goal.returns-in_default-clause-goes
returns-in_default-clause-goes g c n tokens blocks holds stands = goes_nowhere n c.args.element tokens blocks c.args.events.now.items
    (amount c.args.pool.now) c.args.rest.now holds stands

pub returns-then-not-is_empty-clause-goes : goal.returns-then-not-is_empty-clause-goes
returns-then-not-is_empty-clause-goes g c n tokens blocks holds stands =
    let counts = c.in-Some.ensures.cases.0 in
    let some : 0 < length c.args.rest.now.blocks.now = subst (λ (cs : List Counts). 0 < length cs) (sym counts) (omega arith) in
    goes_aside n c.args.element tokens blocks c.args.events.now.items (amount c.args.pool.now) (amount c.take_needed.new.pool) c.args.rest.now
    c.take_needed.result some holds stands c.take_needed.ensures.taken

pub returns-clause-goes : goal.returns-clause-goes
returns-clause-goes g c n tokens blocks holds stands =
    let old = c.args.rest.now in
    let mid = c.take_needed.result in
    let counts = c.in-Some.ensures.cases.0 in
    let some : 0 < length old.blocks.now = subst (λ (cs : List Counts). 0 < length cs) (sym counts) (omega arith) in
    let taken = c.take_needed.ensures.taken in
    let before = c.args.events.now.items in
    let first = goes_aside n c.args.element tokens blocks before (amount c.args.pool.now) (amount c.take_needed.new.pool) old mid some holds stands taken in
    let none : mid.needed.now ≡ [] = no_tokens mid.needed.now (sym c.is_empty.ensures ∙ c.if-not-is_empty.false) in
    let ended = c.in_ok-rest.ensures in
    let second = goes_block n c.args.element first.left first.later before c.end_block.new.events.items (amount c.take_needed.new.pool)
    (amount c.end_block.new.pool) mid c.in_ok-rest.field-0 c.in-Some.block.now c.in-Some.later.now
    (taken.5 ∙ counts) none first.holds first.stands ended.left ended.noted ended.made in
    goes_then n c.args.element tokens blocks before before c.end_block.new.events.items (amount c.take_needed.new.pool) (amount c.end_block.new.pool)
    mid c.in_ok-rest.field-0 first second
