use Rattle.std.proofs.Common.{map, ap, sym, ◌∙◌}
use Rattle.oracle.specs.Acting.{gate_of}
use Rattle.oracle.specs.Rows.{rows_of, row_next}
use Rattle.oracle.specs.Pairing.{taken_in}
use Rattle.oracle.specs.Telling.{told}
use Rattle.oracle.proofs.RowRuns.{next_alone, next_free, next_defers}
use Rattle.oracle.proofs.state.next_act.Goals as goal

pub returns-in-Free : goal.returns-in-Free
returns-in-Free g c =
    let s = c.loop-token.state in
    let from = rows_of (map (λ v. v.items) s.waiting.items) in
    let to = rows_of (map (λ v. v.items) c.join_among.new.rows.items) in
    let xs = s.invocations in
    let cells = s.cells.items in
    let outputs = s.outputs.items in
    c.loop-token.invariant ∙ ap (λ ts. row_next c.args.checked.now xs cells outputs ts from s.deferred.items) c.in-Some.ensures.items
    ∙ next_free c.args.checked.now xs cells outputs c.in-Some.token c.pop_front.new.self.items s.deferred.items from to c.in_ok-act.field-0
    c.in-Some-2.act (λ a. taken_in c.join_among.new.spare.taken c.join_among.new.spare.values.items) told
    c.in-Some-2.is c.in_ok-act.ensures (ap (λ cells. gate_of cells (told c.in-Some-2.act)) (sym c.deref.ensures.value) ∙ sym c.ask.ensures ∙ c.in-Free.is)

pub loop-token-preserved-in-Continue-branch-3 : goal.loop-token-preserved-in-Continue-branch-3
loop-token-preserved-in-Continue-branch-3 g c =
    let s = c.loop-token.state in
    let from = rows_of (map (λ v. v.items) s.waiting.items) in
    let to = rows_of (map (λ v. v.items) c.join_among.new.rows.items) in
    let xs = s.invocations in
    let cells = s.cells.items in
    let outputs = s.outputs.items in
    c.loop-token.invariant ∙ ap (λ ts. row_next c.args.checked.now xs cells outputs ts from s.deferred.items) c.in-Some.ensures.items
    ∙ next_defers c.args.checked.now xs cells outputs c.in-Some.token c.pop_front.new.self.items s.deferred.items from to c.in_ok-act.field-0
    c.in-Some-2.act (λ a. taken_in c.join_among.new.spare.taken c.join_among.new.spare.values.items) told
    c.in-Some-2.is c.in_ok-act.ensures (ap (λ cells. gate_of cells (told c.in-Some-2.act)) (sym c.deref.ensures.value) ∙ sym c.ask.ensures ∙ c.in-Defers.is)
    ∙ ap (λ d. row_next c.args.checked.now xs cells outputs c.pop_front.new.self.items to d) (sym c.in_ok-push-in-Defers.ensures.items)

pub loop-token-preserved : goal.loop-token-preserved
loop-token-preserved g c =
    let s = c.loop-token.state in
    let from = rows_of (map (λ v. v.items) s.waiting.items) in
    let to = rows_of (map (λ v. v.items) c.join_among.new.rows.items) in
    let xs = s.invocations in
    let cells = s.cells.items in
    let outputs = s.outputs.items in
    c.loop-token.invariant ∙ ap (λ ts. row_next c.args.checked.now xs cells outputs ts from s.deferred.items) c.in-Some.ensures.items
    ∙ next_alone c.args.checked.now xs cells outputs c.in-Some.token c.pop_front.new.self.items s.deferred.items from to c.in_ok-act.field-0
    (λ a. taken_in c.join_among.new.spare.taken c.join_among.new.spare.values.items) told
    c.in_default-2.is c.in_ok-act.ensures
