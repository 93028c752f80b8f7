use Rattle.std.proofs.Common.{ap, sym, ◌∙◌}
use Rattle.oracle.specs.Running.{join_of}
use Rattle.oracle.specs.Pairing.{taken_in}
use Rattle.oracle.specs.Telling.{told}
use Rattle.oracle.proofs.RowLists.{row_here}
use Rattle.oracle.proofs.RowRuns.{among}
use Rattle.oracle.proofs.state.join_among.Goals as goal

pub join-requires-clause-never_fails : goal.join-requires-clause-never_fails
join-requires-clause-never_fails g c =
    let at = c.args.token.now.context in
    let here = ap (λ r. r at) (sym c.in_ok-reach.ensures.same) ∙ row_here (λ v. v.items) c.reach.new.rows.items at c.index_mut.result.now
    c.in_ok-reach.ensures.there
    ∙ ap (λ v. v.items) (sym c.index_mut.ensures.value) in
    λ e. c.requires.never_fails (ap (λ r. join_of c.args.checked.now c.args.invocations.now r c.args.token.now) here ∙ e)

pub returns : goal.returns
returns g c =
    among c.args.checked.now c.args.invocations.now c.args.token.now c.join.result c.args.rows.now.items c.reach.new.rows.items c.index_mut.result.now
    c.join.new.waiting (λ v. v.items) (λ a. taken_in c.join.new.spare.taken c.join.new.spare.values.items) told
    c.in_ok-reach.ensures.same c.in_ok-reach.ensures.there c.index_mut.ensures.value c.join.ensures
