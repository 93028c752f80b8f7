use Rattle.std.proofs.lemmas.Result.{err_from_is_err_and}
use Rattle.driver.proofs.TextObjects.{refused_as_text}
use Rattle.driver.proofs.Truth.{is_watched}
use Rattle.commands.proofs.tracing.watch_text.Goals as goal

pub returns : goal.returns
returns g c =
    let k = c.in_ok-compiled.compiled in
    let w = c.in_ok-watched.watched in
    let e = c.in_ok-watched.ensures in
    is_watched c.args.order c.args.text.now k.checked k.object.bytes c.args.inputs.now c.args.config g.G.Gate.may_stop w.report w.moments.items
    c.in_ok-compiled.ensures e.shows e.turns e.moments

pub returns-in_err-watched : goal.returns-in_err-watched
returns-in_err-watched g c =
    let p = err_from_is_err_and c.from_residual-in_err-watched.result c.from_residual-in_err-watched.ensures.1 in
    let k = c.in_ok-compiled.compiled in
    rw (p.1, p.2) (refused_as_text c.args.text.now k.checked k.object.bytes c.args.inputs.now c.args.config c.in_ok-compiled.ensures
    c.in_err-watched.field-0.0 c.in_err-watched.ensures.shows)
