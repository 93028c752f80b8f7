use Rattle.std.proofs.lemmas.Result.{err_from_is_err_and}
use Rattle.lowered_text.specs.Parts.{IsMade}
use Rattle.programs.proofs.Refusals.{not_lowered, not_compiled}
use Rattle.programs.proofs.compiling.compile_named.Goals as goal

pub returns-in_err-graph : goal.returns-in_err-graph
returns-in_err-graph g c = λ text inputs good.
    let p = err_from_is_err_and c.from_residual.result c.from_residual.ensures.1 in
    rw p.1 (not_lowered text c.in_err-graph.field-0.0 p.0 p.2 (c.in_err-graph.ensures text inputs good))

pub returns-in_err-compile_good : goal.returns-in_err-compile_good
returns-in_err-compile_good g c = λ text inputs good.
    let made = c.in_ok-graph.field-0 in
    let m : IsMade text made.graph made.places.items = c.in_ok-graph.ensures text inputs good in
    let p = err_from_is_err_and c.from_residual-in_err-compile_good.result c.from_residual-in_err-compile_good.ensures.1 in
    rw p.1 (not_compiled text m.tree made.graph m.lowers c.in_err-compile_good.field-0.0 p.0 p.2 (c.in_err-compile_good.ensures m.lowers.well_formed))

pub returns : goal.returns
returns g c = λ text inputs good.
    let made = c.in_ok-graph.field-0 in
    let m : IsMade text made.graph made.places.items = c.in_ok-graph.ensures text inputs good in
    record { program = m.tree; graph = made.graph; lowers = m.lowers; compiled = c.in_ok-compile_good.ensures m.lowers.well_formed }
