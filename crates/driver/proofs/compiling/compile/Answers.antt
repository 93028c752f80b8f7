use Rattle.std.proofs.lemmas.Result.{err_from_is_err_and}
use Rattle.driver.proofs.TextObjects.{too_large}
use Rattle.driver.proofs.compiling.compile.Goals as goal

pub returns : goal.returns
returns g c = record { good = c.in_ok-checked.ensures; object = c.in_ok-object.ensures }

pub returns-in_err-object : goal.returns-in_err-object
returns-in_err-object g c =
    let p = err_from_is_err_and c.from_residual-in_err-object.result c.from_residual-in_err-object.ensures.1 in
    rw (p.1, p.2) (too_large c.args.text.now c.in_ok-checked.checked c.in_ok-checked.ensures c.in_err-object.field-0.0 c.in_err-object.ensures)
