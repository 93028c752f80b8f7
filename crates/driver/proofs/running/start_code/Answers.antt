use Rattle.std.proofs.lemmas.Result.{err_from_is_err_and}
use Rattle.driver.proofs.ObjectRuns.{object_of, only_of}
use Rattle.driver.proofs.TextObjects.{object_refused}
use Rattle.driver.proofs.running.start_code.Goals as goal

pub returns : goal.returns
returns g c =
    let code = c.args.code.now in
    let o = c.object.result.now in
    let e = c.bytes-bytes.ensures in
    record {
      version = code.version;
      code = code.code;
      object = object_of c.bytes-bytes.result.now o code e.same c.object.ensures e.object;
      only = only_of c.bytes-bytes.result.now o code e.same c.object.ensures e.only;
      width = _;
      opens = c.in_ok-machine.ensures;
    }

pub returns-in_err-machine : goal.returns-in_err-machine
returns-in_err-machine g c =
    let p = err_from_is_err_and c.from_residual.result c.from_residual.ensures.1 in
    let code = c.args.code.now in
    let o = c.object.result.now in
    let e = c.bytes-bytes.ensures in
    rw (p.1, p.2)
    (object_refused code.bytes c.args.inputs.now c.args.config code.version code.code (object_of c.bytes-bytes.result.now o code e.same
    c.object.ensures e.object)
    (only_of c.bytes-bytes.result.now o code e.same c.object.ensures e.only) c.in_err-machine.field-0.0 c.in_err-machine.ensures)
