use Rattle.std.specs.Prelude.{codes}
use Rattle.std.proofs.lemmas.Result.{err_from_is_err_and}
use Rattle.graph_file.specs.Lines.{parts}
use Rattle.json_text.specs.Json.{lines_text, nothing_open}
use Rattle.json_text.proofs.Steps.{after, stopped}
use Rattle.json_text.proofs.object.send_object.Goals as goal

pub returns-in_err-send : goal.returns-in_err-send
returns-in_err-send g c =
    let p = err_from_is_err_and c.from_residual.result c.from_residual.ensures.1 in
    rw p.1 (stopped c.in_err-send.field-0.0 p.0 _ _ (codes "{") (lines_text nothing_open (parts 10 c.args.text.now)) c.in_err-send.ensures)

pub returns : goal.returns
returns g c =
    after c.send.result _ _ _ _ (codes "{") (lines_text nothing_open (parts 10 c.args.text.now)) c.in_ok-send.was c.send.ensures (c.send_lines.ensures)
