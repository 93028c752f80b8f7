use Rattle.std.proofs.Common.{◌++◌}
use Rattle.std.specs.Prelude.{codes}
use Rattle.std.proofs.lemmas.Result.{err_from_is_err_and}
use Rattle.json_text.specs.Json.{string}
use Rattle.json_text.proofs.Steps.{after, stopped}
use Rattle.json_text.proofs.object.send_whole.Goals as goal

pub returns-in_err-send : goal.returns-in_err-send
returns-in_err-send g c =
    let p = err_from_is_err_and c.from_residual.result c.from_residual.ensures.1 in
    rw p.1 (stopped c.in_err-send.field-0.0 p.0 _ _ (codes "{\"text\":") (string c.args.text.now ++ (codes "}\n")) c.in_err-send.ensures)

pub returns-in_err-send_string : goal.returns-in_err-send_string
returns-in_err-send_string g c =
    let p = err_from_is_err_and c.from_residual-in_err-send_string.result c.from_residual-in_err-send_string.ensures.1 in
    rw p.1 (after c.send.result _ _ _ _ (codes "{\"text\":") (string c.args.text.now ++ (codes "}\n")) c.in_ok-send.was c.send.ensures (stopped c.in_err-send_string.field-0.0 p.0 _ _ (string c.args.text.now) (codes "}\n") c.in_err-send_string.ensures))

pub returns : goal.returns
returns g c =
    after c.send.result _ _ _ _ (codes "{\"text\":") (string c.args.text.now ++ (codes "}\n")) c.in_ok-send.was c.send.ensures (after c.send_string.result _ _ _ _ (string c.args.text.now) (codes "}\n") c.in_ok-send_string.was c.send_string.ensures (c.send-2.ensures))
