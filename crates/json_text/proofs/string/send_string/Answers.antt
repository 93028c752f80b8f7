use Rattle.std.proofs.Common.{◌++◌}
use Rattle.std.specs.Prelude.{codes}
use Rattle.std.proofs.lemmas.Result.{err_from_is_err_and}
use Rattle.json_text.specs.Json.{escaped}
use Rattle.json_text.proofs.Steps.{after, stopped}
use Rattle.json_text.proofs.string.send_string.Goals as goal

pub returns-in_err-send : goal.returns-in_err-send
returns-in_err-send g c =
    let p = err_from_is_err_and c.from_residual.result c.from_residual.ensures.1 in
    rw p.1 (stopped c.in_err-send.field-0.0 p.0 _ _ (codes "\"") (escaped c.args.text.now ++ (codes "\"")) c.in_err-send.ensures)

pub returns-in_err-send_escaped : goal.returns-in_err-send_escaped
returns-in_err-send_escaped g c =
    let p = err_from_is_err_and c.from_residual-in_err-send_escaped.result c.from_residual-in_err-send_escaped.ensures.1 in
    rw p.1 (after c.send.result _ _ _ _ (codes "\"") (escaped c.args.text.now ++ (codes "\"")) c.in_ok-send.was c.send.ensures (stopped c.in_err-send_escaped.field-0.0 p.0 _ _ (escaped c.args.text.now) (codes "\"") c.in_err-send_escaped.ensures))

pub returns : goal.returns
returns g c =
    after c.send.result _ _ _ _ (codes "\"") (escaped c.args.text.now ++ (codes "\"")) c.in_ok-send.was c.send.ensures (after c.send_escaped.result _ _ _ _ (escaped c.args.text.now) (codes "\"") c.in_ok-send_escaped.was c.send_escaped.ensures (c.send-2.ensures))
