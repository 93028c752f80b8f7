use Rattle.std.proofs.Common.{◌++◌, length}
use Rattle.std.specs.Prelude.{codes}
use Rattle.std.proofs.lemmas.Result.{err_from_is_err_and}
use Rattle.json_text.specs.Json.{values_text}
use Rattle.json_text.proofs.Steps.{after, stopped}
use Rattle.json_text.proofs.row.send_row.Goals as goal

pub returns-in_err-send : goal.returns-in_err-send
returns-in_err-send g c =
    let p = err_from_is_err_and c.from_residual.result c.from_residual.ensures.1 in
    rw p.1 (stopped c.in_err-send.field-0.0 p.0 _ _ (codes "[") (values_text (length c.args.words.now) c.args.words.now ++ (codes "]")) c.in_err-send.ensures)

pub returns-in_err-send_values : goal.returns-in_err-send_values
returns-in_err-send_values g c =
    let p = err_from_is_err_and c.from_residual-in_err-send_values.result c.from_residual-in_err-send_values.ensures.1 in
    rw p.1 (after c.send.result _ _ _ _ (codes "[") (values_text (length c.args.words.now) c.args.words.now ++ (codes "]")) c.in_ok-send.was c.send.ensures (stopped c.in_err-send_values.field-0.0 p.0 _ _ (values_text (length c.args.words.now) c.args.words.now) (codes "]") c.in_err-send_values.ensures))

pub returns : goal.returns
returns g c =
    after c.send.result _ _ _ _ (codes "[") (values_text (length c.args.words.now) c.args.words.now ++ (codes "]")) c.in_ok-send.was c.send.ensures (after c.send_values.result _ _ _ _ (values_text (length c.args.words.now) c.args.words.now) (codes "]") c.in_ok-send_values.was c.send_values.ensures (c.send-2.ensures))
