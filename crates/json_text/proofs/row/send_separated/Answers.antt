use Rattle.std.proofs.Common.{ap, ◌∙◌}
use Rattle.std.proofs.lemmas.Result.{err_from_is_err_and}
use Rattle.json_text.specs.Json.{after_value, first_value, separator}
use Rattle.json_text.proofs.Steps.{after, stopped}
use Rattle.sink.proofs.Sent.{sends_same}
use Rattle.json_text.proofs.row.send_separated.Goals as goal

pub returns-in_err-send_first : goal.returns-in_err-send_first
returns-in_err-send_first g c =
    let p = err_from_is_err_and c.from_residual.result c.from_residual.ensures.1 in
    rw p.1 (stopped c.in_err-send_first.field-0.0 p.0 _ _ (first_value c.args.words.now) (separator (after_value c.args.words.now)) c.in_err-send_first.ensures)

pub returns : goal.returns
returns g c =
    after c.send_first.result _ _ _ _ (first_value c.args.words.now) (separator (after_value c.args.words.now)) c.in_ok-send_first.was c.send_first.ensures ((sends_same _ _ _ (c.separator.result.now) (separator (after_value c.args.words.now)) (c.separator.ensures ∙ ap separator c.after_value.ensures) c.send.ensures))
