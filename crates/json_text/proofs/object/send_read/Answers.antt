use Rattle.std.proofs.Common.{ap}
use Rattle.std.proofs.lemmas.Result.{err_from_is_err_and}
use Rattle.json_text.specs.Json.{filled, joint, template}
use Rattle.json_text.proofs.Steps.{after, stopped}
use Rattle.sink.proofs.Sent.{sends_same}
use Rattle.json_text.proofs.object.send_read.Goals as goal

pub returns-in_err-join : goal.returns-in_err-join
returns-in_err-join g c =
    let p = err_from_is_err_and c.from_residual.result c.from_residual.ensures.1 in
    rw p.1 (stopped c.in_err-join.field-0.0 p.0 _ _ (joint c.args.object.now c.args.form) (filled (template c.args.form) c.args.words.now) c.in_err-join.ensures)

pub returns : goal.returns
returns g c =
    after c.join.result _ _ _ _ (joint c.args.object.now c.args.form) (filled (template c.args.form) c.args.words.now) c.in_ok-join.was c.join.ensures ((sends_same _ _ _ (filled c.template.result.now c.args.words.now) (filled (template c.args.form) c.args.words.now) (ap (λ t. filled t c.args.words.now) c.template.ensures) c.send_filled.ensures))
