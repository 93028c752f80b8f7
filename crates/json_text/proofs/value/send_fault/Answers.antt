use Rattle.std.proofs.Common.{◌++◌}
use Rattle.std.specs.Prelude.{codes}
use Rattle.std.proofs.lemmas.Result.{err_from_is_err_and}
use Rattle.json_text.specs.Json.{number_text, word_text}
use Rattle.json_text.proofs.Steps.{after, stopped}
use Rattle.json_text.proofs.value.send_fault.Goals as goal

pub returns-in_err-send : goal.returns-in_err-send
returns-in_err-send g c =
    let p = err_from_is_err_and c.from_residual.result c.from_residual.ensures.1 in
    rw p.1 (stopped c.in_err-send.field-0.0 p.0 _ _ (codes "{\"fault\":") (word_text c.args.kind.now ++ (codes ",\"block\":" ++ (number_text c.args.block.now ++ (codes ",\"node\":" ++ (number_text c.args.node.now ++ (codes "}")))))) c.in_err-send.ensures)

pub returns-in_err-send_word : goal.returns-in_err-send_word
returns-in_err-send_word g c =
    let p = err_from_is_err_and c.from_residual-in_err-send_word.result c.from_residual-in_err-send_word.ensures.1 in
    rw p.1 (after c.send.result _ _ _ _ (codes "{\"fault\":") (word_text c.args.kind.now ++ (codes ",\"block\":" ++ (number_text c.args.block.now ++ (codes ",\"node\":" ++ (number_text c.args.node.now ++ (codes "}")))))) c.in_ok-send.was c.send.ensures (stopped c.in_err-send_word.field-0.0 p.0 _ _ (word_text c.args.kind.now) (codes ",\"block\":" ++ (number_text c.args.block.now ++ (codes ",\"node\":" ++ (number_text c.args.node.now ++ (codes "}"))))) c.in_err-send_word.ensures))

pub returns-in_err-send-2 : goal.returns-in_err-send-2
returns-in_err-send-2 g c =
    let p = err_from_is_err_and c.from_residual-in_err-send-2.result c.from_residual-in_err-send-2.ensures.1 in
    rw p.1 (after c.send.result _ _ _ _ (codes "{\"fault\":") (word_text c.args.kind.now ++ (codes ",\"block\":" ++ (number_text c.args.block.now ++ (codes ",\"node\":" ++ (number_text c.args.node.now ++ (codes "}")))))) c.in_ok-send.was c.send.ensures (after c.send_word.result _ _ _ _ (word_text c.args.kind.now) (codes ",\"block\":" ++ (number_text c.args.block.now ++ (codes ",\"node\":" ++ (number_text c.args.node.now ++ (codes "}"))))) c.in_ok-send_word.was c.send_word.ensures (stopped c.in_err-send-2.field-0.0 p.0 _ _ (codes ",\"block\":") (number_text c.args.block.now ++ (codes ",\"node\":" ++ (number_text c.args.node.now ++ (codes "}")))) c.in_err-send-2.ensures)))

pub returns-in_err-send_number : goal.returns-in_err-send_number
returns-in_err-send_number g c =
    let p = err_from_is_err_and c.from_residual-in_err-send_number.result c.from_residual-in_err-send_number.ensures.1 in
    rw p.1 (after c.send.result _ _ _ _ (codes "{\"fault\":") (word_text c.args.kind.now ++ (codes ",\"block\":" ++ (number_text c.args.block.now ++ (codes ",\"node\":" ++ (number_text c.args.node.now ++ (codes "}")))))) c.in_ok-send.was c.send.ensures (after c.send_word.result _ _ _ _ (word_text c.args.kind.now) (codes ",\"block\":" ++ (number_text c.args.block.now ++ (codes ",\"node\":" ++ (number_text c.args.node.now ++ (codes "}"))))) c.in_ok-send_word.was c.send_word.ensures (after c.send-2.result _ _ _ _ (codes ",\"block\":") (number_text c.args.block.now ++ (codes ",\"node\":" ++ (number_text c.args.node.now ++ (codes "}")))) c.in_ok-send-2.was c.send-2.ensures (stopped c.in_err-send_number.field-0.0 p.0 _ _ (number_text c.args.block.now) (codes ",\"node\":" ++ (number_text c.args.node.now ++ (codes "}"))) c.in_err-send_number.ensures))))

pub returns-in_err-send-3 : goal.returns-in_err-send-3
returns-in_err-send-3 g c =
    let p = err_from_is_err_and c.from_residual-in_err-send-3.result c.from_residual-in_err-send-3.ensures.1 in
    rw p.1 (after c.send.result _ _ _ _ (codes "{\"fault\":") (word_text c.args.kind.now ++ (codes ",\"block\":" ++ (number_text c.args.block.now ++ (codes ",\"node\":" ++ (number_text c.args.node.now ++ (codes "}")))))) c.in_ok-send.was c.send.ensures (after c.send_word.result _ _ _ _ (word_text c.args.kind.now) (codes ",\"block\":" ++ (number_text c.args.block.now ++ (codes ",\"node\":" ++ (number_text c.args.node.now ++ (codes "}"))))) c.in_ok-send_word.was c.send_word.ensures (after c.send-2.result _ _ _ _ (codes ",\"block\":") (number_text c.args.block.now ++ (codes ",\"node\":" ++ (number_text c.args.node.now ++ (codes "}")))) c.in_ok-send-2.was c.send-2.ensures (after c.send_number.result _ _ _ _ (number_text c.args.block.now) (codes ",\"node\":" ++ (number_text c.args.node.now ++ (codes "}"))) c.in_ok-send_number.was c.send_number.ensures (stopped c.in_err-send-3.field-0.0 p.0 _ _ (codes ",\"node\":") (number_text c.args.node.now ++ (codes "}")) c.in_err-send-3.ensures)))))

pub returns-in_err-send_number-2 : goal.returns-in_err-send_number-2
returns-in_err-send_number-2 g c =
    let p = err_from_is_err_and c.from_residual-in_err-send_number-2.result c.from_residual-in_err-send_number-2.ensures.1 in
    rw p.1 (after c.send.result _ _ _ _ (codes "{\"fault\":") (word_text c.args.kind.now ++ (codes ",\"block\":" ++ (number_text c.args.block.now ++ (codes ",\"node\":" ++ (number_text c.args.node.now ++ (codes "}")))))) c.in_ok-send.was c.send.ensures (after c.send_word.result _ _ _ _ (word_text c.args.kind.now) (codes ",\"block\":" ++ (number_text c.args.block.now ++ (codes ",\"node\":" ++ (number_text c.args.node.now ++ (codes "}"))))) c.in_ok-send_word.was c.send_word.ensures (after c.send-2.result _ _ _ _ (codes ",\"block\":") (number_text c.args.block.now ++ (codes ",\"node\":" ++ (number_text c.args.node.now ++ (codes "}")))) c.in_ok-send-2.was c.send-2.ensures (after c.send_number.result _ _ _ _ (number_text c.args.block.now) (codes ",\"node\":" ++ (number_text c.args.node.now ++ (codes "}"))) c.in_ok-send_number.was c.send_number.ensures (after c.send-3.result _ _ _ _ (codes ",\"node\":") (number_text c.args.node.now ++ (codes "}")) c.in_ok-send-3.was c.send-3.ensures (stopped c.in_err-send_number-2.field-0.0 p.0 _ _ (number_text c.args.node.now) (codes "}") c.in_err-send_number-2.ensures))))))

pub returns : goal.returns
returns g c =
    after c.send.result _ _ _ _ (codes "{\"fault\":") (word_text c.args.kind.now ++ (codes ",\"block\":" ++ (number_text c.args.block.now ++ (codes ",\"node\":" ++ (number_text c.args.node.now ++ (codes "}")))))) c.in_ok-send.was c.send.ensures (after c.send_word.result _ _ _ _ (word_text c.args.kind.now) (codes ",\"block\":" ++ (number_text c.args.block.now ++ (codes ",\"node\":" ++ (number_text c.args.node.now ++ (codes "}"))))) c.in_ok-send_word.was c.send_word.ensures (after c.send-2.result _ _ _ _ (codes ",\"block\":") (number_text c.args.block.now ++ (codes ",\"node\":" ++ (number_text c.args.node.now ++ (codes "}")))) c.in_ok-send-2.was c.send-2.ensures (after c.send_number.result _ _ _ _ (number_text c.args.block.now) (codes ",\"node\":" ++ (number_text c.args.node.now ++ (codes "}"))) c.in_ok-send_number.was c.send_number.ensures (after c.send-3.result _ _ _ _ (codes ",\"node\":") (number_text c.args.node.now ++ (codes "}")) c.in_ok-send-3.was c.send-3.ensures (after c.send_number-2.result _ _ _ _ (number_text c.args.node.now) (codes "}") c.in_ok-send_number-2.was c.send_number-2.ensures (c.send-4.ensures))))))
