use Rattle.std.proofs.Common.{ap}
use Rattle.std.proofs.lemmas.Result.{err_from_is_err_and}
use Rattle.json_text.specs.Json.{piece_rest, piece_slot, slot_text}
use Rattle.json_text.proofs.Steps.{after, stopped}
use Rattle.sink.proofs.Sent.{sends_same}
use Rattle.json_text.proofs.slot.send_piece.Goals as goal

pub returns-in_err-send_slot : goal.returns-in_err-send_slot
returns-in_err-send_slot g c =
    let p = err_from_is_err_and c.from_residual.result c.from_residual.ensures.1 in
    rw p.1 (stopped c.in_err-send_slot.field-0.0 p.0 _ _ (slot_text (piece_slot c.args.piece.now) c.args.words.now) (piece_rest c.args.piece.now) (sends_same _ _ _ (slot_text c.piece_slot.result c.args.words.now) (slot_text (piece_slot c.args.piece.now) c.args.words.now) (ap (λ s. slot_text s c.args.words.now) c.piece_slot.ensures) c.in_err-send_slot.ensures))

pub returns : goal.returns
returns g c =
    after c.send_slot.result _ _ _ _ (slot_text (piece_slot c.args.piece.now) c.args.words.now) (piece_rest c.args.piece.now) c.in_ok-send_slot.was (sends_same _ _ _ (slot_text c.piece_slot.result c.args.words.now) (slot_text (piece_slot c.args.piece.now) c.args.words.now) (ap (λ s. slot_text s c.args.words.now) c.piece_slot.ensures) c.send_slot.ensures) ((sends_same _ _ _ (c.piece_rest.result.now) (piece_rest c.args.piece.now) (c.piece_rest.ensures) c.send.ensures))
