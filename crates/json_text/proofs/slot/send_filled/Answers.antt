use Rattle.std.proofs.Common.{ℕ, List, Option, refl, subst, sym}
use Rattle.std.proofs.lemmas.Result.{err_from_is_err_and}
use Rattle.json_text.specs.Json.{after_piece, filled, piece_text, pieces_text}
use Rattle.json_text.proofs.Steps.{Walked, ends, goes_on, stops}
use Rattle.json_text.proofs.Walk.{next_piece, no_piece}
use Rattle.json_text.proofs.slot.send_filled.Goals as goal

pub returns-in_err-send_piece : goal.returns-in_err-send_piece
returns-in_err-send_piece g c =
    let p = err_from_is_err_and c.from_residual.result c.from_residual.ensures.1 in
    let l = c.loop-piece in
    let piece : List ℕ = c.in-Some.piece.now in
    rw p.1 (stops c.in_err-send_piece.field-0.0 p.0 (filled c.args.template.now c.args.words.now) (pieces_text l.pieces l.left.now) (piece_text piece l.left.now)
    (pieces_text c.in-Some.rest (after_piece piece l.left.now)) _ _ _ (next_piece l.pieces c.in-Some.rest piece l.left.now c.in-Some.ensures) l.invariant
    c.in_err-send_piece.ensures)

pub loop-piece-preserved : goal.loop-piece-preserved
loop-piece-preserved g c =
    let l = c.loop-piece in
    let piece : List ℕ = c.in-Some.piece.now in
    let whole : List ℕ = filled c.args.template.now c.args.words.now in
    let w0 : Option (List ℕ) = g.W.Write.contents c.args.writer.now in
    let w2 : Option (List ℕ) = g.W.Write.contents c.send_piece.new.writer in
    subst (λ (w : List ℕ). Walked whole (pieces_text c.in-Some.rest w) w0 w2) (sym c.after_piece-left.ensures)
    (goes_on c.send_piece.result whole (pieces_text l.pieces l.left.now) (piece_text piece l.left.now) (pieces_text c.in-Some.rest (after_piece piece l.left.now)) w0 _ w2
    (next_piece l.pieces c.in-Some.rest piece l.left.now c.in-Some.ensures) c.in_ok-send_piece.was l.invariant c.send_piece.ensures)

pub returns : goal.returns
returns g c =
    let l = c.loop-piece in
    ends _ tt (filled c.args.template.now c.args.words.now) (pieces_text l.pieces l.left.now) _ _ refl (no_piece l.pieces l.left.now c.in_default.ensures) l.invariant
