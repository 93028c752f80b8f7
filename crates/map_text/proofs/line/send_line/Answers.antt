use Rattle.std.proofs.Common.{◌++◌, ℕ, List, Option, Err, option_map}
use Rattle.std.proofs.lemmas.Result.{err_from_is_err_and}
use Rattle.source_tokens.specs.Placing.{seen_at}
use Rattle.sink.proofs.Sent.{appends_then, sends_from, sends_more, sends_less, sends_other}
use Rattle.map_text.specs.MapText as MapText
use Rattle.map_text.proofs.line.send_line.Goals as goal

pub returns-in_err-send_head : goal.returns-in_err-send_head
returns-in_err-send_head g c =
    let p = err_from_is_err_and c.from_residual.result c.from_residual.ensures.1 in
    let t1 : List ℕ = MapText.head_text c.args.code c.args.instr c.args.name.now in
    let t2 : List ℕ = MapText.turns_text c.args.owner.turns in
    let t3 : List ℕ = MapText.part_text c.args.owner.part in
    let t4 : List ℕ = MapText.place_text (option_map seen_at c.args.place) in
    let w0 : Option (List ℕ) = g.W.Write.contents c.args.writer.now in
    let w1 : Option (List ℕ) = g.W.Write.contents c.send_head.new.writer in
    rw p.1 (sends_less p.0 w0 w1 ((t1 ++ t2) ++ t3) t4 (sends_less p.0 w0 w1 (t1 ++ t2) t3 (sends_less p.0 w0 w1 t1 t2 (sends_other c.in_err-send_head.field-0.0 p.0 w0 w1 t1 c.in_err-send_head.ensures))))

pub returns-in_err-send_turns : goal.returns-in_err-send_turns
returns-in_err-send_turns g c =
    let p = err_from_is_err_and c.from_residual-in_err-send_turns.result c.from_residual-in_err-send_turns.ensures.1 in
    let t1 : List ℕ = MapText.head_text c.args.code c.args.instr c.args.name.now in
    let t2 : List ℕ = MapText.turns_text c.args.owner.turns in
    let t3 : List ℕ = MapText.part_text c.args.owner.part in
    let t4 : List ℕ = MapText.place_text (option_map seen_at c.args.place) in
    let w0 : Option (List ℕ) = g.W.Write.contents c.args.writer.now in
    let w1 : Option (List ℕ) = g.W.Write.contents c.send_head.new.writer in
    let w2 : Option (List ℕ) = g.W.Write.contents c.send_turns.new.writer in
    rw p.1 (sends_less p.0 w0 w2 ((t1 ++ t2) ++ t3) t4 (sends_less p.0 w0 w2 (t1 ++ t2) t3 (sends_more (Err p.0) w0 w1 w2 t1 t2 (sends_from c.send_head.result w0 w1 t1 c.in_ok-send_head.was c.send_head.ensures) (sends_other c.in_err-send_turns.field-0.0 p.0 w1 w2 t2 c.in_err-send_turns.ensures))))

pub returns-in_err-send_part : goal.returns-in_err-send_part
returns-in_err-send_part g c =
    let p = err_from_is_err_and c.from_residual-in_err-send_part.result c.from_residual-in_err-send_part.ensures.1 in
    let t1 : List ℕ = MapText.head_text c.args.code c.args.instr c.args.name.now in
    let t2 : List ℕ = MapText.turns_text c.args.owner.turns in
    let t3 : List ℕ = MapText.part_text c.args.owner.part in
    let t4 : List ℕ = MapText.place_text (option_map seen_at c.args.place) in
    let w0 : Option (List ℕ) = g.W.Write.contents c.args.writer.now in
    let w1 : Option (List ℕ) = g.W.Write.contents c.send_head.new.writer in
    let w2 : Option (List ℕ) = g.W.Write.contents c.send_turns.new.writer in
    let w3 : Option (List ℕ) = g.W.Write.contents c.send_part.new.writer in
    rw p.1 (sends_less p.0 w0 w3 ((t1 ++ t2) ++ t3) t4 (sends_more (Err p.0) w0 w2 w3 (t1 ++ t2) t3 (appends_then w0 w1 w2 t1 t2 (sends_from c.send_head.result w0 w1 t1 c.in_ok-send_head.was c.send_head.ensures) (sends_from c.send_turns.result w1 w2 t2 c.in_ok-send_turns.was c.send_turns.ensures)) (sends_other c.in_err-send_part.field-0.0 p.0 w2 w3 t3 c.in_err-send_part.ensures)))

pub returns : goal.returns
returns g c =
    let t1 : List ℕ = MapText.head_text c.args.code c.args.instr c.args.name.now in
    let t2 : List ℕ = MapText.turns_text c.args.owner.turns in
    let t3 : List ℕ = MapText.part_text c.args.owner.part in
    let t4 : List ℕ = MapText.place_text (option_map seen_at c.args.place) in
    let w0 : Option (List ℕ) = g.W.Write.contents c.args.writer.now in
    let w1 : Option (List ℕ) = g.W.Write.contents c.send_head.new.writer in
    let w2 : Option (List ℕ) = g.W.Write.contents c.send_turns.new.writer in
    let w3 : Option (List ℕ) = g.W.Write.contents c.send_part.new.writer in
    let w4 : Option (List ℕ) = g.W.Write.contents c.send_place.new.writer in
    sends_more c.send_place.result w0 w3 w4 ((t1 ++ t2) ++ t3) t4 (appends_then w0 w2 w3 (t1 ++ t2) t3 (appends_then w0 w1 w2 t1 t2 (sends_from c.send_head.result w0 w1 t1 c.in_ok-send_head.was c.send_head.ensures) (sends_from c.send_turns.result w1 w2 t2 c.in_ok-send_turns.was c.send_turns.ensures)) (sends_from c.send_part.result w2 w3 t3 c.in_ok-send_part.was c.send_part.ensures)) c.send_place.ensures
