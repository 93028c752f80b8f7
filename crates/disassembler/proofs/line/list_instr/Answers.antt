use Rattle.std.proofs.Common.{◌++◌, ◌∷◌, [], ℕ, List, Option, Err}
use Rattle.std.specs.Prelude.{decimal, option_to_list}
use Rattle.std.proofs.lemmas.Result.{err_from_is_err_and}
use Rattle.semantics.specs.Text.{field}
use Rattle.semantics.specs.Rule.{slot_of}
use Rattle.object_view.specs.Reading.{shown}
use Rattle.disassembler.specs.Listing.{right_in, left_in, slot_text, dest_text, operand_text, origin_text}
use Rattle.semantics.specs.Opcodes.{op_word}
use Rattle.sink.proofs.Sent.{appends_then, sends_from, sends_more, sends_less, sends_other}
use Rattle.disassembler.proofs.line.list_instr.Goals as goal

pub returns-in_err-list_number : goal.returns-in_err-list_number
returns-in_err-list_number g c =
    let p = err_from_is_err_and c.from_residual.result c.from_residual.ensures.1 in
    let t1 : List ℕ = right_in 5 (decimal c.args.number) in
    let t2 : List ℕ = field (left_in 8 (op_word c.args.instr.now.op)) in
    let t3 : List ℕ = field (right_in 4 (slot_text (slot_of (shown c.args.instr.now) c.args.instr.now.op))) in
    let t4 : List ℕ = field (right_in 7 (dest_text (option_to_list c.args.instr.now.first))) in
    let t5 : List ℕ = field (right_in 7 (dest_text (option_to_list c.args.instr.now.second))) in
    let t6 : List ℕ = field (operand_text c.args.instr.now.op) in
    let t7 : List ℕ = origin_text c.args.instr.now.origin in
    let t8 : List ℕ = 10 ∷ [] in
    let w0 : Option (List ℕ) = g.W.Write.contents c.args.writer.now in
    let w1 : Option (List ℕ) = g.W.Write.contents c.list_number.new.writer in
    rw p.1 (sends_less p.0 w0 w1 ((((((t1 ++ t2) ++ t3) ++ t4) ++ t5) ++ t6) ++ t7) t8 (sends_less p.0 w0 w1 (((((t1 ++ t2) ++ t3) ++ t4) ++ t5)
    ++ t6) t7 (sends_less p.0 w0 w1 ((((t1 ++ t2) ++ t3) ++ t4) ++ t5) t6 (sends_less p.0 w0 w1 (((t1 ++ t2) ++ t3) ++ t4) t5
    (sends_less p.0 w0 w1 ((t1 ++ t2) ++ t3) t4
    (sends_less p.0 w0 w1 (t1 ++ t2) t3 (sends_less p.0 w0 w1 t1 t2 (sends_other c.in_err-list_number.field-0.0 p.0 w0 w1 t1
    c.in_err-list_number.ensures))))))))

pub returns-in_err-list_name : goal.returns-in_err-list_name
returns-in_err-list_name g c =
    let p = err_from_is_err_and c.from_residual-in_err-list_name.result c.from_residual-in_err-list_name.ensures.1 in
    let t1 : List ℕ = right_in 5 (decimal c.args.number) in
    let t2 : List ℕ = field (left_in 8 (op_word c.args.instr.now.op)) in
    let t3 : List ℕ = field (right_in 4 (slot_text (slot_of (shown c.args.instr.now) c.args.instr.now.op))) in
    let t4 : List ℕ = field (right_in 7 (dest_text (option_to_list c.args.instr.now.first))) in
    let t5 : List ℕ = field (right_in 7 (dest_text (option_to_list c.args.instr.now.second))) in
    let t6 : List ℕ = field (operand_text c.args.instr.now.op) in
    let t7 : List ℕ = origin_text c.args.instr.now.origin in
    let t8 : List ℕ = 10 ∷ [] in
    let w0 : Option (List ℕ) = g.W.Write.contents c.args.writer.now in
    let w1 : Option (List ℕ) = g.W.Write.contents c.list_number.new.writer in
    let w2 : Option (List ℕ) = g.W.Write.contents c.list_name.new.writer in
    rw p.1 (sends_less p.0 w0 w2 ((((((t1 ++ t2) ++ t3) ++ t4) ++ t5) ++ t6) ++ t7) t8 (sends_less p.0 w0 w2 (((((t1 ++ t2) ++ t3) ++ t4) ++ t5)
    ++ t6) t7 (sends_less p.0 w0 w2 ((((t1 ++ t2) ++ t3) ++ t4) ++ t5) t6 (sends_less p.0 w0 w2 (((t1 ++ t2) ++ t3) ++ t4) t5
    (sends_less p.0 w0 w2 ((t1 ++ t2) ++ t3) t4
    (sends_less p.0 w0 w2 (t1 ++ t2) t3 (sends_more (Err p.0) w0 w1 w2 t1 t2 (sends_from c.list_number.result w0 w1 t1 c.in_ok-list_number.was
    c.list_number.ensures) (sends_other c.in_err-list_name.field-0.0 p.0 w1 w2 t2 c.in_err-list_name.ensures))))))))

pub returns-in_err-list_slot : goal.returns-in_err-list_slot
returns-in_err-list_slot g c =
    let p = err_from_is_err_and c.from_residual-in_err-list_slot.result c.from_residual-in_err-list_slot.ensures.1 in
    let t1 : List ℕ = right_in 5 (decimal c.args.number) in
    let t2 : List ℕ = field (left_in 8 (op_word c.args.instr.now.op)) in
    let t3 : List ℕ = field (right_in 4 (slot_text (slot_of (shown c.args.instr.now) c.args.instr.now.op))) in
    let t4 : List ℕ = field (right_in 7 (dest_text (option_to_list c.args.instr.now.first))) in
    let t5 : List ℕ = field (right_in 7 (dest_text (option_to_list c.args.instr.now.second))) in
    let t6 : List ℕ = field (operand_text c.args.instr.now.op) in
    let t7 : List ℕ = origin_text c.args.instr.now.origin in
    let t8 : List ℕ = 10 ∷ [] in
    let w0 : Option (List ℕ) = g.W.Write.contents c.args.writer.now in
    let w1 : Option (List ℕ) = g.W.Write.contents c.list_number.new.writer in
    let w2 : Option (List ℕ) = g.W.Write.contents c.list_name.new.writer in
    let w3 : Option (List ℕ) = g.W.Write.contents c.list_slot.new.writer in
    rw p.1 (sends_less p.0 w0 w3 ((((((t1 ++ t2) ++ t3) ++ t4) ++ t5) ++ t6) ++ t7) t8 (sends_less p.0 w0 w3 (((((t1 ++ t2) ++ t3) ++ t4) ++ t5)
    ++ t6) t7 (sends_less p.0 w0 w3 ((((t1 ++ t2) ++ t3) ++ t4) ++ t5) t6 (sends_less p.0 w0 w3 (((t1 ++ t2) ++ t3) ++ t4) t5
    (sends_less p.0 w0 w3 ((t1 ++ t2) ++ t3) t4
    (sends_more (Err p.0) w0 w2 w3 (t1 ++ t2) t3
    (appends_then w0 w1 w2 t1 t2 (sends_from c.list_number.result w0 w1 t1 c.in_ok-list_number.was c.list_number.ensures)
    (sends_from c.list_name.result w1 w2 t2 c.in_ok-list_name.was c.list_name.ensures)) (sends_other c.in_err-list_slot.field-0.0 p.0 w2 w3 t3
    c.in_err-list_slot.ensures)))))))

pub returns-in_err-list_dest : goal.returns-in_err-list_dest
returns-in_err-list_dest g c =
    let p = err_from_is_err_and c.from_residual-in_err-list_dest.result c.from_residual-in_err-list_dest.ensures.1 in
    let t1 : List ℕ = right_in 5 (decimal c.args.number) in
    let t2 : List ℕ = field (left_in 8 (op_word c.args.instr.now.op)) in
    let t3 : List ℕ = field (right_in 4 (slot_text (slot_of (shown c.args.instr.now) c.args.instr.now.op))) in
    let t4 : List ℕ = field (right_in 7 (dest_text (option_to_list c.args.instr.now.first))) in
    let t5 : List ℕ = field (right_in 7 (dest_text (option_to_list c.args.instr.now.second))) in
    let t6 : List ℕ = field (operand_text c.args.instr.now.op) in
    let t7 : List ℕ = origin_text c.args.instr.now.origin in
    let t8 : List ℕ = 10 ∷ [] in
    let w0 : Option (List ℕ) = g.W.Write.contents c.args.writer.now in
    let w1 : Option (List ℕ) = g.W.Write.contents c.list_number.new.writer in
    let w2 : Option (List ℕ) = g.W.Write.contents c.list_name.new.writer in
    let w3 : Option (List ℕ) = g.W.Write.contents c.list_slot.new.writer in
    let w4 : Option (List ℕ) = g.W.Write.contents c.list_dest.new.writer in
    rw p.1 (sends_less p.0 w0 w4 ((((((t1 ++ t2) ++ t3) ++ t4) ++ t5) ++ t6) ++ t7) t8 (sends_less p.0 w0 w4 (((((t1 ++ t2) ++ t3) ++ t4) ++ t5)
    ++ t6) t7 (sends_less p.0 w0 w4 ((((t1 ++ t2) ++ t3) ++ t4) ++ t5) t6 (sends_less p.0 w0 w4 (((t1 ++ t2) ++ t3) ++ t4) t5
    (sends_more (Err p.0) w0 w3 w4 ((t1 ++ t2) ++ t3) t4
    (appends_then w0 w2 w3 (t1 ++ t2) t3 (appends_then w0 w1 w2 t1 t2 (sends_from c.list_number.result w0 w1 t1 c.in_ok-list_number.was
    c.list_number.ensures) (sends_from c.list_name.result w1 w2 t2 c.in_ok-list_name.was c.list_name.ensures))
    (sends_from c.list_slot.result w2 w3 t3 c.in_ok-list_slot.was c.list_slot.ensures)) (sends_other c.in_err-list_dest.field-0.0 p.0 w3 w4 t4
    c.in_err-list_dest.ensures))))))

pub returns-in_err-list_dest-2 : goal.returns-in_err-list_dest-2
returns-in_err-list_dest-2 g c =
    let p = err_from_is_err_and c.from_residual-in_err-list_dest-2.result c.from_residual-in_err-list_dest-2.ensures.1 in
    let t1 : List ℕ = right_in 5 (decimal c.args.number) in
    let t2 : List ℕ = field (left_in 8 (op_word c.args.instr.now.op)) in
    let t3 : List ℕ = field (right_in 4 (slot_text (slot_of (shown c.args.instr.now) c.args.instr.now.op))) in
    let t4 : List ℕ = field (right_in 7 (dest_text (option_to_list c.args.instr.now.first))) in
    let t5 : List ℕ = field (right_in 7 (dest_text (option_to_list c.args.instr.now.second))) in
    let t6 : List ℕ = field (operand_text c.args.instr.now.op) in
    let t7 : List ℕ = origin_text c.args.instr.now.origin in
    let t8 : List ℕ = 10 ∷ [] in
    let w0 : Option (List ℕ) = g.W.Write.contents c.args.writer.now in
    let w1 : Option (List ℕ) = g.W.Write.contents c.list_number.new.writer in
    let w2 : Option (List ℕ) = g.W.Write.contents c.list_name.new.writer in
    let w3 : Option (List ℕ) = g.W.Write.contents c.list_slot.new.writer in
    let w4 : Option (List ℕ) = g.W.Write.contents c.list_dest.new.writer in
    let w5 : Option (List ℕ) = g.W.Write.contents c.list_dest-2.new.writer in
    rw p.1 (sends_less p.0 w0 w5 ((((((t1 ++ t2) ++ t3) ++ t4) ++ t5) ++ t6) ++ t7) t8 (sends_less p.0 w0 w5 (((((t1 ++ t2) ++ t3) ++ t4) ++ t5)
    ++ t6) t7 (sends_less p.0 w0 w5 ((((t1 ++ t2) ++ t3) ++ t4) ++ t5) t6 (sends_more (Err p.0) w0 w4 w5 (((t1 ++ t2) ++ t3) ++ t4) t5
    (appends_then w0 w3 w4 ((t1 ++ t2) ++ t3) t4
    (appends_then w0 w2 w3 (t1 ++ t2) t3 (appends_then w0 w1 w2 t1 t2 (sends_from c.list_number.result w0 w1 t1 c.in_ok-list_number.was
    c.list_number.ensures) (sends_from c.list_name.result w1 w2 t2 c.in_ok-list_name.was c.list_name.ensures))
    (sends_from c.list_slot.result w2 w3 t3 c.in_ok-list_slot.was c.list_slot.ensures))
    (sends_from c.list_dest.result w3 w4 t4 c.in_ok-list_dest.was c.list_dest.ensures)) (sends_other c.in_err-list_dest-2.field-0.0 p.0 w4 w5 t5
    c.in_err-list_dest-2.ensures)))))

pub returns-in_err-list_operand : goal.returns-in_err-list_operand
returns-in_err-list_operand g c =
    let p = err_from_is_err_and c.from_residual-in_err-list_operand.result c.from_residual-in_err-list_operand.ensures.1 in
    let t1 : List ℕ = right_in 5 (decimal c.args.number) in
    let t2 : List ℕ = field (left_in 8 (op_word c.args.instr.now.op)) in
    let t3 : List ℕ = field (right_in 4 (slot_text (slot_of (shown c.args.instr.now) c.args.instr.now.op))) in
    let t4 : List ℕ = field (right_in 7 (dest_text (option_to_list c.args.instr.now.first))) in
    let t5 : List ℕ = field (right_in 7 (dest_text (option_to_list c.args.instr.now.second))) in
    let t6 : List ℕ = field (operand_text c.args.instr.now.op) in
    let t7 : List ℕ = origin_text c.args.instr.now.origin in
    let t8 : List ℕ = 10 ∷ [] in
    let w0 : Option (List ℕ) = g.W.Write.contents c.args.writer.now in
    let w1 : Option (List ℕ) = g.W.Write.contents c.list_number.new.writer in
    let w2 : Option (List ℕ) = g.W.Write.contents c.list_name.new.writer in
    let w3 : Option (List ℕ) = g.W.Write.contents c.list_slot.new.writer in
    let w4 : Option (List ℕ) = g.W.Write.contents c.list_dest.new.writer in
    let w5 : Option (List ℕ) = g.W.Write.contents c.list_dest-2.new.writer in
    let w6 : Option (List ℕ) = g.W.Write.contents c.list_operand.new.writer in
    rw p.1 (sends_less p.0 w0 w6 ((((((t1 ++ t2) ++ t3) ++ t4) ++ t5) ++ t6) ++ t7) t8 (sends_less p.0 w0 w6 (((((t1 ++ t2) ++ t3) ++ t4) ++ t5)
    ++ t6) t7 (sends_more (Err p.0) w0 w5 w6 ((((t1 ++ t2) ++ t3) ++ t4) ++ t5) t6 (appends_then w0 w4 w5 (((t1 ++ t2) ++ t3) ++ t4) t5
    (appends_then w0 w3 w4 ((t1 ++ t2) ++ t3) t4
    (appends_then w0 w2 w3 (t1 ++ t2) t3 (appends_then w0 w1 w2 t1 t2 (sends_from c.list_number.result w0 w1 t1 c.in_ok-list_number.was
    c.list_number.ensures) (sends_from c.list_name.result w1 w2 t2 c.in_ok-list_name.was c.list_name.ensures))
    (sends_from c.list_slot.result w2 w3 t3 c.in_ok-list_slot.was c.list_slot.ensures))
    (sends_from c.list_dest.result w3 w4 t4 c.in_ok-list_dest.was c.list_dest.ensures))
    (sends_from c.list_dest-2.result w4 w5 t5 c.in_ok-list_dest-2.was c.list_dest-2.ensures)) (sends_other c.in_err-list_operand.field-0.0 p.0 w5
    w6 t6 c.in_err-list_operand.ensures))))

pub returns-in_err-list_origin : goal.returns-in_err-list_origin
returns-in_err-list_origin g c =
    let p = err_from_is_err_and c.from_residual-in_err-list_origin.result c.from_residual-in_err-list_origin.ensures.1 in
    let t1 : List ℕ = right_in 5 (decimal c.args.number) in
    let t2 : List ℕ = field (left_in 8 (op_word c.args.instr.now.op)) in
    let t3 : List ℕ = field (right_in 4 (slot_text (slot_of (shown c.args.instr.now) c.args.instr.now.op))) in
    let t4 : List ℕ = field (right_in 7 (dest_text (option_to_list c.args.instr.now.first))) in
    let t5 : List ℕ = field (right_in 7 (dest_text (option_to_list c.args.instr.now.second))) in
    let t6 : List ℕ = field (operand_text c.args.instr.now.op) in
    let t7 : List ℕ = origin_text c.args.instr.now.origin in
    let t8 : List ℕ = 10 ∷ [] in
    let w0 : Option (List ℕ) = g.W.Write.contents c.args.writer.now in
    let w1 : Option (List ℕ) = g.W.Write.contents c.list_number.new.writer in
    let w2 : Option (List ℕ) = g.W.Write.contents c.list_name.new.writer in
    let w3 : Option (List ℕ) = g.W.Write.contents c.list_slot.new.writer in
    let w4 : Option (List ℕ) = g.W.Write.contents c.list_dest.new.writer in
    let w5 : Option (List ℕ) = g.W.Write.contents c.list_dest-2.new.writer in
    let w6 : Option (List ℕ) = g.W.Write.contents c.list_operand.new.writer in
    let w7 : Option (List ℕ) = g.W.Write.contents c.list_origin.new.writer in
    rw p.1 (sends_less p.0 w0 w7 ((((((t1 ++ t2) ++ t3) ++ t4) ++ t5) ++ t6) ++ t7) t8
    (sends_more (Err p.0) w0 w6 w7 (((((t1 ++ t2) ++ t3) ++ t4) ++ t5) ++ t6) t7 (appends_then w0 w5 w6 ((((t1 ++ t2) ++ t3) ++ t4) ++ t5) t6
    (appends_then w0 w4 w5 (((t1 ++ t2) ++ t3) ++ t4) t5
    (appends_then w0 w3 w4 ((t1 ++ t2) ++ t3) t4
    (appends_then w0 w2 w3 (t1 ++ t2) t3 (appends_then w0 w1 w2 t1 t2 (sends_from c.list_number.result w0 w1 t1 c.in_ok-list_number.was
    c.list_number.ensures) (sends_from c.list_name.result w1 w2 t2 c.in_ok-list_name.was c.list_name.ensures))
    (sends_from c.list_slot.result w2 w3 t3 c.in_ok-list_slot.was c.list_slot.ensures))
    (sends_from c.list_dest.result w3 w4 t4 c.in_ok-list_dest.was c.list_dest.ensures))
    (sends_from c.list_dest-2.result w4 w5 t5 c.in_ok-list_dest-2.was c.list_dest-2.ensures))
    (sends_from c.list_operand.result w5 w6 t6 c.in_ok-list_operand.was c.list_operand.ensures))
    (sends_other c.in_err-list_origin.field-0.0 p.0 w6 w7 t7 c.in_err-list_origin.ensures)))

pub returns : goal.returns
returns g c =
    let t1 : List ℕ = right_in 5 (decimal c.args.number) in
    let t2 : List ℕ = field (left_in 8 (op_word c.args.instr.now.op)) in
    let t3 : List ℕ = field (right_in 4 (slot_text (slot_of (shown c.args.instr.now) c.args.instr.now.op))) in
    let t4 : List ℕ = field (right_in 7 (dest_text (option_to_list c.args.instr.now.first))) in
    let t5 : List ℕ = field (right_in 7 (dest_text (option_to_list c.args.instr.now.second))) in
    let t6 : List ℕ = field (operand_text c.args.instr.now.op) in
    let t7 : List ℕ = origin_text c.args.instr.now.origin in
    let t8 : List ℕ = 10 ∷ [] in
    let w0 : Option (List ℕ) = g.W.Write.contents c.args.writer.now in
    let w1 : Option (List ℕ) = g.W.Write.contents c.list_number.new.writer in
    let w2 : Option (List ℕ) = g.W.Write.contents c.list_name.new.writer in
    let w3 : Option (List ℕ) = g.W.Write.contents c.list_slot.new.writer in
    let w4 : Option (List ℕ) = g.W.Write.contents c.list_dest.new.writer in
    let w5 : Option (List ℕ) = g.W.Write.contents c.list_dest-2.new.writer in
    let w6 : Option (List ℕ) = g.W.Write.contents c.list_operand.new.writer in
    let w7 : Option (List ℕ) = g.W.Write.contents c.list_origin.new.writer in
    let w8 : Option (List ℕ) = g.W.Write.contents c.send.new.writer in
    sends_more c.send.result w0 w7 w8 ((((((t1 ++ t2) ++ t3) ++ t4) ++ t5) ++ t6) ++ t7) t8 (appends_then w0 w6 w7 (((((t1 ++ t2) ++ t3) ++ t4) ++ t5)
    ++ t6) t7 (appends_then w0 w5 w6 ((((t1 ++ t2) ++ t3) ++ t4) ++ t5) t6 (appends_then w0 w4 w5 (((t1 ++ t2) ++ t3) ++ t4) t5
    (appends_then w0 w3 w4 ((t1 ++ t2) ++ t3) t4
    (appends_then w0 w2 w3 (t1 ++ t2) t3 (appends_then w0 w1 w2 t1 t2 (sends_from c.list_number.result w0 w1 t1 c.in_ok-list_number.was
    c.list_number.ensures) (sends_from c.list_name.result w1 w2 t2 c.in_ok-list_name.was c.list_name.ensures))
    (sends_from c.list_slot.result w2 w3 t3 c.in_ok-list_slot.was c.list_slot.ensures))
    (sends_from c.list_dest.result w3 w4 t4 c.in_ok-list_dest.was c.list_dest.ensures))
    (sends_from c.list_dest-2.result w4 w5 t5 c.in_ok-list_dest-2.was c.list_dest-2.ensures))
    (sends_from c.list_operand.result w5 w6 t6 c.in_ok-list_operand.was c.list_operand.ensures))
    (sends_from c.list_origin.result w6 w7 t7 c.in_ok-list_origin.was c.list_origin.ensures)) c.send.ensures
