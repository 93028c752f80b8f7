use Rattle.std.proofs.Common.{◌≡◌, ◌++◌, ℕ, List, [], Option, Err, Ok, refl, sym, ap, ◌∙◌, arith}
use Rattle.std.specs.Prelude.{codes}
use Rattle.std.proofs.lemmas.Result.{err_from_is_err_and}
use Rattle.sink.proofs.Sent.{appends_none, sends_from, sends_more, sends_less, sends_other, sends_same, sends_whole}
use Rattle.dot.specs.GraphDot.{region_of, arm_opens, opens, closes}
use Rattle.dot.proofs.Around.{opens_root, opens_none, opens_more, closes_root, closes_none, closes_more}
use Rattle.dot.proofs.graph_dot.+close_arms.Goals as goal

pub returns-in_default : goal.returns-in_default
returns-in_default g t c =
    let w0 : Option (List ℕ) = g.W.Write.contents c.args.writer.now in
    sends_same (Ok tt) w0 w0 ([]) _ (sym (closes_root c.args.depth c.args.block.now.1 c.args.region c.in_default.is))
    (sends_whole (Ok tt) tt w0 w0 ([]) refl (appends_none w0))

pub returns-in_default-checked_sub : goal.returns-in_default-checked_sub
returns-in_default-checked_sub g t c =
    let w0 : Option (List ℕ) = g.W.Write.contents c.args.writer.now in
    sends_same (Ok tt) w0 w0 ([]) _ (sym (closes_none c.args.depth c.args.block.now.1 c.args.region c.in-Arm.cond _ c.in-Arm.is
    (c.in_default-checked_sub.ensures))) (sends_whole (Ok tt) tt w0 w0 ([]) refl (appends_none w0))

pub close_arms-requires : goal.close_arms-requires
close_arms-requires g t c κs within = (let less = c.in-Some.ensures in omega (arith, less), (within.0, within.1))

pub returns-in_err-close_arms : goal.returns-in_err-close_arms
returns-in_err-close_arms g t c =
    let p = err_from_is_err_and c.from_residual.result c.from_residual.ensures.1 in
    let t1 : List ℕ = closes c.in-Some.around c.args.block.now.1 (region_of c.args.block.now.1 c.in-Arm.cond) in
    let t2 : List ℕ = codes "} " in
    let w0 : Option (List ℕ) = g.W.Write.contents c.args.writer.now in
    let w1 : Option (List ℕ) = g.W.Write.contents c.close_arms.new.writer in
    let sent = sends_same (Err c.in_err-close_arms.field-0.0) w0 w1 _ t1 (ap (closes c.in-Some.around c.args.block.now.1) c.region_of.ensures)
    c.in_err-close_arms.ensures in
    rw p.1 (sends_same (Err p.0) w0 w1 (t1 ++ t2) _ (sym (closes_more c.args.depth c.in-Some.around c.args.block.now.1 c.args.region c.in-Arm.cond _
    c.in-Arm.is (c.in-Some.ensures.0) (c.in-Some.ensures.1))) (sends_less p.0 w0 w1 t1 t2 (sends_other c.in_err-close_arms.field-0.0 p.0 w0 w1 t1 sent)))

pub returns : goal.returns
returns g t c =
    let t1 : List ℕ = closes c.in-Some.around c.args.block.now.1 (region_of c.args.block.now.1 c.in-Arm.cond) in
    let t2 : List ℕ = codes "} " in
    let w0 : Option (List ℕ) = g.W.Write.contents c.args.writer.now in
    let w1 : Option (List ℕ) = g.W.Write.contents c.close_arms.new.writer in
    let w2 : Option (List ℕ) = g.W.Write.contents c.send.new.writer in
    let sent = sends_same c.close_arms.result w0 w1 _ t1 (ap (closes c.in-Some.around c.args.block.now.1) c.region_of.ensures) c.close_arms.ensures in
    sends_same c.send.result w0 w2 (t1 ++ t2) _ (sym (closes_more c.args.depth c.in-Some.around c.args.block.now.1 c.args.region c.in-Arm.cond _
    c.in-Arm.is (c.in-Some.ensures.0) (c.in-Some.ensures.1)))
    (sends_more c.send.result w0 w1 w2 t1 t2 (sends_from c.close_arms.result w0 w1 t1 c.in_ok-close_arms.was sent) c.send.ensures)
