use Rattle.std.proofs.Common.{refl, ◌∙◌, ap, Err, arith}
use Rattle.std.proofs.lemmas.Result.{err_from_is_err_and}
use Rattle.replay.proofs.Watching.{token_near, event_happens, some_token, moves, no_count, same_fault}
use Rattle.replay.proofs.state.State.next.Goals as goal

pub returns-in_err-did-clause-moves : goal.returns-in_err-did-clause-moves
returns-in_err-did-clause-moves g c z e m n frames stands ev =
    let p = g.C.Instructions.program c.args.code.now in
    let h = c.args.self.now in
    let does_as = c.in_err-did.ensures.does_as m.store n.store ev.made stands.holds stands.near_store (token_near p h z e c.args.token m n stands ev)
    (event_happens p z e c.args.token m n h.frames frames ev) in
    let from = err_from_is_err_and c.from_residual.result c.from_residual.ensures.1 in
    same_fault _ _ c.in_err-did.field-0.0 c.from_residual.result (from.1 ∙ ap Err from.2) does_as

pub returns-in_err-self-clause-moves : goal.returns-in_err-self-clause-moves
returns-in_err-self-clause-moves g c z e m n frames stands ev =
    let p = g.C.Instructions.program c.args.code.now in
    let h = c.args.self.now in
    let some = some_token p h z e c.args.token m n stands ev in
    let same = c.in_ok-did.ensures.tokens in
    let from = err_from_is_err_and c.from_residual-in_err-self.result c.from_residual-in_err-self.ensures.1 in
    no_count c.act.new.self.tokens c.in_ok-did.did.made _ c.in_err-self.field-0.0 c.from_residual-in_err-self.result (from.1 ∙ ap Err from.2)
    (omega (arith, some, same)) c.in_err-self.ensures

pub returns-clause-moves : goal.returns-clause-moves
returns-clause-moves g c z e m n frames stands ev =
    let p = g.C.Instructions.program c.args.code.now in
    let h = c.args.self.now in
    let done = c.in_ok-did.ensures.does_as m.store n.store ev.made stands.holds stands.near_store (token_near p h z e c.args.token m n stands ev)
    (event_happens p z e c.args.token m n h.frames frames ev) in
    let counted = c.in_ok-self.ensures in
    let same = c.in_ok-did.ensures.tokens in
    moves p h c.act.new.self _ z e c.args.token m n c.in_ok-did.did _ frames stands ev done c.in_ok-did.ensures.frames same
    (omega (arith, counted, same)) refl refl
