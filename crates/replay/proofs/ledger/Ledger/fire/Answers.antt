use Rattle.std.proofs.Common.{◌∙◌, sym, subst, List}
use Rattle.std.specs.Prelude.{All}
use Rattle.std.proofs.lemmas.Result.{err_from_is_err_and}
use Rattle.tags.specs.declared.token.Token.{Token}
use Rattle.element.specs.Holding.{IsFor, fixed_of}
use Rattle.replay.specs.Entering.{IsExcluded, IsFirstExcluded}
use Rattle.replay.proofs.Ledgers.{more_sound, held_for, has_one, takes_one, excludes_one, same_fixed}
use Rattle.replay.proofs.Fitting.{passed_on}
use Rattle.replay.proofs.ledger.Ledger.fire.Goals as goal

pub receive-requires : goal.receive-requires
receive-requires g c = subst (λ (t : Token). IsFor (fixed_of c.args.self.now.lane) t) (sym c.pack.ensures) c.requires.near

pub step-requires-clause-some : goal.step-requires-clause-some
step-requires-clause-some g c =
    has_one c.args.self.now.lane c.receive.new.self c.args.token c.pack.result c.requires.idle c.pack.ensures c.in_ok-receive.ensures.ok

pub step-requires-clause-sound : goal.step-requires-clause-sound
step-requires-clause-sound g c =
    more_sound c.args.self.now.lane c.pack.result c.requires.sound
    (subst (λ (t : Token). IsFor (fixed_of c.args.self.now.lane) t) (sym c.pack.ensures) c.requires.near) c.receive.new.self c.in_ok-receive.ensures.ok

pub returns-clause-did : goal.returns-clause-did
returns-clause-did g c =
    let did = c.in_ok-step.ensures.did in
    takes_one c.args.self.now.lane c.receive.new.self c.args.token c.pack.result c.requires.idle c.pack.ensures c.in_ok-receive.ensures.ok
    c.step.new.self.lane c.clear_queue.new.self c.in_ok-made.made.items did.0 did.1 c.in_ok-made.ensures c.clear_queue.ensures

pub returns-clause-near : goal.returns-clause-near
returns-clause-near g c =
    let l = c.args.self.now.lane in
    subst (λ (ts : List Token). All (IsFor (fixed_of l)) ts) (sym c.in_ok-made.ensures)
    (held_for c.step.new.self.lane (fixed_of l) c.step.ensures.sound (c.step.ensures.fixed
    ∙ same_fixed l c.receive.new.self c.args.token c.pack.result c.requires.idle c.pack.ensures c.in_ok-receive.ensures.ok))

pub returns-in_err-step-clause-excluded : goal.returns-in_err-step-clause-excluded
returns-in_err-step-clause-excluded g c =
    let l = c.args.self.now.lane in
    let k = c.receive.new.self in
    let from = err_from_is_err_and c.from_residual-in_err-step.result c.from_residual-in_err-step.ensures.1 in
    passed_on (IsFirstExcluded k) (IsExcluded l c.args.token) c.from_residual-in_err-step.result from.0 c.in_err-step.field-0.0 from.1 from.2
    (excludes_one l k c.args.token c.pack.result c.requires.idle c.pack.ensures c.in_ok-receive.ensures.ok) c.in_err-step.ensures.excluded
