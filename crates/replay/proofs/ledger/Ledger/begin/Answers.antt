use Rattle.std.proofs.Common.{◌∙◌, sym, ap, subst, ℕ, List}
use Rattle.std.specs.Prelude.{All}
use Rattle.tags.specs.declared.token.Token.{Token}
use Rattle.element.specs.Holding.{IsFor, fixed_of}
use Rattle.replay.specs.Entering.{start_tokens}
use Rattle.replay.proofs.Ledgers.{start_for, opened_records, opened_near}
use Rattle.replay.proofs.ledger.Ledger.begin.Goals as goal

pub returns-clause-begun : goal.returns-clause-begun
returns-clause-begun g c =
    let p = g.C.Instructions.program c.args.code.now in
    let blank = c.requires.blank in
    opened_records p c.args.self.now.lane c.args.inputs.now c.deref-2.result.now c.args.self.now.places.items c.place_all.new.places.items
    blank.lane.starts blank.places
    (c.deref-2.ensures.value ∙ c.in_ok-tokens.ensures ∙ ap (λ (n : ℕ). start_tokens n c.args.inputs.now) c.requires.extent.main)
    c.in_ok-place_all.ensures

pub returns-clause-ready : goal.returns-clause-ready
returns-clause-ready g c =
    let p = g.C.Instructions.program c.args.code.now in
    let l = c.args.self.now.lane in
    let blank = c.requires.blank in
    record {
      idle = blank.lane.queue;
      near = opened_near (IsFor (fixed_of l)) c.deref-2.result.now c.args.self.now.places.items c.place_all.new.places.items blank.places c.in_ok-place_all.ensures
          (subst (λ (ts : List Token). All (IsFor (fixed_of l)) ts) (sym (c.deref-2.ensures.value ∙ c.in_ok-tokens.ensures))
          (start_for p c.args.self.now.extent l blank.lane.whole c.requires.extent.some_frames c.args.self.now.extent.main c.args.inputs.now));
    }
