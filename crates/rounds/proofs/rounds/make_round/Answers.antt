use Rattle.std.proofs.Common.{sym, ◌∙◌, ap, ◌++◌, List}
use Rattle.std.proofs.lemmas.List.{append-nil}
use Rattle.tags.specs.declared.token.Token.{Token}
use Rattle.semantics.specs.Machine.{Events}
use Rattle.schedule.specs.State.{setting_in}
use Rattle.rounds.specs.Rounds.{tokens_sent}
use Rattle.rounds.proofs.Rounding.{made_round}
use Rattle.rounds.proofs.Closing.{few_turners}
use Rattle.rounds.proofs.rounds.make_round.Goals as goal

pub returns-in-Ok-clause-made : goal.returns-in-Ok-clause-made
returns-in-Ok-clause-made g c =
    let news = c.make_turns.new.turners in
    let first = c.gather_events.new.turners in
    let last = c.gather_tokens.new.turners in
    let before = c.args.setup.now.log.events.items in
    let after = c.gather_events.new.all.events.items in
    let t = c.make_turns.ensures in
    let e = c.gather_events.ensures in
    let s = c.gather_tokens.ensures in
    let none = c.in_ok-gather_events.ensures.cleared in
    made_round {C = g.row.C.Denot} {A = g.row.A.Denot} {L = g.row.L.Denot} c.args.way.take (setting_in g.C.Instructions.program g.C.Instructions.width
    c.args.setup.now.shape) c.ordinary_in-ordinary.result g.L.Log.KEEPS_EVENTS g.G.Gate.may_stop c.args.turners.now news last before after (c.gather_tokens.new.tokens.items
    ++ tokens_sent last) c.requires.between t.count c.ordinary_in-ordinary.ensures.exact t.each
    (s.lanes ∙ e.lanes) (s.fixed ∙ e.fixed) (s.halts ∙ e.halts)
    (s.tokens ∙ ap (λ (l : List Token). l ++ tokens_sent first) c.requires.tokens ∙ e.sent)
    (sym (append-nil after) ∙ ap (λ (l : Events). after ++ l) (sym none) ∙ e.events)
    (s.events ∙ none) (s.count ∙ e.count ∙ t.count)

pub returns-in-Err-clause-made : goal.returns-in-Err-clause-made
returns-in-Err-clause-made g c =
    let news = c.make_turns.new.turners in
    let first = c.gather_events.new.turners in
    let last = c.gather_tokens.new.turners in
    let before = c.args.setup.now.log.events.items in
    let after = c.gather_events.new.all.events.items in
    let t = c.make_turns.ensures in
    let e = c.gather_events.ensures in
    let s = c.gather_tokens.ensures in
    let none = c.in_ok-gather_events.ensures.cleared in
    made_round {C = g.row.C.Denot} {A = g.row.A.Denot} {L = g.row.L.Denot} c.args.way.take (setting_in g.C.Instructions.program g.C.Instructions.width
    c.args.setup.now.shape) c.ordinary_in-ordinary.result g.L.Log.KEEPS_EVENTS g.G.Gate.may_stop c.args.turners.now news last before after (c.gather_tokens.new.tokens.items
    ++ tokens_sent last) c.requires.between t.count c.ordinary_in-ordinary.ensures.exact t.each
    (s.lanes ∙ e.lanes) (s.fixed ∙ e.fixed) (s.halts ∙ e.halts)
    (s.tokens ∙ ap (λ (l : List Token). l ++ tokens_sent first) c.requires.tokens ∙ e.sent)
    (sym (append-nil after) ∙ ap (λ (l : Events). after ++ l) (sym none) ∙ e.events)
    (s.events ∙ none) (s.count ∙ e.count ∙ t.count)

pub ordinary_in-ordinary-requires-clause-few : goal.ordinary_in-ordinary-requires-clause-few
ordinary_in-ordinary-requires-clause-few g c =
    let most = few_turners {C = g.row.C.Denot} {A = g.row.A.Denot} {L = g.row.L.Denot} (setting_in g.C.Instructions.program g.C.Instructions.width
    c.args.setup.now.shape) c.args.turners.now c.requires.between in
    most
