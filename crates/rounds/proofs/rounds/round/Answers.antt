use Rattle.std.proofs.Common.{◌≡◌, sym, ◌∙◌, ap, subst, ℕ, ◌++◌, [], List}
use Rattle.std.proofs.lemmas.List.{append-nil}
use Rattle.tags.specs.declared.token.Token.{Token}
use Rattle.schedule.specs.State.{setting_in}
use Rattle.schedule.specs.Setting.{Setting}
use Rattle.schedule.specs.State.{AllFrom, IsAt, RunsAs, delivered}
use Rattle.schedule.proofs.Staying.{near_for, near_arriving}
use Rattle.schedule.proofs.Stepping.{bounds_in}
use Rattle.std.specs.Prelude.{All}
use Rattle.element.specs.Near.{IsNearToken}
use Rattle.element.specs.Holding.{Fixed}
use Rattle.rounds.specs.declared.turn.Turner.{Turner}
use Rattle.rounds.specs.Rounds.{lanes_held, lanes_fixed, halts_in, tokens_sent}
use Rattle.rounds.specs.Counted.{IsWhy}
use Rattle.rounds.proofs.Closing.{at_all, closed_round, refused_round, refused_delivering}
use Rattle.rounds.proofs.rounds.round.Goals as goal

pub deliver_all-requires-clause-at : goal.deliver_all-requires-clause-at
deliver_all-requires-clause-at g c =
    let s : Setting = setting_in g.C.Instructions.program g.C.Instructions.width c.args.setup.now.shape in
    let made = c.in_ok-all.ensures.made in
    let new = c.make_whole_round.new.turners.items in
    subst (λ (n : ℕ). AllFrom (IsAt n) 0 (lanes_held new)) (sym (ap (λ (x : Setting). x.elements) c.make_whole_round.ensures.setting))
    (at_all {C = g.row.C.Denot} {A = g.row.A.Denot} {L = g.row.L.Denot} c.args.way.take s g.L.Log.KEEPS_EVENTS g.G.Gate.may_stop c.args.turners.now.items new
    c.args.setup.now.log.events.items c.make_whole_round.new.setup.log.events.items (c.make_whole_round.new.tokens.items ++ tokens_sent new) made)

pub returns-then-not-all-clause-rounds : goal.returns-then-not-all-clause-rounds
returns-then-not-all-clause-rounds g c =
    let s : Setting = setting_in g.C.Instructions.program g.C.Instructions.width c.args.setup.now.shape in
    let new = c.make_whole_round.new.turners.items in
    refused_round {C = g.row.C.Denot} {A = g.row.A.Denot} {L = g.row.L.Denot} c.args.way.take s g.L.Log.KEEPS_EVENTS g.G.Gate.may_stop
    c.args.turners.now.items new c.args.setup.now.log.events.items c.make_whole_round.new.setup.log.events.items
    (c.make_whole_round.new.tokens.items ++ tokens_sent new) c.in_ok-all.ensures.made

pub returns-in-Ok-clause-rounds : goal.returns-in-Ok-clause-rounds
returns-in-Ok-clause-rounds g c =
    let s : Setting = setting_in g.C.Instructions.program g.C.Instructions.width c.args.setup.now.shape in
    let made = c.in_ok-all.ensures.made in
    let old = c.args.turners.now.items in
    let new = c.make_whole_round.new.turners.items in
    let last = c.deliver_all.new.turners.items in
    let tokens = c.make_whole_round.new.tokens.items in
    let h = c.deliver_all.ensures in
    let got = c.in-Ok.ensures in
    let none : tokens_sent new ≡ [] = c.in_ok-all.ensures.all (let t = c.if-not-all.false in cc) in
    let all : tokens ++ tokens_sent new ≡ tokens = ap (λ (l : List Token). tokens ++ l) none ∙ append-nil tokens in
    let value = c.deref.ensures.value in
    let why : IsWhy (lanes_held last) (halts_in last) c.why.result = subst (λ (l : List (Turner g.row.C.Denot g.row.A.Denot g.row.L.Denot)). IsWhy
    (lanes_held l) (halts_in l) c.why.result) value c.why.ensures in
    closed_round {C = g.row.C.Denot} {A = g.row.A.Denot} {L = g.row.L.Denot} c.args.way.take s g.L.Log.KEEPS_EVENTS g.G.Gate.may_stop old new
    c.args.setup.now.log.events.items c.make_whole_round.new.setup.log.events.items (tokens ++ tokens_sent new) made last got.same.0
    (got.same.1 ∙ ap (λ (l : List Token). delivered l (lanes_held new)) (sym all)) (subst (λ (l : List Fixed). All (RunsAs s) l) (sym h.fixed)
    made.runs) got.same.2 (h.sent ∙ none) (h.events ∙ made.cleared) h.halts c.why.result why

pub deliver_all-requires-clause-near : goal.deliver_all-requires-clause-near
deliver_all-requires-clause-near g c =
    let s : Setting = setting_in g.C.Instructions.program g.C.Instructions.width c.args.setup.now.shape in
    let made = c.in_ok-all.ensures.made in
    let new = c.make_whole_round.new.turners.items in
    let tokens = c.make_whole_round.new.tokens.items in
    let none : tokens_sent new ≡ [] = c.in_ok-all.ensures.all (let t = c.if-not-all.false in cc) in
    let all : tokens ++ tokens_sent new ≡ tokens = ap (λ (l : List Token). tokens ++ l) none ∙ append-nil tokens in
    near_for s (lanes_fixed new) made.runs tokens (subst (λ (l : List Token). All (IsNearToken (bounds_in s)) l) all
    (near_arriving s (lanes_held new) (tokens ++ tokens_sent new) made.sound))

pub returns-in-Err-clause-rounds : goal.returns-in-Err-clause-rounds
returns-in-Err-clause-rounds g c =
    let s : Setting = setting_in g.C.Instructions.program g.C.Instructions.width c.args.setup.now.shape in
    let new = c.make_whole_round.new.turners.items in
    let tokens = c.make_whole_round.new.tokens.items in
    let h = c.deliver_all.ensures in
    let none : tokens_sent new ≡ [] = c.in_ok-all.ensures.all (let t = c.if-not-all.false in cc) in
    let all : tokens ++ tokens_sent new ≡ tokens = ap (λ (l : List Token). tokens ++ l) none ∙ append-nil tokens in
    refused_delivering {C = g.row.C.Denot} {A = g.row.A.Denot} {L = g.row.L.Denot} c.args.way.take s g.L.Log.KEEPS_EVENTS g.G.Gate.may_stop c.args.turners.now.items
    new c.args.setup.now.log.events.items c.make_whole_round.new.setup.log.events.items (tokens ++ tokens_sent new) c.in_ok-all.ensures.made
    c.deliver_all.new.turners.items h.same.0
    (h.same.1 ∙ ap (λ (l : List Token). delivered l (lanes_held new)) (sym all))
