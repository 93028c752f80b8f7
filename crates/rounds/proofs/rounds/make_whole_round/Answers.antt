use Rattle.std.proofs.Common.{◌≡◌, sym, ◌∙◌, ap, subst, ◌++◌, [], List, length, take, drop, Bool, true}
use Rattle.std.specs.Prelude.{OnOk, IfOk}
use Rattle.schedule.specs.State.{setting_in}
use Rattle.schedule.specs.Setting.{Setting}
use Rattle.rounds.specs.declared.turn.Turner.{Turner}
use Rattle.rounds.specs.Rounds.{tokens_sent, MadeRound}
use Rattle.rounds.proofs.Closing.{same_slice}
use Rattle.rounds.proofs.rounds.make_whole_round.Goals as goal

pub returns-clause-made : goal.returns-clause-made
returns-clause-made g c =
    let s : Setting = setting_in g.C.Instructions.program g.C.Instructions.width c.args.setup.now.shape in
    let old = c.args.turners.now.items in
    let new = c.make_round.new.turners in
    let value = c.deref_mut.ensures.value in
    let before = c.args.setup.now.log.events.items in
    let after = c.make_round.new.setup.log.events.items in
    let tokens = c.make_round.new.tokens.items in
    let same : take c.args.turners.now.len (new ++ drop (length new) old) ≡ new = same_slice c.args.turners.now.len new old
    (sym c.deref_mut.ensures.len ∙ ap (λ (l : List (Turner g.row.C.Denot g.row.A.Denot g.row.L.Denot)). length l) value)
    (c.make_round.ensures.count ∙ ap (λ (l : List (Turner g.row.C.Denot g.row.A.Denot g.row.L.Denot)). length l) value) in
    subst (λ (l : List (Turner g.row.C.Denot g.row.A.Denot g.row.L.Denot)). OnOk c.make_round.result
    (MadeRound c.args.way.take s g.L.Log.KEEPS_EVENTS g.G.Gate.may_stop old before l after (tokens ++ tokens_sent l))) (sym same)
    (subst (λ (l : List (Turner g.row.C.Denot g.row.A.Denot g.row.L.Denot)). OnOk c.make_round.result
    (MadeRound c.args.way.take s g.L.Log.KEEPS_EVENTS g.G.Gate.may_stop l before new after (tokens ++ tokens_sent new))) value c.make_round.ensures.made)

pub returns-clause-all : goal.returns-clause-all
returns-clause-all g c =
    let old = c.args.turners.now.items in
    let new = c.make_round.new.turners in
    let value = c.deref_mut.ensures.value in
    let same : take c.args.turners.now.len (new ++ drop (length new) old) ≡ new = same_slice c.args.turners.now.len new old
    (sym c.deref_mut.ensures.len ∙ ap (λ (l : List (Turner g.row.C.Denot g.row.A.Denot g.row.L.Denot)). length l) value)
    (c.make_round.ensures.count ∙ ap (λ (l : List (Turner g.row.C.Denot g.row.A.Denot g.row.L.Denot)). length l) value) in
    subst (λ (l : List (Turner g.row.C.Denot g.row.A.Denot g.row.L.Denot)). IfOk c.make_round.result (λ (all : Bool). all ≡ true → tokens_sent l
    ≡ [])) (sym same) c.make_round.ensures.all

pub returns-clause-count : goal.returns-clause-count
returns-clause-count g c =
    let old = c.args.turners.now.items in
    let new = c.make_round.new.turners in
    let value = c.deref_mut.ensures.value in
    let count : length new ≡ length old = c.make_round.ensures.count ∙ ap (λ (l : List (Turner g.row.C.Denot g.row.A.Denot g.row.L.Denot)). length l) value in
    let same : take c.args.turners.now.len (new ++ drop (length new) old) ≡ new = same_slice c.args.turners.now.len new old
    (sym c.deref_mut.ensures.len ∙ ap (λ (l : List (Turner g.row.C.Denot g.row.A.Denot g.row.L.Denot)). length l) value) count in
    ap (λ (l : List (Turner g.row.C.Denot g.row.A.Denot g.row.L.Denot)). length l) same ∙ count
