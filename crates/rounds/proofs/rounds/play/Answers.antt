use Rattle.std.proofs.Common.{◌≡◌, refl, ◌∙◌, subst, ◌+◌, arith, [], Some, None, Option}
use Rattle.schedule.specs.declared.halt.Halt.{Halt}
use Rattle.schedule.specs.State.{setting_in}
use Rattle.schedule.specs.Setting.{Setting}
use Rattle.rounds.specs.Rounds.{Rounds}
use Rattle.schedule.proofs.Playing.{logged_none}
use Rattle.rounds.specs.Rounds.{lanes_held}
use Rattle.rounds.proofs.Counting.{no_rounds, few_rounds}
use Rattle.rounds.proofs.Closing.{leads_none, rounds_twice, leads_on, makes_on}
use Rattle.rounds.proofs.rounds.play.Goals as goal

pub rounds-init : goal.rounds-init
rounds-init g c = record {
  setting = refl;
  between = c.requires.between;
  tokens = c.requires.tokens;
  made = [];
  noted = logged_none g.L.Log.KEEPS_EVENTS c.args.setup.now.log.events.items;
  leads = leads_none {C = g.row.C.Denot} {A = g.row.A.Denot} {L = g.row.L.Denot} (setting_in g.C.Instructions.program g.C.Instructions.width
      c.args.setup.now.shape) c.args.turners.now.items;
  makes = no_rounds c.args.way.take (setting_in g.C.Instructions.program g.C.Instructions.width c.args.setup.now.shape) g.G.Gate.may_stop (lanes_held c.args.turners.now.items);
}

pub returns-in-Some-2-clause-rounds : goal.returns-in-Some-2-clause-rounds
returns-in-Some-2-clause-rounds g c =
    let s : Setting = setting_in g.C.Instructions.program g.C.Instructions.width c.args.setup.now.shape in
    let now : Setting = setting_in g.C.Instructions.program g.C.Instructions.width c.rounds.setup.shape in
    let inv = c.rounds.invariant in
    let mids = c.rounds.turners.items in
    let news = c.round.new.turners.items in
    let may = g.G.Gate.may_stop in
    rounds_twice {C = g.row.C.Denot} {A = g.row.A.Denot} {L = g.row.L.Denot} c.args.way.take s now inv.setting g.L.Log.KEEPS_EVENTS may c.rounds.rounds
    c.args.turners.now.items mids news c.args.setup.now.log.events.items c.rounds.setup.log.events.items c.round.new.setup.log.events.items
    inv.made (Some c.in-Some-2.halt) inv.noted inv.leads inv.makes
    (subst (λ (o : Option Halt). Rounds c.args.way.take now g.L.Log.KEEPS_EVENTS may 1 mids c.rounds.setup.log.events.items news c.round.new.setup.log.events.items o)
    c.in-Some-2.is c.in_ok-halt.ensures.rounds)

pub rounds-preserved : goal.rounds-preserved
rounds-preserved g c =
    let s : Setting = setting_in g.C.Instructions.program g.C.Instructions.width c.args.setup.now.shape in
    let now : Setting = setting_in g.C.Instructions.program g.C.Instructions.width c.rounds.setup.shape in
    let inv = c.rounds.invariant in
    let mids = c.rounds.turners.items in
    let news = c.round.new.turners.items in
    let may = g.G.Gate.may_stop in
    let after = c.round.new.setup.log.events.items in
    let none : c.in_ok-halt.field-0 ≡ None = cc in
    let all = rounds_twice {C = g.row.C.Denot} {A = g.row.A.Denot} {L = g.row.L.Denot} c.args.way.take s now inv.setting g.L.Log.KEEPS_EVENTS may c.rounds.rounds
    c.args.turners.now.items mids news c.args.setup.now.log.events.items c.rounds.setup.log.events.items after inv.made None inv.noted inv.leads inv.makes
    (subst (λ (o : Option Halt). Rounds c.args.way.take now g.L.Log.KEEPS_EVENTS may 1 mids c.rounds.setup.log.events.items news after o) none c.in_ok-halt.ensures.rounds) in
    record {
      setting = c.round.ensures.setting ∙ inv.setting;
      between = all.goes.0;
      tokens = c.in_ok-halt.ensures.tokens none;
      made = all.made;
      noted = all.noted;
      leads = leads_on {C = g.row.C.Denot} {A = g.row.A.Denot} {L = g.row.L.Denot} c.args.way.take s g.L.Log.KEEPS_EVENTS may (c.rounds.rounds + 1)
          c.args.turners.now.items news c.args.setup.now.log.events.items after all;
      makes = makes_on {C = g.row.C.Denot} {A = g.row.A.Denot} {L = g.row.L.Denot} c.args.way.take s g.L.Log.KEEPS_EVENTS may (c.rounds.rounds + 1)
          c.args.turners.now.items news c.args.setup.now.log.events.items after all;
    }

pub overflow_add-rounds : goal.overflow_add-rounds
overflow_add-rounds g c =
    let s : Setting = setting_in g.C.Instructions.program g.C.Instructions.width c.args.setup.now.shape in
    let inv = c.rounds.invariant in
    let few = few_rounds c.args.way.take s g.G.Gate.may_stop c.rounds.rounds (lanes_held c.args.turners.now.items) (lanes_held c.rounds.turners.items) inv.made
    inv.between.sound inv.makes in
    omega (arith, few)
