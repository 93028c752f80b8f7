use Rattle.std.proofs.Common.{refl, ◌∙◌}
use Rattle.element.proofs.Turns.{lane_alone_more}
use Rattle.element.proofs.lane.Lane.turn.Goals as goal

pub rations-init : goal.rations-init
rations-init g c = record { made = (0, refl); none = refl; fixed = refl }

pub rations-preserved : goal.rations-preserved
rations-preserved g c =
    let inv = c.rations.invariant in
    let all = lane_alone_more c.args.self.now c.rations.self c.makes_ration.new.self c.args.sent.now.items c.rations.sent.items
    c.makes_ration.new.sent.items c.requires.one inv.fixed c.makes_ration.ensures.fixed c.makes_ration.ensures.sound inv.made inv.none
    c.makes_ration.ensures.exact in
    record {
      made = all.0;
      none = all.1;
      fixed = c.makes_ration.ensures.fixed ∙ inv.fixed;
    }

pub returns-in_err-makes_ration-clause-exact : goal.returns-in_err-makes_ration-clause-exact
returns-in_err-makes_ration-clause-exact g c =
    let inv = c.rations.invariant in
    let all = lane_alone_more c.args.self.now c.rations.self c.makes_ration.new.self c.args.sent.now.items c.rations.sent.items
    c.makes_ration.new.sent.items c.requires.one inv.fixed c.makes_ration.ensures.fixed c.makes_ration.ensures.sound inv.made inv.none
    c.makes_ration.ensures.exact in
    all.0

pub returns-in_err-makes_ration-clause-none : goal.returns-in_err-makes_ration-clause-none
returns-in_err-makes_ration-clause-none g c =
    let inv = c.rations.invariant in
    let all = lane_alone_more c.args.self.now c.rations.self c.makes_ration.new.self c.args.sent.now.items c.rations.sent.items
    c.makes_ration.new.sent.items c.requires.one inv.fixed c.makes_ration.ensures.fixed c.makes_ration.ensures.sound inv.made inv.none
    c.makes_ration.ensures.exact in
    all.1

pub returns-clause-exact : goal.returns-clause-exact
returns-clause-exact g c =
    let inv = c.rations.invariant in
    let all = lane_alone_more c.args.self.now c.rations.self c.makes_ration.new.self c.args.sent.now.items c.rations.sent.items
    c.makes_ration.new.sent.items c.requires.one inv.fixed c.makes_ration.ensures.fixed c.makes_ration.ensures.sound inv.made inv.none
    c.makes_ration.ensures.exact in
    all.0

pub returns-clause-none : goal.returns-clause-none
returns-clause-none g c =
    let inv = c.rations.invariant in
    let all = lane_alone_more c.args.self.now c.rations.self c.makes_ration.new.self c.args.sent.now.items c.rations.sent.items
    c.makes_ration.new.sent.items c.requires.one inv.fixed c.makes_ration.ensures.fixed c.makes_ration.ensures.sound inv.made inv.none
    c.makes_ration.ensures.exact in
    all.1
