use Rattle.std.proofs.Common.{◌≡◌, ◌∙◌, length, rules}
use Rattle.lowering.specs.Opened.{is_first}
use Rattle.lowering.proofs.Nodes.{arm_enters, arm_values}
use Rattle.lowering.proofs.machine.Machine.enter_all.Goals as goal

pub returns-clause-entered : goal.returns-clause-entered
returns-clause-entered g c = arm_enters c.args.self.now _ c.put_enters.new.self c.args.arms.now _ (is_first c.args.side) c.arm.result c.args.at c.args.names.now
    c.deref.result.now c.self.view_is c.arms.view_is c.arm.ensures c.in_ok-put_enters.ensures (c.deref.ensures.value ∙ c.in_ok-taken.ensures)

pub returns-clause-values : goal.returns-clause-values
returns-clause-values g c =
    let n : c.len.result ≡ length c.in_ok-taken.taken.items = search rules in
    arm_values c.args.self.now _ c.args.arms.now (is_first c.args.side) c.args.at c.args.names.now c.in_ok-taken.taken.items
    c.in_ok-values.values.items c.len.result
    c.self.view_is c.in_ok-values.ensures n c.in_ok-taken.ensures
