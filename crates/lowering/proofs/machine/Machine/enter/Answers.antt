use Rattle.std.proofs.Common.{◌∙◌, ap, [], List}
use Rattle.semantics.specs.declared.graph.Source.{Source}
use Rattle.source.specs.Lowered.{scoped}
use Rattle.lowering.specs.Opened.{is_first}
use Rattle.lowering.proofs.Nodes.{arm_begins}
use Rattle.lowering.proofs.machine.Machine.enter.Goals as goal

pub returns : goal.returns
returns g c = arm_begins c.args.self.now _ c.args.arms.now (is_first c.args.side) c.args.at c.args.names.now c.in_ok-enters.enters.items c.new-none.result.items
    c.replace-outer.new.dest (c.self.view_is ∙ c.in_ok-enters.ensures.entered) c.in_ok-enters.ensures.values
    (c.replace-outer.ensures.after ∙ c.in_ok-scope.ensures ∙ ap (λ (ss : List Source). scoped c.args.names.now ss []) c.deref.ensures.value)
    c.new-none.ensures.items
