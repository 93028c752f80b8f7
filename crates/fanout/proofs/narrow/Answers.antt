use Rattle.std.proofs.Common.{◌≡◌, List, sym, subst, All, arith}
use Rattle.std.proofs.lemmas.Grind.{common_steps}
use Rattle.semantics.specs.Program.{CodeBlock}
use Rattle.fanout.specs.Narrowed.{narrowed_blocks}
use Rattle.fanout.specs.Laws.{HasFew, HasItsDests}
use Rattle.fanout.proofs.Shapes.{narrowed_few, narrowed_dests}
use Rattle.fanout.proofs.narrow.Goals as goal

pub returns-clause-few : goal.returns-clause-few
returns-clause-few g c =
    let p = c.args.plan.now in
    let same : c.loop-number.blocks.items ≡ narrowed_blocks p p.program.blocks = grind (arith, common_steps, c.loop-number.invariant.blocks) in
    subst (λ (cs : List CodeBlock). All (λ (c : CodeBlock). All HasFew c.instrs) cs) (sym same) (narrowed_few p)

pub returns-clause-dests : goal.returns-clause-dests
returns-clause-dests g c =
    let p = c.args.plan.now in
    let same : c.loop-number.blocks.items ≡ narrowed_blocks p p.program.blocks = grind (arith, common_steps, c.loop-number.invariant.blocks) in
    λ h. subst (λ (cs : List CodeBlock). All (λ (c : CodeBlock). All HasItsDests c.instrs) cs) (sym same) (narrowed_dests p h)
