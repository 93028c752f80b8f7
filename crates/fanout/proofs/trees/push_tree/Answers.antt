use Rattle.std.proofs.Common.{◌≡◌, ◌+◌, ◌++◌, ◌∷◌, List, ap, ◌∙◌, append_assoc, suc, arith, []}
use Rattle.semantics.specs.Program.{Instr}
use Rattle.fanout.specs.Trees.{copy_at, tree}
use Rattle.fanout.proofs.trees.push_tree.Goals as goal

pub loop-copy-preserved : goal.loop-copy-preserved
loop-copy-preserved g c =
    let l = c.args.layout.now in
    let n = c.args.number in
    let j = c.loop-copy.copy in
    let ds = c.args.dests.now in
    let old = c.args.instrs.now.items in
    let one : c.in_ok-instr.instr ≡ copy_at l n (c.args.root + j) j ds = c.in_ok-instr.ensures ∙ ap (λ at. copy_at l n at j ds) c.in_ok-at.ensures in
    let step : suc j ≡ j + 1 = omega arith in
    c.in_ok-push.ensures.items ∙ ap (λ (is : List Instr). is ++ c.in_ok-instr.instr ∷ []) c.loop-copy.invariant
    ∙ append_assoc old (tree l n c.args.root ds j) (c.in_ok-instr.instr ∷ [])
    ∙ ap (λ (i : Instr). old ++ (tree l n c.args.root ds j ++ i ∷ [])) one
    ∙ ap (λ k. old ++ tree l n c.args.root ds k) step
