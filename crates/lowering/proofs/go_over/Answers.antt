use Rattle.std.proofs.Common.{◌∙◌, ap, List, ℕ}
use Rattle.source.specs.declared.word.Word.{Word}
use Rattle.source.specs.Tree.{Name}
use Rattle.lowering.specs.declared.loop_names.Named.{Named}
use Rattle.lowering.proofs.Exact.{went}
use Rattle.lowering.proofs.go_over.Goals as goal

pub returns-clause-blocks : goal.returns-clause-blocks
returns-clause-blocks g c =
    let names : List Name = c.args.named.now.checked.program.names in
    let words : List (Word ℕ) = c.args.named.now.checked.program.words in
    let is_names = ap (λ (n : Named g.row.A.Denot). n.checked.program.names) c.named.view_is in
    let is_words = ap (λ (n : Named g.row.A.Denot). n.checked.program.words) c.named.view_is in
    went names c.deref.result.now c.deref-3.result.now words
    c.deref-2.result.now c.deref-5.result.now c.in_ok-gathered.gathered.results.items c.deref-4.result.now c.in_ok-gathered.gathered.plans.items
    c.in_ok-machine.machine
    c.run.new.self c.into_done.result.items (c.deref.ensures.value ∙ is_names) (c.deref-2.ensures.value ∙ is_words) (c.deref-3.ensures.value ∙ is_names)
    c.deref-4.ensures.value (c.deref-5.ensures.value ∙ is_words) c.in_ok-gathered.ensures.plans c.in_ok-gathered.ensures.results c.in_ok-machine.ensures
    c.in_ok-run.ensures c.into_done.ensures
