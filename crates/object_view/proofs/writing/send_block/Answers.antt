use Rattle.std.proofs.Common.{List, sym, ap, ◌∙◌, subst}
use Rattle.std.specs.Prelude.{All}
use Rattle.semantics.specs.Program.{Instr, CodeBlock}
use Rattle.object_view.specs.Sending.{HasWords}
use Rattle.object_view.proofs.writing.send_block.Goals as goal

pub send_instrs-requires-clause-there : goal.send_instrs-requires-clause-there
send_instrs-requires-clause-there g c =
    subst (λ (xs : List Instr). All HasWords xs) (sym (c.deref.ensures.value ∙ ap (λ (b : CodeBlock). b.instrs) c.block.view_is)) c.requires.there
