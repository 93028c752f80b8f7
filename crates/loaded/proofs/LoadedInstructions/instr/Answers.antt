use Rattle.std.proofs.Common.{Some, sym, ap, ◌∙◌}
use Rattle.semantics.specs.Program.{instr_at}
use Rattle.object_view.specs.Reading.{Opened}
use Rattle.loaded.proofs.Seen.{ready}
use Rattle.loaded.proofs.Short.{short}
use Rattle.loaded.proofs.LoadedInstructions.instr.Goals as goal

pub returns-in-Some-clause-short : goal.returns-in-Some-clause-short
returns-in-Some-clause-short g c =
    let r = ready _ _ _ _ _ _ _ c.self.view_is c.self.invariant in
    short c.args.self.now.version c.args.self.now.code c.args.ip c.instruction_of.result r.lawful
    (sym (c.in-Some.ensures ∙ ap (λ (o : Opened). instr_at o.code.program c.args.ip) c.self.view_is) ∙ ap (λ i. Some i) (sym c.instruction_of.ensures))
