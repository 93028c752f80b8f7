use Rattle.std.proofs.Common.{refl, subst}
use Rattle.std.proofs.lemmas.Result.{err_from_is_err_and}
use Rattle.source.specs.declared.fault.ProgramFault.{ProgramFault}
use Rattle.source.specs.Tokens.{program_of}
use Rattle.lowered_text.specs.Reported.{IsUntold}
use Rattle.lowered_text.proofs.Refused.{reported_of, read_fault}
use Rattle.lowered_text.proofs.programs.read_good.Goals as goal

pub returns-in_err-source : goal.returns-in_err-source
returns-in_err-source g c =
    let p = err_from_is_err_and c.from_residual-in_err-source.result c.from_residual-in_err-source.ensures.1 in
    let t = c.in_err-source.ensures in
    rw p.1 (reported_of c.args.text.now (program_of c.args.text.now) t.fault p.0 refl (read_fault c.args.text.now t.fault t.has)
    (subst (λ (f : ProgramFault). IsUntold f p.0) t.is p.2))
