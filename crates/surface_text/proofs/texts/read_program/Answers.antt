use Rattle.std.proofs.Common.{ap, subst, ◌∙◌}
use Rattle.surface.specs.declared.fault.ProgramFault.{ProgramFault}
use Rattle.source.specs.Tokens.{position}
use Rattle.surface_text.specs.Reading.{HasFault}
use Rattle.surface_text.proofs.texts.read_program.Goals as goal

pub returns-in-Err : goal.returns-in-Err
returns-in-Err g c =
    let fault = c.in-Err.unread.fault in
    record {
      fault = fault;
      has = subst (λ program. HasFault program fault) c.split-parted.ensures.program c.in-Err.ensures;
      is = c.reported.ensures ∙ ap {B = ProgramFault}
          (λ program. record { kind = fault.kind; line = (position program fault.at).line; column = (position program fault.at).column })
          c.split-parted.ensures.program;
    }
