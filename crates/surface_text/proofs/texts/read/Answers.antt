use Rattle.std.proofs.Common.{Ok, sym, ap, subst, ◌∙◌}
use Rattle.std.proofs.lemmas.Result.{err_from_is_err_and}
use Rattle.surface_text.specs.declared.reading.Unread.{Unread}
use Rattle.surface_text.specs.Reading.{HasFault}
use Rattle.surface_text.proofs.Acting.{errs}
use Rattle.surface_text.proofs.Trees.{has_fault}
use Rattle.surface_text.proofs.texts.read.Goals as goal

pub returns-in_err-parsed : goal.returns-in_err-parsed
returns-in_err-parsed g c =
    let r = err_from_is_err_and c.from_residual.result c.from_residual.ensures.1 in
    let tokens = c.in-Ok-lex.ensures.exact ∙ ap Ok (sym c.deref.ensures.value) in
    errs c.from_residual.result r.0 _ _ r.1
    (subst (λ (u : Unread). HasFault c.args.text.now u.fault) (sym r.2) (has_fault c.args.text.now c.deref.result.now _ tokens c.in_err-parsed.ensures))
