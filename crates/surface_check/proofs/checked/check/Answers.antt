use Rattle.std.proofs.Common.{◌≡◌, ◌∙◌, Err, rules, ap, subst}
use Rattle.surface.specs.Words.{NamedWords, HasTree}
use Rattle.surface_check.proofs.Programs.{refuses}
use Rattle.surface_check.proofs.checked.check.Goals as goal

pub returns-in_err-check_words-clause-refused : goal.returns-in_err-check_words-clause-refused
returns-in_err-check_words-clause-refused g c =
    let p = c.args.program in
    let tree : HasTree p.names p.words = subst (λ (w : NamedWords). HasTree w.names w.words) c.program.view_is c.program.invariant in
    let is : c.from_residual.result ≡ Err c.in_err-check_words.field-0.0 = search rules in
    rw is (refuses p.names c.deref.result.now c.deref-2.result.now p.words c.deref-3.result.now c.main_number-main.result c.args.end c.in_err-check_words.field-0.0
    (c.deref.ensures.value ∙ ap (λ (w : NamedWords). w.names) c.program.view_is) (c.deref-2.ensures.value ∙ ap (λ (w : NamedWords). w.names) c.program.view_is)
    (c.deref-3.ensures.value ∙ ap (λ (w : NamedWords). w.words) c.program.view_is) tree c.main_number-main.ensures c.in_err-check_words.ensures)
