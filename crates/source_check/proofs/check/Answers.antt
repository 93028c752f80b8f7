use Rattle.std.proofs.Common.{◌≡◌, ◌⊎◌, Ok, Err, refl, sym, subst}
use Rattle.source.specs.Words.{NamedWords, IsProgram}
use Rattle.source_check.specs.Checked.{IsChecked}
use Rattle.source_check.proofs.Whole.{all_is_well, first_fault}
use Rattle.source_check.proofs.check.Goals as goal

pub returns-clause-refused : goal.returns-clause-refused
returns-clause-refused g c = λ p i.
    let its : IsProgram c.program.inside.names.items c.program.inside.words.items p =
    subst (λ (w : NamedWords). IsProgram w.names w.words p) (sym c.program.view_is) i in
    first_fault c.program.inside.names.items c.deref.result.now c.program.inside.words.items c.deref-2.result.now c.main_number-main.result c.args.end
    (Err c.in-Err.fault) c.in-Err.fault p
    c.deref.ensures.value c.deref-2.ensures.value c.main_number-main.ensures c.in-Err.ensures refl its

pub invariant_of-result : goal.invariant_of-result
invariant_of-result g c = record {
  checked = subst (λ (w : NamedWords). IsChecked w.names w.words) c.program.view_is
      (all_is_well c.program.inside.names.items c.deref.result.now c.program.inside.words.items c.deref-2.result.now c.main_number-main.result c.args.end
      (Ok tt) tt
      c.deref.ensures.value c.deref-2.ensures.value c.main_number-main.ensures c.in-Ok.ensures refl);
}
