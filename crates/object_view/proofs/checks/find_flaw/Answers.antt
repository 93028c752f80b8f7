use Rattle.std.proofs.Common.{List, ℕ, sym, ap, ◌∙◌}
use Rattle.object_view.specs.Fields.{word_at}
use Rattle.object_view.specs.Checks.{content_checked}
use Rattle.object_view.proofs.Facts.{checked_all, refused_early, refused_late, none_refused}
use Rattle.object_view.proofs.checks.find_flaw.Goals as goal

pub returns-in-Err : goal.returns-in-Err
returns-in-Err c = sym (refused_early c.args.bytes.now c.in-Err.flaw.fault c.in-Err.ensures.checked)

pub returns-in-Ok-look : goal.returns-in-Ok-look
returns-in-Ok-look c =
    let same = c.in-Ok.ensures.same in
    let late = ap (λ (bs : List ℕ). content_checked (word_at bs)) (sym same) ∙ sym c.in-Ok-look.ensures in
    sym (none_refused c.args.bytes.now (checked_all c.args.bytes.now c.in-Ok.ensures.checked late))

pub returns-in-Err-look : goal.returns-in-Err-look
returns-in-Err-look c =
    let same = c.in-Ok.ensures.same in
    let late = ap (λ (bs : List ℕ). content_checked (word_at bs)) (sym same) ∙ sym c.in-Err-look.ensures in
    sym (refused_late c.args.bytes.now c.in-Err-look.flaw.fault c.in-Ok.ensures.checked late)
