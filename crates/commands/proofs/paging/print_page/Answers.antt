use Rattle.std.proofs.Common.{ℕ, inl, inr, ap, ◌∙◌, length, subst}
use Rattle.commands.specs.Traced.{IsPageOf, page_text, paged, first_of}
use Rattle.commands.proofs.Served.{printed, stopped}
use Rattle.commands.proofs.paging.print_page.Goals as goal

pub returns-in-Ok-write_page : goal.returns-in-Ok-write_page
returns-in-Ok-write_page g c =
    let run = c.in-Ok.run' in
    let k = run.compiled in
    let r = run.report in
    let i = c.args.input.now in
    let o = c.args.options.now in
    let n = first_of (length r.events) c.args.last in
    let same = ap (λ (m : ℕ). page_text i o m k.checked k.object.bytes r run.books c.args.pane.now) c.in-Ok.ensures.first in
    inl (
      k.checked,
      k.object.bytes,
      r,
      run.books,
      subst (λ (m : ℕ). IsPageOf i o m k.checked k.object.bytes r run.books) c.in-Ok.ensures.first c.in-Ok.ensures.page,
      printed _ _ _ _ _ _ _ (paged n r) same (c.shown.ensures ∙ ap (λ (m : ℕ). paged m r) c.in-Ok.ensures.first) c.in-Ok-write_page.ensures,
    )

pub returns : goal.returns
returns g c =
    let run = c.in-Ok.run' in
    let k = run.compiled in
    let r = run.report in
    let i = c.args.input.now in
    let o = c.args.options.now in
    let n = first_of (length r.events) c.args.last in
    let same = ap (λ (m : ℕ). page_text i o m k.checked k.object.bytes r run.books c.args.pane.now) c.in-Ok.ensures.first in
    inl (
      k.checked,
      k.object.bytes,
      r,
      run.books,
      subst (λ (m : ℕ). IsPageOf i o m k.checked k.object.bytes r run.books) c.in-Ok.ensures.first c.in-Ok.ensures.page,
      stopped _ _ _ _ _ _ (paged n r) same c.in-Err-write_page.ensures,
    )

pub returns-in-Err : goal.returns-in-Err
returns-in-Err g c = inr (c.in-Err.refusal, c.in-Err.ensures.page, c.refuse.ensures)
