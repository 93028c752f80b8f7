use Rattle.std.proofs.Common.{◌≡◌, ◌≤◌, ◌∙◌, ℕ, ℤ, List, Option, None, Some, length, ap, sym, subst, arith}
use Rattle.tags.specs.declared.token.Token.{Token}
use Rattle.semantics.specs.Report.{Report}
use Rattle.driver.specs.ListedEvents.{ListsEvents, HasBooks}
use Rattle.driver.specs.Refused.{IsRefused}
use Rattle.commands.specs.Traced.{first_of}
use Rattle.commands.proofs.Feeds.{IsRefusedOption, not_run, page_of, run_refused, mode_refused, no_room}
use Rattle.commands.proofs.paging.page_input.Goals as goal

first_low : (n : ℕ) (last : Option ℕ) → first_of n last ≤ n
first_low n None = omega arith
first_low n (Some last) = omega arith

pub returns-in-Err-clause-page : goal.returns-in-Err-clause-page
returns-in-Err-clause-page g c = not_run c.args.input.now c.in-Err.refusal c.in-Err.ensures c.args.options.now

pub returns-in_default-clause-page : goal.returns-in_default-clause-page
returns-in_default-clause-page g c =
    mode_refused c.args.input.now _ _ c.in-Ok.ensures c.args.options.now c.config_of-config.result c.config_of-config.ensures (sym c.order_in.ensures ∙ c.in_default.is)
    c.option_refusal.result
    (subst (λ (zs : List ℤ). IsRefusedOption c.in-Ok.feed.text.now zs c.config_of-config.result c.option_refusal.result) c.deref.ensures.value
    c.option_refusal.ensures)

pub returns-in-Err-list_text-clause-page : goal.returns-in-Err-list_text-clause-page
returns-in-Err-list_text-clause-page g c =
    run_refused c.args.input.now _ _ c.in-Ok.ensures c.args.options.now c.config_of-config.result c.config_of-config.ensures
    c.in-Err-list_text.fault
    (subst (λ (zs : List ℤ). IsRefused c.in-Ok.feed.text.now zs c.config_of-config.result c.in-Err-list_text.fault) c.deref-2.ensures.value
    c.in-Err-list_text.ensures) c.fault_refusal.result c.fault_refusal.ensures

pub returns-clause-page : goal.returns-clause-page
returns-clause-page g c = no_room c.args.input.now _ _ c.in-Ok.ensures c.args.options.now

pub books_of-requires-clause-within : goal.books_of-requires-clause-within
books_of-requires-clause-within g c =
    let events : List (ℕ × Token) = c.in-Ok-list_text.reported_run.report.events in
    let same = c.deref-events.ensures.value ∙ ap (λ (r : Report). r.events) c.report.view_is in
    subst (λ (n : ℕ). n ≤ length events)
    (sym (c.first_of_last-first.ensures ∙ ap (λ (es : List (ℕ × Token)). first_of (length es) c.args.last) same)) (first_low (length events) c.args.last)

pub returns-in-Ok-books_of-clause-first : goal.returns-in-Ok-books_of-clause-first
returns-in-Ok-books_of-clause-first g c =
    let same = c.deref-events.ensures.value ∙ ap (λ (r : Report). r.events) c.report.view_is in
    c.first_of_last-first.ensures ∙ ap (λ (es : List (ℕ × Token)). first_of (length es) c.args.last) same
