use Rattle.std.proofs.Common.{◌≡◌, ◌∙◌, ◌*◌, ◌≤◌, ℕ, ℤ, List, Bool, false, refl, sym, ap, subst, take, drop, length, rules}
use Rattle.semantics.specs.Machine.{Events}
use Rattle.semantics.specs.Report.{Report}
use Rattle.object_view.specs.Reading.{Opened, opened}
use Rattle.loaded.specs.Ready.{widest}
use Rattle.replay.specs.declared.extent.Extent.{Extent}
use Rattle.driver.specs.ListedEvents.{HasBooks}
use Rattle.driver.specs.Objects.{ShowsObject}
use Rattle.driver.proofs.ObjectRuns.{object_of, opened_of}
use Rattle.driver.proofs.Booked.{extent_is, few_inputs, booked, fitting}
use Rattle.driver.proofs.books.books_of.Goals as goal

pub keep_books-requires-clause-extent : goal.keep_books-requires-clause-extent
keep_books-requires-clause-extent g c =
    let o : Opened = c.in_ok-code.code in
    let at : c.args.object.now.bytes ≡ o.bytes = sym (ap (λ (x : Opened). x.bytes) (c.in_ok-code.ensures ∙ c.as_object.ensures)) in
    let shows = subst (λ (bs : List ℕ). ShowsObject bs c.args.inputs.now c.args.config false c.requires.shows.0 c.args.report.now) at c.requires.shows.1 in
    extent_is o.bytes c.args.inputs.now c.args.config c.requires.shows.0 c.args.report.now shows o.code.program (widest o.code.program.blocks) _ refl refl
    c.slots.ensures.exact c.slots.ensures.some c.slots.ensures.few c.cells.ensures.cells c.main_entry.ensures.exact c.main_entry.ensures.short
    c.outputs.ensures.exact c.outputs.ensures.few

pub keep_books-requires-clause-few : goal.keep_books-requires-clause-few
keep_books-requires-clause-few g c =
    let o : Opened = c.in_ok-code.code in
    let b = c.bytes-bytes.ensures in
    let at : c.args.object.now.bytes ≡ o.bytes = sym (ap (λ (x : Opened). x.bytes) (c.in_ok-code.ensures ∙ c.as_object.ensures)) in
    let shows = subst (λ (bs : List ℕ). ShowsObject bs c.args.inputs.now c.args.config false c.requires.shows.0 c.args.report.now) at c.requires.shows.1 in
    few_inputs o.bytes c.args.inputs.now c.args.config c.requires.shows.0 c.args.report.now shows o
    (opened_of c.bytes-bytes.result.now c.object.result.now o b.same c.object.ensures b.opened)
    (object_of c.bytes-bytes.result.now c.object.result.now o b.same c.object.ensures b.object) c.inputs-count.result c.inputs-count.ensures.exact
    c.inputs-count.ensures.few

pub returns-in-Ok : goal.returns-in-Ok
returns-in-Ok g c =
    let o : Opened = c.in_ok-code.code in
    let b = c.bytes-bytes.ensures in
    let at : c.args.object.now.bytes ≡ o.bytes = sym (ap (λ (x : Opened). x.bytes) (c.in_ok-code.ensures ∙ c.as_object.ensures)) in
    let events = c.deref.ensures.value ∙ ap (λ (r : Report). r.events) c.report.view_is in
    let x : Extent = record {
      elements = c.args.config.elements;
      frames = c.args.config.elements * c.args.config.frames;
      slots = c.slots.result;
      cells = c.cells.result;
      main = c.main_entry.result;
      outputs = c.outputs.result;
    } in
    subst (λ (bs : List ℕ). HasBooks bs c.args.inputs.now c.args.config c.args.first c.args.report.now c.in-Ok.books) (sym at)
    (booked o.bytes c.args.inputs.now c.args.config c.args.report.now o
    (opened_of c.bytes-bytes.result.now c.object.result.now o b.same c.object.ensures b.opened) x refl refl c.args.first
    c.split_at.result.0.now c.split_at.result.1.now c.in-Ok.books (c.split_at.ensures.front ∙ ap (λ (es : Events). take c.args.first es) events)
    (c.split_at.ensures.back ∙ ap (λ (es : Events). drop c.args.first es) events) c.in-Ok.ensures.books)

pub unreachable-requires : goal.unreachable-requires
unreachable-requires g c =
    let o : Opened = c.in_ok-code.code in
    let b = c.bytes-bytes.ensures in
    let at : c.args.object.now.bytes ≡ o.bytes = sym (ap (λ (x : Opened). x.bytes) (c.in_ok-code.ensures ∙ c.as_object.ensures)) in
    let events = c.deref.ensures.value ∙ ap (λ (r : Report). r.events) c.report.view_is in
    let shows = subst (λ (bs : List ℕ). ShowsObject bs c.args.inputs.now c.args.config false c.requires.shows.0 c.args.report.now) at c.requires.shows.1 in
    let x : Extent = record {
      elements = c.args.config.elements;
      frames = c.args.config.elements * c.args.config.frames;
      slots = c.slots.result;
      cells = c.cells.result;
      main = c.main_entry.result;
      outputs = c.outputs.result;
    } in
    fitting o.bytes c.args.inputs.now c.args.config c.requires.shows.0 c.args.report.now o
    (opened_of c.bytes-bytes.result.now c.object.result.now o b.same c.object.ensures b.opened)
    (object_of c.bytes-bytes.result.now c.object.result.now o b.same c.object.ensures b.object) shows x refl refl c.args.first
    c.split_at.result.0.now c.split_at.result.1.now (c.split_at.ensures.front ∙ ap (λ (es : Events). take c.args.first es) events)
    (c.split_at.ensures.back ∙ ap (λ (es : Events). drop c.args.first es) events) c.in-Err-NotARun.field-0 (search rules) c.in-Err-NotARun.ensures.unfit

pub split_at-requires : goal.split_at-requires
split_at-requires g c =
    let events = c.deref.ensures.value ∙ ap (λ (r : Report). r.events) c.report.view_is in
    subst (λ (es : Events). c.args.first ≤ length es) (sym events) c.requires.within
