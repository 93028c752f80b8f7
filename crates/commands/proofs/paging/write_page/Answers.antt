use Rattle.std.proofs.Common.{◌++◌, ℕ, List, Option, Err, ◌∙◌, ap}
use Rattle.tags.specs.declared.token.Token.{Token}
use Rattle.std.proofs.Common.{◌*◌, ◌-◌, drop, length}
use Rattle.semantics.specs.Graph.{Graph}
use Rattle.semantics.specs.Report.{Report}
use Rattle.object_view.specs.Reading.{Opened, opened}
use Rattle.disassembler.specs.Listing.{listing}
use Rattle.report_text.specs.ReportText.{report_text}
use Rattle.driver.specs.Disassembled.{listing_of}
use Rattle.html_text.specs.DataText.{data_text}
use Rattle.html_text.specs.PageText.{part_text, large_mark}
use Rattle.html_text.specs.declared.page.Part.TheVariants.{Top, ToListing, ToReport, ToData, Script}
use Rattle.std.proofs.lemmas.Result.{err_from_is_err_and}
use Rattle.sink.proofs.Sent.{appends_then, sends_from, sends_more, sends_less, sends_other, sends_same}
use Rattle.commands.proofs.paging.write_page.Goals as goal

pub returns-in_err-write_source : goal.returns-in_err-write_source
returns-in_err-write_source g c =
    let p = err_from_is_err_and c.from_residual.result c.from_residual.ensures.1 in
    let run = c.args.run.now in
    let o = c.args.options.now in
    let t1 : List ℕ = part_text Top ++ c.args.input.now in
    let t2 : List ℕ = part_text ToListing ++ listing_of run.compiled.object.bytes in
    let t3 : List ℕ = part_text ToReport ++ report_text run.compiled.checked.arrays run.report in
    let t4 : List ℕ = part_text ToData ++ (data_text o.elements (o.elements * o.frames) run.first (drop run.first run.report.events) run.books ++ c.args.pane.now) in
    let t5 : List ℕ = part_text Script in
    let t6 : List ℕ = large_mark (length run.report.events - run.first) in
    let w0 : Option (List ℕ) = g.W.Write.contents c.args.writer.now in
    let w1 : Option (List ℕ) = g.W.Write.contents c.write_source.new.writer in
    rw p.1 (sends_less p.0 w0 w1 ((((t1 ++ t2) ++ t3) ++ t4) ++ t5) t6 (sends_less p.0 w0 w1 (((t1 ++ t2) ++ t3) ++ t4) t5 (sends_less p.0 w0 w1
    ((t1 ++ t2) ++ t3) t4 (sends_less p.0 w0 w1 (t1 ++ t2) t3 (sends_less p.0 w0 w1 t1 t2
    (sends_other c.in_err-write_source.field-0.0 p.0 w0 w1 t1 c.in_err-write_source.ensures))))))

pub returns-in_err-write_listing : goal.returns-in_err-write_listing
returns-in_err-write_listing g c =
    let p = err_from_is_err_and c.from_residual-in_err-write_listing.result c.from_residual-in_err-write_listing.ensures.1 in
    let run = c.args.run.now in
    let o = c.args.options.now in
    let t1 : List ℕ = part_text Top ++ c.args.input.now in
    let t2 : List ℕ = part_text ToListing ++ listing_of run.compiled.object.bytes in
    let t3 : List ℕ = part_text ToReport ++ report_text run.compiled.checked.arrays run.report in
    let t4 : List ℕ = part_text ToData ++ (data_text o.elements (o.elements * o.frames) run.first (drop run.first run.report.events) run.books ++ c.args.pane.now) in
    let t5 : List ℕ = part_text Script in
    let t6 : List ℕ = large_mark (length run.report.events - run.first) in
    let w0 : Option (List ℕ) = g.W.Write.contents c.args.writer.now in
    let w1 : Option (List ℕ) = g.W.Write.contents c.write_source.new.writer in
    let w2 : Option (List ℕ) = g.W.Write.contents c.write_listing.new.writer in
    let e2 = ap (λ (v : Opened). part_text ToListing ++ listing v.version v.code.program)
    (c.bytes-bytes.ensures.opened ∙ ap opened c.bytes-bytes.ensures.same ∙ ap (λ (v : Opened). opened v.bytes) c.as_object-object.ensures) in
    rw p.1 (sends_less p.0 w0 w2 ((((t1 ++ t2) ++ t3) ++ t4) ++ t5) t6 (sends_less p.0 w0 w2 (((t1 ++ t2) ++ t3) ++ t4) t5 (sends_less p.0 w0 w2
    ((t1 ++ t2) ++ t3) t4 (sends_less p.0 w0 w2 (t1 ++ t2) t3 (sends_more (Err p.0) w0 w1 w2 t1 t2
    (sends_from c.write_source.result w0 w1 t1 c.in_ok-write_source.was c.write_source.ensures)
    (sends_other c.in_err-write_listing.field-0.0 p.0 w1 w2 t2 (sends_same
    (Err c.in_err-write_listing.field-0.0) w1 w2 _ t2 e2 c.in_err-write_listing.ensures)))))))

pub returns-in_err-write_result : goal.returns-in_err-write_result
returns-in_err-write_result g c =
    let p = err_from_is_err_and c.from_residual-in_err-write_result.result c.from_residual-in_err-write_result.ensures.1 in
    let run = c.args.run.now in
    let o = c.args.options.now in
    let t1 : List ℕ = part_text Top ++ c.args.input.now in
    let t2 : List ℕ = part_text ToListing ++ listing_of run.compiled.object.bytes in
    let t3 : List ℕ = part_text ToReport ++ report_text run.compiled.checked.arrays run.report in
    let t4 : List ℕ = part_text ToData ++ (data_text o.elements (o.elements * o.frames) run.first (drop run.first run.report.events) run.books ++ c.args.pane.now) in
    let t5 : List ℕ = part_text Script in
    let t6 : List ℕ = large_mark (length run.report.events - run.first) in
    let w0 : Option (List ℕ) = g.W.Write.contents c.args.writer.now in
    let w1 : Option (List ℕ) = g.W.Write.contents c.write_source.new.writer in
    let w2 : Option (List ℕ) = g.W.Write.contents c.write_listing.new.writer in
    let w3 : Option (List ℕ) = g.W.Write.contents c.write_result.new.writer in
    let e2 = ap (λ (v : Opened). part_text ToListing ++ listing v.version v.code.program)
    (c.bytes-bytes.ensures.opened ∙ ap opened c.bytes-bytes.ensures.same ∙ ap (λ (v : Opened). opened v.bytes) c.as_object-object.ensures) in
    let e3 = ap (λ (h : Graph). part_text ToReport ++ report_text h.arrays run.report) c.graph.ensures.same in
    rw p.1 (sends_less p.0 w0 w3 ((((t1 ++ t2) ++ t3) ++ t4) ++ t5) t6 (sends_less p.0 w0 w3 (((t1 ++ t2) ++ t3) ++ t4) t5 (sends_less p.0 w0 w3
    ((t1 ++ t2) ++ t3) t4 (sends_more (Err p.0) w0 w2 w3 (t1 ++ t2) t3
    (appends_then w0 w1 w2 t1 t2
    (sends_from c.write_source.result w0 w1 t1 c.in_ok-write_source.was c.write_source.ensures)
    (sends_from c.write_listing.result w1 w2 t2 c.in_ok-write_listing.was (sends_same c.write_listing.result w1 w2 _ t2 e2 c.write_listing.ensures)))
    (sends_other c.in_err-write_result.field-0.0 p.0 w2 w3 t3 (sends_same
    (Err c.in_err-write_result.field-0.0) w2 w3 _ t3 e3 c.in_err-write_result.ensures))))))

pub returns-in_err-write_run : goal.returns-in_err-write_run
returns-in_err-write_run g c =
    let p = err_from_is_err_and c.from_residual-in_err-write_run.result c.from_residual-in_err-write_run.ensures.1 in
    let run = c.args.run.now in
    let o = c.args.options.now in
    let t1 : List ℕ = part_text Top ++ c.args.input.now in
    let t2 : List ℕ = part_text ToListing ++ listing_of run.compiled.object.bytes in
    let t3 : List ℕ = part_text ToReport ++ report_text run.compiled.checked.arrays run.report in
    let t4 : List ℕ = part_text ToData ++ (data_text o.elements (o.elements * o.frames) run.first (drop run.first run.report.events) run.books ++ c.args.pane.now) in
    let t5 : List ℕ = part_text Script in
    let t6 : List ℕ = large_mark (length run.report.events - run.first) in
    let w0 : Option (List ℕ) = g.W.Write.contents c.args.writer.now in
    let w1 : Option (List ℕ) = g.W.Write.contents c.write_source.new.writer in
    let w2 : Option (List ℕ) = g.W.Write.contents c.write_listing.new.writer in
    let w3 : Option (List ℕ) = g.W.Write.contents c.write_result.new.writer in
    let w4 : Option (List ℕ) = g.W.Write.contents c.write_run.new.writer in
    let e2 = ap (λ (v : Opened). part_text ToListing ++ listing v.version v.code.program)
    (c.bytes-bytes.ensures.opened ∙ ap opened c.bytes-bytes.ensures.same ∙ ap (λ (v : Opened). opened v.bytes) c.as_object-object.ensures) in
    let e3 = ap (λ (h : Graph). part_text ToReport ++ report_text h.arrays run.report) c.graph.ensures.same in
    rw p.1 (sends_less p.0 w0 w4 ((((t1 ++ t2) ++ t3) ++ t4) ++ t5) t6 (sends_less p.0 w0 w4 (((t1 ++ t2) ++ t3) ++ t4) t5 (sends_more (Err p.0) w0 w3 w4
    ((t1 ++ t2) ++ t3) t4
    (appends_then w0 w2 w3 (t1 ++ t2) t3
    (appends_then w0 w1 w2 t1 t2
    (sends_from c.write_source.result w0 w1 t1 c.in_ok-write_source.was c.write_source.ensures)
    (sends_from c.write_listing.result w1 w2 t2 c.in_ok-write_listing.was (sends_same c.write_listing.result w1 w2 _ t2 e2 c.write_listing.ensures)))
    (sends_from c.write_result.result w2 w3 t3 c.in_ok-write_result.was (sends_same c.write_result.result w2 w3 _ t3 e3 c.write_result.ensures)))
    (sends_other c.in_err-write_run.field-0.0 p.0 w3 w4 t4 c.in_err-write_run.ensures))))

pub returns-in_err-write_part : goal.returns-in_err-write_part
returns-in_err-write_part g c =
    let p = err_from_is_err_and c.from_residual-in_err-write_part.result c.from_residual-in_err-write_part.ensures.1 in
    let run = c.args.run.now in
    let o = c.args.options.now in
    let t1 : List ℕ = part_text Top ++ c.args.input.now in
    let t2 : List ℕ = part_text ToListing ++ listing_of run.compiled.object.bytes in
    let t3 : List ℕ = part_text ToReport ++ report_text run.compiled.checked.arrays run.report in
    let t4 : List ℕ = part_text ToData ++ (data_text o.elements (o.elements * o.frames) run.first (drop run.first run.report.events) run.books ++ c.args.pane.now) in
    let t5 : List ℕ = part_text Script in
    let t6 : List ℕ = large_mark (length run.report.events - run.first) in
    let w0 : Option (List ℕ) = g.W.Write.contents c.args.writer.now in
    let w1 : Option (List ℕ) = g.W.Write.contents c.write_source.new.writer in
    let w2 : Option (List ℕ) = g.W.Write.contents c.write_listing.new.writer in
    let w3 : Option (List ℕ) = g.W.Write.contents c.write_result.new.writer in
    let w4 : Option (List ℕ) = g.W.Write.contents c.write_run.new.writer in
    let w5 : Option (List ℕ) = g.W.Write.contents c.write_part.new.writer in
    let e2 = ap (λ (v : Opened). part_text ToListing ++ listing v.version v.code.program)
    (c.bytes-bytes.ensures.opened ∙ ap opened c.bytes-bytes.ensures.same ∙ ap (λ (v : Opened). opened v.bytes) c.as_object-object.ensures) in
    let e3 = ap (λ (h : Graph). part_text ToReport ++ report_text h.arrays run.report) c.graph.ensures.same in
    rw p.1 (sends_less p.0 w0 w5 ((((t1 ++ t2) ++ t3) ++ t4) ++ t5) t6 (sends_more (Err p.0) w0 w4 w5 (((t1 ++ t2) ++ t3) ++ t4) t5
    (appends_then w0 w3 w4 ((t1 ++ t2) ++ t3) t4
    (appends_then w0 w2 w3 (t1 ++ t2) t3
    (appends_then w0 w1 w2 t1 t2
    (sends_from c.write_source.result w0 w1 t1 c.in_ok-write_source.was c.write_source.ensures)
    (sends_from c.write_listing.result w1 w2 t2 c.in_ok-write_listing.was (sends_same c.write_listing.result w1 w2 _ t2 e2 c.write_listing.ensures)))
    (sends_from c.write_result.result w2 w3 t3 c.in_ok-write_result.was (sends_same c.write_result.result w2 w3 _ t3 e3 c.write_result.ensures)))
    (sends_from c.write_run.result w3 w4 t4 c.in_ok-write_run.was c.write_run.ensures))
    (sends_other c.in_err-write_part.field-0.0 p.0 w4 w5 t5 c.in_err-write_part.ensures)))

pub returns : goal.returns
returns g c =
    let run = c.args.run.now in
    let o = c.args.options.now in
    let t1 : List ℕ = part_text Top ++ c.args.input.now in
    let t2 : List ℕ = part_text ToListing ++ listing_of run.compiled.object.bytes in
    let t3 : List ℕ = part_text ToReport ++ report_text run.compiled.checked.arrays run.report in
    let t4 : List ℕ = part_text ToData ++ (data_text o.elements (o.elements * o.frames) run.first (drop run.first run.report.events) run.books ++ c.args.pane.now) in
    let t5 : List ℕ = part_text Script in
    let t6 : List ℕ = large_mark (length run.report.events - run.first) in
    let w0 : Option (List ℕ) = g.W.Write.contents c.args.writer.now in
    let w1 : Option (List ℕ) = g.W.Write.contents c.write_source.new.writer in
    let w2 : Option (List ℕ) = g.W.Write.contents c.write_listing.new.writer in
    let w3 : Option (List ℕ) = g.W.Write.contents c.write_result.new.writer in
    let w4 : Option (List ℕ) = g.W.Write.contents c.write_run.new.writer in
    let w5 : Option (List ℕ) = g.W.Write.contents c.write_part.new.writer in
    let w6 : Option (List ℕ) = g.W.Write.contents c.write_mark.new.writer in
    let e2 = ap (λ (v : Opened). part_text ToListing ++ listing v.version v.code.program)
    (c.bytes-bytes.ensures.opened ∙ ap opened c.bytes-bytes.ensures.same ∙ ap (λ (v : Opened). opened v.bytes) c.as_object-object.ensures) in
    let e3 = ap (λ (h : Graph). part_text ToReport ++ report_text h.arrays run.report) c.graph.ensures.same in
    let same = c.deref-events.ensures.value ∙ ap (λ (r : Report). r.events) c.report.view_is in
    let e6 = ap large_mark (c.saturating_sub.ensures ∙ ap (λ (es : List (ℕ × Token)). length es - run.first) same) in
    sends_more c.write_mark.result w0 w5 w6 ((((t1 ++ t2) ++ t3) ++ t4) ++ t5) t6
    (appends_then w0 w4 w5 (((t1 ++ t2) ++ t3) ++ t4) t5
    (appends_then w0 w3 w4 ((t1 ++ t2) ++ t3) t4
    (appends_then w0 w2 w3 (t1 ++ t2) t3
    (appends_then w0 w1 w2 t1 t2
    (sends_from c.write_source.result w0 w1 t1 c.in_ok-write_source.was c.write_source.ensures)
    (sends_from c.write_listing.result w1 w2 t2 c.in_ok-write_listing.was (sends_same c.write_listing.result w1 w2 _ t2 e2 c.write_listing.ensures)))
    (sends_from c.write_result.result w2 w3 t3 c.in_ok-write_result.was (sends_same c.write_result.result w2 w3 _ t3 e3 c.write_result.ensures)))
    (sends_from c.write_run.result w3 w4 t4 c.in_ok-write_run.was c.write_run.ensures))
    (sends_from c.write_part.result w4 w5 t5 c.in_ok-write_part.was c.write_part.ensures))
    (sends_same c.write_mark.result w5 w6 _ t6 e6 c.write_mark.ensures)
