use Rattle.std.proofs.Common.{ℕ, List, Option, subst, sym, ap, ◌∙◌}
use Rattle.std.proofs.lemmas.Result.{err_from_is_err_and}
use Rattle.graph_file.specs.Lines.{parts}
use Rattle.sink.proofs.Sent.{sends_same}
use Rattle.json_text.specs.Json.{Object, lines_text, nothing_open, object_end, open_after, read_line, read_text}
use Rattle.json_text.proofs.Steps.{Walked, ends_with, goes_on, stops}
use Rattle.json_text.proofs.Walk.{last_line, next_line, no_line}
use Rattle.json_text.proofs.object.send_lines.Goals as goal

pub returns-then-is_last : goal.returns-then-is_last
returns-then-is_last g c =
    let l = c.loop-line in
    ends_with c.end.result (lines_text nothing_open (parts 10 c.args.text.now)) (lines_text l.object l.lines) (object_end l.object) _ _ _
    (last_line l.lines c.in-Some.rest c.in-Some.line.now l.object c.in-Some.ensures (sym c.if-is_last.ensures)) l.invariant c.end.ensures

pub returns-in_err-send_read : goal.returns-in_err-send_read
returns-in_err-send_read g c =
    let p = err_from_is_err_and c.from_residual.result c.from_residual.ensures.1 in
    let l = c.loop-line in
    let line : List ℕ = c.in-Some.line.now in
    let text : List ℕ = read_text l.object (read_line line) in
    rw p.1 (stops c.in_err-send_read.field-0.0 p.0 (lines_text nothing_open (parts 10 c.args.text.now)) (lines_text l.object l.lines) text
    (lines_text (open_after l.object (read_line line).0) c.in-Some.rest) _ _ _
    (next_line l.lines c.in-Some.rest line l.object c.in-Some.ensures (sym c.if-is_last.ensures)) l.invariant
    (sends_same _ _ _ _ text (ap (read_text l.object) c.read_line-form.ensures) c.in_err-send_read.ensures))

pub loop-line-preserved : goal.loop-line-preserved
loop-line-preserved g c =
    let l = c.loop-line in
    let line : List ℕ = c.in-Some.line.now in
    let whole : List ℕ = lines_text nothing_open (parts 10 c.args.text.now) in
    let text : List ℕ = read_text l.object (read_line line) in
    let w0 : Option (List ℕ) = g.W.Write.contents c.args.writer.now in
    let w2 : Option (List ℕ) = g.W.Write.contents c.send_read.new.writer in
    subst (λ (o : Object). Walked whole (lines_text o c.in-Some.rest) w0 w2)
    (sym (c.after-object.ensures ∙ ap (λ p. open_after l.object p.0) c.read_line-form.ensures))
    (goes_on c.send_read.result whole (lines_text l.object l.lines) text (lines_text (open_after l.object (read_line line).0) c.in-Some.rest) w0 _ w2
    (next_line l.lines c.in-Some.rest line l.object c.in-Some.ensures (sym c.if-is_last.ensures)) c.in_ok-send_read.was l.invariant
    (sends_same _ _ _ _ text (ap (read_text l.object) c.read_line-form.ensures) c.send_read.ensures))

pub returns : goal.returns
returns g c =
    let l = c.loop-line in
    ends_with c.end-2.result (lines_text nothing_open (parts 10 c.args.text.now)) (lines_text l.object l.lines) (object_end l.object) _ _ _
    (no_line l.lines l.object c.in_default.ensures) l.invariant c.end-2.ensures
