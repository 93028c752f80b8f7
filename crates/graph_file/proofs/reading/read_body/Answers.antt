use Rattle.std.proofs.Common.{◌≡◌, [], length, List, ℕ, sym, ap, inr, refl, arith}
use Rattle.graph_file.specs.Causes.{fault_kind}
use Rattle.graph_file.specs.Found.{Found}
use Rattle.graph_file.specs.Reading.{body_from, end_from}
use Rattle.graph_file.proofs.Loops.{last_line, ends_with, ends_badly, one_more, stops_at, no_line, few_parts}
use Rattle.graph_file.proofs.reading.read_body.Goals as goal

pub loop-text-init : goal.loop-text-init
loop-text-init g c =
    let start : Found = record { version = c.args.version; arrays = []; cells = 0; blocks = [] } in
    let e : c.in-Ok.found ≡ start = let h = c.in-Ok.ensures in cc in
    record {
      so_far = rw (e, c.of-lines.ensures) refl;
      room = rw c.of-lines.ensures (omega (arith, few_parts 10 c.args.body.now));
    }

pub returns-in-Ok-end : goal.returns-in-Ok-end
returns-in-Ok-end g c =
    let l = c.loop-text in
    let total = body_from c.args.version c.args.body.now in
    ends_with l.line (end_from l.state.0 l.state.1 c.in-Some.text.now) total c.in-Ok-end.whole
    (last_line l.line l.state.0 l.state.1 l.lines c.in-Some.text.now c.in-Some.rest total c.in-Some.ensures (sym c.if-has.ensures) l.invariant.so_far)
    c.in-Ok-end.ensures

pub returns-in-Err-end : goal.returns-in-Err-end
returns-in-Err-end g c =
    let l = c.loop-text in
    let total = body_from c.args.version c.args.body.now in
    ends_badly l.line (end_from l.state.0 l.state.1 c.in-Some.text.now) total (fault_kind c.in-Err-end.cause)
    (last_line l.line l.state.0 l.state.1 l.lines c.in-Some.text.now c.in-Some.rest total c.in-Some.ensures (sym c.if-has.ensures) l.invariant.so_far)
    c.in-Err-end.ensures

pub returns-in-Err-line : goal.returns-in-Err-line
returns-in-Err-line g c =
    let l = c.loop-text in
    let total = body_from c.args.version c.args.body.now in
    stops_at l.line l.state.0 l.state.1 l.lines c.in-Some.text.now c.in-Some.rest total (fault_kind c.in-Err-line.cause) c.in-Some.ensures
    (sym c.if-has.ensures) c.in-Err-line.ensures l.invariant.so_far

pub loop-text-preserved : goal.loop-text-preserved
loop-text-preserved g c =
    let l = c.loop-text in
    let total = body_from c.args.version c.args.body.now in
    record {
      so_far = one_more l.line l.state.0 l.state.1 l.lines c.in-Some.text.now c.in-Some.rest total c.in-Ok-line.next c.in-Some.ensures
          (sym c.if-has.ensures) c.in-Ok-line.ensures l.invariant.so_far;
      room = let k = ap (λ (xs : List (List ℕ)). length xs) c.in-Some.ensures in let r = l.invariant.room in omega (arith, k, r);
    }

pub returns : goal.returns
returns g c =
    let l = c.loop-text in
    inr (no_line l.line l.state.0 l.state.1 l.lines (body_from c.args.version c.args.body.now) c.in_default.ensures l.invariant.so_far)
