use Rattle.std.proofs.Common.{◌≡◌, refl, sym, ap, ◌∙◌, arith}
use Rattle.graph_file.proofs.Loops.{few_parts}
use Rattle.assembler.specs.Causes.{fault_kind}
use Rattle.assembler.specs.Reading.{nothing, line_from, end_from, text_from}
use Rattle.assembler.proofs.Placed.{reads_on, reads_to_end, ended_well, ended_badly, stopped, fewer}
use Rattle.assembler.proofs.reading.read_text.Goals as goal

pub loop-bytes-init : goal.loop-bytes-init
unfolding text_from
loop-bytes-init g c =
    let e : c.in-Ok.found ≡ nothing = let h = c.in-Ok.ensures in cc in
    record { so_far = rw (e, c.of-lines.ensures) refl; room = rw c.of-lines.ensures (omega (arith, few_parts 10 c.args.text.now)) }

pub returns-in-Err-line : goal.returns-in-Err-line
returns-in-Err-line g c =
    let l = c.loop-bytes in
    stopped l.line l.state.0 l.state.1 l.lines c.in-Some.rest c.in-Some.bytes.now (fault_kind c.in-Err-line.cause) _ c.in-Some.ensures
    (rw (← c.of.ensures) c.in-Err-line.ensures) l.invariant.so_far

pub loop-bytes-preserved : goal.loop-bytes-preserved
loop-bytes-preserved g c =
    let l = c.loop-bytes in
    record {
      so_far = reads_on l.line l.state.0 l.state.1 l.lines c.in-Some.rest c.in-Some.bytes.now c.in-Ok-line.next _ c.in-Some.ensures
          (ap (line_from l.state.0 l.state.1) (sym c.of.ensures) ∙ c.in-Ok-line.ensures) l.invariant.so_far;
      room = fewer l.line l.lines c.in-Some.rest c.in-Some.bytes.now _ c.in-Some.ensures l.invariant.room;
    }

pub returns-in-Ok-end : goal.returns-in-Ok-end
returns-in-Ok-end g c =
    let l = c.loop-bytes in
    ended_well l.line (end_from l.state.0 l.state.1) _ _ (reads_to_end l.line l.state.0 l.state.1 l.lines _ c.in_default.ensures l.invariant.so_far)
    c.in-Ok-end.ensures

pub returns-in-Err-end : goal.returns-in-Err-end
returns-in-Err-end g c =
    let l = c.loop-bytes in
    ended_badly l.line (end_from l.state.0 l.state.1) _ (fault_kind c.in-Err-end.cause) (reads_to_end l.line l.state.0 l.state.1 l.lines _
    c.in_default.ensures l.invariant.so_far) c.in-Err-end.ensures
