use Rattle.std.proofs.Common.{refl}
use Rattle.std.proofs.lemmas.Option.{slice_get-get_or}
use Rattle.std.proofs.lemmas.Result.{err_from_is_err_and}
use Rattle.sink.proofs.Sent.{sends_from, sends_other}
use Rattle.sink.proofs.Numbered.{more, stop, done}
use Rattle.map_text.specs.MapText.{code_line}
use Rattle.map_text.proofs.map.send_block.Goals as goal

pub returns-in_err-send_instr-clause-lines : goal.returns-in_err-send_instr-clause-lines
returns-in_err-send_instr-clause-lines g c =
    let p = err_from_is_err_and c.from_residual.result c.from_residual.ensures.1 in
    let l = c.loop-instr in
    rw p.1 (stop (code_line c.args.names.now c.args.code) l.instr c.args.owners.now _ p.0 _ _ _
    (slice_get-get_or c.args.owners.now l.instr _ c.loop-instr-test.true) l.invariant.appended (sends_other c.in_err-send_instr.field-0.0 p.0 _ _ _
    c.in_err-send_instr.ensures.line))

pub loop-instr-preserved : goal.loop-instr-preserved
loop-instr-preserved g c =
    let l = c.loop-instr in
    record {
      appended = more (code_line c.args.names.now c.args.code) l.instr c.args.owners.now _ _ _ _
          (slice_get-get_or c.args.owners.now l.instr _ c.loop-instr-test.true) l.invariant.appended
          (sends_from _ _ _ _ c.in_ok-send_instr.was c.send_instr.ensures.line);
      reached = c.send_instr.ensures.reached;
    }

pub returns-clause-lines : goal.returns-clause-lines
returns-clause-lines g c =
    let l = c.loop-instr in
    done (code_line c.args.names.now c.args.code) l.instr c.args.owners.now _ tt _ _ refl c.loop-instr-test.false l.invariant.appended
