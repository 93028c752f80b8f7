use Rattle.std.proofs.Common.{map, drop, ap, sym}
use Rattle.std.specs.Io.Buffered.{writer_contents, writer_inner}
use Rattle.process.proofs.FileAnswers.{answers_read, explained_read, shown_is}
use Rattle.process.proofs.Flushed.{begins}
use Rattle.process.proofs.filed.run_read.Goals as goal

pub returns : goal.returns
returns g c =
    let words = map g.S.AsStr.text (drop 1 c.args.words.now) in
    let contents = g.W.Write.contents in
    let before = begins _ _ _ (ap contents c.in_ok-writer.ensures.inner) c.in_ok-writer.ensures.empty in
    let after = ap contents (sym c.into_parts-writer.ensures.inner) in
    record {
      answers =
          answers_read c.args.file.now words c.args.bytes.now c.input_of-input.result (writer_contents contents c.in_ok-writer.writer) (contents c.args.writer)
          (contents (writer_inner c.answer_read-outcome.new.writer)) (contents c.into_parts-writer.result.0) c.answer_read-outcome.result before after
          c.input_of-input.ensures c.answer_read-outcome.ensures;
      exit = c.exit_status.ensures;
      warned = g.E.Write.contents c.send_warnings.new.errors;
      warns = c.send_warnings.ensures;
      explains =
          explained_read g.X.Explain.accounts words c.args.bytes.now c.shown_of-shown.result.now c.args.file.now c.answer_read-outcome.result
          (shown_is c.args.file.now c.args.bytes.now c.shown_of-shown.result.now c.input_of-input.result c.input_of-input.ensures c.shown_of-shown.ensures)
          (g.E.Write.contents c.send_warnings.new.errors) (g.E.Write.contents c.send_hint-hint_sent.new.errors) c.send_hint-hint_sent.result
          c.send_hint-hint_sent.ensures;
    }
