use Rattle.std.proofs.Common.{map, drop, ap, sym}
use Rattle.std.specs.Io.Buffered.{writer_contents, writer_inner}
use Rattle.process.proofs.Explained.{answers_of, reads_of, explained_run}
use Rattle.process.proofs.Flushed.{begins}
use Rattle.process.proofs.run_from.Goals as goal

pub returns : goal.returns
returns g c =
    let words = map g.S.AsStr.text (drop 1 c.args.words.now) in
    let remaining = g.I.Read.remaining in
    let contents = g.W.Write.contents in
    let read = ap remaining c.new-reader.ensures in
    let left = ap remaining (sym c.into_inner.ensures) in
    let before = begins _ _ _ (ap contents c.in_ok-writer.ensures.inner) c.in_ok-writer.ensures.empty in
    let after = ap contents (sym c.into_parts-writer.ensures.inner) in
    record {
      answers =
          answers_of words (remaining c.new-reader.result.inner) (remaining c.args.reader) (writer_contents contents c.in_ok-writer.writer)
          (contents c.args.writer)
          (contents (writer_inner c.answer-outcome.new.writer)) (contents c.into_parts-writer.result.0) c.answer-outcome.result read before after
          c.answer-outcome.ensures;
      exit = c.exit_status.ensures;
      explains =
          explained_run g.X.Explain.accounts words _ _ _ _ (reads_of (λ i. i.now) _ _ _ _ _ c.requires left c.kept-input.ensures)
          (g.E.Write.contents c.args.errors.now) (g.E.Write.contents c.send_hint-hint_sent.new.errors) _ c.send_hint-hint_sent.ensures;
    }
