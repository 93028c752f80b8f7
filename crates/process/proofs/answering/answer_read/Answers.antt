use Rattle.std.specs.Io.Buffered.{writer_buffer, writer_contents, writer_inner}
use Rattle.process.proofs.Flushed.{flushes}
use Rattle.process.proofs.answering.answer_read.Goals as goal

pub returns : goal.returns
returns g c =
    let all = writer_contents g.W.Write.contents c.answer_mapped-served.new.writer in
    let new = c.flushed.new.writer in (
      all,
      c.answer_mapped-served.result,
      c.answer_mapped-served.ensures,
      flushes all (g.W.Write.contents (writer_inner new)) (writer_buffer new) c.answer_mapped-served.result c.flushed.result c.flushed.ensures.kept
          c.flushed.ensures.whole,
    )
