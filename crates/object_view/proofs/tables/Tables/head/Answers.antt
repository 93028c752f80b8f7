use Rattle.std.proofs.Common.{◌*◌, ◌+◌, ◌∙◌, arith}
use Rattle.object_view.proofs.CodeWords.{word_after}
use Rattle.object_view.proofs.tables.Tables.head.Goals as goal

pub returns : goal.returns
returns c =
    let s = c.args.self.now in
    c.word_at.ensures ∙ word_after s.bytes.now s.code.now (6 + s.blocks) (2 * c.args.ip) _ s.code_follows (omega (arith, s.blocks_parsed))
