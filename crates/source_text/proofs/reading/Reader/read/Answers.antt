use Rattle.source.specs.Spelled.{lexeme}
use Rattle.source_text.specs.declared.parser.Stopped.{Stopped}
use Rattle.source_text.proofs.Tokens.{advances}
use Rattle.source_text.proofs.reading.Reader.read.Goals as goal

pub returns : goal.returns
returns g c =
    let token = c.args.token.now in
    let old = c.args.self.now in
    advances (λ (s : Stopped). s.kind) token.at c.in-Ok.lexeme (lexeme c.args.text.now token) c.lexeme.new.self.numbers old.names.table.items
    c.lexeme.new.self.table.items
    old.parser.stack.items old.parser.words.items c.take.new.self.stack.items c.take.new.self.words.items c.take.result
    (c.in-Ok.ensures.said c.requires.table) c.take.ensures.took c.take.ensures.shallow
