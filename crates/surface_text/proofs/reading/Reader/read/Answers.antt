use Rattle.surface.specs.Spelled.{lexeme}
use Rattle.surface_text.specs.declared.parser.Stopped.{Stopped}
use Rattle.surface_text.proofs.Tokens.{advances}
use Rattle.surface_text.proofs.reading.Reader.read.Goals as goal

pub returns : goal.returns
returns g c =
    let token = c.args.token.now in
    let old = c.args.self.now in
    advances (λ (s : Stopped). s.kind) token.at c.in-Ok.lexeme (lexeme c.args.text.now token) c.lexeme.new.self.numbers old.names.table.items
    c.lexeme.new.self.table.items
    old.parser.stack.items old.parser.words.items c.read.new.self.stack.items c.read.new.self.words.items c.read.result
    (c.in-Ok.ensures.said c.requires.table) c.read.ensures.took c.read.ensures.shallow
