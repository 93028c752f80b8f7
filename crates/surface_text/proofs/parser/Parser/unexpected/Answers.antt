use Rattle.std.proofs.Common.{◌≡◌, rules}
use Rattle.source.specs.declared.token.Sign.TheVariants as core_sign
use Rattle.surface.specs.declared.token.Sign.TheVariants as sign
use Rattle.law_surface_text.specs.Named.{named_stack}
use Rattle.surface_text.specs.declared.lexeme.Lexeme.TheVariants as code
use Rattle.surface_text.proofs.Acting.{store_blamed, number_blamed}
use Rattle.surface_text.proofs.parser.Parser.unexpected.Goals as goal

pub returns-in-Mark-Core-Becomes : goal.returns-in-Mark-Core-Becomes
returns-in-Mark-Core-Becomes g c = λ names.
    let is : c.args.lexeme ≡ code.Mark (sign.Core core_sign.Becomes) = search rules in
    store_blamed names (named_stack names c.args.self.now.stack.items) c.args.lexeme c.kind_where.result is (c.kind_where.ensures names)

pub returns-then-is_largest : goal.returns-then-is_largest
returns-then-is_largest g c = λ names.
    number_blamed names (named_stack names c.args.self.now.stack.items) c.args.lexeme c.in-Number.number c.is_largest.result
    c.kind_where-then-is_largest.result c.in-Number.is c.is_largest.ensures c.if-is_largest.true (c.kind_where-then-is_largest.ensures names)
