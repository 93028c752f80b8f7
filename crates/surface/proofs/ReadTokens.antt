-- Texts whose bytes are no tokens, each with its fault; and comments.
use Rattle.std.specs.Prelude.{◌≡◌, [], ◌∷◌, codes, Ok, Err, refl}
use Rattle.source.specs.declared.fault.FaultKind.TheVariants.{BadByte, BadName}
use Rattle.source.specs.declared.token.Keyword.TheVariants as core_word
use Rattle.surface.specs.declared.fault.FaultKind.TheVariants.{Core, BadComment}
use Rattle.surface.specs.declared.token.Keyword.TheVariants as word
use Rattle.surface.specs.declared.token.Sign.TheVariants as sign
use Rattle.surface.specs.declared.token.TokenKind.TheVariants.{Word, Mark, Number, Name}
use Rattle.surface.specs.Tokens.{lexed}

-- a range, between numbers and names
range : lexed (codes "for i in 0..n") ≡ Ok (record { kind = Word word.For; at = 0 } ∷ record { kind = Name 1; at = 4 } ∷ record { kind = Word word.In; at = 6 }
    ∷ record { kind = Number 0; at = 9 } ∷ record { kind = Mark sign.Range; at = 10 } ∷ record { kind = Name 1; at = 12 } ∷ [])
range = refl

-- comments do not nest, and may have lines
comments : lexed (codes "a/**/b/* /* // \n */if//*\n") ≡ Ok (record { kind = Name 1; at = 0 } ∷ record { kind = Name 1; at = 5 }
    ∷ record { kind = Word (word.Core core_word.If); at = 19 } ∷ [])
comments = refl

badcomment_1 : lexed (codes "fn main(n) { /* n }") ≡ Err (record { kind = BadComment; at = 13 })
badcomment_1 = refl

badcomment_2 : lexed (codes "fn main(n) { /*/ n }") ≡ Err (record { kind = BadComment; at = 13 })
badcomment_2 = refl

badbyte_1 : lexed (codes "fn main(n) { n + . }") ≡ Err (record { kind = (Core BadByte); at = 17 })
badbyte_1 = refl

badbyte_2 : lexed (codes "fn main(n) { for i in 0..n {... } }") ≡ Err (record { kind = (Core BadByte); at = 30 })
badbyte_2 = refl

badbyte_3 : lexed (codes "fn main(n) { !n }") ≡ Err (record { kind = (Core BadByte); at = 13 })
badbyte_3 = refl

badname_1 : lexed (codes "fn main(n) { true }") ≡ Err (record { kind = (Core BadName); at = 13 })
badname_1 = refl

badname_2 : lexed (codes "fn main(n) { let match = n; n }") ≡ Err (record { kind = (Core BadName); at = 17 })
badname_2 = refl
