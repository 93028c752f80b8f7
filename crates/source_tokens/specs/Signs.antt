-- Signs by their length.
use Rattle.std.specs.Prelude.{List, [], ◌∷◌}
use Rattle.source.specs.declared.token.Sign.{Sign}
use Rattle.source.specs.declared.token.Sign.TheVariants.{Arrow, Becomes, ShiftLeft, ShiftRight, EqualTo, NotEqualTo, AtMost, AtLeast, Less, Greater}
use Rattle.source.specs.declared.token.Sign.TheVariants.{Equals, Plus, Minus, Star, Slash, Percent, Ampersand, Caret, Bar, Tilde, OpenParen}
use Rattle.source.specs.declared.token.Sign.TheVariants.{CloseParen, OpenBracket, CloseBracket, OpenBrace, CloseBrace, Comma, Semicolon}

-- those of two bytes
abbrev pub double_signs : List Sign
double_signs = Arrow ∷ Becomes ∷ ShiftLeft ∷ ShiftRight ∷ EqualTo ∷ NotEqualTo ∷ AtMost ∷ AtLeast ∷ []

-- those of one byte
abbrev pub single_signs : List Sign
single_signs =
    Less ∷ Greater ∷ Equals ∷ Plus ∷ Minus ∷ Star ∷ Slash ∷ Percent ∷ Ampersand ∷ Caret ∷ Bar ∷ Tilde
    ∷ OpenParen ∷ CloseParen ∷ OpenBracket ∷ CloseBracket ∷ OpenBrace ∷ CloseBrace ∷ Comma ∷ Semicolon ∷ []
