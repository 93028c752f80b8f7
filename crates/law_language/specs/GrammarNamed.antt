-- IN CODE a symbol gives a name by its number in a table of names.
use Rattle.std.specs.Prelude.{ℕ, List, map, reverse}
use Rattle.source.specs.Tree.{Name}
use Rattle.source.specs.Words.{name_of, named}
use Rattle.law_language.specs.declared.symbol.Symbol.{Symbol}
use Rattle.law_language.specs.declared.symbol.Symbol.TheVariants as symbol
use Rattle.law_language.specs.GrammarAutomaton.{Stack}

abbrev pub named_symbol : List Name → Symbol ℕ → Symbol Name
named_symbol names (symbol.Sign sign) = symbol.Sign sign
named_symbol names (symbol.Keyword keyword) = symbol.Keyword keyword
named_symbol names (symbol.Emit word) = symbol.Emit (named names word)
named_symbol names symbol.Items = symbol.Items
named_symbol names symbol.ArrayName = symbol.ArrayName
named_symbol names symbol.ArrayLength = symbol.ArrayLength
named_symbol names symbol.FunctionName = symbol.FunctionName
named_symbol names symbol.Parameter = symbol.Parameter
named_symbol names symbol.Parameters = symbol.Parameters
named_symbol names symbol.Results = symbol.Results
named_symbol names symbol.ResultCount = symbol.ResultCount
named_symbol names symbol.FunctionBody = symbol.FunctionBody
named_symbol names (symbol.Steps depth) = symbol.Steps depth
named_symbol names symbol.Target = symbol.Target
named_symbol names (symbol.Targets at depth) = symbol.Targets at depth
named_symbol names (symbol.LetEnd at depth) = symbol.LetEnd at depth
named_symbol names (symbol.StepEnd depth) = symbol.StepEnd depth
named_symbol names (symbol.Operand level depth) = symbol.Operand level depth
named_symbol names (symbol.Negated depth) = symbol.Negated depth
named_symbol names (symbol.After level left depth) = symbol.After level left depth
named_symbol names (symbol.AfterName at x level depth) = symbol.AfterName at (name_of names x) level depth
named_symbol names (symbol.AfterIndex at x level depth) = symbol.AfterIndex at (name_of names x) level depth
named_symbol names (symbol.Callee depth) = symbol.Callee depth
named_symbol names (symbol.CallEnd at strict x depth) = symbol.CallEnd at strict (name_of names x) depth
named_symbol names (symbol.Otherwise depth) = symbol.Otherwise depth
named_symbol names (symbol.Bound at depth) = symbol.Bound at depth
named_symbol names (symbol.Start depth) = symbol.Start depth
named_symbol names (symbol.Starts depth) = symbol.Starts depth
named_symbol names (symbol.Turn depth) = symbol.Turn depth

-- the stack that a vector of symbols is, whose last one is on top
abbrev pub named_stack : List Name → List (Symbol ℕ) → Stack
named_stack names symbols = reverse (map (named_symbol names) symbols)
