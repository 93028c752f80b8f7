-- IN CODE a symbol gives a name by its number in a table of names.
use Rattle.std.specs.Prelude.{ℕ, List, map, reverse}
use Rattle.source.specs.Tree.{Name}
use Rattle.source.specs.Words.{name_of}
use Rattle.surface.specs.Words.{named}
use Rattle.law_surface_text.specs.declared.symbol.Symbol.{Symbol}
use Rattle.law_surface_text.specs.declared.symbol.Symbol.TheVariants as symbol
use Rattle.law_surface_text.specs.Automaton.{Stack}

abbrev pub named_symbol : List Name → Symbol ℕ → Symbol Name
named_symbol names (symbol.Sign sign) = symbol.Sign sign
named_symbol names (symbol.Keyword keyword) = symbol.Keyword keyword
named_symbol names (symbol.Emit word) = symbol.Emit (named names word)
named_symbol names (symbol.Name word) = symbol.Name word
named_symbol names symbol.Items = symbol.Items
named_symbol names symbol.Parameter = symbol.Parameter
named_symbol names (symbol.AfterParameter at x) = symbol.AfterParameter at (name_of names x)
named_symbol names (symbol.Rank at x rank) = symbol.Rank at (name_of names x) rank
named_symbol names symbol.Parameters = symbol.Parameters
named_symbol names symbol.Results = symbol.Results
named_symbol names symbol.ResultCount = symbol.ResultCount
named_symbol names symbol.FunctionBody = symbol.FunctionBody
named_symbol names (symbol.Steps depth) = symbol.Steps depth
named_symbol names (symbol.ArmEnd at depth) = symbol.ArmEnd at depth
named_symbol names (symbol.StepOtherwise at depth) = symbol.StepOtherwise at depth
named_symbol names (symbol.ChainEnd at) = symbol.ChainEnd at
named_symbol names symbol.Target = symbol.Target
named_symbol names symbol.Targets = symbol.Targets
named_symbol names (symbol.StepEnd depth) = symbol.StepEnd depth
named_symbol names (symbol.Operand level depth) = symbol.Operand level depth
named_symbol names (symbol.Negated depth) = symbol.Negated depth
named_symbol names (symbol.After level left depth) = symbol.After level left depth
named_symbol names (symbol.AfterName at x level depth) = symbol.AfterName at (name_of names x) level depth
named_symbol names (symbol.AfterIndexes at x level depth) = symbol.AfterIndexes at (name_of names x) level depth
named_symbol names (symbol.Callee depth) = symbol.Callee depth
named_symbol names (symbol.Further depth) = symbol.Further depth
named_symbol names (symbol.Indexes depth) = symbol.Indexes depth
named_symbol names (symbol.Otherwise depth) = symbol.Otherwise depth
named_symbol names (symbol.Bound at depth) = symbol.Bound at depth
named_symbol names (symbol.Starts depth) = symbol.Starts depth
named_symbol names (symbol.Turn depth) = symbol.Turn depth
named_symbol names (symbol.ForBound depth) = symbol.ForBound depth
named_symbol names (symbol.AfterForName at x depth) = symbol.AfterForName at (name_of names x) depth
named_symbol names (symbol.Range depth) = symbol.Range depth
named_symbol names (symbol.Carried depth) = symbol.Carried depth

-- the stack that a vector of symbols is, whose last one is on top
abbrev pub named_stack : List Name → List (Symbol ℕ) → Stack
named_stack names symbols = reverse (map (named_symbol names) symbols)
