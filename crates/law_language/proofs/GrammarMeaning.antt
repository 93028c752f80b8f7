-- WHAT A SYMBOL READS: for each symbol, the tokens that it stands for and the words that result from them.
use Rattle.std.specs.Prelude.{ℕ, ◌+◌, List, [], ◌∷◌, ◌++◌, Option}
use Rattle.source.specs.declared.fault.FaultKind.{FaultKind}
use Rattle.source.specs.declared.token.Sign.TheVariants as sign
use Rattle.source.specs.declared.word.Word.TheVariants as word
use Rattle.source.specs.Tree.{Name, NameAt, Expr}
use Rattle.source.specs.Spelled.{Lexeme, Spelling, the_word, the_sign, name_at, name_token, tokens, IsPlace}
use Rattle.source.specs.Words.{Words, words}
use Rattle.law_language.specs.declared.symbol.Symbol.{Symbol}
use Rattle.law_language.specs.declared.symbol.Symbol.TheVariants.{Sign as OneSign, Keyword as OneWord, Emit, Items, ArrayName, ArrayLength, FunctionName}
use Rattle.law_language.specs.declared.symbol.Symbol.TheVariants.{Parameter, Parameters, Results, ResultCount, FunctionBody, Steps, Target as OneTarget}
use Rattle.law_language.specs.declared.symbol.Symbol.TheVariants.{Targets, LetEnd, StepEnd, Operand, Negated, After, AfterName, AfterIndex, Callee, CallEnd}
use Rattle.law_language.specs.declared.symbol.Symbol.TheVariants.{Otherwise, Bound, Start, Starts, Turn as OneTurn}
use Rattle.law_language.specs.GrammarAutomaton.{Stack, Outcome, Takes, Passes, Refuses}
use Rattle.law_language.proofs.GrammarYielded.{IsOperand, Only, Operands, Negateds, Arguments, Callees, Values, StepTails, Bodies, Branches, OneOfTargets}
use Rattle.law_language.proofs.GrammarYielded.{TargetTails, OneStart, Firsts, Turns, Bounds, Programs, OneName, OneNumber, ParameterTails, FunctionBodies}
use Rattle.law_language.proofs.GrammarYielded.{ResultsAndBodies}
use Rattle.law_language.specs.GrammarReady.{AllReady}

-- EACH SYMBOL
abbrev pub Yields : ℕ → Symbol Name → List Spelling → Words → Type 0
Yields limit (OneSign s) ss ws = Only (the_sign s ∷ []) [] ss ws
Yields limit (OneWord k) ss ws = Only (the_word k ∷ []) [] ss ws
Yields limit (Emit w) ss ws = Only [] (w ∷ []) ss ws
Yields limit Items ss ws = Programs limit ss ws
Yields limit ArrayName ss ws = OneName word.Array ss ws
Yields limit ArrayLength ss ws = OneNumber word.Length ss ws
Yields limit FunctionName ss ws = OneName word.Function ss ws
Yields limit Parameter ss ws = OneName word.Parameter ss ws
Yields limit Parameters ss ws = ParameterTails ss ws
Yields limit Results ss ws = ResultsAndBodies limit ss ws
Yields limit ResultCount ss ws = OneNumber word.Results ss ws
Yields limit FunctionBody ss ws = FunctionBodies limit ss ws
Yields limit (Steps d) ss ws = Bodies limit d ss ws
Yields limit OneTarget ss ws = OneOfTargets ss ws
Yields limit (Targets bound d) ss ws = TargetTails limit bound d ss ws
Yields limit (LetEnd bound d) ss ws = (e : Expr) → IsOperand limit 0 (d + 1) e → Values limit bound d (tokens e ++ ss) (words e ++ ws)
Yields limit (StepEnd d) ss ws = (e : Expr) → IsOperand limit 0 (d + 1) e → StepTails limit d (tokens e ++ ss) (words e ++ ws)
Yields limit (Operand m d) ss ws = Operands limit m d ss ws
Yields limit (Negated d) ss ws = Negateds limit d ss ws
Yields limit (After m k d) ss ws = (e : Expr) → IsOperand limit k d e → Operands limit m d (tokens e ++ ss) (words e ++ ws)
Yields limit (AfterName named x m d) ss ws = Operands limit m d (name_at named x ∷ ss) ws
Yields limit (AfterIndex cell a m d) ss ws = (e : Expr) → IsOperand limit 0 (d + 1) e
    → Operands limit m d (name_at cell a ∷ the_sign sign.OpenBracket ∷ tokens e ++ the_sign sign.CloseBracket ∷ ss) (word.Cell cell a ∷ words e ++ ws)
Yields limit (Callee d) ss ws = Callees limit d ss ws
Yields limit (CallEnd called strict f d) ss ws = (e : Expr) → IsOperand limit 0 (d + 1) e → Arguments limit called strict f d (tokens e ++ ss) (words e ++ ws)
Yields limit (Otherwise d) ss ws = Branches limit d ss ws
Yields limit (Bound loop d) ss ws = Bounds limit loop d ss ws
Yields limit (Start d) ss ws = OneStart limit d ss ws
Yields limit (Starts d) ss ws = (x : NameAt) (e : Expr) → IsOperand limit 0 (d + 1) e
    → Firsts limit d (name_token x ∷ the_sign sign.Equals ∷ tokens e ++ ss) (word.Start x.at x.name ∷ words e ++ ws)
Yields limit (OneTurn d) ss ws = (xs : List NameAt) → Turns limit d xs ss ws

-- Whatever the symbols of a stack read after these tokens and words, this holds of all of them.
abbrev pub Given : ℕ → Stack → (List Spelling → Words → Type 0) → List Spelling → Words → Type 0
Given limit [] K ss ws = K ss ws
Given limit (s ∷ S) K ss ws = (ts : List Spelling) (vs : Words) → Yields limit s ts vs → Given limit S K (ss ++ ts) (ws ++ vs)

-- WHAT A SYMBOL DOES WITH A TOKEN IS RIGHT: what replaces it, with the token before, is what it reads.
pub data Explains (limit : ℕ) (s : Symbol Name) (at : ℕ) (l : Lexeme) : Outcome → Type 0 where
  takes : {ws : Words} {symbols : Stack} (place : Option ℕ) → IsPlace place at → AllReady limit symbols
      → Given limit symbols (λ ss vs. Yields limit s (record { place = place; lexeme = l } ∷ ss) vs) [] ws → Explains limit s at l (Takes ws symbols)
  passes : {ws : Words} → Yields limit s [] ws → Explains limit s at l (Passes ws)
  refuses : {kind : FaultKind} → Explains limit s at l (Refuses kind)
