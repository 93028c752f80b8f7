-- WHAT TREES ARE READ: trees where so many are open around them, with their tokens and words. What has begun before is a
-- hypothesis elsewhere: an operand before an operator, the first expression of a list before its end.
use Rattle.std.specs.Prelude.{◌≡◌, ℕ, ◌+◌, ◌≤◌, ◌⊎◌, Bool, true, false, List, [], ◌∷◌, ◌++◌, map, length, Option}
use Rattle.operators.specs.declared.Unary.TheVariants.{Neg}
use Rattle.source.specs.declared.token.Sign.TheVariants as sign
use Rattle.source.specs.declared.word.Word.{Word}
use Rattle.source.specs.declared.word.Word.TheVariants as word
use Rattle.source.specs.Tree.{Name, NameAt, NumberAt, Target, Expr, Exprs, Body, Do, Give, Turn, Program, names_of}
use Rattle.source.specs.Spelled.{Spelling, the_sign, sign_at, number_at, name_at, name_token, target_token, is_chain, braced, tokens, list_tokens, first_tokens}
use Rattle.source.specs.Spelled.{body_tokens, turn_tokens, result_tokens, program_tokens}
use Rattle.source.specs.Fits.{level, Small, IsLeast, count, Fits, FitsAll, FitsBody, FitsTurn, IsSmall, FitsProgram, prefix_depth, depth, list_depth}
use Rattle.source.specs.Fits.{body_depth, turn_depth, program_depth}
use Rattle.source.specs.Words.{Words, target_word, words, part_words, first_words, body_words, turn_words, result_words, program_words}

-- TREES WHERE SO MANY ARE OPEN AROUND THEM
pub record IsOperand (limit m d : ℕ) (e : Expr) : Type 0 where
  pub fits : Fits e
  pub at_least : m ≤ level e
  pub deep : d + depth e ≤ limit

pub record IsNegated (limit d : ℕ) (e : Expr) : Type 0 where
  pub fits : Fits e ⊎ IsLeast Neg e
  pub at_least : 8 ≤ level e
  pub deep : d + prefix_depth Neg e (depth e) ≤ limit

pub record AreAll (limit d : ℕ) (es : Exprs) : Type 0 where
  pub fits : FitsAll es
  pub deep : d + list_depth es ≤ limit

pub record IsBody (limit : ℕ) (behind_else : Bool) (d : ℕ) (b : Body) : Type 0 where
  pub fits : FitsBody behind_else b
  pub deep : d + body_depth b ≤ limit

pub record IsTurn (limit d : ℕ) (t : Turn) : Type 0 where
  pub fits : FitsTurn t
  pub deep : d + turn_depth t ≤ limit

-- WHAT THEIR TOKENS AND WORDS ARE
pub record Only (ss₀ : List Spelling) (ws₀ : Words) (ss : List Spelling) (ws : Words) : Type 0 where
  pub spelled : ss ≡ ss₀
  pub says : ws ≡ ws₀

pub record Operands (limit m d : ℕ) (ss : List Spelling) (ws : Words) : Type 0 where
  pub e : Expr
  pub ok : IsOperand limit m d e
  pub spelled : tokens e ≡ ss
  pub says : words e ≡ ws

pub record Negateds (limit d : ℕ) (ss : List Spelling) (ws : Words) : Type 0 where
  pub e : Expr
  pub ok : IsNegated limit d e
  pub spelled : tokens e ≡ ss
  pub says : words e ≡ ws

-- the arguments of a call, and its end
pub record Arguments (limit called : ℕ) (strict : Bool) (f : Name) (d : ℕ) (ss : List Spelling) (ws : Words) : Type 0 where
  pub es : Exprs
  pub ok : AreAll limit d es
  pub spelled : list_tokens es ++ the_sign sign.CloseParen ∷ [] ≡ ss
  pub says : part_words es ++ word.Call called strict f ∷ [] ≡ ws

pub record Callees (limit d : ℕ) (ss : List Spelling) (ws : Words) : Type 0 where
  pub at : ℕ
  pub f : Name
  pub es : Exprs
  pub ok : AreAll limit d es
  pub spelled : name_at at f ∷ the_sign sign.OpenParen ∷ list_tokens es ++ the_sign sign.CloseParen ∷ [] ≡ ss
  pub says : word.Callee at f ∷ word.List ∷ part_words es ++ word.Call at true f ∷ [] ≡ ws

-- the values of a `let`, and the rest of the body
pub record Values (limit bound d : ℕ) (ss : List Spelling) (ws : Words) : Type 0 where
  pub es : Exprs
  pub rest : Body
  pub ok : AreAll limit d es
  pub rest_ok : IsBody limit false d rest
  pub spelled : list_tokens es ++ the_sign sign.Semicolon ∷ body_tokens rest ≡ ss
  pub says : part_words es ++ word.EndLet bound ∷ body_words rest ≡ ws

-- how a list that begins a step or is the last of a body goes on
pub data Ending (limit d : ℕ) : Type 0 where
  Further : (rest : Body) → IsBody limit false d rest → Ending limit d
  Last : Ending limit d

abbrev pub ending_tokens : (limit d : ℕ) → Ending limit d → List Spelling
ending_tokens limit d (Further b ok) = the_sign sign.Semicolon ∷ body_tokens b
ending_tokens limit d Last = the_sign sign.CloseBrace ∷ []

abbrev pub ending_words : (limit d : ℕ) → Ending limit d → Words
ending_words limit d (Further b ok) = word.Do ∷ body_words b
ending_words limit d Last = word.Give ∷ []

abbrev pub body_of : (limit d : ℕ) → Exprs → Ending limit d → Body
body_of limit d es (Further b ok) = Do es b
body_of limit d es Last = Give es

pub record StepTails (limit d : ℕ) (ss : List Spelling) (ws : Words) : Type 0 where
  pub es : Exprs
  pub ok : AreAll limit d es
  pub ending : Ending limit d
  pub spelled : list_tokens es ++ ending_tokens limit d ending ≡ ss
  pub says : part_words es ++ ending_words limit d ending ≡ ws

pub record Bodies (limit d : ℕ) (ss : List Spelling) (ws : Words) : Type 0 where
  pub b : Body
  pub ok : IsBody limit false d b
  pub spelled : body_tokens b ≡ ss
  pub says : body_words b ≡ ws

pub record Branches (limit d : ℕ) (ss : List Spelling) (ws : Words) : Type 0 where
  pub b : Body
  pub ok : IsBody limit true d b
  pub spelled : braced (is_chain b) (body_tokens b) ≡ ss
  pub says : body_words b ≡ ws

pub record OneOfTargets (ss : List Spelling) (ws : Words) : Type 0 where
  pub t : Target
  pub spelled : ss ≡ target_token t ∷ []
  pub says : ws ≡ target_word t ∷ []

-- further tokens of a list, each after a comma
abbrev pub further : List Spelling → List Spelling
further [] = []
further (s ∷ ss) = the_sign sign.Comma ∷ s ∷ further ss

pub record TargetTails (limit bound d : ℕ) (ss : List Spelling) (ws : Words) : Type 0 where
  pub ts : List Target
  pub es : Exprs
  pub rest : Body
  pub ok : AreAll limit d es
  pub rest_ok : IsBody limit false d rest
  pub spelled : further (map target_token ts) ++ the_sign sign.Equals ∷ list_tokens es ++ the_sign sign.Semicolon ∷ body_tokens rest ≡ ss
  pub says : map target_word ts ++ word.List ∷ part_words es ++ word.EndLet bound ∷ body_words rest ≡ ws

pub record OneStart (limit d : ℕ) (ss : List Spelling) (ws : Words) : Type 0 where
  pub x : NameAt
  pub e : Expr
  pub ok : IsOperand limit 0 (d + 1) e
  pub spelled : name_token x ∷ the_sign sign.Equals ∷ tokens e ≡ ss
  pub says : word.Start x.at x.name ∷ words e ≡ ws

pub record Firsts (limit d : ℕ) (ss : List Spelling) (ws : Words) : Type 0 where
  pub x : NameAt
  pub xs : List NameAt
  pub es : Exprs
  pub ok : AreAll limit d es
  pub many : count es ≡ length (x ∷ xs)
  pub spelled : first_tokens (x ∷ xs) es ++ the_sign sign.CloseParen ∷ [] ≡ ss
  pub says : first_words (x ∷ xs) es ≡ ws

-- a turn of a loop with these names
pub record Turns (limit d : ℕ) (xs : List NameAt) (ss : List Spelling) (ws : Words) : Type 0 where
  pub t : Turn
  pub ok : IsTurn limit d t
  pub names : names_of t ≡ xs
  pub spelled : turn_tokens t ≡ ss
  pub says : turn_words t ≡ ws

pub record Bounds (limit loop d : ℕ) (ss : List Spelling) (ws : Words) : Type 0 where
  pub bound : NumberAt
  pub firsts : Exprs
  pub t : Turn
  pub small : Small bound.number
  pub ok : AreAll limit d firsts
  pub many : count firsts ≡ length (names_of t)
  pub turn_ok : IsTurn limit d t
  pub spelled : number_at bound.at bound.number ∷ the_sign sign.OpenParen ∷ first_tokens (names_of t) firsts ++ the_sign sign.CloseParen ∷ turn_tokens t ≡ ss
  pub says : word.Bound bound.at bound.number ∷ first_words (names_of t) firsts ++ turn_words t ++ word.EndLoop loop bound.number ∷ [] ≡ ws

pub record Programs (limit : ℕ) (ss : List Spelling) (ws : Words) : Type 0 where
  pub p : Program
  pub fits : FitsProgram p
  pub deep : program_depth p ≤ limit
  pub spelled : program_tokens p ≡ ss
  pub says : program_words p ≡ ws

pub record OneName (w : ℕ → Name → Word Name) (ss : List Spelling) (ws : Words) : Type 0 where
  pub x : NameAt
  pub spelled : ss ≡ name_token x ∷ []
  pub says : ws ≡ w x.at x.name ∷ []

pub record OneNumber (w : ℕ → ℕ → Word Name) (ss : List Spelling) (ws : Words) : Type 0 where
  pub n : NumberAt
  pub small : Small n.number
  pub spelled : ss ≡ number_at n.at n.number ∷ []
  pub says : ws ≡ w n.at n.number ∷ []

pub record ParameterTails (ss : List Spelling) (ws : Words) : Type 0 where
  pub xs : List NameAt
  pub spelled : further (map name_token xs) ++ the_sign sign.CloseParen ∷ [] ≡ ss
  pub says : map (λ (x : NameAt). word.Parameter x.at x.name) xs ≡ ws

pub record FunctionBodies (limit : ℕ) (ss : List Spelling) (ws : Words) : Type 0 where
  pub at : ℕ
  pub b : Body
  pub ok : IsBody limit false 0 b
  pub spelled : sign_at at sign.OpenBrace ∷ body_tokens b ≡ ss
  pub says : word.Body at ∷ body_words b ≡ ws

pub record ResultsAndBodies (limit : ℕ) (ss : List Spelling) (ws : Words) : Type 0 where
  pub results : Option NumberAt
  pub at : ℕ
  pub b : Body
  pub small : IsSmall results
  pub ok : IsBody limit false 0 b
  pub spelled : result_tokens results ++ sign_at at sign.OpenBrace ∷ body_tokens b ≡ ss
  pub says : result_words results ++ word.Body at ∷ body_words b ≡ ws
