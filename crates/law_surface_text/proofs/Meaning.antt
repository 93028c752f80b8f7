-- WHAT A SYMBOL READS: parts of trees, with their tokens and words; where a symbol goes on with what was before it, what that
-- becomes.
use Rattle.std.specs.Prelude.{◌≡◌, ℕ, suc, ◌+◌, ◌≤◌, ◌⊎◌, Bool, true, false, IsTrue, List, [], ◌∷◌, ◌++◌, map, length, replicate, Option, Some, ⊤}
use Rattle.operators.specs.declared.Unary.TheVariants.{Neg}
use Rattle.source.specs.declared.token.Sign.TheVariants as core_sign
use Rattle.source.specs.declared.token.Keyword.TheVariants as core_keyword
use Rattle.source.specs.declared.word.Word.TheVariants as core_word
use Rattle.source.specs.Tree.{Name, NameAt, Target as ATarget}
use Rattle.source.specs.Spelled.{IsPlace}
use Rattle.surface.specs.declared.token.Keyword.TheVariants as keyword
use Rattle.surface.specs.declared.token.Sign.TheVariants as sign
use Rattle.surface.specs.declared.word.Word.TheVariants as word
use Rattle.surface.specs.Tree.{Count, Expr, Exprs, Body, Tests, Turn as ATurn, Carried as ACarried, Param, Program, names_of}
use Rattle.surface.specs.Spelled.{Lexeme, Spelling, the_word, the_sign, a_word, a_sign, sign_at, word_at, name_at, name_token, target_token}
use Rattle.surface.specs.Spelled.{count_token, count_tokens, is_chain, braced, tokens, list_tokens, first_tokens, body_tokens, tests_tokens, turn_tokens}
use Rattle.surface.specs.Spelled.{carried_tokens, rank_tokens, param_tokens, result_tokens, program_tokens}
use Rattle.surface.specs.Fits.{level, is_if, count, IsLeast, IsSmall, IsSmallIfWritten, Fits, FitsAll, FitsBody, FitsTests, FitsTurn, FitsCarried, FitsProgram}
use Rattle.surface.specs.Fits.{prefix_depth, depth, list_depth, body_depth, tests_depth, turn_depth, carried_depth, program_depth}
use Rattle.surface.specs.Words.{Words, of_core, target_word, bound_word, bound_words, end_loop, words, part_words, index_words, first_words, body_words}
use Rattle.surface.specs.Words.{tests_words, turn_words, carried_words, result_words, ranked_word, param_word, program_words}
use Rattle.law_surface_text.specs.declared.symbol.Symbol.{Symbol}
use Rattle.law_surface_text.specs.declared.symbol.Symbol.TheVariants.{Sign as OneSign, Keyword as OneWord, Emit, Name as OneName, Items, Parameter}
use Rattle.law_surface_text.specs.declared.symbol.Symbol.TheVariants.{AfterParameter, Rank, Parameters, Results, ResultCount, FunctionBody, Steps, ArmEnd}
use Rattle.law_surface_text.specs.declared.symbol.Symbol.TheVariants.{StepOtherwise, ChainEnd, Target, Targets, StepEnd, Operand, Negated, After, AfterName}
use Rattle.law_surface_text.specs.declared.symbol.Symbol.TheVariants.{AfterIndexes, Callee, Further, Indexes, Otherwise, Bound, Starts, Turn, ForBound}
use Rattle.law_surface_text.specs.declared.symbol.Symbol.TheVariants.{AfterForName, Range, Carried}
use Rattle.law_surface_text.specs.Automaton.{Stack, Outcome, Takes, Passes, Lacks, Refuses, name_word}
use Rattle.law_surface_text.specs.Ready.{AllReady}

-- PARTS OF TREES, with at most `limit` open where `d` are around them
pub record IsExpr (limit d : ℕ) (e : Expr) : Type 0 where
  pub fits : Fits e
  pub deep : d + depth e ≤ limit

pub record AreAll (limit d : ℕ) (es : Exprs) : Type 0 where
  pub fits : FitsAll es
  pub deep : d + list_depth es ≤ limit

pub record Ops (limit m d : ℕ) : Type 0 where
  pub e : Expr
  pub is : IsExpr limit d e
  pub at_least : m ≤ level e

pub record Negs (limit d : ℕ) : Type 0 where
  pub e : Expr
  pub fits : Fits e ⊎ IsLeast Neg e
  pub at_least : 11 ≤ level e
  pub deep : d + prefix_depth Neg e (depth e) ≤ limit

pub record Bodies (limit : ℕ) (behind : Bool) (d : ℕ) : Type 0 where
  pub b : Body
  pub fits : FitsBody behind b
  pub deep : d + body_depth b ≤ limit

pub record Callees (limit d : ℕ) : Type 0 where
  pub at : ℕ
  pub f : Name
  pub es : Exprs
  pub are : AreAll limit d es

pub record Counts : Type 0 where
  pub n : Count
  pub small : IsSmall n

pub record CountsIfWritten : Type 0 where
  pub n : Option Count
  pub small : IsSmallIfWritten n

pub record FunctionBodies (limit : ℕ) : Type 0 where
  pub at : ℕ
  pub body : Bodies limit false 0

pub record Programs (limit : ℕ) : Type 0 where
  pub p : Program
  pub fits : FitsProgram p
  pub deep : program_depth p ≤ limit

pub record Loops (limit d : ℕ) : Type 0 where
  pub bound : Count
  pub firsts : Exprs
  pub turn : ATurn
  pub small : IsSmall bound
  pub are : AreAll limit d firsts
  pub many : count firsts ≡ length (names_of turn)
  pub fits : FitsTurn turn
  pub deep : d + turn_depth turn ≤ limit

pub record Carries (limit d : ℕ) : Type 0 where
  pub c : ACarried
  pub fits : FitsCarried c
  pub deep : d + carried_depth c ≤ limit

pub record Ranges (limit d : ℕ) : Type 0 where
  pub first : Ops limit 0 (d + 1)
  pub end : Ops limit 0 (d + 1)
  pub carries : Carries limit d
  pub body : Bodies limit false d

pub record Fors (limit d : ℕ) : Type 0 where
  pub bound : CountsIfWritten
  pub i : NameAt
  pub range : Ranges limit d

abbrev pub range_tokens : {limit d : ℕ} → Ranges limit d → List Spelling
range_tokens r = the_word keyword.In ∷ tokens r.first.e ++ the_sign sign.Range ∷ tokens r.end.e ++ carried_tokens r.carries.c
    ++ a_sign core_sign.OpenBrace ∷ body_tokens r.body.b

abbrev pub range_words : {limit d : ℕ} → Ranges limit d → Words
range_words r = words r.first.e ++ word.Range ∷ words r.end.e ++ word.EndRange ∷ carried_words r.carries.c ++ word.Turns ∷ body_words r.body.b

abbrev pub for_tokens : {limit d : ℕ} → Fors limit d → List Spelling
for_tokens f = count_tokens f.bound.n ++ name_token f.i ∷ range_tokens f.range

abbrev pub for_words : {limit d : ℕ} → Fors limit d → Words
for_words f = bound_words f.bound.n ++ word.Counter f.i.at f.i.name ∷ range_words f.range

-- AN `if` that begins a step: one that lacks its last `else`, or not
abbrev pub Branching : Bool → Type 0
Branching true = Tests
Branching false = (e : Expr) × IsTrue (is_if e)

abbrev pub branching_tokens : (lacks : Bool) → Branching lacks → List Spelling
branching_tokens true t = tests_tokens t
branching_tokens false e = tokens e.0

abbrev pub branching_words : (lacks : Bool) → Branching lacks → Words
branching_words true t = tests_words t
branching_words false e = words e.0

abbrev pub FitsBranching : (lacks : Bool) → Branching lacks → Type 0
FitsBranching true t = FitsTests t
FitsBranching false e = Fits e.0

abbrev pub branching_depth : (lacks : Bool) → Branching lacks → ℕ
branching_depth true t = tests_depth t
branching_depth false e = depth e.0

-- WHAT IS MADE of what was before and these tokens and words
pub record Operands (limit m d : ℕ) (ss : List Spelling) (ws : Words) : Type 0 where
  pub of : Ops limit m d
  pub spelled : tokens of.e ≡ ss
  pub says : words of.e ≡ ws

pub record Lists (limit d : ℕ) (W : Exprs → Words) (ss : List Spelling) (ws : Words) : Type 0 where
  pub es : Exprs
  pub are : AreAll limit d es
  pub spelled : list_tokens es ≡ ss
  pub says : W es ≡ ws

pub record Firsts (limit d : ℕ) (ss : List Spelling) (ws : Words) : Type 0 where
  pub x : NameAt
  pub xs : List NameAt
  pub es : Exprs
  pub are : AreAll limit d es
  pub many : count es ≡ suc (length xs)
  pub spelled : first_tokens (x ∷ xs) es ≡ ss
  pub says : first_words (x ∷ xs) es ≡ ws

pub record Turns (limit d : ℕ) (xs : List NameAt) (ss : List Spelling) (ws : Words) : Type 0 where
  pub turn : ATurn
  pub names : names_of turn ≡ xs
  pub fits : FitsTurn turn
  pub deep : d + turn_depth turn ≤ limit
  pub spelled : turn_tokens turn ≡ ss
  pub says : turn_words turn ≡ ws

pub record Ends (limit d : ℕ) (ss : List Spelling) (ws : Words) : Type 0 where
  pub of : Bodies limit false d
  pub spelled : body_tokens of.b ≡ ss
  pub says : body_words of.b ≡ ws

pub record ForHeads (limit d : ℕ) (ss : List Spelling) (ws : Words) : Type 0 where
  pub of : Fors limit d
  pub spelled : for_tokens of ≡ ss
  pub says : for_words of ≡ ws

pub record Branches (limit d : ℕ) (lacks : Bool) (ss : List Spelling) (ws : Words) : Type 0 where
  pub of : Branching lacks
  pub fits : FitsBranching lacks of
  pub deep : d + branching_depth lacks of ≤ limit
  pub spelled : branching_tokens lacks of ≡ ss
  pub says : branching_words lacks of ≡ ws

-- the dimensions of a parameter, of which so many brackets and commas were read
pub record Ranks (at : ℕ) (x : Name) (n : ℕ) (ss : List Spelling) (ws : Words) : Type 0 where
  pub more : ℕ
  pub spelled : replicate more (a_sign core_sign.Comma) ++ a_sign core_sign.CloseBracket ∷ [] ≡ ss
  pub says : word.ArrayParameter at x (n + more) ∷ [] ≡ ws

pub record Parameters1 (at : ℕ) (x : Name) (ss : List Spelling) (ws : Words) : Type 0 where
  pub rank : ℕ
  pub spelled : rank_tokens rank ≡ ss
  pub says : ranked_word (record { at = at; name = x }) rank ∷ [] ≡ ws

-- each with a comma before it
abbrev pub after_commas : List (List Spelling) → List Spelling
after_commas [] = []
after_commas (ts ∷ tss) = a_sign core_sign.Comma ∷ ts ++ after_commas tss

-- A SORT OF PARTS: whether what ended lacks its `else`, and its tokens and words
pub record Sort : Type 1 where
  pub Of : Type 0
  pub lacks : Of → Bool
  pub spelled : Of → List Spelling
  pub says : Of → Words

abbrev pub sort : (A : Type 0) → (A → List Spelling) → (A → Words) → Sort
sort A ss ws = record { Of = A; lacks = λ a. false; spelled = ss; says = ws }

abbrev pub literal : Bool → List Spelling → Words → Sort
literal lacks ss ws = record { Of = ⊤; lacks = λ a. lacks; spelled = λ a. ss; says = λ a. ws }

pub record Rest (R : List Spelling → Words → Type 0) : Type 0 where
  pub ss : List Spelling
  pub ws : Words
  pub is : R ss ws

abbrev pub rest : (R : List Spelling → Words → Type 0) → Sort
rest R = sort (Rest R) (λ r. r.ss) (λ r. r.ws)

pub record Ended (R : Bool → List Spelling → Words → Type 0) : Type 0 where
  pub lacks : Bool
  pub ss : List Spelling
  pub ws : Words
  pub is : R lacks ss ws

abbrev pub end : (R : Bool → List Spelling → Words → Type 0) → Sort
end R = record { Of = Ended R; lacks = λ r. r.lacks; spelled = λ r. r.ss; says = λ r. r.ws }

-- EACH SYMBOL
-- what follows an arm of an `if` that begins a step
abbrev pub AfterArm : ℕ → ℕ → ℕ → Bool → List Spelling → Words → Type 0
AfterArm limit begun d lacks ss ws = (p : Expr) → IsExpr limit (d + 2) p → (b : Bodies limit false (d + 1))
    → Branches limit d lacks (word_at begun (keyword.Core core_keyword.If) ∷ tokens p ++ a_sign core_sign.OpenBrace ∷ body_tokens b.b ++ ss)
    (words p ++ of_core core_word.Then ∷ body_words b.b ++ ws)

abbrev pub AfterElse : ℕ → ℕ → ℕ → Bool → List Spelling → Words → Type 0
AfterElse limit begun d lacks ss ws = AfterArm limit begun d lacks (a_word core_keyword.Else ∷ ss) (of_core core_word.Else ∷ ws)

abbrev pub AfterOperand : ℕ → ℕ → ℕ → ℕ → List Spelling → Words → Type 0
AfterOperand limit m k d ss ws = (e : Expr) → IsExpr limit d e → k ≤ level e → m ≤ level e → Operands limit m d (tokens e ++ ss) (words e ++ ws)

abbrev pub AfterPart : ℕ → ℕ → (Exprs → Words) → List Spelling → Words → Type 0
AfterPart limit d W ss ws = (e : Expr) → IsExpr limit (d + 1) e → Lists limit d W (tokens e ++ ss) (words e ++ ws)

abbrev pub meaning : ℕ → Symbol Name → Sort
meaning limit (OneSign s) = literal false (the_sign s ∷ []) []
meaning limit (OneWord k) = literal false (a_word k ∷ []) []
meaning limit (Emit w) = literal false [] (w ∷ [])
meaning limit (OneName w) = sort NameAt (λ (x : NameAt). name_token x ∷ []) (λ (x : NameAt). name_word w x.at x.name ∷ [])
meaning limit Items = sort (Programs limit) (λ p. program_tokens p.p) (λ p. program_words p.p)
meaning limit Parameter = sort Param (λ p. param_tokens p) (λ p. param_word p ∷ [])
meaning limit (AfterParameter at x) = rest (Parameters1 at x)
meaning limit (Rank at x n) = rest (Ranks at x n)
meaning limit Parameters = sort (List Param) (λ ps. after_commas (map param_tokens ps)) (λ ps. map param_word ps)
meaning limit Results = sort CountsIfWritten (λ n. result_tokens n.n) (λ n. result_words n.n)
meaning limit ResultCount = sort Counts (λ n. count_token n.n ∷ []) (λ n. result_words (Some n.n))
meaning limit FunctionBody = sort (FunctionBodies limit) (λ f. sign_at f.at (sign.Core core_sign.OpenBrace) ∷ body_tokens f.body.b)
    (λ f. of_core (core_word.Body f.at) ∷ body_words f.body.b)
meaning limit (Steps d) = sort (Bodies limit false d) (λ b. body_tokens b.b) (λ b. body_words b.b)
meaning limit (ArmEnd begun d) = end (AfterArm limit begun d)
meaning limit (StepOtherwise begun d) = end (AfterElse limit begun d)
meaning limit (ChainEnd begun) = literal false [] (of_core core_word.Chain ∷ of_core (core_word.EndIf begun) ∷ [])
meaning limit Target = sort ATarget (λ t. target_token t ∷ []) (λ t. target_word t ∷ [])
meaning limit Targets = sort (List ATarget) (λ ts. after_commas (map (λ t. target_token t ∷ []) ts)) (λ ts. map target_word ts)
meaning limit (StepEnd d) = rest (λ ss ws. (es : Exprs) → AreAll limit d es → Ends limit d (list_tokens es ++ ss) (of_core core_word.List ∷ part_words es ++ ws))
meaning limit (Operand m d) = sort (Ops limit m d) (λ o. tokens o.e) (λ o. words o.e)
meaning limit (Negated d) = sort (Negs limit d) (λ o. tokens o.e) (λ o. words o.e)
meaning limit (After m k d) = rest (AfterOperand limit m k d)
meaning limit (AfterName at x m d) = rest (λ ss ws. Operands limit m d (name_at at x ∷ ss) ws)
meaning limit (AfterIndexes at a m d) = rest (λ ss ws. (es : Exprs) → AreAll limit d es
    → Operands limit m d (name_at at a ∷ a_sign core_sign.OpenBracket ∷ list_tokens es ++ a_sign core_sign.CloseBracket ∷ ss)
    (of_core (core_word.Cell at a) ∷ index_words es ++ ws))
meaning limit (Callee d) = sort (Callees limit d)
    (λ c. name_at c.at c.f ∷ a_sign core_sign.OpenParen ∷ list_tokens c.es ++ a_sign core_sign.CloseParen ∷ [])
    (λ c. of_core (core_word.Callee c.at c.f) ∷ of_core core_word.List ∷ part_words c.es ++ of_core (core_word.Call c.at true c.f) ∷ [])
meaning limit (Further d) = rest (AfterPart limit d part_words)
meaning limit (Indexes d) = rest (AfterPart limit d index_words)
meaning limit (Otherwise d) = sort (Bodies limit true d) (λ b. braced (is_chain b.b) (body_tokens b.b)) (λ b. body_words b.b)
meaning limit (Bound loop d) = sort (Loops limit d)
    (λ l. count_token l.bound ∷ a_sign core_sign.OpenParen ∷ first_tokens (names_of l.turn) l.firsts ++ a_sign core_sign.CloseParen ∷ turn_tokens l.turn)
    (λ l. bound_word l.bound ∷ first_words (names_of l.turn) l.firsts ++ turn_words l.turn ++ end_loop loop l.bound ∷ [])
meaning limit (Starts d) = rest (λ ss ws. (x : NameAt) (e : Expr) → IsExpr limit (d + 1) e
    → Firsts limit d (name_token x ∷ a_sign core_sign.Equals ∷ tokens e ++ ss) (of_core (core_word.Start x.at x.name) ∷ words e ++ ws))
meaning limit (Turn d) = rest (λ ss ws. (xs : List NameAt) → Turns limit d xs ss ws)
meaning limit (ForBound d) = sort (Fors limit d) (λ f. for_tokens f) (λ f. for_words f)
meaning limit (AfterForName at x d) = rest (λ ss ws. ForHeads limit d (name_at at x ∷ ss) ws)
meaning limit (Range d) = sort (Ranges limit d) (λ r. range_tokens r) (λ r. range_words r)
meaning limit (Carried d) = sort (Carries limit d) (λ c. carried_tokens c.c) (λ c. carried_words c.c)

-- after an `if` without its `else`
abbrev pub lacking_meaning : ℕ → Symbol Name → Sort
lacking_meaning limit (ChainEnd begun) = literal true [] (word.EndWhen begun ∷ [])
lacking_meaning limit (After m k d) = literal true [] []
lacking_meaning limit (Further d) = literal true [] []
lacking_meaning limit (StepEnd d) = rest (λ ss ws. (t : Tests) → FitsTests t → (d + 1) + tests_depth t ≤ limit
    → Ends limit d (tests_tokens t ++ ss) (of_core core_word.List ∷ tests_words t ++ ws))
lacking_meaning limit s = sort ⊥ (λ a. []) (λ a. [])

abbrev pub meaning_below : Bool → ℕ → Symbol Name → Sort
meaning_below true limit s = lacking_meaning limit s
meaning_below false limit s = meaning limit s

-- such a part, with these tokens and words
pub record Is (S : Sort) (lacks : Bool) (ss : List Spelling) (ws : Words) : Type 0 where
  pub part : S.Of
  pub ends : S.lacks part ≡ lacks
  pub spelled : S.spelled part ≡ ss
  pub says : S.says part ≡ ws

-- Whatever the symbols of a stack read, this holds of all of it.
abbrev pub Given : ℕ → Bool → Stack → (Bool → List Spelling → Words → Type 0) → Type 0
Given limit lacks [] K = K lacks [] []
Given limit lacks (s ∷ P) K = (a : (meaning_below lacks limit s).Of) → Given limit ((meaning_below lacks limit s).lacks a) P
    (λ c ss ws. K c ((meaning_below lacks limit s).spelled a ++ ss) ((meaning_below lacks limit s).says a ++ ws))

-- WHAT A SYMBOL DOES WITH A TOKEN IS RIGHT: what replaces it, with the token before, is what it reads.
pub data Explains (limit : ℕ) (S : Sort) (at : ℕ) (l : Lexeme) : Outcome → Type 0 where
  takes : {needed : ℕ} {ws : Words} {P : Stack} (place : Option ℕ) → IsPlace place at → (needed ≤ limit → AllReady limit P)
      → (needed ≤ limit → Given limit false P (λ c ss vs. Is S c (record { place = place; lexeme = l } ∷ ss) (ws ++ vs)))
      → Explains limit S at l (Takes needed ws P)
  passes : {ws : Words} → Is S false [] ws → Explains limit S at l (Passes ws)
  lacks : {ws : Words} → Is S true [] ws → Explains limit S at l (Lacks ws)
  refuses : Explains limit S at l Refuses
