-- SOUND: what the automaton reads are the tokens of a fitting program, and what it appends are that program's words. What
-- it has read at any time goes on to such a program.
use Rattle.std.proofs.Common.{◌≡◌, ℕ, zero, suc, ◌+◌, ◌≤◌, Bool, false, List, [], ◌∷◌, ◌++◌, map, length, Option, None, Some, Result, Ok, Err, refl, sym}
use Rattle.std.proofs.Common.{ap, ◌∙◌, subst, append-nil, arith}
use Rattle.std.specs.Prelude.{⊤}
use Rattle.lemmas.proofs.Lists.{map_append}
use Rattle.source.specs.declared.token.Keyword.TheVariants as core_keyword
use Rattle.source.specs.declared.token.Sign.TheVariants as core_sign
use Rattle.source.specs.Tree.{Name, Drop}
use Rattle.surface.specs.declared.fault.Fault.{Fault}
use Rattle.surface.specs.declared.token.Keyword.TheVariants as keyword
use Rattle.surface.specs.declared.token.Sign.TheVariants as sign
use Rattle.surface.specs.declared.token.Token.{Token}
use Rattle.surface.specs.Tree.{Constant, Number, One, Give, Nothing, Before, Program}
use Rattle.surface.specs.Spelled.{Lexeme, TheWord, TheSign, TheNumber, TheName, lexeme, Spelling, program_tokens}
use Rattle.surface.specs.Fits.{FitsProgram, program_depth}
use Rattle.surface.specs.Words.{Words, program_words}
use Rattle.surface.specs.Parses.{Parses, lexemes, says}
use Rattle.law_surface_text.specs.declared.symbol.Symbol.{Symbol}
use Rattle.law_surface_text.specs.declared.symbol.Symbol.TheVariants.{Sign as OneSign, Keyword as OneWord, Emit, Name as OneName, Items, Parameter}
use Rattle.law_surface_text.specs.declared.symbol.Symbol.TheVariants.{AfterParameter, Rank, Parameters, Results, ResultCount, FunctionBody, Steps, ArmEnd}
use Rattle.law_surface_text.specs.declared.symbol.Symbol.TheVariants.{StepOtherwise, ChainEnd, Target, Targets, StepEnd, Operand, Negated, After, AfterName}
use Rattle.law_surface_text.specs.declared.symbol.Symbol.TheVariants.{AfterIndexes, Callee, Further, Indexes, Otherwise, Bound, Starts, Turn, ForBound}
use Rattle.law_surface_text.specs.declared.symbol.Symbol.TheVariants.{AfterForName, Range, Carried}
use Rattle.law_surface_text.specs.Automaton.{Stack, Takes, Passes, step, Placed, placed, Moved, ended_then, finish, parsed}
use Rattle.law_surface_text.specs.Ready.{Ready, AllReady}
use Rattle.law_surface_text.proofs.Meaning.{Sort, Ops, Bodies, Ranges, Is, Given, meaning, Explains, takes, passes}
use Rattle.law_surface_text.proofs.ExplainOperands.{behind_else}
use Rattle.law_surface_text.proofs.ExplainItems.{each_explained}
use Rattle.law_surface_text.proofs.Runs.{Spells, are_spelled, advance_all, Ran, whole, ran, AdvancedAll, moved_all, advanced_all}

-- THE END
module _ (limit : ℕ) where
  abbrev FinishesWith : (Bool → List Spelling → Words → Type 0) → Option Words → Type 0
  FinishesWith K None = ⊤
  FinishesWith K (Some ws) = K false [] ws

  finish_later : (K : Bool → List Spelling → Words → Type 0) (us : Words) (r : Option Words) → FinishesWith (λ c ss ws. K c ss (us ++ ws)) r
      → FinishesWith K (ended_then (Some us) r)
  finish_later K us None h = tt
  finish_later K us (Some vs) h = h

  pub finish_right : (S : Stack) (K : Bool → List Spelling → Words → Type 0) → Given limit false S K → FinishesWith K (finish S)
  finish_right [] K given = given
  finish_right (Emit w ∷ S) K given = finish_later K (w ∷ []) (finish S) (finish_right S _ (given tt))
  finish_right (Items ∷ S) K given = finish_later K [] (finish S) (finish_right S _ (given (record { p = []; fits = tt; deep = omega arith })))
  finish_right (s ∷ S) K given = tt

-- EACH STACK CAN BE READ TO ITS END
pub record Complete (S : Sort) : Type 0 where
  pub part : S.Of
  pub ends : S.lacks part ≡ false

abbrev AllComplete : ℕ → Stack → Type 0
AllComplete limit [] = ⊤
AllComplete limit (s ∷ S) = Complete (meaning limit s) × AllComplete limit S

pub record Completed (K : Bool → List Spelling → Words → Type 0) : Type 0 where
  pub ss : List Spelling
  pub ws : Words
  pub holds : K false ss ws

complete_all : (limit : ℕ) (P : Stack) (K : Bool → List Spelling → Words → Type 0) → Given limit false P K → AllComplete limit P → Completed K
complete_all limit [] K given cs = record { ss = []; ws = []; holds = given }
complete_all limit (s ∷ P) K given cs =
    let c = cs.0 in
    let d = complete_all limit P _ (subst (λ b. Given limit b P (λ e ss ws. K e ((meaning limit s).spelled c.part ++ ss) ((meaning limit s).says c.part ++ ws)))
    c.ends (given c.part)) cs.1 in
    record { ss = (meaning limit s).spelled c.part ++ d.ss; ws = (meaning limit s).says c.part ++ d.ws; holds = d.holds }

module _ (limit : ℕ) where
  by_is : {S : Sort} {ss : List Spelling} {ws : Words} → Is S false ss ws → Complete S
  by_is y = record { part = y.part; ends = y.ends }

  by_token : {S : Sort} {at : ℕ} {l : Lexeme} {needed : ℕ} {ws : Words} {P : Stack} → Explains limit S at l (Takes needed ws P) → needed ≤ limit
      → AllComplete limit P → Complete S
  by_token {P = P} (takes place is ready given) h cs = by_is (complete_all limit P _ (given h) cs).holds

  by_none : {S : Sort} {at : ℕ} {l : Lexeme} {ws : Words} → Explains limit S at l (Passes ws) → Complete S
  by_none (passes y) = by_is y

  abbrev semicolon : Lexeme
  semicolon = TheSign (sign.Core core_sign.Semicolon)

  explained : (s : Symbol Name) (at : ℕ) (l : Lexeme) → Ready limit s → Explains limit (meaning limit s) at l (step s at l)
  explained s at l r = each_explained limit false s at l r

  -- a number as an expression, and as the only value of a body
  zero_operand : (m d : ℕ) → m ≤ 11 → d ≤ limit → Ops limit m d
  zero_operand m d h k = record { e = Number 0 0; is = record { fits = omega arith; deep = omega arith }; at_least = omega arith }

  zero_body : (d : ℕ) → d + 1 ≤ limit → Bodies limit false d
  zero_body d r = record { b = Give (One (Number 0 0)); fits = omega arith; deep = omega arith }

  zero_range : (d : ℕ) → d + 1 ≤ limit → Ranges limit d
  zero_range d r = record {
    first = zero_operand 0 (d + 1) (omega arith) r;
    end = zero_operand 0 (d + 1) (omega arith) r;
    carries = record { c = Nothing; fits = tt; deep = omega arith };
    body = zero_body d r;
  }

  step_otherwise : (begun d : ℕ) → d + 2 ≤ limit → Complete (meaning limit (StepOtherwise begun d))
  step_otherwise begun d r = by_token (explained (StepOtherwise begun d) 0 (TheSign (sign.Core core_sign.OpenBrace)) r) (omega arith)
      (record { part = zero_body (d + 1) (omega arith); ends = refl }, (record { part = tt; ends = refl }, tt))

  pub complete : (s : Symbol Name) → Ready limit s → Complete (meaning limit s)
  complete (OneSign s) r = record { part = tt; ends = refl }
  complete (OneWord k) r = record { part = tt; ends = refl }
  complete (Emit w) r = record { part = tt; ends = refl }
  complete (OneName w) r = record { part = record { at = 0; name = [] }; ends = refl }
  complete Items r = record { part = record { p = []; fits = tt; deep = omega arith }; ends = refl }
  complete Parameter r = record { part = record { name = record { at = 0; name = [] }; rank = 0 }; ends = refl }
  complete (AfterParameter named x) r = by_none (explained (AfterParameter named x) 0 semicolon r)
  complete (Rank named x n) r = by_token (explained (Rank named x n) 0 (TheSign (sign.Core core_sign.CloseBracket)) r) (omega arith) tt
  complete Parameters r = record { part = []; ends = refl }
  complete Results r = record { part = record { n = None; small = tt }; ends = refl }
  complete ResultCount r = record { part = record { n = Constant 0 []; small = tt }; ends = refl }
  complete FunctionBody r = record { part = record { at = 0; body = zero_body 0 (omega arith) }; ends = refl }
  complete (Steps d) r = record { part = zero_body d r; ends = refl }
  complete (ArmEnd begun d) r =
      by_token (explained (ArmEnd begun d) 0 (TheWord (keyword.Core core_keyword.Else)) r) (omega arith) (step_otherwise begun d r, tt)
  complete (StepOtherwise begun d) r = step_otherwise begun d r
  complete (ChainEnd begun) r = record { part = tt; ends = refl }
  complete Target r = record { part = Drop; ends = refl }
  complete Targets r = record { part = []; ends = refl }
  complete (StepEnd d) r = by_token (explained (StepEnd d) 0 (TheSign (sign.Core core_sign.CloseBrace)) r) (omega arith) tt
  complete (Operand m d) r = record { part = zero_operand m d r.0 r.1; ends = refl }
  complete (Negated d) r = by_token (explained (Negated d) 0 (TheNumber 0) r) (omega arith) tt
  complete (After m k d) r = by_none (explained (After m k d) 0 semicolon r)
  complete (AfterName named x m d) r = by_none (explained (AfterName named x m d) 0 semicolon r)
  complete (AfterIndexes cell a zero d) r = by_none (explained (AfterIndexes cell a zero d) 0 semicolon r)
  complete (AfterIndexes cell a (suc m) d) r = by_none (explained (AfterIndexes cell a (suc m) d) 0 semicolon r)
  complete (Callee d) r =
      record { part = record { at = 0; f = []; es = One (Number 0 0); are = record { fits = omega arith; deep = omega arith } }; ends = refl }
  complete (Further d) r = by_none (explained (Further d) 0 semicolon r)
  complete (Indexes d) r = by_none (explained (Indexes d) 0 semicolon r)
  complete (Otherwise d) r = record { part = behind_else limit d (zero_body d r); ends = refl }
  complete (Bound loop d) r = record {
    part = record {
      bound = Constant 0 [];
      firsts = One (Number 0 0);
      turn = Before (record { at = 0; name = [] } ∷ []) (Number 0 0) (Give (One (Number 0 0)));
      small = tt;
      are = record { fits = omega arith; deep = omega arith };
      many = refl;
      fits = (omega arith, omega arith);
      deep = omega arith;
    };
    ends = refl;
  }
  complete (Starts d) r = by_none (explained (Starts d) 0 semicolon r)
  complete (Turn d) r = by_token (explained (Turn d) 0 (TheWord (keyword.Core core_keyword.While)) r) (omega arith) (
    record { part = zero_operand 0 (d + 1) (omega arith) r; ends = refl },
    (record { part = tt; ends = refl }, (record { part = tt; ends = refl }, (record { part = zero_body d r; ends = refl }, tt))),
  )
  complete (ForBound d) r =
      record { part = record { bound = record { n = None; small = tt }; i = record { at = 0; name = [] }; range = zero_range d r }; ends = refl }
  complete (AfterForName named x d) r = by_token (explained (AfterForName named x d) 0 (TheName []) r) (omega arith)
      (record { part = zero_range d r; ends = refl }, tt)
  complete (Range d) r = record { part = zero_range d r; ends = refl }
  complete (Carried d) r = record { part = record { c = Nothing; fits = tt; deep = omega arith }; ends = refl }

  pub all_complete : (S : Stack) → AllReady limit S → AllComplete limit S
  all_complete [] r = tt
  all_complete (s ∷ S) r = (complete s r.0, all_complete S r.1)

-- THE THEOREMS
-- the tokens of some fitting program begin so, and it is at most so deep
pub record Goes (limit : ℕ) (ls : List Lexeme) : Type 0 where
  pub program : Program
  pub rest : List Lexeme
  pub fits : FitsProgram program
  pub deep : program_depth program ≤ limit
  pub says_so : says program ≡ ls ++ rest

abbrev pub said : List Placed → List Lexeme
said ps = map (λ (p : Placed). p.lexeme) ps

says_of : (ss : List Spelling) (ps : List Placed) → Spells ss ps → map (λ (s : Spelling). s.lexeme) ss ≡ said ps
says_of [] [] h = refl
says_of [] (p ∷ ps) h = absurd h
says_of (s ∷ ss) [] h = absurd h
says_of (s ∷ ss) (p ∷ ps) h = (λ i. sym h.0.0 i ∷ says_of ss ps h.1 i)

pub said_lexemes : (text : List ℕ) (ts : List Token) → said (map (placed text) ts) ≡ lexemes text ts
said_lexemes text [] = refl
said_lexemes text (t ∷ ts) = ap (λ ls. lexeme text t ∷ ls) (said_lexemes text ts)

abbrev Top : ℕ → Bool → List Spelling → Words → Type 0
Top limit c ss ws = Is (meaning limit Items) c ss ws

module _ (limit : ℕ) (some : 1 ≤ limit) where
  start_right : Given limit false (Items ∷ []) (Top limit)
  start_right p = record { part = p; ends = refl; spelled = sym (append-nil (program_tokens p.p)); says = sym (append-nil (program_words p.p)) }

  right_so_far : (ps : List Placed) (m : Moved) → advance_all limit (Items ∷ []) ps ≡ Ok m → AdvancedAll limit (Top limit) ps (Ok m)
  right_so_far ps m e = subst (λ r. AdvancedAll limit (Top limit) ps r) e (advanced_all limit (Items ∷ []) ps (Top limit) (some, tt) start_right)

  goes_from : (ps : List Placed) (m : Moved) → AdvancedAll limit (Top limit) ps (Ok m) → Goes limit (said ps)
  goes_from ps m (moved_all ts spelled ready given) =
      let c = complete_all limit m.stack _ given (all_complete limit m.stack ready) in
      record {
        program = c.holds.part.p;
        rest = map (λ (s : Spelling). s.lexeme) c.ss;
        fits = c.holds.part.fits;
        deep = c.holds.part.deep;
        says_so = ap (map (λ (s : Spelling). s.lexeme)) c.holds.spelled ∙ map_append (λ (s : Spelling). s.lexeme) ts c.ss
            ∙ ap (λ ls. ls ++ map (λ (s : Spelling). s.lexeme) c.ss) (says_of ts ps spelled);
      }

  -- what was read goes on
  pub goes : (ps : List Placed) (m : Moved) → advance_all limit (Items ∷ []) ps ≡ Ok m → Goes limit (said ps)
  goes ps m e = goes_from ps m (right_so_far ps m e)

  pub ready_so_far : (ps : List Placed) (m : Moved) → advance_all limit (Items ∷ []) ps ≡ Ok m → AllReady limit m.stack
  ready_so_far ps m e = from (right_so_far ps m e)
    where
      from : AdvancedAll limit (Top limit) ps (Ok m) → AllReady limit m.stack
      from (moved_all ts spelled ready given) = ready

-- a program whose tokens these are, and whose words these are
pub record Read (text : List ℕ) (ts : List Token) (ws : Words) : Type 0 where
  pub program : Program
  pub parses : Parses text ts program
  pub are : ws ≡ program_words program

finished_right : (text : List ℕ) (ts : List Token) (m : Moved) (ws : Words) → finish m.stack ≡ Some ws
    → AdvancedAll 200 (Top 200) (map (placed text) ts) (Ok m)
    → Read text ts (m.appended ++ ws)
finished_right text ts m ws e (moved_all ss spelled ready given) =
    let y : Top 200 false (ss ++ []) (m.appended ++ ws) =
    subst (λ r. FinishesWith 200 (λ c ts vs. Top 200 c (ss ++ ts) (m.appended ++ vs)) r) e (finish_right 200 m.stack _ given) in
    record {
      program = y.part.p;
      parses = record {
        fits = y.part.fits;
        depth = y.part.deep;
        spelled = are_spelled text (program_tokens y.part.p) ts
            (subst (λ ss. Spells ss (map (placed text) ts)) (sym (y.spelled ∙ append-nil ss)) spelled);
      };
      are = sym y.says;
    }

from_run : (text : List ℕ) (ts : List Token) (r : Result Words Fault) → Ran 200 (length text) (Items ∷ []) (map (placed text) ts) r → (ws : Words)
    → r ≡ Ok ws → Read text ts ws
from_run text ts (Ok us) (whole m vs e f) ws q = let same : m.appended ++ vs ≡ ws = cc in
    subst (Read text ts) same (finished_right text ts m vs f (right_so_far 200 (omega arith) _ m e))
from_run text ts (Err fault) h ws q = absurd cc

-- SOUND
pub parsed_sound : (text : List ℕ) (ts : List Token) (ws : Words) → parsed text ts ≡ Ok ws → Read text ts ws
parsed_sound text ts ws e = from_run text ts _ (ran 200 (length text) (Items ∷ []) (map (placed text) ts)) ws e
