-- SOUND: what the automaton reads are the tokens of a fitting program, and what it appends are that program's words. What
-- it has read at any time goes on to such a program.
use Rattle.std.proofs.Common.{◌≡◌, ℕ, ◌+◌, ◌≤◌, Bool, true, List, [], ◌∷◌, ◌++◌, map, length, Option, None, Some, Result, Ok, Err, refl, sym, ap, ◌∙◌, subst}
use Rattle.std.proofs.Common.{append_assoc, append-nil, arith}
use Rattle.std.specs.Prelude.{⊤}
use Rattle.lemmas.proofs.Lists.{map_append}
use Rattle.source.specs.declared.fault.Fault.{Fault}
use Rattle.source.specs.declared.token.Sign.TheVariants as sign
use Rattle.source.specs.declared.token.Keyword.TheVariants as keyword
use Rattle.source.specs.declared.token.Token.{Token}
use Rattle.source.specs.Tree.{Name, Number, One, Give, Program}
use Rattle.source.specs.Spelled.{Lexeme, TheWord, TheSign, TheNumber, TheName, lexeme, Spelling, program_tokens}
use Rattle.source.specs.Fits.{FitsProgram, program_depth}
use Rattle.source.specs.Words.{Words, program_words}
use Rattle.source.specs.Parses.{Parses, lexemes, says}
use Rattle.law_language.specs.declared.symbol.Symbol.{Symbol}
use Rattle.law_language.specs.declared.symbol.Symbol.TheVariants.{Sign as OneSign, Keyword as OneWord, Emit, Items, ArrayName, ArrayLength, FunctionName}
use Rattle.law_language.specs.declared.symbol.Symbol.TheVariants.{Parameter, Parameters, Results, ResultCount, FunctionBody, Steps, Target as OneTarget}
use Rattle.law_language.specs.declared.symbol.Symbol.TheVariants.{Targets, LetEnd, StepEnd, Operand, Negated, After, AfterName, AfterIndex, Callee, CallEnd}
use Rattle.law_language.specs.declared.symbol.Symbol.TheVariants.{Otherwise, Bound, Start, Starts, Turn as OneTurn}
use Rattle.law_language.specs.GrammarAutomaton.{Stack, Takes, Passes, Placed, placed, Moved, ended_then, finish, parsed}
use Rattle.law_language.proofs.GrammarYielded.{Programs}
use Rattle.law_language.specs.GrammarReady.{Ready, AllReady}
use Rattle.law_language.proofs.GrammarMeaning.{Yields, Given, Explains, takes, passes}
use Rattle.law_language.proofs.GrammarExplainFollowing.{explains_fetch}
use Rattle.law_language.proofs.GrammarExplainItems.{explained}
use Rattle.law_language.proofs.GrammarRuns.{Spells, are_spelled, advance_all, Ran, whole, ran, AdvancedAll, moved_all, advanced_all}

-- THE END
abbrev FinishesWith : (List Spelling → Words → Type 0) → List Spelling → Words → Option Words → Type 0
FinishesWith K ss ws None = ⊤
FinishesWith K ss ws (Some vs) = K ss (ws ++ vs)

module _ (limit : ℕ) (K : List Spelling → Words → Type 0) where
  finish_later : (ss : List Spelling) (ws us : Words) (r : Option Words) → FinishesWith K (ss ++ []) (ws ++ us) r
      → FinishesWith K ss ws (ended_then (Some us) r)
  finish_later ss ws us None h = tt
  finish_later ss ws us (Some vs) h = subst (λ ts. K ts (ws ++ (us ++ vs))) (append-nil ss) (rw (← append_assoc ws us vs) h)

  no_program : Programs limit [] []
  no_program = record { p = []; fits = tt; deep = omega arith; spelled = refl; says = refl }

  pub finish_right : (S : Stack) (ss : List Spelling) (ws : Words) → Given limit S K ss ws → FinishesWith K ss ws (finish S)
  finish_right [] ss ws given = rw (append-nil ws) given
  finish_right (Emit w ∷ S) ss ws given =
      finish_later ss ws (w ∷ []) (finish S) (finish_right S (ss ++ []) (ws ++ w ∷ []) (given [] (w ∷ []) (record { spelled = refl; says = refl })))
  finish_right (Items ∷ S) ss ws given = finish_later ss ws [] (finish S) (finish_right S (ss ++ []) (ws ++ []) (given [] [] no_program))
  finish_right (s ∷ S) ss ws given = tt

-- EACH STACK CAN BE READ TO ITS END
pub record Complete (limit : ℕ) (s : Symbol Name) : Type 0 where
  pub ss : List Spelling
  pub ws : Words
  pub holds : Yields limit s ss ws

abbrev AllComplete : ℕ → Stack → Type 0
AllComplete limit [] = ⊤
AllComplete limit (s ∷ S) = Complete limit s × AllComplete limit S

pub record Completed (K : List Spelling → Words → Type 0) (ss : List Spelling) (ws : Words) : Type 0 where
  pub ts : List Spelling
  pub vs : Words
  pub holds : K (ss ++ ts) (ws ++ vs)

complete_all : (limit : ℕ) (P : Stack) (K : List Spelling → Words → Type 0) (ss : List Spelling) (ws : Words) → Given limit P K ss ws → AllComplete limit P
    → Completed K ss ws
complete_all limit [] K ss ws given cs = record { ts = []; vs = []; holds = rw (append-nil ss, append-nil ws) given }
complete_all limit (s ∷ P) K ss ws given cs =
    let c = cs.0 in
    let d = complete_all limit P K (ss ++ c.ss) (ws ++ c.ws) (given c.ss c.ws c.holds) cs.1 in
    record { ts = c.ss ++ d.ts; vs = c.ws ++ d.vs; holds = rw (← append_assoc ss c.ss d.ts, ← append_assoc ws c.ws d.vs) d.holds }

module _ (limit : ℕ) where
  by_token : {s : Symbol Name} {at : ℕ} {l : Lexeme} {ws : Words} {P : Stack} → Explains limit s at l (Takes ws P) → AllComplete limit P → Complete limit s
  by_token {l = l} {ws = ws} {P = P} (takes place is ready given) cs =
      let c = complete_all limit P _ [] ws given cs in record { ss = record { place = place; lexeme = l } ∷ c.ts; ws = ws ++ c.vs; holds = c.holds }

  by_none : {s : Symbol Name} {at : ℕ} {l : Lexeme} {ws : Words} → Explains limit s at l (Passes ws) → Complete limit s
  by_none {ws = ws} (passes y) = record { ss = []; ws = ws; holds = y }

  one_sign : (s : _) → Complete limit (OneSign s)
  one_sign s = record { ss = _; ws = _; holds = record { spelled = refl; says = refl } }

  one_word : (k : _) → Complete limit (OneWord k)
  one_word k = record { ss = _; ws = _; holds = record { spelled = refl; says = refl } }

  emit : (w : _) → Complete limit (Emit w)
  emit w = record { ss = _; ws = _; holds = record { spelled = refl; says = refl } }

  zero_operand : (m d : ℕ) → m ≤ 9 → d ≤ limit → Complete limit (Operand m d)
  zero_operand m d h k =
      record {
        ss = _;
        ws = _;
        holds = record { e = Number 0 0; ok = record { fits = omega arith; at_least = h; deep = omega arith }; spelled = refl; says = refl };
      }

  abbrev semicolon : Lexeme
  semicolon = TheSign sign.Semicolon

  -- a number as the only value
  steps_end : (d : ℕ) → d + 1 ≤ limit → Complete limit (Steps d)
  steps_end d r = record {
    ss = _;
    ws = _;
    holds = record { b = Give (One (Number 0 0)); ok = record { fits = omega arith; deep = omega arith }; spelled = refl; says = refl };
  }

  let_end : (given d : ℕ) → d + 1 ≤ limit → Complete limit (LetEnd given d)
  let_end given d r = by_token (explained limit (LetEnd given d) 0 semicolon r) (steps_end d r, tt)

  call_end : (called : ℕ) (strict : Bool) (f : Name) (d : ℕ) → d + 1 ≤ limit → Complete limit (CallEnd called strict f d)
  call_end called strict f d r = by_token (explained limit (CallEnd called strict f d) 0 (TheSign sign.CloseParen) r) tt

  start : (d : ℕ) → d + 1 ≤ limit → Complete limit (Start d)
  start d r = by_token (explained limit (Start d) 0 (TheName []) r) (one_sign _, (zero_operand 0 (d + 1) (omega arith) r, tt))

  starts : (d : ℕ) → d + 1 ≤ limit → Complete limit (Starts d)
  starts d r = by_token (explained limit (Starts d) 0 (TheSign sign.CloseParen) r) tt

  turn : (d : ℕ) → d + 1 ≤ limit → Complete limit (OneTurn d)
  turn d r = by_token (explained limit (OneTurn d) 0 (TheWord keyword.While) r)
      (zero_operand 0 (d + 1) (omega arith) r, (emit _, (one_sign _, (steps_end d r, tt))))

  pub complete : (s : Symbol Name) → Ready limit s → Complete limit s
  complete (OneSign s) r = one_sign s
  complete (OneWord k) r = one_word k
  complete (Emit w) r = emit w
  complete Items r = record { ss = []; ws = []; holds = no_program limit (λ ss ws. ⊤) }
  complete ArrayName r = by_token (explained limit ArrayName 0 (TheName []) r) tt
  complete ArrayLength r = by_token (explained limit ArrayLength 0 (TheNumber 0) r) tt
  complete FunctionName r = by_token (explained limit FunctionName 0 (TheName []) r) tt
  complete Parameter r = by_token (explained limit Parameter 0 (TheName []) r) tt
  complete Parameters r = by_token (explained limit Parameters 0 (TheSign sign.CloseParen) r) tt
  complete Results r = by_token (explained limit Results 0 (TheSign sign.OpenBrace) r) (steps_end 0 (omega arith), tt)
  complete ResultCount r = by_token (explained limit ResultCount 0 (TheNumber 0) r) tt
  complete FunctionBody r = by_token (explained limit FunctionBody 0 (TheSign sign.OpenBrace) r) (steps_end 0 (omega arith), tt)
  complete (Steps d) r = steps_end d r
  complete OneTarget r = by_token (explained limit OneTarget 0 (TheSign sign.Underscore) r) tt
  complete (Targets given d) r =
      by_token (explained limit (Targets given d) 0 (TheSign sign.Equals) r) (zero_operand 0 (d + 1) (omega arith) r, (let_end given d r, tt))
  complete (LetEnd given d) r = let_end given d r
  complete (StepEnd d) r = by_token (explained limit (StepEnd d) 0 (TheSign sign.CloseBrace) r) tt
  complete (Operand m d) r = zero_operand m d (let g = r.0 in omega arith) r.1
  complete (Negated d) r = by_token (explained limit (Negated d) 0 (TheNumber 0) r) tt
  complete (After m k d) r = by_none (explained limit (After m k d) 0 semicolon r)
  complete (AfterName named x m d) r = by_none (explained limit (AfterName named x m d) 0 semicolon r)
  complete (AfterIndex cell a m d) r = by_none (explains_fetch limit cell a m d 0 semicolon r)
  complete (Callee d) r =
      by_token (explained limit (Callee d) 0 (TheName []) r) (one_sign _, (zero_operand 0 (d + 1) (omega arith) r, (call_end 0 true [] d r, tt)))
  complete (CallEnd called strict f d) r = call_end called strict f d r
  complete (Otherwise d) r = by_token (explained limit (Otherwise d) 0 (TheSign sign.OpenBrace) r) (steps_end d r, tt)
  complete (Bound loop d) r = by_token (explained limit (Bound loop d) 0 (TheNumber 0) r) (one_sign _, (start d r, (starts d r, (turn d r, (emit _, tt)))))
  complete (Start d) r = start d r
  complete (Starts d) r = starts d r
  complete (OneTurn d) r = turn d r

  pub all_complete : (S : Stack) → AllReady limit S → AllComplete limit S
  all_complete [] r = tt
  all_complete (s ∷ S) r = (complete s r.0, all_complete S r.1)

-- THE THEOREMS
-- the tokens of some fitting program begin so, and it is at most so deep
pub record Goes (limit : ℕ) (ls : List Lexeme) : Type 0 where
  pub program : Program
  pub rest : List Lexeme
  pub fits : FitsProgram program
  pub deep : program_depth program ≤ limit
  pub says_so : says program ≡ ls ++ rest

abbrev pub said : List Placed → List Lexeme
said ps = map (λ (p : Placed). p.lexeme) ps

says_of : (ss : List Spelling) (ps : List Placed) → Spells ss ps → map (λ (s : Spelling). s.lexeme) ss ≡ said ps
says_of [] [] h = refl
says_of [] (p ∷ ps) h = absurd h
says_of (s ∷ ss) [] h = absurd h
says_of (s ∷ ss) (p ∷ ps) h = (λ i. sym h.0.0 i ∷ says_of ss ps h.1 i)

pub said_lexemes : (text : List ℕ) (ts : List Token) → said (map (placed text) ts) ≡ lexemes text ts
said_lexemes text [] = refl
said_lexemes text (t ∷ ts) = ap (λ ls. lexeme text t ∷ ls) (said_lexemes text ts)

module _ (limit : ℕ) (some : 1 ≤ limit) where
  start_right : Given limit (Items ∷ []) (Programs limit) [] []
  start_right ss ws y = y

  pub right_so_far : (ps : List Placed) (m : Moved) → advance_all limit (Items ∷ []) ps ≡ Ok m → AdvancedAll limit (Programs limit) [] [] ps (Ok m)
  right_so_far ps m e =
      subst (λ r. AdvancedAll limit (Programs limit) [] [] ps r) e (advanced_all limit (Programs limit) (Items ∷ []) ps [] [] (some, tt) start_right)

  goes_from : (ps : List Placed) (m : Moved) → AdvancedAll limit (Programs limit) [] [] ps (Ok m) → Goes limit (said ps)
  goes_from ps m (moved_all ts spelled ready given) =
      let c = complete_all limit m.stack (Programs limit) ts m.appended given (all_complete limit m.stack ready) in
      record {
        program = c.holds.p;
        rest = map (λ (s : Spelling). s.lexeme) c.ts;
        fits = c.holds.fits;
        deep = c.holds.deep;
        says_so = ap (map (λ (s : Spelling). s.lexeme)) c.holds.spelled ∙ map_append (λ (s : Spelling). s.lexeme) ts c.ts
            ∙ ap (λ ls. ls ++ map (λ (s : Spelling). s.lexeme) c.ts) (says_of ts ps spelled);
      }

  -- what was read goes on
  pub goes : (ps : List Placed) (m : Moved) → advance_all limit (Items ∷ []) ps ≡ Ok m → Goes limit (said ps)
  goes ps m e = goes_from ps m (right_so_far ps m e)

  pub ready_so_far : (ps : List Placed) (m : Moved) → advance_all limit (Items ∷ []) ps ≡ Ok m → AllReady limit m.stack
  ready_so_far ps m e = from (right_so_far ps m e)
    where
      from : AdvancedAll limit (Programs limit) [] [] ps (Ok m) → AllReady limit m.stack
      from (moved_all ts spelled ready given) = ready

-- a program whose tokens these are, and whose words these are
pub record Read (text : List ℕ) (ts : List Token) (ws : Words) : Type 0 where
  pub program : Program
  pub parses : Parses text ts program
  pub are : ws ≡ program_words program

finished_right : (text : List ℕ) (ts : List Token) (m : Moved) (ws : Words) → finish m.stack ≡ Some ws
    → AdvancedAll 200 (Programs 200) [] [] (map (placed text) ts) (Ok m)
    → Read text ts (m.appended ++ ws)
finished_right text ts m ws e (moved_all ss spelled ready given) =
    let y : Programs 200 ss (m.appended ++ ws) =
    subst (λ r. FinishesWith (Programs 200) ss m.appended r) e (finish_right 200 (Programs 200) m.stack ss m.appended given) in
    record {
      program = y.p;
      parses = record {
        fits = y.fits;
        depth = y.deep;
        spelled = are_spelled text (program_tokens y.p) ts (subst (λ ss. Spells ss (map (placed text) ts)) (sym y.spelled) spelled);
      };
      are = sym y.says;
    }

from_run : (text : List ℕ) (ts : List Token) (r : Result Words Fault) → Ran 200 (length text) (Items ∷ []) (map (placed text) ts) r → (ws : Words)
    → r ≡ Ok ws → Read text ts ws
from_run text ts (Ok us) (whole m vs e f) ws q = let same : m.appended ++ vs ≡ ws = cc in
    subst (Read text ts) same (finished_right text ts m vs f (right_so_far 200 (omega arith) _ m e))
from_run text ts (Err fault) h ws q = absurd cc

-- SOUND
pub parsed_sound : (text : List ℕ) (ts : List Token) (ws : Words) → parsed text ts ≡ Ok ws → Read text ts ws
parsed_sound text ts ws e = from_run text ts _ (ran 200 (length text) (Items ∷ []) (map (placed text) ts)) ws e
