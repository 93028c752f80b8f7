-- RUNS OF THE AUTOMATON: what was read, and what a run ends with.
use Rattle.std.proofs.Common.{◌≡◌, ℕ, List, [], ◌∷◌, ◌++◌, map, Option, None, Some, Result, Ok, Err, refl, ap, subst, append_assoc, append-nil}
use Rattle.std.specs.Prelude.{⊤}
use Rattle.source.specs.declared.fault.Fault.{Fault}
use Rattle.source.specs.declared.fault.FaultKind.{FaultKind}
use Rattle.source.specs.declared.fault.FaultKind.TheVariants.{Unended}
use Rattle.source.specs.declared.token.Token.{Token}
use Rattle.source.specs.Spelled.{Lexeme, Spelling, IsPlace, AreSpelled}
use Rattle.source.specs.Tree.{Name}
use Rattle.source.specs.Words.{Words}
use Rattle.law_language.specs.declared.symbol.Symbol.{Symbol}
use Rattle.law_language.specs.GrammarAutomaton.{Stack, Outcome, Takes, Passes, Refuses, Placed, placed, Moved, moved_after, advance_by, advance, finish}
use Rattle.law_language.specs.GrammarAutomaton.{words_after, finished, run_on, run}
use Rattle.law_language.specs.GrammarReady.{AllReady}
use Rattle.law_language.proofs.GrammarMeaning.{Given, Explains, takes, passes}
use Rattle.law_language.proofs.GrammarGivens.{given_then, ready_append}
use Rattle.law_language.proofs.GrammarExplainItems.{explained}

-- TOKENS that say what a tree says, where it says
abbrev pub Spells : List Spelling → List Placed → Type 0
Spells [] [] = ⊤
Spells [] (p ∷ ps) = ⊥
Spells (s ∷ ss) [] = ⊥
Spells (s ∷ ss) (p ∷ ps) = ((p.lexeme ≡ s.lexeme) × IsPlace s.place p.at) × Spells ss ps

pub are_spelled : (text : List ℕ) (ss : List Spelling) (ts : List Token) → Spells ss (map (placed text) ts) → AreSpelled text ss ts
are_spelled text [] [] h = tt
are_spelled text [] (t ∷ ts) h = absurd h
are_spelled text (s ∷ ss) [] h = absurd h
are_spelled text (s ∷ ss) (t ∷ ts) h = (h.0, are_spelled text ss ts h.1)

pub spells : (text : List ℕ) (ss : List Spelling) (ts : List Token) → AreSpelled text ss ts → Spells ss (map (placed text) ts)
spells text [] [] h = tt
spells text [] (t ∷ ts) h = absurd h
spells text (s ∷ ss) [] h = absurd h
spells text (s ∷ ss) (t ∷ ts) h = (h.0, spells text ss ts h.1)

-- MANY TOKENS
abbrev pub moved_by : Result Moved FaultKind → (Stack → Result Moved FaultKind) → Result Moved FaultKind
moved_by (Ok m) continued = moved_after m.appended (continued m.stack)
moved_by (Err kind) continued = Err kind

abbrev pub advance_all : ℕ → Stack → List Placed → Result Moved FaultKind
advance_all limit S [] = Ok (record { appended = []; stack = S })
advance_all limit S (p ∷ ps) = moved_by (advance limit S p.at p.lexeme) (λ stack. advance_all limit stack ps)

-- how a run ends
pub data Ran (limit end : ℕ) (S : Stack) (ps : List Placed) : Result Words Fault → Type 0 where
  whole : (m : Moved) (ws : Words) → advance_all limit S ps ≡ Ok m → finish m.stack ≡ Some ws → Ran limit end S ps (Ok (m.appended ++ ws))
  unended : (m : Moved) → advance_all limit S ps ≡ Ok m → finish m.stack ≡ None → Ran limit end S ps (Err (record { kind = Unended; at = end }))
  stopped : (before : List Placed) (p : Placed) (after : List Placed) (m : Moved) (kind : FaultKind) → ps ≡ before ++ p ∷ after
      → advance_all limit S before ≡ Ok m
      → advance limit m.stack p.at p.lexeme ≡ Err kind → Ran limit end S ps (Err (record { kind = kind; at = p.at }))

module _ (limit end : ℕ) where
  ran_on : (S : Stack) (p : Placed) (ps : List Placed) (m : Moved) → advance limit S p.at p.lexeme ≡ Ok m → (r : Result Words Fault)
      → Ran limit end m.stack ps r
      → Ran limit end S (p ∷ ps) (words_after m.appended r)
  ran_on S p ps m e (Ok vs) (whole n ws f g) = subst (λ us. Ran limit end S (p ∷ ps) (Ok us)) (append_assoc m.appended n.appended ws)
      (whole (record { appended = m.appended ++ n.appended; stack = n.stack }) ws (rw (e, f) refl) g)
  ran_on S p ps m e (Err fault) (unended n f g) = unended (record { appended = m.appended ++ n.appended; stack = n.stack }) (rw (e, f) refl) g
  ran_on S p ps m e (Err fault) (stopped before q after n kind is f g) =
      stopped (p ∷ before) q after (record { appended = m.appended ++ n.appended; stack = n.stack }) kind (ap (λ l. p ∷ l) is) (rw (e, f) refl) g

  pub ran : (S : Stack) (ps : List Placed) → Ran limit end S ps (run limit end S ps)
  ran S [] = go (finish S) refl
    where
      go : (r : Option Words) → finish S ≡ r → Ran limit end S [] (finished end r)
      go (Some ws) e = whole (record { appended = []; stack = S }) ws refl e
      go None e = unended (record { appended = []; stack = S }) refl e
  ran S (p ∷ ps) = go (λ stack. ran stack ps) (advance limit S p.at p.lexeme) refl
    where
      go : ((stack : Stack) → Ran limit end stack ps (run limit end stack ps)) → (r : Result Moved FaultKind) → advance limit S p.at p.lexeme ≡ r
          → Ran limit end S (p ∷ ps) (run_on p.at r (λ moved. run limit end moved ps))
      go further (Ok m) e = ran_on S p ps m e _ (further m.stack)
      go further (Err kind) e = stopped [] p ps (record { appended = []; stack = S }) kind refl refl e

-- WHAT HOLDS OF WHAT WAS READ, whatever the stack reads
pub data Advanced (limit : ℕ) (K : List Spelling → Words → Type 0) (ss : List Spelling) (ws : Words) (at : ℕ) (l : Lexeme) : Result Moved FaultKind
    → Type 0 where
  moved : {m : Moved} (place : Option ℕ) → IsPlace place at → AllReady limit m.stack
      → Given limit m.stack K (ss ++ record { place = place; lexeme = l } ∷ []) (ws ++ m.appended)
      → Advanced limit K ss ws at l (Ok m)
  refused : {kind : FaultKind} → Advanced limit K ss ws at l (Err kind)

module _ (limit : ℕ) (K : List Spelling → Words → Type 0) (at : ℕ) (l : Lexeme) where
  moved_later : (ss : List Spelling) (ws vs : Words) (r : Result Moved FaultKind) → Advanced limit K ss (ws ++ vs) at l r
      → Advanced limit K ss ws at l (moved_after vs r)
  moved_later ss ws vs (Ok m) (moved place is ready given) = moved place is ready (rw (← append_assoc ws vs m.appended) given)
  moved_later ss ws vs (Err kind) h = refused

  advanced_by : (s : Symbol Name) (below : Stack) (ss : List Spelling) (ws : Words) → AllReady limit below → Given limit (s ∷ below) K ss ws
      → ((vs : Words) → Given limit below K ss (ws ++ vs) → Advanced limit K ss (ws ++ vs) at l (advance limit below at l))
      → (o : Outcome) → Explains limit s at l o → Advanced limit K ss ws at l (advance_by o below (advance limit below at l))
  advanced_by s below ss ws b given further (Takes vs P) (takes place is ready delivers) =
      let x : Spelling = record { place = place; lexeme = l } in
      let together : Given limit (P ++ below) K ((ss ++ x ∷ []) ++ []) (ws ++ vs) =
      given_then limit P below _ K (ss ++ x ∷ []) ws (λ ts us y. rw (append_assoc ss (x ∷ []) ts) (given (x ∷ ts) us y)) [] vs delivers in
      moved place is (ready_append limit P below ready b) (subst (λ ts. Given limit (P ++ below) K ts (ws ++ vs)) (append-nil (ss ++ x ∷ [])) together)
  advanced_by s below ss ws b given further (Passes vs) (passes y) =
      moved_later ss ws vs (advance limit below at l) (further vs (subst (λ ts. Given limit below K ts (ws ++ vs)) (append-nil ss) (given [] vs y)))
  advanced_by s below ss ws b given further (Refuses kind) h = refused

  pub advanced : (S : Stack) (ss : List Spelling) (ws : Words) → AllReady limit S → Given limit S K ss ws → Advanced limit K ss ws at l (advance limit S at l)
  advanced [] ss ws r given = refused
  advanced (s ∷ below) ss ws r given =
      advanced_by s below ss ws r.1 given (λ vs further. advanced below ss (ws ++ vs) r.1 further) _ (explained limit s at l r.0)

-- STACKS STAY READY
given_always : (limit : ℕ) (S : Stack) (ss : List Spelling) (ws : Words) → Given limit S (λ ts vs. ⊤) ss ws
given_always limit [] ss ws = tt
given_always limit (s ∷ S) ss ws = λ ts vs y. given_always limit S (ss ++ ts) (ws ++ vs)

pub ready_kept : (limit : ℕ) (S : Stack) (at : ℕ) (l : Lexeme) (m : Moved) → AllReady limit S → advance limit S at l ≡ Ok m → AllReady limit m.stack
ready_kept limit S at l m r e =
    from (subst (λ x. Advanced limit (λ ts vs. ⊤) [] [] at l x) e (advanced limit (λ ts vs. ⊤) at l S [] [] r (given_always limit S [] [])))
  where
    from : Advanced limit (λ ts vs. ⊤) [] [] at l (Ok m) → AllReady limit m.stack
    from (moved place is ready given) = ready

pub data AdvancedAll (limit : ℕ) (K : List Spelling → Words → Type 0) (ss : List Spelling) (ws : Words) (ps : List Placed) : Result Moved FaultKind
    → Type 0 where
  moved_all : {m : Moved} (ts : List Spelling) → Spells ts ps → AllReady limit m.stack → Given limit m.stack K (ss ++ ts) (ws ++ m.appended)
      → AdvancedAll limit K ss ws ps (Ok m)
  refused_all : {kind : FaultKind} → AdvancedAll limit K ss ws ps (Err kind)

module _ (limit : ℕ) (K : List Spelling → Words → Type 0) where
  advanced_on : (p : Placed) (ps : List Placed) (ss : List Spelling) (ws vs : Words) (place : Option ℕ) → IsPlace place p.at → (r : Result Moved FaultKind)
      → AdvancedAll limit K (ss ++ record { place = place; lexeme = p.lexeme } ∷ []) (ws ++ vs) ps r → AdvancedAll limit K ss ws (p ∷ ps) (moved_after vs r)
  advanced_on p ps ss ws vs place is (Ok m) (moved_all ts spelled ready given) =
      let x : Spelling = record { place = place; lexeme = p.lexeme } in
      moved_all (x ∷ ts) ((refl, is), spelled) ready (rw (← append_assoc ws vs m.appended, ← append_assoc ss (x ∷ []) ts) given)
  advanced_on p ps ss ws vs place is (Err kind) h = refused_all

  pub advanced_all : (S : Stack) (ps : List Placed) (ss : List Spelling) (ws : Words) → AllReady limit S → Given limit S K ss ws
      → AdvancedAll limit K ss ws ps (advance_all limit S ps)
  advanced_all S [] ss ws r given = moved_all [] tt r (rw (append-nil ss, append-nil ws) given)
  advanced_all S (p ∷ ps) ss ws r given =
      go (λ stack ts vs ready further. advanced_all stack ps ts vs ready further) (advance limit S p.at p.lexeme)
      (advanced limit K p.at p.lexeme S ss ws r given)
    where
      go : ((stack : Stack) (ts : List Spelling) (vs : Words) → AllReady limit stack → Given limit stack K ts vs
          → AdvancedAll limit K ts vs ps (advance_all limit stack ps))
          → (r : Result Moved FaultKind) → Advanced limit K ss ws p.at p.lexeme r
          → AdvancedAll limit K ss ws (p ∷ ps) (moved_by r (λ stack. advance_all limit stack ps))
      go further (Ok m) (moved place is ready delivers) = advanced_on p ps ss ws m.appended place is _ (further m.stack _ _ ready delivers)
      go further (Err kind) h = refused_all
