-- RUNS OF THE AUTOMATON: what was read, and what a run ends with.
use Rattle.std.proofs.Common.{◌≡◌, ℕ, Bool, true, false, List, [], ◌∷◌, ◌++◌, map, Option, None, Some, Result, Ok, Err, refl, ap, subst, append_assoc}
use Rattle.std.proofs.Common.{if◌then◌else◌}
use Rattle.std.specs.Prelude.{⊤, nat_le}
use Rattle.std.proofs.lemmas.Bool.{leb-true}
use Rattle.source.specs.declared.fault.FaultKind.{FaultKind as CoreFaultKind}
use Rattle.source.specs.declared.fault.FaultKind.TheVariants.{Unended, TooDeep}
use Rattle.source.specs.Spelled.{IsPlace}
use Rattle.surface.specs.declared.fault.Fault.{Fault}
use Rattle.surface.specs.declared.fault.FaultKind.TheVariants.{Core}
use Rattle.surface.specs.declared.token.Token.{Token}
use Rattle.surface.specs.Spelled.{Lexeme, Spelling, AreSpelled}
use Rattle.surface.specs.Words.{Words}
use Rattle.law_surface_text.specs.Automaton.{Stack, Outcome, Takes, Passes, Lacks, Refuses, Placed, placed, Moved, moved_after, advance_by, advance}
use Rattle.law_surface_text.specs.Automaton.{blamed, finish, words_after, finished, run_on, run}
use Rattle.law_surface_text.specs.Ready.{AllReady}
use Rattle.law_surface_text.proofs.Meaning.{Sort, Is, Given, meaning_below, Explains, takes, passes, lacks}
use Rattle.law_surface_text.proofs.Givens.{given_map, given_append, ready_append}
use Rattle.law_surface_text.proofs.ExplainItems.{each_explained}

-- TOKENS that say what a tree says, where it says
abbrev pub Spells : List Spelling → List Placed → Type 0
Spells [] [] = ⊤
Spells [] (p ∷ ps) = ⊥
Spells (s ∷ ss) [] = ⊥
Spells (s ∷ ss) (p ∷ ps) = ((p.lexeme ≡ s.lexeme) × IsPlace s.place p.at) × Spells ss ps

pub are_spelled : (text : List ℕ) (ss : List Spelling) (ts : List Token) → Spells ss (map (placed text) ts) → AreSpelled text ss ts
are_spelled text [] [] h = tt
are_spelled text [] (t ∷ ts) h = absurd h
are_spelled text (s ∷ ss) [] h = absurd h
are_spelled text (s ∷ ss) (t ∷ ts) h = (h.0, are_spelled text ss ts h.1)

pub spells : (text : List ℕ) (ss : List Spelling) (ts : List Token) → AreSpelled text ss ts → Spells ss (map (placed text) ts)
spells text [] [] h = tt
spells text [] (t ∷ ts) h = absurd h
spells text (s ∷ ss) [] h = absurd h
spells text (s ∷ ss) (t ∷ ts) h = (h.0, spells text ss ts h.1)

-- MANY TOKENS
abbrev pub moved_by : Result Moved CoreFaultKind → (Stack → Result Moved CoreFaultKind) → Result Moved CoreFaultKind
moved_by (Ok m) continued = moved_after m.appended (continued m.stack)
moved_by (Err kind) continued = Err kind

abbrev pub advance_all : ℕ → Stack → List Placed → Result Moved CoreFaultKind
advance_all limit S [] = Ok (record { appended = []; stack = S })
advance_all limit S (p ∷ ps) = moved_by (advance limit S false p.at p.lexeme) (λ stack. advance_all limit stack ps)

-- how a run ends
pub data Ran (limit end : ℕ) (S : Stack) (ps : List Placed) : Result Words Fault → Type 0 where
  whole : (m : Moved) (ws : Words) → advance_all limit S ps ≡ Ok m → finish m.stack ≡ Some ws → Ran limit end S ps (Ok (m.appended ++ ws))
  unended : (m : Moved) → advance_all limit S ps ≡ Ok m → finish m.stack ≡ None → Ran limit end S ps (Err (record { kind = Core Unended; at = end }))
  stopped : (before : List Placed) (p : Placed) (after : List Placed) (m : Moved) (kind : CoreFaultKind) → ps ≡ before ++ p ∷ after
      → advance_all limit S before ≡ Ok m
      → advance limit m.stack false p.at p.lexeme ≡ Err kind → Ran limit end S ps (Err (record { kind = Core (blamed limit m.stack p.lexeme kind); at = p.at }))

module _ (limit end : ℕ) where
  ran_on : (S : Stack) (p : Placed) (ps : List Placed) (m : Moved) → advance limit S false p.at p.lexeme ≡ Ok m → (r : Result Words Fault)
      → Ran limit end m.stack ps r
      → Ran limit end S (p ∷ ps) (words_after m.appended r)
  ran_on S p ps m e (Ok vs) (whole n ws f g) = subst (λ us. Ran limit end S (p ∷ ps) (Ok us)) (append_assoc m.appended n.appended ws)
      (whole (record { appended = m.appended ++ n.appended; stack = n.stack }) ws (rw (e, f) refl) g)
  ran_on S p ps m e (Err fault) (unended n f g) = unended (record { appended = m.appended ++ n.appended; stack = n.stack }) (rw (e, f) refl) g
  ran_on S p ps m e (Err fault) (stopped before q after n kind is f g) =
      stopped (p ∷ before) q after (record { appended = m.appended ++ n.appended; stack = n.stack }) kind (ap (λ l. p ∷ l) is) (rw (e, f) refl) g

  pub ran : (S : Stack) (ps : List Placed) → Ran limit end S ps (run limit end S ps)
  ran S [] = go (finish S) refl
    where
      go : (r : Option Words) → finish S ≡ r → Ran limit end S [] (finished end r)
      go (Some ws) e = whole (record { appended = []; stack = S }) ws refl e
      go None e = unended (record { appended = []; stack = S }) refl e
  ran S (p ∷ ps) = go (λ stack. ran stack ps) (advance limit S false p.at p.lexeme) refl
    where
      go : ((stack : Stack) → Ran limit end stack ps (run limit end stack ps)) → (r : Result Moved CoreFaultKind) → advance limit S false p.at p.lexeme ≡ r
          → Ran limit end S (p ∷ ps) (run_on limit S p.at p.lexeme r (λ moved. run limit end moved ps))
      go further (Ok m) e = ran_on S p ps m e _ (further m.stack)
      go further (Err kind) e = stopped [] p ps (record { appended = []; stack = S }) kind refl refl e

-- WHAT HOLDS OF WHAT WAS READ, whatever the stack reads
pub data Advanced (limit : ℕ) (K : Bool → List Spelling → Words → Type 0) (at : ℕ) (l : Lexeme) : Result Moved CoreFaultKind → Type 0 where
  moved : {m : Moved} (place : Option ℕ) → IsPlace place at → AllReady limit m.stack
      → Given limit false m.stack (λ c ss ws. K c (record { place = place; lexeme = l } ∷ ss) (m.appended ++ ws))
      → Advanced limit K at l (Ok m)
  refused : {kind : CoreFaultKind} → Advanced limit K at l (Err kind)

module _ (limit : ℕ) where
  -- such a part is one of those of which all this holds
  of_part : (S : Sort) (below : Stack) (K : Bool → List Spelling → Words → Type 0) (c : Bool) (ss : List Spelling) (ws : Words) → Is S c ss ws
      → ((a : S.Of) → Given limit (S.lacks a) below (λ e ts vs. K e (S.spelled a ++ ts) (S.says a ++ vs)))
      → Given limit c below (λ e ts vs. K e (ss ++ ts) (ws ++ vs))
  of_part S below K c ss ws y given =
      subst (λ b. Given limit b below (λ e ts vs. K e (ss ++ ts) (ws ++ vs))) y.ends
      (given_map limit (S.lacks y.part) below _ _
      (λ e ts vs k. subst (λ us. K e (ss ++ ts) (us ++ vs)) y.says (subst (λ us. K e (us ++ ts) (S.says y.part ++ vs)) y.spelled k)) (given y.part))

module _ (limit at : ℕ) (l : Lexeme) where
  moved_later : (K : Bool → List Spelling → Words → Type 0) (vs : Words) (r : Result Moved CoreFaultKind)
      → Advanced limit (λ c ss ws. K c ss (vs ++ ws)) at l r → Advanced limit K at l (moved_after vs r)
  moved_later K vs (Ok m) (moved place is ready given) =
      moved place is ready (given_map limit false m.stack _ _ (λ c ss ws k. rw (append_assoc vs m.appended ws) k) given)
  moved_later K vs (Err kind) h = refused

  advanced_by : (S : Sort) (below : Stack) (K : Bool → List Spelling → Words → Type 0) (passed : Bool → Result Moved CoreFaultKind) → AllReady limit below
      → ((a : S.Of) → Given limit (S.lacks a) below (λ e ts vs. K e (S.spelled a ++ ts) (S.says a ++ vs)))
      → ((b : Bool) (vs : Words) → Given limit b below (λ c ss ws. K c ss (vs ++ ws)) → Advanced limit (λ c ss ws. K c ss (vs ++ ws)) at l (passed b))
      → (o : Outcome) → Explains limit S at l o → Advanced limit K at l (advance_by limit o below passed)
  advanced_by S below K passed b given further (Takes needed ws P) (takes place is ready delivers) = go (nat_le needed limit) refl
    where
      x : Spelling
      x = record { place = place; lexeme = l }

      go : (t : Bool) → nat_le needed limit ≡ t
          → Advanced limit K at l (if t then Ok (record { appended = ws; stack = P ++ below }) else Err TooDeep)
      go true e = let h = leb-true needed limit e in
          moved place is (ready_append limit P below (ready h) b) (given_append limit false P below _
          (given_map limit false P _ _ (λ c ss vs y. given_map limit c below _ _ (λ e ts us k. rw (← append_assoc ws vs us) k)
          (of_part limit S below K c (x ∷ ss) (ws ++ vs) y given)) (delivers h)))
      go false e = refused
  advanced_by S below K passed b given further (Passes vs) (passes y) = moved_later K vs (passed false) (further false vs (of_part limit S below K false [] vs y given))
  advanced_by S below K passed b given further (Lacks vs) (lacks y) = moved_later K vs (passed true) (further true vs (of_part limit S below K true [] vs y given))
  advanced_by S below K passed b given further Refuses h = refused

  pub advanced : (b : Bool) (S : Stack) (K : Bool → List Spelling → Words → Type 0) → AllReady limit S → Given limit b S K
      → Advanced limit K at l (advance limit S b at l)
  advanced b [] K r given = refused
  advanced b (s ∷ below) K r given = advanced_by (meaning_below b limit s) below K (λ c. advance limit below c at l) r.1 given
      (λ c vs further. advanced c below _ r.1 further) _ (each_explained limit b s at l r.0)

-- STACKS STAY READY
given_always : (limit : ℕ) (b : Bool) (S : Stack) → Given limit b S (λ c ts vs. ⊤)
given_always limit b [] = tt
given_always limit b (s ∷ S) = λ a. given_always limit ((meaning_below b limit s).lacks a) S

pub ready_kept : (limit : ℕ) (S : Stack) (at : ℕ) (l : Lexeme) (m : Moved) → AllReady limit S → advance limit S false at l ≡ Ok m → AllReady limit m.stack
ready_kept limit S at l m r e =
    from (subst (λ x. Advanced limit (λ c ts vs. ⊤) at l x) e (advanced limit at l false S (λ c ts vs. ⊤) r (given_always limit false S)))
  where
    from : Advanced limit (λ c ts vs. ⊤) at l (Ok m) → AllReady limit m.stack
    from (moved place is ready given) = ready

pub data AdvancedAll (limit : ℕ) (K : Bool → List Spelling → Words → Type 0) (ps : List Placed) : Result Moved CoreFaultKind → Type 0 where
  moved_all : {m : Moved} (ts : List Spelling) → Spells ts ps → AllReady limit m.stack
      → Given limit false m.stack (λ c ss ws. K c (ts ++ ss) (m.appended ++ ws))
      → AdvancedAll limit K ps (Ok m)
  refused_all : {kind : CoreFaultKind} → AdvancedAll limit K ps (Err kind)

module _ (limit : ℕ) where
  advanced_on : (K : Bool → List Spelling → Words → Type 0) (p : Placed) (ps : List Placed) (vs : Words) (place : Option ℕ) → IsPlace place p.at
      → (r : Result Moved CoreFaultKind)
      → AdvancedAll limit (λ c ss ws. K c (record { place = place; lexeme = p.lexeme } ∷ ss) (vs ++ ws)) ps r → AdvancedAll limit K (p ∷ ps) (moved_after vs r)
  advanced_on K p ps vs place is (Ok m) (moved_all ts spelled ready given) =
      moved_all (record { place = place; lexeme = p.lexeme } ∷ ts) ((refl, is), spelled) ready
      (given_map limit false m.stack _ _ (λ c ss ws k. rw (append_assoc vs m.appended ws) k) given)
  advanced_on K p ps vs place is (Err kind) h = refused_all

  pub advanced_all : (S : Stack) (ps : List Placed) (K : Bool → List Spelling → Words → Type 0) → AllReady limit S → Given limit false S K
      → AdvancedAll limit K ps (advance_all limit S ps)
  advanced_all S [] K r given = moved_all [] tt r given
  advanced_all S (p ∷ ps) K r given =
      go (λ stack J ready further. advanced_all stack ps J ready further) (advance limit S false p.at p.lexeme)
      (advanced limit p.at p.lexeme false S K r given)
    where
      go : ((stack : Stack) (J : Bool → List Spelling → Words → Type 0) → AllReady limit stack → Given limit false stack J
          → AdvancedAll limit J ps (advance_all limit stack ps))
          → (r : Result Moved CoreFaultKind) → Advanced limit K p.at p.lexeme r
          → AdvancedAll limit K (p ∷ ps) (moved_by r (λ stack. advance_all limit stack ps))
      go further (Ok m) (moved place is ready delivers) = advanced_on K p ps m.appended place is _ (further m.stack _ ready delivers)
      go further (Err kind) h = refused_all
