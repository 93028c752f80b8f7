-- HOW TOKENS LEAD FROM ONE STACK TO ANOTHER. After an expression words may be pending, and symbols that the next token passes:
-- the stack is then as good as another one for each token that may follow.
use Rattle.std.proofs.Common.{◌≡◌, ℕ, ◌<◌, ◌≤◌, List, [], ◌∷◌, ◌++◌, Result, Ok, Err, refl, sym, ap, ◌∙◌, subst, append_assoc, append-nil, if◌then◌else◌}
use Rattle.std.specs.Prelude.{◌^◌}
use Rattle.std.proofs.lemmas.Bool.{le-leb, lt-ltb}
use Rattle.source.specs.declared.fault.FaultKind.{FaultKind}
use Rattle.source.specs.declared.fault.FaultKind.TheVariants.{Unexpected}
use Rattle.source.specs.declared.token.Keyword.{Keyword}
use Rattle.source.specs.declared.token.Sign.{Sign}
use Rattle.source.specs.Spelled.{Lexeme, TheWord, TheSign, Spelling, IsPlace}
use Rattle.source.specs.Tree.{Name}
use Rattle.source.specs.Words.{Words}
use Rattle.law_language.specs.declared.symbol.Symbol.{Symbol}
use Rattle.law_language.specs.declared.symbol.Symbol.TheVariants.{Sign as OneSign, Keyword as OneWord}
use Rattle.law_language.specs.GrammarAutomaton.{Stack, Outcome, Takes, Passes, Refuses, appending, within, small, step, Placed, Moved, moved_after, advance_by}
use Rattle.law_language.specs.GrammarAutomaton.{advance}
use Rattle.law_language.proofs.GrammarTerminals.{is_that_sign, is_that_word}
use Rattle.law_language.proofs.GrammarRuns.{Spells, moved_by, advance_all}

-- TESTS THAT ARE PASSED
pub within_is : (limit d : ℕ) (o : Outcome) → d ≤ limit → within limit d o ≡ o
within_is limit d o h = rw (le-leb d limit h) refl

pub small_is : (n : ℕ) (o : Outcome) → n < 2 ^ 63 → small n o ≡ o
small_is n o h = rw (lt-ltb n (2 ^ 63) h) refl

-- WHAT WAS MOVED
pub moved_nothing : (r : Result Moved FaultKind) → moved_after [] r ≡ r
moved_nothing (Ok m) = refl
moved_nothing (Err kind) = refl

pub moved_twice : (ws vs : Words) (r : Result Moved FaultKind) → moved_after (ws ++ vs) r ≡ moved_after ws (moved_after vs r)
moved_twice ws vs (Ok m) = ap (λ us. Ok (record { appended = us; stack = m.stack })) (append_assoc ws vs m.appended)
moved_twice ws vs (Err kind) = refl

pub appending_is : (ws : Words) (o : Outcome) (below : Stack) (r : Result Moved FaultKind)
    → advance_by (appending ws o) below r ≡ moved_after ws (advance_by o below r)
appending_is ws (Takes vs P) below r = refl
appending_is ws (Passes vs) below r = moved_twice ws vs r
appending_is ws (Refuses kind) below r = refl

moved_by_after : (ws : Words) (r : Result Moved FaultKind) (f : Stack → Result Moved FaultKind) → moved_by (moved_after ws r) f ≡ moved_after ws (moved_by r f)
moved_by_after ws (Ok m) f = moved_twice ws m.appended (f m.stack)
moved_by_after ws (Err kind) f = refl

-- TOKENS ONE BY ONE
pub record Leads (limit : ℕ) (S : Stack) (ss : List Spelling) (ws : Words) (T : Stack) : Type 0 where
  pub by : (ps : List Placed) → Spells ss ps → advance_all limit S ps ≡ Ok (record { appended = ws; stack = T })

-- one token, at each place where it may be
abbrev pub Moves : ℕ → Stack → Spelling → Words → Stack → Type 0
Moves limit S s ws T = (at : ℕ) → IsPlace s.place at → advance limit S at s.lexeme ≡ Ok (record { appended = ws; stack = T })

pub leads_as : {limit : ℕ} {S T : Stack} {ss ts : List Spelling} {ws vs : Words} → Leads limit S ss ws T → ss ≡ ts → ws ≡ vs → Leads limit S ts vs T
leads_as {limit = limit} {S = S} {T = T} {ss = ss} {vs = vs} l p q = subst (λ us. Leads limit S us vs T) p (subst (λ us. Leads limit S ss us T) q l)

pub leads_none : {limit : ℕ} {S : Stack} → Leads limit S [] [] S
leads_none {limit = limit} {S = S} = record { by = go }
  where
    go : (ps : List Placed) → Spells [] ps → advance_all limit S ps ≡ Ok (record { appended = []; stack = S })
    go [] h = refl
    go (p ∷ ps) h = absurd h

-- tokens of two lists
pub record Split (ss ts : List Spelling) (ps : List Placed) : Type 0 where
  pub left : List Placed
  pub right : List Placed
  pub is : ps ≡ left ++ right
  pub on_left : Spells ss left
  pub on_right : Spells ts right

pub split : (ss ts : List Spelling) (ps : List Placed) → Spells (ss ++ ts) ps → Split ss ts ps
split [] ts ps h = record { left = []; right = ps; is = refl; on_left = tt; on_right = h }
split (s ∷ ss) ts [] h = absurd h
split (s ∷ ss) ts (p ∷ ps) h = let c = split ss ts ps h.1 in
    record { left = p ∷ c.left; right = c.right; is = ap (λ l. p ∷ l) c.is; on_left = (h.0, c.on_left); on_right = c.on_right }

pub advance_append : (limit : ℕ) (S : Stack) (ps qs : List Placed)
    → advance_all limit S (ps ++ qs) ≡ moved_by (advance_all limit S ps) (λ stack. advance_all limit stack qs)
advance_append limit S [] qs = sym (moved_nothing (advance_all limit S qs))
advance_append limit S (p ∷ ps) qs = go (λ stack. advance_append limit stack ps qs) (advance limit S p.at p.lexeme)
  where
    go : ((stack : Stack) → advance_all limit stack (ps ++ qs) ≡ moved_by (advance_all limit stack ps) (λ stack. advance_all limit stack qs))
        → (r : Result Moved FaultKind)
        → moved_by r (λ stack. advance_all limit stack (ps ++ qs))
        ≡ moved_by (moved_by r (λ stack. advance_all limit stack ps)) (λ stack. advance_all limit stack qs)
    go further (Ok m) = ap (moved_after m.appended) (further m.stack)
        ∙ sym (moved_by_after m.appended (advance_all limit m.stack ps) (λ stack. advance_all limit stack qs))
    go further (Err kind) = refl

module _ (limit : ℕ) where
  pub leads_cons : {S T U : Stack} {ss : List Spelling} {vs : Words} (s : Spelling) (ws : Words) → Moves limit S s ws T → Leads limit T ss vs U
      → Leads limit S (s ∷ ss) (ws ++ vs) U
  leads_cons {S = S} {T = T} {U = U} {ss = ss} {vs = vs} s ws moves l = record { by = go }
    where
      go : (ps : List Placed) → Spells (s ∷ ss) ps → advance_all limit S ps ≡ Ok (record { appended = ws ++ vs; stack = U })
      go [] h = absurd h
      go (p ∷ ps) h = ap (λ x. moved_by (advance limit S p.at x) (λ stack. advance_all limit stack ps)) h.0.0
          ∙ ap (λ r. moved_by r (λ stack. advance_all limit stack ps)) (moves p.at h.0.1) ∙ ap (moved_after ws) (l.by ps h.1)

  -- a stack that is as good for the first token
  pub leads_settled : {S T U : Stack} {vs : Words} (s : Spelling) (ss : List Spelling) (ws : Words)
      → ((at : ℕ) → IsPlace s.place at → advance limit S at s.lexeme ≡ moved_after ws (advance limit T at s.lexeme)) → Leads limit T (s ∷ ss) vs U
      → Leads limit S (s ∷ ss) (ws ++ vs) U
  leads_settled {S = S} {T = T} {U = U} {vs = vs} s ss ws same l = record { by = go }
    where
      go : (ps : List Placed) → Spells (s ∷ ss) ps → advance_all limit S ps ≡ Ok (record { appended = ws ++ vs; stack = U })
      go [] h = absurd h
      go (p ∷ ps) h = ap (λ x. moved_by (advance limit S p.at x) (λ stack. advance_all limit stack ps)) h.0.0
          ∙ ap (λ r. moved_by r (λ stack. advance_all limit stack ps)) (same p.at h.0.1)
          ∙ moved_by_after ws (advance limit T p.at s.lexeme) (λ stack. advance_all limit stack ps)
          ∙ ap (λ x. moved_after ws (moved_by (advance limit T p.at x) (λ stack. advance_all limit stack ps))) (sym h.0.0)
          ∙ ap (moved_after ws) (l.by (p ∷ ps) h)

  -- joined
  pub leads_append : {S T U : Stack} {ss ts : List Spelling} {ws vs : Words} → Leads limit S ss ws T → Leads limit T ts vs U
      → Leads limit S (ss ++ ts) (ws ++ vs) U
  leads_append {S = S} {T = T} {U = U} {ss = ss} {ts = ts} {ws = ws} {vs = vs} l m = record {
    by = λ ps h. let c = split ss ts ps h in
        ap (advance_all limit S) c.is ∙ advance_append limit S c.left c.right
        ∙ ap (λ r. moved_by r (λ stack. advance_all limit stack c.right)) (l.by c.left c.on_left)
        ∙ ap (moved_after ws) (m.by c.right c.on_right);
  }

-- SYMBOLS ON TOP
module _ (limit : ℕ) (s : Symbol Name) (at : ℕ) (l : Lexeme) where
  pub advance_takes : (ws : Words) (P S : Stack) → step limit s at l ≡ Takes ws P → advance limit (s ∷ S) at l ≡ Ok (record { appended = ws; stack = P ++ S })
  advance_takes ws P S e = ap (λ o. advance_by o S (advance limit S at l)) e

  pub advance_passes : (ws : Words) (S : Stack) → step limit s at l ≡ Passes ws → advance limit (s ∷ S) at l ≡ moved_after ws (advance limit S at l)
  advance_passes ws S e = ap (λ o. advance_by o S (advance limit S at l)) e

pub advance_sign : (limit : ℕ) (s : Sign) (S : Stack) (at : ℕ) → advance limit (OneSign s ∷ S) at (TheSign s) ≡ Ok (record { appended = []; stack = S })
advance_sign limit s S at = ap (λ b. advance_by (if b then Takes [] [] else Refuses Unexpected) S (advance limit S at (TheSign s))) (is_that_sign s)

pub advance_word : (limit : ℕ) (k : Keyword) (S : Stack) (at : ℕ) → advance limit (OneWord k ∷ S) at (TheWord k) ≡ Ok (record { appended = []; stack = S })
advance_word limit k S at = ap (λ b. advance_by (if b then Takes [] [] else Refuses Unexpected) S (advance limit S at (TheWord k))) (is_that_word k)

-- WHAT IS PENDING
-- These tokens lead to a stack that with each token which may follow does what T does, after words.
pub record Reads (limit : ℕ) (S : Stack) (ss : List Spelling) (ws : Words) (May : Lexeme → Type 0) (T : Stack) : Type 0 where
  pub reached : Stack
  pub early : Words
  pub late : Words
  pub joined : early ++ late ≡ ws
  pub leads : Leads limit S ss early reached
  pub settles : (at : ℕ) (l : Lexeme) → May l → advance limit reached at l ≡ moved_after late (advance limit T at l)

module _ (limit : ℕ) where
  pub reads_exactly : {S T : Stack} {ss : List Spelling} {ws : Words} (May : Lexeme → Type 0) → Leads limit S ss ws T → Reads limit S ss ws May T
  reads_exactly {T = T} {ws = ws} May l =
      record { reached = T; early = ws; late = []; joined = append-nil ws; leads = l; settles = λ at x h. sym (moved_nothing (advance limit T at x)) }

  pub reads_as : {S T : Stack} {ss ts : List Spelling} {ws vs : Words} {May : Lexeme → Type 0} → Reads limit S ss ws May T → ss ≡ ts → ws ≡ vs
      → Reads limit S ts vs May T
  reads_as r p q = record { reached = r.reached; early = r.early; late = r.late; joined = r.joined ∙ q; leads = leads_as r.leads p refl; settles = r.settles }

  -- a token that may follow, and further ones
  pub reads_leads : {S T U : Stack} {ss ts : List Spelling} {ws vs : Words} {May : Lexeme → Type 0} (s : Spelling) → May s.lexeme
      → Reads limit S ss ws May T → Leads limit T (s ∷ ts) vs U
      → Leads limit S (ss ++ s ∷ ts) (ws ++ vs) U
  reads_leads {vs = vs} s may r l = leads_as (leads_append limit r.leads (leads_settled limit s _ r.late (λ at h. r.settles at s.lexeme may) l)) refl
      (sym (append_assoc r.early r.late vs) ∙ ap (λ t. t ++ vs) r.joined)

  pub leads_reads : {S T U : Stack} {ss ts : List Spelling} {ws vs : Words} {May : Lexeme → Type 0} → Leads limit S ss ws T → Reads limit T ts vs May U
      → Reads limit S (ss ++ ts) (ws ++ vs) May U
  leads_reads {ws = ws} l r = record {
    reached = r.reached;
    early = ws ++ r.early;
    late = r.late;
    joined = append_assoc ws r.early r.late ∙ ap (λ t. ws ++ t) r.joined;
    leads = leads_append limit l r.leads;
    settles = r.settles;
  }

  -- The top of the stack passes these tokens.
  pub reads_pass : {S T U : Stack} {ss : List Spelling} {ws : Words} {May : Lexeme → Type 0} (Might : Lexeme → Type 0) (vs : Words)
      → ((l : Lexeme) → Might l → May l)
      → ((at : ℕ) (l : Lexeme) → Might l → advance limit T at l ≡ moved_after vs (advance limit U at l)) → Reads limit S ss ws May T
      → Reads limit S ss (ws ++ vs) Might U
  reads_pass {U = U} Might vs f same r = record {
    reached = r.reached;
    early = r.early;
    late = r.late ++ vs;
    joined = sym (append_assoc r.early r.late vs) ∙ ap (λ t. t ++ vs) r.joined;
    leads = r.leads;
    settles = λ at l h. r.settles at l (f l h) ∙ ap (moved_after r.late) (same at l h) ∙ sym (moved_twice r.late vs (advance limit U at l));
  }

  pub leads_pass : {S T U : Stack} {ss : List Spelling} {ws : Words} (Might : Lexeme → Type 0) (vs : Words)
      → ((at : ℕ) (l : Lexeme) → Might l → advance limit T at l ≡ moved_after vs (advance limit U at l)) → Leads limit S ss ws T
      → Reads limit S ss (ws ++ vs) Might U
  leads_pass {T = T} {ws = ws} Might vs same l = record { reached = T; early = ws; late = vs; joined = refl; leads = l; settles = same }
