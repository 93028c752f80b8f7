-- HOW TOKENS ARE READ, one after the other: what a stack makes of all the tokens that are left, whatever follows those of a tree.
use Rattle.std.proofs.Common.{◌≡◌, ℕ, ◌≤◌, Bool, true, false, List, [], ◌∷◌, ◌++◌, Option, None, Some, Result, Ok, Err, refl, sym, ap, ◌∙◌, subst, append_assoc}
use Rattle.std.proofs.Common.{arith, if◌then◌else◌}
use Rattle.std.specs.Prelude.{⊤, nat_le}
use Rattle.std.proofs.lemmas.Bool.{le-leb}
use Rattle.source.specs.declared.fault.FaultKind.{FaultKind as CoreFaultKind}
use Rattle.source.specs.declared.fault.FaultKind.TheVariants.{TooDeep}
use Rattle.source.specs.declared.token.Keyword.{Keyword as CoreKeyword}
use Rattle.source.specs.Spelled.{IsPlace}
use Rattle.source.specs.Tree.{Name}
use Rattle.surface.specs.declared.token.Sign.{Sign}
use Rattle.surface.specs.declared.word.Word.{Word}
use Rattle.surface.specs.Spelled.{Lexeme, TheSign, Spelling, the_sign, a_word}
use Rattle.surface.specs.Words.{Words}
use Rattle.law_surface_text.specs.declared.symbol.Symbol.{Symbol}
use Rattle.law_surface_text.specs.declared.symbol.Symbol.TheVariants.{Sign as OneSign, Keyword as OneWord, Emit}
use Rattle.law_surface_text.specs.Automaton.{Stack, Outcome, Takes, Passes, Lacks, Refuses, appending, step, Placed, Moved, moved_after, advance_by, advance}
use Rattle.law_surface_text.specs.Automaton.{ended_then, finish}
use Rattle.law_surface_text.proofs.Terminals.{is_that_sign, is_that_word}

-- WHAT A STACK MAKES of all tokens that are left
abbrev pub read_on : Result Moved CoreFaultKind → (Stack → Option Words) → Option Words
read_on (Ok m) continued = ended_then (Some m.appended) (continued m.stack)
read_on (Err kind) continued = None

abbrev pub reading : ℕ → Stack → List Placed → Option Words
reading limit S [] = finish S
reading limit S (p ∷ ps) = read_on (advance limit S false p.at p.lexeme) (λ T. reading limit T ps)

-- the tokens of a tree, and those that follow
abbrev pub Follows : List Spelling → List Placed → List Placed → Type 0
Follows [] i r = i ≡ r
Follows (s ∷ ss) [] r = ⊥
Follows (s ∷ ss) (p ∷ i) r = ((p.lexeme ≡ s.lexeme) × IsPlace s.place p.at) × Follows ss i r

pub follows_append : (ss ts : List Spelling) (i r : List Placed) → Follows (ss ++ ts) i r → (j : List Placed) × Follows ss i j × Follows ts j r
follows_append [] ts i r f = (i, refl, f)
follows_append (s ∷ ss) ts [] r f = absurd f
follows_append (s ∷ ss) ts (p ∷ i) r f = let g = follows_append ss ts i r f.1 in (g.0, (f.0, g.1), g.2)

-- what may follow: anything, something, or such a token
abbrev pub Any : List Placed → Type 0
Any r = ⊤

abbrev pub Starting : (Lexeme → Type 0) → List Placed → Type 0
Starting May [] = ⊥
Starting May (p ∷ r) = May p.lexeme

abbrev pub Something : List Placed → Type 0
Something r = Starting (λ l. ⊤) r

-- WORDS
pub then_none : (o : Option Words) → ended_then (Some []) o ≡ o
then_none None = refl
then_none (Some ws) = refl

pub then_twice : (ws vs : Words) (o : Option Words) → ended_then (Some (ws ++ vs)) o ≡ ended_then (Some ws) (ended_then (Some vs) o)
then_twice ws vs None = refl
then_twice ws vs (Some us) = ap (λ u. Some u) (append_assoc ws vs us)

pub read_on_after : (ws : Words) (r : Result Moved CoreFaultKind) (f : Stack → Option Words)
    → read_on (moved_after ws r) f ≡ ended_then (Some ws) (read_on r f)
read_on_after ws (Ok m) f = then_twice ws m.appended (f m.stack)
read_on_after ws (Err kind) f = refl

pub moved_twice : (ws vs : Words) (r : Result Moved CoreFaultKind) → moved_after (ws ++ vs) r ≡ moved_after ws (moved_after vs r)
moved_twice ws vs (Ok m) = ap (λ us. Ok (record { appended = us; stack = m.stack })) (append_assoc ws vs m.appended)
moved_twice ws vs (Err kind) = refl

pub appending_is : (limit : ℕ) (ws : Words) (o : Outcome) (below : Stack) (passed : Bool → Result Moved CoreFaultKind)
    → advance_by limit (appending ws o) below passed ≡ moved_after ws (advance_by limit o below passed)
appending_is limit ws (Takes needed vs P) below passed = go (nat_le needed limit)
  where
    go : (b : Bool) → (if b then Ok (record { appended = ws ++ vs; stack = P ++ below }) else Err TooDeep)
        ≡ moved_after ws (if b then Ok (record { appended = vs; stack = P ++ below }) else Err TooDeep)
    go true = refl
    go false = refl
appending_is limit ws (Passes vs) below passed = moved_twice ws vs (passed false)
appending_is limit ws (Lacks vs) below passed = moved_twice ws vs (passed true)
appending_is limit ws Refuses below passed = refl

module _ (limit : ℕ) where
  -- WHAT TOKENS LEAD TO
  pub record Reads (S : Stack) (ss : List Spelling) (ws : Words) (May : List Placed → Type 0) (k : List Placed → Option Words) : Type 0 where
    pub by : (i r : List Placed) → Follows ss i r → May r → reading limit S i ≡ ended_then (Some ws) (k r)

  pub reads_as : {S : Stack} {ss ts : List Spelling} {ws vs : Words} {May : List Placed → Type 0} {k : List Placed → Option Words} → Reads S ss ws May k
      → ss ≡ ts → ws ≡ vs → Reads S ts vs May k
  reads_as {S = S} {ss = ss} {vs = vs} {May = May} {k = k} l p q = subst (λ us. Reads S us vs May k) p (subst (λ us. Reads S ss us May k) q l)

  pub reads_none : {May : List Placed → Type 0} (S : Stack) → Reads S [] [] May (reading limit S)
  reads_none S = record { by = λ i r f m. ap (reading limit S) f ∙ sym (then_none (reading limit S r)) }

  pub reads_may : {S : Stack} {ss : List Spelling} {ws : Words} {M : List Placed → Type 0} {k : List Placed → Option Words} (N : List Placed → Type 0)
      → ((r : List Placed) → N r → M r) → Reads S ss ws M k → Reads S ss ws N k
  reads_may N f l = record { by = λ i r g m. l.by i r g (f r m) }

  pub reads_then : {S T : Stack} {ss ts : List Spelling} {ws vs : Words} {N M : List Placed → Type 0} {k : List Placed → Option Words}
      → Reads S ss ws N (reading limit T) → ((i r : List Placed) → Follows ts i r → M r → N i) → Reads T ts vs M k → Reads S (ss ++ ts) (ws ++ vs) M k
  reads_then {ss = ss} {ts = ts} {ws = ws} {vs = vs} {k = k} l f m = record {
    by = λ i r g h. let c = follows_append ss ts i r g in
        l.by i c.0 c.1 (f c.0 r c.2 h) ∙ ap (ended_then (Some ws)) (m.by c.0 r c.2 h) ∙ sym (then_twice ws vs (k r));
  }

  -- where the next token is known
  pub reads_upto : {S T : Stack} {ss ts : List Spelling} {ws vs : Words} {M : List Placed → Type 0} {k : List Placed → Option Words} (May : Lexeme → Type 0)
      (t : Spelling) → May t.lexeme → Reads S ss ws (Starting May) (reading limit T) → Reads T (t ∷ ts) vs M k → Reads S (ss ++ t ∷ ts) (ws ++ vs) M k
  reads_upto {ts = ts} {M = M} May t may l m = reads_then l go m
    where
      go : (i r : List Placed) → Follows (t ∷ ts) i r → M r → Starting May i
      go [] r g h = absurd g
      go (p ∷ i) r g h = subst May (sym g.0.0) may

  -- a stack that is as good for what follows
  pub reads_from : {S T : Stack} {ss : List Spelling} {vs : Words} {M N : List Placed → Type 0} {k : List Placed → Option Words} (ws : Words)
      → ((i : List Placed) → N i → reading limit S i ≡ ended_then (Some ws) (reading limit T i)) → ((i r : List Placed) → Follows ss i r → M r → N i)
      → Reads T ss vs M k → Reads S ss (ws ++ vs) M k
  reads_from {vs = vs} {k = k} ws same f l = record {
    by = λ i r g h. same i (f i r g h) ∙ ap (ended_then (Some ws)) (l.by i r g h) ∙ sym (then_twice ws vs (k r));
  }

  pub reads_pass : {S T : Stack} {ss : List Spelling} {ws : Words} {N : List Placed → Type 0} {k : List Placed → Option Words} (M : List Placed → Type 0) (vs : Words)
      → ((r : List Placed) → M r → N r) → ((r : List Placed) → M r → reading limit T r ≡ ended_then (Some vs) (k r)) → Reads S ss ws N (reading limit T)
      → Reads S ss (ws ++ vs) M k
  reads_pass {ws = ws} {k = k} M vs f same l = record {
    by = λ i r g h. l.by i r g (f r h) ∙ ap (ended_then (Some ws)) (same r h) ∙ sym (then_twice ws vs (k r));
  }

  -- SYMBOLS ON TOP
  take_is : (needed : ℕ) (ws : Words) (P S : Stack) (passed : Bool → Result Moved CoreFaultKind) → needed ≤ limit
      → advance_by limit (Takes needed ws P) S passed ≡ Ok (record { appended = ws; stack = P ++ S })
  take_is needed ws P S passed h = rw (le-leb needed limit h) refl

  pub reads_cons : {S : Stack} {ss : List Spelling} {vs : Words} {M : List Placed → Type 0} {k : List Placed → Option Words} (s : Symbol Name) (t : Spelling)
      (needed : ℕ) (ws : Words) (P : Stack) → ((at : ℕ) → IsPlace t.place at → step s at t.lexeme ≡ Takes needed ws P) → needed ≤ limit
      → Reads (P ++ S) ss vs M k → Reads (s ∷ S) (t ∷ ss) (ws ++ vs) M k
  reads_cons {S = S} {ss = ss} {vs = vs} {M = M} {k = k} s t needed ws P e h l = record { by = go }
    where
      go : (i r : List Placed) → Follows (t ∷ ss) i r → M r → reading limit (s ∷ S) i ≡ ended_then (Some (ws ++ vs)) (k r)
      go [] r g m = absurd g
      go (p ∷ i) r g m = ap (λ x. read_on (advance limit (s ∷ S) false p.at x) (λ T. reading limit T i)) g.0.0
          ∙ ap (λ o. read_on (advance_by limit o S (λ b. advance limit S b p.at t.lexeme)) (λ T. reading limit T i)) (e p.at g.0.1)
          ∙ ap (λ x. read_on x (λ T. reading limit T i)) (take_is needed ws P S (λ b. advance limit S b p.at t.lexeme) h)
          ∙ ap (ended_then (Some ws)) (l.by i r g.1 m) ∙ sym (then_twice ws vs (k r))

  -- a token that is where the tree says, and one whose place the tree does not say
  pub reads_at : {S : Stack} {ss : List Spelling} {vs : Words} {M : List Placed → Type 0} {k : List Placed → Option Words} (s : Symbol Name) (at : ℕ) (x : Lexeme)
      (needed : ℕ) (ws : Words) (P : Stack) → step s at x ≡ Takes needed ws P → needed ≤ limit
      → Reads (P ++ S) ss vs M k → Reads (s ∷ S) (record { place = Some at; lexeme = x } ∷ ss) (ws ++ vs) M k
  reads_at s at x needed ws P e h l = reads_cons s (record { place = Some at; lexeme = x }) needed ws P
      (λ there p. subst (λ y. step s y x ≡ Takes needed ws P) p e) h l

  pub reads_any : {S : Stack} {ss : List Spelling} {vs : Words} {M : List Placed → Type 0} {k : List Placed → Option Words} (s : Symbol Name) (x : Lexeme)
      (needed : ℕ) (ws : Words) (P : Stack) → ((at : ℕ) → step s at x ≡ Takes needed ws P) → needed ≤ limit
      → Reads (P ++ S) ss vs M k → Reads (s ∷ S) (record { place = None; lexeme = x } ∷ ss) (ws ++ vs) M k
  reads_any s x needed ws P e h l = reads_cons s (record { place = None; lexeme = x }) needed ws P (λ there p. e there) h l

  pub reads_sign : {S : Stack} {ss : List Spelling} {vs : Words} {M : List Placed → Type 0} {k : List Placed → Option Words} (s : Sign) → Reads S ss vs M k
      → Reads (OneSign s ∷ S) (the_sign s ∷ ss) vs M k
  reads_sign s l = reads_any (OneSign s) (TheSign s) 0 [] [] (λ at. ap (λ b. if b then Takes 0 [] [] else Refuses) (is_that_sign s)) (omega arith) l

  pub reads_word : {S : Stack} {ss : List Spelling} {vs : Words} {M : List Placed → Type 0} {k : List Placed → Option Words} (w : CoreKeyword) → Reads S ss vs M k
      → Reads (OneWord w ∷ S) (a_word w ∷ ss) vs M k
  reads_word w l = reads_any (OneWord w) (a_word w).lexeme 0 [] [] (λ at. ap (λ b. if b then Takes 0 [] [] else Refuses) (is_that_word w)) (omega arith) l

  pub emit_passes : (w : Word Name) (S : Stack) (i : List Placed) → reading limit (Emit w ∷ S) i ≡ ended_then (Some (w ∷ [])) (reading limit S i)
  emit_passes w S [] = refl
  emit_passes w S (p ∷ i) = read_on_after (w ∷ []) (advance limit S false p.at p.lexeme) (λ T. reading limit T i)

  pub reads_emit : {S : Stack} {ss : List Spelling} {vs : Words} {M : List Placed → Type 0} {k : List Placed → Option Words} (w : Word Name)
      → Reads S ss vs M k → Reads (Emit w ∷ S) ss (w ∷ vs) M k
  reads_emit {S = S} w l = reads_from {N = Any} (w ∷ []) (λ i n. emit_passes w S i) (λ i r g h. tt) l

  -- a symbol that lets the next token pass
  pub symbol_passes : (s : Symbol Name) (S : Stack) (ws : Words) (i : List Placed) → Starting (λ l. (at : ℕ) → step s at l ≡ Passes ws) i
      → reading limit (s ∷ S) i ≡ ended_then (Some ws) (reading limit S i)
  symbol_passes s S ws [] h = absurd h
  symbol_passes s S ws (p ∷ i) h =
      ap (λ o. read_on (advance_by limit o S (λ b. advance limit S b p.at p.lexeme)) (λ T. reading limit T i)) (h p.at)
      ∙ read_on_after ws (advance limit S false p.at p.lexeme) (λ T. reading limit T i)

  pub reads_passed : {S : Stack} {ss : List Spelling} {vs : Words} {M : List Placed → Type 0} {k : List Placed → Option Words} (s : Symbol Name) (t : Spelling)
      (ws : Words) → ((at : ℕ) → step s at t.lexeme ≡ Passes ws) → Reads S (t ∷ ss) vs M k → Reads (s ∷ S) (t ∷ ss) (ws ++ vs) M k
  reads_passed {S = S} {ss = ss} {M = M} s t ws e l = reads_from {N = Starting (λ l. (at : ℕ) → step s at l ≡ Passes ws)} ws (symbol_passes s S ws) go l
    where
      go : (i r : List Placed) → Follows (t ∷ ss) i r → M r → Starting (λ l. (at : ℕ) → step s at l ≡ Passes ws) i
      go [] r g h = absurd g
      go (p ∷ i) r g h = λ at. ap (λ x. step s at x) g.0.0 ∙ e at
