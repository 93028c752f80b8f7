-- WHERE AN INVOCATION LIES: at a node of one around it, in what that node makes.
use Rattle.std.proofs.Common.{◌≡◌, ℕ, ◌+◌, ◌<◌, ◌≤◌, ℤ, List, Bool, true, false, Some, None, if◌then◌else◌, refl, sym, ap, ap₂, ◌∙◌, subst, arith, ⊎_elim}
use Rattle.std.proofs.lemmas.Option.{same_Some}
use Rattle.semantics.specs.Meaning.{Context, Main, Called, Turned, State, Activity, Run, start, node_of}
use Rattle.semantics.specs.Graph.{Node, Graph, flow_of}
use Rattle.law_confluence.specs.EquationsContexts.{same_context, depth}
use Rattle.law_confluence.proofs.EquationsContexts.{same_context_is}
use Rattle.law_confluence.specs.Equations.{IsDue}
use Rattle.law_confluence.specs.EquationsSettled.{Settled}
use Rattle.law_language.specs.MeansBelow.{node_under}
use Rattle.law_language.proofs.MeansStoreLines.{under}
use Rattle.law_language.proofs.MeansStoredOnce.{own_under}

-- DEPTH: what lies in an invocation is at least as deep
pub under_depth : (c d : Context) (m k : ℕ) → node_under c d m ≡ Some k → depth c ≤ depth d
under_depth c Main m k e = go (same_context c Main) refl e
  where
    go : (t : Bool) → same_context c Main ≡ t → (if t then Some m else None) ≡ Some k → depth c ≤ 0
    go true f e = let same = ap depth (same_context_is c Main f) in omega (arith, same)
    go false f e = cc
under_depth c (Called d j) m k e = go (same_context c (Called d j)) refl e (λ e. under_depth c d j k e)
  where
    go : (t : Bool) → same_context c (Called d j) ≡ t → (if t then Some m else node_under c d j) ≡ Some k → (node_under c d j ≡ Some k → depth c ≤ depth d)
        → depth c ≤ depth d + 1
    go true f e later = let same = ap depth (same_context_is c (Called d j) f) in omega (arith, same)
    go false f e later = let low = later e in omega (arith, low)
under_depth c (Turned d j t) m k e = go (same_context c (Turned d j t)) refl e (λ e. under_depth c d j k e)
  where
    go : (u : Bool) → same_context c (Turned d j t) ≡ u → (if u then Some m else node_under c d j) ≡ Some k → (node_under c d j ≡ Some k → depth c ≤ depth d)
        → depth c ≤ depth d + 1 + t
    go true f e later = let same = ap depth (same_context_is c (Turned d j t) f) in omega (arith, same)
    go false f e later = let low = later e in omega (arith, low)

-- one that is deeper is another
other : (c d : Context) → depth c < depth d → same_context c d ≡ false
other c d low = go (same_context c d) refl
  where
    go : (t : Bool) → same_context c d ≡ t → same_context c d ≡ false
    go true f = let same = ap depth (same_context_is c d f) in absurd (omega (arith, same, low))
    go false f = f

past_call : (c d : Context) (j m n : ℕ) → depth c < depth (Called d j) → node_under c d j ≡ Some n → node_under c (Called d j) m ≡ Some n
past_call c d j m n low e = ap (λ (t : Bool). if t then Some m else node_under c d j) (other c (Called d j) low) ∙ e

past_turn : (c d : Context) (j t m n : ℕ) → depth c < depth (Turned d j t) → node_under c d j ≡ Some n → node_under c (Turned d j t) m ≡ Some n
past_turn c d j t m n low e = ap (λ (u : Bool). if u then Some m else node_under c d j) (other c (Turned d j t) low) ∙ e

-- WHAT LIES IN A CALL lies at its node.
pub under_call : (c : Context) (n : ℕ) (d : Context) (m k : ℕ) → node_under (Called c n) d m ≡ Some k → node_under c d m ≡ Some n
under_call c n Main m k e = cc
under_call c n (Called d j) m k e = go (same_context (Called c n) (Called d j)) refl e (λ e. under_call c n d j k e)
  where
    go : (t : Bool) → same_context (Called c n) (Called d j) ≡ t → (if t then Some m else node_under (Called c n) d j) ≡ Some k
        → (node_under (Called c n) d j ≡ Some k → node_under c d j ≡ Some n) → node_under c (Called d j) m ≡ Some n
    go true f e later =
        let same = same_context_is (Called c n) (Called d j) f in
        subst (λ d. node_under c d m ≡ Some n) same (past_call c c n m n (omega arith) (own_under c n))
    go false f e later = let low = under_depth (Called c n) d j k e in past_call c d j m n (omega (arith, low)) (later e)
under_call c n (Turned d j t) m k e = let low = under_depth (Called c n) d j k e in past_turn c d j t m n (omega (arith, low)) (under_call c n d j k e)

pub under_turn : (c : Context) (n t : ℕ) (d : Context) (m k : ℕ) → node_under (Turned c n t) d m ≡ Some k → node_under c d m ≡ Some n
under_turn c n t Main m k e = cc
under_turn c n t (Called d j) m k e = let low = under_depth (Turned c n t) d j k e in past_call c d j m n (omega (arith, low)) (under_turn c n t d j k e)
under_turn c n t (Turned d j u) m k e = go (same_context (Turned c n t) (Turned d j u)) refl e (λ e. under_turn c n t d j k e)
  where
    go : (w : Bool) → same_context (Turned c n t) (Turned d j u) ≡ w → (if w then Some m else node_under (Turned c n t) d j) ≡ Some k
        → (node_under (Turned c n t) d j ≡ Some k → node_under c d j ≡ Some n) → node_under c (Turned d j u) m ≡ Some n
    go true f e later =
        let same = same_context_is (Turned c n t) (Turned d j u) f in
        subst (λ d. node_under c d m ≡ Some n) same (past_turn c c n t m n (omega arith) (own_under c n))
    go false f e later = let low = under_depth (Turned c n t) d j k e in past_turn c d j u m n (omega (arith, low)) (later e)

-- AND WHAT LIES AT A NODE is the node, or lies in its call, or in one of its turns.
pub data AtIt (c : Context) (n : ℕ) (d : Context) (m : ℕ) : Type 0 where
  Itself : d ≡ c → m ≡ n → AtIt c n d m
  InCall : (k : ℕ) → node_under (Called c n) d m ≡ Some k → AtIt c n d m
  InTurn : (t k : ℕ) → node_under (Turned c n t) d m ≡ Some k → AtIt c n d m

further_call : (c d : Context) (j m k : ℕ) → node_under c d j ≡ Some k → (i : ℕ) × (node_under c (Called d j) m ≡ Some i)
further_call c d j m k e = go (same_context c (Called d j))
  where
    go : (t : Bool) → (i : ℕ) × ((if t then Some m else node_under c d j) ≡ Some i)
    go true = (m, refl)
    go false = (k, e)

further_turn : (c d : Context) (j t m k : ℕ) → node_under c d j ≡ Some k → (i : ℕ) × (node_under c (Turned d j t) m ≡ Some i)
further_turn c d j t m k e = go (same_context c (Turned d j t))
  where
    go : (u : Bool) → (i : ℕ) × ((if u then Some m else node_under c d j) ≡ Some i)
    go true = (m, refl)
    go false = (k, e)

pub under_cases : (c : Context) (n : ℕ) (d : Context) (m : ℕ) → node_under c d m ≡ Some n → AtIt c n d m
under_cases c n Main m e = go (same_context c Main) refl e
  where
    go : (t : Bool) → same_context c Main ≡ t → (if t then Some m else None) ≡ Some n → AtIt c n Main m
    go true f e = Itself (sym (same_context_is c Main f)) (same_Some m n e)
    go false f e = cc
under_cases c n (Called d j) m e = go (same_context c (Called d j)) refl e (λ e. under_cases c n d j e)
  where
    outer : AtIt c n d j → AtIt c n (Called d j) m
    outer (Itself ec en) =
        InCall m (subst (λ x. node_under (Called c n) x m ≡ Some m) (ap₂ (λ c n. Called c n) (sym ec) (sym en)) (own_under (Called c n) m))
    outer (InCall k e) = let f = further_call (Called c n) d j m k e in InCall f.0 f.1
    outer (InTurn t k e) = let f = further_call (Turned c n t) d j m k e in InTurn t f.0 f.1

    go : (t : Bool) → same_context c (Called d j) ≡ t → (if t then Some m else node_under c d j) ≡ Some n → (node_under c d j ≡ Some n → AtIt c n d j)
        → AtIt c n (Called d j) m
    go true f e later = Itself (sym (same_context_is c (Called d j) f)) (same_Some m n e)
    go false f e later = outer (later e)
under_cases c n (Turned d j t) m e = go (same_context c (Turned d j t)) refl e (λ e. under_cases c n d j e)
  where
    outer : AtIt c n d j → AtIt c n (Turned d j t) m
    outer (Itself ec en) =
        InTurn t m (subst (λ x. node_under (Turned c n t) x m ≡ Some m) (ap₂ (λ c n. Turned c n t) (sym ec) (sym en)) (own_under (Turned c n t) m))
    outer (InCall k e) = let f = further_turn (Called c n) d j t m k e in InCall f.0 f.1
    outer (InTurn u k e) = let f = further_turn (Turned c n u) d j t m k e in InTurn u f.0 f.1

    go : (u : Bool) → same_context c (Turned d j t) ≡ u → (if u then Some m else node_under c d j) ≡ Some n → (node_under c d j ≡ Some n → AtIt c n d j)
        → AtIt c n (Turned d j t) m
    go true f e later = Itself (sym (same_context_is c (Turned d j t) f)) (same_Some m n e)
    go false f e later = outer (later e)

turn_same : (c d : Context) (n j i t : ℕ) → Turned c n i ≡ Turned d j t → (c ≡ d) × (i ≡ t)
turn_same c d n j i t e = (ap by_of e, ap turn_of e)
  where
    by_of : Context → Context
    by_of Main = Main
    by_of (Called c n) = c
    by_of (Turned c n i) = c

    turn_of : Context → ℕ
    turn_of Main = 0
    turn_of (Called c n) = 0
    turn_of (Turned c n i) = i

-- in one turn only
pub under_once : (c : Context) (n i j : ℕ) (d : Context) (m k l : ℕ) → node_under (Turned c n i) d m ≡ Some k → node_under (Turned c n j) d m ≡ Some l → i ≡ j
under_once c n i j Main m k l e f = cc
under_once c n i j (Called d h) m k l e f = under_once c n i j d h k l e f
under_once c n i j (Turned d h t) m k l e f = go (same_context (Turned c n i) (Turned d h t)) (same_context (Turned c n j) (Turned d h t)) refl refl e f
    (λ e f. under_once c n i j d h k l e f)
  where
    go : (a b : Bool) → same_context (Turned c n i) (Turned d h t) ≡ a → same_context (Turned c n j) (Turned d h t) ≡ b
        → (if a then Some m else node_under (Turned c n i) d h) ≡ Some k → (if b then Some m else node_under (Turned c n j) d h) ≡ Some l
        → (node_under (Turned c n i) d h ≡ Some k → node_under (Turned c n j) d h ≡ Some l → i ≡ j) → i ≡ j
    go true true x y e f later =
        (turn_same c d n h i t (same_context_is (Turned c n i) (Turned d h t) x)).1 ∙ sym (turn_same c d n h j t
        (same_context_is (Turned c n j) (Turned d h t) y)).1
    go true false x y e f later =
        let same = ap depth (turn_same c d n h i t (same_context_is (Turned c n i) (Turned d h t) x)).0 in
        let low = under_depth (Turned c n j) d h l f in absurd (omega (arith, same, low))
    go false true x y e f later =
        let same = ap depth (turn_same c d n h j t (same_context_is (Turned c n j) (Turned d h t) y)).0 in
        let low = under_depth (Turned c n i) d h k e in absurd (omega (arith, same, low))
    go false false x y e f later = later e f

-- AN INVOCATION ROUND ONE THAT IS DUE is due, and what lies in it lies at a line of its block.
module _ (g : Graph) (inputs : List ℤ) (run : List Activity) (s : State) (r : Run (flow_of g) (start inputs) run s) where
  abbrev DueAt : Context → Type 0
  DueAt d = IsDue (flow_of g) inputs run s r d

  pub under_due : (c d : Context) (m k : ℕ) → DueAt d → node_under c d m ≡ Some k → DueAt c
  under_due c Main m k due e = go (same_context c Main) refl e
    where
      go : (t : Bool) → same_context c Main ≡ t → (if t then Some m else None) ≡ Some k → DueAt c
      go true f e = subst DueAt (sym (same_context_is c Main f)) tt
      go false f e = cc
  under_due c (Called d j) m k due e = go (same_context c (Called d j)) refl e (λ e. under_due c d j k due.0 e)
    where
      go : (t : Bool) → same_context c (Called d j) ≡ t → (if t then Some m else node_under c d j) ≡ Some k → (node_under c d j ≡ Some k → DueAt c) → DueAt c
      go true f e later = subst DueAt (sym (same_context_is c (Called d j) f)) due
      go false f e later = later e
  under_due c (Turned d j t) m k due e = go (same_context c (Turned d j t)) refl e (λ e. under_due c d j k due.0 e)
    where
      go : (u : Bool) → same_context c (Turned d j t) ≡ u → (if u then Some m else node_under c d j) ≡ Some k → (node_under c d j ≡ Some k → DueAt c) → DueAt c
      go true f e later = subst DueAt (sym (same_context_is c (Turned d j t) f)) due
      go false f e later = later e

  pub under_line : (st : Settled (flow_of g) inputs run s r) (c d : Context) (m k : ℕ) (line : Node ℕ) → DueAt d → node_of (flow_of g) d m ≡ Some line
      → node_under c d m ≡ Some k
      → (above : Node ℕ) × (node_of (flow_of g) c k ≡ Some above)
  under_line st c d m k line due el e =
      ⊎_elim (λ own. (line, ap₂ (λ c n. node_of (flow_of g) c n) (sym own.0) (sym own.1) ∙ el)) (λ above. (above.0, above.1))
      (under (flow_of g) inputs run s r st c k d m due e)
