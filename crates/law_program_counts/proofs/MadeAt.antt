-- WHERE AN INVOCATION IS MADE: at a node of one around it, which is a call or a loop and is taken.
use Rattle.std.proofs.Common.{◌≡◌, ℕ, ◌⊎◌, inl, inr, Option, Some, None, ap, ap₂, subst, arith}
use Rattle.semantics.specs.Graph.{Node}
use Rattle.semantics.specs.Meaning.{Context, Main, Called, Turned, IsCall, IsLoop, node_of}
use Rattle.law_confluence.specs.EquationsContexts.{depth}
use Rattle.law_confluence.specs.Equations.{TakenAt}
use Rattle.law_language.specs.MeansBelow.{node_under}
use Rattle.law_language.proofs.MeansStoredOnce.{own_under}
use Rattle.law_language.proofs.MeansUnder.{AtIt, Itself, InCall, InTurn, under_cases, under_due, under_depth, under_call, under_turn, under_once}
use Rattle.law_language.proofs.MeansScene.{Scene, flow, DueIn}

-- the node of c at which d is made, or the invocation around d
abbrev pub made_at : Context → Context → Option ℕ
made_at c Main = None
made_at c (Called d n) = node_under c d n
made_at c (Turned d n t) = node_under c d n

-- What is made at node n of c is its call or one of its turns, or is made within one of these.
pub data MadeBy (c : Context) (n : ℕ) (d : Context) : Type 0 where
  TheCall : d ≡ Called c n → MadeBy c n d
  TheTurn : (t : ℕ) → d ≡ Turned c n t → MadeBy c n d
  WithinCall : (k : ℕ) → made_at (Called c n) d ≡ Some k → MadeBy c n d
  WithinTurn : (t k : ℕ) → made_at (Turned c n t) d ≡ Some k → MadeBy c n d

pub made_by : (c : Context) (n : ℕ) (d : Context) → made_at c d ≡ Some n → MadeBy c n d
made_by c n Main e = cc
made_by c n (Called d m) e = go (under_cases c n d m e)
  where
    go : AtIt c n d m → MadeBy c n (Called d m)
    go (Itself ec en) = TheCall (ap₂ (λ c n. Called c n) ec en)
    go (InCall k f) = WithinCall k f
    go (InTurn t k f) = WithinTurn t k f
made_by c n (Turned d m i) e = go (under_cases c n d m e)
  where
    go : AtIt c n d m → MadeBy c n (Turned d m i)
    go (Itself ec en) = TheTurn i (ap₂ (λ c n. Turned c n i) ec en)
    go (InCall k f) = WithinCall k f
    go (InTurn t k f) = WithinTurn t k f

-- What is made within a node's call, or within a turn of it, is made at that node; and so are these.
pub made_call : (c d : Context) (n k : ℕ) → made_at (Called c n) d ≡ Some k → made_at c d ≡ Some n
made_call c Main n k e = cc
made_call c (Called d m) n k e = under_call c n d m k e
made_call c (Turned d m t) n k e = under_call c n d m k e

pub made_turn : (c d : Context) (n t k : ℕ) → made_at (Turned c n t) d ≡ Some k → made_at c d ≡ Some n
made_turn c Main n t k e = cc
made_turn c (Called d m) n t k e = under_turn c n t d m k e
made_turn c (Turned d m u) n t k e = under_turn c n t d m k e

pub own_call : (c : Context) (n : ℕ) → made_at c (Called c n) ≡ Some n
own_call c n = own_under c n

pub own_turn : (c : Context) (n t : ℕ) → made_at c (Turned c n t) ≡ Some n
own_turn c n t = own_under c n

-- Nothing is made in itself, and what is made in a turn is made in no other.
pub not_in_call : (c : Context) (n k : ℕ) → made_at (Called c n) (Called c n) ≡ Some k → ⊥
not_in_call c n k e = let low = under_depth (Called c n) c n k e in omega (arith, low)

pub not_in_turn : (c : Context) (n t u k : ℕ) → made_at (Turned c n t) (Turned c n u) ≡ Some k → ⊥
not_in_turn c n t u k e = let low = under_depth (Turned c n t) c n k e in omega (arith, low)

pub made_once : (c d : Context) (n t u k l : ℕ) → made_at (Turned c n t) d ≡ Some k → made_at (Turned c n u) d ≡ Some l → t ≡ u
made_once c Main n t u k l e f = cc
made_once c (Called d m) n t u k l e f = under_once c n t u d m k l e f
made_once c (Turned d m i) n t u k l e f = under_once c n t u d m k l e f

pub turn_once : (c : Context) (n t u : ℕ) → Turned c n t ≡ Turned c n u → t ≡ u
turn_once c n t u e = let same = ap depth e in omega (arith, same)

module _ (z : Scene) where
  -- what a due invocation is made in is due
  pub made_due : (c d : Context) (k : ℕ) → DueIn z d → made_at c d ≡ Some k → DueIn z c
  made_due c Main k due e = cc
  made_due c (Called d m) k due e = under_due z.graph z.inputs z.run z.state z.is_run c d m k due.0 e
  made_due c (Turned d m t) k due e = under_due z.graph z.inputs z.run z.state z.is_run c d m k due.0 e

  -- and so is the node's call, or a turn of it
  pub node_made : (c d : Context) (n : ℕ) → DueIn z d → made_at c d ≡ Some n → DueIn z (Called c n) ⊎ ((t : ℕ) × DueIn z (Turned c n t))
  node_made c d n due e = go (made_by c n d e)
    where
      go : MadeBy c n d → DueIn z (Called c n) ⊎ ((t : ℕ) × DueIn z (Turned c n t))
      go (TheCall f) = inl (subst (λ d. DueIn z d) f due)
      go (TheTurn t f) = inr (t, subst (λ d. DueIn z d) f due)
      go (WithinCall k f) = inl (made_due (Called c n) d k due f)
      go (WithinTurn t k f) = inr (t, made_due (Turned c n t) d k due f)

  -- the node is a call or a loop
  pub made_line : (c d : Context) (n : ℕ) → DueIn z d → made_at c d ≡ Some n
      → (line : Node ℕ) × (node_of (flow z) c n ≡ Some line) × (IsCall line.kind ⊎ IsLoop line.kind)
  made_line c d n due e = go (node_made c d n due e)
    where
      go : DueIn z (Called c n) ⊎ ((t : ℕ) × DueIn z (Turned c n t))
          → (line : Node ℕ) × (node_of (flow z) c n ≡ Some line) × (IsCall line.kind ⊎ IsLoop line.kind)
      go (inl call) = (call.1.0, call.1.1, inl call.1.2)
      go (inr turn) = (turn.1.1.0, turn.1.1.1, inr turn.1.1.2)

  -- whose arms are taken
  pub made_taken : (c d : Context) (n : ℕ) → DueIn z d → made_at c d ≡ Some n → TakenAt (flow z) z.inputs z.run z.state z.is_run c n
  made_taken c d n due e = go (node_made c d n due e)
    where
      go : DueIn z (Called c n) ⊎ ((t : ℕ) × DueIn z (Turned c n t)) → TakenAt (flow z) z.inputs z.run z.state z.is_run c n
      go (inl call) = call.2
      go (inr turn) = turn.1.2
