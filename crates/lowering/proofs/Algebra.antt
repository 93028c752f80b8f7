-- Parts one after another are one part.
use Rattle.std.proofs.Common.{◌≡◌, ℕ, ◌-◌, List, [], ◌∷◌, ◌++◌, length, take, drop, refl, sym, ◌∙◌, ap, subst, arith, append_assoc, append-nil, length-append}
use Rattle.semantics.specs.declared.graph.Source.{Source}
use Rattle.semantics.specs.declared.graph.Kind.{Kind}
use Rattle.source.specs.Tree.{Name, Program}
use Rattle.source.specs.Words.{Words}
use Rattle.source.specs.Lowered.{Made, MadeBlock, Lowered, spot_after, joined, followed, ended, made}
use Rattle.lowering.specs.Plans.{Plan}
use Rattle.lowering.specs.State.{State, after, planned, noted}
use Rattle.lowering.specs.Operators.{one_node, before_last, last_of, operated, negated, last_negated}
use Rattle.lowering.specs.Machine.{run, act, is_number}

pub run_append : (p : Program) (s : State) (a b : Words) → run p s (a ++ b) ≡ run p (run p s a) b
run_append p s [] b = refl
run_append p s (w ∷ a) b = run_append p (noted (is_number w) (act p w s)) a b

-- first these words, and then those
pub and_then : (p : Program) (s t u : State) (a b : Words) → run p s a ≡ t → run p t b ≡ u → run p s (a ++ b) ≡ u
and_then p s t u a b e f = run_append p s a b ∙ ap (λ x. run p x b) e ∙ f

-- the plans of two parts
pub both_plans : (p : Program) (s t : State) (a b c : List Plan) (ws : Words)
    → run p (planned s (a ++ (b ++ c))) ws ≡ t → run p (planned s ((a ++ b) ++ c)) ws ≡ t
both_plans p s t a b c ws e = subst (λ (q : List Plan). run p (planned s q) ws ≡ t) (sym (append_assoc a b c)) e

-- a state with another place, values, nodes and blocks
abbrev pub built : State → ℕ → ℕ → List Source → List Made → List MadeBlock → State
built s next loops sources nodes blocks =
    record s { spot = record { next = next; loops = loops }; sources = sources; nodes = nodes; blocks = blocks }

pub alike : (s : State) (n m k l : ℕ) (ss ts : List Source) (ms ns : List Made) (bs cs : List MadeBlock)
    → n ≡ m → k ≡ l → ss ≡ ts → ms ≡ ns → bs ≡ cs → built s n k ss ms bs ≡ built s m l ts ns cs
alike s n m k l ss ts ms ns bs cs a b c d e = cc

pub after_joined : (s : State) (l r : Lowered) → after (after s l) r ≡ after s (joined l r)
after_joined s l r = alike s _ _ _ _ _ _ _ _ _ _
    (omega (arith, length-append l.nodes r.nodes)) (omega (arith, length-append l.blocks r.blocks))
    (append_assoc s.sources l.sources r.sources) (append_assoc s.nodes l.nodes r.nodes) (append_assoc s.blocks l.blocks r.blocks)

-- a part whose values are dropped
abbrev pub quiet : State → Lowered → State
quiet s l = record (after s l) { sources = s.sources }

pub after_followed : (s : State) (l r : Lowered) → after (quiet s l) r ≡ after s (followed l r)
after_followed s l r = alike s _ _ _ _ _ _ _ _ _ _
    (omega (arith, length-append l.nodes r.nodes)) (omega (arith, length-append l.blocks r.blocks))
    refl (append_assoc s.nodes l.nodes r.nodes) (append_assoc s.blocks l.blocks r.blocks)

pub after_ended : (s : State) (l : Lowered) (at : ℕ) (kind : Kind Name) (ss : List Source) (values : ℕ)
    → after (quiet s l) (one_node s.site (spot_after s.spot l) at kind ss values) ≡ after s (ended s.site s.spot l at kind ss values)
after_ended s l at kind ss values = let m : Made = made s.site at kind ss in alike s _ _ _ _ _ _ _ _ _ _
    (omega (arith, length-append l.nodes (m ∷ []))) (omega arith)
    refl (append_assoc s.nodes l.nodes (m ∷ [])) (append-nil (s.blocks ++ l.blocks))

-- the last so many values, and those before
pub last_values : (xs ys : List Source) (n : ℕ) → length ys ≡ n → last_of n (xs ++ ys) ≡ ys
last_values xs ys n e = let h : length (xs ++ ys) - n ≡ length xs = omega (arith, length-append xs ys) in rw h (dropped_all xs ys)
  where
    dropped_all : (xs ys : List Source) → drop (length xs) (xs ++ ys) ≡ ys
    dropped_all [] ys = grind arith
    dropped_all (x ∷ xs) ys = dropped_all xs ys

pub earlier_values : (xs ys : List Source) (n : ℕ) → length ys ≡ n → before_last n (xs ++ ys) ≡ xs
earlier_values xs ys n e = let h : length (xs ++ ys) - n ≡ length xs = omega (arith, length-append xs ys) in rw h (taken_all xs ys)
  where
    taken_all : (xs ys : List Source) → take (length xs) (xs ++ ys) ≡ xs
    taken_all [] ys = grind arith
    taken_all (x ∷ xs) ys = ap (λ zs. x ∷ zs) (taken_all xs ys)

pub after_operated : (s : State) (l : Lowered) (at : ℕ) (kind : Kind Name) (n : ℕ) (order : List Source → List Source) → length l.sources ≡ n
    → operated (after s l) at kind n order ≡ after s (ended s.site s.spot l at kind (order l.sources) 1)
after_operated s l at kind n order e =
    let a : before_last n (s.sources ++ l.sources) ≡ s.sources = earlier_values s.sources l.sources n e in
    let b : last_of n (s.sources ++ l.sources) ≡ l.sources = last_values s.sources l.sources n e in
    ap (λ (xs : List Source). after (record (after s l) { sources = xs })
    (one_node s.site (spot_after s.spot l) at kind (order (last_of n (s.sources ++ l.sources))) 1)) a
    ∙ ap (λ (ys : List Source). after (quiet s l) (one_node s.site (spot_after s.spot l) at kind (order ys) 1)) b
    ∙ after_ended s l at kind (order l.sources) 1

pub last_of_nodes : (at : ℕ) (ms : List Made) (m : Made) → last_negated at (ms ++ m ∷ []) ≡ ms ++ negated at m ∷ []
last_of_nodes at [] m = refl
last_of_nodes at (k ∷ []) m = refl
last_of_nodes at (k ∷ n ∷ ms) m = ap (λ ns. k ∷ ns) (last_of_nodes at (n ∷ ms) m)
