-- What holds of all sides of the parts of nodes and results, by the region in which they are.
use Rattle.std.proofs.Common.{◌≡◌, ℕ, zero, suc, ◌+◌, ◌-◌, ◌<◌, ◌≤◌, ◌⊎◌, inl, inr, Bool, true, false, not, List, [], ◌∷◌, ◌++◌, length, refl, sym, ap, subst}
use Rattle.std.proofs.Common.{arith}
use Rattle.std.specs.Prelude.{slice_get}
use Rattle.std.proofs.lemmas.Bool.{cases_lt}
use Rattle.semantics.specs.declared.graph.Region.{Region}
use Rattle.semantics.specs.declared.graph.Region.TheVariants.{Root, Arm}
use Rattle.semantics.specs.declared.graph.Kind.{Kind}
use Rattle.semantics.specs.declared.graph.Kind.TheVariants.{Lit, Apply1, Apply2, Cond, Enter, Merge, Fetch, Store, Call, StrictCall, Loop}
use Rattle.semantics.specs.Graph.{Node, Flow}
use Rattle.law_net.specs.ContextsParts as Parts
use Rattle.law_net.specs.ContextsParts.{Part, Entry, Line, Answer, Trigger, Gate, Opener, Framer, Fanned, Linker, Sender, Landing, CallDone, Giver, Taker}
use Rattle.law_net.specs.ContextsParts.{Drainer, LoopDone, Strict, Result, TurnCont, TurnFlag, TurnValue, Asker, NextFramer, NextFanned, NextSender, LastReturn}
use Rattle.law_net.specs.ContextsParts.{DrainReturn}
use Rattle.law_net.specs.ContextsBlocks.{Side, side, Site, lies_in, flag, outputs_in}
use Rattle.law_net.specs.ContextsExpanded.{row, invoked, turn_parts}
use Rattle.law_wiring.specs.Written.{is_shared, is_triggered, answer_side, answer_parts, trigger_parts, exit_of, kind_parts, node_parts, tail_parts}
use Rattle.law_wiring.specs.Written.{inner_parts, sides_of, sides}
use Rattle.law_wiring.specs.WrittenFit.{kind_ports}
use Rattle.law_wiring.proofs.WrittenMembers.{AllS, In, parts_both, sides_left, sides_right, region}

-- ROWS of parts with one side
pub row_sides : (P : Side → Type 0) (f : ℕ → Part) (from n : ℕ) → ((j : ℕ) → AllS P (sides_of (f j))) → AllS P (sides (row f from n))
row_sides P f from zero h = tt
row_sides P f from (suc n) h = parts_both P (f from ∷ []) (row f (from + 1) n) (parts_one P (f from) (h from)) (row_sides P f (from + 1) n h)
  where
    parts_one : (P : Side → Type 0) (r : Part) → AllS P (sides_of r) → AllS P (sides (r ∷ []))
    parts_one P r h = subst (AllS P) (sym (nil_right (sides_of r))) h
      where
        nil_right : (ts : List Side) → ts ++ [] ≡ ts
        nil_right [] = refl
        nil_right (t ∷ ts) = ap (λ us. t ∷ us) (nil_right ts)

pub row_in : (f : ℕ → Part) (u : Bool) (from n j : ℕ) → ((i : ℕ) → In (side (f i) u) (sides (f i ∷ []))) → from ≤ j → j < from + n
    → In (side (f j) u) (sides (row f from n))
row_in f u from zero j h l m = absurd (omega (arith, l, m))
row_in f u from (suc n) j h l m = go (cases_lt from j) (λ a. row_in f u (from + 1) n j h a (omega (arith, m)))
  where
    go : (from < j) ⊎ (j ≤ from) → (from + 1 ≤ j → In (side (f j) u) (sides (row f (from + 1) n))) → In (side (f j) u) (sides (row f from (suc n)))
    go (inl a) more = sides_right (side (f j) u) (f from ∷ []) (row f (from + 1) n) (more (omega (arith, a)))
    go (inr a) more =
        let same : j ≡ from = omega (arith, l, a) in
        sides_left (side (f j) u) (f from ∷ []) (row f (from + 1) n) (subst (λ i. In (side (f j) u) (sides (f i ∷ []))) same (h j))

module _ (fl : Flow) (s : Site) where
  -- INVOCATIONS
  pub landing_in : (n m results q : ℕ) (rest : List Part) → q < results → In (side (Landing n q) false) (sides (invoked n m results ++ rest))
  landing_in n m results q rest l =
      sides_left (side (Landing n q) false) (invoked n m results) rest
      (inr (sides_right (side (Landing n q) false) (row (Sender n) 0 m) (row (Landing n) 0 results)
      (row_in (Landing n) false 0 results q (λ i. inl refl) (omega arith) (omega (arith, l)))))

  pub fanned_in : (n m results : ℕ) (rest : List Part) → In (side (Fanned n) false) (sides (invoked n m results ++ rest))
  fanned_in n m results rest = inl refl

  pub done_in : (n m results : ℕ) → In (side (CallDone n) false) (sides (invoked n m results ++ CallDone n ∷ []))
  done_in n m results = sides_right (side (CallDone n) false) (invoked n m results) (CallDone n ∷ []) (inl refl)

  pub loop_done_in : (n m results : ℕ)
      → In (side (LoopDone n) false) (sides (Opener n ∷ invoked n m results ++ (Giver n ∷ Taker n ∷ Drainer n ∷ LoopDone n ∷ [])))
  loop_done_in n m results = inr (sides_right (side (LoopDone n) false) (invoked n m results) (Giver n ∷ Taker n ∷ Drainer n ∷ LoopDone n ∷ []) (inl refl))

  -- WHERE A NODE'S VALUE LEAVES is a side of its parts
  answer_in : (n : ℕ) (t : Bool) → In (answer_side n t) (sides (Line n ∷ answer_parts n t))
  answer_in n true = inr (inl refl)
  answer_in n false = inl refl

  pub exit_side : (n q m : ℕ) (r : Region) (k : Kind ℕ) → q < kind_ports fl m k → In (exit_of s n q r k) (sides (kind_parts fl s n m k))
  exit_side n q m Root Enter l = inl refl
  exit_side n q m (Arm k true) Enter l = inl refl
  exit_side n q m (Arm k false) Enter l = inr (inl refl)
  exit_side n q m r (Merge c) l = inl refl
  exit_side n q m r Cond l = absurd (omega (arith, l))
  exit_side n q m r (Lit z) l = inl refl
  exit_side n q m r (Apply1 op) l = inl refl
  exit_side n q m r (Apply2 op) l = inl refl
  exit_side n q m r (Fetch a) l = answer_in n (is_shared s n)
  exit_side n q m r (Store a) l = answer_in n (is_shared s n)
  exit_side n q m r (Call f) l = landing_in n m (outputs_in (slice_get fl.blocks f)) q (CallDone n ∷ []) l
  exit_side n q m r (StrictCall f) l =
      sides_right (side (Landing n q) false) (row (Strict n) 1 (m - 1)) (invoked n m (outputs_in (slice_get fl.blocks f)) ++ CallDone n ∷ [])
      (landing_in n m (outputs_in (slice_get fl.blocks f)) q (CallDone n ∷ []) l)
  exit_side n q m r (Loop f c) l = inr (landing_in n m m q (Giver n ∷ Taker n ∷ Drainer n ∷ LoopDone n ∷ []) l)

  -- ALL SIDES, by their regions
  module _ (P : Side → Type 0) (ordinary : (n : ℕ) (r : Part) → region s.block (side r false) ≡ lies_in s.block n → P (side r false))
      (gates : (n : ℕ) (u : Bool) → P (side (Gate n) u))
      (triggers : (n : ℕ) (u : Bool) → is_triggered s.block n ≡ true → P (side (Trigger n) u))
      (roots : (r : Part) → region s.block (side r false) ≡ Root → P (side r false))
      (flags : s.turns ≡ true → (t : Side) (u : Bool) → region s.block t ≡ Arm (flag s.block) u → P t) where
    answers_all : (n : ℕ) (t : Bool) → AllS P (sides (answer_parts n t))
    answers_all n true = (ordinary n (Answer n) refl, tt)
    answers_all n false = tt

    triggers_all : (n : ℕ) (t : Bool) → is_triggered s.block n ≡ t → AllS P (sides (trigger_parts n t))
    triggers_all n true e = (triggers n false e, (triggers n true e, tt))
    triggers_all n false e = tt

    invoked_all : (n m results : ℕ) → AllS P (sides (invoked n m results))
    invoked_all n m results = (
      ordinary n (Fanned n) refl,
      parts_both P (row (Sender n) 0 m) (row (Landing n) 0 results) (row_sides P (Sender n) 0 m (λ j. (ordinary n (Sender n j) refl, tt)))
          (row_sides P (Landing n) 0 results (λ j. (ordinary n (Landing n j) refl, tt))),
    )

    call_all : (n m results : ℕ) → AllS P (sides (invoked n m results ++ CallDone n ∷ []))
    call_all n m results = parts_both P (invoked n m results) (CallDone n ∷ []) (invoked_all n m results) (ordinary n (CallDone n) refl, tt)

    kind_all : (n m : ℕ) (k : Kind ℕ) → AllS P (sides (kind_parts fl s n m k))
    kind_all n m Cond = triggers_all n (is_triggered s.block n) refl
    kind_all n m Enter = (gates n false, (gates n true, tt))
    kind_all n m (Merge k) = (ordinary n (Parts.Merge n) refl, tt)
    kind_all n m (Lit z) = (ordinary n (Line n) refl, tt)
    kind_all n m (Apply1 op) = (ordinary n (Line n) refl, tt)
    kind_all n m (Apply2 op) = (ordinary n (Line n) refl, tt)
    kind_all n m (Fetch a) = (ordinary n (Line n) refl, answers_all n (is_shared s n))
    kind_all n m (Store a) = (ordinary n (Line n) refl, answers_all n (is_shared s n))
    kind_all n m (Call f) = call_all n m (outputs_in (slice_get fl.blocks f))
    kind_all n m (StrictCall f) =
        parts_both P (row (Strict n) 1 (m - 1)) (invoked n m (outputs_in (slice_get fl.blocks f)) ++ CallDone n ∷ [])
        (row_sides P (Strict n) 1 (m - 1) (λ j. (ordinary n (Strict n j) refl, tt)))
        (call_all n m (outputs_in (slice_get fl.blocks f)))
    kind_all n m (Loop f k) = (
      ordinary n (Opener n) refl,
      parts_both P (invoked n m m) (Giver n ∷ Taker n ∷ Drainer n ∷ LoopDone n ∷ []) (invoked_all n m m) (ordinary n (LoopDone n) refl, tt),
    )

    nodes_all : (n : ℕ) (xs : List (Node ℕ)) → AllS P (sides (node_parts fl s n xs))
    nodes_all n [] = tt
    nodes_all n (x ∷ xs) =
        parts_both P (kind_parts fl s n (length x.sources) x.kind) (node_parts fl s (n + 1) xs) (kind_all n (length x.sources) x.kind) (nodes_all (n + 1) xs)

    turn_all : s.turns ≡ true → (n : ℕ) → AllS P (sides (turn_parts n))
    turn_all e n =
        let both : (r : Part) → ((u : Bool) → region s.block (side r u) ≡ Arm (flag s.block) (not u))
        → P (side r false) × P (side r true) = λ r h. (flags e (side r false) true (h false), flags e (side r true) false (h true)) in
        let cont = both TurnCont (λ u. refl) in
        let its = both TurnFlag (λ u. refl) in (
          cont.0,
          (
            cont.1,
            (
              its.0,
              (
                its.1,
                parts_both P (row TurnValue 1 n) (Asker ∷ NextFramer ∷ NextFanned ∷ row NextSender 0 (n + 1) ++ (row LastReturn 0 n ++ DrainReturn ∷ []))
                    (row_sides P TurnValue 1 n (λ j. (flags e (side (TurnValue j) false) true refl, (flags e (side (TurnValue j) true) false refl, tt)))) (
                      flags e (side NextFanned false) true refl,
                      parts_both P (row NextSender 0 (n + 1)) (row LastReturn 0 n ++ DrainReturn ∷ [])
                          (row_sides P NextSender 0 (n + 1) (λ j. (flags e (side (NextSender j) false) true refl, tt)))
                          (parts_both P (row LastReturn 0 n) (DrainReturn ∷ [])
                          (row_sides P LastReturn 0 n (λ j. (flags e (side (LastReturn j) false) false refl, tt)))
                          (flags e (side DrainReturn false) false refl, tt)),
                    ),
              ),
            ),
          ),
        )

    tail_all : (t : Bool) → s.turns ≡ t → AllS P (sides (tail_parts s.block t))
    tail_all false e = row_sides P Result 0 (length s.block.results) (λ j. (roots (Result j) refl, tt))
    tail_all true e = turn_all e s.block.inputs

    pub inner_all : AllS P (sides (inner_parts fl s))
    inner_all =
        parts_both P (Entry ∷ row Line 0 s.block.inputs ++ node_parts fl s s.block.inputs s.block.nodes) (tail_parts s.block s.turns) (
          roots Entry refl,
          parts_both P (row Line 0 s.block.inputs) (node_parts fl s s.block.inputs s.block.nodes)
              (row_sides P Line 0 s.block.inputs (λ j. (ordinary j (Line j) refl, tt))) (nodes_all s.block.inputs s.block.nodes),
        )
        (tail_all s.turns refl)
