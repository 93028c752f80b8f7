-- Which tokens the items of one word stand for, and where nodes leave.
use Rattle.std.proofs.Common.{◌≡◌, ℕ, Bool, true, false, List, [], ◌∷◌, ◌++◌, flat_map, Option, Some, None, if◌then◌else◌, refl, sym, ap, ◌∙◌}
use Rattle.std.specs.Prelude.{⊤}
use Rattle.tags.specs.declared.value.Value.{Value}
use Rattle.semantics.specs.declared.graph.Region.{Region}
use Rattle.semantics.specs.declared.graph.Kind.{Kind}
use Rattle.semantics.specs.Graph.{Node, Block, Flow, node_at}
use Rattle.semantics.specs.Meaning.{Context, arm_of}
use Rattle.law_net.specs.ContextsParts.{Part, Line, Answer, Gate, Merge, Landing, InCell, Inlet, Note, Datum, FrameOf, BackTo, ToHost, item, each}
use Rattle.law_net.specs.ContextsBlocks.{Side, side, Wiring, exit, exit_kind, second_side, lies_in}
use Rattle.law_net.specs.ContextsMeant.{meant, meant_by, meant_at}
use Rattle.law_net.specs.ContextsWires.{meant_along}

module _ (fl : Flow) where
  -- a value at an inlet
  value_meant : (c : Context) (x : Inlet) (r : Part) (v : Value) → meant_by fl (item c x (Datum v)) r ≡ meant_at fl c r x.port x.way v
  value_meant c x (InCell n) v = refl
  value_meant c x r v = refl

  pub meant_each : (c : Context) (v : Value) (xs : List Inlet) → flat_map (meant fl) (each c (Datum v) xs) ≡ meant_along fl c v xs
  meant_each c v [] = refl
  meant_each c v (x ∷ xs) = (λ k. value_meant c x x.part v k ++ meant_each c v xs k)

  -- no value, no token
  other_meant : (c : Context) (x : Inlet) (r : Part) (k : Note) → ((v : Value) → k ≡ Datum v → ⊥) → meant_by fl (item c x k) r ≡ []
  other_meant c x (InCell n) k h = refl
  other_meant c x r (Datum v) h = absurd (h v refl)
  other_meant c x r (FrameOf d) h = refl
  other_meant c x r (BackTo d y) h = refl
  other_meant c x r ToHost h = refl

  -- where a value stands for no token, no word does
  pub none_meant : (c : Context) (x : Inlet) (k : Note) → ((v : Value) → meant_at fl c x.part x.port x.way v ≡ []) → meant fl (item c x k) ≡ []
  none_meant c x (Datum v) h = value_meant c x x.part v ∙ h v
  none_meant c x (FrameOf d) h = other_meant c x x.part (FrameOf d) (λ v e. cc)
  none_meant c x (BackTo d y) h = other_meant c x x.part (BackTo d y) (λ v e. cc)
  none_meant c x ToHost h = other_meant c x x.part ToHost (λ v e. cc)

  others_meant : (c : Context) (k : Note) (xs : List Inlet) → ((v : Value) → k ≡ Datum v → ⊥) → flat_map (meant fl) (each c k xs) ≡ []
  others_meant c k [] h = refl
  others_meant c k (x ∷ xs) h = (λ i. other_meant c x x.part k h i ++ others_meant c k xs h i)

  pub none_each : (c : Context) (k : Note) (xs : List Inlet) → ((v : Value) → meant_along fl c v xs ≡ []) → flat_map (meant fl) (each c k xs) ≡ []
  none_each c (Datum v) xs h = meant_each c v xs ∙ h v
  none_each c (FrameOf d) xs h = others_meant c (FrameOf d) xs (λ v e. cc)
  none_each c (BackTo d y) xs h = others_meant c (BackTo d y) xs (λ v e. cc)
  none_each c ToHost xs h = others_meant c ToHost xs (λ v e. cc)

-- EXITS
abbrev pub IsExit : Part → Type 0
IsExit (Line n) = ⊤
IsExit (Answer n) = ⊤
IsExit (Gate n) = ⊤
IsExit (Merge n) = ⊤
IsExit (Landing n j) = ⊤
IsExit r = ⊥

answer_or : (t : Bool) (n : ℕ) → IsExit (if t then side (Answer n) false else side (Line n) false).part
answer_or true n = tt
answer_or false n = tt

kind_exit : (w : Wiring) (n q : ℕ) (r : Region) (k : Kind ℕ) → IsExit (exit_kind w n q r k).part
kind_exit w n q r (Kind.Fetch a) = answer_or (w.answers n) n
kind_exit w n q r (Kind.Store a) = answer_or (w.answers n) n
kind_exit w n q r k = tt

pub exit_is : (b : Block ℕ) (w : Wiring) (n q : ℕ) → IsExit (exit b w n q).part
exit_is b w n q =
    elim (node_at b n) as (λ o. IsExit (elim o as (λ x. Side) [ None ↦ side (Line n) false | Some line ↦ exit_kind w n q line.region line.kind ]).part)
    [ None ↦ tt | Some line ↦ kind_exit w n q line.region line.kind ]

-- which node leaves at a gate, and on which side
abbrev IsGateOf : Block ℕ → ℕ → Side → ℕ → Bool → Type 0
IsGateOf b m s n second = s ≡ side (Gate n) second → (m ≡ n) × (second ≡ second_side (lies_in b n))

gate_answer : (b : Block ℕ) (t : Bool) (m n : ℕ) (second : Bool) → IsGateOf b m (if t then side (Answer m) false else side (Line m) false) n second
gate_answer b true m n second e = let f = ap (λ (s : Side). s.part) e in absurd (cc)
gate_answer b false m n second e = let f = ap (λ (s : Side). s.part) e in absurd (cc)

gate_kind : (b : Block ℕ) (w : Wiring) (m q n : ℕ) (second : Bool) (r : Region) → lies_in b m ≡ r → (k : Kind ℕ) → IsGateOf b m (exit_kind w m q r k) n second
gate_kind b w m q n second r er (Kind.Fetch a) e = gate_answer b (w.answers m) m n second e
gate_kind b w m q n second r er (Kind.Store a) e = gate_answer b (w.answers m) m n second e
gate_kind b w m q n second r er Kind.Enter e =
    let f = ap (λ (s : Side). s.part) e in let g = ap (λ (s : Side). s.second) e in
    let same : m ≡ n = cc in (same, sym g ∙ ap second_side (sym er ∙ ap (lies_in b) same))
gate_kind b w m q n second r er k e = let f = ap (λ (s : Side). s.part) e in absurd (cc)

pub exit_gate : (b : Block ℕ) (w : Wiring) (m q n : ℕ) (second : Bool) → exit b w m q ≡ side (Gate n) second → (m ≡ n) × (second ≡ second_side (lies_in b n))
exit_gate b w m q n second = go (node_at b m) refl
  where
    go : (o : Option (Node ℕ)) → node_at b m ≡ o
        → IsGateOf b m (elim o as (λ x. Side) [ None ↦ side (Line m) false | Some line ↦ exit_kind w m q line.region line.kind ]) n second
    go None f e = let g = ap (λ (s : Side). s.part) e in absurd (cc)
    go (Some line) f e = gate_kind b w m q n second line.region (ap arm_of f) line.kind e
