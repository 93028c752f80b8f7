-- The inputs of an invocation that is due have values, and the values of lists of inputs and of ports.
use Rattle.std.proofs.Common.{◌≡◌, ℕ, zero, suc, ◌+◌, ◌-◌, ◌<◌, ℤ, Bool, true, List, [], ◌∷◌, length, Option, Some, None, nat_lt, if◌then◌else◌, refl, sym, ap}
use Rattle.std.proofs.Common.{◌∙◌, subst, arith, lt-ltb}
use Rattle.std.specs.Prelude.{slice_get}
use Rattle.tags.specs.declared.value.Value.{Value}
use Rattle.semantics.specs.declared.graph.Region.TheVariants.{Root}
use Rattle.semantics.specs.declared.graph.Source.{Source}
use Rattle.semantics.specs.Graph.{Node, Block, Flow, node_at, node_count}
use Rattle.semantics.specs.Meaning.{Context, Tagged, State, Activity, Run, Stood, ArmsTaken, arm_of, arms_round, arms_at, block_of, start}
use Rattle.law_confluence.specs.EquationsHave.{ports_in, ports_line}
use Rattle.law_confluence.specs.Equations.{IsDue, Has, BlockEquation, NodeEquation, InputEquation, TakenAt}
use Rattle.law_confluence.specs.EquationsSettled.{Settled}
use Rattle.source.specs.Lowered.{inputs_from, ports_from, port}
use Rattle.law_language.specs.MeansAgrees.{Have}

pub root_taken : (stood : Tagged → Type 0) (c : Context) (b : Block ℕ) (depth : ℕ) → ArmsTaken stood c (arms_round depth b Root)
root_taken stood c b zero = tt
root_taken stood c b (suc depth) = tt

module _ (fl : Flow) (inputs : List ℤ) (run : List Activity) (s : State) (r : Run fl (start inputs) run s) where
  abbrev HasAt : Context → Source → Value → Type 0
  HasAt c x v = Has fl inputs run s r c x v

  abbrev HaveAt : Context → List Source → List Value → Type 0
  HaveAt c xs vs = Have fl inputs run s r c xs vs

  module _ (st : Settled fl inputs run s r) (d : Context) (b : Block ℕ) (eb : block_of fl d ≡ Some b) (due : IsDue fl inputs run s r d) (i : ℕ)
      (low : i < b.inputs) where
    test : nat_lt i b.inputs ≡ true
    test = lt-ltb i b.inputs low

    in_root : node_at b i ≡ None
    in_root = ap (λ (t : Bool). if t then None else slice_get b.nodes (i - b.inputs)) test

    input_taken : TakenAt fl inputs run s r d i
    input_taken =
        subst (λ (o : Option (Block ℕ)). ArmsTaken (Stood fl (start inputs) run s r) d (arms_at o i)) (sym eb)
        (subst (λ (o : Option (Node ℕ)). ArmsTaken (Stood fl (start inputs) run s r) d (arms_round (node_count b) b (arm_of o))) (sym in_root)
        (root_taken (Stood fl (start inputs) run s r) d b (node_count b)))

    one_port : ports_in fl (block_of fl d) i ≡ 1
    one_port = ap (λ o. ports_in fl o i) eb ∙ ap (λ (t : Bool). if t then 1 else ports_line fl (node_at b i)) test

    pub input_gives : (v : Value) × HasAt d (port i 0) v × InputEquation fl inputs run s r d i v
    input_gives =
        let one = one_port in
        let v = st.given d i 0 due input_taken (omega (arith, one)) in
        let e = subst (λ (o : Option (Block ℕ)). BlockEquation fl inputs run s r d i 0 v.0 o) eb (st.equations d i 0 v.0 v.1) in
        let k = subst (λ (t : Bool). NodeEquation fl inputs run s r d i 0 v.0 t (node_at b i)) test e in
        (v.0, v.1, k.1)

  -- LISTS of inputs, and of ports
  pub have_inputs_from : (d : Context) (vs : List Value) (i n : ℕ) → length vs ≡ n → ((k : ℕ) (v : Value) → slice_get vs k ≡ Some v
      → HasAt d (port (i + k) 0) v) → HaveAt d (inputs_from i n) vs
  have_inputs_from d [] i zero e h = tt
  have_inputs_from d [] i (suc n) e h = absurd (omega (arith, e))
  have_inputs_from d (v ∷ vs) i zero e h = absurd (omega (arith, e))
  have_inputs_from d (v ∷ vs) i (suc n) e h = (
    subst (λ i. HasAt d (port i 0) v) (omega arith) (h 0 v refl),
    have_inputs_from d vs (i + 1) n (omega (arith, e)) (λ k y f. subst (λ i. HasAt d (port i 0) y) (omega arith) (h (suc k) y f)),
  )

  pub have_ports_from : (d : Context) (vs : List Value) (n q count : ℕ) → length vs ≡ count
      → ((k : ℕ) (v : Value) → slice_get vs k ≡ Some v → HasAt d (port n (q + k)) v) → HaveAt d (ports_from n q count) vs
  have_ports_from d [] n q zero e h = tt
  have_ports_from d [] n q (suc count) e h = absurd (omega (arith, e))
  have_ports_from d (v ∷ vs) n q zero e h = absurd (omega (arith, e))
  have_ports_from d (v ∷ vs) n q (suc count) e h = (
    subst (λ q. HasAt d (port n q) v) (omega arith) (h 0 v refl),
    have_ports_from d vs n (q + 1) count (omega (arith, e)) (λ k y f. subst (λ q. HasAt d (port n q) y) (omega arith) (h (suc k) y f)),
  )
