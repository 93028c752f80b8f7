-- WHAT STAYS as a run goes on: what is due, which arms are taken, values, names, and what is active.
use Rattle.std.proofs.Common.{ℕ, ℤ, Bool, List, [], ◌∷◌}
use Rattle.tags.specs.declared.value.Value.{Value}
use Rattle.tags.specs.declared.value.Origin.{Origin}
use Rattle.semantics.specs.declared.graph.Source.{Source}
use Rattle.semantics.specs.Graph.{Graph, Flow, flow_of}
use Rattle.semantics.specs.WellFormed.{WellFormed}
use Rattle.semantics.specs.Meaning.{Context, Stood, ArmsTaken, start}
use Rattle.law_confluence.specs.Outcome.{AreInputsOf}
use Rattle.law_confluence.specs.Equations.{IsDue, Has}
use Rattle.law_completion.proofs.DueGrows.{due_grows}
use Rattle.source.specs.Tree.{Name, Program}
use Rattle.source.specs.Evaluates.{Env}
use Rattle.source.specs.Lowered.{Lowered, Site, Spot, Scope}
use Rattle.law_language.specs.Means.{IsActive}
use Rattle.law_language.specs.MeansAgrees.{Agrees, Have}
use Rattle.law_ordered_runs.proofs.Extending.{Going, On, gives_on}

module _ (g : Graph) (inputs : List ℤ) (well : WellFormed g) (count : AreInputsOf g inputs) (x y : Going g inputs) (on : On g inputs well count x y) where
  abbrev fl : Flow
  fl = flow_of g

  pub due_on : (c : Context) → IsDue fl inputs x.run x.state x.is_run c → IsDue fl inputs y.run y.state y.is_run c
  due_on c h =
      due_grows fl x.run y.run (Stood fl (start inputs) x.run x.state x.is_run) (Stood fl (start inputs) y.run y.state y.is_run) (λ t k. on.came t k)
      (λ a k. on.kept a k) c h

  pub arms_on : (c : Context) (arms : List (ℕ × Bool)) → ArmsTaken (Stood fl (start inputs) x.run x.state x.is_run) c arms
      → ArmsTaken (Stood fl (start inputs) y.run y.state y.is_run) c arms
  arms_on c [] h = tt
  arms_on c (arm ∷ arms) h = ((h.0.0, on.came _ h.0.1, h.0.2), arms_on c arms h.1)

  pub has_on : (c : Context) (s : Source) (v : Value) → Has fl inputs x.run x.state x.is_run c s v → Has fl inputs y.run y.state y.is_run c s v
  has_on c s v h = gives_on g inputs well count x y on c s.node s.port v h

  pub have_on : (c : Context) (ss : List Source) (vs : List Value) → Have fl inputs x.run x.state x.is_run c ss vs → Have fl inputs y.run y.state y.is_run c ss vs
  have_on c [] [] h = h
  have_on c [] (v ∷ vs) h = h
  have_on c (s ∷ ss) [] h = h
  have_on c (s ∷ ss) (v ∷ vs) h = (has_on c s v h.0, have_on c ss vs h.1)

  pub agrees_on : (c : Context) (scope : Scope) (env : Env) (names : List Name) → Agrees fl inputs x.run x.state x.is_run c scope env names
      → Agrees fl inputs y.run y.state y.is_run c scope env names
  agrees_on c scope env [] h = h
  agrees_on c scope env (n ∷ names) h = ((h.0.0, h.0.1, has_on c _ h.0.0 h.0.2), agrees_on c scope env names h.1)

  pub active_on : (p : Program) (origin : ℕ → Origin) (c : Context) (site : Site) (spot : Spot) (l : Lowered)
      → IsActive p g origin inputs x.run x.state x.is_run c site spot l → IsActive p g origin inputs y.run y.state y.is_run c site spot l
  active_on p origin c site spot l h = record {
    number = h.number;
    block = h.block;
    is_number = h.is_number;
    is_block = h.is_block;
    due = due_on c h.due;
    taken = arms_on c _ h.taken;
    trigger = h.trigger;
    triggered = has_on c site.trigger h.trigger h.triggered;
    lines = h.lines;
    traced = h.traced;
    loops = h.loops;
  }
