-- A store at a full cell clashes.
use Rattle.std.proofs.Common.{◌≡◌, ℕ, ◌+◌, ◌<◌, List, ◌++◌, Option, Some, IsPermutation, ap, ◌∙◌, subst}
use Rattle.tags.specs.declared.value.Value.{Value}
use Rattle.semantics.specs.Graph.{Graph, flow_of, array_len}
use Rattle.semantics.specs.Meaning.{Context, Tagged, State, Activity, taken, deed, Clashes}
use Rattle.semantics.specs.Meaning as Meaning
use Rattle.law_confluence.proofs.ActivityShapes.{storing}
use Rattle.oracle.specs.Deeds.{Deed, Fills}
use Rattle.oracle.specs.declared.state.Gate.TheVariants.{Clashes as GateClashes}
use Rattle.oracle.specs.Acting.{gate_of, held_in}
use Rattle.oracle.specs.Meant.{name_in, deed_of}
use Rattle.oracle.specs.Naming.{IsKnown}
use Rattle.oracle.specs.Reporting.{cell_at}
use Rattle.oracle.proofs.Gating.{gate_clashes}
use Rattle.oracle.proofs.Resolved.{firsts_same, lens_same}

pub clash_of : (g : Graph) (cs : List Context) (m : ℕ) (vs : List Value) (d : Deed) (cells : List (Option Value)) (state : State) (act : Activity)
    (rest : List Tagged)
    → deed (flow_of g) act ≡ Some (deed_of cs vs d) → IsKnown g cs m vs d → IsPermutation state.tokens (taken act ++ rest) → state.memory.cells ≡ held_in cells
    → (a i : ℕ) → gate_of cells d ≡ GateClashes a i → (i < array_len (flow_of g) a) × Clashes (flow_of g) state (cell_at g a i)
clash_of g cs m vs d cells state act rest does is_known takes memory a i gate =
    let r = gate_clashes cells d a i gate in
    let known : IsKnown g cs m vs (Fills r.0 r.1 r.2 a i r.3) = subst (IsKnown g cs m vs) r.5 is_known in
    let c = name_in cs r.0 in
    let fills : deed (flow_of g) act ≡ Some (Meaning.Fills c r.1 r.2 r.3) = does ∙ ap (λ e. Some (deed_of cs vs e)) r.5 in
    let is = storing (flow_of g) act c r.1 r.2 r.3 fills in
    let clash : Clashes (flow_of g) state r.2 = record {
      context = c;
      node = r.1;
      index = is.0;
      value = r.3;
      held = r.4;
      rest = rest;
      is_store = subst (λ a. deed (flow_of g) a ≡ Some (Meaning.Fills c r.1 r.2 r.3)) is.1 fills;
      tokens = subst (λ a. IsPermutation state.tokens (taken a ++ rest)) is.1 takes;
      full = ap (λ (f : ℕ → Option Value). f r.2) memory ∙ r.6;
    } in
    let cell : r.2 ≡ cell_at g a i = known.1 ∙ ap (λ n. n + i) (firsts_same g.arrays a) in
    (subst (λ n. i < n) (lens_same g.arrays a) known.2, subst (Clashes (flow_of g) state) cell clash)
