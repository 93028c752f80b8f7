-- What the compiler makes of a well-formed graph within the limits.
use Rattle.std.proofs.Common.{arith, ◌≡◌, refl, sym, ap, ◌∙◌, subst, ℕ, zero, suc, List, [], ◌∷◌, length, map}
use Rattle.std.specs.Prelude.{slice_get}
use Rattle.semantics.specs.Graph.{Graph, flow_of}
use Rattle.semantics.specs.WellFormed.{WellFormed}
use Rattle.semantics.specs.Text.{HasText}
use Rattle.semantics.specs.Program.{CodeBlock, Program, Code}
use Rattle.semantics.specs.Plan.{Plan}
use Rattle.semantics.specs.Placed.{placed_blocks}
use Rattle.semantics.specs.Bytes.{IsCode}
use Rattle.semantics.specs.Cause.{HasBounds}
use Rattle.semantics.specs.Machine.{outputs_of}
use Rattle.semantics.specs.Orderly as Orderly
use Rattle.slot_alloc.specs.Assigned.{IsAssigned}
use Rattle.semantics.specs.declared.version.Version.{Version}
use Rattle.semantics.specs.Versions.{version_number}
use Rattle.select.specs.Emitted.{code_of, emitted_block}
use Rattle.select.specs.Emittable.{IsEmittable}
use Rattle.select.specs.Literals.{table_of}
use Rattle.schedule.specs.Setting.{inputs_in, inputs_of}
use Rattle.law_compiler.specs.Objects.{plan_of}
use Rattle.law_compiler.proofs.Objects.{plans_have_objects, plans_take_inputs, code_has_bounds}
use Rattle.law_compiler.proofs.WholeLaw.{graphs_keep_promises}
use Rattle.driver.specs.Compiled.{IsCodeFor}
use Rattle.driver.proofs.Outputs.{plan_outputs, same_outputs}

-- THE INPUTS OF A BLOCK stay.
same_inputs : (v : ℕ) (ss : List (List ℕ)) (cs : List CodeBlock) (i : ℕ) → length ss ≡ length cs
    → inputs_in (slice_get (map (emitted_block v) (placed_blocks ss cs)) i) ≡ Orderly.inputs_in (slice_get cs i)
same_inputs v [] [] i e = refl
same_inputs v [] (c ∷ cs) i e = cc
same_inputs v (s ∷ ss) [] i e = cc
same_inputs v (s ∷ ss) (c ∷ cs) zero e = refl
same_inputs v (s ∷ ss) (c ∷ cs) (suc i) e = same_inputs v ss cs i (omega (arith, e))

-- the literals of a plan that is the graph's
pub same_literals : (g : Graph) (p : Plan) (c : Code) → p ≡ plan_of g → c.literals ≡ table_of p.program.blocks → c.literals
    ≡ table_of (plan_of g).program.blocks
same_literals g p c e h = subst (λ (q : Plan). c.literals ≡ table_of q.program.blocks) e h

-- THE CODE
pub compiled : (g : Graph) → HasText g → WellFormed g → (slots : List (List ℕ)) → IsAssigned (plan_of g) slots → (version : Version)
    → version_number version ≡ g.version
    → (c : Code) → c.program ≡ code_of version (plan_of g) slots → c.literals ≡ table_of (plan_of g).program.blocks
    → (IsEmittable (plan_of g) slots → IsCode (version_number version) c) → IsCodeFor g c
compiled g text well slots assigned version same c e literals spelling =
    let p : Plan = plan_of g in
    let B : Program → Type 0 = λ q. HasBounds (flow_of g) q in
    let L : ℕ → Type 0 = λ n. IsCode n c in
    let I : Program → ℕ = λ q. inputs_of q in
    let O : Program → ℕ = λ q. outputs_of q in
    record {
      slots = slots;
      assigned = assigned;
      version = version;
      version_is = same;
      program = e;
      literals = literals;
      lawful = subst L same (spelling (plans_have_objects g slots text well assigned.good));
      inputs = ap I e ∙ same_inputs (version_number version) slots p.program.blocks p.program.main assigned.good.all ∙ plans_take_inputs g text well;
      outputs = ap O e ∙ same_outputs (version_number version) slots p.program.blocks p.program.main assigned.good.all ∙ plan_outputs g well;
      arrays = ap (λ (q : Program). q.arrays) e;
      bounds = subst B (sym e) (code_has_bounds g slots version assigned.good);
      promises = graphs_keep_promises g slots version text well assigned.good same;
    }
