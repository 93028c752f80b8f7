-- A sound plan from its parts: what it names, its holders and its marks, and the laws of its destinations.
use Rattle.std.proofs.Common.{◌≡◌, ℕ, ◌<◌, true, length, Some}
use Rattle.std.specs.Prelude.{Contains, slice_get}
use Rattle.lemmas.proofs.Alls.{all_from}
use Rattle.tags.specs.declared.token.Port.TheVariants.{Right}
use Rattle.semantics.specs.Graph.{Flow, Graph, flow_of}
use Rattle.semantics.specs.Text.{HasText}
use Rattle.semantics.specs.WellFormed.{WellFormed}
use Rattle.semantics.specs.Program.{Instr, CodeBlock, Program}
use Rattle.semantics.specs.Plan.{Plan, HasShape, IsPlanBlock, IsPlan}
use Rattle.semantics.specs.Sharing.{Arc, arcs_of}
use Rattle.semantics.specs.Wired.{IsInstrAt, IsWired, is_dyadic}
use Rattle.code.specs.Sound.{LandsLeft, IsSoundProgram, DestsAreSound, IsSound}
use Rattle.schemas.specs.Expanded.{expanded}
use Rattle.law_wiring.specs.Facts.{NamesAllRightly, HoldsRightly}
use Rattle.law_wiring.proofs.FactsWholes.{plans_name_rightly, plans_hold_rightly, plans_mark_rightly}

-- each instruction of a program has as many destinations as its operation says
abbrev pub HasShapes : Program → Type 0
HasShapes p = (b n : ℕ) (c : CodeBlock) (i : Instr) → slice_get p.blocks b ≡ Some c → IsInstrAt c n i → HasShape i.op (length i.firsts) (length i.seconds)

-- each landing begins at a left port
abbrev pub LandLeft : Program → Type 0
LandLeft p = (b n : ℕ) (c : CodeBlock) (i : Instr) → slice_get p.blocks b ≡ Some c → IsInstrAt c n i → LandsLeft i.op i.firsts

pub sound_program : (p : Program) → NamesAllRightly p → HasShapes p → LandLeft p → IsSoundProgram p
sound_program p h shapes lands = record {
  some_block = h.some_block;
  main = h.main;
  few_arrays = h.few_arrays;
  arrays = h.arrays;
  cells = h.cells;
  blocks = λ b c e.
      let k = h.blocks b c e in
      record {
        inputs = k.inputs;
        outputs = k.outputs;
        size = k.size;
        instrs = λ n i f. record { operand = (k.instrs n i f).0; origin = (k.instrs n i f).1; shape = shapes b n c i e f; lands = lands b n c i e f };
      };
}

pub plan_block : (c : CodeBlock) → HoldsRightly c → ((n : ℕ) (i : Instr) → IsInstrAt c n i → HasShape i.op (length i.firsts) (length i.seconds)) → IsPlanBlock c
plan_block c h shapes = record {
  shapes = all_from (λ (i : Instr). HasShape i.op (length i.firsts) (length i.seconds)) c.instrs shapes;
  holders = h.holders;
  below = h.below;
  used = h.used;
}

pub is_plan : (fl : Flow) → HasShapes (expanded fl).program → IsPlan (expanded fl)
is_plan fl shapes = record {
  blocks = all_from IsPlanBlock (expanded fl).program.blocks (λ b c e. plan_block c (plans_hold_rightly fl b c e) (λ n i f. shapes b n c i e f));
  marked = (plans_mark_rightly fl).marked;
}

-- what holds of an arc of a plan
abbrev pub EntriesAreFree : Plan → Type 0
EntriesAreFree p = (b : ℕ) (c : CodeBlock) (x : Arc) → slice_get p.program.blocks b ≡ Some c → Contains (arcs_of p 0 c.instrs) x → c.inputs < x.to.place

abbrev pub RightsAreDyadic : Plan → Type 0
RightsAreDyadic p = (b : ℕ) (c : CodeBlock) (x : Arc) → slice_get p.program.blocks b ≡ Some c → Contains (arcs_of p 0 c.instrs) x → x.to.port ≡ Right
    → (i : Instr) × IsInstrAt c x.to.place i × (is_dyadic i.op ≡ true)

pub is_wired : (fl : Flow) → HasShapes (expanded fl).program → EntriesAreFree (expanded fl) → RightsAreDyadic (expanded fl) → IsWired (expanded fl)
is_wired fl shapes entries rights = record {
  plan = is_plan fl shapes;
  entries = entries;
  rights = rights;
  switches = (plans_mark_rightly fl).switches;
  loops = λ b c e. (plans_hold_rightly fl b c e).loops;
}

pub is_sound : (g : Graph) → HasText g → WellFormed g → HasShapes (expanded (flow_of g)).program → LandLeft (expanded (flow_of g)).program
    → DestsAreSound (expanded (flow_of g))
    → EntriesAreFree (expanded (flow_of g)) → RightsAreDyadic (expanded (flow_of g)) → IsSound (expanded (flow_of g))
is_sound g text well shapes lands dests entries rights = record {
  program = sound_program (expanded (flow_of g)).program (plans_name_rightly g text well) shapes lands;
  dests = dests;
  wired = is_wired (flow_of g) shapes entries rights;
}
