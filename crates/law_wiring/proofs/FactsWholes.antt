-- The laws of plans besides their destinations: what they name, their holders, their marks.
use Rattle.std.proofs.Common.{◌≡◌, ◌≢◌, ℕ, ◌⊎◌, true, false, List, refl, ap, subst, inl, inr, Option, Some, None}
use Rattle.std.specs.Prelude.{slice_get}
use Rattle.semantics.specs.declared.program.Mark.{Mark}
use Rattle.semantics.specs.declared.program.Mark.TheVariants.{Unmarked, OfCond, OfFlag}
use Rattle.semantics.specs.declared.program.Op.{Op}
use Rattle.semantics.specs.declared.program.Op.TheVariants.{Switch}
use Rattle.semantics.specs.Graph.{Block, Flow, Graph, flow_of}
use Rattle.semantics.specs.Text.{HasText}
use Rattle.semantics.specs.WellFormed.{WellFormed}
use Rattle.semantics.specs.Program.{CodeBlock}
use Rattle.semantics.specs.Plan.{mark_at}
use Rattle.semantics.specs.Cause.{loop_bounds}
use Rattle.schemas.specs.Scopes.{Scope}
use Rattle.law_wiring.specs.BoundsKeeping.{is_switch, Fits}
use Rattle.schemas.specs.Variants.{some_block_loops, variants_of}
use Rattle.schemas.specs.Blocks.{variant_of}
use Rattle.schemas.specs.Expanded.{scope_of, plain_code, variant_code, expanded}
use Rattle.law_wiring.specs.Facts.{NamesAllRightly, HoldsRightly, MarksRightly}
use Rattle.law_wiring.proofs.BoundsWholes.{marks_fit}
use Rattle.law_wiring.proofs.KeepingSteps.{Idle, code_build, all_keep}
use Rattle.law_wiring.proofs.FactsHolders.{Holds, adds_hold, links_hold, begins}
use Rattle.law_wiring.proofs.FactsHeld.{holds_rightly}
use Rattle.law_wiring.proofs.FactsFlows.{flow_fits}
use Rattle.law_wiring.proofs.FactsCodes.{code_cases}
use Rattle.law_wiring.proofs.FactsOperands.{names_all}

-- NAMES
pub plans_name_rightly : (g : Graph) → HasText g → WellFormed g → NamesAllRightly (expanded (flow_of g)).program
plans_name_rightly g text well = names_all (flow_of g) (flow_fits g text well)

-- HOLDERS
code_holds : (s : Scope) (turn : Option ℕ) → Holds (Idle (loop_bounds s.block)) (code_build s turn)
code_holds = all_keep Holds (λ s t b op o m r e f h. adds_hold s t b op o m r e h) links_hold (λ s b o h. h) begins

plain_code_holds : (v : ℕ) (bs : List (Block ℕ)) (vars : List ℕ) (n : ℕ) (b : Block ℕ) → HoldsRightly (plain_code v bs vars n b).code
unfolding plain_code
plain_code_holds v bs vars n b =
    let s : Scope = scope_of v bs vars n b false in
    holds_rightly (plain_code v bs vars n b).code (Idle (loop_bounds b)) (code_build s None).opened (code_holds s None)

variant_code_holds : (v : ℕ) (bs : List (Block ℕ)) (vars : List ℕ) (n : ℕ) (b : Block ℕ) → HoldsRightly (variant_code v bs vars n b).code
unfolding variant_code
variant_code_holds v bs vars n b =
    let s : Scope = scope_of v bs vars n b true in
    let turn : Option ℕ = Some (variant_of vars n) in
    holds_rightly (variant_code v bs vars n b).code (Idle (loop_bounds b)) (code_build s turn).opened (code_holds s turn)

pub plans_hold_rightly : (fl : Flow) (b : ℕ) (c : CodeBlock) → slice_get (expanded fl).program.blocks b ≡ Some c → HoldsRightly c
plans_hold_rightly fl b c e = go (code_cases fl.version fl.blocks b c e)
  where
    go : ((x : Block ℕ) × (slice_get fl.blocks b ≡ Some x) × ((plain_code fl.version fl.blocks (variants_of fl.blocks) b x).code ≡ c))
        ⊎ ((f : ℕ) × (x : Block ℕ) × (slice_get fl.blocks f ≡ Some x) × (some_block_loops f fl.blocks ≡ true)
        × ((variant_code fl.version fl.blocks (variants_of fl.blocks) f x).code ≡ c)) → HoldsRightly c
    go (inl h) = subst HoldsRightly h.2 (plain_code_holds fl.version fl.blocks (variants_of fl.blocks) b h.0)
    go (inr h) = subst HoldsRightly h.4 (variant_code_holds fl.version fl.blocks (variants_of fl.blocks) h.0 h.1)

-- MARKS
its_switch : (op : Op) → is_switch op ≡ true → op ≡ Switch
its_switch Switch e = refl
its_switch op e = absurd (cc)

unmarked : (op : Op) (m : Mark) → op ≡ Switch → m ≡ Unmarked → Fits op m → ⊥
unmarked op m e f h =
    let a : is_switch op ≡ false = subst (Fits op) f h in
    let b : is_switch op ≡ true = ap is_switch e in
    absurd (cc)

marked_switch : (op : Op) (m : Mark) → m ≢ Unmarked → Fits op m → op ≡ Switch
marked_switch op Unmarked n h = absurd (n refl)
marked_switch op (OfCond k) n h = its_switch op h
marked_switch op OfFlag n h = its_switch op h

pub plans_mark_rightly : (fl : Flow) → MarksRightly (expanded fl)
plans_mark_rightly fl = record {
  marked = λ b n c i e f s u. unmarked i.op (mark_at (expanded fl) b n) s u (marks_fit fl b n c i e f);
  switches = λ b n c i e f u. marked_switch i.op (mark_at (expanded fl) b n) u (marks_fit fl b n c i e f);
}
