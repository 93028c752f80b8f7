-- What is read of each code block of the plan of a well-formed graph: its parts are in it, and its wires are lawful.
use Rattle.std.proofs.Common.{◌≡◌, ℕ, ◌⊎◌, inl, inr, true, sym, ap, ◌∙◌, subst, Some}
use Rattle.std.specs.Prelude.{slice_get}
use Rattle.std.proofs.lemmas.Option.{slice_get_within, same_Some}
use Rattle.semantics.specs.Graph.{Block, Flow, Graph, flow_of}
use Rattle.semantics.specs.WellFormed.{WellFormed}
use Rattle.semantics.specs.Cause.{is_looped}
use Rattle.semantics.specs.Program.{Instr, CodeBlock}
use Rattle.semantics.specs.Wired.{IsInstrAt}
use Rattle.schemas.specs.Variants.{some_block_loops, variants_of}
use Rattle.schemas.specs.Expanded.{plain_code, variant_code, expanded}
use Rattle.law_net.specs.ContextsParts.{Part}
use Rattle.law_net.specs.ContextsBlocks.{Wiring, Site, there_in}
use Rattle.law_net.specs.ContextsWires.{IsInstr, IsLaidOut, AreFed, LeadOn, plain_site, turn_site}
use Rattle.law_net.specs.ContextsExpanded.{variant_in, wires_of}
use Rattle.law_wiring.specs.WrittenFit.{IsFit}
use Rattle.law_wiring.specs.WrittenHalves.{IsWritten}
use Rattle.law_wiring.proofs.BoundsWholes.{same_looped}
use Rattle.law_wiring.proofs.FactsCodes.{code_cases, variant_at}
use Rattle.law_wiring.proofs.Fed.{are_fed, plain_well}
use Rattle.law_wiring.proofs.FedEnds.{TurnsWell}
use Rattle.law_wiring.proofs.Turns.{turns_well}
use Rattle.law_wiring.proofs.WrittenLeads.{leads_on}
use Rattle.law_wiring.proofs.CodeFits.{blocks_fit}
use Rattle.law_wiring.proofs.CodeFacts.{IsCodeOf, plain_facts, turn_facts}
use Rattle.law_wiring.proofs.CodeLaid.{site_is_written, site_is_laid}

pub record IsRead (fl : Flow) (c : CodeBlock) : Type 0 where
  pub site : Site
  pub wiring : Wiring
  pub there : slice_get fl.blocks site.number ≡ Some site.block
  pub fit : IsFit fl site.block
  pub written : IsWritten fl site wiring
  pub laid : IsLaidOut fl (expanded fl) (variant_in fl) site wiring c
  pub fed : AreFed fl site wiring
  pub leads : LeadOn fl site wiring

read_of : (fl : Flow) (s : Site) (c : CodeBlock) (fit : IsFit fl s.block) (turned : TurnsWell s) → slice_get fl.blocks s.number ≡ Some s.block
    → IsCodeOf fl s c fit turned → IsRead fl c
read_of fl s c fit turned there facts =
    let w : Wiring = (wires_of fl).wiring s.own in
    let written : IsWritten fl s ((wires_of fl).wiring s.own) = site_is_written fl s c fit turned facts in
    record {
      site = s;
      wiring = (wires_of fl).wiring s.own;
      there = there;
      fit = fit;
      written = written;
      laid = site_is_laid fl s c fit turned facts;
      fed = are_fed fl s fit turned ((wires_of fl).wiring s.own) written;
      leads = leads_on fl s fit turned ((wires_of fl).wiring s.own) written;
    }

pub code_read : (g : Graph) → WellFormed g → (n : ℕ) (c : CodeBlock) → slice_get (expanded (flow_of g)).program.blocks n ≡ Some c → IsRead (flow_of g) c
code_read g well n c e = go (code_cases (flow_of g).version (flow_of g).blocks n c e)
  where
    go : ((x : Block ℕ) × (slice_get (flow_of g).blocks n ≡ Some x)
        × ((plain_code (flow_of g).version (flow_of g).blocks (variants_of (flow_of g).blocks) n x).code ≡ c))
        ⊎ ((f : ℕ) × (x : Block ℕ) × (slice_get (flow_of g).blocks f ≡ Some x) × (some_block_loops f (flow_of g).blocks ≡ true)
        × ((variant_code (flow_of g).version (flow_of g).blocks (variants_of (flow_of g).blocks) f x).code ≡ c)) → IsRead (flow_of g) c
    go (inl (b, there, same)) =
        let fit = blocks_fit g well n b there in
        read_of (flow_of g) (plain_site b n) c fit (plain_well b n) there (plain_facts g well n b c there e fit)
    go (inr (f, b, there, loops, same)) =
        let fit = blocks_fit g well f b there in
        let own : ℕ = variant_in (flow_of g) f in
        let looped : is_looped (flow_of g) f ≡ true = sym (same_looped (flow_of g) f) ∙ loops in
        let at : slice_get (expanded (flow_of g)).program.blocks (variant_in (flow_of g) f) ≡ Some c =
        variant_at (flow_of g).version (flow_of g).blocks f b there loops ∙ ap (λ (x : CodeBlock). Some x) same in
        let turned = turns_well (flow_of g) (λ j d e. blocks_fit g well j d e) f b there looped own in
        read_of (flow_of g) (turn_site b f own) c fit turned there (turn_facts g well f b c there looped at fit turned)

-- the part of an instruction
pub record Stands (fl : Flow) (s : Site) (w : Wiring) (n : ℕ) (i : Instr) : Type 0 where
  pub part : Part
  pub there : there_in fl s w part ≡ true
  pub at : w.place part ≡ n
  pub is : IsInstr fl (expanded fl) (variant_in fl) s w part i

pub stands : (fl : Flow) (c : CodeBlock) (x : IsRead fl c) (n : ℕ) (i : Instr) → IsInstrAt c n i → Stands fl x.site x.wiring n i
stands fl c x n i e =
    let q = x.laid.each n (slice_get_within c.instrs n i e) in
    let here = x.laid.here q.0 q.1 in
    let same : here.0 ≡ i = same_Some here.0 i (sym here.1 ∙ ap (slice_get c.instrs) q.2 ∙ e) in
    record { part = q.0; there = q.1; at = q.2; is = subst (IsInstr fl (expanded fl) (variant_in fl) x.site x.wiring q.0) same here.2 }
