-- Code that is laid out as it is written down is all that is static.
use Rattle.std.proofs.Common.{◌≡◌, ℕ, Some}
use Rattle.std.specs.Prelude.{slice_get}
use Rattle.semantics.specs.Graph.{Block, Flow, Graph, flow_of}
use Rattle.semantics.specs.Text.{HasText}
use Rattle.semantics.specs.WellFormed.{WellFormed}
use Rattle.law_net.specs.ContextsBlocks.{Wiring}
use Rattle.law_net.specs.ContextsExpanded.{variant_in, wires_of}
use Rattle.law_wiring.specs.WrittenFit.{IsFit}
use Rattle.law_wiring.specs.WholeStatic.{CodeSuffices}
use Rattle.law_wiring.proofs.CodeFits.{blocks_fit}
use Rattle.law_wiring.proofs.CodeCompose.{codes_are_there}
use Rattle.law_wiring.proofs.Fed.{written_is_fed}
use Rattle.law_wiring.proofs.WrittenLeads.{written_leads_on}
use Rattle.law_wiring.proofs.Turns.{turn_is_fed, turn_leads_on}
use Rattle.law_wiring.proofs.WrittenArms.{written_follows_arms}
use Rattle.law_wiring.proofs.TurnsWhole.{VariantsApart, variants_apart, call_goes_to_uses, turn_goes_to_uses, turn_follows_arms}

module _ (g : Graph) (text : HasText g) (well : WellFormed g) where
  abbrev fl : Flow
  fl = flow_of g

  fits : (i : ℕ) (b : Block ℕ) → slice_get fl.blocks i ≡ Some b → IsFit fl b
  fits = blocks_fit g well

  apart : VariantsApart fl (wires_of fl)
  apart = variants_apart fl (codes_are_there g well)

  abbrev own : ℕ → ℕ
  own i = variant_in fl i

  abbrev its : ℕ → Wiring
  its i = (wires_of fl).wiring i

pub code_suffices : CodeSuffices
code_suffices calls turns = record {
  there = λ g text well. codes_are_there g well;
  laid = record {
    plain = λ g text well i b c e k. (calls g text well i b c e k (fits g text well i b e)).laid;
    turns = λ g text well i b c e l k. (turns g text well i b c e l k (fits g text well i b e)).laid;
  };
  fed = record {
    plain =
        λ g text well i b c e k. written_is_fed (flow_of g) i b (its g text well i) e (fits g text well i b e)
        (calls g text well i b c e k (fits g text well i b e)).written;
    turns = λ g text well i b c e l k.
        turn_is_fed (flow_of g) (fits g text well) i b e l (own g text well i) (its g text well (own g text well i))
        (turns g text well i b c e l k (fits g text well i b e)).written;
  };
  uses = record {
    plain = λ g text well i b c e k.
        call_goes_to_uses (flow_of g) (wires_of (flow_of g)) (apart g text well) i b e (fits g text well i b e)
        (calls g text well i b c e k (fits g text well i b e)).written;
    turns = λ g text well i b c e l k.
        turn_goes_to_uses (flow_of g) (wires_of (flow_of g)) (apart g text well) i b e (fits g text well) l
        (turns g text well i b c e l k (fits g text well i b e)).written;
  };
  arms = record {
    plain =
        λ g text well i b c e k. written_follows_arms (flow_of g) i b (its g text well i) e (fits g text well i b e)
        (calls g text well i b c e k (fits g text well i b e)).written;
    turns = λ g text well i b c e l k.
        turn_follows_arms (flow_of g) i b (own g text well i) (its g text well (own g text well i)) (fits g text well i b e)
        (turns g text well i b c e l k (fits g text well i b e)).written;
  };
  leads = record {
    plain =
        λ g text well i b c e k. written_leads_on (flow_of g) i b (its g text well i) e (fits g text well i b e)
        (calls g text well i b c e k (fits g text well i b e)).written;
    turns = λ g text well i b c e l k.
        turn_leads_on (flow_of g) (fits g text well) i b e l (own g text well i) (its g text well (own g text well i))
        (turns g text well i b c e l k (fits g text well i b e)).written;
  };
}
