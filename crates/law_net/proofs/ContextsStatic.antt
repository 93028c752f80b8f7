-- The lemmas on the wires make the theorem: the plan of a graph is wired.
use Rattle.std.proofs.Common.{ℕ, refl}
use Rattle.semantics.specs.Graph.{Graph, flow_of}
use Rattle.semantics.specs.Text.{HasText}
use Rattle.semantics.specs.WellFormed.{WellFormed}
use Rattle.schemas.specs.Expanded.{expanded}
use Rattle.law_net.specs.ContextsWires.{AreWiredBy}
use Rattle.law_net.specs.ContextsExpanded.{wires_of, AllStatic, StaticSuffices}

wired_by : AllStatic → (g : Graph) → HasText g → WellFormed g → AreWiredBy (flow_of g) (expanded (flow_of g)) (wires_of (flow_of g))
wired_by A g text well = let T = A.there g text well in record {
  main = refl;
  arrays = refl;
  plain_count = refl;
  plain = λ i b e. let c = T.plain i b e in record {
    code = c.0;
    there = c.1;
    laid = A.laid.plain g text well i b c.0 e c.1;
    lawful =
        record {
          fed = A.fed.plain g text well i b c.0 e c.1;
          arms = A.arms.plain g text well i b c.0 e c.1;
          leads = A.leads.plain g text well i b c.0 e c.1;
        };
    uses = A.uses.plain g text well i b c.0 e c.1;
  };
  turns = λ i b e l. let c = T.turns i b e l in record {
    code = c.0;
    there = c.1;
    laid = A.laid.turns g text well i b c.0 e l c.1;
    lawful =
        record {
          fed = A.fed.turns g text well i b c.0 e l c.1;
          arms = A.arms.turns g text well i b c.0 e l c.1;
          leads = A.leads.turns g text well i b c.0 e l c.1;
        };
    uses = A.uses.turns g text well i b c.0 e l c.1;
  };
  others = T.others;
  differ = T.differ;
}

pub expanded_is_wired : StaticSuffices
expanded_is_wired A g text well = (wires_of (flow_of g), wired_by A g text well)
