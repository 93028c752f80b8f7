-- True code of a graph completes wherever the machine is large enough.
use Rattle.semantics.specs.Graph.{flow_of}
use Rattle.law_completion.specs.TotalGraph.{OneRunTells, TotalGraph}
use Rattle.law_completion.proofs.BoundsCredits.{bounds_are_credits}
use Rattle.law_completion.proofs.DueGrows.{length_bounds}
use Rattle.law_completion.proofs.TotalEnds.{runs_complete}

pub one_run_tells : OneRunTells
one_run_tells g inputs well fit s rests run to = record { state = s; rests = rests; calls = length_bounds g inputs well fit s rests run to }

pub total_graph : TotalGraph
total_graph g p q well code inputs fit d t needs z most large by_list may_stop r shows uncut =
    runs_complete (flow_of g) p q code inputs z most large.some_element large.some_frame fit
    record {
      state = needs.state;
      reached = needs.rests.reached;
      at_rest = needs.rests.at_rest;
      no_clash = needs.rests.no_clash;
      due = d;
      turns = t;
      calls = needs.calls;
      frames = large.frames;
      time = large.steps;
      credits = bounds_are_credits (flow_of g) q t code.faithful large.credits;
    } needs.rests.none_waits by_list may_stop r shows uncut
