use Rattle.rounds.proofs.rounds.run_taking.Goals as goal

pub returns : goal.returns
returns g c = record {
  shows = c.run_listed.ensures.shows;
  truth = (c.run_listed.result.rounds, c.run_listed.ensures.truth);
}
