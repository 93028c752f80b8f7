use Rattle.commands.proofs.GraphEnds.{texts_end_at_main}
use Rattle.commands.proofs.IntegerLines.{integers_are_read}
use Rattle.commands.proofs.PipedRuns.{lowered_graphs_have_texts, inputs_are_divided, pipe_runs_program, commands_run_program}
use Rattle.commands.proofs.piped.pipes_run_programs.Goals as goal

pub returns-clause-texts : goal.returns-clause-texts
returns-clause-texts c = texts_end_at_main

pub returns-clause-inputs : goal.returns-clause-inputs
returns-clause-inputs c = inputs_are_divided

pub returns-clause-integers : goal.returns-clause-integers
returns-clause-integers c = integers_are_read

pub returns-clause-graphs : goal.returns-clause-graphs
returns-clause-graphs c = lowered_graphs_have_texts

pub returns-clause-pipes : goal.returns-clause-pipes
returns-clause-pipes c = pipe_runs_program

pub returns-clause-commands : goal.returns-clause-commands
returns-clause-commands c = commands_run_program
