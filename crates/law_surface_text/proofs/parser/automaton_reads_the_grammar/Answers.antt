use Rattle.law_surface_text.proofs.Law.{sound, complete, once, first_fault, words}
use Rattle.law_surface_text.proofs.parser.automaton_reads_the_grammar.Goals as goal

pub returns-clause-sound : goal.returns-clause-sound
returns-clause-sound c = sound

pub returns-clause-complete : goal.returns-clause-complete
returns-clause-complete c = complete

pub returns-clause-once : goal.returns-clause-once
returns-clause-once c = once

pub returns-clause-first_fault : goal.returns-clause-first_fault
returns-clause-first_fault c = first_fault

pub returns-clause-words : goal.returns-clause-words
returns-clause-words c = words
