-- The theorem of the parser.
use Rattle.law_language.specs.Grammar.{Sound, Complete, Once, FirstFault}
use Rattle.law_language.proofs.GrammarSound.{parsed_sound}
use Rattle.law_language.proofs.GrammarComplete.{parsed_complete}
use Rattle.law_language.proofs.GrammarRebuilt.{parses_once}
use Rattle.law_language.proofs.GrammarFirstFault.{parsed_fault}

pub sound : Sound
sound text ts ws e = let r = parsed_sound text ts ws e in (r.program, r.parses, r.are)

pub complete : Complete
complete = parsed_complete

pub once : Once
once = parses_once

pub first_fault : FirstFault
first_fault = parsed_fault
