-- The theorem of the parser.
use Rattle.law_surface_text.specs.Law as law
use Rattle.law_surface_text.proofs.Sound.{parsed_sound}
use Rattle.law_surface_text.proofs.Complete.{parsed_complete}
use Rattle.law_surface_text.proofs.Rebuilt.{words_determine, parses_once}
use Rattle.law_surface_text.proofs.FirstFault.{parsed_fault}

pub sound : law.Sound
sound text ts ws e = let r = parsed_sound text ts ws e in (r.program, r.parses, r.are)

pub complete : law.Complete
complete = parsed_complete

pub once : law.Once
once = parses_once

pub first_fault : law.FirstFault
first_fault = parsed_fault

pub words : law.WordsDetermine
words = words_determine
