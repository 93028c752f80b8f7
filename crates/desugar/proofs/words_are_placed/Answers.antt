use Rattle.desugar.proofs.Placed.{words_are_placed}
use Rattle.desugar.proofs.PlacedNumbers.{numbers_are_placed, places_are_tabled}
use Rattle.desugar.proofs.words_are_placed.Goals as goal

pub returns : goal.returns
returns c = record { words = words_are_placed; numbers = numbers_are_placed; places = places_are_tabled }
