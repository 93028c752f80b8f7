use Rattle.std.proofs.Common.{◌≡◌, false, drop, length}
use Rattle.folding.specs.declared.namers.Namer.TheVariants.{One}
use Rattle.folding.specs.Namers.{note_dests}
use Rattle.folding.proofs.namers.Namers.note_firsts.Given as goal

abbrev pub invariant-loop-dest : goal.invariant-loop-dest
invariant-loop-dest g l = record {
  exact : note_dests l.self l.number false (drop l.dest-index l.firsts) ≡ note_dests l.fn.self l.number false l.firsts;
  lefts : length l.self.lefts ≡ length l.fn.self.lefts;
  rights : length l.self.rights ≡ length l.fn.self.rights;
  one : l.namer ≡ One l.number false;
}
