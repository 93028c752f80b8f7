-- A GOOD PROGRAM with derived forms is short for a good program of the core, where the core is not too deep: so who has checked the
-- one need not ask of the other.
use Rattle.std.specs.Prelude.{◌≡◌, ℕ, ◌^◌, ◌<◌, length, Ok}
use Rattle.source.specs.Tree as core
use Rattle.source.specs.Fits as core_fits
use Rattle.source.specs.Rules as core_rules
use Rattle.source.specs.Counts.{IsGood}
use Rattle.surface.specs.Tree.{Program}
use Rattle.surface.specs.Fits.{FitsProgram}
use Rattle.surface.specs.Rules.{checked}
use Rattle.surface.specs.Instances.{text_names}
use Rattle.surface.specs.Desugared.{desugared}

-- a program that fits and breaks no rule, and what it is short for
pub record IsShort (p : Program) (q : core.Program) (end : ℕ) : Type 0 where
  pub fits : FitsProgram p
  pub checked : checked end p ≡ Ok tt
  pub is : desugared p ≡ Ok q

-- What it is short for fits the grammar of the core.
abbrev pub DesugaredFits : Type 0
DesugaredFits = (p : Program) (q : core.Program) (end : ℕ) → IsShort p q end → core_fits.FitsProgram q

-- And it keeps the rules of the core, where the text has fewer than 2^64 names: so no hidden name is one of the text, and none is
-- bound that is there already, each part has as many values as its core, and a core turn takes no more names from outside than
-- the rules have counted.
abbrev pub DesugaredKeepsRules : Type 0
DesugaredKeepsRules = (p : Program) (q : core.Program) (end : ℕ) → IsShort p q end → length (text_names p) < 2 ^ 64 → core_rules.checked end q ≡ Ok tt

-- So it is a good program of the core.
abbrev pub GoodGivesGood : Type 0
GoodGivesGood = (p : Program) (q : core.Program) (end : ℕ) → IsShort p q end → length (text_names p) < 2 ^ 64 → IsGood q
