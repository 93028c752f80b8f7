-- PLANS WORD BY WORD. The words are gone over from the last to the first: so it is known what a part uses when it begins. For each
-- open part the scan has the names that it uses from outside so far, in order of the text.
use Rattle.std.specs.Prelude.{ℕ, List, [], ◌∷◌, ◌++◌}
use Rattle.source.specs.declared.word.Word.{Word}
use Rattle.source.specs.declared.word.Word.TheVariants as word
use Rattle.source.specs.Tree.{Name}
use Rattle.source.specs.Words.{Words}
use Rattle.source.specs.Outside.{without, once}
use Rattle.lowering.specs.Plans.{Plan, plan}

pub record Scan : Type 0 where
  pub plans : List Plan
  -- the uses of each open part, the innermost first
  pub uses : List (List Name)
  -- the places of the open conditionals and loops, the innermost first
  pub places : List ℕ

abbrev pub scan_of : List Plan → List (List Name) → List ℕ → Scan
scan_of ps us places = record { plans = ps; uses = us; places = places }

abbrev pub used : Name → List (List Name) → List (List Name)
used x [] = []
used x (us ∷ rest) = (x ∷ us) ∷ rest

-- the first part ends, and its uses are also those of the part around it
abbrev pub joined : List (List Name) → List (List Name)
joined (us ∷ vs ∷ rest) = (us ++ vs) ∷ rest
joined us = us

-- a name is bound in the part around the innermost one
abbrev pub bound : Name → List (List Name) → List (List Name)
bound x (us ∷ vs ∷ rest) = us ∷ without (x ∷ []) vs ∷ rest
bound x us = us

abbrev pub opened : List (List Name) → List (List Name)
opened us = [] ∷ us

abbrev pub closed : List (List Name) → List (List Name)
closed [] = []
closed (us ∷ rest) = rest

-- the plan of the innermost part
abbrev pub with_plan : List Plan → List (List Name) → List ℕ → List Plan
with_plan ps (us ∷ rest) (at ∷ places) = plan at (once us) ∷ ps
with_plan ps us places = ps

-- the plan of the part around the innermost one
abbrev pub with_outer_plan : List Plan → List (List Name) → List ℕ → List Plan
with_outer_plan ps (us ∷ vs ∷ rest) (at ∷ places) = plan at (once vs) ∷ ps
with_outer_plan ps us places = ps

abbrev pub but_first : List ℕ → List ℕ
but_first [] = []
but_first (at ∷ places) = places

abbrev pub read : Word Name → Scan → Scan
read (word.Name at x) z = scan_of z.plans (used x z.uses) z.places
read (word.EndIf at) z = scan_of z.plans (opened z.uses) (at ∷ z.places)
read word.Else z = scan_of (with_plan z.plans z.uses z.places) (opened z.uses) z.places
read word.Then z = scan_of (with_plan z.plans z.uses z.places) (joined (joined z.uses)) (but_first z.places)
read (word.EndLoop at n) z = scan_of z.plans (opened z.uses) (at ∷ z.places)
read word.While z = scan_of (with_plan z.plans z.uses z.places) z.uses z.places
read word.Until z = scan_of z.plans (opened z.uses) z.places
read word.BodyFirst z = scan_of z.plans (opened (joined z.uses)) z.places
read word.TestFirst z = scan_of z.plans (opened z.uses) z.places
read (word.Start at x) z = scan_of z.plans (bound x z.uses) z.places
read (word.Loop at) z = scan_of (with_outer_plan z.plans z.uses z.places) (joined (joined z.uses)) (but_first z.places)
read (word.EndLet at) z = scan_of z.plans (opened z.uses) z.places
read (word.Bind at x) z = scan_of z.plans (bound x z.uses) z.places
read (word.Let at) z = scan_of z.plans (joined z.uses) z.places
read word.EndFunction z = scan_of z.plans (opened z.uses) z.places
read (word.Body at) z = scan_of z.plans (closed z.uses) z.places
read w z = z

abbrev pub scanned : Scan → Words → Scan
scanned z [] = z
scanned z (w ∷ ws) = read w (scanned z ws)

-- the plans that the words of a program determine
abbrev pub gathered_plans : Words → List Plan
gathered_plans ws = (scanned (scan_of [] [] []) ws).plans
