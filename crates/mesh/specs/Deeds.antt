-- What a list of deeds says: the bundles posted to an element, those taken from one, the commits, and the reason to stop.
use Rattle.std.specs.Prelude.{◌≡◌, ◌≢◌, ℕ, ◌+◌, ◌<◌, length, not, ◌||◌, Bool, true, false, List, [], ◌∷◌, ◌++◌, Option, Some, None, ◌==◌, if◌then◌else◌}
use Rattle.tags.specs.declared.token.Token.{Token}
use mathlib.Core.Option.{some}
use lib.ListN.{get_elem?}
use Rattle.semantics.specs.Pool as pool
use Rattle.mesh.specs.declared.view.Commit.{Commit}
use Rattle.mesh.specs.declared.view.Deed.{Deed}
use Rattle.mesh.specs.declared.view.Deed.TheVariants.{Committed, Posted, Took, Stopped, SawStop}
use Rattle.mesh.specs.declared.view.Stage.{Stage}
use Rattle.mesh.specs.declared.view.Stage.TheVariants.{Posting, Taking}

abbrev pub Bundle : Type 0
Bundle = List Token

abbrev pub posts : ℕ → Deed → List Bundle
posts b (Posted c x) = if c == b then x ∷ [] else []
posts b d = []

-- the bundles posted to b, in order
abbrev pub posted : ℕ → List Deed → List Bundle
posted b [] = []
posted b (d ∷ ds) = posts b d ++ posted b ds

abbrev pub takes_from : ℕ → Deed → List Bundle
takes_from a (Took c x) = if c == a then x ∷ [] else []
takes_from a d = []

-- the bundles taken from a, in order
abbrev pub taken : ℕ → List Deed → List Bundle
taken a [] = []
taken a (d ∷ ds) = takes_from a d ++ taken a ds

abbrev pub posting : ℕ → Stage → Bool
posting b (Posting c) = c == b
posting b s = false

abbrev pub taking : ℕ → Stage → Option Bundle
taking a (Taking c x) = if c == a then Some x else None
taking a s = None

abbrev pub commit : ℕ → Bundle → Bundle → Commit
commit e spent made = record { element = e; spent = spent; made = made }

abbrev pub commits_in : ℕ → Deed → List Commit
commits_in e (Committed spent made) = commit e spent made ∷ []
commits_in e d = []

-- the commits that an element with these deeds made, in order
abbrev pub commits_of : ℕ → List Deed → List Commit
commits_of e [] = []
commits_of e (d ∷ ds) = commits_in e d ++ commits_of e ds

abbrev pub if_by : ℕ → Commit → List Commit
if_by e c = if c.element == e then c ∷ [] else []

-- the commits of one element in a history
abbrev pub commits_by : ℕ → List Commit → List Commit
commits_by e [] = []
commits_by e (c ∷ cs) = if_by e c ++ commits_by e cs

abbrev pub made_in : Deed → ℕ
made_in (Committed spent made) = length made
made_in d = 0

-- how many tokens were made
abbrev pub created : List Deed → ℕ
created [] = 0
created (d ∷ ds) = made_in d + created ds

abbrev pub wins_in : Deed → ℕ
wins_in (Stopped reason found) = if found == 0 then 1 else 0
wins_in d = 0

-- how many calls set the stop word
abbrev pub wins : List Deed → ℕ
wins [] = 0
wins (d ∷ ds) = wins_in d + wins ds

-- what a deed says of the stop word
abbrev pub says : ℕ → Deed → Type 0
says word (Stopped reason found) = (reason ≢ 0) × (found ≡ 0 → word ≡ reason) × (found ≢ 0 → word ≡ found)
says word (SawStop found) = found ≢ 0 → word ≡ found
says word d = Unit {0}

abbrev pub Says : ℕ → List Deed → Type 0
Says word [] = Unit {0}
Says word (d ∷ ds) = says word d × Says word ds

abbrev pub gives_reason : Deed → Bool
gives_reason (Stopped reason found) = true
gives_reason (SawStop found) = not (found == 0)
gives_reason d = false

-- it called for a stop, or saw a reason
abbrev pub knows_reason : List Deed → Bool
knows_reason [] = false
knows_reason (d ∷ ds) = gives_reason d || knows_reason ds

-- a commit as the history of the pool has it
abbrev pub entry : Commit → pool.Commit
entry c = record { element = c.element; spent = c.spent; made = c.made }

-- each commit takes a token
abbrev pub Busy : List Commit → Type 0
Busy log = (j : ℕ) (c : Commit) → get_elem? log j ≡ some c → 0 < length c.spent
