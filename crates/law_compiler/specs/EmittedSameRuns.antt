-- The code of a plan does what the plan does, with these slots or with a slot for each holder.
use Rattle.std.specs.Prelude.{◌≡◌, ℕ, zero, suc, ◌+◌, ◌≤◌, List, [], ◌∷◌, map, All, ⊤}
use Rattle.tags.specs.declared.value.Origin.TheVariants.{Untold}
use Rattle.semantics.specs.Graph.{Flow}
use Rattle.semantics.specs.Program.{Instr, CodeBlock}
use Rattle.semantics.specs.Plan.{Plan, IsPlan}
use Rattle.semantics.specs.Sharing.{Good}
use Rattle.semantics.specs.Placed.{placed}
use Rattle.semantics.specs.Faithful.{Faithful}
use Rattle.semantics.specs.Reuse.{ReleasesLast}
use Rattle.semantics.specs.Credits.{KeepsBounds}
use Rattle.semantics.specs.Holders.{HoldsAlone}
use Rattle.semantics.specs.declared.version.Version.{Version}
use Rattle.semantics.specs.declared.version.Version.TheVariants.{One, Two}
use Rattle.select.specs.Emitted.{code_of}
use Rattle.law_compiler.specs.EmittedSame.{HaveSameEvents, KeepsBoundsAs, HoldsAloneAs}

-- the origins of a plan that can be given in this version: in the first one there are none
abbrev pub HasOrigins : Version → Plan → Type 0
HasOrigins One p = All (λ (c : CodeBlock). All (λ (i : Instr). i.origin ≡ Untold) c.instrs) p.program.blocks
HasOrigins Two p = ⊤

-- EMITTED CODE. It has one slot for each holder's, and as many blocks as the plan has lists of slots.
abbrev pub EmittedHasSameEvents : Type 0
EmittedHasSameEvents = (p : Plan) (slots : List (List ℕ)) (version : Version) → IsPlan p → HasOrigins version p
    → HaveSameEvents (placed p slots) (code_of version p slots)

abbrev pub EmittedIsFaithful : Type 0
EmittedIsFaithful = (fl : Flow) (p : Plan) (slots : List (List ℕ)) (version : Version) → IsPlan p → HasOrigins version p
    → Faithful fl (placed p slots) → Faithful fl (code_of version p slots)

abbrev pub EmittedReleasesLast : Type 0
EmittedReleasesLast = (fl : Flow) (p : Plan) (slots : List (List ℕ)) (version : Version) → IsPlan p → HasOrigins version p
    → ReleasesLast fl (placed p slots) → ReleasesLast fl (code_of version p slots)

abbrev pub EmittedKeepsBounds : Type 0
EmittedKeepsBounds = (fl : Flow) (p : Plan) (slots : List (List ℕ)) (version : Version) → IsPlan p → HasOrigins version p
    → KeepsBounds fl p slots → KeepsBoundsAs fl p (code_of version p slots)

abbrev pub EmittedHoldsAlone : Type 0
EmittedHoldsAlone = (fl : Flow) (p : Plan) (slots : List (List ℕ)) (version : Version) → IsPlan p → HasOrigins version p
    → HoldsAlone fl p slots → HoldsAloneAs fl p (code_of version p slots)

-- A SLOT FOR EACH HOLDER
abbrev pub row_from : ℕ → ℕ → List ℕ
row_from first zero = []
row_from first (suc n) = first ∷ row_from (first + 1) n

-- as many slots as each block has holders, in order
abbrev pub own_slots : Plan → List (List ℕ)
own_slots p = map (λ (c : CodeBlock). row_from 0 c.slots) p.program.blocks

abbrev pub HasFewHolders : Plan → Type 0
HasFewHolders p = All (λ (c : CodeBlock). c.slots ≤ 512) p.program.blocks

abbrev pub OwnSlotsAreGood : Type 0
OwnSlotsAreGood = (p : Plan) → HasFewHolders p → Good p (own_slots p)

abbrev pub OwnSlotsHaveSameEvents : Type 0
OwnSlotsHaveSameEvents = (p : Plan) → IsPlan p → HaveSameEvents p.program (placed p (own_slots p))

abbrev pub OwnSlotsAreFaithful : Type 0
OwnSlotsAreFaithful = (fl : Flow) (p : Plan) → IsPlan p → Faithful fl p.program → Faithful fl (placed p (own_slots p))
