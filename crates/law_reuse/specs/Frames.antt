-- That the code of a faithful plan with good slots is faithful.
use Rattle.std.specs.Prelude.{◌≡◌, ℕ, List}
use Rattle.semantics.specs.Graph.{Flow}
use Rattle.semantics.specs.Faithful as Faithful
use Rattle.semantics.specs.Faithful.{Faithful}
use Rattle.semantics.specs.Plan.{Plan}
use Rattle.semantics.specs.Sharing.{Good}
use Rattle.semantics.specs.Placed.{placed}
use Rattle.semantics.specs.Orderly as Orderly
use Rattle.semantics.specs.Orderly.{Orderly}
use Rattle.semantics.specs.Wired.{IsWired}
use Rattle.semantics.specs.Reuse.{ReleasesLast}
use Rattle.semantics.specs.Holders.{HoldsAlone}

-- A run of the plan starts with as many inputs as the graph's main block has.
abbrev pub TakesInputs : Flow → Plan → Type 0
TakesInputs fl p = Orderly.inputs_of p ≡ Faithful.inputs_of fl

-- The code is as faithful as the plan, in all runs: with frames used again, and with slots that holders share.
abbrev pub SharedSlotsAreFaithful : Type 0
SharedSlotsAreFaithful = (fl : Flow) (p : Plan) (slots : List (List ℕ)) → Faithful fl p.program → Orderly p → IsWired p → Good p slots → TakesInputs fl p
    → Faithful fl (placed p slots)

-- In each run of the code, nothing else names a frame that is released, and its slots are empty.
abbrev pub ReleasesAreLast : Type 0
ReleasesAreLast = (fl : Flow) (p : Plan) (slots : List (List ℕ)) → Orderly p → IsWired p → Good p slots → TakesInputs fl p → ReleasesLast fl (placed p slots)

-- And two holders that share a slot never hold it at the same time.
abbrev pub HoldersAreAlone : Type 0
HoldersAreAlone = (fl : Flow) (p : Plan) (slots : List (List ℕ)) → Orderly p → IsWired p → Good p slots → TakesInputs fl p → HoldsAlone fl p slots
