-- Worked examples of the history of commits, and of what a report counts.
use Rattle.std.proofs.Common.{◌≡◌, refl, ℕ, ◌+◌, [], ◌∷◌}
use Rattle.std.proofs.lemmas.List.Sorted.{IsPermutation-refl}
use Rattle.std.proofs.lemmas.List.Elements.{All-nil, All-cons}
use Rattle.tags.specs.Addresses.{element_of}
use Rattle.tags.specs.declared.token.Port.TheVariants.{Left}
use Rattle.tags.specs.declared.token.To.{To}
use Rattle.tags.specs.declared.token.Token.{Token}
use Rattle.tags.specs.declared.token.Cont.{Cont}
use Rattle.tags.specs.declared.slot.SlotState.TheVariants.{Empty, Waiter}
use Rattle.semantics.specs.Rule.{token, signal}
use Rattle.semantics.specs.Pool.{LeavesPool}
use Rattle.semantics.specs.Report.{sum_below, waiters}

-- frame 2 lies on element 0 of 2, and frame 3 on element 1
abbrev for_0 : Token
for_0 = token (To.Instr 2 7 Left) signal

abbrev for_1 : Token
for_1 = token (To.Instr 3 7 Left) signal

abbrev addressed : ℕ → Token → Type 0
addressed e t = element_of 2 t.to ≡ e

-- element 0 spends its token and makes one for element 1, which spends that: the pool is empty again
two_commits : LeavesPool 2 (for_0 ∷ []) (record { element = 0; spent = for_0 ∷ []; made = for_1 ∷ [] }
    ∷ record { element = 1; spent = for_1 ∷ []; made = [] } ∷ []) []
two_commits = (
  [],
  IsPermutation-refl (for_0 ∷ []),
  All-cons (addressed 0) for_0 [] refl (All-nil (addressed 0)),
  ([], IsPermutation-refl (for_1 ∷ []), All-cons (addressed 1) for_1 [] refl (All-nil (addressed 1)), IsPermutation-refl []),
)

-- COUNTING below a number
doubles : sum_below 4 (λ n. n + n) ≡ 12
doubles = refl

-- a slot with a waiter counts 1
one_waiter : waiters (Waiter (Cont.Host 0)) ≡ 1
one_waiter = refl

-- any other slot counts 0
no_waiter : waiters Empty ≡ 0
no_waiter = refl
