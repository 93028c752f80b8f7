-- At most one item waits at an inlet of a context.
use Rattle.std.proofs.Common.{◌≡◌, ℕ, List, ◌∷◌, ◌++◌, ap, subst, arith, ℤ}
use Rattle.std.specs.Prelude.{Contains}
use Rattle.semantics.specs.Graph.{Flow}
use Rattle.law_confluence.specs.OrdersTotals.{one}
use Rattle.law_confluence.proofs.Orders.{total-IsPermutation, at_first}
use Rattle.law_confluence.proofs.Net.{hit}
use Rattle.std.proofs.lemmas.List.Sorted.{IsPermutation-middle}
use Rattle.law_net.specs.ContextsParts.{Item, Spot, same_spot, spot_of, role_of}
use Rattle.law_net.specs.Contexts.{Wires}
use Rattle.law_net.specs.ContextsFirings.{Config, takes, makes, begins}
use Rattle.law_net.specs.ContextsLaws.{IsSoundNet}
use Rattle.law_net.proofs.ContextsSames.{same_spot-refl}
use Rattle.law_machine_refines_net.proofs.MovesLists.{taken_out}

module _ (fl : Flow) (w : Wires) (inputs : List ℤ) (c : Config) (sound : IsSoundNet fl w inputs c) where
  abbrev Hits : Spot → Item → ℕ
  Hits = hit spot_of same_spot (takes fl) (makes fl w) (begins inputs) role_of

  hits_itself : (j : Item) → Hits (spot_of j) j ≡ 1
  hits_itself j = ap one (same_spot-refl (spot_of j))

  -- no other waits where an item waits
  pub one_waits : (before later : List Item) (j : Item) → c.waiting ≡ before ++ (j ∷ later) → (i : Item) → Contains (before ++ later) i → spot_of i ≡ spot_of j
      → ⊥
  one_waits before later j e i there same =
      let x = spot_of j in
      let m = sound.marked (Hits x) in let k = sound.safe x in
      let t = total-IsPermutation (Hits x) c.waiting (j ∷ (before ++ later)) (at_first e (IsPermutation-middle before j later)) in
      let o = taken_out (before ++ later) i there in
      let u = total-IsPermutation (Hits x) (before ++ later) (i ∷ (o.0 ++ o.1)) (at_first o.2 (IsPermutation-middle o.0 i o.1)) in
      let h = hits_itself j in
      let g : Hits x i ≡ 1 = subst (λ y. Hits y i ≡ 1) same (hits_itself i) in
      omega (arith, m, k, t, u, h, g)
