-- The code of a loop's turn: each inlet is fed once, and every side leads on. A block that a loop names has an output for each
-- input, and the flag.
use Rattle.std.proofs.Common.{◌≡◌, ℕ, zero, suc, ◌+◌, ◌<◌, Bool, true, false, List, [], ◌∷◌, map, length, refl, sym, ap, ◌∙◌, subst, arith, Some}
use Rattle.std.specs.Prelude.{slice_get, count_by, sum, sum_by}
use Rattle.std.proofs.lemmas.Bool.{ltb-true, eqb-true}
use Rattle.std.proofs.lemmas.List.Sums.{sum_by-cons, sum-map}
use Rattle.std.proofs.lemmas.Option.{same_Some}
use Rattle.semantics.specs.declared.graph.Kind.{Kind}
use Rattle.semantics.specs.declared.graph.Kind.TheVariants.{Loop}
use Rattle.semantics.specs.Graph.{Node, Block, Flow}
use Rattle.semantics.specs.Cause.{loops_to, is_looped}
use Rattle.law_confluence.specs.OrdersTotals.{one}
use Rattle.law_net.specs.ContextsBlocks.{Wiring}
use Rattle.law_net.specs.ContextsWires.{turn_site, AreFed, LeadOn}
use Rattle.law_wiring.specs.WrittenFit.{Takes, IsTurned, IsFit}
use Rattle.law_wiring.specs.WrittenHalves.{IsWritten}
use Rattle.law_wiring.proofs.PartsCounts.{tally, count_is}
use Rattle.law_wiring.proofs.Parts.{follow}
use Rattle.law_wiring.proofs.FedEnds.{TurnsWell}
use Rattle.law_wiring.proofs.Fed.{are_fed}
use Rattle.law_wiring.proofs.WrittenLeads.{leads_on}

-- A LOOP that names the block
some_weight : {X : Type 0} (f : X → ℕ) (xs : List X) → 0 < sum_by f xs → (i : ℕ) × (x : X) × (slice_get xs i ≡ Some x) × (0 < f x)
some_weight {X} f [] l = absurd (omega (arith, l))
some_weight {X} f (x ∷ xs) l = go (f x) refl (some_weight f xs)
  where
    go : (n : ℕ) → f x ≡ n → (0 < sum_by f xs → (i : ℕ) × (y : X) × (slice_get xs i ≡ Some y) × (0 < f y))
        → (i : ℕ) × (y : X) × (slice_get (x ∷ xs) i ≡ Some y) × (0 < f y)
    go zero e more = let c = sum_by-cons f x xs in let m = more (omega (arith, l, c, e)) in (suc m.0, m.1, m.2, m.3)
    go (suc n) e more = (zero, x, refl, omega (arith, e))

some_passes : {X : Type 0} (p : X → Bool) (xs : List X) → 0 < tally p xs → (i : ℕ) × (x : X) × (slice_get xs i ≡ Some x) × (p x ≡ true)
some_passes {X} p [] l = absurd (omega (arith, l))
some_passes {X} p (x ∷ xs) l = go (p x) refl l (some_passes p xs)
  where
    go : (t : Bool) → p x ≡ t → 0 < one t + tally p xs → (0 < tally p xs → (i : ℕ) × (y : X) × (slice_get xs i ≡ Some y) × (p y ≡ true))
        → (i : ℕ) × (y : X) × (slice_get (x ∷ xs) i ≡ Some y) × (p y ≡ true)
    go true e l more = (zero, x, refl, e)
    go false e l more = let m = more (omega (arith, l)) in (suc m.0, m.1, m.2, m.3)

loop_is : (f : ℕ) (k : Kind ℕ) → loops_to f k ≡ true → (bound : ℕ) × (k ≡ Loop f bound)
loop_is f (Loop g bound) e = let same : g ≡ f = eqb-true g f e in (bound, ap (λ x. Loop x bound) same)
loop_is f k e = absurd (cc)

module _ (fl : Flow) (fits : (i : ℕ) (b : Block ℕ) → slice_get fl.blocks i ≡ Some b → IsFit fl b) (i : ℕ) (b : Block ℕ) (there : slice_get fl.blocks i ≡ Some b)
    (looped : is_looped fl i ≡ true) where
  abbrev loops_in : Block ℕ → ℕ
  loops_in c = count_by (λ (n : Node ℕ). loops_to i n.kind) c.nodes

  pub turn_outputs : b.outputs ≡ b.inputs + 1
  turn_outputs =
      let l = ltb-true 0 (sum (map loops_in fl.blocks)) looped in
      let m = sum-map loops_in fl.blocks in
      let c = some_weight loops_in fl.blocks (omega (arith, l, m)) in
      let positive = c.3 in
      let count = count_is (λ (n : Node ℕ). loops_to i n.kind) c.1.nodes in
      let n = some_passes (λ (n : Node ℕ). loops_to i n.kind) c.1.nodes (omega (arith, positive, count)) in
      let kind = loop_is i n.1.kind n.3 in
      let line = (fits c.0 c.1 c.2).nodes (c.1.inputs + n.0) n.1 (follow c.1 n.0 n.1 n.2) in
      named n.1.kind kind.0 (length n.1.sources) kind.1 line.takes
    where
      its : (n : ℕ) → IsTurned fl i n → b.outputs ≡ b.inputs + 1
      its n t =
          let callee = t.0 in
          let same : callee.block ≡ b = same_Some callee.block b (sym callee.there ∙ there) in
          let outputs : callee.block.outputs ≡ n + 1 = t.1 in
          let more : callee.block.outputs ≡ callee.block.inputs + 1 = let takes = callee.takes in omega (arith, outputs, takes) in
          subst (λ (x : Block ℕ). x.outputs ≡ x.inputs + 1) same more

      named : (k : Kind ℕ) (bound n : ℕ) → k ≡ Loop i bound → Takes fl k n → b.outputs ≡ b.inputs + 1
      named k bound n e t = its n (subst (λ c. Takes fl c n) e t)

  pub turns_well : (own : ℕ) → TurnsWell (turn_site b i own)
  turns_well own e = let outputs = turn_outputs in let results = (fits i b there).result_count in omega (arith, outputs, results)

  pub turn_is_fed : (own : ℕ) (w : Wiring) → IsWritten fl (turn_site b i own) w → AreFed fl (turn_site b i own) w
  turn_is_fed own w h = are_fed fl (turn_site b i own) (fits i b there) (turns_well own) w h

  pub turn_leads_on : (own : ℕ) (w : Wiring) → IsWritten fl (turn_site b i own) w → LeadOn fl (turn_site b i own) w
  turn_leads_on own w h = leads_on fl (turn_site b i own) (fits i b there) (turns_well own) w h
