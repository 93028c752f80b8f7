-- In every context that runs a loop's turn what leaves goes to its uses, and the wires stay in their arms. The code of a turn is
-- other code than that of a call, and than that of another loop's turn.
use Rattle.std.proofs.Common.{◌≡◌, ℕ, zero, suc, ◌-◌, ◌<◌, ◌≤◌, Bool, true, List, [], ◌∷◌, map, length, refl, sym, ap, ◌∙◌, arith, Some, lt-ltb}
use Rattle.std.specs.Prelude.{slice_get, count_by, sum}
use Rattle.std.proofs.lemmas.List.Sums.{sum-map}
use Rattle.std.proofs.lemmas.Option.{slice_get_within}
use Rattle.lemmas.proofs.Bools.{equal_itself}
use Rattle.lemmas.proofs.Sums.{one_of_sum}
use Rattle.semantics.specs.declared.graph.Kind.{Kind}
use Rattle.semantics.specs.declared.graph.Kind.TheVariants.{Loop}
use Rattle.semantics.specs.Graph.{Node, Block, Flow}
use Rattle.semantics.specs.Meaning.{Context, Main, Called, Turned, AtTurn, Carried, callee_of, callee_in, block_of, block_number, result_uses}
use Rattle.semantics.specs.Cause.{loops_to, is_looped}
use Rattle.semantics.proofs.Lines.{block_is_there, line_listed}
use Rattle.law_confluence.specs.OrdersTotals.{one}
use Rattle.law_net.specs.ContextsBlocks.{Wiring, is_loop, loop_kind}
use Rattle.law_net.specs.Contexts.{Wires, IsContext, number_in, or_none, or_zero}
use Rattle.law_net.specs.ContextsWires.{plain_site, turn_site, FollowArms, GoesToUses, Runs}
use Rattle.law_net.specs.ContextsExpanded.{CodesAreThere, wires_of}
use Rattle.law_net.proofs.ContextsBlocks.{has_block}
use Rattle.law_wiring.specs.WrittenFit.{IsFit}
use Rattle.law_wiring.specs.WrittenHalves.{IsWritten}
use Rattle.law_wiring.proofs.PartsCounts.{tally, count_is}
use Rattle.law_wiring.proofs.WrittenNodes.{node_some}
use Rattle.law_wiring.proofs.Turns.{turns_well}
use Rattle.law_wiring.proofs.WrittenArms.{follows}
use Rattle.law_wiring.proofs.UsesWhole.{number_is, RunsNoTurn, goes_to_uses, GoesOn, site_goes_to_uses}
use Rattle.law_wiring.proofs.TurnsValues.{turns_on}
use Rattle.law_wiring.proofs.TurnsUses.{turn_told}

some_tally : {X : Type 0} (p : X → Bool) (xs : List X) (i : ℕ) (x : X) → slice_get xs i ≡ Some x → p x ≡ true → 0 < tally p xs
some_tally p [] i x e h = absurd (cc)
some_tally p (y ∷ ys) zero x e h = let same : y ≡ x = cc in let o = ap one (ap p same ∙ h) in omega (arith, o)
some_tally p (y ∷ ys) (suc i) x e h = let m = some_tally p ys i x e h in omega (arith, m)

loop_of : (k : Kind ℕ) → loop_kind k ≡ true → (f : ℕ) × (bound : ℕ) × (k ≡ Loop f bound)
loop_of (Loop f bound) h = (f, bound, refl)
loop_of k h = absurd (cc)

module _ (fl : Flow) where
  -- the block of a context, by its number
  its_block : (c : Context) → IsContext fl c
      → (b : Block ℕ) × (i : ℕ) × (block_of fl c ≡ Some b) × (block_number fl c ≡ Some i) × (slice_get fl.blocks i ≡ Some b)
  its_block c h = let x = has_block fl c h in let m = block_is_there fl (block_number fl c) x.0 x.1 in (x.0, m.0, x.1, m.1, m.2)

  turn_looped : (c : Context) (n j : ℕ) → IsContext fl (Turned c n j) → is_looped fl (number_in fl (Turned c n j)) ≡ true
  turn_looped c n j h =
      let x = its_block c h.0 in
      let loop : is_loop x.0 n ≡ true = sym (ap (λ o. is_loop (or_none o) n) x.2) ∙ h.1 in
      let node = node_some x.0 loop_kind n loop in
      let kind = loop_of node.0.kind node.2 in
      let number : number_in fl (Turned c n j) ≡ kind.0 =
      ap or_zero (ap (λ o. callee_in o n) x.2 ∙ ap callee_of node.1
      ∙ ap (λ k. callee_of (Some (record { kind = k; region = node.0.region; sources = node.0.sources }))) kind.2) in
      ap (is_looped fl) number ∙ its x.1 x.0 (n - x.0.inputs) node.0 kind.0 kind.1 x.4 (line_listed x.0 n node.0 node.1) kind.2
    where
      its : (i : ℕ) (b : Block ℕ) (k : ℕ) (y : Node ℕ) (f bound : ℕ) → slice_get fl.blocks i ≡ Some b → slice_get b.nodes k ≡ Some y → y.kind ≡ Loop f bound
          → is_looped fl f ≡ true
      its i b k y f bound e g q =
          let passes : loops_to f y.kind ≡ true = ap (loops_to f) q ∙ equal_itself f in
          let some = some_tally (λ (z : Node ℕ). loops_to f z.kind) b.nodes k y g passes in
          let count = count_is (λ (z : Node ℕ). loops_to f z.kind) b.nodes in
          let loops : Block ℕ → ℕ = λ (d : Block ℕ). count_by (λ (z : Node ℕ). loops_to f z.kind) d.nodes in
          let weight = one_of_sum loops fl.blocks i b e in
          let all = sum-map loops fl.blocks in
          lt-ltb 0 (sum (map loops fl.blocks)) (omega (arith, some, count, weight, all))

  -- the code of a loop's turn is no call's, and two loops have two
  pub record VariantsApart (w : Wires) : Type 0 where
    pub others : (i : ℕ) (b : Block ℕ) → slice_get fl.blocks i ≡ Some b → is_looped fl i ≡ true → length fl.blocks ≤ w.variant i
    pub differ : (i j : ℕ) → is_looped fl i ≡ true → is_looped fl j ≡ true → w.variant i ≡ w.variant j → i ≡ j

  pub variants_apart : CodesAreThere fl → VariantsApart (wires_of fl)
  variants_apart h = record { others = h.others; differ = h.differ }

  module _ (w : Wires) (apart : VariantsApart w) (i : ℕ) (b : Block ℕ) (there : slice_get fl.blocks i ≡ Some b) where
    -- CALLS
    pub no_turn_runs : RunsNoTurn fl i b there w
    no_turn_runs c n j h =
        let x = its_block (Turned c n j) h.0 in
        let number : number_in fl (Turned c n j) ≡ x.1 = ap or_zero x.3 in
        let low = apart.others x.1 x.0 x.4 (sym (ap (is_looped fl) number) ∙ turn_looped c n j h.0) in
        let code : w.variant x.1 ≡ i = sym (ap w.variant number) ∙ h.1 in
        let high = slice_get_within fl.blocks i b there in
        omega (arith, low, high, code)

    pub call_goes_to_uses : IsFit fl b → IsWritten fl (plain_site b i) (w.wiring i) → GoesToUses fl (Runs fl w i) (plain_site b i) (w.wiring i)
    call_goes_to_uses fit h = goes_to_uses fl i b there w no_turn_runs fit h

    -- TURNS
    module _ (fits : (i : ℕ) (b : Block ℕ) → slice_get fl.blocks i ≡ Some b → IsFit fl b) (looped : is_looped fl i ≡ true) where
      no_call_runs : (c : Context) → IsContext fl c → number_in fl c ≡ w.variant i → ⊥
      no_call_runs c h e =
          let x = its_block c h in
          let number : x.1 ≡ w.variant i = sym (ap or_zero x.3) ∙ e in
          let low = apart.others i b there looped in
          let high = slice_get_within fl.blocks x.1 x.0 x.4 in
          omega (arith, low, high, number)

      later : (c : Context) (n k j : ℕ) → 0 < j → result_uses (Turned c n k) b.inputs j ≡ (AtTurn j, Carried) ∷ []
      later c n k zero l = absurd (omega (arith, l))
      later c n k (suc j) l = refl

      goes : (c : Context) → Runs fl w (w.variant i) c → GoesOn fl (turn_site b i (w.variant i)) c
      goes Main h = absurd (no_call_runs Main h.0 h.1)
      goes (Called c n) h = absurd (no_call_runs (Called c n) h.0 h.1)
      goes (Turned c n j) h = λ v m q port.
          let number : number_in fl (Turned c n j) ≡ i = apart.differ (number_in fl (Turned c n j)) i (turn_looped c n j h.0) looped h.1 in
          turn_told fl (turn_site b i (w.variant i)) (fits i b there) (Turned c n j) v (number_is fl i b there w (Turned c n j) h.0 number) m q port refl
          (later c n j)
          (turns_well fl fits i b there looped (w.variant i)) refl

      pub turn_goes_to_uses : IsWritten fl (turn_site b i (w.variant i)) (w.wiring (w.variant i))
          → GoesToUses fl (Runs fl w (w.variant i)) (turn_site b i (w.variant i)) (w.wiring (w.variant i))
      turn_goes_to_uses h =
          site_goes_to_uses fl (turn_site b i (w.variant i)) (fits i b there) (w.wiring (w.variant i)) h (Runs fl w (w.variant i)) goes
          (turns_on fl (turn_site b i (w.variant i)) (turns_well fl fits i b there looped (w.variant i)) (w.wiring (w.variant i)) h)

pub turn_follows_arms : (fl : Flow) (i : ℕ) (b : Block ℕ) (own : ℕ) (w : Wiring) → IsFit fl b → IsWritten fl (turn_site b i own) w
    → FollowArms fl (turn_site b i own) w
turn_follows_arms fl i b own w fit h = follows fl (turn_site b i own) fit w h
