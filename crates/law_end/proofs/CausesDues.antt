-- A context that has a frame, and round which all was decided, is one that the meaning calls for, where strict calls have fired.
use Rattle.std.proofs.Common.{◌≡◌, ℕ, zero, suc, ◌<◌, ℤ, true, ◌⊎◌, inl, inr, List, ◌++◌, Option, Some, sym, ap, ◌∙◌, subst, arith, true≢false}
use Rattle.std.specs.Prelude.{Contains}
use Rattle.std.proofs.lemmas.Bool.{cases_eq}
use Rattle.std.proofs.lemmas.List.Elements.{Contains-append_left, Contains-append_right, Contains-append_cases}
use Rattle.lemmas.proofs.Contains.{contains_tail}
use Rattle.semantics.specs.declared.graph.Region.TheVariants.{Root}
use Rattle.semantics.specs.declared.graph.Kind.{Kind}
use Rattle.semantics.specs.Graph.{Node, Block, Flow}
use Rattle.semantics.specs.Plan.{Plan}
use Rattle.semantics.specs.Meaning.{Context, Called, Turned, block_of, arms_at, node_of, node_in, Due, IsCall, IsLoop, StartsWhenStrict, HadTrueFlag}
use Rattle.semantics.specs.Machine.{Machine}
use Rattle.law_net.specs.ContextsParts.{Firing}
use Rattle.law_net.specs.ContextsBlocks.{call_kind, loop_kind, is_call, is_loop, lies_in, flag}
use Rattle.law_net.specs.Contexts.{Wires, block_in, IsContext}
use Rattle.law_net.specs.ContextsAround.{Way, way, ways_round, earlier_turns, flag_of, own_ways}
use Rattle.law_net.specs.ContextsMirror.{Past}
use Rattle.law_net.specs.ContextsTheorem.{IsGood}
use Rattle.law_net.specs.ContextsPackages.{Keeps, InputsFit}
use Rattle.law_net_refines_meaning.proofs.FiringsNodes.{kind_is}
use Rattle.law_net.proofs.WiredInvoked.{block_here, is_turned}
use Rattle.law_net.proofs.WiredRounds.{root_region, round_node, round_turn, earlier_flag}
use Rattle.law_end.specs.Over.{IsDecided, IsOpen}
use Rattle.law_net.specs.ContextsOperands.{SourcesAreEarlier}
use Rattle.law_end.proofs.RestArms.{Stood', flag_stood}
use Rattle.law_end.proofs.CausesCalls.{arms_taken}
use Rattle.law_end.proofs.RestStory.{story}

call_is : (k : Kind ℕ) → call_kind k ≡ true → IsCall k
call_is (Kind.Call f) e = tt
call_is (Kind.StrictCall f) e = tt
call_is k e = absurd (true≢false (sym e))

loop_is : (k : Kind ℕ) → loop_kind k ≡ true → IsLoop k
loop_is (Kind.Loop f n) e = tt
loop_is k e = absurd (true≢false (sym e))

-- what lies round an earlier turn lies round a later one
flags_later : (fl : Flow) (c : Context) (n j t : ℕ) (x : Way) → j < t → Contains (earlier_turns fl c n j) x → Contains (earlier_turns fl c n t) x
flags_later fl c n j zero x low d = absurd (omega (arith, low))
flags_later fl c n j (suc t) x low d = pick (cases_eq j t) (λ l. flags_later fl c n j t x l d)
  where
    pick : (j ≡ t) ⊎ (j ≡ t → ⊥) → (j < t → Contains (earlier_turns fl c n t) x) → Contains (earlier_turns fl c n (suc t)) x
    pick (inl e) more =
        contains_tail (way (Turned c n t) (flag_of fl (Turned c n t)) true) (earlier_turns fl c n t) x
        (subst (λ (j : ℕ). Contains (earlier_turns fl c n j) x) e d)
    pick (inr e) more = contains_tail (way (Turned c n t) (flag_of fl (Turned c n t)) true) (earlier_turns fl c n t) x (more (omega (arith, low, e)))

less_round : (fl : Flow) (c : Context) (n j t : ℕ) (x : Way) → j < t → Contains (ways_round fl (Turned c n j)) x → Contains (ways_round fl (Turned c n t)) x
less_round fl c n j t x low d = pick (Contains-append_cases (earlier_turns fl c n j) (own_ways c (arms_at (block_of fl c) n) ++ ways_round fl c) x d)
  where
    pick : Contains (earlier_turns fl c n j) x ⊎ Contains (own_ways c (arms_at (block_of fl c) n) ++ ways_round fl c) x
        → Contains (ways_round fl (Turned c n t)) x
    pick (inl h) = Contains-append_left (earlier_turns fl c n t) (own_ways c (arms_at (block_of fl c) n) ++ ways_round fl c) x (flags_later fl c n j t x low h)
    pick (inr h) = Contains-append_right (earlier_turns fl c n t) (own_ways c (arms_at (block_of fl c) n) ++ ways_round fl c) x h

module _ (fl : Flow) (p : Plan) (w : Wires) (inputs : List ℤ) (past : Past) (m : Machine) (good : IsGood fl p w) (fit : InputsFit fl inputs)
    (kept : Keeps fl p w inputs past m) (earlier : SourcesAreEarlier fl) where
  abbrev done : List Firing
  done = kept.tracks.net.fired

  abbrev pub IsDue : Context → Type 0
  IsDue c = Due fl (story fl p w inputs past m good fit kept).run (Stood' fl p w inputs past m good fit kept) c

  -- all that lies round the context was decided for it
  abbrev pub IsRounded : Context → Type 0
  IsRounded c = (x : Way) → Contains (ways_round fl c) x → IsDecided fl w kept.tracks.net.fired x.choice x.side

  pub rounded_open : (c : Context) → IsRounded c → IsOpen fl w done c Root
  rounded_open c r x d = r x (subst (λ (l : List Way). Contains l x) (root_region fl c) d)

  -- round a call, or a turn, lies what lies round its node
  pub call_open : (c : Context) (n : ℕ) → IsContext fl c → IsRounded (Called c n) → IsOpen fl w done c (lies_in (block_in fl c) n)
  call_open c n con r x d = r x (subst (λ (l : List Way). Contains l x) (round_node fl p w good c n con) d)

  pub turn_open : (c : Context) (n t : ℕ) → IsContext fl c → IsRounded (Turned c n t) → IsOpen fl w done c (lies_in (block_in fl c) n)
  turn_open c n t con r x d = r x (round_turn fl p w good c n t x con d)

  -- A CALL whose arms are open is due, where its context is; and a turn, after true flags
  pub call_due : (c : Context) (n : ℕ) (con : IsContext fl c) → is_call (block_in fl c) n ≡ true → IsDue c → IsOpen fl w done c (lies_in (block_in fl c) n)
      → ((line : Node ℕ) → node_of fl c n ≡ Some line → StartsWhenStrict (story fl p w inputs past m good fit kept).run c n line.kind)
      → IsDue (Called c n)
  call_due c n con here due o strict =
      let (line, at, kind) = kind_is (block_in fl c) call_kind n here in
      let node : node_of fl c n ≡ Some line = ap (λ (x : Option (Block ℕ)). node_in x n) (block_here fl p w good c con) ∙ at in
      (due, (line, node, call_is line.kind kind, strict line node), arms_taken fl p w inputs past m good fit kept earlier c con n line at o)

  pub turn_due : (c : Context) (n t : ℕ) (con : IsContext fl c) → is_loop (block_in fl c) n ≡ true → IsDue c → IsRounded (Turned c n t) → IsDue (Turned c n t)
  turn_due c n t con here due r =
      let (line, at, kind) = kind_is (block_in fl c) loop_kind n here in
      let node : node_of fl c n ≡ Some line = ap (λ (x : Option (Block ℕ)). node_in x n) (block_here fl p w good c con) ∙ at in
      (due, (line, node, loop_is line.kind kind), arms_taken fl p w inputs past m good fit kept earlier c con n line at (turn_open c n t con r), flags)
    where
      flags : (j : ℕ) → j < t → HadTrueFlag (Stood' fl p w inputs past m good fit kept) (Turned c n j)
      flags j low =
          let inner = is_turned fl p w good c n j con here in
          flag_stood fl p w inputs past m good fit kept c n j inner
          (r (way (Turned c n j) (flag (block_in fl (Turned c n j))) true) (earlier_flag fl p w good c n j t inner low)) (before j low)
        where
          before : (j : ℕ) → j < t → IsOpen fl w done (Turned c n j) Root
          before j low = rounded_open (Turned c n j) (λ x d. r x (less_round fl c n j t x low d))
