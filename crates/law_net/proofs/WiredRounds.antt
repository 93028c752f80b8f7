-- The arms round what is invoked, and what a choice of a context is: a conditional, or the flag of a turn.
use Rattle.std.proofs.Common.{◌≡◌, ℕ, zero, suc, ◌+◌, ◌-◌, ◌<◌, Bool, true, ◌&&◌, ◌||◌, List, [], ◌∷◌, ◌++◌, length, refl, sym, ap, ◌∙◌, subst, inl, inr, ◌⊎◌}
use Rattle.std.proofs.Common.{arith, true≢false, eqb-true, lt-ltb, le-ltb, Option, None, ◌==◌, if◌then◌else◌}
use Rattle.std.specs.Prelude.{Contains, slice_get}
use Rattle.std.proofs.lemmas.Bool.{and_parts, cases_eq, or_cases}
use Rattle.std.proofs.lemmas.List.Elements.{Contains-append_left, Contains-append_right}
use Rattle.lemmas.proofs.Contains.{contains_cases, contains_head, contains_tail}
use Rattle.semantics.specs.declared.graph.Region.{Region}
use Rattle.semantics.specs.declared.graph.Region.TheVariants.{Root, Arm}
use Rattle.semantics.specs.Graph.{Block, Flow, Node, node_count}
use Rattle.semantics.specs.Meaning.{Context, Main, Called, Turned, block_of, arms_round, arms_at, arm_of}
use Rattle.semantics.specs.Cause.{is_turn}
use Rattle.semantics.specs.Plan.{Plan}
use Rattle.law_net.specs.ContextsParts.{CondEnd}
use Rattle.law_net.specs.ContextsBlocks.{is_kind, cond_kind, lies_in, flag, there_in}
use Rattle.law_net.specs.Contexts.{Wires, block_in, site_in, wiring_in, IsContext}
use Rattle.law_net.specs.ContextsAround.{Way, way, own_ways, ways_round, earlier_turns, flag_of, flag_in}
use Rattle.law_net.specs.ContextsLaws.{in_region}
use Rattle.law_net.specs.ContextsTheorem.{IsGood}
use Rattle.law_net.proofs.WiredRegions.{arms_root, arms_by_reach, reach_in, reach}
use Rattle.law_net.proofs.WiredSites.{cond_below}
use Rattle.law_net.proofs.WiredInvoked.{block_here, loop_invoked, lawful_at}

-- the flag lies in the root
pub flag_root : (b : Block ℕ) → lies_in b (node_count b) ≡ Root
flag_root b = ap arm_of
    (ap (λ (t : Bool). if t then None else slice_get b.nodes (b.inputs + length b.nodes - b.inputs)) (le-ltb (b.inputs + length b.nodes) b.inputs (omega arith))
    ∙ (let back : b.inputs + length b.nodes - b.inputs ≡ length b.nodes = omega arith in ap (slice_get b.nodes) back) ∙ past b.nodes)
  where
    past : (xs : List (Node ℕ)) → slice_get xs (length xs) ≡ None
    past [] = refl
    past (x ∷ xs) = past xs

-- an input lies in the root
pub input_root : (b : Block ℕ) (m : ℕ) → m < b.inputs → lies_in b m ≡ Root
input_root b m h = ap (λ (t : Bool). arm_of (if t then None else slice_get b.nodes (m - b.inputs))) (lt-ltb m b.inputs h)

pub root_region : (fl : Flow) (c : Context) → in_region fl c Root ≡ ways_round fl c
root_region fl c = ap (λ (l : List (ℕ × Bool)). own_ways c l ++ ways_round fl c) (arms_root (block_in fl c) (node_count (block_in fl c)))

-- what lies round a context lies round all in it
pub under : (fl : Flow) (c : Context) (r : Region) (x : Way) → Contains (ways_round fl c) x → Contains (in_region fl c r) x
under fl c r x h = Contains-append_right (own_ways c (arms_round (node_count (block_in fl c)) (block_in fl c) r)) (ways_round fl c) x h

module _ (fl : Flow) (p : Plan) (w : Wires) (good : IsGood fl p w) where
  -- round a call or a loop lies what lies round its node
  pub round_node : (c : Context) (n : ℕ) → IsContext fl c
      → in_region fl c (lies_in (block_in fl c) n) ≡ own_ways c (arms_at (block_of fl c) n) ++ ways_round fl c
  round_node c n h = ap (λ (o : Option (Block ℕ)). own_ways c (arms_at o n) ++ ways_round fl c) (sym (block_here fl p w good c h))

  pub round_turn : (c : Context) (n t : ℕ) (x : Way) → IsContext fl c → Contains (in_region fl c (lies_in (block_in fl c) n)) x
      → Contains (ways_round fl (Turned c n t)) x
  round_turn c n t x h m =
      Contains-append_right (earlier_turns fl c n t) (own_ways c (arms_at (block_of fl c) n) ++ ways_round fl c) x
      (subst (λ (l : List Way). Contains l x) (round_node c n h) m)

  -- A CHOICE
  abbrev pub IsChoice : Context → ℕ → Type 0
  IsChoice c n = (is_kind cond_kind (block_in fl c) n ≡ true) ⊎ ((is_turn c ≡ true) × (n ≡ flag (block_in fl c)))

  pub rounds_at : (c : Context) → IsContext fl c → (n k : ℕ) (t : Bool) → lies_in (block_in fl c) n ≡ Arm k t → k < n
  rounds_at c h n k t e = ((lawful_at fl p w good c h).arms.rounds n k t e).0

  turn_has_nodes : (c : Context) → IsContext fl c → is_turn c ≡ true → 0 < node_count (block_in fl c)
  turn_has_nodes Main h e = absurd (true≢false (sym e))
  turn_has_nodes (Called c n) h e = absurd (true≢false (sym e))
  turn_has_nodes (Turned c n t) h e = let some = (loop_invoked fl p w good c n t h.0 h.1).0.some_input in omega (arith, some)

  pub choice_arm : (c : Context) (n : ℕ) (t : Bool) → IsContext fl c → IsChoice c n
      → in_region fl c (Arm n t) ≡ way c n t ∷ in_region fl c (lies_in (block_in fl c) n)
  choice_arm c n t h (inl e) = ap (λ (l : List (ℕ × Bool)). own_ways c l ++ ways_round fl c)
      (let low = cond_below (block_in fl c) n e in let r = reach_in (block_in fl c) (rounds_at c h) n in
      arms_by_reach (block_in fl c) (rounds_at c h) (node_count (block_in fl c)) n t (omega (arith, low, r)))
  choice_arm c n t h (inr (e, g)) = ap (λ (l : List (ℕ × Bool)). own_ways c l ++ ways_round fl c)
      (let some = turn_has_nodes c h e in let r : reach (block_in fl c) (rounds_at c h) (lies_in (block_in fl c) n) ≡ 0 =
      ap (reach (block_in fl c) (rounds_at c h)) (ap (lies_in (block_in fl c)) g ∙ flag_root (block_in fl c)) in
      arms_by_reach (block_in fl c) (rounds_at c h) (node_count (block_in fl c)) n t (omega (arith, some, r)))

  pub choice_in : (c : Context) (n : ℕ) (t : Bool) → IsContext fl c → IsChoice c n → Contains (in_region fl c (Arm n t)) (way c n t)
  choice_in c n t h e =
      subst (λ (l : List Way). Contains l (way c n t)) (sym (choice_arm c n t h e)) (contains_head (way c n t) (in_region fl c (lies_in (block_in fl c) n)))

  pub choice_round : (c : Context) (n : ℕ) (t : Bool) (x : Way) → IsContext fl c → IsChoice c n → Contains (in_region fl c (lies_in (block_in fl c) n)) x
      → Contains (in_region fl c (Arm n t)) x
  choice_round c n t x h e m =
      subst (λ (l : List Way). Contains l x) (sym (choice_arm c n t h e)) (contains_tail (way c n t) (in_region fl c (lies_in (block_in fl c) n)) x m)

  pub choice_cases : (c : Context) (n : ℕ) (t : Bool) (x : Way) → IsContext fl c → IsChoice c n → Contains (in_region fl c (Arm n t)) x
      → (way c n t ≡ x) ⊎ Contains (in_region fl c (lies_in (block_in fl c) n)) x
  choice_cases c n t x h e m =
      contains_cases (way c n t) (in_region fl c (lies_in (block_in fl c) n)) x (subst (λ (l : List Way). Contains l x) (choice_arm c n t h e) m)

  -- the end of a conditional is of a choice
  pub end_choice : (c : Context) (n : ℕ) → there_in fl (site_in fl w c) (wiring_in fl w c) (CondEnd n) ≡ true → IsChoice c n
  end_choice c n h =
      pick (or_cases (is_kind cond_kind (block_in fl c) n) (is_turn c && (n == node_count (block_in fl c)))
      (and_parts ((wiring_in fl w c).ends n) (is_kind cond_kind (block_in fl c) n || (is_turn c && (n == node_count (block_in fl c)))) h).1)
    where
      pick : (is_kind cond_kind (block_in fl c) n ≡ true) ⊎ ((is_turn c && (n == node_count (block_in fl c))) ≡ true) → IsChoice c n
      pick (inl e) = inl e
      pick (inr e) = let k = and_parts (is_turn c) (n == node_count (block_in fl c)) e in inr (k.0, eqb-true n (node_count (block_in fl c)) k.1)

  -- THE NEXT TURN: round it lies the flag of the one before, and what lies round that
  flag_is : (c : Context) → IsContext fl c → flag_of fl c ≡ flag (block_in fl c)
  flag_is c h = ap flag_in (block_here fl p w good c h)

  pub round_next : (d : Context) (n t : ℕ) (x : Way) → IsContext fl (Turned d n t) → Contains (ways_round fl (Turned d n (suc t))) x
      → Contains (in_region fl (Turned d n t) (Arm (flag (block_in fl (Turned d n t))) true)) x
  round_next d n t x h m = pick (contains_cases (way (Turned d n t) (flag_of fl (Turned d n t)) true) (ways_round fl (Turned d n t)) x m)
    where
      flagged : IsChoice (Turned d n t) (flag (block_in fl (Turned d n t)))
      flagged = inr (refl, refl)

      pick : (way (Turned d n t) (flag_of fl (Turned d n t)) true ≡ x) ⊎ Contains (ways_round fl (Turned d n t)) x
          → Contains (in_region fl (Turned d n t) (Arm (flag (block_in fl (Turned d n t))) true)) x
      pick (inl e) =
          subst (Contains (in_region fl (Turned d n t) (Arm (flag (block_in fl (Turned d n t))) true)))
          (ap (λ (k : ℕ). way (Turned d n t) k true) (sym (flag_is (Turned d n t) h)) ∙ e)
          (choice_in (Turned d n t) (flag (block_in fl (Turned d n t))) true h flagged)
      pick (inr c) = under fl (Turned d n t) (Arm (flag (block_in fl (Turned d n t))) true) x c

  -- an earlier turn's flag was true
  pub earlier_flag : (d : Context) (n t u : ℕ) → IsContext fl (Turned d n t) → t < u
      → Contains (ways_round fl (Turned d n u)) (way (Turned d n t) (flag (block_in fl (Turned d n t))) true)
  earlier_flag d n t u h l =
      Contains-append_left (earlier_turns fl d n u) (own_ways d (arms_at (block_of fl d) n) ++ ways_round fl d)
      (way (Turned d n t) (flag (block_in fl (Turned d n t))) true) (go u l)
    where
      go : (u : ℕ) → t < u → Contains (earlier_turns fl d n u) (way (Turned d n t) (flag (block_in fl (Turned d n t))) true)
      go zero l = absurd (omega (arith, l))
      go (suc u) l = pick (cases_eq u t) (go u)
        where
          pick : (u ≡ t) ⊎ (u ≡ t → ⊥) → (t < u → Contains (earlier_turns fl d n u) (way (Turned d n t) (flag (block_in fl (Turned d n t))) true))
              → Contains (earlier_turns fl d n (suc u)) (way (Turned d n t) (flag (block_in fl (Turned d n t))) true)
          pick (inl e) more = subst (λ (x : Way). Contains (x ∷ earlier_turns fl d n u) (way (Turned d n t) (flag (block_in fl (Turned d n t))) true))
              (sym (ap (λ (s : ℕ). way (Turned d n s) (flag_of fl (Turned d n s)) true) e
              ∙ ap (λ (k : ℕ). way (Turned d n t) k true) (flag_is (Turned d n t) h)))
              (contains_head (way (Turned d n t) (flag (block_in fl (Turned d n t))) true) (earlier_turns fl d n u))
          pick (inr n') more =
              contains_tail (way (Turned d n u) (flag_of fl (Turned d n u)) true) (earlier_turns fl d n u)
              (way (Turned d n t) (flag (block_in fl (Turned d n t))) true) (more (omega (arith, l, n')))
