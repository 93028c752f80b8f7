-- Every side leads on: where no wire leaves a side, it is an end, and the ends of each region are joined.
use Rattle.std.proofs.Common.{◌≡◌, ◌≢◌, ℕ, suc, ◌+◌, ◌<◌, ◌≤◌, ◌⊎◌, inl, inr, Bool, true, false, not, List, [], ◌∷◌, ◌++◌, length, refl, sym, ap, ◌∙◌, subst}
use Rattle.std.proofs.Common.{arith, append_assoc, Some, None, Option, Contains}
use Rattle.std.specs.Prelude.{⊤, count_by}
use Rattle.std.proofs.lemmas.Bool.{ltb-true, cases_lt}
use Rattle.tags.specs.declared.token.Port.{Port}
use Rattle.tags.specs.declared.token.Port.TheVariants.{Left, Right}
use Rattle.semantics.specs.declared.graph.Region.{Region}
use Rattle.semantics.specs.declared.graph.Region.TheVariants.{Root, Arm}
use Rattle.semantics.specs.declared.graph.Kind.{Kind}
use Rattle.semantics.specs.declared.graph.Kind.TheVariants.{Lit, Apply1, Apply2, Cond, Enter, Merge, Fetch, Store, Call, StrictCall, Loop}
use Rattle.semantics.specs.Graph.{Node, Block, Flow, node_at, node_count}
use Rattle.semantics.specs.Meaning.{arm_of}
use Rattle.law_net.specs.ContextsParts as Parts
use Rattle.law_net.specs.ContextsParts.{Part, Trigger, Gate, Opener, Framer, Join, CondEnd, Inlet, inlet, same_part}
use Rattle.law_net.specs.ContextsBlocks.{Side, side, Site, Wiring, there_in, lies_in, arm_round, is_kind, cond_kind, is_loop, loop_kind}
use Rattle.law_net.specs.ContextsWires.{plain_site, LeadOn, Suits, arrives_at, goes_from}
use Rattle.law_net.specs.ContextsExpanded.{row}
use Rattle.law_wiring.specs.Written as Written
use Rattle.law_wiring.specs.Written.{Wire, wire, inlet_of, is_triggered, invoke_wires, kind_wires, node_wires, tail_wires, sides, is_open, chain_wires}
use Rattle.law_wiring.specs.Written.{chain_end, joined_wires, joined_parts, signal_wires, cond_parts, cond_sides, Ended, arm_ends, close, close_kind}
use Rattle.law_wiring.specs.Written.{close_nodes, close_flag, inner, inner_parts, inner_wires, root_ends, parts_in, wires_in}
use Rattle.law_wiring.specs.WrittenFit.{IsFit}
use Rattle.law_wiring.specs.WrittenHalves.{IsWritten, WrittenLeadsOn}
use Rattle.law_wiring.proofs.PartsCounts.{tally, count_is, Follow, follow_more, follow_here}
use Rattle.law_wiring.proofs.WrittenMembers.{In, in_left, in_right, sides_cases, side_in, all_in, open_in, region, region_in, Used, used_left, used_right}
use Rattle.law_wiring.proofs.WrittenMembers.{used_here, used_later, used_between, used_along, along_all, InW, contains_along}
use Rattle.law_wiring.proofs.Parts.{follow, node_within}
use Rattle.law_wiring.proofs.WrittenNodes.{node_some, kind_at, arms_round}
use Rattle.law_wiring.proofs.WrittenTriggered.{some_node}
use Rattle.law_wiring.proofs.WrittenSides.{inner_all}
use Rattle.law_wiring.proofs.FedEnds.{TurnsWell}
use Rattle.law_wiring.proofs.Fed.{plain_well}
use Rattle.law_wiring.proofs.WrittenNodeWires.{node_in_block}
use Rattle.law_wiring.proofs.WrittenSuits.{AreSuited, all_suit}
use Rattle.law_wiring.proofs.WrittenWaits.{waits_for_all}
use Rattle.law_wiring.proofs.WrittenStarting.{starts_rightly}

-- A CHAIN leads on from all that it joins, and from its joins
in_chain : (r : Region) (n : ℕ) (s : Side) (ts : List Side) (part : Part) (q : Port) (t : Side) → (s ≡ t) ⊎ In t ts
    → Used t (chain_wires r n s ts ++ wire (chain_end r n s ts) part q ∷ [])
in_chain r n s [] part q t (inl e) = used_here t s part q [] e
in_chain r n s [] part q t (inr h) = absurd h
in_chain r n s (u ∷ us) part q t (inl e) =
    used_here t s (Join r n) Left (wire u (Join r n) Right ∷ (chain_wires r (n + 1) (side (Join r n) false) us ++ wire (chain_end r n s (u ∷ us)) part q ∷ []))
    e
in_chain r n s (u ∷ us) part q t (inr (inl e)) =
    used_later t (wire s (Join r n) Left)
    (wire u (Join r n) Right ∷ (chain_wires r (n + 1) (side (Join r n) false) us ++ wire (chain_end r n s (u ∷ us)) part q ∷ []))
    (used_here t u (Join r n) Right (chain_wires r (n + 1) (side (Join r n) false) us ++ wire (chain_end r n s (u ∷ us)) part q ∷ []) e)
in_chain r n s (u ∷ us) part q t (inr (inr h)) =
    used_right t (wire s (Join r n) Left ∷ wire u (Join r n) Right ∷ [])
    (chain_wires r (n + 1) (side (Join r n) false) us ++ wire (chain_end r n s (u ∷ us)) part q ∷ [])
    (in_chain r (n + 1) (side (Join r n) false) us part q t (inr h))

joins_chain : (r : Region) (n : ℕ) (s : Side) (ts : List Side) (part : Part) (q : Port) (t : Side) → In t (sides (row (Join r) n (length ts)))
    → Used t (chain_wires r n s ts ++ wire (chain_end r n s ts) part q ∷ [])
joins_chain r n s [] part q t h = absurd h
joins_chain r n s (u ∷ us) part q t (inl e) =
    used_right t (wire s (Join r n) Left ∷ wire u (Join r n) Right ∷ [])
    (chain_wires r (n + 1) (side (Join r n) false) us ++ wire (chain_end r n s (u ∷ us)) part q ∷ [])
    (in_chain r (n + 1) (side (Join r n) false) us part q t (inl e))
joins_chain r n s (u ∷ us) part q t (inr h) =
    used_right t (wire s (Join r n) Left ∷ wire u (Join r n) Right ∷ [])
    (chain_wires r (n + 1) (side (Join r n) false) us ++ wire (chain_end r n s (u ∷ us)) part q ∷ [])
    (joins_chain r (n + 1) (side (Join r n) false) us part q t h)

-- all ends of a region
region_used : (r : Region) (ts : List Side) (part : Part) (q : Port) (t : Side) → In t ts ⊎ In t (sides (joined_parts r ts))
    → Used t (joined_wires r ts ++ signal_wires r ts part q)
region_used r [] part q t (inl h) = absurd h
region_used r [] part q t (inr h) = absurd h
region_used r (s ∷ ts) part q t (inl (inl e)) = in_chain r 0 s ts part q t (inl e)
region_used r (s ∷ ts) part q t (inl (inr h)) = in_chain r 0 s ts part q t (inr h)
region_used r (s ∷ ts) part q t (inr h) = joins_chain r 0 s ts part q t h

-- CLOSING a conditional, after which ends are left in such regions alone
module _ (b : Block ℕ) (P : Region → Type 0) (k : ℕ) (x : Ended) (own : P (lies_in b k)) where
  abbrev first : List Wire
  first = joined_wires (Arm k true) (arm_ends b k true x)

  abbrev second : List Wire
  second = joined_wires (Arm k false) (arm_ends b k false x)

  abbrev up : List Wire
  up = signal_wires (Arm k true) (arm_ends b k true x) (CondEnd k) Left

  abbrev down : List Wire
  down = signal_wires (Arm k false) (arm_ends b k false x) (CondEnd k) Left

  -- an end of an arm that is closed now, or a join of it
  in_plus : (t : Side) → In t (arm_ends b k true x) ⊎ In t (sides (joined_parts (Arm k true) (arm_ends b k true x)))
      → Used t (x.wires ++ (first ++ (second ++ (up ++ down))))
  in_plus t i =
      used_right t x.wires (first ++ (second ++ (up ++ down)))
      (used_between t first second (up ++ down) (assoc (used_left t (first ++ up) down (region_used (Arm k true) (arm_ends b k true x) (CondEnd k) Left t i))))
    where
      assoc : Used t ((first ++ up) ++ down) → Used t (first ++ (up ++ down))
      assoc h = subst (Used t) (append_assoc first up down) h

  in_minus : (t : Side) → In t (arm_ends b k false x) ⊎ In t (sides (joined_parts (Arm k false) (arm_ends b k false x)))
      → Used t (x.wires ++ (first ++ (second ++ (up ++ down))))
  in_minus t i =
      used_right t x.wires (first ++ (second ++ (up ++ down)))
      (used_right t first (second ++ (up ++ down)) (used_between t second up down (region_used (Arm k false) (arm_ends b k false x) (CondEnd k) Left t i)))

  arm_used : (t : Side) (u : Bool) → In t x.ends → region b t ≡ Arm k u → Used t (x.wires ++ (first ++ (second ++ (up ++ down))))
  arm_used t true i e = in_plus t (inl (region_in b t x.ends (Arm k true) i e))
  arm_used t false i e = in_minus t (inl (region_in b t x.ends (Arm k false) i e))

  -- the conditional's own end
  own_end : (t : Side) (us : List Side) → In t (sides (cond_parts k us)) → In t (cond_sides k us) × P (region b t)
  own_end t [] i = absurd i
  own_end t (u ∷ us) (inl e) = (inl e, subst (λ v. P (region b v)) e own)
  own_end t (u ∷ us) (inr i) = absurd i

  pub closes : ((t : Side) → In t (sides x.parts) → Used t x.wires ⊎ (In t x.ends × (P (region b t) ⊎ ((u : Bool) × (region b t ≡ Arm k u)))))
      → (t : Side) → In t (sides (close b k x).parts) → Used t (close b k x).wires ⊎ (In t (close b k x).ends × P (region b t))
  closes h t i =
      go (sides_cases t x.parts (joined_parts (Arm k true) (arm_ends b k true x)
      ++ (joined_parts (Arm k false) (arm_ends b k false x) ++ cond_parts k (arm_ends b k true x ++ arm_ends b k false x))) i)
    where
      Goal : Type 0
      Goal = Used t (close b k x).wires ⊎ (In t (close b k x).ends × P (region b t))

      old : Used t x.wires ⊎ (In t x.ends × (P (region b t) ⊎ ((u : Bool) × (region b t ≡ Arm k u)))) → Goal
      old (inl u) = inl (used_left t x.wires (first ++ (second ++ (up ++ down))) u)
      old (inr j) = by_region j.0 j.1
        where
          by_region : In t x.ends → P (region b t) ⊎ ((u : Bool) × (region b t ≡ Arm k u)) → Goal
          by_region j (inl p) = inr (in_left t x.ends (cond_sides k (arm_ends b k true x ++ arm_ends b k false x)) j, p)
          by_region j (inr e) = inl (arm_used t e.0 j e.1)

      last : In t (sides (joined_parts (Arm k false) (arm_ends b k false x))) ⊎ In t (sides (cond_parts k (arm_ends b k true x ++ arm_ends b k false x))) → Goal
      last (inl j) = inl (in_minus t (inr j))
      last (inr j) =
          let o = own_end t (arm_ends b k true x ++ arm_ends b k false x) j in
          inr (in_right t x.ends (cond_sides k (arm_ends b k true x ++ arm_ends b k false x)) o.0, o.1)

      newest : In t (sides (joined_parts (Arm k true) (arm_ends b k true x)))
          ⊎ In t (sides (joined_parts (Arm k false) (arm_ends b k false x) ++ cond_parts k (arm_ends b k true x ++ arm_ends b k false x))) → Goal
      newest (inl j) = inl (in_plus t (inr j))
      newest (inr j) = last (sides_cases t (joined_parts (Arm k false) (arm_ends b k false x)) (cond_parts k (arm_ends b k true x ++ arm_ends b k false x)) j)

      go : In t (sides x.parts) ⊎ In t (sides
          (joined_parts (Arm k true) (arm_ends b k true x)
          ++ (joined_parts (Arm k false) (arm_ends b k false x) ++ cond_parts k (arm_ends b k true x ++ arm_ends b k false x)))) → Goal
      go (inl j) = old (h t j)
      go (inr j) =
          newest (sides_cases t (joined_parts (Arm k true) (arm_ends b k true x))
          (joined_parts (Arm k false) (arm_ends b k false x) ++ cond_parts k (arm_ends b k true x ++ arm_ends b k false x)) j)

module _ (fl : Flow) (s : Site) (fit : IsFit fl s.block) where
  abbrev b : Block ℕ
  b = s.block

  -- A side is used, or an end of a region that is not closed so far.
  abbrev IsBefore : ℕ → Region → Type 0
  IsBefore n Root = ⊤
  IsBefore n (Arm k t) = (k < n) × (is_kind cond_kind b k ≡ true)

  abbrev AllWait : ℕ → Ended → Type 0
  AllWait n x = (t : Side) → In t (sides x.parts) → Used t x.wires ⊎ (In t x.ends × IsBefore n (region b t))

  abbrev count : ℕ
  count = b.inputs + length b.nodes

  lies_before : (n : ℕ) (r : Region) → lies_in b n ≡ r → IsBefore n r
  lies_before n Root e = tt
  lies_before n (Arm k t) e = arms_round fl b fit n k t e

  cond_closes : (n : ℕ) (x : Ended) → AllWait (n + 1) x → AllWait n (close b n x)
  cond_closes n x h = closes b (IsBefore n) n x (lies_before n (lies_in b n) refl) (λ t i. split t (h t i))
    where
      by_region : (r : Region) → IsBefore (n + 1) r → IsBefore n r ⊎ ((u : Bool) × (r ≡ Arm n u))
      by_region Root l = inl tt
      by_region (Arm j u) l = go (cases_lt j n)
        where
          go : (j < n) ⊎ (n ≤ j) → IsBefore n (Arm j u) ⊎ ((v : Bool) × (Arm j u ≡ Arm n v))
          go (inl m) = inl (m, l.1)
          go (inr m) = let low = l.0 in let same : j ≡ n = omega (arith, low, m) in inr (u, ap (λ i. Arm i u) same)

      split : (t : Side) → Used t x.wires ⊎ (In t x.ends × IsBefore (n + 1) (region b t))
          → Used t x.wires ⊎ (In t x.ends × (IsBefore n (region b t) ⊎ ((u : Bool) × (region b t ≡ Arm n u))))
      split t (inl u) = inl u
      split t (inr i) = inr (i.0, by_region (region b t) i.1)

  -- a region of no conditional between
  skips : (n : ℕ) (x : Ended) → is_kind cond_kind b n ≡ false → AllWait (n + 1) x → AllWait n x
  skips n x c h t i = go (h t i)
    where
      by_region : (r : Region) → IsBefore (n + 1) r → IsBefore n r
      by_region Root l = tt
      by_region (Arm j u) l =
          let is_cond = l.1 in
          let low = l.0 in
          let ne : j ≢ n = λ q. let z = ap (is_kind cond_kind b) q in absurd (cc) in
          (omega (arith, low, ne), is_cond)

      go : Used t x.wires ⊎ (In t x.ends × IsBefore (n + 1) (region b t)) → Used t x.wires ⊎ (In t x.ends × IsBefore n (region b t))
      go (inl u) = inl u
      go (inr k) = inr (k.0, by_region (region b t) k.1)

  nodes_close : (n : ℕ) (xs : List (Node ℕ)) (x : Ended) → Follow b n xs → AllWait (n + length xs) x → AllWait n (close_nodes b n xs x)
  nodes_close n [] x f h = let same : n + 0 ≡ n = omega arith in subst (λ k. AllWait k x) same h
  nodes_close n (y ∷ xs) x f h =
      let same : n + suc (length xs) ≡ (n + 1) + length xs = omega arith in
      go y.kind (kind_at b cond_kind n y (follow_here b n y xs f)) (nodes_close (n + 1) xs x (follow_more b n y xs f) (subst (λ k. AllWait k x) same h))
    where
      go : (k : Kind ℕ) → is_kind cond_kind b n ≡ cond_kind k → AllWait (n + 1) (close_nodes b (n + 1) xs x)
          → AllWait n (close_kind b n (close_nodes b (n + 1) xs x) k)
      go Cond e h = cond_closes n (close_nodes b (n + 1) xs x) h
      go (Lit z) e h = skips n (close_nodes b (n + 1) xs x) e h
      go (Apply1 op) e h = skips n (close_nodes b (n + 1) xs x) e h
      go (Apply2 op) e h = skips n (close_nodes b (n + 1) xs x) e h
      go Enter e h = skips n (close_nodes b (n + 1) xs x) e h
      go (Merge c) e h = skips n (close_nodes b (n + 1) xs x) e h
      go (Fetch a) e h = skips n (close_nodes b (n + 1) xs x) e h
      go (Store a) e h = skips n (close_nodes b (n + 1) xs x) e h
      go (Call g) e h = skips n (close_nodes b (n + 1) xs x) e h
      go (StrictCall g) e h = skips n (close_nodes b (n + 1) xs x) e h
      go (Loop g c) e h = skips n (close_nodes b (n + 1) xs x) e h

  -- THE START. All sides of the first parts lie in regions of the block.
  cond_before : (k : ℕ) → is_kind cond_kind b k ≡ true → k < count
  cond_before k h = let y = node_some b cond_kind k h in (node_within b k y.0 y.1).1

  region_before : (n : ℕ) (r : Region) → lies_in b n ≡ r → IsBefore count r
  region_before n Root e = tt
  region_before n (Arm k t) e = let a = arms_round fl b fit n k t e in (cond_before k a.1, a.1)

  arm_before : (n : ℕ) (r : Region) (u : Bool) → lies_in b n ≡ r → IsBefore count (arm_round r u)
  arm_before n Root u e = tt
  arm_before n (Arm k t) u e = region_before n (Arm k t) e

  -- or of the flag
  abbrev Lies : Side → Type 0
  Lies t = IsBefore count (region b t) ⊎ ((s.turns ≡ true) × ((u : Bool) × (region b t ≡ Arm (node_count b) u)))

  triggered_cond : (n : ℕ) → is_triggered b n ≡ true → is_kind cond_kind b n ≡ true
  triggered_cond n e = let x = some_node b n e in (arms_round fl b fit x.0 n x.1 x.2).1

  inner_lie : (t : Side) → In t (sides (inner_parts fl s)) → Lies t
  inner_lie t i =
      all_in Lies t (sides (inner_parts fl s))
      (inner_all fl s Lies (λ n r e. inl (subst (IsBefore count) (sym e) (region_before n (lies_in b n) refl)))
      (λ n u. inl (arm_before n (lies_in b n) (not u) refl))
      (λ n u e. let c = triggered_cond n e in inl (cond_before n c, c)) (λ r e. inl (subst (IsBefore count) (sym e) tt)) (λ turned t u e. inr (turned, (u, e))))
      i

  inner_wait : (t : Side) → In t (sides (inner_parts fl s)) → Used t (inner_wires s) ⊎ (In t (inner fl s).ends × Lies t)
  inner_wait t i = go (is_open t (inner_wires s)) refl
    where
      go : (o : Bool) → is_open t (inner_wires s) ≡ o → Used t (inner_wires s) ⊎ (In t (inner fl s).ends × Lies t)
      go true e = inr (open_in t (inner_wires s) (sides (inner_parts fl s)) i e, inner_lie t i)
      go false e = inl e

  flag_lies : lies_in b (node_count b) ≡ Root
  flag_lies = go (node_at b (node_count b)) refl
    where
      go : (o : Option (Node ℕ)) → node_at b (node_count b) ≡ o → arm_of o ≡ Root
      go None e = refl
      go (Some x) e = let w = (node_within b (node_count b) x e).1 in absurd (omega (arith, w))

  flag_wait : (t : Bool) → s.turns ≡ t → AllWait count (close_flag b t (inner fl s))
  flag_wait false e = λ t i. go t (inner_wait t i)
    where
      lies : (t : Side) → Lies t → IsBefore count (region b t)
      lies t (inl p) = p
      lies t (inr p) = let q = p.0 in absurd (cc)

      go : (t : Side) → Used t (inner_wires s) ⊎ (In t (inner fl s).ends × Lies t)
          → Used t (inner_wires s) ⊎ (In t (inner fl s).ends × IsBefore count (region b t))
      go t (inl u) = inl u
      go t (inr j) = inr (j.0, lies t j.1)
  flag_wait true e = closes b (IsBefore count) (node_count b) (inner fl s) (subst (IsBefore count) (sym flag_lies) tt) (λ t i. split t (inner_wait t i))
    where
      lies : (t : Side) → Lies t → IsBefore count (region b t) ⊎ ((u : Bool) × (region b t ≡ Arm (node_count b) u))
      lies t (inl p) = inl p
      lies t (inr p) = inr p.1

      split : (t : Side) → Used t (inner_wires s) ⊎ (In t (inner fl s).ends × Lies t)
          → Used t (inner_wires s) ⊎ (In t (inner fl s).ends × (IsBefore count (region b t) ⊎ ((u : Bool) × (region b t ≡ Arm (node_count b) u))))
      split t (inl u) = inl u
      split t (inr j) = inr (j.0, lies t j.1)

  all_closed : AllWait b.inputs (Written.closed fl s)
  all_closed = nodes_close b.inputs b.nodes (close_flag b s.turns (inner fl s)) (follow b) (flag_wait s.turns refl)

  -- THE WHOLE. Every side of every part leads on.
  all_used : (t : Side) → In t (sides (parts_in fl s)) → Used t (wires_in fl s)
  all_used t i = go (sides_cases t (Written.closed fl s).parts (joined_parts Root (root_ends fl s) ++ Parts.End ∷ []) i)
    where
      joins : List Wire
      joins = joined_wires Root (root_ends fl s)

      first : List Wire
      first = wire (side Parts.Entry false) Parts.End Left ∷ []

      signal : List Wire
      signal = signal_wires Root (root_ends fl s) Parts.End Right

      at_root : In t (root_ends fl s) ⊎ In t (sides (joined_parts Root (root_ends fl s))) → Used t (wires_in fl s)
      at_root k =
          used_right t (Written.closed fl s).wires (joins ++ (first ++ signal))
          (used_between t joins first signal (region_used Root (root_ends fl s) Parts.End Right t k))

      by_region : In t (Written.closed fl s).ends → (r : Region) → region b t ≡ r → IsBefore b.inputs r → Used t (wires_in fl s)
      by_region k Root e l = at_root (inl (region_in b t (Written.closed fl s).ends Root k e))
      by_region k (Arm j u) e l = let low = l.0 in let y = node_some b cond_kind j l.1 in let w = (node_within b j y.0 y.1).0 in absurd (omega (arith, low, w))

      old : Used t (Written.closed fl s).wires ⊎ (In t (Written.closed fl s).ends × IsBefore b.inputs (region b t)) → Used t (wires_in fl s)
      old (inl u) = used_left t (Written.closed fl s).wires (joins ++ (first ++ signal)) u
      old (inr k) = by_region k.0 (region b t) refl k.1

      last : In t (sides (joined_parts Root (root_ends fl s))) ⊎ In t (sides (Parts.End ∷ [])) → Used t (wires_in fl s)
      last (inl k) = at_root (inr k)
      last (inr k) = absurd k

      go : In t (sides (Written.closed fl s).parts) ⊎ In t (sides (joined_parts Root (root_ends fl s) ++ Parts.End ∷ [])) → Used t (wires_in fl s)
      go (inl k) = old (all_closed t k)
      go (inr k) = last (sides_cases t (joined_parts Root (root_ends fl s)) (Parts.End ∷ []) k)

  -- THE OPENER of a loop leads to its framer
  loop_wire : (n : ℕ) (x : Node ℕ) → loop_kind x.kind ≡ true → InW (wire (side (Opener n) false) (Framer n) Left) (kind_wires s n x.region x.kind x.sources)
  loop_wire n x h = go x.kind h
    where
      go : (k : Kind ℕ) → loop_kind k ≡ true → InW (wire (side (Opener n) false) (Framer n) Left) (kind_wires s n x.region k x.sources)
      go (Loop f c) h = inr (inl refl)
      go k h = absurd (cc)

  opener_wire : (n : ℕ) → is_loop b n ≡ true → InW (wire (side (Opener n) false) (Framer n) Left) (wires_in fl s)
  opener_wire n h = let y = node_some b loop_kind n h in node_in_block fl s (wire (side (Opener n) false) (Framer n) Left) n y.0 y.1 (loop_wire n y.0 y.2)

  module _ (well : TurnsWell s) (w : Wiring) (h : IsWritten fl s w) where
    some_count : (r : Part) → there_in fl s w r ≡ true → 0 < tally (same_part r) (parts_in fl s)
    some_count r k =
        let c = count_is (same_part r) (parts_in fl s) in
        let p = ltb-true 0 (count_by (same_part r) (parts_in fl s)) (sym (h.there r) ∙ k) in
        omega (arith, c, p)

    pub leads_on : LeadOn fl s w
    leads_on = record {
      leads = λ t there k n.
          let x = used_along b t (wires_in fl s) (all_used t (side_in t (parts_in fl s) (some_count t.part there) k n)) in
          (x.0, subst (λ xs. Contains xs x.0) (sym (h.wire t there)) x.1);
      forward = h.forward;
      last = h.last;
      opens =
          λ n l. subst (λ xs. Contains xs (inlet (Framer n) Left 0)) (sym (h.wire (side (Opener n) false) l))
          (contains_along b (wire (side (Opener n) false) (Framer n) Left) (wires_in fl s) (opener_wire n l));
      waits = waits_for_all fl s fit well w h;
      starts = starts_rightly fl s fit well w h;
      suits = λ t x there c.
          let v = along_all AreSuited b t (wires_in fl s) x (all_suit fl s fit well) (subst (λ xs. Contains xs x) (h.wire t there) c) in
          subst (λ (u : Side). Suits (arrives_at x.part x.port) (goes_from u.part)) (sym v.2)
          (subst (λ (y : Inlet). Suits (arrives_at y.part y.port) (goes_from v.0.from.part)) v.3 v.1);
    }

pub written_leads_on : WrittenLeadsOn
written_leads_on fl i b w there fit h = leads_on fl (plain_site b i) fit (plain_well b i) w h
