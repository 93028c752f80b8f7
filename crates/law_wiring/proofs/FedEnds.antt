-- As many of the wires that are written down lead to an inlet as there are parts with it: joins, ends, and all.
use Rattle.std.proofs.Common.{◌≡◌, ℕ, zero, suc, ◌+◌, inl, Bool, true, false, List, [], ◌∷◌, ◌++◌, length, refl, sym, ap, subst, arith, Some, None, Option}
use Rattle.std.proofs.lemmas.Bool.{lt-ltb}
use Rattle.tags.specs.declared.token.Port.{Port}
use Rattle.tags.specs.declared.token.Port.TheVariants.{Left, Right}
use Rattle.semantics.specs.declared.graph.Region.{Region}
use Rattle.semantics.specs.declared.graph.Region.TheVariants.{Root, Arm}
use Rattle.semantics.specs.declared.graph.Source.{Source}
use Rattle.semantics.specs.declared.graph.Kind.{Kind}
use Rattle.semantics.specs.declared.graph.Kind.TheVariants.{Lit, Apply1, Apply2, Cond, Enter, Merge, Fetch, Store, Call, StrictCall, Loop}
use Rattle.semantics.specs.Graph.{Node, Block, Flow, node_at, node_count}
use Rattle.semantics.specs.Meaning.{arm_of}
use Rattle.law_confluence.specs.OrdersTotals.{one}
use Rattle.law_net.specs.ContextsParts as Parts
use Rattle.law_net.specs.ContextsParts.{Part, Entry, Line, Result, TurnCont, TurnFlag, TurnValue, Asker, NextFramer, NextFanned, NextSender, LastReturn}
use Rattle.law_net.specs.ContextsParts.{DrainReturn, Join, CondEnd, same_part}
use Rattle.law_net.specs.ContextsBlocks.{Side, side, Site, leaves_in, lies_in, is_kind, cond_kind}
use Rattle.law_net.specs.ContextsExpanded.{row, way_in, turn_parts}
use Rattle.law_wiring.specs.Written as Written
use Rattle.law_wiring.specs.Written.{Wire, wire, leaves, meet_wires, node_wires, value_wires, next_wires, last_wires, turn_wires, tail_wires, inner_wires}
use Rattle.law_wiring.specs.Written.{node_parts, tail_parts, inner_parts, sides, first_ends, chain_wires, chain_end, joined_wires, joined_parts, signal_wires}
use Rattle.law_wiring.specs.Written.{cond_parts, cond_sides, Ended, arm_ends, close, close_kind, close_nodes, close_flag, inner, root_ends, parts_in, wires_in}
use Rattle.law_wiring.specs.WrittenFit.{IsFit}
use Rattle.law_wiring.proofs.PartsCounts.{tally, tally_both, Follow, follow_more, follow_here}
use Rattle.law_wiring.proofs.WrittenMembers.{In, in_left, sides_left, sides_right, open_in, region_in, region_from}
use Rattle.law_wiring.proofs.Parts.{follow, node_within}
use Rattle.law_wiring.proofs.WrittenNodes.{kind_at}
use Rattle.law_wiring.proofs.WrittenSides.{row_in}
use Rattle.law_wiring.proofs.WrittenBoth.{R, is_last, last_open}
use Rattle.law_wiring.proofs.WrittenBothArms.{IsGrown, both_arms, closes_it, nodes_grow, start_grown}
use Rattle.law_wiring.proofs.FedOnce.{test, IsWired, Feeds, feeds_both, double, unfed, row_unfed, two_arms, nodes_feed, results_feed}

-- the last of a chain is in its region
pub chain_region : (b : Block ℕ) (r : Region) (n : ℕ) (t : Side) (ts : List Side) → leaves_in b t.part t.second ≡ r
    → leaves_in b (chain_end r n t ts).part (chain_end r n t ts).second ≡ r
chain_region b r n t [] h = h
chain_region b r n t (u ∷ us) h = chain_region b r (n + 1) (side (Join r n) false) us refl

module _ (b : Block ℕ) (r : Part) (q : Port) (y : ℕ) (h : IsWired b y q r) where
  abbrev F : List Wire → List Part → Type 0
  F ws ps = Feeds b r q y h ws ps

  chain_feeds : (g : Region) (n : ℕ) (t : Side) (ts : List Side) → F (chain_wires g n t ts) (row (Join g) n (length ts))
  chain_feeds g n t [] = refl
  chain_feeds g n t (u ∷ us) =
      let a = double b r q y h (Join g n) t u (λ w. w) (λ w. w) in
      let c = chain_feeds g (n + 1) (side (Join g n) false) us in
      omega (arith, a, c)

  pub joined_feeds : (g : Region) (ts : List Side) → F (joined_wires g ts) (joined_parts g ts)
  joined_feeds g [] = refl
  joined_feeds g (t ∷ ts) = chain_feeds g 0 t ts

  -- the end of a conditional: one from each arm
  cond_feeds : (k : ℕ) (ts us : List Side) → ((t : Side) → In t ts → leaves_in b t.part t.second ≡ Arm k true)
      → ((u : Side) → In u us → leaves_in b u.part u.second ≡ Arm k false)
      → ((t : Side) → In t ts → (u : Side) × In u us) → ((u : Side) → In u us → (t : Side) × In t ts)
      → F (signal_wires (Arm k true) ts (CondEnd k) Left ++ signal_wires (Arm k false) us (CondEnd k) Left) (cond_parts k (ts ++ us))
  cond_feeds k [] [] l m up down = refl
  cond_feeds k (t ∷ ts) [] l m up down = absurd ((up t (inl refl)).1)
  cond_feeds k [] (u ∷ us) l m up down = absurd ((down u (inl refl)).1)
  cond_feeds k (t ∷ ts) (u ∷ us) l m up down =
      two_arms b r q y h (CondEnd k) (chain_end (Arm k true) 0 t ts) (chain_end (Arm k false) 0 u us) refl (λ w. w)
      (ap (way_in (CondEnd k)) (chain_region b (Arm k true) 0 t ts (l t (inl refl))))
      (ap (way_in (CondEnd k)) (chain_region b (Arm k false) 0 u us (m u (inl refl))))

  pub close_feeds : (k : ℕ) (x : Ended) → ((u v : Bool) → (t : Side) × In t (arm_ends b k u x) → (t : Side) × In t (arm_ends b k v x)) → F x.wires x.parts
      → F (close b k x).wires (close b k x).parts
  close_feeds k x both f =
      let ts = arm_ends b k true x in
      let us = arm_ends b k false x in
      let first = joined_wires (Arm k true) ts in
      let second = joined_wires (Arm k false) us in
      let last = signal_wires (Arm k true) ts (CondEnd k) Left ++ signal_wires (Arm k false) us (CondEnd k) Left in
      let one_parts = joined_parts (Arm k true) ts in
      let two_parts = joined_parts (Arm k false) us in
      let last_parts = cond_parts k (ts ++ us) in
      let conds = cond_feeds k ts us (λ t i. (region_from b t (Arm k true) x.ends i).1) (λ t i. (region_from b t (Arm k false) x.ends i).1)
      (λ t i. both true false (t, i)) (λ t i. both false true (t, i)) in
      feeds_both b r q y h x.wires (first ++ (second ++ last)) x.parts (one_parts ++ (two_parts ++ last_parts)) f
      (feeds_both b r q y h first (second ++ last) one_parts (two_parts ++ last_parts) (joined_feeds (Arm k true) ts)
      (feeds_both b r q y h second last two_parts last_parts (joined_feeds (Arm k false) us) conds))

  -- the release
  end_feeds : (ts : List Side) (t : Side) → In t ts → F (wire (side Entry false) Parts.End Left ∷ signal_wires Root ts Parts.End Right) (Parts.End ∷ [])
  end_feeds [] t i = absurd i
  end_feeds (u ∷ us) t i = let a = double b r q y h Parts.End (side Entry false) (chain_end Root 0 u us) (λ w. w) (λ w. w) in omega (arith, a)

  -- THE TURN of a loop
  values_feed : (s : Site) (t : Side) (from : ℕ) (xs : List Source) → F (value_wires s t from xs) (row TurnValue from (length xs))
  values_feed s t from [] = refl
  values_feed s t from (x ∷ xs) =
      let a = double b r q y h (TurnValue from) (leaves s x) t (λ w. w) (λ w. w) in
      let c = values_feed s t (from + 1) xs in
      omega (arith, a, c)

  nexts_feed : (from n : ℕ) → F (next_wires from n) (row NextSender from n)
  nexts_feed from zero = refl
  nexts_feed from (suc n) =
      let a = double b r q y h (NextSender from) (side NextFanned false) (side (TurnValue from) false) (λ w. w) (λ w. w) in
      let c = nexts_feed (from + 1) n in
      omega (arith, a, c)

  lasts_feed : (from n : ℕ) → F (last_wires from n) (row LastReturn from n)
  lasts_feed from zero = refl
  lasts_feed from (suc n) =
      let a = double b r q y h (LastReturn from) (side TurnCont true) (side (TurnValue (from + 1)) true) (λ w. w) (λ w. w) in
      let c = lasts_feed (from + 1) n in
      omega (arith, a, c)

  turn_feeds : (s : Site) (x : Source) (xs : List Source) → F (turn_wires s (x ∷ xs)) (turn_parts (length xs))
  turn_feeds s x xs =
      let n = length xs in
      let p = test_of in
      let values = value_wires s (leaves s x) 1 xs in
      let nexts = next_wires 1 n in
      let lasts = last_wires 0 n in
      let drain = meet_wires (side TurnCont true) (side TurnFlag true) DrainReturn in
      let ask = meet_wires (side TurnCont false) (side TurnFlag false) Asker in
      let first = meet_wires (side NextFanned false) (side TurnCont false) (NextSender 0) in
      let a = double b r q y h TurnCont (side Entry false) (leaves s x) (λ w. w) (λ w. w) in
      let c = double b r q y h TurnFlag (leaves s x) (leaves s x) (λ w. w) (λ w. w) in
      let d = values_feed s (leaves s x) 1 xs in
      let e = double b r q y h Asker (side TurnCont false) (side TurnFlag false) (λ w. w) (λ w. w) in
      let f = double b r q y h (NextSender 0) (side NextFanned false) (side TurnCont false) (λ w. w) (λ w. w) in
      let g = nexts_feed 1 n in
      let i = lasts_feed 0 n in
      let j = double b r q y h DrainReturn (side TurnCont true) (side TurnFlag true) (λ w. w) (λ w. w) in
      let k = unfed b r q y h NextFramer refl in
      let l = unfed b r q y h NextFanned refl in
      let v1 = tally_both p values (ask ++ (first ++ (nexts ++ (lasts ++ drain)))) in
      let v2 = tally_both p nexts (lasts ++ drain) in
      let v3 = tally_both p lasts drain in
      let q1 = tally_both (same_part r) (row TurnValue 1 n)
      (Asker ∷ NextFramer ∷ NextFanned ∷ row NextSender 0 (n + 1) ++ (row LastReturn 0 n ++ DrainReturn ∷ [])) in
      let q2 = tally_both (same_part r) (row NextSender 0 (n + 1)) (row LastReturn 0 n ++ DrainReturn ∷ []) in
      let q3 = tally_both (same_part r) (row LastReturn 0 n) (DrainReturn ∷ []) in
      let more : n + 1 ≡ suc n = omega arith in
      let q4 : tally (same_part r) (row NextSender 0 (n + 1)) ≡ one (same_part r (NextSender 0)) + tally (same_part r) (row NextSender 1 n) =
      ap (λ m. tally (same_part r) (row NextSender 0 m)) more in
      omega (arith, a, c, d, e, f, g, i, j, k, l, v1, v2, v3, q1, q2, q3, q4)
    where
      test_of : Wire → Bool
      test_of = test b r q y

-- ENDS STAY
kind_stays : (b : Block ℕ) (t : Side) (n : ℕ) (x : Ended) (k : Kind ℕ) → In t x.ends → In t (close_kind b n x k).ends
kind_stays b t n x Cond h = in_left t x.ends (cond_sides n (arm_ends b n true x ++ arm_ends b n false x)) h
kind_stays b t n x (Lit z) h = h
kind_stays b t n x (Apply1 op) h = h
kind_stays b t n x (Apply2 op) h = h
kind_stays b t n x Enter h = h
kind_stays b t n x (Merge c) h = h
kind_stays b t n x (Fetch a) h = h
kind_stays b t n x (Store a) h = h
kind_stays b t n x (Call f) h = h
kind_stays b t n x (StrictCall f) h = h
kind_stays b t n x (Loop f c) h = h

nodes_stay : (b : Block ℕ) (t : Side) (n : ℕ) (xs : List (Node ℕ)) (x : Ended) → In t x.ends → In t (close_nodes b n xs x).ends
nodes_stay b t n [] x h = h
nodes_stay b t n (y ∷ xs) x h = kind_stays b t n (close_nodes b (n + 1) xs x) y.kind (nodes_stay b t (n + 1) xs x h)

-- the code of a turn is that of a block with an output for each input, and the flag
abbrev pub TurnsWell : Site → Type 0
TurnsWell s = s.turns ≡ true → length s.block.results ≡ suc s.block.inputs

module _ (fl : Flow) (s : Site) (fit : IsFit fl s.block) (well : TurnsWell s) where
  -- a first end of each arm of the flag
  in_tail : (t : Side) → In t (sides (tail_parts s.block s.turns)) → In t (sides (inner_parts fl s))
  in_tail t i = sides_right t (Entry ∷ row Line 0 s.block.inputs ++ node_parts fl s s.block.inputs s.block.nodes) (tail_parts s.block s.turns) i

  turn_in : (t : Side) → s.turns ≡ true → In t (sides (turn_parts s.block.inputs)) → In t (sides (inner_parts fl s))
  turn_in t e i = in_tail t (subst (λ u. In t (sides (tail_parts s.block u))) (sym e) i)

  drain_in : (n : ℕ) → In (side DrainReturn false) (sides (turn_parts n))
  drain_in n =
      sides_right (side DrainReturn false) (TurnCont ∷ TurnFlag ∷ row TurnValue 1 n)
      (Asker ∷ NextFramer ∷ NextFanned ∷ row NextSender 0 (n + 1) ++ (row LastReturn 0 n ++ DrainReturn ∷ []))
      (sides_right (side DrainReturn false) (Asker ∷ NextFramer ∷ NextFanned ∷ row NextSender 0 (n + 1)) (row LastReturn 0 n ++ DrainReturn ∷ [])
      (sides_right (side DrainReturn false) (row LastReturn 0 n) (DrainReturn ∷ []) (inl refl)))

  next_in : (n : ℕ) → In (side (NextSender 0) false) (sides (turn_parts n))
  next_in n =
      sides_right (side (NextSender 0) false) (TurnCont ∷ TurnFlag ∷ row TurnValue 1 n)
      (Asker ∷ NextFramer ∷ NextFanned ∷ row NextSender 0 (n + 1) ++ (row LastReturn 0 n ++ DrainReturn ∷ []))
      (sides_right (side (NextSender 0) false) (Asker ∷ NextFramer ∷ NextFanned ∷ []) (row NextSender 0 (n + 1) ++ (row LastReturn 0 n ++ DrainReturn ∷ []))
      (sides_left_of (row_in NextSender false 0 (n + 1) 0 (λ i. inl refl) (omega arith) (omega arith))))
    where
      sides_left_of : In (side (NextSender 0) false) (sides (row NextSender 0 (n + 1)))
          → In (side (NextSender 0) false) (sides (row NextSender 0 (n + 1) ++ (row LastReturn 0 n ++ DrainReturn ∷ [])))
      sides_left_of i = sides_left (side (NextSender 0) false) (row NextSender 0 (n + 1)) (row LastReturn 0 n ++ DrainReturn ∷ []) i

  first_end : (t : Side) → In t (sides (inner_parts fl s)) → is_last t.part ≡ true → In t (first_ends fl s)
  first_end t i l = open_in t (inner_wires s) (sides (inner_parts fl s)) i (last_open fl s fit t l)

  flag_arms : s.turns ≡ true → (u : Bool) → (t : Side) × In t (arm_ends s.block (node_count s.block) u (inner fl s))
  flag_arms e true = (
    side (NextSender 0) false,
    region_in s.block (side (NextSender 0) false) (first_ends fl s) (Arm (node_count s.block) true)
        (first_end (side (NextSender 0) false) (turn_in (side (NextSender 0) false) e (next_in s.block.inputs)) refl) refl,
  )
  flag_arms e false = (
    side DrainReturn false,
    region_in s.block (side DrainReturn false) (first_ends fl s) (Arm (node_count s.block) false)
        (first_end (side DrainReturn false) (turn_in (side DrainReturn false) e (drain_in s.block.inputs)) refl) refl,
  )

  -- AN END IN THE ROOT: the first result, or the end of the flag
  flag_lies : lies_in s.block (node_count s.block) ≡ Root
  flag_lies = go (node_at s.block (node_count s.block)) refl
    where
      go : (o : Option (Node ℕ)) → node_at s.block (node_count s.block) ≡ o → arm_of o ≡ Root
      go None e = refl
      go (Some x) e = let w = (node_within s.block (node_count s.block) x e).1 in absurd (omega (arith, w))

  pub root_end : (t : Side) × In t (root_ends fl s)
  root_end = go s.turns refl
    where
      stays : (t : Side) → In t (close_flag s.block s.turns (inner fl s)).ends → R fl s fit t ≡ Root → In t (root_ends fl s)
      stays t i e =
          region_in s.block t (Written.closed fl s).ends Root (nodes_stay s.block t s.block.inputs s.block.nodes (close_flag s.block s.turns (inner fl s)) i) e

      go : (t : Bool) → s.turns ≡ t → (t : Side) × In t (root_ends fl s)
      go false e =
          let some = fit.some_output in
          let outputs = fit.result_count in
          let there : In (side (Result 0) false) (sides (tail_parts s.block s.turns)) =
          subst (λ u. In (side (Result 0) false) (sides (tail_parts s.block u))) (sym e)
          (row_in Result false 0 (length s.block.results) 0 (λ i. inl refl) (omega arith) (omega (arith, some, outputs))) in (
            side (Result 0) false,
            stays (side (Result 0) false) (subst (λ u. In (side (Result 0) false) (close_flag s.block u (inner fl s)).ends) (sym e)
                (first_end (side (Result 0) false) (in_tail (side (Result 0) false) there) refl)) refl,
          )
      go true e =
          let t = flag_arms e true in
          let k : ℕ = node_count s.block in
          let i = region_from s.block t.0 (Arm k true) (first_ends fl s) t.1 in (
            side (CondEnd k) false,
            stays (side (CondEnd k) false) (subst (λ u. In (side (CondEnd k) false) (close_flag s.block u (inner fl s)).ends) (sym e)
                (closes_it fl s fit t.0 k true (inner fl s) i.0 i.1)) flag_lies,
          )

  module _ (r : Part) (q : Port) (y : ℕ) (h : IsWired s.block y q r) where
    abbrev G : List Wire → List Part → Type 0
    G ws ps = Feeds s.block r q y h ws ps

    tails_feed : (t : Bool) → s.turns ≡ t → G (tail_wires s t) (tail_parts s.block t)
    tails_feed false e = results_feed fl s fit r q y h 0 s.block.results
    tails_feed true e = go s.block.results (well e)
      where
        go : (xs : List Source) → length xs ≡ suc s.block.inputs → G (turn_wires s xs) (turn_parts s.block.inputs)
        go [] l = absurd (omega (arith, l))
        go (x ∷ xs) l =
            let same : length xs ≡ s.block.inputs = omega (arith, l) in
            subst (λ n. G (turn_wires s (x ∷ xs)) (turn_parts n)) same (turn_feeds s.block r q y h s x xs)

    inner_feeds : G (inner_wires s) (inner_parts fl s)
    inner_feeds =
        let entry = unfed s.block r q y h Entry refl in
        let lines = row_unfed s.block r q y h Line 0 s.block.inputs (λ j l m. lt-ltb j s.block.inputs (omega (arith, m))) in
        let nodes = nodes_feed fl s fit r q y h s.block.inputs s.block.nodes (follow s.block) in
        let both = tally_both (same_part r) (row Line 0 s.block.inputs) (node_parts fl s s.block.inputs s.block.nodes) in
        feeds_both s.block r q y h (node_wires s s.block.inputs s.block.nodes) (tail_wires s s.turns)
        (Entry ∷ row Line 0 s.block.inputs ++ node_parts fl s s.block.inputs s.block.nodes) (tail_parts s.block s.turns)
        (omega (arith, entry, lines, nodes, both)) (tails_feed s.turns refl)

    flag_feeds : (t : Bool) → s.turns ≡ t → G (close_flag s.block t (inner fl s)).wires (close_flag s.block t (inner fl s)).parts
    flag_feeds false e = inner_feeds
    flag_feeds true e = close_feeds s.block r q y h (node_count s.block) (inner fl s) (λ u v i. flag_arms e v) inner_feeds

    kind_closes : (n : ℕ) (x : Ended) (k : Kind ℕ) → is_kind cond_kind s.block n ≡ cond_kind k → IsGrown fl s fit (n + 1) x → G x.wires x.parts
        → G (close_kind s.block n x k).wires (close_kind s.block n x k).parts
    kind_closes n x Cond e g f = close_feeds s.block r q y h n x both f
      where
        both : (u v : Bool) → (t : Side) × In t (arm_ends s.block n u x) → (t : Side) × In t (arm_ends s.block n v x)
        both u v i =
            let j = region_from s.block i.0 (Arm n u) x.ends i.1 in
            let o = both_arms fl s fit n x g e u v (i.0, j.0, j.1) in
            (o.0, region_in s.block o.0 x.ends (Arm n v) o.1 o.2)
    kind_closes n x (Lit z) e g f = f
    kind_closes n x (Apply1 op) e g f = f
    kind_closes n x (Apply2 op) e g f = f
    kind_closes n x Enter e g f = f
    kind_closes n x (Merge c) e g f = f
    kind_closes n x (Fetch a) e g f = f
    kind_closes n x (Store a) e g f = f
    kind_closes n x (Call p) e g f = f
    kind_closes n x (StrictCall p) e g f = f
    kind_closes n x (Loop p c) e g f = f

    nodes_close : (n : ℕ) (xs : List (Node ℕ)) (x : Ended) → Follow s.block n xs → IsGrown fl s fit (n + length xs) x → G x.wires x.parts
        → G (close_nodes s.block n xs x).wires (close_nodes s.block n xs x).parts
    nodes_close n [] x f g e = e
    nodes_close n (z ∷ xs) x f g e =
        let same : n + suc (length xs) ≡ (n + 1) + length xs = omega arith in
        let its = subst (λ k. IsGrown fl s fit k x) same g in
        kind_closes n (close_nodes s.block (n + 1) xs x) z.kind (kind_at s.block cond_kind n z (follow_here s.block n z xs f))
        (nodes_grow fl s fit (n + 1) xs x (follow_more s.block n z xs f) its) (nodes_close (n + 1) xs x (follow_more s.block n z xs f) its e)

    -- ALL: as many wires as parts
    pub all_feed : G (wires_in fl s) (parts_in fl s)
    all_feed =
        let closed = nodes_close s.block.inputs s.block.nodes (close_flag s.block s.turns (inner fl s)) (follow s.block) (start_grown fl s fit s.turns)
        (flag_feeds s.turns refl) in
        let t = root_end in
        feeds_both s.block r q y h (Written.closed fl s).wires
        (joined_wires Root (root_ends fl s) ++ (wire (side Entry false) Parts.End Left ∷ signal_wires Root (root_ends fl s) Parts.End Right))
        (Written.closed fl s).parts (joined_parts Root (root_ends fl s) ++ Parts.End ∷ []) closed
        (feeds_both s.block r q y h (joined_wires Root (root_ends fl s))
        (wire (side Entry false) Parts.End Left ∷ signal_wires Root (root_ends fl s) Parts.End Right) (joined_parts Root (root_ends fl s)) (Parts.End ∷ [])
        (joined_feeds s.block r q y h Root (root_ends fl s)) (end_feeds s.block r q y h (root_ends fl s) t.0 t.1))
