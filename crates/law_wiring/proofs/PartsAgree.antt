-- The parts that are written down are those of the wiring that is read off the code.
use Rattle.std.proofs.Common.{◌≡◌, ℕ, suc, ◌+◌, ◌-◌, ◌<◌, Bool, true, false, List, [], ◌∷◌, ◌++◌, map, length, refl, sym, ap, ◌∙◌, arith, append-nil}
use Rattle.std.proofs.Common.{append_assoc, if◌then◌else◌, nat_lt}
use Rattle.std.specs.Prelude.{slice_get}
use Rattle.std.proofs.lemmas.Bool.{lt-ltb}
use Rattle.semantics.specs.declared.graph.Region.{Region}
use Rattle.semantics.specs.declared.graph.Region.TheVariants.{Root, Arm}
use Rattle.semantics.specs.declared.graph.Kind.{Kind}
use Rattle.semantics.specs.declared.graph.Kind.TheVariants.{Lit, Apply1, Apply2, Cond, Enter, Merge, Fetch, Store, Call, StrictCall, Loop}
use Rattle.semantics.specs.Graph.{Node, Block, Flow, node_count}
use Rattle.semantics.specs.Meaning.{arm_of}
use Rattle.law_confluence.specs.OrdersTotals.{one}
use Rattle.schemas.specs.Ends.{same_region, ends_of}
use Rattle.law_net.specs.ContextsParts as Parts
use Rattle.law_net.specs.ContextsParts.{Part, Entry, Line, Join, CondEnd, same_part}
use Rattle.law_net.specs.ContextsBlocks.{Side, Site, leaves_in}
use Rattle.law_net.specs.ContextsExpanded as Expanded
use Rattle.law_net.specs.ContextsExpanded.{row, body_parts, first_ending, Ending, ending, end_node, end_parts, join_parts, ends_in, has_end, closing_parts}
use Rattle.law_net.specs.ContextsExpanded.{regions_of, regions_by, place_from}
use Rattle.law_net.proofs.ContextsSames.{same_part-true}
use Rattle.law_wiring.specs.WrittenTypes.{End}
use Rattle.law_wiring.specs.Written as Written
use Rattle.law_wiring.specs.Written.{is_shared, is_triggered, tail_parts, close_flag, answer_parts, trigger_parts, kind_parts, node_parts, inner_parts}
use Rattle.law_wiring.specs.Written.{in_region, joined_parts, cond_parts, cond_sides, Ended, arm_ends, close, close_kind, close_nodes, inner, first_ends}
use Rattle.law_wiring.specs.Written.{root_ends, parts_in}
use Rattle.law_wiring.specs.WrittenFit.{IsFit}
use Rattle.law_wiring.proofs.Laid.{Env}
use Rattle.law_wiring.proofs.PartsStanding.{Stand, stand_left}
use Rattle.law_wiring.proofs.LaidNodes.{env, scope}
use Rattle.law_wiring.proofs.LaidBody.{outputs_same}
use Rattle.law_wiring.proofs.LaidEnds.{AreEnds}
use Rattle.law_wiring.proofs.LaidWhole.{begun_of, flag_region, first_ends_laid, closed_stands}
use Rattle.law_wiring.proofs.LaidUsual.{HasTurns}
use Rattle.law_wiring.proofs.PartsCounts.{tally, count_is, Follow, follow_more, follow_here}
use Rattle.law_wiring.proofs.Parts.{follow}

module _ (fl : Flow) (S : Site) (fit : IsFit fl S.block) (turned : HasTurns S) where
  abbrev b : Block ℕ
  b = S.block

  -- NODES
  shared_agree : (n : ℕ) (t : Bool) → (if t then Parts.Line n ∷ Parts.Answer n ∷ [] else Parts.Line n ∷ []) ≡ Parts.Line n ∷ answer_parts n t
  shared_agree n true = refl
  shared_agree n false = refl

  triggers_agree : (n : ℕ) (t : Bool) → (if t then Parts.Trigger n ∷ [] else []) ≡ trigger_parts n t
  triggers_agree n true = refl
  triggers_agree n false = refl

  kinds_agree : (n m : ℕ) (k : Kind ℕ) → Expanded.kind_parts (scope fl S) n m k ≡ kind_parts fl S n m k
  kinds_agree n m Cond = triggers_agree n (is_triggered b n)
  kinds_agree n m Enter = refl
  kinds_agree n m (Merge c) = refl
  kinds_agree n m (Lit z) = refl
  kinds_agree n m (Apply1 op) = refl
  kinds_agree n m (Apply2 op) = refl
  kinds_agree n m (Fetch a) = shared_agree n (is_shared S n)
  kinds_agree n m (Store a) = shared_agree n (is_shared S n)
  kinds_agree n m (Call f) = ap (λ q. Expanded.invoked n m q ++ Parts.CallDone n ∷ []) (outputs_same (slice_get fl.blocks f))
  kinds_agree n m (StrictCall f) =
      ap (λ q. row (Parts.Strict n) 1 (m - 1) ++ (Expanded.invoked n m q ++ Parts.CallDone n ∷ [])) (outputs_same (slice_get fl.blocks f))
  kinds_agree n m (Loop f c) = refl

  nodes_agree : (n : ℕ) (xs : List (Node ℕ)) → Expanded.node_parts (scope fl S) n xs ≡ node_parts fl S n xs
  nodes_agree n [] = refl
  nodes_agree n (x ∷ xs) =
      let here = kinds_agree n (length x.sources) x.kind in
      let rest = nodes_agree (n + 1) xs in
      (λ i. here i ++ rest i)

  -- ENDS
  abbrev region : Side → Region
  region t = leaves_in b t.part t.second

  ends_count : (r : Region) (ts : List Side) → ends_in r (map region ts) ≡ length (in_region b r ts)
  ends_count r ts = count_is (λ (q : Region). same_region q r) (map region ts) ∙ tallied ts
    where
      tallied : (ts : List Side) → tally (λ (q : Region). same_region q r) (map region ts) ≡ length (in_region b r ts)
      tallied [] = refl
      tallied (t ∷ ts) = go (same_region (region t) r) (tallied ts)
        where
          go : (x : Bool) → tally (λ (q : Region). same_region q r) (map region ts) ≡ length (in_region b r ts)
              → one x + tally (λ (q : Region). same_region q r) (map region ts) ≡ length (if x then t ∷ in_region b r ts else in_region b r ts)
          go true h = omega (arith, h)
          go false h = omega (arith, h)

  joins_agree : (r : Region) (ts : List Side) → join_parts r (map region ts) ≡ joined_parts r (in_region b r ts)
  joins_agree r ts = ap (λ n. row (Join r) 0 (n - 1)) (ends_count r ts) ∙ go (in_region b r ts)
    where
      go : (us : List Side) → row (Join r) 0 (length us - 1) ≡ joined_parts r us
      go [] = refl
      go (u ∷ us) = let same : suc (length us) - 1 ≡ length us = omega arith in ap (row (Join r) 0) same

  some_end : (k : ℕ) (ts : List Side) → has_end k (map region ts) ≡ nat_lt 0 (length (in_region b (Arm k true) ts) + length (in_region b (Arm k false) ts))
  some_end k ts = let x = ends_count (Arm k true) ts in let y = ends_count (Arm k false) ts in (λ i. nat_lt 0 (x i + y i))

  both_sizes : {X : Type 0} {A : Type 0} (us vs : List X) (none some : A) (f : List X → A) → f [] ≡ none → ((x : X) (xs : List X) → f (x ∷ xs) ≡ some)
      → (if nat_lt 0 (length us + length vs) then some else none) ≡ f (us ++ vs)
  both_sizes [] [] none some f p q = sym p
  both_sizes [] (v ∷ vs) none some f p q =
      let t : nat_lt 0 (0 + suc (length vs)) ≡ true = positive (0 + suc (length vs)) (omega arith) in ap (λ x. if x then some else none) t ∙ sym (q v vs)
    where
      positive : (n : ℕ) → 0 < n → nat_lt 0 n ≡ true
      positive n h = lt-ltb 0 n h
  both_sizes (u ∷ us) vs none some f p q =
      let t : nat_lt 0 (suc (length us) + length vs) ≡ true = lt-ltb 0 (suc (length us) + length vs) (omega arith) in
      ap (λ x. if x then some else none) t ∙ sym (q u (us ++ vs))

  conds_agree : (k : ℕ) (ts : List Side)
      → (if has_end k (map region ts) then CondEnd k ∷ [] else []) ≡ cond_parts k (in_region b (Arm k true) ts ++ in_region b (Arm k false) ts)
  conds_agree k ts =
      ap (λ x. if x then CondEnd k ∷ [] else []) (some_end k ts)
      ∙ both_sizes (in_region b (Arm k true) ts) (in_region b (Arm k false) ts) [] (CondEnd k ∷ []) (cond_parts k) refl (λ x xs. refl)

  map_both : (ts us : List Side) → map region (ts ++ us) ≡ map region ts ++ map region us
  map_both [] us = refl
  map_both (t ∷ ts) us = ap (λ rs. region t ∷ rs) (map_both ts us)

  sides_agree : (k : ℕ) (r : Region) (ts : List Side) → r ≡ leaves_in b (CondEnd k) false
      → Expanded.ended k r (map region ts) ≡ map region (ts ++ cond_sides k (in_region b (Arm k true) ts ++ in_region b (Arm k false) ts))
  sides_agree k r ts e =
      ap (λ x. if x then map region ts ++ r ∷ [] else map region ts) (some_end k ts)
      ∙ both_sizes (in_region b (Arm k true) ts) (in_region b (Arm k false) ts) (map region ts) (map region ts ++ r ∷ [])
      (λ us. map region (ts ++ cond_sides k us))
      (ap (map region) (append-nil ts)) (λ x xs. map_both ts (Blocks_side k ∷ []) ∙ ap (λ q. map region ts ++ q ∷ []) (sym e))
    where
      Blocks_side : ℕ → Side
      Blocks_side k = record { part = CondEnd k; second = false }

  -- the parts of the ends so far, after what was before
  record Matches (x : Ended) (q : Ending) (y : Ended) : Type 0 where
    parts : x.parts ++ q.parts ≡ y.parts
    regions : q.regions ≡ map region y.ends

  kind_matches : (n : ℕ) (x y : Ended) (q : Ending) (r : Region) (k : Kind ℕ) → r ≡ leaves_in b (CondEnd n) false → Matches x q y
      → Matches x (end_node n r q k) (close_kind b n y k)
  kind_matches n x y q r Cond e h = record {
    parts = sym (append_assoc x.parts q.parts (end_parts n q.regions)) ∙ (λ i. h.parts i ++ ends i);
    regions = ap (Expanded.ended n r) h.regions ∙ sides_agree n r y.ends e;
  }
    where
      ends : end_parts n q.regions ≡ joined_parts (Arm n true) (arm_ends b n true y)
          ++ (joined_parts (Arm n false) (arm_ends b n false y) ++ cond_parts n (arm_ends b n true y ++ arm_ends b n false y))
      ends = ap (end_parts n) h.regions ∙ (λ i. joins_agree (Arm n true) y.ends i ++ (joins_agree (Arm n false) y.ends i ++ conds_agree n y.ends i))
  kind_matches n x y q r Enter e h = h
  kind_matches n x y q r (Merge c) e h = h
  kind_matches n x y q r (Lit z) e h = h
  kind_matches n x y q r (Apply1 op) e h = h
  kind_matches n x y q r (Apply2 op) e h = h
  kind_matches n x y q r (Fetch a) e h = h
  kind_matches n x y q r (Store a) e h = h
  kind_matches n x y q r (Call f) e h = h
  kind_matches n x y q r (StrictCall f) e h = h
  kind_matches n x y q r (Loop f c) e h = h

  nodes_match : (n : ℕ) (xs : List (Node ℕ)) (x y : Ended) (q : Ending) → Follow b n xs → Matches x q y → Matches x (ending n xs q) (close_nodes b n xs y)
  nodes_match n [] x y q f h = h
  nodes_match n (z ∷ xs) x y q f h =
      kind_matches n x (close_nodes b (n + 1) xs y) (ending (n + 1) xs q) z.region z.kind (sym (ap arm_of (follow_here b n z xs f)))
      (nodes_match (n + 1) xs x y q (follow_more b n z xs f) h)

  ends_regions : (e : Env) (rs : List Part) (es : List End) (ts : List Side) → AreEnds e rs es ts
      → regions_by es (λ x. x.region) ≡ map (λ (t : Side). leaves_in e.site.block t.part t.second) ts
  ends_regions e rs [] [] h = refl
  ends_regions e rs [] (t ∷ ts) h = absurd h
  ends_regions e rs (x ∷ es) [] h = absurd h
  ends_regions e rs (x ∷ es) (t ∷ ts) h = let a = h.0 in let r = ends_regions e rs es ts h.2 in (λ i. a i ∷ r i)

  -- ALL PARTS
  abbrev pub place : Part → ℕ
  place r = place_from r 0 (parts_in fl S)

  pub apart : (r q : Part) → same_part r q ≡ true → place r ≡ place q
  apart r q h = ap place (same_part-true r q h)

  abbrev first_ending_of : Bool → List Region → Ending
  first_ending_of false rs = record { parts = []; regions = rs }
  first_ending_of true rs = first_ending (node_count b) rs

  -- the parts that the wiring reads
  abbrev pub read_parts : Bool → List Part
  read_parts t = body_parts (scope fl S) ++ (tail_parts b t ++ closing_parts (ending b.inputs b.nodes (first_ending_of t (regions_of (begun_of fl S t)))))

  pub parts_agree : Stand place 0 (parts_in fl S) → read_parts S.turns ≡ parts_in fl S
  parts_agree at =
      let all = stand_left place 0 (Written.closed fl S).parts (joined_parts Root (root_ends fl S) ++ Parts.End ∷ []) at in
      let inside = closed_stands fl S place apart fit turned (inner fl S) all in
      let firsts = first_ends_laid fl S place apart fit turned inside in
      let rs : List Region = regions_of (begun_of fl S S.turns) in
      let regions : rs ≡ map region (first_ends fl S) =
      ends_regions (env fl S place apart) (inner_parts fl S) (ends_of (begun_of fl S S.turns)) (first_ends fl S) firsts in
      let start : Matches (inner fl S) (record { parts = []; regions = rs }) (inner fl S) =
      record { parts = append-nil (inner_parts fl S); regions = regions } in
      let q : Ending = first_ending_of S.turns rs in
      let flagged = flag_matches S.turns rs start in
      let m = nodes_match b.inputs b.nodes (inner fl S) (close_flag b S.turns (inner fl S)) q (follow b) flagged in
      let e : Ending = ending b.inputs b.nodes q in
      let joins : join_parts Root e.regions ≡ joined_parts Root (root_ends fl S) = ap (join_parts Root) m.regions
      ∙ joins_agree Root (Written.closed fl S).ends in
      let body : List Part = Entry ∷ row Line 0 b.inputs ++ node_parts fl S b.inputs b.nodes in
      let first : body_parts (scope fl S) ≡ body = ap (λ xs. Entry ∷ row Line 0 b.inputs ++ xs) (nodes_agree b.inputs b.nodes) in
      let results : List Part = tail_parts b S.turns in
      let tail : List Part = joined_parts Root (root_ends fl S) ++ Parts.End ∷ [] in
      ap (λ xs. xs ++ (results ++ (e.parts ++ (join_parts Root e.regions ++ Parts.End ∷ [])))) first
      ∙ ap (λ xs. body ++ (results ++ (e.parts ++ (xs ++ Parts.End ∷ [])))) joins
      ∙ regroup body results e.parts tail
      ∙ ap (λ xs. xs ++ tail) m.parts
    where
      regroup : (u v x y : List Part) → u ++ (v ++ (x ++ y)) ≡ ((u ++ v) ++ x) ++ y
      regroup u v x y = sym (simp append_assoc)

      flag_matches : (t : Bool) (rs : List Region) → Matches (inner fl S) (record { parts = []; regions = rs }) (inner fl S)
          → Matches (inner fl S) (first_ending_of t rs) (close_flag b t (inner fl S))
      flag_matches false rs h = h
      flag_matches true rs h =
          kind_matches (node_count b) (inner fl S) (inner fl S) (record { parts = []; regions = rs }) Root Cond
          (sym (flag_region fl S place apart fit turned)) h
