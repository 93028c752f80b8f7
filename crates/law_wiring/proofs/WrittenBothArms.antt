-- Where one arm of a conditional has an end, both have one.
use Rattle.std.proofs.Common.{◌≡◌, ◌≢◌, ℕ, zero, suc, ◌+◌, ◌-◌, ◌<◌, ◌≤◌, ◌⊎◌, inl, inr, Bool, true, false, not, List, [], ◌∷◌, ◌++◌, length, refl, sym, ap}
use Rattle.std.proofs.Common.{◌∙◌, subst, arith, Some, None, Option}
use Rattle.std.specs.Prelude.{slice_get}
use Rattle.std.proofs.lemmas.Bool.{cases_lt}
use Rattle.semantics.specs.declared.graph.Region.{Region}
use Rattle.semantics.specs.declared.graph.Region.TheVariants.{Root, Arm}
use Rattle.semantics.specs.declared.graph.Kind.{Kind}
use Rattle.semantics.specs.declared.graph.Kind.TheVariants.{Lit, Apply1, Apply2, Cond, Enter, Merge, Fetch, Store, Call, StrictCall, Loop}
use Rattle.semantics.specs.Graph.{Node, Flow, node_at, node_count}
use Rattle.semantics.specs.Meaning.{arm_of}
use Rattle.law_net.specs.ContextsParts.{Line, Answer, Trigger, Gate, Strict, CallDone, LoopDone, CondEnd, part_key}
use Rattle.law_net.specs.ContextsBlocks.{Side, side, Site, lies_in, flag, arm_round, is_kind, cond_kind, enter_kind, cell_kind, outputs_in}
use Rattle.law_net.specs.ContextsExpanded.{row, invoked}
use Rattle.law_wiring.specs.Written.{Wire, is_shared, is_triggered, answer_side, exit_of, leaves_at, inner_wires, kind_parts, inner_parts, sides, is_open}
use Rattle.law_wiring.specs.Written.{first_ends, cond_sides, Ended, arm_ends, close, close_kind, close_nodes, close_flag, inner}
use Rattle.law_wiring.specs.WrittenFit.{kind_ports, IsFit}
use Rattle.law_wiring.proofs.PartsCounts.{Follow, follow_more, follow_here}
use Rattle.law_wiring.proofs.WrittenMembers.{AllS, In, in_left, in_right, sides_both, sides_right, all_in, open_all, open_in, used_wire, region_in}
use Rattle.law_wiring.proofs.Parts.{node_within}
use Rattle.law_wiring.proofs.WrittenNodes.{node_some, kind_at, is_value, leaves_region, leaves_own, leaves_some, arms_round}
use Rattle.law_wiring.proofs.WrittenTriggered.{some_node}
use Rattle.law_wiring.proofs.WrittenSides.{done_in, loop_done_in, exit_side, inner_all}
use Rattle.law_wiring.proofs.WrittenBoth.{R, count, Arrives, Other, Copy, AtNode, AtGate, AtCond, AtMerge, AtResult, inner_arrive, is_last, last_open, gate_of}
use Rattle.law_wiring.proofs.WrittenBoth.{inner_side, unused_end, unused_region}

-- THE NODE whose value leaves at a side
pub same_node : (s : Site) (m p n q : ℕ) → leaves_at s m p ≡ leaves_at s n q → m ≡ n
same_node s m p n q e = sym (leaves_own s m p).1 ∙ ap (λ (u : Side). (part_key u.part).first) e ∙ (leaves_own s n q).1

-- the exit of an answer with a copy is at the copy
copy_side : (s : Site) (n q : ℕ) (r : Region) (k : Kind ℕ) → cell_kind k ≡ true → is_shared s n ≡ true → exit_of s n q r k ≡ side (Answer n) false
copy_side s n q r (Fetch a) h e = ap (answer_side n) e
copy_side s n q r (Store a) h e = ap (answer_side n) e
copy_side s n q r k h e = absurd (cc)

pub copy_leaves : (s : Site) (n q : ℕ) → is_kind cell_kind s.block n ≡ true → is_shared s n ≡ true → leaves_at s n q ≡ side (Answer n) false
copy_leaves s n q h e = let x = node_some s.block cell_kind n h in leaves_some s n q x.0 x.1 ∙ copy_side s n q x.0.region x.0.kind x.2 e

-- no value leaves at a line that has a copy after it
pub copy_apart : (s : Site) (m q n : ℕ) → is_kind cell_kind s.block n ≡ true → is_shared s n ≡ true → leaves_at s m q ≢ side (Line n) false
copy_apart s m q n h e f =
    let same : m ≡ n = sym (leaves_own s m q).1 ∙ ap (λ (u : Side). (part_key u.part).first) f in
    let p : Answer n ≡ Line n = ap (λ (u : Side). u.part) (sym (copy_leaves s n q h e) ∙ ap (λ i. leaves_at s i q) (sym same) ∙ f) in
    cc

module _ (fl : Flow) (s : Site) (fit : IsFit fl s.block) where
  abbrev RR : Side → Region
  RR t = R fl s fit t

  abbrev pub HasEnd : Ended → ℕ → Bool → Type 0
  HasEnd x k u = (t : Side) × In t x.ends × (RR t ≡ Arm k u)

  -- some node lies in an arm of the conditional in whose arm a side is
  abbrev Origin : Side → Type 0
  Origin t = (k : ℕ) (u : Bool) → RR t ≡ Arm k u → is_kind cond_kind s.block k ≡ true → (n : ℕ) × (v : Bool) × (lies_in s.block n ≡ Arm k v)

  -- the conditionals from that one on are closed
  pub record IsGrown (n : ℕ) (x : Ended) : Type 0 where
    pub firsts : (t : Side) → In t (first_ends fl s) → In t x.ends
    pub later : (j : ℕ) (u : Bool) (t : Side) → n ≤ j → is_kind cond_kind s.block j ≡ true → In t (first_ends fl s) → RR t ≡ Arm j u
        → In (side (CondEnd j) false) x.ends
    pub origins : AllS Origin x.ends

  module _ (k : ℕ) (x : Ended) (grown : IsGrown (k + 1) x) (cond : is_kind cond_kind s.block k ≡ true) where
    other_arm : (g : ℕ) (u : Bool) → lies_in s.block g ≡ Arm k u → is_kind enter_kind s.block g ≡ true → HasEnd x k (not u)
    other_arm g u e i = (side (Gate g) u, grown.firsts (side (Gate g) u) (unused_end fl s fit g k u e i), unused_region fl s fit g k u e)

    not_not : (u : Bool) → not (not u) ≡ u
    not_not true = refl
    not_not false = refl

    -- a conditional within that has a gate
    nested_end : (j : ℕ) (u t : Bool) (g : ℕ) → lies_in s.block g ≡ Arm j t → is_kind enter_kind s.block g ≡ true → lies_in s.block j ≡ Arm k u → HasEnd x k u
    nested_end j u t g e i l =
        let low = (arms_round fl s.block fit j k u l).0 in (
          side (CondEnd j) false,
          grown.later j (not t) (side (Gate g) t) (omega (arith, low)) (arms_round fl s.block fit g j t e).1 (unused_end fl s fit g j t e i)
              (unused_region fl s fit g j t e),
          l,
        )

    first_end : (t : Side) (u : Bool) → In t (sides (inner_parts fl s)) → is_open t (inner_wires s) ≡ true → RR t ≡ Arm k u → HasEnd x k u
    first_end t u i o e = (t, grown.firsts t (open_in t (inner_wires s) (sides (inner_parts fl s)) i o), e)

    -- CLIMBING: a node in an arm leads, in the end, to an end of the arm
    climb : (fuel m : ℕ) (u : Bool) → count fl s fit ≤ m + fuel → m < count fl s fit → lies_in s.block m ≡ Arm k u → is_kind cond_kind s.block m ≡ false
        → HasEnd x k u
    climb zero m u l h e p = absurd (omega (arith, l, h))
    climb (suc fuel) m u l h e p = go (node_at s.block m) refl (λ n a d f q. climb fuel n u a d f q)
      where
        More : Type 0
        More = (n : ℕ) → count fl s fit ≤ n + fuel → n < count fl s fit → lies_in s.block n ≡ Arm k u → is_kind cond_kind s.block n ≡ false → HasEnd x k u

        at : RR (leaves_at s m 0) ≡ Arm k u
        at = leaves_region s m 0 ∙ e

        by_use : (v : Wire) → leaves_at s m 0 ≡ v.from → Arrives fl s fit v → More → HasEnd x k u
        by_use v q (Other f g) more = let o = (leaves_own s m 0).0 in let z = ap (λ (t : Side). is_value t.part) q in absurd (cc)
        by_use v q (Copy n f cell shared) more = absurd (copy_apart s m 0 n cell shared (q ∙ f))
        by_use v q (AtNode z n f less high lies plain) more =
            let same = same_node s m 0 z.node z.port (q ∙ f) in more n (omega (arith, l, same, less)) high (lies ∙ ap RR (sym q) ∙ at) plain
        by_use v q (AtGate z n j t f lies enter reg) more = nested_end j u t n lies enter (sym reg ∙ ap RR (sym q) ∙ at)
        by_use v q (AtCond z j f triggered reg) more =
            let n = some_node s.block j triggered in
            let g = gate_of fl s fit (suc n.0) n.0 j n.1 (omega arith) n.2 in
            nested_end j u n.1 g.0 g.1 g.2 (sym reg ∙ ap RR (sym q) ∙ at)
        by_use v q (AtMerge z j n t f reg lies) more =
            let same : Arm j t ≡ Arm k u = sym reg ∙ ap RR (sym q) ∙ at in
            let arm : j ≡ k = cc in
            let its : t ≡ u = cc in
            let there : lies_in s.block n ≡ Arm k (not u) = lies ∙ (λ i. Arm (arm i) (not (its i))) in
            let g = gate_of fl s fit (suc n) n k (not u) (omega arith) there in
            subst (HasEnd x k) (not_not u) (other_arm g.0 (not u) g.1 g.2)
        by_use v q (AtResult z f reg) more = let no : Root ≡ Arm k u = sym reg ∙ ap RR (sym q) ∙ at in absurd (cc)

        value : (y : Node ℕ) → node_at s.block m ≡ Some y → 0 < kind_ports fl (length y.sources) y.kind → More → HasEnd x k u
        value y f ports more = by_open (is_open (leaves_at s m 0) (inner_wires s)) refl
          where
            by_open : (o : Bool) → is_open (leaves_at s m 0) (inner_wires s) ≡ o → HasEnd x k u
            by_open true o =
                first_end (leaves_at s m 0) u
                (inner_side fl s fit (leaves_at s m 0) m y f
                (subst (λ t. In t (sides (kind_parts fl s m (length y.sources) y.kind))) (sym (leaves_some s m 0 y f))
                (exit_side fl s m 0 (length y.sources) y.region y.kind ports))) o at
            by_open false o = let v = used_wire (Arrives fl s fit) (leaves_at s m 0) (inner_wires s) (inner_arrive fl s fit) o in by_use v.0 v.2 v.1 more

        -- the end of an invocation is an end
        done : (t : Side) (y : Node ℕ) → node_at s.block m ≡ Some y → In t (sides (kind_parts fl s m (length y.sources) y.kind)) → is_last t.part ≡ true
            → RR t ≡ lies_in s.block m → HasEnd x k u
        done t y f i o r = first_end t u (inner_side fl s fit t m y f i) (last_open fl s fit t o) (r ∙ e)

        by_kind : (y : Node ℕ) → node_at s.block m ≡ Some y → (c : Kind ℕ) → y.kind ≡ c → More → HasEnd x k u
        by_kind y f (Call g) q more =
            done (side (CallDone m) false) y f (subst (λ c. In (side (CallDone m) false) (sides (kind_parts fl s m (length y.sources) c))) (sym q)
            (done_in fl s m (length y.sources) (outputs_in (slice_get fl.blocks g)))) refl refl
        by_kind y f (StrictCall g) q more =
            done (side (CallDone m) false) y f (subst (λ c. In (side (CallDone m) false) (sides (kind_parts fl s m (length y.sources) c))) (sym q)
            (sides_right (side (CallDone m) false) (row (Strict m) 1 (length y.sources - 1))
            (invoked m (length y.sources) (outputs_in (slice_get fl.blocks g)) ++ CallDone m ∷ [])
            (done_in fl s m (length y.sources) (outputs_in (slice_get fl.blocks g))))) refl refl
        by_kind y f (Loop g c) q more =
            done (side (LoopDone m) false) y f (subst (λ c. In (side (LoopDone m) false) (sides (kind_parts fl s m (length y.sources) c))) (sym q)
            (loop_done_in fl s m (length y.sources) (length y.sources))) refl refl
        by_kind y f Cond q more = let c = kind_at s.block cond_kind m y f ∙ ap cond_kind q in absurd (cc)
        by_kind y f Enter q more = value y f (subst (λ c. 0 < kind_ports fl (length y.sources) c) (sym q) (omega arith)) more
        by_kind y f (Merge c) q more = value y f (subst (λ c. 0 < kind_ports fl (length y.sources) c) (sym q) (omega arith)) more
        by_kind y f (Lit c) q more = value y f (subst (λ c. 0 < kind_ports fl (length y.sources) c) (sym q) (omega arith)) more
        by_kind y f (Apply1 c) q more = value y f (subst (λ c. 0 < kind_ports fl (length y.sources) c) (sym q) (omega arith)) more
        by_kind y f (Apply2 c) q more = value y f (subst (λ c. 0 < kind_ports fl (length y.sources) c) (sym q) (omega arith)) more
        by_kind y f (Fetch c) q more = value y f (subst (λ c. 0 < kind_ports fl (length y.sources) c) (sym q) (omega arith)) more
        by_kind y f (Store c) q more = value y f (subst (λ c. 0 < kind_ports fl (length y.sources) c) (sym q) (omega arith)) more

        go : (o : Option (Node ℕ)) → node_at s.block m ≡ o → More → HasEnd x k u
        go None f more = let root : lies_in s.block m ≡ Root = ap arm_of f in let no : Root ≡ Arm k u = sym root ∙ e in absurd (cc)
        go (Some y) f more = by_kind y f y.kind refl more

    enter_plain : (c : Kind ℕ) → enter_kind c ≡ true → cond_kind c ≡ false
    enter_plain Enter h = refl
    enter_plain c h = absurd (cc)

    this_arm : (g : ℕ) (u : Bool) → lies_in s.block g ≡ Arm k u → is_kind enter_kind s.block g ≡ true → HasEnd x k u
    this_arm g u e i =
        let y = node_some s.block enter_kind g i in
        let w = node_within s.block g y.0 y.1 in
        climb (count fl s fit) g u (omega arith) w.1 e (kind_at s.block cond_kind g y.0 y.1 ∙ enter_plain y.0.kind y.2)

    by_gate : (g : ℕ) (u v : Bool) → lies_in s.block g ≡ Arm k u → is_kind enter_kind s.block g ≡ true → HasEnd x k v
    by_gate g true true e i = this_arm g true e i
    by_gate g false false e i = this_arm g false e i
    by_gate g true false e i = other_arm g true e i
    by_gate g false true e i = other_arm g false e i

    -- BOTH ARMS
    pub both_arms : (u v : Bool) → HasEnd x k u → HasEnd x k v
    both_arms u v h =
        let o = all_in Origin h.0 x.ends grown.origins h.1 k u h.2 cond in
        let g = gate_of fl s fit (suc o.0) o.0 k o.1 (omega arith) o.2 in
        by_gate g.0 o.1 v g.1 g.2

  -- GROWING
  some_cond : (k : ℕ) (us : List Side) (t : Side) → In t us → In (side (CondEnd k) false) (cond_sides k us)
  some_cond k [] t h = absurd h
  some_cond k (u ∷ us) t h = inl refl

  pub closes_it : (t : Side) (k : ℕ) (u : Bool) (x : Ended) → In t x.ends → RR t ≡ Arm k u → In (side (CondEnd k) false) (close s.block k x).ends
  closes_it t k true x h e =
      in_right (side (CondEnd k) false) x.ends (cond_sides k (arm_ends s.block k true x ++ arm_ends s.block k false x))
      (some_cond k (arm_ends s.block k true x ++ arm_ends s.block k false x) t
      (in_left t (arm_ends s.block k true x) (arm_ends s.block k false x) (region_in s.block t x.ends (Arm k true) h e)))
  closes_it t k false x h e =
      in_right (side (CondEnd k) false) x.ends (cond_sides k (arm_ends s.block k true x ++ arm_ends s.block k false x))
      (some_cond k (arm_ends s.block k true x ++ arm_ends s.block k false x) t
      (in_right t (arm_ends s.block k true x) (arm_ends s.block k false x) (region_in s.block t x.ends (Arm k false) h e)))

  conds_origin : (k : ℕ) (us : List Side) → AllS Origin (cond_sides k us)
  conds_origin k [] = tt
  conds_origin k (u ∷ us) = (λ j v e c. (k, v, e), tt)

  cond_grows : (n : ℕ) (x : Ended) → IsGrown (n + 1) x → IsGrown n (close s.block n x)
  cond_grows n x g = record {
    firsts = λ t h. in_left t x.ends (cond_sides n (arm_ends s.block n true x ++ arm_ends s.block n false x)) (g.firsts t h);
    later = λ j u t l c h e. by_number j u t l c h e (cases_lt n j);
    origins =
        sides_both Origin x.ends (cond_sides n (arm_ends s.block n true x ++ arm_ends s.block n false x)) g.origins
        (conds_origin n (arm_ends s.block n true x ++ arm_ends s.block n false x));
  }
    where
      by_number : (j : ℕ) (u : Bool) (t : Side) → n ≤ j → is_kind cond_kind s.block j ≡ true → In t (first_ends fl s) → RR t ≡ Arm j u → (n < j) ⊎ (j ≤ n)
          → In (side (CondEnd j) false) (close s.block n x).ends
      by_number j u t l c h e (inl a) =
          in_left (side (CondEnd j) false) x.ends (cond_sides n (arm_ends s.block n true x ++ arm_ends s.block n false x))
          (g.later j u t (omega (arith, a)) c h e)
      by_number j u t l c h e (inr a) =
          let same : j ≡ n = omega (arith, l, a) in subst (λ i. In (side (CondEnd j) false) (close s.block i x).ends) same (closes_it t j u x (g.firsts t h) e)

  plain_grows : (n : ℕ) (x : Ended) → is_kind cond_kind s.block n ≡ false → IsGrown (n + 1) x → IsGrown n x
  plain_grows n x p g = record {
    firsts = g.firsts;
    later = λ j u t l c h e. let ne : j ≢ n = λ q. let z = ap (is_kind cond_kind s.block) q in absurd (cc) in g.later j u t (omega (arith, l, ne)) c h e;
    origins = g.origins;
  }

  pub kind_grows : (n : ℕ) (x : Ended) (k : Kind ℕ) → is_kind cond_kind s.block n ≡ cond_kind k → IsGrown (n + 1) x → IsGrown n (close_kind s.block n x k)
  kind_grows n x Cond e g = cond_grows n x g
  kind_grows n x (Lit z) e g = plain_grows n x e g
  kind_grows n x (Apply1 op) e g = plain_grows n x e g
  kind_grows n x (Apply2 op) e g = plain_grows n x e g
  kind_grows n x Enter e g = plain_grows n x e g
  kind_grows n x (Merge c) e g = plain_grows n x e g
  kind_grows n x (Fetch a) e g = plain_grows n x e g
  kind_grows n x (Store a) e g = plain_grows n x e g
  kind_grows n x (Call f) e g = plain_grows n x e g
  kind_grows n x (StrictCall f) e g = plain_grows n x e g
  kind_grows n x (Loop f c) e g = plain_grows n x e g

  pub nodes_grow : (n : ℕ) (xs : List (Node ℕ)) (x : Ended) → Follow s.block n xs → IsGrown (n + length xs) x → IsGrown n (close_nodes s.block n xs x)
  nodes_grow n [] x f g = let same : n + 0 ≡ n = omega arith in subst (λ k. IsGrown k x) same g
  nodes_grow n (y ∷ xs) x f g =
      let same : n + suc (length xs) ≡ (n + 1) + length xs = omega arith in
      kind_grows n (close_nodes s.block (n + 1) xs x) y.kind (kind_at s.block cond_kind n y (follow_here s.block n y xs f))
      (nodes_grow (n + 1) xs x (follow_more s.block n y xs f) (subst (λ k. IsGrown k x) same g))

  -- THE START
  none_later : (j : ℕ) → count fl s fit ≤ j → is_kind cond_kind s.block j ≡ true → ⊥
  none_later j l c = let y = node_some s.block cond_kind j c in let w = (node_within s.block j y.0 y.1).1 in omega (arith, w, l)

  round_origin : (n : ℕ) (r : Region) (u : Bool) → lies_in s.block n ≡ r → (k : ℕ) (v : Bool) → arm_round r u ≡ Arm k v
      → (m : ℕ) × (w : Bool) × (lies_in s.block m ≡ Arm k w)
  round_origin n Root u f k v e = absurd (cc)
  round_origin n (Arm j w) u f k v e = let same : j ≡ k = cc in (n, w, f ∙ ap (λ i. Arm i w) same)

  trigger_origin : (n : ℕ) (u : Bool) → is_triggered s.block n ≡ true → Origin (side (Trigger n) u)
  trigger_origin n u h k v e c = let same : n ≡ k = cc in some_node s.block k (ap (is_triggered s.block) (sym same) ∙ h)

  inner_origin : AllS Origin (first_ends fl s)
  inner_origin =
      open_all Origin (inner_wires s) (sides (inner_parts fl s))
      (inner_all fl s Origin (λ n r f k u e c. (n, u, sym f ∙ e)) (λ n u k v e c. round_origin n (lies_in s.block n) (not u) refl k v e) trigger_origin
      (λ r f k u e c. let no : Root ≡ Arm k u = sym f ∙ e in absurd (cc))
      (λ turned t u f k v e c. let no : Arm (flag s.block) u ≡ Arm k v = sym f ∙ e in let same : flag s.block ≡ k = cc in
      absurd (none_later k (omega (arith, same)) c)))

  pub start_grown : (t : Bool) → IsGrown (count fl s fit) (close_flag s.block t (inner fl s))
  start_grown false = record { firsts = λ t h. h; later = λ j u t l c h e. absurd (none_later j l c); origins = inner_origin }
  start_grown true =
      let x : Ended = inner fl s in
      let k : ℕ = node_count s.block in
      record {
        firsts = λ t h. in_left t x.ends (cond_sides k (arm_ends s.block k true x ++ arm_ends s.block k false x)) h;
        later = λ j u t l c h e. absurd (none_later j l c);
        origins =
            sides_both Origin x.ends (cond_sides k (arm_ends s.block k true x ++ arm_ends s.block k false x)) inner_origin
            (conds_origin k (arm_ends s.block k true x ++ arm_ends s.block k false x));
      }
