-- The ends of each region are laid out as they are written down.
use Rattle.std.proofs.Common.{◌≡◌, ℕ, suc, ◌+◌, Bool, true, false, not, ◌&&◌, List, [], ◌∷◌, ◌++◌, length, refl, sym, ap, ◌∙◌, subst, arith, append-nil}
use Rattle.std.proofs.Common.{append_assoc, if◌then◌else◌, Some, None, Option}
use Rattle.std.specs.Prelude.{slice_get, ⊤}
use Rattle.semantics.specs.declared.graph.Region.{Region}
use Rattle.semantics.specs.declared.graph.Region.TheVariants.{Arm}
use Rattle.semantics.specs.declared.graph.Kind.{Kind}
use Rattle.semantics.specs.declared.graph.Kind.TheVariants.{Lit, Apply1, Apply2, Cond, Enter, Merge, Fetch, Store, Call, StrictCall, Loop}
use Rattle.semantics.specs.declared.program.Mark.TheVariants.{Unmarked, OfCond, OfFlag}
use Rattle.semantics.specs.declared.program.Op.{Op}
use Rattle.semantics.specs.Graph.{Node, Block, node_at}
use Rattle.semantics.specs.Program.{Instr}
use Rattle.law_wiring.specs.WrittenTypes.{Outlet, End}
use Rattle.schemas.specs.Builds as Builds
use Rattle.schemas.specs.Builds.{Build, outlet, first_of, second_of, quieted, connected, behind, meeting, mark_of}
use Rattle.schemas.specs.Ends.{end_at, is_empty, is_take, is_end, pushed_if, noted, ends_from, ends_of}
use Rattle.law_net.specs.ContextsParts as Parts
use Rattle.law_net.specs.ContextsParts.{Part, Line, Trigger, Gate, Framer, Linker, Giver, Taker, Drainer, TurnCont, TurnFlag, TurnValue, Asker, NextFramer}
use Rattle.law_net.specs.ContextsParts.{NextFanned, Join, CondEnd}
use Rattle.law_net.specs.ContextsBlocks as Blocks
use Rattle.law_net.specs.ContextsBlocks.{Side, side, Site, leaves_in, lies_in, mark_round, arm_round, op_of, line_op, kind_op}
use Rattle.law_wiring.specs.Written.{Wire, is_open, same_side, sides_of, sides, open_of}
use Rattle.law_wiring.proofs.Laid.{Env, IsLaid, OutAt, has_region, goes, dest, out_more}

module _ (e : Env) where
  abbrev b : Block ℕ
  b = e.site.block

  abbrev leaves_side : Side → Region
  leaves_side t = leaves_in b t.part t.second

  -- ends are the sides of a list
  abbrev pub AreEnds : List Part → List End → List Side → Type 0
  AreEnds rs [] [] = ⊤
  AreEnds rs (x ∷ es) (t ∷ ts) = (x.region ≡ leaves_side t) × OutAt rs x.outlet t × AreEnds rs es ts
  AreEnds rs es ts = ⊥

  pub ends_more : (rs qs : List Part) (es : List End) (ts : List Side) → AreEnds rs es ts → AreEnds (rs ++ qs) es ts
  ends_more rs qs [] [] h = tt
  ends_more rs qs [] (t ∷ ts) h = absurd h
  ends_more rs qs (x ∷ es) [] h = absurd h
  ends_more rs qs (x ∷ es) (t ∷ ts) h = (h.0, out_more rs qs x.outlet t h.1, ends_more rs qs es ts h.2)

  pub ends_push : (rs : List Part) (es : List End) (ts : List Side) (r : Region) (o : Outlet) (t : Side) → AreEnds rs es ts → r ≡ leaves_side t → OutAt rs o t
      → AreEnds rs (es ++ end_at r o ∷ []) (ts ++ t ∷ [])
  ends_push rs [] [] r o t h p q = (p, q, tt)
  ends_push rs [] (u ∷ ts) r o t h p q = absurd h
  ends_push rs (x ∷ es) [] r o t h p q = absurd h
  ends_push rs (x ∷ es) (u ∷ ts) r o t h p q = (h.0, h.1, ends_push rs es ts r o t h.2 p q)

  end_if : (rs : List Part) (es : List End) (ts : List Side) (r : Region) (o : Outlet) (t : Side) (x y : Bool) → x ≡ y → AreEnds rs es ts → r ≡ leaves_side t
      → OutAt rs o t
      → AreEnds rs (pushed_if es x r o) (ts ++ (if y then t ∷ [] else []))
  end_if rs es ts r o t true true s h p q = ends_push rs es ts r o t h p q
  end_if rs es ts r o t false false s h p q = subst (AreEnds rs es) (sym (append-nil ts)) h
  end_if rs es ts r o t true false s h p q = absurd (cc)
  end_if rs es ts r o t false true s h p q = absurd (cc)

  -- no destination leaves where no wire does
  empty_is : (t : Side) (ws : List Wire) → is_empty (goes e t ws) ≡ is_open t ws
  empty_is t [] = refl
  empty_is t (w ∷ ws) = go (same_side t w.from) (empty_is t ws)
    where
      go : (x : Bool) → is_empty (goes e t ws) ≡ is_open t ws
          → is_empty (if x then dest e w ∷ goes e t ws else goes e t ws) ≡ (if x then false else is_open t ws)
      go true h = refl
      go false h = h

  -- What is known of a part: a gate lies in an arm; and where the machine answers, and at a turn, arcs leave.
  abbrev Leads : List Wire → Part → Bool → Type 0
  Leads ws r t = is_open (side r t) ws ≡ false

  abbrev pub IsUsual : List Wire → Part → Type 0
  IsUsual ws (Gate n) = (k : ℕ) × (t : Bool) × (lies_in b n ≡ Arm k t)
  IsUsual ws (Framer n) = Leads ws (Framer n) false
  IsUsual ws (Linker n) = Leads ws (Linker n) false
  IsUsual ws (Giver n) = Leads ws (Giver n) false
  IsUsual ws (Drainer n) = Leads ws (Drainer n) false
  IsUsual ws Asker = Leads ws Asker false
  IsUsual ws NextFramer = Leads ws NextFramer false
  IsUsual ws NextFanned = Leads ws NextFanned false
  IsUsual ws TurnCont = Leads ws TurnCont false × Leads ws TurnCont true
  IsUsual ws TurnFlag = Leads ws TurnFlag false × Leads ws TurnFlag true
  IsUsual ws (TurnValue j) = Leads ws (TurnValue j) false × Leads ws (TurnValue j) true
  IsUsual ws Parts.End = ⊥
  IsUsual ws r = ⊤

  abbrev pub AllUsual : List Wire → List Part → Type 0
  AllUsual ws [] = ⊤
  AllUsual ws (r ∷ rs) = IsUsual ws r × AllUsual ws rs

  abbrev is_taker : Part → Bool
  is_taker (Taker n) = true
  is_taker r = false

  kind_no_take : (k : Kind ℕ) → is_take (kind_op k) ≡ false
  kind_no_take (Lit z) = refl
  kind_no_take (Apply1 op) = refl
  kind_no_take (Apply2 op) = refl
  kind_no_take Cond = refl
  kind_no_take Enter = refl
  kind_no_take (Merge k) = refl
  kind_no_take (Fetch a) = refl
  kind_no_take (Store a) = refl
  kind_no_take (Call f) = refl
  kind_no_take (StrictCall f) = refl
  kind_no_take (Loop f k) = refl

  line_no_take : (o : Option (Node ℕ)) → is_take (elim o as (λ x. Op) [ None ↦ Op.Copy | Some line ↦ kind_op line.kind ]) ≡ false
  line_no_take None = refl
  line_no_take (Some line) = kind_no_take line.kind

  no_take : (r : Part) → is_taker r ≡ false → is_take (op_of e.variant e.site r) ≡ false
  no_take (Line n) u = line_no_take (node_at b n)
  no_take (Taker n) u = absurd (cc)
  no_take r u = refl

  module _ (c : Build) (rs : List Part) (ws : List Wire) (l : IsLaid e c rs ws) where
    -- what one instruction adds to the ends
    noted_laid : (r : Part) (es : List End) (ts : List Side) (n : ℕ) (i : Instr) → IsUsual ws r → slice_get rs n ≡ Some r → slice_get c.instrs n ≡ Some i
        → AreEnds rs es ts
        → AreEnds rs (noted es (mark_of c.marks n) (Builds.region_of c.regions n) i n) (ts ++ open_of ws (sides_of r))
    noted_laid r es ts n i u at there h =
        by_part r u at (l.instrs n r i at there).firsts (l.instrs n r i at there).seconds (ap is_take (l.instrs n r i at there).op) (l.marks n r at)
        (l.regions n r at)
      where
        region : Region
        region = Builds.region_of c.regions n

        zeroless : n ≡ n + 0
        zeroless = omega arith

        out : (r : Part) (s : Bool) → slice_get rs n ≡ Some r → OutAt rs (outlet n 0 s) (side r s)
        out r s f = record { part = ap (slice_get rs) (sym zeroless) ∙ f; second = refl }

        -- an instruction with one side
        single : (r : Part) → slice_get rs n ≡ Some r → i.firsts ≡ goes e (side r false) ws → is_take i.op ≡ false → region ≡ leaves_side (side r false)
            → AreEnds rs (pushed_if es (is_end i) region (first_of n)) (ts ++ open_of ws (side r false ∷ []))
        single r f first take reg =
            end_if rs es ts region (first_of n) (side r false) (is_end i) (is_open (side r false) ws)
            (ap (λ x. not x && is_empty i.firsts) take ∙ ap is_empty first ∙ empty_is (side r false) ws) h reg (out r false f)

        none : AreEnds rs es (ts ++ [])
        none = subst (AreEnds rs es) (sym (append-nil ts)) h

        -- one that is no end
        closed_by : is_end i ≡ false → AreEnds rs (pushed_if es (is_end i) region (first_of n)) (ts ++ [])
        closed_by f = subst (λ t. AreEnds rs (pushed_if es t region (first_of n)) (ts ++ [])) (sym f) none

        leads_on : (r : Part) → is_open (side r false) ws ≡ false → i.firsts ≡ goes e (side r false) ws → is_end i ≡ false
        leads_on r u first = both (is_take i.op) (is_empty i.firsts) (ap is_empty first ∙ empty_is (side r false) ws ∙ u)
          where
            both : (x y : Bool) → y ≡ false → (not x && y) ≡ false
            both true y f = refl
            both false y f = f

        answered : (r : Part) → is_open (side r false) ws ≡ false → i.firsts ≡ goes e (side r false) ws → mark_of c.marks n ≡ Unmarked
            → AreEnds rs (noted es (mark_of c.marks n) region i n) (ts ++ [])
        answered r u first mark = subst (λ x. AreEnds rs (noted es x region i n) (ts ++ [])) (sym mark) (closed_by (leads_on r u first))

        both_closed : (r : Part) → is_open (side r false) ws ≡ false → is_open (side r true) ws ≡ false → mark_of c.marks n ≡ OfFlag
            → AreEnds rs (noted es (mark_of c.marks n) region i n) (ts ++ open_of ws (side r false ∷ side r true ∷ []))
        both_closed r f g mark =
            subst (λ x. AreEnds rs (noted es x region i n) (ts ++ open_of ws (side r false ∷ side r true ∷ []))) (sym mark)
            (subst (λ xs. AreEnds rs es (ts ++ xs))
            (sym (ap (λ x. if x then side r false ∷ open_of ws (side r true ∷ []) else open_of ws (side r true ∷ [])) f
            ∙ ap (λ x. if x then side r true ∷ [] else []) g)) none)

        double : (r : Part) (k : ℕ) → leaves_side (side r false) ≡ Arm k true → leaves_side (side r true) ≡ Arm k false → slice_get rs n ≡ Some r
            → i.firsts ≡ goes e (side r false) ws → i.seconds ≡ goes e (side r true) ws
            → AreEnds rs (noted es (OfCond k) region i n) (ts ++ open_of ws (side r false ∷ side r true ∷ []))
        double r k a a2 f first second =
            let one = end_if rs es ts (Arm k true) (first_of n) (side r false) (is_empty i.firsts) (is_open (side r false) ws)
            (ap is_empty first ∙ empty_is (side r false) ws) h (sym a) (out r false f) in
            let two = end_if rs (pushed_if es (is_empty i.firsts) (Arm k true) (first_of n))
            (ts ++ (if is_open (side r false) ws then side r false ∷ [] else [])) (Arm k false) (second_of n) (side r true)
            (is_empty i.seconds) (is_open (side r true) ws) (ap is_empty second ∙ empty_is (side r true) ws) one (sym a2) (out r true f) in
            subst (AreEnds rs (noted es (OfCond k) region i n)) (both (is_open (side r false) ws) (is_open (side r true) ws)) two
          where
            both : (x y : Bool) → (ts ++ (if x then side r false ∷ [] else [])) ++ (if y then side r true ∷ [] else [])
                ≡ ts ++ (if x then side r false ∷ (if y then side r true ∷ [] else []) else (if y then side r true ∷ [] else []))
            both true y = append_assoc ts (side r false ∷ []) (if y then side r true ∷ [] else [])
            both false y = append_assoc ts [] (if y then side r true ∷ [] else [])

        by_part : (r : Part) → IsUsual ws r → slice_get rs n ≡ Some r → i.firsts ≡ goes e (side r false) ws → i.seconds ≡ goes e (side r true) ws
            → is_take i.op ≡ is_take (op_of e.variant e.site r) → mark_of c.marks n ≡ Blocks.mark_of b r
            → (has_region r ≡ true → region ≡ Blocks.region_of b r)
            → AreEnds rs (noted es (mark_of c.marks n) region i n) (ts ++ open_of ws (sides_of r))
        by_part (Gate m) u f first second take mark reg =
            subst (λ x. AreEnds rs (noted es x region i n) (ts ++ open_of ws (sides_of (Gate m)))) (sym (mark ∙ ap mark_round u.2))
            (double (Gate m) u.0 (ap (λ r. arm_round r true) u.2) (ap (λ r. arm_round r false) u.2) f first second)
        by_part (Trigger k) u f first second take mark reg =
            subst (λ x. AreEnds rs (noted es x region i n) (ts ++ open_of ws (sides_of (Trigger k)))) (sym mark) (double (Trigger k) k refl refl f first second)
        by_part TurnCont u f first second take mark reg = both_closed TurnCont u.0 u.1 mark
        by_part TurnFlag u f first second take mark reg = both_closed TurnFlag u.0 u.1 mark
        by_part (TurnValue j) u f first second take mark reg = both_closed (TurnValue j) u.0 u.1 mark
        by_part (Framer m) u f first second take mark reg = answered (Framer m) u first mark
        by_part (Linker m) u f first second take mark reg = answered (Linker m) u first mark
        by_part (Giver m) u f first second take mark reg = answered (Giver m) u first mark
        by_part (Drainer m) u f first second take mark reg = answered (Drainer m) u first mark
        by_part Asker u f first second take mark reg = answered Asker u first mark
        by_part NextFramer u f first second take mark reg = answered NextFramer u first mark
        by_part NextFanned u f first second take mark reg =
            subst (λ x. AreEnds rs (noted es (mark_of c.marks n) region i n) (ts ++ (if x then side NextFanned false ∷ [] else []))) (sym u)
            (answered NextFanned u first mark)
        by_part (Taker m) u f first second take mark reg =
            subst (λ x. AreEnds rs (noted es x region i n) (ts ++ [])) (sym mark) (closed_by (ap (λ x. not x && is_empty i.firsts) take))
        by_part Parts.End u f first second take mark reg = absurd u
        by_part r u f first second take mark reg =
            subst (λ x. AreEnds rs (noted es x region i n) (ts ++ open_of ws (sides_of r))) (sym mark) (single r f first (take ∙ no_take r refl) (reg refl))

    open_both : (ws : List Wire) (xs ys : List Side) → open_of ws (xs ++ ys) ≡ open_of ws xs ++ open_of ws ys
    open_both ws [] ys = refl
    open_both ws (x ∷ xs) ys = go (is_open x ws) (open_both ws xs ys)
      where
        go : (s : Bool) → open_of ws (xs ++ ys) ≡ open_of ws xs ++ open_of ws ys
            → (if s then x ∷ open_of ws (xs ++ ys) else open_of ws (xs ++ ys)) ≡ (if s then x ∷ open_of ws xs else open_of ws xs) ++ open_of ws ys
        go true h = ap (λ zs. x ∷ zs) h
        go false h = h

    ends_laid : (es : List End) (ts : List Side) (n : ℕ) (is : List Instr) (qs : List Part) → AllUsual ws qs → length is ≡ length qs
        → ((j : ℕ) (i : Instr) → slice_get is j ≡ Some i → slice_get c.instrs (n + j) ≡ Some i)
        → ((j : ℕ) (r : Part) → slice_get qs j ≡ Some r → slice_get rs (n + j) ≡ Some r)
        → AreEnds rs es ts → AreEnds rs (ends_from es c n is) (ts ++ open_of ws (sides qs))
    ends_laid es ts n [] [] u s f g h = subst (AreEnds rs es) (sym (append-nil ts)) h
    ends_laid es ts n [] (r ∷ qs) u s f g h = absurd (omega (arith, s))
    ends_laid es ts n (i ∷ is) [] u s f g h = absurd (omega (arith, s))
    ends_laid es ts n (i ∷ is) (r ∷ qs) u s f g h =
        let zeroless : n + 0 ≡ n = omega arith in
        let at : slice_get rs n ≡ Some r = ap (slice_get rs) (sym zeroless) ∙ g 0 r refl in
        let there : slice_get c.instrs n ≡ Some i = ap (slice_get c.instrs) (sym zeroless) ∙ f 0 i refl in
        let one = noted_laid r es ts n i u.0 at there h in
        let es' : List End = noted es (mark_of c.marks n) (Builds.region_of c.regions n) i n in
        let rest = ends_laid es' (ts ++ open_of ws (sides_of r)) (n + 1) is qs u.1 (omega (arith, s))
        (λ j x e. let k : (n + 1) + j ≡ n + suc j = omega arith in ap (slice_get c.instrs) k ∙ f (suc j) x e)
        (λ j x e. let k : (n + 1) + j ≡ n + suc j = omega arith in ap (slice_get rs) k ∙ g (suc j) x e) one in
        subst (AreEnds rs (ends_from es' c (n + 1) is))
        (append_assoc ts (open_of ws (sides_of r)) (open_of ws (sides qs)) ∙ ap (λ xs. ts ++ xs) (sym (open_both ws (sides_of r) (sides qs)))) rest

    pub all_ends_laid : AllUsual ws rs → AreEnds rs (ends_of c) (open_of ws (sides rs))
    all_ends_laid u =
        ends_laid [] [] 0 c.instrs rs u l.size (λ j i x. let k : 0 + j ≡ j = omega arith in ap (slice_get c.instrs) k ∙ x)
        (λ j r x. let k : 0 + j ≡ j = omega arith in ap (slice_get rs) k ∙ x) tt
