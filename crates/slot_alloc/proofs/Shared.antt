-- The table says exactly which holders may share.
use Rattle.std.proofs.Common.{◌≡◌, ◌≢◌, refl, sym, ap, ◌∙◌, subst, ℕ, zero, suc, ◌+◌, ◌<◌, Bool, true, false, not, ◌&&◌, ◌||◌, List, [], ◌∷◌, ◌++◌}
use Rattle.std.proofs.Common.{length, replicate, cond, Option, Some, inl, inr, ⊎_elim, arith, ◌⊎◌}
use Rattle.std.specs.Prelude.{slice_get}
use Rattle.std.specs.Bool.{Decides}
use Rattle.std.specs.List.{list_any}
use Rattle.std.proofs.lemmas.Bool.{both_ways, and_from, or_cases, or_left, or_right}
use Rattle.std.proofs.lemmas.Bool.Decides.{Decides-and, Decides-or}
use Rattle.std.proofs.lemmas.List.{length-replicate, get_or-replicate}
use Rattle.std.proofs.lemmas.List.Folds.{list_any-append}
use Rattle.std.proofs.lemmas.Option.{slice_get_within}
use Rattle.tags.specs.declared.token.Port.{Port}
use Rattle.semantics.specs.declared.program.Mark.{Mark}
use Rattle.semantics.specs.declared.program.Mark.TheVariants.{Unmarked, OfCond, OfFlag}
use Rattle.semantics.specs.Program.{Instr, CodeBlock}
use Rattle.semantics.specs.Plan.{Plan}
use Rattle.semantics.specs.Sharing.{Inlet, inlet, Arc, arcs_of, arcs_in, IsAfter, is_after, Leads, by_choice, by_port, IsEnd, IsSide, IsHolderPort}
use Rattle.semantics.specs.Sharing.{AllAfter, AllOnSide, MayShare}
use Rattle.code.specs.Marks.{marks_in}
use Rattle.slot_alloc.specs.Passes.{Chosen}
use Rattle.slot_alloc.specs.Passes.{Ends, Side}
use Rattle.slot_alloc.specs.Passes.{bare, inlets_at, all_lead, is_chosen, is_marked, mark_of, same_mark, pass}
use Rattle.slot_alloc.specs.Rows.{ports_lead, row_of}
use Rattle.slot_alloc.specs.Tables.{groups, after_rows, with_mark, distinct, table_of, comes_after, is_apart, may_share}
use Rattle.slot_alloc.proofs.Passing.{port_of}
use Rattle.slot_alloc.proofs.Places.{ByPlace, at_place, from_places}
use Rattle.slot_alloc.proofs.Passed.{Says, follows_exact, bit, Kept, row_exact, ports_exact}
use Rattle.slot_alloc.proofs.Groups.{after_bit, one_apart, any_apart, known_apart}
use Rattle.slot_alloc.proofs.Chosen.{ends_tell, sides_tell, same_mark_exact, mark_at_of}

-- A ROW of one block, for chosen arcs that the test identifies
module _ (p : Plan) (c : CodeBlock) (ms : List Mark) (ch : Chosen) (chosen : Arc → Type 0)
    (says : (n : ℕ) (i : Instr) → slice_get c.instrs n ≡ Some i → (y : Arc) → y.from ≡ n → Decides (is_chosen ch i (mark_of ms n) y.second) (chosen y)) where
  abbrev pub AllFollow : ℕ → Type 0
  AllFollow g = (q : Inlet) → IsHolderPort (Some c) g q → IsAfter (arcs_of p 0 c.instrs) chosen q

  said : ByPlace (Says p ch ms (arcs_of p 0 c.instrs) chosen) 0 c.instrs
  said = from_places (Says p ch ms (arcs_of p 0 c.instrs) chosen) 0 c.instrs
      (λ k i at. let e : k ≡ 0 + k = omega arith in subst (λ n. Says p ch ms (arcs_of p 0 c.instrs) chosen n i) e (says k i at))

  port_exact : (k : ℕ) (i : Instr) (s : Port) → slice_get c.instrs k ≡ Some i
      → Decides (all_lead (port_of (inlets_at (pass p ch ms (replicate (length c.instrs) bare) 0 c.instrs) k) s))
      (IsAfter (arcs_of p 0 c.instrs) chosen (inlet k s))
  port_exact k i s at = follows_exact p ch ms (arcs_of p 0 c.instrs) chosen c.instrs refl said k s (slice_get_within c.instrs k i at)

  kept_exact : (g : ℕ) → Decides (bit (row_of p ch ms c) g) ((bit (replicate c.slots true) g ≡ true)
      × ByPlace (Kept g (pass p ch ms (replicate (length c.instrs) bare) 0 c.instrs)) 0 c.instrs) → g < c.slots
      → Decides (bit (row_of p ch ms c) g) (AllFollow g)
  kept_exact g d below = (
    λ e q is.
        let w = d.0 e in
        let m : 0 + q.place ≡ q.place = omega arith in
        let kept = at_place (Kept g (pass p ch ms (replicate (length c.instrs) bare) 0 c.instrs)) 0 c.instrs w.1 q.place is.0 is.1.0 in
        let leads : ports_lead is.0.op (inlets_at (pass p ch ms (replicate (length c.instrs) bare) 0 c.instrs) q.place) ≡ true =
        subst (λ n. ports_lead is.0.op (inlets_at (pass p ch ms (replicate (length c.instrs) bare) 0 c.instrs) n) ≡ true) m (kept is.1.1) in
        (port_exact q.place is.0 q.port is.1.0).0
        ((ports_exact is.0.op (inlets_at (pass p ch ms (replicate (length c.instrs) bare) 0 c.instrs) q.place)).0 leads q.port is.2),
    λ f. d.1 (
      get_or-replicate c.slots g true false below,
      from_places (Kept g (pass p ch ms (replicate (length c.instrs) bare) 0 c.instrs)) 0 c.instrs (λ k i at.
          let m : k ≡ 0 + k = omega arith in
          subst (λ n. Kept g (pass p ch ms (replicate (length c.instrs) bare) 0 c.instrs) n i) m
          (λ held. (ports_exact i.op (inlets_at (pass p ch ms (replicate (length c.instrs) bare) 0 c.instrs) k)).1
          (λ s is. (port_exact k i s at).1 (f (inlet k s) (i, (at, held), is))))),
    ),
  )

  pub all_follow_exact : (g : ℕ) → g < c.slots → Decides (bit (row_of p ch ms c) g) (AllFollow g)
  all_follow_exact g below =
      let len = length-replicate c.slots true in
      kept_exact g (row_exact g (pass p ch ms (replicate (length c.instrs) bare) 0 c.instrs) (replicate c.slots true) 0 c.instrs
      (omega (arith, len, below))) below

-- THE ROWS OF A BLOCK
module _ (p : Plan) (b : ℕ) (c : CodeBlock) (at : slice_get p.program.blocks b ≡ Some c) where
  abbrev arcs : List Arc
  arcs = arcs_of p 0 c.instrs

  abbrev AfterIn : Option CodeBlock → ℕ → ℕ → Type 0
  AfterIn o g h = (q : Inlet) → IsHolderPort o g q → IsAfter (arcs_in p o) (IsEnd o h) q

  after_exact : (g h : ℕ) → g < c.slots → Decides (bit (row_of p (Ends h) (marks_in p b) c) g) (AllAfter p b g h)
  after_exact g h below = subst (λ o. Decides (bit (row_of p (Ends h) (marks_in p b) c) g) (AfterIn o g h)) (sym at)
      (all_follow_exact p c (marks_in p b) (Ends h) (IsEnd (Some c) h) (λ n i here y from. ends_tell c h n i (mark_of (marks_in p b) n) y here from) g below)

  abbrev SideIn : Option CodeBlock → ℕ → Mark → Bool → Type 0
  SideIn o g m side = (q : Inlet) → IsHolderPort o g q → IsAfter (arcs_in p o) (IsSide p b m side) q

  side_exact : (g : ℕ) (m : Mark) (side : Bool) → g < c.slots → Decides (bit (row_of p (Side side m) (marks_in p b) c) g) (AllOnSide p b g m side)
  side_exact g m side below = subst (λ o. Decides (bit (row_of p (Side side m) (marks_in p b) c) g) (SideIn o g m side)) (sym at)
      (all_follow_exact p c (marks_in p b) (Side side m) (IsSide p b m side) (λ n i here y from. sides_tell p b side m n i y from) g below)

  pub comes_after_exact : (g h : ℕ) → g < c.slots → h < c.slots → Decides (comes_after (after_rows p (marks_in p b) c (groups c.slots)) g h) (AllAfter p b g h)
  comes_after_exact g h gs hs = subst (λ t. Decides t (AllAfter p b g h)) (sym (after_bit p c (marks_in p b) g h hs)) (after_exact g h gs)

  -- THE SIDES of all marks
  abbrev OnSides : ℕ → ℕ → Mark → Type 0
  OnSides g h m = (AllOnSide p b g m true × AllOnSide p b h m false) ⊎ (AllOnSide p b g m false × AllOnSide p b h m true)

  apart_exact : (g h : ℕ) (m : Mark) → g < c.slots → h < c.slots → Decides (one_apart p c (marks_in p b) g h m) (OnSides g h m)
  apart_exact g h m gs hs =
      let yes = row_of p (Side true m) (marks_in p b) c in
      let no = row_of p (Side false m) (marks_in p b) c in
      Decides-or (bit yes g && bit no h) (bit no g && bit yes h)
      (Decides-and (bit yes g) (bit no h) (side_exact g m true gs) (side_exact h m false hs))
      (Decides-and (bit no g) (bit yes h) (side_exact g m false gs) (side_exact h m true hs))

  -- A MARK THAT NO SWITCH HAS puts only holders without ports on a side
  mutual
    nothing_follows : (chosen : Arc → Type 0) → ((y : Arc) → chosen y → ⊥) → (q : Inlet) → IsAfter (arcs_in p (slice_get p.program.blocks b)) chosen q → ⊥
    nothing_follows chosen none q (is_after _ x there to all) = nothing_leads chosen none x (all x there to)

    nothing_leads : (chosen : Arc → Type 0) → ((y : Arc) → chosen y → ⊥) → (y : Arc) → Leads (arcs_in p (slice_get p.program.blocks b)) chosen y → ⊥
    nothing_leads chosen none y (by_choice _ is) = none y is
    nothing_leads chosen none y (by_port _ side f) = nothing_follows chosen none (inlet y.from side) f

  known_kept : (m x : Mark) (seen : List Mark) → list_any (same_mark m) seen ≡ true → list_any (same_mark m) (with_mark seen x) ≡ true
  known_kept m x seen e = by_test (is_marked x && not (list_any (same_mark x) seen))
    where
      by_test : (t : Bool) → list_any (same_mark m) (cond t (seen ++ x ∷ []) seen) ≡ true
      by_test true = list_any-append (same_mark m) seen (x ∷ []) ∙ or_left (list_any (same_mark m) seen) (list_any (same_mark m) (x ∷ [])) e
      by_test false = e

  known_after : (m : Mark) (seen ms : List Mark) → list_any (same_mark m) seen ≡ true → list_any (same_mark m) (distinct seen ms) ≡ true
  known_after m seen [] e = e
  known_after m seen (x ∷ ms) e = known_after m (with_mark seen x) ms (known_kept m x seen e)

  marked : (m : Mark) → m ≢ Unmarked → is_marked m ≡ true
  marked Unmarked ne = absurd (ne refl)
  marked (OfCond k) ne = refl
  marked OfFlag ne = refl

  known_new : (m : Mark) (seen : List Mark) → m ≢ Unmarked → list_any (same_mark m) (with_mark seen m) ≡ true
  known_new m seen ne = by_test (list_any (same_mark m) seen) refl
    where
      by_test : (t : Bool) → list_any (same_mark m) seen ≡ t → list_any (same_mark m) (with_mark seen m) ≡ true
      by_test true e = known_kept m m seen e
      by_test false e =
          let go : (is_marked m && not (list_any (same_mark m) seen)) ≡ true = and_from (is_marked m) (not (list_any (same_mark m) seen))
          (marked m ne) (ap not e) in
          let new : with_mark seen m ≡ seen ++ m ∷ [] = ap (λ t. cond t (seen ++ m ∷ []) seen) go in
          ap (list_any (same_mark m)) new ∙ list_any-append (same_mark m) seen (m ∷ [])
          ∙ or_right (list_any (same_mark m) seen) (list_any (same_mark m) (m ∷ [])) (or_left (same_mark m m) false ((same_mark_exact m m).1 (refl, ne)))

  known_mark : (m : Mark) (seen ms : List Mark) (n : ℕ) → m ≢ Unmarked → mark_of ms n ≡ m → list_any (same_mark m) (distinct seen ms) ≡ true
  known_mark m seen [] n ne e = absurd (ne (sym e))
  known_mark m seen (x ∷ ms) zero ne e = known_after m (with_mark seen x) ms (subst (λ y. list_any (same_mark m) (with_mark seen y) ≡ true) (sym e)
      (known_new m seen ne))
  known_mark m seen (x ∷ ms) (suc n) ne e = known_mark m (with_mark seen x) ms n ne e

  no_side : (m : Mark) (side : Bool) → list_any (same_mark m) (distinct [] (marks_in p b)) ≡ false → (y : Arc) → IsSide p b m side y → ⊥
  no_side m side unknown y is = both_ways (list_any (same_mark m) (distinct [] (marks_in p b))) unknown
      (known_mark m [] (marks_in p b) y.from is.1 (sym (mark_at_of p b y.from) ∙ is.0))

  -- EXACTLY the holders that may share
  abbrev pub shared : ℕ → ℕ → Bool
  shared g h = may_share (table_of p (marks_in p b) c) g h

  after_shares : (g h : ℕ) → g < c.slots → h < c.slots → AllAfter p b g h → shared g h ≡ true
  after_shares g h gs hs all =
      let rows = after_rows p (marks_in p b) c (groups c.slots) in
      or_left (comes_after rows g h || comes_after rows h g) (list_any (is_apart g h) (table_of p (marks_in p b) c).splits)
      (or_left (comes_after rows g h) (comes_after rows h g) ((comes_after_exact g h gs hs).1 all))

  before_shares : (g h : ℕ) → g < c.slots → h < c.slots → AllAfter p b h g → shared g h ≡ true
  before_shares g h gs hs all =
      let rows = after_rows p (marks_in p b) c (groups c.slots) in
      or_left (comes_after rows g h || comes_after rows h g) (list_any (is_apart g h) (table_of p (marks_in p b) c).splits)
      (or_right (comes_after rows g h) (comes_after rows h g) ((comes_after_exact h g hs gs).1 all))

  sides_share : (g h : ℕ) (m : Mark) (side : Bool) → g < c.slots → h < c.slots → AllOnSide p b g m side → AllOnSide p b h m (not side) → shared g h ≡ true
  sides_share g h m side gs hs one other = by_test (list_any (same_mark m) (distinct [] (marks_in p b))) refl
    where
      apart : (t : Bool) → AllOnSide p b g m t → AllOnSide p b h m (not t) → OnSides g h m
      apart true a b' = inl (a, b')
      apart false a b' = inr (a, b')

      by_test : (t : Bool) → list_any (same_mark m) (distinct [] (marks_in p b)) ≡ t → shared g h ≡ true
      by_test true known =
          let rows = after_rows p (marks_in p b) c (groups c.slots) in
          or_right (comes_after rows g h || comes_after rows h g) (list_any (is_apart g h) (table_of p (marks_in p b) c).splits)
          (known_apart p c (marks_in p b) g h m (distinct [] (marks_in p b)) known ((apart_exact g h m gs hs).1 (apart side one other)))
      by_test false unknown = after_shares g h gs hs (λ q is. absurd (nothing_follows (IsSide p b m side) (no_side m side unknown) q (one q is)))

  from_shared : (g h : ℕ) → g < c.slots → h < c.slots → shared g h ≡ true → MayShare p b g h
  from_shared g h gs hs e =
      let rows = after_rows p (marks_in p b) c (groups c.slots) in
      ⊎_elim
      (λ a. ⊎_elim
      (λ d. inr (inl ((comes_after_exact g h gs hs).0 d)))
      (λ d. inr (inr ((comes_after_exact h g hs gs).0 d)))
      (or_cases (comes_after rows g h) (comes_after rows h g) a))
      (λ a.
      let w = any_apart p c (marks_in p b) g h (distinct [] (marks_in p b)) (groups (length (distinct [] (marks_in p b)))) a in
      ⊎_elim (λ s. inl (w.0, true, s.0, s.1)) (λ s. inl (w.0, false, s.0, s.1)) ((apart_exact g h w.0 gs hs).0 w.1))
      (or_cases (comes_after rows g h || comes_after rows h g) (list_any (is_apart g h) (table_of p (marks_in p b) c).splits) e)

  pub shared_exact : (g h : ℕ) → g < c.slots → h < c.slots → Decides (shared g h) (MayShare p b g h)
  shared_exact g h gs hs = (from_shared g h gs hs, λ w. to_shared w)
    where
      to_shared : MayShare p b g h → shared g h ≡ true
      to_shared (inl s) = sides_share g h s.0 s.1 gs hs s.2 s.3
      to_shared (inr (inl a)) = after_shares g h gs hs a
      to_shared (inr (inr a)) = before_shares g h gs hs a

  pub other_way : (g h : ℕ) → MayShare p b g h → MayShare p b h g
  other_way g h (inl s) = inl (s.0, not s.1, s.3, turned s.1 s.2)
    where
      turned : (t : Bool) → AllOnSide p b g s.0 t → AllOnSide p b g s.0 (not (not t))
      turned true a = a
      turned false a = a
  other_way g h (inr (inl a)) = inr (inr a)
  other_way g h (inr (inr a)) = inr (inl a)
