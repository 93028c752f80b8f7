-- A narrowed plan is a plan: each of its instructions is an old one in its place, or a copy.
use Rattle.std.proofs.Common.{◌≡◌, ◌≢◌, ℕ, zero, suc, ◌+◌, ◌<◌, Bool, true, false, ◌&&◌, List, ◌∷◌, length, replicate, refl, sym, ap, ◌∙◌, subst}
use Rattle.std.proofs.Common.{inl, inr, ◌⊎◌, arith, Some, None, not-suc-le-zero, le_of_suc-le-suc, map, []}
use Rattle.std.specs.Option.{option_map}
use Rattle.std.specs.Prelude.{slice_get, All}
use Rattle.std.proofs.lemmas.Option.{slice_get_within, slice_get-get_or, get_or_from_slice_get, slice_get-map}
use Rattle.std.proofs.lemmas.List.{length-replicate}
use Rattle.std.proofs.lemmas.List.Elements.{All-cons, All-nil, All-append, All-head, All-tail}
use Rattle.lemmas.proofs.Alls.{all_at}
use Rattle.lemmas.proofs.SliceGet.{map_get_back}
use Rattle.semantics.specs.declared.program.Op.TheVariants as Program
use Rattle.semantics.specs.declared.program.Op.{Op}
use Rattle.semantics.specs.declared.program.Op.TheVariants.{Apply2, Sync, Switch, Store, Send, Return, Ask, Release, Open, Take, Give, Drain}
use Rattle.semantics.specs.declared.program.Dest.{Dest}
use Rattle.semantics.specs.declared.program.Mark.{Mark}
use Rattle.semantics.specs.declared.program.Mark.TheVariants.{Unmarked}
use Rattle.semantics.specs.Program.{Instr, CodeBlock}
use Rattle.semantics.specs.Rule.{slot_of}
use Rattle.semantics.specs.Plan.{Plan, mark_in, mark_at, is_credit, is_open, OneHolder, IsPlanBlock}
use Rattle.semantics.specs.Wired.{bound_of, part_of, LoopsAgree}
use Rattle.code.specs.Marks.{marks_in}
use Rattle.fanout.specs.Sides.{copies, parted}
use Rattle.fanout.specs.Rows.{tied_in}
use Rattle.fanout.specs.Places.{Layout, size, layout_with, place_of, base_of}
use Rattle.fanout.specs.Trees.{copy_at, tree, copies_of, moved}
use Rattle.fanout.specs.Narrowed.{parts_of, mark_of, unmarked, narrowed, narrowed_block, narrowed_marks, narrowed_blocks, all_marks}
use Rattle.fanout.specs.Laws.{StaysPlan, MarksStay, LoopsStay}
use Rattle.fanout.proofs.Positions.{one_at, more_at}
use Rattle.fanout.proofs.Spots.{sized, stands, place_is, base_is, IsMoved, IsCopied, comes_here}
use Rattle.fanout.proofs.Flags.{tied_length}
use Rattle.fanout.proofs.Shapes.{block_shapes}
use Rattle.fanout.proofs.Maps.{same_mark}

-- COPIES
abbrev Copies : Instr → Type 0
Copies i = i.op ≡ Program.Copy

tree_copies : (l : Layout) (n root : ℕ) (ds : List Dest) (k : ℕ) → All Copies (tree l n root ds k)
tree_copies l n root ds zero = All-nil Copies
tree_copies l n root ds (suc k) = All-append Copies (tree l n root ds k) (copy_at l n (root + k) k ds ∷ []) (tree_copies l n root ds k)
    (All-cons Copies (copy_at l n (root + k) k ds) [] refl (All-nil Copies))

pub all_copies : (l : Layout) (n : ℕ) (i : Instr) → All Copies (copies_of l n i)
all_copies l n i = All-append Copies _ _ (tree_copies l n (base_of l n) i.firsts (copies i.firsts)) (tree_copies l n (base_of l n + copies i.firsts)
    i.seconds (copies i.seconds))

no_slot : (i : Instr) (h : ℕ) → i.op ≡ Program.Copy → slot_of i i.op ≡ Some h → ⊥
no_slot i h e s = impossible (sym (ap (slot_of i) e) ∙ s)
  where
    impossible : None ≡ Some h → ⊥
    impossible x = absurd (cc)

pub slot_same : (i j : Instr) (op : Op) → i.slot ≡ j.slot → slot_of i op ≡ slot_of j op
slot_same i j (Apply2 op) e = ap Some e
slot_same i j Sync e = ap Some e
slot_same i j Switch e = ap Some e
slot_same i j (Store a) e = ap Some e
slot_same i j (Send b n) e = ap Some e
slot_same i j (Return o) e = ap Some e
slot_same i j (Ask o) e = ap Some e
slot_same i j (Release o) e = ap Some e
slot_same i j (Open k) e = ap Some e
slot_same i j (Take k) e = ap Some e
slot_same i j (Give k) e = ap Some e
slot_same i j (Drain k) e = ap Some e
slot_same i j op e = refl

-- ONE BLOCK
module _ (p : Plan) (c : CodeBlock) where
  abbrev pub is : List Instr
  is = parts_of c

  abbrev pub ts : List Bool
  ts = tied_in p c.inputs is

  abbrev pub l : Layout
  l = layout_with ts is

  pub all : length ts ≡ length is
  all = tied_length p c.inputs is

  -- an old instruction in its place
  pub record IsOld (x : ℕ) (y : Instr) : Type 0 where
    pub v : ℕ
    pub i : Instr
    pub there : slice_get c.instrs v ≡ Some i
    pub at : x ≡ place_of l v
    pub op : y.op ≡ i.op
    pub slot : y.slot ≡ i.slot

  -- a copy of one
  pub record IsNew (x : ℕ) (y : Instr) : Type 0 where
    pub v : ℕ
    pub i : Instr
    pub j : ℕ
    pub there : slice_get is v ≡ Some i
    pub below : j < size i
    pub at : x ≡ base_of l v + j
    pub op : y.op ≡ Program.Copy

  pub origin_of : (x : ℕ) (y : Instr) → slice_get (narrowed_block p c).instrs x ≡ Some y → IsOld x y ⊎ IsNew x y
  origin_of x y e = pick (comes_here ts is all x y e)
    where
      pick : IsMoved ts is all x y ⊎ IsCopied ts is all x y → IsOld x y ⊎ IsNew x y
      pick (inl o) =
          let q = map_get_back parted c.instrs o.v o.i o.there in
          inl (record {
            v = o.v;
            i = q.0;
            there = q.1;
            at = o.at;
            op = sym (ap (λ (i : Instr). i.op) o.what) ∙ sym (ap (λ (i : Instr). i.op) q.2);
            slot = sym (ap (λ (i : Instr). i.slot) o.what) ∙ sym (ap (λ (i : Instr). i.slot) q.2);
          })
      pick (inr o) =
          let k = slice_get_within (copies_of l o.v o.i) o.j y o.what in let s = sized l o.v o.i in
          inr (record {
            v = o.v;
            i = o.i;
            j = o.j;
            there = o.there;
            below = omega (arith, k, s);
            at = o.at;
            op = all_at Copies (copies_of l o.v o.i)
                o.j y (all_copies l o.v o.i) o.what;
          })

  -- what has a slot is an old instruction
  held_is_old : (x h : ℕ) (y : Instr) → slice_get (narrowed_block p c).instrs x ≡ Some y → slot_of y y.op ≡ Some h → (o : IsOld x y)
      × (slot_of o.i o.i.op ≡ Some h)
  held_is_old x h y e s = pick (origin_of x y e)
    where
      pick : IsOld x y ⊎ IsNew x y → (o : IsOld x y) × (slot_of o.i o.i.op ≡ Some h)
      pick (inl o) = (o, ap (slot_of o.i) (sym o.op) ∙ sym (slot_same y o.i y.op o.slot) ∙ s)
      pick (inr o) = absurd (no_slot y h o.op s)

  same_place : (x z : ℕ) (y u : Instr) (o : IsOld x y) (q : IsOld z u) → o.v ≡ q.v → x ≡ z
  same_place x z y u o q e = o.at ∙ ap (place_of l) e ∙ sym q.at

  holders : OneHolder c → OneHolder (narrowed_block p c)
  holders old m n h i j e f s t =
      let a = held_is_old m h i e s in let b = held_is_old n h j f t in
      pick a.0 b.0 (old a.0.v b.0.v h a.0.i b.0.i a.0.there b.0.there a.1 b.1)
    where
      pick : (o : IsOld m i) (q : IsOld n j) → (o.v ≡ q.v) ⊎ ((is_credit o.i.op ≡ true) × (is_credit q.i.op ≡ true)
          × (is_open o.i.op && is_open q.i.op ≡ false))
          → (m ≡ n) ⊎ ((is_credit i.op ≡ true) × (is_credit j.op ≡ true) × (is_open i.op && is_open j.op ≡ false))
      pick o q (inl g) = inl (same_place m n i j o q g)
      pick o q (inr (g, k, u)) = inr (ap is_credit o.op ∙ g, ap is_credit q.op ∙ k, (λ z. is_open (o.op z) && is_open (q.op z)) ∙ u)

  pub loops : LoopsAgree c → LoopsAgree (narrowed_block p c)
  loops old m n h i j e f s t =
      let a = held_is_old m h i e s in let b = held_is_old n h j f t in
      let k = old a.0.v b.0.v h a.0.i b.0.i a.0.there b.0.there a.1 b.1 in (
        ap (λ op. bound_of (part_of op)) a.0.op ∙ k.0 ∙ sym (ap (λ op. bound_of (part_of op)) b.0.op),
        λ g. same_place m n i j a.0 b.0
            (k.1 (sym (ap part_of a.0.op) ∙ g ∙ ap part_of b.0.op)),
      )

  pub at_place : (n : ℕ) (i : Instr) → slice_get c.instrs n ≡ Some i → slice_get (narrowed_block p c).instrs (place_of l n) ≡ Some (moved l n (parted i))
  at_place n i e = stands ts is all n (parted i) (part_here c.instrs n i e)
    where
      part_here : (is : List Instr) (n : ℕ) (i : Instr) → slice_get is n ≡ Some i → slice_get (map parted is) n ≡ Some (parted i)
      part_here [] n i e = absurd (cc)
      part_here (j ∷ is) zero i e = let k : j ≡ i = cc in ap (λ i. Some (parted i)) k
      part_here (j ∷ is) (suc n) i e = part_here is n i e

  pub plan_block : IsPlanBlock c → IsPlanBlock (narrowed_block p c)
  plan_block old = record {
    shapes = block_shapes p c old.shapes;
    holders = holders old.holders;
    below = λ i h k s.
        let e = slice_get-get_or (narrowed_block p c).instrs k.0 i k.1 ∙ ap Some k.2 in
        let o = held_is_old k.0 h i e s in
        old.below o.0.i h (o.0.v, slice_get_within c.instrs o.0.v o.0.i o.0.there, get_or_from_slice_get c.instrs o.0.v o.0.i o.0.i o.0.there) o.1;
    used = λ h k.
        let u = old.used h k in
        (place_of l u.0, moved l u.0 (parted u.1), at_place u.0 u.1 u.2, slot_same (moved l u.0 (parted u.1)) u.1 u.1.op refl ∙ u.3, u.4);
  }

  -- MARKS
  module _ (ms : List Mark) where
    marks : List Mark
    marks = narrowed_marks p ms c

    old_mark : (x : ℕ) (y : Instr) (o : IsOld x y) → slice_get (narrowed_marks p ms c) x ≡ Some (mark_of ms o.v)
    old_mark x y o =
        let i = slice_here o in
        ap (slice_get (narrowed_marks p ms c)) o.at ∙ one_at ts (λ n i. mark_of ms n) unmarked (λ n i. length-replicate (size i) Unmarked) is o.v
        (place_of l o.v) (parted o.i) i (place_is ts is all o.v (parted o.i) i)
      where
        slice_here : (o : IsOld x y) → slice_get is o.v ≡ Some (parted o.i)
        slice_here o = slice_get-map parted c.instrs o.v ∙ ap (option_map parted) o.there

    none_here : (k j : ℕ) → j < k → slice_get (replicate k Unmarked) j ≡ Some Unmarked
    none_here zero j h = absurd (not-suc-le-zero h)
    none_here (suc k) zero h = refl
    none_here (suc k) (suc j) h = none_here k j (le_of_suc-le-suc h)

    new_mark : (x : ℕ) (y : Instr) (o : IsNew x y) → slice_get (narrowed_marks p ms c) x ≡ Some Unmarked
    new_mark x y o =
        ap (slice_get (narrowed_marks p ms c)) o.at
        ∙ more_at ts (λ n i. mark_of ms n) unmarked (λ n i. length-replicate (size i) Unmarked) is o.v (base_of l o.v) o.j o.i Unmarked all o.there
        (base_is ts is all o.v o.i o.there) (none_here (size o.i) o.j o.below)

-- ALL BLOCKS
all_marks_get : (p : Plan) (n : ℕ) (cs : List CodeBlock) (k : ℕ) (c : CodeBlock) → slice_get cs k ≡ Some c → slice_get (all_marks p n cs) k
    ≡ Some (narrowed_marks p (marks_in p (n + k)) c)
all_marks_get p n [] k c e = absurd (cc)
all_marks_get p n (d ∷ cs) zero c e = let z : n ≡ n + 0 = omega arith in let f : d ≡ c = cc in (λ k. Some (narrowed_marks p (marks_in p (z k)) (f k)))
all_marks_get p n (d ∷ cs) (suc k) c e = let z : n + 1 + k ≡ n + suc k = omega arith in all_marks_get p (n + 1) cs k c e
    ∙ ap (λ n. Some (narrowed_marks p (marks_in p n) c)) z

module _ (p : Plan) (b : ℕ) (c : CodeBlock) (here : slice_get p.program.blocks b ≡ Some c) where
  marks_here : slice_get (all_marks p 0 p.program.blocks) b ≡ Some (narrowed_marks p (marks_in p b) c)
  marks_here = let z : 0 + b ≡ b = omega arith in all_marks_get p 0 p.program.blocks b c here ∙ ap (λ n. Some (narrowed_marks p (marks_in p n) c)) z

  mark_by : (x : ℕ) (m : Mark) → slice_get (narrowed_marks p (marks_in p b) c) x ≡ Some m → mark_at (narrowed p) b x ≡ m
  mark_by x m e = ap (λ o. mark_in o x) marks_here ∙ ap (λ o. elim o as (λ x. Mark) [ None ↦ Unmarked | Some m ↦ m ]) e

  -- an old instruction has its mark, and a copy none
  pub mark_old : (x : ℕ) (y : Instr) (o : IsOld p c x y) → mark_at (narrowed p) b x ≡ mark_at p b o.v
  mark_old x y o = mark_by x (mark_of (marks_in p b) o.v) (old_mark p c (marks_in p b) x y o) ∙ same_mark (slice_get p.marks b) o.v

  pub mark_new : (x : ℕ) (y : Instr) (o : IsNew p c x y) → mark_at (narrowed p) b x ≡ Unmarked
  mark_new x y o = mark_by x Unmarked (new_mark p c (marks_in p b) x y o)

not_copy : (i : Instr) → i.op ≡ Program.Copy → i.op ≡ Switch → ⊥
not_copy i e f = impossible (sym e ∙ f)
  where
    impossible : Program.Copy ≡ Switch → ⊥
    impossible x = absurd (cc)

blocks_plan : (p : Plan) (cs : List CodeBlock) → All IsPlanBlock cs → All IsPlanBlock (narrowed_blocks p cs)
blocks_plan p [] h = All-nil IsPlanBlock
blocks_plan p (c ∷ cs) h =
    All-cons IsPlanBlock (narrowed_block p c) (narrowed_blocks p cs) (plan_block p c (All-head IsPlanBlock c cs h))
    (blocks_plan p cs (All-tail IsPlanBlock c cs h))

pub stays_plan : StaysPlan
stays_plan p h = record {
  blocks = blocks_plan p p.program.blocks h.blocks;
  marked = λ b n c i e f s.
      let o = map_get_back (narrowed_block p) p.program.blocks b c e in
      by_origin b n o.0 i o.1 s (origin_of p o.0 n i (ap (λ (c : CodeBlock). slice_get c.instrs n) o.2 ∙ f));
}
  where
    by_origin : (b n : ℕ) (c : CodeBlock) (i : Instr) → slice_get p.program.blocks b ≡ Some c → i.op ≡ Switch → IsOld p c n i ⊎ IsNew p c n i
        → mark_at (narrowed p) b n ≢ Unmarked
    by_origin b n c i e s (inl o) = λ k. h.marked b o.v c o.i e o.there (sym o.op ∙ s) (sym (mark_old p b c e n i o) ∙ k)
    by_origin b n c i e s (inr o) = λ k. not_copy i o.op s

pub marks_stay : MarksStay
marks_stay p h b n c i e f k =
    let o = map_get_back (narrowed_block p) p.program.blocks b c e in
    by_origin o.0 o.1 (origin_of p o.0 n i (ap (λ (c : CodeBlock). slice_get c.instrs n) o.2 ∙ f))
  where
    by_origin : (c : CodeBlock) → slice_get p.program.blocks b ≡ Some c → IsOld p c n i ⊎ IsNew p c n i → i.op ≡ Switch
    by_origin c e (inl o) = o.op ∙ h b o.v c o.i e o.there (λ g. k (mark_old p b c e n i o ∙ g))
    by_origin c e (inr o) = absurd (k (mark_new p b c e n i o))

pub loops_stay : LoopsStay
loops_stay p h b c e =
    let o = map_get_back (narrowed_block p) p.program.blocks b c e in subst LoopsAgree o.2 (loops p o.0 (h b o.0 o.1))
