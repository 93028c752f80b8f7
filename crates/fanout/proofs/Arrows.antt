-- Destinations of a narrowed plan: each is a later instruction of its block.
use Rattle.std.proofs.Common.{◌≡◌, ℕ, ◌+◌, ◌-◌, ◌*◌, ◌<◌, ◌≤◌, Bool, true, false, List, ◌∷◌, ◌++◌, map, length, refl, sym, ap, ◌∙◌, subst, inl, inr}
use Rattle.std.proofs.Common.{◌⊎◌, arith, Option, Some, None, nat_lt, if◌then◌else◌, []}
use Rattle.std.specs.Prelude.{slice_get, Contains}
use Rattle.std.proofs.lemmas.Bool.{ltb-true, ltb-false}
use Rattle.std.specs.Option.{option_map}
use Rattle.std.proofs.lemmas.Option.{slice_get_within, slice_get-map}
use Rattle.std.proofs.lemmas.List.Elements.{Contains-append_left, Contains-append_right, Contains-append_cases}
use Rattle.lemmas.proofs.Contains.{contains_cases, contains_mapped, contains_none, get_contains}
use Rattle.lemmas.proofs.SliceGet.{map_get_back, get_append_cases, get_some}
use Rattle.tags.specs.declared.token.Port.TheVariants.{Left, Right}
use Rattle.semantics.specs.declared.program.Dest.{Dest}
use Rattle.semantics.specs.Program.{Instr, CodeBlock}
use Rattle.semantics.specs.Rule.{slot_of}
use Rattle.semantics.specs.Plan.{Plan, is_credit}
use Rattle.semantics.specs.Bytes.{is_dyadic, IsDest}
use Rattle.fanout.specs.Sides.{copies, parted}
use Rattle.fanout.specs.Places.{Layout, size, place_of, base_of}
use Rattle.fanout.specs.Trees.{dest_at, leaf, leaf_or, child, side, tree, copy_at, copies_of, moved}
use Rattle.fanout.specs.Narrowed.{parts_of, narrowed_block}
use Rattle.fanout.specs.Laws.{AreApart, DestsStay}
use Rattle.fanout.proofs.Spots.{length-tree, get-tree, sized, copy_stands, before_copies, past_copies, IsMoved, IsCopied, comes_here}
use Rattle.fanout.proofs.Parted.{parted_all}
use Rattle.fanout.proofs.Plans.{is, ts, l, all, slot_same, at_place}

abbrev dyadic_by : Option ℕ → Bool → Bool
dyadic_by o credit = elim o as (λ x. Bool) [ None ↦ false | Some r ↦ if credit then false else true ]

dyadic_same : (i j : Instr) → i.op ≡ j.op → i.slot ≡ j.slot → is_dyadic (Some i) ≡ is_dyadic (Some j)
dyadic_same i j e f = (λ k. dyadic_by ((slot_same i j i.op f ∙ ap (slot_of j) e) k) (is_credit (e k)))

-- what a side or a copy names: a copy of the side, or one of its destinations
abbrev Root : ℕ → ℕ → List Dest → Dest → Type 0
Root at root ds d = (1 < length ds) × (dest_at at root Left ≡ d)

abbrev Leaf : Layout → ℕ → ℕ → List Dest → Dest → Type 0
Leaf l n at ds d = (e : Dest) × Contains ds e × (leaf l n at e ≡ d)

side_cases : (l : Layout) (n at root : ℕ) (ds : List Dest) (d : Dest) → Contains (side l n at root ds) d → Root at root ds d ⊎ Leaf l n at ds d
side_cases l n at root ds d h = by_test (nat_lt 1 (length ds)) refl h
  where
    by_test : (t : Bool) → nat_lt 1 (length ds) ≡ t → Contains (if t then dest_at at root Left ∷ [] else map (leaf l n at) ds) d
        → Root at root ds d ⊎ Leaf l n at ds d
    by_test true t h = pick (contains_cases (dest_at at root Left) [] d h)
      where
        pick : (dest_at at root Left ≡ d) ⊎ Contains [] d → Root at root ds d ⊎ Leaf l n at ds d
        pick (inl e) = inl (ltb-true 1 (length ds) t, e)
        pick (inr k) = absurd (contains_none d k)
    by_test false t h = let m = contains_mapped (leaf l n at) ds d h in inr (m.0, m.1, m.2)

child_cases : (l : Layout) (n at j : ℕ) (ds : List Dest) (c : ℕ) → c ≤ 2 * copies ds → 0 < copies ds
    → ((c < copies ds) × (dest_at j c Left ≡ child l n at j ds c)) ⊎ Leaf l n at ds (child l n at j ds c)
child_cases l n at j ds c high some = by_test (nat_lt c (copies ds)) refl
  where
    by_test : (t : Bool) → nat_lt c (copies ds) ≡ t
        → ((c < copies ds) × (dest_at j c Left ≡ (if t then dest_at j c Left else leaf_or l n at (slice_get ds (c - copies ds))))) ⊎ Leaf l n at ds
        (if t then dest_at j c Left else leaf_or l n at (slice_get ds (c - copies ds)))
    by_test true t = inl (ltb-true c (copies ds) t, refl)
    by_test false t =
        let k = ltb-false c (copies ds) t in
        let d = get_some ds (c - copies ds) (omega (arith, k, high, some)) in
        inr (d.0, get_contains ds (c - copies ds) d.0 d.1, sym (ap (leaf_or l n at) d.1))

-- ONE INSTRUCTION of a block. What holds of its destinations, wherever they are named from before the end of its copies,
-- and of its copies, named from before them, holds of all that it and its copies name.
abbrev pub Known : Plan → CodeBlock → (ℕ → Dest → Type 0) → ℕ → Instr → Type 0
Known p c G v i =
    ((at : ℕ) (d : Dest) → at < base_of (l p c) v + size (parted i) → Contains (i.firsts ++ i.seconds) d → G at (leaf (l p c) v at d))
    × ((at q ahead : ℕ) → at + ahead ≡ base_of (l p c) v + q → 0 < ahead → q < size (parted i) → G at (record { ahead = ahead; port = Left }))

module _ (p : Plan) (c : CodeBlock) (v : ℕ) (i : Instr) (here : slice_get (is p c) v ≡ Some (parted i))
    (apart : (d : Dest) → Contains (i.firsts ++ i.seconds) d → AreApart (ts p c) v (v + d.ahead)) (dests : (d : Dest)
    → Contains (i.firsts ++ i.seconds) d → IsDest c v d) where
  abbrev made : List Instr
  made = (narrowed_block p c).instrs

  abbrev root : ℕ
  root = base_of (l p c) v

  abbrev count : ℕ
  count = size (parted i)

  copy_within : (q : ℕ) → q < count → root + q < length made
  copy_within q h =
      let s = sized (l p c) v (parted i) in let k = get_some (copies_of (l p c) v (parted i)) q (omega (arith, h, s)) in
      slice_get_within made (root + q) k.0 (copy_stands (ts p c) (is p c) (all p c) v q (parted i) k.0 here k.1)

  -- the destination's place is after the copies
  pub past : (d : Dest) → Contains (i.firsts ++ i.seconds) d → root + count ≤ place_of (l p c) (v + d.ahead)
  past d h =
      let t = v + d.ahead in
      let to = get_some c.instrs t (dests d h).inside in
      let a = apart d h in
      let in_parts : slice_get (is p c) t ≡ Some (parted to.0) = slice_get-map parted c.instrs t ∙ ap (option_map parted) to.1 in
      past_copies (ts p c) (is p c) (all p c) v t a.0 (parted i) (parted to.0) here in_parts a.1 a.2 a.3

  leaf_is : (at : ℕ) (d : Dest) → at < root + count → Contains (i.firsts ++ i.seconds) d → IsDest (narrowed_block p c) at (leaf (l p c) v at d)
  leaf_is at d low h =
      let t = v + d.ahead in
      let old = dests d h in
      let to = get_some c.instrs t old.inside in
      let new = at_place p c t to.0 to.1 in
      let far = past d h in
      let within = slice_get_within made (place_of (l p c) t) (moved (l p c) t (parted to.0)) new in
      let z : at + (place_of (l p c) t - at) ≡ place_of (l p c) t = omega (arith, low, far) in
      record {
        later = omega (arith, low, far);
        inside = omega (arith, within, z);
        right = λ r. ap (λ m. is_dyadic (slice_get made m)) z ∙ ap is_dyadic new ∙ dyadic_same (moved (l p c) t (parted to.0)) to.0 refl refl
            ∙ sym (ap is_dyadic to.1) ∙ old.right r;
      }

  -- a copy, named by what is before it
  copy_is : (at q ahead : ℕ) → at + ahead ≡ root + q → 0 < ahead → q < count → IsDest (narrowed_block p c) at (record { ahead = ahead; port = Left })
  copy_is at q ahead e some low = let k = copy_within q low in record {
    later = some;
    inside = omega (arith, e, k);
    right = λ r. absurd (not_right r);
  }
    where
      not_right : Left ≡ Right → ⊥
      not_right r = absurd (cc)

  pub dests_known : Known p c (IsDest (narrowed_block p c)) v i
  dests_known = (leaf_is, copy_is)

module _ (p : Plan) (c : CodeBlock) (v : ℕ) (i : Instr) (here : slice_get (is p c) v ≡ Some (parted i)) (G : ℕ → Dest → Type 0) (known : Known p c G v i) where
  abbrev base : ℕ
  base = base_of (l p c) v

  abbrev all_of : ℕ
  all_of = size (parted i)

  -- one side, of which the first copy is at the o-th copy of the instruction
  module _ (ds : List Dest) (o : ℕ) (fits : o + copies ds ≤ all_of) (part : (d : Dest) → Contains ds d → Contains (i.firsts ++ i.seconds) d) where
    side_is : (d : Dest) → Contains (side (l p c) v (place_of (l p c) v) (base + o) ds) d → G (place_of (l p c) v) d
    side_is d h = pick (side_cases (l p c) v (place_of (l p c) v) (base + o) ds d h)
      where
        first : place_of (l p c) v < base
        first = before_copies (ts p c) (is p c) (all p c) v (parted i) here

        pick : Root (place_of (l p c) v) (base + o) ds d ⊎ Leaf (l p c) v (place_of (l p c) v) ds d → G (place_of (l p c) v) d
        pick (inl (some, e)) =
            subst (G (place_of (l p c) v)) e (known.1 (place_of (l p c) v) o (base + o - place_of (l p c) v) (omega (arith, first))
            (omega (arith, first)) (omega (arith, fits, some)))
        pick (inr (a, k, e)) = subst (G (place_of (l p c) v)) e (known.0 (place_of (l p c) v) a (omega (arith, first)) (part a k))

    child_is : (j k : ℕ) → j < copies ds → j < k → k ≤ 2 * copies ds → G (base + o + j) (child (l p c) v (base + o + j) j ds k)
    child_is j k low up high = pick (child_cases (l p c) v (base + o + j) j ds k high (omega (arith, low)))
      where
        pick : ((k < copies ds) × (dest_at j k Left ≡ child (l p c) v (base + o + j) j ds k)) ⊎ Leaf (l p c) v (base + o + j) ds
            (child (l p c) v (base + o + j) j ds k)
            → G (base + o + j) (child (l p c) v (base + o + j) j ds k)
        pick (inl (some, e)) = subst (G (base + o + j)) e (known.1 (base + o + j) (o + k) (k - j) (omega (arith, up)) (omega (arith, up))
            (omega (arith, fits, some)))
        pick (inr (a, h, e)) = subst (G (base + o + j)) e (known.0 (base + o + j) a (omega (arith, fits, low)) (part a h))

    abbrev kid : ℕ → ℕ → Dest
    kid j k = child (l p c) v (base + o + j) j ds k

    copy_names : (j : ℕ) (d : Dest) → j < copies ds → Contains ((copy_at (l p c) v (base + o + j) j ds).firsts
        ++ (copy_at (l p c) v (base + o + j) j ds).seconds) d → G (base + o + j) d
    copy_names j d low h = pick (contains_cases (kid j (2 * j + 1)) (kid j (2 * j + 2) ∷ []) d h)
      where
        last : (kid j (2 * j + 2) ≡ d) ⊎ Contains [] d → G (base + o + j) d
        last (inl e) = subst (G (base + o + j)) e (child_is j (2 * j + 2) low (omega arith) (omega (arith, low)))
        last (inr k) = absurd (contains_none d k)

        pick : (kid j (2 * j + 1) ≡ d) ⊎ Contains (kid j (2 * j + 2) ∷ []) d → G (base + o + j) d
        pick (inl e) = subst (G (base + o + j)) e (child_is j (2 * j + 1) low (omega arith) (omega (arith, low)))
        pick (inr k) = last (contains_cases (kid j (2 * j + 2)) [] d k)

  abbrev ones : List Dest
  ones = (parted i).firsts

  abbrev twos : List Dest
  twos = (parted i).seconds

  abbrev first_tree : List Instr
  first_tree = tree (l p c) v base ones (copies ones)

  abbrev second_tree : List Instr
  second_tree = tree (l p c) v (base + copies ones) twos (copies twos)

  whole : (d : Dest) → Contains (ones ++ twos) d → Contains (i.firsts ++ i.seconds) d
  whole d h = subst (λ ds. Contains ds d) (parted_all i) h

  moved_names : (d : Dest) → Contains ((moved (l p c) v (parted i)).firsts ++ (moved (l p c) v (parted i)).seconds) d → G (place_of (l p c) v) d
  moved_names d h = pick (Contains-append_cases (moved (l p c) v (parted i)).firsts (moved (l p c) v (parted i)).seconds d h)
    where
      z : base + 0 ≡ base
      z = omega arith

      pick : Contains (moved (l p c) v (parted i)).firsts d ⊎ Contains (moved (l p c) v (parted i)).seconds d → G (place_of (l p c) v) d
      pick (inl k) = side_is ones 0 (omega arith) (λ d h. whole d (Contains-append_left ones twos d h)) d
          (subst (λ root. Contains (side (l p c) v (place_of (l p c) v) root ones) d) (sym z) k)
      pick (inr k) = side_is twos (copies ones) (omega arith) (λ d h. whole d (Contains-append_right ones twos d h)) d k

  copied_names : (j : ℕ) (y : Instr) (d : Dest) → slice_get (copies_of (l p c) v (parted i)) j ≡ Some y → Contains (y.firsts ++ y.seconds) d → G (base + j) d
  copied_names j y d e h = pick (get_append_cases _ _ j y e)
    where
      some : (a b : Instr) → Some a ≡ Some b → a ≡ b
      some a b e = cc

      long : length first_tree ≡ copies ones
      long = length-tree (l p c) v base ones (copies ones)

      long' : length second_tree ≡ copies twos
      long' = length-tree (l p c) v (base + copies ones) twos (copies twos)

      of_first : slice_get first_tree j ≡ Some y → G (base + j) d
      of_first f =
          let low : j < copies ones = (let k = slice_get_within first_tree j y f in omega (arith, k, long)) in
          let z : base + 0 + j ≡ base + j = omega arith in
          let same : copy_at (l p c) v (base + 0 + j) j ones ≡ y = ap (λ at. copy_at (l p c) v at j ones) z
          ∙ some _ _ (sym (get-tree (l p c) v base ones (copies ones) j low) ∙ f) in
          subst (λ at. G at d) z
          (copy_names ones 0 (omega arith) (λ d h. whole d (Contains-append_left ones twos d h)) j d low
          (subst (λ (y : Instr). Contains (y.firsts ++ y.seconds) d) (sym same) h))

      of_second : (k : ℕ) → j ≡ length first_tree + k → slice_get second_tree k ≡ Some y → G (base + j) d
      of_second k g f =
          let low : k < copies twos = (let m = slice_get_within second_tree k y f in omega (arith, m, long')) in
          let z : base + copies ones + k ≡ base + j = omega (arith, g, long) in
          let same : copy_at (l p c) v (base + copies ones + k) k twos
          ≡ y = some _ _ (sym (get-tree (l p c) v (base + copies ones) twos (copies twos) k low) ∙ f) in
          subst (λ at. G at d) z
          (copy_names twos (copies ones) (omega arith) (λ d h. whole d (Contains-append_right ones twos d h)) k d low
          (subst (λ (y : Instr). Contains (y.firsts ++ y.seconds) d) (sym same) h))

      pick : (slice_get first_tree j ≡ Some y) ⊎ ((k : ℕ) × (j ≡ length first_tree + k) × (slice_get second_tree k ≡ Some y)) → G (base + j) d
      pick (inl f) = of_first f
      pick (inr (k, g, f)) = of_second k g f

-- ONE BLOCK
pub names_all : (p : Plan) (c : CodeBlock) (G : ℕ → Dest → Type 0) → ((v : ℕ) (i : Instr) → slice_get c.instrs v ≡ Some i → Known p c G v i)
    → (n : ℕ) (y : Instr) (d : Dest) → slice_get (narrowed_block p c).instrs n ≡ Some y → Contains (y.firsts ++ y.seconds) d → G n d
names_all p c G known n y d there named = pick (comes_here (ts p c) (is p c) (all p c) n y there)
  where
    pick : IsMoved (ts p c) (is p c) (all p c) n y ⊎ IsCopied (ts p c) (is p c) (all p c) n y → G n d
    pick (inl m) =
        let q = map_get_back parted c.instrs m.v m.i m.there in
        let here : slice_get (is p c) m.v ≡ Some (parted q.0) = m.there ∙ ap Some (sym q.2) in
        subst (λ n. G n d) (sym m.at)
        (moved_names p c m.v q.0 here G (known m.v q.0 q.1) d (subst (λ (y : Instr). Contains (y.firsts ++ y.seconds) d)
        (sym (ap (moved (l p c) m.v) q.2 ∙ m.what)) named))
    pick (inr m) =
        let q = map_get_back parted c.instrs m.v m.i m.there in
        let here : slice_get (is p c) m.v ≡ Some (parted q.0) = m.there ∙ ap Some (sym q.2) in
        let what : slice_get (copies_of (l p c) m.v (parted q.0)) m.j ≡ Some y = ap (λ i. slice_get (copies_of (l p c) m.v i) m.j) q.2 ∙ m.what in
        subst (λ n. G n d) (sym m.at) (copied_names p c m.v q.0 here G (known m.v q.0 q.1) m.j y d what named)

-- an old instruction, with its destinations in two sides
pub in_parts : (c : CodeBlock) (v : ℕ) (i : Instr) → slice_get c.instrs v ≡ Some i → slice_get (parts_of c) v ≡ Some (parted i)
in_parts c v i e = slice_get-map parted c.instrs v ∙ ap (option_map parted) e

-- ALL BLOCKS
pub dests_stay : DestsStay
dests_stay p leaves old b n c d h = of_old o.0 o.1 o.2
  where
    o : (x : CodeBlock) × (slice_get p.program.blocks b ≡ Some x) × (narrowed_block p x ≡ c)
    o = map_get_back (narrowed_block p) p.program.blocks b c h.block

    of_old : (x : CodeBlock) → slice_get p.program.blocks b ≡ Some x → narrowed_block p x ≡ c → IsDest c n d
    of_old x at same = subst (λ c. IsDest c n d) same
        (names_all p x (IsDest (narrowed_block p x))
        (λ v i e. dests_known p x v i (in_parts x v i e) (λ d k. leaves b v x d (record { i = i; block = at; there = e; named = k }))
        (λ d k. old b v x d (record { i = i; block = at; there = e; named = k })))
        n h.i d (ap (λ (c : CodeBlock). slice_get c.instrs n) same ∙ h.there) h.named)
