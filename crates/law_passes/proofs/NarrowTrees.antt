-- The copies of an instruction: its new destinations lead to its old ones, and each copy to some of them.
use Rattle.std.proofs.Common.{◌≡◌, refl, sym, ap, ◌∙◌, subst, ℕ, zero, suc, ◌+◌, ◌-◌, ◌*◌, ◌<◌, ◌≤◌, Bool, true, false, true≢false, List, [], ◌∷◌, ◌++◌, map}
use Rattle.std.proofs.Common.{length, Some, IsPermutation, Contains, append_assoc, append-nil, arith, zero-add, nat_lt, ltb-true, ltb-false}
use Rattle.std.specs.Prelude.{slice_get}
use Rattle.std.specs.Option.{option_map}
use Rattle.std.proofs.lemmas.List.Elements.{Contains-append_left, Contains-append_right}
use Rattle.std.proofs.lemmas.Option.{slice_get-get_or, slice_get_within, slice_get-map, get_or_from_slice_get}
use Rattle.std.proofs.lemmas.List.Sorted.{Contains-permutation, IsPermutation-refl, IsPermutation-sym, IsPermutation-trans, IsPermutation-append_left}
use Rattle.std.proofs.lemmas.List.Sorted.{IsPermutation-append_right, IsPermutation-append_comm}
use Rattle.lemmas.proofs.Contains.{contains_mapped}
use Rattle.lemmas.proofs.SliceGet.{get_some}
use Rattle.tags.specs.declared.token.Port.TheVariants.{Left}
use Rattle.semantics.specs.declared.program.Dest.{Dest}
use Rattle.semantics.specs.declared.program.Op.{Op}
use Rattle.semantics.specs.declared.program.Op.TheVariants.{Link, Fetch, Store, Frame, Ask}
use Rattle.semantics.specs.Program.{Instr, CodeBlock, Program, first_of, instr_at}
use Rattle.semantics.specs.Plan.{Plan, HasShape}
use Rattle.semantics.specs.Wired.{IsInstrAt}
use Rattle.semantics.specs.Orderly.{often}
use Rattle.code.specs.Sound.{IsSound, IsSoundDest}
use Rattle.fanout.specs.Leading.{leads_to}
use Rattle.law_reuse.proofs.SlotsPlaced.{instr_in}
use Rattle.fanout.specs.Sides.{copies, parted, firsts_of, seconds_of, parting_of}
use Rattle.fanout.specs.Places.{size, place_of, base_of}
use Rattle.fanout.specs.Trees.{child, leaf, side, copy_at, copies_of, moved}
use Rattle.fanout.specs.Narrowed.{narrowed, narrowed_block}
use Rattle.fanout.specs.Laws.{KeepsClear}
use Rattle.fanout.proofs.Spots.{copy_apart, first_copy, second_copy, copy_stands, before_copies}
use Rattle.fanout.proofs.Queues.{Address, to, Reaches, tip, window, queue, copy_goes, queue_last, queue_first, queue_all, side_goes}
use Rattle.fanout.proofs.Parted.{parted_all}
use Rattle.fanout.proofs.Standing.{instrs_stay}
use Rattle.fanout.proofs.Plans.{is, ts, l, all}
use Rattle.fanout.proofs.Arrows.{in_parts, past, dests_stay}
use Rattle.fanout.proofs.SoundFlags.{sound_keeps_clear}
use Rattle.law_passes.specs.Spreads.{Replaces, IsCopyAt, here, fork, Lead, targets, Leads}
use Rattle.law_fresh_frames.specs.Alike.{IsTidy, plain_dests}
use Rattle.law_passes.proofs.NarrowPlaces.{new_ip, ip_at, back_in}
use Rattle.law_simulation.specs.Places.{Spot, is_answered}

module _ (p : Plan) (s : IsSound p) (tidy : IsTidy p) where
  abbrev P : Program
  P = p.program

  abbrev Q : Program
  Q = (narrowed p).program

  abbrev H : ℕ → ℕ
  H = new_ip p P.blocks

  clear : KeepsClear p
  clear = sound_keeps_clear p s

  module _ (b : ℕ) (c : CodeBlock) (at_b : slice_get P.blocks b ≡ Some c) where
    abbrev F : ℕ
    F = first_of Q b

    abbrev place : ℕ → ℕ
    place n = place_of (l p c) n

    pub h_at : (n : ℕ) → n < length c.instrs → H (first_of P b + n) ≡ F + place n
    h_at n low = ip_at p P.blocks b n c at_b low

    new_block : slice_get Q.blocks b ≡ Some (narrowed_block p c)
    new_block = slice_get-map (narrowed_block p) P.blocks b ∙ ap (option_map (narrowed_block p)) at_b

    pub stands_new : (x : ℕ) (y : Instr) → slice_get (narrowed_block p c).instrs x ≡ Some y → instr_at Q (F + x) ≡ Some y
    stands_new x y e = instr_in Q.blocks b x (narrowed_block p c) new_block (slice_get_within (narrowed_block p c).instrs x y e) ∙ e

    -- each of its destinations is after it
    later_at : (x : ℕ) (y : Instr) → slice_get (narrowed_block p c).instrs x ≡ Some y → (d : Dest) → Contains (y.firsts ++ y.seconds) d → 0 < d.ahead
    later_at x y e d inside =
        (dests_stay p clear.rows clear.dests b x (narrowed_block p c) d record { i = y; block = new_block; there = e; named = inside }).later

    -- a copy is no moved instruction
    copy_not : (v j a : ℕ) (i : Instr) → slice_get (is p c) v ≡ Some i → j < size i → (k : Instr)
        → slice_get (narrowed_block p c).instrs (base_of (l p c) v + j) ≡ Some k → F + (base_of (l p c) v + j) ≡ H a → ⊥
    copy_not v j a i at low k e same =
        let r = back_in p P.blocks b (base_of (l p c) v + j) a c at_b (slice_get_within (narrowed_block p c).instrs (base_of (l p c) v + j) k e) (sym same) in
        let o = get_some c.instrs r.0 r.1 in
        copy_apart (ts p c) (is p c) (all p c) r.0 v j (parted o.0) i (in_parts c r.0 o.0 o.1) at low (sym r.3)

    -- what waits for a copy
    abbrev Waits : List Address → List Spot → Type 0
    Waits [] zs = zs ≡ []
    Waits (a ∷ qs) zs = (xs : List Spot) × (ys : List Spot) × Replaces Q H (F + a.0) a.1 xs × Waits qs ys × (zs ≡ xs ++ ys)

    waits_split : (qs bs : List Address) (zs : List Spot) → Waits (qs ++ bs) zs
        → (xs : List Spot) × (ys : List Spot) × Waits qs xs × Waits bs ys × (zs ≡ xs ++ ys)
    waits_split [] bs zs w = ([], zs, refl, w, refl)
    waits_split (a ∷ qs) bs zs w =
        let m = waits_split qs bs w.1 w.3 in
        (w.0 ++ m.0, m.1, (w.0, m.0, w.2, m.2, refl), m.3, w.4 ∙ ap (λ l. w.0 ++ l) m.4 ∙ sym (append_assoc w.0 m.0 m.1))

    lead_of : (at : ℕ) (ds : List Dest) (zs : List Spot) → Waits (map (leads_to at) ds) zs → Lead Q H (F + at) ds zs
    lead_of at [] zs w = w
    lead_of at (d ∷ ds) zs w =
        let e : F + (at + d.ahead) ≡ F + at + d.ahead = omega arith in
        (w.0, w.1, subst (λ (n : ℕ). Replaces Q H n d.port w.0) e w.2, lead_of at ds w.1 w.3, w.4)

    lead_join : (ip : ℕ) (ds es : List Dest) (xs ys : List Spot) → Lead Q H ip ds xs → Lead Q H ip es ys → Lead Q H ip (ds ++ es) (xs ++ ys)
    lead_join ip [] es xs ys a k = subst (λ (l : List Spot). Lead Q H ip es (l ++ ys)) (sym a) k
    lead_join ip (d ∷ ds) es xs ys a k = (a.0, a.1 ++ ys, a.2, lead_join ip ds es a.1 ys a.3 k, ap (λ l. l ++ ys) a.4 ∙ append_assoc a.0 a.1 ys)

    module _ (v : ℕ) (i : Instr) (at_v : IsInstrAt c v i) where
      abbrev a : ℕ
      a = first_of P b + v

      abbrev at : ℕ
      at = place v

      inside_v : v < length c.instrs
      inside_v = slice_get_within c.instrs v i at_v

      pub h_here : H a ≡ F + place v
      h_here = h_at v inside_v

      abbrev AllNamed : List Dest → Type 0
      AllNamed ds = (k : ℕ) (d : Dest) → slice_get ds k ≡ Some d → Contains (i.firsts ++ i.seconds) d

      sound_dest : (d : Dest) → Contains (i.firsts ++ i.seconds) d → IsSoundDest p c v d
      sound_dest d inside = s.dests b v c d record { i = i; block = at_b; there = at_v; named = inside }

      far : (d : Dest) → Contains (i.firsts ++ i.seconds) d → base_of (l p c) v + size (parted i) ≤ place (v + d.ahead)
      far d inside =
          past p c v i (in_parts c v i at_v) (λ d k. clear.rows b v c d record { i = i; block = at_b; there = at_v; named = k })
          (λ d k. (sound_dest d k).dest) d inside

      leaf_here : (d : Dest) → Contains (i.firsts ++ i.seconds) d → F + place (v + d.ahead) ≡ H (a + d.ahead)
      leaf_here d inside =
          let e : first_of P b + (v + d.ahead) ≡ a + d.ahead = omega arith in
          sym (ap H (sym e) ∙ h_at (v + d.ahead) (sound_dest d inside).dest.inside)

      leaves : (ds : List Dest) → AllNamed ds → Waits (map (to (l p c) v) ds) (targets a ds)
      leaves [] h = refl
      leaves (d ∷ ds) h = (
        (a + d.ahead, d.port) ∷ [],
        targets a ds,
        here (F + place (v + d.ahead)) d.port ((a + d.ahead, d.port) ∷ []) (a + d.ahead) (leaf_here d (h 0 d refl)) refl,
        leaves ds (λ k x e. h (suc k) x e),
        refl,
      )

      -- one side, whose first copy is at `root`
      module _ (ds : List Dest) (named : AllNamed ds) (root : ℕ) (low : at ≤ root) (high : root + copies ds ≤ base_of (l p c) v + size (parted i))
          (tree : (j : ℕ) → j < copies ds → slice_get (narrowed_block p c).instrs (root + j) ≡ Some (copy_at (l p c) v (root + j) j ds))
          (starts : base_of (l p c) v ≤ root) (lone : 0 < copies ds → (x : Spot) → Contains (targets a ds) x → often (instr_at Q (H x.0)) ≡ false) where
        abbrev Stage : ℕ → Type 0
        Stage m = (zs : List Spot) × Waits (queue (l p c) v root ds m) zs × IsPermutation (targets a ds) zs

        reaches : (x : ℕ) → x ≤ root + copies ds → Reaches (l p c) v x ds
        reaches x le k d e = let f = far d (named k d e) in omega (arith, le, high, f)

        addresses : (x1 x2 y1 y2 : Address) → x1 ∷ x2 ∷ [] ≡ y1 ∷ y2 ∷ [] → (x1 ≡ y1) × (x2 ≡ y2)
        addresses x1 x2 y1 y2 e = (cc, cc)

        spot_at : (n : ℕ) (d : Dest) (t : Address) (xs : List Spot) → leads_to (root + n) d ≡ t → Replaces Q H (F + t.0) t.1 xs
            → Replaces Q H (F + (root + n) + d.ahead) d.port xs
        spot_at n d t xs e w =
            let z : F + (root + n + d.ahead) ≡ F + (root + n) + d.ahead = omega arith in
            subst (λ (x : ℕ). Replaces Q H x d.port xs) z (subst (λ (t : Address). Replaces Q H (F + t.0) t.1 xs) (sym e) w)

        shift : (m : ℕ) → base_of (l p c) v + (root + m - base_of (l p c) v) ≡ root + m
        shift m = omega (arith, starts)

        one_less : (m : ℕ) → m < copies ds → Stage (suc m) → Stage m
        one_less m less S =
            let cp : Instr = copy_at (l p c) v (root + m) m ds in
            let w : Waits (window (tip (l p c) v root ds) (suc m) m ++ tip (l p c) v root ds (2 * m + 1) ∷ tip (l p c) v root ds (2 * m + 2) ∷ []) S.0 =
            subst (λ (qs : List Address). Waits qs S.0) (queue_last (l p c) v root ds m) S.1 in
            let m2 = waits_split (window (tip (l p c) v root ds) (suc m) m)
            (tip (l p c) v root ds (2 * m + 1) ∷ tip (l p c) v root ds (2 * m + 2) ∷ []) S.0 w in
            let us : List Spot = m2.3.0 in
            let vs : List Spot = m2.3.3.0 in
            let goes = addresses _ _ _ _ (copy_goes (l p c) v root m ds less (reaches (root + m) (omega (arith, less)))) in
            let tail : m2.1 ≡ us ++ vs = m2.3.4 ∙ ap (λ l. us ++ l) (m2.3.3.4 ∙ ap (λ l. vs ++ l) m2.3.3.3 ∙ append-nil vs) in
            let is_copy : IsCopyAt Q H (F + (root + m)) (us ++ vs) = record {
              i = cp;
              d = child (l p c) v (root + m) m ds (2 * m + 1);
              e = child (l p c) v (root + m) m ds (2 * m + 2);
              there = stands_new (root + m) cp (tree m less);
              copies = refl;
              first = refl;
              second = refl;
              fresh = λ n e.
                  copy_not v (root + m - base_of (l p c) v) n (parted i) (in_parts c v i at_v) (omega (arith, less, high, starts)) cp
                  (ap (slice_get (narrowed_block p c).instrs) (shift m) ∙ tree m less) (ap (λ (x : ℕ). F + x) (shift m) ∙ e);
              later = (later_at (root + m) cp (tree m less) _ (0, omega arith, refl), later_at (root + m) cp (tree m less) _ (1, omega arith, refl));
              lone = λ x inside.
                  lone (omega (arith, less)) x (Contains-permutation _ _ x (IsPermutation-sym _ _ S.2)
                  (subst (λ (l : List Spot). Contains l x) (sym (m2.4 ∙ ap (λ l. m2.0 ++ l) tail)) (Contains-append_right m2.0 (us ++ vs) x inside)));
            } in
            let node : Replaces Q H (F + (root + m)) Left (us ++ vs) =
            fork (F + (root + m)) Left (us ++ vs) us vs is_copy refl (spot_at m _ _ us goes.0 m2.3.2) (spot_at m _ _ vs goes.1 m2.3.3.2) refl in (
              (us ++ vs) ++ m2.0,
              subst (λ (qs : List Address). Waits qs ((us ++ vs) ++ m2.0)) (sym (queue_first (l p c) v root ds m less)) (us ++ vs, m2.0, node, m2.2, refl),
              IsPermutation-trans _ _ _ S.2 (subst (λ (l : List Spot). IsPermutation l ((us ++ vs) ++ m2.0)) (sym (m2.4 ∙ ap (λ l. m2.0 ++ l) tail))
                  (IsPermutation-append_comm m2.0 (us ++ vs))),
            )

        stage : (k m : ℕ) → m + k ≡ copies ds → 0 < length ds → Stage m
        stage zero m e some =
            let z : copies ds ≡ m = omega (arith, e) in
            subst Stage z (
              targets a ds,
              subst (λ (qs : List Address). Waits qs (targets a ds)) (sym (queue_all (l p c) v root ds some)) (leaves ds named),
              IsPermutation-refl _,
            )
        stage (suc k) m e some = one_less m (omega (arith, e)) (stage k (suc m) (omega (arith, e)) some)

        leads_side : Leads Q H (F + at) (side (l p c) v at root ds) a ds
        leads_side = go ds refl
          where
            nothing : Leads Q H (F + at) (side (l p c) v at root []) a []
            nothing = ([], refl, IsPermutation-refl [])

            go : (es : List Dest) → ds ≡ es → Leads Q H (F + at) (side (l p c) v at root ds) a ds
            go [] e = subst (λ (es : List Dest). Leads Q H (F + at) (side (l p c) v at root es) a es) (sym e) nothing
            go (x ∷ es) e =
                let n = ap (λ (l : List Dest). length l) e in
                let some : 0 < length ds = omega (arith, n) in
                let S : Stage 0 = stage (copies ds) 0 (zero-add (copies ds)) some in
                let same = side_goes (l p c) v at root ds low (reaches at (omega (arith, low))) some in
                (S.0, lead_of at (side (l p c) v at root ds) S.0 (subst (λ (qs : List Address). Waits qs S.0) (sym same) S.1), S.2)

        -- each of its copies stands for some of its destinations
        pub node_at : (m : ℕ) → m < copies ds → (zs : List Spot) × Replaces Q H (F + (root + m)) Left zs
        node_at m less =
            let some : 0 < length ds = omega (arith, less) in
            let S : Stage m = stage (copies ds - m) m (omega (arith, less)) some in
            let w : Waits ((root + m, Left) ∷ window (tip (l p c) v root ds) (suc m) m) S.0 =
            subst (λ (qs : List Address). Waits qs S.0) (queue_first (l p c) v root ds m less) S.1 in
            (w.0, w.2)

      -- ---- THE INSTRUCTION
      abbrev j : Instr
      j = moved (l p c) v (parted i)

      in_is : slice_get (is p c) v ≡ Some (parted i)
      in_is = in_parts c v i at_v

      contains_at : {X : Type 0} (xs : List X) (k : ℕ) (x : X) → slice_get xs k ≡ Some x → Contains xs x
      contains_at xs k x e = (k, slice_get_within xs k x e, get_or_from_slice_get xs k x x e)

      firsts_named : AllNamed (parted i).firsts
      firsts_named k d e =
          subst (λ (ds : List Dest). Contains ds d) (parted_all i)
          (Contains-append_left (parted i).firsts (parted i).seconds d (contains_at (parted i).firsts k d e))

      seconds_named : AllNamed (parted i).seconds
      seconds_named k d e =
          subst (λ (ds : List Dest). Contains ds d) (parted_all i)
          (Contains-append_right (parted i).firsts (parted i).seconds d (contains_at (parted i).seconds k d e))

      before : at < base_of (l p c) v
      before = before_copies (ts p c) (is p c) (all p c) v (parted i) in_is

      first_tree : (n : ℕ) → n < copies (parted i).firsts
          → slice_get (narrowed_block p c).instrs (base_of (l p c) v + n) ≡ Some (copy_at (l p c) v (base_of (l p c) v + n) n (parted i).firsts)
      first_tree n low =
          let z : 0 + n ≡ n = zero-add n in
          copy_stands (ts p c) (is p c) (all p c) v n (parted i) (copy_at (l p c) v (base_of (l p c) v + n) n (parted i).firsts) in_is
          (ap (slice_get (copies_of (l p c) v (parted i))) (sym z) ∙ first_copy (l p c) v (parted i) n low)

      second_tree : (n : ℕ) → n < copies (parted i).seconds
          → slice_get (narrowed_block p c).instrs (base_of (l p c) v + copies (parted i).firsts + n)
          ≡ Some (copy_at (l p c) v (base_of (l p c) v + copies (parted i).firsts + n) n (parted i).seconds)
      second_tree n low =
          let z : base_of (l p c) v + copies (parted i).firsts + n ≡ base_of (l p c) v + (copies (parted i).firsts + n) = omega arith in
          ap (slice_get (narrowed_block p c).instrs) z
          ∙ copy_stands (ts p c) (is p c) (all p c) v (copies (parted i).firsts + n) (parted i)
          (copy_at (l p c) v (base_of (l p c) v + copies (parted i).firsts + n) n (parted i).seconds) in_is (second_copy (l p c) v (parted i) n low)

      lone_dest : (d : Dest) → Contains (plain_dests i i.op) d → Contains (i.firsts ++ i.seconds) d → (x : Spot) → (a + d.ahead, d.port) ≡ x
          → often (instr_at Q (H x.0)) ≡ false
      lone_dest d plain named x e =
          let o = get_some c.instrs (v + d.ahead) (sound_dest d named).dest.inside in
          let y : H x.0 ≡ F + place (v + d.ahead) = ap (λ (x : Spot). H x.0) (sym e) ∙ sym (leaf_here d named) in
          let z : first_of P b + v + d.ahead ≡ first_of P b + (v + d.ahead) = omega arith in
          let was : instr_at P (first_of P b + v + d.ahead) ≡ Some o.0 = ap (instr_at P) z
          ∙ instr_in P.blocks b (v + d.ahead) c at_b (sound_dest d named).dest.inside ∙ o.1 in
          ap (λ (n : ℕ). often (instr_at Q n)) y
          ∙ ap often (stands_new (place (v + d.ahead)) (moved (l p c) (v + d.ahead) (parted o.0)) (instrs_stay p c (v + d.ahead) o.0 o.1)) ∙ sym (ap often was)
          ∙ tidy.once b v c i d at_b at_v plain

      get_of : (ds : List Dest) (d : Dest) → Contains ds d → (k : ℕ) × (slice_get ds k ≡ Some d)
      get_of ds d k = (k.0, slice_get-get_or ds k.0 d k.1 ∙ ap Some k.2)

      plain_of : (op : Op) → i.op ≡ op → (d : Dest) → Contains (i.firsts ++ i.seconds) d → ((t : ℕ) → i.op ≡ Link t → Contains (plain_dests i (Link t)) d)
          → Contains (plain_dests i op) d
      plain_of (Link t) e d named link = link t e
      plain_of op e d named link = named

      lone_firsts : 0 < copies (parted i).firsts → (x : Spot) → Contains (targets a (parted i).firsts) x → often (instr_at Q (H x.0)) ≡ false
      lone_firsts some x inside =
          let m = contains_mapped (λ (d : Dest). (a + d.ahead, d.port)) (parted i).firsts x inside in
          let k = get_of (parted i).firsts m.0 m.1 in
          let named = firsts_named k.0 m.0 k.1 in
          lone_dest m.0 (plain_of i.op refl m.0 named (λ t e. absurd (none t e))) named x m.2
        where
          none : (t : ℕ) → i.op ≡ Link t → ⊥
          none t e =
              let shape : length i.firsts ≡ 1 = subst (λ (op : Op). HasShape op (length i.firsts) (length i.seconds)) e
              ((s.program.blocks b c at_b).instrs v i at_v).shape in
              let sides : (parted i).firsts ≡ i.firsts = ap (λ (op : Op). firsts_of (parting_of op) i.firsts i.seconds) e in
              let len = ap (λ (l : List Dest). length l) sides in omega (arith, shape, len, some)

      lone_seconds : 0 < copies (parted i).seconds → (x : Spot) → Contains (targets a (parted i).seconds) x → often (instr_at Q (H x.0)) ≡ false
      lone_seconds some x inside =
          let m = contains_mapped (λ (d : Dest). (a + d.ahead, d.port)) (parted i).seconds x inside in
          let k = get_of (parted i).seconds m.0 m.1 in
          let named = seconds_named k.0 m.0 k.1 in
          lone_dest m.0 (plain_of i.op refl m.0 named (λ t e. subst (λ (op : Op). Contains (seconds_of (parting_of op) i.firsts i.seconds) m.0) e m.1)) named x
          m.2

      pub lead_firsts : Leads Q H (F + at) j.firsts a (parted i).firsts
      lead_firsts =
          let k = before in leads_side (parted i).firsts firsts_named (base_of (l p c) v) (omega (arith, k)) (omega arith) first_tree (omega arith) lone_firsts

      pub lead_seconds : Leads Q H (F + at) j.seconds a (parted i).seconds
      lead_seconds =
          let k = before in leads_side (parted i).seconds seconds_named (base_of (l p c) v + copies (parted i).firsts) (omega (arith, k))
          (omega arith) second_tree (omega arith) lone_seconds

      map_both : (ds es : List Dest) → targets a (ds ++ es) ≡ targets a ds ++ targets a es
      map_both [] es = refl
      map_both (d ∷ ds) es = ap (λ l. (a + d.ahead, d.port) ∷ l) (map_both ds es)

      pub lead_all : Leads Q H (F + at) (j.firsts ++ j.seconds) a (i.firsts ++ i.seconds)
      lead_all =
          let x = lead_firsts in let y = lead_seconds in (
            x.0 ++ y.0,
            lead_join (F + at) j.firsts j.seconds x.0 y.0 x.1 y.1,
            subst (λ (l : List Spot). IsPermutation l (x.0 ++ y.0)) (sym (map_both (parted i).firsts (parted i).seconds) ∙ ap (targets a) (parted_all i))
                (IsPermutation-trans _ _ _ (IsPermutation-append_left (targets a (parted i).seconds) (targets a (parted i).firsts) x.0 x.2)
                (IsPermutation-append_right x.0 (targets a (parted i).seconds) y.0 y.2)),
          )

      one_list : (xs : List Dest) → length xs ≡ 1 → (d : Dest) × (xs ≡ d ∷ [])
      one_list [] e = absurd (omega (arith, e))
      one_list (d ∷ []) e = (d, refl)
      one_list (d ∷ x ∷ xs) e = absurd (omega (arith, e))

      none_list : (xs : List Dest) → length xs ≡ 0 → xs ≡ []
      none_list [] e = refl
      none_list (d ∷ xs) e = absurd (omega (arith, e))

      shape_one : (op : Op) (m n : ℕ) → is_answered op ≡ true → HasShape op m n → m ≡ 1
      shape_one (Fetch x) m n e h = h.0
      shape_one (Store x) m n e h = h.0
      shape_one Frame m n e h = h.0
      shape_one (Ask o) m n e h = h.0
      shape_one (Link x) m n e h = h
      shape_one op m n e h = absurd (true≢false (sym e))

      firsts_one : (op : Op) (d : Dest) (es : List Dest) → is_answered op ≡ true → HasShape op 1 (length es) → firsts_of (parting_of op) (d ∷ []) es ≡ d ∷ []
      firsts_one (Fetch x) d es e h = ap (λ (l : List Dest). firsts_of (parting_of (Fetch x)) (d ∷ []) l) (none_list es h.1)
      firsts_one (Store x) d es e h = ap (λ (l : List Dest). firsts_of (parting_of (Store x)) (d ∷ []) l) (none_list es h.1)
      firsts_one Frame d es e h = ap (λ (l : List Dest). firsts_of (parting_of Frame) (d ∷ []) l) (none_list es h.1)
      firsts_one (Ask o) d es e h = ap (λ (l : List Dest). firsts_of (parting_of (Ask o)) (d ∷ []) l) (none_list es h.1)
      firsts_one (Link x) d es e h = refl
      firsts_one op d es e h = absurd (true≢false (sym e))

      pub answered_once : is_answered i.op ≡ true
          → (d : Dest) × (e : Dest) × (i.firsts ≡ d ∷ []) × (j.firsts ≡ e ∷ []) × (H (a + d.ahead) ≡ H a + e.ahead) × (e.port ≡ d.port)
      answered_once is =
          let shape = ((s.program.blocks b c at_b).instrs v i at_v).shape in
          let o = one_list i.firsts (shape_one i.op (length i.firsts) (length i.seconds) is shape) in
          let d : Dest = o.0 in
          let inside : Contains (i.firsts ++ i.seconds) d =
          Contains-append_left i.firsts i.seconds d (contains_at i.firsts 0 d (ap (λ (l : List Dest). slice_get l 0) o.1)) in
          let sides : (parted i).firsts ≡ d ∷ [] =
          ap (λ (l : List Dest). firsts_of (parting_of i.op) l i.seconds) o.1
          ∙ firsts_one i.op d i.seconds is (subst (λ (l : List Dest). HasShape i.op (length l) (length i.seconds)) o.1 shape) in
          let f = far d inside in
          let k = before in
          let x = leaf_here d inside in
          let y = h_here in
          (d, leaf (l p c) v at d, o.1, ap (side (l p c) v at (base_of (l p c) v)) sides, omega (arith, f, k, x, y), refl)

      -- and so each of the instruction's copies
      pub copy_node : (n : ℕ) → n < size (parted i) → (zs : List Spot) × Replaces Q H (F + (base_of (l p c) v + n)) Left zs
      copy_node n low = go (nat_lt n (copies (parted i).firsts)) refl
        where
          go : (t : Bool) → nat_lt n (copies (parted i).firsts) ≡ t → (zs : List Spot) × Replaces Q H (F + (base_of (l p c) v + n)) Left zs
          go true t =
              let k = before in node_at (parted i).firsts firsts_named (base_of (l p c) v) (omega (arith, k)) (omega arith) first_tree
              (omega arith) lone_firsts n (ltb-true n (copies (parted i).firsts) t)
          go false t =
              let k = before in let far = ltb-false n (copies (parted i).firsts) t in
              let m : ℕ = n - copies (parted i).firsts in
              let x = node_at (parted i).seconds seconds_named (base_of (l p c) v + copies (parted i).firsts) (omega (arith, k)) (omega arith) second_tree
              (omega arith) lone_seconds m (omega (arith, far, low)) in
              let e : F + (base_of (l p c) v + copies (parted i).firsts + m) ≡ F + (base_of (l p c) v + n) = omega (arith, far) in
              (x.0, subst (λ (n : ℕ). Replaces Q H n Left x.0) e x.1)
