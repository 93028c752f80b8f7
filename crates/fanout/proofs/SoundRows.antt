-- The rows of a narrowed sound plan: no copy is in one, so what was apart still is.
use Rattle.std.proofs.Common.{◌≡◌, ℕ, ◌+◌, ◌-◌, ◌<◌, ◌≤◌, Bool, true, false, List, ◌∷◌, ◌++◌, map, length, refl, sym, ap, ◌∙◌, subst, inl, inr, ◌⊎◌}
use Rattle.std.proofs.Common.{arith, Option, Some, None, nat_lt, if◌then◌else◌, length-append, []}
use Rattle.std.specs.Prelude.{slice_get, Contains}
use Rattle.std.specs.Option.{option_map}
use Rattle.std.proofs.lemmas.Bool.{cases_lt, ltb-true}
use Rattle.std.proofs.lemmas.Option.{slice_get_within, slice_get-map}
use Rattle.std.proofs.lemmas.List.Elements.{Contains-append_left, Contains-append_right, Contains-append_cases}
use Rattle.lemmas.proofs.Alls.{all_at}
use Rattle.lemmas.proofs.Contains.{contains_cases, contains_head, contains_mapped, contains_none}
use Rattle.lemmas.proofs.SliceGet.{map_get_back, get_some}
use Rattle.tags.specs.declared.token.Port.TheVariants.{Left}
use Rattle.semantics.specs.declared.program.Dest.{Dest}
use Rattle.semantics.specs.declared.program.Op.{Op}
use Rattle.semantics.specs.declared.program.Op.TheVariants as Program
use Rattle.semantics.specs.declared.program.Op.TheVariants.{Link}
use Rattle.semantics.specs.Program.{Instr, CodeBlock}
use Rattle.semantics.specs.Plan.{Plan, HasShape, landing, landing_in}
use Rattle.semantics.specs.Wired.{IsInstrAt}
use Rattle.code.specs.Sound.{IsInLanding, IsTied, StandApart, IsSoundDest, IsSound}
use Rattle.fanout.specs.Sides.{copies, parted, parting_of, firsts_of}
use Rattle.fanout.specs.Rows.{is_tied}
use Rattle.fanout.specs.Places.{Layout, size, place_of, base_of}
use Rattle.fanout.specs.Trees.{dest_at, leaf, side, copies_of, moved}
use Rattle.fanout.specs.Narrowed.{narrowed, narrowed_block}
use Rattle.fanout.proofs.Positions.{place_low}
use Rattle.fanout.proofs.Spots.{sized, place_is, copy_apart, before_copies, past_copies, in_order, IsMoved, IsCopied, comes_here}
use Rattle.fanout.proofs.Flags.{entries_tied, place_tied}
use Rattle.fanout.proofs.Parted.{parted_all}
use Rattle.fanout.proofs.Plans.{is, ts, l, all, all_copies}
use Rattle.fanout.proofs.Arrows.{in_parts}
use Rattle.fanout.proofs.Standing.{landings_stay}
use Rattle.fanout.proofs.SoundFlags.{flag_free}

-- a landing is as long as before
landing_same : (p : Plan) (t : ℕ) → landing (narrowed p) t ≡ landing p t
landing_same p t = ap (landing_in (nat_lt t p.plain)) (slice_get-map (narrowed_block p) p.program.blocks t)
    ∙ by (nat_lt t p.plain) (slice_get p.program.blocks t)
  where
    by : (u : Bool) (o : Option CodeBlock) → landing_in u (option_map (narrowed_block p) o) ≡ landing_in u o
    by true None = refl
    by false None = refl
    by true (Some c) = refl
    by false (Some c) = refl

-- what a side names: its first copy, or one of its destinations
side_names : (l : Layout) (n at root : ℕ) (ds : List Dest) (d : Dest) → Contains (side l n at root ds) d
    → ((1 < length ds) × (dest_at at root Left ≡ d)) ⊎ ((e : Dest) × Contains ds e × (leaf l n at e ≡ d))
side_names l n at root ds d h = by (nat_lt 1 (length ds)) refl h
  where
    by : (t : Bool) → nat_lt 1 (length ds) ≡ t → Contains (if t then dest_at at root Left ∷ [] else map (leaf l n at) ds) d
        → ((1 < length ds) × (dest_at at root Left ≡ d)) ⊎ ((e : Dest) × Contains ds e × (leaf l n at e ≡ d))
    by true t h = pick (contains_cases (dest_at at root Left) [] d h)
      where
        pick : (dest_at at root Left ≡ d) ⊎ Contains [] d → ((1 < length ds) × (dest_at at root Left ≡ d)) ⊎ ((e : Dest) × Contains ds e × (leaf l n at e ≡ d))
        pick (inl e) = inl (ltb-true 1 (length ds) t, e)
        pick (inr k) = absurd (contains_none d k)
    by false t h = inr (contains_mapped (leaf l n at) ds d h)

-- what has copies has a destination
some_dest : (ds : List Dest) → 0 < length ds → (d : Dest) × Contains ds d
some_dest [] h = absurd (omega (arith, h))
some_dest (d ∷ ds) h = (d, contains_head d ds)

a_dest : (i : Instr) → 0 < size (parted i) → (d : Dest) × Contains (i.firsts ++ i.seconds) d
a_dest i h =
    let k = length-append (parted i).firsts (parted i).seconds in
    let e = ap length (parted_all i) in
    some_dest (i.firsts ++ i.seconds) (omega (arith, h, k, e))

link_one : (op : Op) (t m n : ℕ) → op ≡ Link t → HasShape op m n → m ≡ 1
link_one op t m n e h = subst (λ op. HasShape op m n) e h

no_link : (t : ℕ) → Program.Copy ≡ Link t → ⊥
no_link t e = absurd (cc)

module _ (p : Plan) (s : IsSound p) (b : ℕ) (c : CodeBlock) (at_b : slice_get p.program.blocks b ≡ Some c) where
  abbrev new : CodeBlock
  new = narrowed_block p c

  abbrev place : ℕ → ℕ
  place n = place_of (l p c) n

  abbrev base : ℕ → ℕ
  base n = base_of (l p c) n

  here : (n : ℕ) (i : Instr) → IsInstrAt c n i → slice_get (is p c) n ≡ Some (parted i)
  here n i e = in_parts c n i e

  dest_of : (n : ℕ) (i : Instr) (d : Dest) → IsInstrAt c n i → Contains (i.firsts ++ i.seconds) d → IsSoundDest p c n d
  dest_of n i d e h = s.dests b n c d (record { i = i; block = at_b; there = e; named = h })

  -- ORDER
  low : (n : ℕ) (i : Instr) → IsInstrAt c n i → n ≤ place n
  low n i e = let k = place_low (ts p c) 0 0 0 (is p c) n (place n) (omega arith) (place_is (ts p c) (is p c) (all p c) n (parted i) (here n i e))
      in omega (arith, k)

  ordered : (m n : ℕ) (i j : Instr) → IsInstrAt c m i → IsInstrAt c n j → m < n → place m < place n
  ordered m n i j e f h = in_order (ts p c) (is p c) (all p c) m n (parted i) (parted j) (here m i e) (here n j f) h

  rises : (m n : ℕ) (i j : Instr) → IsInstrAt c m i → IsInstrAt c n j → m ≤ n → place m ≤ place n
  rises m n i j e f h = pick (cases_lt m n)
    where
      pick : (m < n) ⊎ (n ≤ m) → place m ≤ place n
      pick (inl k) = let o = ordered m n i j e f k in omega (arith, o)
      pick (inr k) = let z : m ≡ n = omega (arith, h, k) in let o = ap (λ n. place n) z in omega (arith, o)

  apart_copy : (m n q : ℕ) (i j : Instr) → IsInstrAt c m i → IsInstrAt c n j → q < size (parted j) → place m ≡ base n + q → ⊥
  apart_copy m n q i j e f h z = copy_apart (ts p c) (is p c) (all p c) m n q (parted i) (parted j) (here m i e) (here n j f) h z

  -- NO COPY IS IN A ROW: not among the entries,
  entry_stays : (k : ℕ) (i : Instr) → IsInstrAt c k i → k ≤ c.inputs → place k ≡ k
  entry_stays k i e h =
      let within = slice_get_within (is p c) k (parted i) (here k i e) in
      let m = place_tied (ts p c) 0 0 0 (is p c) k (place k) (λ j u. let z : 0 + j ≡ j = omega arith in ap (is_tied (ts p c)) z
      ∙ entries_tied p c.inputs (is p c) j (omega (arith, h, u)) (omega (arith, within, u)))
      (place_is (ts p c) (is p c) (all p c) k (parted i) (here k i e)) in
      omega (arith, m)

  copy_past : (v q : ℕ) (i : Instr) → IsInstrAt c v i → q < size (parted i) → c.inputs < base v + q
  copy_past v q i e h = pick (cases_lt c.inputs (base v + q))
    where
      pick : (c.inputs < base v + q) ⊎ (base v + q ≤ c.inputs) → c.inputs < base v + q
      pick (inl k) = k
      pick (inr k) =
          let u = (s.program.blocks b c at_b).size in
          let x = get_some c.instrs (base v + q) (omega (arith, u, k)) in
          absurd (apart_copy (base v + q) v q x.0 i x.1 e h (entry_stays (base v + q) x.0 x.1 k))

  -- nor in a landing, even where the block ends before the landing does
  module _ (v q u t : ℕ) (i j : Instr) (d : Dest) (at_v : IsInstrAt c v i) (copy : q < size (parted i)) (at_u : IsInstrAt c u j) (links : j.op
      ≡ Link t) (lands : Contains j.firsts d) where
    beyond : place (u + d.ahead) ≤ base v + q → length c.instrs < u + d.ahead + landing p t → ⊥
    beyond from short =
        let a = a_dest i (omega (arith, copy)) in
        let to = dest_of v i a.0 at_v a.1 in
        let within = to.dest.inside in
        pick to.apart.0 to.apart.1 to.apart.2 to.apart.3 (cases_lt to.apart.0 (u + d.ahead)) within
      where
        pick : (f : ℕ) → v ≤ f → f < v + (a_dest i (omega (arith, copy))).0.ahead → (IsTied p c f → ⊥) → (f < u + d.ahead) ⊎ (u + d.ahead ≤ f)
            → v + (a_dest i (omega (arith, copy))).0.ahead < length c.instrs → ⊥
        pick f above below free (inl k) within =
            let w = (dest_of u j d at_u (Contains-append_left j.firsts j.seconds d lands)).dest.inside in
            let x = get_some c.instrs (u + d.ahead) w in
            let far = past_copies (ts p c) (is p c) (all p c) v (u + d.ahead) f (parted i) (parted x.0) (here v i at_v) (here (u + d.ahead) x.0 x.1)
            above k (flag_free p c f free) in
            omega (arith, far, from, copy)
        pick f above below free (inr k) within = free
            (inr (u, record { link = j; there = at_u; block = t; links = links; dest = d; named = lands; from = k; to = omega (arith, below, within, short) }))

    pub in_no_landing : place (u + d.ahead) ≤ base v + q → base v + q < place (u + d.ahead) + landing p t → ⊥
    in_no_landing from to = pick (base v + q - place (u + d.ahead)) (omega (arith, from)) (omega (arith, from, to))
        (cases_lt (u + d.ahead + (base v + q - place (u + d.ahead))) (length c.instrs))
      where
        pick : (k : ℕ) → place (u + d.ahead) + k ≡ base v + q → k < landing p t → (u + d.ahead + k < length c.instrs) ⊎ (length c.instrs ≤ u + d.ahead + k) → ⊥
        pick k z few (inl w) =
            let x = get_some c.instrs (u + d.ahead + k) w in
            apart_copy (u + d.ahead + k) v q x.0 i x.1 at_v copy (landings_stay p u t k c j x.0 d at_u links lands few x.1 ∙ z)
        pick k z few (inr w) = beyond from (omega (arith, few, w))

  -- A LANDING OF THE NEW BLOCK is that of an old link, in its place
  record IsOldLanding (k : ℕ) : Type 0 where
    pub u : ℕ
    pub t : ℕ
    pub j : Instr
    pub d : Dest
    pub there : IsInstrAt c u j
    pub links : j.op ≡ Link t
    pub lands : Contains j.firsts d
    pub inside : u + d.ahead < length c.instrs
    pub from : place (u + d.ahead) ≤ k
    pub to : k + 1 < place (u + d.ahead) + landing p t

  old_landing : (m k : ℕ) → IsInLanding (narrowed p) new m k → IsOldLanding k
  old_landing m k h = by (comes_here (ts p c) (is p c) (all p c) m h.link h.there)
    where
      of_old : (v : ℕ) (j : Instr) → IsInstrAt c v j → m ≡ place v → moved (l p c) v (parted j) ≡ h.link → IsOldLanding k
      of_old v j e at what = pick (side_names (l p c) v (place v) (base v) j.firsts h.dest
          (subst (λ ds. Contains (side (l p c) v (place v) (base v) ds) h.dest) firsts (subst (λ (y : Instr). Contains y.firsts h.dest) (sym what) h.named)))
        where
          links : j.op ≡ Link h.block
          links = ap (λ (y : Instr). y.op) what ∙ h.links

          firsts : (parted j).firsts ≡ j.firsts
          firsts = ap (λ op. firsts_of (parting_of op) j.firsts j.seconds) links

          one : length j.firsts ≡ 1
          one = link_one j.op h.block (length j.firsts) (length j.seconds) links ((s.program.blocks b c at_b).instrs v j e).shape

          pick : ((1 < length j.firsts) × (dest_at (place v) (base v) Left ≡ h.dest)) ⊎ ((d : Dest) × Contains j.firsts d
              × (leaf (l p c) v (place v) d ≡ h.dest)) → IsOldLanding k
          pick (inl (more, z)) = absurd (omega (arith, more, one))
          pick (inr (d, lands, z)) =
              let old = (dest_of v j d e (Contains-append_left j.firsts j.seconds d lands)).dest in
              let later = old.later in let inside = old.inside in
              let x = get_some c.instrs (v + d.ahead) inside in
              let up = ordered v (v + d.ahead) j x.0 e x.1 (omega (arith, later)) in
              let ahead = ap (λ (d : Dest). d.ahead) z in
              let from = h.from in let to = h.to in
              let same = landing_same p h.block in
              record {
                u = v;
                t = h.block;
                j = j;
                d = d;
                there = e;
                links = links;
                lands = lands;
                inside = inside;
                from = omega (arith, from, at, ahead, up);
                to = omega (arith, to, at, ahead, up, same);
              }

      by : IsMoved (ts p c) (is p c) (all p c) m h.link ⊎ IsCopied (ts p c) (is p c) (all p c) m h.link → IsOldLanding k
      by (inl o) = let q = map_get_back parted c.instrs o.v o.i o.there in of_old o.v q.0 q.1 o.at (ap (moved (l p c) o.v) q.2 ∙ o.what)
      by (inr o) =
          let copied : h.link.op ≡ Program.Copy = all_at (λ (i : Instr). i.op ≡ Program.Copy) (copies_of (l p c) o.v o.i) o.j h.link
          (all_copies (l p c) o.v o.i) o.what in
          absurd (no_link h.block (sym copied ∙ h.links))

  -- WHAT IS FREE: a copy,
  copy_free : (v q : ℕ) (i : Instr) → IsInstrAt c v i → q < size (parted i) → IsTied (narrowed p) new (base v + q) → ⊥
  copy_free v q i e h (inl k) = let past = copy_past v q i e h in omega (arith, past, k)
  copy_free v q i e h (inr (m, k)) =
      let o = old_landing m (base v + q) k in let to = o.to in
      in_no_landing v q o.u o.t i o.j o.d e h o.there o.links o.lands o.from (omega (arith, to))

  -- the place before one,
  before_free : (v q k : ℕ) (i : Instr) → IsInstrAt c v i → q < size (parted i) → k + 1 ≡ base v + q → IsTied (narrowed p) new k → ⊥
  before_free v q k i e h z (inl n) = let past = copy_past v q i e h in omega (arith, past, n, z)
  before_free v q k i e h z (inr (m, n)) =
      let o = old_landing m k n in let from = o.from in let to = o.to in
      in_no_landing v q o.u o.t i o.j o.d e h o.there o.links o.lands (omega (arith, from, z)) (omega (arith, to, z))

  -- and what was free before
  old_free : (k : ℕ) (i : Instr) → IsInstrAt c k i → (IsTied p c k → ⊥) → IsTied (narrowed p) new (place k) → ⊥
  old_free k i e free (inl n) = let up = low k i e in free (inl (omega (arith, n, up)))
  old_free k i e free (inr (m, n)) = by (old_landing m (place k) n)
    where
      by : IsOldLanding (place k) → ⊥
      by o = pick (cases_lt k (o.u + o.d.ahead)) (cases_lt (k + 1) (o.u + o.d.ahead + landing p o.t))
        where
          pick : (k < o.u + o.d.ahead) ⊎ (o.u + o.d.ahead ≤ k) → (k + 1 < o.u + o.d.ahead + landing p o.t) ⊎ (o.u + o.d.ahead + landing p o.t ≤ k + 1) → ⊥
          pick (inl before) far =
              let x = get_some c.instrs (o.u + o.d.ahead) o.inside in
              let up = ordered k (o.u + o.d.ahead) i x.0 e x.1 before in let from = o.from in omega (arith, up, from)
          pick (inr past) (inl within) = free (inr
              (o.u, record { link = o.j; there = o.there; block = o.t; links = o.links; dest = o.d; named = o.lands; from = past; to = within }))
          pick (inr past) (inr beyond) =
              let from = o.from in let to = o.to in
              let w = slice_get_within c.instrs k i e in
              let x = get_some c.instrs (o.u + o.d.ahead + (landing p o.t - 1)) (omega (arith, past, beyond, w, from, to)) in
              let last = landings_stay p o.u o.t (landing p o.t - 1) c o.j x.0 o.d o.there o.links o.lands (omega (arith, from, to)) x.1 in
              let up = rises (o.u + o.d.ahead + (landing p o.t - 1)) k x.0 i x.1 e (omega (arith, beyond, from, to)) in
              omega (arith, last, up, to)

  -- WHAT IS NAMED is apart from what names it
  module _ (v : ℕ) (i : Instr) (at_v : IsInstrAt c v i) where
    to_copy : (q : ℕ) (d : Dest) → q < size (parted i) → dest_at (place v) (base v + q) Left ≡ d → StandApart (narrowed p) new (place v) (place v + d.ahead)
    to_copy q d h e =
        let first = before_copies (ts p c) (is p c) (all p c) v (parted i) (here v i at_v) in
        let z = ap (λ (d : Dest). d.ahead) e in
        (base v + q - 1, omega (arith, first), omega (arith, first, z), before_free v q (base v + q - 1) i at_v h (omega (arith, first)))

    to_leaf : (e d : Dest) → Contains (i.firsts ++ i.seconds) e → leaf (l p c) v (place v) e ≡ d → StandApart (narrowed p) new (place v) (place v + d.ahead)
    to_leaf e d named same = by old.apart.0 old.apart.1 old.apart.2 old.apart.3
      where
        old : IsSoundDest p c v e
        old = dest_of v i e at_v named

        by : (f : ℕ) → v ≤ f → f < v + e.ahead → (IsTied p c f → ⊥) → StandApart (narrowed p) new (place v) (place v + d.ahead)
        by f above below free =
            let inside = old.dest.inside in
            let x = get_some c.instrs f (omega (arith, below, inside)) in
            let y = get_some c.instrs (v + e.ahead) inside in
            let a = rises v f i x.0 at_v x.1 above in
            let k = ordered f (v + e.ahead) x.0 y.0 x.1 y.1 below in
            let z = ap (λ (d : Dest). d.ahead) same in
            (place f, a, omega (arith, a, k, z), old_free f x.0 x.1 free)

    of_side : (o : ℕ) (ds : List Dest) (d : Dest) → o + copies ds ≤ size (parted i)
        → ((e : Dest) → Contains ds e → Contains (i.firsts ++ i.seconds) e) → Contains (side (l p c) v (place v) (base v + o) ds) d
        → StandApart (narrowed p) new (place v) (place v + d.ahead)
    of_side o ds d fits part h = pick (side_names (l p c) v (place v) (base v + o) ds d h)
      where
        pick : ((1 < length ds) × (dest_at (place v) (base v + o) Left ≡ d)) ⊎ ((e : Dest) × Contains ds e × (leaf (l p c) v (place v) e ≡ d))
            → StandApart (narrowed p) new (place v) (place v + d.ahead)
        pick (inl (more, e)) = to_copy o d (omega (arith, fits, more)) e
        pick (inr (e, k, same)) = to_leaf e d (part e k) same

    whole : (d : Dest) → Contains ((parted i).firsts ++ (parted i).seconds) d → Contains (i.firsts ++ i.seconds) d
    whole d h = subst (λ ds. Contains ds d) (parted_all i) h

    of_moved : (d : Dest) → Contains ((moved (l p c) v (parted i)).firsts ++ (moved (l p c) v (parted i)).seconds) d
        → StandApart (narrowed p) new (place v) (place v + d.ahead)
    of_moved d h = pick (Contains-append_cases (moved (l p c) v (parted i)).firsts (moved (l p c) v (parted i)).seconds d h)
      where
        z : base v + 0 ≡ base v
        z = omega arith

        pick : Contains (moved (l p c) v (parted i)).firsts d ⊎ Contains (moved (l p c) v (parted i)).seconds d
            → StandApart (narrowed p) new (place v) (place v + d.ahead)
        pick (inl k) = of_side 0 (parted i).firsts d (omega arith) (λ e m. whole e (Contains-append_left (parted i).firsts (parted i).seconds e m))
            (subst (λ root. Contains (side (l p c) v (place v) root (parted i).firsts) d) (sym z) k)
        pick (inr k) = of_side (copies (parted i).firsts) (parted i).seconds d (omega arith)
            (λ e m. whole e (Contains-append_right (parted i).firsts (parted i).seconds e m)) k

  pub stand_apart : (n : ℕ) (y : Instr) (d : Dest) → slice_get new.instrs n ≡ Some y → Contains (y.firsts ++ y.seconds) d → 0 < d.ahead
      → StandApart (narrowed p) new n (n + d.ahead)
  stand_apart n y d e h later = by (comes_here (ts p c) (is p c) (all p c) n y e)
    where
      by : IsMoved (ts p c) (is p c) (all p c) n y ⊎ IsCopied (ts p c) (is p c) (all p c) n y → StandApart (narrowed p) new n (n + d.ahead)
      by (inl o) =
          let q = map_get_back parted c.instrs o.v o.i o.there in
          subst (λ n. StandApart (narrowed p) new n (n + d.ahead)) (sym o.at)
          (of_moved o.v q.0 q.1 d (subst (λ (y : Instr). Contains (y.firsts ++ y.seconds) d) (sym (ap (moved (l p c) o.v) q.2 ∙ o.what)) h))
      by (inr o) =
          let q = map_get_back parted c.instrs o.v o.i o.there in
          let k = slice_get_within (copies_of (l p c) o.v o.i) o.j y o.what in
          let m = sized (l p c) o.v o.i in
          let w = ap size q.2 in
          (n, omega arith, omega (arith, later), λ t. copy_free o.v o.j q.0 q.1 (omega (arith, k, m, w)) (subst (λ n. IsTied (narrowed p) new n) o.at t))
