-- The landing of a link stays a row.
use Rattle.std.proofs.Common.{◌≡◌, ℕ, zero, suc, ◌+◌, ◌<◌, Bool, true, false, List, ◌∷◌, length, refl, sym, ap, ◌∙◌, subst, inl, inr, arith, Some}
use Rattle.std.proofs.Common.{true≢false, []}
use Rattle.std.specs.Prelude.{slice_get, slice_index_or}
use Rattle.lemmas.proofs.SliceGet.{get_some}
use Rattle.tags.specs.declared.token.Port.TheVariants.{Left}
use Rattle.semantics.specs.declared.program.Dest.{Dest}
use Rattle.semantics.specs.declared.program.Op.TheVariants.{Link}
use Rattle.semantics.specs.Program.{Instr, CodeBlock}
use Rattle.semantics.specs.Plan.{Plan, landing}
use Rattle.folding.specs.declared.namers.Namer.{Namer}
use Rattle.folding.specs.declared.namers.Namer.TheVariants.{One, Many}
use Rattle.folding.specs.Namers.{Namers, namer_at, namer_of, note_row, note_landings, note_link, note_instr, note_all, entries_noted, namers_of}
use Rattle.folding.specs.Places.{layout_of, gone_at}
use Rattle.folding.specs.Laws.{KeepsLandings}
use Rattle.folding.proofs.Standing.{before, all, place_is}
use Rattle.folding.proofs.Naming.{Grows, Sized, late, mid, landings_grow, all_grow, row_length, dests_sized, instr_sized, entries_sized}
use Rattle.folding.proofs.Taken.{row_many, leaves_out}

still_many : (x y : Namer) → Grows x y → x ≡ Many → y ≡ Many
still_many x y (inl e) m = e ∙ m
still_many x y (inr (inl e)) m = e
still_many x y (inr (inr e)) m = absurd (cc)

landing_many : (ns : List Namer) (n size : ℕ) (ds : List Dest) (v : ℕ) (d : Dest) (k : ℕ) → slice_get ds v ≡ Some d → k < size
    → n + d.ahead + k < length ns → namer_at (note_landings ns n size ds) (n + d.ahead + k) ≡ Many
landing_many ns n size [] v d k at h l = absurd (cc)
landing_many ns n size (e ∷ ds) zero d k at h l =
    let same : e ≡ d = cc in
    let row = row_many ns (n + d.ahead) size (n + d.ahead + k) (omega arith) (omega (arith, h)) l in
    ap (λ (x : Dest). namer_at (note_landings (note_row ns (n + x.ahead) size) n size ds) (n + d.ahead + k)) same
    ∙ still_many (namer_at (note_row ns (n + d.ahead) size) (n + d.ahead + k)) (namer_at (note_landings (note_row ns (n + d.ahead) size) n size ds)
    (n + d.ahead + k)) (landings_grow (note_row ns (n + d.ahead) size) n size ds (n + d.ahead + k)) row
landing_many ns n size (e ∷ ds) (suc v) d k at h l =
    let len = row_length ns (n + e.ahead) size in landing_many (note_row ns (n + e.ahead) size) n size ds v d k at h (omega (arith, l, len))

link_many : (p : Plan) (ns : Namers) (n : ℕ) (i : Instr) (b v k c : ℕ) (d : Dest) → Sized ns c → i.op ≡ Link b → slice_get i.firsts v ≡ Some d
    → k < landing p b → n + d.ahead + k < c
    → namer_at (note_instr p ns n i).lefts (n + d.ahead + k) ≡ Many
link_many p ns n i b v k c d size op at h l =
    let s = dests_sized (mid ns n i) n true i.seconds c (dests_sized ns n false i.firsts c size) in
    let len : length (late ns n i).lefts ≡ c = s.0 in
    ap (λ o. namer_at (note_link p (late ns n i) n i o).lefts (n + d.ahead + k)) op ∙ landing_many (late ns n i).lefts n (landing p b) i.firsts v d k
    at h (omega (arith, l, len))

pub all_many : (p : Plan) (ns : Namers) (n : ℕ) (is : List Instr) (u : ℕ) (i : Instr) (b v k c : ℕ) (d : Dest) → Sized ns c → slice_get is u ≡ Some i
    → i.op ≡ Link b → slice_get i.firsts v ≡ Some d → k < landing p b
    → n + u + d.ahead + k < c → namer_at (note_all p ns n is).lefts (n + u + d.ahead + k) ≡ Many
all_many p ns n [] u i b v k c d size there op at h l = absurd (cc)
all_many p ns n (j ∷ is) zero i b v k c d size there op at h l =
    let e : j ≡ i = cc in let z : n ≡ n + 0 = omega arith in
    let ms = note_instr p ns n i in
    let one = still_many (namer_at ms.lefts (n + d.ahead + k)) (namer_at (note_all p ms (n + 1) is).lefts (n + d.ahead + k))
    (all_grow p ms (n + 1) is (n + d.ahead + k) Left) (link_many p ns n i b v k c d size op at h (omega (arith, l, z))) in
    subst (λ m. namer_at (note_all p ns n (j ∷ is)).lefts (m + d.ahead + k) ≡ Many) z
    (subst (λ (x : Instr). namer_at (note_all p (note_instr p ns n x) (n + 1) is).lefts (n + d.ahead + k) ≡ Many) (sym e) one)
all_many p ns n (j ∷ is) (suc u) i b v k c d size there op at h l =
    let z : n + 1 + u ≡ n + suc u = omega arith in
    subst (λ m. namer_at (note_all p ns n (j ∷ is)).lefts (m + d.ahead + k) ≡ Many) z
    (all_many p (note_instr p ns n j) (n + 1) is u i b v k c d (instr_sized p ns n j c size) there op at h (omega (arith, l, z)))

-- a row of which nothing is left out stays a row
before_row : (gs : List Bool) (m k : ℕ) → ((j : ℕ) → j < k → slice_index_or gs (m + j) false ≡ false) → m + k < length gs → before gs (m + k) ≡ before gs m + k
before_row gs m zero h l = let z : m + 0 ≡ m = omega arith in let e = ap (before gs) z in omega (arith, e)
before_row [] m (suc k) h l = absurd (omega (arith, l))
before_row (true ∷ gs) zero (suc k) h l = absurd (true≢false (h 0 (omega arith)))
before_row (false ∷ gs) zero (suc k) h l =
    let r = before_row gs 0 k (λ j o. let z : 0 + j ≡ j = omega arith in let y : 0 + suc j ≡ suc j = omega arith
    in ap (λ m. slice_index_or gs m false) z ∙ sym (ap (λ m. slice_index_or (false ∷ gs) m false) y) ∙ h (suc j) (omega (arith, o))) (omega (arith, l)) in
    let z : 0 + suc k ≡ suc k = omega arith in let y : 0 + k ≡ k = omega arith in
    let a = ap (before (false ∷ gs)) z in let b = ap (before gs) y in omega (arith, r, a, b)
before_row (true ∷ gs) (suc m) (suc k) h l =
    let z : suc m + suc k ≡ suc (m + suc k) = omega arith in
    let r = before_row gs m (suc k) (λ j o. let y : suc m + j ≡ suc (m + j) = omega arith in sym (ap (λ m. slice_index_or (true ∷ gs) m false) y)
    ∙ h j o) (omega (arith, l)) in
    let a = ap (before (true ∷ gs)) z in omega (arith, r, a)
before_row (false ∷ gs) (suc m) (suc k) h l =
    let z : suc m + suc k ≡ suc (m + suc k) = omega arith in
    let r = before_row gs m (suc k) (λ j o. let y : suc m + j ≡ suc (m + j) = omega arith in sym (ap (λ m. slice_index_or (false ∷ gs) m false) y)
    ∙ h j o) (omega (arith, l)) in
    let a = ap (before (false ∷ gs)) z in omega (arith, r, a)

landing_stays : (p : Plan) (c : CodeBlock) (n v k b : ℕ) (i : Instr) (d : Dest) → slice_get c.instrs n ≡ Some i → i.op ≡ Link b → slice_get i.firsts v
    ≡ Some d → k < landing p b → n + d.ahead + k < length c.instrs
    → gone_at (layout_of p c) (n + d.ahead + k) ≡ false
landing_stays p c n v k b i d there op at h l = pick (gone_at (layout_of p c) (n + d.ahead + k)) refl (get_some c.instrs (n + d.ahead + k) l)
  where
    many : namer_of (namers_of p c) (n + d.ahead + k) Left ≡ Many
    many =
        let z : 0 + n ≡ n = omega arith in
        subst (λ m. namer_at (namers_of p c).lefts (m + d.ahead + k) ≡ Many) z
        (all_many p (entries_noted c.inputs (length c.instrs)) 0 c.instrs n i b v k (length c.instrs) d (entries_sized c.inputs (length c.instrs))
        there op at h (omega (arith, l, z)))

    by_source : (m : ℕ) × (s : Bool) × (namer_of (namers_of p c) (n + d.ahead + k) Left ≡ One m s) → ⊥
    by_source (m, s, e) = let f = many in absurd (cc)

    pick : (t : Bool) → gone_at (layout_of p c) (n + d.ahead + k) ≡ t → (i : Instr) × (slice_get c.instrs (n + d.ahead + k) ≡ Some i)
        → gone_at (layout_of p c) (n + d.ahead + k) ≡ false
    pick false t i = t
    pick true t (j, stood) = absurd (by_source (leaves_out p c (n + d.ahead + k) j stood t).source)

pub keeps_landings : KeepsLandings
keeps_landings p c n v k b i d there op at h l =
    let len = all p c in
    let a = place_is p c (n + d.ahead + k) l in
    let e = place_is p c (n + d.ahead) (omega (arith, l)) in
    let r = before_row (layout_of p c).gone (n + d.ahead) k (λ j o. landing_stays p c n v j b i d there op at (omega (arith, o, h))
    (omega (arith, o, l))) (omega (arith, l, len)) in
    (landing_stays p c n v k b i d there op at h l, a ∙ r ∙ ap (λ x. x + k) (sym e))
