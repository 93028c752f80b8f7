-- What the table of namers says.
use Rattle.std.proofs.Common.{◌≡◌, ℕ, zero, suc, ◌+◌, ◌<◌, ◌≤◌, Bool, true, false, List, ◌∷◌, length, refl, sym, ap, ◌∙◌, subst, inl, inr, ◌⊎◌}
use Rattle.std.proofs.Common.{arith, Some, length-set, []}
use Rattle.std.specs.Prelude.{slice_get, slice_set}
use Rattle.std.proofs.lemmas.Bool.{cases_eq, cases_lt}
use Rattle.std.proofs.lemmas.List.{get_or-set_same, get_or-set_other, get_or_past, length-replicate}
use Rattle.tags.specs.declared.token.Port.{Port}
use Rattle.tags.specs.declared.token.Port.TheVariants.{Left, Right}
use Rattle.semantics.specs.declared.program.Dest.{Dest}
use Rattle.semantics.specs.declared.program.Op.{Op}
use Rattle.semantics.specs.declared.program.Op.TheVariants.{Link}
use Rattle.semantics.specs.Program.{Instr}
use Rattle.semantics.specs.Plan.{Plan, landing}
use Rattle.folding.specs.declared.namers.Namer.{Namer}
use Rattle.folding.specs.declared.namers.Namer.TheVariants.{Nobody, One, Many}
use Rattle.folding.specs.Namers.{Namers, namer_at, namer_of, again, noted, note_dests, note_row, note_landings, note_link, note_instr, note_all}
use Rattle.folding.specs.Namers.{nobody, entries_noted, namers_of}
use Rattle.folding.specs.Laws.{dests_of, NamedBy, KnowsNamers}

-- A port that is noted again keeps its namer, or gets many, or had none.
abbrev pub Grows : Namer → Namer → Type 0
Grows x y = (y ≡ x) ⊎ ((y ≡ Many) ⊎ (x ≡ Nobody))

grows_then : (x y z : Namer) → Grows x y → Grows y z → Grows x z
grows_then x y z (inl e) (inl f) = inl (f ∙ e)
grows_then x y z (inl e) (inr (inl f)) = inr (inl f)
grows_then x y z (inl e) (inr (inr f)) = inr (inr (sym e ∙ f))
grows_then x y z (inr (inl e)) (inl f) = inr (inl (f ∙ e))
grows_then x y z (inr (inl e)) (inr (inl f)) = inr (inl f)
grows_then x y z (inr (inl e)) (inr (inr f)) = absurd (cc)
grows_then x y z (inr (inr e)) g = inr (inr e)

again_grows : (x y : Namer) → Grows x (again x y)
again_grows Nobody y = inr (inr refl)
again_grows (One n s) y = inr (inl refl)
again_grows Many y = inl refl

-- what is noted at a place
put_grows : (ns : List Namer) (m : ℕ) (x : Namer) (k : ℕ) → Grows (namer_at ns m) x → Grows (namer_at ns k) (namer_at (slice_set ns m x) k)
put_grows ns m x k g = pick (cases_eq k m) (cases_lt k (length ns))
  where
    pick : (k ≡ m) ⊎ (k ≡ m → ⊥) → (k < length ns) ⊎ (length ns ≤ k) → Grows (namer_at ns k) (namer_at (slice_set ns m x) k)
    pick (inl e) (inl h) =
        let same : namer_at (slice_set ns m x) k ≡ x = ap (namer_at (slice_set ns m x)) e ∙ get_or-set_same ns m x Nobody (omega (arith, e, h)) in
        subst (Grows (namer_at ns k)) (sym same) (subst (λ j. Grows (namer_at ns j) x) (sym e) g)
    pick (inl e) (inr h) = inr (inr (get_or_past ns k Nobody h))
    pick (inr d) h = inl (get_or-set_other ns m k x Nobody d)

many_grows : (ns : List Namer) (m k : ℕ) → Grows (namer_at ns k) (namer_at (slice_set ns m Many) k)
many_grows ns m k = put_grows ns m Many k (inr (inl refl))

row_grows : (ns : List Namer) (from count k : ℕ) → Grows (namer_at ns k) (namer_at (note_row ns from count) k)
row_grows ns from zero k = inl refl
row_grows ns from (suc c) k = grows_then (namer_at ns k) (namer_at (note_row ns from c) k) (namer_at (note_row ns from (suc c)) k)
    (row_grows ns from c k) (many_grows (note_row ns from c) (from + c) k)

pub landings_grow : (ns : List Namer) (n size : ℕ) (ds : List Dest) (k : ℕ) → Grows (namer_at ns k) (namer_at (note_landings ns n size ds) k)
landings_grow ns n size [] k = inl refl
landings_grow ns n size (d ∷ ds) k =
    grows_then (namer_at ns k) (namer_at (note_row ns (n + d.ahead) size) k) (namer_at (note_landings ns n size (d ∷ ds)) k)
    (row_grows ns (n + d.ahead) size k) (landings_grow (note_row ns (n + d.ahead) size) n size ds k)

abbrev pub AllGrow : Namers → Namers → Type 0
AllGrow ns ms = (k : ℕ) (q : Port) → Grows (namer_of ns k q) (namer_of ms k q)

all_then : (ns ms os : Namers) → AllGrow ns ms → AllGrow ms os → AllGrow ns os
all_then ns ms os a b k q = grows_then (namer_of ns k q) (namer_of ms k q) (namer_of os k q) (a k q) (b k q)

noted_grows : (ns : Namers) (m : ℕ) (q : Port) (x : Namer) → AllGrow ns (noted ns m q x)
noted_grows ns m Left x k Left = put_grows ns.lefts m (again (namer_at ns.lefts m) x) k (again_grows (namer_at ns.lefts m) x)
noted_grows ns m Left x k Right = inl refl
noted_grows ns m Right x k Left = inl refl
noted_grows ns m Right x k Right = put_grows ns.rights m (again (namer_at ns.rights m) x) k (again_grows (namer_at ns.rights m) x)

dests_grow : (ns : Namers) (n : ℕ) (s : Bool) (ds : List Dest) → AllGrow ns (note_dests ns n s ds)
dests_grow ns n s [] k q = inl refl
dests_grow ns n s (d ∷ ds) k q =
    all_then ns (noted ns (n + d.ahead) d.port (One n s)) (note_dests ns n s (d ∷ ds)) (noted_grows ns (n + d.ahead) d.port (One n s))
    (dests_grow (noted ns (n + d.ahead) d.port (One n s)) n s ds) k q

pub link_grows : (p : Plan) (ns : Namers) (n : ℕ) (i : Instr) (op : Op) → AllGrow ns (note_link p ns n i op)
link_grows p ns n i (Link b) k Left = landings_grow ns.lefts n (landing p b) i.firsts k
link_grows p ns n i (Link b) k Right = inl refl
link_grows p ns n i op k q = inl refl

-- the table after the first destinations of an instruction, and after the second ones
abbrev pub mid : Namers → ℕ → Instr → Namers
mid ns n i = note_dests ns n false i.firsts

abbrev pub late : Namers → ℕ → Instr → Namers
late ns n i = note_dests (mid ns n i) n true i.seconds

pub instr_grows : (p : Plan) (ns : Namers) (n : ℕ) (i : Instr) → AllGrow ns (note_instr p ns n i)
instr_grows p ns n i =
    all_then ns (mid ns n i) (note_instr p ns n i) (dests_grow ns n false i.firsts)
    (all_then (mid ns n i) (late ns n i) (note_instr p ns n i) (dests_grow (mid ns n i) n true i.seconds) (link_grows p (late ns n i) n i i.op))

pub all_grow : (p : Plan) (ns : Namers) (n : ℕ) (is : List Instr) → AllGrow ns (note_all p ns n is)
all_grow p ns n [] k q = inl refl
all_grow p ns n (i ∷ is) k q = all_then ns (note_instr p ns n i) (note_all p ns n (i ∷ is)) (instr_grows p ns n i)
    (all_grow p (note_instr p ns n i) (n + 1) is) k q

-- HOW MANY PORTS THERE ARE
abbrev pub Sized : Namers → ℕ → Type 0
Sized ns c = (length ns.lefts ≡ c) × (length ns.rights ≡ c)

pub row_length : (ns : List Namer) (from count : ℕ) → length (note_row ns from count) ≡ length ns
row_length ns from zero = refl
row_length ns from (suc c) = length-set (note_row ns from c) (from + c) Many ∙ row_length ns from c

landings_length : (ns : List Namer) (n size : ℕ) (ds : List Dest) → length (note_landings ns n size ds) ≡ length ns
landings_length ns n size [] = refl
landings_length ns n size (d ∷ ds) = landings_length (note_row ns (n + d.ahead) size) n size ds ∙ row_length ns (n + d.ahead) size

noted_sized : (ns : Namers) (m : ℕ) (q : Port) (x : Namer) (c : ℕ) → Sized ns c → Sized (noted ns m q x) c
noted_sized ns m Left x c (a, b) = (length-set ns.lefts m (again (namer_at ns.lefts m) x) ∙ a, b)
noted_sized ns m Right x c (a, b) = (a, length-set ns.rights m (again (namer_at ns.rights m) x) ∙ b)

pub dests_sized : (ns : Namers) (n : ℕ) (s : Bool) (ds : List Dest) (c : ℕ) → Sized ns c → Sized (note_dests ns n s ds) c
dests_sized ns n s [] c h = h
dests_sized ns n s (d ∷ ds) c h = dests_sized (noted ns (n + d.ahead) d.port (One n s)) n s ds c (noted_sized ns (n + d.ahead) d.port (One n s) c h)

link_sized : (p : Plan) (ns : Namers) (n : ℕ) (i : Instr) (op : Op) (c : ℕ) → Sized ns c → Sized (note_link p ns n i op) c
link_sized p ns n i (Link b) c (x, y) = (landings_length ns.lefts n (landing p b) i.firsts ∙ x, y)
link_sized p ns n i op c h = h

pub instr_sized : (p : Plan) (ns : Namers) (n : ℕ) (i : Instr) (c : ℕ) → Sized ns c → Sized (note_instr p ns n i) c
instr_sized p ns n i c h = link_sized p (late ns n i) n i i.op c (dests_sized (mid ns n i) n true i.seconds c (dests_sized ns n false i.firsts c h))

-- NAMES
named_grows : (n : ℕ) (s : Bool) (x y : Namer) → NamedBy n s x → Grows x y → NamedBy n s y
named_grows n s x y (inl e) (inl f) = inl (f ∙ e)
named_grows n s x y (inl e) (inr (inl f)) = inr f
named_grows n s x y (inl e) (inr (inr f)) = absurd (cc)
named_grows n s x y (inr e) (inl f) = inr (f ∙ e)
named_grows n s x y (inr e) (inr (inl f)) = inr f
named_grows n s x y (inr e) (inr (inr f)) = absurd (cc)

again_named : (x : Namer) (n : ℕ) (s : Bool) → NamedBy n s (again x (One n s))
again_named Nobody n s = inl refl
again_named (One m t) n s = inr refl
again_named Many n s = inr refl

noted_named : (ns : Namers) (m : ℕ) (q : Port) (n : ℕ) (s : Bool) (c : ℕ) → Sized ns c → m < c → NamedBy n s (namer_of (noted ns m q (One n s)) m q)
noted_named ns m Left n s c (a, b) h = subst (NamedBy n s)
    (sym (get_or-set_same ns.lefts m (again (namer_at ns.lefts m) (One n s)) Nobody (omega (arith, h, a)))) (again_named (namer_at ns.lefts m) n s)
noted_named ns m Right n s c (a, b) h = subst (NamedBy n s)
    (sym (get_or-set_same ns.rights m (again (namer_at ns.rights m) (One n s)) Nobody (omega (arith, h, b)))) (again_named (namer_at ns.rights m) n s)

dests_named : (ns : Namers) (n : ℕ) (s : Bool) (ds : List Dest) (k : ℕ) (d : Dest) (c : ℕ) → Sized ns c → slice_get ds k ≡ Some d → n + d.ahead < c
    → NamedBy n s (namer_of (note_dests ns n s ds) (n + d.ahead) d.port)
dests_named ns n s [] k d c size at h = absurd (cc)
dests_named ns n s (e ∷ ds) zero d c size at h =
    let same : e ≡ d = cc in
    let ms = noted ns (n + d.ahead) d.port (One n s) in
    subst (λ (x : Dest). NamedBy n s (namer_of (note_dests (noted ns (n + x.ahead) x.port (One n s)) n s ds) (n + d.ahead) d.port)) (sym same)
    (named_grows n s (namer_of ms (n + d.ahead) d.port) (namer_of (note_dests ms n s ds) (n + d.ahead) d.port)
    (noted_named ns (n + d.ahead) d.port n s c size h) (dests_grow ms n s ds (n + d.ahead) d.port))
dests_named ns n s (e ∷ ds) (suc k) d c size at h = dests_named (noted ns (n + e.ahead) e.port (One n s)) n s ds k d c
    (noted_sized ns (n + e.ahead) e.port (One n s) c size) at h

instr_named : (p : Plan) (ns : Namers) (n : ℕ) (i : Instr) (s : Bool) (k : ℕ) (d : Dest) (c : ℕ) → Sized ns c → slice_get (dests_of i s) k ≡ Some d
    → n + d.ahead < c → NamedBy n s (namer_of (note_instr p ns n i) (n + d.ahead) d.port)
instr_named p ns n i false k d c size at h =
    named_grows n false (namer_of (mid ns n i) (n + d.ahead) d.port) (namer_of (note_instr p ns n i) (n + d.ahead) d.port)
    (dests_named ns n false i.firsts k d c size at h)
    (all_then (mid ns n i) (late ns n i) (note_instr p ns n i) (dests_grow (mid ns n i) n true i.seconds) (link_grows p (late ns n i) n i i.op)
    (n + d.ahead) d.port)
instr_named p ns n i true k d c size at h =
    named_grows n true (namer_of (late ns n i) (n + d.ahead) d.port) (namer_of (note_instr p ns n i) (n + d.ahead) d.port)
    (dests_named (mid ns n i) n true i.seconds k d c (dests_sized ns n false i.firsts c size) at h)
    (link_grows p (late ns n i) n i i.op (n + d.ahead) d.port)

all_named : (p : Plan) (ns : Namers) (n : ℕ) (is : List Instr) (v : ℕ) (i : Instr) (s : Bool) (k : ℕ) (d : Dest) (c : ℕ) → Sized ns c
    → slice_get is v ≡ Some i → slice_get (dests_of i s) k ≡ Some d → n + v + d.ahead < c
    → NamedBy (n + v) s (namer_of (note_all p ns n is) (n + v + d.ahead) d.port)
all_named p ns n [] v i s k d c size there at h = absurd (cc)
all_named p ns n (j ∷ is) zero i s k d c size there at h =
    let e : j ≡ i = cc in let z : n ≡ n + 0 = omega arith in
    let ms = note_instr p ns n i in
    let one = named_grows n s (namer_of ms (n + d.ahead) d.port) (namer_of (note_all p ms (n + 1) is) (n + d.ahead) d.port)
    (instr_named p ns n i s k d c size at (omega (arith, h, z))) (all_grow p ms (n + 1) is (n + d.ahead) d.port) in
    subst (λ m. NamedBy m s (namer_of (note_all p ns n (j ∷ is)) (m + d.ahead) d.port)) z
    (subst (λ (x : Instr). NamedBy n s (namer_of (note_all p (note_instr p ns n x) (n + 1) is) (n + d.ahead) d.port)) (sym e) one)
all_named p ns n (j ∷ is) (suc v) i s k d c size there at h =
    let z : n + 1 + v ≡ n + suc v = omega arith in
    subst (λ m. NamedBy m s (namer_of (note_all p ns n (j ∷ is)) (m + d.ahead) d.port)) z
    (all_named p (note_instr p ns n j) (n + 1) is v i s k d c (instr_sized p ns n j c size) there at (omega (arith, h, z)))

pub entries_sized : (inputs n : ℕ) → Sized (entries_noted inputs n) n
entries_sized inputs n = (row_length (nobody n) 0 (inputs + 1) ∙ length-replicate n Nobody, length-replicate n Nobody)

pub knows_namers : KnowsNamers
knows_namers p c n k i s d there at h =
    let z : 0 + n ≡ n = omega arith in
    subst (λ m. NamedBy m s (namer_of (namers_of p c) (m + d.ahead) d.port)) z
    (all_named p (entries_noted c.inputs (length c.instrs)) 0 c.instrs n i s k d (length c.instrs) (entries_sized c.inputs (length c.instrs)) there at
    (omega (arith, h, z)))
