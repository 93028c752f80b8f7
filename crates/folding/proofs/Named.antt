-- What names a port by the table of namers does name it.
use Rattle.std.proofs.Common.{◌≡◌, ℕ, zero, suc, ◌+◌, ◌<◌, ◌≤◌, Bool, true, false, List, ◌∷◌, length, refl, sym, ap, ◌∙◌, subst, inl, inr, ◌⊎◌}
use Rattle.std.proofs.Common.{arith, Some, length-set, []}
use Rattle.std.specs.Prelude.{slice_get, slice_set}
use Rattle.std.proofs.lemmas.Bool.{cases_eq, cases_lt}
use Rattle.std.proofs.lemmas.List.{get_or-set_same, get_or-set_other, get_or_past}
use Rattle.tags.specs.declared.token.Port.{Port}
use Rattle.tags.specs.declared.token.Port.TheVariants.{Left, Right}
use Rattle.semantics.specs.declared.program.Dest.{Dest}
use Rattle.semantics.specs.declared.program.Op.{Op}
use Rattle.semantics.specs.declared.program.Op.TheVariants.{Link}
use Rattle.semantics.specs.Program.{Instr}
use Rattle.semantics.specs.Plan.{Plan, landing}
use Rattle.folding.specs.declared.namers.Namer.{Namer}
use Rattle.folding.specs.declared.namers.Namer.TheVariants.{Nobody, One, Many}
use Rattle.folding.specs.Namers.{Namers, namer_at, namer_of, again, noted, note_dests, note_row, note_landings, note_link, note_instr, note_all}
use Rattle.folding.specs.Namers.{nobody, entries_noted}
use Rattle.folding.specs.Laws.{dests_of, NamersName}

again_back : (x y : Namer) (a : ℕ) (t : Bool) → again x y ≡ One a t → y ≡ One a t
again_back Nobody y a t e = e
again_back (One n s) y a t e = absurd (cc)
again_back Many y a t e = absurd (cc)

put_back : (ns : List Namer) (m : ℕ) (x : Namer) (k a : ℕ) (t : Bool) → namer_at (slice_set ns m x) k ≡ One a t
    → (namer_at ns k ≡ One a t) ⊎ ((m ≡ k) × (x ≡ One a t))
put_back ns m x k a t e = pick (cases_eq k m) (cases_lt m (length ns))
  where
    pick : (k ≡ m) ⊎ (k ≡ m → ⊥) → (m < length ns) ⊎ (length ns ≤ m) → (namer_at ns k ≡ One a t) ⊎ ((m ≡ k) × (x ≡ One a t))
    pick (inl s) (inl h) = inr (sym s, sym (ap (namer_at (slice_set ns m x)) s ∙ get_or-set_same ns m x Nobody h) ∙ e)
    pick (inl s) (inr h) = let len = length-set ns m x in let past : namer_at (slice_set ns m x) k ≡ Nobody = get_or_past (slice_set ns m x) k Nobody
        (omega (arith, h, s, len)) in absurd (cc)
    pick (inr d) h = inl (sym (get_or-set_other ns m k x Nobody d) ∙ e)

many_back : (ns : List Namer) (m k a : ℕ) (t : Bool) → namer_at (slice_set ns m Many) k ≡ One a t → namer_at ns k ≡ One a t
many_back ns m k a t e = pick (put_back ns m Many k a t e)
  where
    pick : (namer_at ns k ≡ One a t) ⊎ ((m ≡ k) × (Many ≡ One a t)) → namer_at ns k ≡ One a t
    pick (inl s) = s
    pick (inr (s, x)) = absurd (cc)

row_back : (ns : List Namer) (from count k a : ℕ) (t : Bool) → namer_at (note_row ns from count) k ≡ One a t → namer_at ns k ≡ One a t
row_back ns from zero k a t e = e
row_back ns from (suc c) k a t e = row_back ns from c k a t (many_back (note_row ns from c) (from + c) k a t e)

landings_back : (ns : List Namer) (n size : ℕ) (ds : List Dest) (k a : ℕ) (t : Bool) → namer_at (note_landings ns n size ds) k ≡ One a t
    → namer_at ns k ≡ One a t
landings_back ns n size [] k a t e = e
landings_back ns n size (d ∷ ds) k a t e = row_back ns (n + d.ahead) size k a t (landings_back (note_row ns (n + d.ahead) size) n size ds k a t e)

noted_back : (ns : Namers) (m : ℕ) (q : Port) (x : Namer) (k : ℕ) (r : Port) (a : ℕ) (t : Bool) → namer_of (noted ns m q x) k r ≡ One a t
    → (namer_of ns k r ≡ One a t) ⊎ ((m ≡ k) × (q ≡ r) × (x ≡ One a t))
noted_back ns m Left x k Left a t e = pick (put_back ns.lefts m (again (namer_at ns.lefts m) x) k a t e)
  where
    pick : (namer_at ns.lefts k ≡ One a t) ⊎ ((m ≡ k) × (again (namer_at ns.lefts m) x ≡ One a t))
        → (namer_at ns.lefts k ≡ One a t) ⊎ ((m ≡ k) × (Left ≡ Left) × (x ≡ One a t))
    pick (inl s) = inl s
    pick (inr (s, y)) = inr (s, refl, again_back (namer_at ns.lefts m) x a t y)
noted_back ns m Left x k Right a t e = inl e
noted_back ns m Right x k Left a t e = inl e
noted_back ns m Right x k Right a t e = pick (put_back ns.rights m (again (namer_at ns.rights m) x) k a t e)
  where
    pick : (namer_at ns.rights k ≡ One a t) ⊎ ((m ≡ k) × (again (namer_at ns.rights m) x ≡ One a t))
        → (namer_at ns.rights k ≡ One a t) ⊎ ((m ≡ k) × (Right ≡ Right) × (x ≡ One a t))
    pick (inl s) = inl s
    pick (inr (s, y)) = inr (s, refl, again_back (namer_at ns.rights m) x a t y)

-- a destination of a list that names a port
abbrev By : ℕ → List Dest → ℕ → Port → Type 0
By n ds m q = (k : ℕ) × (d : Dest) × (slice_get ds k ≡ Some d) × (n + d.ahead ≡ m) × (d.port ≡ q)

dests_back : (ns : Namers) (n : ℕ) (s : Bool) (ds : List Dest) (m : ℕ) (q : Port) (a : ℕ) (t : Bool) → namer_of (note_dests ns n s ds) m q ≡ One a t
    → (namer_of ns m q ≡ One a t) ⊎ (By n ds m q × (One n s ≡ One a t))
dests_back ns n s [] m q a t e = inl e
dests_back ns n s (d ∷ ds) m q a t e = earlier (dests_back (noted ns (n + d.ahead) d.port (One n s)) n s ds m q a t e)
  where
    first : (namer_of ns m q ≡ One a t) ⊎ ((n + d.ahead ≡ m) × (d.port ≡ q) × (One n s ≡ One a t)) → (namer_of ns m q ≡ One a t) ⊎ (By n (d ∷ ds) m q
        × (One n s ≡ One a t))
    first (inl h) = inl h
    first (inr (x, y, z)) = inr ((0, d, refl, x, y), z)

    earlier : (namer_of (noted ns (n + d.ahead) d.port (One n s)) m q ≡ One a t) ⊎ (By n ds m q × (One n s ≡ One a t))
        → (namer_of ns m q ≡ One a t) ⊎ (By n (d ∷ ds) m q × (One n s ≡ One a t))
    earlier (inl h) = first (noted_back ns (n + d.ahead) d.port (One n s) m q a t h)
    earlier (inr ((k, x, at, to, port), z)) = inr ((suc k, x, at, to, port), z)

link_back : (p : Plan) (ns : Namers) (n : ℕ) (i : Instr) (op : Op) (m : ℕ) (q : Port) (a : ℕ) (t : Bool) → namer_of (note_link p ns n i op) m q
    ≡ One a t → namer_of ns m q ≡ One a t
link_back p ns n i (Link b) m Left a t e = landings_back ns.lefts n (landing p b) i.firsts m a t e
link_back p ns n i (Link b) m Right a t e = e
link_back p ns n i op m q a t e = e

pub same_number : (n a : ℕ) (s t : Bool) → One n s ≡ One a t → n ≡ a
same_number n a s t e = cc

pub same_list : (n a : ℕ) (s t : Bool) → One n s ≡ One a t → s ≡ t
same_list n a s t e = cc

-- the n-th instruction names a port by the first or by the second destinations
abbrev ByInstr : ℕ → Instr → ℕ → Port → ℕ → Bool → Type 0
ByInstr n i m q a t = By n (dests_of i t) m q × (n ≡ a)

instr_back : (p : Plan) (ns : Namers) (n : ℕ) (i : Instr) (m : ℕ) (q : Port) (a : ℕ) (t : Bool) → namer_of (note_instr p ns n i) m q ≡ One a t
    → (namer_of ns m q ≡ One a t) ⊎ ByInstr n i m q a t
instr_back p ns n i m q a t e = late (dests_back mid n true i.seconds m q a t (link_back p (note_dests mid n true i.seconds) n i i.op m q a t e))
  where
    mid : Namers
    mid = note_dests ns n false i.firsts

    early : (namer_of ns m q ≡ One a t) ⊎ (By n i.firsts m q × (One n false ≡ One a t)) → (namer_of ns m q ≡ One a t) ⊎ ByInstr n i m q a t
    early (inl h) = inl h
    early (inr (by, z)) = inr (subst (λ s. By n (dests_of i s) m q) (same_list n a false t z) by, same_number n a false t z)

    late : (namer_of (note_dests ns n false i.firsts) m q ≡ One a t) ⊎ (By n i.seconds m q × (One n true ≡ One a t))
        → (namer_of ns m q ≡ One a t) ⊎ ByInstr n i m q a t
    late (inl h) = early (dests_back ns n false i.firsts m q a t h)
    late (inr (by, z)) = inr (subst (λ s. By n (dests_of i s) m q) (same_list n a true t z) by, same_number n a true t z)

abbrev Names : ℕ → List Instr → ℕ → Port → ℕ → Bool → Type 0
Names n is m q a t = (v : ℕ) × (i : Instr) × (slice_get is v ≡ Some i) × (n + v ≡ a) × By a (dests_of i t) m q

all_back : (p : Plan) (ns : Namers) (n : ℕ) (is : List Instr) (m : ℕ) (q : Port) (a : ℕ) (t : Bool) → namer_of (note_all p ns n is) m q ≡ One a t
    → (namer_of ns m q ≡ One a t) ⊎ Names n is m q a t
all_back p ns n [] m q a t e = inl e
all_back p ns n (i ∷ is) m q a t e = earlier (all_back p (note_instr p ns n i) (n + 1) is m q a t e)
  where
    first : (namer_of ns m q ≡ One a t) ⊎ ByInstr n i m q a t → (namer_of ns m q ≡ One a t) ⊎ Names n (i ∷ is) m q a t
    first (inl h) = inl h
    first (inr (by, z)) = let y : n + 0 ≡ n = omega arith in inr (0, i, refl, y ∙ z, subst (λ b. By b (dests_of i t) m q) z by)

    earlier : (namer_of (note_instr p ns n i) m q ≡ One a t) ⊎ Names (n + 1) is m q a t → (namer_of ns m q ≡ One a t) ⊎ Names n (i ∷ is) m q a t
    earlier (inl h) = first (instr_back p ns n i m q a t h)
    earlier (inr (v, j, at, z, by)) = let y : n + suc v ≡ n + 1 + v = omega arith in inr (suc v, j, at, y ∙ z, by)

nobody_at : (n k : ℕ) → namer_at (nobody n) k ≡ Nobody
nobody_at zero k = refl
nobody_at (suc n) zero = refl
nobody_at (suc n) (suc k) = nobody_at n k

none_before : (inputs n m : ℕ) (q : Port) (a : ℕ) (t : Bool) → namer_of (entries_noted inputs n) m q ≡ One a t → ⊥
none_before inputs n m Left a t e = let x = row_back (nobody n) 0 (inputs + 1) m a t e in let y = nobody_at n m in absurd (cc)
none_before inputs n m Right a t e = let y = nobody_at n m in absurd (cc)

pub namers_name : NamersName
namers_name p c m q n s e = found (all_back p (entries_noted c.inputs (length c.instrs)) 0 c.instrs m q n s e)
  where
    found : (namer_of (entries_noted c.inputs (length c.instrs)) m q ≡ One n s) ⊎ Names 0 c.instrs m q n s
        → (i : Instr) × (k : ℕ) × (d : Dest) × (slice_get c.instrs n ≡ Some i) × (slice_get (dests_of i s) k ≡ Some d) × (n + d.ahead ≡ m) × (d.port ≡ q)
    found (inl h) = absurd (none_before c.inputs (length c.instrs) m q n s h)
    found (inr (v, i, at, z, (k, d, there, to, port))) = let y : v ≡ 0 + v = omega arith in (
      i,
      k,
      d,
      sym (ap (slice_get c.instrs) (y ∙ z))
          ∙ at,
      there,
      to,
      port,
    )
