-- Only a row's instructions are flagged as tied: so each destination of a sound plan leaves its row.
use Rattle.std.proofs.Common.{◌≡◌, ℕ, zero, suc, ◌+◌, ◌-◌, ◌<◌, ◌≤◌, Bool, true, false, List, ◌∷◌, length, replicate, refl, sym, ap, ◌∙◌, subst}
use Rattle.std.proofs.Common.{inl, inr, ◌⊎◌, arith, true≢false, Some, []}
use Rattle.std.specs.Prelude.{slice_get, Contains}
use Rattle.std.proofs.lemmas.Bool.{cases_eq}
use Rattle.std.proofs.lemmas.List.{get_or-set_other}
use Rattle.lemmas.proofs.Contains.{contains_head, contains_tail}
use Rattle.lemmas.proofs.SliceGet.{map_get_back}
use Rattle.semantics.specs.declared.program.Dest.{Dest}
use Rattle.semantics.specs.declared.program.Op.{Op}
use Rattle.semantics.specs.declared.program.Op.TheVariants.{Link}
use Rattle.semantics.specs.Program.{Instr, CodeBlock}
use Rattle.semantics.specs.Plan.{Plan, landing}
use Rattle.code.specs.Sound.{IsTied, StandApart, NamesDest}
use Rattle.fanout.specs.Sides.{parted, parting_of, firsts_of}
use Rattle.fanout.specs.Rows.{tie, tie_landings, tie_instr, tie_all, is_tied}
use Rattle.fanout.specs.Narrowed.{parts_of, layout_of}
use Rattle.fanout.specs.Laws.{AreApart, Names}
use Rattle.fanout.specs.Sound.{SoundKeepsClear}

-- WHERE A FLAG COMES FROM
none_tied : (n k : ℕ) → is_tied (replicate n false) k ≡ false
none_tied zero k = refl
none_tied (suc n) zero = refl
none_tied (suc n) (suc k) = none_tied n k

tie_back : (ts : List Bool) (from count k : ℕ) → is_tied (tie ts from count) k ≡ true → (is_tied ts k ≡ true) ⊎ ((from ≤ k) × (k < from + count))
tie_back ts from zero k h = inl h
tie_back ts from (suc c) k h = pick (cases_eq k (from + c)) (tie_back ts from c k)
  where
    wider : (is_tied ts k ≡ true) ⊎ ((from ≤ k) × (k < from + c)) → (is_tied ts k ≡ true) ⊎ ((from ≤ k) × (k < from + suc c))
    wider (inl e) = inl e
    wider (inr (l, m)) = inr (l, omega (arith, m))

    pick : (k ≡ from + c) ⊎ (k ≡ from + c → ⊥) → (is_tied (tie ts from c) k ≡ true → (is_tied ts k ≡ true) ⊎ ((from ≤ k) × (k < from + c)))
        → (is_tied ts k ≡ true) ⊎ ((from ≤ k) × (k < from + suc c))
    pick (inl e) more = inr (omega (arith, e), omega (arith, e))
    pick (inr d) more = wider (more (sym (get_or-set_other (tie ts from c) (from + c) k true false d) ∙ h))

-- a destination's landing of `size` instructions has the k-th one, which is not its last
record IsWithin (n size : ℕ) (ds : List Dest) (k : ℕ) : Type 0 where
  pub dest : Dest
  pub named : Contains ds dest
  pub from : n + dest.ahead ≤ k
  pub to : k < n + dest.ahead + (size - 1)

landings_back : (ts : List Bool) (n size : ℕ) (ds : List Dest) (k : ℕ) → is_tied (tie_landings ts n size ds) k ≡ true
    → (is_tied ts k ≡ true) ⊎ IsWithin n size ds k
landings_back ts n size [] k h = inl h
landings_back ts n size (d ∷ ds) k h = by (landings_back (tie ts (n + d.ahead) (size - 1)) n size ds k h)
  where
    first : (is_tied ts k ≡ true) ⊎ ((n + d.ahead ≤ k) × (k < n + d.ahead + (size - 1))) → (is_tied ts k ≡ true) ⊎ IsWithin n size (d ∷ ds) k
    first (inl e) = inl e
    first (inr (l, m)) = inr (record { dest = d; named = contains_head d ds; from = l; to = m })

    by : (is_tied (tie ts (n + d.ahead) (size - 1)) k ≡ true) ⊎ IsWithin n size ds k → (is_tied ts k ≡ true) ⊎ IsWithin n size (d ∷ ds) k
    by (inl e) = first (tie_back ts (n + d.ahead) (size - 1) k e)
    by (inr w) = inr (record { dest = w.dest; named = contains_tail d ds w.dest w.named; from = w.from; to = w.to })

record IsLinked (p : Plan) (n : ℕ) (i : Instr) (op : Op) (k : ℕ) : Type 0 where
  pub block : ℕ
  pub links : op ≡ Link block
  pub within : IsWithin n (landing p block) i.firsts k

instr_back : (p : Plan) (ts : List Bool) (n : ℕ) (i : Instr) (op : Op) (k : ℕ) → is_tied (tie_instr p ts n i op) k ≡ true
    → (is_tied ts k ≡ true) ⊎ IsLinked p n i op k
instr_back p ts n i (Link b) k h = by (landings_back ts n (landing p b) i.firsts k h)
  where
    by : (is_tied ts k ≡ true) ⊎ IsWithin n (landing p b) i.firsts k → (is_tied ts k ≡ true) ⊎ IsLinked p n i (Link b) k
    by (inl e) = inl e
    by (inr w) = inr (record { block = b; links = refl; within = w })
instr_back p ts n i op k h = inl h

record IsOfLink (p : Plan) (n : ℕ) (is : List Instr) (k : ℕ) : Type 0 where
  pub v : ℕ
  pub i : Instr
  pub there : slice_get is v ≡ Some i
  pub linked : IsLinked p (n + v) i i.op k

all_back : (p : Plan) (ts : List Bool) (n : ℕ) (is : List Instr) (k : ℕ) → is_tied (tie_all p ts n is) k ≡ true → (is_tied ts k ≡ true) ⊎ IsOfLink p n is k
all_back p ts n [] k h = inl h
all_back p ts n (i ∷ is) k h = by (all_back p (tie_instr p ts n i i.op) (n + 1) is k h)
  where
    first : (is_tied ts k ≡ true) ⊎ IsLinked p n i i.op k → (is_tied ts k ≡ true) ⊎ IsOfLink p n (i ∷ is) k
    first (inl e) = inl e
    first (inr o) = let z : n ≡ n + 0 = omega arith in inr (record { v = 0; i = i; there = refl; linked = subst (λ n. IsLinked p n i i.op k) z o })

    by : (is_tied (tie_instr p ts n i i.op) k ≡ true) ⊎ IsOfLink p (n + 1) is k → (is_tied ts k ≡ true) ⊎ IsOfLink p n (i ∷ is) k
    by (inl e) = first (instr_back p ts n i i.op k e)
    by (inr o) = let v = o.v in let z : n + 1 + v ≡ n + suc v = omega arith in
        inr (record { v = suc o.v; i = o.i; there = o.there; linked = subst (λ n. IsLinked p n o.i o.i.op k) z o.linked })

pub tied_back : (p : Plan) (c : CodeBlock) (k : ℕ) → is_tied (layout_of p c).tied k ≡ true → IsTied p c k
tied_back p c k h = by (all_back p (tie (replicate (length (parts_of c)) false) 0 c.inputs) 0 (parts_of c) k h)
  where
    of_entries : (is_tied (replicate (length (parts_of c)) false) k ≡ true) ⊎ ((0 ≤ k) × (k < 0 + c.inputs)) → IsTied p c k
    of_entries (inl e) = absurd (true≢false (sym e ∙ none_tied (length (parts_of c)) k))
    of_entries (inr (l, m)) = inl (omega (arith, m))

    of_link : (v : ℕ) (i j : Instr) → slice_get c.instrs v ≡ Some j → parted j ≡ i → IsLinked p (0 + v) i i.op k → IsTied p c k
    of_link v i j at same o =
        let links : j.op ≡ Link o.block = ap (λ (i : Instr). i.op) same ∙ o.links in
        let w = o.within in let from = w.from in let to = w.to in
        inr (
          v,
          record {
            link = j;
            there = at;
            block = o.block;
            links = links;
            dest = w.dest;
            named = subst (λ ds. Contains ds w.dest) (sym (ap (λ (i : Instr). i.firsts) same)
                ∙ ap (λ op. firsts_of (parting_of op) j.firsts j.seconds) links) w.named;
            from = omega (arith, from);
            to = omega (arith, from, to);
          },
        )

    by : (is_tied (tie (replicate (length (parts_of c)) false) 0 c.inputs) k ≡ true) ⊎ IsOfLink p 0 (parts_of c) k → IsTied p c k
    by (inl e) = of_entries (tie_back (replicate (length (parts_of c)) false) 0 c.inputs k e)
    by (inr o) = let q = map_get_back parted c.instrs o.v o.i o.there in of_link o.v o.i q.0 q.1 q.2 o.linked

-- WHAT IS FREE has no flag
pub flag_free : (p : Plan) (c : CodeBlock) (k : ℕ) → (IsTied p c k → ⊥) → is_tied (layout_of p c).tied k ≡ false
flag_free p c k free = by (is_tied (layout_of p c).tied k) refl
  where
    by : (t : Bool) → is_tied (layout_of p c).tied k ≡ t → t ≡ false
    by true e = absurd (free (tied_back p c k e))
    by false e = refl

are_apart : (p : Plan) (c : CodeBlock) (n m : ℕ) → StandApart p c n m → AreApart (layout_of p c).tied n m
are_apart p c n m (k, low, high, free) = (k, low, high, flag_free p c k free)

named_so : (p : Plan) (b n : ℕ) (c : CodeBlock) (d : Dest) → Names p b n c d → NamesDest p b n c d
named_so p b n c d h = record { i = h.i; block = h.block; there = h.there; named = h.named }

pub sound_keeps_clear : SoundKeepsClear
sound_keeps_clear p s = record {
  rows = λ b n c d h. are_apart p c n (n + d.ahead) (s.dests b n c d (named_so p b n c d h)).apart;
  dests = λ b n c d h. (s.dests b n c d (named_so p b n c d h)).dest;
  entries = λ b n c d h. (s.dests b n c d (named_so p b n c d h)).past;
  there = λ b c e. let k = (s.program.blocks b c e).size in omega (arith, k);
}
