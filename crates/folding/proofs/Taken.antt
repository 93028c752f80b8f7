-- What a folded operator and a literal that is left out are, and that entries stay.
use Rattle.std.proofs.Common.{◌≡◌, ℕ, ℤ, zero, suc, ◌+◌, ◌<◌, ◌≤◌, Bool, true, false, ◌&&◌, List, ◌∷◌, length, refl, sym, ap, ◌∙◌, subst, inl, inr}
use Rattle.std.proofs.Common.{◌⊎◌, arith, Option, Some, None, eqb-true, ◌==◌, if◌then◌else◌, true≢false, le_of_suc-le-suc, not-suc-le-zero, []}
use Rattle.std.specs.Prelude.{slice_get, slice_set, slice_index_or}
use Rattle.std.proofs.lemmas.Bool.{cases_eq, and_parts}
use Rattle.std.proofs.lemmas.Option.{slice_get_within}
use Rattle.std.proofs.lemmas.List.{get_or-set_same, get_or-set_other}
use Rattle.lemmas.proofs.SliceGet.{get_some}
use Rattle.tags.specs.declared.token.Port.{Port}
use Rattle.tags.specs.declared.token.Port.TheVariants.{Left, Right}
use Rattle.operators.specs.declared.Binary.{Binary}
use Rattle.semantics.specs.declared.program.Dest.{Dest}
use Rattle.semantics.specs.declared.program.Op.{Op}
use Rattle.semantics.specs.declared.program.Op.TheVariants.{Apply2, Lit}
use Rattle.semantics.specs.Program.{Instr, CodeBlock}
use Rattle.semantics.specs.Plan.{Plan}
use Rattle.folding.specs.declared.namers.Namer.{Namer}
use Rattle.folding.specs.declared.namers.Namer.TheVariants.{Nobody, One, Many}
use Rattle.folding.specs.declared.folds.Fold.{Fold}
use Rattle.folding.specs.declared.folds.Fold.TheVariants.{Unchanged, OnRight, LeftLiteral}
use Rattle.folding.specs.Namers.{Namers, namer_at, namer_of, note_row, nobody, entries_noted, namers_of}
use Rattle.folding.specs.Folds.{literal_in, literal_at, same_side, same_source, literal_by, fold_by, fold_of, folds_from, folds_of, fold_at}
use Rattle.folding.specs.Folds.{is_closed, closed_to, all_closed, is_used, is_lit, is_gone, gone_from}
use Rattle.folding.specs.Places.{layout_of, gone_at, folds_at}
use Rattle.folding.specs.Laws.{KeepsEntries, dests_of, NamedBy, other_port, TakesLiteral, FoldsOnRight, FoldsOnLeft, LeavesOut}
use Rattle.folding.proofs.Standing.{before, all, place_is}
use Rattle.folding.proofs.Naming.{all_grow, row_length, entries_sized, knows_namers}

-- THE FOLD OF AN INSTRUCTION
abbrev FoldFrom : Namers → List Instr → ℕ → List Instr → ℕ → Fold → Type 0
FoldFrom ns every m is k f = (f ≡ Unchanged) ⊎ ((i : Instr) × (slice_get is k ≡ Some i) × (f ≡ fold_of ns every m i.op))

fold_from : (ns : Namers) (every : List Instr) (n : ℕ) (is : List Instr) (k : ℕ) → FoldFrom ns every (n + k) is k (fold_at (folds_from ns every n is) k)
fold_from ns every n [] k = inl refl
fold_from ns every n (i ∷ is) zero = let z : n ≡ n + 0 = omega arith in inr (i, refl, ap (λ m. fold_of ns every m i.op) z)
fold_from ns every n (i ∷ is) (suc k) =
    let z : n + 1 + k ≡ n + suc k = omega arith in
    subst (λ m. FoldFrom ns every m is k (fold_at (folds_from ns every (n + 1) is) k)) z (fold_from ns every (n + 1) is k)

right_of : (l r : Option ℤ) (z : ℤ) → fold_by l r ≡ OnRight z → r ≡ Some z
right_of l (Some y) z e = cc
right_of (Some y) None z e = absurd (cc)
right_of None None z e = absurd (cc)

remaining_of : (l r : Option ℤ) (z : ℤ) → fold_by l r ≡ LeftLiteral z → l ≡ Some z
remaining_of l (Some y) z e = absurd (cc)
remaining_of (Some y) None z e = cc
remaining_of None None z e = absurd (cc)

-- the literal of a port
abbrev Literal : List Namer → List Instr → Namer → Namer → ℤ → Type 0
Literal lefts is x other z = (m : ℕ) × (s : Bool) × (i : Instr) × (x ≡ One m s) × (same_source (namer_at lefts m) other ≡ true)
    × (slice_get is m ≡ Some i) × (i.op ≡ Lit z)

lit_in : (op : Op) (z : ℤ) → literal_in op ≡ Some z → op ≡ Lit z
lit_in (Lit y) z e = cc
lit_in op z e = absurd (cc)

lit_at : (o : Option Instr) (z : ℤ) → literal_at o ≡ Some z → (i : Instr) × (o ≡ Some i) × (i.op ≡ Lit z)
lit_at None z e = absurd (cc)
lit_at (Some i) z e = (i, refl, lit_in i.op z e)

literal_is : (lefts : List Namer) (is : List Instr) (x other : Namer) (z : ℤ) → literal_by lefts is x other ≡ Some z → Literal lefts is x other z
literal_is lefts is Nobody other z e = absurd (cc)
literal_is lefts is Many other z e = absurd (cc)
literal_is lefts is (One m s) other z e = pick (same_source (namer_at lefts m) other) refl e
  where
    found : same_source (namer_at lefts m) other ≡ true → (i : Instr) × (slice_get is m ≡ Some i) × (i.op ≡ Lit z) → Literal lefts is (One m s) other z
    found t (i, at, op) = (m, s, i, refl, t, at, op)

    pick : (t : Bool) → same_source (namer_at lefts m) other ≡ t → (if t then literal_at (slice_get is m) else None) ≡ Some z
        → Literal lefts is (One m s) other z
    pick true t e = found t (lit_at (slice_get is m) z e)
    pick false t e = absurd (cc)

side_is : (s t : Bool) → same_side s t ≡ true → s ≡ t
side_is true true e = refl
side_is true false e = absurd (true≢false (sym e))
side_is false true e = absurd (true≢false (sym e))
side_is false false e = refl

source_is : (x y : Namer) → same_source x y ≡ true → (m : ℕ) × (s : Bool) × (x ≡ One m s) × (y ≡ One m s)
source_is (One m s) (One n t) e =
    let h = and_parts (m == n) (same_side s t) e in let a = eqb-true m n h.0 in let b = side_is s t h.1 in
    (n, t, (λ k. One (a k) (b k)), refl)
source_is (One m s) Nobody e = absurd (true≢false (sym e))
source_is (One m s) Many e = absurd (true≢false (sym e))
source_is Nobody y e = absurd (true≢false (sym e))
source_is Many y e = absurd (true≢false (sym e))

by_right : (ns : Namers) (every : List Instr) (n : ℕ) (op : Op) (z : ℤ) → fold_of ns every n op ≡ OnRight z → (o : Binary) × (op ≡ Apply2 o)
    × Literal ns.lefts every (namer_at ns.rights n) (namer_at ns.lefts n) z
by_right ns every n (Apply2 o) z e = (
  o,
  refl,
  literal_is ns.lefts every (namer_at ns.rights n) (namer_at ns.lefts n) z
      (right_of (literal_by ns.lefts every (namer_at ns.lefts n) (namer_at ns.rights n)) (literal_by ns.lefts every (namer_at ns.rights n)
      (namer_at ns.lefts n)) z e),
)
by_right ns every n op z e = absurd (cc)

by_left : (ns : Namers) (every : List Instr) (n : ℕ) (op : Op) (z : ℤ) → fold_of ns every n op ≡ LeftLiteral z → (o : Binary) × (op ≡ Apply2 o)
    × Literal ns.lefts every (namer_at ns.lefts n) (namer_at ns.rights n) z
by_left ns every n (Apply2 o) z e = (
  o,
  refl,
  literal_is ns.lefts every (namer_at ns.lefts n) (namer_at ns.rights n) z
      (remaining_of (literal_by ns.lefts every (namer_at ns.lefts n) (namer_at ns.rights n)) (literal_by ns.lefts every (namer_at ns.rights n)
      (namer_at ns.lefts n)) z e),
)
by_left ns every n op z e = absurd (cc)

module _ (p : Plan) (c : CodeBlock) where
  abbrev ns : Namers
  ns = namers_of p c

  fold_there : (n : ℕ) → FoldFrom ns c.instrs n c.instrs n (folds_at (layout_of p c) n)
  fold_there n = let z : 0 + n ≡ n = omega arith in subst (λ m. FoldFrom ns c.instrs m c.instrs n (folds_at (layout_of p c) n)) z
      (fold_from ns c.instrs 0 c.instrs n)

  takes : (n : ℕ) (q : Port) (z : ℤ) (i : Instr) → slice_get c.instrs n ≡ Some i → (o : Binary) × (i.op ≡ Apply2 o)
      × Literal ns.lefts c.instrs (namer_of ns n q) (namer_of ns n (other_port q)) z → TakesLiteral p c n q z
  takes n q z i at (o, op, (m, s, j, alone, same, there, lit)) = found (source_is (namer_at ns.lefts m) (namer_of ns n (other_port q)) same)
    where
      found : (a : ℕ) × (t : Bool) × (namer_at ns.lefts m ≡ One a t) × (namer_of ns n (other_port q) ≡ One a t) → TakesLiteral p c n q z
      found (a, t, to_lit, to_operator) = record {
        operator = (i, o, at, op);
        lit = m;
        lit_side = s;
        literal = (j, there, lit);
        alone = alone;
        source = a;
        source_side = t;
        to_lit = to_lit;
        to_operator = to_operator;
      }

pub folds_on_right : FoldsOnRight
folds_on_right p c n z e = found (fold_there p c n)
  where
    found : FoldFrom (namers_of p c) c.instrs n c.instrs n (folds_at (layout_of p c) n) → TakesLiteral p c n Right z
    found (inl kept) = absurd (cc)
    found (inr (i, at, f)) = takes p c n Right z i at (by_right (namers_of p c) c.instrs n i.op z (sym f ∙ e))

pub folds_on_left : FoldsOnLeft
folds_on_left p c n z e = found (fold_there p c n)
  where
    found : FoldFrom (namers_of p c) c.instrs n c.instrs n (folds_at (layout_of p c) n) → TakesLiteral p c n Left z
    found (inl kept) = absurd (cc)
    found (inr (i, at, f)) = takes p c n Left z i at (by_left (namers_of p c) c.instrs n i.op z (sym f ∙ e))

pub closed_takes : (p : Plan) (c : CodeBlock) (n : ℕ) (q : Port) → is_closed (folds_at (layout_of p c) n) q ≡ true → (z : ℤ) × TakesLiteral p c n q z
closed_takes p c n q e = by_fold (folds_at (layout_of p c) n) q refl e
  where
    by_fold : (f : Fold) (q : Port) → folds_at (layout_of p c) n ≡ f → is_closed f q ≡ true → (z : ℤ) × TakesLiteral p c n q z
    by_fold (OnRight z) Right f e = (z, folds_on_right p c n z f)
    by_fold (LeftLiteral z) Left f e = (z, folds_on_left p c n z f)
    by_fold (OnRight z) Left f e = absurd (true≢false (sym e))
    by_fold (LeftLiteral z) Right f e = absurd (true≢false (sym e))
    by_fold Unchanged q f e = absurd (true≢false (sym e))

-- WHAT IS LEFT OUT
pub gone_is : (fs : List Fold) (n : ℕ) (is : List Instr) (k : ℕ) (i : Instr) → slice_get is k ≡ Some i → slice_index_or (gone_from fs n is) k false
    ≡ is_gone fs (n + k) i
gone_is fs n [] k i at = absurd (cc)
gone_is fs n (j ∷ is) zero i at = let e : j ≡ i = cc in let z : n ≡ n + 0 = omega arith in (λ k. is_gone fs (z k) (e k))
gone_is fs n (j ∷ is) (suc k) i at = let z : n + 1 + k ≡ n + suc k = omega arith in gone_is fs (n + 1) is k i at ∙ ap (λ m. is_gone fs m i) z

is_lit_of : (op : Op) → is_lit op ≡ true → (z : ℤ) × (op ≡ Lit z)
is_lit_of (Lit z) e = (z, refl)
is_lit_of op e = absurd (true≢false (sym e))

first_closed : (fs : List Fold) (n : ℕ) (d : Dest) (ds : List Dest) → all_closed fs n (d ∷ ds) ≡ true → (closed_to fs n d ≡ true) × (all_closed fs n ds ≡ true)
first_closed fs n d ds e = pick (closed_to fs n d) refl e
  where
    pick : (t : Bool) → closed_to fs n d ≡ t → (if t then all_closed fs n ds else false) ≡ true → (closed_to fs n d ≡ true) × (all_closed fs n ds ≡ true)
    pick true t e = (t, e)
    pick false t e = absurd (true≢false (sym e))

closed_at : (fs : List Fold) (n : ℕ) (ds : List Dest) (k : ℕ) (d : Dest) → all_closed fs n ds ≡ true → slice_get ds k ≡ Some d → closed_to fs n d ≡ true
closed_at fs n [] k d h at = absurd (cc)
closed_at fs n (e ∷ ds) zero d h at = let s : e ≡ d = cc in sym (ap (closed_to fs n) s) ∙ (first_closed fs n e ds h).0
closed_at fs n (e ∷ ds) (suc k) d h at = closed_at fs n ds k d (first_closed fs n e ds h).1 at

a_use : (ds es : List Dest) → is_used ds es ≡ true → ((d : Dest) × (slice_get ds 0 ≡ Some d)) ⊎ ((d : Dest) × (slice_get es 0 ≡ Some d))
a_use [] [] e = absurd (true≢false (sym e))
a_use [] (d ∷ es) e = inr (d, refl)
a_use (d ∷ ds) es e = inl (d, refl)

one_of : (i : Instr) → ((d : Dest) × (slice_get i.firsts 0 ≡ Some d)) ⊎ ((d : Dest) × (slice_get i.seconds 0 ≡ Some d)) → (s : Bool) × (d : Dest)
    × (slice_get (dests_of i s) 0 ≡ Some d)
one_of i (inl (d, e)) = (false, d, e)
one_of i (inr (d, e)) = (true, d, e)

pub leaves_out : LeavesOut
leaves_out p c n i at gone = record {
  literal = is_lit_of i.op parts.0;
  source = by_use (a_use i.firsts i.seconds used.0);
  used = one_of i
      (a_use i.firsts i.seconds used.0);
  closed = closed;
}
  where
    fs : List Fold
    fs = folds_of p c

    whole : is_gone (folds_of p c) n i ≡ true
    whole = let z : 0 + n ≡ n = omega arith in sym (gone_is (folds_of p c) 0 c.instrs n i at ∙ ap (λ m. is_gone (folds_of p c) m i) z) ∙ gone

    parts : (is_lit i.op ≡ true) × ((is_used i.firsts i.seconds && (all_closed (folds_of p c) n i.firsts && all_closed (folds_of p c) n i.seconds)) ≡ true)
    parts = and_parts (is_lit i.op) (is_used i.firsts i.seconds && (all_closed (folds_of p c) n i.firsts && all_closed (folds_of p c) n i.seconds)) whole

    used : (is_used i.firsts i.seconds ≡ true) × ((all_closed (folds_of p c) n i.firsts && all_closed (folds_of p c) n i.seconds) ≡ true)
    used = and_parts (is_used i.firsts i.seconds) (all_closed (folds_of p c) n i.firsts && all_closed (folds_of p c) n i.seconds) parts.1

    both : (all_closed (folds_of p c) n i.firsts ≡ true) × (all_closed (folds_of p c) n i.seconds ≡ true)
    both = and_parts (all_closed (folds_of p c) n i.firsts) (all_closed (folds_of p c) n i.seconds) used.1

    closed : (s : Bool) (k : ℕ) (d : Dest) → slice_get (dests_of i s) k ≡ Some d → is_closed (folds_at (layout_of p c) (n + d.ahead)) d.port ≡ true
    closed false k d e = closed_at (folds_of p c) n i.firsts k d both.0 e
    closed true k d e = closed_at (folds_of p c) n i.seconds k d both.1 e

    -- the literal of a port that the `lit` names is that of this `lit`
    this : (m : ℕ) (s t : Bool) (x : Namer) → NamedBy n s x → x ≡ One m t → m ≡ n
    this m s t x (inl e) f = cc
    this m s t x (inr e) f = absurd (cc)

    by_port : (s : Bool) (d : Dest) → slice_get (dests_of i s) 0 ≡ Some d → (z : ℤ) × TakesLiteral p c (n + d.ahead) d.port z → (m : ℕ) × (s : Bool)
        × (namer_of (namers_of p c) n Left ≡ One m s)
    by_port s d e (z, t) =
        let same = this t.lit s t.lit_side (namer_of (namers_of p c) (n + d.ahead) d.port)
        (knows_namers p c n 0 i s d at e (slice_get_within c.instrs (n + d.ahead) t.operator.0 t.operator.2)) t.alone in
        (t.source, t.source_side, sym (ap (λ m. namer_of (namers_of p c) m Left) same) ∙ t.to_lit)

    by_use : ((d : Dest) × (slice_get i.firsts 0 ≡ Some d)) ⊎ ((d : Dest) × (slice_get i.seconds 0 ≡ Some d)) → (m : ℕ) × (s : Bool)
        × (namer_of (namers_of p c) n Left ≡ One m s)
    by_use (inl (d, e)) = by_port false d e (closed_takes p c (n + d.ahead) d.port (closed false 0 d e))
    by_use (inr (d, e)) = by_port true d e (closed_takes p c (n + d.ahead) d.port (closed true 0 d e))

-- ENTRIES
pub row_many : (ms : List Namer) (from count k : ℕ) → from ≤ k → k < from + count → k < length ms → namer_at (note_row ms from count) k ≡ Many
row_many ms from zero k l h there = absurd (omega (arith, l, h))
row_many ms from (suc c) k l h there = pick (cases_eq k (from + c)) (row_many ms from c k)
  where
    len : length (note_row ms from c) ≡ length ms
    len = row_length ms from c

    pick : (k ≡ from + c) ⊎ (k ≡ from + c → ⊥) → (from ≤ k → k < from + c → k < length ms → namer_at (note_row ms from c) k ≡ Many)
        → namer_at (slice_set (note_row ms from c) (from + c) Many) k ≡ Many
    pick (inl e) more = ap (namer_at (slice_set (note_row ms from c) (from + c) Many)) e ∙ get_or-set_same (note_row ms from c) (from + c) Many Nobody
        (omega (arith, there, len, e))
    pick (inr d) more = get_or-set_other (note_row ms from c) (from + c) k Many Nobody d ∙ more l (omega (arith, h, d)) there

pub entry_many : (p : Plan) (c : CodeBlock) (n : ℕ) → n ≤ c.inputs → n < length c.instrs → namer_of (namers_of p c) n Left ≡ Many
entry_many p c n h there = still (all_grow p (entries_noted c.inputs (length c.instrs)) 0 c.instrs n Left)
  where
    first : namer_at (entries_noted c.inputs (length c.instrs)).lefts n ≡ Many
    first =
        let size = entries_sized c.inputs (length c.instrs) in
        let len : length (nobody (length c.instrs)) ≡ length c.instrs = size.1 in
        row_many (nobody (length c.instrs)) 0 (c.inputs + 1) n (omega arith) (omega (arith, h)) (omega (arith, there, len))

    still : (namer_of (namers_of p c) n Left ≡ namer_at (entries_noted c.inputs (length c.instrs)).lefts n) ⊎
        ((namer_of (namers_of p c) n Left ≡ Many) ⊎ (namer_at (entries_noted c.inputs (length c.instrs)).lefts n ≡ Nobody))
        → namer_of (namers_of p c) n Left ≡ Many
    still (inl e) = e ∙ first
    still (inr (inl e)) = e
    still (inr (inr e)) = let f = first in absurd (cc)

entry_stays : (p : Plan) (c : CodeBlock) (n : ℕ) → n ≤ c.inputs → n < length c.instrs → gone_at (layout_of p c) n ≡ false
entry_stays p c n h there = pick (gone_at (layout_of p c) n) refl (get_some c.instrs n there)
  where
    by_source : (m : ℕ) × (s : Bool) × (namer_of (namers_of p c) n Left ≡ One m s) → ⊥
    by_source (m, s, e) = let f = entry_many p c n h there in absurd (cc)

    pick : (t : Bool) → gone_at (layout_of p c) n ≡ t → (i : Instr) × (slice_get c.instrs n ≡ Some i) → gone_at (layout_of p c) n ≡ false
    pick false t i = t
    pick true t (i, at) = absurd (by_source (leaves_out p c n i at t).source)

before_all : (gs : List Bool) (n : ℕ) → ((k : ℕ) → k < n → slice_index_or gs k false ≡ false) → n ≤ length gs → before gs n ≡ n
before_all gs zero h l = refl
before_all [] (suc n) h l = absurd (not-suc-le-zero l)
before_all (true ∷ gs) (suc n) h l = absurd (true≢false (h 0 (omega arith)))
before_all (false ∷ gs) (suc n) h l = ap suc (before_all gs n (λ k j. h (suc k) (omega (arith, j))) (le_of_suc-le-suc l))

pub keeps_entries : KeepsEntries
keeps_entries p c n h there =
    let len = all p c in (
      entry_stays p c n h there,
      place_is p c n there
          ∙ before_all (layout_of p c).gone n (λ k j. entry_stays p c k (omega (arith, j, h)) (omega (arith, j, there))) (omega (arith, len, there)),
    )
