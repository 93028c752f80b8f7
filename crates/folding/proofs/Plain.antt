-- Instructions that fold nothing and of which no word goes to an operator that has it in its code: those that get words from
-- elsewhere, and those that an instruction with one destination names.
use Rattle.std.proofs.Common.{◌≡◌, refl, sym, ap, ◌∙◌, subst, ℕ, ℤ, zero, suc, ◌+◌, ◌<◌, ◌≤◌, ◌⊎◌, inl, inr, Bool, true, false, true≢false, ◌&&◌}
use Rattle.std.proofs.Common.{List, ◌∷◌, ◌++◌, length, Option, Some, arith, []}
use Rattle.std.specs.Prelude.{slice_get, if◌then◌else◌}
use Rattle.std.proofs.lemmas.Option.{slice_get_within}
use Rattle.std.proofs.lemmas.List.Concat.{flat_map-append}
use Rattle.lemmas.proofs.SliceGet.{get_some}
use Rattle.tags.specs.declared.token.Port.{Port}
use Rattle.tags.specs.declared.token.Port.TheVariants.{Left, Right}
use Rattle.operators.specs.declared.Binary.{Binary}
use Rattle.semantics.specs.declared.program.Dest.{Dest}
use Rattle.semantics.specs.declared.program.Op.TheVariants.{Apply2, Lit, Link}
use Rattle.semantics.specs.Program.{Instr, CodeBlock}
use Rattle.semantics.specs.Plan.{Plan, landing}
use Rattle.semantics.specs.Wired.{is_dyadic}
use Rattle.folding.specs.declared.namers.Namer.TheVariants.{One, Many}
use Rattle.folding.specs.declared.folds.Fold.{Fold}
use Rattle.folding.specs.declared.folds.Fold.TheVariants.{Unchanged, OnRight, LeftLiteral}
use Rattle.folding.specs.Namers.{namer_of, namer_at, namers_of, entries_noted}
use Rattle.folding.specs.Folds.{folds_of, is_folded, is_closed, closed_to, all_closed, is_used, is_lit, is_gone}
use Rattle.folding.specs.Places.{layout_of, folds_at, gone_at}
use Rattle.folding.specs.Laws.{dests_of, NamedBy, other_port, TakesLiteral, SparesLiterals}
use Rattle.folding.proofs.Naming.{knows_namers, entries_sized}
use Rattle.folding.proofs.Named.{namers_name, same_number}
use Rattle.folding.proofs.Taken.{folds_on_right, folds_on_left, closed_takes, entry_many, gone_is}
use Rattle.folding.proofs.Landing.{all_many}
use Rattle.folding.proofs.Sole.{this_one}
use Rattle.folding.proofs.Pairs.{closed_one, closed_in, closed_uses, uses_in}

module _ (p : Plan) (c : CodeBlock) where
  -- it folds nothing, and it is no literal of which a use is in the code
  pub record PlainAt (m : ℕ) : Type 0 where
    pub folded : is_folded (folds_at (layout_of p c) m) ≡ false
    pub unused : closed_uses p c m ≡ []

  -- some use is in the code, or none is
  used_or : (m : ℕ) (us : List Dest) → (closed_in p c m us ≡ []) ⊎ ((k : ℕ) × (d : Dest) × (slice_get us k ≡ Some d)
      × (is_closed (folds_at (layout_of p c) (m + d.ahead)) d.port ≡ true))
  used_or m [] = inl refl
  used_or m (u ∷ us) = go (is_closed (folds_at (layout_of p c) (m + u.ahead)) u.port) refl (used_or m us)
    where
      go : (b : Bool) → is_closed (folds_at (layout_of p c) (m + u.ahead)) u.port ≡ b → (closed_in p c m us ≡ []) ⊎ ((k : ℕ) × (d : Dest)
          × (slice_get us k ≡ Some d) × (is_closed (folds_at (layout_of p c) (m + d.ahead)) d.port ≡ true))
          → (closed_in p c m (u ∷ us) ≡ []) ⊎ ((k : ℕ) × (d : Dest) × (slice_get (u ∷ us) k ≡ Some d)
          × (is_closed (folds_at (layout_of p c) (m + d.ahead)) d.port ≡ true))
      go true e r = inr (0, u, refl, e)
      go false e (inl none) = inl (λ k. (if e k then (m + u.ahead) ∷ [] else []) ++ none k)
      go false e (inr r) = inr (suc r.0, r.1, r.2, r.3)

  -- Where it is not so, a list of destinations names the instruction, and it names both a literal and an operator.
  pub record Paired (m : ℕ) : Type 0 where
    pub x : ℕ
    pub q : Port
    pub z : ℤ
    pub takes : TakesLiteral p c x q z
    pub which : (m ≡ x) ⊎ (m ≡ takes.lit)

  same_instr : (i j : Instr) → Some i ≡ Some j → i ≡ j
  same_instr i j e = cc

  by_use : (m k : ℕ) (j : Instr) (s : Bool) (d : Dest) → slice_get c.instrs m ≡ Some j → slice_get (dests_of j s) k ≡ Some d
      → is_closed (folds_at (layout_of p c) (m + d.ahead)) d.port ≡ true → Paired m
  by_use m k j s d at there shut = go (closed_takes p c (m + d.ahead) d.port shut)
    where
      go : (z : ℤ) × TakesLiteral p c (m + d.ahead) d.port z → Paired m
      go (z, T) =
          let l = slice_get_within c.instrs (m + d.ahead) T.operator.0 T.operator.2 in
          let same : m ≡ T.lit = same_number m T.lit s T.lit_side (this_one m T.lit s T.lit_side (namer_of (namers_of p c) (m + d.ahead) d.port)
          (knows_namers p c m k j s d at there l) T.alone) in
          record { x = m + d.ahead; q = d.port; z = z; takes = T; which = inr same }

  pub plain_or : (m : ℕ) (j : Instr) → slice_get c.instrs m ≡ Some j → PlainAt m ⊎ Paired m
  plain_or m j at = by_fold (folds_at (layout_of p c) m) refl
    where
      by_uses : is_folded (folds_at (layout_of p c) m) ≡ false
          → (closed_in p c m j.firsts ≡ []) ⊎ ((k : ℕ) × (d : Dest) × (slice_get j.firsts k ≡ Some d)
          × (is_closed (folds_at (layout_of p c) (m + d.ahead)) d.port ≡ true))
          → (closed_in p c m j.seconds ≡ []) ⊎ ((k : ℕ) × (d : Dest) × (slice_get j.seconds k ≡ Some d)
          × (is_closed (folds_at (layout_of p c) (m + d.ahead)) d.port ≡ true)) → PlainAt m ⊎ Paired m
      by_uses f (inl a) (inl b) = inl record {
        folded = f;
        unused = ap (λ (o : Option Instr). closed_in p c m (uses_in p c o)) at
            ∙ flat_map-append (closed_one p c m) j.firsts j.seconds ∙ (λ k. a k ++ b k);
      }
      by_uses f (inr r) o = inr (by_use m r.0 j false r.1 at r.2 r.3)
      by_uses f (inl a) (inr r) = inr (by_use m r.0 j true r.1 at r.2 r.3)

      by_fold : (f : Fold) → folds_at (layout_of p c) m ≡ f → PlainAt m ⊎ Paired m
      by_fold Unchanged e = by_uses (ap is_folded e) (used_or m j.firsts) (used_or m j.seconds)
      by_fold (OnRight z) e = inr record { x = m; q = Right; z = z; takes = folds_on_right p c m z e; which = inl refl }
      by_fold (LeftLiteral z) e = inr record { x = m; q = Left; z = z; takes = folds_on_left p c m z e; which = inl refl }

  -- ---- WORDS FROM ELSEWHERE
  one_many : (n : ℕ) (s : Bool) → One n s ≡ Many → ⊥
  one_many n s e = cc

  many_not : (m : ℕ) → namer_of (namers_of p c) m Left ≡ Many → Paired m → ⊥
  many_not m many R = go R.which
    where
      at_operator : (q : Port) → R.q ≡ q → m ≡ R.x → ⊥
      at_operator Left e same = one_many R.takes.lit R.takes.lit_side (sym R.takes.alone ∙ (λ k. namer_of (namers_of p c) (sym same k) (e k)) ∙ many)
      at_operator Right e same = one_many R.takes.source R.takes.source_side (sym R.takes.to_operator
          ∙ (λ k. namer_of (namers_of p c) (sym same k) (other_port (e k))) ∙ many)

      go : (m ≡ R.x) ⊎ (m ≡ R.takes.lit) → ⊥
      go (inl e) = at_operator R.q refl e
      go (inr e) = one_many R.takes.source R.takes.source_side (sym R.takes.to_lit ∙ ap (λ (m : ℕ). namer_of (namers_of p c) m Left) (sym e) ∙ many)

  many_plain : (m : ℕ) (j : Instr) → slice_get c.instrs m ≡ Some j → namer_of (namers_of p c) m Left ≡ Many → PlainAt m
  many_plain m j at many = go (plain_or m j at)
    where
      go : PlainAt m ⊎ Paired m → PlainAt m
      go (inl P) = P
      go (inr R) = absurd (many_not m many R)

  -- an entry is such an instruction,
  pub entry_plain : (n : ℕ) → n ≤ c.inputs → n < length c.instrs → PlainAt n
  entry_plain n h there = let j = get_some c.instrs n there in many_plain n j.0 j.1 (entry_many p c n h there)

  -- one of a landing,
  pub landing_plain : (n k b : ℕ) (i : Instr) (d : Dest) → slice_get c.instrs n ≡ Some i → i.op ≡ Link b → slice_get i.firsts 0 ≡ Some d
      → k < landing p b → n + d.ahead + k < length c.instrs → PlainAt (n + d.ahead + k)
  landing_plain n k b i d at op there h l =
      let z : 0 + n ≡ n = omega arith in
      let many : namer_of (namers_of p c) (n + d.ahead + k) Left ≡ Many =
      subst (λ m. namer_at (namers_of p c).lefts (m + d.ahead + k) ≡ Many) z
      (all_many p (entries_noted c.inputs (length c.instrs)) 0 c.instrs n i b 0 k (length c.instrs) d (entries_sized c.inputs (length c.instrs)) at op
      there h (omega (arith, l, z))) in
      let j = get_some c.instrs (n + d.ahead + k) l in many_plain (n + d.ahead + k) j.0 j.1 many

  -- ---- ONE DESTINATION
  -- what names the operator and the literal by one list has two destinations
  module _ (spares : SparesLiterals c) (n : ℕ) (i : Instr) (d : Dest) (at : slice_get c.instrs n ≡ Some i) (sole : i.firsts ≡ d ∷ []) (other : (z : ℤ)
      → i.op ≡ Lit z → ⊥) where
    only : (x : Dest) (k : ℕ) → slice_get (d ∷ []) k ≡ Some x → x ≡ d
    only x zero e = cc
    only x (suc k) e = absurd (cc)

    leads : (x : ℕ) (q : Port) → namer_of (namers_of p c) x q ≡ One n false → n + d.ahead ≡ x
    leads x q e = go (namers_name p c x q n false e)
      where
        go : (i2 : Instr) × (k : ℕ) × (d2 : Dest) × (slice_get c.instrs n ≡ Some i2) × (slice_get (dests_of i2 false) k ≡ Some d2)
            × (n + d2.ahead ≡ x) × (d2.port ≡ q) → n + d.ahead ≡ x
        go (i2, k, d2, at2, also, lead, port) =
            let f : i2 ≡ i = same_instr i2 i (sym at2 ∙ at) in
            let dd : d2 ≡ d = only d2 k (sym (ap (λ ds. slice_get ds k) (ap (λ (x : Instr). x.firsts) f ∙ sole)) ∙ also) in
            sym (ap (λ (d : Dest). n + d.ahead) dd) ∙ lead

    apart_ops : (o : Binary) (z : ℤ) → Apply2 o ≡ Lit z → ⊥
    apart_ops o z e = cc

    no_pair : (x : ℕ) (q : Port) (z : ℤ) (T : TakesLiteral p c x q z) → One n false ≡ One T.source T.source_side → ⊥
    no_pair x q z T e =
        let a : n + d.ahead ≡ T.lit = leads T.lit Left (T.to_lit ∙ sym e) in
        let b : n + d.ahead ≡ x = leads x (other_port q) (T.to_operator ∙ sym e) in
        let j : T.literal.0 ≡ T.operator.0 = same_instr T.literal.0 T.operator.0 (sym T.literal.1 ∙ ap (slice_get c.instrs) (sym a ∙ b) ∙ T.operator.2) in
        apart_ops T.operator.1 z (sym T.operator.3 ∙ sym (ap (λ (x : Instr). x.op) j) ∙ T.literal.2)

    there : slice_get (dests_of i false) 0 ≡ Some d
    there = ap (λ ds. slice_get ds 0) sole

    not_paired : n + d.ahead < length c.instrs → Paired (n + d.ahead) → ⊥
    not_paired low R = go R.which
      where
        mine : NamedBy n false (namer_of (namers_of p c) (n + d.ahead) d.port)
        mine = knows_namers p c n 0 i false d at there low

        -- the port of the literal would be named by the literal
        at_operator : n + d.ahead ≡ R.x → (q r : Port) → R.q ≡ q → d.port ≡ r → ⊥
        at_operator e Left Left a b = by_lit (λ k. namer_of (namers_of p c) (e k) (b k)) (ap (namer_of (namers_of p c) R.x) (sym a) ∙ R.takes.alone)
          where
            by_lit : namer_of (namers_of p c) (n + d.ahead) d.port ≡ namer_of (namers_of p c) R.x Left → namer_of (namers_of p c) R.x Left
                ≡ One R.takes.lit R.takes.lit_side → ⊥
            by_lit u v =
                let same = same_number n R.takes.lit false R.takes.lit_side
                (this_one n R.takes.lit false R.takes.lit_side (namer_of (namers_of p c) (n + d.ahead) d.port) mine (u ∙ v)) in
                let j : R.takes.literal.0 ≡ i = same_instr R.takes.literal.0 i (sym R.takes.literal.1 ∙ ap (slice_get c.instrs) (sym same) ∙ at) in
                other R.z (sym (ap (λ (x : Instr). x.op) j) ∙ R.takes.literal.2)
        at_operator e Right Right a b = by_lit (λ k. namer_of (namers_of p c) (e k) (b k)) (ap (namer_of (namers_of p c) R.x) (sym a) ∙ R.takes.alone)
          where
            by_lit : namer_of (namers_of p c) (n + d.ahead) d.port ≡ namer_of (namers_of p c) R.x Right → namer_of (namers_of p c) R.x Right
                ≡ One R.takes.lit R.takes.lit_side → ⊥
            by_lit u v =
                let same = same_number n R.takes.lit false R.takes.lit_side
                (this_one n R.takes.lit false R.takes.lit_side (namer_of (namers_of p c) (n + d.ahead) d.port) mine (u ∙ v)) in
                let j : R.takes.literal.0 ≡ i = same_instr R.takes.literal.0 i (sym R.takes.literal.1 ∙ ap (slice_get c.instrs) (sym same) ∙ at) in
                other R.z (sym (ap (λ (x : Instr). x.op) j) ∙ R.takes.literal.2)
        at_operator e Left Right a b =
            no_pair R.x R.q R.z R.takes (this_one n R.takes.source false R.takes.source_side (namer_of (namers_of p c) (n + d.ahead) d.port) mine
            ((λ k. namer_of (namers_of p c) (e k) (b k)) ∙ ap (λ (q : Port). namer_of (namers_of p c) R.x (other_port q)) (sym a) ∙ R.takes.to_operator))
        at_operator e Right Left a b =
            no_pair R.x R.q R.z R.takes (this_one n R.takes.source false R.takes.source_side (namer_of (namers_of p c) (n + d.ahead) d.port) mine
            ((λ k. namer_of (namers_of p c) (e k) (b k)) ∙ ap (λ (q : Port). namer_of (namers_of p c) R.x (other_port q)) (sym a) ∙ R.takes.to_operator))

        at_lit : n + d.ahead ≡ R.takes.lit → (r : Port) → d.port ≡ r → ⊥
        at_lit e Left b =
            no_pair R.x R.q R.z R.takes (this_one n R.takes.source false R.takes.source_side (namer_of (namers_of p c) (n + d.ahead) d.port) mine
            ((λ k. namer_of (namers_of p c) (e k) (b k)) ∙ R.takes.to_lit))
        at_lit e Right b = true≢false (sym (spares n 0 i false d R.takes.literal.0 at there (ap (slice_get c.instrs) e ∙ R.takes.literal.1) b)
            ∙ ap is_dyadic R.takes.literal.2)

        go : (n + d.ahead ≡ R.x) ⊎ (n + d.ahead ≡ R.takes.lit) → ⊥
        go (inl e) = at_operator e R.q d.port refl refl
        go (inr e) = at_lit e d.port refl

    -- and what an instruction names that has one destination
    pub sole_plain : n + d.ahead < length c.instrs → PlainAt (n + d.ahead)
    sole_plain low = let j = get_some c.instrs (n + d.ahead) low in pick (plain_or (n + d.ahead) j.0 j.1)
      where
        pick : PlainAt (n + d.ahead) ⊎ Paired (n + d.ahead) → PlainAt (n + d.ahead)
        pick (inl P) = P
        pick (inr R) = absurd (not_paired low R)

-- ---- LITERALS THAT STAY
-- not all destinations are ports at which no word arrives
not_all : (fs : List Fold) (n : ℕ) (ds : List Dest) → all_closed fs n ds ≡ false → (k : ℕ) × (d : Dest) × (slice_get ds k ≡ Some d) × (closed_to fs n d ≡ false)
not_all fs n [] e = absurd (true≢false e)
not_all fs n (d ∷ ds) e = go (closed_to fs n d) refl e (not_all fs n ds)
  where
    go : (t : Bool) → closed_to fs n d ≡ t → (if t then all_closed fs n ds else false) ≡ false → (all_closed fs n ds ≡ false → (k : ℕ) × (d : Dest)
        × (slice_get ds k ≡ Some d) × (closed_to fs n d ≡ false))
        → (k : ℕ) × (x : Dest) × (slice_get (d ∷ ds) k ≡ Some x) × (closed_to fs n x ≡ false)
    go true t e more = let r = more e in (suc r.0, r.1, r.2, r.3)
    go false t e more = (0, d, refl, t)

some_used : (i : Instr) (k : ℕ) (s : Bool) (d : Dest) → slice_get (dests_of i s) k ≡ Some d → is_used i.firsts i.seconds ≡ true
some_used i k false d e = go i.firsts i.seconds e
  where
    go : (xs ys : List Dest) → slice_get xs k ≡ Some d → is_used xs ys ≡ true
    go (x ∷ xs) ys e = refl
    go [] (y ∷ ys) e = refl
    go [] [] e = absurd (cc)
some_used i k true d e = go i.firsts i.seconds e
  where
    go : (xs ys : List Dest) → slice_get ys k ≡ Some d → is_used xs ys ≡ true
    go (x ∷ xs) ys e = refl
    go [] (y ∷ ys) e = refl
    go [] [] e = absurd (cc)

-- A literal that sends somewhere and stays has a destination at which words still arrive.
pub kept_open : (p : Plan) (c : CodeBlock) (m k : ℕ) (j : Instr) (z : ℤ) (s : Bool) (d : Dest) → slice_get c.instrs m ≡ Some j → j.op ≡ Lit z
    → slice_get (dests_of j s) k ≡ Some d → gone_at (layout_of p c) m ≡ false
    → (t : Bool) × (v : ℕ) × (x : Dest) × (slice_get (dests_of j t) v ≡ Some x) × (is_closed (folds_at (layout_of p c) (m + x.ahead)) x.port ≡ false)
kept_open p c m k j z s d at op named stays = go (all_closed (folds_of p c) m j.firsts) (all_closed (folds_of p c) m j.seconds) refl refl
  where
    whole : is_gone (folds_of p c) m j ≡ false
    whole = let z : 0 + m ≡ m = omega arith in sym (gone_is (folds_of p c) 0 c.instrs m j at ∙ ap (λ m. is_gone (folds_of p c) m j) z) ∙ stays

    both : (all_closed (folds_of p c) m j.firsts && all_closed (folds_of p c) m j.seconds) ≡ false
    both =
        sym (ap (λ (b : Bool). b && (is_used j.firsts j.seconds && (all_closed (folds_of p c) m j.firsts && all_closed (folds_of p c) m j.seconds)))
        (ap is_lit op)
        ∙ ap (λ (b : Bool). b && (all_closed (folds_of p c) m j.firsts && all_closed (folds_of p c) m j.seconds)) (some_used j k s d named))
        ∙ whole

    go : (a b : Bool) → all_closed (folds_of p c) m j.firsts ≡ a → all_closed (folds_of p c) m j.seconds ≡ b
        → (t : Bool) × (v : ℕ) × (x : Dest) × (slice_get (dests_of j t) v ≡ Some x) × (is_closed (folds_at (layout_of p c) (m + x.ahead)) x.port ≡ false)
    go false b e f = let r = not_all (folds_of p c) m j.firsts e in (false, r.0, r.1, r.2, r.3)
    go true false e f = let r = not_all (folds_of p c) m j.seconds f in (true, r.0, r.1, r.2, r.3)
    go true true e f = absurd (true≢false (sym (λ k. e k && f k) ∙ both))
