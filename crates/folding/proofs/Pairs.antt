-- The literals that one list of destinations triggers give their words to the operators that the list names: each folded
-- operator that it names gets the one word from it, and the other from a literal that it triggers.
use Rattle.std.proofs.Common.{◌≡◌, refl, sym, ap, ◌∙◌, subst, ℕ, zero, suc, ◌+◌, ◌<◌, ◌≤◌, ◌⊎◌, inl, inr, Bool, true, false, true≢false, ◌&&◌, ℤ}
use Rattle.std.proofs.Common.{List, ◌∷◌, ◌++◌, length, Option, Some, None, IsPermutation, arith, if◌then◌else◌, not, []}
use Rattle.std.specs.Prelude.{slice_get, flat_map}
use Rattle.std.proofs.lemmas.Option.{slice_get_within}
use Rattle.std.proofs.lemmas.Bool.{cases_eq, eq-eqb, ne_eqb}
use Rattle.tags.specs.declared.token.Port.{Port}
use Rattle.tags.specs.declared.token.Port.TheVariants.{Left, Right}
use Rattle.semantics.specs.declared.program.Dest.{Dest}
use Rattle.semantics.specs.Program.{Instr, CodeBlock}
use Rattle.semantics.specs.Plan.{Plan}
use Rattle.semantics.specs.Wired.{is_dyadic}
use Rattle.semantics.specs.Orderly.{eq_port}
use Rattle.folding.specs.declared.namers.Namer.TheVariants.{One}
use Rattle.folding.specs.declared.folds.Fold.{Fold}
use Rattle.folding.specs.declared.folds.Fold.TheVariants.{Unchanged, OnRight, LeftLiteral}
use Rattle.folding.specs.Namers.{namer_of, namers_of}
use Rattle.folding.specs.Folds.{is_folded, is_closed}
use Rattle.folding.specs.Places.{layout_of, folds_at}
use Rattle.folding.specs.Laws.{dests_of, NamedBy, other_port, TakesLiteral, SparesLiterals}
use Rattle.folding.proofs.Naming.{knows_namers}
use Rattle.folding.proofs.Taken.{folds_on_right, folds_on_left}
use Rattle.folding.proofs.Sole.{this_one}
use Rattle.folding.proofs.Perms.{one, is_one, cnt, cnt_join, by_counts}
use Rattle.folding.proofs.NamedOnce.{names, named, named_by, named_once}
use Rattle.folding.proofs.Named.{same_list, same_number}

abbrev same_bool : Bool → Bool → Bool
same_bool true t = t
same_bool false true = false
same_bool false false = true

module _ (p : Plan) (c : CodeBlock) where
  abbrev fold_on : ℕ → Fold
  fold_on m = folds_at (layout_of p c) m

  -- the closed ports that destinations of the m-th instruction name, by their places
  abbrev pub closed_one : ℕ → Dest → List ℕ
  closed_one m u = if is_closed (folds_at (layout_of p c) (m + u.ahead)) u.port then (m + u.ahead) ∷ [] else []

  abbrev pub closed_in : ℕ → List Dest → List ℕ
  closed_in m us = flat_map (closed_one m) us

  abbrev pub uses_in : Option Instr → List Dest
  uses_in None = []
  uses_in (Some i) = i.firsts ++ i.seconds

  -- those that an instruction names
  abbrev pub closed_uses : ℕ → List ℕ
  closed_uses m = closed_in m (uses_in (slice_get c.instrs m))

  -- those that are named by the instructions to which destinations of the n-th one lead
  abbrev pub given : ℕ → List Dest → List ℕ
  given n ds = flat_map (λ (d : Dest). closed_uses (n + d.ahead)) ds

  -- the folded operators of which such destinations name the other port
  abbrev pub wanted_one : ℕ → Dest → List ℕ
  wanted_one n d = if is_folded (folds_at (layout_of p c) (n + d.ahead)) && not (is_closed (folds_at (layout_of p c) (n + d.ahead)) d.port) then
      (n + d.ahead) ∷ [] else []

  abbrev pub wanted : ℕ → List Dest → List ℕ
  wanted n ds = flat_map (wanted_one n) ds

  cnt_if : (x y : ℕ) (b t : Bool) → (y ≡ x → b ≡ t) → ((y ≡ x → ⊥) → t ≡ false) → cnt x (if b then y ∷ [] else []) ≡ one t
  cnt_if x y b t same apart = go b (cases_eq y x) refl
    where
      go : (b2 : Bool) → (y ≡ x) ⊎ (y ≡ x → ⊥) → b ≡ b2 → cnt x (if b2 then y ∷ [] else []) ≡ one t
      go true (inl e) k = (let z : is_one x y ≡ 1 = ap one (eq-eqb y x e) in let w : one t ≡ 1 = ap one (sym (same e) ∙ k) in omega (arith, z, w))
      go true (inr d) k = (let z : is_one x y ≡ 0 = ap one (ne_eqb y x d) in let w : one t ≡ 0 = ap one (apart d) in omega (arith, z, w))
      go false (inl e) k = sym (ap one (sym (same e) ∙ k))
      go false (inr d) k = sym (ap one (apart d))

  -- ---- A FOLDED OPERATOR
  module _ (x : ℕ) (qc : Port) (shut : (q : Port) → is_closed (folds_at (layout_of p c) x) q ≡ eq_port q qc)
      (folds : is_folded (folds_at (layout_of p c) x) ≡ true) where
    names_apart : (n : ℕ) (q : Port) (d : Dest) → (n + d.ahead ≡ x → ⊥) → names n x q d ≡ false
    names_apart n q d apart = ap (λ (t : Bool). t && eq_port d.port q) (ne_eqb (n + d.ahead) x apart)

    names_at : (n : ℕ) (q : Port) (d : Dest) → n + d.ahead ≡ x → names n x q d ≡ eq_port d.port q
    names_at n q d e = ap (λ (t : Bool). t && eq_port d.port q) (eq-eqb (n + d.ahead) x e)

    closed_count : (m : ℕ) (us : List Dest) → cnt x (closed_in m us) ≡ named m x qc us
    closed_count m [] = refl
    closed_count m (u ∷ us) =
        let a = cnt_join x (closed_one m u) (closed_in m us) in
        let b : cnt x (closed_one m u) ≡ one (names m x qc u) =
        cnt_if x (m + u.ahead) (is_closed (folds_at (layout_of p c) (m + u.ahead)) u.port) (names m x qc u)
        (λ e. ap (λ (y : ℕ). is_closed (folds_at (layout_of p c) y) u.port) e ∙ shut u.port ∙ sym (names_at m qc u e)) (names_apart m qc u) in
        let k = closed_count m us in
        omega (arith, a, b, k)

    other_is : (q qc : Port) → not (eq_port q qc) ≡ eq_port q (other_port qc)
    other_is Left Left = refl
    other_is Left Right = refl
    other_is Right Left = refl
    other_is Right Right = refl

    wanted_count : (n : ℕ) (ds : List Dest) → cnt x (wanted n ds) ≡ named n x (other_port qc) ds
    wanted_count n [] = refl
    wanted_count n (d ∷ ds) =
        let a = cnt_join x (wanted_one n d) (wanted n ds) in
        let b : cnt x (wanted_one n d) ≡ one (names n x (other_port qc) d) =
        cnt_if x (n + d.ahead) (is_folded (folds_at (layout_of p c) (n + d.ahead)) && not (is_closed (folds_at (layout_of p c) (n + d.ahead)) d.port))
        (names n x (other_port qc) d)
        (λ e. ap (λ (y : ℕ). is_folded (folds_at (layout_of p c) y) && not (is_closed (folds_at (layout_of p c) y) d.port)) e
        ∙ ap (λ (t : Bool). t && not (is_closed (folds_at (layout_of p c) x) d.port)) folds ∙ ap not (shut d.port) ∙ other_is d.port qc
        ∙ sym (names_at n (other_port qc) d e)) (names_apart n (other_port qc) d) in
        let k = wanted_count n ds in
        omega (arith, a, b, k)

    module _ (z : ℤ) (T : TakesLiteral p c x qc z) (spares : SparesLiterals c) (inside : (n k : ℕ) (i : Instr) (s : Bool) (d : Dest)
        → slice_get c.instrs n ≡ Some i → slice_get (dests_of i s) k ≡ Some d → n + d.ahead < length c.instrs) where
      abbrev lit : ℕ
      lit = T.lit

      zero_or : (a : ℕ) → (a ≡ 0) ⊎ (1 ≤ a)
      zero_or zero = inl refl
      zero_or (suc a) = inr (omega arith)

      -- what names a port that one list names alone is that list
      its_list : (m : ℕ) (q : Port) (a n : ℕ) (t s : Bool) (i : Instr) → slice_get c.instrs n ≡ Some i → namer_of (namers_of p c) m q ≡ One a t
          → 1 ≤ named n m q (dests_of i s) → One n s ≡ One a t
      its_list m q a n t s i at e h =
          let b = named_by n m q (dests_of i s) h in
          let l = inside n b.0 i s b.1 at b.2 in
          let k : NamedBy n s (namer_of (namers_of p c) m q) =
          subst (λ (r : Port). NamedBy n s (namer_of (namers_of p c) m r)) b.4 (subst (λ (y : ℕ). NamedBy n s (namer_of (namers_of p c) y (b.1).port))
          b.3 (knows_namers p c n b.0 i s b.1 at b.2 l)) in
          this_one n a s t (namer_of (namers_of p c) m q) k e

      low_x : x < length c.instrs
      low_x = slice_get_within c.instrs x T.operator.0 T.operator.2

      low_lit : T.lit < length c.instrs
      low_lit = slice_get_within c.instrs T.lit T.literal.0 T.literal.1

      named_join : (n m : ℕ) (q : Port) (ds es : List Dest) → named n m q (ds ++ es) ≡ named n m q ds + named n m q es
      named_join n m q [] es = omega arith
      named_join n m q (d ∷ ds) es = (let e = named_join n m q ds es in omega (arith, e))

      -- of one of the two lists
      of_lit : (j : Instr) → slice_get c.instrs T.lit ≡ Some j → (s : Bool) → named T.lit x qc (dests_of j s) ≡ (if same_bool s T.lit_side then 1 else 0)
      of_lit j at s = go (zero_or (named T.lit x qc (dests_of j s))) s T.lit_side refl refl
        where
          alone : named T.lit x qc (dests_of j T.lit_side) ≡ 1
          alone = named_once p c x qc T.lit T.lit_side j low_x at T.alone

          go : (named T.lit x qc (dests_of j s) ≡ 0) ⊎ (1 ≤ named T.lit x qc (dests_of j s)) → (a b : Bool) → s ≡ a → T.lit_side ≡ b
              → named T.lit x qc (dests_of j s) ≡ (if same_bool a b then 1 else 0)
          go o true true e f = ap (λ (t : Bool). named T.lit x qc (dests_of j t)) (e ∙ sym f) ∙ alone
          go o false false e f = ap (λ (t : Bool). named T.lit x qc (dests_of j t)) (e ∙ sym f) ∙ alone
          go (inl none) true false e f = none
          go (inl none) false true e f = none
          go (inr some) true false e f = absurd (true≢false
              (sym e ∙ same_list T.lit T.lit s T.lit_side (its_list x qc T.lit T.lit T.lit_side s j at T.alone some) ∙ f))
          go (inr some) false true e f = absurd (true≢false
              (sym f ∙ sym (same_list T.lit T.lit s T.lit_side (its_list x qc T.lit T.lit T.lit_side s j at T.alone some)) ∙ e))

      both_sides : (s : Bool) → (if same_bool false s then 1 else 0) + (if same_bool true s then 1 else 0) ≡ 1
      both_sides true = refl
      both_sides false = refl

      -- the literal gives its word once, and no other instruction does
      from_lit : cnt x (closed_uses T.lit) ≡ 1
      from_lit =
          let j : Instr = T.literal.0 in
          let a : closed_uses T.lit ≡ closed_in T.lit (j.firsts ++ j.seconds) = ap (λ (o : Option Instr). closed_in T.lit (uses_in o)) T.literal.1 in
          let b = closed_count T.lit (j.firsts ++ j.seconds) in
          let d = named_join T.lit x qc j.firsts j.seconds in
          let e : named T.lit x qc j.firsts ≡ (if same_bool false T.lit_side then 1 else 0) = of_lit j T.literal.1 false in
          let f : named T.lit x qc j.seconds ≡ (if same_bool true T.lit_side then 1 else 0) = of_lit j T.literal.1 true in
          let g = both_sides T.lit_side in
          ap (cnt x) a ∙ b ∙ d ∙ (λ k. e k + f k) ∙ g

      from_other : (m : ℕ) → (m ≡ T.lit → ⊥) → cnt x (closed_uses m) ≡ 0
      from_other m apart = go (slice_get c.instrs m) refl
        where
          none_of : (j : Instr) → slice_get c.instrs m ≡ Some j → (s : Bool) → named m x qc (dests_of j s) ≡ 0
          none_of j at s = pick (zero_or (named m x qc (dests_of j s)))
            where
              pick : (named m x qc (dests_of j s) ≡ 0) ⊎ (1 ≤ named m x qc (dests_of j s)) → named m x qc (dests_of j s) ≡ 0
              pick (inl e) = e
              pick (inr some) = absurd (apart (same_number m T.lit s T.lit_side (its_list x qc T.lit m T.lit_side s j at T.alone some)))

          go : (o : Option Instr) → slice_get c.instrs m ≡ o → cnt x (closed_uses m) ≡ 0
          go None at = ap (λ (o : Option Instr). cnt x (closed_in m (uses_in o))) at
          go (Some j) at =
              let b = closed_count m (j.firsts ++ j.seconds) in
              let d = named_join m x qc j.firsts j.seconds in
              let e = none_of j at false in
              let f = none_of j at true in
              ap (λ (o : Option Instr). cnt x (closed_in m (uses_in o))) at ∙ b ∙ d ∙ (λ k. e k + f k)

      -- a literal is named at its left port
      abbrev AtLeft : ℕ → List Dest → Type 0
      AtLeft n ds = (k : ℕ) (d : Dest) → slice_get ds k ≡ Some d → n + d.ahead ≡ T.lit → d.port ≡ Left

      given_count : (n : ℕ) (ds : List Dest) → AtLeft n ds → cnt x (given n ds) ≡ named n T.lit Left ds
      given_count n [] left = refl
      given_count n (d ∷ ds) left =
          let a = cnt_join x (closed_uses (n + d.ahead)) (given n ds) in
          let k = given_count n ds (λ k x e f. left (suc k) x e f) in
          let b : cnt x (closed_uses (n + d.ahead)) ≡ one (names n T.lit Left d) = here (cases_eq (n + d.ahead) T.lit) in
          omega (arith, a, b, k)
        where
          here : (n + d.ahead ≡ T.lit) ⊎ (n + d.ahead ≡ T.lit → ⊥) → cnt x (closed_uses (n + d.ahead)) ≡ one (names n T.lit Left d)
          here (inl e) =
              ap (λ (m : ℕ). cnt x (closed_uses m)) e ∙ from_lit
              ∙ sym (ap one (ap (λ (t : Bool). t && eq_port d.port Left) (eq-eqb (n + d.ahead) T.lit e) ∙ ap (λ (q : Port). eq_port q Left) (left 0 d refl e)))
          here (inr apart) = from_other (n + d.ahead) apart ∙ sym (ap one (ap (λ (t : Bool). t && eq_port d.port Left) (ne_eqb (n + d.ahead) T.lit apart)))

      -- the list that names the literal names the operator
      same_counts : (n : ℕ) (i : Instr) (s : Bool) → slice_get c.instrs n ≡ Some i → named n T.lit Left (dests_of i s)
          ≡ named n x (other_port qc) (dests_of i s)
      same_counts n i s at = go (zero_or (named n T.lit Left (dests_of i s))) (zero_or (named n x (other_port qc) (dests_of i s)))
        where
          is_one_of : One n s ≡ One T.source T.source_side → named n T.lit Left (dests_of i s) ≡ named n x (other_port qc) (dests_of i s)
          is_one_of e = named_once p c T.lit Left n s i low_lit at (T.to_lit ∙ sym e)
              ∙ sym (named_once p c x (other_port qc) n s i low_x at (T.to_operator ∙ sym e))

          go : (named n T.lit Left (dests_of i s) ≡ 0) ⊎ (1 ≤ named n T.lit Left (dests_of i s)) → (named n x (other_port qc) (dests_of i s) ≡ 0) ⊎
              (1 ≤ named n x (other_port qc) (dests_of i s))
              → named n T.lit Left (dests_of i s) ≡ named n x (other_port qc) (dests_of i s)
          go (inr some) o = is_one_of (its_list T.lit Left T.source n T.source_side s i at T.to_lit some)
          go (inl none) (inr some) = is_one_of (its_list x (other_port qc) T.source n T.source_side s i at T.to_operator some)
          go (inl a) (inl b) = a ∙ sym b

      pub counts_agree : (n : ℕ) (i : Instr) (s : Bool) → slice_get c.instrs n ≡ Some i → cnt x (given n (dests_of i s)) ≡ cnt x (wanted n (dests_of i s))
      counts_agree n i s at = given_count n (dests_of i s) left ∙ same_counts n i s at ∙ sym (wanted_count n (dests_of i s))
        where
          lit_not : (q : Port) (d : Dest) (k : ℕ) → d.port ≡ q → slice_get (dests_of i s) k ≡ Some d → n + d.ahead ≡ T.lit → d.port ≡ Left
          lit_not Left d k e there to = e
          lit_not Right d k e there to =
              absurd (true≢false (sym (spares n k i s d T.literal.0 at there (ap (slice_get c.instrs) to ∙ T.literal.1) e) ∙ ap is_dyadic T.literal.2))

          left : AtLeft n (dests_of i s)
          left k d there to = lit_not d.port d k refl there to

  -- ---- ANY NUMBER
  -- one that is no folded operator's is in neither
  none_closed : (x m : ℕ) (us : List Dest) → ((q : Port) → is_closed (folds_at (layout_of p c) x) q ≡ false) → cnt x (closed_in m us) ≡ 0
  none_closed x m [] off = refl
  none_closed x m (u ∷ us) off =
      let a = cnt_join x (closed_one m u) (closed_in m us) in
      let b : cnt x (closed_one m u) ≡ one false =
      cnt_if x (m + u.ahead) (is_closed (folds_at (layout_of p c) (m + u.ahead)) u.port) false
      (λ e. ap (λ (y : ℕ). is_closed (folds_at (layout_of p c) y) u.port) e ∙ off u.port) (λ d. refl) in
      let k = none_closed x m us off in
      omega (arith, a, b, k)

  none_given : (x n : ℕ) (ds : List Dest) → ((q : Port) → is_closed (folds_at (layout_of p c) x) q ≡ false) → cnt x (given n ds) ≡ 0
  none_given x n [] off = refl
  none_given x n (d ∷ ds) off =
      let a = cnt_join x (closed_uses (n + d.ahead)) (given n ds) in
      let b = none_closed x (n + d.ahead) (uses_in (slice_get c.instrs (n + d.ahead))) off in
      let k = none_given x n ds off in
      omega (arith, a, b, k)

  none_wanted : (x n : ℕ) (ds : List Dest) → is_folded (folds_at (layout_of p c) x) ≡ false → cnt x (wanted n ds) ≡ 0
  none_wanted x n [] off = refl
  none_wanted x n (d ∷ ds) off =
      let a = cnt_join x (wanted_one n d) (wanted n ds) in
      let b : cnt x (wanted_one n d) ≡ one false =
      cnt_if x (n + d.ahead) (is_folded (folds_at (layout_of p c) (n + d.ahead)) && not (is_closed (folds_at (layout_of p c) (n + d.ahead)) d.port)) false
      (λ e. ap (λ (y : ℕ). is_folded (folds_at (layout_of p c) y) && not (is_closed (folds_at (layout_of p c) y) d.port)) e
      ∙ ap (λ (t : Bool). t && not (is_closed (folds_at (layout_of p c) x) d.port)) off) (λ d. refl) in
      let k = none_wanted x n ds off in
      omega (arith, a, b, k)

  -- The words that folded operators want are given.
  pub pairs_match : SparesLiterals c → ((n k : ℕ) (i : Instr) (s : Bool) (d : Dest) → slice_get c.instrs n ≡ Some i → slice_get (dests_of i s) k
      ≡ Some d → n + d.ahead < length c.instrs)
      → (n : ℕ) (i : Instr) (s : Bool) → slice_get c.instrs n ≡ Some i → IsPermutation (given n (dests_of i s)) (wanted n (dests_of i s))
  pairs_match spares inside n i s at = by_counts (given n (dests_of i s)) (wanted n (dests_of i s)) (λ x. go x (folds_at (layout_of p c) x) refl)
    where
      right_shut : (z : ℤ) (q : Port) → is_closed (OnRight z) q ≡ eq_port q Right
      right_shut z Left = refl
      right_shut z Right = refl

      left_shut : (z : ℤ) (q : Port) → is_closed (LeftLiteral z) q ≡ eq_port q Left
      left_shut z Left = refl
      left_shut z Right = refl

      go : (x : ℕ) (f : Fold) → folds_at (layout_of p c) x ≡ f → cnt x (given n (dests_of i s)) ≡ cnt x (wanted n (dests_of i s))
      go x Unchanged e = none_given x n (dests_of i s) (λ q. ap (λ (f : Fold). is_closed f q) e) ∙ sym (none_wanted x n (dests_of i s) (ap is_folded e))
      go x (OnRight z) e = counts_agree x Right (λ q. ap (λ (f : Fold). is_closed f q) e ∙ right_shut z q) (ap is_folded e) z
          (folds_on_right p c x z e) spares inside n i s at
      go x (LeftLiteral z) e = counts_agree x Left (λ q. ap (λ (f : Fold). is_closed f q) e ∙ left_shut z q) (ap is_folded e) z
          (folds_on_left p c x z e) spares inside n i s at
