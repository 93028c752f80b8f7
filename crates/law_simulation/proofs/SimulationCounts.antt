-- A port of the new code gets no more tokens than a port of the old code for which it stands.
use Rattle.std.proofs.Common.{◌≡◌, refl, sym, ap, ◌∙◌, subst, ℕ, ◌+◌, ◌<◌, ◌≤◌, ◌⊎◌, inl, inr, Bool, true, false, true≢false, List, [], ◌∷◌, ◌++◌, Some}
use Rattle.std.proofs.Common.{IsPermutation, Contains, nat_lt, lt-ltb, le-ltb, ltb-true, ltb-false, arith}
use Rattle.std.proofs.lemmas.List.Elements.{Contains-append_left, Contains-append_right}
use Rattle.std.proofs.lemmas.Bool.{cases_Bool}
use Rattle.std.proofs.lemmas.Option.{same_Some}
use Rattle.lemmas.proofs.Contains.{contains_cases, contains_head, contains_map, contains_mapped, contains_none, contains_tail}
use Rattle.tags.specs.declared.value.Value.TheVariants.{Int}
use Rattle.tags.specs.declared.token.Port.{Port}
use Rattle.tags.specs.declared.token.Port.TheVariants.{Left, Right}
use Rattle.tags.specs.declared.token.Word.{Word}
use Rattle.tags.specs.declared.token.To.{To}
use Rattle.tags.specs.declared.token.Token.{Token}
use Rattle.operators.specs.declared.Binary.{Binary}
use Rattle.semantics.specs.declared.program.Dest.{Dest}
use Rattle.semantics.specs.declared.program.Op.TheVariants.{Apply2}
use Rattle.semantics.specs.Program.{Instr, Program, instr_at}
use Rattle.semantics.specs.Rule.{token, at_dest}
use Rattle.semantics.specs.Orderly.{is_at}
use Rattle.law_fresh_frames.proofs.BoundedWeights.{tot, tot_append, tot_perm}
use Rattle.law_fresh_frames.proofs.BoundedRows.{unless, unit}
use Rattle.semantics.specs.Rule.{to_all}
use Rattle.law_simulation.specs.Places.{Spot, ip_to}
use Rattle.law_simulation.specs.Simulates.{Fits, Fresh, IsValue, Leaf, Plain, StandAll, Stands, at_moved, at_pair, behind, hands_on, is_pair, left}
use Rattle.law_simulation.specs.Simulates.{moved, right, stand_more, stand_none, through}
use Rattle.law_simulation.proofs.SimulationFires.{hands_op}
use Rattle.law_simulation.proofs.SimulationParts.{Clump, hands_no_pair, meant_of, seen_of}
use Rattle.law_simulation.proofs.SimulationPorts.{at_true, is_past, ones, ones_there}

module _ (P Q : Program) (g h : ℕ → ℕ) (apart : (a b : ℕ) → Plain P Q h a → Plain P Q h b → h a ≡ h b → a ≡ b)
    (pairs_apart : (a b : ℕ) (i k j : Instr) (o u : Binary) → instr_at P a ≡ Some i → instr_at P b ≡ Some k → i.op ≡ Apply2 o → k.op ≡ Apply2 u
    → instr_at Q (g a) ≡ Some j → g a ≡ g b → a ≡ b) where
  instr_same : (f a k b : ℕ) (r t : Port) → To.Instr f a r ≡ To.Instr k b t → (f ≡ k) × (a ≡ b) × (r ≡ t)
  instr_same f a k b r t e = (cc, cc, cc)

  off_pair : (j k : Instr) → is_pair j.op ≡ true → is_pair k.op ≡ false → j ≡ k → ⊥
  off_pair j k a b e = true≢false (sym a ∙ ap (λ (i : Instr). is_pair i.op) e ∙ b)

  -- the two operands of an operator
  two_have : (f k a ip : ℕ) (r t u : Port) (v w : Word) (x : Spot) (meant : List Token) (i j : Instr) (o : Binary) → (t ≡ Left) ⊎ (u ≡ Left)
      → To.Instr k (g a) Left ≡ To.Instr f ip r → instr_at P a ≡ Some i → i.op ≡ Apply2 o → instr_at Q (g a) ≡ Some j → is_pair j.op ≡ true → Fresh P Q h (g a)
      → meant ≡ token (To.Instr k a t) v ∷ token (To.Instr k a u) w ∷ [] → Leaf P Q g h ip r x → 1 ≤ ones f x.0 x.1 meant
  two_have f k a ip r t u v w x meant i j o which to at op there pair fresh is (at_moved n1 r1 x1 b e K s) =
      absurd (fresh b K ((instr_same k (g a) f ip Left r to).1 ∙ e))
  two_have f k a ip r t u v w x meant i j o which to at op there pair fresh is (at_pair n1 r1 x1 b i2 j2 o2 e at2 op2 there2 pair2 fresh2 e2 s) =
      let d = instr_same k (g a) f ip Left r to in
      let same : a ≡ b = pairs_apart a b i i2 j o o2 at at2 op op2 there (d.1 ∙ e) in
      subst (λ (l : List Token). 1 ≤ ones f x.0 x.1 l) (sym is)
      (subst (λ (x : Spot). 1 ≤ ones f x.0 x.1 (token (To.Instr k a t) v ∷ token (To.Instr k a u) w ∷ [])) (sym s) (go same d.0 which))
    where
      go : a ≡ b → k ≡ f → (t ≡ Left) ⊎ (u ≡ Left) → 1 ≤ ones f b Left (token (To.Instr k a t) v ∷ token (To.Instr k a u) w ∷ [])
      go same d (inl e) =
          ones_there f b Left (token (To.Instr k a t) v ∷ token (To.Instr k a u) w ∷ []) (token (To.Instr k a t) v)
          (contains_head (token (To.Instr k a t) v) (token (To.Instr k a u) w ∷ [])) (λ n. To.Instr (d n) (same n) (e n))
      go same d (inr e) =
          ones_there f b Left (token (To.Instr k a t) v ∷ token (To.Instr k a u) w ∷ []) (token (To.Instr k a u) w)
          (contains_tail (token (To.Instr k a t) v) (token (To.Instr k a u) w ∷ []) (token (To.Instr k a u) w) (contains_head (token (To.Instr k a u) w) []))
          (λ n. To.Instr (d n) (same n) (e n))
  two_have f k a ip r t u v w x meant i j o which to at op there pair fresh is (behind n1 r1 x1 j2 d2 there2 op3 fresh2 e2 k2 more) =
      absurd (off_pair j j2 pair (hands_no_pair j2.op op3) (same_Some j j2 (sym there ∙ ap (instr_at Q) (instr_same k (g a) f ip Left r to).1 ∙ there2)))

  one_has : (meant : List Token) (u : Token) → meant ≡ u ∷ [] → Fits P Q h u.to → (f ip : ℕ) (r : Port) (x : Spot) → ip_to h u.to ≡ To.Instr f ip r
      → Leaf P Q g h ip r x → 1 ≤ ones f x.0 x.1 meant
  one_has meant u one fits f ip r x e L = go u.to u.word one fits e
    where
      by_leaf : (k a : ℕ) (t : Port) (w : Word) → meant ≡ token (To.Instr k a t) w ∷ [] → Plain P Q h a → To.Instr k (h a) t ≡ To.Instr f ip r
          → Leaf P Q g h ip r x
          → 1 ≤ ones f x.0 x.1 meant
      by_leaf k a t w one K e (at_moved n1 r1 x1 b e2 K2 s) =
          let d = instr_same k (h a) f ip t r e in
          let same : a ≡ b = apart a b K K2 (d.1 ∙ e2) in
          subst (λ (l : List Token). 1 ≤ ones f x.0 x.1 l) (sym one) (subst (λ (x : Spot). 1 ≤ ones f x.0 x.1 (token (To.Instr k a t) w ∷ [])) (sym s)
          (ones_there f b r (token (To.Instr k a t) w ∷ []) (token (To.Instr k a t) w) (contains_head (token (To.Instr k a t) w) [])
          (λ n. To.Instr (d.0 n) (same n) (d.2 n))))
      by_leaf k a t w one K e (at_pair n1 r1 x1 b i2 j2 o2 e2 at2 op2 there2 pair2 fresh2 e3 s) =
          absurd (fresh2 a K (sym e2 ∙ sym (instr_same k (h a) f ip t r e).1))
      by_leaf k a t w one K e (behind n1 r1 x1 j2 d2 there2 op3 fresh2 e2 k2 more) = absurd (fresh2 a K (sym (instr_same k (h a) f ip t r e).1))

      go : (to : To) (w : Word) → meant ≡ token to w ∷ [] → Fits P Q h to → ip_to h to ≡ To.Instr f ip r → 1 ≤ ones f x.0 x.1 meant
      go (To.Instr k a t) w one K e = by_leaf k a t w one K e L
      go (To.Fetch y) w one K e = absurd (cc)
      go (To.Store y v) w one K e = absurd (cc)
      go To.Manager w one K e = absurd (cc)
      go (To.Release y) w one K e = absurd (cc)
      go (To.Host y) w one K e = absurd (cc)

  dest_there : (k n : ℕ) (v : Word) (j : Instr) (d : Dest) → Contains (j.firsts ++ j.seconds) d
      → Contains (to_all record { frame = k; ip = n } v j) (token (To.Instr k (n + d.ahead) d.port) v)
  dest_there k n v j d inside = contains_map (at_dest record { frame = k; ip = n } v) (j.firsts ++ j.seconds) d inside

  more_ones : (f : ℕ) (x : Spot) (ys us vs : List Token) → ys ≡ us ++ vs → (1 ≤ ones f x.0 x.1 us) ⊎ (1 ≤ ones f x.0 x.1 vs) → 1 ≤ ones f x.0 x.1 ys
  more_ones f x ys us vs e (inl l) =
      let a = tot_append (λ (t : Token). unit (is_at f x.0 x.1 t.to)) us vs in let b = ap (ones f x.0 x.1) e in omega (arith, a, b, l)
  more_ones f x ys us vs e (inr l) =
      let a = tot_append (λ (t : Token). unit (is_at f x.0 x.1 t.to)) us vs in let b = ap (ones f x.0 x.1) e in omega (arith, a, b, l)

  pick_has : (t1 : Token) (ts : List Token) (t : Token) (us vs : List Token) (f : ℕ) (x : Spot) → (t1 ≡ t) ⊎ Contains ts t → (t1 ≡ t → 1 ≤ ones f x.0 x.1 us)
      → (Contains ts t → 1 ≤ ones f x.0 x.1 vs) → (1 ≤ ones f x.0 x.1 us) ⊎ (1 ≤ ones f x.0 x.1 vs)
  pick_has t1 ts t us vs f x (inl d) one more = inl (one d)
  pick_has t1 ts t us vs f x (inr c) one more = inr (more c)

  -- a token at the port stands for one at that
  mutual
    pub meant_has : (seen : Token) (meant : List Token) → Stands P Q g h seen meant → (f ip : ℕ) (r : Port) (x : Spot) → seen.to ≡ To.Instr f ip r
        → Leaf P Q g h ip r x → 1 ≤ ones f x.0 x.1 meant
    meant_has seen meant (moved s ts u is one fits) f ip r x e L = one_has meant u one fits f ip r x (sym (ap (λ (t : Token). t.to) is) ∙ e) L
    meant_has seen meant (through s ts k n w v j is at op all d some fresh) f ip r x e (at_moved n1 r1 x1 b e2 K2 s2) =
        absurd (fresh b K2 ((instr_same k n f ip Left r (sym (ap (λ (t : Token). t.to) is) ∙ e)).1 ∙ e2))
    meant_has seen meant (through s ts k n w v j is at op all d some fresh) f ip r x e (at_pair n1 r1 x1 b i2 j2 o2 e2 at2 op2 there2 pair2 fresh2 e3 s2) =
        absurd (off_pair j2 j pair2 (hands_no_pair j.op (hands_op IsValue j.op w v op))
        (same_Some j2 j (sym there2 ∙ ap (instr_at Q) (sym e2 ∙ sym (instr_same k n f ip Left r (sym (ap (λ (t : Token). t.to) is) ∙ e)).1) ∙ at)))
    meant_has seen meant (through s ts k n w v j is at op all d some fresh) f ip r x e (behind n1 r1 x1 j2 d2 there2 op3 fresh2 e2 k2 more) =
        all_has (to_all record { frame = k; ip = n } v j) meant all (token (To.Instr k (n + d2.ahead) d2.port) v)
        (dest_there k n v j d2 (subst (λ (j : Instr). Contains (j.firsts ++ j.seconds) d2)
        (same_Some j2 j (sym there2 ∙ ap (instr_at Q) (sym (instr_same k n f ip Left r (sym (ap (λ (t : Token). t.to) is) ∙ e)).1) ∙ at)) k2))
        f (ip + d2.ahead) d2.port x
        (λ v. To.Instr ((instr_same k n f ip Left r (sym (ap (λ (t : Token). t.to) is) ∙ e)).0 v)
        ((instr_same k n f ip Left r (sym (ap (λ (t : Token). t.to) is) ∙ e)).1 v + d2.ahead) d2.port) more
    meant_has seen meant (right s ts k a w o z i j is at op to new one fresh) f ip r x e L =
        two_have f k a ip r Left Right w (Word.Val (Int z)) x meant i j o (inl refl) (sym (ap (λ (t : Token). t.to) is) ∙ e) at op to
        (ap is_pair new) fresh one L
    meant_has seen meant (left s ts k a w o z i j is at op to new one fresh) f ip r x e L =
        two_have f k a ip r Right Left w (Word.Val (Int z)) x meant i j o (inr refl) (sym (ap (λ (t : Token). t.to) is) ∙ e) at op to
        (ap is_pair new) fresh one L

    all_has : (xs ys : List Token) → StandAll P Q g h xs ys → (t : Token) → Contains xs t → (f ip : ℕ) (r : Port) (x : Spot) → t.to ≡ To.Instr f ip r
        → Leaf P Q g h ip r x → 1 ≤ ones f x.0 x.1 ys
    all_has xs ys (stand_none x1 y1 a b) t inside f ip r x e L = absurd (contains_none t (subst (λ (l : List Token). Contains l t) a inside))
    all_has xs ys (stand_more x1 y1 t1 ts us vs st more a b) t inside f ip r x e L =
        more_ones f x ys us vs b (pick_has t1 ts t us vs f x (contains_cases t1 ts t (subst (λ (l : List Token). Contains l t) a inside))
        (λ d. meant_has t1 us st f ip r x (ap (λ (t : Token). t.to) d ∙ e) L) (λ c. all_has ts vs more t c f ip r x e L))

  -- each token at a port stands for one at a port of the old code
  pub record HasLeaf (f ip : ℕ) (r : Port) (meant : List Token) : Type 0 where
    pub x : Spot
    pub word : Word
    pub leaf : Leaf P Q g h ip r x
    pub there : Contains meant (token (To.Instr f x.0 x.1) word)

  one_leaf : (meant : List Token) (u : Token) → meant ≡ u ∷ [] → Fits P Q h u.to → (f ip : ℕ) (r : Port) → ip_to h u.to ≡ To.Instr f ip r → HasLeaf f ip r meant
  one_leaf meant u one fits f ip r e = go u.to u.word one fits e
    where
      go : (to : To) (w : Word) → meant ≡ token to w ∷ [] → Fits P Q h to → ip_to h to ≡ To.Instr f ip r → HasLeaf f ip r meant
      go (To.Instr k a t) w one K e =
          let d = instr_same k (h a) f ip t r e in
          record {
            x = (a, r);
            word = w;
            leaf = at_moved ip r (a, r) a (sym d.1) K refl;
            there =
                subst (λ (l : List Token). Contains l (token (To.Instr f a r) w)) (sym one)
                (subst (λ (to : To). Contains (token (To.Instr k a t) w ∷ []) (token to w)) (λ n. To.Instr (d.0 n) a (d.2 n))
                (contains_head (token (To.Instr k a t) w) []));
          }
      go (To.Fetch y) w one K e = absurd (cc)
      go (To.Store y v) w one K e = absurd (cc)
      go To.Manager w one K e = absurd (cc)
      go (To.Release y) w one K e = absurd (cc)
      go (To.Host y) w one K e = absurd (cc)

  leaf_behind : (f ip n k : ℕ) (r : Port) (meant : List Token) (j : Instr) (d : Dest) → To.Instr k n Left ≡ To.Instr f ip r → instr_at Q n ≡ Some j
      → hands_on j.op ≡ true → Fresh P Q h n → Contains (j.firsts ++ j.seconds) d → HasLeaf k (n + d.ahead) d.port meant → HasLeaf f ip r meant
  leaf_behind f ip n k r meant j d e at op fresh some H =
      let s = instr_same k n f ip Left r e in
      record {
        x = H.x;
        word = H.word;
        leaf =
            behind ip r H.x j d (ap (instr_at Q) (sym s.1) ∙ at) op (subst (Fresh P Q h) s.1 fresh) (sym s.2) some
            (subst (λ (n : ℕ). Leaf P Q g h (n + d.ahead) d.port H.x) s.1 H.leaf);
        there = subst (λ (k : ℕ). Contains meant (token (To.Instr k (H.x).0 (H.x).1) H.word)) s.0 H.there;
      }

  pair_leaf : (f k a ip : ℕ) (r : Port) (w : Word) (meant : List Token) (i j : Instr) (o : Binary) → To.Instr k (g a) Left ≡ To.Instr f ip r
      → instr_at P a ≡ Some i → i.op ≡ Apply2 o → instr_at Q (g a) ≡ Some j → is_pair j.op ≡ true → Fresh P Q h (g a)
      → Contains meant (token (To.Instr k a Left) w) → HasLeaf f ip r meant
  pair_leaf f k a ip r w meant i j o e at op to pair fresh inside =
      let s = instr_same k (g a) f ip Left r e in
      record {
        x = (a, Left);
        word = w;
        leaf = at_pair ip r (a, Left) a i j o (sym s.1) at op to pair fresh (sym s.2) refl;
        there = subst (λ (k : ℕ). Contains meant (token (To.Instr k a Left) w)) s.0 inside;
      }

  weaker : (f ip : ℕ) (r : Port) (ys us vs : List Token) → ys ≡ us ++ vs → HasLeaf f ip r us ⊎ HasLeaf f ip r vs → HasLeaf f ip r ys
  weaker f ip r ys us vs e (inl H) =
      record {
        x = H.x;
        word = H.word;
        leaf = H.leaf;
        there = subst (λ (l : List Token). Contains l (token (To.Instr f (H.x).0 (H.x).1) H.word)) (sym e) (Contains-append_left us vs _ H.there);
      }
  weaker f ip r ys us vs e (inr H) =
      record {
        x = H.x;
        word = H.word;
        leaf = H.leaf;
        there = subst (λ (l : List Token). Contains l (token (To.Instr f (H.x).0 (H.x).1) H.word)) (sym e) (Contains-append_right us vs _ H.there);
      }

  pick_leaf : (t1 : Token) (ts : List Token) (t : Token) (us vs : List Token) (f ip : ℕ) (r : Port) → (t1 ≡ t) ⊎ Contains ts t → (t1 ≡ t → HasLeaf f ip r us)
      → (Contains ts t → HasLeaf f ip r vs) → HasLeaf f ip r us ⊎ HasLeaf f ip r vs
  pick_leaf t1 ts t us vs f ip r (inl d) one more = inl (one d)
  pick_leaf t1 ts t us vs f ip r (inr c) one more = inr (more c)

  mutual
    pub leaf_of : (seen : Token) (meant : List Token) → Stands P Q g h seen meant → (f ip : ℕ) (r : Port) → seen.to ≡ To.Instr f ip r → HasLeaf f ip r meant
    leaf_of seen meant (moved s ts u is one fits) f ip r e = one_leaf meant u one fits f ip r (sym (ap (λ (t : Token). t.to) is) ∙ e)
    leaf_of seen meant (through s ts k n w v j is at op all d some fresh) f ip r e =
        leaf_behind f ip n k r meant j d (sym (ap (λ (t : Token). t.to) is) ∙ e) at (hands_op IsValue j.op w v op) fresh some
        (all_leaf (to_all record { frame = k; ip = n } v j) meant all (token (To.Instr k (n + d.ahead) d.port) v) (dest_there k n v j d some) k
        (n + d.ahead) d.port refl)
    leaf_of seen meant (right s ts k a w o z i j is at op to new one fresh) f ip r e =
        pair_leaf f k a ip r w meant i j o (sym (ap (λ (t : Token). t.to) is) ∙ e) at op to (ap is_pair new) fresh
        (subst (λ (l : List Token). Contains l (token (To.Instr k a Left) w)) (sym one)
        (contains_head (token (To.Instr k a Left) w) (token (To.Instr k a Right) (Word.Val (Int z)) ∷ [])))
    leaf_of seen meant (left s ts k a w o z i j is at op to new one fresh) f ip r e =
        pair_leaf f k a ip r (Word.Val (Int z)) meant i j o (sym (ap (λ (t : Token). t.to) is) ∙ e) at op to (ap is_pair new) fresh
        (subst (λ (l : List Token). Contains l (token (To.Instr k a Left) (Word.Val (Int z)))) (sym one)
        (contains_tail (token (To.Instr k a Right) w) (token (To.Instr k a Left) (Word.Val (Int z)) ∷ []) (token (To.Instr k a Left) (Word.Val (Int z)))
        (contains_head (token (To.Instr k a Left) (Word.Val (Int z))) [])))

    all_leaf : (xs ys : List Token) → StandAll P Q g h xs ys → (t : Token) → Contains xs t → (f ip : ℕ) (r : Port) → t.to ≡ To.Instr f ip r → HasLeaf f ip r ys
    all_leaf xs ys (stand_none x1 y1 a b) t inside f ip r e = absurd (contains_none t (subst (λ (l : List Token). Contains l t) a inside))
    all_leaf xs ys (stand_more x1 y1 t1 ts us vs st more a b) t inside f ip r e =
        weaker f ip r ys us vs b (pick_leaf t1 ts t us vs f ip r (contains_cases t1 ts t (subst (λ (l : List Token). Contains l t) a inside))
        (λ d. leaf_of t1 us st f ip r (ap (λ (t : Token). t.to) d ∙ e)) (λ c. all_leaf ts vs more t c f ip r e))

  -- ---- COUNTS
  abbrev C : Type 0
  C = Clump P Q g h

  -- of the port x, those that the tokens after number ip stand for
  abbrev pub under : ℕ → ℕ → Spot → C → ℕ
  under f ip x c = unless (is_past ip c.seen.to) (ones f x.0 x.1 c.meant)

  abbrev pub Counted : List Token → List Token → List C → Type 0
  Counted new old cs = (f ip : ℕ) (r : Port) (x : Spot) → Leaf P Q g h ip r x → ones f ip r new ≤ ones f x.0 x.1 old + tot (under f ip x) cs

  none_past : (ip : ℕ) → is_past ip (To.Instr 0 ip Left) ≡ false
  none_past ip = le-ltb ip ip (omega arith)

  -- a clump counts for more than it hides
  clump_le : (f ip : ℕ) (r : Port) (x : Spot) (c : C) → Leaf P Q g h ip r x → unit (is_at f ip r c.seen.to) + under f ip x c ≤ ones f x.0 x.1 c.meant
  clump_le f ip r x c L = go (cases_Bool (is_at f ip r c.seen.to)) (cases_Bool (is_past ip c.seen.to))
    where
      go : (is_at f ip r c.seen.to ≡ true) ⊎ (is_at f ip r c.seen.to ≡ false) → (is_past ip c.seen.to ≡ true) ⊎ (is_past ip c.seen.to ≡ false)
          → unit (is_at f ip r c.seen.to) + under f ip x c ≤ ones f x.0 x.1 c.meant
      go (inl e) q =
          let to = at_true f ip r c.seen.to e in
          let a = ap unit e in
          let n : is_past ip c.seen.to ≡ false = ap (is_past ip) to ∙ none_past ip in
          let b = ap (λ (b : Bool). unless b (ones f x.0 x.1 c.meant)) n in
          let m = meant_has c.seen c.meant c.stands f ip r x to L in
          omega (arith, a, b, m)
      go (inr e) (inl q) = let a = ap unit e in let b = ap (λ (b : Bool). unless b (ones f x.0 x.1 c.meant)) q in omega (arith, a, b)
      go (inr e) (inr q) = let a = ap unit e in let b = ap (λ (b : Bool). unless b (ones f x.0 x.1 c.meant)) q in omega (arith, a, b)

  pub counted_none : (cs : List C) → Counted [] [] cs
  counted_none cs f ip r x L = omega arith

  pub counted_perm : (new old : List Token) (cs ds : List C) → IsPermutation cs ds → Counted new old cs → Counted new old ds
  counted_perm new old cs ds p K f ip r x L = let k = K f ip r x L in let e = tot_perm (under f ip x) cs ds p in omega (arith, k, e)

  -- more was taken in the old run
  pub counted_more : (new old more : List Token) (cs : List C) → ((f a : ℕ) (r : Port) → ones f a r old ≤ ones f a r more) → Counted new old cs
      → Counted new more cs
  counted_more new old more cs grows K f ip r x L = let k = K f ip r x L in let l = grows f x.0 x.1 in omega (arith, k, l)

  -- the event of a token, after that of those for which it stands
  pub counted_event : (new old : List Token) (c : C) (cl others : List C) (t : Token) → c.seen ≡ t → Counted new old (c ∷ others)
      → Counted (new ++ t ∷ []) (old ++ c.meant) (cl ++ others)
  counted_event new old c cl others t se K f ip r x L =
      let k = K f ip r x L in
      let l = clump_le f ip r x c L in
      let a = tot_append (λ (t : Token). unit (is_at f ip r t.to)) new (t ∷ []) in
      let b = tot_append (λ (t : Token). unit (is_at f x.0 x.1 t.to)) old c.meant in
      let d = tot_append (under f ip x) cl others in
      let s = ap (λ (t : Token). unit (is_at f ip r t.to)) se in
      omega (arith, k, l, a, b, d, s)

  pub ones_meant : (f : ℕ) (x : Spot) (cs : List C) → ones f x.0 x.1 (meant_of P Q g h cs) ≡ tot (λ (c : C). ones f x.0 x.1 c.meant) cs
  ones_meant f x [] = refl
  ones_meant f x (c ∷ cs) =
      let a = tot_append (λ (t : Token). unit (is_at f x.0 x.1 t.to)) c.meant (meant_of P Q g h cs) in let b = ones_meant f x cs in omega (arith, a, b)

  -- all tokens of the clumps lie after that number
  abbrev pub Behind : ℕ → List C → Type 0
  Behind n cs = (c : C) → Contains cs c → (k y : ℕ) (r : Port) → c.seen.to ≡ To.Instr k y r → n < y

  -- they are at instructions
  abbrev pub AreInstrs : List C → Type 0
  AreInstrs cs = (c : C) → Contains cs c → (k : ℕ) × (y : ℕ) × (r : Port) × (c.seen.to ≡ To.Instr k y r)

  module _ (f n : ℕ) (v : Word) (j : Instr) where
    made_from : (cs : List C) → seen_of P Q g h cs ≡ to_all record { frame = f; ip = n } v j → (c : C) → Contains cs c
        → (d : Dest) × Contains (j.firsts ++ j.seconds) d × (at_dest record { frame = f; ip = n } v d ≡ c.seen)
    made_from cs e c k =
        contains_mapped (at_dest record { frame = f; ip = n } v) (j.firsts ++ j.seconds) c.seen
        (subst (λ (l : List Token). Contains l c.seen) e (contains_map (λ (c : C). c.seen) cs c k))

    pub made_behind : ((d : Dest) → Contains (j.firsts ++ j.seconds) d → 0 < d.ahead) → (cs : List C)
        → seen_of P Q g h cs ≡ to_all record { frame = f; ip = n } v j → Behind n cs
    made_behind later cs e c inside k y r to =
        let d = made_from cs e c inside in let l = later d.0 d.1 in
        let i = (instr_same f (n + (d.0).ahead) k y (d.0).port r (ap (λ (t : Token). t.to) d.2 ∙ to)).1 in omega (arith, l, i)

    pub made_instrs : (cs : List C) → seen_of P Q g h cs ≡ to_all record { frame = f; ip = n } v j → AreInstrs cs
    made_instrs cs e c inside = let d = made_from cs e c inside in (f, n + (d.0).ahead, (d.0).port, sym (ap (λ (t : Token). t.to) d.2))

  all_under : (f ip n : ℕ) (x : Spot) (cs : List C) → ip ≤ n → Behind n cs → AreInstrs cs → tot (under f ip x) cs ≡ tot (λ (c : C). ones f x.0 x.1 c.meant) cs
  all_under f ip n x [] low far are = refl
  all_under f ip n x (c ∷ cs) low far are =
      let i = are c (contains_head c cs) in
      let l = far c (contains_head c cs) i.0 i.1 i.2 i.3 in
      let a : is_past ip c.seen.to ≡ true = ap (is_past ip) i.3 ∙ lt-ltb ip i.1 (omega (arith, l, low)) in
      let b = ap (λ (b : Bool). unless b (ones f x.0 x.1 c.meant)) a in
      let m = all_under f ip n x cs low (λ y k. far y (contains_tail c cs y k)) (λ y k. are y (contains_tail c cs y k)) in
      omega (arith, b, m)

  -- the event of one that passes on: the tokens that it makes stand for what its token stood for
  pub counted_through : (new old : List Token) (c : C) (cl others : List C) (t : Token) (k n : ℕ) → c.seen ≡ t → t.to ≡ To.Instr k n Left
      → meant_of P Q g h cl ≡ c.meant → Behind n cl → AreInstrs cl → Counted new old (c ∷ others) → Counted (new ++ t ∷ []) old (cl ++ others)
  counted_through new old c cl others t k n se to all far are K f ip r x L =
      let kk = K f ip r x L in
      let a = tot_append (λ (t : Token). unit (is_at f ip r t.to)) new (t ∷ []) in
      let s = ap (λ (t : Token). unit (is_at f ip r t.to)) se in
      let d = tot_append (under f ip x) cl others in
      let l : unit (is_at f ip r c.seen.to) + under f ip x c ≤ tot (under f ip x) cl = go (cases_Bool (nat_lt n ip)) in
      omega (arith, kk, a, s, d, l)
    where
      go : (nat_lt n ip ≡ true) ⊎ (nat_lt n ip ≡ false) → unit (is_at f ip r c.seen.to) + under f ip x c ≤ tot (under f ip x) cl
      go (inl low) =
          let lt = ltb-true n ip low in
          let no_past : is_past ip c.seen.to ≡ false = ap (is_past ip) (ap (λ (t : Token). t.to) se ∙ to) ∙ le-ltb ip n (omega (arith, lt)) in
          let b = ap (λ (b : Bool). unless b (ones f x.0 x.1 c.meant)) no_past in
          let z = not_at (cases_Bool (is_at f ip r c.seen.to)) lt in
          omega (arith, b, z)
        where
          not_at : (is_at f ip r c.seen.to ≡ true) ⊎ (is_at f ip r c.seen.to ≡ false) → n < ip → unit (is_at f ip r c.seen.to) ≡ 0
          not_at (inl y) lt =
              let w = (instr_same k n f ip Left r (sym to ∙ sym (ap (λ (t : Token). t.to) se) ∙ at_true f ip r c.seen.to y)).1 in absurd (omega (arith, w, lt))
          not_at (inr y) lt = ap unit y
      go (inr high) =
          let ge = ltb-false n ip high in
          let m = clump_le f ip r x c L in
          let u = all_under f ip n x cl (omega (arith, ge)) far are in
          let o = ones_meant f x cl in
          let e = ap (ones f x.0 x.1) all in
          omega (arith, m, u, o, e)

  clumps_le : (f ip : ℕ) (r : Port) (x : Spot) (cs : List C) → Leaf P Q g h ip r x
      → ones f ip r (seen_of P Q g h cs) + tot (under f ip x) cs ≤ ones f x.0 x.1 (meant_of P Q g h cs)
  clumps_le f ip r x [] L = omega arith
  clumps_le f ip r x (c ∷ cs) L =
      let a = clump_le f ip r x c L in let b = clumps_le f ip r x cs L in
      let d = tot_append (λ (t : Token). unit (is_at f x.0 x.1 t.to)) c.meant (meant_of P Q g h cs) in omega (arith, a, b, d)

  -- ALL IN ALL
  pub counted_met : (new old pool last : List Token) (cs : List C) → Counted new old cs → IsPermutation pool (seen_of P Q g h cs)
      → IsPermutation last (meant_of P Q g h cs) → (f ip : ℕ) (r : Port) (x : Spot) → Leaf P Q g h ip r x
      → ones f ip r (new ++ pool) ≤ ones f x.0 x.1 (old ++ last)
  counted_met new old pool last cs K seen meant f ip r x L =
      let k = K f ip r x L in
      let a = tot_append (λ (t : Token). unit (is_at f ip r t.to)) new pool in
      let b = tot_append (λ (t : Token). unit (is_at f x.0 x.1 t.to)) old last in
      let s = tot_perm (λ (t : Token). unit (is_at f ip r t.to)) pool (seen_of P Q g h cs) seen in
      let m = tot_perm (λ (t : Token). unit (is_at f x.0 x.1 t.to)) last (meant_of P Q g h cs) meant in
      let l = clumps_le f ip r x cs L in
      omega (arith, k, a, b, s, m, l)
