-- What a list of destinations gives and wants, one by one; and that a literal that stays still sends.
use Rattle.std.proofs.Common.{◌≡◌, refl, sym, ap, ◌∙◌, subst, ℕ, ℤ, zero, suc, ◌+◌, ◌<◌, ◌⊎◌, inl, inr, Bool, true, false, true≢false, ◌||◌, List, [], ◌∷◌}
use Rattle.std.proofs.Common.{◌++◌, length, Option, Some, Contains, if◌then◌else◌}
use Rattle.std.specs.Prelude.{slice_get, ◌&&◌, not}
use Rattle.std.proofs.lemmas.List.Concat.{flat_map-append}
use Rattle.std.proofs.lemmas.List.Elements.{Contains-append_left, Contains-append_right, Contains-append_cases}
use Rattle.std.proofs.lemmas.List.Sorted.{Contains-permutation}
use Rattle.std.proofs.lemmas.Bool.{and_parts, not-true}
use Rattle.lemmas.proofs.Contains.{contains_cases, contains_head, contains_none}
use Rattle.lemmas.proofs.SliceGet.{get_some}
use Rattle.semantics.specs.declared.program.Dest.{Dest}
use Rattle.semantics.specs.declared.program.Op.TheVariants.{Lit}
use Rattle.semantics.specs.Program.{Instr, CodeBlock}
use Rattle.semantics.specs.Plan.{Plan}
use Rattle.folding.specs.Folds.{is_folded, is_closed}
use Rattle.folding.specs.Places.{layout_of, folds_at, gone_at}
use Rattle.folding.specs.Moved.{is_shut, new_dest, moved_dest, moved_dests}
use Rattle.folding.specs.Laws.{dests_of, SparesLiterals}
use Rattle.folding.proofs.Taken.{leaves_out}
use Rattle.folding.proofs.Pairs.{closed_one, closed_in, closed_uses, given, wanted_one, wanted, uses_in, pairs_match}
use Rattle.folding.proofs.Cases.{FoldCase, is_kept, is_right, is_left, fold_cases}
use Rattle.folding.proofs.Plain.{kept_open}
use Rattle.law_passes.proofs.KeptClosed.{gone_some, closed_or}

some_of : (xs : List ℕ) → (xs ≡ [] → ⊥) → (x : ℕ) × Contains xs x
some_of [] full = absurd (full refl)
some_of (x ∷ xs) full = (x, contains_head x xs)

module _ (p : Plan) (c : CodeBlock) where
  pub given_has : (n : ℕ) (ds : List Dest) (k : ℕ) (d : Dest) (x : ℕ) → slice_get ds k ≡ Some d → Contains (closed_uses p c (n + d.ahead)) x
      → Contains (given p c n ds) x
  given_has n [] k d x e inside = absurd (cc)
  given_has n (y ∷ ds) zero d x e inside =
      let same : y ≡ d = cc in Contains-append_left (closed_uses p c (n + y.ahead)) (given p c n ds) x
      (subst (λ (d : Dest). Contains (closed_uses p c (n + d.ahead)) x) (sym same) inside)
  given_has n (y ∷ ds) (suc k) d x e inside = Contains-append_right (closed_uses p c (n + y.ahead)) (given p c n ds) x (given_has n ds k d x e inside)

  -- the destination that wants the word
  pub record Wants (n : ℕ) (ds : List Dest) (x : ℕ) : Type 0 where
    pub k : ℕ
    pub d : Dest
    pub named : slice_get ds k ≡ Some d
    pub to : n + d.ahead ≡ x
    pub folded : is_folded (folds_at (layout_of p c) (n + d.ahead)) ≡ true
    pub still : is_closed (folds_at (layout_of p c) (n + d.ahead)) d.port ≡ false

  pub wanted_of : (n : ℕ) (ds : List Dest) (x : ℕ) → Contains (wanted p c n ds) x → Wants n ds x
  wanted_of n [] x inside = absurd (contains_none x inside)
  wanted_of n (d ∷ ds) x inside = go (Contains-append_cases (wanted_one p c n d) (wanted p c n ds) x inside) (wanted_of n ds x)
    where
      here : (b : Bool) → (is_folded (folds_at (layout_of p c) (n + d.ahead)) && not (is_closed (folds_at (layout_of p c) (n + d.ahead)) d.port)) ≡ b
          → Contains (if b then (n + d.ahead) ∷ [] else []) x → Wants n (d ∷ ds) x
      here false e k = absurd (contains_none x k)
      here true e k =
          let b = and_parts (is_folded (folds_at (layout_of p c) (n + d.ahead))) (not (is_closed (folds_at (layout_of p c) (n + d.ahead)) d.port)) e in
          record {
            k = 0;
            d = d;
            named = refl;
            to = same (contains_cases (n + d.ahead) [] x k);
            folded = b.0;
            still = not-true (is_closed (folds_at (layout_of p c) (n + d.ahead)) d.port) b.1;
          }
        where
          same : (n + d.ahead ≡ x) ⊎ Contains [] x → n + d.ahead ≡ x
          same (inl e) = e
          same (inr m) = absurd (contains_none x m)

      go : Contains (wanted_one p c n d) x ⊎ Contains (wanted p c n ds) x → (Contains (wanted p c n ds) x → Wants n ds x) → Wants n (d ∷ ds) x
      go (inl k) more = here _ refl k
      go (inr k) more = let W = more k in record { k = suc W.k; d = W.d; named = W.named; to = W.to; folded = W.folded; still = W.still }

  -- a destination that is not shut is one still
  pub moved_has : (n : ℕ) (ds : List Dest) (k : ℕ) (d : Dest) → slice_get ds k ≡ Some d → is_shut (layout_of p c) (n + d.ahead) d.port ≡ false
      → Contains (moved_dests (layout_of p c) n ds) (new_dest (layout_of p c) n (n + d.ahead) d.port)
  moved_has n [] k d e o = absurd (cc)
  moved_has n (y ∷ ds) zero d e o =
      let same : y ≡ d = cc in
      let one : moved_dest (layout_of p c) n d ≡ new_dest (layout_of p c) n (n + d.ahead) d.port ∷ [] =
      ap (λ (b : Bool). if b then [] else new_dest (layout_of p c) n (n + d.ahead) d.port ∷ []) o in
      Contains-append_left (moved_dest (layout_of p c) n y) (moved_dests (layout_of p c) n ds) _
      (subst (λ (l : List Dest). Contains l (new_dest (layout_of p c) n (n + d.ahead) d.port)) (sym one ∙ ap (moved_dest (layout_of p c) n) (sym same))
      (contains_head (new_dest (layout_of p c) n (n + d.ahead) d.port) []))
  moved_has n (y ∷ ds) (suc k) d e o = Contains-append_right (moved_dest (layout_of p c) n y) (moved_dests (layout_of p c) n ds) _ (moved_has n ds k d e o)

  or_false : (a b : Bool) → a ≡ false → b ≡ false → (a || b) ≡ false
  or_false a b e f = (λ k. e k || f k)

  module _ (spares : SparesLiterals c)
      (inside : (n k : ℕ) (i : Instr) (s : Bool) (d : Dest) → slice_get c.instrs n ≡ Some i → slice_get (dests_of i s) k ≡ Some d
      → n + d.ahead < length c.instrs) where
    -- an operator stays
    folded_stays : (m : ℕ) → is_folded (folds_at (layout_of p c) m) ≡ true → gone_at (layout_of p c) m ≡ false
    folded_stays m on = go (fold_cases p c m)
      where
        by : (i : Instr) → slice_get c.instrs m ≡ Some i → ((z : ℤ) → i.op ≡ Lit z → ⊥) → gone_at (layout_of p c) m ≡ false
        by i at other = pick (gone_at (layout_of p c) m) refl
          where
            pick : (b : Bool) → gone_at (layout_of p c) m ≡ b → gone_at (layout_of p c) m ≡ false
            pick false e = e
            pick true e = let l = (leaves_out p c m i at e).literal in absurd (other l.0 l.1)

        go : FoldCase p c m → gone_at (layout_of p c) m ≡ false
        go (is_kept K) = absurd (true≢false (sym on ∙ K.folded))
        go (is_right (D, op)) = by D.i D.there (λ z e. let k = sym D.was ∙ e in cc)
        go (is_left (D, op)) = by D.i D.there (λ z e. let k = sym D.was ∙ e in cc)

    -- A list with a destination at which words still arrive has one that stays.
    list_some : (m k : ℕ) (j : Instr) (s : Bool) (d : Dest) → slice_get c.instrs m ≡ Some j → slice_get (dests_of j s) k ≡ Some d
        → is_closed (folds_at (layout_of p c) (m + d.ahead)) d.port ≡ false
        → (x : Dest) × Contains (moved_dests (layout_of p c) m (dests_of j s)) x
    list_some m k j s d at named o = go (gone_at (layout_of p c) (m + d.ahead)) refl
      where
        go : (b : Bool) → gone_at (layout_of p c) (m + d.ahead) ≡ b → (x : Dest) × Contains (moved_dests (layout_of p c) m (dests_of j s)) x
        go false e = (
          new_dest (layout_of p c) m (m + d.ahead) d.port,
          moved_has m (dests_of j s) k d named
              (or_false (gone_at (layout_of p c) (m + d.ahead)) (is_closed (folds_at (layout_of p c) (m + d.ahead)) d.port) e o),
        )
        go true e =
            let o = get_some c.instrs (m + d.ahead) (inside m k j s d at named) in
            let x = some_of (closed_uses p c (m + d.ahead)) (gone_some p c (m + d.ahead) o.0 o.1 e) in
            let W : Wants m (dests_of j s) x.0 =
            wanted_of m (dests_of j s) x.0 (Contains-permutation _ _ x.0 (pairs_match p c spares inside m j s at)
            (given_has m (dests_of j s) k d x.0 named x.1)) in (
              new_dest (layout_of p c) m (m + W.d.ahead) W.d.port,
              moved_has m (dests_of j s) W.k W.d W.named
                  (or_false (gone_at (layout_of p c) (m + W.d.ahead)) (is_closed (folds_at (layout_of p c) (m + W.d.ahead)) W.d.port)
                  (folded_stays (m + W.d.ahead) W.folded) W.still),
            )

    -- So has a literal that stays and of which a use is in the code.
    pub lit_some : (m : ℕ) (j : Instr) (z : ℤ) → slice_get c.instrs m ≡ Some j → j.op ≡ Lit z → gone_at (layout_of p c) m ≡ false → (closed_uses p c m ≡ [] → ⊥)
        → (x : Dest) × Contains (moved_dests (layout_of p c) m j.firsts ++ moved_dests (layout_of p c) m j.seconds) x
    lit_some m j z at op stays used = by_uses (closed_or p c m j.firsts) (closed_or p c m j.seconds)
      where
        side : (t : Bool) → (x : Dest) × Contains (moved_dests (layout_of p c) m (dests_of j t)) x
            → (x : Dest) × Contains (moved_dests (layout_of p c) m j.firsts ++ moved_dests (layout_of p c) m j.seconds) x
        side false (x, k) = (x, Contains-append_left (moved_dests (layout_of p c) m j.firsts) (moved_dests (layout_of p c) m j.seconds) x k)
        side true (x, k) = (x, Contains-append_right (moved_dests (layout_of p c) m j.firsts) (moved_dests (layout_of p c) m j.seconds) x k)

        by_use : (k : ℕ) (s : Bool) (d : Dest) → slice_get (dests_of j s) k ≡ Some d
            → (x : Dest) × Contains (moved_dests (layout_of p c) m j.firsts ++ moved_dests (layout_of p c) m j.seconds) x
        by_use k s d named = let o = kept_open p c m k j z s d at op named stays in side o.0 (list_some m o.1 j o.0 o.2 at o.3 o.4)

        by_uses : (closed_in p c m j.firsts ≡ [])
            ⊎ ((k : ℕ) × (d : Dest) × (slice_get j.firsts k ≡ Some d) × (is_closed (folds_at (layout_of p c) (m + d.ahead)) d.port ≡ true))
            → (closed_in p c m j.seconds ≡ []) ⊎ ((k : ℕ) × (d : Dest) × (slice_get j.seconds k ≡ Some d)
            × (is_closed (folds_at (layout_of p c) (m + d.ahead)) d.port ≡ true))
            → (x : Dest) × Contains (moved_dests (layout_of p c) m j.firsts ++ moved_dests (layout_of p c) m j.seconds) x
        by_uses (inr r) o = by_use r.0 false r.1 r.2
        by_uses (inl a) (inr r) = by_use r.0 true r.1 r.2
        by_uses (inl a) (inl b) =
            absurd (used (ap (λ (o : Option Instr). closed_in p c m (uses_in p c o)) at ∙ flat_map-append (closed_one p c m) j.firsts j.seconds
            ∙ (λ k. a k ++ b k)))
