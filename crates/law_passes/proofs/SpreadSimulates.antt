-- A plan that is another one with copies inserted does what that one does.
use Rattle.std.proofs.Common.{◌≡◌, sym, ap, ◌∙◌, subst, ℕ, ◌+◌, ◌<◌, ◌⊎◌, inl, inr, true, false, true≢false, List, [], ◌∷◌, ◌++◌}
use Rattle.std.proofs.Common.{Some, Contains}
use Rattle.std.proofs.lemmas.List.Elements.{Contains-append_left, Contains-append_right}
use Rattle.std.proofs.lemmas.Option.{same_Some}
use Rattle.lemmas.proofs.Contains.{contains_cases, contains_head, contains_none}
use Rattle.tags.specs.declared.token.Port.{Port}
use Rattle.tags.specs.declared.token.Port.TheVariants.{Left}
use Rattle.operators.specs.declared.Binary.{Binary}
use Rattle.semantics.specs.declared.program.Dest.{Dest}
use Rattle.semantics.specs.declared.program.Op.TheVariants.{Apply2}
use Rattle.semantics.specs.Program.{Instr, Program, instr_at}
use Rattle.semantics.specs.Plan.{Plan}
use Rattle.semantics.specs.Orderly.{often}
use Rattle.law_passes.specs.Spreads.{IsCopyAt, Replaces, here, fork, Spreads}
use Rattle.law_passes.proofs.SpreadPlaces.{row_stays, often_moved, comes_back, landing_moved}
use Rattle.law_passes.proofs.SpreadWays.{stands_same}
use Rattle.law_passes.proofs.SpreadMoves.{plain, moves_to}
use Rattle.law_simulation.specs.Places.{Spot}
use Rattle.law_simulation.specs.Simulates.{Fresh, Leaf, Relates, Simulates, at_moved, at_pair, behind, counts_none, is_pair}

module _ (p q : Plan) (S : Spreads p q) where
  abbrev P : Program
  P = p.program

  abbrev Q : Program
  Q = q.program

  abbrev h : ℕ → ℕ
  h = S.h

  -- no operator has a literal operand
  no_pair : (a : ℕ) (i j : Instr) (o : Binary) → instr_at P a ≡ Some i → i.op ≡ Apply2 o → instr_at Q (h a) ≡ Some j → is_pair j.op ≡ true → ⊥
  no_pair a i j o at op there pair =
      let M = S.instrs a i at in
      let same : j ≡ M.j = same_Some j M.j (sym there ∙ M.there) in
      true≢false (sym pair ∙ ap (λ (i : Instr). is_pair i.op) same ∙ ap is_pair (M.op ∙ op))

  copy_at : (ip : ℕ) (j : Instr) → instr_at Q ip ≡ Some j → Fresh P Q h ip → (zs : List Spot) × (K : IsCopyAt Q h ip zs) × (K.i ≡ j)
      × (us : List Spot) × (vs : List Spot) × Replaces Q h (ip + K.d.ahead) K.d.port us × Replaces Q h (ip + K.e.ahead) K.e.port vs × (zs ≡ us ++ vs)
  copy_at ip j at fresh = let k = S.all ip j at in go k.0 k.1
    where
      go : (zs : List Spot) → Replaces Q h ip Left zs → (zs : List Spot) × (K : IsCopyAt Q h ip zs) × (K.i ≡ j)
          × (us : List Spot) × (vs : List Spot) × Replaces Q h (ip + K.d.ahead) K.d.port us × Replaces Q h (ip + K.e.ahead) K.e.port vs × (zs ≡ us ++ vs)
      go zs (here n t ys a at one) = absurd (fresh a (plain p q S a) at)
      go zs (fork n t ys us vs K left su sv all) = (zs, K, same_Some K.i j (sym K.there ∙ at), us, vs, su, sv, all)

  copy_dest : (ip : ℕ) (zs : List Spot) (K : IsCopyAt Q h ip zs) (j : Instr) → K.i ≡ j → (d : Dest) → Contains (j.firsts ++ j.seconds) d → (K.d ≡ d) ⊎ (K.e ≡ d)
  copy_dest ip zs K j same d named =
      pick (contains_cases K.d (K.e ∷ []) d (subst (λ (ds : List Dest). Contains ds d)
      (ap (λ (i : Instr). i.firsts ++ i.seconds) (sym same) ∙ (λ k. K.first k ++ K.second k)) named))
    where
      last : (K.e ≡ d) ⊎ Contains [] d → (K.d ≡ d) ⊎ (K.e ≡ d)
      last (inl e) = inr e
      last (inr c) = absurd (contains_none d c)

      pick : (K.d ≡ d) ⊎ Contains (K.e ∷ []) d → (K.d ≡ d) ⊎ (K.e ≡ d)
      pick (inl e) = inl e
      pick (inr c) = last (contains_cases K.e [] d c)

  leads_ahead : (ip : ℕ) (j : Instr) (d : Dest) → instr_at Q ip ≡ Some j → Fresh P Q h ip → Contains (j.firsts ++ j.seconds) d → 0 < d.ahead
  leads_ahead ip j d at fresh named =
      let C = copy_at ip j at fresh in go C.1.later (copy_dest ip C.0 C.1 j C.2 d named)
    where
      go : {x y : Dest} → (0 < x.ahead) × (0 < y.ahead) → (x ≡ d) ⊎ (y ≡ d) → 0 < d.ahead
      go l (inl e) = subst (λ (d : Dest). 0 < d.ahead) e l.0
      go l (inr e) = subst (λ (d : Dest). 0 < d.ahead) e l.1

  relates : Relates p q
  relates = record {
    g = h;
    h = h;
    arrays = S.arrays;
    outputs = S.outputs;
    inputs = S.inputs;
    instrs = λ a i at. inl (moves_to p q S a i at);
    rights = λ a o z i j at op there new. absurd (no_pair a i j o at op there (ap is_pair new));
    lefts = λ a o z i j at op there new. absurd (no_pair a i j o at op there (ap is_pair new));
    landings = λ base o L. (row_stays p q S base o L, plain p q S (base + o));
    entries = λ n low. (S.entries n low, plain p q S _);
    answers = λ a i at is. (let A = (S.instrs a i at).answered is in (A.0, A.2, plain p q S (a + A.0.ahead)));
    holders = λ a K. S.holders a;
    apart = λ a b K L e. S.apart a b e;
    pairs_apart = λ a b i k j o u at at2 op op2 there e. S.apart a b e;
    later = λ ip j d at on fresh named. leads_ahead ip j d at fresh named;
  }

  -- ---- PORTS
  abbrev Among : ℕ → Port → Spot → Type 0
  Among ip r x = (xs : List Spot) × Replaces Q h ip r xs × Contains xs x

  leaf_among : (ip : ℕ) (r : Port) (x : Spot) → Leaf P Q h h ip r x → Among ip r x
  leaf_among ip r x (at_moved n t y a e K is) = (x ∷ [], here ip r (x ∷ []) a e (ap (λ (x : Spot). x ∷ []) is), contains_head x [])
  leaf_among ip r x (at_pair n t y a i j o e at op there pair fresh left is) = absurd (no_pair a i j o at op there pair)
  leaf_among ip r x (behind n t y j d at on fresh left named more) =
      let C = copy_at ip j at fresh in
      let m = leaf_among (ip + d.ahead) d.port x more in
      (C.0, fork ip r C.0 C.3 C.4 C.1 left C.5 C.6 C.7, go C m (copy_dest ip C.0 C.1 j C.2 d named))
    where
      go : (C : (zs : List Spot) × (K : IsCopyAt Q h ip zs) × (K.i ≡ j) × (us : List Spot) × (vs : List Spot)
          × Replaces Q h (ip + K.d.ahead) K.d.port us × Replaces Q h (ip + K.e.ahead) K.e.port vs × (zs ≡ us ++ vs)) → Among (ip + d.ahead) d.port x
          → (C.1.d ≡ d) ⊎ (C.1.e ≡ d) → Contains C.0 x
      go C m (inl e) =
          let same = stands_same Q h S.apart (ip + d.ahead) (ip + C.1.d.ahead) d.port C.1.d.port m.0 C.3 (λ k. ip + (sym e k).ahead) (λ k. (sym e k).port)
          m.1 C.5 in
          subst (λ (l : List Spot). Contains l x) (sym C.7) (Contains-append_left C.3 C.4 x (subst (λ (l : List Spot). Contains l x) same m.2))
      go C m (inr e) =
          let same = stands_same Q h S.apart (ip + d.ahead) (ip + C.1.e.ahead) d.port C.1.e.port m.0 C.4 (λ k. ip + (sym e k).ahead) (λ k. (sym e k).port)
          m.1 C.6 in
          subst (λ (l : List Spot). Contains l x) (sym C.7) (Contains-append_right C.3 C.4 x (subst (λ (l : List Spot). Contains l x) same m.2))

  lone_leaf : (ip : ℕ) (r : Port) (x : Spot) → Leaf P Q h h ip r x → often (instr_at Q ip) ≡ false → often (instr_at P x.0) ≡ false
  lone_leaf ip r x L off = let m = leaf_among ip r x L in go m.0 m.1 m.2
    where
      go : (xs : List Spot) → Replaces Q h ip r xs → Contains xs x → often (instr_at P x.0) ≡ false
      go xs (here n t ys a at one) inside = pick (contains_cases (a, r) [] x (subst (λ (l : List Spot). Contains l x) one inside))
        where
          pick : ((a, r) ≡ x) ⊎ Contains [] x → often (instr_at P x.0) ≡ false
          pick (inl e) =
              subst (λ (x : Spot). often (instr_at P x.0) ≡ false) e (often_moved p q S a (sym (ap (λ (n : ℕ). often (instr_at Q n)) at) ∙ off))
          pick (inr c) = absurd (contains_none x c)
      go xs (fork n t ys us vs K left su sv all) inside = often_moved p q S x.0 (K.lone x inside)

  -- ---- ALL OF IT
  pub spread_simulates : Simulates p q
  unfolding relates
  spread_simulates = record {
    relates = relates;
    stays = λ a i at off. plain p q S a;
    back = λ ip j at off.
        (let b = comes_back p q S ip j at (λ e. true≢false (sym (ap counts_none e) ∙ off)) in (b.0, b.1, plain p q S b.0));
    sizes = S.lengths;
    rows = λ ip callee base o L low.
        subst (λ (n : ℕ). h (n + o) ≡ h n + o) (sym L.begins) (S.rows ip callee o L.instr L.dest L.is_at L.does L.lands low);
    lands = landing_moved p q S;
    unskipped = λ ip callee base o L low K. K.apart (plain p q S (base + o));
    marks = λ a m K. S.marks a m;
    blocks = λ ip jp r t x y lx ly.
        (let X = leaf_among ip r x lx in let Y = leaf_among jp t y ly in S.blocks ip jp r t X.0 Y.0 x y X.1 Y.1 X.2 Y.2);
    lone = lone_leaf;
    entries = S.starts;
  }
