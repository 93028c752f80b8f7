-- What tokens stand for where copies are inserted, and single instructions in their new places.
use Rattle.std.proofs.Common.{◌≡◌, refl, sym, ap, ◌∙◌, subst, ℕ, ◌+◌, inl, List, [], ◌∷◌, ◌++◌, map, Option}
use Rattle.std.proofs.Common.{Some, None, Contains, IsPermutation, append-nil}
use Rattle.std.proofs.lemmas.List.Sorted.{IsPermutation-map}
use Rattle.lemmas.proofs.Contains.{contains_head}
use Rattle.lemmas.proofs.Lists.{map_append}
use Rattle.tags.specs.declared.token.Port.{Port}
use Rattle.tags.specs.declared.token.Word.{Word}
use Rattle.tags.specs.declared.token.To.{To}
use Rattle.tags.specs.declared.token.Token.{Token}
use Rattle.semantics.specs.declared.program.Dest.{Dest}
use Rattle.semantics.specs.declared.program.Op.{Op}
use Rattle.semantics.specs.declared.program.Op.TheVariants.{Link, Send}
use Rattle.semantics.specs.Program.{Instr, Program, instr_at}
use Rattle.semantics.specs.Rule.{token, at_dest, to_each}
use Rattle.semantics.specs.Plan.{Plan}
use Rattle.law_passes.specs.Spreads.{IsCopyAt, Replaces, here, fork, Lead, targets, Leads, Enters, IsMoved, Spreads}
use Rattle.law_passes.proofs.SpreadWays.{leads_pick}
use Rattle.lemmas.proofs.Contains.{contains_cases, contains_none, contains_tail}
use Rattle.std.proofs.Common.{◌⊎◌, inr}
use Rattle.std.proofs.lemmas.List.Elements.{Contains-append_cases}
use Rattle.tags.specs.declared.token.Port.TheVariants.{Left}
use Rattle.law_simulation.specs.Places.{Spot, ip_word}
use Rattle.law_simulation.specs.Simulates.{Clumped, Enters as EntersAt, Fresh, HandsOn, IsMoved as MovesTo, IsValue, Leads as LeadsOn, Path, Plain}
use Rattle.law_simulation.specs.Simulates.{StandAll, Stands, at_end, empty, hands_on, itself, moved, onward, settled, stand_more, stand_none, through}

module _ (p q : Plan) (S : Spreads p q) where
  abbrev P : Program
  P = p.program

  abbrev Q : Program
  Q = q.program

  abbrev h : ℕ → ℕ
  h = S.h

  -- ---- PLACES
  none_some : (i : Instr) → None ≡ Some i → ⊥
  none_some i e = cc

  pub plain : (a : ℕ) → Plain P Q h a
  plain a = go (instr_at P a) refl (instr_at Q (h a)) refl
    where
      go : (o : Option Instr) → instr_at P a ≡ o → (n : Option Instr) → instr_at Q (h a) ≡ n → Plain P Q h a
      go (Some i) at n there = itself i (S.instrs a i at).j at (S.instrs a i at).there
      go None at None there = empty at there S.apart
      go None at (Some j) there = let i = S.alone a j there in absurd (none_some i.0 (sym at ∙ i.1))

  -- what copies, and is none of the moved instructions
  pub copy_fresh : (ip : ℕ) (zs : List Spot) → IsCopyAt Q h ip zs → Fresh P Q h ip
  copy_fresh ip zs K b there e = K.fresh b e

  -- ---- WHAT TOKENS STAND FOR
  abbrev spots : ℕ → Word → List Spot → List Token
  spots f w xs = map (λ (x : Spot). token (To.Instr f x.0 x.1) w) xs

  abbrev Means : ℕ → ℕ → Port → Word → List Spot → Type 0
  Means f ip r w xs = Stands P Q h h (token (To.Instr f ip r) (ip_word h w)) (spots f w xs)

  one_more : (f ip : ℕ) (w : Word) (d : Dest) (ds : List Dest) (us vs zs : List Spot) → zs ≡ us ++ vs → Means f (ip + d.ahead) d.port w us
      → StandAll P Q h h (to_each record { frame = f; ip = ip } (ip_word h w) ds) (spots f w vs)
      → StandAll P Q h h (to_each record { frame = f; ip = ip } (ip_word h w) (d ∷ ds)) (spots f w zs)
  one_more f ip w d ds us vs zs all one more =
      stand_more _ _ (at_dest record { frame = f; ip = ip } (ip_word h w) d) (to_each record { frame = f; ip = ip } (ip_word h w) ds) (spots f w us)
      (spots f w vs) one more refl (ap (spots f w) all ∙ map_append (λ (x : Spot). token (To.Instr f x.0 x.1) w) us vs)

  stands_for : (f : ℕ) (w : Word) (ip : ℕ) (r : Port) (xs : List Spot) → Replaces Q h ip r xs → Means f ip r w xs
  stands_for f w ip r xs (here n t zs a at one) =
      moved _ _ (token (To.Instr f a r) w) (λ k. token (To.Instr f (at k) r) (ip_word h w)) (ap (spots f w) one) (plain a)
  stands_for f w ip r xs (fork n t zs us vs K left su sv all) =
      let two : K.i.firsts ++ K.i.seconds ≡ K.d ∷ K.e ∷ [] = (λ k. K.first k ++ K.second k) in
      let second = one_more f ip w K.e [] vs [] vs (sym (append-nil vs)) (stands_for f w (ip + K.e.ahead) K.e.port vs sv) (stand_none [] [] refl refl) in
      let both = one_more f ip w K.d (K.e ∷ []) us vs xs all (stands_for f w (ip + K.d.ahead) K.d.port us su) second in
      through _ _ f ip (ip_word h w) (ip_word h w) K.i (λ k. token (To.Instr f ip (left k)) (ip_word h w)) K.there
      (subst (λ (op : Op). HandsOn IsValue op (ip_word h w) (ip_word h w)) (sym K.copies) refl)
      (subst (λ (ds : List Dest). StandAll P Q h h (to_each record { frame = f; ip = ip } (ip_word h w) ds) (spots f w xs)) (sym two) both) K.d
      (subst (λ (ds : List Dest). Contains ds K.d) (sym two) (contains_head K.d (K.e ∷ []))) (copy_fresh ip zs K)

  lead_stands : (f ip : ℕ) (w : Word) (ds : List Dest) (zs : List Spot) → Lead Q h ip ds zs
      → StandAll P Q h h (to_each record { frame = f; ip = ip } (ip_word h w) ds) (spots f w zs)
  lead_stands f ip w [] zs L = stand_none [] (spots f w zs) refl (ap (spots f w) L)
  lead_stands f ip w (d ∷ ds) zs L = one_more f ip w d ds L.0 L.1 zs L.4 (stands_for f w (ip + d.ahead) d.port L.0 L.2) (lead_stands f ip w ds L.1 L.3)

  each_targets : (f a : ℕ) (w : Word) (es : List Dest) → spots f w (targets a es) ≡ to_each record { frame = f; ip = a } w es
  each_targets f a w [] = refl
  each_targets f a w (e ∷ es) = ap (λ (l : List Token). at_dest record { frame = f; ip = a } w e ∷ l) (each_targets f a w es)

  first_named : (ip : ℕ) (zs : List Spot) (K : IsCopyAt Q h ip zs) → Contains (K.i.firsts ++ K.i.seconds) K.d
  first_named ip zs K = subst (λ (l : List Dest). Contains l K.d) (λ n. sym K.first n ++ sym K.second n) (contains_head K.d (K.e ∷ []))

  second_named : (ip : ℕ) (zs : List Spot) (K : IsCopyAt Q h ip zs) → Contains (K.i.firsts ++ K.i.seconds) K.e
  second_named ip zs K =
      subst (λ (l : List Dest). Contains l K.e) (λ n. sym K.first n ++ sym K.second n) (contains_tail K.d (K.e ∷ []) K.e (contains_head K.e []))

  -- a port is what it stands for, or a copy leads there
  abbrev Ends : ℕ → Port → Spot → Type 0
  Ends ip r x = ((ip ≡ h x.0) × (r ≡ x.1)) ⊎ ((r ≡ Left) × Path P Q h ip x)

  ends : (ip : ℕ) (r : Port) (xs : List Spot) (x : Spot) → Replaces Q h ip r xs → Contains xs x → Ends ip r x
  ends ip r xs x (here n t ys a at one) inside = pick (contains_cases (a, r) [] x (subst (λ (l : List Spot). Contains l x) one inside))
    where
      pick : ((a, r) ≡ x) ⊎ Contains [] x → Ends ip r x
      pick (inl e) = inl (at ∙ ap (λ (x : Spot). h x.0) e, ap (λ (x : Spot). x.1) e)
      pick (inr c) = absurd (contains_none x c)
  ends ip r xs x (fork n t ys us vs K left su sv all) inside =
      inr (
        left,
        by (Contains-append_cases us vs x (subst (λ (l : List Spot). Contains l x) all inside)) (λ c. ends (ip + K.d.ahead) K.d.port us x su c)
            (λ c. ends (ip + K.e.ahead) K.e.port vs x sv c),
      )
    where
      on : (d : Dest) → Contains (K.i.firsts ++ K.i.seconds) d → Ends (ip + d.ahead) d.port x → Path P Q h ip x
      on d named (inl e) = at_end ip x K.i d K.there (ap hands_on K.copies) (copy_fresh ip ys K) named e.0 e.1
      on d named (inr e) = onward ip x K.i d K.there (ap hands_on K.copies) (copy_fresh ip ys K) named e.0 e.1

      by : Contains us x ⊎ Contains vs x → (Contains us x → Ends (ip + K.d.ahead) K.d.port x) → (Contains vs x → Ends (ip + K.e.ahead) K.e.port x)
          → Path P Q h ip x
      by (inl c) one two = on K.d (first_named ip ys K) (one c)
      by (inr c) one two = on K.e (second_named ip ys K) (two c)

  pub leads_on : (ip a : ℕ) (ds es : List Dest) → Leads Q h ip ds a es → LeadsOn P Q h h ip ds a es
  leads_on ip a ds es L = record {
    made = λ f w. record { value = λ v. made f w; tells = inl (made f w) };
    ways = λ e inside K.
        (let D = leads_pick Q h ip a ds es L e inside in
        record { d = D.d; named = D.named; leads = ends (ip + D.d.ahead) D.d.port D.xs (a + e.ahead, e.port) D.stands D.among });
    overs = λ e inside K. absurd (K.apart (plain (a + e.ahead)));
  }
    where
      made : (f : ℕ) (w : Word) → Clumped P Q h h (to_each record { frame = f; ip = ip } (ip_word h w) ds) (to_each record { frame = f; ip = a } w es)
      made f w = record {
        meant = spots f w L.0;
        stand = lead_stands f ip w ds L.0 L.1;
        settles = settled (to_each record { frame = f; ip = a } w es) (spots f w L.0)
            (subst (λ (l : List Token). IsPermutation l (spots f w L.0)) (each_targets f a w es)
            (IsPermutation-map (λ (x : Spot). token (To.Instr f x.0 x.1) w) (targets a es) L.0 L.2));
      }

  pub enters_at : (op : Op) → Enters P Q h op → EntersAt P Q h op
  enters_at (Link b) e = (e, plain _)
  enters_at (Send b n) e = (e, plain _)
  enters_at op e = tt

  abbrev pub moves_to : (a : ℕ) (i : Instr) → instr_at P a ≡ Some i → MovesTo P Q h h a i
  moves_to a i at =
      let M : IsMoved P Q h a i = S.instrs a i at in
      record {
        j = M.j;
        there = M.there;
        op = M.op;
        origin = M.origin;
        slot = M.slot;
        all = leads_on (h a) a (M.j.firsts ++ M.j.seconds) (i.firsts ++ i.seconds) M.all;
        firsts = λ e. leads_on (h a) a M.j.firsts i.firsts (M.firsts e);
        seconds = (λ e. leads_on (h a) a M.j.seconds i.seconds (M.seconds.0 e), λ b e. leads_on (h a) a M.j.seconds i.seconds (M.seconds.1 b e));
        answered = λ is. (let A = M.answered is in (A.0, A.1, A.2, A.3, A.4, A.5, plain (a + A.0.ahead)));
        enters = enters_at i.op M.enters;
      }
