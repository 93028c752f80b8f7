-- What was sent to a destination goes there, or to a copy that leads there.
use Rattle.std.proofs.Common.{◌≡◌, sym, ap, ◌∙◌, subst, ℕ, ◌+◌, ◌⊎◌, inl, inr, List, [], ◌∷◌, Contains, ◌++◌}
use Rattle.std.proofs.lemmas.List.Elements.{Contains-append_cases}
use Rattle.std.proofs.lemmas.List.Sorted.{Contains-permutation}
use Rattle.lemmas.proofs.Contains.{contains_head, contains_map, contains_none, contains_tail}
use Rattle.tags.specs.declared.token.Port.{Port}
use Rattle.semantics.specs.declared.program.Dest.{Dest}
use Rattle.semantics.specs.Program.{Program}
use Rattle.law_passes.specs.Spreads.{Replaces, here, fork, Lead, targets, Leads}
use Rattle.law_fresh_frames.proofs.FreshParts.{one_part}
use Rattle.semantics.specs.Program.{Instr, instr_at}
use Rattle.std.proofs.lemmas.Option.{same_Some}
use Rattle.law_simulation.specs.Places.{Spot}

module _ (q : Program) (h : ℕ → ℕ) where
  -- one of the destinations leads to it
  pub record LeadsTo (ip : ℕ) (ds : List Dest) (x : Spot) : Type 0 where
    pub d : Dest
    pub xs : List Spot
    pub named : Contains ds d
    pub stands : Replaces q h (ip + d.ahead) d.port xs
    pub among : Contains xs x

  pub lead_pick : (ip : ℕ) (ds : List Dest) (zs : List Spot) → Lead q h ip ds zs → (x : Spot) → Contains zs x → LeadsTo ip ds x
  lead_pick ip [] zs L x inside = absurd (contains_none x (subst (λ (l : List Spot). Contains l x) L inside))
  lead_pick ip (d ∷ ds) zs L x inside = go (Contains-append_cases L.0 L.1 x (subst (λ (l : List Spot). Contains l x) L.4 inside)) (lead_pick ip ds L.1 L.3 x)
    where
      go : Contains L.0 x ⊎ Contains L.1 x → (Contains L.1 x → LeadsTo ip ds x) → LeadsTo ip (d ∷ ds) x
      go (inl c) more = record { d = d; xs = L.0; named = contains_head d ds; stands = L.2; among = c }
      go (inr c) more = let r = more c in record { d = r.d; xs = r.xs; named = contains_tail d ds r.d r.named; stands = r.stands; among = r.among }

  pub leads_pick : (ip a : ℕ) (ds es : List Dest) → Leads q h ip ds a es → (e : Dest) → Contains es e → LeadsTo ip ds (a + e.ahead, e.port)
  leads_pick ip a ds es L e inside =
      lead_pick ip ds L.0 L.1 (a + e.ahead, e.port)
      (Contains-permutation (targets a es) L.0 (a + e.ahead, e.port) L.2 (contains_map (λ (d : Dest). (a + d.ahead, d.port)) es e inside))

module _ (Q : Program) (h : ℕ → ℕ) (apart : (a b : ℕ) → h a ≡ h b → a ≡ b) where
  -- a port stands for one list
  pub stands_same : (ip jp : ℕ) (r t : Port) (xs ys : List Spot) → ip ≡ jp → r ≡ t → Replaces Q h ip r xs → Replaces Q h jp t ys → xs ≡ ys
  stands_same ip jp r t xs ys e g (here n1 r1 z1 a at one) (here n2 r2 z2 b to two) =
      let same = apart a b (sym at ∙ e ∙ to) in one ∙ (λ k. (same k, g k) ∷ []) ∙ sym two
  stands_same ip jp r t xs ys e g (here n1 r1 z1 a at one) (fork n2 r2 z2 us2 vs2 K left su sv two) = absurd (K.fresh a (sym e ∙ at))
  stands_same ip jp r t xs ys e g (fork n1 r1 z1 us vs K left su sv one) (here n2 r2 z2 b to two) = absurd (K.fresh b (e ∙ to))
  stands_same ip jp r t xs ys e g (fork n1 r1 z1 us vs K left su sv one) (fork n2 r2 z2 us2 vs2 L left2 su2 sv2 two) =
      let same : K.i ≡ L.i = same_Some K.i L.i (sym K.there ∙ ap (instr_at Q) e ∙ L.there) in
      let sd : K.d ≡ L.d = one_part K.d L.d (sym K.first ∙ ap (λ (i : Instr). i.firsts) same ∙ L.first) in
      let se : K.e ≡ L.e = one_part K.e L.e (sym K.second ∙ ap (λ (i : Instr). i.seconds) same ∙ L.second) in
      let a = stands_same (ip + K.d.ahead) (jp + L.d.ahead) K.d.port L.d.port us us2 (λ x. e x + (sd x).ahead) (ap (λ (d : Dest). d.port) sd) su su2 in
      let b = stands_same (ip + K.e.ahead) (jp + L.e.ahead) K.e.port L.e.port vs vs2 (λ x. e x + (se x).ahead) (ap (λ (d : Dest). d.port) se) sv sv2 in
      one ∙ (λ x. a x ++ b x) ∙ sym two
