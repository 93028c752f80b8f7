-- What is on its way after an event, and the arcs that new instructions use.
use Rattle.std.proofs.Common.{◌≡◌, sym, ap, ◌∙◌, subst, ℕ, ◌+◌, ◌⊎◌, inl, inr, true, true≢false, List, ◌∷◌, ◌++◌, Some, IsPermutation, Contains}
use Rattle.std.proofs.lemmas.List.Elements.{Contains-append_left, Contains-append_right}
use Rattle.std.proofs.lemmas.List.Sorted.{Contains-permutation}
use Rattle.std.proofs.lemmas.Option.{same_Some}
use Rattle.lemmas.proofs.Contains.{contains_cases, contains_map, contains_mapped}
use Rattle.tags.specs.declared.token.Port.{Port}
use Rattle.tags.specs.declared.token.Port.TheVariants.{Left}
use Rattle.tags.specs.declared.token.Word.{Word}
use Rattle.tags.specs.declared.token.To.{To}
use Rattle.tags.specs.declared.token.Token.{Token}
use Rattle.semantics.specs.declared.program.Dest.{Dest}
use Rattle.semantics.specs.declared.program.Op.{Op}
use Rattle.semantics.specs.declared.program.Op.TheVariants.{Link, Give}
use Rattle.semantics.specs.Program.{Instr, Program, instr_at}
use Rattle.semantics.specs.Rule.{at_dest, to_all}
use Rattle.semantics.specs.Machine.{Machine}
use Rattle.semantics.specs.Plan.{Plan}
use Rattle.semantics.specs.Arcs.{UsesArc}
use Rattle.law_fresh_frames.specs.Alike.{plain_dests}
use Rattle.law_fresh_frames.proofs.FreshArcs.{uses_new}
use Rattle.law_simulation.specs.Simulates.{Fresh, Node, Relates, counts_none, hands_on, next, top}

module _ (p q : Program) (h : ℕ → ℕ) where
  -- what is at none that passes on is none of those
  pub node_rest : (f : ℕ) (t : Token) (pool rest : List Token) → IsPermutation pool (t ∷ rest)
      → ((k ip : ℕ) (j : Instr) → t.to ≡ To.Instr k ip Left → instr_at q ip ≡ Some j → hands_on j.op ≡ true → Fresh p q h ip → ⊥) → (ip : ℕ)
      → Node p q h f pool ip → Node p q h f rest ip
  node_rest f t pool rest takes alive ip (next x up k j d n there opk c place port at op fresh) =
      next ip up k j d (node_rest f t pool rest takes alive up n) there opk c place port at op fresh
  node_rest f t pool rest takes alive ip (top x u j c to at op fresh) = go (contains_cases t rest u (Contains-permutation _ _ u takes c))
    where
      go : (t ≡ u) ⊎ Contains rest u → Node p q h f rest ip
      go (inl e) = absurd (alive f ip j (ap (λ (t : Token). t.to) e ∙ to) at op fresh)
      go (inr c) = top ip u j c to at op fresh

  -- one that passes on does so to those to which it leads
  pub node_step : (f k n : ℕ) (v : Word) (j : Instr) (t : Token) (pool rest made : List Token) → IsPermutation pool (t ∷ rest) → t.to ≡ To.Instr k n Left
      → instr_at q n ≡ Some j → hands_on j.op ≡ true → made ≡ to_all record { frame = k; ip = n } v j
      → (ip : ℕ) → Node p q h f pool ip → ((f ≡ k) × (ip ≡ n)) ⊎ Node p q h f (made ++ rest) ip
  node_step f k n v j t pool rest made takes to at op is ip (top x u j2 c to2 at2 op2 fresh) =
      go (contains_cases t rest u (Contains-permutation _ _ u takes c))
    where
      same : {a b x y : ℕ} {r s : Port} → To.Instr a x r ≡ To.Instr b y s → (a ≡ b) × (x ≡ y)
      same e = (cc, cc)

      go : (t ≡ u) ⊎ Contains rest u → ((f ≡ k) × (ip ≡ n)) ⊎ Node p q h f (made ++ rest) ip
      go (inl e) = inl (same (sym to2 ∙ sym (ap (λ (t : Token). t.to) e) ∙ to))
      go (inr c) = inr (top ip u j2 (Contains-append_right made rest u c) to2 at2 op2 fresh)
  node_step f k n v j t pool rest made takes to at op is ip (next x up k2 j2 d N there opk c place port at2 op2 fresh) =
      go (node_step f k n v j t pool rest made takes to at op is up N)
    where
      go : ((f ≡ k) × (up ≡ n)) ⊎ Node p q h f (made ++ rest) up → ((f ≡ k) × (ip ≡ n)) ⊎ Node p q h f (made ++ rest) ip
      go (inr M) = inr (next ip up k2 j2 d M there opk c place port at2 op2 fresh)
      go (inl e) =
          let same : k2 ≡ j = same_Some k2 j (sym there ∙ ap (instr_at q) e.1 ∙ at) in
          let u : Token = at_dest record { frame = k; ip = n } v d in
          let inside : Contains made u = subst (λ (l : List Token). Contains l u) (sym is)
          (contains_map (at_dest record { frame = k; ip = n } v) (j.firsts ++ j.seconds) d
          (subst (λ (j : Instr). Contains (j.firsts ++ j.seconds) d) same c)) in
          inr (top ip u j2 (Contains-append_left made rest u inside)
          (λ v. To.Instr (sym e.0 v) ((ap (λ (m : ℕ). m + d.ahead) (sym e.1) ∙ sym place) v) (port v)) at2 op2 fresh)

module _ (p q : Plan) (S : Relates p q) where
  -- what a new instruction sends to its destinations uses its arcs, if it is no link and no `give`
  pub sent_arc : (f n : ℕ) (side : Port) (w : Word) (j : Instr) (made : List Token) (m1 : Machine) (taken : Token) → instr_at q.program n ≡ Some j
      → counts_none j.op ≡ true → taken.to ≡ To.Instr f n side → made ≡ to_all record { frame = f; ip = n } w j
      → (t : Token) → Contains made t → (k ip : ℕ) (r : Port) → t.to ≡ To.Instr k ip r → UsesArc q k ip r taken made m1
  sent_arc f n side w j made m1 taken at none is_taken is t inside k ip r to =
      let d = contains_mapped (at_dest record { frame = f; ip = n } w) (j.firsts ++ j.seconds) t (subst (λ (l : List Token). Contains l t) is inside) in
      let e = same_to (ap (λ (t : Token). t.to) d.2 ∙ to) in
      let U : UsesArc q f (n + (d.0).ahead) (d.0).port taken made m1 =
      uses_new q f n side j at d.0 (plain j.op none d.0 d.1) taken made m1 t is_taken inside (sym (ap (λ (t : Token). t.to) d.2))
      (λ v g. absurd (no_give j.op v none g)) in
      subst (λ (k : ℕ). UsesArc q k ip r taken made m1) e.0
      (subst (λ (ip : ℕ). UsesArc q f ip r taken made m1) e.1 (subst (λ (r : Port). UsesArc q f (n + (d.0).ahead) r taken made m1) e.2 U))
    where
      same_to : {a b x y : ℕ} {r s : Port} → To.Instr a x r ≡ To.Instr b y s → (a ≡ b) × (x ≡ y) × (r ≡ s)
      same_to e = (cc, cc, cc)

      no_give : (op : Op) (n : ℕ) → counts_none op ≡ true → op ≡ Give n → ⊥
      no_give op n e d = true≢false (sym e ∙ ap counts_none d)

      plain : (op : Op) → counts_none op ≡ true → (d : Dest) → Contains (j.firsts ++ j.seconds) d → Contains (plain_dests j op) d
      plain (Link b) e d k = absurd (true≢false (sym e))
      plain op e d k = k
