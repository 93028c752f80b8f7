-- Where the tokens that a new instruction makes come from: from a destination, or they are at what stands for itself.
use Rattle.std.proofs.Common.{map, ◌≡◌, refl, sym, ap, ◌∙◌, subst, ℕ, ◌+◌, ◌⊎◌, inl, inr, Bool, true, false, List, [], ◌∷◌, ◌++◌}
use Rattle.std.proofs.Common.{Contains}
use Rattle.std.specs.Prelude.{if◌then◌else◌}
use Rattle.std.proofs.lemmas.List.Elements.{Contains-append_left, Contains-append_right}
use Rattle.lemmas.proofs.Contains.{contains_cases, contains_mapped, contains_none}
use Rattle.tags.specs.declared.value.Value.{Value}
use Rattle.tags.specs.declared.token.Port.{Port}
use Rattle.tags.specs.declared.token.Port.TheVariants.{Left}
use Rattle.tags.specs.declared.token.Cont.{Cont}
use Rattle.tags.specs.declared.token.Word.{Word}
use Rattle.tags.specs.declared.token.To.{To}
use Rattle.tags.specs.declared.token.Token.{Token}
use Rattle.tags.specs.declared.slot.SlotState.{SlotState}
use Rattle.tags.specs.declared.slot.SlotState.TheVariants.{Empty}
use Rattle.semantics.specs.declared.program.Dest.{Dest}
use Rattle.semantics.specs.declared.program.Op.{Op}
use Rattle.semantics.specs.declared.program.Op.TheVariants.{Switch, Link}
use Rattle.semantics.specs.declared.program.Op.TheVariants.{Give}
use Rattle.semantics.specs.Program.{Instr, Program, first_of}
use Rattle.semantics.specs.Rule.{token, signal, Point, at_dest, to_each, to_all, back_to, landing_at}
use Rattle.law_fresh_frames.specs.Alike.{plain_dests}
use Rattle.std.proofs.lemmas.List.Elements.{Contains-append_cases}
use Rattle.law_simulation.specs.Places.{ip_cont, ip_to, ip_token, ip_word}
use Rattle.law_simulation.specs.Simulates.{Enters, Fits, Fresh, IsMoved, Plain}
use Rattle.law_simulation.proofs.SimulationSent.{AllFits, Sent, asks, links, one_fits, quiet, sends, sends_give, sends_plain, skips, turns}

module _ (p q : Program) (g h : ℕ → ℕ) where
  -- the token is at no fresh place
  abbrev pub Stale : Token → Type 0
  Stale t = (k ip : ℕ) (r : Port) → t.to ≡ To.Instr k ip r → Fresh p q h ip → ⊥

  same_ip : {a b x y : ℕ} {r s : Port} → To.Instr a x r ≡ To.Instr b y s → x ≡ y
  same_ip e = cc

  pub plain_stale : (t : Token) (k a : ℕ) (r : Port) → t.to ≡ To.Instr k (h a) r → Plain p q h a → Stale t
  plain_stale t k a r e K k2 ip r2 e2 fresh = fresh a K (sym (same_ip (sym e ∙ e2)))

  host_off : (n k ip : ℕ) (r : Port) → To.Host n ≡ To.Instr k ip r → ⊥
  host_off n k ip r e = cc

  manager_off : (k ip : ℕ) (r : Port) → To.Manager ≡ To.Instr k ip r → ⊥
  manager_off k ip r e = cc

  release_off : (n k ip : ℕ) (r : Port) → To.Release n ≡ To.Instr k ip r → ⊥
  release_off n k ip r e = cc

  fetch_off : (n k ip : ℕ) (r : Port) → To.Fetch n ≡ To.Instr k ip r → ⊥
  fetch_off n k ip r e = cc

  store_off : (n k ip : ℕ) (v : Value) (r : Port) → To.Store n v ≡ To.Instr k ip r → ⊥
  store_off n k ip v r e = cc

  pub fits_stale : (c : Cont) (w : Word) → Fits p q h (back_to c) → Stale (token (back_to (ip_cont h c)) w)
  fits_stale (Cont.Frame f a r) w K = plain_stale (token (To.Instr f (h a) r) w) f a r refl K
  fits_stale (Cont.Host n) w K = λ k ip r e fresh. host_off n k ip r e

  no_instr : (t : Token) → ((k ip : ℕ) (r : Port) → t.to ≡ To.Instr k ip r → ⊥) → Stale t
  no_instr t off k ip r e fresh = off k ip r e

  moved_stale : (to : To) (w : Word) → Fits p q h to → Stale (token (ip_to h to) w)
  moved_stale (To.Instr f a r) w K = plain_stale (token (To.Instr f (h a) r) w) f a r refl K
  moved_stale (To.Fetch x) w K = no_instr (token (To.Fetch x) w) (λ k ip r e. fetch_off x k ip r e)
  moved_stale (To.Store x v) w K = no_instr (token (To.Store x v) w) (λ k ip r e. store_off x k ip v r e)
  moved_stale To.Manager w K = no_instr (token To.Manager w) manager_off
  moved_stale (To.Release x) w K = no_instr (token (To.Release x) w) (λ k ip r e. release_off x k ip r e)
  moved_stale (To.Host x) w K = no_instr (token (To.Host x) w) (λ k ip r e. host_off x k ip r e)

  module _ (arrays : q.arrays ≡ p.arrays) (f a : ℕ) (i : Instr) (M : IsMoved p q g h a i) where
    abbrev s2 : Point
    s2 = record { frame = f; ip = h a }

    abbrev j : Instr
    j = M.j

    -- it was sent to a destination; a `give` sends where it leaves its slot empty
    pub record Direct (v : SlotState) (t : Token) : Type 0 where
      pub d : Dest
      pub inside : Contains (plain_dests j j.op) d
      pub to : t.to ≡ To.Instr f (h a + d.ahead) d.port
      pub give : (k : ℕ) → j.op ≡ Give k → v ≡ Empty

    by_move : (v : SlotState) (ts : List Token) → AllFits p q h ts → (t : Token) → Contains (map (ip_token h) ts) t → Direct v t ⊎ Stale t
    by_move v ts F t inside = let u = contains_mapped (ip_token h) ts t inside in inr (subst Stale u.2 (moved_stale u.0.to (ip_word h u.0.word) (F u.0 u.1)))

    by_dest : (v : SlotState) (w : Word) (ds : List Dest) (op : Op) → i.op ≡ op → ((d : Dest) → Contains ds d → Contains (plain_dests j op) d)
        → ((k : ℕ) → op ≡ Give k → v ≡ Empty) → (t : Token) → Contains (to_each s2 w ds) t → Direct v t ⊎ Stale t
    by_dest v w ds op e named give t inside =
        let d = contains_mapped (at_dest s2 w) ds t inside in
        inl record {
          d = d.0;
          inside = subst (λ (op : Op). Contains (plain_dests j op) d.0) (sym (M.op ∙ e)) (named d.0 d.1);
          to = sym (ap (λ (t : Token). t.to) d.2);
          give = λ k x. give k (sym (M.op ∙ e) ∙ x);
        }

    -- a token that is made goes to a destination, or to what stands for itself
    pub made_by : (v : SlotState) (old new : List Token) → Sent p q g h arrays f a i M v old new → (t : Token) → Contains new t → Direct v t ⊎ Stale t
    made_by v old new (quiet eo en) t inside = absurd (contains_none t (subst (λ (l : List Token). Contains l t) en inside))
    made_by v old new (sends w pre F S eo en) t inside =
        go (Contains-append_cases (map (ip_token h) pre) (to_all s2 (ip_word h w) j) t (subst (λ (l : List Token). Contains l t) en inside))
      where
        go : Contains (map (ip_token h) pre) t ⊎ Contains (to_all s2 (ip_word h w) j) t → Direct v t ⊎ Stale t
        go (inl c) = by_move v pre F t c
        go (inr c) =
            by_dest v (ip_word h w) (j.firsts ++ j.seconds) i.op refl (sends_plain p q g h arrays f a i M i.op v S)
            (sends_give p q g h arrays f a i M i.op v S) t c
    made_by v old new (turns b w e eo en) t inside = side b (subst (λ (l : List Token). Contains l t) en inside)
      where
        side : (b : Bool) → Contains (to_each s2 (ip_word h w) (if b then j.firsts else j.seconds)) t → Direct v t ⊎ Stale t
        side true c = by_dest v (ip_word h w) j.firsts Switch e (λ d k. Contains-append_left j.firsts j.seconds d k) (λ k x. absurd (cc)) t c
        side false c = by_dest v (ip_word h w) j.seconds Switch e (λ d k. Contains-append_right j.firsts j.seconds d k) (λ k x. absurd (cc)) t c
    made_by v old new (asks u F A eo en) t inside =
        by_move v (u ∷ []) (one_fits p q h u F) t (subst (λ (l : List Token). Contains l t) en inside)
    made_by v old new (links b k e eo en) t inside =
        go (contains_cases _ (to_each s2 signal j.seconds) t (subst (λ (l : List Token). Contains l t) en inside))
      where
        go : (token (To.Instr k (h (first_of p b)) Left) (ip_word h (Word.Back (landing_at record { frame = f; ip = a } i.firsts))) ≡ t)
            ⊎ Contains (to_each s2 signal j.seconds) t → Direct v t ⊎ Stale t
        go (inl x) = inr (subst Stale x (moved_stale (To.Instr k (first_of p b) Left) (Word.Back (landing_at record { frame = f; ip = a } i.firsts))
            (subst (Enters p q h) e M.enters).1))
        go (inr c) = by_dest v signal j.seconds (Link b) e (λ d k. k) (λ n x. absurd (cc)) t c
    made_by v old new (skips F S en) t inside = by_move v old F t (subst (λ (l : List Token). Contains l t) en inside)
