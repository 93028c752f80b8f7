-- A plan that is a tidy one with copies inserted is tidy.
use Rattle.std.proofs.Common.{◌≡◌, refl, sym, ap, ◌∙◌, subst, ℕ, ◌+◌, ◌-◌, ◌<◌, ◌≤◌, ◌⊎◌, inl, inr, Bool, true, false, List, [], ◌∷◌, ◌++◌, length, Option}
use Rattle.std.proofs.Common.{Some, None, Contains, arith}
use Rattle.std.specs.Prelude.{slice_get, nat_lt}
use Rattle.std.proofs.lemmas.List.Elements.{Contains-append_left, Contains-append_right}
use Rattle.std.proofs.lemmas.List.Sorted.{Contains-permutation, IsPermutation-sym}
use Rattle.std.proofs.lemmas.Option.{same_Some}
use Rattle.lemmas.proofs.Contains.{contains_cases, contains_head, contains_mapped, contains_none}
use Rattle.lemmas.proofs.SliceGet.{get_some}
use Rattle.tags.specs.declared.token.Port.{Port}
use Rattle.tags.specs.declared.token.Port.TheVariants.{Left}
use Rattle.semantics.specs.declared.program.Dest.{Dest}
use Rattle.semantics.specs.declared.program.Op.{Op}
use Rattle.semantics.specs.declared.program.Op.TheVariants.{Copy, Link, Give, Take}
use Rattle.semantics.specs.Program.{Instr, CodeBlock, Program, first_of, instr_at}
use Rattle.semantics.specs.Plan.{Plan, landing, landing_in}
use Rattle.semantics.specs.Orderly.{often}
use Rattle.code.specs.Sound.{NamesRightly, IsSound}
use Rattle.law_reuse.proofs.SlotsPlaced.{IsPlaced, stands_at, Found, found}
use Rattle.law_fresh_frames.specs.Alike.{plain_dests, HasLanding, IsTidy}
use Rattle.law_passes.specs.Spreads.{Replaces, here, fork, Lead, targets, Leads, IsMoved, Spreads, SpreadPlansStayTidy}
use Rattle.law_passes.proofs.SpreadPlaces.{often_kept, landing_inside}
use Rattle.law_simulation.specs.Places.{Spot, is_answered}

module _ (p q : Plan) (S : Spreads p q) where
  abbrev P : Program
  P = p.program

  abbrev Q : Program
  Q = q.program

  abbrev h : ℕ → ℕ
  h = S.h

  -- no `give` and no `take` is there
  abbrev Lone : ℕ → Type 0
  Lone ip = often (instr_at Q ip) ≡ false

  copy_lone : (i : Instr) → i.op ≡ Copy → often (Some i) ≡ false
  copy_lone i e = ap (λ (op : Op). elim op as (λ x. Bool) [ Give k ↦ true | Take k ↦ true | _ ↦ false ]) e

  -- a port that stands for such ports is such a port
  stands_lone : (ip : ℕ) (r : Port) (xs : List Spot) → Replaces Q h ip r xs → ((x : Spot) → Contains xs x → Lone (h x.0)) → Lone ip
  stands_lone ip r xs (here n t ys a at one) lone =
      ap (λ (n : ℕ). often (instr_at Q n)) at ∙ lone (a, r) (subst (λ (l : List Spot). Contains l (a, r)) (sym one) (contains_head (a, r) []))
  stands_lone ip r xs (fork n t ys us vs K left su sv one) lone = ap often K.there ∙ copy_lone K.i K.copies

  -- a destination stands for some of the ports for which all destinations stand
  lead_some : (ip : ℕ) (ds : List Dest) (zs : List Spot) → Lead Q h ip ds zs → (d : Dest) → Contains ds d
      → (xs : List Spot) × Replaces Q h (ip + d.ahead) d.port xs × ((x : Spot) → Contains xs x → Contains zs x)
  lead_some ip [] zs L d inside = absurd (contains_none d inside)
  lead_some ip (e ∷ ds) zs L d inside = go (contains_cases e ds d inside) (lead_some ip ds L.1 L.3 d)
    where
      go : (e ≡ d) ⊎ Contains ds d → (Contains ds d → (xs : List Spot) × Replaces Q h (ip + d.ahead) d.port xs × ((x : Spot) → Contains xs x → Contains L.1 x))
          → (xs : List Spot) × Replaces Q h (ip + d.ahead) d.port xs × ((x : Spot) → Contains xs x → Contains zs x)
      go (inl s) more = (
        L.0,
        subst (λ (d : Dest). Replaces Q h (ip + d.ahead) d.port L.0) s L.2,
        λ x c. subst (λ (l : List Spot). Contains l x) (sym L.4) (Contains-append_left L.0 L.1 x c),
      )
      go (inr c) more = let m = more c in (m.0, m.1, λ x k. subst (λ (l : List Spot). Contains l x) (sym L.4) (Contains-append_right L.0 L.1 x (m.2 x k)))

  module _ (s : IsSound p) (tidy : IsTidy p) where
    -- to what an old destination leads
    old_lone : (a : ℕ) (i : Instr) → instr_at P a ≡ Some i → (x : Spot) → Contains (targets a (plain_dests i i.op)) x → Lone (h x.0)
    old_lone a i at x inside =
        let F : Found P a i = found P a i at in
        let d = contains_mapped (λ (d : Dest). (a + d.ahead, d.port)) (plain_dests i i.op) x inside in
        let place = F.place in
        let e : first_of P F.b + F.n + d.0.ahead ≡ x.0 =
        (let k : first_of P F.b + F.n + d.0.ahead ≡ a + d.0.ahead = omega (arith, place) in k ∙ ap (λ (x : Spot). x.0) d.2) in
        go (instr_at Q (h x.0)) refl (ap (λ (n : ℕ). often (instr_at P n)) (sym e) ∙ tidy.once F.b F.n F.stands.code i d.0 F.stands.block F.stands.instr d.1)
      where
        go : (o : Option Instr) → instr_at Q (h x.0) ≡ o → often (instr_at P x.0) ≡ false → Lone (h x.0)
        go None e was = ap often e
        go (Some j) e was = let k = S.alone x.0 j e in often_kept p q S x.0 k.0 k.1 ∙ was

    -- the destinations of a moved instruction
    plain_moved : (a : ℕ) (i : Instr) (at : instr_at P a ≡ Some i) (op : Op) → i.op ≡ op
        → Leads Q h (h a) (plain_dests (S.instrs a i at).j op) a (plain_dests i op)
    plain_moved a i at (Link c) e = (S.instrs a i at).seconds.1 c e
    plain_moved a i at op e = (S.instrs a i at).all

    moved_lone : (a : ℕ) (i : Instr) (at : instr_at P a ≡ Some i) (d : Dest) → Contains (plain_dests (S.instrs a i at).j (S.instrs a i at).j.op) d
        → Lone (h a + d.ahead)
    moved_lone a i at d inside =
        let M : IsMoved P Q h a i = S.instrs a i at in
        let L : Leads Q h (h a) (plain_dests M.j i.op) a (plain_dests i i.op) = plain_moved a i at i.op refl in
        let k = lead_some (h a) (plain_dests M.j i.op) L.0 L.1 d (subst (λ (op : Op). Contains (plain_dests M.j op) d) M.op inside) in
        stands_lone (h a + d.ahead) d.port k.0 k.1 (λ x c. old_lone a i at x (Contains-permutation _ _ x (IsPermutation-sym _ _ L.2) (k.2 x c)))

    lone_from : (ip : ℕ) (i : Instr) → instr_at Q ip ≡ Some i → (d : Dest) → Contains (plain_dests i i.op) d → Lone (ip + d.ahead)
    lone_from ip i at d inside = let k = S.all ip i at in go k.0 k.1
      where
        go : (zs : List Spot) → Replaces Q h ip Left zs → Lone (ip + d.ahead)
        go zs (here n t ys a e one) =
            let o = S.alone a i (ap (instr_at Q) (sym e) ∙ at) in
            let same : i ≡ (S.instrs a o.0 o.1).j = same_Some i (S.instrs a o.0 o.1).j (sym at ∙ ap (instr_at Q) e ∙ (S.instrs a o.0 o.1).there) in
            ap (λ (n : ℕ). often (instr_at Q (n + d.ahead))) e ∙ moved_lone a o.0 o.1 d (subst (λ (i : Instr). Contains (plain_dests i i.op) d) same inside)
        go zs (fork n t ys us vs K left su sv one) =
            side (contains_cases K.d (K.e ∷ []) d
            (subst (λ (l : List Dest). Contains l d) (λ x. K.first x ++ K.second x)
            (subst (λ (op : Op). Contains (plain_dests K.i op) d) K.copies (subst (λ (i : Instr). Contains (plain_dests i i.op) d) same inside))))
          where
            same : i ≡ K.i
            same = same_Some i K.i (sym at ∙ K.there)

            last : (K.e ≡ d) ⊎ Contains [] d → Lone (ip + d.ahead)
            last (inl e) =
                subst (λ (d : Dest). Lone (ip + d.ahead)) e
                (stands_lone (ip + K.e.ahead) K.e.port vs sv
                (λ x c. K.lone x (subst (λ (l : List Spot). Contains l x) (sym one) (Contains-append_right us vs x c))))
            last (inr c) = absurd (contains_none d c)

            side : (K.d ≡ d) ⊎ Contains (K.e ∷ []) d → Lone (ip + d.ahead)
            side (inl e) =
                subst (λ (d : Dest). Lone (ip + d.ahead)) e
                (stands_lone (ip + K.d.ahead) K.d.port us su
                (λ x c. K.lone x (subst (λ (l : List Spot). Contains l x) (sym one) (Contains-append_left us vs x c))))
            side (inr c) = last (contains_cases K.e [] d c)

    long : (t : Bool) (o : Option CodeBlock) (c : CodeBlock) → o ≡ Some c → 0 < landing_in t o
    long t None c e = absurd (cc)
    long true (Some d) c e = omega arith
    long false (Some d) c e = omega arith

    copy_link : (c : ℕ) → Copy ≡ Link c → ⊥
    copy_link c e = cc

    -- the landing of a link is in its block
    landing_fits : (b n : ℕ) (i : Instr) (d : Dest) (callee : ℕ) (st : IsPlaced Q b n i) → i.op ≡ Link callee → i.firsts ≡ d ∷ []
        → n + d.ahead + landing q callee ≤ length st.code.instrs
    landing_fits b n i d callee st links lands = let k = S.all (first_of Q b + n) i (stands_at Q b n i st) in go k.0 k.1
      where
        go : (zs : List Spot) → Replaces Q h (first_of Q b + n) Left zs → n + d.ahead + landing q callee ≤ length st.code.instrs
        go zs (fork m t ys us vs K left su sv one) =
            absurd (copy_link callee (sym K.copies ∙ ap (λ (i : Instr). i.op) (same_Some K.i i (sym K.there ∙ stands_at Q b n i st)) ∙ links))
        go zs (here m t ys a at one) =
            let o = S.alone a i (ap (instr_at Q) (sym at) ∙ stands_at Q b n i st) in
            let M : IsMoved P Q h a o.0 = S.instrs a o.0 o.1 in
            let same : M.j ≡ i = same_Some M.j i (sym M.there ∙ ap (instr_at Q) (sym at) ∙ stands_at Q b n i st) in
            let op : o.0.op ≡ Link callee = sym M.op ∙ ap (λ (i : Instr). i.op) same ∙ links in
            let A = M.answered (ap is_answered op) in
            let F : Found P a o.0 = found P a o.0 o.1 in
            let names : callee < length P.blocks =
            subst (NamesRightly P) op ((s.program.blocks F.b F.stands.code F.stands.block).instrs F.n o.0 F.stands.instr).operand in
            let c = get_some P.blocks callee names in
            let some = long (nat_lt callee p.plain) (slice_get P.blocks callee) c.0 c.1 in
            let fits = tidy.landings F.b F.n F.stands.code o.0 A.0 callee F.stands.block F.stands.instr op A.2 in
            let last : ℕ = landing p callee - 1 in
            let place = F.place in
            let L : HasLanding p (first_of P F.b + (F.n + A.0.ahead)) last = record {
              b = F.b;
              n = F.n;
              c = F.stands.code;
              i = o.0;
              d = A.0;
              callee = callee;
              block = F.stands.block;
              instr = F.stands.instr;
              links = op;
              lands = A.2;
              begins = refl;
              within = omega (arith, some);
              inside = omega (arith, fits, some);
            } in
            let k = landing_inside p q S (first_of P F.b + (F.n + A.0.ahead)) last L b n i d st (ap h (sym place) ∙ sym at) lands in
            let inside = k.1 in let lengths = S.lengths callee in omega (arith, inside, lengths, some)

pub spread_plans_stay_tidy : SpreadPlansStayTidy
spread_plans_stay_tidy p q S s tidy = record {
  landings = λ b n c i d callee at_b at_n links lands. landing_fits p q S s tidy b n i d callee record { code = c; block = at_b; instr = at_n } links lands;
  once =
      λ b n c i d at_b at_n inside. lone_from p q S s tidy (first_of q.program b + n) i
      (stands_at q.program b n i record { code = c; block = at_b; instr = at_n }) d inside;
}
