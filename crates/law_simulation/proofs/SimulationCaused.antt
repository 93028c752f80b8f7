-- In the new run a token that is at no entry arrives after an arc into its port was used.
use Rattle.std.proofs.Common.{◌≡◌, refl, sym, ap, ◌∙◌, subst, ℕ, ◌+◌, ◌≤◌, ◌⊎◌, inl, inr, true, false, true≢false, ℤ, List, [], ◌∷◌, Some, Contains}
use Rattle.std.proofs.Common.{arith}
use Rattle.std.proofs.lemmas.Bool.{cases_Bool}
use Rattle.std.proofs.lemmas.List.Sorted.{Contains-permutation, IsPermutation-sym}
use Rattle.lemmas.proofs.Contains.{contains_head, contains_mapped}
use Rattle.tags.specs.declared.token.Port.{Port}
use Rattle.tags.specs.declared.token.Port.TheVariants.{Left}
use Rattle.tags.specs.declared.token.Word.{Word}
use Rattle.tags.specs.declared.token.To.{To}
use Rattle.tags.specs.declared.token.Token.{Token}
use Rattle.semantics.specs.Program.{Instr, Program}
use Rattle.semantics.specs.Rule.{token}
use Rattle.semantics.specs.Machine.{Machine, Size, Events, at_start}
use Rattle.semantics.specs.Handed.{EachOnce}
use Rattle.semantics.specs.Plan.{Plan}
use Rattle.semantics.specs.Wired.{IsWired}
use Rattle.semantics.specs.Arcs.{UsesArc}
use Rattle.semantics.specs.Orderly.{Orderly, IsOrderlyRun, IsStart, met, is_at, is_entry, often}
use Rattle.law_reuse.proofs.SlotsHistory.{taken}
use Rattle.law_fresh_frames.specs.Alike.{LandsRightly}
use Rattle.law_fresh_frames.proofs.BoundedWeights.{tot_append, tot_perm}
use Rattle.law_fresh_frames.proofs.BoundedRows.{unit, count_tot}
use Rattle.law_simulation.specs.Places.{Spot, ip_to}
use Rattle.law_simulation.specs.Simulates.{
  Fits,
  Fresh,
  Leaf,
  Node,
  Pend,
  Plain,
  Relates,
  Stands,
  at_moved,
  behind,
  hands_on,
  left,
  moved,
  next,
  right,
  straight,
}
use Rattle.law_simulation.specs.Simulates.{through, top}
use Rattle.law_simulation.proofs.SimulationAgree.{Lone}
use Rattle.law_simulation.proofs.SimulationArcs.{same_to}
use Rattle.law_simulation.proofs.SimulationCounts.{meant_has, ones_meant}
use Rattle.law_simulation.proofs.SimulationParts.{Clump, hands_none, in_meant, meant_of, none_once}
use Rattle.law_simulation.proofs.SimulationPorts.{ones, two_out}
use Rattle.law_simulation.proofs.SimulationState.{O, Sim}
use Rattle.law_simulation.proofs.SimulationTold.{KeepsArcs}
use Rattle.law_simulation.proofs.SimulationTraces.{HasStep, Step}

-- the entries are entries
abbrev pub KeepsEntries : (p q : Plan) → Relates p q → Type 0
KeepsEntries p q S = (a : ℕ) → is_entry p.program.blocks a ≡ true → is_entry q.program.blocks (S.h a) ≡ true

module _ (p q : Plan) (S : Relates p q) (wired : IsWired p) (orderly : Orderly p) (lands : LandsRightly p) (inputs : List ℤ) (z : Size)
    (start : IsStart p z inputs)
    (events : Events) (m : Machine) (gone : List ℕ) (ss : List Step) (V : Sim p q S wired orderly lands inputs z start events m gone ss)
    (once : EachOnce (0 ∷ gone)) where
  abbrev P : Program
  P = p.program

  abbrev Q : Program
  Q = q.program

  abbrev g : ℕ → ℕ
  g = S.g

  abbrev h : ℕ → ℕ
  h = S.h

  abbrev C : Type 0
  C = Clump P Q g h

  abbrev L : ℕ → Port → Spot → Type 0
  L = Leaf P Q g h

  order : IsOrderlyRun p z (at_start P inputs) V.part.done V.part.last V.part.run
  order = O p q S wired orderly lands inputs z start events m gone ss V once

  -- ---- NO TOKEN IS ON ITS WAY TO A PORT AT WHICH THERE IS ONE
  node_fresh : (f ip : ℕ) (pool : List Token) → Node P Q h f pool ip → Fresh P Q h ip
  node_fresh f ip pool (top n t j c to at op fresh) = fresh
  node_fresh f ip pool (next n up k j d N there opk c place port at op fresh) = fresh

  -- the token of one that passes on to it
  record Source (f : ℕ) (x : Spot) : Type 0 where
    pub t : Token
    pub ip : ℕ
    pub there : Contains m.pool t
    pub to : t.to ≡ To.Instr f ip Left
    pub fresh : Fresh P Q h ip
    pub leaf : L ip Left x

  source : (f ip : ℕ) (x : Spot) → Node P Q h f m.pool ip → L ip Left x → Source f x
  source f ip x (top n t j c to at op fresh) leaf = record { t = t; ip = ip; there = c; to = to; fresh = fresh; leaf = leaf }
  source f ip x (next n up k j d N there opk c place port at op fresh) leaf =
      source f up x N (behind up Left x k d there opk (node_fresh f up m.pool N) refl c
      (subst (λ (r : Port). L (up + d.ahead) r x) (sym port) (subst (λ (n : ℕ). L n Left x) place leaf)))

  hands_once : (j : Instr) → hands_on j.op ≡ true → often (Some j) ≡ false
  hands_once j e = none_once j.op (hands_none j.op e)

  never_pending : Lone p q S wired orderly lands inputs z start events m gone ss V once → (f a : ℕ) (r : Port) (w : Word) → Plain P Q h a
      → Contains m.pool (token (To.Instr f (h a) r) w) → Pend P Q h f a r m.pool → ⊥
  never_pending lone f a r w K inside N =
      let x : Spot = (a, r) in
      let here : L (h a) r x = at_moved (h a) r x a refl K refl in
      let next_one : L (N.ip + (N.d).ahead) (N.d).port x = at_moved (N.ip + (N.d).ahead) (N.d).port x a N.place K (λ v. (a, sym N.port v)) in
      let before : L N.ip Left x = behind N.ip Left x N.j N.d N.at N.op (node_fresh f N.ip m.pool N.node) refl N.named next_one in
      let U : Source f x = source f N.ip x N.node before in
      let c = contains_mapped (λ (c : C). c.seen) V.clumps (token (To.Instr f (h a) r) w) (Contains-permutation _ _ _ V.seen inside) in
      let d = contains_mapped (λ (c : C). c.seen) V.clumps U.t (Contains-permutation _ _ _ V.seen U.there) in
      let one : 1 ≤ ones f a r (c.0).meant =
      meant_has P Q g h S.apart S.pairs_apart (c.0).seen (c.0).meant (c.0).stands f (h a) r x (ap (λ (t : Token). t.to) c.2) here in
      let two : 1 ≤ ones f a r (d.0).meant =
      meant_has P Q g h S.apart S.pairs_apart (d.0).seen (d.0).meant (d.0).stands f U.ip Left x (ap (λ (t : Token). t.to) d.2 ∙ U.to) U.leaf in
      let differ : c.0 ≡ d.0 → ⊥ = (λ e. U.fresh a K (sym (same_to (ap (λ (t : Token). t.to) (sym c.2 ∙ ap (λ (c : C). c.seen) e ∙ d.2) ∙ U.to)).1)) in
      let both = two_out V.clumps c.0 d.0 c.1 d.1 differ in
      let many = tot_perm (λ (c : C). ones f a r c.meant) V.clumps (c.0 ∷ d.0 ∷ both.0) both.1 in
      let all = ones_meant P Q g h S.apart S.pairs_apart f x V.clumps in
      let pool = tot_perm (λ (t : Token). unit (is_at f a r t.to)) V.part.last.pool (meant_of P Q g h V.clumps) V.part.pool in
      let sum = tot_append (λ (t : Token). unit (is_at f a r t.to)) (taken V.part.done) V.part.last.pool in
      let few = order.once f a r (lone N.ip Left x before (ap often N.at ∙ hands_once N.j N.op)) in
      let k = count_tot (λ (t : Token). is_at f a r t.to) (met V.part.done V.part.last) in
      omega (arith, one, two, many, all, pool, sum, few, k)

  -- ---- EACH TOKEN
  module _ (F : KeepsArcs p q S) (lone : Lone p q S wired orderly lands inputs z start events m gone ss V once) (entries : KeepsEntries p q S) where
    abbrev used : ℕ → ℕ → Port → Type 0
    used f ip r = HasStep (UsesArc q f ip r) ss

    at_plain : (f a : ℕ) (r : Port) (w v : Word) → Plain P Q h a → is_entry Q.blocks (h a) ≡ false → Contains V.part.last.pool (token (To.Instr f a r) w)
        → Contains m.pool (token (To.Instr f (h a) r) v) → used f (h a) r
    at_plain f a r w v K none was inside = go (cases_Bool (is_entry P.blocks a))
      where
        done : used f (h a) r ⊎ Pend P Q h f a r m.pool → used f (h a) r
        done (inl u) = u
        done (inr n) = absurd (never_pending lone f a r v K inside n)

        go : (is_entry P.blocks a ≡ true) ⊎ (is_entry P.blocks a ≡ false) → used f (h a) r
        go (inl e) = absurd (true≢false (sym (entries a e) ∙ none))
        go (inr e) = done (V.part.arcs f a r (order.caused f a r w e was) F (a, r) (straight K refl))

    pub caused_kept : (f ip : ℕ) (r : Port) (w : Word) → is_entry Q.blocks ip ≡ false → Contains m.pool (token (To.Instr f ip r) w) → used f ip r
    caused_kept f ip r w none inside =
        let c = contains_mapped (λ (c : C). c.seen) V.clumps (token (To.Instr f ip r) w) (Contains-permutation _ _ _ V.seen inside) in
        by_clump (c.0).seen (c.0).meant (ap (λ (t : Token). t.to) c.2) (c.0).stands
        (λ u k. Contains-permutation _ _ u (IsPermutation-sym _ _ V.part.pool) (in_meant P Q g h V.clumps c.0 c.1 u k))
      where
        by_to : (to : To) (v : Word) → Fits P Q h to → ip_to h to ≡ To.Instr f ip r → Contains V.part.last.pool (token to v) → used f ip r
        by_to (To.Instr k a s) v K e was =
            let d = same_to e in
            subst (λ (n : ℕ). used f n r) d.1
            (at_plain f a r v w K (ap (is_entry Q.blocks) d.1 ∙ none)
            (subst (λ (to : To). Contains V.part.last.pool (token to v)) (λ n. To.Instr (d.0 n) a (d.2 n)) was)
            (subst (λ (n : ℕ). Contains m.pool (token (To.Instr f n r) w)) (sym d.1) inside))
        by_to (To.Fetch x) v K e was = absurd (cc)
        by_to (To.Store x u) v K e was = absurd (cc)
        by_to To.Manager v K e was = absurd (cc)
        by_to (To.Release k) v K e was = absurd (cc)
        by_to (To.Host j) v K e was = absurd (cc)

        by_fresh : (k n : ℕ) → To.Instr k n Left ≡ To.Instr f ip r → Fresh P Q h n → used f ip r
        by_fresh k n e fresh = V.came (token (To.Instr f ip r) w) inside f ip r refl (subst (Fresh P Q h) (same_to e).1 fresh)

        by_clump : (seen : Token) (meant : List Token) → seen.to ≡ To.Instr f ip r → Stands P Q g h seen meant
            → ((u : Token) → Contains meant u → Contains V.part.last.pool u) → used f ip r
        by_clump seen meant e (moved s ts u is one fits) were =
            by_to u.to u.word fits (sym (ap (λ (t : Token). t.to) is) ∙ e) (were u (subst (λ (l : List Token). Contains l u) (sym one) (contains_head u [])))
        by_clump seen meant e (through s ts k n v y j is at op all d some fresh) were = by_fresh k n (sym (ap (λ (t : Token). t.to) is) ∙ e) fresh
        by_clump seen meant e (right s ts k a v o y i j is at op to new one fresh) were = by_fresh k (g a) (sym (ap (λ (t : Token). t.to) is) ∙ e) fresh
        by_clump seen meant e (left s ts k a v o y i j is at op to new one fresh) were = by_fresh k (g a) (sym (ap (λ (t : Token). t.to) is) ∙ e) fresh
