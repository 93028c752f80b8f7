-- The chains that join the ends of a region, and the ends of conditionals, are laid out as they are written down.
use Rattle.std.proofs.Common.{◌≡◌, ℕ, ◌+◌, Bool, true, false, List, [], ◌∷◌, ◌++◌, length, refl, sym, ap, ◌∙◌, subst, arith, append-nil, append_assoc}
use Rattle.std.proofs.Common.{if◌then◌else◌, Some, None, Option, ◌⊎◌, inl, inr, length-append}
use Rattle.std.specs.Prelude.{slice_get}
use Rattle.tags.specs.declared.value.Origin.TheVariants.{Untold}
use Rattle.tags.specs.declared.token.Port.{Port}
use Rattle.tags.specs.declared.token.Port.TheVariants.{Left, Right}
use Rattle.semantics.specs.declared.graph.Region.{Region}
use Rattle.semantics.specs.declared.graph.Region.TheVariants.{Arm}
use Rattle.semantics.specs.declared.program.Mark.TheVariants.{Unmarked}
use Rattle.semantics.specs.declared.program.Op.{Op}
use Rattle.semantics.specs.Graph.{Block}
use Rattle.law_wiring.specs.WrittenTypes.{Outlet, End}
use Rattle.schemas.specs.Builds.{Build, first_of, quieted, meeting}
use Rattle.schemas.specs.Ends as Ends
use Rattle.schemas.specs.Ends.{end_at, is_empty, is_take, is_end, pushed_if, noted, ends_from, ends_of, same_region, join_with, join_end, join_ends}
use Rattle.schemas.specs.Ends.{signalled, Signalled, Closing, closing, copied, ended, closed, closed_kind, closed_nodes, released}
use Rattle.law_wiring.proofs.ArcsLists.{get_new}
use Rattle.law_net.specs.ContextsParts.{Part, Join, CondEnd}
use Rattle.law_net.specs.ContextsBlocks.{Side, side, leaves_in, lies_in}
use Rattle.law_net.specs.ContextsExpanded.{row}
use Rattle.law_wiring.specs.Written.{Wire, wire, in_region, chain_wires, chain_end, joined_parts, joined_wires, signal_wires, cond_parts, cond_sides, Ended}
use Rattle.law_wiring.specs.Written.{arm_ends, close}
use Rattle.law_wiring.proofs.Laid.{Env, IsLaid, OutAt, out_more, laid_added, laid_linked, laid_meeting}
use Rattle.law_wiring.proofs.PartsStanding.{Stand, stand_left, stand_right}
use Rattle.law_wiring.proofs.LaidEnds.{AreEnds, ends_more, ends_push}

module _ (e : Env) where
  abbrev b : Block ℕ
  b = e.site.block

  abbrev leaves_side : Side → Region
  leaves_side t = leaves_in b t.part t.second

  -- JOINS
  pub record SignalAt (rs : List Part) (o : Option Outlet) (t : Side) : Type 0 where
    pub outlet : Outlet
    pub is : o ≡ Some outlet
    pub out : OutAt rs outlet t

  signal_more : (rs qs : List Part) (o : Option Outlet) (t : Side) → SignalAt rs o t → SignalAt (rs ++ qs) o t
  signal_more rs qs o t h = record { outlet = h.outlet; is = h.is; out = out_more rs qs h.outlet t h.out }

  pub record Chained (s : Signalled) (rs : List Part) (ws : List Wire) (t : Side) : Type 0 where
    pub laid : IsLaid e s.build rs ws
    pub signal : SignalAt rs s.signal t

  chained_same : (s : Signalled) (rs qs : List Part) (ws us : List Wire) (t : Side) → rs ≡ qs → ws ≡ us → Chained s rs ws t → Chained s qs us t
  chained_same s rs qs ws us t p q h = subst (λ xs. Chained s xs us t) p (subst (λ xs. Chained s rs xs t) q h)

  pub joins_laid : (c : Build) (rs : List Part) (ws : List Wire) (es : List End) (ts : List Side) (r : Region) (n : ℕ) (o : Outlet) (t : Side)
      → IsLaid e c rs ws → AreEnds e rs es ts → OutAt rs o t
      → Stand e.place (length rs) (row (Join r) n (length (in_region b r ts)))
      → Chained (join_ends c (Some o) r es) (rs ++ row (Join r) n (length (in_region b r ts))) (ws ++ chain_wires r n t (in_region b r ts))
      (chain_end r n t (in_region b r ts))
  unfolding join_ends
  joins_laid c rs ws [] [] r n o t l h out at =
      chained_same (join_ends c (Some o) r []) rs (rs ++ []) ws (ws ++ []) t (sym (append-nil rs)) (sym (append-nil ws))
      (record { laid = l; signal = record { outlet = o; is = refl; out = out } })
  joins_laid c rs ws [] (u ∷ ts) r n o t l h out at = absurd h
  joins_laid c rs ws (x ∷ es) [] r n o t l h out at = absurd h
  joins_laid c rs ws (x ∷ es) (u ∷ ts) r n o t l h out at =
      go (λ d qs us m y z. joins_laid d qs us es ts r m y z) (same_region x.region r) (same_region (leaves_side u) r) (ap (λ q. same_region q r) h.0) at
    where
      More : Type 0
      More = (c : Build) (rs : List Part) (ws : List Wire) (n : ℕ) (o : Outlet) (t : Side) → IsLaid e c rs ws → AreEnds e rs es ts → OutAt rs o t
          → Stand e.place (length rs) (row (Join r) n (length (in_region b r ts)))
          → Chained (join_ends c (Some o) r es) (rs ++ row (Join r) n (length (in_region b r ts))) (ws ++ chain_wires r n t (in_region b r ts))
          (chain_end r n t (in_region b r ts))

      self : Signalled
      self = record { build = c; signal = Some o }

      Goal : Bool → Bool → Type 0
      Goal y z = Stand e.place (length rs) (row (Join r) n (length (if z then u ∷ in_region b r ts else in_region b r ts)))
          → Chained (join_ends (if y then join_with c (Some o) x.outlet r else self).build (if y then join_with c (Some o) x.outlet r else self).signal r es)
          (rs ++ row (Join r) n (length (if z then u ∷ in_region b r ts else in_region b r ts)))
          (ws ++ chain_wires r n t (if z then u ∷ in_region b r ts else in_region b r ts))
          (chain_end r n t (if z then u ∷ in_region b r ts else in_region b r ts))

      go : More → (y z : Bool) → y ≡ z → Goal y z
      go more true true s at =
          let d : Build = meeting c Op.Sync Unmarked r o x.outlet in
          let two : List Wire = wire t (Join r n) Left ∷ wire u (Join r n) Right ∷ [] in
          let new = laid_meeting e c rs ws Op.Sync Unmarked r o x.outlet t u (Join r n) l out h.1 refl refl refl (λ f. refl) at.0 in
          let size = l.size in
          let zeroless : length c.instrs + 0 ≡ length rs = omega (arith, size) in
          let long = length-append rs (Join r n ∷ []) in
          let last : OutAt (rs ++ Join r n ∷ []) (first_of (length c.instrs)) (side (Join r n) false) =
          record { part = ap (slice_get (rs ++ Join r n ∷ [])) zeroless ∙ get_new rs (Join r n); second = refl } in
          let rest = more d (rs ++ Join r n ∷ []) (ws ++ two) (n + 1) (first_of (length c.instrs)) (side (Join r n) false) new
          (ends_more e rs (Join r n ∷ []) es ts h.2) last
          (subst (λ k. Stand e.place k (row (Join r) (n + 1) (length (in_region b r ts)))) (omega (arith, long)) at.1) in
          chained_same (join_ends d (Some (first_of (length c.instrs))) r es) ((rs ++ Join r n ∷ []) ++ row (Join r) (n + 1) (length (in_region b r ts)))
          (rs ++ row (Join r) n (length (u ∷ in_region b r ts)))
          ((ws ++ two) ++ chain_wires r (n + 1) (side (Join r n) false) (in_region b r ts)) (ws ++ chain_wires r n t (u ∷ in_region b r ts))
          (chain_end r n t (u ∷ in_region b r ts))
          (append_assoc rs (Join r n ∷ []) (row (Join r) (n + 1) (length (in_region b r ts))))
          (append_assoc ws two (chain_wires r (n + 1) (side (Join r n) false) (in_region b r ts))) rest
      go more false false s at = more c rs ws n o t l h.2 out at
      go more true false s at = absurd (cc)
      go more false true s at = absurd (cc)

  -- all ends of a region: there is a signal if there is an end
  abbrev pub SignalIs : List Part → Option Outlet → Region → List Side → Type 0
  SignalIs rs o r [] = o ≡ Ends.no_signal
  SignalIs rs o r (t ∷ ts) = SignalAt rs o (chain_end r 0 t ts)

  pub record Joined (s : Signalled) (rs : List Part) (ws : List Wire) (r : Region) (ts : List Side) : Type 0 where
    pub laid : IsLaid e s.build (rs ++ joined_parts r ts) (ws ++ joined_wires r ts)
    pub signal : SignalIs (rs ++ joined_parts r ts) s.signal r ts

  pub region_joined : (c : Build) (rs : List Part) (ws : List Wire) (es : List End) (ts : List Side) (r : Region) → IsLaid e c rs ws → AreEnds e rs es ts
      → Stand e.place (length rs) (joined_parts r (in_region b r ts)) → Joined (join_ends c Ends.no_signal r es) rs ws r (in_region b r ts)
  unfolding join_ends
  region_joined c rs ws [] [] r l h at =
      record { laid = subst (λ xs. IsLaid e c xs (ws ++ [])) (sym (append-nil rs)) (subst (λ xs. IsLaid e c rs xs) (sym (append-nil ws)) l); signal = refl }
  region_joined c rs ws [] (u ∷ ts) r l h at = absurd h
  region_joined c rs ws (x ∷ es) [] r l h at = absurd h
  region_joined c rs ws (x ∷ es) (u ∷ ts) r l h at =
      go (λ a. region_joined c rs ws es ts r l h.2 a) (same_region x.region r) (same_region (leaves_side u) r) (ap (λ q. same_region q r) h.0) at
    where
      self : Signalled
      self = record { build = c; signal = Ends.no_signal }

      go : (Stand e.place (length rs) (joined_parts r (in_region b r ts)) → Joined (join_ends c Ends.no_signal r es) rs ws r (in_region b r ts))
          → (y z : Bool) → y ≡ z → Stand e.place (length rs) (joined_parts r (if z then u ∷ in_region b r ts else in_region b r ts))
          → Joined (join_ends (if y then join_with c Ends.no_signal x.outlet r else self).build
          (if y then join_with c Ends.no_signal x.outlet r else self).signal r es) rs ws r (if z then u ∷ in_region b r ts else in_region b r ts)
      go more true true s at =
          let all = joins_laid c rs ws es ts r 0 x.outlet u l h.2 h.1 at in
          record { laid = all.laid; signal = all.signal }
      go more false false s at = more at
      go more true false s at = absurd (cc)
      go more false true s at = absurd (cc)

  -- a signal leads on
  pub signal_laid : (c : Build) (rs : List Part) (ws : List Wire) (o : Option Outlet) (r : Region) (ts : List Side) (to : ℕ) (part : Part) (p : Port)
      → IsLaid e c (rs ++ part ∷ []) ws → SignalIs rs o r ts → to ≡ e.place part
      → IsLaid e (signalled c o to p) (rs ++ part ∷ []) (ws ++ signal_wires r ts part p)
  signal_laid c rs ws o r [] to part p l h at =
      subst (λ x. IsLaid e (signalled c x to p) (rs ++ part ∷ []) (ws ++ [])) (sym h) (subst (λ xs. IsLaid e c (rs ++ part ∷ []) xs) (sym (append-nil ws)) l)
  signal_laid c rs ws o r (t ∷ ts) to part p l h at =
      subst (λ x. IsLaid e (signalled c x to p) (rs ++ part ∷ []) (ws ++ signal_wires r (t ∷ ts) part p)) (sym h.is)
      (laid_linked e c rs ws h.outlet to (wire (chain_end r 0 t ts) part p) l h.out at)

  is_more : (rs qs : List Part) (o : Option Outlet) (r : Region) (ts : List Side) → SignalIs rs o r ts → SignalIs (rs ++ qs) o r ts
  is_more rs qs o r [] h = h
  is_more rs qs o r (t ∷ ts) h = signal_more rs qs o (chain_end r 0 t ts) h

  -- CONDITIONALS
  pub record IsClosing (c : Closing) (x : Ended) : Type 0 where
    pub laid : IsLaid e c.build x.parts x.wires
    pub ends : AreEnds e x.parts c.ends x.ends

  ended_is : (c : Build) (f g : Option Outlet) (es : List End) (r : Region) (x : Outlet) → (f ≡ Some x) ⊎ (g ≡ Some x) → ended c f g es r ≡ copied c f g es r
  ended_is c None None es r x (inl h) = absurd (cc)
  ended_is c None None es r x (inr h) = absurd (cc)
  ended_is c None (Some o) es r x h = refl
  ended_is c (Some o) g es r x h = refl

  regroup : {X : Type 0} (u v w x : List X) → ((u ++ v) ++ w) ++ x ≡ u ++ (v ++ (w ++ x))
  regroup u v w x = simp append_assoc

  regroup_five : {X : Type 0} (u v w x y : List X) → (((u ++ v) ++ w) ++ x) ++ y ≡ u ++ (v ++ (w ++ (x ++ y)))
  regroup_five u v w x y = simp append_assoc

  -- with a copy, to which the signals of both arms lead
  copied_laid : (c : Build) (rs : List Part) (ws : List Wire) (es : List End) (us : List Side) (k : ℕ) (r : Region) (f g : Option Outlet) (ts vs : List Side)
      → IsLaid e c rs ws → AreEnds e rs es us
      → SignalIs rs f (Arm k true) ts → SignalIs rs g (Arm k false) vs → r ≡ lies_in b k → e.place (CondEnd k) ≡ length rs
      → IsClosing (copied c f g es r) (record {
        parts = rs ++ CondEnd k ∷ [];
        wires = (ws ++ signal_wires (Arm k true) ts (CondEnd k) Left) ++ signal_wires (Arm k false) vs (CondEnd k) Left;
        ends = us ++ side (CondEnd k) false ∷ [];
      })
  copied_laid c rs ws es us k r f g ts vs l h p q region at =
      let one : Build = quieted c Op.Copy r in
      let size = l.size in
      let here : length c.instrs ≡ e.place (CondEnd k) = size ∙ sym at in
      let zeroless : length c.instrs + 0 ≡ length rs = omega (arith, size) in
      let new = laid_added e c rs ws Op.Copy Untold Unmarked r (CondEnd k) l refl refl refl (λ x. region) at in
      let two = signal_laid one rs ws f (Arm k true) ts (length c.instrs) (CondEnd k) Left new p here in
      let three = signal_laid (signalled one f (length c.instrs) Left) rs (ws ++ signal_wires (Arm k true) ts (CondEnd k) Left) g
      (Arm k false) vs (length c.instrs) (CondEnd k) Left two q here in
      record {
        laid = three;
        ends = ends_push e (rs ++ CondEnd k ∷ []) es us r (first_of (length c.instrs)) (side (CondEnd k) false) (ends_more e rs (CondEnd k ∷ []) es us h) region
            (record { part = ap (slice_get (rs ++ CondEnd k ∷ [])) zeroless ∙ get_new rs (CondEnd k); second = refl });
      }

  both_laid : (c : Build) (rs : List Part) (ws : List Wire) (es : List End) (us : List Side) (k : ℕ) (r : Region) (f g : Option Outlet) (ts vs : List Side)
      → IsLaid e c rs ws → AreEnds e rs es us
      → SignalIs rs f (Arm k true) ts → SignalIs rs g (Arm k false) vs → r ≡ lies_in b k → Stand e.place (length rs) (cond_parts k (ts ++ vs))
      → IsClosing (ended c f g es r) (record {
        parts = rs ++ cond_parts k (ts ++ vs);
        wires = (ws ++ signal_wires (Arm k true) ts (CondEnd k) Left) ++ signal_wires (Arm k false) vs (CondEnd k) Left;
        ends = us ++ cond_sides k (ts ++ vs);
      })
  both_laid c rs ws es us k r f g [] [] l h p q region at =
      subst (λ x. IsClosing (ended c x g es r) (none_more rs ws us)) (sym p)
      (subst (λ x. IsClosing (ended c Ends.no_signal x es r) (none_more rs ws us)) (sym q) (record {
        laid =
            subst (λ xs. IsLaid e c xs ((ws ++ []) ++ [])) (sym (append-nil rs))
            (subst (λ xs. IsLaid e c rs xs) (sym (append-nil (ws ++ []) ∙ append-nil ws)) l);
        ends = ends_more e rs [] es (us ++ []) (subst (AreEnds e rs es) (sym (append-nil us)) h);
      }))
    where
      none_more : List Part → List Wire → List Side → Ended
      none_more rs ws us = record { parts = rs ++ []; wires = (ws ++ []) ++ []; ends = us ++ [] }
  both_laid c rs ws es us k r f g [] (v ∷ vs) l h p q region at =
      subst
      (λ x. IsClosing x
      (record {
        parts = rs ++ CondEnd k ∷ [];
        wires = (ws ++ []) ++ signal_wires (Arm k false) (v ∷ vs) (CondEnd k) Left;
        ends = us ++ side (CondEnd k) false ∷ [];
      }))
      (sym (ended_is c f g es r q.outlet (inr q.is))) (copied_laid c rs ws es us k r f g [] (v ∷ vs) l h p q region at.0)
  both_laid c rs ws es us k r f g (t ∷ ts) vs l h p q region at =
      subst
      (λ x. IsClosing x
      (record {
        parts = rs ++ CondEnd k ∷ [];
        wires = (ws ++ signal_wires (Arm k true) (t ∷ ts) (CondEnd k) Left) ++ signal_wires (Arm k false) vs (CondEnd k) Left;
        ends = us ++ side (CondEnd k) false ∷ [];
      }))
      (sym (ended_is c f g es r p.outlet (inl p.is))) (copied_laid c rs ws es us k r f g (t ∷ ts) vs l h p q region at.0)

  -- what a conditional adds
  abbrev pub added_parts : ℕ → Ended → List Part
  added_parts k x =
      joined_parts (Arm k true) (arm_ends b k true x)
      ++ (joined_parts (Arm k false) (arm_ends b k false x) ++ cond_parts k (arm_ends b k true x ++ arm_ends b k false x))

  pub close_laid : (c : Closing) (x : Ended) (k : ℕ) (r : Region) → IsClosing c x → r ≡ lies_in b k → Stand e.place (length x.parts) (added_parts k x)
      → IsClosing (closed c.build c.ends k r) (close b k x)
  unfolding closed
  close_laid c x k r h region at =
      let ts : List Side = arm_ends b k true x in
      let vs : List Side = arm_ends b k false x in
      let first : List Part = joined_parts (Arm k true) ts in
      let second : List Part = joined_parts (Arm k false) vs in
      let last : List Part = cond_parts k (ts ++ vs) in
      let one = region_joined c.build x.parts x.wires c.ends x.ends (Arm k true) h.laid h.ends
      (stand_left e.place (length x.parts) first (second ++ last) at) in
      let s : Signalled = join_ends c.build Ends.no_signal (Arm k true) c.ends in
      let long = length-append x.parts first in
      let at2 = stand_right e.place (length x.parts) (length (x.parts ++ first)) first (second ++ last) at long in
      let ends2 = ends_more e x.parts first c.ends x.ends h.ends in
      let two = region_joined s.build (x.parts ++ first) (x.wires ++ joined_wires (Arm k true) ts) c.ends x.ends (Arm k false) one.laid ends2
      (stand_left e.place (length (x.parts ++ first)) second last at2) in
      let u : Signalled = join_ends s.build Ends.no_signal (Arm k false) c.ends in
      let long2 = length-append (x.parts ++ first) second in
      let parts : List Part = (x.parts ++ first) ++ second in
      let wires : List Wire = (x.wires ++ joined_wires (Arm k true) ts) ++ joined_wires (Arm k false) vs in
      let all = both_laid u.build parts wires c.ends x.ends k r s.signal u.signal ts vs two.laid (ends_more e (x.parts ++ first) second c.ends x.ends ends2)
      (is_more (x.parts ++ first) second s.signal (Arm k true) ts one.signal) two.signal region
      (stand_right e.place (length (x.parts ++ first)) (length parts) second last at2 long2) in
      let p : parts ++ last ≡ (close b k x).parts = regroup x.parts first second last in
      let w : (wires ++ signal_wires (Arm k true) ts (CondEnd k) Left) ++ signal_wires (Arm k false) vs (CondEnd k) Left ≡ (close b k x).wires
      =
      regroup_five x.wires (joined_wires (Arm k true) ts) (joined_wires (Arm k false) vs) (signal_wires (Arm k true) ts (CondEnd k) Left)
      (signal_wires (Arm k false) vs (CondEnd k) Left) in
      subst (λ ps. IsClosing (ended u.build s.signal u.signal c.ends r) (record { parts = ps; wires = (close b k x).wires; ends = (close b k x).ends })) p
      (subst (λ xs. IsClosing (ended u.build s.signal u.signal c.ends r) (record { parts = parts ++ last; wires = xs; ends = (close b k x).ends })) w all)
