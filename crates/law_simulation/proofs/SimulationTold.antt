-- What is known of the arcs of the new run: those that the old run used, and those by which tokens arrived.
use Rattle.std.proofs.Common.{◌≡◌, sym, ap, ◌∙◌, subst, ℕ, ◌+◌, ◌⊎◌, inl, inr, List, [], ◌∷◌, ◌++◌, Some, IsPermutation, Contains}
use Rattle.std.proofs.lemmas.List.Elements.{Contains-append_left, Contains-append_right, Contains-append_cases}
use Rattle.std.proofs.lemmas.List.Sorted.{Contains-permutation, IsPermutation-sym}
use Rattle.std.proofs.lemmas.Option.{same_Some}
use Rattle.lemmas.proofs.Contains.{contains_cases, contains_map, contains_none, contains_tail}
use Rattle.tags.specs.declared.token.Port.{Port}
use Rattle.tags.specs.declared.token.Port.TheVariants.{Left}
use Rattle.tags.specs.declared.token.Word.{Word}
use Rattle.tags.specs.declared.token.To.{To}
use Rattle.tags.specs.declared.token.Token.{Token}
use Rattle.semantics.specs.Program.{Instr, Program, instr_at}
use Rattle.semantics.specs.Rule.{token, at_dest}
use Rattle.semantics.specs.Machine.{Machine, Store as MStore}
use Rattle.semantics.specs.Plan.{Plan}
use Rattle.semantics.specs.Arcs.{UsesArc}
use Rattle.semantics.specs.declared.program.Dest.{Dest}
use Rattle.semantics.specs.Orderly.{is_entry}
use Rattle.semantics.specs.Rule.{to_all}
use Rattle.std.proofs.Common.{true, false, true≢false, refl}
use Rattle.law_simulation.specs.Places.{Spot}
use Rattle.std.proofs.Common.{◌<◌}
use Rattle.semantics.specs.Plan.{landing}
use Rattle.semantics.specs.Credits.{IsLink}
use Rattle.law_simulation.specs.Places.{ip_to, ip_token}
use Rattle.law_simulation.specs.Simulates.{Fits, Fresh, Node, Pend, Plain, Reaches, Relates, Sends, Skips, hands_on, over, straight, is_pair}
use Rattle.law_simulation.proofs.SimulationArcs.{hand_use}
use Rattle.law_simulation.proofs.SimulationHas.{node_rest, node_step, sent_arc}
use Rattle.law_simulation.proofs.SimulationParts.{hands_no_pair, hands_none}
use Rattle.law_simulation.proofs.SimulationRules.{node_grows, pend_with, sends_grow}
use Rattle.law_simulation.proofs.SimulationTraces.{HasStep, Step, step, step_before, step_last}

-- the one of a list of one
only : (x d : Dest) → Contains (x ∷ []) d → x ≡ d
only x d c = go (contains_cases x [] d c)
  where
    go : (x ≡ d) ⊎ Contains [] d → x ≡ d
    go (inl e) = e
    go (inr k) = absurd (contains_none d k)

-- Landings are as long as they were, and stay rows. Then events of the new code use the arcs that those of the old one used.
pub record KeepsArcs (p q : Plan) (S : Relates p q) : Type 0 where
  pub sizes : (b : ℕ) → landing q b ≡ landing p b
  pub rows : (ip callee base o : ℕ) → IsLink p.program ip callee base → o < landing p callee → S.h (base + o) ≡ S.h base + o
  pub unskipped : (ip callee base o : ℕ) → IsLink p.program ip callee base → o < landing p callee → Skips p.program q.program S.h (base + o) → ⊥

module _ (p q : Plan) (S : Relates p q) where
  abbrev P : Program
  P = p.program

  abbrev Q : Program
  Q = q.program

  abbrev h : ℕ → ℕ
  h = S.h

  -- an arc into the port at which it arrives was used, or what results from one is on its way
  abbrev pub Told : List Step → List Token → ℕ → ℕ → Port → Type 0
  Told ss pool f a r = KeepsArcs p q S → (x : Spot) → Reaches P Q h a r x → HasStep (UsesArc q f (h x.0) x.1) ss ⊎ Pend P Q h f x.0 x.1 pool

  -- a token where nothing stands for itself arrived by an arc
  abbrev pub Came : List Step → List Token → Type 0
  Came ss pool = (t : Token) → Contains pool t → (f ip : ℕ) (r : Port) → t.to ≡ To.Instr f ip r → Fresh P Q h ip → HasStep (UsesArc q f ip r) ss

  pend_grows : (f a : ℕ) (r : Port) (xs ys : List Token) → ((t : Token) → Contains xs t → Contains ys t) → Pend P Q h f a r xs → Pend P Q h f a r ys
  pend_grows f a r xs ys grows n = pend_with P Q h f a r xs ys (λ ip. node_grows P Q h f xs ys grows ip) n

  -- the same tokens in another order
  pub told_perm : (ss : List Step) (xs ys : List Token) → IsPermutation xs ys → (f a : ℕ) (r : Port) → Told ss xs f a r → Told ss ys f a r
  told_perm ss xs ys e f a r T F x A = go (T F x A)
    where
      go : HasStep (UsesArc q f (h x.0) x.1) ss ⊎ Pend P Q h f x.0 x.1 xs → HasStep (UsesArc q f (h x.0) x.1) ss ⊎ Pend P Q h f x.0 x.1 ys
      go (inl k) = inl k
      go (inr n) = inr (pend_grows f x.0 x.1 xs ys (λ t c. Contains-permutation _ _ t e c) n)

  pub came_perm : (ss : List Step) (xs ys : List Token) → IsPermutation xs ys → Came ss xs → Came ss ys
  came_perm ss xs ys e K t c = K t (Contains-permutation _ _ t (IsPermutation-sym _ _ e) c)

  -- `Told` holds of what one that passes on ahead of the new code leads to: it is on its way, or `Told` held when its token arrived
  pub told_behind : (ss : List Step) (pool : List Token) (f l : ℕ) → Sends P Q h pool f l → (is_entry P.blocks l ≡ false → Told ss pool f l Left) → (w : Word)
      (i : Instr) → instr_at P l ≡ Some i → hands_on i.op ≡ true → (k b : ℕ) (r : Port) → (made : List Token) (m : Machine)
      → UsesArc p k b r (token (To.Instr f l Left) w) made m → Told ss pool k b r
  told_behind ss pool f l sends came w i at op k b r made m U F x A = go (hand_use p q S.g h f l w i at op k b r made m U) sends A
    where
      Goal : ℕ → Spot → Type 0
      Goal k x = HasStep (UsesArc q k (h x.0) x.1) ss ⊎ Pend P Q h k x.0 x.1 pool

      go : (d : Dest) × Contains (i.firsts ++ i.seconds) d × (f ≡ k) × (b ≡ l + d.ahead) × (d.port ≡ r) → Sends P Q h pool f l → Reaches P Q h b r x
          → Goal k x
      go (d, named, frame, place, port) (inl N) (straight K e) =
          subst (λ (k : ℕ). Goal k x) frame (subst (Goal f) ((λ v. (sym place v, port v)) ∙ sym e) (inr (N.1 i d at named (subst (Plain P Q h) place K))))
      go (d, named, frame, place, port) (inl N) (over K e) = absurd (N.0 (K.before l i d at op named (sym place)))
      go (d, named, frame, place, port) (inr K) (straight L e) =
          let same : K.i ≡ i = same_Some K.i i (sym K.at ∙ at) in
          let one : K.d ≡ d = only K.d d (subst (λ (ds : List Dest). Contains ds d) (sym (ap (λ (i : Instr). i.firsts ++ i.seconds) same) ∙ K.dests) named) in
          subst (λ (k : ℕ). Goal k x) frame
          (subst (Goal f) ((λ v. (l + (one v).ahead, (one v).port)) ∙ (λ v. (sym place v, port v)) ∙ sym e)
          (came K.entry F (l + (K.d).ahead, (K.d).port) (over K refl)))
      go (d, named, frame, place, port) (inr K) (over L e) =
          let same : K.i ≡ i = same_Some K.i i (sym K.at ∙ at) in
          let one : K.d ≡ d = only K.d d (subst (λ (ds : List Dest). Contains ds d) (sym (ap (λ (i : Instr). i.firsts ++ i.seconds) same) ∙ K.dests) named) in
          absurd (L.apart (subst (Plain P Q h) (ap (λ (d : Dest). l + d.ahead) one ∙ sym place) K.behind))

  -- ---- ONE MORE EVENT
  module _ (ss : List Step) (store : MStore) (t : Token) (pool made rest : List Token) (m1 : Machine) (takes : IsPermutation pool (t ∷ rest))
      (leaves : IsPermutation m1.pool (made ++ rest)) where
    abbrev this : Step
    this = step store t made m1

    back_in : (u : Token) → Contains (made ++ rest) u → Contains m1.pool u
    back_in u c = Contains-permutation _ _ u (IsPermutation-sym _ _ leaves) c

    pend_made : (f a : ℕ) (r : Port) → Pend P Q h f a r made → Pend P Q h f a r m1.pool
    pend_made f a r n = pend_grows f a r made m1.pool (λ u c. back_in u (Contains-append_left made rest u c)) n

    pub came_next : Came ss pool → ((u : Token) → Contains made u → (f ip : ℕ) (r : Port) → u.to ≡ To.Instr f ip r → Fresh P Q h ip
        → UsesArc q f ip r t made m1) → Came (ss ++ this ∷ []) m1.pool
    came_next K new u inside f ip r to fresh = go (Contains-append_cases made rest u (Contains-permutation _ _ u leaves inside))
      where
        go : Contains made u ⊎ Contains rest u → HasStep (UsesArc q f ip r) (ss ++ this ∷ [])
        go (inl c) = step_last (UsesArc q f ip r) ss this (new u c f ip r to fresh)
        go (inr c) =
            step_before (UsesArc q f ip r) ss (this ∷ [])
            (K u (Contains-permutation _ _ u (IsPermutation-sym _ _ takes) (contains_tail t rest u c)) f ip r to fresh)

    -- by the event,
    pub told_now : (f a : ℕ) (r : Port)
        → (KeepsArcs p q S → (x : Spot) → Reaches P Q h a r x → UsesArc q f (h x.0) x.1 t made m1 ⊎ Pend P Q h f x.0 x.1 made)
        → Told (ss ++ this ∷ []) m1.pool f a r
    told_now f a r T F x A = go (T F x A)
      where
        go : UsesArc q f (h x.0) x.1 t made m1 ⊎ Pend P Q h f x.0 x.1 made
            → HasStep (UsesArc q f (h x.0) x.1) (ss ++ this ∷ []) ⊎ Pend P Q h f x.0 x.1 m1.pool
        go (inl k) = inl (step_last (UsesArc q f (h x.0) x.1) ss this k)
        go (inr n) = inr (pend_made f x.0 x.1 n)

    -- by one of the old code that passes on after it,
    pub told_hand : (f l : ℕ) → Sends P Q h made f l → (is_entry P.blocks l ≡ false → Told (ss ++ this ∷ []) m1.pool f l Left) → (w v : Word) (i : Instr)
        → instr_at P l ≡ Some i → hands_on i.op ≡ true → (k b : ℕ) (r : Port)
        → (m : Machine) → UsesArc p k b r (token (To.Instr f l Left) w) (to_all record { frame = f; ip = l } v i) m
        → Told (ss ++ this ∷ []) m1.pool k b r
    told_hand f l sends came w v i at is k b r m U =
        told_behind (ss ++ this ∷ []) m1.pool f l (pends sends) came w i at is k b r (to_all record { frame = f; ip = l } v i) m U
      where
        pends : Sends P Q h made f l → Sends P Q h m1.pool f l
        pends N = sends_grow P Q h made m1.pool (λ u c. back_in u (Contains-append_left made rest u c)) f l N

    -- before it, if its token is at none that passes on,
    pub told_next : ((k ip : ℕ) (j : Instr) → t.to ≡ To.Instr k ip Left → instr_at Q ip ≡ Some j → hands_on j.op ≡ true → Fresh P Q h ip → ⊥)
        → (f a : ℕ) (r : Port) → Told ss pool f a r → Told (ss ++ this ∷ []) m1.pool f a r
    told_next off f a r T F x A = go (T F x A)
      where
        go : HasStep (UsesArc q f (h x.0) x.1) ss ⊎ Pend P Q h f x.0 x.1 pool
            → HasStep (UsesArc q f (h x.0) x.1) (ss ++ this ∷ []) ⊎ Pend P Q h f x.0 x.1 m1.pool
        go (inl k) = inl (step_before (UsesArc q f (h x.0) x.1) ss (this ∷ []) k)
        go (inr n) =
            inr (pend_grows f x.0 x.1 rest m1.pool (λ u c. back_in u (Contains-append_right made rest u c))
            (pend_with P Q h f x.0 x.1 pool rest (λ ip. node_rest P Q h f t pool rest takes off ip) n))

    -- and if it is.
    pub told_through : (k n : ℕ) (v : Word) (j : Instr) → t.to ≡ To.Instr k n Left → instr_at Q n ≡ Some j → hands_on j.op ≡ true
        → made ≡ to_all record { frame = k; ip = n } v j
        → (f a : ℕ) (r : Port) → Told ss pool f a r → Told (ss ++ this ∷ []) m1.pool f a r
    told_through k n v j to at op is f b s T F x A = go (T F x A)
      where
        a : ℕ
        a = x.0

        r : Port
        r = x.1

        by_node : (N : Pend P Q h f a r pool) → ((f ≡ k) × (N.ip ≡ n)) ⊎ Node P Q h f (made ++ rest) N.ip
            → HasStep (UsesArc q f (h a) r) (ss ++ this ∷ []) ⊎ Pend P Q h f a r m1.pool
        by_node N (inr node) =
            inr record {
              ip = N.ip;
              j = N.j;
              d = N.d;
              node = node_grows P Q h f (made ++ rest) m1.pool back_in N.ip node;
              at = N.at;
              op = N.op;
              named = N.named;
              place = N.place;
              port = N.port;
            }
        by_node N (inl e) =
            let same : N.j ≡ j = same_Some N.j j (sym N.at ∙ ap (instr_at Q) e.1 ∙ at) in
            let u : Token = at_dest record { frame = k; ip = n } v N.d in
            let inside : Contains made u = subst (λ (l : List Token). Contains l u) (sym is)
            (contains_map (at_dest record { frame = k; ip = n } v) (j.firsts ++ j.seconds) N.d
            (subst (λ (j : Instr). Contains (j.firsts ++ j.seconds) N.d) same N.named)) in
            let goes : u.to ≡ To.Instr f (h a) r = (λ v. To.Instr (sym e.0 v) ((ap (λ (m : ℕ). m + (N.d).ahead) (sym e.1) ∙ N.place) v) (N.port v)) in
            inl (step_last (UsesArc q f (h a) r) ss this
            (sent_arc p q S k n Left v j made m1 t at (hands_none j.op op) to is u inside f (h a) r goes))

        go : HasStep (UsesArc q f (h a) r) ss ⊎ Pend P Q h f a r pool → HasStep (UsesArc q f (h a) r) (ss ++ this ∷ []) ⊎ Pend P Q h f a r m1.pool
        go (inl k) = inl (step_before (UsesArc q f (h a) r) ss (this ∷ []) k)
        go (inr N) = by_node N (node_step P Q h f k n v j t pool rest made takes to at op is N.ip N.node)

  -- ---- TOKENS AT NONE THAT PASSES ON
  same_place : {a b x y : ℕ} {r s : Port} → To.Instr a x r ≡ To.Instr b y s → x ≡ y
  same_place e = cc

  -- one that stands for one
  pub moved_apart : (t u : Token) → Fits P Q h u.to → t ≡ ip_token h u → (k ip : ℕ) (j : Instr) → t.to ≡ To.Instr k ip Left → instr_at Q ip ≡ Some j
      → hands_on j.op ≡ true → Fresh P Q h ip → ⊥
  moved_apart t u fits is k ip j to at op fresh = go u.to fits (sym (ap (λ (t : Token). t.to) is) ∙ to)
    where
      go : (x : To) → Fits P Q h x → ip_to h x ≡ To.Instr k ip Left → ⊥
      go (To.Instr f a r) K e = fresh a K (sym (same_place e))
      go (To.Fetch x) K e = cc
      go (To.Store x v) K e = cc
      go To.Manager K e = cc
      go (To.Release f) K e = cc
      go (To.Host j) K e = cc

  -- one at another instruction
  pub pair_apart : (t : Token) (f a : ℕ) (w : Word) (j : Instr) → t ≡ token (To.Instr f (S.g a) Left) w → instr_at Q (S.g a) ≡ Some j → is_pair j.op ≡ true
      → (k ip : ℕ) (i : Instr) → t.to ≡ To.Instr k ip Left → instr_at Q ip ≡ Some i → hands_on i.op ≡ true → Fresh P Q h ip → ⊥
  pair_apart t f a w j is at pair k ip i to there op fresh =
      let place : S.g a ≡ ip = same_place (sym (ap (λ (t : Token). t.to) is) ∙ to) in
      let same : j ≡ i = same_Some j i (sym at ∙ ap (instr_at Q) place ∙ there) in
      true≢false (sym pair ∙ ap (λ (i : Instr). is_pair i.op) same ∙ hands_no_pair i.op op)
