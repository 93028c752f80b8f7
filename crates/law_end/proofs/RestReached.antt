-- At rest each context that has a frame was entered, and the frame of what it started was handed out, but for iterations whose credit waits: so the
-- first word of what sends into or out of a context arrived.
use Rattle.std.proofs.Common.{◌≡◌, ℕ, zero, suc, ◌+◌, ℤ, Bool, true, false, not, ◌&&◌, ◌⊎◌, inl, inr, List, [], ◌∷◌, ◌++◌, Option, Some, None, if◌then◌else◌}
use Rattle.std.proofs.Common.{refl, sym, ap, ◌∙◌, subst, arith, true≢false, lt-ltb}
use Rattle.std.specs.Prelude.{Contains}
use Rattle.std.proofs.lemmas.Bool.{and_parts}
use Rattle.lemmas.proofs.Contains.{contains_head, contains_tail}
use Rattle.tags.specs.declared.token.Port.TheVariants.{Left, Right}
use Rattle.semantics.specs.declared.graph.Region.{Region}
use Rattle.semantics.specs.declared.graph.Region.TheVariants.{Root, Arm}
use Rattle.semantics.specs.Graph.{Flow, Block}
use Rattle.semantics.specs.Plan.{Plan}
use Rattle.semantics.specs.Meaning.{Context, Main, Called, Turned}
use Rattle.semantics.specs.Cause.{is_turn}
use Rattle.semantics.specs.Machine.{Machine, Resting}
use Rattle.law_confluence.specs.EquationsContexts.{same_context}
use Rattle.law_confluence.proofs.EquationsContexts.{same_context_is}
use Rattle.law_net.specs.ContextsParts.{Part, Entry, Trigger, Opener, Framer, Fanned, Linker, Sender, Taker, TurnCont, TurnFlag, Asker, NextFramer, NextFanned}
use Rattle.law_net.specs.ContextsParts.{NextSender, Result, LastReturn, Landing, Asked, NextAsked, Inlet, inlet, BackTo, FrameOf, ToHost, signal, Item, item}
use Rattle.law_net.specs.ContextsParts.{Firing, Spot}
use Rattle.law_net.specs.ContextsBlocks.{Side, side, waits_in, invokes, is_call, is_loop, is_strict, lies_in, region_of, entered, leaves_in, flag}
use Rattle.law_net.specs.Contexts.{Wires, block_in, wiring_in, IsContext, child, next}
use Rattle.law_net.specs.ContextsWires.{ItsReturn, ChildFrame, goes_from, is_unwired, wired_way, wired_port, decider, predicate_at, arrives_at, Carried, Suits}
use Rattle.law_net.specs.ContextsFirings.{input_items, takes, own_takes, renewed, credit_asked, left_item, left_way, turn_before, next_entry, handed_to}
use Rattle.law_net.specs.ContextsFirings.{frame_if, frame_at, HasFired}
use Rattle.law_net.specs.ContextsLaws.{spot_there, maker_of}
use Rattle.law_net.specs.ContextsMirror.{Past, is_in_cell}
use Rattle.law_net.specs.ContextsTheorem.{IsGood}
use Rattle.law_net.specs.ContextsPackages.{Keeps, InputsFit}
use Rattle.law_net.proofs.WiredSends.{gives_by, first_taken, takes_first, first_context}
use Rattle.law_net.proofs.WiredNets.{taken_in}
use Rattle.law_end.specs.Over.{is_turning, IsDecided, IsOpen}
use Rattle.law_end.proofs.OverSorts.{IsHere, laws}
use Rattle.law_end.proofs.OverPaths.{Wire, wire_of}
use Rattle.law_end.proofs.OverMade.{Mirrors, taken_stands, fits}
use Rattle.law_end.proofs.OverOpen.{arm_decided, arm_round, region_open, stands_open, first_of}
use Rattle.law_end.proofs.OverBack.{frame_from, next_frame_from, return_from}
use Rattle.law_end.specs.RestStarts.{AllStart}
use Rattle.law_net.specs.ContextsWires.{is_start}
use Rattle.law_end.proofs.RestCells.{one_of}
use Rattle.law_end.proofs.RestWaits.{Waiting, is_credit, taken_as, Takes, Own, OfCredits, Renewed, fires_alone, fires_both, waits_or_taken, Held}
use Rattle.law_end.proofs.RestWaits.{is_sender}
use Rattle.law_end.proofs.RestForward.{begin_stands, gift_stands, feeder, along, decided_arrives}

-- WHO HANDED a frame out
by_frame : (fl : Flow) (f : Firing) (rest : List Firing) (c : Context) (g : ℕ) (o : Option Context) → handed_to fl f.context f.part ≡ o
    → frame_if o c f.frame (frame_at fl rest c) ≡ Some g
    → (frame_at fl rest c ≡ Some g) ⊎ (handed_to fl f.context f.part ≡ Some c)
by_frame fl f rest c g None e h = inl h
by_frame fl f rest c g (Some d) e h = go (same_context d c) refl h
  where
    go : (t : Bool) → same_context d c ≡ t → (if t then Some f.frame else frame_at fl rest c) ≡ Some g
        → (frame_at fl rest c ≡ Some g) ⊎ (handed_to fl f.context f.part ≡ Some c)
    go true s h = inr (e ∙ ap Some (same_context_is d c s))
    go false s h = inl h

abbrev Hander : Flow → List Firing → Context → Type 0
Hander fl fired c = (h : Firing) × Contains fired h × (handed_to fl h.context h.part ≡ Some c)

later_hander : (fl : Flow) (f : Firing) (fired : List Firing) (c : Context) → Hander fl fired c → Hander fl (f ∷ fired) c
later_hander fl f fired c (h, d, e) = (h, contains_tail f fired h d, e)

pub hander : (fl : Flow) (fired : List Firing) (c : Context) (g : ℕ) → (c ≡ Main → ⊥) → frame_at fl fired c ≡ Some g → Hander fl fired c
hander fl fired Main g inner e = absurd (inner refl)
hander fl [] (Called d n) g inner e = absurd (cc)
hander fl [] (Turned d n t) g inner e = absurd (cc)
hander fl (f ∷ fired) (Called d n) g inner e =
    pick (by_frame fl f fired (Called d n) g (handed_to fl f.context f.part) refl e) (λ h. hander fl fired (Called d n) g inner h)
  where
    pick : (frame_at fl fired (Called d n) ≡ Some g) ⊎ (handed_to fl f.context f.part ≡ Some (Called d n))
        → (frame_at fl fired (Called d n) ≡ Some g → Hander fl fired (Called d n)) → Hander fl (f ∷ fired) (Called d n)
    pick (inl h) more = later_hander fl f fired (Called d n) (more h)
    pick (inr h) more = (f, contains_head f fired, h)
hander fl (f ∷ fired) (Turned d n t) g inner e =
    pick (by_frame fl f fired (Turned d n t) g (handed_to fl f.context f.part) refl e) (λ h. hander fl fired (Turned d n t) g inner h)
  where
    pick : (frame_at fl fired (Turned d n t) ≡ Some g) ⊎ (handed_to fl f.context f.part ≡ Some (Turned d n t))
        → (frame_at fl fired (Turned d n t) ≡ Some g → Hander fl fired (Turned d n t)) → Hander fl (f ∷ fired) (Turned d n t)
    pick (inl h) more = later_hander fl f fired (Turned d n t) (more h)
    pick (inr h) more = (f, contains_head f fired, h)

pub data Handed (fl : Flow) (c d : Context) (r : Part) : Type 0 where
  ByCall : (n : ℕ) → r ≡ Asked n → child fl d n ≡ c → Handed fl c d r
  ByTurn : r ≡ NextAsked → next d ≡ c → Handed fl c d r

pub handed_cases : (fl : Flow) (c d : Context) (r : Part) → handed_to fl d r ≡ Some c → Handed fl c d r
handed_cases fl c d (Asked n) e = let z : child fl d n ≡ c = cc in ByCall n refl z
handed_cases fl c d NextAsked e = let z : next d ≡ c = cc in ByTurn refl z
handed_cases fl c d r e = absurd (cc)

-- what a firing of a part that takes one word took
taker_way : (fl : Flow) (h : Firing) (n : ℕ) (i : Item) → h.part ≡ Taker n → Contains (takes fl h) i → i.inlet.way ≡ h.way
taker_way fl h n i e c =
    ap (λ (i : Item). i.inlet.way) (one_of (left_item h.context (Taker n) h.way h.left) i (subst (λ (r : Part). Contains (takes_at r) i) e c))
  where
    takes_at : Part → List Item
    takes_at r = own_takes fl h r ++ renewed fl h r

pub root_arm : (k : ℕ) (t : Bool) → Root ≡ Arm k t → ⊥
root_arm k t e = absurd (cc)

module _ (fl : Flow) (p : Plan) (w : Wires) (inputs : List ℤ) (past : Past) (m : Machine) (good : IsGood fl p w) (fit : InputsFit fl inputs)
    (kept : Keeps fl p w inputs past m) (rests : Resting m) (calm : m.store.requests ≡ []) where
  abbrev done : List Firing
  done = kept.tracks.net.fired

  abbrev Stood : Item → Type 0
  Stood i = Mirrors fl p w inputs past m good fit kept i

  -- a part that takes one word, and what a firing gave it
  alone_at : (c : Context) (r : Part) (i : Item) → Stood i → i.context ≡ c → i.inlet.part ≡ r → ((b : Block ℕ) → waits_in b r ≡ false) → is_in_cell r ≡ false
      → is_turning r ≡ false → HasFired c r done
  alone_at c r i s a e single cell credit =
      let (h, d, x, y) = fires_alone fl p w inputs past m good fit kept rests calm i s
      (ap (waits_in (block_in fl i.context)) e ∙ single (block_in fl i.context)) (ap is_in_cell e ∙ cell) (ap is_turning e ∙ credit) in
      (h, d, x ∙ a, y ∙ e)

  given_at : (h : Firing) (q : Part) → Contains done h → h.part ≡ q → (i : Item) → Contains (gives_by fl w h q) i
      → ((b : Block ℕ) → waits_in b i.inlet.part ≡ false) → is_in_cell i.inlet.part ≡ false → is_turning i.inlet.part ≡ false
      → HasFired i.context i.inlet.part done
  given_at h q d e i g single cell credit =
      let (j, s, same) = gift_stands fl p w inputs past m good fit kept h q i d e g in
      alone_at i.context i.inlet.part j s (ap (λ (x : Spot). x.context) same) (ap (λ (x : Spot). x.inlet.part) same) single cell credit

  pub fanned : (c : Context) (n : ℕ) → HasFired c (Asked n) done → HasFired c (Fanned n) done
  fanned c n (h, d, a, e) =
      let (f, x, y, z) = given_at h (Asked n) d e (item h.context (inlet (Fanned n) Left 0) (FrameOf (child fl h.context n))) (contains_head _ [])
      (λ b. refl) refl refl in (f, x, y ∙ a, z)

  pub asked : (c : Context) (n : ℕ) → HasFired c (Framer n) done → HasFired c (Asked n) done
  asked c n (h, d, a, e) =
      let (f, x, y, z) = given_at h (Framer n) d e (item h.context (inlet (Asked n) Left 0) (BackTo h.context (inlet (Fanned n) Left 0))) (contains_head _ _)
      (λ b. refl) refl refl in (f, x, y ∙ a, z)

  pub next_fanned : (c : Context) → HasFired c NextAsked done → HasFired c NextFanned done
  next_fanned c (h, d, a, e) =
      let (f, x, y, z) = given_at h NextAsked d e (item h.context (inlet NextFanned Left 0) (FrameOf (next h.context))) (contains_head _ [])
      (λ b. refl) refl refl in (f, x, y ∙ a, z)

  pub next_asked : (c : Context) → HasFired c NextFramer done → HasFired c NextAsked done
  next_asked c (h, d, a, e) =
      let (f, x, y, z) = given_at h NextFramer d e (item h.context (inlet NextAsked Left 0) (BackTo h.context (inlet NextFanned Left 0))) (contains_head _ [])
      (λ b. refl) refl refl in (f, x, y ∙ a, z)

  -- a credit that was asked for waits, or was granted
  abbrev pub Granted : Context → ℕ → ℕ → Type 0
  Granted d n t = Held fl p w inputs past m good fit kept d n t ⊎ HasFired (Turned d n t) NextFramer kept.tracks.net.fired

  pub granted : (d : Context) (n t : ℕ) → HasFired (Turned d n t) Asker done → Granted d n t
  granted d n t (h, x, a, e) =
      let credit = item d (inlet (Taker n) Left (t + 1)) (BackTo (Turned d n t) (inlet NextFramer Left 0)) in
      let (j, s, same) = gift_stands fl p w inputs past m good fit kept h Asker credit x e
      (subst (λ (c : Context). Contains (credit_asked c) credit) (sym a) (contains_head credit [])) in
      by_taking j s (ap (λ (x : Spot). x.context) same) (ap (λ (x : Spot). x.inlet.part) same) (ap (λ (x : Spot). x.inlet.way) same)
      (waits_or_taken fl p w inputs past m good fit kept rests calm j s)
    where
      by_own : (j : Item) → j.context ≡ d → j.inlet.part ≡ Taker n → j.inlet.way ≡ t + 1 → (f : Firing) → Contains done f → Contains (takes fl f) j
          → (j.context ≡ f.context) × Takes f j → HasFired (Turned d n t) NextFramer done
      by_own j jc jr jw f y took (b, OfCredits g) = absurd (true≢false (sym g ∙ ap is_credit jr))
      by_own j jc jr jw f y took (b, Renewed k l g o z) = let q : Taker n ≡ Sender k l = sym jr ∙ g in absurd (cc)
      by_own j jc jr jw f y took (b, Own g) =
          let part : f.part ≡ Taker n = sym g ∙ jr in
          let next' : t + 1 ≡ suc t = omega arith in
          let way : f.way ≡ suc t = sym (taker_way fl f n j part took) ∙ jw ∙ next' in
          let (o, z, u, v) = given_at f (Taker n) y part (item (turn_before f.context n f.way) (inlet NextFramer Left 0) signal) (contains_head _ [])
          (λ b. refl) refl refl in
          (o, z, u ∙ (λ k. turn_before ((sym b ∙ jc) k) n (way k)), v)

      by_taking : (j : Item) → Stood j → j.context ≡ d → j.inlet.part ≡ Taker n → j.inlet.way ≡ t + 1
          → Waiting fl p w inputs past m good fit kept j ⊎ ((f : Firing) × Contains done f × Contains (takes fl f) j)
          → Granted d n t
      by_taking j s jc jr jw (inl c) = let next' : t + 1 ≡ suc t = omega arith in inl (j, c, jc, jr, jw ∙ next')
      by_taking j s jc jr jw (inr (f, y, took)) = inr (by_own j jc jr jw f y took (taken_as fl f j took))

  -- IN A CONTEXT
  module _ (c : Context) (con : IsContext fl c) where
    abbrev b : Block ℕ
    b = block_in fl c

    abbrev Here : Part → Type 0
    Here r = IsHere fl p w good c con r

    abbrev Opens : Region → Type 0
    Opens r = IsOpen fl w kept.tracks.net.fired c r

    abbrev Fires : Part → Type 0
    Fires r = HasFired c r kept.tracks.net.fired

    abbrev pub At : Inlet → Type 0
    At x = (i : Item) × Mirrors fl p w inputs past m good fit kept i × (i.context ≡ c) × (i.inlet ≡ x)

    -- what has fired lies in open arms
    pub fired_open : (r : Part) → Here r → is_turning r ≡ false → Fires r → Opens (region_of b r)
    fired_open r here turns f =
        let (i, d, a, u, e) = first_of fl p w inputs past m good fit kept c con r here f in
        region_open fl p w inputs past m good fit kept c con r (left_way r u) here turns
        (subst (λ (x : Inlet). Opens (entered b x.part x.way)) e
        (stands_open fl p w inputs past m good fit kept c con i (taken_stands fl p w inputs past m good fit kept i d) a))

    sent : (s : Side) (x : Inlet) → Wire fl p w good c con s x → Fires (maker_of b s.part) → Opens (entered b x.part x.way) → At x
    sent s x wire f o = along fl p w inputs past m good fit kept c con s x wire f (subst Opens wire.region o)

    -- the word of the part that feeds it
    from_part : (x : Inlet) (r : Part) → maker_of b r ≡ r → (s : Side) × Wire fl p w good c con s x × (s.part ≡ r) → Fires r
        → Opens (entered b x.part x.way) → At x
    from_part x r self (s, wire, e) f o = sent s x wire (subst Fires (sym self ∙ ap (maker_of b) (sym e)) f) o

    both_fire : (r : Part) → waits_in b r ≡ true → ((n l : ℕ) → r ≡ Sender n l → ⊥) → At (inlet r Left 0) → At (inlet r Right 0) → Fires r
    both_fire r two other (i, si, ic, ix) (j, sj, jc, jx) =
        fires_both fl p w inputs past m good fit kept rests calm c r i j si sj ic jc (ap (λ (x : Inlet). x.part) ix) (ap (λ (x : Inlet). x.part) jx)
        (ap (λ (x : Inlet). x.port) ix) (ap (λ (x : Inlet). x.port) jx) two (no_sender r other)
      where
        no_sender : (r : Part) → ((n l : ℕ) → r ≡ Sender n l → ⊥) → is_sender fl p w inputs past m good fit kept rests calm r ≡ false
        no_sender (Sender n l) h = absurd (h n l refl)
        no_sender r h = refl

    -- the words of a conditional or a flag
    decided_right : (r : Part) (k : ℕ) (t : Bool) → Here r → is_unwired b r ≡ false → wired_way r 0 ≡ true → waits_in b r ≡ true
        → predicate_at b r Right ≡ Some k
        → IsDecided fl w done (record { context = c; cond = k }) t → Opens (entered b r 0) → At (inlet r Right 0)
    decided_right r k t here given way two predicate decided o =
        let (s, wire) = feeder fl p w inputs past m good fit kept c con (inlet r Right 0) here way two given in
        decided_arrives fl p w inputs past m good fit kept c con k t s (inlet r Right 0) wire
        ((laws fl p w good c con).arms.agree s (inlet r Right 0) k wire.from wire.goes predicate) decided (subst Opens wire.region o)

    decided_left : (r : Part) (k : ℕ) (t : Bool) → Here r → is_unwired b r ≡ false → wired_way r 0 ≡ true
        → ((s : Side) → Wire fl p w good c con s (inlet r Left 0) → s ≡ decider b (wiring_in fl w c) k)
        → IsDecided fl w done (record { context = c; cond = k }) t → Opens (entered b r 0) → At (inlet r Left 0)
    decided_left r k t here given way from decided o =
        let (s, wire) = feeder fl p w inputs past m good fit kept c con (inlet r Left 0) here way refl given in
        decided_arrives fl p w inputs past m good fit kept c con k t s (inlet r Left 0) wire (from s wire) decided (subst Opens wire.region o)

    pub trigger_fires : (k : ℕ) (t : Bool) → Here (Trigger k) → IsDecided fl w done (record { context = c; cond = k }) t → Opens (lies_in b k)
        → Fires (Trigger k)
    trigger_fires k t here decided o = both_fire (Trigger k) refl (λ n l e. absurd (cc))
        (decided_left (Trigger k) k t here refl refl (λ s wire. ((laws fl p w good c con).arms.both s k wire.from).0 wire.goes) decided o)
        (decided_right (Trigger k) k t here refl refl refl refl decided o)

    pub flag_fires : (t : Bool) → Here TurnFlag → IsDecided fl w done (record { context = c; cond = flag b }) t → Opens Root → Fires TurnFlag
    flag_fires t here decided o = both_fire TurnFlag refl (λ n l e. absurd (cc))
        (decided_left TurnFlag (flag b) t here refl refl (λ s wire. ((laws fl p w good c con).arms.both s 0 wire.from).1 wire.goes) decided o)
        (decided_right TurnFlag (flag b) t here refl refl refl refl decided o)

    -- WHERE the context was entered
    module _ (entry : Fires Entry) where
      root : Opens Root
      root = fired_open Entry refl refl entry

      -- a continuation comes from there, or from the turn's switch, into an arm of its flag
      return_root : (x : Inlet) → Here x.part → wired_way x.part x.way ≡ true → wired_port b x.part x.port ≡ true → is_unwired b x.part ≡ false
          → arrives_at x.part x.port ≡ ItsReturn → entered b x.part x.way ≡ Root → At x
      return_root x here way port given arrives region =
          let (s, wire) = feeder fl p w inputs past m good fit kept c con x here way port given in
          pick s wire (return_from s.part (sym arrives ∙ suits s wire))
        where
          suits : (s : Side) → Wire fl p w good c con s x → arrives_at x.part x.port ≡ goes_from s.part
          suits s wire =
              subst (λ (k : Carried). Suits k (goes_from s.part) → k ≡ goes_from s.part) (sym arrives) (λ h. h)
              ((laws fl p w good c con).leads.suits s x wire.from wire.goes)

          pick : (s : Side) → Wire fl p w good c con s x → (s.part ≡ Entry) ⊎ (s.part ≡ TurnCont) → At x
          pick s wire (inl e) = from_part x Entry refl (s, wire, e) entry (subst Opens (sym region) root)
          pick s wire (inr e) = absurd (root_arm (flag b) (not s.second) (sym region ∙ wire.region ∙ ap (λ (r : Part). leaves_in b r s.second) e))

      pub cont_fires : (t : Bool) → Here TurnCont → IsDecided fl w done (record { context = c; cond = flag b }) t → Fires TurnCont
      cont_fires t here decided =
          both_fire TurnCont refl (λ n l e. absurd (cc)) (return_root (inlet TurnCont Left 0) here refl refl refl refl refl)
          (decided_right TurnCont (flag b) t here refl refl refl refl decided root)

      return_arm : (x : Inlet) (t : Bool) → is_turn c ≡ true → Here x.part → wired_way x.part x.way ≡ true → wired_port b x.part x.port ≡ true
          → is_unwired b x.part ≡ false → arrives_at x.part x.port ≡ ItsReturn → entered b x.part x.way ≡ Arm (flag b) t → Opens (Arm (flag b) t) → At x
      return_arm x t turn here way port given arrives region o =
          let (s, wire) = feeder fl p w inputs past m good fit kept c con x here way port given in
          pick s wire (return_from s.part (sym arrives ∙ suits s wire))
        where
          suits : (s : Side) → Wire fl p w good c con s x → arrives_at x.part x.port ≡ goes_from s.part
          suits s wire =
              subst (λ (k : Carried). Suits k (goes_from s.part) → k ≡ goes_from s.part) (sym arrives) (λ h. h)
              ((laws fl p w good c con).leads.suits s x wire.from wire.goes)

          pick : (s : Side) → Wire fl p w good c con s x → (s.part ≡ Entry) ⊎ (s.part ≡ TurnCont) → At x
          pick s wire (inl e) = absurd (root_arm (flag b) t (ap (λ (r : Part). leaves_in b r s.second) (sym e) ∙ sym wire.region ∙ region))
          pick s wire (inr e) =
              from_part x TurnCont refl (s, wire, e)
              (cont_fires t turn (arm_decided fl p w inputs past m good fit kept c con (flag b) t (inr (turn, refl)) o)) (subst Opens (sym region) o)

      pub result_left : (j : ℕ) → Here (Result j) → At (inlet (Result j) Left 0)
      result_left j here = return_root (inlet (Result j) Left 0) here refl refl refl refl refl

      pub last_left : (j : ℕ) → Here (LastReturn j) → Opens (Arm (flag b) false) → At (inlet (LastReturn j) Left 0)
      last_left j here o = return_arm (inlet (LastReturn j) Left 0) false (and_parts _ _ here).0 here refl refl refl refl refl o

      -- WHAT IS STARTED
      started : (x : Inlet) (s : Side) → Wire fl p w good c con s x → is_start s.part ≡ true → Opens (entered b x.part x.way) → At x
      started x s wire start o = go s.part refl start
        where
          go : (r : Part) → s.part ≡ r → is_start r ≡ true → At x
          go Entry e g = from_part x Entry refl (s, wire, e) entry o
          go (Trigger k) e g =
              let here : Here (Trigger k) = subst Here e wire.from in
              let cond = (and_parts _ _ here).0 in
              let mine : Opens (Arm k (not s.second)) = subst Opens (wire.region ∙ ap (λ (r : Part). leaves_in b r s.second) e) o in
              from_part x (Trigger k) refl (s, wire, e)
              (trigger_fires k (not s.second) here (arm_decided fl p w inputs past m good fit kept c con k (not s.second) (inl cond) mine)
              (arm_round fl p w inputs past m good fit kept c con k (not s.second) (inl cond) mine)) o
          go r e g = absurd (true≢false (sym g))

      module _ (starts : AllStart fl w) where
        alone_here : (r : Part) → At (inlet r Left 0) → ((b : Block ℕ) → waits_in b r ≡ false) → is_in_cell r ≡ false → is_turning r ≡ false → Fires r
        alone_here r (i, s, a, x) single cell credit = alone_at c r i s a (ap (λ (x : Inlet). x.part) x) single cell credit

        pub loop_framed : (n : ℕ) → is_loop b n ≡ true → Opens (lies_in b n) → Fires (Framer n)
        loop_framed n loop o =
            let (s, wire) = feeder fl p w inputs past m good fit kept c con (inlet (Opener n) Left 0) loop refl refl refl in
            let opened = alone_here (Opener n) (started (inlet (Opener n) Left 0) s wire ((starts c con).loops n s loop wire.from wire.goes) o)
            (λ b. refl) refl refl in
            let on = wire_of fl p w good c con (side (Opener n) false) (inlet (Framer n) Left 0) loop
            ((laws fl p w good c con).leads.opens n loop) in
            alone_here (Framer n) (sent (side (Opener n) false) (inlet (Framer n) Left 0) on opened o) (λ b. refl) refl refl

        pub call_framed : (n : ℕ) → Here (Framer n) → is_call b n ≡ true → is_strict b n ≡ false → Opens (lies_in b n) → Fires (Framer n)
        call_framed n here call strict o =
            let (s, wire) = feeder fl p w inputs past m good fit kept c con (inlet (Framer n) Left 0) here refl refl refl in
            alone_here (Framer n) (started (inlet (Framer n) Left 0) s wire ((starts c con).calls n s call strict wire.from wire.goes) o) (λ b. refl) refl refl

        -- a turn goes on
        pub goes_on : is_turn c ≡ true → Opens (Arm (flag b) true) → Fires Asker
        goes_on turn o =
            let (s, wire) = feeder fl p w inputs past m good fit kept c con (inlet Asker Right 0) turn refl refl refl in
            let decided = arm_decided fl p w inputs past m good fit kept c con (flag b) true (inr (turn, refl)) o in
            both_fire Asker refl (λ n l e. absurd (cc)) (return_arm (inlet Asker Left 0) true turn turn refl refl refl refl refl o)
            (from_part (inlet Asker Right 0) TurnFlag refl (s, wire, (starts c con).asks s wire.from wire.goes) (flag_fires true turn decided root) o)

    -- WHERE a frame was handed out
    child_left : (x : Inlet) (n : ℕ) → Here x.part → wired_way x.part x.way ≡ true → wired_port b x.part x.port ≡ true → is_unwired b x.part ≡ false
        → arrives_at x.part x.port ≡ ChildFrame n → Opens (entered b x.part x.way) → Fires (Fanned n) → At x
    child_left x n here way port given arrives o f =
        let (s, wire) = feeder fl p w inputs past m good fit kept c con x here way port given in
        from_part x (Fanned n) refl (
          s,
          wire,
          frame_from n s.part (subst (λ (k : Carried). Suits k (goes_from s.part)) arrives ((laws fl p w good c con).leads.suits s x wire.from wire.goes)),
        ) f o

    pub sender_left : (n l : ℕ) → Here (Sender n l) → Opens (lies_in b n) → Fires (Fanned n) → At (inlet (Sender n l) Left 0)
    sender_left n l here o f = child_left (inlet (Sender n l) Left 0) n here refl refl refl refl o f

    pub linker_left : (n : ℕ) → Here (Linker n) → Opens (lies_in b n) → Fires (Fanned n) → At (inlet (Linker n) Left 0)
    linker_left n here o f = child_left (inlet (Linker n) Left 0) n here refl refl refl refl o f

    pub next_left : (j : ℕ) → Here (NextSender j) → Opens (Arm (flag b) true) → Fires NextFanned → At (inlet (NextSender j) Left 0)
    next_left j here o f =
        let (s, wire) = feeder fl p w inputs past m good fit kept c con (inlet (NextSender j) Left 0) here refl refl refl in
        from_part (inlet (NextSender j) Left 0) NextFanned refl
        (s, wire, next_frame_from s.part ((laws fl p w good c con).leads.suits s (inlet (NextSender j) Left 0) wire.from wire.goes)) f o

    -- so what it invokes first is entered
    pub linked : (n : ℕ) → Here (Linker n) → Fires (Asked n) → HasFired (child fl c n) Entry done
    linked n here f =
        let g = fanned c n f in
        let (i, s, a, x) = linker_left n here (fired_open (Fanned n) here refl g) g in
        let (h, d, y, e) = alone_at c (Linker n) i s a (ap (λ (x : Inlet). x.part) x) (λ b. refl) refl refl in
        let (o, u, v, z) = given_at h (Linker n) d e (item (child fl h.context n) (inlet Entry Left 0) (BackTo h.context (inlet (Landing n 0) Left 0)))
        (contains_head _ []) (λ b. refl) refl refl in
        (o, u, v ∙ ap (λ (c : Context). child fl c n) y, z)

    -- and the next turn
    pub next_entered : is_turn c ≡ true → Fires Entry → Fires NextAsked → HasFired (next c) Entry done
    next_entered turn entry f =
        let g = next_fanned c f in
        let o = fired_open NextFanned turn refl g in
        let here : Here (NextSender 0) = sender_here turn in
        let r = return_arm entry (inlet (NextSender 0) Right 0) true turn here refl refl refl refl refl o in
        let (h, d, y, e) = both_fire (NextSender 0) refl (λ n l e. absurd (cc)) (next_left 0 here o g) r in
        let (q, u, v, z) = given_at h (NextSender 0) d e (item (next h.context) (next_entry 0) h.right) (contains_head _ []) (λ b. refl) refl refl in
        (q, u, v ∙ ap next y, z)
      where
        sender_here : is_turn c ≡ true → Here (NextSender 0)
        sender_here t = (λ k. t k && lt-ltb 0 (b.inputs + 1) (omega arith) k)

  -- EACH CONTEXT with a frame was entered
  asked_invokes : (c : Context) (n : ℕ) → HasFired c (Asked n) done → IsContext fl c × (invokes (block_in fl c) n ≡ true)
  asked_invokes c n (h, d, a, e) =
      let i = first_taken fl w h h.part in
      let s = taken_stands fl p w inputs past m good fit kept i (taken_in fl done h i d (takes_first fl w h)) in
      let at : i.context ≡ c = first_context fl w h h.part ∙ a in
      let part : i.inlet.part ≡ Asked n = ap (λ (r : Part). (first_taken fl w h r).inlet.part) e in
      let f = fits fl p w inputs past m good fit kept i s in
      (subst (IsContext fl) at f.is_context, (λ k. spot_there fl w (sym at k) (sym part k)) ∙ f.there)

  next_turn : (c : Context) → HasFired c NextAsked done → IsContext fl c × (is_turn c ≡ true) × (g : ℕ) × (frame_at fl done c ≡ Some g)
  next_turn c (h, d, a, e) =
      let i = first_taken fl w h h.part in
      let s = taken_stands fl p w inputs past m good fit kept i (taken_in fl done h i d (takes_first fl w h)) in
      let at : i.context ≡ c = first_context fl w h h.part ∙ a in
      let part : i.inlet.part ≡ NextAsked = ap (λ (r : Part). (first_taken fl w h r).inlet.part) e in
      let f = fits fl p w inputs past m good fit kept i s in
      let (g, known) = kept.tracks.stands.known i s in
      (subst (IsContext fl) at f.is_context, (λ k. spot_there fl w (sym at k) (sym part k)) ∙ f.there, g, ap (frame_at fl done) (sym at) ∙ known)

  by_call : (c : Context) → (h : Firing) → Contains done h → (n : ℕ) → h.part ≡ Asked n → child fl h.context n ≡ c → HasFired c Entry done
  by_call c h d n e same =
      let f : HasFired h.context (Asked n) done = (h, d, refl, e) in
      let (con, here) = asked_invokes h.context n f in
      subst (λ (c : Context). HasFired c Entry done) same (linked h.context con n here f)

  turn_entered : (d : Context) (n t g : ℕ) → frame_at fl done (Turned d n t) ≡ Some g → HasFired (Turned d n t) Entry done
  turn_entered d n zero g e = by_hand (hander fl done (Turned d n 0) g (λ e. absurd (cc)) e)
    where
      not_first : (c : Context) → next c ≡ Turned d n 0 → is_turn c ≡ true → ⊥
      not_first Main e f = true≢false (sym f)
      not_first (Called c k) e f = true≢false (sym f)
      not_first (Turned c k u) e f = let z : u + 1 ≡ 0 = cc in absurd (omega (arith, z))

      by_hand : Hander fl done (Turned d n 0) → HasFired (Turned d n 0) Entry done
      by_hand (h, x, y) = pick (handed_cases fl (Turned d n 0) h.context h.part y)
        where
          pick : Handed fl (Turned d n 0) h.context h.part → HasFired (Turned d n 0) Entry done
          pick (ByCall k a b) = by_call (Turned d n 0) h x k a b
          pick (ByTurn a b) = absurd (not_first h.context b (next_turn h.context (h, x, refl, a)).1)
  turn_entered d n (suc t) g e = by_hand (hander fl done (Turned d n (suc t)) g (λ e. absurd (cc)) e) (turn_entered d n t)
    where
      by_next : (c : Context) → next c ≡ Turned d n (suc t) → is_turn c ≡ true → c ≡ Turned d n t
      by_next Main e f = absurd (true≢false (sym f))
      by_next (Called c k) e f = absurd (true≢false (sym f))
      by_next (Turned c k u) e f =
          let x : c ≡ d = cc in let y : k ≡ n = cc in let z : u + 1 ≡ suc t = cc in let v : u ≡ t = omega (arith, z) in (λ i. Turned (x i) (y i) (v i))

      by_hand : Hander fl done (Turned d n (suc t)) → ((g : ℕ) → frame_at fl done (Turned d n t) ≡ Some g → HasFired (Turned d n t) Entry done)
          → HasFired (Turned d n (suc t)) Entry done
      by_hand (h, x, y) before = pick (handed_cases fl (Turned d n (suc t)) h.context h.part y)
        where
          pick : Handed fl (Turned d n (suc t)) h.context h.part → HasFired (Turned d n (suc t)) Entry done
          pick (ByCall k a b) = by_call (Turned d n (suc t)) h x k a b
          pick (ByTurn a b) =
              let f : HasFired h.context NextAsked done = (h, x, refl, a) in
              let (con, turn, g', known) = next_turn h.context f in
              let same = by_next h.context b turn in
              let entry : HasFired h.context Entry done =
              subst (λ (c : Context). HasFired c Entry done) (sym same) (before g' (ap (frame_at fl done) (sym same) ∙ known)) in
              subst (λ (c : Context). HasFired c Entry done) b (next_entered h.context con turn entry f)

  pub entered_of : (c : Context) (g : ℕ) → frame_at fl done c ≡ Some g → HasFired c Entry done
  entered_of Main g e =
      let (j, s, same) = begin_stands fl p w inputs past m good fit kept (item Main (inlet Entry Left 0) ToHost)
      (contains_head (item Main (inlet Entry Left 0) ToHost) (input_items 0 inputs)) in
      alone_at Main Entry j s (ap (λ (x : Spot). x.context) same) (ap (λ (x : Spot). x.inlet.part) same) (λ b. refl) refl refl
  entered_of (Called d n) g e = by_hand (hander fl done (Called d n) g (λ e. absurd (cc)) e)
    where
      not_called : (c : Context) → next c ≡ Called d n → is_turn c ≡ true → ⊥
      not_called Main e f = true≢false (sym f)
      not_called (Called c k) e f = true≢false (sym f)
      not_called (Turned c k u) e f = absurd (cc)

      by_hand : Hander fl done (Called d n) → HasFired (Called d n) Entry done
      by_hand (h, x, y) = pick (handed_cases fl (Called d n) h.context h.part y)
        where
          pick : Handed fl (Called d n) h.context h.part → HasFired (Called d n) Entry done
          pick (ByCall k a b) = by_call (Called d n) h x k a b
          pick (ByTurn a b) = absurd (not_called h.context b (next_turn h.context (h, x, refl, a)).1)
  entered_of (Turned d n t) g e = turn_entered d n t g e

  pub entered_at : (i : Item) → Stood i → HasFired i.context Entry done
  entered_at i s = let (g, e) = kept.tracks.stands.known i s in entered_of i.context g e
