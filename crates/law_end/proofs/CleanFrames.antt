-- At rest each context that has a frame was supplied, and so all of it has fired, and its frame was handed back.
use Rattle.std.proofs.Common.{◌≡◌, ℕ, zero, suc, ◌+◌, ◌<◌, Bool, true, false, List, [], ◌∷◌, Option, Some, None, if◌then◌else◌, refl, sym, ap, ◌∙◌, subst}
use Rattle.std.proofs.Common.{arith, true≢false, lt-ltb}
use Rattle.std.specs.Prelude.{Contains}
use Rattle.std.proofs.lemmas.Bool.{and_from}
use Rattle.lemmas.proofs.Contains.{contains_head, contains_tail}
use Rattle.semantics.specs.declared.graph.Region.TheVariants.{Arm}
use Rattle.semantics.specs.Graph.{Flow}
use Rattle.semantics.specs.Meaning.{Context, Main, Called, Turned}
use Rattle.semantics.specs.Cause.{is_turn}
use Rattle.law_confluence.specs.OrdersTotals.{total}
use Rattle.law_confluence.specs.EquationsContexts.{same_context}
use Rattle.law_confluence.proofs.EquationsContexts.{same_context_is}
use Rattle.law_net.specs.ContextsParts.{Part, Entry, Linker, Sender, NextSender, End, Asked, NextAsked, Freed, Inlet, Firing}
use Rattle.law_net.specs.ContextsBlocks.{invokes, source_count, lies_in, entered, flag}
use Rattle.law_net.specs.Contexts.{block_in, child, next}
use Rattle.law_net.specs.ContextsFirings.{handed_to, frame_if, frame_at}
use Rattle.law_net.proofs.WiredInvoked.{Child, ByCall, ByLoop, child_cases}
use Rattle.law_end.specs.Over.{IsOpen}
use Rattle.law_end.proofs.OverMade.{first_in, taken_stands}
use Rattle.law_end.proofs.OverOpen.{stands_open}
use Rattle.law_end.proofs.OverBack.{context_of}
use Rattle.law_end.proofs.OverLeft.{there_here}
use Rattle.law_end.proofs.CleanStill.{AtRest, Fired, freed_arrives}
use Rattle.law_end.proofs.CleanFires.{fires_one}
use Rattle.law_end.proofs.CleanSupplied.{size, AllFired, Supplied, AllSent, main_supplied, call_supplied, loop_supplied, next_supplied, deep}
use Rattle.law_end.proofs.CleanWhole.{all_fired}

-- who handed a frame out
data HandedOut (fl : Flow) (fired : List Firing) (c : Context) : Type 0 where
  By : (f : Firing) → Contains fired f → handed_to fl f.context f.part ≡ Some c → HandedOut fl fired c

handed_later : (fl : Flow) (h : Firing) (fired : List Firing) (c : Context) → HandedOut fl fired c → HandedOut fl (h ∷ fired) c
handed_later fl h fired c (By f d e) = By f (contains_tail h fired f d) e

handed_step : (fl : Flow) (h : Firing) (fired : List Firing) (c : Context) (g : ℕ) (o : Option Context) → handed_to fl h.context h.part ≡ o
    → frame_if o c h.frame (frame_at fl fired c) ≡ Some g → (frame_at fl fired c ≡ Some g → HandedOut fl fired c) → HandedOut fl (h ∷ fired) c
handed_step fl h fired c g None e at more = handed_later fl h fired c (more at)
handed_step fl h fired c g (Some d) e at more = go (same_context d c) refl at
  where
    go : (t : Bool) → same_context d c ≡ t → (if t then Some h.frame else frame_at fl fired c) ≡ Some g → HandedOut fl (h ∷ fired) c
    go true s at = By h (contains_head h fired) (e ∙ ap Some (same_context_is d c s))
    go false s at = handed_later fl h fired c (more at)

handed_out : (fl : Flow) (fired : List Firing) (c : Context) (g : ℕ) → frame_at fl fired c ≡ Some g → (c ≡ Main → ⊥) → HandedOut fl fired c
handed_out fl fired Main g e inner = absurd (inner refl)
handed_out fl [] (Called d n) g e inner = absurd (cc)
handed_out fl [] (Turned d n t) g e inner = absurd (cc)
handed_out fl (h ∷ fired) (Called d n) g e inner =
    handed_step fl h fired (Called d n) g (handed_to fl h.context h.part) refl e (λ at. handed_out fl fired (Called d n) g at inner)
handed_out fl (h ∷ fired) (Turned d n t) g e inner =
    handed_step fl h fired (Turned d n t) g (handed_to fl h.context h.part) refl e (λ at. handed_out fl fired (Turned d n t) g at inner)

-- contexts are apart
call_turn : (c d : Context) (n m t : ℕ) → Called c n ≡ Turned d m t → ⊥
call_turn c d n m t e = absurd (cc)

turn_call : (c d : Context) (n m t : ℕ) → Turned c n t ≡ Called d m → ⊥
turn_call c d n m t e = absurd (cc)

called_same : (c d : Context) (n m : ℕ) → Called c n ≡ Called d m → (c ≡ d) × (n ≡ m)
called_same c d n m e = (cc, cc)

turned_same : (c d : Context) (n m t s : ℕ) → Turned c n t ≡ Turned d m s → (c ≡ d) × (n ≡ m) × (t ≡ s)
turned_same c d n m t s e = (cc, cc, cc)

call_main : (c : Context) (n : ℕ) → Called c n ≡ Main → ⊥
call_main c n e = absurd (cc)

turn_main : (c : Context) (n t : ℕ) → Turned c n t ≡ Main → ⊥
turn_main c n t e = absurd (cc)

module _ (u : AtRest) where
  -- ALL THAT IS SUPPLIED fires: contexts are not deeper than those in which something fired
  whole : (k : ℕ) (c : Context) → total (λ (f : Firing). size f.context) u.kept.tracks.net.fired < size c + k → Supplied u c → AllFired u c
  whole zero c far s = let low = deep u c Entry (fires_one u c s.inside Entry 0 refl refl s.entry) in absurd (omega (arith, far, low))
  whole (suc k) c far s = all_fired u c s (λ d e more. whole k d (omega (arith, far, e)) more)

  pub over : (c : Context) → Supplied u c → AllFired u c
  over c s = whole (suc (total (λ (f : Firing). size f.context) u.kept.tracks.net.fired)) c (omega arith) s

  -- WHAT FIRED has a frame
  known_of : (c : Context) (r : Part) → Fired u c r → (g : ℕ) × (frame_at u.fl u.kept.tracks.net.fired c ≡ Some g)
  known_of c r f =
      let (i, d, a, e) = first_in u.fl u.p u.w u.inputs u.past u.m u.good u.fit u.kept c r f in
      let (g, at) = u.kept.tracks.stands.known i (taken_stands u.fl u.p u.w u.inputs u.past u.m u.good u.fit u.kept i d) in
      (g, ap (frame_at u.fl u.kept.tracks.net.fired) (sym a) ∙ at)

  -- and where it asks is open and there
  asked_there : (c : Context) (n : ℕ) → Fired u c (Asked n)
      → (invokes (block_in u.fl c) n ≡ true) × IsOpen u.fl u.w u.kept.tracks.net.fired c (lies_in (block_in u.fl c) n)
  asked_there c n f =
      let (i, d, a, e) = first_in u.fl u.p u.w u.inputs u.past u.m u.good u.fit u.kept c (Asked n) f in
      let s = taken_stands u.fl u.p u.w u.inputs u.past u.m u.good u.fit u.kept i d in
      let con = context_of u.fl u.p u.w u.inputs u.past u.m u.good u.fit u.kept c (Asked n) f in
      let open' = stands_open u.fl u.p u.w u.inputs u.past u.m u.good u.fit u.kept c con i s a in (
        there_here u.fl u.p u.w u.inputs u.past u.m u.good u.fit u.kept c i s a (Asked n) (ap (λ (x : Inlet). x.part) e),
        subst (λ (x : Inlet). IsOpen u.fl u.w u.kept.tracks.net.fired c (entered (block_in u.fl c) x.part x.way)) e open',
      )

  next_there : (c : Context) → Fired u c NextAsked → (is_turn c ≡ true) × IsOpen u.fl u.w u.kept.tracks.net.fired c (Arm (flag (block_in u.fl c)) true)
  next_there c f =
      let (i, d, a, e) = first_in u.fl u.p u.w u.inputs u.past u.m u.good u.fit u.kept c NextAsked f in
      let s = taken_stands u.fl u.p u.w u.inputs u.past u.m u.good u.fit u.kept i d in
      let con = context_of u.fl u.p u.w u.inputs u.past u.m u.good u.fit u.kept c NextAsked f in
      let open' = stands_open u.fl u.p u.w u.inputs u.past u.m u.good u.fit u.kept c con i s a in (
        there_here u.fl u.p u.w u.inputs u.past u.m u.good u.fit u.kept c i s a NextAsked (ap (λ (x : Inlet). x.part) e),
        subst (λ (x : Inlet). IsOpen u.fl u.w u.kept.tracks.net.fired c (entered (block_in u.fl c) x.part x.way)) e open',
      )

  sent_in : (c : Context) (n : ℕ) → Fired u c (Asked n) → Supplied u c → AllSent u c n
  sent_in c n f s = let (h, open') = asked_there c n f in record {
    linker = over c s (Linker n) h refl open';
    senders = λ l low. over c s (Sender n l) (and_from _ _ h (lt-ltb l (source_count (block_in u.fl c) n) low)) refl open';
    opened = open';
  }

  abbrev HasFrame : Context → Type 0
  HasFrame c = (g : ℕ) × (frame_at u.fl u.kept.tracks.net.fired c ≡ Some g)

  -- WHO ASKED for a frame
  data AskedFor (c : Context) : Type 0 where
    ByNode : (d : Context) (n : ℕ) → Fired u d (Asked n) → Child u.fl u.p u.w u.good d n c → AskedFor c
    ByTurn : (d : Context) (n t : ℕ) → Fired u (Turned d n t) NextAsked → c ≡ Turned d n (suc t) → AskedFor c

  next_turn : (c d : Context) → Fired u d NextAsked → is_turn d ≡ true → next d ≡ c → AskedFor c
  next_turn c Main f t e = absurd (true≢false (sym t))
  next_turn c (Called d n) f t e = absurd (true≢false (sym t))
  next_turn c (Turned d n s) f t e = let up : s + 1 ≡ suc s = omega arith in ByTurn d n s f (sym e ∙ ap (Turned d n) up)

  some_is : (c d : Context) → Some c ≡ Some d → c ≡ d
  some_is c d e = cc

  none_is : (c : Context) → None ≡ Some c → ⊥
  none_is c e = absurd (cc)

  asker_of : (c d : Context) (r : Part) → Fired u d r → handed_to u.fl d r ≡ Some c → AskedFor c
  asker_of c d (Asked n) f e =
      ByNode d n f (subst (Child u.fl u.p u.w u.good d n) (some_is (child u.fl d n) c e)
      (child_cases u.fl u.p u.w u.good d n (asked_there d n f).0))
  asker_of c d NextAsked f e = next_turn c d f (next_there d f).0 (some_is (next d) c e)
  asker_of c d r f e = absurd (none_is c e)

  asked_for : (c : Context) → HasFrame c → (c ≡ Main → ⊥) → AskedFor c
  asked_for c (g, at) inner = go (handed_out u.fl u.kept.tracks.net.fired c g at inner)
    where
      go : HandedOut u.fl u.kept.tracks.net.fired c → AskedFor c
      go (By f d e) = asker_of c f.context f.part (f, d, refl, refl) e

  -- WHERE all invocations are in question
  module _ (all : (c : Context) → u.Inside c) where
    -- EACH CONTEXT that has a frame was supplied
    called_for : (d : Context) (n : ℕ) → (HasFrame d → Supplied u d) → AskedFor (Called d n) → Supplied u (Called d n)
    called_for d n more (ByTurn x m t f e) = absurd (call_turn d x n m (suc t) e)
    called_for d n more (ByNode x m f (ByLoop l e)) = absurd (call_turn d x n m 0 e)
    called_for d n more (ByNode x m f (ByCall l e)) =
        let (a, b) = called_same d x n m e in
        let sup : Supplied u x = subst (Supplied u) a (more (subst HasFrame (sym a) (known_of x (Asked m) f))) in
        subst (Supplied u) (sym e) (call_supplied u x sup.is_context sup.inside m l (sent_in x m f sup))

    turned_for : (d : Context) (n : ℕ) → (HasFrame d → Supplied u d) → (t : ℕ) → HasFrame (Turned d n t) → Supplied u (Turned d n t)
    turned_for d n more zero has = go (asked_for (Turned d n 0) has (turn_main d n 0))
      where
        go : AskedFor (Turned d n 0) → Supplied u (Turned d n 0)
        go (ByTurn x m t f e) = let late' = (turned_same d x n m 0 (suc t) e).2 in absurd (omega (arith, late'))
        go (ByNode x m f (ByCall l e)) = absurd (turn_call d x n m 0 e)
        go (ByNode x m f (ByLoop l e)) =
            let (a, b, o) = turned_same d x n m 0 0 e in
            let sup : Supplied u x = subst (Supplied u) a (more (subst HasFrame (sym a) (known_of x (Asked m) f))) in
            subst (Supplied u) (sym e) (loop_supplied u x sup.is_context sup.inside m l (sent_in x m f sup))
    turned_for d n more (suc t) has = go (asked_for (Turned d n (suc t)) has (turn_main d n (suc t))) (turned_for d n more t)
      where
        next_for : (s : Supplied u (Turned d n t)) → Fired u (Turned d n t) NextAsked → Supplied u (Turned d n (suc t))
        next_for s f =
            let open' = (next_there (Turned d n t) f).1 in
            next_supplied u d s.is_context.0 n t (all (Turned d n (suc t))) s.is_context.1 open'
            (λ j low. over (Turned d n t) s (NextSender j) (lt-ltb j ((block_in u.fl (Turned d n t)).inputs + 1) low) refl open')

        go : AskedFor (Turned d n (suc t)) → (HasFrame (Turned d n t) → Supplied u (Turned d n t)) → Supplied u (Turned d n (suc t))
        go (ByNode x m f (ByCall l e)) back = absurd (turn_call d x n m (suc t) e)
        go (ByNode x m f (ByLoop l e)) back = let late' = (turned_same d x n m (suc t) 0 e).2 in absurd (omega (arith, late'))
        go (ByTurn x m s f e) back =
            let (a, b, o) = turned_same d x n m (suc t) (suc s) e in
            let up : t ≡ s = omega (arith, o) in
            let f' : Fired u (Turned d n t) NextAsked = subst (λ (c : Context). Fired u c NextAsked) (λ k. Turned (sym a k) (sym b k) (sym up k)) f in
            next_for (back (known_of (Turned d n t) NextAsked f')) f'

    pub supplied : (c : Context) → HasFrame c → Supplied u c
    supplied Main has = main_supplied u (all Main)
    supplied (Called d n) has = called_for d n (supplied d) (asked_for (Called d n) has (call_main d n))
    supplied (Turned d n t) has = turned_for d n (supplied d) t has

    -- IT IS OVER, and its frame was handed back
    pub ended : (c : Context) (g : ℕ) → frame_at u.fl u.kept.tracks.net.fired c ≡ Some g → Fired u c End
    ended c g at = let s = supplied c (g, at) in over c s End refl refl s.opened

    pub freed : (c : Context) (g : ℕ) → frame_at u.fl u.kept.tracks.net.fired c ≡ Some g → Fired u c Freed
    freed c g at = fires_one u c (all c) Freed 0 refl refl (freed_arrives u c (ended c g at))
