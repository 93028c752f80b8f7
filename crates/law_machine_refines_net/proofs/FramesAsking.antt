-- Requests for frames, and what the manager answers; what arrives at the host, and frames that are handed back.
use Rattle.std.proofs.Common.{◌≡◌, ℕ, Bool, true, false, [], ◌∷◌, refl, sym, ap, ◌∙◌, if◌then◌else◌}
use Rattle.tags.specs.declared.token.Port.TheVariants.{Left}
use Rattle.semantics.specs.Cause.{is_turn}
use Rattle.law_net.specs.ContextsParts.{Part, Line, Framer, NextFramer, Asked, NextAsked, Fanned, NextFanned, Shown, Done, Freed, inlet, item, Firing, spot_of}
use Rattle.law_net.specs.ContextsBlocks.{is_cell}
use Rattle.law_net.specs.Contexts.{block_in, child, next, is_strict_in}
use Rattle.law_net.specs.ContextsPackages.{doing_of}
use Rattle.law_net.specs.ContextsPackages as Doings
use Rattle.law_machine_refines_net.specs.MovesCases.{Taking, Followed}
use Rattle.law_machine_refines_net.specs.Moves.{AllAskingFollow}
use Rattle.law_machine_refines_net.proofs.MovesFitted.{fits, bare, bare_item, taken_here, lone_port, plain_way}
use Rattle.law_machine_refines_net.proofs.SendsInwards.{carried_as, carried}
use Rattle.law_machine_refines_net.proofs.Hosts.{shown_follows, done_follows, freed_follows}
use Rattle.law_machine_refines_net.proofs.FramesRequested.{plain_framer, next_framer}
use Rattle.law_machine_refines_net.proofs.FramesStrict.{strict_follows}
use Rattle.law_machine_refines_net.proofs.FramesUnframed.{child_main, next_main, asks_child, asks_next, unframed}
use Rattle.law_machine_refines_net.proofs.FramesHanded.{hands_follow}
use Rattle.law_net.proofs.WiredSends.{first_taken}

-- OF A CHILD
module _ (s : Taking) (n : ℕ) (e : s.i.inlet.part ≡ Asked n) where
  abbrev l : Taking
  l = carried_as s (Asked n) e

  asked_item : item s.i.context (inlet (Asked n) Left 0) s.i.word ≡ l.i
  asked_item =
      let k = fits l l.i (taken_here l) in
      let left = lone_port s.fl s.i.context (Asked n) s.i.inlet.port refl k.port in
      let way = plain_way s.fl s.i.context (Asked n) s.i.inlet.port s.i.inlet.way refl k.way in
      sym (bare_item l.i (bare l l.i (taken_here l) refl) (Asked n) Left 0 refl left way)

  asked_spot : (h : Firing) → h.context ≡ s.i.context → h.part ≡ Asked n → spot_of l.i ≡ spot_of (first_taken s.fl s.w h h.part)
  asked_spot h a b =
      sym (ap spot_of asked_item) ∙ (λ t. record { context = sym a t; inlet = inlet (Asked n) Left 0 })
      ∙ sym (ap (λ (r : Part). spot_of (first_taken s.fl s.w h r)) b)

  pub asked_follows : Followed s
  asked_follows = hands_follow l (record {
    to = child s.fl s.i.context n;
    answered = Fanned n;
    asks = refl;
    word = carried l l.i (taken_here l);
    hands = refl;
    makes_is = λ g. refl;
    own = λ g t. asked_item t ∷ [];
    renews = λ g. refl;
    proper = λ g h. h;
    not_main = child_main s.fl s.i.context n;
    unframed = unframed l (child s.fl s.i.context n) (child_main s.fl s.i.context n) (λ x r turn h. asks_child s.fl s.i.context n x r turn h) asked_spot;
    is = refl;
    calm = refl;
    row = refl;
  })

-- OF THE NEXT TURN
module _ (s : Taking) (e : s.i.inlet.part ≡ NextAsked) where
  abbrev m : Taking
  m = carried_as s NextAsked e

  turns : is_turn s.i.context ≡ true
  turns = (fits m m.i (taken_here m)).there

  next_item : item s.i.context (inlet NextAsked Left 0) s.i.word ≡ m.i
  next_item =
      let k = fits m m.i (taken_here m) in
      let left = lone_port s.fl s.i.context NextAsked s.i.inlet.port refl k.port in
      let way = plain_way s.fl s.i.context NextAsked s.i.inlet.port s.i.inlet.way refl k.way in
      sym (bare_item m.i (bare m m.i (taken_here m) refl) NextAsked Left 0 refl left way)

  next_spot : (h : Firing) → h.context ≡ s.i.context → h.part ≡ NextAsked → spot_of m.i ≡ spot_of (first_taken s.fl s.w h h.part)
  next_spot h a b =
      sym (ap spot_of next_item) ∙ (λ t. record { context = sym a t; inlet = inlet NextAsked Left 0 })
      ∙ sym (ap (λ (r : Part). spot_of (first_taken s.fl s.w h r)) b)

  pub next_asked_follows : Followed s
  next_asked_follows = hands_follow m (record {
    to = next s.i.context;
    answered = NextFanned;
    asks = refl;
    word = carried m m.i (taken_here m);
    hands = refl;
    makes_is = λ g. refl;
    own = λ g t. next_item t ∷ [];
    renews = λ g. refl;
    proper = λ g h. h;
    not_main = next_main s.i.context turns;
    unframed = unframed m (next s.i.context) (next_main s.i.context turns) (λ x r turn h. asks_next s.fl s.i.context turns x r turn h) next_spot;
    is = refl;
    calm = refl;
    row = refl;
  })

-- EACH OF THESE PARTS
framer_follows : (s : Taking) (n : ℕ) → s.i.inlet.part ≡ Framer n → Followed s
framer_follows s n e = pick (is_strict_in s.fl s.i.context n) refl
  where
    pick : (t : Bool) → is_strict_in s.fl s.i.context n ≡ t → Followed s
    pick true k = strict_follows s n e k
    pick false k = plain_framer s n e k

asking : (s : Taking) (r : Part) → s.i.inlet.part ≡ r → doing_of s.fl s.i.context r ≡ Doings.Asking → Followed s
asking s (Framer n) e d = framer_follows s n e
asking s NextFramer e d = next_framer s e
asking s (Asked n) e d = asked_follows s n e
asking s NextAsked e d = next_asked_follows s e
asking s (Shown j) e d = shown_follows s j e
asking s Done e d = done_follows s e
asking s Freed e d = freed_follows s e
asking s (Line n) e d = absurd (no_line (is_cell (block_in s.fl s.i.context) n) d)
  where
    no_line : (t : Bool) → (if t then Doings.OfCells else Doings.Inwards) ≡ Doings.Asking → ⊥
    no_line true h = absurd (cc)
    no_line false h = absurd (cc)
asking s r e d = absurd (cc)

-- OF ALL GRAPHS
pub all_asking_follow : AllAskingFollow
all_asking_follow fl p w inputs z q m new e t good k ev fresh i others perm is_token doing =
    asking
    (record {
      fl = fl;
      p = p;
      w = w;
      inputs = inputs;
      z = z;
      q = q;
      m = m;
      new = new;
      e = e;
      t = t;
      good = good;
      keeps = k;
      event = ev;
      fresh = fresh;
      i = i;
      others = others;
      perm = perm;
      is_token = is_token;
    }) i.inlet.part refl doing
