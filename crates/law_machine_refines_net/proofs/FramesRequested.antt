-- A call, a loop or a turn asks the manager for a frame.
use Rattle.std.proofs.Common.{◌≡◌, ℕ, Bool, true, false, List, [], ◌∷◌, ◌++◌, map, refl, sym, ap, ◌∙◌, subst, inl, inr, ◌⊎◌, true≢false, Some, None}
use Rattle.std.proofs.Common.{if◌then◌else◌}
use Rattle.std.specs.Prelude.{IsPermutation, Contains}
use Rattle.std.proofs.lemmas.List.Elements.{Contains-append_cases}
use Rattle.lemmas.proofs.Permutations.{permutation_same}
use Rattle.tags.specs.declared.token.Port.TheVariants.{Left}
use Rattle.semantics.specs.Meaning.{Context}
use Rattle.semantics.specs.Machine.{Store}
use Rattle.law_net.specs.ContextsParts.{Part, Framer, NextFramer, Fanned, NextFanned, Asked, NextAsked, Inlet, inlet, BackTo, signal, Item, item, Firing}
use Rattle.law_net.specs.ContextsBlocks.{source_count}
use Rattle.law_net.specs.Contexts.{block_in, is_strict_in}
use Rattle.law_net.specs.ContextsFirings.{Config, takes, own_takes, renewed, makes, handed_to, frame_at, IsProper}
use Rattle.law_net.specs.ContextsMirror.{token_of, named_by, is_in_cell, is_instr, Mirrors}
use Rattle.law_machine_refines_net.specs.MovesCases.{Taking, IsCaused, net_of, Followed}
use Rattle.law_machine_refines_net.proofs.MovesLists.{one_holds}
use Rattle.law_machine_refines_net.proofs.MovesParts.{is_credit, is_lending}
use Rattle.law_machine_refines_net.proofs.MovesAccount.{Account, Nothing, gone_alone, alone_fires, reordered}
use Rattle.law_machine_refines_net.proofs.MovesFramed.{HandNone, frames_stay}
use Rattle.law_machine_refines_net.proofs.MovesLoops.{unlent, unlent_loops}
use Rattle.law_machine_refines_net.proofs.MovesBalanced.{WasThere, UsedNow, Sound, balanced}
use Rattle.law_machine_refines_net.proofs.MovesPlain.{is_silent, instr_silent, words_stay, pool_of, tokens_of, sound_of, good_stay, slots_stay, requests_stay}
use Rattle.law_machine_refines_net.proofs.MovesPlain.{readers_stay, memory_of_silent, recalls}
use Rattle.law_machine_refines_net.proofs.MovesSettled.{made_but, meant_other}
use Rattle.law_machine_refines_net.proofs.MovesFitted.{fits, framed, bare, bare_item, taken_here, lone_port, plain_way, others_before}
use Rattle.law_machine_refines_net.proofs.Sends.{firing_of, stays_same}
use Rattle.law_machine_refines_net.proofs.SendsInwards.{carried_as}
use Rattle.law_machine_refines_net.proofs.FramesWanted.{Wants, back, request, did, made_token, used_now, wants_free, asked_calm, asked_held, asked_instr}

-- A PART THAT ASKS for a frame, and what fires
pub record Seeks (s : Taking) : Type 0 where
  pub wants : Wants s
  pub own : own_takes s.fl (firing_of s 0 s.i.word signal) s.i.inlet.part ≡ s.i ∷ []
  pub renews : renewed s.fl (firing_of s 0 s.i.word signal) s.i.inlet.part ≡ []
  pub makes_is : makes s.fl s.w (firing_of s 0 s.i.word signal) ≡ request s wants ∷ []
  pub proper : IsProper s.fl (net_of s).fired (firing_of s 0 s.i.word signal)
  pub hands : handed_to s.fl s.i.context s.i.inlet.part ≡ None
  pub lends : is_lending s.i.inlet.part ≡ false

module _ (s : Taking) (g : Seeks s) where
  abbrev net : Config
  net = net_of s

  abbrev old : Mirrors s.fl s.p s.w s.m net
  old = s.keeps.tracks.stands

  abbrev c : Context
  c = s.i.context

  abbrev r : Part
  r = s.i.inlet.part

  abbrev f : Firing
  f = firing_of s 0 s.i.word signal

  abbrev ask : Item
  ask = request s g.wants

  took : takes s.fl f ≡ s.i ∷ []
  took = λ t. g.own t ++ g.renews t

  abbrev after_it : Config
  after_it = gone_alone s (Nothing s) f took g.proper

  account : Account s (Nothing s) after_it (f ∷ []) (ask ∷ [])
  account = reordered (alone_fires s (Nothing s) f took g.proper) (ask ∷ []) (permutation_same _ _ g.makes_is)

  none : HandNone s.fl (f ∷ [])
  none = one_holds (λ (h : Firing). handed_to s.fl h.context h.part ≡ None) f g.hands

  of_request : (P : Item → Type 0) → P ask → (j : Item) → Contains (ask ∷ []) j → P j
  of_request P h j k = one_holds P ask h j k

  named_here : (d : Context) → named_by (back s g.wants) ≡ Some d → (n : ℕ) × (frame_at s.fl net.fired d ≡ Some n)
  named_here d e = let z : c ≡ d = cc in subst (λ (d : Context). (n : ℕ) × (frame_at s.fl net.fired d ≡ Some n)) z (framed s s.i (taken_here s))

  asked_here : (d : Context) (x : Inlet) → back s g.wants ≡ BackTo d x → WasThere s ask ⊎ UsedNow s d x
  asked_here d x e =
      let z : c ≡ d = cc in let v : inlet g.wants.answered Left 0 ≡ x = cc in
      inr (subst (λ x. UsedNow s d x) v (subst (λ d. UsedNow s d (inlet g.wants.answered Left 0)) z (used_now s g.wants)))

  sound : Sound s after_it ask
  sound = sound_of account none ask (framed s s.i (taken_here s)) named_here asked_here

  made_is : IsPermutation s.event.made (map (token_of s.fl s.p s.w net.fired) (ask ∷ []))
  made_is = permutation_same _ _ (made_token s g.wants)

  not_held : (j : Item) → Contains (ask ∷ []) j → is_in_cell j.inlet.part ≡ false
  not_held = of_request (λ (j : Item). is_in_cell j.inlet.part ≡ false) (asked_held g.wants.asked g.wants.seek)

  pub frame_follows : Followed s
  frame_follows = balanced {T = Nothing s} {d = after_it} {new = f ∷ []} {made = ask ∷ []} (record {
    account = account;
    frames = frames_stay account none;
    base = old.base;
    loops =
        unlent_loops account (frames_stay account none) (words_stay account none)
        (unlent s (Nothing s) after_it (f ∷ []) (ask ∷ []) (wants_free s g.wants) (one_holds (λ (h : Firing). is_lending h.part ≡ false) f g.lends)
        (λ j t. absurd t)
        (of_request (λ (j : Item). is_credit j.inlet.part ≡ false) (asked_calm g.wants.asked g.wants.seek)));
    words = words_stay account none;
    sound = of_request (Sound s after_it) sound;
    pool = pool_of account none (ask ∷ []) made_is (permutation_same _ _ (ap (λ l. l ++ s.others) g.makes_is));
    tokens =
        tokens_of account none (ap (λ l. l ++ []) g.renews) (made_but s (ask ∷ []) made_is (λ j h. meant_other s.fl s.p s.w net.fired j (not_held j h)));
    caused = λ j h i e. caused j i (Contains-append_cases (makes s.fl s.w f) s.others j h);
    good = good_stay account not_held;
    waits = λ j t. absurd t;
    slots = slots_stay account (ap (λ (x : Store). x.slots) (did s g.wants).1) (λ j t. absurd t);
    requests = requests_stay account (ap (λ (x : Store). x.requests) (did s g.wants).1) (λ j t. absurd t);
    readers = λ x. readers_stay account x (ap (λ (y : Store). y.cells x) (did s g.wants).1) (λ j t. absurd t);
    memory =
        memory_of_silent account none (one_holds (λ (h : Firing). is_silent h.part ≡ true) f (instr_silent r g.wants.is))
        (recalls s (stays_same s (did s g.wants).1));
  })
    where
      caused : (j : Item) → (is_instr j.inlet.part ≡ true) → Contains (makes s.fl s.w f) j ⊎ Contains s.others j → Contains net.pending j ⊎ IsCaused s j
      caused j i (inl h) =
          absurd (true≢false (sym i ∙ of_request (λ (j : Item). is_instr j.inlet.part ≡ false) (asked_instr g.wants.asked g.wants.seek) j
          (subst (λ l. Contains l j) g.makes_is h)))
      caused j i (inr h) = inl (others_before s j h)

-- A CALL OR A LOOP that waits for no arguments
module _ (s : Taking) (n : ℕ) (e : s.i.inlet.part ≡ Framer n) (plain : is_strict_in s.fl s.i.context n ≡ false) where
  abbrev framer : Taking
  framer = carried_as s (Framer n) e

  framer_item : item s.i.context (inlet (Framer n) Left 0) s.i.word ≡ framer.i
  framer_item =
      let k = fits framer framer.i (taken_here framer) in
      let left = lone_port s.fl s.i.context (Framer n) s.i.inlet.port refl k.port in
      let way = plain_way s.fl s.i.context (Framer n) s.i.inlet.port s.i.inlet.way refl k.way in
      sym (bare_item framer.i (bare framer framer.i (taken_here framer) refl) (Framer n) Left 0 refl left way)

  pub plain_framer : Followed s
  plain_framer = frame_follows framer (record {
    wants = record { asked = Asked n; answered = Fanned n; one = refl; is = refl; op = refl; leads = refl; no_wire = refl; seek = refl; row = refl };
    own = λ t. framer_item t ∷ [];
    renews = either (is_strict_in s.fl s.i.context n);
    makes_is =
        ap (λ l. item s.i.context (inlet (Asked n) Left 0) (BackTo s.i.context (inlet (Fanned n) Left 0)) ∷ l) (either (is_strict_in s.fl s.i.context n));
    proper = sym (ap (λ t. if t then source_count (block_in s.fl s.i.context) n else 0) plain);
    hands = refl;
    lends = refl;
  })
    where
      no_items : List Item
      no_items = []

      either : (t : Bool) → (if t then [] else []) ≡ no_items
      either true = refl
      either false = refl

-- THE NEXT TURN
module _ (s : Taking) (e : s.i.inlet.part ≡ NextFramer) where
  abbrev turner : Taking
  turner = carried_as s NextFramer e

  turner_item : item s.i.context (inlet NextFramer Left 0) s.i.word ≡ turner.i
  turner_item =
      let k = fits turner turner.i (taken_here turner) in
      let left = lone_port s.fl s.i.context NextFramer s.i.inlet.port refl k.port in
      let way = plain_way s.fl s.i.context NextFramer s.i.inlet.port s.i.inlet.way refl k.way in
      sym (bare_item turner.i (bare turner turner.i (taken_here turner) refl) NextFramer Left 0 refl left way)

  pub next_framer : Followed s
  next_framer = frame_follows turner (record {
    wants = record { asked = NextAsked; answered = NextFanned; one = refl; is = refl; op = refl; leads = refl; no_wire = refl; seek = refl; row = refl };
    own = λ t. turner_item t ∷ [];
    renews = refl;
    makes_is = refl;
    proper = tt;
    hands = refl;
    lends = refl;
  })
