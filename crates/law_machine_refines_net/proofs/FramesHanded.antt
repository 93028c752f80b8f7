-- The manager hands a frame out: it is that of one context more, and the net follows.
use Rattle.std.proofs.Common.{◌≡◌, ℕ, ◌+◌, ◌<◌, ◌*◌, Bool, true, false, List, [], ◌∷◌, ◌++◌, map, refl, sym, ap, ◌∙◌, subst, inl, inr, ◌⊎◌, arith, true≢false}
use Rattle.std.proofs.Common.{Option, Some, if◌then◌else◌}
use Rattle.std.specs.Prelude.{Contains, flat_map}
use Rattle.std.proofs.lemmas.Bool.{cases_eq}
use Rattle.std.proofs.lemmas.List.Elements.{Contains-append_left, Contains-append_right}
use Rattle.std.proofs.lemmas.List.Sorted.{IsPermutation-trans, IsPermutation-append}
use Rattle.lemmas.proofs.Permutations.{permutation_same}
use Rattle.lemmas.proofs.Contains.{contains_cases, contains_head}
use Rattle.tags.specs.declared.token.Port.TheVariants.{Left}
use Rattle.tags.specs.declared.token.Word.{Word}
use Rattle.tags.specs.declared.token.To.{To}
use Rattle.semantics.specs.Graph.{Flow}
use Rattle.semantics.specs.Meaning.{Context, Main, Called, Turned}
use Rattle.semantics.specs.Machine.{Store, answer, with_out, with_requests, put_at, value_in}
use Rattle.semantics.specs.Handed.{handed_by}
use Rattle.semantics.specs.Rule.{token}
use Rattle.semantics.proofs.Stores.{put_other}
use Rattle.law_confluence.proofs.NetSlots.{put_same}
use Rattle.law_confluence.proofs.Orders.{at_first, at_last}
use Rattle.law_confluence.specs.EquationsContexts.{same_context}
use Rattle.law_confluence.proofs.EquationsContexts.{same_context_is, same_itself}
use Rattle.law_net.specs.ContextsParts.{Freed, inlet, FrameOf, Item, item, Firing}
use Rattle.law_net.specs.Contexts.{or_zero}
use Rattle.law_net.specs.ContextsFirings.{Config, takes, handed_to, frame_at, frame_if, frames_of, frames_if, HasFired}
use Rattle.law_net.specs.ContextsLaws.{is_main}
use Rattle.law_net.specs.ContextsMirror.{frame_of, ip_of, word_of, token_of, only, is_in_cell, but_cells, WasUsed, Mirrors}
use Rattle.law_machine_refines_net.specs.MovesCases.{Taking, IsCaused, net_of, Followed}
use Rattle.law_machine_refines_net.proofs.MovesLists.{one_holds}
use Rattle.law_machine_refines_net.proofs.MovesParts.{is_credit, is_lending}
use Rattle.law_machine_refines_net.proofs.MovesStill.{to_instr}
use Rattle.law_machine_refines_net.proofs.MovesAccount.{Account, Nothing, gone_alone, alone_fires, reordered}
use Rattle.law_machine_refines_net.proofs.MovesLasting.{Lasts, item_word, tokens_last}
use Rattle.law_machine_refines_net.proofs.MovesFramed.{Frames}
use Rattle.law_machine_refines_net.proofs.MovesLoops.{unlent, unlent_loops}
use Rattle.law_machine_refines_net.proofs.MovesBalanced.{Sound, balanced}
use Rattle.law_machine_refines_net.proofs.MovesPlain.{is_silent, AreSilent, Recalled, good_stay, slots_stay, requests_stay, readers_stay, silent_seen}
use Rattle.law_machine_refines_net.proofs.MovesPlain.{silent_ends, done_stays, fired_still, fired_before}
use Rattle.law_machine_refines_net.proofs.MovesSettled.{rest_is, cells_out, meant_other, nh}
use Rattle.law_machine_refines_net.proofs.MovesFitted.{framed, taken_here, others_before, instr_held}
use Rattle.law_machine_refines_net.proofs.Hosts.{frame_among}
use Rattle.law_machine_refines_net.proofs.FramesUnframed.{no_firing}
use Rattle.law_machine_refines_net.proofs.FramesManaged.{Hands, hand_out, cont, to_manager, requested, manager_free, asked_lends, asked_silent}
use Rattle.law_machine_refines_net.proofs.FramesQueued.{queued_follows}

-- FRAMES after one was handed out for d
frame_now : (fl : Flow) (f : Firing) (fired : List Firing) (d : Context) → is_main d ≡ false → handed_to fl f.context f.part ≡ Some d
    → frame_at fl (f ∷ fired) d ≡ Some f.frame
frame_now fl f fired Main m e = absurd (true≢false m)
frame_now fl f fired (Called c n) m e = ap (λ (o : Option Context). frame_if o (Called c n) f.frame (frame_at fl fired (Called c n))) e
    ∙ ap (λ t. if t then Some f.frame else frame_at fl fired (Called c n)) (same_itself (Called c n))
frame_now fl f fired (Turned c n i) m e = ap (λ (o : Option Context). frame_if o (Turned c n i) f.frame (frame_at fl fired (Turned c n i))) e
    ∙ ap (λ t. if t then Some f.frame else frame_at fl fired (Turned c n i)) (same_itself (Turned c n i))

frame_else : (fl : Flow) (f : Firing) (fired : List Firing) (d c : Context) → handed_to fl f.context f.part ≡ Some d → same_context d c ≡ false
    → frame_at fl (f ∷ fired) c ≡ frame_at fl fired c
frame_else fl f fired d Main e n = refl
frame_else fl f fired d (Called c k) e n =
    ap (λ (o : Option Context). frame_if o (Called c k) f.frame (frame_at fl fired (Called c k))) e
    ∙ ap (λ t. if t then Some f.frame else frame_at fl fired (Called c k)) n
frame_else fl f fired d (Turned c k i) e n =
    ap (λ (o : Option Context). frame_if o (Turned c k i) f.frame (frame_at fl fired (Turned c k i))) e
    ∙ ap (λ t. if t then Some f.frame else frame_at fl fired (Turned c k i)) n

module _ (s : Taking) (k : Hands s) (g : ℕ) (made : s.event.made ≡ answer (cont s k) (Word.Frame g) ∷ [])
    (store : s.new.store ≡ with_out s.m.store g true) where
  abbrev net : Config
  net = net_of s

  abbrev old : Mirrors s.fl s.p s.w s.m net
  old = s.keeps.tracks.stands

  abbrev c : Context
  c = s.i.context

  abbrev f : Firing
  f = hand_out s g

  abbrev one : Item
  one = item s.i.context (inlet k.answered Left 0) (FrameOf k.to)

  -- the frame is nobody's so far
  handed_now : handed_by s.t.to s.event.made ≡ g ∷ []
  handed_now = (λ t. handed_by (to_manager s k t) (made t))

  not_handed : Contains (0 ∷ frames_of s.fl net.fired) g → ⊥
  not_handed h = s.fresh g (subst (λ l. Contains l g) (sym handed_now) (contains_head g [])) (s.keeps.tracks.handed g h)

  nobodys : (d : Context) → frame_at s.fl net.fired d ≡ Some g → ⊥
  nobodys d e = not_handed (frame_among s.fl net.fired d g e)

  took : takes s.fl f ≡ s.i ∷ []
  took = λ t. k.own g t ++ k.renews g t

  abbrev grown : Config
  grown = gone_alone s (Nothing s) f took (k.proper g not_handed)

  account : Account s (Nothing s) grown (f ∷ []) (one ∷ [])
  account = reordered (alone_fires s (Nothing s) f took (k.proper g not_handed)) (one ∷ []) (permutation_same _ _ (k.makes_is g))

  -- THE FRAMES
  at_to : frame_at s.fl grown.fired k.to ≡ Some g
  at_to = frame_now s.fl f net.fired k.to k.not_main k.hands

  grows : (d : Context) (n : ℕ) → frame_at s.fl net.fired d ≡ Some n → frame_at s.fl grown.fired d ≡ Some n
  grows d n e = go (same_context k.to d) refl
    where
      go : (t : Bool) → same_context k.to d ≡ t → frame_at s.fl grown.fired d ≡ Some n
      go true x = absurd (k.unframed n (ap (frame_at s.fl net.fired) (same_context_is k.to d x) ∙ e))
      go false x = frame_else s.fl f net.fired k.to d k.hands x ∙ e

  newer : (d : Context) (n : ℕ) → frame_at s.fl grown.fired d ≡ Some n → (frame_at s.fl net.fired d ≡ Some n) ⊎ ((d ≡ k.to) × (n ≡ g))
  newer d n e = go (same_context k.to d) refl
    where
      go : (t : Bool) → same_context k.to d ≡ t → (frame_at s.fl net.fired d ≡ Some n) ⊎ ((d ≡ k.to) × (n ≡ g))
      go true x = let same = sym (same_context_is k.to d x) in let z : Some n ≡ Some g = sym e ∙ ap (frame_at s.fl grown.fired) same ∙ at_to in inr (same, cc)
      go false x = inl (sym (frame_else s.fl f net.fired k.to d k.hands x) ∙ e)

  frames : Frames s grown
  frames = record {
    gave = Some (k.to, g);
    grows = grows;
    newer = newer;
    fresh = λ d n e. (
      λ h x. k.unframed h (ap (frame_at s.fl net.fired) (sym e.0) ∙ x),
      λ x y. nobodys x (y ∙ ap (λ n. Some n) e.1),
    );
    handed = λ h i.
        pick h (contains_cases g (frames_of s.fl net.fired) h
        (subst (λ (o : Option Context). Contains (frames_if o g ++ frames_of s.fl net.fired) h) k.hands i));
  }
    where
      pick : (h : ℕ) → (g ≡ h) ⊎ Contains (frames_of s.fl net.fired) h → Contains (frames_of s.fl net.fired) h ⊎ Contains (handed_by s.t.to s.event.made) h
      pick h (inl e) = inr (subst (λ l. Contains l h) (sym handed_now) (subst (λ h. Contains (g ∷ []) h) e (contains_head g [])))
      pick h (inr i) = inl i

  lasts : (j : Item) → Contains (net.pending ++ (net.waiting ++ flat_map (takes s.fl) net.fired)) j → Lasts s.fl s.p s.w net.fired grown.fired j
  lasts j h = record { own = frame_lasts j.context (old.known j h); named = λ d e. frame_lasts d (old.named j d h e) }
    where
      frame_lasts : (d : Context) → (n : ℕ) × (frame_at s.fl net.fired d ≡ Some n) → frame_of s.fl grown.fired d ≡ frame_of s.fl net.fired d
      frame_lasts d e = ap or_zero (grows d e.0 e.1 ∙ sym e.1)

  words : (j : Item) → Contains net.waiting j → word_of s.fl s.p s.w grown.fired j.word ≡ word_of s.fl s.p s.w net.fired j.word
  words j h =
      item_word s.fl s.p s.w net.fired grown.fired j (lasts j (Contains-append_right net.pending (net.waiting ++ flat_map (takes s.fl) net.fired) j
      (Contains-append_left net.waiting (flat_map (takes s.fl) net.fired) j h)))

  -- THE TOKEN
  given_token : s.event.made ≡ map (token_of s.fl s.p s.w grown.fired) (one ∷ [])
  given_token =
      let to = to_instr s.fl s.p s.w grown.fired one k.answered k.is in
      let e = framed s s.i (taken_here s) in
      let own : frame_of s.fl grown.fired c ≡ frame_of s.fl net.fired c = ap or_zero (grows c e.0 e.1 ∙ sym e.1) in
      let name = ap or_zero at_to in
      made ∙ (λ t. token (To.Instr (sym own t) (ip_of s.fl s.p s.w c k.answered) Left) (Word.Frame (sym name t)) ∷ [])
      ∙ (λ t. token (sym to t) (word_of s.fl s.p s.w grown.fired (FrameOf k.to)) ∷ [])

  sound : Sound s grown one
  sound = record { known = framed s s.i (taken_here s); named = λ d e. at_named d e; asked = λ d x e. absurd (cc) }
    where
      at_named : (d : Context) → Some k.to ≡ Some d → (n : ℕ) × (frame_at s.fl grown.fired d ≡ Some n)
      at_named d e = let z : k.to ≡ d = cc in (g, sym (ap (frame_at s.fl grown.fired) z) ∙ at_to)

  -- its arc was used when the frame was asked for
  answered_arc : IsCaused s one
  answered_arc =
      let row = k.row in
      let u = s.keeps.tracks.asked s.i c (inlet k.answered Left 0) 0 (taken_here s) k.word (omega (arith, row)) in
      let z : ip_of s.fl s.p s.w c k.answered + 0 ≡ ip_of s.fl s.p s.w c k.answered = omega arith in
      inr (subst (λ ip. WasUsed s.p s.q.steps (frame_of s.fl net.fired c) ip Left) z u)

  not_held : (j : Item) → Contains (one ∷ []) j → is_in_cell j.inlet.part ≡ false
  not_held = one_holds (λ (j : Item). is_in_cell j.inlet.part ≡ false) one (instr_held k.answered k.is)

  -- THE STORE
  silent : AreSilent (f ∷ [])
  silent = one_holds (λ (h : Firing). is_silent h.part ≡ true) f (asked_silent s.i.inlet.part k.asks)

  seen_before : Recalled s
  seen_before = record {
    outputs = λ j. ap (λ (x : Store). x.outputs j) store;
    cells = λ y. ap (λ (x : Store). value_in (x.cells y)) store;
    done = ap (λ (x : Store). x.done) store;
  }

  out_is : (n : ℕ) → s.new.store.out n ≡ put_at s.m.store.out g true n
  out_is n = ap (λ (x : Store). x.out n) store

  pub handed_follows : Followed s
  handed_follows = balanced {T = Nothing s} {d = grown} {new = f ∷ []} {made = one ∷ []} (record {
    account = account;
    frames = frames;
    base = old.base;
    loops = unlent_loops account frames words (unlent s (Nothing s) grown (f ∷ []) (one ∷ []) (manager_free s k)
        (one_holds (λ (h : Firing). is_lending h.part ≡ false) f (asked_lends s.i.inlet.part k.asks)) (λ j t. absurd t)
        (one_holds (λ (j : Item). is_credit j.inlet.part ≡ false) one k.calm));
    words = words;
    sound = one_holds (Sound s grown) one sound;
    pool =
        at_last (IsPermutation-trans _ _ _ s.event.leaves
        (IsPermutation-append _ _ _ _ (permutation_same _ _ given_token)
        (at_last (rest_is s) (sym (tokens_last s.fl s.p s.w net.fired grown.fired s.others
        (λ j h. lasts j (Contains-append_left net.pending (net.waiting ++ flat_map (takes s.fl) net.fired) j (others_before s j h))))))))
        (sym (ap (λ l. map (token_of s.fl s.p s.w grown.fired) (l ++ s.others)) (k.makes_is g)));
    tokens =
        at_first (ap (λ l. map (token_of s.fl s.p s.w grown.fired) (only (nh s) (l ++ [])) ++ but_cells s.event.made) (k.renews g))
        (permutation_same _ _ (ap but_cells given_token
        ∙ cells_out s.fl s.p s.w grown.fired (one ∷ []) (λ j h. meant_other s.fl s.p s.w grown.fired j (not_held j h))));
    caused = λ j h i e. caused j (contains_cases one s.others j (subst (λ l. Contains (l ++ s.others) j) (k.makes_is g) h));
    good = good_stay account not_held;
    waits = λ j t. absurd t;
    slots = slots_stay account (ap (λ (x : Store). x.slots) store) (λ j t. absurd t);
    requests = requests_stay account (ap (λ (x : Store). x.requests) store) (λ j t. absurd t);
    readers = λ x. readers_stay account x (ap (λ (y : Store). y.cells x) store) (λ j t. absurd t);
    memory = record {
      seen = silent_seen account silent seen_before;
      done = done_stays account (silent_ends (f ∷ []) silent) seen_before.done;
      out = λ d n e. out d n (newer d n e);
      not_out = λ n o. not_out n (cases_eq g n) (sym (out_is n) ∙ o);
    };
  })
    where
      caused : (j : Item) → (one ≡ j) ⊎ Contains s.others j → Contains net.pending j ⊎ IsCaused s j
      caused j (inl e) = inr (subst (IsCaused s) e answered_arc)
      caused j (inr h) = inl (others_before s j h)

      before : (d : Context) → HasFired d Freed grown.fired → HasFired d Freed net.fired
      before d h = fired_before (f ∷ []) net.fired (silent_ends (f ∷ []) silent) d Freed refl h

      out : (d : Context) (n : ℕ) → (frame_at s.fl net.fired d ≡ Some n) ⊎ ((d ≡ k.to) × (n ≡ g))
          → (s.new.store.out n ≡ false → HasFired d Freed grown.fired) × (HasFired d Freed grown.fired → s.new.store.out n ≡ false)
      out d n (inl e) =
          let same = out_is n ∙ put_other s.m.store.out g n true (λ x. nobodys d (e ∙ ap (λ n. Some n) (sym x))) in
          (λ o. fired_still (f ∷ []) net.fired d Freed ((old.out d n e).0 (sym same ∙ o)), λ h. same ∙ (old.out d n e).1 (before d h))
      out d n (inr e) = (
        λ o. absurd (true≢false (sym (put_same s.m.store.out g true) ∙ ap (put_at s.m.store.out g true) (sym e.1) ∙ sym (out_is n) ∙ o)),
        λ h. let b = before d h in absurd (no_firing s k.to k.unframed b.0 b.1 (b.2 ∙ e.0)),
      )

      not_out : (n : ℕ) → (g ≡ n) ⊎ (g ≡ n → ⊥) → put_at s.m.store.out g true n ≡ true → (d : Context) × (frame_at s.fl grown.fired d ≡ Some n)
      not_out n (inl e) o = (k.to, at_to ∙ ap (λ n. Some n) e)
      not_out n (inr x) o = let b = old.not_out n (sym (put_other s.m.store.out g n true x) ∙ o) in (b.0, grows b.0 n b.1)

-- THE MANAGER'S EVENT
pub hands_follow : (s : Taking) → Hands s → Followed s
hands_follow s k = pick (requested s k)
  where
    pick : ((g : ℕ) × (g < s.z.elements * s.z.frames) × (s.m.store.out g ≡ false) × (s.event.made ≡ answer (cont s k) (Word.Frame g) ∷ [])
        × (s.new.store ≡ with_out s.m.store g true))
        ⊎ (((g : ℕ) → g < s.z.elements * s.z.frames → s.m.store.out g ≡ true) × (s.event.made ≡ [])
        × (s.new.store ≡ with_requests s.m.store (s.m.store.requests ++ cont s k ∷ []))) → Followed s
    pick (inl (g, l, o, m, st)) = handed_follows s k g m st
    pick (inr (l, m, st)) = queued_follows s k m st
