-- A strict call asks for its frame: the net follows.
use Rattle.std.proofs.Common.{◌≡◌, ℕ, Bool, true, false, List, [], ◌∷◌, ◌++◌, map, refl, sym, ap, ◌∙◌, subst, inl, inr, ◌⊎◌, true≢false, Some, if◌then◌else◌}
use Rattle.std.proofs.Common.{append-nil, None}
use Rattle.std.specs.Prelude.{IsPermutation, Contains}
use Rattle.std.proofs.lemmas.List.{map-append}
use Rattle.std.proofs.lemmas.List.Sorted.{IsPermutation-refl, IsPermutation-trans, IsPermutation-sym, IsPermutation-map, IsPermutation-append}
use Rattle.std.proofs.lemmas.List.Sorted.{IsPermutation-append_right}
use Rattle.lemmas.proofs.Permutations.{permutation_same}
use Rattle.lemmas.proofs.Contains.{contains_cases, contains_mapped}
use Rattle.tags.specs.declared.token.Port.TheVariants.{Left}
use Rattle.tags.specs.declared.token.Token.{Token}
use Rattle.tags.specs.declared.slot.SlotState.{SlotState}
use Rattle.semantics.specs.Meaning.{Context}
use Rattle.semantics.specs.Machine.{Store}
use Rattle.law_confluence.proofs.NetSlots.{InSlots, AtSlot}
use Rattle.law_confluence.proofs.Orders.{shuffled, Part as Piece, ◌⊕◌, at_first, at_last}
use Rattle.law_net.specs.ContextsParts.{Part, Framer, Fanned, Sender, Inlet, inlet, BackTo, Item, Firing}
use Rattle.law_net.specs.Contexts.{block_in, is_strict_in}
use Rattle.law_net.specs.ContextsFirings.{Config, frame_at, handed_to, renewed}
use Rattle.law_net.specs.ContextsMirror.{frame_of, word_of, token_of, on_side, in_slot, slot_of, only, named_by, is_in_cell, is_instr, is_entry_part, but_cells}
use Rattle.law_net.specs.ContextsMirror.{Mirrors}
use Rattle.law_machine_refines_net.specs.MovesCases.{Taking, net_of, Followed, IsCaused}
use Rattle.law_machine_refines_net.proofs.MovesLists.{contains_one, kept_in, kept_out, one_holds}
use Rattle.law_machine_refines_net.proofs.MovesParts.{is_credit, is_lending, quiet_calm, pair_quiet, pair_asked, pair_reads}
use Rattle.law_machine_refines_net.proofs.MovesAccount.{Account, renews}
use Rattle.law_machine_refines_net.proofs.MovesFramed.{HandNone, frames_stay}
use Rattle.law_machine_refines_net.proofs.MovesLoops.{Unlent, unlent, unlent_loops}
use Rattle.law_machine_refines_net.proofs.MovesBalanced.{UsedNow, Sound, WasThere, balanced}
use Rattle.law_machine_refines_net.proofs.MovesPlain.{Stays, is_silent, words_stay, tokens_stay, sound_of, good_stay, requests_stay, readers_stay}
use Rattle.law_machine_refines_net.proofs.MovesPlain.{memory_of_silent, recalls}
use Rattle.law_machine_refines_net.proofs.MovesSettled.{rest_is, made_but, meant_other, nh}
use Rattle.law_machine_refines_net.proofs.MovesFitted.{framed, taken_here, among}
use Rattle.law_machine_refines_net.proofs.Sends.{stays_same}
use Rattle.law_machine_refines_net.proofs.FramesWanted.{did, made_token, used_now, wants_free}
use Rattle.law_machine_refines_net.proofs.FramesRenewed as Renewed
use Rattle.law_machine_refines_net.proofs.FramesRenewed.{up, token_up, tokens_up, framing, framer_wants, renewed_net}

module _ (s0 : Taking) (n : ℕ) (e : s0.i.inlet.part ≡ Framer n) (strict : is_strict_in s0.fl s0.i.context n ≡ true) where
  abbrev s : Taking
  s = framing s0 n e strict

  abbrev net : Config
  net = net_of s

  abbrev old : Mirrors s.fl s.p s.w s.m net
  old = s.keeps.tracks.stands

  abbrev c : Context
  c = s0.i.context

  abbrev Kind : Item → Type 0
  Kind j = in_slot s0.fl j ≡ true

  abbrev new : Config
  new = renewed_net s0 n e strict

  abbrev f : Firing
  f = Renewed.call s0 n e strict

  abbrev ask : Item
  ask = Renewed.ask s0 n e strict

  abbrev args : List Item
  args = Renewed.args s0 n e strict

  abbrev account : Account s Kind new (f ∷ []) (ask ∷ map up args)
  account = Renewed.renewed_account s0 n e strict

  none : HandNone s.fl (f ∷ [])
  none = one_holds (λ (h : Firing). handed_to s.fl h.context h.part ≡ None) f refl

  abbrev From : Item → Item → Type 0
  From x j = (x ≡ j) ⊎ (Contains args x × (up x ≡ j))

  of_from : (P : Item → Type 0) → ((x : Item) → P x → P (up x)) → (x j : Item) → From x j → P x → P j
  of_from P u x j (inl d) h = subst P d h
  of_from P u x j (inr d) h = subst P d.1 (u x h)

  back_from : (P : Item → Type 0) → ((x : Item) → P (up x) → P x) → (x j : Item) → From x j → P j → P x
  back_from P u x j (inl d) h = subst P (sym d) h
  back_from P u x j (inr d) h = u x (subst P (sym d.1) h)

  abbrev tok : Item → Token
  tok j = token_of s.fl s.p s.w net.fired j

  -- SLOTS
  abbrev F : Item → ℕ
  F i = frame_of s.fl net.fired i.context

  abbrev H : Item → SlotState
  H i = on_side i.inlet.port (word_of s.fl s.p s.w net.fired i.word)

  slots : InSlots F (slot_of s.fl s.w) H old.base (only (in_slot s.fl) new.waiting) s.new.store.slots
  slots =
      subst (λ (x : Store). InSlots F (slot_of s.fl s.w) H old.base (only (in_slot s.fl) new.waiting) x.slots) (sym (did s (framer_wants s0 n e strict)).1)
      (record {
        waits = λ j h. let k = kept_out (in_slot s.fl) new.waiting j h in waits j k.1 (Renewed.waiting_from s0 n e strict j k.0);
        empty = λ g q. empty g q (old.slots.empty g q);
      })
    where
      waits : (j : Item) → in_slot s.fl j ≡ true → (x : Item) × Contains net.waiting x × From x j → s.m.store.slots (F j) (slot_of s.fl s.w j) ≡ H j
      waits j two (x, a, b) =
          let two' = back_from (λ (i : Item). in_slot s.fl i ≡ true) (λ y h. h) x j b two in
          of_from (λ (i : Item). s.m.store.slots (F i) (slot_of s.fl s.w i) ≡ H i) (λ y h. h) x j b
          (old.slots.waits x (kept_in (in_slot s.fl) net.waiting x a two'))

      empty : (g q : ℕ) → (s.m.store.slots g q ≡ old.base g q) ⊎ AtSlot F (slot_of s.fl s.w) H old.base (only (in_slot s.fl) net.waiting) g q
          → (s.m.store.slots g q ≡ old.base g q) ⊎ AtSlot F (slot_of s.fl s.w) H old.base (only (in_slot s.fl) new.waiting) g q
      empty g q (inl h) = inl h
      empty g q (inr (x, h, a, b)) =
          let k = kept_out (in_slot s.fl) net.waiting x h in
          let j = Renewed.waits_still s0 n e strict x k.0 in
          inr (
            j.0,
            kept_in (in_slot s.fl) new.waiting j.0 j.1 (of_from (λ (i : Item). in_slot s.fl i ≡ true) (λ y h. h) x j.0 j.2 k.1),
            of_from (λ (i : Item). F i ≡ g) (λ y h. h) x j.0 j.2 a,
            of_from (λ (i : Item). slot_of s.fl s.w i ≡ q) (λ y h. h) x j.0 j.2 b,
          )

  -- WHAT IS MADE: the request, and the arguments anew
  of_made : (P : Item → Type 0) → P ask → ((x : Item) → Contains args x → P (up x)) → (j : Item) → Contains (ask ∷ map up args) j → P j
  of_made P own anew j h = pick (contains_cases ask (map up args) j h)
    where
      pick : (ask ≡ j) ⊎ Contains (map up args) j → P j
      pick (inl d) = subst P d own
      pick (inr d) = let k = contains_mapped up args j d in subst P k.2 (anew k.0 k.1)

  own_frame : (g : ℕ) × (frame_at s.fl net.fired c ≡ Some g)
  own_frame = framed s s.i (taken_here s)

  sound_ask : Sound s new ask
  sound_ask = sound_of account none ask own_frame named asked
    where
      named : (d : Context) → named_by ask.word ≡ Some d → (g : ℕ) × (frame_at s.fl net.fired d ≡ Some g)
      named d k = let z : c ≡ d = cc in subst (λ (d : Context). (g : ℕ) × (frame_at s.fl net.fired d ≡ Some g)) z own_frame

      asked : (d : Context) (x : Inlet) → ask.word ≡ BackTo d x → WasThere s ask ⊎ UsedNow s d x
      asked d x a =
          let z : c ≡ d = cc in let v : inlet (Fanned n) Left 0 ≡ x = cc in
          inr (subst (λ x. UsedNow s d x) v (subst (λ d. UsedNow s d (inlet (Fanned n) Left 0)) z (used_now s (framer_wants s0 n e strict))))

  sound_anew : (x : Item) → Contains args x → Sound s new (up x)
  sound_anew x h =
      let there = (Renewed.gathered s0 n e strict).2 x h in
      sound_of account none (up x) (old.known x (among s x there)) (λ d k. old.named x d (among s x there) k) (λ d y k. inl (x, there, refl))

  of_part : (P : Part → Type 0) → ((m : ℕ) → P (Sender n m)) → (x : Item) → Contains args x → P (up x).inlet.part
  of_part P each x h = let k = Renewed.arg_part s0 n e strict x h in subst P (sym k.1) (each k.0)

  not_held : (j : Item) → Contains (ask ∷ map up args) j → is_in_cell j.inlet.part ≡ false
  not_held = of_made (λ (j : Item). is_in_cell j.inlet.part ≡ false) refl (of_part (λ r. is_in_cell r ≡ false) (λ m. refl))

  pool : IsPermutation s.new.pool (map (token_of s.fl s.p s.w new.fired) new.pending)
  pool =
      let P = Renewed.parted s0 n e strict in
      let a = at_first (made_token s (framer_wants s0 n e strict)) (IsPermutation-refl (map tok (ask ∷ []))) in
      let b = at_last (IsPermutation-trans _ _ _ (rest_is s) (IsPermutation-map tok _ _ P.first_is)) (map-append tok P.now P.rest) in
      let d = IsPermutation-trans _ _ _ s.event.leaves (IsPermutation-append _ _ _ _ a b) in
      let h = tokens_stay account none (ask ∷ (map up P.now ++ P.rest))
      ∙ ap (λ l. tok ask ∷ l) (map-append tok (map up P.now) P.rest ∙ ap (λ l. l ++ map tok P.rest) (tokens_up s.fl s.p s.w net.fired P.now)) in
      IsPermutation-trans _ _ _ d (IsPermutation-sym _ _
      (at_last (IsPermutation-map (token_of s.fl s.p s.w new.fired) _ _ (Renewed.pending_now s0 n e strict)) h))

  -- an argument's token stays
  arguments_stay : (items : List Item) → map tok (only (nh s) (map up items)) ≡ map tok (only (nh s) items)
  arguments_stay [] = refl
  arguments_stay (x ∷ xs) = go (nh s x) (arguments_stay xs)
    where
      go : (t : Bool) → map tok (only (nh s) (map up xs)) ≡ map tok (only (nh s) xs)
          → map tok ((if t then up x ∷ [] else []) ++ only (nh s) (map up xs)) ≡ map tok ((if t then x ∷ [] else []) ++ only (nh s) xs)
      go true h = let a = token_up s.fl s.p s.w net.fired x in λ t. a t ∷ h t
      go false h = h

  tokens : IsPermutation (map (token_of s.fl s.p s.w new.fired) (only (nh s) (renews s.fl (f ∷ []))) ++ but_cells s.event.made)
      (map (token_of s.fl s.p s.w new.fired) (only (nh s) (ask ∷ map up args)))
  tokens =
      let R = map tok (only (nh s) args) in
      let a : renews s.fl (f ∷ []) ≡ args = append-nil (renewed s.fl f f.part) ∙ (λ t. if strict t then args else []) in
      let b = tokens_stay account none (only (nh s) (renews s.fl (f ∷ []))) ∙ ap (λ l. map tok (only (nh s) l)) a in
      let d = made_but s (ask ∷ []) (permutation_same _ _ (made_token s (framer_wants s0 n e strict)))
      (λ j h. meant_other s.fl s.p s.w net.fired j (ap (λ (i : Item). is_in_cell i.inlet.part) (sym (contains_one ask j h)))) in
      let g = tokens_stay account none (only (nh s) (ask ∷ map up args)) ∙ ap (λ l. tok ask ∷ l) (arguments_stay args) in
      at_first (ap (λ l. l ++ but_cells s.event.made) b) (at_last (IsPermutation-trans _ _ _ (IsPermutation-append_right R _ _ d)
      (shuffled (R ∷ (tok ask ∷ []) ∷ []) (Piece 0 ⊕ Piece 1) (Piece 1 ⊕ Piece 0) refl)) (sym g))

  caused : (j : Item) → (is_instr j.inlet.part ≡ true) → (is_entry_part (block_in s.fl j.context) j.inlet.part ≡ false)
      → (ask ≡ j) ⊎ ((x : Item) × Contains net.pending x × From x j) → Contains net.pending j ⊎ IsCaused s j
  caused j i k (inl h) = absurd (true≢false (sym i ∙ ap (λ (i : Item). is_instr i.inlet.part) (sym h)))
  caused j i k (inr (x, a, inl b)) = inl (subst (Contains net.pending) b a)
  caused j i k (inr (x, a, inr b)) =
      let i' = back_from (λ (i : Item). is_instr i.inlet.part ≡ true) (λ y h. h) x j (inr b) i in
      let k' = back_from (λ (i : Item). is_entry_part (block_in s.fl i.context) i.inlet.part ≡ false) (λ y h. h) x j (inr b) k in
      inr (subst (IsCaused s) b.1 (inr (s.keeps.tracks.caused x a i' k')))

  unlent_here : Unlent s Kind new (f ∷ []) (ask ∷ map up args)
  unlent_here = unlent s Kind new (f ∷ []) (ask ∷ map up args) (wants_free s (framer_wants s0 n e strict))
      (one_holds (λ (h : Firing). is_lending h.part ≡ false) f refl)
      (λ j t. quiet_calm j.inlet.part (pair_quiet (block_in s.fl j.context) j.inlet.part t))
      (of_made (λ (j : Item). is_credit j.inlet.part ≡ false) refl (of_part (λ r. is_credit r ≡ false) (λ m. refl)))

  stays : Stays s
  stays = stays_same s (did s (framer_wants s0 n e strict)).1

  pub strict_follows : Followed s0
  strict_follows = balanced {s = s} {T = Kind} {d = new} {new = f ∷ []} {made = ask ∷ map up args} (record {
    account = account;
    frames = frames_stay account none;
    base = old.base;
    loops = unlent_loops account (frames_stay account none) (words_stay account none) unlent_here;
    words = words_stay account none;
    sound = of_made (Sound s new) sound_ask sound_anew;
    pool = pool;
    tokens = tokens;
    caused = λ j h i k. caused j i k (Renewed.pending_from s0 n e strict j h);
    good = good_stay account not_held;
    waits = λ j t. inl t;
    slots = slots;
    requests = requests_stay account stays.requests (λ j t. pair_asked (block_in s.fl j.context) j.inlet.part t);
    readers = λ x. readers_stay account x (stays.cells x) (λ j t. pair_reads s.fl x j (block_in s.fl j.context) j.inlet.part t);
    memory = memory_of_silent account none (one_holds (λ (h : Firing). is_silent h.part ≡ true) f refl) (recalls s stays);
  })
