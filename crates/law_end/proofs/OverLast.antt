-- When the frame of a context can be taken back, nothing names it any more.
use Rattle.std.proofs.Common.{◌≡◌, ℕ, ◌<◌, ◌-◌, ◌⊎◌, ℤ, Bool, true, false, inl, inr, List, [], ◌∷◌, ◌++◌, map, Option, Some, None, if◌then◌else◌, refl, sym, ap}
use Rattle.std.proofs.Common.{◌∙◌, subst, arith, true≢false, eqb-true, ltb-true, lt-ltb}
use Rattle.std.specs.Prelude.{Contains, IsPermutation, flat_map}
use Rattle.std.proofs.lemmas.List.Sorted.{IsPermutation-sym, IsPermutation-trans, Contains-permutation}
use Rattle.std.proofs.lemmas.List.Elements.{Contains-append_left, Contains-append_right}
use Rattle.lemmas.proofs.Contains.{contains_cases, contains_head, contains_mapped, contains_none, contains_tail, contains_flat_mapped}
use Rattle.tags.specs.declared.value.Value.{Value}
use Rattle.tags.specs.declared.token.Port.{Port}
use Rattle.tags.specs.declared.token.Port.TheVariants.{Left, Right}
use Rattle.tags.specs.declared.token.Cont.{Cont}
use Rattle.tags.specs.declared.token.Word.{Word}
use Rattle.tags.specs.declared.token.To.{To}
use Rattle.tags.specs.declared.token.Token.{Token}
use Rattle.tags.specs.declared.slot.SlotState.TheVariants.{Empty, Waiter}
use Rattle.tags.specs.declared.slot.SlotState.TheVariants as Slot
use Rattle.semantics.specs.Graph.{Flow}
use Rattle.semantics.specs.Meaning.{Context}
use Rattle.semantics.specs.Plan.{Plan}
use Rattle.semantics.specs.Rule.{token}
use Rattle.semantics.specs.Machine.{Machine}
use Rattle.semantics.specs.Orderly.{NamesCont, NamesWord, NamesTo, NamesSlot, IsFreeAtRelease}
use Rattle.law_confluence.specs.OrdersTotals.{one}
use Rattle.law_confluence.proofs.NetSlots.{AtSlot}
use Rattle.law_confluence.proofs.Orders.{first_lifted, total-IsPermutation, total-append}
use Rattle.law_net.specs.ContextsParts.{Part, Opener, Drained, Taker, Asked, NextAsked, InCell, Shown, Done, Freed, End, Inlet, inlet, Note, Datum, FrameOf}
use Rattle.law_net.specs.ContextsParts.{BackTo, ToHost, Item, Firing, Spot, spot_of, same_spot}
use Rattle.law_net.specs.ContextsBlocks.{waits_in, is_store, is_loop, bound_at, entered}
use Rattle.law_net.specs.Contexts.{Wires, or_zero, block_in, wiring_in, IsContext}
use Rattle.law_net.specs.ContextsCredits.{Ledger, slot_for, waits_or}
use Rattle.law_net.specs.ContextsFirings.{takes, cell_of, second_of, frame_at, times, HasFired}
use Rattle.law_net.specs.ContextsLaws.{Fits, way_fits, port_fits}
use Rattle.law_net.specs.ContextsMirror.{Past, frame_of, to_of, token_of, word_of, cell_to, cont_in, conts_of, first_cont, only, in_slot, slot_of, on_side}
use Rattle.law_net.specs.ContextsMirror.{is_item_at, is_asked, reads, ledger, named_by}
use Rattle.law_net.specs.ContextsTheorem.{IsGood}
use Rattle.law_net.specs.ContextsPackages.{OfRuns, Keeps, InputsFit, ReleasesLast}
use Rattle.law_net.proofs.ContextsSames.{hits_at, hit_counted, spot_is, inlet_is}
use Rattle.law_net.proofs.WiredNets.{once_all, only_contains}
use Rattle.law_net.proofs.WiredFed.{UNot}
use Rattle.law_net.proofs.Credits.{some_firing, firing_of}
use Rattle.law_end.specs.Over.{IsOpen, is_leaving}
use Rattle.law_end.proofs.OverMade.{fired, Mirrors, left_stands, taken_stands, fits, given_by, first_in}
use Rattle.law_end.proofs.OverOpen.{stands_open}
use Rattle.law_end.proofs.OverLeft.{ends_last}
use Rattle.law_end.proofs.OverNames.{nothing_names}

first_there : (cs : List Cont) (a : Cont) → first_cont cs ≡ Some a → Contains cs a
first_there [] a e = absurd (cc)
first_there (b ∷ cs) a e = let same : b ≡ a = cc in subst (Contains (b ∷ cs)) same (contains_head b cs)

cont_names : (k : Word) (a : Cont) (f : ℕ) → Contains (cont_in k) a → NamesCont f a → NamesWord f k
cont_names (Word.Val v) a f d h = absurd (contains_none a d)
cont_names (Word.Frame g) a f d h = absurd (contains_none a d)
cont_names (Word.Back b) a f d h = pick (contains_cases b [] a d)
  where
    pick : (b ≡ a) ⊎ Contains [] a → NamesCont f b
    pick (inl e) = subst (NamesCont f) (sym e) h
    pick (inr e) = absurd (contains_none a e)

side_names : (f : ℕ) (x : Port) (k : Word) → NamesSlot f (on_side x k) → NamesWord f k
side_names f Left k h = h
side_names f Right k h = h

-- of a loop's slot, only what waits there names a frame
waits_names : (f : ℕ) (o : Option Cont) (n : ℕ) → NamesSlot f (waits_or o (Slot.Credits n)) → (a : Cont) × (o ≡ Some a) × NamesCont f a
waits_names f None n h = absurd h
waits_names f (Some a) n h = (a, refl, h)

slot_names : (f bound : ℕ) (l : Ledger) → NamesSlot f (slot_for bound l) → (a : Cont) × (l.waiter ≡ Some a) × NamesCont f a
slot_names f bound l h = by_opened l.opened h
  where
    by_draining : (t : Bool) → NamesSlot f (if t then Slot.Draining (l.granted - l.given) else waits_or l.waiter (Slot.Credits (bound - (l.granted - l.given))))
        → (a : Cont) × (l.waiter ≡ Some a) × NamesCont f a
    by_draining true h = absurd h
    by_draining false h = waits_names f l.waiter (bound - (l.granted - l.given)) h

    by_over : (t : Bool) → NamesSlot f (if t then Empty else if l.draining then Slot.Draining (l.granted - l.given)
        else waits_or l.waiter (Slot.Credits (bound - (l.granted - l.given)))) → (a : Cont) × (l.waiter ≡ Some a) × NamesCont f a
    by_over true h = absurd h
    by_over false h = by_draining l.draining h

    by_opened : (t : Bool) → NamesSlot f
        (if t then (if l.over then Empty else if l.draining then Slot.Draining (l.granted - l.given)
        else waits_or l.waiter (Slot.Credits (bound - (l.granted - l.given)))) else Empty) → (a : Cont) × (l.waiter ≡ Some a) × NamesCont f a
    by_opened true h = by_over l.over h
    by_opened false h = absurd h

slot_over : (bound : ℕ) (l : Ledger) → (l.opened ≡ true → l.over ≡ true) → slot_for bound l ≡ Empty
slot_over bound l h = go l.opened refl
  where
    go : (t : Bool) → l.opened ≡ t → slot_for bound l ≡ Empty
    go false e =
        ap (λ (t : Bool). if t then (if l.over then Empty else if l.draining then Slot.Draining (l.granted - l.given)
        else waits_or l.waiter (Slot.Credits (bound - (l.granted - l.given)))) else Empty) e
    go true e =
        ap (λ (t : Bool). if t then (if l.over then Empty else if l.draining then Slot.Draining (l.granted - l.given)
        else waits_or l.waiter (Slot.Credits (bound - (l.granted - l.given)))) else Empty) e
        ∙ ap (λ (t : Bool). if t then Empty else if l.draining then Slot.Draining (l.granted - l.given)
        else waits_or l.waiter (Slot.Credits (bound - (l.granted - l.given)))) (h e)

waits_stay : (b : _) (r : Part) → waits_in b r ≡ true → is_leaving r ≡ false
waits_stay b Done h = absurd (true≢false (sym h))
waits_stay b Freed h = absurd (true≢false (sym h))
waits_stay b (Shown j) h = absurd (true≢false (sym h))
waits_stay b r h = refl

module _ (fl : Flow) (p : Plan) (w : Wires) (inputs : List ℤ) (past : Past) (m : Machine) (good : IsGood fl p w) (fit : InputsFit fl inputs)
    (kept : Keeps fl p w inputs past m) where
  abbrev done : List Firing
  done = fired fl p w inputs past m good fit kept

  abbrev IsLeft : Item → Type 0
  IsLeft i = Contains (kept.tracks.net.pending ++ kept.tracks.net.waiting) i

  stood : (i : Item) → IsLeft i → Mirrors fl p w inputs past m good fit kept i
  stood i d = left_stands fl p w inputs past m good fit kept i d

  pending_left : (i : Item) → Contains kept.tracks.net.pending i → IsLeft i
  pending_left i d = Contains-append_left kept.tracks.net.pending kept.tracks.net.waiting i d

  waiting_left : (i : Item) → Contains kept.tracks.net.waiting i → IsLeft i
  waiting_left i d = Contains-append_right kept.tracks.net.pending kept.tracks.net.waiting i d

  -- what is left, among what the frames are known of
  known_left : (i : Item) → IsLeft i → Contains (kept.tracks.net.pending ++ (kept.tracks.net.waiting ++ flat_map (takes fl) kept.tracks.net.fired)) i
  known_left i d = stood i d

  -- THE FRAME on its way back
  cell_release : (x : Option ℕ) (store : Bool) (v : Value) (f : ℕ) → cell_to x store v ≡ To.Release f → ⊥
  cell_release None store v f e = cc
  cell_release (Some x) true v f e = cc
  cell_release (Some x) false v f e = cc

  to_release : (i : Item) (r : Part) (f : ℕ) → to_of fl p w done i r ≡ To.Release f → (r ≡ Freed) × (frame_of fl done i.context ≡ f)
  to_release i (InCell n) f e = absurd (cell_release (cell_of fl i.context n i.held) (is_store (block_in fl i.context) n) (second_of i.held) f e)
  to_release i Freed f e = (refl, cc)
  to_release i r f e = absurd (cc)

  cell_names : (x : Option ℕ) (store : Bool) (v : Value) (f : ℕ) → NamesTo f (cell_to x store v) → ⊥
  cell_names None store v f h = h
  cell_names (Some x) true v f h = h
  cell_names (Some x) false v f h = h

  -- where it goes to its own frame
  to_names : (i : Item) (r : Part) (f : ℕ) → NamesTo f (to_of fl p w done i r) → (frame_of fl done i.context ≡ f) × ((is_leaving r ≡ false) ⊎ (r ≡ Freed))
  to_names i (Asked n) f h = absurd h
  to_names i NextAsked f h = absurd h
  to_names i (InCell n) f h = absurd (cell_names (cell_of fl i.context n i.held) (is_store (block_in fl i.context) n) (second_of i.held) f h)
  to_names i (Shown j) f h = absurd h
  to_names i Done f h = absurd h
  to_names i Freed f h = (h, inr refl)
  to_names i r f h = (h, inl refl)

  frame_known : (d : Context) (f g : ℕ) → frame_at fl done d ≡ Some g → frame_of fl done d ≡ f → frame_at fl done d ≡ Some f
  frame_known d f g e h = e ∙ ap Some (sym (ap or_zero e) ∙ h)

  context_at : (i : Item) → IsLeft i → (f : ℕ) → frame_of fl done i.context ≡ f → frame_at fl done i.context ≡ Some f
  context_at i d f h = let (g, e) = kept.tracks.stands.known i (known_left i d) in frame_known i.context f g e h

  module _ (c : Context) (f : ℕ) (at : frame_at fl done c ≡ Some f) (last : HasFired c End done) where
    own_frame : (i : Item) → IsLeft i → frame_of fl done i.context ≡ f → i.context ≡ c
    own_frame i d h = kept.tracks.stands.apart i.context c f (context_at i d f h) at

    named_in : (k : Note) → NamesWord f (word_of fl p w done k) → (d : Context) × (named_by k ≡ Some d) × (frame_of fl done d ≡ f)
    named_in (Datum v) h = absurd h
    named_in (FrameOf d) h = (d, refl, h)
    named_in (BackTo d x) h = (d, refl, h)
    named_in ToHost h = absurd h

    -- NO WORD that is left names the frame
    pub no_word : (i : Item) → IsLeft i → NamesWord f (word_of fl p w done i.word) → ⊥
    no_word i d h =
        let (e, names, frame) = named_in i.word h in
        let (g, there) = kept.tracks.stands.named i e (known_left i d) names in
        let same = kept.tracks.stands.apart e c f (frame_known e f g there frame) at in
        nothing_names fl p w inputs past m good fit kept c last i d (names ∙ ap Some same)

    -- NOTHING that is left goes to it, except its frame on its way back
    pub not_to : (i : Item) → IsLeft i → (i.inlet.part ≡ Freed → i.context ≡ c → ⊥) → NamesTo f (to_of fl p w done i i.inlet.part) → ⊥
    not_to i d freed h = go (to_names i i.inlet.part f h)
      where
        go : (frame_of fl done i.context ≡ f) × ((is_leaving i.inlet.part ≡ false) ⊎ (i.inlet.part ≡ Freed)) → ⊥
        go (frame, inl e) = (ends_last fl p w inputs past m good fit kept c last).none_left i d (own_frame i d frame) e
        go (frame, inr e) = freed e (own_frame i d frame)

    -- nor does a continuation that waits
    pub no_cont : (test : Item → Bool) (a : Cont) → Contains (conts_of fl p w done (only test kept.tracks.net.waiting)) a → NamesCont f a → ⊥
    no_cont test a d h =
        let (i, e, g) = contains_flat_mapped (λ (i : Item). cont_in (word_of fl p w done i.word)) (only test kept.tracks.net.waiting) a d in
        no_word i (waiting_left i (only_contains test kept.tracks.net.waiting i e).0) (cont_names (word_of fl p w done i.word) a f g h)

    -- SLOTS
    pub no_slot : (g r : ℕ) → NamesSlot f (m.store.slots g r) → ⊥
    no_slot g r h = pick (kept.tracks.stands.slots.empty g r)
      where
        by_loop : (d : Context) (n : ℕ) → IsContext fl d → is_loop (block_in fl d) n ≡ true → frame_at fl done d ≡ Some g
            → (wiring_in fl w d).slot (Opener n) ≡ r → NamesSlot f (kept.tracks.stands.base g r) → ⊥
        by_loop d n con l frame slot names =
            let log = ledger fl p w kept.tracks.net d n in
            let at : kept.tracks.stands.base g r ≡ slot_for (bound_at (block_in fl d) n) log = ap (kept.tracks.stands.base g) (sym slot)
            ∙ kept.tracks.stands.loops d n g con l frame in
            let (a, e, x) = slot_names f (bound_at (block_in fl d) n) log (subst (NamesSlot f) at names) in
            no_cont (is_item_at d (Taker n)) a (first_there (conts_of fl p w done (only (is_item_at d (Taker n)) kept.tracks.net.waiting)) a e) x

        by_base : NamesSlot f (kept.tracks.stands.base g r)
            → (kept.tracks.stands.base g r ≡ Empty)
            ⊎ ((d : Context) × (n : ℕ) × IsContext fl d × (is_loop (block_in fl d) n ≡ true) × (frame_at fl done d ≡ Some g)
            × ((wiring_in fl w d).slot (Opener n) ≡ r)) → ⊥
        by_base names (inl e) = subst (NamesSlot f) e names
        by_base names (inr (d, n, con, l, frame, slot)) = by_loop d n con l frame slot names

        pick : (m.store.slots g r ≡ kept.tracks.stands.base g r)
            ⊎ AtSlot (λ (i : Item). frame_of fl done i.context) (slot_of fl w)
            (λ (i : Item). on_side i.inlet.port (word_of fl p w done i.word)) kept.tracks.stands.base (only (in_slot fl) kept.tracks.net.waiting) g r → ⊥
        pick (inl e) = by_base (subst (NamesSlot f) e h) (kept.tracks.stands.others g r)
        pick (inr (i, d, a, e)) =
            let held = kept.tracks.stands.slots.waits i d in
            let same : m.store.slots g r ≡ on_side i.inlet.port (word_of fl p w done i.word) = (λ k. m.store.slots (sym a k) (sym e k)) ∙ held in
            no_word i (waiting_left i (only_contains (in_slot fl) kept.tracks.net.waiting i d).0)
            (side_names f i.inlet.port (word_of fl p w done i.word) (subst (NamesSlot f) same h))

    -- its own are empty: a loop that was opened is over
    loop_over : (n : ℕ) → is_loop (block_in fl c) n ≡ true → IsContext fl c → (ledger fl p w kept.tracks.net c n).opened ≡ true
        → (ledger fl p w kept.tracks.net c n).over ≡ true
    loop_over n l con e =
        let (h, d, a, g) = firing_of c (Opener n) done (ltb-true 0 (times c (Opener n) done) e) in
        let (i, o, x, y) = first_in fl p w inputs past m good fit kept c (Opener n) (h, d, a, g) in
        let open' = stands_open fl p w inputs past m good fit kept c con i (taken_stands fl p w inputs past m good fit kept i o) x in
        let over = (ends_last fl p w inputs past m good fit kept c last).drained n l
        (subst (λ (z : Inlet). IsOpen fl w done c (entered (block_in fl c) z.part z.way)) y open') in
        lt-ltb 0 (times c (Drained n) done) (some_firing c (Drained n) done over.0 over.1 over.2 over.3)

    pub slots_empty : (r : ℕ) → m.store.slots f r ≡ Empty
    slots_empty r = pick (kept.tracks.stands.slots.empty f r)
      where
        by_base : (kept.tracks.stands.base f r ≡ Empty)
            ⊎ ((d : Context) × (n : ℕ) × IsContext fl d × (is_loop (block_in fl d) n ≡ true) × (frame_at fl done d ≡ Some f)
            × ((wiring_in fl w d).slot (Opener n) ≡ r)) → kept.tracks.stands.base f r ≡ Empty
        by_base (inl e) = e
        by_base (inr (d, n, con, l, frame, slot)) =
            let same : d ≡ c = kept.tracks.stands.apart d c f frame at in
            let con' = subst (IsContext fl) same con in let l' = subst (λ (d : Context). is_loop (block_in fl d) n ≡ true) same l in
            ap (kept.tracks.stands.base f) (sym (ap (λ (d : Context). (wiring_in fl w d).slot (Opener n)) (sym same) ∙ slot))
            ∙ kept.tracks.stands.loops c n f con' l' at
            ∙ slot_over (bound_at (block_in fl c) n) (ledger fl p w kept.tracks.net c n) (loop_over n l' con')

        pick : (m.store.slots f r ≡ kept.tracks.stands.base f r)
            ⊎ AtSlot (λ (i : Item). frame_of fl done i.context) (slot_of fl w)
            (λ (i : Item). on_side i.inlet.port (word_of fl p w done i.word)) kept.tracks.stands.base (only (in_slot fl) kept.tracks.net.waiting) f r
            → m.store.slots f r ≡ Empty
        pick (inl e) = e ∙ by_base (kept.tracks.stands.others f r)
        pick (inr (i, d, a, e)) =
            let k = only_contains (in_slot fl) kept.tracks.net.waiting i d in
            let l = waiting_left i k.0 in
            absurd ((ends_last fl p w inputs past m good fit kept c last).none_left i l (own_frame i l a)
            (waits_stay (block_in fl i.context) i.inlet.part k.1))

  -- a frame on its way back comes from the last part
  ended : (i : Item) → IsLeft i → i.inlet ≡ inlet Freed Left 0 → HasFired i.context End done
  ended i d e =
      let (h, b, x, y, u) = given_by fl p w inputs past m good fit kept i.context (inlet Freed Left 0) (UNot refl)
      (λ a g. true≢false (sym g)) i.context End 0 refl i (stood i d) refl e in
      (h, b, x, y)

  freed_inlet : (i : Item) → IsLeft i → i.inlet.part ≡ Freed → i.inlet ≡ inlet Freed Left 0
  freed_inlet i d e = inlet_is i.inlet (inlet Freed Left 0) e (left i.inlet.port port) (eqb-true i.inlet.way 0 way)
    where
      spot : Fits fl w (spot_of i)
      spot = fits fl p w inputs past m good fit kept i (stood i d)

      way : way_fits fl i.context Freed i.inlet.port i.inlet.way ≡ true
      way = ap (λ (r : Part). way_fits fl i.context r i.inlet.port i.inlet.way) (sym e) ∙ spot.way

      port : port_fits fl i.context Freed i.inlet.port ≡ true
      port = ap (λ (r : Part). port_fits fl i.context r i.inlet.port) (sym e) ∙ spot.port

      left : (r : Port) → port_fits fl i.context Freed r ≡ true → r ≡ Left
      left Left h = refl
      left Right h = absurd (true≢false (sym h))

  pub free_at_release : IsFreeAtRelease m
  free_at_release f back rest perm out = (
    λ h. no_word c f at last first.0 (among first.0 (contains_head first.0 first.1)) (subst (NamesWord f) (sym (ap (λ (t : Token). t.word) first.3)) h),
    record {
      tokens = λ t d. let (j, e, g) = from_rest t d in (
        λ h. not_to c f at last j (later j e) (alone j e) (subst (NamesTo f) (sym (ap (λ (t : Token). t.to) g)) h),
        λ h. no_word c f at last j (later j e) (subst (NamesWord f) (sym (ap (λ (t : Token). t.word) g)) h),
      );
      readers = λ x a d h. no_cont c f at last (λ (i : Item). reads fl x i i.inlet.part) a (Contains-permutation _ _ a (kept.tracks.stands.readers x) d) h;
      requests = λ a d h. no_cont c f at last (λ (i : Item). is_asked i.inlet.part) a (Contains-permutation _ _ a kept.tracks.stands.requests d) h;
      words = λ g r h. no_slot c f at last g r h;
      slots = λ r. slots_empty c f at last r;
    },
  )
    where
      first : (i : Item) × (others : List Item) × IsPermutation kept.tracks.net.pending (i ∷ others)
          × (token_of fl p w kept.tracks.net.fired i ≡ token (To.Release f) back) × (map (token_of fl p w kept.tracks.net.fired) others ≡ rest)
      first =
          first_lifted (token_of fl p w kept.tracks.net.fired) kept.tracks.net.pending (token (To.Release f) back) rest
          (IsPermutation-trans _ _ _ (IsPermutation-sym _ _ kept.tracks.stands.pool) perm)

      freed : (first.0.inlet.part ≡ Freed) × (frame_of fl done first.0.context ≡ f)
      freed = to_release first.0 first.0.inlet.part f (ap (λ (t : Token). t.to) first.3)

      c : Context
      c = first.0.context

      among : (i : Item) → Contains (first.0 ∷ first.1) i → IsLeft i
      among i d = pending_left i (Contains-permutation _ _ i (IsPermutation-sym _ _ first.2) d)

      later : (i : Item) → Contains first.1 i → IsLeft i
      later i d = among i (contains_tail first.0 first.1 i d)

      mine : IsLeft first.0
      mine = among first.0 (contains_head first.0 first.1)

      at : frame_at fl done first.0.context ≡ Some f
      at = context_at first.0 mine f freed.1

      last : HasFired first.0.context End done
      last = ended first.0 mine (freed_inlet first.0 mine freed.0)

      from_rest : (t : Token) → Contains rest t → (j : Item) × Contains first.1 j × (token_of fl p w kept.tracks.net.fired j ≡ t)
      from_rest t d = contains_mapped (token_of fl p w kept.tracks.net.fired) first.1 t (subst (λ (ts : List Token). Contains ts t) (sym first.4) d)

      -- it is handed back once
      alone : (j : Item) → Contains first.1 j → j.inlet.part ≡ Freed → j.context ≡ first.0.context → ⊥
      alone j d e same =
          let x : Spot = spot_of first.0 in
          let g : Item → ℕ = λ (i : Item). one (same_spot x (spot_of i)) in
          let spot : spot_of j ≡ x = spot_is (spot_of j) (spot_of first.0) same (freed_inlet j (later j d) e ∙ sym (freed_inlet first.0 mine freed.0)) in
          let here = hit_counted (first.0 ∷ []) first.0 (contains_head first.0 []) in
          let more = subst (λ (x : Spot). 0 < hits_at x first.1) spot (hit_counted first.1 j d) in
          let all = total-IsPermutation g kept.tracks.net.pending (first.0 ∷ first.1) first.2 in
          let sum = total-append g kept.tracks.net.pending (kept.tracks.net.waiting ++ flat_map (takes fl) kept.tracks.net.fired) in
          let most = once_all fl w inputs kept.tracks.net kept.sound x in
          omega (arith, here, more, all, sum, most)

pub releases_last : OfRuns ReleasesLast
releases_last fl p w inputs past m good fit kept = free_at_release fl p w inputs past m good fit kept
