-- At rest, where nothing waits for a credit or at a cell, a part has fired if something arrived at each of its ports.
use Rattle.std.proofs.Common.{◌≡◌, ℕ, zero, suc, ◌+◌, Bool, true, false, ◌⊎◌, inl, inr, List, [], ◌∷◌, ◌++◌, map, if◌then◌else◌, refl, sym, ap, ◌∙◌}
use Rattle.std.proofs.Common.{subst, arith, true≢false}
use Rattle.std.specs.Prelude.{Contains, IsPermutation, flat_map}
use Rattle.std.proofs.lemmas.List.Sorted.{IsPermutation-sym, Contains-permutation}
use Rattle.std.proofs.lemmas.List.Elements.{Contains-append_right, Contains-append_cases}
use Rattle.lemmas.proofs.Contains.{contains_cases, contains_head, contains_none, contains_flat_mapped}
use Rattle.tags.specs.declared.value.Value.{Value}
use Rattle.tags.specs.declared.token.Port.{Port}
use Rattle.tags.specs.declared.token.Port.TheVariants.{Left, Right}
use Rattle.tags.specs.declared.token.Cont.{Cont}
use Rattle.tags.specs.declared.token.Token.{Token}
use Rattle.tags.specs.declared.slot.SlotState.{SlotState}
use Rattle.tags.specs.declared.slot.SlotState.TheVariants as Slot
use Rattle.semantics.specs.Graph.{Flow}
use Rattle.semantics.specs.Meaning.{Context}
use Rattle.law_net.specs.ContextsParts.{Part, Framer, Fanned, Sender, Giver, Taker, Drainer, NextFanned, Asked, NextAsked, InCell, Drained, Inlet, inlet}
use Rattle.law_net.specs.ContextsParts.{Note, Datum, BackTo, signal, Item, item, Firing, spot_of}
use Rattle.law_net.specs.ContextsBlocks.{waits_in}
use Rattle.law_net.specs.Contexts.{block_in, wiring_in, is_strict_in}
use Rattle.law_net.specs.ContextsWires.{arrives_at}
use Rattle.law_net.specs.ContextsFirings.{left_item, right_way, arguments_from, given_back, request_of, takes, own_takes, renewed}
use Rattle.law_net.specs.ContextsLaws.{Fits, Carries, port_fits}
use Rattle.law_net.specs.ContextsMirror.{frame_of, ip_of, word_of, cont_in, conts_of, only, in_slot, slot_of, on_side, is_asked, is_in_cell}
use Rattle.law_net.specs.ContextsMirror.{token_of}
use Rattle.law_net.proofs.ContextsWords.{carries_of}
use Rattle.law_net.proofs.WiredNets.{only_has, flat_contains}
use Rattle.law_end.specs.Over.{is_turning}
use Rattle.law_end.proofs.OverMade.{fits, word, left_stands}
use Rattle.law_end.proofs.CleanStill.{AtRest, Stood, Arrives, Fired}

image_none : {X Y : Type 0} (f : X → Y) (xs : List X) (x : X) → Contains xs x → IsPermutation [] (map f xs) → ⊥
image_none f xs x c perm = go xs c (IsPermutation-sym _ _ perm)
  where
    go : (xs : List _) → Contains xs x → IsPermutation (map f xs) [] → ⊥
    go [] c perm = contains_none x c
    go (y ∷ xs) c perm = contains_none (f y) (Contains-permutation _ _ (f y) perm (contains_head (f y) (map f xs)))

-- WHO TOOK an item: its own part; or a loop whose credits are all back; or a strict call that made it anew
pub data TookBy (fl : Flow) (h : Firing) (i : Item) : Type 0 where
  Own : h.part ≡ i.inlet.part → TookBy fl h i
  Back : (n : ℕ) → h.part ≡ Drained n → (i.inlet.part ≡ Drainer n) ⊎ (i.inlet.part ≡ Giver n) → TookBy fl h i
  Renewed : (n l : ℕ) → is_strict_in fl h.context n ≡ true → i.inlet ≡ inlet (Sender n l) Right 0 → TookBy fl h i

module _ (fl : Flow) (h : Firing) (i : Item) where
  abbrev Took : Type 0
  Took = (i.context ≡ h.context) × TookBy fl h i

  two_taken : (r : Part) → h.part ≡ r → (x y : Item) → x.context ≡ h.context → x.inlet.part ≡ r → y.context ≡ h.context → y.inlet.part ≡ r → (t : Bool)
      → Contains (x ∷ (if t then y ∷ [] else [])) i → Took
  two_taken r e x y xc xp yc yp t d = first (contains_cases x (if t then y ∷ [] else []) i d)
    where
      second : (t : Bool) → Contains (if t then y ∷ [] else []) i → Took
      second true d = pick (contains_cases y [] i d)
        where
          pick : (y ≡ i) ⊎ Contains [] i → Took
          pick (inl g) = (ap (λ (i : Item). i.context) (sym g) ∙ yc, Own (e ∙ sym yp ∙ ap (λ (i : Item). i.inlet.part) g))
          pick (inr k) = absurd (contains_none i k)
      second false d = absurd (contains_none i d)

      first : (x ≡ i) ⊎ Contains (if t then y ∷ [] else []) i → Took
      first (inl g) = (ap (λ (i : Item). i.context) (sym g) ∙ xc, Own (e ∙ sym xp ∙ ap (λ (i : Item). i.inlet.part) g))
      first (inr k) = second t k

  back_taken : (n : ℕ) → h.part ≡ Drained n → (t : ℕ) → Contains (given_back h.context n t) i → Took
  back_taken n e zero d = absurd (contains_none i d)
  back_taken n e (suc t) d = pick (contains_cases (item h.context (inlet (Giver n) Left t) signal) (given_back h.context n t) i d) (back_taken n e t)
    where
      pick : (item h.context (inlet (Giver n) Left t) signal ≡ i) ⊎ Contains (given_back h.context n t) i → (Contains (given_back h.context n t) i → Took)
          → Took
      pick (inl g) more = (ap (λ (i : Item). i.context) (sym g), Back n e (inr (ap (λ (i : Item). i.inlet.part) (sym g))))
      pick (inr k) more = more k

  own_taken : (r : Part) → h.part ≡ r → Contains (own_takes fl h r) i → Took
  own_taken (InCell n) e d = pick (contains_cases (request_of h) [] i d)
    where
      pick : (request_of h ≡ i) ⊎ Contains [] i → Took
      pick (inl g) = (ap (λ (i : Item). i.context) (sym g), Own (ap (λ (i : Item). i.inlet.part) g))
      pick (inr k) = absurd (contains_none i k)
  own_taken (Drained n) e d = pick (contains_cases (item h.context (inlet (Drainer n) Left h.turns) h.left) (given_back h.context n (h.turns + 1)) i d)
    where
      pick : (item h.context (inlet (Drainer n) Left h.turns) h.left ≡ i) ⊎ Contains (given_back h.context n (h.turns + 1)) i → Took
      pick (inl g) = (ap (λ (i : Item). i.context) (sym g), Back n e (inl (ap (λ (i : Item). i.inlet.part) (sym g))))
      pick (inr k) = back_taken n e (h.turns + 1) k
  own_taken r e d =
      two_taken r e (left_item h.context r h.way h.left) (item h.context (inlet r Right (right_way fl h.context r)) h.right) refl refl refl refl
      (waits_in (block_in fl h.context) r) d

  argument_taken : (n m : ℕ) (vs : List Value) → is_strict_in fl h.context n ≡ true → Contains (arguments_from h.context n 0 m vs) i → Took
  argument_taken n m [] s d = absurd (contains_none i d)
  argument_taken n m (v ∷ vs) s d =
      pick (contains_cases (item h.context (inlet (Sender n m) Right 0) (Datum v)) (arguments_from h.context n 0 (m + 1) vs) i d)
      (argument_taken n (m + 1) vs s)
    where
      pick : (item h.context (inlet (Sender n m) Right 0) (Datum v) ≡ i) ⊎ Contains (arguments_from h.context n 0 (m + 1) vs) i
          → (Contains (arguments_from h.context n 0 (m + 1) vs) i → Took) → Took
      pick (inl g) more = (ap (λ (i : Item). i.context) (sym g), Renewed n m s (ap (λ (i : Item). i.inlet) (sym g)))
      pick (inr k) more = more k

  renewed_taken : (r : Part) → Contains (renewed fl h r) i → Took
  renewed_taken (Framer n) d = go (is_strict_in fl h.context n) refl d
    where
      go : (t : Bool) → is_strict_in fl h.context n ≡ t → Contains (if t then arguments_from h.context n 0 0 h.operands else []) i → Took
      go true s d = argument_taken n 0 h.operands s d
      go false s d = absurd (contains_none i d)
  renewed_taken r d = absurd (contains_none i d)

  pub took_by : Contains (takes fl h) i → (i.context ≡ h.context) × TookBy fl h i
  took_by d = pick (Contains-append_cases (own_takes fl h h.part) (renewed fl h h.part) i d)
    where
      pick : Contains (own_takes fl h h.part) i ⊎ Contains (renewed fl h h.part) i → Took
      pick (inl k) = own_taken h.part refl k
      pick (inr k) = renewed_taken h.part k

-- the parts whose items a loop takes when all credits are back
abbrev pub goes_back : Part → Bool
goes_back (Giver n) = true
goes_back (Drainer n) = true
goes_back r = false

module _ (u : AtRest) where
  pub waiting_stands : (i : Item) → Contains u.kept.tracks.net.waiting i → Stood u i
  waiting_stands i d =
      left_stands u.fl u.p u.w u.inputs u.past u.m u.good u.fit u.kept i
      (Contains-append_right u.kept.tracks.net.pending u.kept.tracks.net.waiting i d)

  pub fits_at : (i : Item) → Stood u i → Fits u.fl u.w (spot_of i)
  fits_at i s = fits u.fl u.p u.w u.inputs u.past u.m u.good u.fit u.kept i s

  pub none_pending : (i : Item) → Contains u.kept.tracks.net.pending i → ⊥
  none_pending i d =
      image_none (token_of u.fl u.p u.w u.kept.tracks.net.fired) u.kept.tracks.net.pending i d
      (subst (λ (ts : List Token). IsPermutation ts (map (token_of u.fl u.p u.w u.kept.tracks.net.fired) u.kept.tracks.net.pending)) u.rests
      u.kept.tracks.stands.pool)

  -- WHAT ARRIVED waits or was taken
  pub waits_or_taken : (i : Item) → Stood u i
      → Contains u.kept.tracks.net.waiting i ⊎ ((h : Firing) × Contains u.kept.tracks.net.fired h × Contains (takes u.fl h) i)
  waits_or_taken i s =
      first (Contains-append_cases u.kept.tracks.net.pending (u.kept.tracks.net.waiting ++ flat_map (takes u.fl) u.kept.tracks.net.fired) i s)
    where
      second : Contains u.kept.tracks.net.waiting i ⊎ Contains (flat_map (takes u.fl) u.kept.tracks.net.fired) i
          → Contains u.kept.tracks.net.waiting i ⊎ ((h : Firing) × Contains u.kept.tracks.net.fired h × Contains (takes u.fl h) i)
      second (inl d) = inl d
      second (inr d) = inr (contains_flat_mapped (takes u.fl) u.kept.tracks.net.fired i d)

      first : Contains u.kept.tracks.net.pending i ⊎ Contains (u.kept.tracks.net.waiting ++ flat_map (takes u.fl) u.kept.tracks.net.fired) i
          → Contains u.kept.tracks.net.waiting i ⊎ ((h : Firing) × Contains u.kept.tracks.net.fired h × Contains (takes u.fl h) i)
      first (inl d) = absurd (none_pending i d)
      first (inr d) = second (Contains-append_cases u.kept.tracks.net.waiting (flat_map (takes u.fl) u.kept.tracks.net.fired) i d)

  -- by its own part
  pub came_fired : (c : Context) (x : Inlet) (i : Item) → Stood u i → i.context ≡ c → i.inlet ≡ x → goes_back x.part ≡ false
      → ((n l : ℕ) → is_strict_in u.fl c n ≡ true → x ≡ inlet (Sender n l) Right 0 → ⊥) → Contains u.kept.tracks.net.waiting i ⊎ Fired u c x.part
  came_fired c x i s a e back renews = pick (waits_or_taken i s)
    where
      by : (h : Firing) → Contains u.kept.tracks.net.fired h → i.context ≡ h.context → TookBy u.fl h i → Fired u c x.part
      by h d same (Own g) = (h, d, sym same ∙ a, g ∙ ap (λ (x : Inlet). x.part) e)
      by h d same (Back n g (inl o)) = absurd (true≢false (sym (ap goes_back (sym (ap (λ (x : Inlet). x.part) e) ∙ o)) ∙ back))
      by h d same (Back n g (inr o)) = absurd (true≢false (sym (ap goes_back (sym (ap (λ (x : Inlet). x.part) e) ∙ o)) ∙ back))
      by h d same (Renewed n l strict g) = absurd (renews n l (ap (λ (c : Context). is_strict_in u.fl c n) (sym a ∙ same) ∙ strict) (sym e ∙ g))

      pick : Contains u.kept.tracks.net.waiting i ⊎ ((h : Firing) × Contains u.kept.tracks.net.fired h × Contains (takes u.fl h) i)
          → Contains u.kept.tracks.net.waiting i ⊎ Fired u c x.part
      pick (inl d) = inl d
      pick (inr (h, d, t)) = let (same, took) = took_by u.fl h i t in inr (by h d same took)

  -- WHAT WAITS: no request, and no reader
  pub carried : (i : Item) → Stood u i → (r : Part) → i.inlet.part ≡ r → Carries u.fl u.w i.context i.inlet.way (arrives_at r i.inlet.port) i.word
  carried i s r e = subst (λ (r : Part). Carries u.fl u.w i.context i.inlet.way (arrives_at r i.inlet.port) i.word) e
      (carries_of u.fl u.w i (word u.fl u.p u.w u.inputs u.past u.m u.good u.fit u.kept i s))

  pub cont_waits : (test : Item → Bool) (i : Item) → Contains u.kept.tracks.net.waiting i → test i ≡ true → (d : Context) (x : Inlet) → i.word ≡ BackTo d x
      → (k : Cont) × Contains (conts_of u.fl u.p u.w u.kept.tracks.net.fired (only test u.kept.tracks.net.waiting)) k
  cont_waits test i c e d x g =
      let k = Cont.Frame (frame_of u.fl u.kept.tracks.net.fired d) (ip_of u.fl u.p u.w d x.part) x.port in (
        k,
        flat_contains (λ (i : Item). cont_in (word_of u.fl u.p u.w u.kept.tracks.net.fired i.word)) (only test u.kept.tracks.net.waiting) i k
            (only_has test u.kept.tracks.net.waiting i c e)
            (subst (λ (n : Note). Contains (cont_in (word_of u.fl u.p u.w u.kept.tracks.net.fired n)) k) (sym g) (contains_head k [])),
      )

  no_requests : (i : Item) → Contains u.kept.tracks.net.waiting i → is_asked i.inlet.part ≡ true → (d : Context) (x : Inlet) → i.word ≡ BackTo d x → ⊥
  no_requests i c e d x g =
      let (k, o) = cont_waits (λ (i : Item). is_asked i.inlet.part) i c e d x g in
      let there = Contains-permutation _ _ k (IsPermutation-sym _ _ u.kept.tracks.stands.requests) o in
      contains_none k (subst (λ (l : List Cont). Contains l k) u.calm there)

  none_asked : (i : Item) → Contains u.kept.tracks.net.waiting i → (r : Part) → i.inlet.part ≡ r → is_asked r ≡ true → ⊥
  none_asked i c (Asked n) e h = no_requests i c (ap is_asked e) i.context (inlet (Fanned n) Left 0) (carried i (waiting_stands i c) (Asked n) e)
  none_asked i c NextAsked e h = no_requests i c (ap is_asked e) i.context (inlet NextFanned Left 0) (carried i (waiting_stands i c) NextAsked e)
  none_asked i c r e h = true≢false (sym h)

  none_held : (i : Item) → Contains u.kept.tracks.net.waiting i → (r : Part) → i.inlet.part ≡ r → is_in_cell r ≡ true → u.Inside i.context → ⊥
  none_held i c (InCell n) e h ins = u.no_reader i n c e ins
  none_held i c r e h ins = true≢false (sym h)

  -- so it waits for another word, or is of a loop
  pub data Waits (i : Item) : Type 0 where
    InSlot : waits_in (block_in u.fl i.context) i.inlet.part ≡ true → Waits i
    OfLoop : (n : ℕ) → (i.inlet.part ≡ Giver n) ⊎ ((i.inlet.part ≡ Taker n) ⊎ (i.inlet.part ≡ Drainer n)) → Waits i

  pub waits_as : (i : Item) → Contains u.kept.tracks.net.waiting i → u.Inside i.context → Waits i
  waits_as i c ins = pick (u.kept.tracks.stands.waits i c)
    where
      pick : (in_slot u.fl i ≡ true) ⊎ ((is_asked i.inlet.part ≡ true)
          ⊎ ((is_in_cell i.inlet.part ≡ true) ⊎ ((n : ℕ) × ((i.inlet.part ≡ Giver n) ⊎ ((i.inlet.part ≡ Taker n) ⊎ (i.inlet.part ≡ Drainer n)))))) → Waits i
      pick (inl e) = InSlot e
      pick (inr (inl e)) = absurd (none_asked i c i.inlet.part refl e)
      pick (inr (inr (inl e))) = absurd (none_held i c i.inlet.part refl e ins)
      pick (inr (inr (inr (n, e)))) = OfLoop n e

  -- and two words of one part do not wait
  abbrev held : Item → SlotState
  held i = on_side i.inlet.port (word_of u.fl u.p u.w u.kept.tracks.net.fired i.word)

  pub apart : (i j : Item) → Contains u.kept.tracks.net.waiting i → Contains u.kept.tracks.net.waiting j → i.context ≡ j.context → i.inlet.part ≡ j.inlet.part
      → i.inlet.port ≡ Left → j.inlet.port ≡ Right → ⊥
  apart i j c d same part left right =
      let theirs : waits_in (block_in u.fl j.context) j.inlet.part ≡ true = ap (port_fits u.fl j.context j.inlet.part) (sym right)
      ∙ (fits_at j (waiting_stands j d)).port in
      let mine : waits_in (block_in u.fl i.context) i.inlet.part ≡ true = (λ t. waits_in (block_in u.fl (same t)) (part t)) ∙ theirs in
      let a = u.kept.tracks.stands.slots.waits i (only_has (in_slot u.fl) u.kept.tracks.net.waiting i c mine) in
      let e = u.kept.tracks.stands.slots.waits j (only_has (in_slot u.fl) u.kept.tracks.net.waiting j d theirs) in
      let place : u.m.store.slots (frame_of u.fl u.kept.tracks.net.fired i.context) (slot_of u.fl u.w i)
      ≡ u.m.store.slots (frame_of u.fl u.kept.tracks.net.fired j.context) (slot_of u.fl u.w j) =
      (λ t. u.m.store.slots (frame_of u.fl u.kept.tracks.net.fired (same t)) ((wiring_in u.fl u.w (same t)).slot (part t))) in
      let both : Slot.Left (word_of u.fl u.p u.w u.kept.tracks.net.fired i.word) ≡ Slot.Right (word_of u.fl u.p u.w u.kept.tracks.net.fired j.word) =
      ap (λ (r : Port). on_side r (word_of u.fl u.p u.w u.kept.tracks.net.fired i.word)) (sym left) ∙ sym a ∙ place ∙ e
      ∙ ap (λ (r : Port). on_side r (word_of u.fl u.p u.w u.kept.tracks.net.fired j.word)) right in
      absurd (cc)

  -- A PART FIRES: one that takes one word
  not_back : (r : Part) → is_turning r ≡ false → goes_back r ≡ false
  not_back (Giver n) e = absurd (true≢false e)
  not_back (Drainer n) e = absurd (true≢false e)
  not_back r e = refl

  left_renews : (c : Context) (r : Part) (t : ℕ) (n l : ℕ) → is_strict_in u.fl c n ≡ true → inlet r Left t ≡ inlet (Sender n l) Right 0 → ⊥
  left_renews c r t n l s e = let same : Left ≡ Right = ap (λ (x : Inlet). x.port) e in absurd (cc)

  -- what waits there waits for another word
  waits_two : (c : Context) → u.Inside c → (x : Inlet) (i : Item) → Contains u.kept.tracks.net.waiting i → i.context ≡ c → i.inlet ≡ x → is_turning x.part ≡ false
      → waits_in (block_in u.fl c) x.part ≡ true
  waits_two c ins x i d a e apart' = pick (waits_as i d (subst u.Inside (sym a) ins))
    where
      loop_not : (r : Part) → i.inlet.part ≡ r → is_turning r ≡ true → ⊥
      loop_not r g h = true≢false (sym h ∙ ap is_turning (sym g ∙ ap (λ (x : Inlet). x.part) e) ∙ apart')

      pick : Waits i → waits_in (block_in u.fl c) x.part ≡ true
      pick (InSlot g) = (λ k. waits_in (block_in u.fl (sym a k)) (sym e k).part) ∙ g
      pick (OfLoop n (inl g)) = absurd (loop_not (Giver n) g refl)
      pick (OfLoop n (inr (inl g))) = absurd (loop_not (Taker n) g refl)
      pick (OfLoop n (inr (inr g))) = absurd (loop_not (Drainer n) g refl)

  pub fires_one : (c : Context) → u.Inside c → (r : Part) (t : ℕ) → is_turning r ≡ false → waits_in (block_in u.fl c) r ≡ false → Arrives u c (inlet r Left t) → Fired u c r
  fires_one c ins r t loop one (i, s, a, e) = pick (came_fired c (inlet r Left t) i s a e (not_back r loop) (left_renews c r t))
    where
      pick : Contains u.kept.tracks.net.waiting i ⊎ Fired u c r → Fired u c r
      pick (inl d) = absurd (true≢false (sym (waits_two c ins (inlet r Left t) i d a e loop) ∙ one))
      pick (inr f) = f

  -- and one that takes two
  renews_not : (c : Context) (r : Part) (n l : ℕ) → is_strict_in u.fl c n ≡ true → inlet r Right (right_way u.fl c r) ≡ inlet (Sender n l) Right 0 → ⊥
  renews_not c r n l s e =
      let part : r ≡ Sender n l = ap (λ (x : Inlet). x.part) e in
      let way : right_way u.fl c r ≡ 0 = ap (λ (x : Inlet). x.way) e in
      let one' : right_way u.fl c r ≡ 1 = ap (right_way u.fl c) part ∙ ap (λ (t : Bool). if t then 1 else 0) s in
      omega (arith, way, one')

  pub fires_two : (c : Context) (r : Part) (t : ℕ) → is_turning r ≡ false → Arrives u c (inlet r Left t) → Arrives u c (inlet r Right (right_way u.fl c r))
      → Fired u c r
  fires_two c r t loop (i, s, a, e) (j, z, b, g) = first (came_fired c (inlet r Left t) i s a e (not_back r loop) (left_renews c r t))
    where
      second : Contains u.kept.tracks.net.waiting i → Contains u.kept.tracks.net.waiting j ⊎ Fired u c r → Fired u c r
      second d (inr f) = f
      second d (inl o) =
          absurd (apart i j d o (a ∙ sym b) (ap (λ (x : Inlet). x.part) e ∙ sym (ap (λ (x : Inlet). x.part) g)) (ap (λ (x : Inlet). x.port) e)
          (ap (λ (x : Inlet). x.port) g))

      first : Contains u.kept.tracks.net.waiting i ⊎ Fired u c r → Fired u c r
      first (inr f) = f
      first (inl d) = second d (came_fired c (inlet r Right (right_way u.fl c r)) j z b g (not_back r loop) (renews_not c r))
