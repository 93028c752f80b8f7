-- A strict call asks for its frame: its arguments are taken, and made anew where they are.
use Rattle.std.proofs.Common.{◌≡◌, ℕ, zero, suc, ◌+◌, ◌≤◌, true, List, [], ◌∷◌, ◌++◌, map, length, refl, sym, ap, ◌∙◌, subst, inl, inr, ◌⊎◌, arith}
use Rattle.std.proofs.Common.{if◌then◌else◌, append-nil}
use Rattle.std.specs.Prelude.{IsPermutation, Contains, pos}
use Rattle.std.proofs.lemmas.List.{map-append}
use Rattle.std.proofs.lemmas.List.Elements.{Contains-append_left, Contains-append_right, Contains-append_cases}
use Rattle.std.proofs.lemmas.List.Sorted.{IsPermutation-trans, IsPermutation-sym, IsPermutation-map, IsPermutation-append_left, IsPermutation-append_right}
use Rattle.std.proofs.lemmas.List.Sorted.{Contains-permutation}
use Rattle.lemmas.proofs.Contains.{contains_cases, contains_map, contains_mapped, contains_none, contains_tail}
use Rattle.lemmas.proofs.Permutations.{permutation_same}
use Rattle.tags.specs.declared.value.Value.{Value}
use Rattle.tags.specs.declared.value.Value.TheVariants.{Int}
use Rattle.tags.specs.declared.token.Port.TheVariants.{Left, Right}
use Rattle.semantics.specs.Graph.{Flow}
use Rattle.semantics.specs.Meaning.{Context}
use Rattle.semantics.specs.Plan.{Plan}
use Rattle.semantics.specs.Rule.{token}
use Rattle.law_confluence.proofs.Orders.{shuffled, Part as Piece, ◌⊕◌, at_first, at_last}
use Rattle.law_net.specs.ContextsParts.{Part, Framer, Fanned, Sender, Asked, NextAsked, InCell, Shown, Done, Freed, inlet, Datum, signal, Item, item, Firing}
use Rattle.law_net.specs.ContextsBlocks.{source_count, waits_in}
use Rattle.law_net.specs.Contexts.{Wires, block_in, is_strict_in}
use Rattle.law_net.specs.ContextsFirings.{Config, takes, makes, arguments_from, IsProper}
use Rattle.law_net.specs.ContextsMirror.{word_of, to_of, token_of, in_slot}
use Rattle.law_machine_refines_net.specs.MovesCases.{Taking, net_of}
use Rattle.law_machine_refines_net.proofs.MovesAccount.{Account, no_move, part_fires, reordered}
use Rattle.law_machine_refines_net.proofs.MovesFitted.{fits, bare, bare_item, taken_here, lone_port, plain_way}
use Rattle.law_machine_refines_net.proofs.SendsInwards.{carried_as}
use Rattle.law_machine_refines_net.proofs.FramesWanted.{Wants, request}
use Rattle.law_machine_refines_net.proofs.FramesArgued.{arguments_at, argument_here}
use Rattle.law_machine_refines_net.proofs.FramesParted.{Apart, Split, split, Waited, wait_each}

-- AN ARGUMENT after its call fired
abbrev pub up : Item → Item
up i = record { context = i.context; inlet = record { part = i.inlet.part; port = i.inlet.port; way = 1 }; word = i.word; held = i.held }

ups : (c : Context) (n i : ℕ) (vs : List Value) → arguments_from c n 1 i vs ≡ map up (arguments_from c n 0 i vs)
ups c n i [] = refl
ups c n i (v ∷ vs) = ap (λ l. item c (inlet (Sender n i) Right 1) (Datum v) ∷ l) (ups c n (i + 1) vs)

apart : (c : Context) (n i : ℕ) (vs : List Value) → Apart (arguments_from c n 0 i vs)
apart c n i [] = tt
apart c n i (v ∷ vs) = (λ y h e. differ (arguments_at c n 0 (i + 1) vs y h) e, apart c n (i + 1) vs)
  where
    differ : {y : Item} → (m : ℕ) × (u : Value) × (i + 1 ≤ m) × (y ≡ item c (inlet (Sender n m) Right 0) (Datum u))
        → item c (inlet (Sender n i) Right 0) (Datum v) ≡ y → ⊥
    differ (m, u, low, z) e = let k : Sender n i ≡ Sender n m = ap (λ (j : Item). j.inlet.part) (e ∙ z) in let same : i ≡ m = cc in omega (arith, low, same)

module _ (fl : Flow) (p : Plan) (w : Wires) (fired : List Firing) where
  to_up : (i : Item) (r : Part) → to_of fl p w fired (up i) r ≡ to_of fl p w fired i r
  to_up i (Asked n) = refl
  to_up i NextAsked = refl
  to_up i (InCell n) = refl
  to_up i (Shown n) = refl
  to_up i Done = refl
  to_up i Freed = refl
  to_up i r = refl

  pub token_up : (i : Item) → token_of fl p w fired (up i) ≡ token_of fl p w fired i
  token_up i = let x = to_up i i.inlet.part in λ t. token (x t) (word_of fl p w fired i.word)

  pub tokens_up : (items : List Item) → map (token_of fl p w fired) (map up items) ≡ map (token_of fl p w fired) items
  tokens_up [] = refl
  tokens_up (i ∷ items) = let x = token_up i in let y = tokens_up items in λ t. x t ∷ y t

module _ (s0 : Taking) (n : ℕ) (e : s0.i.inlet.part ≡ Framer n) (strict : is_strict_in s0.fl s0.i.context n ≡ true) where
  abbrev pub framing : Taking
  framing = carried_as s0 (Framer n) e

  abbrev s : Taking
  s = framing

  abbrev net : Config
  net = net_of s

  abbrev c : Context
  c = s0.i.context

  abbrev count : ℕ
  count = source_count (block_in s0.fl s0.i.context) n

  abbrev pub framer_wants : Wants (carried_as s0 (Framer n) e)
  framer_wants = record { asked = Asked n; answered = Fanned n; one = refl; is = refl; op = refl; leads = refl; no_wire = refl; seek = refl; row = refl }

  abbrev pub ask : Item
  ask = request (carried_as s0 (Framer n) e) framer_wants

  framer_item : item s0.i.context (inlet (Framer n) Left 0) s0.i.word ≡ s.i
  framer_item =
      let k = fits s s.i (taken_here s) in
      let left = lone_port s0.fl s0.i.context (Framer n) s0.i.inlet.port refl k.port in
      let way = plain_way s0.fl s0.i.context (Framer n) s0.i.inlet.port s0.i.inlet.way refl k.way in
      sym (bare_item s.i (bare s s.i (taken_here s) refl) (Framer n) Left 0 refl left way)

  -- THE ARGUMENTS
  gather : (k i : ℕ) → i + k ≡ count → (vs : List Value) × (length vs ≡ k)
      × ((j : Item) → Contains (arguments_from c n 0 i vs) j → Contains (net.pending ++ net.waiting) j)
  gather zero i z = ([], refl, λ j h. absurd (contains_none j h))
  gather (suc k) i z =
      let a = argument_here s n refl strict i (omega (arith, z)) in
      let m = gather k (i + 1) (omega (arith, z)) in (
        a.0 ∷ m.0,
        ap (λ k. suc k) m.1,
        λ j h. pick a.0 m.0 a.1 m.2 j (contains_cases (item c (inlet (Sender n i) Right 0) (Datum a.0)) (arguments_from c n 0 (i + 1) m.0) j h),
      )
    where
      pick : (v : Value) (vs : List Value) → Contains (net.pending ++ net.waiting) (item c (inlet (Sender n i) Right 0) (Datum v))
          → ((j : Item) → Contains (arguments_from c n 0 (i + 1) vs) j → Contains (net.pending ++ net.waiting) j)
          → (j : Item) → (item c (inlet (Sender n i) Right 0) (Datum v) ≡ j) ⊎ Contains (arguments_from c n 0 (i + 1) vs) j
          → Contains (net.pending ++ net.waiting) j
      pick v vs here more j (inl d) = subst (Contains (net.pending ++ net.waiting)) d here
      pick v vs here more j (inr d) = more j d

  pub gathered : (vs : List Value) × (length vs ≡ count) × ((j : Item) → Contains (arguments_from c n 0 0 vs) j → Contains (net.pending ++ net.waiting) j)
  gathered = gather count 0 (omega arith)

  abbrev vs : List Value
  vs = gathered.0

  abbrev pub args : List Item
  args = arguments_from s0.i.context n 0 0 gathered.0

  pub arg_part : (j : Item) → Contains args j → (m : ℕ) × (j.inlet.part ≡ Sender n m)
  arg_part j h = let k = arguments_at c n 0 0 vs j h in (k.0, ap (λ (i : Item). i.inlet.part) k.3)

  in_others : (j : Item) → Contains args j → Contains (s.others ++ net.waiting) j
  in_others j h = first (Contains-append_cases net.pending net.waiting j (gathered.2 j h))
    where
      other : (s.i ≡ j) ⊎ Contains s.others j → Contains (s.others ++ net.waiting) j
      other (inl d) = let k = arg_part j h in let z : Framer n ≡ Sender n k.0 = ap (λ (i : Item). i.inlet.part) d ∙ k.1 in absurd (cc)
      other (inr d) = Contains-append_left s.others net.waiting j d

      first : Contains net.pending j ⊎ Contains net.waiting j → Contains (s.others ++ net.waiting) j
      first (inl d) = other (contains_cases s.i s.others j (Contains-permutation _ _ j s.perm d))
      first (inr d) = Contains-append_right s.others net.waiting j d

  pub parted : Split s.others net.waiting args
  parted = split args s.others net.waiting (apart c n 0 vs) in_others

  -- THE FIRING
  abbrev pub call : Firing
  call =
      record {
        context = s0.i.context;
        part = Framer n;
        way = 0;
        left = s0.i.word;
        right = signal;
        frame = 0;
        answer = Int (pos 0);
        turns = 0;
        operands = gathered.0;
      }

  pub takes_is : takes s0.fl call ≡ s.i ∷ args
  takes_is = λ t. framer_item t ∷ (if strict t then args else [])

  makes_is : makes s0.fl s0.w call ≡ ask ∷ map up args
  makes_is = ap (λ t. ask ∷ (if t then arguments_from c n 1 0 vs else [])) strict ∙ ap (λ l. ask ∷ l) (ups c n 0 vs)

  proper : IsProper s0.fl net.fired call
  proper = gathered.1 ∙ sym (ap (λ t. if t then count else 0) strict)

  pub pending_is : IsPermutation net.pending (s.i ∷ (parted.now ++ parted.rest))
  pending_is = IsPermutation-trans _ _ _ s.perm (IsPermutation-append_right (s.i ∷ []) _ _ parted.first_is)

  kept_arg : (x : Item) → Contains parted.kept x → Contains args x
  kept_arg x h = Contains-permutation _ _ x parted.both (Contains-append_right parted.now parted.kept x h)

  -- what waits and is made anew meets another word
  abbrev pub Kind : Item → Type 0
  Kind j = in_slot s0.fl j ≡ true

  sender_waits : (j : Item) (m : ℕ) → j.inlet.part ≡ Sender n m → Kind j
  sender_waits j m h = ap (waits_in (block_in s0.fl j.context)) h

  called : Account s Kind (record { pending = makes s0.fl s0.w call ++ parted.rest; waiting = parted.left; fired = call ∷ net.fired }) (call ∷ [])
      (ask ∷ map up args)
  called =
      reordered (part_fires (no_move s Kind) call (s.i ∷ parted.now) parted.rest parted.kept parted.left pending_is parted.second_is
      (at_last (IsPermutation-append_right (s.i ∷ []) _ _ parted.both) (sym takes_is)) proper
      (λ test spares. parted.same test (λ j h. let k = arg_part j h in spares j (sender_waits j k.0 k.1)))) (ask ∷ map up args)
      (permutation_same _ _ (append-nil (makes s0.fl s0.w call) ∙ makes_is))

  -- those that waited wait again
  pub waited : Waited s Kind (call ∷ []) (ask ∷ map up args) (map up parted.kept) (ask ∷ (map up parted.now ++ parted.rest)) parted.left (call ∷ net.fired)
  waited =
      wait_each s Kind (call ∷ []) (ask ∷ map up args) (map up parted.kept) (ask ∷ (map up parted.now ++ parted.rest)) (makes s0.fl s0.w call ++ parted.rest)
      parted.left (call ∷ net.fired) called
      (at_first (ap (λ l. l ++ parted.rest) makes_is) (IsPermutation-trans _ _ _
      (IsPermutation-append_left parted.rest _ _
      (IsPermutation-append_right (ask ∷ []) _ _
      (at_last (IsPermutation-map up _ _ (IsPermutation-sym _ _ parted.both)) (map-append up parted.now parted.kept))))
      (shuffled ((ask ∷ []) ∷ map up parted.now ∷ map up parted.kept ∷ parted.rest ∷ []) ((Piece 0 ⊕ (Piece 1 ⊕ Piece 2)) ⊕ Piece 3)
      (Piece 2 ⊕ (Piece 0 ⊕ (Piece 1 ⊕ Piece 3))) refl)))
      (λ j h. let k = contains_mapped up parted.kept j h in let o = arg_part k.0 (kept_arg k.0 k.1) in
      sender_waits j o.0 (ap (λ (i : Item). i.inlet.part) (sym k.2) ∙ o.1))

  abbrev pub renewed_net : Config
  renewed_net = record { pending = waited.now_pending; waiting = waited.now_waiting; fired = call ∷ net.fired }

  pub renewed_account : Account s Kind renewed_net (call ∷ []) (ask ∷ map up args)
  renewed_account = waited.account

  pub pending_now : IsPermutation renewed_net.pending (ask ∷ (map up parted.now ++ parted.rest))
  pending_now = waited.pending

  pub waiting_now : IsPermutation renewed_net.waiting (map up parted.kept ++ parted.left)
  waiting_now = waited.waits

  -- WHAT IS THERE was there, or is an argument made anew
  abbrev pub From : Item → Item → Type 0
  From x j = (x ≡ j) ⊎ (Contains args x × (up x ≡ j))

  now_arg : (x : Item) → Contains parted.now x → Contains args x
  now_arg x h = Contains-permutation _ _ x parted.both (Contains-append_left parted.now parted.kept x h)

  was_pending : (x : Item) → Contains (parted.now ++ parted.rest) x → Contains net.pending x
  was_pending x h = Contains-permutation _ _ x (IsPermutation-sym _ _ pending_is) (contains_tail s.i (parted.now ++ parted.rest) x h)

  was_waiting : (x : Item) → Contains (parted.kept ++ parted.left) x → Contains net.waiting x
  was_waiting x h = Contains-permutation _ _ x (IsPermutation-sym _ _ parted.second_is) h

  pub pending_from : (j : Item) → Contains renewed_net.pending j → (ask ≡ j) ⊎ ((x : Item) × Contains net.pending x × From x j)
  pending_from j h = first (contains_cases ask (map up parted.now ++ parted.rest) j (Contains-permutation _ _ j pending_now h))
    where
      second : Contains (map up parted.now) j ⊎ Contains parted.rest j → (x : Item) × Contains net.pending x × From x j
      second (inl d) =
          let k = contains_mapped up parted.now j d in (k.0, was_pending k.0 (Contains-append_left parted.now parted.rest k.0 k.1), inr (now_arg k.0 k.1, k.2))
      second (inr d) = (j, was_pending j (Contains-append_right parted.now parted.rest j d), inl refl)

      first : (ask ≡ j) ⊎ Contains (map up parted.now ++ parted.rest) j → (ask ≡ j) ⊎ ((x : Item) × Contains net.pending x × From x j)
      first (inl d) = inl d
      first (inr d) = inr (second (Contains-append_cases (map up parted.now) parted.rest j d))

  pub waiting_from : (j : Item) → Contains renewed_net.waiting j → (x : Item) × Contains net.waiting x × From x j
  waiting_from j h = pick (Contains-append_cases (map up parted.kept) parted.left j (Contains-permutation _ _ j waiting_now h))
    where
      pick : Contains (map up parted.kept) j ⊎ Contains parted.left j → (x : Item) × Contains net.waiting x × From x j
      pick (inl d) =
          let k = contains_mapped up parted.kept j d in
          (k.0, was_waiting k.0 (Contains-append_left parted.kept parted.left k.0 k.1), inr (kept_arg k.0 k.1, k.2))
      pick (inr d) = (j, was_waiting j (Contains-append_right parted.kept parted.left j d), inl refl)

  -- and what waited waits, anew or as it was
  pub waits_still : (x : Item) → Contains net.waiting x → (j : Item) × Contains renewed_net.waiting j × From x j
  waits_still x h = pick (Contains-append_cases parted.kept parted.left x (Contains-permutation _ _ x parted.second_is h))
    where
      here : (j : Item) → Contains (map up parted.kept ++ parted.left) j → Contains renewed_net.waiting j
      here j d = Contains-permutation _ _ j (IsPermutation-sym _ _ waiting_now) d

      pick : Contains parted.kept x ⊎ Contains parted.left x → (j : Item) × Contains renewed_net.waiting j × From x j
      pick (inl d) =
          (up x, here (up x) (Contains-append_left (map up parted.kept) parted.left (up x) (contains_map up parted.kept x d)), inr (kept_arg x d, refl))
      pick (inr d) = (x, here x (Contains-append_right (map up parted.kept) parted.left x d), inl refl)
