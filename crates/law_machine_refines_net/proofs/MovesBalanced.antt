-- WHAT AN EVENT MUST SHOW: that its account balances. From that the net follows the machine.
use Rattle.std.proofs.Common.{◌≡◌, ℕ, ◌+◌, ◌<◌, Bool, true, false, List, [], ◌∷◌, ◌++◌, map, refl, sym, ap, ◌∙◌, subst, inl, inr, ◌⊎◌, arith, true≢false}
use Rattle.std.proofs.Common.{Option, Some, None, if◌then◌else◌}
use Rattle.std.specs.Prelude.{IsPermutation, Contains, flat_map}
use Rattle.std.proofs.lemmas.Bool.{cases_eq}
use Rattle.std.proofs.lemmas.List.{map-append}
use Rattle.std.proofs.lemmas.List.Concat.{flat_map-append}
use Rattle.std.proofs.lemmas.List.Elements.{Contains-append_left, Contains-append_right}
use Rattle.std.proofs.lemmas.List.Sorted.{IsPermutation-trans, IsPermutation-sym, IsPermutation-map, IsPermutation-append_left, IsPermutation-append_right}
use Rattle.lemmas.proofs.Permutations.{permutation_cancel}
use Rattle.lemmas.proofs.Contains.{contains_cases, contains_head, contains_tail}
use Rattle.tags.specs.declared.token.Token.{Token}
use Rattle.tags.specs.declared.token.Port.{Port}
use Rattle.tags.specs.declared.slot.SlotState.{SlotState}
use Rattle.semantics.specs.Meaning.{Context, Main}
use Rattle.semantics.specs.Arcs.{UsesArc}
use Rattle.semantics.specs.Cause.{SameSeen}
use Rattle.semantics.specs.Handed.{handed_by}
use Rattle.semantics.specs.Holders.{Holder}
use Rattle.semantics.specs.Orderly.{readers_of}
use Rattle.semantics.specs.Plan.{Plan}
use Rattle.law_confluence.proofs.NetSlots.{InSlots}
use Rattle.law_confluence.proofs.Orders.{shuffled, Part as Piece, ◌⊕◌, at_first, at_last, flat_map-IsPermutation}
use Rattle.law_net.specs.ContextsParts.{Opener, Giver, Taker, Drainer, Done, Freed, InCell, Landing, Inlet, BackTo, Item, Firing}
use Rattle.law_net.specs.ContextsBlocks.{is_store, is_loop}
use Rattle.law_net.specs.Contexts.{block_in, code_in, wiring_in, or_zero, IsContext}
use Rattle.law_net.specs.ContextsFirings.{Config, takes, frame_at, frames_of, cell_of, memory_of, HasFired}
use Rattle.law_net.specs.ContextsMirror.{frame_of, ip_of, word_of, token_of, on_side, in_slot, slot_of, only, is_asked, is_in_cell, reads, is_item_at, items_at}
use Rattle.law_net.specs.ContextsMirror.{conts_of, named_by, Mirrors, is_instr, is_entry_part, came, row_of, after, Past, WasUsed, Stepped, is_cell_token}
use Rattle.law_net.specs.ContextsMirror.{but_cells, events_taken}
use Rattle.law_net.proofs.WiredNets.{came_all}
use Rattle.law_machine_refines_net.specs.MovesCases.{Taking, IsCaused, net_of, Followed, is_quiet}
use Rattle.law_machine_refines_net.proofs.MovesLists.{kept_append, kept_out, count_append, count_none, count_same}
use Rattle.law_machine_refines_net.proofs.MovesParts.{calm_item, pair_quiet, renewed_calm}
use Rattle.law_machine_refines_net.proofs.MovesAccount.{Account, renews, here, all, came_is}
use Rattle.law_machine_refines_net.proofs.MovesLasting.{Lasts, tokens_last, conts_same, slots_last}
use Rattle.law_machine_refines_net.proofs.MovesFramed.{Frames, Gives}
use Rattle.law_machine_refines_net.proofs.MovesLoops.{Loops}
use Rattle.law_machine_refines_net.proofs.MovesSettled.{met_tokens, nh}
use Rattle.law_machine_refines_net.proofs.MovesFitted.{among}
use Rattle.law_machine_refines_net.proofs.FramesUnframed.{no_items}

pub used_later : (p : Plan) (steps : List Stepped) (step : Stepped) (f ip : ℕ) (r : Port) → WasUsed p steps f ip r → WasUsed p (steps ++ step ∷ []) f ip r
used_later p steps step f ip r u = (u.0, Contains-append_left steps (step ∷ []) u.0 u.1, u.2)

given_one : (o : Option (Context × ℕ)) (c e : Context) (g : ℕ) → Gives o c g → Gives o e g → c ≡ e
given_one None c e g a b = absurd a
given_one (Some k) c e g a b = a.0 ∙ sym b.0

module _ (s : Taking) where
  -- the arcs of a continuation are used by the event
  abbrev pub UsedNow : Context → Inlet → Type 0
  UsedNow c x = (n : ℕ) → n < row_of s.fl s.p s.w c x.part
      → UsesArc s.p (frame_of s.fl (net_of s).fired c) (ip_of s.fl s.p s.w c x.part + n) x.port s.t s.event.made s.new

  -- a word of before
  abbrev pub WasThere : Item → Type 0
  WasThere j = (a : Item) × Contains ((net_of s).pending ++ (net_of s).waiting) a × (a.word ≡ j.word)

  abbrev pub HasFrame : Context → Type 0
  HasFrame c = (g : ℕ) × (frame_at s.fl (net_of s).fired c ≡ Some g)

  -- A NEW ITEM is in a context that had a frame, and names one that has; its continuation's arcs were used
  pub record Sound (d : Config) (j : Item) : Type 0 where
    pub known : HasFrame j.context
    pub named : (c : Context) → named_by j.word ≡ Some c → (g : ℕ) × (frame_at s.fl d.fired c ≡ Some g)
    pub asked : (c : Context) (x : Inlet) → j.word ≡ BackTo c x → WasThere j ⊎ (HasFrame c × UsedNow c x)

  -- what waits meets another word, asks, fetches, or is of a loop
  abbrev pub Waits : Item → Type 0
  Waits j = (in_slot s.fl j ≡ true) ⊎ ((is_asked j.inlet.part ≡ true)
      ⊎ (((n : ℕ) × (j.inlet.part ≡ InCell n) × (is_store (block_in s.fl j.context) n ≡ false))
      ⊎ ((n : ℕ) × ((j.inlet.part ≡ Giver n) ⊎ ((j.inlet.part ≡ Taker n) ⊎ (j.inlet.part ≡ Drainer n))))))

  -- THE MEMORY, the done mark, and which frames are out
  pub record Remembers (d : Config) : Type 0 where
    pub seen : SameSeen s.new.store (memory_of s.fl d.fired)
    pub done : (s.new.store.done ≡ true → HasFired Main Done d.fired) × (HasFired Main Done d.fired → s.new.store.done ≡ true)
    pub out : (c : Context) (g : ℕ) → frame_at s.fl d.fired c ≡ Some g
        → (s.new.store.out g ≡ false → HasFired c Freed d.fired) × (HasFired c Freed d.fired → s.new.store.out g ≡ false)
    pub not_out : (g : ℕ) → s.new.store.out g ≡ true → (c : Context) × (frame_at s.fl d.fired c ≡ Some g)

  -- IT BALANCES: frames, loops, tokens, slots, requests, readers and memory are as the account says
  pub record Balances (T : Item → Type 0) (d : Config) (new : List Firing) (made : List Item) : Type 0 where
    pub account : Account s T d new made
    pub frames : Frames s d
    pub base : ℕ → ℕ → SlotState
    pub loops : Loops s d made base
    pub words : (j : Item) → Contains d.waiting j → word_of s.fl s.p s.w d.fired j.word ≡ word_of s.fl s.p s.w (net_of s).fired j.word
    pub sound : (j : Item) → Contains made j → Sound d j
    pub pool : IsPermutation s.new.pool (map (token_of s.fl s.p s.w d.fired) d.pending)
    pub tokens : IsPermutation (map (token_of s.fl s.p s.w d.fired) (only (nh s) (renews s.fl new)) ++ but_cells s.event.made)
        (map (token_of s.fl s.p s.w d.fired) (only (nh s) made))
    pub caused : (j : Item) → Contains d.pending j → (is_instr j.inlet.part ≡ true) → (is_entry_part (block_in s.fl j.context) j.inlet.part ≡ false)
        → Contains (net_of s).pending j ⊎ IsCaused s j
    pub good : (j : Item) (n : ℕ) → Contains (d.pending ++ d.waiting) j → j.inlet.part ≡ InCell n → (x : ℕ) × (cell_of s.fl j.context n j.held ≡ Some x)
    pub waits : (j : Item) → T j → Waits j
    pub slots : InSlots (λ (i : Item). frame_of s.fl (net_of s).fired i.context) (slot_of s.fl s.w)
        (λ (i : Item). on_side i.inlet.port (word_of s.fl s.p s.w (net_of s).fired i.word)) base (only (in_slot s.fl) d.waiting) s.new.store.slots
    pub requests : IsPermutation s.new.store.requests
        (conts_of s.fl s.p s.w (net_of s).fired (only (λ (i : Item). is_asked i.inlet.part) d.waiting))
    pub readers : (x : ℕ) → IsPermutation (readers_of (s.new.store.cells x))
        (conts_of s.fl s.p s.w (net_of s).fired (only (λ (i : Item). reads s.fl x i i.inlet.part) d.waiting))
    pub memory : Remembers d

module _ {s : Taking} {T : Item → Type 0} {d : Config} {new : List Firing} {made : List Item} (v : Balances s T d new made) where
  abbrev net : Config
  net = net_of s

  abbrev old : Mirrors s.fl s.p s.w s.m net
  old = s.keeps.tracks.stands

  abbrev l : Account s T d new made
  l = v.account

  abbrev tok : Item → Token
  tok j = token_of s.fl s.p s.w d.fired j

  -- WHAT WAS KNOWN is known, by the same frame
  now : (c : Context) → HasFrame s c → (g : ℕ) × (frame_at s.fl d.fired c ≡ Some g)
  now c k = (k.0, v.frames.grows c k.0 k.1)

  same : (c : Context) → HasFrame s c → frame_of s.fl d.fired c ≡ frame_of s.fl net.fired c
  same c k = ap or_zero (v.frames.grows c k.0 k.1 ∙ sym k.1)

  before : (j : Item) → Contains (net.pending ++ (net.waiting ++ flat_map (takes s.fl) net.fired)) j → Lasts s.fl s.p s.w net.fired d.fired j
  before j h = record { own = same j.context (old.known j h); named = λ c e. same c (old.named j c h e) }

  -- what is there is where a frame was
  here_known : (j : Item) → Contains (d.pending ++ d.waiting) j → HasFrame s j.context
  here_known j h = pick (here l j h)
    where
      pick : Contains made j ⊎ Contains (net.pending ++ net.waiting) j → HasFrame s j.context
      pick (inl h) = (v.sound j h).known
      pick (inr h) = old.known j (among s j h)

  frame_here : (j : Item) → Contains (d.pending ++ d.waiting) j → frame_of s.fl d.fired j.context ≡ frame_of s.fl net.fired j.context
  frame_here j h = same j.context (here_known j h)

  waiting_words : (test : Item → Bool) → conts_of s.fl s.p s.w d.fired (only test d.waiting) ≡ conts_of s.fl s.p s.w net.fired (only test d.waiting)
  waiting_words test = conts_same s.fl s.p s.w net.fired d.fired (only test d.waiting) (λ j h. v.words j (kept_out test d.waiting j h).0)

  stands : Mirrors s.fl s.p s.w s.new d
  stands = record {
    pool = v.pool;
    known = λ j h. now j.context (known j (all l j h));
    apart = λ c e g a b. apart c e g (v.frames.newer c g a) (v.frames.newer e g b);
    named = λ j c h e. named j c e (all l j h);
    base = v.base;
    slots =
        slots_last (λ (i : Item). frame_of s.fl net.fired i.context) (λ (i : Item). frame_of s.fl d.fired i.context) (slot_of s.fl s.w)
        (λ (i : Item). on_side i.inlet.port (word_of s.fl s.p s.w net.fired i.word)) (λ (i : Item). on_side i.inlet.port (word_of s.fl s.p s.w d.fired i.word))
        v.base (only (in_slot s.fl) d.waiting) s.new.store.slots
        (λ i h. sym (frame_here i (Contains-append_right d.pending d.waiting i (kept_out (in_slot s.fl) d.waiting i h).0)))
        (λ i h. ap (on_side i.inlet.port) (sym (v.words i (kept_out (in_slot s.fl) d.waiting i h).0))) v.slots;
    loops = λ c n g h k e. (v.loops.each c n h k).slot g e;
    others = v.loops.others;
    requests = at_last v.requests (sym (waiting_words (λ (i : Item). is_asked i.inlet.part)));
    readers = λ x. at_last (v.readers x) (sym (waiting_words (λ (i : Item). reads s.fl x i i.inlet.part)));
    good = v.good;
    no_store = λ j n h e. no_store j n e (l.left j h);
    waits = λ j h. waits j (l.left j h);
    seen = v.memory.seen;
    done = v.memory.done;
    out = v.memory.out;
    not_out = v.memory.not_out;
  }
    where
      known : (j : Item) → Contains made j ⊎ Contains (net.pending ++ (net.waiting ++ flat_map (takes s.fl) net.fired)) j → HasFrame s j.context
      known j (inl h) = (v.sound j h).known
      known j (inr h) = old.known j h

      apart : (c e : Context) (g : ℕ) → (frame_at s.fl net.fired c ≡ Some g) ⊎ Gives v.frames.gave c g
          → (frame_at s.fl net.fired e ≡ Some g) ⊎ Gives v.frames.gave e g → c ≡ e
      apart c e g (inl a) (inl b) = old.apart c e g a b
      apart c e g (inl a) (inr b) = absurd ((v.frames.fresh e g b).1 c a)
      apart c e g (inr a) (inl b) = absurd ((v.frames.fresh c g a).1 e b)
      apart c e g (inr a) (inr b) = given_one v.frames.gave c e g a b

      named : (j : Item) (c : Context) → named_by j.word ≡ Some c
          → Contains made j ⊎ Contains (net.pending ++ (net.waiting ++ flat_map (takes s.fl) net.fired)) j
          → (g : ℕ) × (frame_at s.fl d.fired c ≡ Some g)
      named j c e (inl h) = (v.sound j h).named c e
      named j c e (inr h) = now c (old.named j c h e)

      fetches : (j : Item) (n : ℕ) → j.inlet.part ≡ InCell n → Waits s j → is_store (block_in s.fl j.context) n ≡ false
      fetches j n e (inl a) = let z = pair_quiet (block_in s.fl j.context) j.inlet.part a in absurd (true≢false (sym z ∙ ap is_quiet e))
      fetches j n e (inr (inl a)) = absurd (true≢false (sym a ∙ ap is_asked e))
      fetches j n e (inr (inr (inl (m, k, o)))) =
          let z : InCell m ≡ InCell n = sym k ∙ e in let same : m ≡ n = cc in subst (λ n. is_store (block_in s.fl j.context) n ≡ false) same o
      fetches j n e (inr (inr (inr (m, inl k)))) = let z : InCell n ≡ Giver m = sym e ∙ k in absurd (cc)
      fetches j n e (inr (inr (inr (m, inr (inl k))))) = let z : InCell n ≡ Taker m = sym e ∙ k in absurd (cc)
      fetches j n e (inr (inr (inr (m, inr (inr k))))) = let z : InCell n ≡ Drainer m = sym e ∙ k in absurd (cc)

      no_store : (j : Item) (n : ℕ) → j.inlet.part ≡ InCell n → Contains net.waiting j ⊎ T j → is_store (block_in s.fl j.context) n ≡ false
      no_store j n e (inl h) = old.no_store j n h e
      no_store j n e (inr t) = fetches j n e (v.waits j t)

      in_one : (j : Item) → Waits s j
          → (in_slot s.fl j ≡ true) ⊎ ((is_asked j.inlet.part ≡ true)
          ⊎ ((is_in_cell j.inlet.part ≡ true) ⊎ ((n : ℕ) × ((j.inlet.part ≡ Giver n) ⊎ ((j.inlet.part ≡ Taker n) ⊎ (j.inlet.part ≡ Drainer n))))))
      in_one j (inl a) = inl a
      in_one j (inr (inl a)) = inr (inl a)
      in_one j (inr (inr (inl (n, e, k)))) = inr (inr (inl (ap is_in_cell e)))
      in_one j (inr (inr (inr k))) = inr (inr (inr k))

      waits : (j : Item) → Contains net.waiting j ⊎ T j
          → (in_slot s.fl j ≡ true) ⊎ ((is_asked j.inlet.part ≡ true)
          ⊎ ((is_in_cell j.inlet.part ≡ true) ⊎ ((n : ℕ) × ((j.inlet.part ≡ Giver n) ⊎ ((j.inlet.part ≡ Taker n) ⊎ (j.inlet.part ≡ Drainer n))))))
      waits j (inl h) = old.waits j h
      waits j (inr t) = in_one j (v.waits j t)

  -- ALL TOKENS so far: what is made anew has its token
  met : IsPermutation (but_cells (events_taken (s.q.events ++ (s.e, s.t) ∷ []) ++ s.new.pool)) (map tok (only (nh s) (came s.fl d)))
  met =
      let B = λ (t : Token). if is_cell_token t then [] else t ∷ [] in
      let N = λ (i : Item). if nh s i then i ∷ [] else [] in
      let C = map tok (only (nh s) (came s.fl net)) in let R = map tok (only (nh s) (renews s.fl new)) in let M = map tok (only (nh s) made) in
      let E = events_taken s.q.events in
      let a = at_last (flat_map-IsPermutation B _ _ (met_tokens s)) (flat_map-append B (E ++ s.m.pool) s.event.made) in
      let stay = tokens_last s.fl s.p s.w net.fired d.fired (only (nh s) (came s.fl net))
      (λ j h. before j (came_all s.fl net j (kept_out (nh s) (came s.fl net) j h).0)) in
      let b = at_last s.keeps.tracks.met (sym stay) in
      let c : IsPermutation (R ++ but_cells (events_taken (s.q.events ++ (s.e, s.t) ∷ []) ++ s.new.pool)) (C ++ M) =
      IsPermutation-trans _ _ _ (IsPermutation-append_right R _ _ (IsPermutation-trans _ _ _ a (IsPermutation-append_left (but_cells s.event.made) _ _ b)))
      (IsPermutation-trans _ _ _ (shuffled (R ∷ C ∷ but_cells s.event.made ∷ []) (Piece 0 ⊕ (Piece 1 ⊕ Piece 2)) (Piece 1 ⊕ (Piece 0 ⊕ Piece 2)) refl)
      (IsPermutation-append_right C _ _ v.tokens)) in
      let parted : (xs ys : List Item) → map tok (only (nh s) (xs ++ ys)) ≡ map tok (only (nh s) xs) ++ map tok (only (nh s) ys) =
      λ xs ys. ap (map tok) (kept_append (nh s) xs ys) ∙ map-append tok (only (nh s) xs) (only (nh s) ys) in
      let e : IsPermutation (C ++ M) (R ++ map tok (only (nh s) (came s.fl d))) =
      IsPermutation-trans _ _ _ (shuffled (C ∷ M ∷ []) (Piece 0 ⊕ Piece 1) (Piece 1 ⊕ Piece 0) refl)
      (at_first (sym (parted made (came s.fl net)))
      (IsPermutation-trans _ _ _ (IsPermutation-map tok _ _ (flat_map-IsPermutation N _ _ (IsPermutation-sym _ _ (came_is l))))
      (at_first (parted (came s.fl d) (renews s.fl new))
      (shuffled (map tok (only (nh s) (came s.fl d)) ∷ R ∷ []) (Piece 0 ⊕ Piece 1) (Piece 1 ⊕ Piece 0) refl)))) in
      permutation_cancel R _ _ (IsPermutation-trans _ _ _ c e)

  -- turns that were given back
  givers : (c : Context) (n : ℕ) → items_at c (Giver n) (came s.fl d) ≡ items_at c (Giver n) made + items_at c (Giver n) (came s.fl net)
  givers c n =
      let t = is_item_at c (Giver n) in
      let a = count_same t _ _ (came_is l) in let b = count_append t (came s.fl d) (renews s.fl new) in
      let e = count_append t made (came s.fl net) in
      let z = count_none t (renews s.fl new) (λ j h. calm_item c (Giver n) refl j (renewed_calm s.fl new j h)) in omega (arith, a, b, e, z)

  abbrev past : Past
  past = after s.p s.q s.e s.t s.m.store s.event.made s.new

  abbrev step : Stepped
  step = record { taken = s.t; made = s.event.made; left = s.new }

  this_step : Contains past.steps step
  this_step = Contains-append_right s.q.steps (step ∷ []) step (contains_head step [])

  -- an arc used before, by the frame of now
  used_before : (c : Context) (ip : ℕ) (r : Port) → HasFrame s c → WasUsed s.p s.q.steps (frame_of s.fl net.fired c) ip r
      → WasUsed s.p past.steps (frame_of s.fl d.fired c) ip r
  used_before c ip r k u =
      subst (λ f. WasUsed s.p past.steps f ip r) (sym (same c k)) (used_later s.p s.q.steps step (frame_of s.fl net.fired c) ip r u)

  used_here : (c : Context) (ip : ℕ) (r : Port) → HasFrame s c → UsesArc s.p (frame_of s.fl net.fired c) ip r s.t s.event.made s.new
      → WasUsed s.p past.steps (frame_of s.fl d.fired c) ip r
  used_here c ip r k u = subst (λ f. WasUsed s.p past.steps f ip r) (sym (same c k)) (step, this_step, u)

  -- WHAT FOLLOWS
  pub balanced : Followed s
  balanced = record {
    net = d;
    moves = l.moves;
    stands = stands;
    met = met;
    handed = λ g h. handed g (contains_cases 0 (frames_of s.fl d.fired) g h);
    caused = λ j h i e. caused j (here_known j (Contains-append_left d.pending d.waiting j h)) i e (v.caused j h i e);
    asked = λ j c x n h e less. asked j c x n e less (here l j h);
    credits = λ c n h k. (v.loops.each c n h k).keeps;
    granted = λ c n g h k e. (v.loops.each c n h k).granted g e;
    no_other = λ g h less. no_other g h less (cases_eq (s.q.granted g h) 0);
    released = λ c n g h k e. released c n g h k e (v.frames.newer c g e);
    none_released = λ g base less. none_released g base less (cases_eq (s.q.released g base) 0);
  }
    where
      handed_before : (g : ℕ) → Contains (0 ∷ frames_of s.fl net.fired) g → Contains past.handed g
      handed_before g h = Contains-append_left s.q.handed (handed_by s.t.to s.event.made) g (s.keeps.tracks.handed g h)

      handed : (g : ℕ) → (0 ≡ g) ⊎ Contains (frames_of s.fl d.fired) g → Contains past.handed g
      handed g (inl e) = handed_before g (subst (Contains (0 ∷ frames_of s.fl net.fired)) e (contains_head 0 (frames_of s.fl net.fired)))
      handed g (inr h) = pick (v.frames.handed g h)
        where
          pick : Contains (frames_of s.fl net.fired) g ⊎ Contains (handed_by s.t.to s.event.made) g → Contains past.handed g
          pick (inl h) = handed_before g (contains_tail 0 (frames_of s.fl net.fired) g h)
          pick (inr h) = Contains-append_right s.q.handed (handed_by s.t.to s.event.made) g h

      caused : (j : Item) → HasFrame s j.context → (is_instr j.inlet.part ≡ true) → (is_entry_part (block_in s.fl j.context) j.inlet.part ≡ false)
          → Contains net.pending j ⊎ IsCaused s j
          → WasUsed s.p past.steps (frame_of s.fl d.fired j.context) (ip_of s.fl s.p s.w j.context j.inlet.part) j.inlet.port
      caused j k i e (inl h) = used_before j.context (ip_of s.fl s.p s.w j.context j.inlet.part) j.inlet.port k (s.keeps.tracks.caused j h i e)
      caused j k i e (inr (inl u)) = used_here j.context (ip_of s.fl s.p s.w j.context j.inlet.part) j.inlet.port k u
      caused j k i e (inr (inr u)) = used_before j.context (ip_of s.fl s.p s.w j.context j.inlet.part) j.inlet.port k u

      asked : (j : Item) (c : Context) (x : Inlet) (n : ℕ) → j.word ≡ BackTo c x → n < row_of s.fl s.p s.w c x.part
          → Contains made j ⊎ Contains (net.pending ++ net.waiting) j
          → WasUsed s.p past.steps (frame_of s.fl d.fired c) (ip_of s.fl s.p s.w c x.part + n) x.port
      asked j c x n e less (inr h) =
          used_before c (ip_of s.fl s.p s.w c x.part + n) x.port (old.named j c (among s j h) (ap named_by e)) (s.keeps.tracks.asked j c x n h e less)
      asked j c x n e less (inl h) = pick ((v.sound j h).asked c x e)
        where
          pick : WasThere s j ⊎ (HasFrame s c × UsedNow s c x) → WasUsed s.p past.steps (frame_of s.fl d.fired c) (ip_of s.fl s.p s.w c x.part + n) x.port
          pick (inl (a, b, w)) =
              used_before c (ip_of s.fl s.p s.w c x.part + n) x.port (old.named a c (among s a b) (ap named_by (w ∙ e)))
              (s.keeps.tracks.asked a c x n b (w ∙ e) less)
          pick (inr (k, u)) = used_here c (ip_of s.fl s.p s.w c x.part + n) x.port k (u n less)

      no_other : (g : ℕ) (h : Holder) → 0 < past.granted g h → (s.q.granted g h ≡ 0) ⊎ (s.q.granted g h ≡ 0 → ⊥)
          → (c : Context) × (n : ℕ) × IsContext s.fl c × (is_loop (block_in s.fl c) n ≡ true) × (frame_at s.fl d.fired c ≡ Some g)
          × (h ≡ record { block = code_in s.fl s.w c; number = (wiring_in s.fl s.w c).slot (Opener n) })
      no_other g h less (inl z) = v.loops.no_other g h (omega (arith, less, z))
      no_other g h less (inr z) = let k = s.keeps.tracks.no_other g h (omega (arith, z)) in (k.0, k.1, k.2, k.3, v.frames.grows k.0 g k.4, k.5)

      none_released : (g base : ℕ) → 0 < past.released g base → (s.q.released g base ≡ 0) ⊎ (s.q.released g base ≡ 0 → ⊥)
          → (c : Context) × (frame_at s.fl d.fired c ≡ Some g)
      none_released g base less (inl z) = v.loops.releases g base (omega (arith, less, z))
      none_released g base less (inr z) = let k = s.keeps.tracks.none_released g base (omega (arith, z)) in (k.0, v.frames.grows k.0 g k.1)

      released : (c : Context) (n g : ℕ) → IsContext s.fl c → is_loop (block_in s.fl c) n ≡ true → frame_at s.fl d.fired c ≡ Some g
          → (frame_at s.fl net.fired c ≡ Some g) ⊎ Gives v.frames.gave c g
          → past.released g (ip_of s.fl s.p s.w c (Landing n 0)) ≡ items_at c (Giver n) (came s.fl d)
      released c n g h k e (inl f) =
          let a = s.keeps.tracks.released c n g h k f in let b = (v.loops.each c n h k).released g e in let o = givers c n in omega (arith, a, b, o)
      released c n g h k e (inr f) =
          let a = none_before (cases_eq (s.q.released g (ip_of s.fl s.p s.w c (Landing n 0))) 0) in let b = (v.loops.each c n h k).released g e in
          let o = givers c n in let z = no_items s c (v.frames.fresh c g f).0 (Giver n) in omega (arith, a, b, o, z)
        where
          none_before : (s.q.released g (ip_of s.fl s.p s.w c (Landing n 0)) ≡ 0) ⊎ (s.q.released g (ip_of s.fl s.p s.w c (Landing n 0)) ≡ 0 → ⊥)
              → s.q.released g (ip_of s.fl s.p s.w c (Landing n 0)) ≡ 0
          none_before (inl z) = z
          none_before (inr z) = let x = s.keeps.tracks.none_released g (ip_of s.fl s.p s.w c (Landing n 0)) (omega (arith, z)) in
              absurd ((v.frames.fresh c g f).1 x.0 x.1)
