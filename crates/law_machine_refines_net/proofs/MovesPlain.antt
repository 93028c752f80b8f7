-- What stays after an event: requests, readers, slots and memory; and what an event shows that hands out no frame.
use Rattle.std.proofs.Common.{◌≡◌, ℕ, Bool, true, false, List, [], ◌∷◌, ◌++◌, map, refl, sym, ap, ◌∙◌, subst, inl, inr, ◌⊎◌, true≢false, Some}
use Rattle.std.specs.Prelude.{IsPermutation, Contains}
use Rattle.std.proofs.lemmas.List.Elements.{Contains-append_right, Contains-append_cases}
use Rattle.std.proofs.lemmas.List.Sorted.{IsPermutation-trans, IsPermutation-sym, IsPermutation-map}
use Rattle.lemmas.proofs.Contains.{contains_head, contains_tail}
use Rattle.semantics.specs.Graph.{Flow}
use Rattle.semantics.specs.Meaning.{Context, Main, Memory}
use Rattle.semantics.specs.Cause.{SameSeen}
use Rattle.semantics.specs.Machine.{value_in}
use Rattle.semantics.specs.Orderly.{readers_of}
use Rattle.law_confluence.proofs.NetSlots.{InSlots}
use Rattle.law_confluence.proofs.Orders.{at_first, at_last}
use Rattle.law_net.specs.ContextsParts.{Part, InCell, Shown, Done, Freed, Inlet, BackTo, Item, Firing}
use Rattle.law_net.specs.ContextsFirings.{Config, frame_at, cell_of, memory_of, remembered, HasFired}
use Rattle.law_net.specs.ContextsMirror.{frame_of, word_of, token_of, on_side, in_slot, slot_of, only, is_asked, is_in_cell, is_instr, reads}
use Rattle.law_net.specs.ContextsMirror.{conts_of, named_by}
use Rattle.law_net.specs.ContextsMirror.{Mirrors, but_cells}
use Rattle.law_machine_refines_net.specs.MovesCases.{Taking, net_of, Shows}
use Rattle.law_machine_refines_net.proofs.MovesAccount.{Account, Spares, renews, here}
use Rattle.law_machine_refines_net.proofs.MovesLasting.{item_word, tokens_last}
use Rattle.law_machine_refines_net.proofs.MovesFramed.{HandNone, frames_same, all_last}
use Rattle.law_machine_refines_net.proofs.MovesBalanced.{Sound, HasFrame, WasThere, UsedNow, Remembers}
use Rattle.law_machine_refines_net.proofs.MovesSettled.{pool_is, nh}

-- WHAT THE MEMORY DOES NOT HEED
abbrev pub is_silent : Part → Bool
is_silent (InCell n) = false
is_silent (Shown j) = false
is_silent Done = false
is_silent Freed = false
is_silent r = true

pub instr_silent : (r : Part) → is_instr r ≡ true → is_silent r ≡ true
instr_silent (InCell n) e = absurd (true≢false (sym e))
instr_silent (Shown j) e = absurd (true≢false (sym e))
instr_silent Done e = absurd (true≢false (sym e))
instr_silent Freed e = absurd (true≢false (sym e))
instr_silent r e = refl

abbrev pub AreSilent : List Firing → Type 0
AreSilent fs = (f : Firing) → Contains fs f → is_silent f.part ≡ true

silent_memory : (fl : Flow) (f : Firing) (r : Part) (m : Memory) → is_silent r ≡ true → remembered fl f r m ≡ m
silent_memory fl f (InCell n) m e = absurd (true≢false (sym e))
silent_memory fl f (Shown j) m e = absurd (true≢false (sym e))
silent_memory fl f r m e = refl

pub same_memory : (fl : Flow) (fs fired : List Firing) → AreSilent fs → memory_of fl (fs ++ fired) ≡ memory_of fl fired
same_memory fl [] fired silent = refl
same_memory fl (f ∷ fs) fired silent =
    silent_memory fl f f.part (memory_of fl (fs ++ fired)) (silent f (contains_head f fs))
    ∙ same_memory fl fs fired (λ h c. silent h (contains_tail f fs h c))

-- the parts after which a frame or the run is over
abbrev pub is_end : Part → Bool
is_end Done = true
is_end Freed = true
is_end r = false

abbrev pub NoneEnds : List Firing → Type 0
NoneEnds fs = (f : Firing) → Contains fs f → is_end f.part ≡ false

silent_end : (r : Part) → is_silent r ≡ true → is_end r ≡ false
silent_end Done e = absurd (true≢false (sym e))
silent_end Freed e = absurd (true≢false (sym e))
silent_end r e = refl

pub silent_ends : (fs : List Firing) → AreSilent fs → NoneEnds fs
silent_ends fs silent f h = silent_end f.part (silent f h)

-- what has fired of them, except for these
pub fired_before : (fs fired : List Firing) → NoneEnds fs → (c : Context) (q : Part) → is_end q ≡ true → HasFired c q (fs ++ fired) → HasFired c q fired
fired_before fs fired none c q k h = pick (Contains-append_cases fs fired h.0 h.1)
  where
    pick : Contains fs h.0 ⊎ Contains fired h.0 → HasFired c q fired
    pick (inl d) = absurd (true≢false (sym k ∙ sym (ap is_end h.3) ∙ none h.0 d))
    pick (inr d) = (h.0, d, h.2, h.3)

pub fired_still : (fs fired : List Firing) (c : Context) (q : Part) → HasFired c q fired → HasFired c q (fs ++ fired)
fired_still fs fired c q h = (h.0, Contains-append_right fs fired h.0 h.1, h.2, h.3)

-- AN EVENT LEAVES what the meaning sees, and the done mark
pub record Recalled (s : Taking) : Type 0 where
  pub outputs : (j : ℕ) → s.new.store.outputs j ≡ s.m.store.outputs j
  pub cells : (x : ℕ) → value_in (s.new.store.cells x) ≡ value_in (s.m.store.cells x)
  pub done : s.new.store.done ≡ s.m.store.done

-- and the frames that are out
pub record Recalls (s : Taking) : Type 0 where
  pub recalled : Recalled s
  pub out : (g : ℕ) → s.new.store.out g ≡ s.m.store.out g

-- or the rest of the store alone, too
pub record Stays (s : Taking) : Type 0 where
  pub requests : s.new.store.requests ≡ s.m.store.requests
  pub cells : (x : ℕ) → s.new.store.cells x ≡ s.m.store.cells x
  pub outputs : (j : ℕ) → s.new.store.outputs j ≡ s.m.store.outputs j
  pub done : s.new.store.done ≡ s.m.store.done
  pub out : (g : ℕ) → s.new.store.out g ≡ s.m.store.out g

pub recalls : (s : Taking) → Stays s → Recalls s
recalls s stays =
    record { recalled = record { outputs = stays.outputs; cells = λ x. ap value_in (stays.cells x); done = stays.done }; out = stays.out }

module _ {s : Taking} {T : Item → Type 0} {d : Config} {new : List Firing} {made : List Item} (l : Account s T d new made) where
  abbrev net : Config
  net = net_of s

  abbrev old : Mirrors s.fl s.p s.w s.m net
  old = s.keeps.tracks.stands

  -- WHAT STAYS, where nothing of it is removed or added
  pub requests_stay : s.new.store.requests ≡ s.m.store.requests → Spares s T (λ (i : Item). is_asked i.inlet.part)
      → IsPermutation s.new.store.requests (conts_of s.fl s.p s.w net.fired (only (λ (i : Item). is_asked i.inlet.part) d.waiting))
  requests_stay e spares =
      at_first e (at_last old.requests (ap (conts_of s.fl s.p s.w net.fired) (sym (l.spared (λ (i : Item). is_asked i.inlet.part) spares))))

  pub readers_stay : (x : ℕ) → s.new.store.cells x ≡ s.m.store.cells x → Spares s T (λ (i : Item). reads s.fl x i i.inlet.part)
      → IsPermutation (readers_of (s.new.store.cells x)) (conts_of s.fl s.p s.w net.fired (only (λ (i : Item). reads s.fl x i i.inlet.part) d.waiting))
  readers_stay x e spares =
      at_first (ap readers_of e)
      (at_last (old.readers x) (ap (conts_of s.fl s.p s.w net.fired) (sym (l.spared (λ (i : Item). reads s.fl x i i.inlet.part) spares))))

  pub slots_stay : s.new.store.slots ≡ s.m.store.slots → Spares s T (in_slot s.fl)
      → InSlots (λ (i : Item). frame_of s.fl net.fired i.context) (slot_of s.fl s.w)
      (λ (i : Item). on_side i.inlet.port (word_of s.fl s.p s.w net.fired i.word)) old.base (only (in_slot s.fl) d.waiting) s.new.store.slots
  slots_stay e spares =
      subst (λ x. InSlots (λ (i : Item). frame_of s.fl net.fired i.context) (slot_of s.fl s.w)
      (λ (i : Item). on_side i.inlet.port (word_of s.fl s.p s.w net.fired i.word)) old.base (only (in_slot s.fl) d.waiting) x) (sym e)
      (subst (λ x. InSlots (λ (i : Item). frame_of s.fl net.fired i.context) (slot_of s.fl s.w)
      (λ (i : Item). on_side i.inlet.port (word_of s.fl s.p s.w net.fired i.word)) old.base x s.m.store.slots) (sym (l.spared (in_slot s.fl) spares)) old.slots)

  -- no request of a cell is made
  pub good_stay : ((j : Item) → Contains made j → is_in_cell j.inlet.part ≡ false) → (j : Item) (n : ℕ) → Contains (d.pending ++ d.waiting) j
      → j.inlet.part ≡ InCell n → (x : ℕ) × (cell_of s.fl j.context n j.held ≡ Some x)
  good_stay none j n h e = pick (here l j h)
    where
      pick : Contains made j ⊎ Contains (net.pending ++ net.waiting) j → (x : ℕ) × (cell_of s.fl j.context n j.held ≡ Some x)
      pick (inl h) = absurd (true≢false (sym (ap is_in_cell e) ∙ none j h))
      pick (inr h) = old.good j n h e

  -- the memory, where no firing is of the parts that it depends on
  pub silent_seen : AreSilent new → Recalled s → SameSeen s.new.store (memory_of s.fl d.fired)
  silent_seen silent stays =
      let memory = ap (memory_of s.fl) l.fired ∙ same_memory s.fl new net.fired silent in record {
        outputs = λ j. stays.outputs j ∙ old.seen.outputs j ∙ sym (ap (λ (m : Memory). m.outputs j) memory);
        cells = λ x. stays.cells x ∙ old.seen.cells x ∙ sym (ap (λ (m : Memory). m.cells x) memory);
      }

  -- and where none ends a frame or the run
  module _ (ends : NoneEnds new) where
    still : (c : Context) (q : Part) → HasFired c q net.fired → HasFired c q d.fired
    still c q h = subst (HasFired c q) (sym l.fired) (fired_still new net.fired c q h)

    before : (c : Context) (q : Part) → is_end q ≡ true → HasFired c q d.fired → HasFired c q net.fired
    before c q k h = fired_before new net.fired ends c q k (subst (HasFired c q) l.fired h)

    pub done_stays : s.new.store.done ≡ s.m.store.done
        → (s.new.store.done ≡ true → HasFired Main Done d.fired) × (HasFired Main Done d.fired → s.new.store.done ≡ true)
    done_stays same = (λ e. still Main Done (old.done.0 (sym same ∙ e)), λ h. same ∙ old.done.1 (before Main Done refl h))

    pub out_stays : (c : Context) (g : ℕ) → s.new.store.out g ≡ s.m.store.out g → frame_at s.fl net.fired c ≡ Some g
        → (s.new.store.out g ≡ false → HasFired c Freed d.fired) × (HasFired c Freed d.fired → s.new.store.out g ≡ false)
    out_stays c g same e = let k = old.out c g e in (λ o. still c Freed (k.0 (sym same ∙ o)), λ h. same ∙ k.1 (before c Freed refl h))

  module _ (none : HandNone s.fl new) where
    -- NO FRAME IS HANDED OUT
    abbrev same : (c : Context) → frame_at s.fl d.fired c ≡ frame_at s.fl net.fired c
    same c = frames_same l none c

    pub words_stay : (j : Item) → Contains d.waiting j → word_of s.fl s.p s.w d.fired j.word ≡ word_of s.fl s.p s.w net.fired j.word
    words_stay j h = item_word s.fl s.p s.w net.fired d.fired j (all_last l none j)

    pub tokens_stay : (items : List Item) → map (token_of s.fl s.p s.w d.fired) items ≡ map (token_of s.fl s.p s.w net.fired) items
    tokens_stay items = tokens_last s.fl s.p s.w net.fired d.fired items (λ j h. all_last l none j)

    pub pool_of : (sent : List Item) → IsPermutation s.event.made (map (token_of s.fl s.p s.w net.fired) sent)
        → IsPermutation d.pending (sent ++ s.others) → IsPermutation s.new.pool (map (token_of s.fl s.p s.w d.fired) d.pending)
    pool_of sent e perm =
        at_last (IsPermutation-trans _ _ _ (pool_is s sent e) (IsPermutation-map (token_of s.fl s.p s.w net.fired) _ _ (IsPermutation-sym _ _ perm)))
        (sym (tokens_stay d.pending))

    pub tokens_of : renews s.fl new ≡ [] → IsPermutation (but_cells s.event.made) (map (token_of s.fl s.p s.w net.fired) (only (nh s) made))
        → IsPermutation (map (token_of s.fl s.p s.w d.fired) (only (nh s) (renews s.fl new)) ++ but_cells s.event.made)
        (map (token_of s.fl s.p s.w d.fired) (only (nh s) made))
    tokens_of e p =
        at_first (ap (λ x. map (token_of s.fl s.p s.w d.fired) (only (nh s) x) ++ but_cells s.event.made) e) (at_last p (sym (tokens_stay (only (nh s) made))))

    pub sound_of : (j : Item) → HasFrame s j.context → ((c : Context) → named_by j.word ≡ Some c → HasFrame s c)
        → ((c : Context) (x : Inlet) → j.word ≡ BackTo c x → WasThere s j ⊎ UsedNow s c x) → Sound s d j
    sound_of j known named asked = record {
      known = known;
      named = λ c e. let k = named c e in (k.0, same c ∙ k.1);
      asked = λ c x e. pick c x e (asked c x e);
    }
      where
        pick : (c : Context) (x : Inlet) → j.word ≡ BackTo c x → WasThere s j ⊎ UsedNow s c x → WasThere s j ⊎ (HasFrame s c × UsedNow s c x)
        pick c x e (inl w) = inl w
        pick c x e (inr u) = inr (named c (ap named_by e), u)

    pub memory_by : SameSeen s.new.store (memory_of s.fl d.fired) → NoneEnds new → s.new.store.done ≡ s.m.store.done
        → ((g : ℕ) → s.new.store.out g ≡ s.m.store.out g) → Remembers s d
    memory_by seen ends done out = record {
      seen = seen;
      done = done_stays ends done;
      out = λ c g e. out_stays ends c g (out g) (sym (same c) ∙ e);
      not_out = λ g e. let k = old.not_out g (sym (out g) ∙ e) in (k.0, same k.0 ∙ k.1);
    }

    pub memory_of_silent : AreSilent new → Recalls s → Remembers s d
    memory_of_silent silent stays = memory_by (silent_seen silent stays.recalled) (silent_ends new silent) stays.recalled.done stays.out

    -- as shown of the store after a firing
    pub memory_shown : {waiting : List Item} → Shows s d.fired waiting → Remembers s d
    memory_shown shows = record {
      seen = shows.seen;
      done = shows.done;
      out = λ c g e. shows.out c g (sym (same c) ∙ e);
      not_out = λ g e. let k = shows.not_out g e in (k.0, same k.0 ∙ k.1);
    }
