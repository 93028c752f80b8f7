-- An event that fires one part, which may pass on its own continuation and give to a loop's credits.
use Rattle.std.proofs.Common.{◌≡◌, ℕ, ◌<◌, true, false, List, [], ◌∷◌, ◌++◌, map, refl, sym, ap, ◌∙◌, subst, inl, inr, ◌⊎◌, arith, Some, append-nil, None}
use Rattle.std.specs.Prelude.{IsPermutation, Contains}
use Rattle.std.proofs.lemmas.List.Elements.{Contains-append_left, Contains-append_right, Contains-append_cases}
use Rattle.std.proofs.lemmas.List.Sorted.{IsPermutation-refl}
use Rattle.lemmas.proofs.Contains.{contains_cases}
use Rattle.lemmas.proofs.Permutations.{permutation_same}
use Rattle.semantics.specs.Meaning.{Context}
use Rattle.semantics.specs.Holders.{Holder}
use Rattle.semantics.specs.Credits.{granted_at, released_at}
use Rattle.law_net.specs.ContextsParts.{Giver, Landing, Inlet, BackTo, Item, Firing}
use Rattle.law_net.specs.ContextsBlocks.{is_loop}
use Rattle.law_net.specs.Contexts.{block_in, IsContext}
use Rattle.law_net.specs.ContextsFirings.{Config, takes, makes, frame_at, handed_to}
use Rattle.law_net.specs.ContextsMirror.{ip_of, token_of, in_slot, is_in_cell, is_item_at, items_at, named_by, Mirrors, is_instr, is_entry_part}
use Rattle.law_machine_refines_net.specs.MovesCases.{Taking, IsCaused, net_of, Followed, Shows, IsFree, is_still}
use Rattle.law_machine_refines_net.proofs.MovesLists.{count_none, one_holds}
use Rattle.law_machine_refines_net.proofs.MovesParts.{is_lending, pair_asked, pair_quiet, pair_reads, quiet_calm, calm_item, is_credit}
use Rattle.law_machine_refines_net.proofs.MovesStill.{still_proper, still_renews, still_hands, still_lends}
use Rattle.law_machine_refines_net.proofs.MovesAccount.{Account, no_move, kept_fires, reordered}
use Rattle.law_machine_refines_net.proofs.MovesFramed.{HandNone, frames_same, frames_stay}
use Rattle.law_machine_refines_net.proofs.MovesLoops.{Books, unlent_loops, calm_books}
use Rattle.law_machine_refines_net.proofs.MovesBalanced.{WasThere, UsedNow, Balances, balanced, HasFrame}
use Rattle.law_machine_refines_net.proofs.MovesPlain.{words_stay, pool_of, tokens_of, sound_of, good_stay, requests_stay, readers_stay, memory_shown}
use Rattle.law_machine_refines_net.proofs.MovesSettled.{made_but, meant_other}
use Rattle.law_machine_refines_net.proofs.MovesFitted.{taken_here, others_before}

module _ (s : Taking) where
  -- what it takes was there
  pub taken_there : (before kept later : List Item) → (net_of s).waiting ≡ before ++ (kept ++ later) → (a : Item) → Contains (s.i ∷ kept) a
      → Contains ((net_of s).pending ++ (net_of s).waiting) a
  taken_there before kept later waiting a c = by_case (contains_cases s.i kept a c)
    where
      by_case : (s.i ≡ a) ⊎ Contains kept a → Contains ((net_of s).pending ++ (net_of s).waiting) a
      by_case (inl e) = subst (Contains ((net_of s).pending ++ (net_of s).waiting)) e (taken_here s)
      by_case (inr c) =
          Contains-append_right (net_of s).pending (net_of s).waiting a
          (subst (λ (l : List Item). Contains l a) (sym waiting) (Contains-append_right before (kept ++ later) a (Contains-append_left kept later a c)))

  -- AN ITEM THAT IS SENT asks no cell, arrives where a frame is, and its arc is used
  pub record Sent (j : Item) : Type 0 where
    pub held : is_in_cell j.inlet.part ≡ false
    pub known : HasFrame s j.context
    pub named : (d : Context) → named_by j.word ≡ Some d → HasFrame s d
    pub asked : (d : Context) (x : Inlet) → j.word ≡ BackTo d x → WasThere s j ⊎ UsedNow s d x
    pub caused : (is_instr j.inlet.part ≡ true) → (is_entry_part (block_in s.fl j.context) j.inlet.part ≡ false) → IsCaused s j

  -- ITEMS THAT ARE SENT count for loops as the event does
  pub record Counted (items : List Item) : Type 0 where
    pub books : (c : Context) (n : ℕ) → IsContext s.fl c → is_loop (block_in s.fl c) n ≡ true → Books s items c n
    pub released : (c : Context) (n g : ℕ) → IsContext s.fl c → is_loop (block_in s.fl c) n ≡ true → frame_at s.fl (net_of s).fired c ≡ Some g
        → released_at s.p.program g (ip_of s.fl s.p s.w c (Landing n 0)) s.t.to s.event.made ≡ items_at c (Giver n) items
    pub releases : (g base : ℕ) → 0 < released_at s.p.program g base s.t.to s.event.made → (c : Context) × (frame_at s.fl (net_of s).fired c ≡ Some g)

  pub none_released : IsFree s → (g base : ℕ) → 0 < released_at s.p.program g base s.t.to s.event.made
      → (c : Context) × (frame_at s.fl (net_of s).fired c ≡ Some g)
  none_released free g base l = let z = free.released g base in absurd (omega (arith, l, z))

  -- none of them for any
  pub free_counted : IsFree s → (items : List Item) → ((j : Item) → Contains items j → is_credit j.inlet.part ≡ false) → Counted items
  free_counted free items calm = record {
    books = λ c n h l. calm_books s items calm c n;
    released = λ c n g h l e. free.released g (ip_of s.fl s.p s.w c (Landing n 0))
        ∙ sym (count_none (is_item_at c (Giver n)) items (λ j h. calm_item c (Giver n) refl j (calm j h)));
    releases = none_released free;
  }

  -- IT FIRES, with what it finds in its slot
  pub record Passes (f : Firing) : Type 0 where
    pub before : List Item
    pub kept : List Item
    pub later : List Item
    pub waiting : (net_of s).waiting ≡ before ++ (kept ++ later)
    pub paired : (j : Item) → Contains kept j → in_slot s.fl j ≡ true
    pub took : IsPermutation (s.i ∷ kept) (takes s.fl f)
    pub still : is_still f.part ≡ true
    pub made : IsPermutation s.event.made (map (token_of s.fl s.p s.w (net_of s).fired) (makes s.fl s.w f))
    pub sent : (j : Item) → Contains (makes s.fl s.w f) j → Sent j
    pub store : Shows s (f ∷ (net_of s).fired) (before ++ later)
    pub granted : (g : ℕ) (h : Holder) → granted_at s.p s.p.program g h s.m.store s.t.to ≡ 0
    pub counted : Counted (makes s.fl s.w f)

module _ (s : Taking) (f : Firing) (g : Passes s f) where
  abbrev net : Config
  net = net_of s

  abbrev old : Mirrors s.fl s.p s.w s.m net
  old = s.keeps.tracks.stands

  abbrev Kind : Item → Type 0
  Kind j = in_slot s.fl j ≡ true

  abbrev new : Config
  new = record { pending = makes s.fl s.w f ++ s.others; waiting = g.before ++ g.later; fired = f ∷ net.fired }

  account : Account s Kind new (f ∷ []) (makes s.fl s.w f)
  account =
      reordered (kept_fires (no_move s Kind) f (s.i ∷ []) s.others g.before g.kept g.later s.perm g.waiting g.paired g.took
      (still_proper s.fl net.fired f f.part g.still)) (makes s.fl s.w f) (permutation_same _ _ (append-nil (makes s.fl s.w f)))

  none : HandNone s.fl (f ∷ [])
  none = one_holds (λ (h : Firing). handed_to s.fl h.context h.part ≡ None) f (still_hands s.fl f.context f.part g.still)

  balance : Balances s Kind new (f ∷ []) (makes s.fl s.w f)
  balance = record {
    account = account;
    frames = frames_stay account none;
    base = old.base;
    loops = unlent_loops account (frames_stay account none) (words_stay account none) (record {
      lends = one_holds (λ (h : Firing). is_lending h.part ≡ false) f (still_lends f.part g.still);
      calm = λ j t. quiet_calm j.inlet.part (pair_quiet (block_in s.fl j.context) j.inlet.part t);
      granted = g.granted;
      books = g.counted.books;
      released = λ c n h i k e. g.counted.released c n h i k (sym (frames_same account none c) ∙ e);
      releases = λ h base less. let k = g.counted.releases h base less in (k.0, frames_same account none k.0 ∙ k.1);
    });
    words = words_stay account none;
    sound = λ j h. let v = g.sent j h in sound_of account none j v.known v.named v.asked;
    pool = pool_of account none (makes s.fl s.w f) g.made (IsPermutation-refl (makes s.fl s.w f ++ s.others));
    tokens =
        tokens_of account none (ap (λ l. l ++ []) (still_renews s.fl f f.part g.still))
        (made_but s (makes s.fl s.w f) g.made (λ j h. meant_other s.fl s.p s.w net.fired j (g.sent j h).held));
    caused = λ j h i e. caused j i e (Contains-append_cases (makes s.fl s.w f) s.others j h);
    good = good_stay account (λ j h. (g.sent j h).held);
    waits = λ j t. inl t;
    slots = g.store.slots;
    requests = requests_stay account g.store.requests (λ j t. pair_asked (block_in s.fl j.context) j.inlet.part t);
    readers = λ x. readers_stay account x (g.store.cells x) (λ j t. pair_reads s.fl x j (block_in s.fl j.context) j.inlet.part t);
    memory = memory_shown account none g.store;
  }
    where
      caused : (j : Item) → (is_instr j.inlet.part ≡ true) → (is_entry_part (block_in s.fl j.context) j.inlet.part ≡ false)
          → Contains (makes s.fl s.w f) j ⊎ Contains s.others j → Contains net.pending j ⊎ IsCaused s j
      caused j i e (inl h) = inr ((g.sent j h).caused i e)
      caused j i e (inr h) = inl (others_before s j h)

  -- WHAT FOLLOWS
  pub passes_follow : Followed s
  passes_follow = balanced balance
