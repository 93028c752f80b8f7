-- An event that lets an item wait in its slot.
use Rattle.std.proofs.Common.{◌≡◌, ℕ, true, [], ◌∷◌, refl, sym, ap, ◌∙◌, subst, inl}
use Rattle.std.proofs.lemmas.List.Sorted.{IsPermutation-refl}
use Rattle.lemmas.proofs.Permutations.{permutation_same}
use Rattle.lemmas.proofs.Contains.{contains_none}
use Rattle.tags.specs.declared.token.Port.{Port}
use Rattle.tags.specs.declared.token.Port.TheVariants.{Left, Right}
use Rattle.tags.specs.declared.token.Word.{Word}
use Rattle.tags.specs.declared.slot.SlotState.{SlotState}
use Rattle.tags.specs.declared.slot.SlotState.TheVariants.{Empty}
use Rattle.semantics.specs.Machine.{Store, with_slot}
use Rattle.law_confluence.proofs.NetSlots.{InSlots, slots_add}
use Rattle.law_net.specs.ContextsParts.{Item}
use Rattle.law_net.specs.Contexts.{block_in}
use Rattle.law_net.specs.ContextsFirings.{Config}
use Rattle.law_net.specs.ContextsMirror.{frame_of, word_of, on_side, in_slot, slot_of, only, Mirrors, but_cells}
use Rattle.law_machine_refines_net.specs.MovesCases.{Taking, net_of, Halts, HaltsFollow}
use Rattle.law_machine_refines_net.proofs.MovesLists.{kept_yes}
use Rattle.law_machine_refines_net.proofs.MovesParts.{pair_reads, quiet_calm, pair_quiet, pair_asked}
use Rattle.law_machine_refines_net.proofs.MovesAccount.{Account, no_move, item_waits}
use Rattle.law_machine_refines_net.proofs.MovesFramed.{HandNone, frames_stay}
use Rattle.law_machine_refines_net.proofs.MovesLoops.{unlent, unlent_loops}
use Rattle.law_machine_refines_net.proofs.MovesBalanced.{Balances, balanced}
use Rattle.law_machine_refines_net.proofs.MovesPlain.{words_stay, pool_of, tokens_of, good_stay, requests_stay, readers_stay, memory_of_silent, recalls}
use Rattle.law_machine_refines_net.proofs.MovesFitted.{others_before}
use Rattle.law_machine_refines_net.proofs.Sends.{stays_with}

module _ (s : Taking) (g : Halts s) where
  abbrev net : Config
  net = net_of s

  abbrev old : Mirrors s.fl s.p s.w s.m net
  old = s.keeps.tracks.stands

  abbrev waited : Config
  waited = record { pending = s.others; waiting = s.i ∷ net.waiting; fired = net.fired }

  full : (q : Port) (k : Word) → on_side q k ≡ Empty → ⊥
  full Left k e = absurd (cc)
  full Right k e = absurd (cc)

  abbrev F : Item → ℕ
  F i = frame_of s.fl net.fired i.context

  abbrev H : Item → SlotState
  H i = on_side i.inlet.port (word_of s.fl s.p s.w net.fired i.word)

  halts_slots : InSlots F (slot_of s.fl s.w) H old.base (only (in_slot s.fl) (s.i ∷ net.waiting)) s.new.store.slots
  halts_slots =
      let more = slots_add F (slot_of s.fl s.w) H old.base s.i (only (in_slot s.fl) net.waiting)
      (λ j c a b. full j.inlet.port (word_of s.fl s.p s.w net.fired j.word) (sym (old.slots.waits j c) ∙ sym (λ t. s.m.store.slots (a t) (b t)) ∙ g.empty))
      s.m.store old.slots in
      subst (λ (x : Store). InSlots F (slot_of s.fl s.w) H old.base (only (in_slot s.fl) (s.i ∷ net.waiting)) x.slots) (sym g.store)
      (subst (λ l. InSlots F (slot_of s.fl s.w) H old.base l (with_slot s.m.store (F s.i) (slot_of s.fl s.w s.i) (H s.i)).slots)
      (sym (kept_yes (in_slot s.fl) s.i net.waiting g.slot)) more)

  abbrev Kind : Item → Type 0
  Kind j = in_slot s.fl j ≡ true

  account : Account s Kind waited [] []
  account = item_waits (no_move s Kind) s.i s.others s.perm g.slot

  none : HandNone s.fl []
  none f h = absurd (contains_none f h)

  balance : Balances s Kind waited [] []
  balance = record {
    account = account;
    frames = frames_stay account none;
    base = old.base;
    loops =
        unlent_loops account (frames_stay account none) (words_stay account none)
        (unlent s Kind waited [] [] g.free (λ f h. absurd (contains_none f h))
        (λ j t. quiet_calm j.inlet.part (pair_quiet (block_in s.fl j.context) j.inlet.part t)) (λ j h. absurd (contains_none j h)));
    words = words_stay account none;
    sound = λ j h. absurd (contains_none j h);
    pool = pool_of account none [] (permutation_same _ _ g.none) (IsPermutation-refl s.others);
    tokens = tokens_of account none refl (permutation_same _ _ (ap but_cells g.none));
    caused = λ j h i e. inl (others_before s j h);
    good = good_stay account (λ j h. absurd (contains_none j h));
    waits = λ j t. inl t;
    slots = halts_slots;
    requests =
        requests_stay account (ap (λ (x : Store). x.requests) g.store) (λ j t. pair_asked (block_in s.fl j.context) j.inlet.part t);
    readers =
        λ x. readers_stay account x (ap (λ (y : Store). y.cells x) g.store)
        (λ j t. pair_reads s.fl x j (block_in s.fl j.context) j.inlet.part t);
    memory = memory_of_silent account none (λ f h. absurd (contains_none f h)) (recalls s (stays_with s _ _ _ g.store));
  }

-- AN ITEM THAT WAITS
pub halts_follow : HaltsFollow
halts_follow s g = balanced (balance s g)
