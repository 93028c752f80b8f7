-- A request for a frame waits, since none is free.
use Rattle.std.proofs.Common.{◌≡◌, true, [], ◌∷◌, ◌++◌, refl, sym, ap, ◌∙◌, inl, inr}
use Rattle.std.specs.Prelude.{IsPermutation}
use Rattle.std.proofs.lemmas.List.Sorted.{IsPermutation-refl, IsPermutation-trans, IsPermutation-append_right}
use Rattle.lemmas.proofs.Permutations.{permutation_same}
use Rattle.lemmas.proofs.Contains.{contains_none}
use Rattle.semantics.specs.Machine.{Store, with_requests, value_in}
use Rattle.law_confluence.proofs.Orders.{shuffled, Part as Piece, ◌⊕◌, at_first, at_last}
use Rattle.law_net.specs.ContextsParts.{Item}
use Rattle.law_net.specs.Contexts.{block_in}
use Rattle.law_net.specs.ContextsFirings.{Config}
use Rattle.law_net.specs.ContextsMirror.{only, is_asked, cont_in, conts_of, but_cells, Mirrors}
use Rattle.law_machine_refines_net.specs.MovesCases.{Taking, net_of, Followed}
use Rattle.law_machine_refines_net.proofs.MovesLists.{kept_yes}
use Rattle.law_machine_refines_net.proofs.MovesAccount.{Account, no_move, item_waits}
use Rattle.law_machine_refines_net.proofs.MovesFramed.{HandNone, frames_stay}
use Rattle.law_machine_refines_net.proofs.MovesLoops.{unlent, unlent_loops}
use Rattle.law_machine_refines_net.proofs.MovesBalanced.{balanced}
use Rattle.law_machine_refines_net.proofs.MovesPlain.{words_stay, pool_of, tokens_of, good_stay, slots_stay, readers_stay, memory_of_silent}
use Rattle.law_machine_refines_net.proofs.MovesFitted.{others_before}
use Rattle.law_machine_refines_net.proofs.FramesWanted.{asked_calm}
use Rattle.law_machine_refines_net.proofs.FramesManaged.{Hands, cont, word_is, manager_free, asked_alone, asked_reads}

module _ (s : Taking) (k : Hands s) (none : s.event.made ≡ [])
    (store : s.new.store ≡ with_requests s.m.store (s.m.store.requests ++ cont s k ∷ [])) where
  abbrev net : Config
  net = net_of s

  abbrev old : Mirrors s.fl s.p s.w s.m net
  old = s.keeps.tracks.stands

  abbrev queued : Config
  queued = record { pending = s.others; waiting = s.i ∷ net.waiting; fired = net.fired }

  abbrev Kind : Item → Type 0
  Kind j = is_asked j.inlet.part ≡ true

  account : Account s Kind queued [] []
  account = item_waits (no_move s Kind) s.i s.others s.perm k.asks

  hands_none : HandNone s.fl []
  hands_none f h = absurd (contains_none f h)

  requests : IsPermutation s.new.store.requests (conts_of s.fl s.p s.w net.fired (only (λ (i : Item). is_asked i.inlet.part) (s.i ∷ net.waiting)))
  requests =
      let rest = conts_of s.fl s.p s.w net.fired (only (λ (i : Item). is_asked i.inlet.part) net.waiting) in
      at_first (ap (λ (x : Store). x.requests) store)
      (at_last (IsPermutation-trans _ _ _ (shuffled (s.m.store.requests ∷ (cont s k ∷ []) ∷ []) (Piece 0 ⊕ Piece 1) (Piece 1 ⊕ Piece 0) refl)
      (IsPermutation-append_right (cont s k ∷ []) _ _ old.requests))
      (sym (ap (conts_of s.fl s.p s.w net.fired) (kept_yes (λ (i : Item). is_asked i.inlet.part) s.i net.waiting k.asks)
      ∙ ap (λ w. cont_in w ++ rest) (word_is s k))))

  pub queued_follows : Followed s
  queued_follows = balanced {T = Kind} {d = queued} {new = []} {made = []} (record {
    account = account;
    frames = frames_stay account hands_none;
    base = old.base;
    loops =
        unlent_loops account (frames_stay account hands_none) (words_stay account hands_none)
        (unlent s Kind queued [] [] (manager_free s k) (λ f h. absurd (contains_none f h)) (λ j t. asked_calm j.inlet.part t)
        (λ j h. absurd (contains_none j h)));
    words = words_stay account hands_none;
    sound = λ j h. absurd (contains_none j h);
    pool = pool_of account hands_none [] (permutation_same _ _ none) (IsPermutation-refl s.others);
    tokens = tokens_of account hands_none refl (permutation_same _ _ (ap but_cells none));
    caused = λ j h i e. inl (others_before s j h);
    good = good_stay account (λ j h. absurd (contains_none j h));
    waits = λ j t. inr (inl t);
    slots = slots_stay account (ap (λ (x : Store). x.slots) store) (λ j t. asked_alone (block_in s.fl j.context) j.inlet.part t);
    requests = requests;
    readers = λ x. readers_stay account x (ap (λ (y : Store). y.cells x) store) (λ j t. asked_reads s.fl x j j.inlet.part t);
    memory = memory_of_silent account hands_none (λ f h. absurd (contains_none f h)) (record {
      recalled =
          record {
            outputs = λ j. ap (λ (x : Store). x.outputs j) store;
            cells = λ y. ap (λ (x : Store). value_in (x.cells y)) store;
            done = ap (λ (x : Store). x.done) store;
          };
      out = λ g. ap (λ (x : Store). x.out g) store;
    });
  })
