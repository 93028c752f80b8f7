-- A store at its cell: it fills it, and all that wait for it are answered.
use Rattle.std.proofs.Common.{◌≡◌, ℕ, ◌*◌, Bool, true, false, List, [], ◌∷◌, ◌++◌, map, refl, sym, ap, ◌∙◌, subst, inl, inr, ◌⊎◌, true≢false, Option, Some}
use Rattle.std.proofs.Common.{None, append_assoc, ◌==◌, eqb-true, eq-eqb, ne_eqb, if◌then◌else◌}
use Rattle.std.specs.Prelude.{IsPermutation, Contains}
use Rattle.std.proofs.lemmas.Bool.{cases_eq}
use Rattle.std.proofs.lemmas.List.{map-append}
use Rattle.std.proofs.lemmas.List.Elements.{Contains-append_cases}
use Rattle.std.proofs.lemmas.List.Sorted.{IsPermutation-map, IsPermutation-append}
use Rattle.lemmas.proofs.Permutations.{permutation_same}
use Rattle.tags.specs.declared.value.Value.{Value}
use Rattle.tags.specs.declared.token.Cont.{Cont}
use Rattle.tags.specs.declared.token.Word.{Word}
use Rattle.tags.specs.declared.token.To.{To}
use Rattle.tags.specs.declared.token.Token.{Token}
use Rattle.semantics.specs.Meaning.{Memory}
use Rattle.semantics.specs.Orderly.{readers_of}
use Rattle.semantics.specs.Machine.{Store, CellState, Vacant, Full, Deferred, Happens, Stores, value_in, answer, answers, with_cell, put_at}
use Rattle.semantics.proofs.Stores.{put_other}
use Rattle.law_confluence.proofs.NetSlots.{put_same}
use Rattle.law_confluence.proofs.Orders.{at_first, at_last}
use Rattle.law_net.specs.ContextsParts.{Part, InCell, Item, Firing}
use Rattle.law_net.specs.ContextsBlocks.{is_store}
use Rattle.law_net.specs.Contexts.{block_in}
use Rattle.law_net.specs.ContextsFirings.{Config, makes, cell_of, second_of, stored_at, memory_of, remembered, Answers, AFill, ProperAt}
use Rattle.law_net.specs.ContextsMirror.{token_of, to_of, cell_to, in_slot, only, is_in_cell, reads, conts_of, came, Mirrors}
use Rattle.law_net.specs.ContextsMirror as Named
use Rattle.law_machine_refines_net.specs.MovesCases.{Taking, net_of, Followed}
use Rattle.law_machine_refines_net.proofs.MovesLists.{contains_one, one_holds}
use Rattle.law_machine_refines_net.proofs.MovesAccount.{Account, alone_fires}
use Rattle.law_machine_refines_net.proofs.MovesFitted.{taken_here, waiting_here}
use Rattle.law_machine_refines_net.proofs.CellsHeld.{IsReply, held_firing, cont, cont_is, place, takes_is, makes_is, reply, reply_is, reply_token}
use Rattle.law_machine_refines_net.proofs.CellsFetched.{IsFetch, cells_follow, free_store}
use Rattle.law_machine_refines_net.proofs.CellsAnswering.{Answering, all_answered, along_tokens, along_all, alongs, unread, test, kept_apart, kept_neither}

module _ (s : Taking) (n : ℕ) (e : s.i.inlet.part ≡ InCell n) (store : is_store (block_in s.fl s.i.context) n ≡ true) where
  abbrev net : Config
  net = net_of s

  abbrev old : Mirrors s.fl s.p s.w s.m net
  old = s.keeps.tracks.stands

  abbrev tok : Item → Token
  tok i = token_of s.fl s.p s.w net.fired i

  abbrev x : ℕ
  x = (place s s.i (taken_here s) n e).0

  abbrev k : Cont
  k = cont s s.i (taken_here s) n e

  abbrev u : Value
  u = second_of s.i.held

  to_cell : s.t.to ≡ To.Store x u
  to_cell =
      ap (λ (t : Token). t.to) s.is_token ∙ ap (to_of s.fl s.p s.w net.fired s.i) e
      ∙ (λ t. cell_to ((place s s.i (taken_here s) n e).1 t) (store t) (second_of s.i.held))

  stores : Stores s.m.store x u k (s.m.store.cells x) s.event.made s.new.store
  stores =
      let a = subst (λ (y : To). Happens s.p.program (s.z.elements * s.z.frames) s.m.store y s.t.word s.event.made s.new.store) to_cell s.event.happens in
      subst (λ (y : Word). Happens s.p.program (s.z.elements * s.z.frames) s.m.store (To.Store x u) y s.event.made s.new.store)
      (ap (λ (t : Token). t.word) s.is_token ∙ cont_is s s.i (taken_here s) n e) a

  -- the cell was not full
  module _ (before : CellState) (is : s.m.store.cells x ≡ before) (none : value_in before ≡ None)
      (made : s.event.made ≡ answers (readers_of before ++ k ∷ []) u) (same : s.new.store ≡ with_cell s.m.store x (Full u)) where
    abbrev f : Firing
    f = held_firing s.i u

    empty : (memory_of s.fl net.fired).cells x ≡ None
    empty = sym (old.seen.cells x) ∙ ap value_in is ∙ none

    proper : Answers s.fl (memory_of s.fl net.fired) s.i.context n s.i.held u
    proper = AFill x store (place s s.i (taken_here s) n e).1 empty refl

    abbrev filled : Config
    filled = record { pending = makes s.fl s.w f ++ s.others; waiting = net.waiting; fired = f ∷ net.fired }

    filled_account : Account s (IsFetch s) filled (f ∷ []) (makes s.fl s.w f)
    filled_account =
        alone_fires s (IsFetch s) f (takes_is s s.i (taken_here s) n e u) (subst (λ (r : Part). ProperAt s.fl net.fired f r) (sym e) proper)

    -- the memory with it
    fills : (r : Part) (m : Memory) → r ≡ InCell n → remembered s.fl f r m ≡ stored_at (Some x) u m
    fills r m h =
        ap (λ r. remembered s.fl f r m) h ∙ ap (λ (t : Bool). if t then stored_at (cell_of s.fl s.i.context n s.i.held) (second_of s.i.held) m else m) store
        ∙ ap (λ o. stored_at o u m) (place s s.i (taken_here s) n e).1

    memory : memory_of s.fl filled.fired ≡ stored_at (Some x) u (memory_of s.fl net.fired)
    memory = fills f.part (memory_of s.fl net.fired) e

    full : (memory_of s.fl filled.fired).cells x ≡ Some u
    full = ap (λ (m : Memory). m.cells x) memory ∙ ap (λ (t : Bool). if t then Some u else (memory_of s.fl net.fired).cells x) (eq-eqb x x refl)

    abbrev answering : Answering s x u filled (makes s.fl s.w f) [] net.waiting
    answering =
        all_answered s x u net.waiting (λ j c. c) filled (f ∷ []) (makes s.fl s.w f) filled_account
        (one_holds (λ (h : Firing). is_in_cell h.part ≡ true) f (ap is_in_cell e)) [] refl full

    abbrev d : Config
    d = answering.to

    abbrev replies : List Item
    replies = alongs s x u net.waiting

    abbrev all_made : List Item
    all_made = replies ++ makes s.fl s.w f

    makes_one : makes s.fl s.w f ≡ reply s s.i (taken_here s) n e u ∷ []
    makes_one = makes_is s s.i (taken_here s) n e u

    made_is : IsPermutation s.event.made (map tok all_made)
    made_is =
        let o : IsPermutation (readers_of before) (conts_of s.fl s.p s.w net.fired (only (test s x u) net.waiting)) =
        at_first (sym (ap readers_of is)) (old.readers x) in
        let a : IsPermutation (answers (readers_of before) u) (map tok replies) =
        at_last (IsPermutation-map (λ (c : Cont). answer c (Word.Val u)) _ _ o) (sym (along_tokens s x u net.waiting (λ j c. c))) in
        let b : answers (k ∷ []) u ≡ map tok (makes s.fl s.w f) = sym (ap (λ t. t ∷ []) (reply_token s s.i (taken_here s) n e u))
        ∙ ap (map tok) (sym makes_one) in
        at_first (made ∙ map-append (λ (c : Cont). answer c (Word.Val u)) (readers_of before) (k ∷ []))
        (at_last (IsPermutation-append _ _ _ _ a (permutation_same _ _ b)) (sym (map-append tok replies (makes s.fl s.w f))))

    -- what holds of all that is sent
    of_made : (P : Item → Type 0) → ((j : Item) (c : Contains net.waiting j) (m : ℕ) (h : j.inlet.part ≡ InCell m) → P (reply s j (waiting_here s j c) m h u))
        → P (reply s s.i (taken_here s) n e u) → (i : Item) → Contains all_made i → P i
    of_made P one own i c = pick (Contains-append_cases replies (makes s.fl s.w f) i c)
      where
        pick : Contains replies i ⊎ Contains (makes s.fl s.w f) i → P i
        pick (inl c) = along_all s x u P one net.waiting (λ j c. c) i c
        pick (inr c) = subst P (contains_one (reply s s.i (taken_here s) n e u) i (subst (λ l. Contains l i) makes_one c)) own

    are_replies : (i : Item) → Contains all_made i → IsReply s i
    are_replies = of_made (IsReply s) (λ j c m h. reply_is s j (waiting_here s j c) m h u) (reply_is s s.i (taken_here s) n e u)

    pending_is : IsPermutation d.pending (all_made ++ s.others)
    pending_is = at_last answering.pending (sym (append_assoc replies (makes s.fl s.w f) s.others))

    -- cells
    cells_now : (y : ℕ) → s.new.store.cells y ≡ put_at s.m.store.cells x (Full u) y
    cells_now y = ap (λ (z : Store). z.cells y) same

    memory_now : memory_of s.fl d.fired ≡ stored_at (Some x) u (memory_of s.fl net.fired)
    memory_now = answering.memory ∙ memory

    seen_now : (y : ℕ) → (t : Bool) → (x == y) ≡ t → value_in (s.new.store.cells y) ≡ (memory_of s.fl d.fired).cells y
    seen_now y true q =
        ap value_in (cells_now y ∙ ap (λ (t : Bool). if t then Full u else s.m.store.cells y) q)
        ∙ sym (ap (λ (m : Memory). m.cells y) memory_now ∙ ap (λ (t : Bool). if t then Some u else (memory_of s.fl net.fired).cells y) q)
    seen_now y false q =
        ap value_in (cells_now y ∙ ap (λ (t : Bool). if t then Full u else s.m.store.cells y) q) ∙ old.seen.cells y
        ∙ sym (ap (λ (m : Memory). m.cells y) memory_now ∙ ap (λ (t : Bool). if t then Some u else (memory_of s.fl net.fired).cells y) q)

    abbrev Readers : CellState → List Item → ℕ → Type 0
    Readers c items y = IsPermutation (readers_of c) (conts_of s.fl s.p s.w net.fired (only (λ (i : Item). reads s.fl y i i.inlet.part) items))

    -- one cell is read
    one_cell : (y : ℕ) → (x ≡ y → ⊥) → (i : Item) (r : Part) → reads s.fl x i r ≡ true → reads s.fl y i r ≡ false
    one_cell y q i (InCell m) h = by_place (cell_of s.fl i.context m i.held) h
      where
        by_place : (o : Option ℕ) → Named.reads_cell x o ≡ true → Named.reads_cell y o ≡ false
        by_place None h = refl
        by_place (Some z) h = let a : x ≡ z = eqb-true x z h in ne_eqb y z (λ b. q (a ∙ sym b))
    one_cell y q i r h = absurd (true≢false (sym h))

    waiting_now : d.waiting ≡ unread s x u net.waiting
    waiting_now = answering.waiting

    readers_now : (y : ℕ) → (x ≡ y) ⊎ (x ≡ y → ⊥) → Readers (s.new.store.cells y) d.waiting y
    readers_now y (inl q) = subst (λ y. Readers (s.new.store.cells y) d.waiting y) q
        (subst (λ c. Readers c d.waiting x) (sym (cells_now x ∙ put_same s.m.store.cells x (Full u)))
        (permutation_same _ _ (sym (ap (λ l. conts_of s.fl s.p s.w net.fired (only (test s x u) l)) waiting_now
        ∙ ap (conts_of s.fl s.p s.w net.fired) (kept_neither (test s x u) net.waiting)))))
    readers_now y (inr q) = subst (λ c. Readers c d.waiting y) (sym (cells_now y ∙ put_other s.m.store.cells x y (Full u) q))
        (at_last (old.readers y) (sym (ap (λ l. conts_of s.fl s.p s.w net.fired (only (λ (i : Item). reads s.fl y i i.inlet.part) l)) waiting_now
        ∙ ap (conts_of s.fl s.p s.w net.fired)
        (kept_apart (test s x u) (λ (i : Item). reads s.fl y i i.inlet.part) (λ i h. one_cell y q i i.inlet.part h) net.waiting))))

    fills_cell : Followed s
    fills_cell = cells_follow s d answering.new all_made (record {
      account = answering.account;
      held = answering.held;
      replies = are_replies;
      pending = pending_is;
      event = made_is;
      store = (put_at s.m.store.cells x (Full u), same);
      readers = λ y. readers_now y (cases_eq x y);
      seen_cells = λ y. seen_now y (x == y) refl;
      free = free_store s x u to_cell;
    })

  -- A STORE
  pub store_follows : Followed s
  store_follows = pick (s.m.store.cells x) refl stores
    where
      pick : (c : CellState) → s.m.store.cells x ≡ c → Stores s.m.store x u k c s.event.made s.new.store → Followed s
      pick Vacant is (made, same) = fills_cell Vacant is refl made same
      pick (Deferred rs) is (made, same) = fills_cell (Deferred rs) is refl made same
      pick (Full v) is m = absurd m
