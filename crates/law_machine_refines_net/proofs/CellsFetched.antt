-- A fetch at its cell: it gets the value, or waits for it.
use Rattle.std.proofs.Common.{◌≡◌, ℕ, ◌*◌, Bool, true, false, List, [], ◌∷◌, ◌++◌, map, refl, sym, ap, ◌∙◌, subst, inl, inr, ◌⊎◌, true≢false, Some, None}
use Rattle.std.proofs.Common.{eq-eqb, ne_eqb, if◌then◌else◌, Option}
use Rattle.std.specs.Prelude.{IsPermutation, Contains}
use Rattle.std.proofs.lemmas.Bool.{cases_eq}
use Rattle.std.proofs.lemmas.List.Elements.{Contains-append_cases}
use Rattle.std.proofs.lemmas.List.Sorted.{IsPermutation-refl, IsPermutation-trans, IsPermutation-append_right, IsPermutation-append_comm, Contains-permutation}
use Rattle.lemmas.proofs.Permutations.{permutation_same}
use Rattle.lemmas.proofs.Contains.{contains_none, contains_tail, contains_head}
use Rattle.tags.specs.declared.value.Value.{Value}
use Rattle.tags.specs.declared.token.Cont.{Cont}
use Rattle.tags.specs.declared.token.Word.{Word}
use Rattle.tags.specs.declared.token.To.{To}
use Rattle.tags.specs.declared.token.Token.{Token}
use Rattle.semantics.specs.Meaning.{Context, Memory}
use Rattle.semantics.specs.Orderly.{readers_of}
use Rattle.semantics.specs.Machine.{Store, CellState, Vacant, Full, Deferred, Happens, Fetches, value_in, answer, with_cell, put_at}
use Rattle.semantics.specs.Credits.{granted_at, released_at}
use Rattle.semantics.specs.Graph.{Flow}
use Rattle.semantics.proofs.Stores.{put_other}
use Rattle.law_confluence.proofs.NetSlots.{put_same}
use Rattle.law_confluence.proofs.Orders.{at_first, at_last}
use Rattle.law_net.specs.ContextsParts.{Part, InCell, Item, Firing}
use Rattle.law_net.specs.ContextsBlocks.{is_store, waits_in}
use Rattle.law_net.specs.Contexts.{block_in}
use Rattle.law_net.specs.ContextsFirings.{Config, makes, cell_of, second_of, memory_of, remembered, stored_at, Answers, ARead, handed_to, renewed, ProperAt}
use Rattle.law_net.specs.ContextsMirror.{token_of, to_of, cell_to, only, is_in_cell, reads, cont_in, conts_of, Mirrors, is_asked, named_by}
use Rattle.law_machine_refines_net.specs.MovesCases.{Taking, IsCaused, net_of, Followed, IsFree}
use Rattle.law_machine_refines_net.proofs.MovesLists.{kept_no, kept_yes, one_holds}
use Rattle.law_machine_refines_net.proofs.MovesParts.{is_credit, is_lending}
use Rattle.law_machine_refines_net.proofs.MovesAccount.{Account, no_move, item_waits, alone_fires, reordered, none_renewed}
use Rattle.law_machine_refines_net.proofs.MovesFramed.{HandNone, frames_stay}
use Rattle.law_machine_refines_net.proofs.MovesLoops.{unlent, unlent_loops}
use Rattle.law_machine_refines_net.proofs.MovesBalanced.{balanced}
use Rattle.law_machine_refines_net.proofs.MovesPlain.{is_end, words_stay, pool_of, tokens_of, sound_of, good_stay, slots_stay, requests_stay, memory_by}
use Rattle.law_machine_refines_net.proofs.MovesSettled.{made_but, meant_other}
use Rattle.law_machine_refines_net.proofs.MovesFitted.{taken_here, instr_held, others_before}
use Rattle.law_machine_refines_net.proofs.CellsHeld.{IsReply, held_firing, cont, cont_is, place, takes_is, makes_is, reply, reply_is, reply_token, reads_is}

-- a fetch at its cell
abbrev pub IsFetch : Taking → Item → Type 0
IsFetch s i = (n : ℕ) × (i.inlet.part ≡ InCell n) × (is_store (block_in s.fl i.context) n ≡ false)

held_outputs : (fl : Flow) (fs fired : List Firing) → ((f : Firing) → Contains fs f → is_in_cell f.part ≡ true) → (i : ℕ)
    → (memory_of fl (fs ++ fired)).outputs i ≡ (memory_of fl fired).outputs i
held_outputs fl [] fired held i = refl
held_outputs fl (f ∷ fs) fired held i =
    of_part f.part (memory_of fl (fs ++ fired)) (held f (contains_head f fs)) ∙ held_outputs fl fs fired (λ h c. held h (contains_tail f fs h c)) i
  where
    stored : (o : Option ℕ) (v : Value) (m : Memory) → (stored_at o v m).outputs i ≡ m.outputs i
    stored None v m = refl
    stored (Some x) v m = refl

    either : (n : ℕ) (m : Memory) (t : Bool)
        → (if t then stored_at (cell_of fl f.context n f.operands) (second_of f.operands) m else m).outputs i ≡ m.outputs i
    either n m true = stored (cell_of fl f.context n f.operands) (second_of f.operands) m
    either n m false = refl

    of_part : (r : Part) (m : Memory) → is_in_cell r ≡ true → (remembered fl f r m).outputs i ≡ m.outputs i
    of_part (InCell n) m e = either n m (is_store (block_in fl f.context) n)
    of_part r m e = absurd (true≢false (sym e))

held_part : (r : Part) → is_in_cell r ≡ true → (is_end r ≡ false) × (is_lending r ≡ false)
held_part (InCell n) e = (refl, refl)
held_part r e = absurd (true≢false (sym e))

held_hands : (fl : Flow) (c : Context) (r : Part) → is_in_cell r ≡ true → handed_to fl c r ≡ None
held_hands fl c (InCell n) e = refl
held_hands fl c r e = absurd (true≢false (sym e))

held_renews : (fl : Flow) (f : Firing) (r : Part) → is_in_cell r ≡ true → renewed fl f r ≡ []
held_renews fl f (InCell n) e = refl
held_renews fl f r e = absurd (true≢false (sym e))

-- A CHANGE OF CELLS ALONE
module _ (s : Taking) where
  abbrev net : Config
  net = net_of s

  abbrev old : Mirrors s.fl s.p s.w s.m net
  old = s.keeps.tracks.stands

  abbrev tok : Item → Token
  tok i = token_of s.fl s.p s.w net.fired i

  -- requests fire, and what they make are answers
  pub record CellMoved (d : Config) (new : List Firing) (made : List Item) : Type 0 where
    pub account : Account s (IsFetch s) d new made
    pub held : (f : Firing) → Contains new f → is_in_cell f.part ≡ true
    pub replies : (i : Item) → Contains made i → IsReply s i
    pub pending : IsPermutation d.pending (made ++ s.others)
    pub event : IsPermutation s.event.made (map tok made)
    pub store : (c : ℕ → CellState) × (s.new.store ≡ record s.m.store { cells = c })
    pub readers : (y : ℕ) → IsPermutation (readers_of (s.new.store.cells y))
        (conts_of s.fl s.p s.w net.fired (only (λ (i : Item). reads s.fl y i i.inlet.part) d.waiting))
    pub seen_cells : (y : ℕ) → value_in (s.new.store.cells y) ≡ (memory_of s.fl d.fired).cells y
    pub free : IsFree s

  pub cells_follow : (d : Config) (new : List Firing) (made : List Item) → CellMoved d new made → Followed s
  cells_follow d new made g = balanced {T = IsFetch s} {d = d} {new = new} {made = made} (record {
    account = g.account;
    frames = frames_stay g.account none;
    base = old.base;
    loops = unlent_loops g.account (frames_stay g.account none) (words_stay g.account none)
        (unlent s (IsFetch s) d new made g.free (λ f h. (held_part f.part (g.held f h)).1) (λ i t. ap is_credit t.1) (λ i h. (g.replies i h).calm));
    words = words_stay g.account none;
    sound = λ i h. let r = g.replies i h in sound_of g.account none i r.known
        (λ c e. let z : None ≡ Some c = sym r.unnamed ∙ e in absurd (cc))
        (λ c x e. let z : None ≡ Some c = sym r.unnamed ∙ ap named_by e in absurd (cc));
    pool = pool_of g.account none made g.event g.pending;
    tokens =
        tokens_of g.account none (none_renewed s.fl new (λ f h. held_renews s.fl f f.part (g.held f h)))
        (made_but s made g.event (λ i h. meant_other s.fl s.p s.w net.fired i (not_held i h)));
    caused = λ i h a e. caused i (Contains-append_cases made s.others i (Contains-permutation _ _ i g.pending h));
    good = good_stay g.account not_held;
    waits = λ i t. inr (inr (inl t));
    slots = slots_stay g.account (ap (λ (x : Store). x.slots) g.store.1) (λ i t. ap (waits_in (block_in s.fl i.context)) t.1);
    requests = requests_stay g.account (ap (λ (x : Store). x.requests) g.store.1) (λ i t. ap is_asked t.1);
    readers = g.readers;
    memory = memory_by g.account none (record {
      outputs = λ i. ap (λ (x : Store). x.outputs i) g.store.1 ∙ old.seen.outputs i
          ∙ sym (ap (λ fs. (memory_of s.fl fs).outputs i) g.account.fired ∙ held_outputs s.fl new net.fired g.held i);
      cells = g.seen_cells;
    }) (λ f h. (held_part f.part (g.held f h)).0) (ap (λ (x : Store). x.done) g.store.1) (λ h. ap (λ (x : Store). x.out h) g.store.1);
  })
    where
      none : HandNone s.fl new
      none f h = held_hands s.fl f.context f.part (g.held f h)

      not_held : (i : Item) → Contains made i → is_in_cell i.inlet.part ≡ false
      not_held i h = instr_held i.inlet.part (g.replies i h).instr

      caused : (i : Item) → Contains made i ⊎ Contains s.others i → Contains net.pending i ⊎ IsCaused s i
      caused i (inl h) = inr (g.replies i h).caused
      caused i (inr h) = inl (others_before s i h)

  -- a token of a cell grants no credit
  pub free_fetch : (x : ℕ) → s.t.to ≡ To.Fetch x → IsFree s
  free_fetch x e = record {
    granted = λ g h. subst (λ (x : To). granted_at s.p s.p.program g h s.m.store x ≡ 0) (sym e) refl;
    released = λ g base. subst (λ (x : To). released_at s.p.program g base x s.event.made ≡ 0) (sym e) refl;
  }

  pub free_store : (x : ℕ) (v : Value) → s.t.to ≡ To.Store x v → IsFree s
  free_store x v e = record {
    granted = λ g h. subst (λ (x : To). granted_at s.p s.p.program g h s.m.store x ≡ 0) (sym e) refl;
    released = λ g base. subst (λ (x : To). released_at s.p.program g base x s.event.made ≡ 0) (sym e) refl;
  }

  pub held_remembers : (f : Firing) (n : ℕ) (r : Part) (m : Memory) → r ≡ InCell n → is_store (block_in s.fl f.context) n ≡ false → remembered s.fl f r m ≡ m
  held_remembers f n r m e k =
      ap (λ r. remembered s.fl f r m) e ∙ ap (λ (t : Bool). if t then stored_at (cell_of s.fl f.context n f.operands) (second_of f.operands) m else m) k

  -- ---- A FETCH
  module _ (n : ℕ) (e : s.i.inlet.part ≡ InCell n) (fetch : is_store (block_in s.fl s.i.context) n ≡ false) where
    abbrev x : ℕ
    x = (place s s.i (taken_here s) n e).0

    abbrev k : Cont
    k = cont s s.i (taken_here s) n e

    to_cell : s.t.to ≡ To.Fetch x
    to_cell =
        ap (λ (t : Token). t.to) s.is_token ∙ ap (to_of s.fl s.p s.w net.fired s.i) e
        ∙ (λ t. cell_to ((place s s.i (taken_here s) n e).1 t) (fetch t) (second_of s.i.held))

    fetches : Fetches s.m.store x k (s.m.store.cells x) s.event.made s.new.store
    fetches =
        let a = subst (λ (y : To). Happens s.p.program (s.z.elements * s.z.frames) s.m.store y s.t.word s.event.made s.new.store) to_cell s.event.happens in
        subst (λ (y : Word). Happens s.p.program (s.z.elements * s.z.frames) s.m.store (To.Fetch x) y s.event.made s.new.store)
        (ap (λ (t : Token). t.word) s.is_token ∙ cont_is s s.i (taken_here s) n e) a

    -- the cell is full
    module _ (v : Value) (full : s.m.store.cells x ≡ Full v) (made : s.event.made ≡ answer k (Word.Val v) ∷ []) (same : s.new.store ≡ s.m.store) where
      abbrev f : Firing
      f = held_firing s.i v

      abbrev d : Config
      d = record { pending = makes s.fl s.w f ++ s.others; waiting = net.waiting; fired = f ∷ net.fired }

      abbrev answered : Item
      answered = reply s s.i (taken_here s) n e v

      proper : Answers s.fl (memory_of s.fl net.fired) s.i.context n s.i.held v
      proper = ARead x fetch (place s s.i (taken_here s) n e).1 (sym (old.seen.cells x) ∙ ap value_in full)

      makes_one : makes s.fl s.w f ≡ answered ∷ []
      makes_one = makes_is s s.i (taken_here s) n e v

      memory : memory_of s.fl d.fired ≡ memory_of s.fl net.fired
      memory = held_remembers f n f.part (memory_of s.fl net.fired) e fetch

      gets : Followed s
      gets = cells_follow d (f ∷ []) (answered ∷ []) (record {
        account =
            reordered (alone_fires s (IsFetch s) f (takes_is s s.i (taken_here s) n e v)
            (subst (λ (r : Part). ProperAt s.fl net.fired f r) (sym e) proper)) (answered ∷ []) (permutation_same _ _ makes_one);
        held = one_holds (λ (h : Firing). is_in_cell h.part ≡ true) f (ap is_in_cell e);
        replies = one_holds (IsReply s) answered (reply_is s s.i (taken_here s) n e v);
        pending = permutation_same _ _ (ap (λ l. l ++ s.others) makes_one);
        event = permutation_same _ _ (made ∙ sym (ap (λ t. t ∷ []) (reply_token s s.i (taken_here s) n e v)));
        store = (s.m.store.cells, same);
        readers =
            λ y. subst (λ (z : Store). IsPermutation (readers_of (z.cells y))
            (conts_of s.fl s.p s.w net.fired (only (λ (i : Item). reads s.fl y i i.inlet.part) net.waiting))) (sym same) (old.readers y);
        seen_cells = λ y. ap (λ (z : Store). value_in (z.cells y)) same ∙ old.seen.cells y ∙ sym (ap (λ (m : Memory). m.cells y) memory);
        free = free_fetch x to_cell;
      })

    -- the cell is not full: it waits
    module _ (before : CellState) (is : s.m.store.cells x ≡ before) (none : value_in before ≡ None) (made : s.event.made ≡ [])
        (same : s.new.store ≡ with_cell s.m.store x (Deferred (readers_of before ++ k ∷ []))) where
      abbrev late : Config
      late = record { pending = s.others; waiting = s.i ∷ net.waiting; fired = net.fired }

      cells_now : (y : ℕ) → s.new.store.cells y ≡ put_at s.m.store.cells x (Deferred (readers_of before ++ k ∷ [])) y
      cells_now y = ap (λ (z : Store). z.cells y) same

      abbrev Readers : CellState → List Item → ℕ → Type 0
      Readers c items y = IsPermutation (readers_of c) (conts_of s.fl s.p s.w net.fired (only (λ (i : Item). reads s.fl y i i.inlet.part) items))

      own_readers : Readers (Deferred (readers_of before ++ k ∷ [])) (s.i ∷ net.waiting) x
      own_readers =
          let test = λ (i : Item). reads s.fl x i i.inlet.part in
          let first : only test (s.i ∷ net.waiting) ≡ s.i ∷ only test net.waiting =
          kept_yes test s.i net.waiting (reads_is s s.i (taken_here s) n e x ∙ eq-eqb x x refl) in
          let conts : conts_of s.fl s.p s.w net.fired (only test (s.i ∷ net.waiting)) ≡ (k ∷ []) ++ conts_of s.fl s.p s.w net.fired (only test net.waiting) =
          ap (conts_of s.fl s.p s.w net.fired) first
          ∙ ap (λ l. l ++ conts_of s.fl s.p s.w net.fired (only test net.waiting)) (ap cont_in (cont_is s s.i (taken_here s) n e)) in
          let o : IsPermutation (readers_of before) (conts_of s.fl s.p s.w net.fired (only test net.waiting)) =
          at_first (sym (ap readers_of is)) (old.readers x) in
          at_last (IsPermutation-trans _ _ _ (IsPermutation-append_comm (readers_of before) (k ∷ [])) (IsPermutation-append_right (k ∷ []) _ _ o)) (sym conts)

      readers_now : (y : ℕ) → (x ≡ y) ⊎ (x ≡ y → ⊥) → Readers (s.new.store.cells y) (s.i ∷ net.waiting) y
      readers_now y (inl q) =
          subst (λ y. Readers (s.new.store.cells y) (s.i ∷ net.waiting) y) q
          (subst (λ c. Readers c (s.i ∷ net.waiting) x) (sym (cells_now x ∙ put_same s.m.store.cells x (Deferred (readers_of before ++ k ∷ [])))) own_readers)
      readers_now y (inr q) =
          let test = λ (i : Item). reads s.fl y i i.inlet.part in
          let skip : only test (s.i ∷ net.waiting) ≡ only test net.waiting =
          kept_no test s.i net.waiting (reads_is s s.i (taken_here s) n e y ∙ ne_eqb y x (λ z. q (sym z))) in
          subst (λ c. Readers c (s.i ∷ net.waiting) y) (sym (cells_now y ∙ put_other s.m.store.cells x y (Deferred (readers_of before ++ k ∷ [])) q))
          (at_last (old.readers y) (ap (conts_of s.fl s.p s.w net.fired) (sym skip)))

      seen_now : (y : ℕ) → (x ≡ y) ⊎ (x ≡ y → ⊥) → value_in (s.new.store.cells y) ≡ (memory_of s.fl net.fired).cells y
      seen_now y (inl q) =
          subst (λ y. value_in (s.new.store.cells y) ≡ (memory_of s.fl net.fired).cells y) q
          (ap value_in (cells_now x ∙ put_same s.m.store.cells x (Deferred (readers_of before ++ k ∷ []))) ∙ sym none ∙ sym (ap value_in is) ∙ old.seen.cells x)
      seen_now y (inr q) = ap value_in (cells_now y ∙ put_other s.m.store.cells x y (Deferred (readers_of before ++ k ∷ [])) q) ∙ old.seen.cells y

      defers : Followed s
      defers = cells_follow late [] [] (record {
        account = item_waits (no_move s (IsFetch s)) s.i s.others s.perm (n, e, fetch);
        held = λ f h. absurd (contains_none f h);
        replies = λ i h. absurd (contains_none i h);
        pending = IsPermutation-refl s.others;
        event = permutation_same _ _ made;
        store = (put_at s.m.store.cells x (Deferred (readers_of before ++ k ∷ [])), same);
        readers = λ y. readers_now y (cases_eq x y);
        seen_cells = λ y. seen_now y (cases_eq x y);
        free = free_fetch x to_cell;
      })

    -- A FETCH
    pub fetch_follows : Followed s
    fetch_follows = pick (s.m.store.cells x) refl fetches
      where
        pick : (c : CellState) → s.m.store.cells x ≡ c → Fetches s.m.store x k c s.event.made s.new.store → Followed s
        pick Vacant is (made, same) = defers Vacant is refl made same
        pick (Deferred rs) is (made, same) = defers (Deferred rs) is refl made same
        pick (Full v) is (made, same) = gets v is made same
