-- A cell that was filled answers all that wait for it, one after another.
use Rattle.std.proofs.Common.{◌≡◌, ℕ, Bool, true, false, not, List, [], ◌∷◌, ◌++◌, map, refl, sym, ap, ◌∙◌, subst, inl, inr, ◌⊎◌, true≢false, Some}
use Rattle.std.proofs.Common.{append_assoc, eqb-true, if◌then◌else◌}
use Rattle.std.specs.Prelude.{IsPermutation, Contains, flat_map}
use Rattle.std.proofs.lemmas.List.Elements.{Contains-append_cases}
use Rattle.std.proofs.lemmas.List.Sorted.{IsPermutation-refl, IsPermutation-trans}
use Rattle.lemmas.proofs.Contains.{contains_head, contains_none, contains_tail, contains_cases}
use Rattle.lemmas.proofs.Permutations.{permutation_same}
use Rattle.tags.specs.declared.value.Value.{Value}
use Rattle.tags.specs.declared.token.Cont.{Cont}
use Rattle.tags.specs.declared.token.Word.{Word}
use Rattle.tags.specs.declared.token.Token.{Token}
use Rattle.semantics.specs.Graph.{Flow}
use Rattle.semantics.specs.Meaning.{Memory}
use Rattle.semantics.specs.Machine.{answer, answers}
use Rattle.law_confluence.proofs.Orders.{shuffled, Part as Piece, ◌⊕◌, at_last}
use Rattle.law_net.specs.ContextsParts.{Part, InCell, Item, Firing}
use Rattle.law_net.specs.ContextsBlocks.{is_store}
use Rattle.law_net.specs.Contexts.{block_in}
use Rattle.law_net.specs.ContextsFirings.{Config, cell_of, makes, memory_of, ARead, ProperAt}
use Rattle.law_net.specs.ContextsMirror.{token_of, only, is_in_cell, reads, cont_in, conts_of, Mirrors}
use Rattle.law_machine_refines_net.specs.MovesCases.{Taking, net_of}
use Rattle.law_machine_refines_net.proofs.MovesLists.{kept_by, kept_no, kept_yes, contains_one, one_holds}
use Rattle.law_machine_refines_net.proofs.MovesAccount.{Account, kept_fires, reordered}
use Rattle.law_machine_refines_net.proofs.MovesFitted.{waiting_here}
use Rattle.law_machine_refines_net.proofs.CellsHeld.{held_firing, answer_items, cont_is, place, takes_is, makes_is, items_is, reply, reply_token, reads_is}
use Rattle.law_machine_refines_net.proofs.CellsFetched.{IsFetch, held_remembers}

-- what reads a cell is a request
pub reads_held : (fl : Flow) (x : ℕ) (j : Item) (r : Part) → reads fl x j r ≡ true → (n : ℕ) × (r ≡ InCell n)
reads_held fl x j (InCell n) e = (n, refl)
reads_held fl x j r e = absurd (true≢false (sym e))

-- what does not pass one test is all that passes another
pub kept_apart : {X : Type 0} (f g : X → Bool) → ((x : X) → f x ≡ true → g x ≡ false) → (xs : List X) → kept_by g (kept_by (λ x. not (f x)) xs) ≡ kept_by g xs
kept_apart f g h [] = refl
kept_apart f g h (x ∷ xs) = go (f x) refl (kept_apart f g h xs)
  where
    go : (t : Bool) → f x ≡ t → kept_by g (kept_by (λ x. not (f x)) xs) ≡ kept_by g xs → kept_by g (kept_by (λ x. not (f x)) (x ∷ xs)) ≡ kept_by g (x ∷ xs)
    go true e k = ap (kept_by g) (kept_no (λ x. not (f x)) x xs (ap not e)) ∙ k ∙ sym (kept_no g x xs (h x e))
    go false e k = ap (kept_by g) (kept_yes (λ x. not (f x)) x xs (ap not e)) ∙ ap (λ l. (if g x then x ∷ [] else []) ++ l) k

pub kept_neither : {X : Type 0} (f : X → Bool) (xs : List X) → kept_by f (kept_by (λ x. not (f x)) xs) ≡ []
kept_neither f [] = refl
kept_neither f (x ∷ xs) = go (f x) refl (kept_neither f xs)
  where
    go : (t : Bool) → f x ≡ t → kept_by f (kept_by (λ x. not (f x)) xs) ≡ [] → kept_by f (kept_by (λ x. not (f x)) (x ∷ xs)) ≡ []
    go true e k = ap (kept_by f) (kept_no (λ x. not (f x)) x xs (ap not e)) ∙ k
    go false e k = ap (kept_by f) (kept_yes (λ x. not (f x)) x xs (ap not e)) ∙ kept_no f x (kept_by (λ x. not (f x)) xs) e ∙ k

module _ (s : Taking) (x : ℕ) (u : Value) where
  abbrev net : Config
  net = net_of s

  abbrev old : Mirrors s.fl s.p s.w s.m net
  old = s.keeps.tracks.stands

  abbrev tok : Item → Token
  tok i = token_of s.fl s.p s.w net.fired i

  abbrev pub test : Item → Bool
  test i = reads s.fl x i i.inlet.part

  abbrev pub unread : List Item → List Item
  unread items = kept_by (λ (i : Item). not (test i)) items

  abbrev pub alongs : List Item → List Item
  alongs items = flat_map (λ (j : Item). answer_items s.fl s.w u j j.inlet.part) (only test items)

  pub record Answering (d : Config) (made done todo : List Item) : Type 0 where
    pub to : Config
    pub new : List Firing
    pub account : Account s (IsFetch s) to new (alongs todo ++ made)
    pub held : (f : Firing) → Contains new f → is_in_cell f.part ≡ true
    pub waiting : to.waiting ≡ done ++ unread todo
    pub pending : IsPermutation to.pending (alongs todo ++ d.pending)
    pub memory : memory_of s.fl to.fired ≡ memory_of s.fl d.fired

  -- one that does not read is left
  passes : (d : Config) (made done : List Item) (j : Item) (js : List Item) → test j ≡ false → Answering d made (done ++ j ∷ []) js
      → Answering d made done (j ∷ js)
  passes d made done j js e a =
      let skip : alongs (j ∷ js) ≡ alongs js = ap (flat_map (λ (j : Item). answer_items s.fl s.w u j j.inlet.part)) (kept_no test j js e) in record {
        to = a.to;
        new = a.new;
        account = reordered a.account (alongs (j ∷ js) ++ made) (permutation_same _ _ (ap (λ l. l ++ made) (sym skip)));
        held = a.held;
        waiting = a.waiting ∙ append_assoc done (j ∷ []) (unread js) ∙ ap (λ l. done ++ l) (sym (kept_yes (λ (i : Item). not (test i)) j js (ap not e)));
        pending = at_last a.pending (ap (λ l. l ++ d.pending) (sym skip));
        memory = a.memory;
      }

  -- and one that reads is answered
  module _ (d : Config) (new : List Firing) (made : List Item) (l : Account s (IsFetch s) d new made)
      (held : (f : Firing) → Contains new f → is_in_cell f.part ≡ true) (done : List Item) (j : Item) (js : List Item) (waiting : d.waiting ≡ done ++ (j ∷ js))
      (inside : Contains net.waiting j) (n : ℕ) (e : j.inlet.part ≡ InCell n) (yes : test j ≡ true)
      (full : (memory_of s.fl d.fired).cells x ≡ Some u) where
    abbrev f : Firing
    f = held_firing j u

    fetch : is_store (block_in s.fl j.context) n ≡ false
    fetch = old.no_store j n inside e

    at_x : cell_of s.fl j.context n j.held ≡ Some x
    at_x =
        let p = place s j (waiting_here s j inside) n e in
        let same : x ≡ p.0 = eqb-true x p.0 (sym (reads_is s j (waiting_here s j inside) n e x) ∙ yes) in p.1 ∙ ap (λ y. Some y) (sym same)

    proper : ProperAt s.fl d.fired f f.part
    proper = subst (λ (r : Part). ProperAt s.fl d.fired f r) (sym e) (ARead x fetch at_x full)

    abbrev next : Config
    next = record { pending = makes s.fl s.w f ++ d.pending; waiting = done ++ js; fired = f ∷ d.fired }

    next_account : Account s (IsFetch s) next (f ∷ new) (makes s.fl s.w f ++ made)
    next_account =
        kept_fires l f [] d.pending done (j ∷ []) js (IsPermutation-refl d.pending) waiting (one_holds (IsFetch s) j (n, e, fetch))
        (permutation_same _ _ (sym (takes_is s j (waiting_here s j inside) n e u))) proper

    next_held : (h : Firing) → Contains (f ∷ new) h → is_in_cell h.part ≡ true
    next_held h c = pick (contains_cases f new h c)
      where
        pick : (f ≡ h) ⊎ Contains new h → is_in_cell h.part ≡ true
        pick (inl q) = ap (λ (y : Firing). is_in_cell y.part) (sym q) ∙ ap is_in_cell e
        pick (inr c) = held h c

    next_memory : memory_of s.fl next.fired ≡ memory_of s.fl d.fired
    next_memory = held_remembers s f n f.part (memory_of s.fl d.fired) e fetch

    takes_one_more : alongs (j ∷ js) ≡ makes s.fl s.w f ++ alongs js
    takes_one_more = ap (flat_map (λ (j : Item). answer_items s.fl s.w u j j.inlet.part)) (kept_yes test j js yes)
        ∙ ap (λ l. l ++ alongs js) (items_is s j (waiting_here s j inside) n e u ∙ sym (makes_is s j (waiting_here s j inside) n e u))

    mixed : (items : List Item) → IsPermutation (alongs js ++ (makes s.fl s.w f ++ items)) (alongs (j ∷ js) ++ items)
    mixed items =
        at_last (shuffled (alongs js ∷ makes s.fl s.w f ∷ items ∷ []) (Piece 0 ⊕ (Piece 1 ⊕ Piece 2)) ((Piece 1 ⊕ Piece 0) ⊕ Piece 2) refl)
        (ap (λ l. l ++ items) (sym takes_one_more))

    answers_one : Answering next (makes s.fl s.w f ++ made) done js → Answering d made done (j ∷ js)
    answers_one a = record {
      to = a.to;
      new = a.new;
      account = reordered a.account (alongs (j ∷ js) ++ made) (mixed made);
      held = a.held;
      waiting = a.waiting ∙ ap (λ l. done ++ l) (sym (kept_no (λ (i : Item). not (test i)) j js (ap not yes)));
      pending = IsPermutation-trans _ _ _ a.pending (mixed d.pending);
      memory = a.memory ∙ next_memory;
    }

  -- ALL OF THEM
  abbrev Answers_all : List Item → Type 0
  Answers_all todo = (d : Config) (new : List Firing) (made : List Item) → Account s (IsFetch s) d new made
      → ((f : Firing) → Contains new f → is_in_cell f.part ≡ true) → (done : List Item) → d.waiting ≡ done ++ todo
      → (memory_of s.fl d.fired).cells x ≡ Some u → Answering d made done todo

  pub all_answered : (todo : List Item) → ((j : Item) → Contains todo j → Contains net.waiting j) → Answers_all todo
  all_answered [] inside d new made l held done waiting full =
      record { to = d; new = new; account = l; held = held; waiting = waiting; pending = IsPermutation-refl d.pending; memory = refl }
  all_answered (j ∷ js) inside d new made l held done waiting full = go (test j) refl (all_answered js (λ i c. inside i (contains_tail j js i c)))
    where
      go : (t : Bool) → test j ≡ t → Answers_all js → Answering d made done (j ∷ js)
      go false e more = passes d made done j js e (more d new made l held (done ++ j ∷ []) (waiting ∙ sym (append_assoc done (j ∷ []) js)) full)
      go true e more =
          let k = reads_held s.fl x j j.inlet.part e in let c = inside j (contains_head j js) in
          answers_one d new made l held done j js waiting c k.0 k.1 e full
          (more (next d new made l held done j js waiting c k.0 k.1 e full) (held_firing j u ∷ new) (makes s.fl s.w (held_firing j u) ++ made)
          (next_account d new made l held done j js waiting c k.0 k.1 e full) (next_held d new made l held done j js waiting c k.0 k.1 e full) done refl
          (ap (λ (m : Memory). m.cells x) (next_memory d new made l held done j js waiting c k.0 k.1 e full) ∙ full))

  -- THE TOKENS of what they get
  pub along_tokens : (items : List Item) → ((j : Item) → Contains items j → Contains net.waiting j)
      → map tok (alongs items) ≡ answers (conts_of s.fl s.p s.w net.fired (only test items)) u
  along_tokens [] h = refl
  along_tokens (j ∷ js) h = go (test j) refl (along_tokens js (λ i c. h i (contains_tail j js i c)))
    where
      go : (t : Bool) → test j ≡ t → map tok (alongs js) ≡ answers (conts_of s.fl s.p s.w net.fired (only test js)) u
          → map tok (alongs (j ∷ js)) ≡ answers (conts_of s.fl s.p s.w net.fired (only test (j ∷ js))) u
      go false e more =
          ap (λ l. map tok (flat_map (λ (j : Item). answer_items s.fl s.w u j j.inlet.part) l)) (kept_no test j js e) ∙ more
          ∙ ap (λ l. answers (conts_of s.fl s.p s.w net.fired l) u) (sym (kept_no test j js e))
      go true e more =
          let k = reads_held s.fl x j j.inlet.part e in let c = waiting_here s j (h j (contains_head j js)) in
          ap (λ l. map tok (flat_map (λ (j : Item). answer_items s.fl s.w u j j.inlet.part) l)) (kept_yes test j js e)
          ∙ ap (λ l. map tok (l ++ alongs js)) (items_is s j c k.0 k.1 u)
          ∙ (λ t. reply_token s j c k.0 k.1 u t ∷ more t)
          ∙ ap (λ l. map (λ (z : Cont). answer z (Word.Val u)) (l ++ conts_of s.fl s.p s.w net.fired (only test js))) (sym (ap cont_in (cont_is s j c k.0 k.1)))
          ∙ ap (λ l. answers (conts_of s.fl s.p s.w net.fired l) u) (sym (kept_yes test j js e))

  -- each of them is no request, and its arc was used
  pub along_all : (P : Item → Type 0)
      → ((j : Item) (c : Contains net.waiting j) (n : ℕ) (e : j.inlet.part ≡ InCell n) → P (reply s j (waiting_here s j c) n e u))
      → (items : List Item) → ((j : Item) → Contains items j → Contains net.waiting j) → (i : Item) → Contains (alongs items) i → P i
  along_all P one [] h i c = absurd (contains_none i c)
  along_all P one (j ∷ js) h i c = go (test j) refl (λ c. along_all P one js (λ i c. h i (contains_tail j js i c)) i c)
    where
      go : (t : Bool) → test j ≡ t → (Contains (alongs js) i → P i) → P i
      go false e more = more (subst (λ l. Contains l i) (ap (flat_map (λ (j : Item). answer_items s.fl s.w u j j.inlet.part)) (kept_no test j js e)) c)
      go true e more =
          let k = reads_held s.fl x j j.inlet.part e in let b = h j (contains_head j js) in
          pick k b (Contains-append_cases (reply s j (waiting_here s j b) k.0 k.1 u ∷ []) (alongs js) i
          (subst (λ l. Contains l i) (ap (flat_map (λ (j : Item). answer_items s.fl s.w u j j.inlet.part)) (kept_yes test j js e)
          ∙ ap (λ l. l ++ alongs js) (items_is s j (waiting_here s j b) k.0 k.1 u)) c)) more
        where
          pick : (k : (n : ℕ) × (j.inlet.part ≡ InCell n)) (b : Contains net.waiting j)
              → Contains (reply s j (waiting_here s j b) k.0 k.1 u ∷ []) i ⊎ Contains (alongs js) i → (Contains (alongs js) i → P i) → P i
          pick k b (inl c) more = subst P (contains_one (reply s j (waiting_here s j b) k.0 k.1 u) i c) (one j b k.0 k.1)
          pick k b (inr c) more = more c
