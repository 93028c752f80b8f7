-- The net begins as the machine starts, and a token of the pool is an item's.
use Rattle.std.proofs.Common.{◌≡◌, ℕ, ◌+◌, ◌<◌, ◌≤◌, Bool, true, false, not, List, [], ◌∷◌, ◌++◌, map, length, refl, sym, ap, ◌∙◌, inl, inr, ◌⊎◌, arith}
use Rattle.std.proofs.Common.{true≢false, Option, Some, None, ℤ, nat_lt, lt-ltb, eq-eqb, eqb-true, append-nil}
use Rattle.std.specs.Prelude.{Contains, slice_get}
use Rattle.std.proofs.lemmas.List.Sorted.{IsPermutation-refl, IsPermutation-sym, IsPermutation-trans}
use Rattle.lemmas.proofs.Permutations.{Each, each_append, each_within, within_from, permutation_same}
use Rattle.lemmas.proofs.Contains.{contains_none}
use Rattle.tags.specs.declared.value.Value.TheVariants.{Int}
use Rattle.tags.specs.declared.token.Port.TheVariants.{Left}
use Rattle.tags.specs.declared.token.Cont.{Cont}
use Rattle.tags.specs.declared.token.Word.{Word}
use Rattle.tags.specs.declared.token.To.{To}
use Rattle.tags.specs.declared.token.Token.{Token}
use Rattle.tags.specs.declared.slot.SlotState.TheVariants.{Empty}
use Rattle.semantics.specs.Graph.{Block, Flow}
use Rattle.semantics.specs.Meaning.{Context, Main, Called, Turned}
use Rattle.semantics.specs.Faithful as Faithful
use Rattle.semantics.specs.Plan.{Plan}
use Rattle.semantics.specs.Program.{first_of}
use Rattle.semantics.specs.Rule.{token}
use Rattle.semantics.specs.Machine.{at_start, input_tokens}
use Rattle.law_confluence.proofs.Orders.{at_first, first_lifted}
use Rattle.law_net.specs.ContextsParts.{Part, Entry, Line, Giver, Taker, Drainer, Item}
use Rattle.law_net.specs.Contexts.{Wires, block_in, code_in, or_none}
use Rattle.law_net.specs.ContextsFirings.{begin, begins, input_items, frame_at, Still}
use Rattle.law_net.specs.ContextsTheorem.{IsGood}
use Rattle.law_net.specs.ContextsMirror.{only, ip_of, token_of, is_in_cell, is_entry_part, is_item_at, named_by, Mirrors, no_past, Tracks, but_cells}
use Rattle.law_net.specs.ContextsPackages.{InputsFit, Starts, TokensAreItems}
use Rattle.law_machine_refines_net.proofs.MovesLists.{count_none}
use Rattle.law_machine_refines_net.proofs.MovesSites.{Coded, coded}
use Rattle.law_machine_refines_net.proofs.MovesParts.{is_credit, calm_item}
use Rattle.law_machine_refines_net.proofs.MovesSettled.{cells_out, meant_other}

-- A TOKEN OF THE POOL
pub tokens_are_items : TokensAreItems
tokens_are_items fl p w inputs q m t rest good k perm =
    let net = k.tracks.net in
    let f = first_lifted (token_of fl p w net.fired) net.pending t rest (IsPermutation-trans _ _ _ (IsPermutation-sym _ _ k.tracks.stands.pool) perm) in
    (f.0, f.1, f.2, sym f.3)

-- THE BEGINNING
module _ (fl : Flow) (p : Plan) (w : Wires) (inputs : List ℤ) (good : IsGood fl p w) (fit : InputsFit fl inputs) where
  abbrev main : Block ℕ
  main = block_in fl Main

  code : Coded fl p w good.wired Main
  code = coded fl p w good.wired Main good.main

  -- what is there at the start
  pub record IsFirst (j : Item) : Type 0 where
    pub context : j.context ≡ Main
    pub names : named_by j.word ≡ None
    pub entry : (j.inlet.part ≡ Entry) ⊎ ((n : ℕ) × (j.inlet.part ≡ Line n) × (n < main.inputs))

  inputs_first : (n : ℕ) (zs : List ℤ) → n + length zs ≤ main.inputs → Each IsFirst (input_items n zs)
  inputs_first n [] h = tt
  inputs_first n (z ∷ zs) h = (record { context = refl; names = refl; entry = inr (n, refl, omega (arith, h)) }, inputs_first (n + 1) zs (omega (arith, h)))

  as_many : (o : Option (Block ℕ)) → Faithful.inputs_in o ≡ (or_none o).inputs
  as_many None = refl
  as_many (Some b) = refl

  enough : length inputs ≡ main.inputs
  enough = fit ∙ as_many (slice_get fl.blocks fl.main)

  firsts : Each IsFirst (begins inputs)
  firsts = (record { context = refl; names = refl; entry = inl refl }, inputs_first 0 inputs (let e = enough in omega (arith, e)))

  abbrev all : List Item
  all = begins inputs ++ ([] ++ [])

  first_of_all : (j : Item) → Contains all j → IsFirst j
  first_of_all j c = each_within IsFirst j all (within_from j all c) (each_append IsFirst (begins inputs) [] firsts tt)

  first_pending : (j : Item) → Contains (begins inputs) j → IsFirst j
  first_pending j c = each_within IsFirst j (begins inputs) (within_from j (begins inputs) c) firsts

  -- it is at no other part
  not_at : (P : Part → Bool) → P Entry ≡ true → ((n : ℕ) → P (Line n) ≡ true) → (j : Item) → IsFirst j → P j.inlet.part ≡ true
  not_at P e l j f = by_case f.entry
    where
      by_case : (j.inlet.part ≡ Entry) ⊎ ((n : ℕ) × (j.inlet.part ≡ Line n) × (n < main.inputs)) → P j.inlet.part ≡ true
      by_case (inl a) = ap P a ∙ e
      by_case (inr k) = ap P k.1 ∙ l k.0

  no_credit : (j : Item) → IsFirst j → (q : Part) → is_credit q ≡ true → j.inlet.part ≡ q → ⊥
  no_credit j f q k e = true≢false (sym (not_at (λ r. not (is_credit r)) refl (λ n. refl) j f) ∙ ap (λ r. not (is_credit r)) e ∙ ap not k)

  no_credits : (j : Item) → IsFirst j → is_credit j.inlet.part ≡ false
  no_credits j f = not_twice (is_credit j.inlet.part) (not_at (λ r. not (is_credit r)) refl (λ n. refl) j f)
    where
      not_twice : (t : Bool) → not t ≡ true → t ≡ false
      not_twice true e = sym e
      not_twice false e = refl

  no_held : (j : Item) → IsFirst j → is_in_cell j.inlet.part ≡ false
  no_held j f = not_twice (is_in_cell j.inlet.part) (not_at (λ r. not (is_in_cell r)) refl (λ n. refl) j f)
    where
      not_twice : (t : Bool) → not t ≡ true → t ≡ false
      not_twice true e = sym e
      not_twice false e = refl

  abbrev tok : Item → Token
  tok j = token_of fl p w [] j

  -- the pool
  same_main : first_of p.program p.program.main ≡ first_of p.program (code_in fl w Main)
  same_main = ap (first_of p.program) good.wired.main

  inputs_same : (n ip : ℕ) (zs : List ℤ) → ip ≡ first_of p.program (code_in fl w Main) + (n + 1) → n + length zs ≤ main.inputs
      → input_tokens ip zs ≡ map tok (input_items n zs)
  inputs_same n ip [] e h = refl
  inputs_same n ip (z ∷ zs) e h =
      let at = code.laid.entries n (omega (arith, h)) in
      let here : ip ≡ ip_of fl p w Main (Line n) = e ∙ ap (λ k. first_of p.program (code_in fl w Main) + k) (sym at) in
      let more = inputs_same (n + 1) (ip + 1) zs (omega (arith, e)) (omega (arith, h)) in
      (λ t. token (To.Instr 0 (here t) Left) (Word.Val (Int z)) ∷ more t)

  pool_same : (at_start p.program inputs).pool ≡ map tok (begins inputs)
  pool_same =
      let zero_place = code.laid.entry in let m = same_main in
      let here : first_of p.program p.program.main ≡ ip_of fl p w Main Entry = omega (arith, zero_place, m) in
      let more = inputs_same 0 (first_of p.program p.program.main + 1) inputs (omega (arith, m)) (let e = enough in omega (arith, e)) in
      (λ t. token (To.Instr 0 (here t) Left) (Word.Back (Cont.Host 0)) ∷ more t)

  at_main : (c : Context) (g : ℕ) → frame_at fl [] c ≡ Some g → (c ≡ Main) × (0 ≡ g)
  at_main Main g e = (refl, cc)
  at_main (Called c n) g e = absurd (cc)
  at_main (Turned c n i) g e = absurd (cc)

  in_main : (c : Context) → c ≡ Main → (g : ℕ) × (frame_at fl [] c ≡ Some g)
  in_main c e = (0, ap (frame_at fl []) e)

  pub begin_stands : Mirrors fl p w (at_start p.program inputs) (begin inputs)
  begin_stands = record {
    pool = permutation_same _ _ pool_same;
    known = λ j c. in_main j.context (first_of_all j c).context;
    apart = λ c d g a b. (at_main c g a).0 ∙ sym (at_main d g b).0;
    named = λ j d c e. let n = (first_of_all j c).names in absurd (cc);
    base = λ f q. Empty;
    slots = record { waits = λ j c. absurd (contains_none j c); empty = λ f q. inl refl };
    loops = λ c n g h l e. refl;
    others = λ f q. inl refl;
    requests = IsPermutation-refl [];
    readers = λ x. IsPermutation-refl [];
    good = λ j n c e. absurd (true≢false (sym (ap is_in_cell e) ∙ no_held j (first_of_all j (both j c))));
    no_store = λ j n c e. absurd (contains_none j c);
    waits = λ j c. absurd (contains_none j c);
    seen = record { outputs = λ j. refl; cells = λ x. refl };
    done = (λ e. absurd (true≢false (sym e)), λ h. absurd (contains_none h.0 h.1));
    out = λ c g e. (λ o. let k = (at_main c g e).1 in absurd (true≢false (sym (eq-eqb g 0 (sym k)) ∙ o)), λ h. absurd (contains_none h.0 h.1));
    not_out = λ g e. (Main, ap (λ n. Some n) (sym (eqb-true g 0 e)));
  }
    where
      both : (j : Item) → Contains (begins inputs ++ []) j → Contains all j
      both j c = c

  pub begin_follows : Tracks fl p w inputs no_past (at_start p.program inputs)
  begin_follows = record {
    net = begin inputs;
    moves = Still (begin inputs);
    stands = begin_stands;
    met = at_first (ap but pool_same)
        (permutation_same _ _ (cells_out fl p w [] (begins inputs) (λ j c. meant_other fl p w [] j (no_held j (first_pending j c)))
        ∙ ap (λ l. map tok (only (λ (i : Item). not (is_in_cell i.inlet.part)) l)) (sym (append-nil (begins inputs)))));
    handed = λ g c. c;
    caused = λ j c i e. absurd (entered j e (first_pending j c));
    asked = λ j d x n c e l. let k = (first_of_all j c).names in let h : named_by j.word ≡ Some d = ap named_by e in absurd (cc);
    credits = λ c n h l. record {
      law = record { given = omega arith; bound = omega arith; waits = λ x e. absurd (cc); drains = λ e o. absurd (true≢false (sym e)) };
      takes = λ j h e r. absurd (no_credit j (first_of_all j h) (Taker n) refl r);
      drains = λ j h e r. absurd (no_credit j (first_of_all j h) (Drainer n) refl r);
      gives = λ j h e r. absurd (no_credit j (first_of_all j h) (Giver n) refl r);
    };
    granted = λ c n g h l e. refl;
    no_other = λ g h l. absurd (omega (arith, l));
    released = λ c n g h l e. sym (count_none (is_item_at c (Giver n)) all (λ j k. calm_item c (Giver n) refl j (no_credits j (first_of_all j k))));
    none_released = λ g base l. absurd (omega (arith, l));
  }
    where
      but : List Token → List Token
      but ts = but_cells ts

      entered : (j : Item) → is_entry_part (block_in fl j.context) j.inlet.part ≡ false → IsFirst j → ⊥
      entered j e f = by_case f.entry
        where
          by_case : (j.inlet.part ≡ Entry) ⊎ ((n : ℕ) × (j.inlet.part ≡ Line n) × (n < main.inputs)) → ⊥
          by_case (inl a) = true≢false (sym (ap (is_entry_part (block_in fl j.context)) a) ∙ e)
          by_case (inr k) =
              true≢false (sym (lt-ltb k.0 main.inputs k.2) ∙ ap (λ c. nat_lt k.0 (block_in fl c).inputs) (sym f.context)
              ∙ sym (ap (is_entry_part (block_in fl j.context)) k.1) ∙ e)

-- OF ALL GRAPHS
pub starts : Starts
starts fl p w inputs good fit = begin_follows fl p w inputs good fit
