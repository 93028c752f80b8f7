-- The last turn of a loop returns its results to where the loop is, and asks that all credits be given back.
use Rattle.std.proofs.Common.{◌≡◌, ℕ, ◌+◌, ◌<◌, true, [], ◌∷◌, ◌++◌, refl, sym, ap, ◌∙◌, subst, arith, lt-ltb, ltb-true}
use Rattle.std.proofs.lemmas.Bool.{and_from, or_right}
use Rattle.lemmas.proofs.Bools.{and_false}
use Rattle.tags.specs.declared.token.Port.TheVariants.{Left}
use Rattle.semantics.specs.Meaning.{Context, Turned}
use Rattle.law_confluence.specs.EquationsContexts.{same_context}
use Rattle.law_net.specs.ContextsParts.{Part, LastReturn, DrainReturn, Giver, Taker, Drainer, Landing, inlet, Note, Item, item}
use Rattle.law_net.specs.ContextsBlocks.{is_call, is_loop, there_in, result_count}
use Rattle.law_net.specs.Contexts.{block_in, site_in, wiring_in, IsContext}
use Rattle.law_net.specs.ContextsMirror.{is_instr, is_item_at, items_at, granted_of}
use Rattle.law_net.proofs.WiredInvoked.{loop_invoked, code_at}
use Rattle.law_machine_refines_net.specs.MovesCases.{Taking, net_of, Followed}
use Rattle.law_machine_refines_net.proofs.MovesLists.{contains_one, count_none}
use Rattle.law_machine_refines_net.proofs.MovesParts.{is_credit}
use Rattle.law_machine_refines_net.proofs.MovesLoops.{Books, calm_books}
use Rattle.law_machine_refines_net.proofs.MovesFitted.{fits, there, taken_here}
use Rattle.law_machine_refines_net.proofs.OutwardsChildren.{turn_landing}
use Rattle.law_machine_refines_net.proofs.OutwardsTurning.{drains_granted, none_asked}
use Rattle.law_machine_refines_net.proofs.OutwardsReturning.{back, returns_follow}

-- THE LAST TURN
module _ (s : Taking) (d : Context) (n i : ℕ) (in_turn : s.i.context ≡ Turned d n i) where
  turned : IsContext s.fl (Turned d n i)
  turned = subst (IsContext s.fl) in_turn (fits s s.i (taken_here s)).is_context

  abbrev inputs : ℕ
  inputs = (block_in s.fl (Turned d n i)).inputs

  count_is : result_count s.fl (block_in s.fl d) n ≡ inputs
  count_is = (loop_invoked s.fl s.p s.w s.good d n i turned.0 turned.1).1

  -- a result
  module _ (j : ℕ) (e : s.i.inlet.part ≡ LastReturn j) where
    within : j < inputs
    within = ltb-true j inputs (subst (λ (c : Context). there_in s.fl (site_in s.fl s.w c) (wiring_in s.fl s.w c) (LastReturn j) ≡ true) in_turn
        (subst (λ (r : Part). there_in s.fl (site_in s.fl s.w s.i.context) (wiring_in s.fl s.w s.i.context) r ≡ true) e
        (there s s.i (taken_here s) (ap is_instr e))))

    lands : there_in s.fl (site_in s.fl s.w d) (wiring_in s.fl s.w d) (Landing n j) ≡ true
    lands =
        let a = count_is in let b = within in
        and_from _ _ (or_right (is_call (block_in s.fl d) n) (is_loop (block_in s.fl d) n) turned.1)
        (lt-ltb j (result_count s.fl (block_in s.fl d) n) (omega (arith, a, b)))

    pub last_returns : Followed s
    last_returns = returns_follow s (LastReturn j) (Turned d n i) d n j i (Landing n j) in_turn e refl refl refl (record {
      op_is = refl;
      left_is = λ k h. h;
      right_is = λ k h. h;
      none = refl;
      single = refl;
      makes_is = λ h k. refl;
      is_q = refl;
      q_held = refl;
      no_giver = λ m. refl;
      place = (let a = (code_at s.fl s.p s.w s.good d turned.0).laid.landing n j lands in omega (arith, a));
      low = (let a = turn_landing s.fl s.p s.w s.good d n i turned in let b = within in omega (arith, a, b));
      books =
          λ k x m. calm_books (back s (LastReturn j) (Turned d n i) d n j i (Landing n j) in_turn e refl refl refl) (item d (inlet (Landing n j) Left i) k ∷ [])
          (λ y h. ap (λ (y : Item). is_credit y.inlet.part) (sym (contains_one (item d (inlet (Landing n j) Left i) k) y h))) x m;
    })

  -- and its drain
  module _ (e : s.i.inlet.part ≡ DrainReturn) where
    abbrev l : Taking
    l = back s DrainReturn (Turned d n i) d n (inputs + 2) i (Drainer n) in_turn e refl refl refl

    drain_books : (k : Note) (x : Context) (m : ℕ) → Books l (item d (inlet (Drainer n) Left i) k ∷ []) x m
    drain_books k x m = record {
      takes = λ j h a g. let y : Drainer n ≡ Taker m = ap (λ (j : Item). j.inlet.part) (contains_one (item d (inlet (Drainer n) Left i) k) j h) ∙ g in
          absurd (cc);
      drains = λ j h a g.
          let same = contains_one (item d (inlet (Drainer n) Left i) k) j h in
          let y : Drainer n ≡ Drainer m = ap (λ (j : Item). j.inlet.part) same ∙ g in let z : n ≡ m = cc in
          let c : d ≡ x = ap (λ (j : Item). j.context) same ∙ a in
          let w : i ≡ j.inlet.way = ap (λ (j : Item). j.inlet.way) same in (
            ap (λ (w : ℕ). w + 1) (sym w) ∙ drains_granted s d n i in_turn e ∙ (λ t. granted_of (net_of s) (c t) (z t)),
            sym (λ t. items_at (c t) (Taker (z t)) ((net_of s).pending ++ (net_of s).waiting)) ∙ none_asked s d n i in_turn e,
            count_none (is_item_at x (Taker m)) (item d (inlet (Drainer n) Left i) k ∷ [])
                (λ y u. sym (ap (is_item_at x (Taker m)) (contains_one (item d (inlet (Drainer n) Left i) k) y u)) ∙ and_false (same_context d x)),
          );
      gives = λ j h a g. let y : Drainer n ≡ Giver m = ap (λ (j : Item). j.inlet.part) (contains_one (item d (inlet (Drainer n) Left i) k) j h) ∙ g in
          absurd (cc);
    }

    pub drain_returns : Followed s
    drain_returns = returns_follow s DrainReturn (Turned d n i) d n (inputs + 2) i (Drainer n) in_turn e refl refl refl (record {
      op_is = refl;
      left_is = λ k h. h;
      right_is = λ k h. h;
      none = refl;
      single = refl;
      makes_is = λ h k. refl;
      is_q = refl;
      q_held = refl;
      no_giver = λ m. refl;
      place =
          (let a = (code_at s.fl s.p s.w s.good d turned.0).laid.credits n turned.1 in let b = a.0 in let c = a.2 in let k = count_is in
          omega (arith, b, c, k));
      low = (let a = turn_landing s.fl s.p s.w s.good d n i turned in omega (arith, a));
      books = drain_books;
    })
