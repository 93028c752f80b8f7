-- One whole run that is settled: that of a graph that gives its input back. So the conditions of `Settled` can be satisfied.
use Rattle.std.proofs.Common.{◌≡◌, ℕ, zero, suc, ◌<◌, ◌⊎◌, ℤ, Bool, true, false, List, [], ◌∷◌, Some, None, inl, inr, refl, sym, ap, ◌∙◌, subst, arith, ⊎_elim}
use Rattle.std.proofs.Common.{nat_lt, slice_get, if◌then◌else◌, Contains}
use Rattle.std.specs.Prelude.{◌==◌, ⊤, slice_index_or}
use Rattle.std.proofs.lemmas.List.Sorted.{IsPermutation-refl}
use Rattle.std.proofs.lemmas.Option.{same_Some}
use Rattle.tags.specs.declared.value.Value.{Value}
use Rattle.tags.specs.declared.value.Value.TheVariants.{Int}
use Rattle.semantics.specs.Graph.{Node, Flow}
use Rattle.semantics.specs.Meaning.{Context, Main, Called, Turned, AtOut, Operand, tagged, State, Activity, Fires, Outputs, Deed, Says, Puts, Message, Sends}
use Rattle.semantics.specs.Meaning.{deed, with_output, start, Step, Run, node_of}
use Rattle.law_confluence.specs.EquationsHave.{Gives, SaysIn, Stored, stores_of, ports_line, ports_at}
use Rattle.law_confluence.specs.Equations.{IsDue, TakenAt, Equation, Result}
use Rattle.law_confluence.specs.EquationsSettled.{Settled}
use Rattle.law_confluence.proofs.EquationsExampleValues.{from, alone}

abbrev pub echoing : Flow
echoing = alone record { inputs = 1; outputs = 1; nodes = []; results = from 0 ∷ [] }

module _ (z : ℤ) where
  abbrev after_input : State
  after_input = record { tokens = tagged Main (AtOut 0) (Operand 0) (Int z) ∷ []; memory = (start (z ∷ [])).memory }

  abbrev pub at_end : State
  at_end = record { tokens = []; memory = with_output (start (z ∷ [])).memory 0 (Int z) }

  first_step : Step echoing (Fires Main 0 (Int z ∷ [])) (start (z ∷ [])) after_input
  first_step = record {
    does = record { added = tagged Main (AtOut 0) (Operand 0) (Int z) ∷ []; memory = (start (z ∷ [])).memory };
    rest = [];
    allowed = refl;
    takes = IsPermutation-refl _;
    leaves = IsPermutation-refl _;
    memory = refl;
  }

  last_step : Step echoing (Outputs 0 (Int z)) after_input at_end
  last_step = record {
    does = record { added = []; memory = with_output (start (z ∷ [])).memory 0 (Int z) };
    rest = [];
    allowed = refl;
    takes = IsPermutation-refl _;
    leaves = IsPermutation-refl _;
    memory = refl;
  }

  abbrev pub run : List Activity
  run = Fires Main 0 (Int z ∷ []) ∷ Outputs 0 (Int z) ∷ []

  pub echo_run : Run echoing (start (z ∷ [])) run at_end
  echo_run = (after_input, first_step, (at_end, last_step, (IsPermutation-refl [], refl)))

  abbrev Gave : Context → ℕ → ℕ → Value → Type 0
  Gave c n p v = Gives echoing run at_end.memory c n p v

  in_run : (a : Activity) → Contains run a → (a ≡ Fires Main 0 (Int z ∷ [])) ⊎ (a ≡ Outputs 0 (Int z))
  in_run a h = go h.0 h.1 h.2
    where
      go : (i : ℕ) → i < 2 → slice_index_or run i a ≡ a → (a ≡ Fires Main 0 (Int z ∷ [])) ⊎ (a ≡ Outputs 0 (Int z))
      go zero l e = inl (sym e)
      go (suc zero) l e = inr (sym e)
      go (suc (suc i)) l e = absurd (omega arith)

  -- the only value that is given
  sent_once : (y : Message) (d : Deed) → (Some d ≡ Some (Says (Sends Main 0 0 (Int z)))) ⊎ (Some d ≡ Some (Puts 0 (Int z))) → SaysIn at_end.memory d y
      → Sends Main 0 0 (Int z) ≡ y
  sent_once y d (inl e) h = subst (λ d. SaysIn at_end.memory d y) (same_Some d _ e) h
  sent_once y d (inr e) h = absurd (subst (λ d. SaysIn at_end.memory d y) (same_Some d _ e) h)

  only : (c : Context) (n p : ℕ) (v : Value) → Gave c n p v → Sends Main 0 0 (Int z) ≡ Sends c n p v
  only c n p v h =
      sent_once (Sends c n p v) h.1
      (⊎_elim (λ e. inl (sym h.3 ∙ ap (λ a. deed echoing a) e)) (λ e. inr (sym h.3 ∙ ap (λ a. deed echoing a) e)) (in_run h.0 h.2)) h.4

  gave : Gave Main 0 0 (Int z)
  gave = (Fires Main 0 (Int z ∷ []), Says (Sends Main 0 0 (Int z)), (0, omega arith, refl), refl, refl)

  -- what holds of that value holds of each
  abbrev Of : (Context → ℕ → ℕ → Value → Type 0) → Message → Type 0
  Of P (Sends c n p v) = P c n p v
  Of P m = ⊤

  each : (P : Context → ℕ → ℕ → Value → Type 0) → P Main 0 0 (Int z) → (c : Context) (n p : ℕ) (v : Value) → Gave c n p v → P c n p v
  each P h c n p v k = subst (Of P) (only c n p v k) h

  no_line : (n : ℕ) (line : Node ℕ) → node_of echoing Main n ≡ Some line → ⊥
  no_line n line e = go (nat_lt n 1) e
    where
      go : (t : Bool) → (if t then None else None) ≡ Some line → ⊥
      go true e = cc
      go false e = cc

  only_main : (c : Context) → IsDue echoing (z ∷ []) run at_end echo_run c → Main ≡ c
  only_main Main h = refl
  only_main (Called c n) h = absurd (no_line n h.1.0 (subst (λ c. node_of echoing c n ≡ Some h.1.0) (sym (only_main c h.0)) h.1.1))
  only_main (Turned c n i) h = absurd (no_line n h.1.0 (subst (λ c. node_of echoing c n ≡ Some h.1.0) (sym (only_main c h.0)) h.1.1))

  given_main : (n p : ℕ) → p < ports_at echoing Main n → (v : Value) × Gave Main n p v
  given_main zero zero l = (Int z, gave)
  given_main zero (suc p) l = absurd (omega arith)
  given_main (suc n) p l = absurd (go (nat_lt (suc n) 1) refl l)
    where
      go : (t : Bool) → nat_lt (suc n) 1 ≡ t → p < (if t then 1 else ports_line echoing (if t then None else None)) → ⊥
      go true e l = grind arith
      go false e l = omega arith

  pub echo_settled : Settled echoing (z ∷ []) run at_end echo_run
  echo_settled = record {
    given = λ c n p due taken less. subst (λ c. p < ports_at echoing c n → (v : Value) × Gave c n p v) (only_main c due) (given_main n p) less;
    one_value = λ c n p v w g h. each (λ c n p v. v ≡ w) (each (λ c n p w. Int z ≡ w) refl c n p w h) c n p v g;
    equations = each (λ c n p v. Equation echoing (z ∷ []) run at_end echo_run c n p v) (refl, (z, refl, refl));
    decided = λ c k line due taken e f. absurd (no_line k line (subst (λ c. node_of echoing c k ≡ Some line) (sym (only_main c due)) e));
    silent_invocations = each (λ c n p v. IsDue echoing (z ∷ []) run at_end echo_run c) tt;
    silent_arms = each (λ c n p v. TakenAt echoing (z ∷ []) run at_end echo_run c n) tt;
    silent_ports = each (λ c n p v. p < ports_at echoing c n) (omega arith);
    active = λ c due. (Int z, subst (λ c. Contains run (Fires c 0 (Int z ∷ []))) (only_main c due) (0, omega arith, refl));
    cells_stored = λ x v e. cc;
    stored_cells = λ w h. absurd (none h.0 h.1);
    stored_once = λ i j u w e f same. absurd (no_store u i e);
    node_stores_once = λ i j u w e f same node. absurd (no_store u i e);
    outputs_results = λ j v e. output j v e;
    results_outputs = λ j v h. result j v h;
    no_tokens = refl;
  }
    where
      none : (k : ℕ) → k < 0 → ⊥
      none k l = omega arith

      no_store : (w : Stored) (i : ℕ) → slice_get (stores_of echoing run) i ≡ Some w → ⊥
      no_store w i e = cc

      output : (j : ℕ) (v : Value) → at_end.memory.outputs j ≡ Some v → Result echoing (z ∷ []) run at_end echo_run Main j v
      output zero v e = subst (λ v. Gave Main 0 0 v) (same_Some (Int z) v e) gave
      output (suc j) v e = absurd (go (0 == suc j) refl e)
        where
          go : (t : Bool) → (0 == suc j) ≡ t → (if t then Some (Int z) else None) ≡ Some v → ⊥
          go true e f = grind arith
          go false e f = cc

      result : (j : ℕ) (v : Value) → Result echoing (z ∷ []) run at_end echo_run Main j v → at_end.memory.outputs j ≡ Some v
      result zero v h = each (λ c n p v. Some (Int z) ≡ Some v) refl Main 0 0 v h
      result (suc j) v h = absurd h
