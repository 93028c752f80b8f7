-- The activities that were found are done, one after the other.
use Rattle.std.proofs.Common.{◌≡◌, ℕ, zero, suc, ◌+◌, ◌<◌, ℤ, Bool, true, false, ◌==◌, List, [], ◌∷◌, ◌++◌, map, length, Option, Some, None, nat_lt}
use Rattle.std.proofs.Common.{slice_get, if◌then◌else◌, IsPermutation, refl, sym, ap, ◌∙◌, subst, arith, append_assoc, ltb-true}
use Rattle.std.specs.Prelude.{is_some, slice_set}
use Rattle.std.proofs.lemmas.List.{map-append}
use Rattle.std.proofs.lemmas.List.Sorted.{IsPermutation-refl}
use Rattle.tags.specs.declared.value.Value.{Value}
use Rattle.semantics.specs.Graph.{Graph, flow_of, array_len}
use Rattle.semantics.specs.Meaning.{Context, State, Activity, taken, Step, Run, Leads, Clashes}
use Rattle.law_confluence.proofs.OutcomeDeterminacy.{same_refl}
use Rattle.lemmas.proofs.Permutations.{Each, each_append_back}
use Rattle.oracle.specs.declared.invocations.Made.{Made}
use Rattle.oracle.specs.declared.invocations.Invocation.{Invocation}
use Rattle.oracle.specs.Deeds.{Deed, Sends, Steers, Enters, EntersAll, Stops, Reads, Fills, Puts}
use Rattle.oracle.specs.declared.report.MeanEnd.TheVariants.{Rest, Clash, Steps}
use Rattle.oracle.specs.declared.state.Gate.{Gate}
use Rattle.oracle.specs.declared.state.Gate.TheVariants.{Free, Defers, Clashes as GateClashes}
use Rattle.oracle.specs.declared.tokens.Spot.TheVariants.{Operand}
use Rattle.oracle.specs.declared.tokens.Token.{Token}
use Rattle.oracle.specs.Lines.{outputs_at}
use Rattle.oracle.specs.Sending.{token_at, entering_tokens}
use Rattle.oracle.specs.Acting.{gate_of, held_in, filled_in}
use Rattle.oracle.specs.Running.{Plain, plain, main_place, made_from, more_if, with_made, number_in, sent_of, sent_in, steered_in, answered, performed}
use Rattle.oracle.specs.Meant.{tagged_of}
use Rattle.oracle.specs.Reporting.{cell_at}
use Rattle.oracle.specs.Gathering.{Performed, Does, Hits, performed_all}
use Rattle.oracle.proofs.Clashing.{clash_of}
use Rattle.oracle.proofs.Filling.{filled_same}
use Rattle.oracle.proofs.Following.{all_tokens, meant, RunsSoFar, PutLow, Ready}
use Rattle.oracle.proofs.Gating.{gate_defers}
use Rattle.oracle.proofs.Performing.{Acted, acts}
use Rattle.oracle.proofs.SameNames.{StartsWith, state_same}
use Rattle.oracle.proofs.Taking.{IsShown, Taking, AreTaking, taking_moved, turn_later}

-- TOKENS AHEAD of the fresh ones stay there.
abbrev pub ahead : List Token → Plain → Plain
ahead held s = plain s.invocations (held ++ s.fresh) s.waiting s.deferred s.cells s.outputs

behind : (g : Graph) (held : List Token) (s : Plain) (vs : List Value) (d : Deed) → performed g (ahead held s) vs d ≡ ahead held (performed g s vs d)
behind g held s vs (Sends c n p v) = ap (λ l. plain s.invocations l s.waiting s.deferred s.cells s.outputs)
    (append_assoc held s.fresh (sent_in g s.invocations (sent_of c v) n p))
behind g held s vs (Steers c k v) = ap (λ l. plain s.invocations l s.waiting s.deferred s.cells s.outputs)
    (append_assoc held s.fresh (steered_in g s.invocations (sent_of c v) k))
behind g held s vs (Enters made f i v) =
    ap (λ l. plain (with_made s.invocations made f) l s.waiting s.deferred s.cells s.outputs)
    (append_assoc held s.fresh (token_at (sent_of (number_in s.invocations made) v) (Operand i 0) ∷ []))
behind g held s vs (EntersAll made f) =
    ap (λ l. plain (with_made s.invocations made f) l s.waiting s.deferred s.cells s.outputs)
    (append_assoc held s.fresh (entering_tokens (number_in s.invocations made) 0 vs))
behind g held s vs Stops = refl
behind g held s vs (Reads c n x) = ap (λ l. plain s.invocations l s.waiting s.deferred s.cells s.outputs)
    (append_assoc held s.fresh (answered g s.invocations c n (held_in s.cells x)))
behind g held s vs (Fills c n x a i v) =
    let new = sent_in g s.invocations (sent_of c v) n 0 in
    ap (λ l. plain s.invocations l s.waiting [] (filled_in s.cells x v) s.outputs) (ap (λ l. l ++ new) (append_assoc held s.fresh s.deferred)
    ∙ append_assoc held (s.fresh ++ s.deferred) new)
behind g held s vs (Puts j v) = refl

-- INVOCATIONS stay
get_append : (xs ys : List Invocation) (i : ℕ) (x : Invocation) → slice_get xs i ≡ Some x → slice_get (xs ++ ys) i ≡ Some x
get_append [] ys i x e = cc
get_append (z ∷ xs) ys zero x e = e
get_append (z ∷ xs) ys (suc i) x e = get_append xs ys i x e

made_starts : (xs : List Invocation) (made : Made) (block : ℕ) → StartsWith (with_made xs made block) xs
made_starts xs made block = go (made_from made 0 xs)
  where
    go : (o : Option ℕ) → StartsWith (more_if xs made block o) xs
    go None = λ i x e. get_append xs _ i x e
    go (Some k) = λ i x e. e

starts : (g : Graph) (s : Plain) (vs : List Value) (d : Deed) → StartsWith (performed g s vs d).invocations s.invocations
starts g s vs (Sends c n p v) = λ i x e. e
starts g s vs (Steers c k v) = λ i x e. e
starts g s vs (Enters made f i v) = made_starts s.invocations made f
starts g s vs (EntersAll made f) = made_starts s.invocations made f
starts g s vs Stops = λ i x e. e
starts g s vs (Reads c n x) = λ i x e. e
starts g s vs (Fills c n x a i v) = λ i x e. e
starts g s vs (Puts j v) = λ i x e. e

-- FULL CELLS stay full, so a fetch of one is not deferred later
abbrev pub CanDo : List (Option Value) → Deed → Type 0
CanDo cells e = gate_of cells e ≡ Defers → ⊥

emptier : (cells : List (Option Value)) (x y : ℕ) (v : Value) → held_in (filled_in cells x v) y ≡ None → held_in cells y ≡ None
emptier cells x y v h = go (nat_lt x (length cells)) refl
  where
    at : (b : Bool) → (if b then Some v else held_in cells y) ≡ None → held_in cells y ≡ None
    at true e = cc
    at false e = e

    go : (b : Bool) → nat_lt x (length cells) ≡ b → held_in cells y ≡ None
    go true e = at (x == y) (ap (λ (f : ℕ → Option Value). f y) (sym (filled_same cells x v (ltb-true x (length cells) e))) ∙ h)
    go false e = ap (λ (b : Bool). held_in (if b then slice_set cells x (Some v) else cells) y) (sym e) ∙ h

filled_can : (cells : List (Option Value)) (x : ℕ) (v : Value) (e : Deed) → CanDo cells e → CanDo (filled_in cells x v) e
filled_can cells x v e can q =
    let r = gate_defers (filled_in cells x v) e q in
    can (ap (gate_of cells) r.3 ∙ ap (λ (o : Option Value). if is_some o then Free else Defers) (emptier cells x r.2 v r.4))

can_later : (g : Graph) (s : Plain) (vs : List Value) (d e : Deed) → CanDo s.cells e → CanDo (performed g s vs d).cells e
can_later g s vs (Sends c n p v) e can = can
can_later g s vs (Steers c k v) e can = can
can_later g s vs (Enters made f i v) e can = can
can_later g s vs (EntersAll made f) e can = can
can_later g s vs Stops e can = can
can_later g s vs (Reads c n x) e can = can
can_later g s vs (Fills c n x a i v) e can = filled_can s.cells x v e can
can_later g s vs (Puts j v) e can = can

put_of : (g : Graph) (d : Deed) (s : Plain) → length s.outputs ≡ outputs_at g (main_place g) → IsShown g d → PutLow d s
put_of g (Puts j v) s e h = subst (λ n. j < n) (sym e) h
put_of g (Sends c n p v) s e h = tt
put_of g (Steers c n v) s e h = tt
put_of g (Enters m b i v) s e h = tt
put_of g (EntersAll m b) s e h = tt
put_of g Stops s e h = tt
put_of g (Reads c n y) s e h = tt
put_of g (Fills c n y a i v) s e h = tt

-- THE LAW
module _ (g : Graph) (inputs : List ℤ) where
  abbrev pub IsDone : ℕ → State → List Activity → Performed → Type 0
  IsDone k old as' (Does t) = (n : ℕ) × (n ≡ k + length as') × (f : RunsSoFar g inputs n t) × Run (flow_of g) old as' (meant f.sound.names t)
  IsDone k old as' (Hits Rest) = ⊥
  IsDone k old as' (Hits (Clash a i)) = (i < array_len (flow_of g) a) × ((t : State) × Leads (flow_of g) old t × Clashes (flow_of g) t (cell_at g a i))
  IsDone k old as' (Hits Steps) = ⊥

  one_more : (k : ℕ) (old mid : State) (a : Activity) (as' : List Activity) (p : Performed) → Step (flow_of g) a old mid → IsDone (suc k) mid as' p
      → IsDone k old (a ∷ as') p
  one_more k old mid a as' (Does t) step h = let count = h.1 in (h.0, omega (arith, count), h.2, (mid, step, h.3))
  one_more k old mid a as' (Hits Rest) step h = h
  one_more k old mid a as' (Hits (Clash b i)) step h = (h.0, (h.1.0, (a ∷ h.1.1.0, (mid, step, h.1.1.1)), h.1.2))
  one_more k old mid a as' (Hits Steps) step h = h

  module _ (act : List Value × Deed) (acts' : List (List Value × Deed)) (a : Activity) (as' : List Activity) (k : ℕ) (held : List Token) (s : Plain)
      (f : RunsSoFar g inputs k (ahead held s))
      (own rest : List Token) (is : held ≡ own ++ rest) (t : Taking g k f.sound.names (length s.invocations) own act a) (can : CanDo s.cells act.1)
      (more : AreTaking g k f.sound.names (length s.invocations) (CanDo s.cells) rest acts' as') where
    abbrev cs : List Context
    cs = f.sound.names

    abbrev now : Plain
    now = ahead rest s

    abbrev old : State
    old = meant cs (ahead held s)

    parts : all_tokens (ahead held s) ≡ own ++ all_tokens now
    parts =
        ap (λ l. (l ++ s.fresh) ++ (s.waiting ++ s.deferred)) is ∙ ap (λ l. l ++ (s.waiting ++ s.deferred)) (append_assoc own rest s.fresh)
        ∙ append_assoc own (rest ++ s.fresh) (s.waiting ++ s.deferred)

    takes : IsPermutation (map (tagged_of cs) (all_tokens (ahead held s))) (taken a ++ map (tagged_of cs) (all_tokens now))
    takes =
        subst (λ l. IsPermutation (map (tagged_of cs) (all_tokens (ahead held s))) l)
        (ap (map (tagged_of cs)) parts ∙ map-append (tagged_of cs) own (all_tokens now) ∙ ap (λ l. l ++ map (tagged_of cs) (all_tokens now)) t.takes)
        (IsPermutation-refl _)

    ready : gate_of s.cells act.1 ≡ Free → Ready g inputs k now act.0 act.1
    ready free =
        let P : Token → Type 0 = λ u. u.context < length s.invocations in
        let sound = f.sound in
        record {
          sound = record {
            names = cs;
            named = sound.named;
            differ = sound.differ;
            turns = sound.turns;
            known = (each_append_back P own (all_tokens now) (subst (Each P) parts sound.known)).1;
            stuck = sound.stuck;
            defers = sound.defers;
            cell_count = sound.cell_count;
            output_count = sound.output_count;
          };
          run = f.run;
          old = old;
          is_run = f.is_run;
          count = f.count;
          activity = a;
          takes = takes;
          memory = refl;
          does = t.does;
          is_known = t.is_known;
          free = free;
          turn = t.turn;
          put = put_of g act.1 now sound.output_count t.put;
          some = t.some;
          past = f.past;
        }

    abbrev Next : Type 0
    Next = (k : ℕ) (held : List Token) (s : Plain) (f : RunsSoFar g inputs k (ahead held s)) → AreTaking g k f.sound.names (length s.invocations)
        (CanDo s.cells) held acts' as' → IsDone k (meant f.sound.names (ahead held s)) as' (performed_all g s acts')

    does_it : Next → gate_of s.cells act.1 ≡ Free → IsDone k old (a ∷ as') (performed_all g (performed g s act.0 act.1) acts')
    unfolding ready
    does_it next free =
        let r = ready free in
        let s' = performed g s act.0 act.1 in
        let A : Acted g inputs k now act.0 act.1 r (ahead rest s') = subst (λ u. Acted g inputs k now act.0 act.1 r u) (behind g rest s act.0 act.1)
        (acts g inputs k now act.0 act.1 r) in
        let ds = A.follows.sound.names in
        let mid = meant ds (ahead rest s') in
        one_more k old mid a as' (performed_all g s' acts') A.step
        (next (suc k) rest s' A.follows
        (taking_moved g k s.invocations s'.invocations cs ds f.sound.named A.follows.sound.named (starts g s act.0 act.1) (suc k) (CanDo s.cells)
        (CanDo s'.cells) (λ e h. turn_later k e h) (λ e h. can_later g s act.0 act.1 e h) rest acts' as' more))

    by_gate : Next → (gate : Gate) → gate_of s.cells act.1 ≡ gate
        → IsDone k old (a ∷ as') (elim gate [
          | Free ↦ performed_all g (performed g s act.0 act.1) acts'
          | Defers
              ↦ performed_all g (performed g s act.0 act.1) acts'
          | GateClashes b i ↦ Hits (Clash b i)
        ])
    by_gate next Free q = does_it next q
    by_gate next Defers q = absurd (can q)
    by_gate next (GateClashes b i) q =
        let c = clash_of g cs (length s.invocations) act.0 act.1 s.cells old a (map (tagged_of cs) (all_tokens now)) t.does t.is_known takes refl b i q in
        (c.0, (old, ([], same_refl old), c.1))

  pub done_law : (acts' : List (List Value × Deed)) (as' : List Activity) (k : ℕ) (held : List Token) (s : Plain) (f : RunsSoFar g inputs k (ahead held s))
      → AreTaking g k f.sound.names (length s.invocations) (CanDo s.cells) held acts' as' → IsDone k (meant f.sound.names (ahead held s)) as'
      (performed_all g s acts')
  done_law [] [] k held s f h =
      let f' : RunsSoFar g inputs k s = subst (λ l. RunsSoFar g inputs k (ahead l s)) h f in
      let p : IsPermutation (all_tokens (ahead held s)) (all_tokens s) = subst
      (λ l. IsPermutation (all_tokens (ahead held s)) (all_tokens (ahead l s))) h (IsPermutation-refl _) in
      (k, omega arith, f', state_same g (ahead held s) s f.sound.names f'.sound.names f.sound.named f'.sound.named (λ i x e. e) f.sound.known p refl refl)
  done_law (act ∷ acts') [] k held s f h = absurd h
  done_law [] (a ∷ as') k held s f h = absurd h
  done_law (act ∷ acts') (a ∷ as') k held s f h =
      by_gate act acts' a as' k held s f h.0 h.1 h.2 h.3 h.4 h.5 (λ k held s f h. done_law acts' as' k held s f h) (gate_of s.cells act.1) refl
