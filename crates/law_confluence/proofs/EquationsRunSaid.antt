-- What an activity of a run says, as read in the memory at the end, was present as tokens.
use Rattle.std.proofs.Common.{◌≡◌, ℕ, zero, suc, List, [], ◌∷◌, ◌++◌, Some, inr, sym, ap, ◌∙◌, subst}
use Rattle.std.specs.Prelude.{slice_get}
use Rattle.std.proofs.lemmas.List.Sorted.{IsPermutation-sym}
use Rattle.std.proofs.lemmas.Option.{same_Some}
use Rattle.semantics.specs.Graph.{Flow}
use Rattle.semantics.specs.Meaning.{Tagged, State, Memory, Effect, Activity, Deed, Says, Reads, Fills, Puts, Message, Sends, tokens_of, adds, with_cell, deed}
use Rattle.semantics.specs.Meaning.{done, Run, Stood}
use Rattle.lemmas.proofs.Permutations.{Within, within_left, within_permutation, within_to}
use Rattle.law_confluence.proofs.ActivityDeeds.{CellsKept, full_of, empty_of}
use Rattle.law_confluence.proofs.ActivityDiamond.{deed_of}
use Rattle.law_confluence.proofs.HistoryRuns.{run_cells}
use Rattle.law_confluence.proofs.History.{stood_at}
use Rattle.law_confluence.specs.EquationsHave.{SaysIn}

-- what is added is what is said at the end, where the cells that were full stayed as they were
pub added : (fl : Flow) (m n : Memory) (d : Deed) (E : Effect) (y : Message) → CellsKept m n → done fl m d ≡ Some E → SaysIn n d y → E.added ≡ tokens_of fl y
added fl m n (Says z) E y keeps e h = ap (λ (E : Effect). E.added) (sym (same_Some _ E e)) ∙ ap (tokens_of fl) h
added fl m n (Reads c k x) E y keeps e h =
    let f = full_of (m.cells x) (λ v. adds (tokens_of fl (Sends c k 0 v)) m) E e in
    let same = same_Some f.0 h.0 (sym (keeps x f.0 f.1) ∙ h.1) in
    ap (λ (E : Effect). E.added) (sym (same_Some _ E f.2)) ∙ ap (λ v. tokens_of fl (Sends c k 0 v)) same ∙ ap (tokens_of fl) h.2
added fl m n (Fills c k x v) E y keeps e h =
    let f = empty_of (m.cells x) (adds (tokens_of fl (Sends c k 0 v)) (with_cell m x v)) E e in
    ap (λ (E : Effect). E.added) (sym (same_Some _ E f.1)) ∙ ap (tokens_of fl) h
added fl m n (Puts j v) E y keeps e h = absurd h

pub said_stood : (fl : Flow) (s t : State) (run : List Activity) (r : Run fl s run t) (i : ℕ) (a : Activity) (d : Deed) (y : Message) → slice_get run i ≡ Some a
    → deed fl a ≡ Some d
    → SaysIn t.memory d y → (x : Tagged) → Within x (tokens_of fl y) → Stood fl s run t r x
said_stood fl s t [] r i a d y f e h x k = cc
said_stood fl s t (b ∷ run) r zero a d y f e h x k =
    let its = deed_of fl s.memory b r.1.does r.1.allowed in
    let same : its.0 ≡ d = same_Some its.0 d (sym its.1 ∙ ap (λ a. deed fl a) (same_Some b a f) ∙ e) in
    let tells = added fl s.memory t.memory d r.1.does y (λ x v g. run_cells fl s t (b ∷ run) r x v g)
    (subst (λ d. done fl s.memory d ≡ Some r.1.does) same its.2) h in
    let here = within_left x r.1.does.added r.1.rest (subst (λ l. Within x l) (sym tells) k) in
    inr (stood_at fl r.0 t run r.2 x (within_to x r.0.tokens
    (within_permutation x (r.1.does.added ++ r.1.rest) r.0.tokens (IsPermutation-sym _ _ r.1.leaves) here)))
said_stood fl s t (b ∷ run) r (suc i) a d y f e h x k = inr (said_stood fl r.0 t run r.2 i a d y f e h x k)
