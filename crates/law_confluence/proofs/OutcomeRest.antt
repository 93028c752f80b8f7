-- Each activity of a well-formed flow takes a token: so where no token is left, all is at rest.
use Rattle.std.proofs.Common.{◌≡◌, ℕ, ◌+◌, ◌<◌, List, [], ◌∷◌, length, Some, refl, sym, ap, subst, arith, length-append}
use Rattle.std.proofs.lemmas.List.Sorted.{length_permutation}
use Rattle.tags.specs.declared.value.Value.{Value}
use Rattle.tags.specs.declared.value.Value.TheVariants.{Int}
use Rattle.std.specs.Prelude.{pos}
use Rattle.semantics.specs.Graph.{Flow}
use Rattle.semantics.specs.Meaning.{Context, Statement, AtNode, Activity, taken, operands_from, Message, Sends, Nothing, Deed, Says, Reads, Fills, Puts, deed}
use Rattle.semantics.specs.Meaning.{State, AtRest}
use Rattle.semantics.specs.Meaning.{Tagged, Effect, effect}
use Rattle.lemmas.proofs.Permutations.{Within, put_first, each_within}
use Rattle.law_confluence.proofs.ActivityKeys.{Held}
use Rattle.law_confluence.proofs.ActivityDiamond.{deed_of, held_from}
use Rattle.law_confluence.proofs.ActivityRows.{Speaks, Row, RowFires, RowSteers, RowGates, RowQuiet, RowMerges, RowCalls, RowStrict, RowLoops, RowReturns}
use Rattle.law_confluence.proofs.ActivityRows.{RowAgain, RowLeaves, rows}
use Rattle.law_confluence.proofs.HistoryLaws.{IsFlowWell}
use Rattle.law_confluence.proofs.HistoryGrounds.{strict_inputs}

some_message : (d : Deed) → (m : Message) × Speaks d m
some_message (Says m) = (m, refl)
some_message (Reads c n x) = (Sends c n 0 (Int (pos 0)), (Int (pos 0), refl))
some_message (Fills c n x v) = (Sends c n 0 v, refl)
some_message (Puts j v) = (Nothing, refl)

operands_count : (c : Context) (s : Statement) (k : ℕ) (vs : List Value) → length (operands_from c s k vs) ≡ length vs
operands_count c s k [] = refl
operands_count c s k (v ∷ vs) = let ih = operands_count c s (k + 1) vs in omega arith

row_takes : (fl : Flow) → IsFlowWell fl → (a : Activity) (m : Message) → Row fl a m → 0 < length (taken a)
row_takes fl w a m (RowFires c n vs v ea em class l) = subst (λ a. 0 < length (taken a)) (sym ea) (omega (arith, operands_count c (AtNode n) 0 vs))
row_takes fl w a m (RowSteers c n v ea em) = subst (λ a. 0 < length (taken a)) (sym ea) (omega arith)
row_takes fl w a m (RowGates c n v b k ea em class region) = subst (λ a. 0 < length (taken a)) (sym ea) (omega arith)
row_takes fl w a m (RowQuiet some em) = some
row_takes fl w a m (RowMerges c n i v ea em class) = subst (λ a. 0 < length (taken a)) (sym ea) (omega arith)
row_takes fl w a m (RowCalls c n i v ea em class) = subst (λ a. 0 < length (taken a)) (sym ea) (omega arith)
row_takes fl w a m (RowStrict c n vs ea em class mode) =
    let x = strict_inputs fl w c n vs class mode in
    subst (λ a. 0 < length (taken a)) (sym ea) (omega (arith, operands_count c (AtNode n) 0 vs, x.2, x.3))
row_takes fl w a m (RowLoops c n i v ea em class) = subst (λ a. 0 < length (taken a)) (sym ea) (omega arith)
row_takes fl w a m (RowReturns c n j v ea em) = subst (λ a. 0 < length (taken a)) (sym ea) (omega arith)
row_takes fl w a m (RowAgain c n i j b v ea em on) = subst (λ a. 0 < length (taken a)) (sym ea) (omega arith)
row_takes fl w a m (RowLeaves c n i j b v ea em off) = subst (λ a. 0 < length (taken a)) (sym ea) (omega arith)

pub takes_some : (fl : Flow) → IsFlowWell fl → (a : Activity) (d : Deed) → deed fl a ≡ Some d → 0 < length (taken a)
takes_some fl w a d e = let m = some_message d in row_takes fl w a m.0 (rows fl a d m.0 e m.1)

pub rest_without_tokens : (fl : Flow) → IsFlowWell fl → (s : State) → s.tokens ≡ [] → AtRest fl s
rest_without_tokens fl w s e a t p =
    let d = deed_of fl s.memory a p.does p.allowed in
    let some = takes_some fl w a d.0 d.1 in
    let long = length_permutation s.tokens _ p.takes in
    let whole = length-append (taken a) p.rest in
    let none = ap length e in
    omega arith

-- No activity that takes this token is enabled.
abbrev pub Blocked : Flow → State → Tagged → Type 0
Blocked fl s t = (a : Activity) (E : Effect) → Within t (taken a) → Held s.tokens (taken a) → effect fl s.memory a ≡ Some E → ⊥

pub some_taken : (ts : List Tagged) → 0 < length ts → (t : Tagged) × Within t ts
some_taken [] h = absurd (omega arith)
some_taken (t ∷ ts) h = (t, (ts, put_first t ts))

pub rest_by_tokens : (fl : Flow) → IsFlowWell fl → (s : State) → ((t : Tagged) → Within t s.tokens → Blocked fl s t) → AtRest fl s
rest_by_tokens fl w s h a t p =
    let d = deed_of fl s.memory a p.does p.allowed in
    let held = held_from s.tokens (taken a) p.rest p.takes in
    let x = some_taken (taken a) (takes_some fl w a d.0 d.1) in
    h x.0 (each_within (λ t. Within t s.tokens) x.0 (taken a) x.1 held) a p.does x.1 held p.allowed
