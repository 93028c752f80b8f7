-- STEPS DO NOT DEPEND ON WHAT NAMES ARE, but on which are the same: `let`, conditionals, loops, functions, and all steps.
use Rattle.std.specs.Prelude.{◌≡◌, refl, ℕ, ◌+◌, ◌-◌, ◌==◌, ◌&&◌, ◌||◌, not, nat_le, Bool, true, false, ℤ, pos, int_le, List, [], ◌∷◌, length, map, drop}
use Rattle.std.specs.Prelude.{Option, Some, Result, Ok, Err, if◌then◌else◌}
use Rattle.std.proofs.Common.{◌∙◌, ap, ap₂, sym}
use Rattle.std.proofs.lemmas.List.{length-map}
use Rattle.source.specs.declared.fault.FaultKind.TheVariants.{Arity, BadBound, TooWide}
use Rattle.source.specs.declared.word.Word.{Word as CoreWord}
use Rattle.source.specs.declared.word.Word.TheVariants as core_word
use Rattle.surface.specs.declared.fault.Fault.{Fault}
use Rattle.surface.specs.declared.word.Word.{Word}
use Rattle.surface.specs.declared.word.Word.TheVariants as word
use Rattle.surface.specs.First.{◌>>=◌}
use Rattle.surface.specs.Rules.{one_if}
use Rattle.source_check.specs.Steps.{since, back, onto}
use Rattle.surface_check.specs.declared.frame.Kind.{Kind}
use Rattle.surface_check.specs.declared.frame.Kind.TheVariants as kind
use Rattle.surface_check.specs.declared.frame.Turn.{Turn}
use Rattle.surface_check.specs.declared.frame.Frame.{Frame}
use Rattle.surface_check.specs.declared.frame.Frame.TheVariants as frame
use Rattle.surface_check.specs.Evaluates.{Evaluation, evaluates, constants, constant_of}
use Rattle.surface_check.specs.Heads.{Names, ends_item}
use Rattle.surface_check.specs.Renamed.{renamed, core_renamed}
use Rattle.surface_check.specs.Steps.{Items, Open, State, Plain, Passing, Measuring, Skipping, top, popped, pushed, ended, taken, using, names_begin, entered}
use Rattle.surface_check.specs.Steps.{let_ends, end_let, first_arm, second_arm, end_if, end_when, bounded, turned, until, left_turn, closed, end_loop, range_ends}
use Rattle.surface_check.specs.Steps.{is_carried, as_many, values_of, bound_in, end_for, body, end_function, core_step, plain_step, ends_measure, measured}
use Rattle.surface_check.specs.Steps.{step, steps, prefixed}
use Rattle.surface_check.proofs.Moved.{kind_moved, moved, state_moved, items_by, StepsAlike, mapped, must_mapped, must_moved, must_first, bind_mapped}
use Rattle.surface_check.proofs.Moved.{if_mapped, since_moved, back_moved, onto_moved, length_since, drop_one}
use Rattle.surface_check.proofs.RenamedHeads.{evaluates_alike, ends_alike}
use Rattle.surface_check.proofs.RenamedSteps.{stands_moved, using_moved, read_moved, bracketed_moved, prefixed_moved, operated_moved, one_taken_moved}
use Rattle.surface_check.proofs.RenamedSteps.{cell_moved, index_moved, indexed_moved, begins_call_moved, part_ended_moved, call_moved, measured_moved}
use Rattle.surface_check.proofs.RenamedSteps.{give_moved, bound_moved, array_bound_moved, dropped_moved}

-- NAMES
begin_moved : {N M : Type 0} (f : N → M) (s : Open N) → names_begin (moved f s) ≡ moved f (names_begin s)
begin_moved f s = ap (λ (n : ℕ). pushed (moved f s) (frame.Names n 0)) (length-map s.pending f)

entered_moved : {N M : Type 0} (f : N → M) (s : Open N) (start : ℕ) → entered (moved f s) start ≡ moved f (entered s start)
entered_moved {N} {M} f s start =
    ap₂ (λ (xs ys : List M). record (moved f s) { scope = xs; pending = ys })
    (ap (λ (xs : List M). onto xs (map f s.scope)) (since_moved f start s.pending) ∙ onto_moved f (since start s.pending) s.scope)
    (back_moved f start s.pending)

let_ends_moved : {N M : Type 0} (f : N → M) (s : Open N) (at sum : ℕ) (o : Option Frame)
    → let_ends (moved f s) at sum o ≡ mapped (state_moved f) (let_ends s at sum o)
let_ends_moved {N} {M} f s at sum (Some (frame.Names start targets)) = must_mapped (state_moved f) (sum == targets) Arity at _ _
    (ap (λ (z : Open M). Plain z) (entered_moved f s start))
let_ends_moved f s at sum o = refl

end_let_moved : {N M : Type 0} (f : N → M) (s : Open N) (at : ℕ) (o : Option Frame) → end_let (moved f s) at o ≡ mapped (state_moved f) (end_let s at o)
end_let_moved f s at (Some (frame.List sum)) = let_ends_moved f (popped s) at sum (top s.frames)
end_let_moved f s at o = refl

-- the scope is cut
cut_moved : {N M : Type 0} (f : N → M) (s : Open N) (mark : ℕ)
    → record (moved f s) { scope = back mark (map f s.scope) } ≡ moved f (record s { scope = back mark s.scope })
cut_moved {N} {M} f s mark = ap (λ (xs : List M). record (moved f s) { scope = xs }) (back_moved f mark s.scope)

-- CONDITIONALS
first_arm_moved : {N M : Type 0} (f : N → M) (s : Open N) → first_arm (moved f s) ≡ mapped (state_moved f) (first_arm s)
first_arm_moved f s = must_mapped (state_moved f) (s.last.count == 1) Arity s.last.at _ _
    (ap (λ (n : ℕ). Plain (pushed (taken (moved f s)) (frame.First n))) (length-map s.scope f))

second_arm_moved : {N M : Type 0} (f : N → M) (s : Open N) (o : Option Frame) → second_arm (moved f s) o ≡ mapped (state_moved f) (second_arm s o)
second_arm_moved {N} {M} f s (Some (frame.First mark)) = ap (λ (z : Open M). Ok (Plain (pushed (taken z) (frame.Second mark s.last.count)))) (cut_moved f s mark)
second_arm_moved f s o = refl

end_if_moved : {N M : Type 0} (f : N → M) (s : Open N) (at : ℕ) (o : Option Frame) → end_if (moved f s) at o ≡ mapped (state_moved f) (end_if s at o)
end_if_moved {N} {M} f s at (Some (frame.Second mark left)) = must_mapped (state_moved f) (left == s.last.count) Arity at _ _
    (ap (λ (z : Open M). Plain (ended z left at kind.Other)) (cut_moved f s mark))
end_if_moved f s at o = refl

end_when_moved : {N M : Type 0} (f : N → M) (s : Open N) (o : Option Frame) → end_when (moved f s) o ≡ mapped (state_moved f) (end_when s o)
end_when_moved {N} {M} f s (Some (frame.First mark)) = ap (λ (z : Open M). Ok (Plain (taken z))) (cut_moved f s mark)
end_when_moved {N} {M} f s (Some (frame.Second mark left)) = ap (λ (z : Open M). Ok (Plain (taken z))) (cut_moved f s mark)
end_when_moved f s o = refl

-- LOOPS
bounded_moved : {N M : Type 0} (f : N → M) (s : Open N) (at : ℕ) (number : Result ℤ Fault)
    → bounded (moved f s) at number ≡ mapped (state_moved f) (bounded s at number)
bounded_moved f s at number = bind_mapped (state_moved f) number _ _ (λ z. must_mapped (state_moved f) (int_le (pos 2) z && int_le z (pos 64)) BadBound at _ _ refl)

begins_turn : {N M : Type 0} (f : N → M) (s : Open N) (start targets : ℕ) (z : Open M) → z ≡ moved f (entered s start)
    → Plain (pushed (record z { turn = record { base = length (map f s.scope); start = length (map f s.used) } }) (frame.Open s.turn targets (length z.scope)))
    ≡ state_moved f (Plain (pushed (record (entered s start) { turn = record { base = length s.scope; start = length s.used } }) (frame.Open s.turn targets
    (length (entered s start).scope))))
begins_turn {N} {M} f s start targets z e =
    ap (λ (y : Open M). Plain (pushed (record y { turn = record { base = length (map f s.scope); start = length (map f s.used) } }) (frame.Open s.turn targets
    (length y.scope)))) e
    ∙ ap₂ (λ (n m : ℕ). Plain (pushed (record (moved f (entered s start)) { turn = record { base = n; start = m } }) (frame.Open s.turn targets
    (length (map f (entered s start).scope))))) (length-map s.scope f) (length-map s.used f)
    ∙ ap (λ (n : ℕ). Plain (pushed (record (moved f (entered s start)) { turn = record { base = length s.scope; start = length s.used } })
    (frame.Open s.turn targets n))) (length-map (entered s start).scope f)

turned_moved : {N M : Type 0} (f : N → M) (s : Open N) (o : Option Frame) → turned (moved f s) o ≡ mapped (state_moved f) (turned s o)
turned_moved {N} {M} f s (Some (frame.Names start targets)) = ap (λ (z : State M). Ok z) (begins_turn f s start targets (entered (moved f s) start)
    (entered_moved f s start))
turned_moved f s o = refl

until_moved : {N M : Type 0} (f : N → M) (s : Open N) (o : Option Frame) → until (moved f s) o ≡ mapped (state_moved f) (until s o)
until_moved {N} {M} f s (Some (frame.Open outer names mark)) = ap (λ (z : Open M). Ok (Plain (pushed (taken z) (frame.Tested outer names s.last.count))))
    (cut_moved f s mark)
until_moved f s o = refl

left_moved : {N M : Type 0} (f : N → M) (t : Names N) (r : Names M) → StepsAlike f t r → (k : Items M) (s : Open N) (outer : Turn)
    → left_turn r k (moved f s) outer ≡ moved f (left_turn t (items_by f k) s outer)
left_moved {N} {M} f t r a k s outer =
    ap₂ (λ (xs ys : List M). using r k (record (moved f s) { scope = xs; used = ys; turn = outer }) (onto (since s.turn.start (map f s.used)) []))
    (back_moved f s.turn.base s.scope) (back_moved f s.turn.start s.used)
    ∙ ap (λ (xs : List M). using r k (moved f (record s { scope = back s.turn.base s.scope; used = back s.turn.start s.used; turn = outer })) xs)
    (ap (λ (xs : List M). onto xs []) (since_moved f s.turn.start s.used) ∙ onto_moved f (since s.turn.start s.used) [])
    ∙ using_moved f t r a k (record s { scope = back s.turn.base s.scope; used = back s.turn.start s.used; turn = outer }) (onto (since s.turn.start s.used) [])

closed_moved : {N M : Type 0} (f : N → M) (t : Names N) (r : Names M) → StepsAlike f t r → (k : Items M) (s : Open N) (at : ℕ) (outer : Turn) (names given : ℕ)
    → closed r k (moved f s) at outer names given ≡ mapped (state_moved f) (closed t (items_by f k) s at outer names given)
closed_moved {N} {M} f t r a k s at outer names given =
    must_first (state_moved f) (given == names) Arity at _ _ (must_moved (state_moved f) (nat_le (names + length (since s.turn.start s.used)) 15)
    (nat_le (names + length (since s.turn.start (map f s.used))) 15) TooWide at _ _
    (ap (λ (n : ℕ). nat_le (names + n) 15) (length_since f s.turn.start s.used))
    (ap (λ (z : Open M). Plain (ended z given at kind.Other)) (left_moved f t r a k s outer)))

end_loop_moved : {N M : Type 0} (f : N → M) (t : Names N) (r : Names M) → StepsAlike f t r → (k : Items M) (s : Open N) (at : ℕ) (o : Option Frame)
    → end_loop r k (moved f s) at o ≡ mapped (state_moved f) (end_loop t (items_by f k) s at o)
end_loop_moved f t r a k s at (Some (frame.Open outer names mark)) = closed_moved f t r a k s at outer names s.last.count
end_loop_moved f t r a k s at (Some (frame.Tested outer names given)) = must_first (state_moved f) (s.last.count == 1) Arity s.last.at _ _
    (closed_moved f t r a k s at outer names given)
end_loop_moved f t r a k s at o = refl

-- `for`
range_ends_moved : {N M : Type 0} (f : N → M) (s : Open N) → range_ends (moved f s) ≡ mapped (state_moved f) (range_ends s)
range_ends_moved f s = must_mapped (state_moved f) (s.last.count == 1) Arity s.last.at _ _ refl

carried_moved : {N M : Type 0} (f : N → M) (t : Names N) (r : Names M) → StepsAlike f t r → (xs ys : List N) (es : List (Kind N))
    → is_carried r (map f xs) (map f ys) (map (kind_moved f) es) ≡ is_carried t xs ys es
carried_moved f t r a xs ys (kind.Written ∷ es) = refl
carried_moved f t r a xs ys (kind.Constant ∷ es) = refl
carried_moved f t r a xs ys (kind.Variable x ∷ es) = ap₂ (λ (b c : Bool). b || not c) (stands_moved f t r a x xs) (stands_moved f t r a x ys)
carried_moved f t r a xs ys (kind.Other ∷ es) = refl
carried_moved f t r a xs ys [] = refl

bound_in_moved : {N M : Type 0} (f : N → M) (s : Open N) (mark : ℕ) → bound_in (moved f s) mark ≡ map f (bound_in s mark)
bound_in_moved {N} {M} f s mark = ap (λ (xs : List M). since s.turn.base xs) (back_moved f mark s.scope) ∙ since_moved f s.turn.base (back mark s.scope)

is_carried_moved : {N M : Type 0} (f : N → M) (t : Names N) (r : Names M) → StepsAlike f t r → (s : Open N) (mark : ℕ)
    → is_carried r (bound_in (moved f s) mark) (since s.turn.start (map f s.used)) (map (kind_moved f) s.ends)
    ≡ is_carried t (bound_in s mark) (since s.turn.start s.used) s.ends
is_carried_moved {N} {M} f t r a s mark =
    ap₂ (λ (xs ys : List M). is_carried r xs ys (map (kind_moved f) s.ends)) (bound_in_moved f s mark) (since_moved f s.turn.start s.used)
    ∙ carried_moved f t r a (bound_in s mark) (since s.turn.start s.used) s.ends

end_for_moved : {N M : Type 0} (f : N → M) (t : Names N) (r : Names M) → StepsAlike f t r → (k : Items M) (s : Open N) (at : ℕ) (o : Option Frame)
    → end_for r k (moved f s) at o ≡ mapped (state_moved f) (end_for t (items_by f k) s at o)
end_for_moved {N} {M} f t r a k s at (Some (frame.Open outer names mark)) =
    must_first (state_moved f) (as_many s.last.count (names - 1)) Arity at _ _ (must_moved (state_moved f)
    (nat_le (names + length (since s.turn.start s.used) + one_if (is_carried t (bound_in s mark) (since s.turn.start s.used) s.ends)) 15)
    (nat_le (names + length (since s.turn.start (map f s.used)) + one_if (is_carried r (bound_in (moved f s) mark) (since s.turn.start (map f s.used))
    (map (kind_moved f) s.ends))) 15) TooWide at _ _
    (ap₂ (λ (n : ℕ) (b : Bool). nat_le (names + n + one_if b) 15) (length_since f s.turn.start s.used) (is_carried_moved f t r a s mark))
    (ap (λ (z : Open M). Plain (ended z (values_of (names - 1)) at kind.Other))
    (ap (λ (es : List (Kind M)). left_turn r k (record (moved f s) { ends = es }) outer) (drop_one (kind_moved f) s.ends)
    ∙ left_moved f t r a k (record s { ends = drop 1 s.ends }) outer)))
end_for_moved f t r a k s at o = refl

-- FUNCTIONS
body_moved : {N M : Type 0} (f : N → M) (s : Open N) (at : ℕ) (o : Option Frame) → body (moved f s) at o ≡ mapped (state_moved f) (body s at o)
body_moved {N} {M} f s at (Some (frame.Names start targets)) = ap (λ (z : Open M). Ok (Plain (pushed z (frame.Body s.last.count at)))) (entered_moved f s start)
body_moved f s at o = refl

end_function_moved : {N M : Type 0} (f : N → M) (s : Open N) (o : Option Frame) → end_function (moved f s) o ≡ mapped (state_moved f) (end_function s o)
end_function_moved f s (Some (frame.Body results at)) = must_mapped (state_moved f) (s.last.count == results) Arity at _ _ refl
end_function_moved f s o = refl

-- EACH WORD
core_step_moved : {N M : Type 0} (f : N → M) (t : Names N) (r : Names M) → StepsAlike f t r → (k : Items M) (s : Open N) (w : CoreWord N) (ws : List (Word N))
    → core_step r k (moved f s) (core_renamed f w) (map (renamed f) ws) ≡ mapped (state_moved f) (core_step t (items_by f k) s w ws)
core_step_moved f t r a k s (core_word.Array at x) ws = refl
core_step_moved f t r a k s (core_word.Length at n) ws = refl
core_step_moved {N} {M} f t r a k s (core_word.Function at x) ws = ap (λ (z : Open M). Ok (Plain (ended z 1 at kind.Other))) (begin_moved f s)
core_step_moved f t r a k s (core_word.Parameter at x) ws = bound_moved f t r a k (popped s) at x (top s.frames)
core_step_moved f t r a k s (core_word.Results at n) ws = refl
core_step_moved f t r a k s (core_word.Body at) ws = body_moved f (popped s) at (top s.frames)
core_step_moved f t r a k s core_word.EndFunction ws = end_function_moved f (popped s) (top s.frames)
core_step_moved f t r a k s (core_word.Number at n) ws = refl
core_step_moved f t r a k s (core_word.Name at x) ws = read_moved f t r a k s at x ws
core_step_moved {N} {M} f t r a k s core_word.Bracket ws = ap (λ (j : Kind M). Ok (Plain (ended (moved f s) s.last.count s.last.at j))) (bracketed_moved f s.last.kind)
core_step_moved f t r a k s (core_word.Prefix at op) ws = operated_moved f s at (prefixed op (kind_moved f s.last.kind)) (prefixed op s.last.kind) (prefixed_moved f op
    s.last.kind)
core_step_moved f t r a k s core_word.Left ws = one_taken_moved f s
core_step_moved f t r a k s (core_word.Infix at sign) ws = operated_moved f s at kind.Other kind.Other refl
core_step_moved f t r a k s (core_word.Cell at x) ws = cell_moved f t r a k s at x
core_step_moved f t r a k s (core_word.Fetch at x) ws = indexed_moved f (popped s) (top s.frames) (ended (popped s) 1 at kind.Other)
core_step_moved f t r a k s core_word.Index ws = indexed_moved f (popped s) (top s.frames) (taken (popped s))
core_step_moved f t r a k s (core_word.Store at x) ws = operated_moved f s at kind.Other kind.Other refl
core_step_moved f t r a k s (core_word.Callee at x) ws = begins_call_moved f t r a k s at x ws
core_step_moved f t r a k s (core_word.Call at strict x) ws = call_moved f k (popped s) at x (top s.frames)
core_step_moved f t r a k s core_word.Then ws = first_arm_moved f s
core_step_moved f t r a k s core_word.Else ws = second_arm_moved f (popped s) (top s.frames)
core_step_moved f t r a k s (core_word.EndIf at) ws = end_if_moved f (popped s) at (top s.frames)
core_step_moved {N} {M} f t r a k s (core_word.Loop at) ws = ap (λ (z : Open M). Ok (Plain z)) (begin_moved f s)
core_step_moved f t r a k s (core_word.Bound at n) ws = bounded_moved f s at (Ok (pos n))
core_step_moved f t r a k s (core_word.Start at x) ws = bound_moved f t r a k (popped s) at x (top s.frames)
core_step_moved f t r a k s core_word.First ws = one_taken_moved f s
core_step_moved f t r a k s core_word.TestFirst ws = turned_moved f (popped s) (top s.frames)
core_step_moved f t r a k s core_word.While ws = one_taken_moved f s
core_step_moved f t r a k s core_word.BodyFirst ws = turned_moved f (popped s) (top s.frames)
core_step_moved f t r a k s core_word.Until ws = until_moved f (popped s) (top s.frames)
core_step_moved f t r a k s (core_word.EndLoop at n) ws = end_loop_moved f t r a k (popped s) at (top s.frames)
core_step_moved f t r a k s core_word.List ws = refl
core_step_moved f t r a k s core_word.Part ws = part_ended_moved f (popped s) (top s.frames)
core_step_moved {N} {M} f t r a k s (core_word.Let at) ws = ap (λ (z : Open M). Ok (Plain z)) (begin_moved f s)
core_step_moved f t r a k s (core_word.Bind at x) ws = bound_moved f t r a k (popped s) at x (top s.frames)
core_step_moved f t r a k s core_word.Drop ws = dropped_moved f (popped s) (top s.frames)
core_step_moved f t r a k s (core_word.EndLet at) ws = end_let_moved f (popped s) at (top s.frames)
core_step_moved f t r a k s core_word.Do ws = refl
core_step_moved f t r a k s core_word.Give ws = give_moved f (popped s) (top s.frames)
core_step_moved f t r a k s core_word.Chain ws = refl

plain_step_moved : {N M : Type 0} (f : N → M) (t : Names N) (r : Names M) → StepsAlike f t r → (k : Items M) (s : Open N) (w : Word N) (ws : List (Word N))
    → plain_step r k (moved f s) (renamed f w) (map (renamed f) ws) ≡ mapped (state_moved f) (plain_step t (items_by f k) s w ws)
plain_step_moved f t r a k s (word.Core w) ws = core_step_moved f t r a k s w ws
plain_step_moved f t r a k s word.EndArray ws = refl
plain_step_moved f t r a k s (word.Constant at x) ws = refl
plain_step_moved f t r a k s word.EndConstant ws = refl
plain_step_moved f t r a k s (word.ArrayParameter at x rank) ws = array_bound_moved f t r a k (popped s) at x rank (top s.frames)
plain_step_moved f t r a k s (word.ConstantResults at x) ws = refl
plain_step_moved f t r a k s word.AndThen ws = one_taken_moved f s
plain_step_moved f t r a k s (word.EndAnd at) ws = operated_moved f s at kind.Other kind.Other refl
plain_step_moved f t r a k s word.OrElse ws = one_taken_moved f s
plain_step_moved f t r a k s (word.EndOr at) ws = operated_moved f s at kind.Other kind.Other refl
plain_step_moved f t r a k s (word.Not at) ws = operated_moved f s at kind.Other kind.Other refl
plain_step_moved f t r a k s word.NextIndex ws = index_moved f (popped s) (top s.frames)
plain_step_moved f t r a k s (word.ConstantBound at x) ws = bounded_moved f s at (constant_of (k.item (f x)) at)
plain_step_moved f t r a k s (word.EndConstantLoop at x) ws = end_loop_moved f t r a k (popped s) at (top s.frames)
plain_step_moved {N} {M} f t r a k s (word.For at) ws = ap (λ (z : Open M). Ok (Plain z)) (begin_moved f s)
plain_step_moved f t r a k s (word.Counter at x) ws = bound_moved f t r a k (popped s) at x (top s.frames)
plain_step_moved f t r a k s word.Range ws = one_taken_moved f s
plain_step_moved f t r a k s word.EndRange ws = range_ends_moved f s
plain_step_moved f t r a k s word.Turns ws = turned_moved f (popped s) (top s.frames)
plain_step_moved f t r a k s (word.EndFor at) ws = end_for_moved f t r a k (popped s) at (top s.frames)
plain_step_moved f t r a k s (word.EndWhen at) ws = end_when_moved f (popped s) (top s.frames)
plain_step_moved f t r a k s word.When ws = refl

ends_measure_moved : {N M : Type 0} (f : N → M) (w : Word N) → ends_measure (renamed f w) ≡ ends_measure w
ends_measure_moved f (word.Core (core_word.Call at strict x)) = refl
ends_measure_moved f w = refl

skips : {N M : Type 0} (f : N → M) (s : Open N) (b : Bool) → (if b then Plain (moved f s) else Skipping (moved f s)) ≡ state_moved f (if b then Plain s else Skipping s)
skips f s true = refl
skips f s false = refl

step_moved : {N M : Type 0} (f : N → M) (t : Names N) (r : Names M) → StepsAlike f t r → (k : Items M) (s : State N) (w : Word N) (ws : List (Word N))
    → step r k (state_moved f s) (renamed f w) (map (renamed f) ws) ≡ mapped (state_moved f) (step t (items_by f k) s w ws)
step_moved f t r a k (Plain s) w ws = plain_step_moved f t r a k s w ws
step_moved f t r a k (Passing s start) w ws = refl
step_moved {N} {M} f t r a k (Measuring s at rank c) w ws =
    ap₂ (λ (b : Bool) (e : Evaluation). if b && c.depth == 1 then measured (moved f s) at rank c.parts else Ok (Measuring (moved f s) at rank e))
    (ends_measure_moved f w) (sym (evaluates_alike f k.item c w))
    ∙ if_mapped (state_moved f) (ends_measure w && c.depth == 1) (measured s at rank c.parts) (Ok (Measuring s at rank (evaluates (constants (λ x. k.item (f x))) c w)))
    (measured (moved f s) at rank c.parts) (Ok (Measuring (moved f s) at rank (evaluates (constants (λ x. k.item (f x))) c w)))
    (measured_moved f s at rank c.parts) refl
step_moved {N} {M} f t r a k (Skipping s) w ws = ap (λ (b : Bool). Ok (if b then Plain (moved f s) else Skipping (moved f s))) (ends_alike f w)
    ∙ ap (λ (z : State M). Ok z) (skips f s (ends_item w))

-- ALL WORDS
pub steps_moved : {N M : Type 0} (f : N → M) (t : Names N) (r : Names M) → StepsAlike f t r → (k : Items M) (ws : List (Word N)) (s : State N)
    → steps r k (state_moved f s) (map (renamed f) ws) ≡ mapped (state_moved f) (steps t (items_by f k) s ws)
steps_moved f t r a k [] s = refl
steps_moved {N} {M} f t r a k (w ∷ ws) s =
    ap (λ (q : Result (State M) Fault). q >>= λ z. steps r k z (map (renamed f) ws)) (step_moved f t r a k s w ws)
    ∙ go (step t (items_by f k) s w ws) (steps_moved f t r a k ws)
  where
    go : (q : Result (State N) Fault) → ((z : State N) → steps r k (state_moved f z) (map (renamed f) ws) ≡ mapped (state_moved f) (steps t (items_by f k) z ws))
        → (mapped (state_moved f) q >>= λ z. steps r k z (map (renamed f) ws)) ≡ mapped (state_moved f) (q >>= λ z. steps t (items_by f k) z ws)
    go (Ok z) h = h z
    go (Err e) h = refl
