-- STEPS DO NOT DEPEND ON WHAT NAMES ARE, but on which are the same.
use Rattle.std.specs.Prelude.{◌≡◌, refl, ℕ, ◌+◌, ◌-◌, ◌==◌, ◌||◌, ◌&&◌, nat_le, Bool, true, false, List, [], ◌∷◌, length, map, Option, Some, Result}
use Rattle.std.specs.Prelude.{Ok, Err, if◌then◌else◌}
use Rattle.std.proofs.Common.{◌∙◌, ap}
use Rattle.std.proofs.lemmas.List.{length-map, take-map, drop-map}
use Rattle.source.specs.declared.fault.Fault.{Fault}
use Rattle.source.specs.declared.word.Word.{Word}
use Rattle.source.specs.declared.word.Word.TheVariants as word
use Rattle.source.specs.declared.fault.FaultKind.{FaultKind}
use Rattle.source.specs.declared.fault.FaultKind.TheVariants.{SameName, NoSuchName, Arity, BadBound, TooWide}
use Rattle.source.specs.First.{◌>>=◌, must}
use Rattle.source_check.specs.declared.frame.Frame.{Frame}
use Rattle.source_check.specs.declared.frame.Frame.TheVariants as frame
use Rattle.source_check.specs.declared.frame.Turn.{Turn}
use Rattle.source_check.specs.Steps.{Names, State, since, back, onto, stands, top, popped, pushed, ended, taken, noted, all_noted, using, entered}
use Rattle.source_check.specs.Steps.{named, operated, one_taken, cell, callee, part, call, give, bound, dropped, let_ends, end_let, first_arm}
use Rattle.source_check.specs.Steps.{second_arm, end_if, bounded, turned, until, left_turn, closed, end_loop, body, end_function, is_array}
use Rattle.source_check.specs.Steps.{shape_at, is_new, step, steps}
use Rattle.source_check.specs.Renamed.{renamed, moved}
use Rattle.source_check.proofs.Runs.{mapped}

-- The names of one are those of the other.
pub record Alike {N M : Type 0} (f : N → M) (t : Names N) (r : Names M) : Type 0 where
  pub same : (x y : N) → r.same (f x) (f y) ≡ t.same x y
  pub item : (x : N) → r.item (f x) ≡ t.item x

must_mapped : {S U : Type 0} (g : S → U) (b : Bool) (kind : FaultKind) (at : ℕ) (s : S) (u : U) → u ≡ g s
    → (must b kind at >>= λ x. Ok u) ≡ mapped g (must b kind at >>= λ x. Ok s)
must_mapped g true kind at s u e = ap Ok e
must_mapped g false kind at s u e = refl

must_first : {S U : Type 0} (g : S → U) (b : Bool) (kind : FaultKind) (at : ℕ) (s : Result S Fault) (u : Result U Fault) → u ≡ mapped g s
    → (must b kind at >>= λ x. u) ≡ mapped g (must b kind at >>= λ x. s)
must_first g true kind at s u e = e
must_first g false kind at s u e = refl

pub bind_mapped : {A S U : Type 0} (g : S → U) (q : Result A Fault) (k : A → Result S Fault) (h : A → Result U Fault) → ((x : A) → h x ≡ mapped g (k x))
    → (q >>= h) ≡ mapped g (q >>= k)
bind_mapped g (Ok x) k h e = e x
bind_mapped g (Err y) k h e = refl

stands_renamed : {N M : Type 0} (f : N → M) (t : Names N) (r : Names M) → Alike f t r → (x : N) (xs : List N) → stands r (f x) (map f xs) ≡ stands t x xs
stands_renamed f t r a x [] = refl
stands_renamed f t r a x (y ∷ ys) = rw (a.same x y, stands_renamed f t r a x ys) refl

since_renamed : {N M : Type 0} (f : N → M) (n : ℕ) (xs : List N) → since n (map f xs) ≡ map f (since n xs)
since_renamed f n xs = rw (length-map xs f) (take-map f (length xs - n) xs)

back_renamed : {N M : Type 0} (f : N → M) (n : ℕ) (xs : List N) → back n (map f xs) ≡ map f (back n xs)
back_renamed f n xs = rw (length-map xs f) (drop-map f (length xs - n) xs)

onto_renamed : {N M : Type 0} (f : N → M) (xs ys : List N) → onto (map f xs) (map f ys) ≡ map f (onto xs ys)
onto_renamed f [] ys = refl
onto_renamed f (x ∷ xs) ys = onto_renamed f xs (x ∷ ys)

noted_renamed : {N M : Type 0} (f : N → M) (t : Names N) (r : Names M) → Alike f t r → (inner : List N) (k : ℕ) (used : List N) (x : N)
    → noted r (map f inner) k (map f used) (f x) ≡ map f (noted t inner k used x)
noted_renamed f t r a inner k used x = rw (since_renamed f k used, stands_renamed f t r a x inner, stands_renamed f t r a x (since k used)) (go
    (stands t x inner || stands t x (since k used)))
  where
    go : (b : Bool) → (if b then map f used else f x ∷ map f used) ≡ map f (if b then used else x ∷ used)
    go true = refl
    go false = refl

all_noted_renamed : {N M : Type 0} (f : N → M) (t : Names N) (r : Names M) → Alike f t r → (inner : List N) (k : ℕ) (xs used : List N)
    → all_noted r (map f inner) k (map f used) (map f xs) ≡ map f (all_noted t inner k used xs)
all_noted_renamed f t r a inner k [] used = refl
all_noted_renamed f t r a inner k (x ∷ xs) used = ap (λ u. all_noted r (map f inner) k u (map f xs)) (noted_renamed f t r a inner k used x)
    ∙ all_noted_renamed f t r a inner k xs (noted t inner k used x)

using_renamed : {N M : Type 0} (f : N → M) (t : Names N) (r : Names M) → Alike f t r → (s : State N) (xs : List N)
    → using r (moved f s) (map f xs) ≡ moved f (using t s xs)
using_renamed f t r a s xs = rw (since_renamed f s.turn.base s.scope, all_noted_renamed f t r a (since s.turn.base s.scope) s.turn.start xs s.used) refl

entered_renamed : {N M : Type 0} (f : N → M) (s : State N) (start : ℕ) → entered (moved f s) start ≡ moved f (entered s start)
entered_renamed f s start = rw (since_renamed f start s.pending, back_renamed f start s.pending, onto_renamed f (since start s.pending) s.scope) refl

-- VALUES
named_renamed : {N M : Type 0} (f : N → M) (t : Names N) (r : Names M) → Alike f t r → (s : State N) (at : ℕ) (x : N)
    → named r (moved f s) at (f x) ≡ mapped (moved f) (named t s at x)
named_renamed f t r a s at x = rw (stands_renamed f t r a x s.scope) (must_mapped (moved f) (stands t x s.scope) NoSuchName at (ended (using t s
    (x ∷ [])) 1 at) _ (ap (λ z. ended z 1 at) (using_renamed f t r a s (x ∷ []))))

operated_renamed : {N M : Type 0} (f : N → M) (s : State N) (at : ℕ) → operated (moved f s) at ≡ mapped (moved f) (operated s at)
operated_renamed f s at = must_mapped (moved f) (s.last.count == 1) Arity s.last.at (ended s 1 at) _ refl

one_taken_renamed : {N M : Type 0} (f : N → M) (s : State N) → one_taken (moved f s) ≡ mapped (moved f) (one_taken s)
one_taken_renamed f s = must_mapped (moved f) (s.last.count == 1) Arity s.last.at (taken s) _ refl

cell_renamed : {N M : Type 0} (f : N → M) (t : Names N) (r : Names M) → Alike f t r → (s : State N) (at : ℕ) (x : N)
    → cell r (moved f s) at (f x) ≡ mapped (moved f) (cell t s at x)
cell_renamed f t r a s at x = rw (a.item x) (must_mapped (moved f) (is_array (t.item x)) NoSuchName at s _ refl)

callee_renamed : {N M : Type 0} (f : N → M) (t : Names N) (r : Names M) → Alike f t r → (s : State N) (at : ℕ) (x : N)
    → callee r (moved f s) at (f x) ≡ mapped (moved f) (callee t s at x)
callee_renamed f t r a s at x = rw (a.item x) (bind_mapped (moved f) (shape_at at (t.item x)) (λ known. Ok s) (λ known. Ok (moved f s)) (λ u. refl))

call_renamed : {N M : Type 0} (f : N → M) (t : Names N) (r : Names M) → Alike f t r → (s : State N) (at : ℕ) (x : N) (o : Option Frame)
    → call r (moved f s) at (f x) o ≡ mapped (moved f) (call t s at x o)
call_renamed f t r a s at x (Some (frame.List sum)) = rw (a.item x) (bind_mapped (moved f) (shape_at at (t.item x)) (λ shape. must
    (sum == shape.params) Arity at >>= λ all. Ok (ended s shape.results at)) (λ shape. must (sum == shape.params) Arity at >>= λ all. Ok (ended
    (moved f s) shape.results at)) (λ shape. must_mapped (moved f) (sum == shape.params) Arity at (ended s shape.results at) _ refl))
call_renamed f t r a s at x o = refl

part_renamed : {N M : Type 0} (f : N → M) (s : State N) (o : Option Frame) → part (moved f s) o ≡ mapped (moved f) (part s o)
part_renamed f s (Some (frame.List sum)) = refl
part_renamed f s o = refl

give_renamed : {N M : Type 0} (f : N → M) (s : State N) (o : Option Frame) → give (moved f s) o ≡ mapped (moved f) (give s o)
give_renamed f s (Some (frame.List sum)) = refl
give_renamed f s o = refl

-- NAMES
bound_renamed : {N M : Type 0} (f : N → M) (t : Names N) (r : Names M) → Alike f t r → (s : State N) (at : ℕ) (x : N) (o : Option Frame)
    → bound r (moved f s) at (f x) o ≡ mapped (moved f) (bound t s at x o)
bound_renamed f t r a s at x (Some (frame.Names start targets)) = rw (
  a.item x,
  since_renamed f start s.pending,
  stands_renamed f t r a x
      (since start s.pending),
) (must_mapped (moved f) (is_new t (since start s.pending) x) SameName at (pushed (record s { pending = x ∷ s.pending })
    (frame.Names start (targets + 1))) _ refl)
bound_renamed f t r a s at x o = refl

dropped_renamed : {N M : Type 0} (f : N → M) (s : State N) (o : Option Frame) → dropped (moved f s) o ≡ mapped (moved f) (dropped s o)
dropped_renamed f s (Some (frame.Names start targets)) = refl
dropped_renamed f s o = refl

let_ends_renamed : {N M : Type 0} (f : N → M) (s : State N) (at sum : ℕ) (o : Option Frame)
    → let_ends (moved f s) at sum o ≡ mapped (moved f) (let_ends s at sum o)
let_ends_renamed f s at sum (Some (frame.Names start targets)) = must_mapped (moved f) (sum == targets) Arity at (entered s start) _ (entered_renamed f s start)
let_ends_renamed f s at sum o = refl

end_let_renamed : {N M : Type 0} (f : N → M) (s : State N) (at : ℕ) (o : Option Frame) → end_let (moved f s) at o ≡ mapped (moved f) (end_let s at o)
end_let_renamed f s at (Some (frame.List sum)) = let_ends_renamed f (popped s) at sum (top s.frames)
end_let_renamed f s at o = refl

-- CONDITIONALS
first_arm_renamed : {N M : Type 0} (f : N → M) (s : State N) → first_arm (moved f s) ≡ mapped (moved f) (first_arm s)
first_arm_renamed f s = rw (length-map s.scope f) (must_mapped (moved f) (s.last.count == 1) Arity s.last.at (pushed (taken s) (frame.First
    (length s.scope))) _ refl)

second_arm_renamed : {N M : Type 0} (f : N → M) (s : State N) (o : Option Frame) → second_arm (moved f s) o ≡ mapped (moved f) (second_arm s o)
second_arm_renamed f s (Some (frame.First mark)) = rw (back_renamed f mark s.scope) refl
second_arm_renamed f s o = refl

end_if_renamed : {N M : Type 0} (f : N → M) (s : State N) (at : ℕ) (o : Option Frame) → end_if (moved f s) at o ≡ mapped (moved f) (end_if s at o)
end_if_renamed f s at (Some (frame.Second mark left)) = rw (back_renamed f mark s.scope) (must_mapped (moved f) (left == s.last.count) Arity at (ended
    (record s { scope = back mark s.scope }) left at) _ refl)
end_if_renamed f s at o = refl

-- LOOPS
bounded_renamed : {N M : Type 0} (f : N → M) (s : State N) (at n : ℕ) → bounded (moved f s) at n ≡ mapped (moved f) (bounded s at n)
bounded_renamed f s at n = rw (length-map s.pending f) (must_mapped (moved f) (nat_le 2 n && nat_le n 64) BadBound at (pushed s (frame.Names
    (length s.pending) 0)) _ refl)

turned_renamed : {N M : Type 0} (f : N → M) (s : State N) (o : Option Frame) → turned (moved f s) o ≡ mapped (moved f) (turned s o)
turned_renamed f s (Some (frame.Names start targets)) =
    rw (
      since_renamed f start s.pending,
      back_renamed f start s.pending,
      onto_renamed f (since start s.pending) s.scope,
      length-map (onto
          (since start s.pending) s.scope) f,
      length-map s.scope f,
      length-map s.used f,
    ) refl
turned_renamed f s o = refl

until_renamed : {N M : Type 0} (f : N → M) (s : State N) (o : Option Frame) → until (moved f s) o ≡ mapped (moved f) (until s o)
until_renamed f s (Some (frame.Open outer names mark)) = rw (back_renamed f mark s.scope) refl
until_renamed f s o = refl

left_turn_renamed : {N M : Type 0} (f : N → M) (t : Names N) (r : Names M) → Alike f t r → (s : State N) (outer : Turn)
    → left_turn r (moved f s) outer ≡ moved f (left_turn t s outer)
left_turn_renamed f t r a s outer = rw (
  back_renamed f s.turn.base s.scope,
  back_renamed f s.turn.start s.used,
  since_renamed f s.turn.start s.used,
  onto_renamed f (since s.turn.start s.used) [],
)
    (using_renamed f t r a (record s { scope = back s.turn.base s.scope; used = back s.turn.start s.used; turn = outer }) (onto (since s.turn.start s.used) []))

length_since : {N M : Type 0} (f : N → M) (n : ℕ) (xs : List N) → length (since n (map f xs)) ≡ length (since n xs)
length_since f n xs = ap length (since_renamed f n xs) ∙ length-map (since n xs) f

closed_renamed : {N M : Type 0} (f : N → M) (t : Names N) (r : Names M) → Alike f t r → (s : State N) (at : ℕ) (outer : Turn) (names given : ℕ)
    → closed r (moved f s) at outer names given ≡ mapped (moved f) (closed t s at outer names given)
closed_renamed f t r a s at outer names given = rw (length_since f s.turn.start s.used)
    (must_first (moved f) (given == names) Arity at (must (nat_le (names + length (since s.turn.start s.used)) 15) TooWide at >>= λ narrow. Ok (ended
    (left_turn t s outer) given at)) _
    (must_mapped (moved f) (nat_le (names + length (since s.turn.start s.used)) 15) TooWide at (ended (left_turn t s outer) given at) _
    (ap (λ z. ended z given at) (left_turn_renamed f t r a s outer))))

end_loop_renamed : {N M : Type 0} (f : N → M) (t : Names N) (r : Names M) → Alike f t r → (s : State N) (at : ℕ) (o : Option Frame)
    → end_loop r (moved f s) at o ≡ mapped (moved f) (end_loop t s at o)
end_loop_renamed f t r a s at (Some (frame.Open outer names mark)) = closed_renamed f t r a s at outer names s.last.count
end_loop_renamed f t r a s at (Some (frame.Tested outer names given)) = must_first (moved f) (s.last.count == 1) Arity s.last.at
    (closed t s at outer names given) _ (closed_renamed f t r a s at outer names given)
end_loop_renamed f t r a s at o = refl

-- FUNCTIONS
body_renamed : {N M : Type 0} (f : N → M) (s : State N) (at : ℕ) (o : Option Frame) → body (moved f s) at o ≡ mapped (moved f) (body s at o)
body_renamed f s at (Some (frame.Names start targets)) = ap (λ z. Ok (pushed z (frame.Body s.last.count at))) (entered_renamed f s start)
body_renamed f s at o = refl

end_function_renamed : {N M : Type 0} (f : N → M) (s : State N) (o : Option Frame) → end_function (moved f s) o ≡ mapped (moved f) (end_function s o)
end_function_renamed f s (Some (frame.Body results at)) = must_mapped (moved f) (s.last.count == results) Arity at (taken
    (record s { scope = []; used = [] })) _ refl
end_function_renamed f s o = refl

-- ALL STEPS
pub step_renamed : {N M : Type 0} (f : N → M) (t : Names N) (r : Names M) → Alike f t r → (s : State N) (w : Word N)
    → step r (moved f s) (renamed f w) ≡ mapped (moved f) (step t s w)
step_renamed f t r a s (word.Array at x) = refl
step_renamed f t r a s (word.Length at n) = refl
step_renamed f t r a s (word.Function at x) = ap (λ n. Ok (pushed (ended (moved f s) 1 at) (frame.Names n 0))) (length-map s.pending f)
step_renamed f t r a s (word.Parameter at x) = bound_renamed f t r a (popped s) at x (top s.frames)
step_renamed f t r a s (word.Results at n) = refl
step_renamed f t r a s (word.Body at) = body_renamed f (popped s) at (top s.frames)
step_renamed f t r a s word.EndFunction = end_function_renamed f (popped s) (top s.frames)
step_renamed f t r a s (word.Number at n) = refl
step_renamed f t r a s (word.Name at x) = named_renamed f t r a s at x
step_renamed f t r a s word.Bracket = refl
step_renamed f t r a s (word.Prefix at op) = operated_renamed f s at
step_renamed f t r a s word.Left = one_taken_renamed f s
step_renamed f t r a s (word.Infix at sign) = operated_renamed f s at
step_renamed f t r a s (word.Cell at x) = cell_renamed f t r a s at x
step_renamed f t r a s (word.Fetch at x) = operated_renamed f s at
step_renamed f t r a s word.Index = one_taken_renamed f s
step_renamed f t r a s (word.Store at x) = operated_renamed f s at
step_renamed f t r a s (word.Callee at x) = callee_renamed f t r a s at x
step_renamed f t r a s (word.Call at strict x) = call_renamed f t r a (popped s) at x (top s.frames)
step_renamed f t r a s word.Then = first_arm_renamed f s
step_renamed f t r a s word.Else = second_arm_renamed f (popped s) (top s.frames)
step_renamed f t r a s (word.EndIf at) = end_if_renamed f (popped s) at (top s.frames)
step_renamed f t r a s (word.Loop at) = refl
step_renamed f t r a s (word.Bound at n) = bounded_renamed f s at n
step_renamed f t r a s (word.Start at x) = bound_renamed f t r a (popped s) at x (top s.frames)
step_renamed f t r a s word.First = one_taken_renamed f s
step_renamed f t r a s word.TestFirst = turned_renamed f (popped s) (top s.frames)
step_renamed f t r a s word.While = one_taken_renamed f s
step_renamed f t r a s word.BodyFirst = turned_renamed f (popped s) (top s.frames)
step_renamed f t r a s word.Until = until_renamed f (popped s) (top s.frames)
step_renamed f t r a s (word.EndLoop at n) = end_loop_renamed f t r a (popped s) at (top s.frames)
step_renamed f t r a s word.List = refl
step_renamed f t r a s word.Part = part_renamed f (popped s) (top s.frames)
step_renamed f t r a s (word.Let at) = ap (λ n. Ok (pushed (moved f s) (frame.Names n 0))) (length-map s.pending f)
step_renamed f t r a s (word.Bind at x) = bound_renamed f t r a (popped s) at x (top s.frames)
step_renamed f t r a s word.Drop = dropped_renamed f (popped s) (top s.frames)
step_renamed f t r a s (word.EndLet at) = end_let_renamed f (popped s) at (top s.frames)
step_renamed f t r a s word.Do = refl
step_renamed f t r a s word.Give = give_renamed f (popped s) (top s.frames)
step_renamed f t r a s word.Chain = refl

pub steps_renamed : {N M : Type 0} (f : N → M) (t : Names N) (r : Names M) → Alike f t r → (ws : List (Word N)) (s : State N)
    → steps r (moved f s) (map (renamed f) ws) ≡ mapped (moved f) (steps t s ws)
steps_renamed f t r a [] s = refl
steps_renamed f t r a (w ∷ ws) s = rw (step_renamed f t r a s w) (go (step t s w) (steps_renamed f t r a ws))
  where
    go : (q : Result (State _) Fault) → ((z : State _) → steps r (moved f z) (map (renamed f) ws) ≡ mapped (moved f) (steps t z ws))
        → (mapped (moved f) q >>= λ z. steps r z (map (renamed f) ws)) ≡ mapped (moved f) (q >>= λ z. steps t z ws)
    go (Ok z) h = h z
    go (Err e) h = refl
