-- THE STATIC RULES, WORD BY WORD. The words of functions are gone over once, each by a step. What is open is in a list
-- of frames, the innermost first.
use Rattle.std.specs.Prelude.{ℕ, ◌+◌, ◌-◌, ◌==◌, ◌&&◌, ◌||◌, not, nat_le, Bool, true, false, List, [], ◌∷◌, length, take, drop, is_some, Option}
use Rattle.std.specs.Prelude.{None, Some, Result, Ok, ⊤, if◌then◌else◌}
use Rattle.std.specs.List.{list_any}
use Rattle.source.specs.declared.fault.Fault.{Fault}
use Rattle.source.specs.declared.fault.FaultKind.TheVariants.{SameName, NoSuchName, Arity, BadBound, TooWide}
use Rattle.source.specs.declared.word.Word.{Word}
use Rattle.source.specs.declared.word.Word.TheVariants as word
use Rattle.source.specs.First.{◌>>=◌, refused, must}
use Rattle.source_check.specs.Heads.{through}
use Rattle.source_check.specs.declared.frame.Entry.{Entry}
use Rattle.source_check.specs.declared.frame.Entry.TheVariants as entry
use Rattle.source_check.specs.declared.frame.Values.{Values}
use Rattle.source_check.specs.declared.frame.Turn.{Turn}
use Rattle.source_check.specs.declared.frame.Frame.{Frame}
use Rattle.source_check.specs.declared.frame.Frame.TheVariants as frame

-- when two names are one, and the items that names stand for
pub record Names (N : Type 0) : Type 0 where
  pub same : N → N → Bool
  pub item : N → Option Entry

-- The stacks have the last name first.
pub record State (N : Type 0) : Type 0 where
  -- the local names in scope
  pub scope : List N
  -- names of lists that are not in scope yet
  pub pending : List N
  -- the outside names of the open turns, each once in a turn
  pub used : List N
  pub turn : Turn
  pub frames : List Frame
  pub last : Values

abbrev pub begun : {N : Type 0} → State N
begun = record { scope = []; pending = []; used = []; turn = record { base = 0; start = 0 }; frames = []; last = record { count = 0; at = 0 } }

-- STACKS
-- what is after the first n
abbrev pub since : {N : Type 0} → ℕ → List N → List N
since n xs = take (length xs - n) xs

-- the first n
abbrev pub back : {N : Type 0} → ℕ → List N → List N
back n xs = drop (length xs - n) xs

-- one after another onto a stack
abbrev pub onto : {N : Type 0} → List N → List N → List N
onto [] ys = ys
onto (x ∷ xs) ys = onto xs (x ∷ ys)

abbrev pub stands : {N : Type 0} → Names N → N → List N → Bool
stands t x xs = list_any (t.same x) xs

abbrev pub top : List Frame → Option Frame
top [] = None
top (f ∷ fs) = Some f

abbrev pub popped : {N : Type 0} → State N → State N
popped s = record s { frames = drop 1 s.frames }

abbrev pub pushed : {N : Type 0} → State N → Frame → State N
pushed s f = record s { frames = f ∷ s.frames }

-- a part ends that has n values and is at that place
abbrev pub ended : {N : Type 0} → State N → ℕ → ℕ → State N
ended s n at = record s { last = record { count = n; at = at } }

-- the values of the last part are taken
abbrev pub taken : {N : Type 0} → State N → State N
taken s = ended s 0 0

-- the last part must have one value
abbrev pub single : Values → Result ⊤ Fault
single last = must (last.count == 1) Arity last.at

-- OUTSIDE NAMES
-- A name is used in a turn. `inner` are the names that the turn binds, `start` is where its outside names begin.
abbrev pub noted : {N : Type 0} → Names N → List N → ℕ → List N → N → List N
noted t inner start used x = if stands t x inner || stands t x (since start used) then used else x ∷ used

abbrev pub all_noted : {N : Type 0} → Names N → List N → ℕ → List N → List N → List N
all_noted t inner start used [] = used
all_noted t inner start used (x ∷ xs) = all_noted t inner start (noted t inner start used x) xs

abbrev pub using : {N : Type 0} → Names N → State N → List N → State N
using t s xs = record s { used = all_noted t (since s.turn.base s.scope) s.turn.start s.used xs }

-- VALUES
abbrev pub named : {N : Type 0} → Names N → State N → ℕ → N → Result (State N) Fault
named t s at x = do
  known ← must (stands t x s.scope) NoSuchName at
  Ok (ended (using t s (x ∷ [])) 1 at)

abbrev pub operated : {N : Type 0} → State N → ℕ → Result (State N) Fault
operated s at = do
  one ← single s.last
  Ok (ended s 1 at)

abbrev pub one_taken : {N : Type 0} → State N → Result (State N) Fault
one_taken s = do
  one ← single s.last
  Ok (taken s)

abbrev pub is_array : Option Entry → Bool
is_array (Some entry.Array) = true
is_array (Some (entry.Function params results)) = false
is_array None = false

abbrev pub cell : {N : Type 0} → Names N → State N → ℕ → N → Result (State N) Fault
cell t s at a = do
  known ← must (is_array (t.item a)) NoSuchName at
  Ok s

-- a function's numbers of parameters and results
pub record Shape : Type 0 where
  pub params : ℕ
  pub results : ℕ

abbrev pub shape_at : ℕ → Option Entry → Result Shape Fault
shape_at at (Some (entry.Function params results)) = Ok record { params = params; results = results }
shape_at at (Some entry.Array) = refused NoSuchName at
shape_at at None = refused NoSuchName at

abbrev pub callee : {N : Type 0} → Names N → State N → ℕ → N → Result (State N) Fault
callee t s at f = do
  known ← shape_at at (t.item f)
  Ok s

abbrev pub part : {N : Type 0} → State N → Option Frame → Result (State N) Fault
part s (Some (frame.List sum)) = Ok (pushed (taken s) (frame.List (sum + s.last.count)))
part s other = Ok s

abbrev pub call : {N : Type 0} → Names N → State N → ℕ → N → Option Frame → Result (State N) Fault
call t s at f (Some (frame.List sum)) = do
  shape ← shape_at at (t.item f)
  all ← must (sum == shape.params) Arity at
  Ok (ended s shape.results at)
call t s at f other = Ok s

abbrev pub give : {N : Type 0} → State N → Option Frame → Result (State N) Fault
give s (Some (frame.List sum)) = Ok (ended s sum 0)
give s other = Ok s

-- NAMES of a list. Each is new: no item's, and none that is before in the list.
abbrev pub is_new : {N : Type 0} → Names N → List N → N → Bool
is_new t before x = not (is_some (t.item x)) && not (stands t x before)

abbrev pub bound : {N : Type 0} → Names N → State N → ℕ → N → Option Frame → Result (State N) Fault
bound t s at x (Some (frame.Names start targets)) = do
  new ← must (is_new t (since start s.pending) x) SameName at
  Ok (pushed (record s { pending = x ∷ s.pending }) (frame.Names start (targets + 1)))
bound t s at x other = Ok s

abbrev pub dropped : {N : Type 0} → State N → Option Frame → Result (State N) Fault
dropped s (Some (frame.Names start targets)) = Ok (pushed s (frame.Names start (targets + 1)))
dropped s other = Ok s

-- the pending names from `start` on enter the scope
abbrev pub entered : {N : Type 0} → State N → ℕ → State N
entered s start = record s { scope = onto (since start s.pending) s.scope; pending = back start s.pending }

abbrev pub let_ends : {N : Type 0} → State N → ℕ → ℕ → Option Frame → Result (State N) Fault
let_ends s at sum (Some (frame.Names start targets)) = do
  all ← must (sum == targets) Arity at
  Ok (entered s start)
let_ends s at sum other = Ok s

abbrev pub end_let : {N : Type 0} → State N → ℕ → Option Frame → Result (State N) Fault
end_let s at (Some (frame.List sum)) = let_ends (popped s) at sum (top s.frames)
end_let s at other = Ok s

-- CONDITIONALS
abbrev pub first_arm : {N : Type 0} → State N → Result (State N) Fault
first_arm s = do
  one ← single s.last
  Ok (pushed (taken s) (frame.First (length s.scope)))

abbrev pub second_arm : {N : Type 0} → State N → Option Frame → Result (State N) Fault
second_arm s (Some (frame.First mark)) = Ok (pushed (taken (record s { scope = back mark s.scope })) (frame.Second mark s.last.count))
second_arm s other = Ok s

abbrev pub end_if : {N : Type 0} → State N → ℕ → Option Frame → Result (State N) Fault
end_if s at (Some (frame.Second mark left)) = do
  same ← must (left == s.last.count) Arity at
  Ok (ended (record s { scope = back mark s.scope }) left at)
end_if s at other = Ok s

-- LOOPS
abbrev pub bounded : {N : Type 0} → State N → ℕ → ℕ → Result (State N) Fault
bounded s at n = do
  fits ← must (nat_le 2 n && nat_le n 64) BadBound at
  Ok (pushed s (frame.Names (length s.pending) 0))

abbrev pub turned : {N : Type 0} → State N → Option Frame → Result (State N) Fault
turned s (Some (frame.Names start targets)) =
    let inside = entered s start in
    Ok (pushed (record inside { turn = record { base = length s.scope; start = length s.used } }) (frame.Open s.turn targets (length inside.scope)))
turned s other = Ok s

abbrev pub until : {N : Type 0} → State N → Option Frame → Result (State N) Fault
until s (Some (frame.Open outer names mark)) = Ok (pushed (taken (record s { scope = back mark s.scope })) (frame.Tested outer names s.last.count))
until s other = Ok s

-- The turn is left, and what it takes from outside is used in the turn around it.
abbrev pub left_turn : {N : Type 0} → Names N → State N → Turn → State N
left_turn t s outer = using t (record s { scope = back s.turn.base s.scope; used = back s.turn.start s.used; turn = outer }) (onto
    (since s.turn.start s.used) [])

abbrev pub closed : {N : Type 0} → Names N → State N → ℕ → Turn → ℕ → ℕ → Result (State N) Fault
closed t s at outer names given = do
  all ← must (given == names) Arity at
  narrow ← must (nat_le (names + length (since s.turn.start s.used)) 15) TooWide at
  Ok (ended (left_turn t s outer) given at)

abbrev pub end_loop : {N : Type 0} → Names N → State N → ℕ → Option Frame → Result (State N) Fault
end_loop t s at (Some (frame.Open outer names mark)) = closed t s at outer names s.last.count
end_loop t s at (Some (frame.Tested outer names given)) = do
  one ← single s.last
  closed t s at outer names given
end_loop t s at other = Ok s

-- FUNCTIONS. Their parameters are pending until the body begins, and the last part is the number of results until then.
abbrev pub function : {N : Type 0} → State N → ℕ → State N
function s at = ended (pushed s (frame.Names (length s.pending) 0)) 1 at

abbrev pub body : {N : Type 0} → State N → ℕ → Option Frame → Result (State N) Fault
body s at (Some (frame.Names start targets)) = Ok (pushed (entered s start) (frame.Body s.last.count at))
body s at other = Ok s

abbrev pub end_function : {N : Type 0} → State N → Option Frame → Result (State N) Fault
end_function s (Some (frame.Body results at)) = do
  all ← must (s.last.count == results) Arity at
  Ok (taken (record s { scope = []; used = [] }))
end_function s other = Ok s

-- ONE WORD
abbrev pub step : {N : Type 0} → Names N → State N → Word N → Result (State N) Fault
step t s (word.Array at x) = Ok s
step t s (word.Length at n) = Ok s
step t s (word.Function at x) = Ok (function s at)
step t s (word.Parameter at x) = bound t (popped s) at x (top s.frames)
step t s (word.Results at n) = Ok (ended s n at)
step t s (word.Body at) = body (popped s) at (top s.frames)
step t s word.EndFunction = end_function (popped s) (top s.frames)
step t s (word.Number at n) = Ok (ended s 1 at)
step t s (word.Name at x) = named t s at x
step t s word.Bracket = Ok s
step t s (word.Prefix at op) = operated s at
step t s word.Left = one_taken s
step t s (word.Infix at sign) = operated s at
step t s (word.Cell at a) = cell t s at a
step t s (word.Fetch at a) = operated s at
step t s word.Index = one_taken s
step t s (word.Store at a) = operated s at
step t s (word.Callee at f) = callee t s at f
step t s (word.Call at strict f) = call t (popped s) at f (top s.frames)
step t s word.Then = first_arm s
step t s word.Else = second_arm (popped s) (top s.frames)
step t s (word.EndIf at) = end_if (popped s) at (top s.frames)
step t s (word.Loop at) = Ok s
step t s (word.Bound at n) = bounded s at n
step t s (word.Start at x) = bound t (popped s) at x (top s.frames)
step t s word.First = one_taken s
step t s word.TestFirst = turned (popped s) (top s.frames)
step t s word.While = one_taken s
step t s word.BodyFirst = turned (popped s) (top s.frames)
step t s word.Until = until (popped s) (top s.frames)
step t s (word.EndLoop at n) = end_loop t (popped s) at (top s.frames)
step t s word.List = Ok (pushed s (frame.List 0))
step t s word.Part = part (popped s) (top s.frames)
step t s (word.Let at) = Ok (pushed s (frame.Names (length s.pending) 0))
step t s (word.Bind at x) = bound t (popped s) at x (top s.frames)
step t s word.Drop = dropped (popped s) (top s.frames)
step t s (word.EndLet at) = end_let (popped s) at (top s.frames)
step t s word.Do = Ok (popped s)
step t s word.Give = give (popped s) (top s.frames)
step t s word.Chain = Ok (ended s s.last.count 0)

-- ALL WORDS
abbrev pub steps : {N : Type 0} → Names N → State N → List (Word N) → Result (State N) Fault
steps t s ws = through (step t) s ws
