-- THE STATIC RULES OF BODIES, WORD BY WORD. The words of all items are gone over once, each by a step that may look at those
-- after it. What is open is in a list of frames, the innermost first. Arrays and constants are passed over.
use Rattle.std.specs.Prelude.{ℕ, zero, suc, ◌+◌, ◌-◌, ◌==◌, ◌&&◌, ◌||◌, not, nat_le, Bool, true, false, ℤ, pos, int_le, int_lt, List, [], ◌∷◌}
use Rattle.std.specs.Prelude.{◌++◌, length, take, drop, replicate, is_some, Option, None, Some, Result, Ok, ⊤, if◌then◌else◌}
use Rattle.std.specs.List.{list_any}
use Rattle.operators.specs.declared.Unary.{Unary}
use Rattle.operators.specs.declared.Unary.TheVariants as unary
use Rattle.source.specs.declared.fault.FaultKind.TheVariants.{SameName, NoSuchName, Arity, BadBound, BadCount, TooWide}
use Rattle.source.specs.declared.word.Word.{Word as CoreWord}
use Rattle.source.specs.declared.word.Word.TheVariants as core_word
use Rattle.surface.specs.declared.fault.Fault.{Fault}
use Rattle.surface.specs.declared.fault.FaultKind.TheVariants.{Core}
use Rattle.surface.specs.declared.word.Word.{Word}
use Rattle.surface.specs.declared.word.Word.TheVariants as word
use Rattle.surface.specs.First.{◌>>=◌, refused, must_be}
use Rattle.surface.specs.Known.{Callee, Missing, OfValues, OfArrays, IsBuiltIn, Min, Max, Abs, Len, Signature}
use Rattle.surface.specs.Constants.{number_or_zero}
use Rattle.surface.specs.Rules.{rank_in, same_ranks, one_if}
use Rattle.source_check.specs.Steps.{since, back, onto}
use Rattle.surface_check.specs.declared.entry.Entry.{Entry}
use Rattle.surface_check.specs.declared.entry.Entry.TheVariants as entry
use Rattle.surface_check.specs.declared.evaluation.Part.{Part}
use Rattle.surface_check.specs.declared.frame.Kind.{Kind}
use Rattle.surface_check.specs.declared.frame.Kind.TheVariants as kind
use Rattle.surface_check.specs.declared.frame.Last.{Last}
use Rattle.surface_check.specs.declared.frame.Turn.{Turn}
use Rattle.surface_check.specs.declared.frame.Frame.{Frame}
use Rattle.surface_check.specs.declared.frame.Frame.TheVariants as frame
use Rattle.surface_check.specs.Evaluates.{Evaluation, fresh, evaluates, constants, constant_of, strict_ahead}
use Rattle.surface_check.specs.Heads.{Names, ends_item}
use Rattle.surface_check.specs.Pins.{array_in, signature_in, callee_in}

-- what the items' names stand for
pub record Items (N : Type 0) : Type 0 where
  pub item : N → Option Entry
  pub ranks : List ℕ

-- What is open in a function. The stacks have the last name first.
pub record Open (N : Type 0) : Type 0 where
  -- the local names in scope
  pub scope : List N
  -- names of lists that are not in scope yet
  pub pending : List N
  -- the outside names of the open turns, each once in a turn
  pub used : List N
  -- the parameters that stand for arrays, with their dimensions
  pub arrays : List (N × ℕ)
  -- the ranks of arguments, in the order of the text
  pub found : List ℕ
  -- the numbers at which the open `for` loops stop, the innermost first
  pub ends : List (Kind N)
  pub turn : Turn
  pub frames : List Frame
  pub last : Last N

-- A word is checked, or begins the list of a call's arguments of which some may be arrays; or the words of `len`, or of an
-- item without a body, are gone over.
pub data State (N : Type 0) : Type 0 where
  Plain : (open_now : Open N) → State N
  Passing : (open_now : Open N) (start : ℕ) → State N
  Measuring : (open_now : Open N) (at rank : ℕ) (evaluation : Evaluation) → State N
  Skipping : (open_now : Open N) → State N

abbrev pub begun : {N : Type 0} → Open N
begun = record {
  scope = [];
  pending = [];
  used = [];
  arrays = [];
  found = [];
  ends = [];
  turn = record { base = 0; start = 0 };
  frames = [];
  last = record { count = 0; at = 0; kind = kind.Other };
}

-- STACKS
abbrev pub stands : {N : Type 0} → Names N → N → List N → Bool
stands t x xs = list_any (t.same x) xs

abbrev pub lookup_by : {N : Type 0} → Names N → List (N × ℕ) → N → Option ℕ
lookup_by t [] x = None
lookup_by t (e ∷ entries) x = if t.same x e.0 then Some e.1 else lookup_by t entries x

abbrev pub top : List Frame → Option Frame
top [] = None
top (f ∷ fs) = Some f

abbrev pub popped : {N : Type 0} → Open N → Open N
popped s = record s { frames = drop 1 s.frames }

abbrev pub pushed : {N : Type 0} → Open N → Frame → Open N
pushed s f = record s { frames = f ∷ s.frames }

-- a part ends that has n values, is at that place, and is of that kind
abbrev pub ended : {N : Type 0} → Open N → ℕ → ℕ → Kind N → Open N
ended s n at k = record s { last = record { count = n; at = at; kind = k } }

-- the values of the last part are taken
abbrev pub taken : {N : Type 0} → Open N → Open N
taken s = ended s 0 0 kind.Other

-- the last part must have one value
abbrev pub single : {N : Type 0} → Last N → Result ⊤ Fault
single last = must_be (last.count == 1) Arity last.at

-- a step that goes on
abbrev pub plain : {N : Type 0} → Open N → Result (State N) Fault
plain s = Ok (Plain s)

-- NAMES
-- the dimensions of an array, or of a parameter that stands for one
abbrev pub rank_at : {N : Type 0} → Names N → Items N → Open N → N → Option ℕ
rank_at t k s x = rank_in (lookup_by t s.arrays x) (array_in (k.item x))

abbrev pub is_constant_entry : Option Entry → Bool
is_constant_entry (Some (entry.Constant z)) = true
is_constant_entry o = false

-- whether the name stands for no value: it is that of an item or of an array
abbrev pub no_value : {N : Type 0} → Names N → Items N → Open N → N → Bool
no_value t k s x = is_some (k.item x) || is_some (lookup_by t s.arrays x)

-- Names of values are used in a turn. `inner` are the names that the turn binds, `start` is where its outside names begin.
abbrev pub noted : {N : Type 0} → Names N → (N → Bool) → List N → ℕ → List N → N → List N
noted t hidden inner start used x = if (stands t x inner || hidden x) || stands t x (since start used) then used else x ∷ used

abbrev pub all_noted : {N : Type 0} → Names N → (N → Bool) → List N → ℕ → List N → List N → List N
all_noted t hidden inner start used [] = used
all_noted t hidden inner start used (x ∷ xs) = all_noted t hidden inner start (noted t hidden inner start used x) xs

abbrev pub using : {N : Type 0} → Names N → Items N → Open N → List N → Open N
using t k s xs = record s { used = all_noted t (no_value t k s) (since s.turn.base s.scope) s.turn.start s.used xs }

-- VALUES
abbrev pub named : {N : Type 0} → Names N → Items N → Open N → ℕ → N → Bool → Result (State N) Fault
named t k s at x constant = do
  known ← must_be (constant || stands t x s.scope) NoSuchName at
  plain (ended (using t k s (x ∷ [])) 1 at (if constant then kind.Constant else kind.Variable x))

-- a name that is all of an argument, where arrays may be passed, stands for an array if it is that of one
abbrev pub argument : {N : Type 0} → Names N → Items N → Open N → ℕ → N → Option ℕ → Result (State N) Fault
argument t k s at x (Some rank) = plain (ended (record s { found = s.found ++ rank ∷ [] }) 0 at kind.Other)
argument t k s at x None = named t k s at x (is_constant_entry (k.item x))

abbrev pub core_is_part : {N : Type 0} → CoreWord N → Bool
core_is_part core_word.Part = true
core_is_part w = false

abbrev pub is_part : {N : Type 0} → Word N → Bool
is_part (word.Core w) = core_is_part w
is_part w = false

abbrev pub part_next : {N : Type 0} → List (Word N) → Bool
part_next [] = false
part_next (w ∷ ws) = is_part w

abbrev pub passes : Option Frame → Bool
passes (Some (frame.Passes start)) = true
passes o = false

abbrev pub name_read : {N : Type 0} → Names N → Items N → Open N → ℕ → N → List (Word N) → Result (State N) Fault
name_read t k s at x later = if part_next later && passes (top s.frames) then argument t k s at x (rank_at t k s x) else named t k s at x (is_constant_entry
    (k.item x))

-- what is in brackets is no name, and a number there is one of a constant
abbrev pub bracketed : {N : Type 0} → Kind N → Kind N
bracketed kind.Written = kind.Constant
bracketed kind.Constant = kind.Constant
bracketed k = kind.Other

abbrev pub prefixed : {N : Type 0} → Unary → Kind N → Kind N
prefixed unary.Neg kind.Written = kind.Constant
prefixed op k = kind.Other

abbrev pub in_brackets : {N : Type 0} → Open N → Open N
in_brackets s = ended s s.last.count s.last.at (bracketed s.last.kind)

abbrev pub operated : {N : Type 0} → Open N → ℕ → Kind N → Result (State N) Fault
operated s at k = do
  one ← single s.last
  plain (ended s 1 at k)

abbrev pub one_taken : {N : Type 0} → Open N → Result (State N) Fault
one_taken s = do
  one ← single s.last
  plain (taken s)

-- ARRAYS
abbrev pub cell : {N : Type 0} → Open N → ℕ → Option ℕ → Result (State N) Fault
cell s at (Some rank) = plain (pushed s (frame.Indexes at rank 0))
cell s at None = refused (Core NoSuchName) at

abbrev pub next_index : {N : Type 0} → Open N → Option Frame → Result (State N) Fault
next_index s (Some (frame.Indexes at rank count)) = do
  one ← single s.last
  plain (pushed (taken s) (frame.Indexes at rank (count + 1)))
next_index s other = plain s

-- the last index ends
abbrev pub indexed : {N : Type 0} → Open N → Option Frame → Open N → Result (State N) Fault
indexed s (Some (frame.Indexes at rank count)) after = do
  one ← single s.last
  all ← must_be (count + 1 == rank) Arity at
  plain after
indexed s other after = plain s

-- CALLS
abbrev pub measures : {N : Type 0} → Open N → ℕ → ℕ → Option ℕ → Result (State N) Fault
measures s at name_at (Some rank) = Ok (Measuring s at rank (fresh 0))
measures s at name_at None = refused (Core NoSuchName) name_at

-- the name that is all of the first argument
pub record NamePart (N : Type 0) : Type 0 where
  pub at : ℕ
  pub name : N

abbrev pub core_name : {N : Type 0} → CoreWord N → Bool → Option (NamePart N)
core_name (core_word.Name at x) true = Some (record { at = at; name = x })
core_name w part = None

abbrev pub word_name : {N : Type 0} → Word N → Bool → Option (NamePart N)
word_name (word.Core w) part = core_name w part
word_name w part = None

abbrev pub name_part : {N : Type 0} → List (Word N) → Option (NamePart N)
name_part [] = None
name_part (w ∷ ws) = word_name w (part_next ws)

abbrev pub measured_from : {N : Type 0} → Names N → Items N → Open N → ℕ → Option (NamePart N) → Result (State N) Fault
measured_from t k s at (Some p) = measures s at p.at (rank_at t k s p.name)
measured_from t k s at None = refused (Core Arity) at

abbrev pub calls_built_in : {N : Type 0} → Names N → Items N → Open N → ℕ → Callee → List (Word N) → Result (State N) Fault
calls_built_in t k s at (IsBuiltIn Len) later = measured_from t k s at (name_part (drop 1 later))
calls_built_in t k s at (IsBuiltIn Abs) later = plain (pushed s (frame.Takes 1 1))
calls_built_in t k s at (IsBuiltIn Min) later = plain (pushed s (frame.Takes 2 1))
calls_built_in t k s at (IsBuiltIn Max) later = plain (pushed s (frame.Takes 2 1))
calls_built_in t k s at (OfValues params results) later = plain (pushed s (frame.Takes params results))
calls_built_in t k s at (OfArrays ranks results) later = Ok (Passing s (length s.found))
calls_built_in t k s at Missing later = refused (Core NoSuchName) at

abbrev pub callee_at : {N : Type 0} → Names N → Items N → Bool → N → Callee
callee_at t k strict f = callee_in strict (t.built_in f) (signature_in k.ranks (k.item f))

abbrev pub begins_call : {N : Type 0} → Names N → Items N → Open N → ℕ → N → List (Word N) → Result (State N) Fault
begins_call t k s at f later = calls_built_in t k s at (callee_at t k (strict_ahead later 0) f) later

abbrev pub part : {N : Type 0} → Open N → Option Frame → Result (State N) Fault
part s (Some (frame.List sum)) = plain (pushed (taken s) (frame.List (sum + s.last.count)))
part s (Some (frame.Passes start)) = plain (pushed (taken (record s { found = s.found ++ replicate s.last.count 0 })) (frame.Passes start))
part s other = plain s

abbrev pub passed : {N : Type 0} → Open N → ℕ → ℕ → Option Signature → Result (State N) Fault
passed s at start (Some g) = do
  all ← must_be (same_ranks (drop start s.found) g.ranks) Arity at
  plain (ended (record s { found = take start s.found }) g.results at kind.Other)
passed s at start None = plain s

abbrev pub takes : {N : Type 0} → Open N → ℕ → ℕ → Option Frame → Result (State N) Fault
takes s at sum (Some (frame.Takes params results)) = do
  all ← must_be (sum == params) Arity at
  plain (ended s results at kind.Other)
takes s at sum other = plain s

abbrev pub call : {N : Type 0} → Items N → Open N → ℕ → N → Option Frame → Result (State N) Fault
call k s at f (Some (frame.List sum)) = takes (popped s) at sum (top s.frames)
call k s at f (Some (frame.Passes start)) = passed s at start (signature_in k.ranks (k.item f))
call k s at f other = plain s

-- `len`: of a dimension that the array has
abbrev pub measured : {N : Type 0} → Open N → ℕ → ℕ → List Part → Result (State N) Fault
measured s at rank (p ∷ []) = plain (ended s 1 at kind.Other)
measured s at rank (p ∷ q ∷ []) = do
  z ← q.value
  found ← must_be (int_le (pos 0) z && int_lt z (pos rank)) BadCount q.at
  plain (ended s 1 at kind.Other)
measured s at rank parts = refused (Core Arity) at

-- LISTS
abbrev pub give : {N : Type 0} → Open N → Option Frame → Result (State N) Fault
give s (Some (frame.List sum)) = plain (ended s sum 0 kind.Other)
give s other = plain s

abbrev pub is_new : {N : Type 0} → Names N → Items N → Open N → List N → N → Bool
is_new t k s before x = not (is_some (k.item x)) && not (is_some (lookup_by t s.arrays x)) && not (stands t x before)

abbrev pub bound : {N : Type 0} → Names N → Items N → Open N → ℕ → N → Option Frame → Result (State N) Fault
bound t k s at x (Some (frame.Names start targets)) = do
  new ← must_be (is_new t k s (since start s.pending) x) SameName at
  plain (pushed (record s { pending = x ∷ s.pending }) (frame.Names start (targets + 1)))
bound t k s at x other = plain s

abbrev pub array_bound : {N : Type 0} → Names N → Items N → Open N → ℕ → N → ℕ → Option Frame → Result (State N) Fault
array_bound t k s at x rank (Some (frame.Names start targets)) = do
  new ← must_be (is_new t k s (since start s.pending) x) SameName at
  plain (pushed (record s { arrays = s.arrays ++ (x, rank) ∷ [] }) (frame.Names start targets))
array_bound t k s at x rank other = plain s

abbrev pub dropped : {N : Type 0} → Open N → Option Frame → Result (State N) Fault
dropped s (Some (frame.Names start targets)) = plain (pushed s (frame.Names start (targets + 1)))
dropped s other = plain s

abbrev pub names_begin : {N : Type 0} → Open N → Open N
names_begin s = pushed s (frame.Names (length s.pending) 0)

-- the pending names from `start` on enter the scope
abbrev pub entered : {N : Type 0} → Open N → ℕ → Open N
entered s start = record s { scope = onto (since start s.pending) s.scope; pending = back start s.pending }

abbrev pub let_ends : {N : Type 0} → Open N → ℕ → ℕ → Option Frame → Result (State N) Fault
let_ends s at sum (Some (frame.Names start targets)) = do
  all ← must_be (sum == targets) Arity at
  plain (entered s start)
let_ends s at sum other = plain s

abbrev pub end_let : {N : Type 0} → Open N → ℕ → Option Frame → Result (State N) Fault
end_let s at (Some (frame.List sum)) = let_ends (popped s) at sum (top s.frames)
end_let s at other = plain s

-- CONDITIONALS
abbrev pub first_arm : {N : Type 0} → Open N → Result (State N) Fault
first_arm s = do
  one ← single s.last
  plain (pushed (taken s) (frame.First (length s.scope)))

abbrev pub second_arm : {N : Type 0} → Open N → Option Frame → Result (State N) Fault
second_arm s (Some (frame.First mark)) = plain (pushed (taken (record s { scope = back mark s.scope })) (frame.Second mark s.last.count))
second_arm s other = plain s

abbrev pub end_if : {N : Type 0} → Open N → ℕ → Option Frame → Result (State N) Fault
end_if s at (Some (frame.Second mark left)) = do
  same ← must_be (left == s.last.count) Arity at
  plain (ended (record s { scope = back mark s.scope }) left at kind.Other)
end_if s at other = plain s

-- of a statement, whose arms may have any number of values
abbrev pub end_when : {N : Type 0} → Open N → Option Frame → Result (State N) Fault
end_when s (Some (frame.First mark)) = plain (taken (record s { scope = back mark s.scope }))
end_when s (Some (frame.Second mark left)) = plain (taken (record s { scope = back mark s.scope }))
end_when s other = plain s

-- LOOPS
abbrev pub bounded : {N : Type 0} → Open N → ℕ → Result ℤ Fault → Result (State N) Fault
bounded s at number = do
  z ← number
  fits ← must_be (int_le (pos 2) z && int_le z (pos 64)) BadBound at
  plain s

abbrev pub turned : {N : Type 0} → Open N → Option Frame → Result (State N) Fault
turned s (Some (frame.Names start targets)) =
    let inside = entered s start in
    plain (pushed (record inside { turn = record { base = length s.scope; start = length s.used } }) (frame.Open s.turn targets (length inside.scope)))
turned s other = plain s

abbrev pub until : {N : Type 0} → Open N → Option Frame → Result (State N) Fault
until s (Some (frame.Open outer names mark)) = plain (pushed (taken (record s { scope = back mark s.scope })) (frame.Tested outer names s.last.count))
until s other = plain s

-- The turn is left, and what it takes from outside is used in the turn around it.
abbrev pub left_turn : {N : Type 0} → Names N → Items N → Open N → Turn → Open N
left_turn t k s outer = using t k (record s { scope = back s.turn.base s.scope; used = back s.turn.start s.used; turn = outer }) (onto
    (since s.turn.start s.used) [])

abbrev pub closed : {N : Type 0} → Names N → Items N → Open N → ℕ → Turn → ℕ → ℕ → Result (State N) Fault
closed t k s at outer names given = do
  all ← must_be (given == names) Arity at
  narrow ← must_be (nat_le (names + length (since s.turn.start s.used)) 15) TooWide at
  plain (ended (left_turn t k s outer) given at kind.Other)

abbrev pub end_loop : {N : Type 0} → Names N → Items N → Open N → ℕ → Option Frame → Result (State N) Fault
end_loop t k s at (Some (frame.Open outer names mark)) = closed t k s at outer names s.last.count
end_loop t k s at (Some (frame.Tested outer names given)) = do
  one ← single s.last
  closed t k s at outer names given
end_loop t k s at other = plain s

-- `for`: the number at which it stops may be one more value that is carried
abbrev pub range_ends : {N : Type 0} → Open N → Result (State N) Fault
range_ends s = do
  one ← single s.last
  plain (taken (record s { ends = s.last.kind ∷ s.ends }))

abbrev pub is_carried : {N : Type 0} → Names N → List N → List N → List (Kind N) → Bool
is_carried t bound outside (kind.Written ∷ ends) = false
is_carried t bound outside (kind.Constant ∷ ends) = false
is_carried t bound outside (kind.Variable x ∷ ends) = stands t x bound || not (stands t x outside)
is_carried t bound outside (kind.Other ∷ ends) = true
is_carried t bound outside [] = false

-- beside the counter so many names are carried: as many values, or with none any number
abbrev pub as_many : ℕ → ℕ → Bool
as_many given zero = true
as_many given (suc names) = given == suc names

abbrev pub values_of : ℕ → ℕ
values_of zero = 1
values_of (suc names) = suc names

-- the names of the turn
abbrev pub bound_in : {N : Type 0} → Open N → ℕ → List N
bound_in s mark = since s.turn.base (back mark s.scope)

abbrev pub end_for : {N : Type 0} → Names N → Items N → Open N → ℕ → Option Frame → Result (State N) Fault
end_for t k s at (Some (frame.Open outer names mark)) =
    let outside = since s.turn.start s.used in
    let last = one_if (is_carried t (bound_in s mark) outside s.ends) in
    must_be (as_many s.last.count (names - 1)) Arity at >>= λ all. must_be (nat_le (names + length outside + last) 15) TooWide at >>= λ narrow. plain (ended
    (left_turn t k (record s { ends = drop 1 s.ends }) outer) (values_of (names - 1)) at kind.Other)
end_for t k s at other = plain s

-- FUNCTIONS. Their parameters are pending until the body begins, and the last part is the number of results until then.
abbrev pub function : {N : Type 0} → Open N → ℕ → Open N
function s at = ended (names_begin s) 1 at kind.Other

abbrev pub body : {N : Type 0} → Open N → ℕ → Option Frame → Result (State N) Fault
body s at (Some (frame.Names start targets)) = plain (pushed (entered s start) (frame.Body s.last.count at))
body s at other = plain s

abbrev pub end_function : {N : Type 0} → Open N → Option Frame → Result (State N) Fault
end_function s (Some (frame.Body results at)) = do
  all ← must_be (s.last.count == results) Arity at
  plain (taken (record s { scope = []; used = []; arrays = [] }))
end_function s other = plain s

-- ONE WORD
abbrev pub core_step : {N : Type 0} → Names N → Items N → Open N → CoreWord N → List (Word N) → Result (State N) Fault
core_step t k s (core_word.Array at x) later = Ok (Skipping s)
core_step t k s (core_word.Length at n) later = plain s
core_step t k s (core_word.Function at x) later = plain (function s at)
core_step t k s (core_word.Parameter at x) later = bound t k (popped s) at x (top s.frames)
core_step t k s (core_word.Results at n) later = plain (ended s n at kind.Other)
core_step t k s (core_word.Body at) later = body (popped s) at (top s.frames)
core_step t k s core_word.EndFunction later = end_function (popped s) (top s.frames)
core_step t k s (core_word.Number at n) later = plain (ended s 1 at kind.Written)
core_step t k s (core_word.Name at x) later = name_read t k s at x later
core_step t k s core_word.Bracket later = plain (in_brackets s)
core_step t k s (core_word.Prefix at op) later = operated s at (prefixed op s.last.kind)
core_step t k s core_word.Left later = one_taken s
core_step t k s (core_word.Infix at sign) later = operated s at kind.Other
core_step t k s (core_word.Cell at x) later = cell s at (rank_at t k s x)
core_step t k s (core_word.Fetch at x) later = indexed (popped s) (top s.frames) (ended (popped s) 1 at kind.Other)
core_step t k s core_word.Index later = indexed (popped s) (top s.frames) (taken (popped s))
core_step t k s (core_word.Store at x) later = operated s at kind.Other
core_step t k s (core_word.Callee at f) later = begins_call t k s at f later
core_step t k s (core_word.Call at strict f) later = call k (popped s) at f (top s.frames)
core_step t k s core_word.Then later = first_arm s
core_step t k s core_word.Else later = second_arm (popped s) (top s.frames)
core_step t k s (core_word.EndIf at) later = end_if (popped s) at (top s.frames)
core_step t k s (core_word.Loop at) later = plain (names_begin s)
core_step t k s (core_word.Bound at n) later = bounded s at (Ok (pos n))
core_step t k s (core_word.Start at x) later = bound t k (popped s) at x (top s.frames)
core_step t k s core_word.First later = one_taken s
core_step t k s core_word.TestFirst later = turned (popped s) (top s.frames)
core_step t k s core_word.While later = one_taken s
core_step t k s core_word.BodyFirst later = turned (popped s) (top s.frames)
core_step t k s core_word.Until later = until (popped s) (top s.frames)
core_step t k s (core_word.EndLoop at n) later = end_loop t k (popped s) at (top s.frames)
core_step t k s core_word.List later = plain (pushed s (frame.List 0))
core_step t k s core_word.Part later = part (popped s) (top s.frames)
core_step t k s (core_word.Let at) later = plain (names_begin s)
core_step t k s (core_word.Bind at x) later = bound t k (popped s) at x (top s.frames)
core_step t k s core_word.Drop later = dropped (popped s) (top s.frames)
core_step t k s (core_word.EndLet at) later = end_let (popped s) at (top s.frames)
core_step t k s core_word.Do later = plain (popped s)
core_step t k s core_word.Give later = give (popped s) (top s.frames)
core_step t k s core_word.Chain later = plain (ended s s.last.count 0 kind.Other)

abbrev pub plain_step : {N : Type 0} → Names N → Items N → Open N → Word N → List (Word N) → Result (State N) Fault
plain_step t k s (word.Core w) later = core_step t k s w later
plain_step t k s word.EndArray later = plain s
plain_step t k s (word.Constant at x) later = Ok (Skipping s)
plain_step t k s word.EndConstant later = plain s
plain_step t k s (word.ArrayParameter at x rank) later = array_bound t k (popped s) at x rank (top s.frames)
plain_step t k s (word.ConstantResults at x) later = plain (ended s (number_or_zero (constant_of (k.item x) at)) at kind.Other)
plain_step t k s word.AndThen later = one_taken s
plain_step t k s (word.EndAnd at) later = operated s at kind.Other
plain_step t k s word.OrElse later = one_taken s
plain_step t k s (word.EndOr at) later = operated s at kind.Other
plain_step t k s (word.Not at) later = operated s at kind.Other
plain_step t k s word.NextIndex later = next_index (popped s) (top s.frames)
plain_step t k s (word.ConstantBound at x) later = bounded s at (constant_of (k.item x) at)
plain_step t k s (word.EndConstantLoop at x) later = end_loop t k (popped s) at (top s.frames)
plain_step t k s (word.For at) later = plain (names_begin s)
plain_step t k s (word.Counter at x) later = bound t k (popped s) at x (top s.frames)
plain_step t k s word.Range later = one_taken s
plain_step t k s word.EndRange later = range_ends s
plain_step t k s word.Turns later = turned (popped s) (top s.frames)
plain_step t k s (word.EndFor at) later = end_for t k (popped s) at (top s.frames)
plain_step t k s (word.EndWhen at) later = end_when (popped s) (top s.frames)
plain_step t k s word.When later = plain (popped s)

abbrev pub ends_measure : {N : Type 0} → Word N → Bool
ends_measure (word.Core (core_word.Call at strict f)) = true
ends_measure w = false

abbrev pub step : {N : Type 0} → Names N → Items N → State N → Word N → List (Word N) → Result (State N) Fault
step t k (Plain s) w later = plain_step t k s w later
step t k (Passing s start) w later = plain (pushed s (frame.Passes start))
step t k (Measuring s at rank c) w later = if ends_measure w && c.depth == 1 then measured s at rank c.parts else Ok (Measuring s at rank (evaluates (constants
    k.item) c w))
step t k (Skipping s) w later = Ok (if ends_item w then Plain s else Skipping s)

-- ALL WORDS
abbrev pub steps : {N : Type 0} → Names N → Items N → State N → List (Word N) → Result (State N) Fault
steps t k s [] = Ok s
steps t k s (w ∷ ws) = do
  next ← step t k s w ws
  steps t k next ws
