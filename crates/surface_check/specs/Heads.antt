-- THE HEADS OF ITEMS, WORD BY WORD: all words are gone over, and those of bodies do nothing.
use Rattle.std.specs.Prelude.{ℕ, ◌+◌, ◌-◌, ◌*◌, ◌&&◌, not, nat_le, nat_lt, Bool, true, false, pos, int_le, ℤ, List, [], ◌∷◌, ◌++◌, length, drop, is_some}
use Rattle.std.specs.Prelude.{Option, None, Some, Result, Ok, Err, ⊤, if◌then◌else◌}
use Rattle.source.specs.declared.fault.FaultKind.TheVariants.{SameName, BadCount, TooMany}
use Rattle.source.specs.declared.word.Word.{Word as CoreWord}
use Rattle.source.specs.declared.word.Word.TheVariants as core_word
use Rattle.surface.specs.declared.fault.Fault.{Fault}
use Rattle.surface.specs.declared.fault.FaultKind.TheVariants.{BadArray}
use Rattle.surface.specs.declared.word.Word.{Word}
use Rattle.surface.specs.declared.word.Word.TheVariants as word
use Rattle.surface.specs.First.{◌>>=◌, must, must_be}
use Rattle.surface.specs.Known.{natural, product, some_value, Callee}
use Rattle.surface_check.specs.declared.entry.Entry.{Entry}
use Rattle.surface_check.specs.declared.entry.Entry.TheVariants as entry
use Rattle.surface_check.specs.declared.entry.Lengths.{Lengths}
use Rattle.surface_check.specs.declared.entry.Lengths.TheVariants as lengths
use Rattle.surface_check.specs.declared.evaluation.Part.{Part}
use Rattle.surface_check.specs.declared.heads.Head.{Head}
use Rattle.surface_check.specs.declared.heads.Head.TheVariants as head
use Rattle.surface_check.specs.declared.heads.FunctionHead.{FunctionHead}
use Rattle.surface_check.specs.Evaluates.{Evaluation, fresh, evaluates, constants, constant_of}

-- when two names are one, which one is `main`, and what is built in
pub record Names (N : Type 0) : Type 0 where
  pub same : N → N → Bool
  pub is_main : N → Bool
  pub built_in : N → Callee

-- the items before, the ranks of all parameters, how many arrays and cells there are, and what is open
pub record Heads (N : Type 0) : Type 0 where
  pub item : N → Option Entry
  pub ranks : List ℕ
  pub arrays : ℕ
  pub cells : ℕ
  pub open_head : Head N
  pub evaluation : Evaluation

abbrev pub no_heads : {N : Type 0} → Heads N
no_heads = record { item = λ x. None; ranks = []; arrays = 0; cells = 0; open_head = head.Outside; evaluation = fresh 0 }

abbrev pub with_item : {N : Type 0} → (N → N → Bool) → (N → Option Entry) → N → Entry → N → Option Entry
with_item same item x e y = if same y x then Some e else item y

abbrev pub new_item : {N : Type 0} → Heads N → ℕ → N → Result ⊤ Fault
new_item h at x = must_be (not (is_some (h.item x))) SameName at

-- the word ends an item
abbrev pub core_ends_item : {N : Type 0} → CoreWord N → Bool
core_ends_item core_word.EndFunction = true
core_ends_item w = false

abbrev pub ends_item : {N : Type 0} → Word N → Bool
ends_item (word.Core w) = core_ends_item w
ends_item word.EndArray = true
ends_item word.EndConstant = true
ends_item w = false

-- ITEMS BEGIN
abbrev pub array_begins : {N : Type 0} → Heads N → ℕ → N → Result (Heads N) Fault
array_begins h at x = do
  new ← new_item h at x
  few ← must_be (nat_lt h.arrays 64) TooMany at
  Ok record h { open_head = head.Array at x; evaluation = fresh 0 }

abbrev pub constant_begins : {N : Type 0} → Heads N → ℕ → N → Result (Heads N) Fault
constant_begins h at x = do
  new ← new_item h at x
  Ok record h { open_head = head.Constant x; evaluation = fresh 1 }

abbrev pub function_head : {N : Type 0} → ℕ → N → ℕ → FunctionHead N
function_head at x first = record { at = at; name = x; first = first; refused = None; results = Ok 1 }

abbrev pub function_begins : {N : Type 0} → Heads N → ℕ → N → Result (Heads N) Fault
function_begins h at x = do
  new ← new_item h at x
  Ok record h { open_head = head.Function (function_head at x (length h.ranks)) }

abbrev pub core_begins : {N : Type 0} → Heads N → CoreWord N → Result (Heads N) Fault
core_begins h (core_word.Array at x) = array_begins h at x
core_begins h (core_word.Function at x) = function_begins h at x
core_begins h w = Ok h

abbrev pub begins : {N : Type 0} → Heads N → Word N → Result (Heads N) Fault
begins h (word.Core w) = core_begins h w
begins h (word.Constant at x) = constant_begins h at x
begins h w = Ok h

-- ARRAYS
abbrev pub length_from : ℕ → Part → Result ℕ Fault
length_from before p = do
  z ← p.value
  fits ← must_be (int_le (pos 1) z && int_le z (pos 65536) && nat_le (before * natural z) 65536) BadCount p.at
  Ok (natural z)

abbrev pub lengths_from : ℕ → List Part → Result (List ℕ) Fault
lengths_from before [] = Ok []
lengths_from before (p ∷ ps) = do
  n ← length_from before p
  ns ← lengths_from (before * n) ps
  Ok (n ∷ ns)

abbrev pub last_part : List Part → ℕ
last_part [] = 0
last_part (p ∷ []) = p.at
last_part (p ∷ q ∷ ps) = last_part (q ∷ ps)

-- one to three lengths
abbrev pub shape : List ℕ → Lengths
shape [] = lengths.One 0
shape (a ∷ []) = lengths.One a
shape (a ∷ b ∷ []) = lengths.Two a b
shape (a ∷ b ∷ c ∷ ns) = lengths.Three a b c

abbrev pub lengths_in : Lengths → List ℕ
lengths_in (lengths.One a) = a ∷ []
lengths_in (lengths.Two a b) = a ∷ b ∷ []
lengths_in (lengths.Three a b c) = a ∷ b ∷ c ∷ []

abbrev pub array_ends : {N : Type 0} → Names N → Heads N → ℕ → N → List Part → Result (Heads N) Fault
array_ends t h at x parts = do
  flat ← must (nat_le (length parts) 3) BadArray at
  ns ← lengths_from 1 parts
  room ← must_be (nat_le (h.cells + product ns) 65536) TooMany (last_part parts)
  Ok record h {
    item = with_item t.same h.item x (entry.Array (shape ns));
    arrays = h.arrays + 1;
    cells = h.cells + product ns;
    open_head = head.Outside;
  }

abbrev pub evaluated_by : {N : Type 0} → Heads N → Word N → Heads N
evaluated_by h w = record h { evaluation = evaluates (constants h.item) h.evaluation w }

abbrev pub in_array : {N : Type 0} → Names N → Heads N → ℕ → N → Word N → Result (Heads N) Fault
in_array t h at x w = if ends_item w then array_ends t h at x h.evaluation.parts else Ok (evaluated_by h w)

-- CONSTANTS
abbrev pub constant_ends : {N : Type 0} → Names N → Heads N → N → Result (Heads N) Fault
constant_ends t h x = do
  z ← h.evaluation.last.value
  Ok record h { item = with_item t.same h.item x (entry.Constant z); open_head = head.Outside }

abbrev pub in_constant : {N : Type 0} → Names N → Heads N → N → Word N → Result (Heads N) Fault
in_constant t h x w = if ends_item w then constant_ends t h x else Ok (evaluated_by h w)

-- FUNCTIONS. What is wrong with a parameter's rank counts only after the number of parameters.
abbrev pub is_good_rank : {N : Type 0} → Names N → N → ℕ → Bool
is_good_rank t f rank = nat_le rank 3 && not (t.is_main f && nat_lt 0 rank)

abbrev pub first_refused : Option Fault → Bool → ℕ → Option Fault
first_refused (Some fault) good at = Some fault
first_refused None good at = if good then None else Some (record { kind = BadArray; at = at })

abbrev pub parameter : {N : Type 0} → Names N → Heads N → FunctionHead N → ℕ → ℕ → Result (Heads N) Fault
parameter t h f at rank = do
  few ← must_be (nat_lt (length h.ranks - f.first) 16) TooMany at
  Ok record h {
    ranks = h.ranks ++ rank ∷ [];
    open_head = head.Function (record f { refused = first_refused f.refused (is_good_rank t f.name rank) at });
  }

abbrev pub number_of_results : ℕ → Result ℤ Fault → Result ℕ Fault
number_of_results at number = do
  z ← number
  fits ← must_be (int_le (pos 1) z && int_le z (pos 16)) BadCount at
  Ok (natural z)

abbrev pub results_read : {N : Type 0} → Heads N → FunctionHead N → ℕ → Result ℤ Fault → Heads N
results_read h f at number = record h { open_head = head.Function (record f { results = number_of_results at number }) }

abbrev pub unless_refused : Option Fault → Result ⊤ Fault
unless_refused None = Ok tt
unless_refused (Some fault) = Err fault

abbrev pub head_ends : {N : Type 0} → Names N → Heads N → FunctionHead N → Result (Heads N) Fault
head_ends t h f = do
  good ← unless_refused f.refused
  value ← must (some_value (drop f.first h.ranks)) BadArray f.at
  n ← f.results
  Ok record h { item = with_item t.same h.item f.name (entry.Function f.first (length h.ranks - f.first) n); open_head = head.Body }

abbrev pub core_in_function : {N : Type 0} → Names N → Heads N → FunctionHead N → CoreWord N → Result (Heads N) Fault
core_in_function t h f (core_word.Parameter at x) = parameter t h f at 0
core_in_function t h f (core_word.Results at n) = Ok (results_read h f at (Ok (pos n)))
core_in_function t h f (core_word.Body at) = head_ends t h f
core_in_function t h f w = Ok h

abbrev pub in_function : {N : Type 0} → Names N → Heads N → FunctionHead N → Word N → Result (Heads N) Fault
in_function t h f (word.Core w) = core_in_function t h f w
in_function t h f (word.ArrayParameter at x rank) = parameter t h f at rank
in_function t h f (word.ConstantResults at x) = Ok (results_read h f at (constant_of (h.item x) at))
in_function t h f w = Ok h

abbrev pub in_body : {N : Type 0} → Heads N → Word N → Heads N
in_body h w = if ends_item w then record h { open_head = head.Outside } else h

-- ONE WORD
abbrev pub step_in : {N : Type 0} → Names N → Heads N → Head N → Word N → Result (Heads N) Fault
step_in t h head.Outside w = begins h w
step_in t h (head.Array at x) w = in_array t h at x w
step_in t h (head.Constant x) w = in_constant t h x w
step_in t h (head.Function f) w = in_function t h f w
step_in t h head.Body w = Ok (in_body h w)

abbrev pub head_step : {N : Type 0} → Names N → Heads N → Word N → Result (Heads N) Fault
head_step t h w = step_in t h h.open_head w

-- a step for each word, up to the first fault
abbrev pub heads_read : {N : Type 0} → Names N → Heads N → List (Word N) → Result (Heads N) Fault
heads_read t h [] = Ok h
heads_read t h (w ∷ ws) = do
  next ← head_step t h w
  heads_read t next ws
