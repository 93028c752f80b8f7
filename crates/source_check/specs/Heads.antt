-- THE HEADS OF ITEMS, WORD BY WORD: all words are gone over, and those of bodies do nothing.
use Rattle.std.specs.Prelude.{ℕ, ◌+◌, ◌&&◌, not, nat_le, nat_lt, Bool, List, [], ◌∷◌, is_some, Option, None, Some, Result, Ok, if◌then◌else◌}
use Rattle.source.specs.declared.fault.Fault.{Fault}
use Rattle.source.specs.declared.fault.FaultKind.TheVariants.{SameName, BadCount, TooMany}
use Rattle.source.specs.declared.word.Word.{Word}
use Rattle.source.specs.declared.word.Word.TheVariants as word
use Rattle.source.specs.First.{◌>>=◌, must}
use Rattle.source_check.specs.declared.frame.Entry.{Entry}
use Rattle.source_check.specs.declared.frame.Entry.TheVariants as entry

-- a step for each word, up to the first fault
abbrev pub through : {S W : Type 0} → (S → W → Result S Fault) → S → List W → Result S Fault
through step s [] = Ok s
through step s (w ∷ ws) = do
  next ← step s w
  through step next ws

-- the items before, how many arrays and cells they have, and the function whose head is read
pub record Heads (N : Type 0) : Type 0 where
  pub item : N → Option Entry
  pub arrays : ℕ
  pub cells : ℕ
  pub current : Option N
  pub params : ℕ
  pub results : ℕ

abbrev pub no_heads : {N : Type 0} → Heads N
no_heads = record { item = λ x. None; arrays = 0; cells = 0; current = None; params = 0; results = 1 }

abbrev pub with_item : {N : Type 0} → (N → N → Bool) → (N → Option Entry) → N → Entry → N → Option Entry
with_item same item x e y = if same y x then Some e else item y

abbrev pub array : {N : Type 0} → (N → N → Bool) → Heads N → ℕ → N → Result (Heads N) Fault
array same h at x = do
  new ← must (not (is_some (h.item x))) SameName at
  few ← must (nat_lt h.arrays 64) TooMany at
  Ok record h { item = with_item same h.item x entry.Array; arrays = h.arrays + 1 }

abbrev pub array_length : {N : Type 0} → Heads N → ℕ → ℕ → Result (Heads N) Fault
array_length h at n = do
  fits ← must (nat_le 1 n && nat_le n 65536) BadCount at
  room ← must (nat_le (h.cells + n) 65536) TooMany at
  Ok record h { cells = h.cells + n }

abbrev pub function_name : {N : Type 0} → Heads N → ℕ → N → Result (Heads N) Fault
function_name h at x = do
  new ← must (not (is_some (h.item x))) SameName at
  Ok record h { current = Some x; params = 0; results = 1 }

abbrev pub parameter : {N : Type 0} → Heads N → ℕ → Result (Heads N) Fault
parameter h at = do
  few ← must (nat_lt h.params 16) TooMany at
  Ok record h { params = h.params + 1 }

abbrev pub results_number : {N : Type 0} → Heads N → ℕ → ℕ → Result (Heads N) Fault
results_number h at n = do
  fits ← must (nat_le 1 n && nat_le n 16) BadCount at
  Ok record h { results = n }

abbrev pub head_read : {N : Type 0} → (N → N → Bool) → Heads N → Option N → Heads N
head_read same h None = h
head_read same h (Some x) = record h { item = with_item same h.item x (entry.Function h.params h.results) }

abbrev pub head_done : {N : Type 0} → (N → N → Bool) → Heads N → Result (Heads N) Fault
head_done same h = Ok (head_read same h h.current)

abbrev pub head_step : {N : Type 0} → (N → N → Bool) → Heads N → Word N → Result (Heads N) Fault
head_step same h (word.Array at x) = array same h at x
head_step same h (word.Length at n) = array_length h at n
head_step same h (word.Function at x) = function_name h at x
head_step same h (word.Parameter at x) = parameter h at
head_step same h (word.Results at n) = results_number h at n
head_step same h (word.Body at) = head_done same h
head_step same h w = Ok h
