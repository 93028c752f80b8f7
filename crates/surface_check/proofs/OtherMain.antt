-- WHICH NAME IS `main` counts in heads for the names of functions alone, and what is built in does not count.
use Rattle.std.specs.Prelude.{◌≡◌, refl, ℕ, ◌+◌, ◌-◌, nat_le, nat_lt, not, Bool, true, false, List, [], ◌∷◌, length, drop, is_some, Result, Ok, Err, ⊤}
use Rattle.std.specs.Prelude.{if◌then◌else◌}
use Rattle.std.proofs.Common.{◌∙◌, ap}
use Rattle.source.specs.declared.fault.FaultKind.TheVariants.{SameName, TooMany}
use Rattle.source.specs.declared.word.Word.{Word as CoreWord}
use Rattle.source.specs.declared.word.Word.TheVariants as core_word
use Rattle.surface.specs.declared.fault.Fault.{Fault}
use Rattle.surface.specs.declared.fault.FaultKind.{FaultKind}
use Rattle.surface.specs.declared.fault.FaultKind.TheVariants.{BadArray, Core}
use Rattle.surface.specs.declared.word.Word.{Word}
use Rattle.surface.specs.declared.word.Word.TheVariants as word
use Rattle.surface.specs.First.{◌>>=◌, must}
use Rattle.surface.specs.Known.{Callee, product, some_value}
use Rattle.surface_check.specs.declared.evaluation.Part.{Part}
use Rattle.surface_check.specs.declared.heads.Head.{Head}
use Rattle.surface_check.specs.declared.heads.Head.TheVariants as open_head
use Rattle.surface_check.specs.declared.heads.FunctionHead.{FunctionHead}
use Rattle.surface_check.specs.Heads.{Names, Heads, ends_item, core_begins, begins, lengths_from, last_part, array_ends, constant_ends, parameter, unless_refused}
use Rattle.surface_check.specs.Heads.{head_ends, core_in_function, in_function, step_in, head_step, heads_read}

-- the same names are one, and others may be `main` and built in
abbrev pub otherwise : {N : Type 0} → Names N → (N → Bool) → (N → Callee) → Names N
otherwise t main called = record { same = t.same; is_main = main; built_in = called }

-- the names of functions
abbrev pub CoreNamed : {N : Type 0} → (N → Type 0) → CoreWord N → Type 0
CoreNamed P (core_word.Function at x) = P x
CoreNamed P w = ⊤

abbrev pub IsNamed : {N : Type 0} → (N → Type 0) → Word N → Type 0
IsNamed P (word.Core w) = CoreNamed P w
IsNamed P w = ⊤

abbrev pub AreNamed : {N : Type 0} → (N → Type 0) → List (Word N) → Type 0
AreNamed P [] = ⊤
AreNamed P (w ∷ ws) = IsNamed P w × AreNamed P ws

abbrev pub HeadNamed : {N : Type 0} → (N → Type 0) → Head N → Type 0
HeadNamed P (open_head.Function g) = P g.name
HeadNamed P o = ⊤

abbrev Keeps : {N : Type 0} → (N → Type 0) → Result (Heads N) Fault → Type 0
Keeps P (Ok h) = HeadNamed P h.open_head
Keeps P (Err e) = ⊤

keeps_must : {N : Type 0} (P : N → Type 0) (b : Bool) (kind : FaultKind) (at : ℕ) (q : Result (Heads N) Fault) → Keeps P q
    → Keeps P (must b kind at >>= λ x. q)
keeps_must P true kind at q h = h
keeps_must P false kind at q h = tt

keeps_then : {A N : Type 0} (P : N → Type 0) (s : Result A Fault) (q : A → Result (Heads N) Fault) → ((x : A) → Keeps P (q x)) → Keeps P (s >>= q)
keeps_then P (Ok x) q h = h x
keeps_then P (Err e) q h = tt

keeps_if : {N : Type 0} (P : N → Type 0) (b : Bool) (q r : Result (Heads N) Fault) → Keeps P q → Keeps P r → Keeps P (if b then q else r)
keeps_if P true q r h i = h
keeps_if P false q r h i = i

-- EACH WORD keeps that
core_begins_keeps : {N : Type 0} (P : N → Type 0) (h : Heads N) (w : CoreWord N) → HeadNamed P h.open_head → CoreNamed P w → Keeps P (core_begins h w)
core_begins_keeps P h (core_word.Array at x) k n = keeps_must P (not (is_some (h.item x))) (Core SameName) at _ (keeps_must P (nat_lt h.arrays 64) (Core TooMany) at _ tt)
core_begins_keeps P h (core_word.Function at x) k n = keeps_must P (not (is_some (h.item x))) (Core SameName) at _ n
core_begins_keeps P h w k n = k

begins_keeps : {N : Type 0} (P : N → Type 0) (h : Heads N) (w : Word N) → HeadNamed P h.open_head → IsNamed P w → Keeps P (begins h w)
begins_keeps P h (word.Core w) k n = core_begins_keeps P h w k n
begins_keeps P h (word.Constant at x) k n = keeps_must P (not (is_some (h.item x))) (Core SameName) at _ tt
begins_keeps P h w k n = k

array_keeps : {N : Type 0} (P : N → Type 0) (t : Names N) (h : Heads N) (at : ℕ) (x : N) (ps : List Part) → Keeps P (array_ends t h at x ps)
array_keeps P t h at x ps = keeps_must P (nat_le (length ps) 3) BadArray at _ (keeps_then P (lengths_from 1 ps) _ (λ ns. keeps_must P (nat_le
    (h.cells + product ns) 65536) (Core TooMany) (last_part ps) _ tt))

constant_keeps : {N : Type 0} (P : N → Type 0) (t : Names N) (h : Heads N) (x : N) → Keeps P (constant_ends t h x)
constant_keeps P t h x = keeps_then P h.evaluation.last.value _ (λ z. tt)

parameter_keeps : {N : Type 0} (P : N → Type 0) (t : Names N) (h : Heads N) (g : FunctionHead N) (at rank : ℕ) → P g.name → Keeps P (parameter t h g at rank)
parameter_keeps P t h g at rank i = keeps_must P (nat_lt (length h.ranks - g.first) 16) (Core TooMany) at _ i

ends_keeps : {N : Type 0} (P : N → Type 0) (t : Names N) (h : Heads N) (g : FunctionHead N) → Keeps P (head_ends t h g)
ends_keeps P t h g = keeps_then P (unless_refused g.refused) _ (λ good. keeps_must P (some_value (drop g.first h.ranks)) BadArray g.at _ (keeps_then P g.results _ (λ n. tt)))

core_function_keeps : {N : Type 0} (P : N → Type 0) (t : Names N) (h : Heads N) (g : FunctionHead N) (w : CoreWord N) → HeadNamed P h.open_head → P g.name
    → Keeps P (core_in_function t h g w)
core_function_keeps P t h g (core_word.Parameter at x) k i = parameter_keeps P t h g at 0 i
core_function_keeps P t h g (core_word.Results at n) k i = i
core_function_keeps P t h g (core_word.Body at) k i = ends_keeps P t h g
core_function_keeps P t h g w k i = k

function_keeps : {N : Type 0} (P : N → Type 0) (t : Names N) (h : Heads N) (g : FunctionHead N) (w : Word N) → HeadNamed P h.open_head → P g.name
    → Keeps P (in_function t h g w)
function_keeps P t h g (word.Core w) k i = core_function_keeps P t h g w k i
function_keeps P t h g (word.ArrayParameter at x rank) k i = parameter_keeps P t h g at rank i
function_keeps P t h g (word.ConstantResults at x) k i = i
function_keeps P t h g w k i = k

step_keeps : {N : Type 0} (P : N → Type 0) (t : Names N) (h : Heads N) (o : Head N) (w : Word N) → HeadNamed P h.open_head → HeadNamed P o → IsNamed P w
    → Keeps P (step_in t h o w)
step_keeps P t h open_head.Outside w k i n = begins_keeps P h w k n
step_keeps P t h (open_head.Array at x) w k i n = keeps_if P (ends_item w) _ _ (array_keeps P t h at x h.evaluation.parts) k
step_keeps P t h (open_head.Constant x) w k i n = keeps_if P (ends_item w) _ _ (constant_keeps P t h x) k
step_keeps P t h (open_head.Function g) w k i n = function_keeps P t h g w k i
step_keeps {N} P t h open_head.Body w k i n = go (ends_item w)
  where
    go : (b : Bool) → HeadNamed P (if b then record h { open_head = open_head.Outside } else h).open_head
    go true = tt
    go false = k

-- and does the same with the other names
core_function_same : {N : Type 0} (P : N → Type 0) (t : Names N) (main : N → Bool) (called : N → Callee) → ((x : N) → P x → main x ≡ t.is_main x) → (h : Heads N)
    (g : FunctionHead N) (w : CoreWord N) → P g.name → core_in_function (otherwise t main called) h g w ≡ core_in_function t h g w
core_function_same P t main called e h g (core_word.Parameter at x) i = rw (e g.name i) refl
core_function_same P t main called e h g w i = refl

function_same : {N : Type 0} (P : N → Type 0) (t : Names N) (main : N → Bool) (called : N → Callee) → ((x : N) → P x → main x ≡ t.is_main x) → (h : Heads N)
    (g : FunctionHead N) (w : Word N) → P g.name → in_function (otherwise t main called) h g w ≡ in_function t h g w
function_same P t main called e h g (word.Core w) i = core_function_same P t main called e h g w i
function_same P t main called e h g (word.ArrayParameter at x rank) i = rw (e g.name i) refl
function_same P t main called e h g w i = refl

step_same : {N : Type 0} (P : N → Type 0) (t : Names N) (main : N → Bool) (called : N → Callee) → ((x : N) → P x → main x ≡ t.is_main x) → (h : Heads N)
    (o : Head N) (w : Word N) → HeadNamed P o → step_in (otherwise t main called) h o w ≡ step_in t h o w
step_same P t main called e h open_head.Outside w i = refl
step_same P t main called e h (open_head.Array at x) w i = refl
step_same P t main called e h (open_head.Constant x) w i = refl
step_same P t main called e h (open_head.Function g) w i = function_same P t main called e h g w i
step_same P t main called e h open_head.Body w i = refl

pub heads_same : {N : Type 0} (P : N → Type 0) (t : Names N) (main : N → Bool) (called : N → Callee) → ((x : N) → P x → main x ≡ t.is_main x)
    → (ws : List (Word N)) (h : Heads N) → AreNamed P ws → HeadNamed P h.open_head → heads_read (otherwise t main called) h ws ≡ heads_read t h ws
heads_same P t main called e [] h n k = refl
heads_same {N} P t main called e (w ∷ ws) h n k =
    ap (λ (q : Result (Heads N) Fault). q >>= λ z. heads_read (otherwise t main called) z ws) (step_same P t main called e h h.open_head w k)
    ∙ go (head_step t h w) (step_keeps P t h h.open_head w k k n.0) (λ z i. heads_same P t main called e ws z n.1 i)
  where
    go : (q : Result (Heads N) Fault) → Keeps P q
        → ((z : Heads N) → HeadNamed P z.open_head → heads_read (otherwise t main called) z ws ≡ heads_read t z ws)
        → (q >>= λ z. heads_read (otherwise t main called) z ws) ≡ (q >>= λ z. heads_read t z ws)
    go (Ok z) i h = h z i
    go (Err f) i h = refl
