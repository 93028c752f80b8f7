-- HEADS DO NOT DEPEND ON WHAT NAMES ARE, but on which are the same.
use Rattle.std.specs.Prelude.{◌≡◌, refl, ℕ, ◌+◌, ◌-◌, not, nat_le, nat_lt, Bool, true, false, pos, List, [], ◌∷◌, ◌++◌, length, map, drop, is_some, Option, None}
use Rattle.std.specs.Prelude.{Some, Result, Ok, Err, if◌then◌else◌}
use Rattle.std.proofs.Common.{ap, sym, subst}
use Rattle.source.specs.declared.fault.FaultKind.TheVariants.{SameName, TooMany}
use Rattle.source.specs.declared.word.Word.{Word as CoreWord}
use Rattle.source.specs.declared.word.Word.TheVariants as core_word
use Rattle.surface.specs.declared.fault.Fault.{Fault}
use Rattle.surface.specs.declared.fault.FaultKind.{FaultKind}
use Rattle.surface.specs.declared.fault.FaultKind.TheVariants.{BadArray, Core}
use Rattle.surface.specs.declared.word.Word.{Word}
use Rattle.surface.specs.declared.word.Word.TheVariants as word
use Rattle.surface.specs.First.{◌>>=◌, must}
use Rattle.surface.specs.Known.{product, some_value}
use Rattle.surface_check.specs.declared.entry.Entry.{Entry}
use Rattle.surface_check.specs.declared.entry.Entry.TheVariants as entry
use Rattle.surface_check.specs.declared.evaluation.Part.{Part}
use Rattle.surface_check.specs.declared.heads.Head.{Head}
use Rattle.surface_check.specs.declared.heads.Head.TheVariants as open_head
use Rattle.surface_check.specs.declared.heads.FunctionHead.{FunctionHead}
use Rattle.surface_check.specs.Evaluates.{Evaluation, fresh, evaluates, core_evaluates, constant_of, constants}
use Rattle.surface_check.specs.Heads.{Names, Heads, with_item, ends_item, core_ends_item, begins, core_begins}
use Rattle.surface_check.specs.Heads.{array_ends, lengths_from, last_part, shape, constant_ends, parameter, is_good_rank}
use Rattle.surface_check.specs.Heads.{first_refused, number_of_results, unless_refused, head_ends, in_function, core_in_function}
use Rattle.surface_check.specs.Heads.{step_in, head_step, heads_read}
use Rattle.surface_check.specs.Renamed.{renamed, core_renamed}

-- The names of one are those of the other.
pub record Alike {N M : Type 0} (f : N → M) (t : Names N) (r : Names M) : Type 0 where
  pub same : (x y : N) → r.same (f x) (f y) ≡ t.same x y
  pub is_main : (x : N) → r.is_main (f x) ≡ t.is_main x
  pub built_in : (x : N) → r.built_in (f x) ≡ t.built_in x

abbrev pub function_moved : {N M : Type 0} → (N → M) → FunctionHead N → FunctionHead M
function_moved f h = record { at = h.at; name = f h.name; first = h.first; refused = h.refused; results = h.results }

abbrev pub head_moved : {N M : Type 0} → (N → M) → Head N → Head M
head_moved f open_head.Outside = open_head.Outside
head_moved f (open_head.Array at x) = open_head.Array at (f x)
head_moved f (open_head.Constant x) = open_head.Constant (f x)
head_moved f (open_head.Function h) = open_head.Function (function_moved f h)
head_moved f open_head.Body = open_head.Body

-- The heads by the one names, and by the other ones, where `h` has the items by the other ones and `o` is what is open.
abbrev pub low : {N M : Type 0} → (N → M) → Heads M → Head N → Heads N
low f h o = record { item = λ n. h.item (f n); ranks = h.ranks; arrays = h.arrays; cells = h.cells; open_head = o; evaluation = h.evaluation }

abbrev pub high : {N M : Type 0} → (N → M) → Heads M → Head N → Heads M
high f h o = record h { open_head = head_moved f o }

pub record IsBoth {N M : Type 0} (f : N → M) (l : Heads N) (k : Heads M) : Type 0 where
  pub heads : Heads M
  pub open_now : Head N
  pub lower : l ≡ low f heads open_now
  pub higher : k ≡ high f heads open_now

abbrev pub Both : {N M : Type 0} → (N → M) → Result (Heads N) Fault → Result (Heads M) Fault → Type 0
Both f (Ok l) (Ok k) = IsBoth f l k
Both f (Err e) (Err d) = e ≡ d
Both f l k = ⊥

as_both : {N M : Type 0} (f : N → M) (h : Heads M) (o : Head N) → IsBoth f (low f h o) (high f h o)
as_both f h o = record { heads = h; open_now = o; lower = refl; higher = refl }

both_must : {N M : Type 0} (f : N → M) (b : Bool) (kind : FaultKind) (at : ℕ) (q : Result (Heads N) Fault) (r : Result (Heads M) Fault) → Both f q r
    → Both f (must b kind at >>= λ x. q) (must b kind at >>= λ x. r)
both_must f true kind at q r h = h
both_must f false kind at q r h = refl

both_then : {A N M : Type 0} (f : N → M) (s : Result A Fault) (q : A → Result (Heads N) Fault) (r : A → Result (Heads M) Fault)
    → ((x : A) → Both f (q x) (r x)) → Both f (s >>= q) (s >>= r)
both_then f (Ok x) q r h = h x
both_then f (Err e) q r h = refl

both_if : {N M : Type 0} (f : N → M) (b : Bool) (q p : Result (Heads N) Fault) (r s : Result (Heads M) Fault) → Both f q r → Both f p s
    → Both f (if b then q else p) (if b then r else s)
both_if f true q p r s h i = h
both_if f false q p r s h i = i

item_alike : {N M : Type 0} (f : N → M) (t : Names N) (r : Names M) → Alike f t r → (item : M → Option Entry) (x : N) (e : Entry)
    → with_item t.same (λ n. item (f n)) x e ≡ (λ n. with_item r.same item (f x) e (f n))
item_alike f t r a item x e = λ i n. (ap (λ (b : Bool). if b then Some e else item (f n)) (sym (a.same n x))) i

-- the heads with one more item
with_both : {N M : Type 0} (f : N → M) (t : Names N) (r : Names M) → Alike f t r → (h : Heads M) (x : N) (e : Entry) (arrays cells : ℕ) (o : Head N)
    → IsBoth f (record (low f h o) { item = with_item t.same (λ n. h.item (f n)) x e; arrays = arrays; cells = cells }) (record (high f h o) {
      item = with_item r.same h.item (f x) e;
      arrays = arrays;
      cells = cells;
    })
with_both {N} {M} f t r a h x e arrays cells o = record {
  heads = record h { item = with_item r.same h.item (f x) e; arrays = arrays; cells = cells };
  open_now = o;
  lower = ap (λ (item : N → Option Entry). record (low f h o) { item = item; arrays = arrays; cells = cells }) (item_alike f t r a h.item x e);
  higher = refl;
}

-- CONSTANTS
core_evaluates_alike : {N M : Type 0} (f : N → M) (item : M → Option Entry) (c : Evaluation) (w : CoreWord N)
    → core_evaluates (constants (λ n. item (f n))) c w ≡ core_evaluates (constants item) c (core_renamed f w)
core_evaluates_alike f item c (core_word.Name at x) = refl
core_evaluates_alike f item c w = refl

pub evaluates_alike : {N M : Type 0} (f : N → M) (item : M → Option Entry) (c : Evaluation) (w : Word N)
    → evaluates (constants (λ n. item (f n))) c w ≡ evaluates (constants item) c (renamed f w)
evaluates_alike f item c (word.Core w) = core_evaluates_alike f item c w
evaluates_alike f item c w = refl

core_ends_alike : {N M : Type 0} (f : N → M) (w : CoreWord N) → core_ends_item (core_renamed f w) ≡ core_ends_item w
core_ends_alike f core_word.EndFunction = refl
core_ends_alike f w = refl

pub ends_alike : {N M : Type 0} (f : N → M) (w : Word N) → ends_item (renamed f w) ≡ ends_item w
ends_alike f (word.Core w) = core_ends_alike f w
ends_alike f w = refl

evaluated_both : {N M : Type 0} (f : N → M) (h : Heads M) (o : Head N) (w : Word N)
    → IsBoth f (record (low f h o) { evaluation = evaluates (constants (λ n. h.item (f n))) h.evaluation w }) (record (high f h o) {
      evaluation = evaluates (constants h.item) h.evaluation (renamed f w);
    })
evaluated_both f h o w = record {
  heads = record h { evaluation = evaluates (constants h.item) h.evaluation (renamed f w) };
  open_now = o;
  lower = ap (λ (c : Evaluation). record (low f h o) { evaluation = c }) (evaluates_alike f h.item h.evaluation w);
  higher = refl;
}

-- EACH WORD
core_begins_alike : {N M : Type 0} (f : N → M) (h : Heads M) (w : CoreWord N)
    → Both f (core_begins (low f h open_head.Outside) w) (core_begins (high f h open_head.Outside) (core_renamed f w))
core_begins_alike f h (core_word.Array at x) = both_must f (not (is_some (h.item (f x)))) (Core SameName) at _ _ (both_must f (nat_lt h.arrays 64)
    (Core TooMany) at _ _ (as_both f (record h { evaluation = fresh 0 }) (open_head.Array at x)))
core_begins_alike f h (core_word.Function at x) = both_must f (not (is_some (h.item (f x)))) (Core SameName) at _ _ (as_both f h (open_head.Function (record {
  at = at;
  name = x;
  first = length h.ranks;
  refused = None;
  results = Ok 1;
})))
core_begins_alike f h w = as_both f h open_head.Outside

begins_alike : {N M : Type 0} (f : N → M) (h : Heads M) (w : Word N)
    → Both f (begins (low f h open_head.Outside) w) (begins (high f h open_head.Outside) (renamed f w))
begins_alike f h (word.Core w) = core_begins_alike f h w
begins_alike f h (word.Constant at x) = both_must f (not (is_some (h.item (f x)))) (Core SameName) at _ _ (as_both f (record h { evaluation = fresh 1 })
    (open_head.Constant x))
begins_alike f h w = as_both f h open_head.Outside

array_ends_alike : {N M : Type 0} (f : N → M) (t : Names N) (r : Names M) → Alike f t r → (h : Heads M) (at : ℕ) (x : N) (parts : List Part)
    → Both f (array_ends t (low f h (open_head.Array at x)) at x parts) (array_ends r (high f h (open_head.Array at x)) at (f x) parts)
array_ends_alike f t r a h at x parts = both_must f (nat_le (length parts) 3) BadArray at _ _ (both_then f (lengths_from 1 parts) _ _ (λ ns. both_must f (nat_le
    (h.cells + product ns) 65536) (Core TooMany) (last_part parts) _ _ (with_both f t r a h x (entry.Array (shape ns)) (h.arrays + 1) (h.cells + product ns)
    open_head.Outside)))

constant_ends_alike : {N M : Type 0} (f : N → M) (t : Names N) (r : Names M) → Alike f t r → (h : Heads M) (x : N)
    → Both f (constant_ends t (low f h (open_head.Constant x)) x) (constant_ends r (high f h (open_head.Constant x)) (f x))
constant_ends_alike f t r a h x = both_then f h.evaluation.last.value _ _ (λ z. with_both f t r a h x (entry.Constant z) h.arrays h.cells open_head.Outside)

-- a parameter
parameter_alike : {N M : Type 0} (f : N → M) (t : Names N) (r : Names M) → Alike f t r → (h : Heads M) (g : FunctionHead N) (at rank : ℕ)
    → Both f (parameter t (low f h (open_head.Function g)) g at rank) (parameter r (high f h (open_head.Function g)) (function_moved f g) at rank)
parameter_alike f t r a h g at rank = rw (a.is_main g.name) (both_must f (nat_lt (length h.ranks - g.first) 16) (Core TooMany) at _ _ (as_both f (record h {
  ranks = h.ranks ++ rank ∷ [];
}) (open_head.Function (record g { refused = first_refused g.refused (is_good_rank t g.name rank) at }))))

head_ends_alike : {N M : Type 0} (f : N → M) (t : Names N) (r : Names M) → Alike f t r → (h : Heads M) (g : FunctionHead N)
    → Both f (head_ends t (low f h (open_head.Function g)) g) (head_ends r (high f h (open_head.Function g)) (function_moved f g))
head_ends_alike f t r a h g = both_then f (unless_refused g.refused) _ _ (λ good. both_must f (some_value (drop g.first h.ranks)) BadArray g.at _ _ (both_then f
    g.results _ _ (λ n. with_both f t r a h g.name (entry.Function g.first (length h.ranks - g.first) n) h.arrays h.cells open_head.Body)))

core_in_function_alike : {N M : Type 0} (f : N → M) (t : Names N) (r : Names M) → Alike f t r → (h : Heads M) (g : FunctionHead N) (w : CoreWord N)
    → Both f (core_in_function t (low f h (open_head.Function g)) g w) (core_in_function r (high f h (open_head.Function g)) (function_moved f g)
    (core_renamed f w))
core_in_function_alike f t r a h g (core_word.Parameter at x) = parameter_alike f t r a h g at 0
core_in_function_alike f t r a h g (core_word.Results at n) = as_both f h (open_head.Function (record g { results = number_of_results at (Ok (pos n)) }))
core_in_function_alike f t r a h g (core_word.Body at) = head_ends_alike f t r a h g
core_in_function_alike f t r a h g w = as_both f h (open_head.Function g)

in_function_alike : {N M : Type 0} (f : N → M) (t : Names N) (r : Names M) → Alike f t r → (h : Heads M) (g : FunctionHead N) (w : Word N)
    → Both f (in_function t (low f h (open_head.Function g)) g w) (in_function r (high f h (open_head.Function g)) (function_moved f g) (renamed f w))
in_function_alike f t r a h g (word.Core w) = core_in_function_alike f t r a h g w
in_function_alike f t r a h g (word.ArrayParameter at x rank) = parameter_alike f t r a h g at rank
in_function_alike f t r a h g (word.ConstantResults at x) = as_both f h (open_head.Function (record g {
  results = number_of_results at (constant_of (h.item (f x)) at);
}))
in_function_alike f t r a h g w = as_both f h (open_head.Function g)

step_alike : {N M : Type 0} (f : N → M) (t : Names N) (r : Names M) → Alike f t r → (h : Heads M) (o : Head N) (w : Word N)
    → Both f (step_in t (low f h o) o w) (step_in r (high f h o) (head_moved f o) (renamed f w))
step_alike f t r a h open_head.Outside w = begins_alike f h w
step_alike f t r a h (open_head.Array at x) w = rw (ends_alike f w) (both_if f (ends_item w) _ _ _ _ (array_ends_alike f t r a h at x h.evaluation.parts)
    (evaluated_both f h (open_head.Array at x) w))
step_alike f t r a h (open_head.Constant x) w = rw (ends_alike f w) (both_if f (ends_item w) _ _ _ _ (constant_ends_alike f t r a h x)
    (evaluated_both f h (open_head.Constant x) w))
step_alike f t r a h (open_head.Function g) w = in_function_alike f t r a h g w
step_alike {N} {M} f t r a h open_head.Body w = rw (ends_alike f w) (go (ends_item w))
  where
    go : (b : Bool) → IsBoth f (if b then record (low f h open_head.Body) { open_head = open_head.Outside } else low f h open_head.Body) (if b then record
        (high f h open_head.Body) { open_head = open_head.Outside } else high f h open_head.Body)
    go true = as_both f h open_head.Outside
    go false = as_both f h open_head.Body

both_is : {N M : Type 0} (f : N → M) (t : Names N) (r : Names M) → Alike f t r → (l : Heads N) (k : Heads M) → IsBoth f l k → (w : Word N)
    → Both f (head_step t l w) (head_step r k (renamed f w))
both_is {N} {M} f t r a l k b w = subst (λ (z : Heads N). Both f (head_step t z w) (head_step r k (renamed f w))) (sym b.lower) (subst (λ (z : Heads M). Both f
    (head_step t (low f b.heads b.open_now) w) (head_step r z (renamed f w))) (sym b.higher) (step_alike f t r a b.heads b.open_now w))

pub heads_alike : {N M : Type 0} (f : N → M) (t : Names N) (r : Names M) → Alike f t r → (ws : List (Word N)) (l : Heads N) (k : Heads M) → IsBoth f l k
    → Both f (heads_read t l ws) (heads_read r k (map (renamed f) ws))
heads_alike f t r a [] l k b = b
heads_alike {N} {M} f t r a (w ∷ ws) l k b = go (λ z y c. heads_alike f t r a ws z y c) (head_step t l w) (head_step r k (renamed f w)) (both_is f t r a l k b w)
  where
    go : ((z : Heads N) (y : Heads M) → IsBoth f z y → Both f (heads_read t z ws) (heads_read r y (map (renamed f) ws)))
        → (q : Result (Heads N) Fault) (s : Result (Heads M) Fault) → Both f q s
        → Both f (q >>= λ z. heads_read t z ws) (s >>= λ z. heads_read r z (map (renamed f) ws))
    go h (Ok z) (Ok y) c = h z y c
    go h (Err e) (Err d) c = c
    go h (Ok z) (Err d) c = absurd c
    go h (Err e) (Ok y) c = absurd c
