-- HEADS DO NOT DEPEND ON WHAT NAMES ARE, but on which are the same.
use Rattle.std.specs.Prelude.{◌≡◌, refl, ℕ, ◌+◌, ◌&&◌, not, nat_le, nat_lt, Bool, true, false, List, [], ◌∷◌, map, is_some, Option, None, Some}
use Rattle.std.specs.Prelude.{Result, Ok, Err, ⊤}
use Rattle.std.proofs.Common.{◌∙◌, ap, sym, subst}
use Rattle.source.specs.declared.fault.Fault.{Fault}
use Rattle.source.specs.declared.fault.FaultKind.{FaultKind}
use Rattle.source.specs.declared.fault.FaultKind.TheVariants.{SameName, BadCount, TooMany, NoMain}
use Rattle.source.specs.declared.word.Word.{Word}
use Rattle.source.specs.declared.word.Word.TheVariants as word
use Rattle.source.specs.First.{◌>>=◌, must}
use Rattle.source_check.specs.declared.frame.Entry.{Entry}
use Rattle.source_check.specs.declared.frame.Entry.TheVariants as entry
use Rattle.source_check.specs.Heads.{Heads, no_heads, through, with_item, head_read, head_step, array, array_length, function_name, parameter, results_number}
use Rattle.source_check.specs.Steps.{State, begun, steps}
use Rattle.source_check.specs.Checks.{is_function, words_checked}
use Rattle.source_check.specs.Renamed.{renamed, moved}
use Rattle.source_check.proofs.Runs.{mapped}
use Rattle.source_check.proofs.Renamed.{steps_renamed}

abbrev moved_name : {N M : Type 0} → (N → M) → Option N → Option M
moved_name f None = None
moved_name f (Some x) = Some (f x)

record HeadsAlike {N M : Type 0} (f : N → M) (h : Heads N) (k : Heads M) : Type 0 where
  item : (x : N) → k.item (f x) ≡ h.item x
  arrays : k.arrays ≡ h.arrays
  cells : k.cells ≡ h.cells
  current : k.current ≡ moved_name f h.current
  params : k.params ≡ h.params
  results : k.results ≡ h.results

abbrev Both : {N M : Type 0} → (N → M) → Result (Heads N) Fault → Result (Heads M) Fault → Type 0
Both f (Ok h) (Ok k) = HeadsAlike f h k
Both f (Err e) (Err d) = d ≡ e
Both f (Ok h) (Err d) = ⊥
Both f (Err e) (Ok k) = ⊥

both_must : {N M : Type 0} (f : N → M) (b c : Bool) (kind : FaultKind) (at : ℕ) (q : Result (Heads N) Fault) (r : Result (Heads M) Fault) → c ≡ b → Both f q r
    → Both f (must b kind at >>= λ x. q) (must c kind at >>= λ x. r)
both_must f true true kind at q r e h = h
both_must f false false kind at q r e h = refl
both_must f true false kind at q r e h = absurd (cc)
both_must f false true kind at q r e h = absurd (cc)

item_alike : {N M : Type 0} (f : N → M) (same : N → N → Bool) (other : M → M → Bool) → ((x y : N) → other (f x) (f y) ≡ same x y) → (item : N
    → Option Entry) (items : M → Option Entry) (x : N) (e : Entry)
    → ((y : N) → items (f y) ≡ item y) → (y : N) → with_item other items (f x) e (f y) ≡ with_item same item x e y
item_alike f same other a item items x e h y = rw (a y x, h y) refl

head_read_alike : {N M : Type 0} (f : N → M) (same : N → N → Bool) (other : M → M → Bool) → ((x y : N) → other (f x) (f y) ≡ same x y)
    → (h : Heads N) (k : Heads M) → HeadsAlike f h k
    → (o : Option N) → HeadsAlike f (head_read same h o) (head_read other k (moved_name f o))
head_read_alike f same other a h k l None = l
head_read_alike f same other a h k l (Some x) =
    let e : entry.Function k.params k.results ≡ entry.Function h.params h.results = ap (λ p. entry.Function p k.results) l.params
    ∙ ap (λ r. entry.Function h.params r) l.results in
    record {
      item = rw e (item_alike f same other a h.item k.item x (entry.Function h.params h.results) l.item);
      arrays = l.arrays;
      cells = l.cells;
      current = l.current;
      params = l.params;
      results = l.results;
    }

array_alike : {N M : Type 0} (f : N → M) (same : N → N → Bool) (other : M → M → Bool) → ((x y : N) → other (f x) (f y) ≡ same x y)
    → (h : Heads N) (k : Heads M) (at : ℕ) (x : N) → HeadsAlike f h k
    → Both f (array same h at x) (array other k at (f x))
array_alike {N = N} {M = M} f same other a h k at x l =
    let h1 : Heads N = record h { item = with_item same h.item x entry.Array; arrays = h.arrays + 1 } in
    let k1 : Heads M = record k { item = with_item other k.item (f x) entry.Array; arrays = k.arrays + 1 } in
    both_must f (not (is_some (h.item x))) (not (is_some (k.item (f x)))) SameName at (must (nat_lt h.arrays 64) TooMany at >>= λ few. Ok h1) (must
    (nat_lt k.arrays 64) TooMany at >>= λ few. Ok k1)
    (ap (λ (o : Option Entry). not (is_some o)) (l.item x))
    (both_must f (nat_lt h.arrays 64) (nat_lt k.arrays 64) TooMany at (Ok h1) (Ok k1) (ap (λ n. nat_lt n 64) l.arrays)
    (record {
      item = item_alike f same other a h.item k.item x entry.Array l.item;
      arrays = ap
          (λ n. n + 1) l.arrays;
      cells = l.cells;
      current = l.current;
      params = l.params;
      results = l.results;
    }))

length_alike : {N M : Type 0} (f : N → M) (h : Heads N) (k : Heads M) (at n : ℕ) → HeadsAlike f h k → Both f (array_length h at n) (array_length k at n)
length_alike {N = N} {M = M} f h k at n l =
    let h1 : Heads N = record h { cells = h.cells + n } in
    let k1 : Heads M = record k { cells = k.cells + n } in
    both_must f (nat_le 1 n && nat_le n 65536) (nat_le 1 n && nat_le n 65536) BadCount at (must (nat_le (h.cells + n) 65536) TooMany at >>= λ room. Ok h1)
    (must (nat_le (k.cells + n) 65536) TooMany at >>= λ room. Ok k1) refl
    (both_must f (nat_le (h.cells + n) 65536) (nat_le (k.cells + n) 65536) TooMany at (Ok h1) (Ok k1) (ap (λ m. nat_le (m + n) 65536) l.cells)
    (record { item = l.item; arrays = l.arrays; cells = ap (λ m. m + n) l.cells; current = l.current; params = l.params; results = l.results }))

function_alike : {N M : Type 0} (f : N → M) (h : Heads N) (k : Heads M) (at : ℕ) (x : N) → HeadsAlike f h k
    → Both f (function_name h at x) (function_name k at (f x))
function_alike {N = N} {M = M} f h k at x l =
    let h1 : Heads N = record h { current = Some x; params = 0; results = 1 } in
    let k1 : Heads M = record k { current = Some (f x); params = 0; results = 1 } in
    both_must f (not (is_some (h.item x))) (not (is_some (k.item (f x)))) SameName at (Ok h1) (Ok k1) (ap (λ (o : Option Entry). not (is_some o)) (l.item x))
    (record { item = l.item; arrays = l.arrays; cells = l.cells; current = refl; params = refl; results = refl })

parameter_alike : {N M : Type 0} (f : N → M) (h : Heads N) (k : Heads M) (at : ℕ) → HeadsAlike f h k → Both f (parameter h at) (parameter k at)
parameter_alike {N = N} {M = M} f h k at l =
    let h1 : Heads N = record h { params = h.params + 1 } in
    let k1 : Heads M = record k { params = k.params + 1 } in
    both_must f (nat_lt h.params 16) (nat_lt k.params 16) TooMany at (Ok h1) (Ok k1) (ap (λ n. nat_lt n 16) l.params)
    (record { item = l.item; arrays = l.arrays; cells = l.cells; current = l.current; params = ap (λ n. n + 1) l.params; results = l.results })

results_alike : {N M : Type 0} (f : N → M) (h : Heads N) (k : Heads M) (at n : ℕ) → HeadsAlike f h k → Both f (results_number h at n) (results_number k at n)
results_alike {N = N} {M = M} f h k at n l =
    let h1 : Heads N = record h { results = n } in
    let k1 : Heads M = record k { results = n } in
    both_must f (nat_le 1 n && nat_le n 16) (nat_le 1 n && nat_le n 16) BadCount at (Ok h1) (Ok k1) refl
    (record { item = l.item; arrays = l.arrays; cells = l.cells; current = l.current; params = l.params; results = refl })

head_step_alike : {N M : Type 0} (f : N → M) (same : N → N → Bool) (other : M → M → Bool) → ((x y : N) → other (f x) (f y) ≡ same x y)
    → (h : Heads N) (k : Heads M) (w : Word N) → HeadsAlike f h k
    → Both f (head_step same h w) (head_step other k (renamed f w))
head_step_alike f same other a h k (word.Array at x) l = array_alike f same other a h k at x l
head_step_alike f same other a h k (word.Length at n) l = length_alike f h k at n l
head_step_alike f same other a h k (word.Function at x) l = function_alike f h k at x l
head_step_alike f same other a h k (word.Parameter at x) l = parameter_alike f h k at l
head_step_alike f same other a h k (word.Results at n) l = results_alike f h k at n l
head_step_alike f same other a h k (word.Body at) l = subst (λ o. HeadsAlike f (head_read same h h.current) (head_read other k o)) (sym l.current)
    (head_read_alike f same other a h k l h.current)
head_step_alike f same other a h k w l = l

heads_alike : {N M : Type 0} (f : N → M) (same : N → N → Bool) (other : M → M → Bool) → ((x y : N) → other (f x) (f y) ≡ same x y)
    → (ws : List (Word N)) (h : Heads N) (k : Heads M) → HeadsAlike f h k
    → Both f (through (head_step same) h ws) (through (head_step other) k (map (renamed f) ws))
heads_alike f same other a [] h k l = l
heads_alike f same other a (w ∷ ws) h k l = go (head_step same h w) (head_step other k (renamed f w)) (head_step_alike f same other a h k w l)
    (heads_alike f same other a ws)
  where
    go : (q : Result (Heads _) Fault) (r : Result (Heads _) Fault) → Both f q r → ((z : Heads _) (y : Heads _) → HeadsAlike f z y
        → Both f (through (head_step same) z ws) (through (head_step other) y (map (renamed f) ws)))
        → Both f (q >>= λ z. through (head_step same) z ws) (r >>= λ z. through (head_step other) z (map (renamed f) ws))
    go (Ok z) (Ok y) b h = h z y b
    go (Err e) (Err d) b h = b
    go (Ok z) (Err d) b h = absurd b
    go (Err e) (Ok y) b h = absurd b

abbrev done : Result ⊤ Fault
done = Ok tt

answers_nothing : {N M : Type 0} (f : N → M) (q : Result (State N) Fault) → (mapped (moved f) q >>= λ (last : State M). done) ≡ (q >>= λ (last : State N). done)
answers_nothing f (Ok s) = refl
answers_nothing f (Err e) = refl

pub check_renamed : {N M : Type 0} (f : N → M) (same : N → N → Bool) (other : M → M → Bool) → ((x y : N) → other (f x) (f y) ≡ same x y)
    → (main : N) (end : ℕ) (ws : List (Word N))
    → words_checked other (f main) end (map (renamed f) ws) ≡ words_checked same main end ws
check_renamed f same other a main end ws = go (through (head_step same) no_heads ws) (through (head_step other) no_heads (map (renamed f) ws))
    (heads_alike f same other a ws no_heads no_heads (record { item = λ x. refl; arrays = refl; cells = refl; current = refl; params = refl; results = refl }))
  where
    go : (q : Result (Heads _) Fault) (r : Result (Heads _) Fault) → Both f q r
        → (r >>= λ heads. must (is_function (heads.item (f main))) NoMain end >>= λ there. steps (record { same = other; item = heads.item }) begun (map
        (renamed f) ws) >>= λ last. done)
        ≡ (q >>= λ heads. must (is_function (heads.item main)) NoMain end >>= λ there. steps
        (record { same = same; item = heads.item }) begun ws >>= λ last. done)
    go (Ok h) (Ok k) l = rw (
      l.item main,
      steps_renamed f (record { same = same; item = h.item }) (record { same = other; item = k.item })
          (record { same = a; item = l.item }) ws begun,
    )
        (ap (λ z. must (is_function (h.item main)) NoMain end >>= λ there. z) (answers_nothing f (steps (record { same = same; item = h.item }) begun ws)))
    go (Err e) (Err d) l = ap Err l
    go (Ok h) (Err d) l = absurd l
    go (Err e) (Ok k) l = absurd l
