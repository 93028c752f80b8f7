-- HOW OFTEN A PLACE OCCURS in the tokens of a part, and in the lines that the part is lowered to.
use Rattle.std.proofs.Common.{◌≡◌, ℕ, zero, suc, ◌+◌, ◌<◌, ◌≤◌, ◌&&◌, ◌++◌, Bool, true, false, List, [], ◌∷◌, Option, Some, None, if◌then◌else◌, refl, ap, ◌∙◌}
use Rattle.std.proofs.Common.{arith}
use Rattle.std.specs.Prelude.{nat_eq}
use Rattle.semantics.specs.declared.graph.Kind.{Kind}
use Rattle.semantics.specs.declared.graph.Kind.TheVariants.{Apply2, Fetch, Store}
use Rattle.lemmas.proofs.Bools.{and_false}
use Rattle.lemmas.proofs.Permutations.{Each}
use Rattle.source.specs.Tree.{Name}
use Rattle.source.specs.Spelled.{Spelling}
use Rattle.source.specs.Lowered.{Made, MadeBlock}

abbrev pub one_if : Bool → ℕ
one_if true = 1
one_if false = 0

-- nodes that make faults
abbrev pub may_fail : Kind Name → Bool
may_fail (Apply2 op) = true
may_fail (Fetch a) = true
may_fail (Store a) = true
may_fail kind = false

-- COUNTS of a place
abbrev pub with_place : ℕ → Option ℕ → ℕ → ℕ
with_place x None n = n
with_place x (Some y) n = if nat_eq x y then suc n else n

abbrev pub spelled : ℕ → List Spelling → ℕ
spelled x [] = 0
spelled x (t ∷ ts) = with_place x t.place (spelled x ts)

abbrev pub times : ℕ → List Made → ℕ
times x [] = 0
times x (m ∷ ms) = if nat_eq x m.at then suc (times x ms) else times x ms

abbrev pub fails : ℕ → List Made → ℕ
fails x [] = 0
fails x (m ∷ ms) = if nat_eq x m.at && may_fail m.node.kind then suc (fails x ms) else fails x ms

abbrev pub block_times : ℕ → List MadeBlock → ℕ
block_times x [] = 0
block_times x (b ∷ bs) = times x b.nodes + block_times x bs

abbrev pub block_fails : ℕ → List MadeBlock → ℕ
block_fails x [] = 0
block_fails x (b ∷ bs) = fails x b.nodes + block_fails x bs

-- one more
pub counted_one : (t : Bool) (n : ℕ) → (if t then suc n else n) ≡ one_if t + n
counted_one true n = omega arith
counted_one false n = omega arith

pub placed_one : (x y n : ℕ) → with_place x (Some y) n ≡ one_if (nat_eq x y) + n
placed_one x y n = counted_one (nat_eq x y) n

pub times_append : (x : ℕ) (ms ns : List Made) → times x (ms ++ ns) ≡ times x ms + times x ns
times_append x [] ns = omega arith
times_append x (m ∷ ms) ns =
    let l = times_append x ms ns in let a = counted_one (nat_eq x m.at) (times x (ms ++ ns)) in let b = counted_one (nat_eq x m.at) (times x ms) in
    omega (arith, l, a, b)

pub fails_append : (x : ℕ) (ms ns : List Made) → fails x (ms ++ ns) ≡ fails x ms + fails x ns
fails_append x [] ns = omega arith
fails_append x (m ∷ ms) ns =
    let l = fails_append x ms ns in
    let a = counted_one (nat_eq x m.at && may_fail m.node.kind) (fails x (ms ++ ns)) in let b =
    counted_one (nat_eq x m.at && may_fail m.node.kind) (fails x ms) in omega (arith, l, a, b)

pub block_times_append : (x : ℕ) (bs cs : List MadeBlock) → block_times x (bs ++ cs) ≡ block_times x bs + block_times x cs
block_times_append x [] cs = omega arith
block_times_append x (b ∷ bs) cs = let l = block_times_append x bs cs in omega (arith, l)

pub block_fails_append : (x : ℕ) (bs cs : List MadeBlock) → block_fails x (bs ++ cs) ≡ block_fails x bs + block_fails x cs
block_fails_append x [] cs = omega arith
block_fails_append x (b ∷ bs) cs = let l = block_fails_append x bs cs in omega (arith, l)

pub spelled_append : (x : ℕ) (ts us : List Spelling) → spelled x (ts ++ us) ≡ spelled x ts + spelled x us
spelled_append x [] us = omega arith
spelled_append x (t ∷ ts) us = go t.place (spelled_append x ts us)
  where
    go : (o : Option ℕ) → spelled x (ts ++ us) ≡ spelled x ts + spelled x us → with_place x o (spelled x (ts ++ us)) ≡ with_place x o
        (spelled x ts) + spelled x us
    go None e = e
    go (Some y) e = let a = placed_one x y (spelled x (ts ++ us)) in let b = placed_one x y (spelled x ts) in omega (arith, e, a, b)

-- HOW THE TOKENS TRACE THE LINES, by the numbers of lines, of lines that make faults, and of tokens: without a token there is no line;
-- and where there is at most one token, and a line that makes faults, that is the only line.
pub record Traced (lines faulty tokens : ℕ) : Type 0 where
  pub few : faulty ≤ lines
  pub none : tokens ≡ 0 → lines ≡ 0
  pub one : tokens ≤ 1 → 0 < faulty → lines ≤ 1

pub traced_as : (n f t m g u : ℕ) → Traced n f t → m ≡ n → g ≡ f → t ≤ u → Traced m g u
traced_as n f t m g u h em eg low =
    let few = h.few in record {
      few = omega (arith, few, em, eg);
      none = λ e. let k = h.none (omega (arith, e, low)) in omega (arith, k, em);
      one = λ e some. let k = h.one (omega (arith, e, low)) (omega (arith, some, eg)) in omega (arith, k, em);
    }

pub traced_both : (n f t m g u : ℕ) → Traced n f t → Traced m g u → Traced (n + m) (f + g) (t + u)
traced_both n f zero m g u h k =
    let none = h.none refl in let few = h.few in let more = k.few in record {
      few = omega (arith, few, more);
      none = λ e. let l = k.none (omega (arith, e)) in omega (arith, none, l);
      one = λ e some. let l = k.one (omega (arith, e)) (omega (arith, some, few, none)) in omega (arith, l, none);
    }
traced_both n f (suc t) m g u h k =
    let few = h.few in let more = k.few in record {
      few = omega (arith, few, more);
      none = λ e. absurd (omega (arith, e));
      one = λ e some.
          let l = k.none (omega (arith, e)) in
          let i = h.one (omega (arith, e)) (omega (arith, some, l, more)) in omega (arith, l, i);
    }

pub traced_none : Traced 0 0 0
traced_none = record { few = omega arith; none = λ e. refl; one = λ e some. omega arith }

-- lines of one token, none of which makes faults
pub traced_group : (n : ℕ) (t : Bool) → (t ≡ false → n ≡ 0) → Traced n 0 (one_if t)
traced_group n true h = record { few = omega arith; none = λ e. absurd (omega (arith, e)); one = λ e some. absurd (omega (arith, some)) }
traced_group n false h = let none = h refl in record { few = omega arith; none = λ e. none; one = λ e some. absurd (omega (arith, some)) }

-- and one line of its own token
pub traced_line : (t u : Bool) → Traced (one_if t) (one_if (t && u)) (one_if t)
traced_line true true = record { few = omega arith; none = λ e. e; one = λ e some. omega arith }
traced_line true false = record { few = omega arith; none = λ e. e; one = λ e some. omega arith }
traced_line false u = traced_none

-- GROUPS: lines of one place, none of which makes faults
abbrev pub IsAt : ℕ → Made → Type 0
IsAt at m = (m.at ≡ at) × (may_fail m.node.kind ≡ false)

pub group_fails : (x at : ℕ) (ms : List Made) → Each (IsAt at) ms → fails x ms ≡ 0
group_fails x at [] h = refl
group_fails x at (m ∷ ms) h =
    let l = group_fails x at ms h.1 in
    let e : (nat_eq x m.at && may_fail m.node.kind) ≡ false = ap (λ (u : Bool). nat_eq x m.at && u) h.0.1 ∙ and_false (nat_eq x m.at) in
    ap (λ (t : Bool). if t then suc (fails x ms) else fails x ms) e ∙ l

pub group_times : (x at : ℕ) (ms : List Made) → Each (IsAt at) ms → nat_eq x at ≡ false → times x ms ≡ 0
group_times x at [] h e = refl
group_times x at (m ∷ ms) h e =
    ap (λ (t : Bool). if t then suc (times x ms) else times x ms) (ap (nat_eq x) h.0.0 ∙ e) ∙ group_times x at ms h.1 e
