-- WHAT A PART OF A RUN ADDS: activities at the nodes of the part, in order; and then the part is closed.
use Rattle.std.proofs.Common.{◌≡◌, ℕ, ◌+◌, ◌≤◌, ◌⊎◌, ℤ, List, [], ◌∷◌, ◌++◌, Some, Contains, inl, inr, refl, sym, ap, ◌∙◌, subst, arith, ⊎_elim}
use Rattle.std.proofs.lemmas.List.{append_assoc, append-nil}
use Rattle.std.proofs.lemmas.List.Elements.{Contains-append_cases}
use Rattle.lemmas.proofs.Contains.{contains_none, contains_cases}
use Rattle.std.specs.Prelude.{⊤}
use Rattle.tags.specs.declared.value.Value.{Value}
use Rattle.semantics.specs.declared.graph.Kind.{Kind}
use Rattle.semantics.specs.declared.graph.Kind.TheVariants.{Enter, Merge, Call, StrictCall, Loop}
use Rattle.semantics.specs.Graph.{Graph, Node, Block, flow_of, node_at}
use Rattle.semantics.specs.WellFormed.{WellFormed}
use Rattle.semantics.specs.Meaning.{Context, Main, Called, Turned, Activity, Fires, Deed, IsCall, IsLoop, block_of}
use Rattle.law_confluence.specs.Outcome.{AreInputsOf}
use Rattle.law_loops_complete.specs.Within.{IsIn, place_of}
use Rattle.law_ordered_runs.proofs.Extending.{Going, On, Extended}
use Rattle.law_ordered_runs.proofs.Order.{seat, Under, InOrder, Precedes, under_more, order_both, precedes_apart, precedes_turned, precedes_round, precedes_inner}
use Rattle.law_ordered_runs.proofs.Closing.{FiresAtOnce, Closes, closes_none, closes_both, closes_on, closes_quiet, line_fired}

-- kinds of nodes that take all their operands at once, and invoke nothing
abbrev pub IsPlain : Kind ℕ → Type 0
IsPlain Enter = ⊥
IsPlain (Merge k) = ⊥
IsPlain (Call f) = ⊥
IsPlain (StrictCall f) = ⊥
IsPlain (Loop f k) = ⊥
IsPlain kind = ⊤

plain_fires : (kind : Kind ℕ) → IsPlain kind → FiresAtOnce kind
plain_fires Enter h = h
plain_fires (Merge k) h = h
plain_fires (Call f) h = h
plain_fires (StrictCall f) h = tt
plain_fires (Loop f k) h = h
plain_fires kind h = h

plain_calls : (kind : Kind ℕ) → IsPlain kind → IsCall kind → ⊥
plain_calls (Call f) h k = h
plain_calls (StrictCall f) h k = h
plain_calls kind h k = k

plain_loops : (kind : Kind ℕ) → IsPlain kind → IsLoop kind → ⊥
plain_loops (Loop f n) h k = h
plain_loops kind h k = k

-- what is made within an invocation is made where that is
pub under_within : (b c d : Context) (lo hi low high : ℕ) → Under b lo hi c → Under c low high d → Under b lo hi d
under_within b c Main lo hi low high h k = k
under_within b c (Called d n) lo hi low high h (inl k) = inr (subst (λ d. Under b lo hi d) (sym k.0) h)
under_within b c (Called d n) lo hi low high h (inr k) = inr (under_within b c d lo hi low high h k)
under_within b c (Turned d n t) lo hi low high h (inl k) = inr (subst (λ d. Under b lo hi d) (sym k.0) h)
under_within b c (Turned d n t) lo hi low high h (inr k) = inr (under_within b c d lo hi low high h k)

pub own_called : (c : Context) (n : ℕ) → Under c n (n + 1) (Called c n)
own_called c n = inl (refl, omega arith, omega arith)

pub own_turned : (c : Context) (n t : ℕ) → Under c n (n + 1) (Turned c n t)
own_turned c n t = inl (refl, omega arith, omega arith)

-- at a node of an invocation
abbrev pub AtNodeOf : Context → ℕ → Activity → Type 0
AtNodeOf c n a = (place_of a ≡ c) × Under c n (n + 1) (seat a)

pub precedes_at : (c : Context) (a b : Activity) → place_of a ≡ c → IsIn c (seat b) → Precedes a b
precedes_at c a b e h = precedes_round a b (subst (λ c. IsIn c (seat b)) (sym e) h)

pub precedes_behind : (c : Context) (a b : Activity) → place_of b ≡ c → IsIn c (seat a) → Precedes a b
precedes_behind c a b e h = precedes_inner a b (subst (λ c. IsIn c (seat a)) (sym e) h)

module _ (g : Graph) (inputs : List ℤ) (well : WellFormed g) (count : AreInputsOf g inputs) where
  -- the one run is the other and then these activities
  pub record Adds (x y : Going g inputs) (P : Activity → Type 0) : Type 0 where
    pub piece : List Activity
    pub is : y.run ≡ x.run ++ piece
    pub each : (a : Activity) → Contains piece a → P a
    pub ordered : InOrder piece

  pub adds_none : (x : Going g inputs) (P : Activity → Type 0) → Adds x x P
  adds_none x P = record { piece = []; is = sym (append-nil x.run); each = λ a h. absurd (contains_none a h); ordered = tt }

  pub adds_one : (x : Going g inputs) (a : Activity) (d : Deed) (P : Activity → Type 0) (e : Extended g inputs well count x a d) → P a → Adds x e.to P
  adds_one x a d P e p = go e.grows
    where
      go : (e.to.run ≡ x.run) ⊎ (e.to.run ≡ x.run ++ a ∷ []) → Adds x e.to P
      go (inl h) = record { piece = []; is = h ∙ sym (append-nil x.run); each = λ a h. absurd (contains_none a h); ordered = tt }
      go (inr h) = record {
        piece = a ∷ [];
        is = h;
        each = λ b k. ⊎_elim (λ f. subst P f p) (λ n. absurd (contains_none b n)) (contains_cases a [] b k);
        ordered = (tt, tt);
      }

  pub adds_then : (x y w : Going g inputs) (P Q R : Activity → Type 0) → Adds x y P → Adds y w Q → ((a b : Activity) → P a → Q b → Precedes a b)
      → ((a : Activity) → P a → R a) → ((a : Activity) → Q a → R a) → Adds x w R
  adds_then x y w P Q R h k order f q = record {
    piece = h.piece ++ k.piece;
    is = k.is ∙ ap (λ l. l ++ k.piece) h.is ∙ append_assoc x.run h.piece k.piece;
    each = λ a i. ⊎_elim (λ j. f a (h.each a j)) (λ j. q a (k.each a j)) (Contains-append_cases h.piece k.piece a i);
    ordered = order_both h.piece k.piece h.ordered k.ordered (λ a b i j. order a b (h.each a i) (k.each b j));
  }

  pub adds_more : (x y : Going g inputs) (P R : Activity → Type 0) → Adds x y P → ((a : Activity) → P a → R a) → Adds x y R
  adds_more x y P R h f = record { piece = h.piece; is = h.is; each = λ a i. f a (h.each a i); ordered = h.ordered }

  -- AT THE NODES of a part
  pub record Does (x y : Going g inputs) (c : Context) (lo hi : ℕ) : Type 0 where
    pub adds : Adds x y (λ a. Under c lo hi (seat a))
    pub closed : Closes g inputs well count y c lo hi

  pub does_none : (x : Going g inputs) (c : Context) (n : ℕ) → Does x x c n n
  does_none x c n = record { adds = adds_none x (λ a. Under c n n (seat a)); closed = closes_none g inputs well count x c n }

  pub does_then : (x y w : Going g inputs) (c : Context) (lo mid hi : ℕ) → lo ≤ mid → mid ≤ hi → On g inputs well count y w → Does x y c lo mid
      → Does y w c mid hi → Does x w c lo hi
  does_then x y w c lo mid hi below above on h k = record {
    adds = adds_then x y w (λ a. Under c lo mid (seat a)) (λ a. Under c mid hi (seat a)) (λ a. Under c lo hi (seat a)) h.adds k.adds
        (λ a b i j. precedes_apart a b c lo mid hi i j) (λ a i. under_more c lo mid lo hi (seat a) (omega arith) above i)
        (λ a i. under_more c mid hi lo hi (seat a) below (omega arith) i);
    closed = closes_both g inputs well count w c lo mid hi (closes_on g inputs well count y w on c lo mid h.closed) k.closed;
  }

  -- the second part first
  pub does_before : (x y w : Going g inputs) (c : Context) (lo mid hi : ℕ) → lo ≤ mid → mid ≤ hi → On g inputs well count y w → Does x y c mid hi
      → Does y w c lo mid → Does x w c lo hi
  does_before x y w c lo mid hi below above on h k = record {
    adds = adds_then x y w (λ a. Under c mid hi (seat a)) (λ a. Under c lo mid (seat a)) (λ a. Under c lo hi (seat a)) h.adds k.adds
        (λ a b i j. precedes_turned a b c lo mid hi i j) (λ a i. under_more c mid hi lo hi (seat a) below (omega arith) i)
        (λ a i. under_more c lo mid lo hi (seat a) (omega arith) above i);
    closed = closes_both g inputs well count w c lo mid hi k.closed (closes_on g inputs well count y w on c mid hi h.closed);
  }

  pub does_to : (x y : Going g inputs) (c : Context) (lo hi to : ℕ) → hi ≡ to → Does x y c lo hi → Does x y c lo to
  does_to x y c lo hi to e h = subst (λ hi. Does x y c lo hi) e h

  -- A NODE THAT HAS FIRED
  pub fires_does : (x : Going g inputs) (c : Context) (b : Block ℕ) → block_of (flow_of g) c ≡ Some b → (n : ℕ) (line : Node ℕ) → node_at b n ≡ Some line
      → IsPlain line.kind → (vs : List Value) (d : Deed) (e : Extended g inputs well count x (Fires c n vs) d) → Does x e.to c n (n + 1)
  fires_does x c b eb n line el plain vs d e = record {
    adds = adds_one x (Fires c n vs) d (λ a. Under c n (n + 1) (seat a)) e (own_called c n);
    closed = closes_quiet g inputs well count e.to c b eb n line el (plain_calls line.kind plain) (plain_loops line.kind plain)
        (line_fired g inputs well count e.to c b eb n line el (plain_fires line.kind plain) vs e.happened);
  }
