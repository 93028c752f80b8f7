-- Worked examples: what the equations are for small graphs.
use Rattle.std.proofs.Common.{◌≡◌, ℕ, zero, suc, ◌<◌, ℤ, Bool, true, false, List, [], ◌∷◌, Some, refl, sym, ap, ◌∙◌, subst, arith, if◌then◌else◌}
use Rattle.std.specs.Prelude.{pos, negsuc}
use Rattle.std.specs.Int.{w64, int_wrapping_add}
use Rattle.std.proofs.lemmas.Option.{same_Some}
use Rattle.tags.specs.declared.value.Value.{Value}
use Rattle.tags.specs.declared.value.Value.TheVariants.{Int}
use Rattle.operators.specs.Values.{truth, apply1, apply2, index_in}
use Rattle.operators.specs.declared.Unary.TheVariants.{Neg, Not}
use Rattle.operators.specs.declared.Binary.TheVariants.{Add}
use Rattle.semantics.specs.declared.graph.Region.{Region}
use Rattle.semantics.specs.declared.graph.Region.TheVariants.{Root, Arm}
use Rattle.semantics.specs.declared.graph.Source.{Source}
use Rattle.semantics.specs.declared.graph.Kind.{Kind}
use Rattle.semantics.specs.declared.graph.Kind.TheVariants.{Apply1, Apply2, Cond, Enter, Merge, Fetch, Store, Call, Loop}
use Rattle.semantics.specs.Graph.{Node, Block, Flow}
use Rattle.semantics.specs.Meaning.{Main, Called, Turned, State, Activity, Fires, Run, start, origin_at}
use Rattle.law_confluence.specs.EquationsHave.{Gives, stores_of}
use Rattle.law_confluence.specs.Equations.{Fetched, Storing}
use Rattle.law_confluence.specs.EquationsSettled.{Settled}

abbrev pub from : ℕ → Source
from n = record { node = n; port = 0 }

abbrev pub line : Region → Kind ℕ → List Source → Node ℕ
line r k ss = record { region = r; kind = k; sources = ss }

abbrev pub alone : Block ℕ → Flow
alone b = record { version = 2; arrays = 4 ∷ []; blocks = b ∷ []; main = 0 }

-- x + y
abbrev pub adding : Flow
adding = alone record { inputs = 2; outputs = 1; nodes = line Root (Apply2 Add) (from 0 ∷ from 1 ∷ []) ∷ []; results = from 2 ∷ [] }

pub adds_inputs : (x y : ℤ) (run : List Activity) (s : State) (r : Run adding (start (x ∷ y ∷ [])) run s)
    → Settled adding (x ∷ y ∷ []) run s r → s.memory.outputs 0 ≡ Some (Int (int_wrapping_add w64 x y))
adds_inputs x y run s r h =
    let g = h.given Main 2 0 tt tt (omega arith) in
    let e = h.equations Main 2 0 g.0 g.1 in
    let a = h.equations Main 0 0 e.0 e.2 in
    let b = h.equations Main 1 0 e.1 e.3 in
    let ea : e.0 ≡ Int x = a.1.2 ∙ ap Int (sym (same_Some x a.1.0 a.1.1)) in
    let eb : e.1 ≡ Int y = b.1.2 ∙ ap Int (sym (same_Some y b.1.0 b.1.1)) in
    h.results_outputs 0 g.0 g.1 ∙ ap Some
    (e.4 ∙ ap (λ a. apply2 Add a e.1 (origin_at adding Main 2)) ea ∙ ap (λ b. apply2 Add (Int x) b (origin_at adding Main 2)) eb)

-- x where x is not 0, and otherwise its negation
abbrev pub choosing : Flow
choosing = alone record {
  inputs = 1;
  outputs = 1;
  nodes =
      line Root Cond (from 0 ∷ []) ∷ line (Arm 1 true) Enter (from 0 ∷ []) ∷ line (Arm 1 false) Enter (from 0 ∷ [])
      ∷ line (Arm 1 false) (Apply1 Neg) (from 3 ∷ []) ∷ line Root (Merge 1) (from 2 ∷ from 4 ∷ []) ∷ [];
  results = from 5 ∷ [];
}

abbrev Chosen : List Activity → State → Bool → Value → Type 0
Chosen run s t v = Gives choosing run s.memory Main (if t then from 2 else from 4).node (if t then from 2 else from 4).port v

pub chooses : (x : ℤ) (run : List Activity) (s : State) (r : Run choosing (start (x ∷ [])) run s)
    → Settled choosing (x ∷ []) run s r → s.memory.outputs 0 ≡ Some (if truth (Int x) then Int x else apply1 Neg (Int x))
chooses x run s r h =
    let g = h.given Main 5 0 tt tt (omega arith) in
    let e = h.equations Main 5 0 g.0 g.1 in
    h.results_outputs 0 g.0 g.1 ∙ ap Some (side g.0 (truth (Int x)) (subst (λ (q : Value). Chosen run s (truth q) g.0) (input e.0 e.1) e.2))
  where
    input : (v : Value) → Gives choosing run s.memory Main 0 0 v → v ≡ Int x
    input v k = let a = h.equations Main 0 0 v k in a.1.2 ∙ ap Int (sym (same_Some x a.1.0 a.1.1))

    side : (v : Value) (t : Bool) → Chosen run s t v → v ≡ (if t then Int x else apply1 Neg (Int x))
    side v true k = input v (h.equations Main 2 0 v k)
    side v false k =
        let a = h.equations Main 4 0 v k in
        a.2 ∙ ap (λ a. apply1 Neg a) (input a.0 (h.equations Main 3 0 a.0 a.1))

-- stores in order, with their cells; a store outside of its array fills none
abbrev pub storing : Flow
storing = alone record { inputs = 2; outputs = 1; nodes = line Root (Store 0) (from 0 ∷ from 1 ∷ []) ∷ []; results = from 2 ∷ [] }

pub stores_three : stores_of storing (Fires Main 0 (Int (pos 3) ∷ []) ∷ Fires Main 2 (Int (pos 3) ∷ Int (pos 7) ∷ []) ∷ [])
    ≡ record { context = Main; node = 2; cell = 3; value = Int (pos 7) } ∷ []
stores_three = refl

pub stores_none : stores_of storing (Fires Main 2 (Int (pos 4) ∷ Int (pos 7) ∷ []) ∷ []) ≡ []
stores_none = refl

-- a call of a block that doubles what it is given
abbrev pub doubling : Flow
doubling = record {
  version = 2;
  arrays = [];
  blocks = record { inputs = 1; outputs = 1; nodes = line Root (Call 1) (from 0 ∷ []) ∷ []; results = from 1 ∷ [] } ∷
      record { inputs = 1; outputs = 1; nodes = line Root (Apply2 Add) (from 0 ∷ from 0 ∷ []) ∷ []; results = from 1 ∷ [] } ∷ [];
  main = 0;
}

pub doubles : (x : ℤ) (run : List Activity) (s : State) (r : Run doubling (start (x ∷ [])) run s)
    → Settled doubling (x ∷ []) run s r → s.memory.outputs 0 ≡ Some (Int (int_wrapping_add w64 x x))
doubles x run s r h =
    let g = h.given Main 1 0 tt tt (omega arith) in
    let e = h.equations Main 1 0 g.0 g.1 in
    let f = h.equations (Called Main 1) 1 0 g.0 e.1 in
    let o = origin_at doubling (Called Main 1) 1 in
    h.results_outputs 0 g.0 g.1 ∙ ap Some (f.4 ∙ ap (λ a. apply2 Add a f.1 o) (input f.0 f.2) ∙ ap (λ b. apply2 Add (Int x) b o) (input f.1 f.3))
  where
    input : (v : Value) → Gives doubling run s.memory (Called Main 1) 0 0 v → v ≡ Int x
    input v k =
        let a = h.equations (Called Main 1) 0 0 v k in
        let b = h.equations Main 0 0 v a.1 in
        b.1.2 ∙ ap Int (sym (same_Some x b.1.0 b.1.1))

-- a loop whose turn takes x, goes on while x is not 0, and carries the negation of `not x`, which is x + 1
abbrev pub looping : Flow
looping = record {
  version = 2;
  arrays = [];
  blocks = record { inputs = 1; outputs = 1; nodes = line Root (Loop 1 2) (from 0 ∷ []) ∷ []; results = from 1 ∷ [] } ∷
      record {
        inputs = 1;
        outputs = 2;
        nodes = line Root (Apply1 Not) (from 0 ∷ []) ∷ line Root (Apply1 Neg) (from 1 ∷ []) ∷ [];
        results = from 0 ∷ from 2 ∷ [];
      } ∷ [];
  main = 0;
}

-- from -1 there are two turns, with -1 and with 0, and the result is 1
module _ (run : List Activity) (s : State) (r : Run looping (start (negsuc 0 ∷ [])) run s) (h : Settled looping (negsuc 0 ∷ []) run s r) where
  abbrev Turn : ℕ → ℕ → Value → Type 0
  Turn i n v = Gives looping run s.memory (Turned Main 1 i) n 0 v

  carried : (i : ℕ) (v : Value) → Turn i 2 v → (a : Value) × Turn i 0 a × (v ≡ apply1 Neg (apply1 Not a))
  carried i v k =
      let e = h.equations (Turned Main 1 i) 2 0 v k in
      let f = h.equations (Turned Main 1 i) 1 0 e.0 e.1 in
      (f.0, f.1, e.2 ∙ ap (λ a. apply1 Neg a) f.2)

  first : (v : Value) → Turn 0 0 v → v ≡ Int (negsuc 0)
  first v k =
      let a = h.equations (Turned Main 1 0) 0 0 v k in
      let b = h.equations Main 0 0 v a.1 in
      b.1.2 ∙ ap Int (sym (same_Some (negsuc 0) b.1.0 b.1.1))

  second : (v : Value) → Turn 1 0 v → v ≡ Int (pos 0)
  second v k =
      let a = h.equations (Turned Main 1 1) 0 0 v k in
      let b = carried 0 v a.1 in
      b.2 ∙ ap (λ a. apply1 Neg (apply1 Not a)) (first b.0 b.1)

  ends : (g : Value) (t : ℕ) → ((i : ℕ) → i < t → (q : Value) × Turn i 0 q × (truth q ≡ true)) → ((q : Value) × Turn t 0 q × (truth q ≡ false)) → Turn t 2 g
      → g ≡ Int (pos 1)
  ends g zero on off k = cc (ap truth (first off.0 off.1), off.2)
  ends g (suc zero) on off k = let b = carried 1 g k in b.2 ∙ ap (λ a. apply1 Neg (apply1 Not a)) (second b.0 b.1)
  ends g (suc (suc t)) on off k = let q = on 1 (omega arith) in cc (ap truth (second q.0 q.1), q.2)

  pub loops : s.memory.outputs 0 ≡ Some (Int (pos 1))
  loops =
      let g = h.given Main 1 0 tt tt (omega arith) in
      let e = h.equations Main 1 0 g.0 g.1 in
      h.results_outputs 0 g.0 g.1 ∙ ap Some (ends g.0 e.turns e.on e.off e.result)

-- the place in the array that a fetch and a store name, and what is there in the end
abbrev pub keeping : Flow
keeping =
    alone record { inputs = 2; outputs = 1; nodes = line Root (Store 0) (from 0 ∷ from 1 ∷ []) ∷ line Root (Fetch 0) (from 0 ∷ []) ∷ []; results = from 3 ∷ [] }

pub keeps : (x : ℤ) (run : List Activity) (s : State) (r : Run keeping (start (pos 3 ∷ x ∷ [])) run s)
    → Settled keeping (pos 3 ∷ x ∷ []) run s r → (s.memory.cells 3 ≡ Some (Int x)) × (s.memory.outputs 0 ≡ Some (Int x))
keeps x run s r h =
    let g = h.given Main 2 0 tt tt (omega arith) in
    let e = h.equations Main 2 0 g.0 g.1 in
    let stores = subst (λ (i : Value). Storing keeping (pos 3 ∷ x ∷ []) run s r Main 2 0 e.1 (index_in 4 i (origin_at keeping Main 2)) g.0)
    (index e.0 e.2) e.4 in
    let cell = stores.1 ∙ ap Some (value e.1 e.3) in
    let k = h.given Main 3 0 tt tt (omega arith) in
    let f = h.equations Main 3 0 k.0 k.1 in
    let fetched = subst (λ (i : Value). Fetched keeping (pos 3 ∷ x ∷ []) run s r 0 (index_in 4 i (origin_at keeping Main 3)) k.0) (index f.0 f.1) f.2 in
    (cell, h.results_outputs 0 k.0 k.1 ∙ sym fetched ∙ cell)
  where
    index : (v : Value) → Gives keeping run s.memory Main 0 0 v → v ≡ Int (pos 3)
    index v k = let a = h.equations Main 0 0 v k in a.1.2 ∙ ap Int (sym (same_Some (pos 3) a.1.0 a.1.1))

    value : (v : Value) → Gives keeping run s.memory Main 1 0 v → v ≡ Int x
    value v k = let a = h.equations Main 1 0 v k in a.1.2 ∙ ap Int (sym (same_Some x a.1.0 a.1.1))
