-- Factorial of 2, from the equations alone: three invocations, and what each port has in each of them.
use Rattle.std.proofs.Common.{◌≡◌, ℕ, Bool, true, false, List, [], ◌∷◌, Option, Some, refl, sym, ap, ◌∙◌, subst, arith, if◌then◌else◌}
use Rattle.std.specs.Prelude.{pos}
use Rattle.std.proofs.lemmas.Option.{same_Some}
use Rattle.tags.specs.declared.value.Value.{Value}
use Rattle.tags.specs.declared.value.Value.TheVariants.{Int}
use Rattle.operators.specs.Values.{truth, apply2}
use Rattle.operators.specs.declared.Binary.TheVariants.{Sub, Mul}
use Rattle.semantics.specs.declared.graph.Region.TheVariants.{Root, Arm}
use Rattle.semantics.specs.declared.graph.Kind.TheVariants.{Lit, Apply2, Cond, Enter, Merge, Call}
use Rattle.semantics.specs.Graph.{Block, Flow}
use Rattle.semantics.specs.Meaning.{Context, Main, Called, State, Activity, Run, start, block_of, node_in, origin_at}
use Rattle.law_confluence.specs.EquationsHave.{Gives, source_line, result_in}
use Rattle.law_confluence.specs.Equations.{HasSome, Argument, BlockEquation}
use Rattle.law_confluence.specs.EquationsSettled.{Settled}
use Rattle.law_confluence.proofs.EquationsExampleValues.{from, line, alone}

abbrev body : Block ℕ
body = record {
  inputs = 1;
  outputs = 1;
  nodes =
      line Root Cond (from 0 ∷ []) ∷ line (Arm 1 true) Enter (from 0 ∷ []) ∷ line (Arm 1 true) (Lit (pos 1)) (from 2 ∷ [])
      ∷ line (Arm 1 true) (Apply2 Sub) (from 2 ∷ from 3 ∷ []) ∷ line (Arm 1 true) (Call 0) (from 4 ∷ [])
      ∷ line (Arm 1 true) (Apply2 Mul) (from 2 ∷ from 5 ∷ []) ∷ line (Arm 1 false) Enter (from 0 ∷ []) ∷ line (Arm 1 false) (Lit (pos 1)) (from 7 ∷ [])
      ∷ line Root (Merge 1) (from 6 ∷ from 8 ∷ []) ∷ [];
  results = from 9 ∷ [];
}

abbrev pub fact : Flow
fact = alone body

module _ (run : List Activity) (s : State) (r : Run fact (start (pos 2 ∷ [])) run s) (h : Settled fact (pos 2 ∷ []) run s r) where
  abbrev Val : Context → ℕ → Value → Type 0
  Val c n v = Gives fact run s.memory c n 0 v

  abbrev SteeredIn : Context → ℕ → Value → Option (Block ℕ) → Type 0
  SteeredIn c n v o = BlockEquation fact (pos 2 ∷ []) run s r c n 0 v o

  abbrev Some_of : Context → Value → Type 0
  Some_of c x = (v : Value) → Val c 0 v → v ≡ x

  module _ (c : Context) (eb : block_of fact c ≡ Some body) where
    at : (n : ℕ) (v : Value) → Val c n v → SteeredIn c n v (Some body)
    at n v k = subst (λ o. SteeredIn c n v o) eb (h.equations c n 0 v k)

    source : (n : ℕ) (v : Value) → Argument fact (pos 2 ∷ []) run s r c n 0 v → HasSome fact (pos 2 ∷ []) run s r c (source_line (node_in (Some body) n) 0) v
    source n v k = subst (λ o. HasSome fact (pos 2 ∷ []) run s r c (source_line (node_in o n) 0) v) eb k

    -- where the input is true, the result is the product of it and what the call gives
    more : (x : Value) → Some_of c x → truth x ≡ true → (w : Value) → Val c 9 w → (a : Value) × Val c 5 a × (w ≡ apply2 Mul x a (origin_at fact c 6))
    more x input t w k =
        let e = at 9 w k in
        let q = input e.0 (source 1 e.0 e.1) in
        let m : Val c 6 w = subst (λ (t : Bool). Gives fact run s.memory c (if t then from 6 else from 8).node (if t then from 6 else from 8).port w)
        (ap truth q ∙ t) e.2 in
        let f = at 6 w m in
        (f.1, f.3, f.4 ∙ ap (λ a. apply2 Mul a f.1 (origin_at fact c 6)) (input f.0 (at 2 f.0 f.2)))

    -- and where it is false, the result is 1
    last : (x : Value) → Some_of c x → truth x ≡ false → (w : Value) → Val c 9 w → w ≡ Int (pos 1)
    last x input t w k =
        let e = at 9 w k in
        let q = input e.0 (source 1 e.0 e.1) in
        at 8 w (subst (λ (t : Bool). Gives fact run s.memory c (if t then from 6 else from 8).node (if t then from 6 else from 8).port w) (ap truth q ∙ t) e.2)

    -- what the call is given
    less : (x : Value) → Some_of c x → (v : Value) → Val c 4 v → v ≡ apply2 Sub x (Int (pos 1)) (origin_at fact c 4)
    less x input v k =
        let e = at 4 v k in
        let o = origin_at fact c 4 in
        e.4 ∙ ap (λ a. apply2 Sub a e.1 o) (input e.0 (at 2 e.0 e.2)) ∙ ap (λ b. apply2 Sub x b o) (at 3 e.1 e.3)

  call_gives : (c : Context) → block_of fact c ≡ Some body → block_of fact (Called c 5) ≡ Some body → (v : Value) → Val c 5 v → Val (Called c 5) 9 v
  call_gives c eb ed v k = subst (λ o. HasSome fact (pos 2 ∷ []) run s r (Called c 5) (result_in o 0) v) ed (at c eb 5 v k).1

  call_takes : (c : Context) → block_of fact c ≡ Some body → block_of fact (Called c 5) ≡ Some body → (v : Value) → Val (Called c 5) 0 v → Val c 4 v
  call_takes c eb ed v k = source c eb 5 v (at (Called c 5) ed 0 v k).1

  abbrev second : Context
  second = Called Main 5

  abbrev third : Context
  third = Called second 5

  two : Some_of Main (Int (pos 2))
  two v k = let e = at Main refl 0 v k in e.1.2 ∙ ap Int (sym (same_Some (pos 2) e.1.0 e.1.1))

  one : Some_of second (Int (pos 1))
  one v k = less Main refl (Int (pos 2)) two v (call_takes Main refl refl v k)

  zero_is : Some_of third (Int (pos 0))
  zero_is v k = less second refl (Int (pos 1)) one v (call_takes second refl refl v k)

  pub factorial : s.memory.outputs 0 ≡ Some (Int (pos 2))
  factorial =
      let w = h.given Main 9 0 tt tt (omega arith) in
      let a = more Main refl (Int (pos 2)) two refl w.0 w.1 in
      let b = more second refl (Int (pos 1)) one refl a.0 (call_gives Main refl refl a.0 a.1) in
      let c = last third refl (Int (pos 0)) zero_is refl b.0 (call_gives second refl refl b.0 b.1) in
      let inner : a.0 ≡ Int (pos 1) = b.2 ∙ ap (λ x. apply2 Mul (Int (pos 1)) x (origin_at fact second 6)) c in
      let outer : w.0 ≡ Int (pos 2) = a.2 ∙ ap (λ x. apply2 Mul (Int (pos 2)) x (origin_at fact Main 6)) inner in
      h.results_outputs 0 w.0 w.1 ∙ ap Some outer
