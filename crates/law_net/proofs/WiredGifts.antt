-- What a firing gives besides what it sends along wires, case by case.
use Rattle.std.proofs.Common.{◌≡◌, ℕ, zero, suc, ◌+◌, Bool, true, false, List, [], ◌∷◌, refl, sym, ap, ◌∙◌, subst, inl, inr, ◌⊎◌, arith, true≢false, ltb-true}
use Rattle.std.proofs.Common.{nat_lt, if◌then◌else◌}
use Rattle.std.specs.Prelude.{Contains}
use Rattle.lemmas.proofs.Contains.{contains_cases, contains_head, contains_none, contains_tail}
use Rattle.tags.specs.declared.value.Value.{Value}
use Rattle.tags.specs.declared.token.Port.TheVariants.{Left, Right}
use Rattle.semantics.specs.Graph.{Flow}
use Rattle.semantics.specs.Meaning.{Context, Main, Called, Turned}
use Rattle.law_net.specs.ContextsParts.{Part, Entry, Line, Framer, Fanned, Linker, Sender, Landing, CallDone, Giver, Taker, Drainer, LoopDone, Result, Asker}
use Rattle.law_net.specs.ContextsParts.{NextFramer, NextFanned, NextSender, LastReturn, DrainReturn, End, Asked, NextAsked, Drained, Shown, Done, Freed, inlet}
use Rattle.law_net.specs.ContextsParts.{Datum, FrameOf, BackTo, signal, Item, item, Firing}
use Rattle.law_net.specs.ContextsBlocks.{is_cell, is_loop}
use Rattle.law_net.specs.Contexts.{Wires, block_in, child, next, is_strict_in}
use Rattle.law_net.specs.ContextsFirings.{takes, arguments, arguments_from, result_back, drain_back, end_back, credit_asked, turn_before, next_entry, renewed}
use Rattle.law_net.specs.ContextsLaws.{spot_there, way_fits}
use Rattle.law_net.specs.ContextsPackages.{AllFit}
use Rattle.law_net.proofs.WiredSends.{gives_by, asks_cell, part_there, first_fits, first_taken}

-- a strict call's argument, before it fires
abbrev pub argument : Context → ℕ → ℕ → ℕ → Value → Item
argument c n m t v = item c (inlet (Sender n m) Right t) (Datum v)

pub data Gift (fl : Flow) (w : Wires) (f : Firing) (i : Item) : Type 0 where
  GHeld : (n : ℕ) → f.part ≡ Line n → is_cell (block_in fl f.context) n ≡ true → i ≡ asks_cell fl w f n → Gift fl w f i
  GAsked : (n : ℕ) → f.part ≡ Framer n → i ≡ item f.context (inlet (Asked n) Left 0) (BackTo f.context (inlet (Fanned n) Left 0)) → Gift fl w f i
  GArgument : (n m : ℕ) (v : Value) → f.part ≡ Framer n → is_strict_in fl f.context n ≡ true → Contains (renewed fl f f.part) (argument f.context n m 0 v)
      → i ≡ argument f.context n m 1 v → Gift fl w f i
  GFanned : (n : ℕ) → f.part ≡ Asked n → i ≡ item f.context (inlet (Fanned n) Left 0) (FrameOf (child fl f.context n)) → Gift fl w f i
  GEntry : (n : ℕ) → f.part ≡ Linker n → i ≡ item (child fl f.context n) (inlet Entry Left 0) (BackTo f.context (inlet (Landing n 0) Left 0)) → Gift fl w f i
  GInput : (n m : ℕ) → f.part ≡ Sender n m → i ≡ item (child fl f.context n) (inlet (Line m) Left 0) f.right → Gift fl w f i
  GShown : (j : ℕ) → f.part ≡ Result j → f.context ≡ Main → i ≡ item Main (inlet (Shown j) Left 0) f.right → Gift fl w f i
  GLanding : (d : Context) (n j : ℕ) → f.part ≡ Result j → f.context ≡ Called d n → i ≡ item d (inlet (Landing n j) Left 0) f.right → Gift fl w f i
  GLeaves : (d : Context) (n t j : ℕ) → f.part ≡ LastReturn j → f.context ≡ Turned d n t → i ≡ item d (inlet (Landing n j) Left t) f.right → Gift fl w f i
  GDrains : (d : Context) (n t : ℕ) → f.part ≡ DrainReturn → f.context ≡ Turned d n t → i ≡ item d (inlet (Drainer n) Left t) f.right → Gift fl w f i
  GFreed : f.part ≡ End → i ≡ item f.context (inlet Freed Left 0) signal → Gift fl w f i
  GDone : f.part ≡ End → f.context ≡ Main → i ≡ item Main (inlet Done Left 0) signal → Gift fl w f i
  GCallDone : (d : Context) (n : ℕ) → f.part ≡ End → f.context ≡ Called d n → i ≡ item d (inlet (CallDone n) Left 0) signal → Gift fl w f i
  GGiver : (d : Context) (n t : ℕ) → f.part ≡ End → f.context ≡ Turned d n t → i ≡ item d (inlet (Giver n) Left t) signal → Gift fl w f i
  GTaker : (d : Context) (n t : ℕ) → f.part ≡ Asker → f.context ≡ Turned d n t
      → i ≡ item d (inlet (Taker n) Left (suc t)) (BackTo (Turned d n t) (inlet NextFramer Left 0)) → Gift fl w f i
  GNextFramer : (n t : ℕ) → f.part ≡ Taker n → f.way ≡ suc t → i ≡ item (Turned f.context n t) (inlet NextFramer Left 0) signal → Gift fl w f i
  GNextAsked : f.part ≡ NextFramer → i ≡ item f.context (inlet NextAsked Left 0) (BackTo f.context (inlet NextFanned Left 0)) → Gift fl w f i
  GNextFanned : f.part ≡ NextAsked → i ≡ item f.context (inlet NextFanned Left 0) (FrameOf (next f.context)) → Gift fl w f i
  GNextEntry : (d : Context) (n t : ℕ) → f.part ≡ NextSender 0 → f.context ≡ Turned d n t → i ≡ item (Turned d n (suc t)) (inlet Entry Left 0) f.right
      → Gift fl w f i
  GNextInput : (d : Context) (n t j : ℕ) → f.part ≡ NextSender (suc j) → f.context ≡ Turned d n t
      → i ≡ item (Turned d n (suc t)) (inlet (Line j) Left 0) f.right → Gift fl w f i
  GLoopDone : (n : ℕ) → f.part ≡ Drained n → i ≡ item f.context (inlet (LoopDone n) Left 0) signal → Gift fl w f i

module _ (fl : Flow) (w : Wires) (f : Firing) (all : AllFit fl w (takes fl f)) where
  -- whether a part is there where it fires
  abbrev fires_there : Part → Bool
  fires_there (Drained n) = false
  fires_there r = true

  pub there_as : (r : Part) → f.part ≡ r → fires_there r ≡ true → spot_there fl w f.context r ≡ true
  there_as r e h = pick (part_there fl w f all)
    where
      pick : (spot_there fl w f.context f.part ≡ true) ⊎ ((n : ℕ) × (f.part ≡ Drained n) × (is_loop (block_in fl f.context) n ≡ true))
          → spot_there fl w f.context r ≡ true
      pick (inl g) = subst (λ (r : Part). spot_there fl w f.context r ≡ true) e g
      pick (inr (n, g, l)) = absurd (true≢false (sym h ∙ ap fires_there (sym e ∙ g)))

  pub there_in_context : (r : Part) → f.part ≡ r → fires_there r ≡ true → (c : Context) → f.context ≡ c → spot_there fl w c r ≡ true
  there_in_context r e h c g = subst (λ (c : Context). spot_there fl w c r ≡ true) g (there_as r e h)

  -- one item
  one_of : (i j : Item) → Contains (j ∷ []) i → i ≡ j
  one_of i j c = pick (contains_cases j [] i c)
    where
      pick : (j ≡ i) ⊎ Contains [] i → i ≡ j
      pick (inl e) = sym e
      pick (inr d) = absurd (contains_none i d)

  -- arguments that are given were taken
  argument_of : (n t m : ℕ) (vs : List Value) (i : Item) → Contains (arguments_from f.context n t m vs) i
      → (k : ℕ) × (v : Value) × (i ≡ argument f.context n k t v) × Contains (arguments_from f.context n 0 m vs) (argument f.context n k 0 v)
  argument_of n t m [] i c = absurd (contains_none i c)
  argument_of n t m (v ∷ vs) i c =
      pick (contains_cases (argument f.context n m t v) (arguments_from f.context n t (m + 1) vs) i c) (argument_of n t (m + 1) vs i)
    where
      pick : (argument f.context n m t v ≡ i) ⊎ Contains (arguments_from f.context n t (m + 1) vs) i
          → (Contains (arguments_from f.context n t (m + 1) vs) i
          → (k : ℕ) × (u : Value) × (i ≡ argument f.context n k t u) × Contains (arguments_from f.context n 0 (m + 1) vs) (argument f.context n k 0 u))
          → (k : ℕ) × (u : Value) × (i ≡ argument f.context n k t u) × Contains (arguments_from f.context n 0 m (v ∷ vs)) (argument f.context n k 0 u)
      pick (inl e) more = (m, v, sym e, contains_head (argument f.context n m 0 v) (arguments_from f.context n 0 (m + 1) vs))
      pick (inr d) more =
          let k = more d in
          (k.0, k.1, k.2, contains_tail (argument f.context n m 0 v) (arguments_from f.context n 0 (m + 1) vs) (argument f.context n k.0 0 k.1) k.3)

  strict_gift : (n : ℕ) → f.part ≡ Framer n → (s : Bool) → is_strict_in fl f.context n ≡ s → (i : Item)
      → Contains (if s then arguments_from f.context n 1 0 f.operands else []) i → Gift fl w f i
  strict_gift n e false s i c = absurd (contains_none i c)
  strict_gift n e true s i c = let k = argument_of n 1 0 f.operands i c in GArgument n k.0 k.1 e s (took k.0 k.1 k.3) k.2
    where
      took : (m : ℕ) (v : Value) → Contains (arguments_from f.context n 0 0 f.operands) (argument f.context n m 0 v)
          → Contains (renewed fl f f.part) (argument f.context n m 0 v)
      took m v d = subst (λ (r : Part). Contains (renewed fl f r) (argument f.context n m 0 v)) (sym e)
          (subst (λ (t : Bool). Contains (if t then arguments_from f.context n 0 0 f.operands else []) (argument f.context n m 0 v)) (sym s) d)

  framer_gift : (n : ℕ) → f.part ≡ Framer n → (i : Item)
      → (item f.context (inlet (Asked n) Left 0) (BackTo f.context (inlet (Fanned n) Left 0)) ≡ i) ⊎ Contains (arguments fl f.context n 1 f.operands) i
      → Gift fl w f i
  framer_gift n e i (inl g) = GAsked n e (sym g)
  framer_gift n e i (inr c) = strict_gift n e (is_strict_in fl f.context n) refl i c

  line_gift : (n : ℕ) → f.part ≡ Line n → (t : Bool) → is_cell (block_in fl f.context) n ≡ t → (i : Item)
      → Contains (if t then asks_cell fl w f n ∷ [] else []) i → Gift fl w f i
  line_gift n e true h i c = GHeld n e h (one_of i (asks_cell fl w f n) c)
  line_gift n e false h i c = absurd (contains_none i c)

  result_gift : (j : ℕ) → f.part ≡ Result j → (d : Context) → f.context ≡ d → (i : Item) → Contains (result_back d j f.right) i → Gift fl w f i
  result_gift j e Main g i c = GShown j e g (one_of i (item Main (inlet (Shown j) Left 0) f.right) c)
  result_gift j e (Called d n) g i c = GLanding d n j e g (one_of i (item d (inlet (Landing n j) Left 0) f.right) c)
  result_gift j e (Turned d n t) g i c = absurd (true≢false (sym (there_in_context (Result j) e refl (Turned d n t) g)))

  last_gift : (j : ℕ) → f.part ≡ LastReturn j → (d : Context) → f.context ≡ d → (i : Item) → Contains (result_back d j f.right) i → Gift fl w f i
  last_gift j e Main g i c = absurd (true≢false (sym (there_in_context (LastReturn j) e refl Main g)))
  last_gift j e (Called d n) g i c = absurd (true≢false (sym (there_in_context (LastReturn j) e refl (Called d n) g)))
  last_gift j e (Turned d n t) g i c = GLeaves d n t j e g (one_of i (item d (inlet (Landing n j) Left t) f.right) c)

  drain_gift : f.part ≡ DrainReturn → (d : Context) → f.context ≡ d → (i : Item) → Contains (drain_back d f.right) i → Gift fl w f i
  drain_gift e Main g i c = absurd (contains_none i c)
  drain_gift e (Called d n) g i c = absurd (contains_none i c)
  drain_gift e (Turned d n t) g i c = GDrains d n t e g (one_of i (item d (inlet (Drainer n) Left t) f.right) c)

  end_gift : f.part ≡ End → (d : Context) → f.context ≡ d → (i : Item) → Contains (end_back d) i → Gift fl w f i
  end_gift e Main g i c = GDone e g (one_of i (item Main (inlet Done Left 0) signal) c)
  end_gift e (Called d n) g i c = GCallDone d n e g (one_of i (item d (inlet (CallDone n) Left 0) signal) c)
  end_gift e (Turned d n t) g i c = GGiver d n t e g (one_of i (item d (inlet (Giver n) Left t) signal) c)

  freed_gift : f.part ≡ End → (i : Item) → (item f.context (inlet Freed Left 0) signal ≡ i) ⊎ Contains (end_back f.context) i → Gift fl w f i
  freed_gift e i (inl g) = GFreed e (sym g)
  freed_gift e i (inr c) = end_gift e f.context refl i c

  asker_gift : f.part ≡ Asker → (d : Context) → f.context ≡ d → (i : Item) → Contains (credit_asked d) i → Gift fl w f i
  asker_gift e Main g i c = absurd (contains_none i c)
  asker_gift e (Called d n) g i c = absurd (contains_none i c)
  asker_gift e (Turned d n t) g i c = let k = one_of i (item d (inlet (Taker n) Left (t + 1)) (BackTo (Turned d n t) (inlet NextFramer Left 0))) c in
      let up : t + 1 ≡ suc t = omega arith in
      GTaker d n t e g (k ∙ ap (λ (u : ℕ). item d (inlet (Taker n) Left u) (BackTo (Turned d n t) (inlet NextFramer Left 0))) up)

  -- a credit is for a turn after the first
  taker_way : (n : ℕ) → f.part ≡ Taker n → nat_lt 0 f.way ≡ true
  taker_way n e =
      subst (λ (r : Part). way_fits fl (first_taken fl w f r).context (first_taken fl w f r).inlet.part (first_taken fl w f r).inlet.port
      (first_taken fl w f r).inlet.way ≡ true) e (first_fits fl w f all).way

  taker_gift : (n : ℕ) → f.part ≡ Taker n → (t : ℕ) → f.way ≡ t → (i : Item)
      → Contains (item (turn_before f.context n t) (inlet NextFramer Left 0) signal ∷ []) i → Gift fl w f i
  taker_gift n e zero g i c = let h = ltb-true 0 f.way (taker_way n e) in absurd (omega (arith, h, g))
  taker_gift n e (suc t) g i c = GNextFramer n t e g (one_of i (item (Turned f.context n t) (inlet NextFramer Left 0) signal) c)

  next_gift : (j : ℕ) → f.part ≡ NextSender j → (d : Context) → f.context ≡ d → (i : Item) → Contains (item (next d) (next_entry j) f.right ∷ []) i
      → Gift fl w f i
  next_gift j e Main g i c = absurd (true≢false (sym (there_in_context (NextSender j) e refl Main g)))
  next_gift j e (Called d n) g i c = absurd (true≢false (sym (there_in_context (NextSender j) e refl (Called d n) g)))
  next_gift zero e (Turned d n t) g i c =
      let up : t + 1 ≡ suc t = omega arith in
      GNextEntry d n t e g (one_of i (item (Turned d n (t + 1)) (inlet Entry Left 0) f.right) c
      ∙ ap (λ (u : ℕ). item (Turned d n u) (inlet Entry Left 0) f.right) up)
  next_gift (suc j) e (Turned d n t) g i c =
      let up : t + 1 ≡ suc t = omega arith in
      GNextInput d n t j e g (one_of i (item (Turned d n (t + 1)) (inlet (Line j) Left 0) f.right) c
      ∙ ap (λ (u : ℕ). item (Turned d n u) (inlet (Line j) Left 0) f.right) up)

  gift_by : (r : Part) → f.part ≡ r → (i : Item) → Contains (gives_by fl w f r) i → Gift fl w f i
  gift_by (Line n) e i c = line_gift n e (is_cell (block_in fl f.context) n) refl i c
  gift_by (Framer n) e i c =
      framer_gift n e i (contains_cases (item f.context (inlet (Asked n) Left 0) (BackTo f.context (inlet (Fanned n) Left 0)))
      (arguments fl f.context n 1 f.operands) i c)
  gift_by (Asked n) e i c = GFanned n e (one_of i (item f.context (inlet (Fanned n) Left 0) (FrameOf (child fl f.context n))) c)
  gift_by (Linker n) e i c = GEntry n e (one_of i (item (child fl f.context n) (inlet Entry Left 0) (BackTo f.context (inlet (Landing n 0) Left 0))) c)
  gift_by (Sender n m) e i c = GInput n m e (one_of i (item (child fl f.context n) (inlet (Line m) Left 0) f.right) c)
  gift_by (Result j) e i c = result_gift j e f.context refl i c
  gift_by (LastReturn j) e i c = last_gift j e f.context refl i c
  gift_by DrainReturn e i c = drain_gift e f.context refl i c
  gift_by End e i c = freed_gift e i (contains_cases (item f.context (inlet Freed Left 0) signal) (end_back f.context) i c)
  gift_by Asker e i c = asker_gift e f.context refl i c
  gift_by (Taker n) e i c = taker_gift n e f.way refl i c
  gift_by NextFramer e i c = GNextAsked e (one_of i (item f.context (inlet NextAsked Left 0) (BackTo f.context (inlet NextFanned Left 0))) c)
  gift_by NextAsked e i c = GNextFanned e (one_of i (item f.context (inlet NextFanned Left 0) (FrameOf (next f.context))) c)
  gift_by (NextSender j) e i c = next_gift j e f.context refl i c
  gift_by (Drained n) e i c = GLoopDone n e (one_of i (item f.context (inlet (LoopDone n) Left 0) signal) c)
  gift_by r e i c = absurd (contains_none i c)

  pub gift_of : (i : Item) → Contains (gives_by fl w f f.part) i → Gift fl w f i
  gift_of i c = gift_by f.part refl i c
