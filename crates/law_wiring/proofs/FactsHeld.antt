-- What holds of a code block's holders, from how its instructions were added.
use Rattle.std.proofs.Common.{◌≡◌, ℕ, ◌<◌, ◌⊎◌, ◌&&◌, Bool, true, false, refl, sym, ap, ◌∙◌, subst, inl, inr, Some}
use Rattle.std.specs.Prelude.{slice_get, Contains}
use Rattle.lemmas.proofs.Contains.{contains_get}
use Rattle.lemmas.proofs.SliceGet.{map_get, map_get_back}
use Rattle.semantics.specs.declared.program.Op.{Op}
use Rattle.semantics.specs.declared.program.Op.TheVariants.{Apply1, Apply2, Apply2Right, Apply2Left, Lit, Copy, Sync, Switch, Fetch, Store, Frame, Link, Send}
use Rattle.semantics.specs.declared.program.Op.TheVariants.{Return, Ask, Open, Take, Give, Drain, Release}
use Rattle.semantics.specs.Program.{Instr, CodeBlock}
use Rattle.semantics.specs.Plan.{OneHolder, IsFirst, is_open, is_credit}
use Rattle.semantics.specs.Rule.{slot_of}
use Rattle.semantics.specs.Wired.{LoopsAgree, part_of, bound_of}
use Rattle.schemas.specs.Builds.{takes_holder}
use Rattle.law_wiring.specs.Facts.{HoldsRightly}
use Rattle.law_wiring.proofs.FactsHeads.{same_at, head, heads}
use Rattle.law_wiring.proofs.KeepingSteps.{Stage}
use Rattle.law_wiring.proofs.FactsHolders.{is_later, is_later_part, holder_first, Held, OpenAt}

-- OPERATIONS. What uses a slot has a holder of its own, or that of its loop.
uses_slot : (i : Instr) (op : Op) (h : ℕ) → slot_of i op ≡ Some h → ((takes_holder op ≡ true) ⊎ (is_later op ≡ true)) × (i.slot ≡ h)
uses_slot i (Apply1 u) h e = absurd (cc)
uses_slot i (Apply2 u) h e = (inl refl, cc)
uses_slot i (Apply2Right u z) h e = absurd (cc)
uses_slot i (Apply2Left u z) h e = absurd (cc)
uses_slot i (Lit z) h e = absurd (cc)
uses_slot i Copy h e = absurd (cc)
uses_slot i Sync h e = (inl refl, cc)
uses_slot i Switch h e = (inl refl, cc)
uses_slot i (Fetch a) h e = absurd (cc)
uses_slot i (Store a) h e = (inl refl, cc)
uses_slot i Frame h e = absurd (cc)
uses_slot i (Link b) h e = absurd (cc)
uses_slot i (Send b x) h e = (inl refl, cc)
uses_slot i (Return x) h e = (inl refl, cc)
uses_slot i (Ask x) h e = (inl refl, cc)
uses_slot i (Open k) h e = (inl refl, cc)
uses_slot i (Take k) h e = (inr refl, cc)
uses_slot i (Give k) h e = (inr refl, cc)
uses_slot i (Drain k) h e = (inr refl, cc)
uses_slot i (Release x) h e = (inl refl, cc)

own_slot : (i : Instr) (op : Op) → takes_holder op ≡ true → (slot_of i op ≡ Some i.slot) × IsFirst op
own_slot i (Apply1 u) e = absurd (cc)
own_slot i (Apply2 u) e = (refl, tt)
own_slot i (Apply2Right u z) e = absurd (cc)
own_slot i (Apply2Left u z) e = absurd (cc)
own_slot i (Lit z) e = absurd (cc)
own_slot i Copy e = absurd (cc)
own_slot i Sync e = (refl, tt)
own_slot i Switch e = (refl, tt)
own_slot i (Fetch a) e = absurd (cc)
own_slot i (Store a) e = (refl, tt)
own_slot i Frame e = absurd (cc)
own_slot i (Link b) e = absurd (cc)
own_slot i (Send b x) e = (refl, tt)
own_slot i (Return x) e = (refl, tt)
own_slot i (Ask x) e = (refl, tt)
own_slot i (Open k) e = (refl, tt)
own_slot i (Take k) e = absurd (cc)
own_slot i (Give k) e = absurd (cc)
own_slot i (Drain k) e = absurd (cc)
own_slot i (Release x) e = (refl, tt)

later_credit : (op : Op) → is_later op ≡ true → (is_credit op ≡ true) × (is_open op ≡ false)
later_credit (Take k) e = (refl, refl)
later_credit (Give k) e = (refl, refl)
later_credit (Drain k) e = (refl, refl)
later_credit (Apply1 u) e = absurd (cc)
later_credit (Apply2 u) e = absurd (cc)
later_credit (Apply2Right u z) e = absurd (cc)
later_credit (Apply2Left u z) e = absurd (cc)
later_credit (Lit z) e = absurd (cc)
later_credit Copy e = absurd (cc)
later_credit Sync e = absurd (cc)
later_credit Switch e = absurd (cc)
later_credit (Fetch a) e = absurd (cc)
later_credit (Store a) e = absurd (cc)
later_credit Frame e = absurd (cc)
later_credit (Link b) e = absurd (cc)
later_credit (Send b x) e = absurd (cc)
later_credit (Return x) e = absurd (cc)
later_credit (Ask x) e = absurd (cc)
later_credit (Open k) e = absurd (cc)
later_credit (Release x) e = absurd (cc)

both_false : (s t : Bool) → t ≡ false → s && t ≡ false
both_false true t e = e
both_false false t e = refl

module _ (c : CodeBlock) (stage : Stage) (opened : ℕ) (held : Held stage (heads c.instrs) c.slots opened) where
  up : (n : ℕ) (i : Instr) → slice_get c.instrs n ≡ Some i → slice_get (heads c.instrs) n ≡ Some (head i)
  up n i e = map_get head c.instrs n i e

  -- an instruction with the holder of a `take`, `give` or `drain`, and a holder of its own, is the loop's `open`
  its_open : (m n : ℕ) (i j : Instr) → slice_get c.instrs m ≡ Some i → slice_get c.instrs n ≡ Some j → takes_holder i.op ≡ true → is_later j.op ≡ true
      → i.slot ≡ j.slot
      → i.op ≡ Open (bound_of (part_of j.op))
  its_open m n i j e f p l s =
      let o : OpenAt (heads c.instrs) (bound_of (part_of j.op)) j.slot = held.told n (head j) (up n j f) l in
      let place : m ≡ o.0 = held.first m o.0 (head i) o.1 (up m i e) o.2 p (ap takes_holder o.3) (s ∙ sym o.4) in
      let same : head i ≡ o.1 = same_at (heads c.instrs) m o.0 (head i) o.1 place (up m i e) o.2 in
      ap (λ (x : Instr). x.op) same ∙ o.3

  open_credit : (op : Op) (k : ℕ) → op ≡ Open k → is_credit op ≡ true
  open_credit op k e = ap is_credit e

  pub one_holder : OneHolder c
  one_holder m n h i j e f p q =
      let a = uses_slot i i.op h p in
      let b = uses_slot j j.op h q in
      go (a.1 ∙ sym b.1) a.0 b.0
    where
      go : i.slot ≡ j.slot → (takes_holder i.op ≡ true) ⊎ (is_later i.op ≡ true) → (takes_holder j.op ≡ true) ⊎ (is_later j.op ≡ true)
          → (m ≡ n) ⊎ ((is_credit i.op ≡ true) × (is_credit j.op ≡ true) × (is_open i.op && is_open j.op ≡ false))
      go s (inl x) (inl y) = inl (held.first m n (head i) (head j) (up m i e) (up n j f) x y s)
      go s (inl x) (inr y) =
          let l = later_credit j.op y in
          inr (open_credit i.op (bound_of (part_of j.op)) (its_open m n i j e f x y s), l.0, both_false (is_open i.op) (is_open j.op) l.1)
      go s (inr x) (inl y) =
          let l = later_credit i.op x in
          inr (l.0, open_credit j.op (bound_of (part_of i.op)) (its_open n m j i f e y x (sym s)), ap (λ t. t && is_open j.op) l.1)
      go s (inr x) (inr y) = let k = later_credit i.op x in let l = later_credit j.op y in inr (k.0, l.0, ap (λ t. t && is_open j.op) k.1)

  pub loops_agree : LoopsAgree c
  loops_agree m n h i j e f p q =
      let a = uses_slot i i.op h p in
      let b = uses_slot j j.op h q in
      go (a.1 ∙ sym b.1) a.0 b.0
    where
      bound : (x y : Op) → x ≡ Open (bound_of (part_of y)) → bound_of (part_of x) ≡ bound_of (part_of y)
      bound x y z = ap (λ op. bound_of (part_of op)) z

      -- an `open` is no `take`, `give` or `drain`
      unlike : (x y : Op) → takes_holder x ≡ true → is_later y ≡ true → part_of x ≡ part_of y → ⊥
      unlike x y s l z =
          let one : is_later x ≡ false = holder_first x s in
          let two : is_later x ≡ is_later y = ap is_later_part z in
          absurd (cc)

      go : i.slot ≡ j.slot → (takes_holder i.op ≡ true) ⊎ (is_later i.op ≡ true) → (takes_holder j.op ≡ true) ⊎ (is_later j.op ≡ true)
          → (bound_of (part_of i.op) ≡ bound_of (part_of j.op)) × (part_of i.op ≡ part_of j.op → m ≡ n)
      go s (inl x) (inl y) =
          let place : m ≡ n = held.first m n (head i) (head j) (up m i e) (up n j f) x y s in
          (ap (λ (z : Instr). bound_of (part_of z.op)) (same_at c.instrs m n i j place e f), λ z. place)
      go s (inl x) (inr y) = (bound i.op j.op (its_open m n i j e f x y s), λ z. absurd (unlike i.op j.op x y z))
      go s (inr x) (inl y) = (sym (bound j.op i.op (its_open n m j i f e y x (sym s))), λ z. absurd (unlike j.op i.op y x (sym z)))
      go s (inr x) (inr y) =
          let k : ℕ = bound_of (part_of i.op) in
          let l : ℕ = bound_of (part_of j.op) in
          let a : OpenAt (heads c.instrs) k i.slot = held.told m (head i) (up m i e) x in
          let b : OpenAt (heads c.instrs) l j.slot = held.told n (head j) (up n j f) y in
          let place : a.0 ≡ b.0 = held.first a.0 b.0 a.1 b.1 a.2 b.2 (ap takes_holder a.3) (ap takes_holder b.3) (a.4 ∙ s ∙ sym b.4) in
          let op : Open k ≡ Open l = sym a.3 ∙ ap (λ (z : Instr). z.op) (same_at (heads c.instrs) a.0 b.0 a.1 b.1 place a.2 b.2) ∙ b.3 in
          (ap (λ x. bound_of (part_of x)) op, λ z. held.once m n (head i) (head j) (up m i e) (up n j f) x s z)

  pub holders_below : (i : Instr) (h : ℕ) → Contains c.instrs i → slot_of i i.op ≡ Some h → h < c.slots
  holders_below i h there p =
      let at = contains_get c.instrs i there in
      let a = uses_slot i i.op h p in
      subst (λ k. k < c.slots) a.1 (go at.0 at.1 a.0)
    where
      go : (n : ℕ) → slice_get c.instrs n ≡ Some i → (takes_holder i.op ≡ true) ⊎ (is_later i.op ≡ true) → i.slot < c.slots
      go n e (inl x) = held.below n (head i) (up n i e) x
      go n e (inr x) =
          let o : OpenAt (heads c.instrs) (bound_of (part_of i.op)) i.slot = held.told n (head i) (up n i e) x in
          subst (λ k. k < c.slots) o.4 (held.below o.0 o.1 o.2 (ap takes_holder o.3))

  pub holders_used : (h : ℕ) → h < c.slots → (n : ℕ) × (i : Instr) × (slice_get c.instrs n ≡ Some i) × (slot_of i i.op ≡ Some h) × IsFirst i.op
  holders_used h l =
      let u = held.used h l in
      let i = map_get_back head c.instrs u.0 u.1 u.2 in
      let has : takes_holder i.0.op ≡ true = ap (λ (x : Instr). takes_holder x.op) i.2 ∙ u.3 in
      let own = own_slot i.0 i.0.op has in
      let slot : i.0.slot ≡ h = ap (λ (x : Instr). x.slot) i.2 ∙ u.4 in
      (u.0, i.0, i.1, own.0 ∙ ap (λ k. Some k) slot, own.1)

  pub holds_rightly : HoldsRightly c
  holds_rightly = record { holders = one_holder; below = holders_below; used = holders_used; loops = loops_agree }
