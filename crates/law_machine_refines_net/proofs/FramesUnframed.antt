-- A context for which a frame is asked has none yet, and nothing has arrived in it.
use Rattle.std.proofs.Common.{◌≡◌, ℕ, ◌+◌, Bool, true, false, List, [], ◌∷◌, ◌++◌, refl, sym, ap, ◌∙◌, subst, inl, inr, ◌⊎◌, arith, true≢false, Option, Some}
use Rattle.std.proofs.Common.{None, if◌then◌else◌}
use Rattle.std.specs.Prelude.{Contains, flat_map}
use Rattle.std.proofs.lemmas.Bool.{cases_eq, false_from_ne_true}
use Rattle.std.proofs.lemmas.List.Elements.{Contains-append_right}
use Rattle.std.proofs.lemmas.List.Sorted.{IsPermutation-sym, Contains-permutation}
use Rattle.std.proofs.lemmas.Option.{same_Some}
use Rattle.lemmas.proofs.Contains.{contains_head, contains_tail}
use Rattle.semantics.specs.Graph.{Flow}
use Rattle.semantics.specs.Meaning.{Context, Main, Called, Turned}
use Rattle.semantics.specs.Cause.{is_turn}
use Rattle.law_confluence.specs.EquationsContexts.{same_context}
use Rattle.law_confluence.proofs.EquationsContexts.{same_context_is}
use Rattle.law_net.specs.ContextsParts.{Part, Asked, NextAsked, Drained, Item, Firing, spot_of}
use Rattle.law_net.specs.ContextsBlocks.{is_loop}
use Rattle.law_net.specs.Contexts.{block_in, child, next}
use Rattle.law_net.specs.ContextsFirings.{Config, takes, handed_to, frame_at, frame_if, times}
use Rattle.law_net.specs.ContextsLaws.{is_main, spot_there}
use Rattle.law_net.specs.ContextsMirror.{is_item_at, items_at, came, Mirrors}
use Rattle.law_machine_refines_net.specs.MovesCases.{Taking, net_of}
use Rattle.law_machine_refines_net.proofs.MovesLists.{count_none}
use Rattle.law_net.proofs.WiredSends.{first_taken, takes_first, first_context, part_there}
use Rattle.law_net.proofs.WiredNets.{not_twice, taken_in, came_all}
use Rattle.law_net.proofs.RunsArrives.{fired_fit}
use Rattle.law_net.proofs.RunsPigeons.{item_there}
use Rattle.law_net.proofs.Credits.{firing_of as some_firing_of}

-- WHO HANDED A FRAME OUT
from_if : (o : Option Context) (c : Context) (g k : ℕ) (other : Option ℕ) → frame_if o c g other ≡ Some k → ((o ≡ Some c) × (g ≡ k)) ⊎ (other ≡ Some k)
from_if None c g k other e = inr e
from_if (Some d) c g k other e = pick (same_context d c) refl e
  where
    pick : (t : Bool) → same_context d c ≡ t → (if t then Some g else other) ≡ Some k → ((Some d ≡ Some c) × (g ≡ k)) ⊎ (other ≡ Some k)
    pick true s e = inl (ap (λ (x : Context). Some x) (same_context_is d c s), cc)
    pick false s e = inr e

abbrev Hander : Flow → List Firing → Context → ℕ → Type 0
Hander fl fired c g = (h : Firing) × Contains fired h × (handed_to fl h.context h.part ≡ Some c) × (h.frame ≡ g)

later : (fl : Flow) (f : Firing) (fired : List Firing) (c : Context) (g : ℕ)
    → ((handed_to fl f.context f.part ≡ Some c) × (f.frame ≡ g)) ⊎ (frame_at fl fired c ≡ Some g) → (frame_at fl fired c ≡ Some g → Hander fl fired c g)
    → Hander fl (f ∷ fired) c g
later fl f fired c g (inl k) more = (f, contains_head f fired, k.0, k.1)
later fl f fired c g (inr e) more = let k = more e in (k.0, contains_tail f fired k.0 k.1, k.2, k.3)

pub hander : (fl : Flow) (fired : List Firing) (c : Context) (g : ℕ) → is_main c ≡ false → frame_at fl fired c ≡ Some g → Hander fl fired c g
hander fl fired Main g m e = absurd (true≢false m)
hander fl [] (Called d n) g m e = absurd (cc)
hander fl [] (Turned d n i) g m e = absurd (cc)
hander fl (f ∷ fired) (Called d n) g m e =
    later fl f fired (Called d n) g (from_if (handed_to fl f.context f.part) (Called d n) f.frame g (frame_at fl fired (Called d n)) e)
    (λ x. hander fl fired (Called d n) g m x)
hander fl (f ∷ fired) (Turned d n i) g m e =
    later fl f fired (Turned d n i) g (from_if (handed_to fl f.context f.part) (Turned d n i) f.frame g (frame_at fl fired (Turned d n i)) e)
    (λ x. hander fl fired (Turned d n i) g m x)

-- A CHILD AND A NEXT TURN are of one asking part
pub child_main : (fl : Flow) (c : Context) (n : ℕ) → is_main (child fl c n) ≡ false
child_main fl c n = go (is_loop (block_in fl c) n)
  where
    go : (t : Bool) → is_main (if t then Turned c n 0 else Called c n) ≡ false
    go true = refl
    go false = refl

pub next_main : (c : Context) → is_turn c ≡ true → is_main (next c) ≡ false
next_main Main e = absurd (true≢false (sym e))
next_main (Called c n) e = absurd (true≢false (sym e))
next_main (Turned c n i) e = refl

child_same : (t u : Bool) (x c : Context) (m n : ℕ) → (if t then Turned x m 0 else Called x m) ≡ (if u then Turned c n 0 else Called c n) → (x ≡ c) × (m ≡ n)
child_same true true x c m n e = (cc, cc)
child_same true false x c m n e = absurd (cc)
child_same false true x c m n e = absurd (cc)
child_same false false x c m n e = (cc, cc)

child_next : (t : Bool) (x c : Context) (m n i : ℕ) → (if t then Turned x m 0 else Called x m) ≡ Turned c n (i + 1) → ⊥
child_next true x c m n i e = let z : 0 ≡ i + 1 = cc in omega (arith, z)
child_next false x c m n i e = absurd (cc)

turn_same : (x c : Context) (m n j i : ℕ) → Turned x m (j + 1) ≡ Turned c n (i + 1) → Turned x m j ≡ Turned c n i
turn_same x c m n j i e =
    let a : x ≡ c = cc in let b : m ≡ n = cc in let z : j + 1 ≡ i + 1 = cc in let d : j ≡ i = omega (arith, z) in λ t. Turned (a t) (b t) (d t)

pub asks_child : (fl : Flow) (c : Context) (n : ℕ) (x : Context) (r : Part) → (r ≡ NextAsked → is_turn x ≡ true) → handed_to fl x r ≡ Some (child fl c n)
    → (x ≡ c) × (r ≡ Asked n)
asks_child fl c n x (Asked m) turn e =
    let k = child_same (is_loop (block_in fl x) m) (is_loop (block_in fl c) n) x c m n (same_Some (child fl x m) (child fl c n) e) in (k.0, ap Asked k.1)
asks_child fl c n x NextAsked turn e = absurd (go x (turn refl) (same_Some (next x) (child fl c n) e))
  where
    go : (x : Context) → is_turn x ≡ true → next x ≡ child fl c n → ⊥
    go Main t e = true≢false (sym t)
    go (Called y m) t e = true≢false (sym t)
    go (Turned y m i) t e = child_next (is_loop (block_in fl c) n) c y n m i (sym e)
asks_child fl c n x r turn e = absurd (cc)

pub asks_next : (fl : Flow) (c : Context) → is_turn c ≡ true → (x : Context) (r : Part) → (r ≡ NextAsked → is_turn x ≡ true) → handed_to fl x r ≡ Some (next c)
    → (x ≡ c) × (r ≡ NextAsked)
asks_next fl Main t x r turn e = absurd (true≢false (sym t))
asks_next fl (Called c n) t x r turn e = absurd (true≢false (sym t))
asks_next fl (Turned c n i) t x (Asked m) turn e = absurd (child_next (is_loop (block_in fl x) m) x c m n i (same_Some (child fl x m) (Turned c n (i + 1)) e))
asks_next fl (Turned c n i) t x NextAsked turn e = go x (turn refl) (same_Some (next x) (Turned c n (i + 1)) e)
  where
    go : (x : Context) → is_turn x ≡ true → next x ≡ Turned c n (i + 1) → (x ≡ Turned c n i) × (NextAsked ≡ NextAsked)
    go Main t e = absurd (true≢false (sym t))
    go (Called y m) t e = absurd (true≢false (sym t))
    go (Turned y m j) t e = (turn_same y c m n j i e, refl)
asks_next fl (Turned c n i) t x r turn e = absurd (cc)

module _ (s : Taking) where
  abbrev net : Config
  net = net_of s

  abbrev old : Mirrors s.fl s.p s.w s.m net
  old = s.keeps.tracks.stands

  took : (h : Firing) → Contains net.fired h → Contains (flat_map (takes s.fl) net.fired) (first_taken s.fl s.w h h.part)
  took h d = taken_in s.fl net.fired h (first_taken s.fl s.w h h.part) d (takes_first s.fl s.w h)

  -- only a turn asks for the next one
  turn_asks : (h : Firing) → Contains net.fired h → h.part ≡ NextAsked → is_turn h.context ≡ true
  turn_asks h d e = pick (part_there s.fl s.w h (fired_fit s.fl s.p s.w s.inputs s.q s.m s.good s.keeps h d))
    where
      pick : (spot_there s.fl s.w h.context h.part ≡ true) ⊎ ((n : ℕ) × (h.part ≡ Drained n) × (is_loop (block_in s.fl h.context) n ≡ true))
          → is_turn h.context ≡ true
      pick (inl k) = ap (spot_there s.fl s.w h.context) (sym e) ∙ k
      pick (inr (n, k, l)) = let z = sym e ∙ k in absurd (cc)

  -- THE EVENT'S ITEM asks for a frame of d
  module _ (d : Context) (not_main : is_main d ≡ false)
      (alone : (x : Context) (r : Part) → (r ≡ NextAsked → is_turn x ≡ true) → handed_to s.fl x r ≡ Some d → (x ≡ s.i.context) × (r ≡ s.i.inlet.part))
      (first : (h : Firing) → h.context ≡ s.i.context → h.part ≡ s.i.inlet.part → spot_of s.i ≡ spot_of (first_taken s.fl s.w h h.part)) where
    pub unframed : (g : ℕ) → frame_at s.fl net.fired d ≡ Some g → ⊥
    unframed g e =
        let k = hander s.fl net.fired d g not_main e in
        let o = alone k.0.context k.0.part (turn_asks k.0 k.1) k.2 in
        not_twice s.fl s.w s.inputs net s.keeps.sound s.i (first_taken s.fl s.w k.0 k.0.part)
        (Contains-permutation _ _ s.i (IsPermutation-sym _ _ s.perm) (contains_head s.i s.others))
        (Contains-append_right net.waiting (flat_map (takes s.fl) net.fired) (first_taken s.fl s.w k.0 k.0.part) (took k.0 k.1)) (first k.0 o.0 o.1)

  -- NOTHING ARRIVES in a context that has no frame
  module _ (d : Context) (none : (g : ℕ) → frame_at s.fl net.fired d ≡ Some g → ⊥) where
    pub no_item : (j : Item) → Contains (net.pending ++ (net.waiting ++ flat_map (takes s.fl) net.fired)) j → j.context ≡ d → ⊥
    no_item j h e = let k = old.known j h in none k.0 (subst (λ (c : Context). frame_at s.fl net.fired c ≡ Some k.0) e k.1)

    pub no_firing : (h : Firing) → Contains net.fired h → h.context ≡ d → ⊥
    no_firing h c e =
        no_item (first_taken s.fl s.w h h.part)
        (Contains-append_right net.pending (net.waiting ++ flat_map (takes s.fl) net.fired) (first_taken s.fl s.w h h.part)
        (Contains-append_right net.waiting (flat_map (takes s.fl) net.fired) (first_taken s.fl s.w h h.part) (took h c))) (first_context s.fl s.w h h.part ∙ e)

    pub no_times : (r : Part) → times d r net.fired ≡ 0
    no_times r = pick (cases_eq (times d r net.fired) 0)
      where
        pick : (times d r net.fired ≡ 0) ⊎ (times d r net.fired ≡ 0 → ⊥) → times d r net.fired ≡ 0
        pick (inl e) = e
        pick (inr n) = let k = some_firing_of d r net.fired (omega (arith, n)) in absurd (no_firing k.0 k.1 k.2)

    pub no_items : (r : Part) → items_at d r (came s.fl net) ≡ 0
    no_items r =
        count_none (is_item_at d r) (came s.fl net)
        (λ j h. false_from_ne_true (is_item_at d r j) (λ e. no_item j (came_all s.fl net j h) (item_there d r j e).0))
