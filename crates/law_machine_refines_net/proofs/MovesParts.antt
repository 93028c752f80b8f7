-- Kinds of parts: those of a loop's credits, those that hand out frames, and those that the memory depends on.
use Rattle.std.proofs.Common.{◌≡◌, ℕ, ◌+◌, Bool, true, false, ◌&&◌, List, [], ◌∷◌, refl, sym, ap, ◌∙◌, inl, inr, ◌⊎◌, true≢false, if◌then◌else◌}
use Rattle.std.specs.Prelude.{Contains, flat_map}
use Rattle.std.proofs.lemmas.List.Elements.{Contains-append_cases}
use Rattle.lemmas.proofs.Bools.{and_false}
use Rattle.lemmas.proofs.Contains.{contains_cases, contains_none}
use Rattle.tags.specs.declared.value.Value.{Value}
use Rattle.tags.specs.declared.token.Port.TheVariants.{Right}
use Rattle.semantics.specs.Graph.{Block, Flow}
use Rattle.semantics.specs.Meaning.{Context}
use Rattle.law_confluence.specs.EquationsContexts.{same_context}
use Rattle.law_net.specs.ContextsParts.{Part, Framer, Opener, Giver, Taker, Drainer, Sender, Asked, NextAsked, InCell, Drained, inlet, Datum, Item}
use Rattle.law_net.specs.ContextsParts.{item, Firing}
use Rattle.law_net.specs.ContextsParts.{same_part}
use Rattle.law_net.specs.ContextsBlocks.{waits_in}
use Rattle.law_net.specs.Contexts.{is_strict_in}
use Rattle.law_net.specs.ContextsFirings.{renewed, arguments_from}
use Rattle.law_net.specs.ContextsMirror.{is_asked, reads, is_item_at}
use Rattle.law_net.specs.ContextsWires.{is_unwired}
use Rattle.law_machine_refines_net.specs.MovesCases.{is_quiet}

-- WHAT WAITS FOR ANOTHER WORD is none of the others
pub pair_asked : (b : Block ℕ) (r : Part) → waits_in b r ≡ true → is_asked r ≡ false
pair_asked b (Asked n) e = absurd (true≢false (sym e))
pair_asked b NextAsked e = absurd (true≢false (sym e))
pair_asked b r e = refl

pub pair_quiet : (b : Block ℕ) (r : Part) → waits_in b r ≡ true → is_quiet r ≡ true
pair_quiet b (InCell n) e = absurd (true≢false (sym e))
pair_quiet b (Giver n) e = absurd (true≢false (sym e))
pair_quiet b (Taker n) e = absurd (true≢false (sym e))
pair_quiet b (Drainer n) e = absurd (true≢false (sym e))
pair_quiet b r e = refl

pub pair_reads : (fl : Flow) (x : ℕ) (i : Item) (b : Block ℕ) (r : Part) → waits_in b r ≡ true → reads fl x i r ≡ false
pair_reads fl x i b (InCell n) e = absurd (true≢false (sym e))
pair_reads fl x i b r e = refl

-- what is quiet is no part of a loop's credits
abbrev pub is_credit : Part → Bool
is_credit (Giver n) = true
is_credit (Taker n) = true
is_credit (Drainer n) = true
is_credit r = false

pub credit_apart : (r q : Part) → is_credit r ≡ false → is_credit q ≡ true → same_part r q ≡ false
credit_apart r (Giver n) e c = go r e
  where
    go : (r : Part) → is_credit r ≡ false → same_part r (Giver n) ≡ false
    go (Giver m) e = absurd (true≢false e)
    go r e = refl
credit_apart r (Taker n) e c = go r e
  where
    go : (r : Part) → is_credit r ≡ false → same_part r (Taker n) ≡ false
    go (Taker m) e = absurd (true≢false e)
    go r e = refl
credit_apart r (Drainer n) e c = go r e
  where
    go : (r : Part) → is_credit r ≡ false → same_part r (Drainer n) ≡ false
    go (Drainer m) e = absurd (true≢false e)
    go r e = refl
credit_apart r q e c = absurd (true≢false (sym c))

pub quiet_calm : (r : Part) → is_quiet r ≡ true → is_credit r ≡ false
quiet_calm (Giver n) e = absurd (true≢false (sym e))
quiet_calm (Taker n) e = absurd (true≢false (sym e))
quiet_calm (Drainer n) e = absurd (true≢false (sym e))
quiet_calm r e = refl

pub calm_item : (c : Context) (q : Part) → is_credit q ≡ true → (j : Item) → is_credit j.inlet.part ≡ false → is_item_at c q j ≡ false
calm_item c q k j e = ap (λ t. same_context j.context c && t) (credit_apart j.inlet.part q e k) ∙ and_false (same_context j.context c)

-- where a wire leads is none of them
pub given_calm : (b : Block ℕ) (r : Part) → is_unwired b r ≡ false → is_credit r ≡ false
given_calm b (Giver n) e = absurd (true≢false e)
given_calm b (Taker n) e = absurd (true≢false e)
given_calm b (Drainer n) e = absurd (true≢false e)
given_calm b r e = refl

-- what opens a loop, takes a turn, or ends a drain
abbrev pub is_lending : Part → Bool
is_lending (Opener n) = true
is_lending (Taker n) = true
is_lending (Drained n) = true
is_lending r = false

pub lending_apart : (r q : Part) → is_lending r ≡ false → is_lending q ≡ true → same_part r q ≡ false
lending_apart r (Opener n) e c = go r e
  where
    go : (r : Part) → is_lending r ≡ false → same_part r (Opener n) ≡ false
    go (Opener m) e = absurd (true≢false e)
    go r e = refl
lending_apart r (Taker n) e c = go r e
  where
    go : (r : Part) → is_lending r ≡ false → same_part r (Taker n) ≡ false
    go (Taker m) e = absurd (true≢false e)
    go r e = refl
lending_apart r (Drained n) e c = go r e
  where
    go : (r : Part) → is_lending r ≡ false → same_part r (Drained n) ≡ false
    go (Drained m) e = absurd (true≢false e)
    go r e = refl
lending_apart r q e c = absurd (true≢false (sym c))

-- arguments, which are taken and made anew, are of no loop's credits
arguments_calm : (c : Context) (n w i : ℕ) (vs : List Value) (j : Item) → Contains (arguments_from c n w i vs) j → is_credit j.inlet.part ≡ false
arguments_calm c n w i [] j h = absurd (contains_none j h)
arguments_calm c n w i (v ∷ vs) j h =
    pick (contains_cases (item c (inlet (Sender n i) Right w) (Datum v)) (arguments_from c n w (i + 1) vs) j h) (arguments_calm c n w (i + 1) vs j)
  where
    pick : (item c (inlet (Sender n i) Right w) (Datum v) ≡ j) ⊎ Contains (arguments_from c n w (i + 1) vs) j
        → (Contains (arguments_from c n w (i + 1) vs) j → is_credit j.inlet.part ≡ false) → is_credit j.inlet.part ≡ false
    pick (inl e) more = ap (λ (j : Item). is_credit j.inlet.part) (sym e)
    pick (inr d) more = more d

pub renewed_calm : (fl : Flow) (fired : List Firing) (j : Item) → Contains (flat_map (λ (f : Firing). renewed fl f f.part) fired) j
    → is_credit j.inlet.part ≡ false
renewed_calm fl [] j h = absurd (contains_none j h)
renewed_calm fl (f ∷ fired) j h =
    pick (Contains-append_cases (renewed fl f f.part) (flat_map (λ (f : Firing). renewed fl f f.part) fired) j h) (renewed_calm fl fired j)
  where
    of_call : (n : ℕ) (t : Bool) → Contains (if t then arguments_from f.context n 0 0 f.operands else []) j → is_credit j.inlet.part ≡ false
    of_call n true d = arguments_calm f.context n 0 0 f.operands j d
    of_call n false d = absurd (contains_none j d)

    by_part : (r : Part) → Contains (renewed fl f r) j → is_credit j.inlet.part ≡ false
    by_part (Framer n) d = of_call n (is_strict_in fl f.context n) d
    by_part r d = absurd (contains_none j d)

    pick : Contains (renewed fl f f.part) j ⊎ Contains (flat_map (λ (f : Firing). renewed fl f f.part) fired) j
        → (Contains (flat_map (λ (f : Firing). renewed fl f f.part) fired) j → is_credit j.inlet.part ≡ false) → is_credit j.inlet.part ≡ false
    pick (inl d) more = by_part f.part d
    pick (inr d) more = more d
