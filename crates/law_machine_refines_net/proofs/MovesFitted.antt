-- What is known of each item of the net: where it is, its instruction, and that its slot is its own.
use Rattle.std.proofs.Common.{◌≡◌, ℕ, Bool, true, false, [], ◌++◌, refl, sym, ap, ◌∙◌, subst, inl, inr, ◌⊎◌, true≢false, Some, eqb-true}
use Rattle.std.specs.Prelude.{Contains, flat_map}
use Rattle.std.proofs.lemmas.List.Elements.{All-contains, Contains-append_left, Contains-append_right, Contains-append_cases}
use Rattle.std.proofs.lemmas.List.Sorted.{IsPermutation-sym, Contains-permutation}
use Rattle.lemmas.proofs.Contains.{contains_head, contains_tail}
use Rattle.tags.specs.declared.token.Port.{Port}
use Rattle.tags.specs.declared.token.Port.TheVariants.{Left, Right}
use Rattle.tags.specs.declared.slot.SlotState.TheVariants.{Empty}
use Rattle.semantics.specs.Graph.{Block, Flow}
use Rattle.semantics.specs.Meaning.{Context}
use Rattle.law_net.specs.ContextsParts.{Part, Sender, Merge, CondEnd, Landing, Giver, Taker, Drainer, Opener, Asked, NextAsked, InCell, Drained, Shown, Done}
use Rattle.law_net.specs.ContextsParts.{Freed, inlet, Item, item, spot_of}
use Rattle.law_net.specs.ContextsBlocks.{waits_in, there_in, is_loop}
use Rattle.law_net.specs.Contexts.{block_in, site_in, wiring_in, or_zero, IsContext}
use Rattle.law_net.specs.ContextsFirings.{Config, takes, frame_at}
use Rattle.law_net.specs.ContextsLaws.{Fits, Allowed, way_fits, port_fits}
use Rattle.law_net.specs.ContextsMirror.{frame_of, in_slot, slot_of, is_instr, is_in_cell, Mirrors}
use Rattle.law_net.proofs.RunsMatching.{wait_holds}
use Rattle.law_machine_refines_net.specs.MovesCases.{Taking, net_of}
use Rattle.law_machine_refines_net.proofs.MovesSites.{Coded, coded, Seated, seated, spot_instr}
use Rattle.law_machine_refines_net.proofs.MovesBare.{IsBare, all_bare}

-- WHAT WAITS FOR ANOTHER WORD
pub pair_instr : (b : Block ℕ) (r : Part) → waits_in b r ≡ true → is_instr r ≡ true
pair_instr b (Asked n) e = absurd (true≢false (sym e))
pair_instr b NextAsked e = absurd (true≢false (sym e))
pair_instr b (InCell n) e = absurd (true≢false (sym e))
pair_instr b (Drained n) e = absurd (true≢false (sym e))
pair_instr b (Shown n) e = absurd (true≢false (sym e))
pair_instr b Done e = absurd (true≢false (sym e))
pair_instr b Freed e = absurd (true≢false (sym e))
pair_instr b r e = refl

pub instr_held : (r : Part) → is_instr r ≡ true → is_in_cell r ≡ false
instr_held (InCell n) e = absurd (true≢false (sym e))
instr_held r e = refl

-- parts of whose inlets the way is 0
abbrev pub is_plain_way : Part → Bool
is_plain_way (Sender n i) = false
is_plain_way (Merge n) = false
is_plain_way (CondEnd n) = false
is_plain_way (Landing n j) = false
is_plain_way (Giver n) = false
is_plain_way (Taker n) = false
is_plain_way (Drainer n) = false
is_plain_way r = true

pub plain_way : (fl : Flow) (c : Context) (r : Part) (q : Port) (t : ℕ) → is_plain_way r ≡ true → way_fits fl c r q t ≡ true → t ≡ 0
plain_way fl c (Sender n i) q t p e = absurd (true≢false (sym p))
plain_way fl c (Merge n) q t p e = absurd (true≢false (sym p))
plain_way fl c (CondEnd n) q t p e = absurd (true≢false (sym p))
plain_way fl c (Landing n j) q t p e = absurd (true≢false (sym p))
plain_way fl c (Giver n) q t p e = absurd (true≢false (sym p))
plain_way fl c (Taker n) q t p e = absurd (true≢false (sym p))
plain_way fl c (Drainer n) q t p e = absurd (true≢false (sym p))
plain_way fl c r q t p e = eqb-true t 0 e

-- a part with one inlet has it on the left
pub lone_port : (fl : Flow) (c : Context) (r : Part) (q : Port) → waits_in (block_in fl c) r ≡ false → port_fits fl c r q ≡ true → q ≡ Left
lone_port fl c r Left e h = refl
lone_port fl c r Right e h = absurd (true≢false (sym h ∙ e))

pub bare_item : (j : Item) → j.held ≡ [] → (r : Part) (q : Port) (t : ℕ) → j.inlet.part ≡ r → j.inlet.port ≡ q → j.inlet.way ≡ t
    → j ≡ item j.context (inlet r q t) j.word
bare_item j h r q t a b c = λ k. record { context = j.context; inlet = record { part = a k; port = b k; way = c k }; word = j.word; held = h k }

module _ (s : Taking) where
  abbrev net : Config
  net = net_of s

  abbrev old : Mirrors s.fl s.p s.w s.m net
  old = s.keeps.tracks.stands

  -- it is pending or waits
  abbrev pub IsHere : Item → Type 0
  IsHere j = Contains (net.pending ++ net.waiting) j

  pub taken_here : IsHere s.i
  taken_here = Contains-append_left net.pending net.waiting s.i (Contains-permutation _ _ s.i (IsPermutation-sym _ _ s.perm) (contains_head s.i s.others))

  pub others_before : (j : Item) → Contains s.others j → Contains net.pending j
  others_before j h = Contains-permutation _ _ j (IsPermutation-sym _ _ s.perm) (contains_tail s.i s.others j h)

  pub waiting_here : (j : Item) → Contains net.waiting j → IsHere j
  waiting_here j c = Contains-append_right net.pending net.waiting j c

  pub among : (j : Item) → IsHere j → Contains (net.pending ++ (net.waiting ++ flat_map (takes s.fl) net.fired)) j
  among j c = by_case (Contains-append_cases net.pending net.waiting j c)
    where
      by_case : Contains net.pending j ⊎ Contains net.waiting j → Contains (net.pending ++ (net.waiting ++ flat_map (takes s.fl) net.fired)) j
      by_case (inl c) = Contains-append_left net.pending (net.waiting ++ flat_map (takes s.fl) net.fired) j c
      by_case (inr c) =
          Contains-append_right net.pending (net.waiting ++ flat_map (takes s.fl) net.fired) j
          (Contains-append_left net.waiting (flat_map (takes s.fl) net.fired) j c)

  pub fits : (j : Item) → IsHere j → Fits s.fl s.w (spot_of j)
  fits j c =
      (All-contains (Allowed s.fl s.w s.inputs net.fired) (net.pending ++ (net.waiting ++ flat_map (takes s.fl) net.fired)) j s.keeps.sound.allowed
      (among j c)).fits

  pub framed : (j : Item) → IsHere j → (g : ℕ) × (frame_at s.fl net.fired j.context ≡ Some g)
  framed j c = old.known j (among j c)

  pub there : (j : Item) → IsHere j → is_instr j.inlet.part ≡ true
      → there_in s.fl (site_in s.fl s.w j.context) (wiring_in s.fl s.w j.context) j.inlet.part ≡ true
  there j c i = spot_instr s.fl s.w j.context j.inlet.part i (fits j c).there

  pub code : (j : Item) → IsHere j → Coded s.fl s.p s.w s.good.wired j.context
  code j c = coded s.fl s.p s.w s.good.wired j.context (fits j c).is_context

  pub point : (j : Item) → IsHere j → is_instr j.inlet.part ≡ true → Seated s.fl s.p s.w s.good.wired j.context j.inlet.part
  point j c i = seated s.fl s.p s.w s.good.wired j.context j.inlet.part (fits j c).is_context (there j c i)

  pub bare : (j : Item) → IsHere j → is_in_cell j.inlet.part ≡ false → j.held ≡ []
  bare j c e = by_case (all_bare s.fl s.w s.inputs net s.keeps.tracks.moves j c)
    where
      by_case : IsBare j → j.held ≡ []
      by_case (inl h) = absurd (true≢false (sym h ∙ e))
      by_case (inr h) = h

  -- A SLOT IS ONE PART'S
  -- contexts with one frame
  pub one_context : (i j : Item) → IsHere i → IsHere j → frame_of s.fl net.fired i.context ≡ frame_of s.fl net.fired j.context → i.context ≡ j.context
  one_context i j a b e =
      let f = framed i a in let g = framed j b in
      let x : frame_of s.fl net.fired i.context ≡ f.0 = ap or_zero f.1 in
      let y : frame_of s.fl net.fired j.context ≡ g.0 = ap or_zero g.1 in
      old.apart i.context j.context g.0 (f.1 ∙ ap (λ n. Some n) (sym x ∙ e ∙ y)) g.1

  abbrev IsTwo : Context → Part → Type 0
  IsTwo c r = (there_in s.fl (site_in s.fl s.w c) (wiring_in s.fl s.w c) r ≡ true) × (waits_in (block_in s.fl c) r ≡ true)

  -- parts with one slot
  pub one_part : (i j : Item) → IsHere i → IsHere j → in_slot s.fl i ≡ true → in_slot s.fl j ≡ true
      → frame_of s.fl net.fired i.context ≡ frame_of s.fl net.fired j.context → slot_of s.fl s.w i ≡ slot_of s.fl s.w j
      → (i.context ≡ j.context) × (i.inlet.part ≡ j.inlet.part)
  one_part i j a b x y e d =
      let c = one_context i j a b e in
      (c, by_context j.context c (there j b (pair_instr (block_in s.fl j.context) j.inlet.part y), y) d)
    where
      by_context : (c : Context) → i.context ≡ c → IsTwo c j.inlet.part → slot_of s.fl s.w i ≡ (wiring_in s.fl s.w c).slot j.inlet.part
          → i.inlet.part ≡ j.inlet.part
      by_context c e two d =
          let h : IsTwo i.context j.inlet.part = subst (λ c. IsTwo c j.inlet.part) (sym e) two in
          let d' : slot_of s.fl s.w i ≡ (wiring_in s.fl s.w i.context).slot j.inlet.part = d ∙ ap (λ c. (wiring_in s.fl s.w c).slot j.inlet.part) (sym e) in
          (code i a).laid.holders i.inlet.part j.inlet.part (there i a (pair_instr (block_in s.fl i.context) i.inlet.part x)) h.0
          (wait_holds (block_in s.fl i.context) i.inlet.part x) (wait_holds (block_in s.fl i.context) j.inlet.part h.1) d'

  abbrev IsLoop : Item → ℕ → Context → Type 0
  IsLoop i n c = (is_loop (block_in s.fl c) n ≡ true) × ((wiring_in s.fl s.w c).slot (Opener n) ≡ slot_of s.fl s.w i)

  -- it is no loop's
  pub no_base : (i : Item) → IsHere i → in_slot s.fl i ≡ true → old.base (frame_of s.fl net.fired i.context) (slot_of s.fl s.w i) ≡ Empty
  no_base i a x = by_case (old.others (frame_of s.fl net.fired i.context) (slot_of s.fl s.w i))
    where
      no_loop : (n : ℕ) → IsLoop i n i.context → ⊥
      no_loop n (l, e) =
          let r = i.inlet.part in
          let same = (code i a).laid.holders (Opener n) r l (there i a (pair_instr (block_in s.fl i.context) r x)) refl
          (wait_holds (block_in s.fl i.context) r x) e in
          true≢false (sym x ∙ ap (waits_in (block_in s.fl i.context)) (sym same))

      by_case : (old.base (frame_of s.fl net.fired i.context) (slot_of s.fl s.w i) ≡ Empty)
          ⊎ ((c : Context) × (n : ℕ) × IsContext s.fl c × (is_loop (block_in s.fl c) n ≡ true)
          × (frame_at s.fl net.fired c ≡ Some (frame_of s.fl net.fired i.context)) × ((wiring_in s.fl s.w c).slot (Opener n) ≡ slot_of s.fl s.w i))
          → old.base (frame_of s.fl net.fired i.context) (slot_of s.fl s.w i) ≡ Empty
      by_case (inl e) = e
      by_case (inr k) =
          let f = framed i a in
          let g : frame_of s.fl net.fired i.context ≡ f.0 = ap or_zero f.1 in
          let same : k.0 ≡ i.context = old.apart k.0 i.context f.0 (k.4 ∙ ap (λ n. Some n) g) f.1 in
          absurd (no_loop k.1 (subst (IsLoop i k.1) same (k.3, k.5)))
