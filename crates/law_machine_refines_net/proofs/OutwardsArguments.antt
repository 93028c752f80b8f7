-- The words that meet where an argument is sent: those of a strict call are made again after it fired.
use Rattle.std.proofs.Common.{◌≡◌, ℕ, zero, suc, ◌+◌, ◌<◌, Bool, true, false, ◌&&◌, List, [], ◌∷◌, ◌++◌, length, refl, sym, ap, ◌∙◌, subst, inl, inr, ◌⊎◌}
use Rattle.std.proofs.Common.{arith, nat_lt, ltb-true, eqb-true, if◌then◌else◌}
use Rattle.std.specs.Prelude.{Contains, flat_map}
use Rattle.std.proofs.lemmas.Bool.{and_parts}
use Rattle.std.proofs.lemmas.List.Elements.{Contains-append_left, Contains-append_right, Contains-append_cases}
use Rattle.lemmas.proofs.Contains.{contains_cases, contains_head, contains_none, contains_tail}
use Rattle.tags.specs.declared.value.Value.{Value}
use Rattle.tags.specs.declared.token.Port.{Port}
use Rattle.tags.specs.declared.token.Port.TheVariants.{Left, Right}
use Rattle.semantics.specs.Graph.{Flow}
use Rattle.semantics.specs.Meaning.{Context}
use Rattle.law_confluence.specs.OrdersTotals.{one}
use Rattle.law_confluence.proofs.Net.{Waits as WaitsMove, Fires as FiresMove}
use Rattle.law_confluence.proofs.Orders.{total-append}
use Rattle.law_net.specs.ContextsParts.{Part, Framer, Sender, inlet, Datum, Item, item, Firing, Spot, spot_of, same_spot}
use Rattle.law_net.specs.ContextsBlocks.{source_count, invokes}
use Rattle.law_net.specs.Contexts.{Wires, block_in, is_strict_in}
use Rattle.law_net.specs.ContextsFirings.{Config, Move, begin, takes, own_takes, renewed, right_way, arguments_from, ProperAt, IsProperMove, ProperMoves, Still}
use Rattle.law_net.specs.ContextsFirings.{Then}
use Rattle.law_net.specs.ContextsLaws.{sender_way, way_fits, spot_there}
use Rattle.law_net.specs.ContextsMirror.{came}
use Rattle.law_net.proofs.ContextsSames.{hits_at, hit_counted, spot_is, inlet_is}
use Rattle.law_net.proofs.WiredNets.{once_all, taken_in}
use Rattle.law_net.proofs.RunsArrives.{sender_one}
use Rattle.law_net.proofs.CreditsOpened.{framed, NSender}
use Rattle.law_machine_refines_net.specs.MovesCases.{Taking, net_of}
use Rattle.law_machine_refines_net.proofs.MovesFitted.{IsHere, fits, among}
use Rattle.law_machine_refines_net.proofs.OutwardsMeeting.{Ways}

-- WHAT A CALL TOOK: a strict one all its arguments
pub framers_hold : (fl : Flow) (w : Wires) (a b : Config) → ProperMoves fl w a b
    → ((h : Firing) (n : ℕ) → Contains a.fired h → h.part ≡ Framer n
    → length h.operands ≡ (if is_strict_in fl h.context n then source_count (block_in fl h.context) n else 0))
    → (h : Firing) (n : ℕ) → Contains b.fired h → h.part ≡ Framer n
    → length h.operands ≡ (if is_strict_in fl h.context n then source_count (block_in fl h.context) n else 0)
framers_hold fl w a b (Still e) old = λ h n k g. old h n k g
framers_hold fl w a b (Then x mid y m proper more) old = framers_hold fl w mid b more (step a mid m proper old)
  where
    step : (c d : Config) (m : Move fl w c d) → IsProperMove fl w c.fired c d m
        → ((h : Firing) (n : ℕ) → Contains c.fired h → h.part ≡ Framer n
        → length h.operands ≡ (if is_strict_in fl h.context n then source_count (block_in fl h.context) n else 0))
        → (h : Firing) (n : ℕ) → Contains d.fired h → h.part ≡ Framer n
        → length h.operands ≡ (if is_strict_in fl h.context n then source_count (block_in fl h.context) n else 0)
    step c d (WaitsMove i rest a e) proper old h n k g = old h n (subst (λ (d : Config). Contains d.fired h) e k) g
    step c d (FiresMove f now kept rest others a b both e) proper old h n k g =
        pick (contains_cases f c.fired h (subst (λ (d : Config). Contains d.fired h) e k))
      where
        pick : (f ≡ h) ⊎ Contains c.fired h → length h.operands ≡ (if is_strict_in fl h.context n then source_count (block_in fl h.context) n else 0)
        pick (inr x) = old h n x g
        pick (inl same) =
            subst (λ (h : Firing). length h.operands ≡ (if is_strict_in fl h.context n then source_count (block_in fl h.context) n else 0)) same
            (subst (ProperAt fl c.fired f) (ap (λ (f : Firing). f.part) same ∙ g) proper)

has_argument : (c : Context) (n first i : ℕ) (vs : List Value) → i < length vs
    → (v : Value) × Contains (arguments_from c n 0 first vs) (item c (inlet (Sender n (first + i)) Right 0) (Datum v))
has_argument c n first i [] l = absurd (omega (arith, l))
has_argument c n first zero (v ∷ vs) l =
    let e : first ≡ first + 0 = omega arith in (
      v,
      subst (λ (t : ℕ). Contains (arguments_from c n 0 first (v ∷ vs)) (item c (inlet (Sender n t) Right 0) (Datum v))) e
          (contains_head (item c (inlet (Sender n first) Right 0) (Datum v)) (arguments_from c n 0 (first + 1) vs)),
    )
has_argument c n first (suc i) (v ∷ vs) l =
    let more = has_argument c n (first + 1) i vs (omega (arith, l)) in let e : first + 1 + i ≡ first + suc i = omega arith in (
      more.0,
      contains_tail (item c (inlet (Sender n first) Right 0) (Datum v)) (arguments_from c n 0 (first + 1) vs)
          (item c (inlet (Sender n (first + suc i)) Right 0) (Datum more.0))
          (subst (λ (t : ℕ). Contains (arguments_from c n 0 (first + 1) vs) (item c (inlet (Sender n t) Right 0) (Datum more.0))) e more.1),
    )

-- THE WAYS of what is here
module _ (s : Taking) (c : Context) (n i : ℕ) where
  abbrev net : Config
  net = net_of s

  abbrev taken : List Item
  taken = flat_map (takes s.fl) net.fired

  abbrev pub At : Item → Type 0
  At x = IsHere s x × (x.context ≡ c) × (x.inlet.part ≡ Sender n i)

  way_at : (x : Item) → At x → (q : Port) → x.inlet.port ≡ q → sender_way (is_strict_in s.fl c n) q x.inlet.way ≡ true
  way_at x h q e =
      subst (λ (q : Port). sender_way (is_strict_in s.fl c n) q x.inlet.way ≡ true) e
      (subst (λ (c : Context). sender_way (is_strict_in s.fl c n) x.inlet.port x.inlet.way ≡ true) h.1
      (subst (λ (r : Part). way_fits s.fl x.context r x.inlet.port x.inlet.way ≡ true) h.2 (fits s x h.0).way))

  pub on_left : (x : Item) → At x → x.inlet.port ≡ Left → x.inlet.way ≡ 0
  on_left x h e = eqb-true x.inlet.way 0 (way_at x h Left e)

  -- where a frame has arrived, a strict call's argument is not the old one
  not_old : is_strict_in s.fl c n ≡ true → (x y : Item) → At x → At y → x.inlet.port ≡ Left → y.inlet.port ≡ Right → y.inlet.way ≡ 0 → ⊥
  not_old strict x y a b left right old =
      let h = framed s.fl s.p s.w s.inputs s.q s.m s.good s.keeps c n x (among s x a.0) (NSender i a.1 a.2 left) in
      let f = h.0 in
      let there = subst (λ (c : Context). (invokes (block_in s.fl c) n && nat_lt i (source_count (block_in s.fl c) n)) ≡ true) a.1
      (subst (λ (r : Part). spot_there s.fl s.w x.context r ≡ true) a.2 (fits s x a.0).there) in
      let low = ltb-true i (source_count (block_in s.fl c) n) (and_parts _ _ there).1 in
      let count = framers_hold s.fl s.w (begin s.inputs) net s.keeps.tracks.moves (λ h n k. absurd (contains_none h k)) f n h.1 h.3 in
      let full : length f.operands ≡ source_count (block_in s.fl c) n = count
      ∙ ap (λ (c : Context). if is_strict_in s.fl c n then source_count (block_in s.fl c) n else 0) h.2
      ∙ ap (λ (t : Bool). if t then source_count (block_in s.fl c) n else 0) strict in
      let arg = has_argument c n 0 i f.operands (omega (arith, low, full)) in
      let here : Contains (if is_strict_in s.fl c n then arguments_from c n 0 0 f.operands else []) (item c (inlet (Sender n (0 + i)) Right 0) (Datum arg.0)) =
      subst (λ (t : Bool). Contains (if t then arguments_from c n 0 0 f.operands else []) (item c (inlet (Sender n (0 + i)) Right 0) (Datum arg.0)))
      (sym strict) arg.1 in
      let renews : Contains (renewed s.fl f f.part) (item c (inlet (Sender n (0 + i)) Right 0) (Datum arg.0)) =
      subst (λ (r : Part). Contains (renewed s.fl f r) (item c (inlet (Sender n (0 + i)) Right 0) (Datum arg.0))) (sym h.3)
      (subst (λ (x : Context). Contains (if is_strict_in s.fl x n then arguments_from x n 0 0 f.operands else [])
      (item c (inlet (Sender n (0 + i)) Right 0) (Datum arg.0))) (sym h.2) here) in
      let gone = taken_in s.fl net.fired f (item c (inlet (Sender n (0 + i)) Right 0) (Datum arg.0)) h.1
      (Contains-append_right (own_takes s.fl f f.part) (renewed s.fl f f.part) (item c (inlet (Sender n (0 + i)) Right 0) (Datum arg.0)) renews) in
      let zero_i : i ≡ 0 + i = omega arith in
      let spot : spot_of y ≡ spot_of (item c (inlet (Sender n (0 + i)) Right 0) (Datum arg.0)) =
      spot_is (spot_of y) (record { context = c; inlet = inlet (Sender n (0 + i)) Right 0 }) b.1
      (inlet_is y.inlet (inlet (Sender n (0 + i)) Right 0) (b.2 ∙ ap (Sender n) zero_i) right old) in
      let g : Item → ℕ = λ (j : Item). one (same_spot (spot_of y) (spot_of j)) in
      let mine = hit_counted (net.pending ++ net.waiting) y b.0 in
      let its = subst (λ (z : Spot). 0 < hits_at z taken) (sym spot) (hit_counted taken (item c (inlet (Sender n (0 + i)) Right 0) (Datum arg.0)) gone) in
      let few = once_all s.fl s.w s.inputs net s.keeps.sound (spot_of y) in
      let p = total-append g net.pending (net.waiting ++ taken) in let q = total-append g net.waiting taken in let r = total-append g net.pending net.waiting in
      omega (arith, mine, its, few, p, q, r)

  pub on_right : (x y : Item) → At x → At y → x.inlet.port ≡ Left → y.inlet.port ≡ Right → y.inlet.way ≡ right_way s.fl c (Sender n i)
  on_right x y a b left right = go (is_strict_in s.fl c n) refl (way_at y b Right right)
    where
      new_way : (t : ℕ) → y.inlet.way ≡ t → is_strict_in s.fl c n ≡ true → nat_lt t 2 ≡ true → t ≡ 1
      new_way zero e strict l = absurd (not_old strict x y a b left right e)
      new_way (suc t) e strict l = let k = ltb-true (suc t) 2 l in omega (arith, k)

      go : (t : Bool) → is_strict_in s.fl c n ≡ t → sender_way t Right y.inlet.way ≡ true → y.inlet.way ≡ (if t then 1 else 0)
      go false e k = eqb-true y.inlet.way 0 k
      go true e k = new_way y.inlet.way refl e k

  pub one_way : (x y : Item) → At x → At y → x.inlet.port ≡ y.inlet.port → x.inlet.way ≡ y.inlet.way
  one_way x y a b e = sender_one s.fl s.p s.w s.inputs s.q s.m s.good s.keeps x y (came_here x a.0) (came_here y b.0) (a.1 ∙ sym b.1) n i a.2 b.2 e
    where
      came_here : (x : Item) → IsHere s x → Contains (came s.fl net) x
      came_here x h = pick (Contains-append_cases net.pending net.waiting x h)
        where
          rest : List Item
          rest = flat_map (λ (f : Firing). own_takes s.fl f f.part) net.fired

          pick : Contains net.pending x ⊎ Contains net.waiting x → Contains (came s.fl net) x
          pick (inl k) = Contains-append_left net.pending (net.waiting ++ flat_map (λ (f : Firing). own_takes s.fl f f.part) net.fired) x k
          pick (inr k) =
              Contains-append_right net.pending (net.waiting ++ flat_map (λ (f : Firing). own_takes s.fl f f.part) net.fired) x
              (Contains-append_left net.waiting (flat_map (λ (f : Firing). own_takes s.fl f f.part) net.fired) x k)

-- SO the words that meet at a sender
pub sender_ways : (s : Taking) (n i : ℕ) → s.i.inlet.part ≡ Sender n i → Ways s (right_way s.fl s.i.context (Sender n i))
sender_ways s n i e = record {
  on_left = λ x h a g l. on_left s s.i.context n i x (h, a, g ∙ e) l;
  on_right = λ x y h k a b g o l r. on_right s s.i.context n i x y (h, a, g ∙ e) (k, b, o ∙ e) l r;
  one_way = λ x y h k a b g o l. one_way s s.i.context n i x y (h, a, g ∙ e) (k, b, o ∙ e) l;
}
