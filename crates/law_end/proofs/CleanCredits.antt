-- At rest: a turn in question that asked for the next got its credit; and a loop whose last turn is over, and each before it, has all credits back.
use Rattle.std.proofs.Common.{◌≡◌, ℕ, zero, suc, ◌+◌, ◌-◌, ◌<◌, ◌≤◌, Bool, true, false, ◌⊎◌, inl, inr, List, [], ◌∷◌, ◌++◌, nat_lt, ◌&&◌, ◌==◌}
use Rattle.std.proofs.Common.{if◌then◌else◌, refl, sym, ap, ◌∙◌, subst, arith, true≢false, ltb-true, lt-ltb, eq-eqb, eqb-true}
use Rattle.std.specs.Prelude.{Contains}
use Rattle.std.proofs.lemmas.Bool.{cases_Bool}
use Rattle.std.proofs.lemmas.List.Elements.{Contains-append_right}
use Rattle.lemmas.proofs.Contains.{contains_cases, contains_none}
use Rattle.tags.specs.declared.token.Port.TheVariants.{Left}
use Rattle.semantics.specs.Graph.{Flow}
use Rattle.semantics.specs.Meaning.{Context, Turned}
use Rattle.law_confluence.specs.OrdersTotals.{one, total}
use Rattle.law_confluence.proofs.Net.{Waits, Fires}
use Rattle.law_confluence.proofs.Orders.{one_of_both}
use Rattle.law_net.specs.ContextsParts.{Part, Giver, Taker, Drainer, Drained, Inlet, inlet, Item, Firing}
use Rattle.law_net.specs.ContextsBlocks.{is_loop}
use Rattle.law_net.specs.Contexts.{Wires, block_in, IsContext}
use Rattle.law_net.specs.ContextsCredits.{Ledger}
use Rattle.law_net.specs.ContextsFirings.{Config, Move, begin, takes, own_takes, renewed, left_item, times, ProperAt, IsProperMove}
use Rattle.law_net.specs.ContextsFirings.{ProperMoves, Still, Then}
use Rattle.law_net.specs.ContextsMirror.{is_item_at, items_at, is_over, granted_of}
use Rattle.law_net.proofs.Credits.{keeps, book, bound, firing_of, some_firing}
use Rattle.law_net.proofs.RunsPigeons.{items_total, item_here, some_item}
use Rattle.law_end.proofs.CleanStill.{AtRest, Arrives, Fired}
use Rattle.law_end.proofs.CleanFires.{TookBy, Own, Back, Renewed, took_by, goes_back, waits_or_taken}

-- MANY items at one part, each with its way
one_step : (a : Bool) (x k : ℕ) → one (a && nat_lt x k) + one (a && (x == k)) ≤ one (a && nat_lt x (suc k))
one_step false x k = omega arith
one_step true x k = go (cases_Bool (nat_lt x k)) (cases_Bool (x == k)) (cases_Bool (nat_lt x (suc k)))
  where
    go : (nat_lt x k ≡ true) ⊎ (nat_lt x k ≡ false) → ((x == k) ≡ true) ⊎ ((x == k) ≡ false) → (nat_lt x (suc k) ≡ true) ⊎ (nat_lt x (suc k) ≡ false)
        → one (nat_lt x k) + one (x == k) ≤ one (nat_lt x (suc k))
    go (inl a) (inl b) d = let low = ltb-true x k a in let same = eqb-true x k b in absurd (omega (arith, low, same))
    go (inl a) (inr b) (inl d) = let i = ap one a in let j = ap one b in let l = ap one d in omega (arith, i, j, l)
    go (inr a) (inl b) (inl d) = let i = ap one a in let j = ap one b in let l = ap one d in omega (arith, i, j, l)
    go (inr a) (inr b) d = let i = ap one a in let j = ap one b in omega (arith, i, j)
    go (inl a) (inr b) (inr d) = let low = ltb-true x k a in absurd (true≢false (sym (lt-ltb x (suc k) (omega (arith, low))) ∙ d))
    go (inr a) (inl b) (inr d) = let same = eqb-true x k b in absurd (true≢false (sym (lt-ltb x (suc k) (omega (arith, same))) ∙ d))

total_step : (test : Item → Bool) (k : ℕ) (items : List Item)
    → total (λ (i : Item). one (test i && nat_lt i.inlet.way k)) items + total (λ (i : Item). one (test i && (i.inlet.way == k))) items
    ≤ total (λ (i : Item). one (test i && nat_lt i.inlet.way (suc k))) items
total_step test k [] = omega arith
total_step test k (i ∷ items) = let a = one_step (test i) i.inlet.way k in let more = total_step test k items in omega (arith, a, more)

total_less : (test : Item → Bool) (k : ℕ) (items : List Item)
    → total (λ (i : Item). one (test i && nat_lt i.inlet.way k)) items ≤ total (λ (i : Item). one (test i)) items
total_less test k [] = omega arith
total_less test k (i ∷ items) = let a = one_of_both (test i) (nat_lt i.inlet.way k) in let more = total_less test k items in omega (arith, a, more)

counts : (test : Item → Bool) (k : ℕ) (items : List Item) (i : Item) → Contains items i → test i ≡ true → i.inlet.way ≡ k
    → 0 < total (λ (i : Item). one (test i && (i.inlet.way == k))) items
counts test k [] i c e g = absurd (contains_none i c)
counts test k (j ∷ items) i c e g = pick (contains_cases j items i c) (λ d. counts test k items i d e g)
  where
    pick : (j ≡ i) ⊎ Contains items i → (Contains items i → 0 < total (λ (i : Item). one (test i && (i.inlet.way == k))) items)
        → 0 < total (λ (i : Item). one (test i && (i.inlet.way == k))) (j ∷ items)
    pick (inr d) more = let o = more d in omega (arith, o)
    pick (inl same) more =
        let o : one (test j && (j.inlet.way == k)) ≡ 1 =
        (λ t. one (test (same t) && ((same t).inlet.way == k))) ∙ (λ t. one (e t && (i.inlet.way == k))) ∙ ap one (eq-eqb i.inlet.way k g) in
        omega (arith, o)

many : (test : Item → Bool) (items : List Item) (k : ℕ) → ((s : ℕ) → s < k → (i : Item) × Contains items i × (test i ≡ true) × (i.inlet.way ≡ s))
    → k ≤ total (λ (i : Item). one (test i && nat_lt i.inlet.way k)) items
many test items zero h = omega arith
many test items (suc k) h =
    let more = many test items k (λ s low. h s (omega (arith, low))) in let (i, c, e, g) = h k (omega arith) in
    let this = counts test k items i c e g in let step = total_step test k items in omega (arith, more, this, step)

-- a loop's `give` and `drain` never fire by themselves
no_credit_fires : (fl : Flow) (w : Wires) (c d : Config) → ProperMoves fl w c d → ((h : Firing) → Contains c.fired h → goes_back h.part ≡ true → ⊥)
    → (h : Firing) → Contains d.fired h → goes_back h.part ≡ true → ⊥
no_credit_fires fl w c d (Still e) old = old
no_credit_fires fl w c d (Then a mid b m proper more) old = no_credit_fires fl w mid d more (step a mid m proper old)
  where
    never : (r : Part) (f : Firing) (fired : List Firing) → ProperAt fl fired f r → goes_back r ≡ true → ⊥
    never (Giver n) f fired proper e = proper
    never (Drainer n) f fired proper e = proper
    never r f fired proper e = true≢false (sym e)

    step : (c d : Config) (m : Move fl w c d) → IsProperMove fl w c.fired c d m → ((h : Firing) → Contains c.fired h → goes_back h.part ≡ true → ⊥)
        → (h : Firing) → Contains d.fired h → goes_back h.part ≡ true → ⊥
    step c d (Waits i rest a e) proper old h = subst (λ (d : Config). Contains d.fired h → goes_back h.part ≡ true → ⊥) (sym e) (old h)
    step c d (Fires f now kept rest others a b both e) proper old h =
        subst (λ (d : Config). Contains d.fired h → goes_back h.part ≡ true → ⊥) (sym e) (λ x. pick (contains_cases f c.fired h x))
      where
        pick : (f ≡ h) ⊎ Contains c.fired h → goes_back h.part ≡ true → ⊥
        pick (inr x) = old h x
        pick (inl same) = subst (λ (h : Firing). goes_back h.part ≡ true → ⊥) same (never f.part f c.fired proper)

module _ (u : AtRest) (c : Context) (con : IsContext u.fl c) (n : ℕ) (l : is_loop (block_in u.fl c) n ≡ true) where
  abbrev log : Ledger
  log = book u.fl u.p u.w u.inputs u.past u.m u.good u.kept c con n l

  abbrev most : ℕ
  most = bound u.fl u.p u.w u.inputs u.past u.m u.good u.kept c con n l

  -- what a take took has its turn
  take_way : (h : Firing) (i : Item) → h.part ≡ Taker n → Contains (takes u.fl h) i → i.inlet.way ≡ h.way
  take_way h i e d =
      pick (contains_cases (left_item h.context (Taker n) h.way h.left) [] i (subst (λ (r : Part). Contains (own_takes u.fl h r ++ renewed u.fl h r) i) e d))
    where
      pick : (left_item h.context (Taker n) h.way h.left ≡ i) ⊎ Contains [] i → i.inlet.way ≡ h.way
      pick (inl g) = ap (λ (i : Item). i.inlet.way) (sym g)
      pick (inr k) = absurd (contains_none i k)

  -- A CREDIT that was asked for was taken
  pub taker_fires : (t : ℕ) → u.Inside (Turned c n t) → Arrives u c (inlet (Taker n) Left (suc t))
      → (h : Firing) × Contains u.kept.tracks.net.fired h × (h.context ≡ c) × (h.part ≡ Taker n) × (h.way ≡ suc t)
  taker_fires t ins (i, s, a, e) = pick (waits_or_taken u i s)
    where
      is_part : i.inlet.part ≡ Taker n
      is_part = ap (λ (x : Inlet). x.part) e

      by : (h : Firing) → Contains u.kept.tracks.net.fired h → Contains (takes u.fl h) i → i.context ≡ h.context → TookBy u.fl h i
          → (h : Firing) × Contains u.kept.tracks.net.fired h × (h.context ≡ c) × (h.part ≡ Taker n) × (h.way ≡ suc t)
      by h d o same (Own g) = (h, d, sym same ∙ a, g ∙ is_part, sym (take_way h i (g ∙ is_part) o) ∙ ap (λ (x : Inlet). x.way) e)
      by h d o same (Back k g (inl x)) = let z = sym x ∙ is_part in absurd (cc)
      by h d o same (Back k g (inr x)) = let z = sym x ∙ is_part in absurd (cc)
      by h d o same (Renewed k j g x) = let z = sym (ap (λ (x : Inlet). x.part) x) ∙ is_part in absurd (cc)

      pick : Contains u.kept.tracks.net.waiting i ⊎ ((h : Firing) × Contains u.kept.tracks.net.fired h × Contains (takes u.fl h) i)
          → (h : Firing) × Contains u.kept.tracks.net.fired h × (h.context ≡ c) × (h.part ≡ Taker n) × (h.way ≡ suc t)
      pick (inl d) = absurd (u.no_credit i n t d e (subst (λ (c : Context). u.Inside (Turned c n t)) (sym a) ins))
      pick (inr (h, d, o)) = let (same, took) = took_by u.fl h i o in by h d o same took

  -- ALL CREDITS are back
  abbrev loop_of : Part → ℕ
  loop_of (Giver k) = k
  loop_of (Drainer k) = k
  loop_of r = 0

  pub back_waits : (r : Part) (t : ℕ) → goes_back r ≡ true → loop_of r ≡ n → (f : Arrives u c (inlet r Left t))
      → Contains u.kept.tracks.net.waiting f.0 ⊎ Fired u c (Drained n)
  back_waits r t back mine (i, s, a, e) = pick (waits_or_taken u i s)
    where
      by : (h : Firing) → Contains u.kept.tracks.net.fired h → i.context ≡ h.context → TookBy u.fl h i → Fired u c (Drained n)
      by h d same (Own g) =
          absurd (no_credit_fires u.fl u.w (begin u.inputs) u.kept.tracks.net u.kept.tracks.moves (λ h x y. contains_none h x) h d
          (ap goes_back (g ∙ ap (λ (x : Inlet). x.part) e) ∙ back))
      by h d same (Back k g (inl x)) = (h, d, sym same ∙ a, g ∙ ap Drained (ap loop_of (sym x ∙ ap (λ (x : Inlet). x.part) e) ∙ mine))
      by h d same (Back k g (inr x)) = (h, d, sym same ∙ a, g ∙ ap Drained (ap loop_of (sym x ∙ ap (λ (x : Inlet). x.part) e) ∙ mine))
      by h d same (Renewed k j g x) = absurd (true≢false (sym back ∙ ap goes_back (sym (ap (λ (x : Inlet). x.part) e) ∙ ap (λ (x : Inlet). x.part) x)))

      pick : Contains u.kept.tracks.net.waiting i ⊎ ((h : Firing) × Contains u.kept.tracks.net.fired h × Contains (takes u.fl h) i)
          → Contains u.kept.tracks.net.waiting i ⊎ Fired u c (Drained n)
      pick (inl d) = inl d
      pick (inr (h, d, o)) = let (same, took) = took_by u.fl h i o in inr (by h d same took)

  pub drained_fires : (t : ℕ) → Arrives u c (inlet (Drainer n) Left t) → ((s : ℕ) → s ≤ t → Arrives u c (inlet (Giver n) Left s)) → Fired u c (Drained n)
  drained_fires t drain gives = by_over (is_over u.kept.tracks.net c n) refl
    where
      unless : is_over u.kept.tracks.net c n ≡ false → (i : Item) → Contains u.kept.tracks.net.waiting i ⊎ Fired u c (Drained n)
          → Contains u.kept.tracks.net.waiting i
      unless none i (inl d) = d
      unless none i (inr (h, d, x, y)) =
          absurd (true≢false (sym (lt-ltb 0 (times c (Drained n) u.kept.tracks.net.fired) (some_firing c (Drained n) u.kept.tracks.net.fired h d x y))
          ∙ none))

      gave : is_over u.kept.tracks.net c n ≡ false → (s : ℕ) → s ≤ t
          → (i : Item) × Contains u.kept.tracks.net.waiting i × (is_item_at c (Giver n) i ≡ true) × (i.inlet.way ≡ s)
      gave none s low = let f = gives s low in (
        f.0,
        unless none f.0 (back_waits (Giver n) s refl refl f),
        item_here c (Giver n) f.0 f.2 (ap (λ (x : Inlet). x.part) f.3),
        ap (λ (x : Inlet). x.way) f.3,
      )

      by_over : (b : Bool) → is_over u.kept.tracks.net c n ≡ b → Fired u c (Drained n)
      by_over true g = firing_of c (Drained n) u.kept.tracks.net.fired (ltb-true 0 (times c (Drained n) u.kept.tracks.net.fired) g)
      by_over false g =
          let i = drain.0 in let waits = unless g i (back_waits (Drainer n) t refl refl drain) in
          let part : i.inlet.part ≡ Drainer n = ap (λ (x : Inlet). x.part) drain.3 in
          let way : i.inlet.way ≡ t = ap (λ (x : Inlet). x.way) drain.3 in
          let law = keeps u.fl u.p u.w u.inputs u.past u.m u.good u.kept c con n l in
          let last = (law.drains i (Contains-append_right u.kept.tracks.net.pending u.kept.tracks.net.waiting i waits) drain.2 part).0 in
          let some = some_item c (Drainer n) u.kept.tracks.net.waiting i waits drain.2 part in
          let sum = items_total c (Drainer n) u.kept.tracks.net.waiting in
          let less = law.law.drains (lt-ltb 0 (items_at c (Drainer n) u.kept.tracks.net.waiting) (omega (arith, some, sum))) g in
          let given : log.given ≡ items_at c (Giver n) u.kept.tracks.net.waiting =
          ap (λ (t : Bool). if t then granted_of u.kept.tracks.net c n else items_at c (Giver n) u.kept.tracks.net.waiting) g in
          let enough = many (is_item_at c (Giver n)) u.kept.tracks.net.waiting (suc t) (λ s low. gave g s (omega (arith, low))) in
          let below = total_less (is_item_at c (Giver n)) (suc t) u.kept.tracks.net.waiting in
          let all = items_total c (Giver n) u.kept.tracks.net.waiting in
          absurd (omega (arith, way, last, less, given, enough, below, all))
