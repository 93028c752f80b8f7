-- Parts, ports, inlets, contexts and spots: what their tests say, and how often a spot occurs in a list.
use Rattle.std.proofs.Common.{◌≡◌, ℕ, ◌<◌, ◌≤◌, Bool, true, false, ◌&&◌, List, [], ◌∷◌, refl, sym, ap, ◌∙◌, inl, inr, ◌⊎◌, arith, true≢false, eqb-true, eq-eqb}
use Rattle.std.proofs.Common.{◌==◌, if◌then◌else◌}
use Rattle.std.specs.Prelude.{Contains}
use Rattle.std.proofs.lemmas.Bool.{and_parts, and_from}
use Rattle.lemmas.proofs.Contains.{contains_cases, contains_head, contains_none, contains_tail}
use Rattle.tags.specs.declared.token.Port.{Port}
use Rattle.tags.specs.declared.token.Port.TheVariants.{Left, Right}
use Rattle.semantics.specs.declared.graph.Region.{Region}
use Rattle.semantics.specs.declared.graph.Region.TheVariants.{Root, Arm}
use Rattle.law_confluence.specs.OrdersTotals.{one, total}
use Rattle.law_confluence.proofs.OrdersTotals.{one-cases}
use Rattle.law_confluence.proofs.EquationsContexts.{same_context_is, same_itself}
use Rattle.law_net.specs.ContextsParts.{Part, Entry, Line, Answer, Trigger, Gate, Merge, Opener, Framer, Fanned, Linker, Sender, Landing, CallDone, Giver}
use Rattle.law_net.specs.ContextsParts.{Taker, Drainer, LoopDone, Strict, Result, TurnCont, TurnFlag, TurnValue, Asker, NextFramer, NextFanned, NextSender}
use Rattle.law_net.specs.ContextsParts.{LastReturn, DrainReturn, Join, CondEnd, End, Asked, NextAsked, InCell, Drained, Shown, Done, Freed, Inlet, Item, Key}
use Rattle.law_net.specs.ContextsParts.{region_key, part_key, same_key, same_part, same_port, same_inlet, Spot, spot_of, same_spot}

-- PARTS, by their keys: the numbers determine all but a join's region
pub region_apart : (r s : Region) → region_key r ≡ region_key s → r ≡ s
region_apart Root Root e = refl
region_apart Root (Arm m true) e = absurd (omega (arith, e))
region_apart Root (Arm m false) e = absurd (omega (arith, e))
region_apart (Arm k true) Root e = absurd (omega (arith, e))
region_apart (Arm k false) Root e = absurd (omega (arith, e))
region_apart (Arm k true) (Arm m true) e = let h : k ≡ m = omega (arith, e) in ap (λ (n : ℕ). Arm n true) h
region_apart (Arm k true) (Arm m false) e = absurd (omega (arith, e))
region_apart (Arm k false) (Arm m true) e = absurd (omega (arith, e))
region_apart (Arm k false) (Arm m false) e = let h : k ≡ m = omega (arith, e) in ap (λ (n : ℕ). Arm n false) h

abbrev region_within : Part → Region
region_within (Join r i) = r
region_within r = Root

abbrev low_part : ℕ → ℕ → ℕ → Part → Part
low_part k m n other =
    if k == 0 then Entry else if k == 1 then Line m else if k == 2 then Answer m else if k == 3 then Trigger m else if k == 4 then Gate m else if k == 5
    then Merge m
    else if k == 6 then Opener m else if k == 7 then Framer m else if k == 8 then Fanned m else if k == 9 then Linker m else if k == 10 then Sender m n
    else if k == 11 then Landing m n
    else if k == 12 then CallDone m else if k == 13 then Giver m else if k == 14 then Taker m else if k == 15 then Drainer m else if k == 16 then LoopDone m
    else if k == 17 then Strict m n else other

abbrev high_part : Region → ℕ → ℕ → ℕ → Part
high_part r k m n =
    if k == 18 then Result m else if k == 19 then TurnCont else if k == 20 then TurnFlag else if k == 21 then TurnValue m else if k == 22 then Asker
    else if k == 23 then NextFramer
    else if k == 24 then NextFanned else if k == 25 then NextSender m else if k == 26 then LastReturn m else if k == 27 then DrainReturn else if k == 28
    then Join r n else if k == 29 then CondEnd m
    else if k == 30 then End else if k == 31 then Asked m else if k == 32 then NextAsked else if k == 33 then InCell m else if k == 34 then Drained m
    else if k == 35 then Shown m else if k == 36 then Done else Freed

abbrev part_with : Region → Key → Part
part_with r k = low_part k.kind k.first k.second (high_part r k.kind k.first k.second)

decoded : (r : Part) → part_with (region_within r) (part_key r) ≡ r
decoded Entry = refl
decoded r = refl

abbrev key_region : Key → ℕ
key_region k = if k.kind == 28 then k.first else 0

region_decoded : (r : Part) → key_region (part_key r) ≡ region_key (region_within r)
region_decoded Entry = refl
region_decoded r = refl

same_key-true : (a b : Key) → same_key a b ≡ true → a ≡ b
same_key-true a b h =
    let k = and_parts _ _ h in let m = and_parts _ _ k.1 in
    λ t. record { kind = eqb-true a.kind b.kind k.0 t; first = eqb-true a.first b.first m.0 t; second = eqb-true a.second b.second m.1 t }

pub same_part-true : (r q : Part) → same_part r q ≡ true → r ≡ q
same_part-true r q h =
    let k = same_key-true (part_key r) (part_key q) h in
    let g = region_apart (region_within r) (region_within q) (sym (region_decoded r) ∙ ap key_region k ∙ region_decoded q) in
    sym (decoded r) ∙ (λ t. part_with (g t) (k t)) ∙ decoded q

pub same_part-refl : (r : Part) → same_part r r ≡ true
same_part-refl r =
    and_from _ _ (eq-eqb (part_key r).kind (part_key r).kind refl)
    (and_from _ _ (eq-eqb (part_key r).first (part_key r).first refl) (eq-eqb (part_key r).second (part_key r).second refl))

pub same_port-true : (p q : Port) → same_port p q ≡ true → p ≡ q
same_port-true Left Left h = refl
same_port-true Right Right h = refl
same_port-true p q h = absurd (true≢false (sym h))

pub same_port-refl : (p : Port) → same_port p p ≡ true
same_port-refl Left = refl
same_port-refl Right = refl

pub inlet_is : (x y : Inlet) → x.part ≡ y.part → x.port ≡ y.port → x.way ≡ y.way → x ≡ y
inlet_is x y a b c = λ t. record { part = a t; port = b t; way = c t }

pub same_inlet-true : (x y : Inlet) → same_inlet x y ≡ true → x ≡ y
same_inlet-true x y h =
    let k = and_parts _ _ h in let m = and_parts _ _ k.1 in
    inlet_is x y (same_part-true x.part y.part k.0) (same_port-true x.port y.port m.0) (eqb-true x.way y.way m.1)

pub same_inlet-refl : (x : Inlet) → same_inlet x x ≡ true
same_inlet-refl x = and_from _ _ (same_part-refl x.part) (and_from _ _ (same_port-refl x.port) (eq-eqb x.way x.way refl))

pub spot_is : (x y : Spot) → x.context ≡ y.context → x.inlet ≡ y.inlet → x ≡ y
spot_is x y a b = λ t. record { context = a t; inlet = b t }

pub same_spot-true : (x y : Spot) → same_spot x y ≡ true → x ≡ y
same_spot-true x y h = let k = and_parts _ _ h in spot_is x y (same_context_is x.context y.context k.0) (same_inlet-true x.inlet y.inlet k.1)

pub same_spot-refl : (x : Spot) → same_spot x x ≡ true
same_spot-refl x = and_from _ _ (same_itself x.context) (same_inlet-refl x.inlet)

-- HOW OFTEN something occurs in a list
module _ {X Y : Type 0} (same : X → X → Bool) (at : Y → X) (sound : (a b : X) → same a b ≡ true → a ≡ b) (self : (a : X) → same a a ≡ true) where
  abbrev pub often_in : X → List Y → ℕ
  often_in x ys = total (λ (y : Y). one (same x (at y))) ys

  pub found : (x : X) (ys : List Y) → 0 < often_in x ys → (y : Y) × Contains ys y × (at y ≡ x)
  found x [] h = absurd (omega (arith, h))
  found x (y ∷ ys) h = pick (one-cases (same x (at y))) (found x ys)
    where
      pick : ((same x (at y) ≡ true) × (one (same x (at y)) ≡ 1)) ⊎ ((same x (at y) ≡ false) × (one (same x (at y)) ≡ 0))
          → (0 < often_in x ys → (z : Y) × Contains ys z × (at z ≡ x)) → (z : Y) × Contains (y ∷ ys) z × (at z ≡ x)
      pick (inl k) more = (y, contains_head y ys, sym (sound x (at y) k.0))
      pick (inr k) more = let o = k.1 in let m = more (omega (arith, h, o)) in (m.0, contains_tail y ys m.0 m.1, m.2)

  pub counted : (ys : List Y) (y : Y) → Contains ys y → 0 < often_in (at y) ys
  counted [] y c = absurd (contains_none y c)
  counted (z ∷ ys) y c = pick (contains_cases z ys y c) (counted ys y)
    where
      pick : (z ≡ y) ⊎ Contains ys y → (Contains ys y → 0 < often_in (at y) ys) → 0 < often_in (at y) (z ∷ ys)
      pick (inl e) more = let o : one (same (at y) (at z)) ≡ 1 = ap one (ap (λ (z : Y). same (at y) (at z)) e ∙ self (at y)) in omega (arith, o)
      pick (inr d) more = let m = more d in omega (arith, m)

  pub never : (x : X) (ys : List Y) → ((y : Y) → Contains ys y → at y ≡ x → ⊥) → often_in x ys ≡ 0
  never x [] h = refl
  never x (y ∷ ys) h = pick (one-cases (same x (at y))) (never x ys (λ z c. h z (contains_tail y ys z c)))
    where
      pick : ((same x (at y) ≡ true) × (one (same x (at y)) ≡ 1)) ⊎ ((same x (at y) ≡ false) × (one (same x (at y)) ≡ 0)) → often_in x ys ≡ 0
          → often_in x (y ∷ ys) ≡ 0
      pick (inl k) more = absurd (h y (contains_head y ys) (sym (sound x (at y) k.0)))
      pick (inr k) more = let o = k.1 in omega (arith, o, more)

-- of items at a spot
abbrev pub hits_at : Spot → List Item → ℕ
hits_at x items = total (λ (i : Item). one (same_spot x (spot_of i))) items

pub hit_found : (x : Spot) (items : List Item) → 0 < hits_at x items → (i : Item) × Contains items i × (spot_of i ≡ x)
hit_found = found same_spot spot_of same_spot-true same_spot-refl

pub hit_counted : (items : List Item) (i : Item) → Contains items i → 0 < hits_at (spot_of i) items
hit_counted = counted same_spot spot_of same_spot-true same_spot-refl

pub hit_never : (x : Spot) (items : List Item) → ((i : Item) → Contains items i → spot_of i ≡ x → ⊥) → hits_at x items ≡ 0
hit_never = never same_spot spot_of same_spot-true same_spot-refl

-- of inlets
abbrev itself : Inlet → Inlet
itself x = x

pub inlet_found : (x : Inlet) (xs : List Inlet) → 0 < total (λ (y : Inlet). one (same_inlet x y)) xs → (y : Inlet) × Contains xs y × (y ≡ x)
inlet_found = found same_inlet itself same_inlet-true same_inlet-refl

pub inlet_counted : (xs : List Inlet) (x : Inlet) → Contains xs x → 0 < total (λ (y : Inlet). one (same_inlet x y)) xs
inlet_counted = counted same_inlet itself same_inlet-true same_inlet-refl

pub inlet_never : (x : Inlet) (xs : List Inlet) → ((y : Inlet) → Contains xs y → y ≡ x → ⊥) → total (λ (y : Inlet). one (same_inlet x y)) xs ≡ 0
inlet_never = never same_inlet itself same_inlet-true same_inlet-refl

pub one_and : (a b : Bool) → one (a && b) ≤ one b
one_and true b = omega arith
one_and false b = omega arith
