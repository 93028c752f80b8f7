-- Lists of wires and of sides: what holds of all of them, who is among them, and which sides some wire leaves.
use Rattle.std.proofs.Common.{◌≡◌, ◌≢◌, ℕ, ◌+◌, ◌<◌, ◌⊎◌, inl, inr, Bool, true, false, ◌&&◌, List, [], ◌∷◌, ◌++◌, refl, sym, ap, ◌∙◌, subst, arith}
use Rattle.std.proofs.Common.{if◌then◌else◌, ◌==◌, Contains}
use Rattle.std.specs.Prelude.{⊤}
use Rattle.std.proofs.lemmas.Bool.{eqb-true}
use Rattle.lemmas.proofs.Contains.{contains_cases, contains_head, contains_tail, contains_none}
use Rattle.lemmas.proofs.Bools.{first_of_and}
use Rattle.tags.specs.declared.token.Port.{Port}
use Rattle.semantics.specs.declared.graph.Region.{Region}
use Rattle.semantics.specs.declared.graph.Region.TheVariants.{Root, Arm}
use Rattle.semantics.specs.Graph.{Block}
use Rattle.schemas.specs.Ends.{same_region}
use Rattle.law_confluence.specs.OrdersTotals.{one}
use Rattle.law_net.specs.ContextsParts.{Part, Inlet, same_part}
use Rattle.law_net.specs.ContextsBlocks.{Side, side, leaves_in, is_switch}
use Rattle.law_net.specs.ContextsWires.{is_side, has_no_wire}
use Rattle.law_net.proofs.ContextsSames.{same_part-true, same_part-refl}
use Rattle.law_wiring.specs.Written.{Wire, wire, along, inlet_of, same_side, same_bool, sides_of, sides, open_of, is_open, in_region}
use Rattle.law_wiring.proofs.PartsSame.{side_is}
use Rattle.law_wiring.proofs.PartsCounts.{tally}
use Rattle.law_wiring.proofs.PartsThere.{region_self}

-- SAMENESS
bool_self : (s : Bool) → same_bool s s ≡ true
bool_self true = refl
bool_self false = refl

pub side_self : (t : Side) → same_side t t ≡ true
side_self t = ap (λ x. x && same_bool t.second t.second) (same_part-refl t.part) ∙ bool_self t.second

no_false : (s : Bool) → (s && false) ≡ true → ⊥
no_false true h = cc
no_false false h = cc

pub region_is : (q r : Region) → same_region q r ≡ true → q ≡ r
region_is Root Root h = refl
region_is Root (Arm k t) h = absurd (cc)
region_is (Arm k t) Root h = absurd (cc)
region_is (Arm k true) (Arm l true) h = let same : k ≡ l = eqb-true k l (first_of_and (k == l) true h) in ap (λ n. Arm n true) same
region_is (Arm k false) (Arm l false) h = let same : k ≡ l = eqb-true k l (first_of_and (k == l) true h) in ap (λ n. Arm n false) same
region_is (Arm k true) (Arm l false) h = absurd (no_false (k == l) h)
region_is (Arm k false) (Arm l true) h = absurd (no_false (k == l) h)

-- ALL wires, all sides
abbrev pub AllW : (Wire → Type 0) → List Wire → Type 0
AllW P [] = ⊤
AllW P (w ∷ ws) = P w × AllW P ws

pub all_both : (P : Wire → Type 0) (xs ys : List Wire) → AllW P xs → AllW P ys → AllW P (xs ++ ys)
all_both P [] ys h k = k
all_both P (x ∷ xs) ys h k = (h.0, all_both P xs ys h.1 k)

pub all_weaker : (P Q : Wire → Type 0) (ws : List Wire) → ((w : Wire) → P w → Q w) → AllW P ws → AllW Q ws
all_weaker P Q [] f h = tt
all_weaker P Q (w ∷ ws) f h = (f w h.0, all_weaker P Q ws f h.1)

abbrev pub AllS : (Side → Type 0) → List Side → Type 0
AllS P [] = ⊤
AllS P (t ∷ ts) = P t × AllS P ts

pub sides_both : (P : Side → Type 0) (xs ys : List Side) → AllS P xs → AllS P ys → AllS P (xs ++ ys)
sides_both P [] ys h k = k
sides_both P (x ∷ xs) ys h k = (h.0, sides_both P xs ys h.1 k)

all_left : (P : Side → Type 0) (xs ys : List Side) → AllS P (xs ++ ys) → AllS P xs
all_left P [] ys h = tt
all_left P (x ∷ xs) ys h = (h.0, all_left P xs ys h.1)

all_right : (P : Side → Type 0) (xs ys : List Side) → AllS P (xs ++ ys) → AllS P ys
all_right P [] ys h = h
all_right P (x ∷ xs) ys h = all_right P xs ys h.1

pub parts_both : (P : Side → Type 0) (xs ys : List Part) → AllS P (sides xs) → AllS P (sides ys) → AllS P (sides (xs ++ ys))
parts_both P [] ys h k = k
parts_both P (x ∷ xs) ys h k =
    sides_both P (sides_of x) (sides (xs ++ ys)) (all_left P (sides_of x) (sides xs) h) (parts_both P xs ys (all_right P (sides_of x) (sides xs) h) k)

pub open_all : (P : Side → Type 0) (ws : List Wire) (ts : List Side) → AllS P ts → AllS P (open_of ws ts)
open_all P ws [] h = tt
open_all P ws (t ∷ ts) h = go (is_open t ws) (open_all P ws ts h.1)
  where
    go : (s : Bool) → AllS P (open_of ws ts) → AllS P (if s then t ∷ open_of ws ts else open_of ws ts)
    go true k = (h.0, k)
    go false k = k

-- MEMBERS
abbrev pub In : Side → List Side → Type 0
In t [] = ⊥
In t (u ∷ us) = (u ≡ t) ⊎ In t us

pub all_in : (P : Side → Type 0) (t : Side) (ts : List Side) → AllS P ts → In t ts → P t
all_in P t [] h i = absurd i
all_in P t (u ∷ us) h (inl e) = subst P e h.0
all_in P t (u ∷ us) h (inr i) = all_in P t us h.1 i

pub all_of : (P : Side → Type 0) (ts : List Side) → ((t : Side) → In t ts → P t) → AllS P ts
all_of P [] h = tt
all_of P (t ∷ ts) h = (h t (inl refl), all_of P ts (λ u i. h u (inr i)))

pub in_left : (t : Side) (xs ys : List Side) → In t xs → In t (xs ++ ys)
in_left t [] ys h = absurd h
in_left t (x ∷ xs) ys (inl e) = inl e
in_left t (x ∷ xs) ys (inr h) = inr (in_left t xs ys h)

pub in_right : (t : Side) (xs ys : List Side) → In t ys → In t (xs ++ ys)
in_right t [] ys h = h
in_right t (x ∷ xs) ys h = inr (in_right t xs ys h)

pub in_cases : (t : Side) (xs ys : List Side) → In t (xs ++ ys) → In t xs ⊎ In t ys
in_cases t [] ys h = inr h
in_cases t (x ∷ xs) ys (inl e) = inl (inl e)
in_cases t (x ∷ xs) ys (inr h) = go (in_cases t xs ys h)
  where
    go : In t xs ⊎ In t ys → In t (x ∷ xs) ⊎ In t ys
    go (inl k) = inl (inr k)
    go (inr k) = inr k

-- sides of joined lists of parts
pub sides_left : (t : Side) (xs ys : List Part) → In t (sides xs) → In t (sides (xs ++ ys))
sides_left t [] ys h = absurd h
sides_left t (x ∷ xs) ys h = go (in_cases t (sides_of x) (sides xs) h) (sides_left t xs ys)
  where
    go : In t (sides_of x) ⊎ In t (sides xs) → (In t (sides xs) → In t (sides (xs ++ ys))) → In t (sides_of x ++ sides (xs ++ ys))
    go (inl k) more = in_left t (sides_of x) (sides (xs ++ ys)) k
    go (inr k) more = in_right t (sides_of x) (sides (xs ++ ys)) (more k)

pub sides_right : (t : Side) (xs ys : List Part) → In t (sides ys) → In t (sides (xs ++ ys))
sides_right t [] ys h = h
sides_right t (x ∷ xs) ys h = in_right t (sides_of x) (sides (xs ++ ys)) (sides_right t xs ys h)

pub sides_cases : (t : Side) (xs ys : List Part) → In t (sides (xs ++ ys)) → In t (sides xs) ⊎ In t (sides ys)
sides_cases t [] ys h = inr h
sides_cases t (x ∷ xs) ys h = go (in_cases t (sides_of x) (sides (xs ++ ys)) h) (sides_cases t xs ys)
  where
    later : In t (sides xs) ⊎ In t (sides ys) → In t (sides_of x ++ sides xs) ⊎ In t (sides ys)
    later (inl k) = inl (in_right t (sides_of x) (sides xs) k)
    later (inr k) = inr k

    go : In t (sides_of x) ⊎ In t (sides (xs ++ ys)) → (In t (sides (xs ++ ys)) → In t (sides xs) ⊎ In t (sides ys))
        → In t (sides_of x ++ sides xs) ⊎ In t (sides ys)
    go (inl k) more = inl (in_left t (sides_of x) (sides xs) k)
    go (inr k) more = later (more k)

-- a side of a part that is counted in the list
sides_self : (t : Side) → is_side t ≡ true → has_no_wire t.part ≡ false → In t (sides_of t.part)
sides_self t h o = go t.second refl h
  where
    with_wire : In t (if is_switch t.part then side t.part false ∷ side t.part true ∷ [] else side t.part false ∷ []) → In t (sides_of t.part)
    with_wire k = subst (λ q. In t (if q then [] else if is_switch t.part then side t.part false ∷ side t.part true ∷ [] else side t.part false ∷ [])) (sym o) k

    go : (s : Bool) → t.second ≡ s → elim s as (λ x. Bool) [ true ↦ is_switch t.part | false ↦ true ] ≡ true → In t (sides_of t.part)
    go true e h =
        with_wire (subst (λ q. In t (if q then side t.part false ∷ side t.part true ∷ [] else side t.part false ∷ [])) (sym h)
        (inr (inl (ap (side t.part) (sym e)))))
    go false e h = with_wire (any (is_switch t.part))
      where
        any : (q : Bool) → In t (if q then side t.part false ∷ side t.part true ∷ [] else side t.part false ∷ [])
        any true = inl (ap (side t.part) (sym e))
        any false = inl (ap (side t.part) (sym e))

pub side_in : (t : Side) (xs : List Part) → 0 < tally (same_part t.part) xs → is_side t ≡ true → has_no_wire t.part ≡ false → In t (sides xs)
side_in t [] l h o = absurd (omega (arith, l))
side_in t (x ∷ xs) l h o = go (same_part t.part x) refl l (λ m. side_in t xs m h o)
  where
    go : (q : Bool) → same_part t.part x ≡ q → 0 < one q + tally (same_part t.part) xs → (0 < tally (same_part t.part) xs → In t (sides xs))
        → In t (sides (x ∷ xs))
    go true e l more = in_left t (sides_of x) (sides xs) (subst (λ r. In t (sides_of r)) (same_part-true t.part x e) (sides_self t h o))
    go false e l more = in_right t (sides_of x) (sides xs) (more (omega (arith, l)))

-- a side of a list of parts is a side of one of them, which sends along wires
pub part_of : (t : Side) (r : Part) → In t (sides_of r) → (t.part ≡ r) × (is_side t ≡ true) × (has_no_wire t.part ≡ false)
part_of t r h = wired (has_no_wire r) refl h
  where
    at : (s : Bool) → has_no_wire r ≡ false → side r s ≡ t → is_side (side r s) ≡ true → (t.part ≡ r) × (is_side t ≡ true) × (has_no_wire t.part ≡ false)
    at s o e k = (ap (λ (u : Side). u.part) (sym e), subst (λ u. is_side u ≡ true) e k, subst (λ (u : Side). has_no_wire u.part ≡ false) e o)

    go : (q : Bool) → is_switch r ≡ q → has_no_wire r ≡ false → In t (if q then side r false ∷ side r true ∷ [] else side r false ∷ [])
        → (t.part ≡ r) × (is_side t ≡ true) × (has_no_wire t.part ≡ false)
    go true f o (inl e) = at false o e refl
    go true f o (inr (inl e)) = at true o e f
    go true f o (inr (inr k)) = absurd k
    go false f o (inl e) = at false o e refl
    go false f o (inr k) = absurd k

    wired : (q : Bool) → has_no_wire r ≡ q → In t (if q then [] else if is_switch r then side r false ∷ side r true ∷ [] else side r false ∷ [])
        → (t.part ≡ r) × (is_side t ≡ true) × (has_no_wire t.part ≡ false)
    wired true o k = absurd k
    wired false o k = go (is_switch r) refl o k

pub open_in : (t : Side) (ws : List Wire) (ts : List Side) → In t ts → is_open t ws ≡ true → In t (open_of ws ts)
open_in t ws [] h e = absurd h
open_in t ws (u ∷ us) (inl q) e = subst (λ s. In t (if s then u ∷ open_of ws us else open_of ws us)) (sym (ap (λ v. is_open v ws) q ∙ e)) (inl q)
open_in t ws (u ∷ us) (inr h) e = go (is_open u ws) (open_in t ws us h e)
  where
    go : (s : Bool) → In t (open_of ws us) → In t (if s then u ∷ open_of ws us else open_of ws us)
    go true k = inr k
    go false k = k

pub open_is : (t : Side) (ws : List Wire) (ts : List Side) → In t (open_of ws ts) → In t ts × (is_open t ws ≡ true)
open_is t ws [] h = absurd h
open_is t ws (u ∷ us) h = go (is_open u ws) refl h (open_is t ws us)
  where
    go : (s : Bool) → is_open u ws ≡ s → In t (if s then u ∷ open_of ws us else open_of ws us) → (In t (open_of ws us) → In t us × (is_open t ws ≡ true))
        → In t (u ∷ us) × (is_open t ws ≡ true)
    go true e (inl q) more = (inl q, ap (λ v. is_open v ws) (sym q) ∙ e)
    go true e (inr k) more = let m = more k in (inr m.0, m.1)
    go false e k more = let m = more k in (inr m.0, m.1)

module _ (b : Block ℕ) where
  abbrev pub region : Side → Region
  region t = leaves_in b t.part t.second

  pub region_in : (t : Side) (ts : List Side) (r : Region) → In t ts → region t ≡ r → In t (in_region b r ts)
  region_in t [] r h e = absurd h
  region_in t (u ∷ us) r (inl q) e =
      let same : same_region (region u) r ≡ true = ap (λ v. same_region (region v) r) q ∙ ap (λ p. same_region p r) e ∙ region_self r in
      subst (λ s. In t (if s then u ∷ in_region b r us else in_region b r us)) (sym same) (inl q)
  region_in t (u ∷ us) r (inr h) e = go (same_region (region u) r) (region_in t us r h e)
    where
      go : (s : Bool) → In t (in_region b r us) → In t (if s then u ∷ in_region b r us else in_region b r us)
      go true k = inr k
      go false k = k

  pub region_from : (t : Side) (r : Region) (ts : List Side) → In t (in_region b r ts) → In t ts × (region t ≡ r)
  region_from t r [] h = absurd h
  region_from t r (u ∷ us) h = go (same_region (region u) r) refl h (region_from t r us)
    where
      go : (s : Bool) → same_region (region u) r ≡ s → In t (if s then u ∷ in_region b r us else in_region b r us)
          → (In t (in_region b r us) → In t us × (region t ≡ r)) → In t (u ∷ us) × (region t ≡ r)
      go true e (inl q) more = (inl q, ap region (sym q) ∙ region_is (region u) r e)
      go true e (inr k) more = let x = more k in (inr x.0, x.1)
      go false e k more = let x = more k in (inr x.0, x.1)

-- USED: a wire leaves there
abbrev pub Used : Side → List Wire → Type 0
Used t ws = is_open t ws ≡ false

pub used_left : (t : Side) (xs ys : List Wire) → Used t xs → Used t (xs ++ ys)
used_left t [] ys h = absurd (cc)
used_left t (x ∷ xs) ys h = go (same_side t x.from) h (used_left t xs ys)
  where
    go : (s : Bool) → (if s then false else is_open t xs) ≡ false → (is_open t xs ≡ false → is_open t (xs ++ ys) ≡ false)
        → (if s then false else is_open t (xs ++ ys)) ≡ false
    go true h more = refl
    go false h more = more h

pub used_right : (t : Side) (xs ys : List Wire) → Used t ys → Used t (xs ++ ys)
used_right t [] ys h = h
used_right t (x ∷ xs) ys h = go (same_side t x.from) (used_right t xs ys h)
  where
    go : (s : Bool) → is_open t (xs ++ ys) ≡ false → (if s then false else is_open t (xs ++ ys)) ≡ false
    go true h = refl
    go false h = h

pub used_here : (t u : Side) (r : Part) (q : Port) (ws : List Wire) → u ≡ t → Used t (wire u r q ∷ ws)
used_here t u r q ws e = ap (λ s. if s then false else is_open t ws) (ap (same_side t) e ∙ side_self t)

pub used_later : (t : Side) (w : Wire) (ws : List Wire) → Used t ws → Used t (w ∷ ws)
used_later t w ws h = used_right t (w ∷ []) ws h

-- the same, with other wires between
pub used_between : (t : Side) (xs ys zs : List Wire) → Used t (xs ++ zs) → Used t (xs ++ (ys ++ zs))
used_between t [] ys zs h = used_right t ys zs h
used_between t (x ∷ xs) ys zs h = go (same_side t x.from) h (used_between t xs ys zs)
  where
    go : (s : Bool) → (if s then false else is_open t (xs ++ zs)) ≡ false → (Used t (xs ++ zs) → Used t (xs ++ (ys ++ zs)))
        → (if s then false else is_open t (xs ++ (ys ++ zs))) ≡ false
    go true h more = refl
    go false h more = more h

pub used_wire : (P : Wire → Type 0) (t : Side) (ws : List Wire) → AllW P ws → Used t ws → (v : Wire) × P v × (t ≡ v.from)
used_wire P t [] all h = absurd (cc)
used_wire P t (w ∷ ws) all h = go (same_side t w.from) refl h (used_wire P t ws all.1)
  where
    go : (s : Bool) → same_side t w.from ≡ s → (if s then false else is_open t ws) ≡ false → (Used t ws → (v : Wire) × P v × (t ≡ v.from))
        → (v : Wire) × P v × (t ≡ v.from)
    go true e h more = (w, all.0, side_is t w.from e)
    go false e h more = more h

pub open_none : (t : Side) (ws : List Wire) → AllW (λ v. t ≢ v.from) ws → is_open t ws ≡ true
open_none t [] h = refl
open_none t (w ∷ ws) h = go (same_side t w.from) refl (open_none t ws h.1)
  where
    go : (s : Bool) → same_side t w.from ≡ s → is_open t ws ≡ true → (if s then false else is_open t ws) ≡ true
    go true e k = absurd (h.0 (side_is t w.from e))
    go false e k = k

-- AMONG the wires
abbrev pub InW : Wire → List Wire → Type 0
InW v [] = ⊥
InW v (w ∷ ws) = (w ≡ v) ⊎ InW v ws

pub wire_left : (v : Wire) (xs ys : List Wire) → InW v xs → InW v (xs ++ ys)
wire_left v [] ys h = absurd h
wire_left v (x ∷ xs) ys (inl e) = inl e
wire_left v (x ∷ xs) ys (inr h) = inr (wire_left v xs ys h)

pub wire_right : (v : Wire) (xs ys : List Wire) → InW v ys → InW v (xs ++ ys)
wire_right v [] ys h = h
wire_right v (x ∷ xs) ys h = inr (wire_right v xs ys h)

pub used_by : (v : Wire) (ws : List Wire) → InW v ws → Used v.from ws
used_by v [] h = absurd h
used_by v (w ∷ ws) (inl e) = ap (λ s. if s then false else is_open v.from ws) (ap (λ (u : Wire). same_side v.from u.from) e ∙ side_self v.from)
used_by v (w ∷ ws) (inr h) = used_later v.from w ws (used_by v ws h)

-- ALONG a side
-- what is along a side is the inlet of a wire from there
pub along_all : (P : Wire → Type 0) (b : Block ℕ) (t : Side) (ws : List Wire) (x : Inlet) → AllW P ws → Contains (along b t ws) x
    → (w : Wire) × P w × (t ≡ w.from) × (inlet_of b w ≡ x)
along_all P b t [] x h c = absurd (contains_none x c)
along_all P b t (w ∷ ws) x h c = go (same_side t w.from) refl c (along_all P b t ws x h.1)
  where
    go : (s : Bool) → same_side t w.from ≡ s → Contains (if s then inlet_of b w ∷ along b t ws else along b t ws) x
        → (Contains (along b t ws) x → (w : Wire) × P w × (t ≡ w.from) × (inlet_of b w ≡ x))
        → (w : Wire) × P w × (t ≡ w.from) × (inlet_of b w ≡ x)
    go false e c more = more c
    go true e c more = pick (contains_cases (inlet_of b w) (along b t ws) x c) more
      where
        pick : (inlet_of b w ≡ x) ⊎ Contains (along b t ws) x → (Contains (along b t ws) x → (w : Wire) × P w × (t ≡ w.from) × (inlet_of b w ≡ x))
            → (w : Wire) × P w × (t ≡ w.from) × (inlet_of b w ≡ x)
        pick (inl q) more = (w, h.0, side_is t w.from e, q)
        pick (inr q) more = more q

pub contains_along : (b : Block ℕ) (v : Wire) (ws : List Wire) → InW v ws → Contains (along b v.from ws) (inlet_of b v)
contains_along b v [] h = absurd h
contains_along b v (w ∷ ws) (inl e) =
    let same : same_side v.from w.from ≡ true = ap (λ (u : Wire). same_side v.from u.from) e ∙ side_self v.from in
    subst (λ q. Contains (if q then inlet_of b w ∷ along b v.from ws else along b v.from ws) (inlet_of b v)) (sym same)
    (subst (λ x. Contains (inlet_of b w ∷ along b v.from ws) x) (ap (inlet_of b) e) (contains_head (inlet_of b w) (along b v.from ws)))
contains_along b v (w ∷ ws) (inr h) = go (same_side v.from w.from) (contains_along b v ws h)
  where
    go : (q : Bool) → Contains (along b v.from ws) (inlet_of b v) → Contains (if q then inlet_of b w ∷ along b v.from ws else along b v.from ws) (inlet_of b v)
    go true c = contains_tail (inlet_of b w) (along b v.from ws) (inlet_of b v) c
    go false c = c

-- who is used sends along some wire
pub used_along : (b : Block ℕ) (t : Side) (ws : List Wire) → Used t ws → (x : Inlet) × Contains (along b t ws) x
used_along b t [] h = absurd (cc)
used_along b t (w ∷ ws) h = go (same_side t w.from) h (used_along b t ws)
  where
    go : (s : Bool) → (if s then false else is_open t ws) ≡ false → (Used t ws → (x : Inlet) × Contains (along b t ws) x)
        → (x : Inlet) × Contains (if s then inlet_of b w ∷ along b t ws else along b t ws) x
    go true h more = (inlet_of b w, contains_head (inlet_of b w) (along b t ws))
    go false h more = more h
