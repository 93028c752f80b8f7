-- Where the parts of a list are, and the wires of a side read off its destinations.
use Rattle.std.proofs.Common.{◌≡◌, ℕ, zero, suc, ◌+◌, ◌-◌, ◌<◌, ◌≤◌, ◌⊎◌, inl, inr, Bool, true, false, List, [], ◌∷◌, map, length, refl, sym, ap, ◌∙◌, arith}
use Rattle.std.proofs.Common.{if◌then◌else◌, Some, Contains}
use Rattle.std.specs.Prelude.{slice_get, slice_index_or, ⊤}
use Rattle.lemmas.proofs.Contains.{contains_cases, contains_head, contains_tail, contains_none}
use Rattle.semantics.specs.declared.graph.Region.{Region}
use Rattle.semantics.specs.declared.program.Dest.{Dest}
use Rattle.semantics.specs.Graph.{Block}
use Rattle.law_confluence.specs.OrdersTotals.{one}
use Rattle.law_net.specs.ContextsParts.{Part, Entry, Inlet, inlet, same_part}
use Rattle.law_net.specs.ContextsBlocks.{Side, Wiring, leaves_in}
use Rattle.law_net.specs.ContextsWires.{leads_to, ip_and_port}
use Rattle.law_net.specs.ContextsExpanded.{place_from, inlet_by, way_in}
use Rattle.law_net.proofs.ContextsSames.{same_part-true, same_part-refl}
use Rattle.law_wiring.specs.Written.{Wire, along, inlet_of, same_side}
use Rattle.law_wiring.proofs.PartsSame.{side_is}
use Rattle.law_wiring.proofs.Laid.{Env, goes, dest}
use Rattle.law_wiring.proofs.PartsStanding.{Stand}
use Rattle.law_wiring.proofs.PartsCounts.{tally}

-- PLACES
place_least : (r : Part) (n : ℕ) (xs : List Part) → n ≤ place_from r n xs
place_least r n [] = omega arith
place_least r n (x ∷ xs) = go (same_part r x) (place_least r (n + 1) xs)
  where
    go : (t : Bool) → n + 1 ≤ place_from r (n + 1) xs → n ≤ (if t then n else place_from r (n + 1) xs)
    go true h = omega arith
    go false h = omega (arith, h)

pub at_place : (r : Part) (n k : ℕ) (xs : List Part) → place_from r n xs ≡ n + k → k < length xs → slice_get xs k ≡ Some r
at_place r n k [] e l = absurd (omega (arith, l))
at_place r n zero (x ∷ xs) e l = go (same_part r x) refl e
  where
    go : (t : Bool) → same_part r x ≡ t → (if t then n else place_from r (n + 1) xs) ≡ n + 0 → Some x ≡ Some r
    go true f e = ap (λ y. Some y) (sym (same_part-true r x f))
    go false f e = let h = place_least r (n + 1) xs in absurd (omega (arith, h, e))
at_place r n (suc k) (x ∷ xs) e l = go (same_part r x) e (λ f. at_place r (n + 1) k xs f (omega (arith, l)))
  where
    go : (t : Bool) → (if t then n else place_from r (n + 1) xs) ≡ n + suc k → (place_from r (n + 1) xs ≡ (n + 1) + k → slice_get xs k ≡ Some r)
        → slice_get xs k ≡ Some r
    go true e more = absurd (omega (arith, e))
    go false e more = more (omega (arith, e))

pub place_bounded : (r : Part) (n : ℕ) (xs : List Part) → 0 < tally (same_part r) xs → place_from r n xs < n + length xs
place_bounded r n [] h = absurd (omega (arith, h))
place_bounded r n (x ∷ xs) h = go (same_part r x) h (place_bounded r (n + 1) xs)
  where
    go : (t : Bool) → 0 < one t + tally (same_part r) xs → (0 < tally (same_part r) xs → place_from r (n + 1) xs < (n + 1) + length xs)
        → (if t then n else place_from r (n + 1) xs) < n + suc (length xs)
    go true h more = omega arith
    go false h more = let m = more (omega (arith, h)) in omega (arith, m)

pub tally_there : (r : Part) (n : ℕ) (xs : List Part) → slice_get xs n ≡ Some r → 0 < tally (same_part r) xs
tally_there r n [] e = absurd (cc)
tally_there r zero (x ∷ xs) e =
    let same : x ≡ r = cc in let o : one (same_part r x) ≡ 1 = ap (λ y. one (same_part r y)) same ∙ ap one (same_part-refl r) in omega (arith, o)
tally_there r (suc n) (x ∷ xs) e = let h = tally_there r n xs e in omega (arith, h)

pub index_is : {X : Type 0} (xs : List X) (n : ℕ) (x d : X) → slice_get xs n ≡ Some x → slice_index_or xs n d ≡ x
index_is [] n x d e = absurd (cc)
index_is (y ∷ xs) zero x d e = cc
index_is (y ∷ xs) (suc n) x d e = index_is xs n x d e

pub stand_get : (place : Part → ℕ) (m n : ℕ) (xs : List Part) (r : Part) → Stand place m xs → slice_get xs n ≡ Some r → place r ≡ m + n
stand_get place m n [] r h e = absurd (cc)
stand_get place m zero (x ∷ xs) r h e = let same : x ≡ r = cc in ap place (sym same) ∙ h.0 ∙ omega arith
stand_get place m (suc n) (x ∷ xs) r h e = stand_get place (suc m) n xs r h.1 e ∙ omega arith

-- DESTINATIONS within a block of that length
abbrev pub AllDests : ℕ → ℕ → List Dest → Type 0
AllDests size n [] = ⊤
AllDests size n (d ∷ ds) = (0 < d.ahead) × (n + d.ahead < size) × AllDests size n ds

pub all_dests : (size n : ℕ) (ds : List Dest) → ((d : Dest) → Contains ds d → (0 < d.ahead) × (n + d.ahead < size)) → AllDests size n ds
all_dests size n [] h = tt
all_dests size n (d ∷ ds) h = let x = h d (contains_head d ds) in (x.0, x.1, all_dests size n ds (λ y c. h y (contains_tail d ds y c)))

module _ (P : List Part) (placed : Stand (λ r. place_from r 0 P) 0 P) where
  abbrev place : Part → ℕ
  place r = place_from r 0 P

  pub found : (m : ℕ) (r : Part) → place r ≡ m → m < length P → slice_get P m ≡ Some r
  found m r e l = at_place r 0 m P (e ∙ omega arith) l

  -- what is at a place
  back : (m : ℕ) → m < length P → place (slice_index_or P m Entry) ≡ m
  back m l = let x = some P m l in ap place (index_is P m x.0 Entry x.1) ∙ stand_get place 0 m P x.0 placed x.1 ∙ omega arith
    where
      some : {X : Type 0} (xs : List X) (n : ℕ) → n < length xs → (x : X) × (slice_get xs n ≡ Some x)
      some [] n h = absurd (omega (arith, h))
      some (x ∷ xs) zero h = (x, refl)
      some (x ∷ xs) (suc n) h = some xs n (omega (arith, h))

  -- destinations are those of the wires
  pub dests_stand : (w : Wiring) (r : Region) (n : ℕ) (ds : List Dest) → ((q : Part) → w.place q ≡ place q) → AllDests (length P) n ds
      → map (leads_to n) ds ≡ map (ip_and_port w) (map (inlet_by P r n) ds)
  dests_stand w r n [] same h = refl
  dests_stand w r n (d ∷ ds) same h =
      let at : n + d.ahead ≡ w.place (slice_index_or P (n + d.ahead) Entry) = sym (same (slice_index_or P (n + d.ahead) Entry) ∙ back (n + d.ahead) h.1) in
      let rest = dests_stand w r n ds same h.2 in
      (λ i. (at i, d.port) ∷ rest i)

  pub dests_forward : (r : Region) (n : ℕ) (ds : List Dest) (x : Inlet) → AllDests (length P) n ds → Contains (map (inlet_by P r n) ds) x → n < place x.part
  dests_forward r n [] x h c = absurd (contains_none x c)
  dests_forward r n (d ∷ ds) x h c = go (contains_cases (inlet_by P r n d) (map (inlet_by P r n) ds) x c) (dests_forward r n ds x h.2)
    where
      go : (inlet_by P r n d ≡ x) ⊎ Contains (map (inlet_by P r n) ds) x → (Contains (map (inlet_by P r n) ds) x → n < place x.part) → n < place x.part
      go (inl e) more =
          let at = back (n + d.ahead) h.1 in let s : place (slice_index_or P (n + d.ahead) Entry) ≡ place x.part = ap (λ (y : Inlet). place y.part) e in
          let l = h.0 in omega (arith, at, s, l)
      go (inr k) more = more k

  -- and lead to a part of the list
  pub dests_land : (r : Region) (n : ℕ) (ds : List Dest) (x : Inlet) → AllDests (length P) n ds → Contains (map (inlet_by P r n) ds) x
      → (m : ℕ) × (slice_get P m ≡ Some x.part)
  dests_land r n [] x h c = absurd (contains_none x c)
  dests_land r n (d ∷ ds) x h c = go (contains_cases (inlet_by P r n d) (map (inlet_by P r n) ds) x c) (dests_land r n ds x h.2)
    where
      some : {X : Type 0} (xs : List X) (d : X) (n : ℕ) → n < length xs → slice_get xs n ≡ Some (slice_index_or xs n d)
      some [] d n h = absurd (omega (arith, h))
      some (x ∷ xs) d zero h = refl
      some (x ∷ xs) d (suc n) h = some xs d n (omega (arith, h))

      go : (inlet_by P r n d ≡ x) ⊎ Contains (map (inlet_by P r n) ds) x → (Contains (map (inlet_by P r n) ds) x → (m : ℕ) × (slice_get P m ≡ Some x.part))
          → (m : ℕ) × (slice_get P m ≡ Some x.part)
      go (inl e) more = (n + d.ahead, some P Entry (n + d.ahead) h.1 ∙ ap (λ (y : Inlet). Some y.part) e)
      go (inr k) more = more k

  -- the wires that are read off are those along which the side leads
  pub dests_along : (b : Block ℕ) (e : Env) (t : Side) (ws : List Wire) → ((q : Part) → e.place q ≡ place q) → AllDests (length P) (place t.part) (goes e t ws)
      → map (inlet_by P (leaves_in b t.part t.second) (place t.part)) (goes e t ws) ≡ along b t ws
  dests_along b e t [] same h = refl
  dests_along b e t (w ∷ ws) same h = go (same_side t w.from) refl h (dests_along b e t ws same)
    where
      reg : Region
      reg = leaves_in b t.part t.second

      read : List Dest → List Inlet
      read ds = map (inlet_by P reg (place t.part)) ds

      go : (x : Bool) → same_side t w.from ≡ x → AllDests (length P) (place t.part) (if x then dest e w ∷ goes e t ws else goes e t ws)
          → (AllDests (length P) (place t.part) (goes e t ws) → map (inlet_by P reg (place t.part)) (goes e t ws) ≡ along b t ws)
          → map (inlet_by P reg (place t.part)) (if x then dest e w ∷ goes e t ws else goes e t ws) ≡ (if x then inlet_of b w ∷ along b t ws else along b t ws)
      go false f h more = more h
      go true f h more =
          let its : t ≡ w.from = side_is t w.from f in
          let from : place t.part ≡ place w.from.part = ap (λ (u : Side). place u.part) its in
          let a = same w.part in
          let c = same w.from.part in
          let ahead = h.0 in
          let at : place t.part + (e.place w.part - e.place w.from.part) ≡ place w.part = omega (arith, from, a, c, ahead) in
          let low = h.1 in
          let part : slice_index_or P (place t.part + (e.place w.part - e.place w.from.part)) Entry ≡ w.part
          = ap (λ m. slice_index_or P m Entry) at ∙ index_is P (place w.part) w.part Entry (found (place w.part) w.part refl (omega (arith, low, at))) in
          let reg_is : reg ≡ leaves_in b w.from.part w.from.second = ap (λ (u : Side). leaves_in b u.part u.second) its in
          let rest = more h.2 in
          (λ i. inlet (part i) w.port (way_in (part i) (reg_is i)) ∷ rest i)
