-- ALL that is wanted has what it wants: instances are added until none is new.
use Rattle.std.specs.Prelude.{◌≡◌, ℕ, zero, suc, ◌+◌, ◌≤◌, ◌&&◌, ◌||◌, Bool, true, false, List, [], ◌∷◌, ◌++◌, length, slice_get, Option, None, Some, refl}
use Rattle.std.specs.Prelude.{⊤, if◌then◌else◌}
use Rattle.std.proofs.Common.{sym, ◌∙◌, ap, subst, arith, length-append, append_assoc}
use Rattle.lemmas.proofs.Bools.{equal_itself, or_true}
use Rattle.lemmas.proofs.Permutations.{Each, each_append, each_weaker}
use Rattle.semantics.specs.Graph.{same_name}
use Rattle.semantics.proofs.Lines.{same_name_itself}
use Rattle.source.specs.Tree.{Name}
use Rattle.surface.specs.Tree.{Program}
use Rattle.surface.specs.Desugar.{Setting, same_names}
use Rattle.surface.specs.Instances.{Wanted, is_wanted, and_new, instance_wants, closed}

-- MEMBERS of a list
abbrev pub AllIn : List Wanted → List Wanted → Type 0
AllIn all ws = Each (λ w. is_wanted all w ≡ true) ws

pub same_names_itself : (xs : List Name) → same_names xs xs ≡ true
same_names_itself [] = refl
same_names_itself (x ∷ xs) = rw (same_name_itself x) (same_names_itself xs)

itself : (w : Wanted) → (same_name w.function w.function && same_names w.arrays w.arrays) ≡ true
itself w = rw (same_name_itself w.function) (same_names_itself w.arrays)

or_later : (a b c : Bool) → (b ≡ true → c ≡ true) → (a || b) ≡ true → (a || c) ≡ true
or_later true b c h e = refl
or_later false b c h e = h e

still_wanted : (all extra : List Wanted) (w : Wanted) → is_wanted all w ≡ true → is_wanted (all ++ extra) w ≡ true
still_wanted [] extra w h = cc
still_wanted (v ∷ all) extra w h = or_later (same_name v.function w.function && same_names v.arrays w.arrays) (is_wanted all w) (is_wanted (all ++ extra) w) (λ e.
    still_wanted all extra w e) h

last_wanted : (all : List Wanted) (w : Wanted) → is_wanted (all ++ w ∷ []) w ≡ true
last_wanted [] w = ap (λ (b : Bool). b || false) (itself w)
last_wanted (v ∷ all) w = ap (λ (b : Bool). (same_name v.function w.function && same_names v.arrays w.arrays) || b) (last_wanted all w) ∙ or_true (same_name v.function
    w.function && same_names v.arrays w.arrays)

no_more : {X : Type 0} (xs : List X) → xs ++ [] ≡ xs
no_more [] = refl
no_more (x ∷ xs) = ap (λ ys. x ∷ ys) (no_more xs)

-- WHAT IS ADDED is at the end.
abbrev Longer : List Wanted → List Wanted → Type 0
Longer all longer = (extra : List Wanted) × (longer ≡ all ++ extra)

and_new_is : (all ws : List Wanted) → Longer all (and_new all ws)
and_new_is all [] = ([], sym (no_more all))
and_new_is all (w ∷ ws) = go (is_wanted all w) (and_new_is all ws) (and_new_is (all ++ w ∷ []) ws)
  where
    go : (b : Bool) → Longer all (and_new all ws) → Longer (all ++ w ∷ []) (and_new (all ++ w ∷ []) ws) → Longer all (and_new (if b then all else all ++ w ∷ []) ws)
    go true same more = same
    go false same more = (w ∷ more.0, more.1 ∙ append_assoc all (w ∷ []) more.0)

in_longer : (all longer : List Wanted) (w : Wanted) → Longer all longer → is_wanted all w ≡ true → is_wanted longer w ≡ true
in_longer all longer w l h = subst (λ (vs : List Wanted). is_wanted vs w ≡ true) (sym l.1) (still_wanted all l.0 w h)

pub and_new_has : (all ws : List Wanted) → AllIn (and_new all ws) ws
and_new_has all [] = tt
and_new_has all (w ∷ ws) = go (is_wanted all w) refl (and_new_has all ws) (and_new_has (all ++ w ∷ []) ws)
  where
    go : (b : Bool) → is_wanted all w ≡ b → AllIn (and_new all ws) ws → AllIn (and_new (all ++ w ∷ []) ws) ws → AllIn (and_new (if b then all else all ++ w ∷ []) ws) (w ∷ ws)
    go true e same more = (in_longer all (and_new all ws) w (and_new_is all ws) e, same)
    go false e same more = (in_longer (all ++ w ∷ []) (and_new (all ++ w ∷ []) ws) w (and_new_is (all ++ w ∷ []) ws) (last_wanted all w), more)

pub and_new_each : (P : Wanted → Type 0) (all ws : List Wanted) → Each P all → Each P ws → Each P (and_new all ws)
and_new_each P all [] h g = h
and_new_each P all (w ∷ ws) h g = go (is_wanted all w) (and_new_each P all ws h g.1) (and_new_each P (all ++ w ∷ []) ws (each_append P all (w ∷ []) h (g.0, tt)) g.1)
  where
    go : (b : Bool) → Each P (and_new all ws) → Each P (and_new (all ++ w ∷ []) ws) → Each P (and_new (if b then all else all ++ w ∷ []) ws)
    go true same more = same
    go false same more = more

-- PLACES in a list
each_got : (P : Wanted → Type 0) (ws : List Wanted) (n : ℕ) (w : Wanted) → Each P ws → slice_get ws n ≡ Some w → P w
each_got P [] n w h e = cc
each_got P (v ∷ ws) zero w h e = let same : v ≡ w = cc in subst (λ (v : Wanted). P v) same h.0
each_got P (v ∷ ws) (suc n) w h e = each_got P ws n w h.1 e

got_next : (done rest : List Wanted) (w : Wanted) → slice_get (done ++ w ∷ rest) (length done) ≡ Some w
got_next [] rest w = refl
got_next (v ∷ done) rest w = got_next done rest w

got_none : (done : List Wanted) → slice_get (done ++ []) (length done) ≡ None
got_none [] = refl
got_none (v ∷ done) = got_none done

module _ (s : Setting) (p : Program) where
  abbrev stepped : ℕ → ℕ → List Wanted → Option Wanted → List Wanted
  stepped more n all o = elim o as (λ _. List Wanted) [
    | None ↦ all
    | Some w ↦ closed more s p (n + 1) (and_new all (instance_wants s p w))
  ]

  -- what holds of all that is added
  pub closed_each : (P : Wanted → Type 0) → ((w : Wanted) → P w → Each P (instance_wants s p w)) → (fuel n : ℕ) (all : List Wanted) → Each P all → Each P (closed fuel s p
      n all)
  closed_each P wants zero n all h = h
  closed_each P wants (suc fuel) n all h = go (slice_get all n) refl (λ w g. closed_each P wants fuel (n + 1) (and_new all (instance_wants s p w)) (and_new_each P all
      (instance_wants s p w) h (wants w g)))
    where
      go : (o : Option Wanted) → slice_get all n ≡ o → ((w : Wanted) → P w → Each P (closed fuel s p (n + 1) (and_new all (instance_wants s p w)))) → Each P (stepped fuel n
          all o)
      go None e later = h
      go (Some w) e later = later w (each_got P all n w h e)

  pub closed_more : (fuel n : ℕ) (all : List Wanted) (w : Wanted) → is_wanted all w ≡ true → is_wanted (closed fuel s p n all) w ≡ true
  closed_more zero n all w h = h
  closed_more (suc fuel) n all w h = go (slice_get all n) (λ v. closed_more fuel (n + 1) (and_new all (instance_wants s p v)) w (in_longer all (and_new all (instance_wants
      s p v)) w (and_new_is all (instance_wants s p v)) h))
    where
      go : (o : Option Wanted) → ((v : Wanted) → is_wanted (closed fuel s p (n + 1) (and_new all (instance_wants s p v))) w ≡ true) → is_wanted (stepped fuel n all o) w ≡
          true
      go None later = h
      go (Some v) later = later v

  abbrev HasWants : List Wanted → Wanted → Type 0
  HasWants all w = AllIn all (instance_wants s p w)

  -- Those before n have all that they want.
  pub closed_wants : (fuel n : ℕ) (done rest : List Wanted) → n ≡ length done → fuel + n ≡ 257 → Each (HasWants (done ++ rest)) done → length (closed fuel s p n (done ++
      rest)) ≤ 256 → Each (HasWants (closed fuel s p n (done ++ rest))) (closed fuel s p n (done ++ rest))
  closed_wants zero n done rest l f h few = absurd (omega (arith, l, f, few, length-append done rest))
  closed_wants (suc fuel) n done [] l f h few =
      let at : slice_get (done ++ []) n ≡ None = ap (λ (m : ℕ). slice_get (done ++ []) m) l ∙ got_none done in
      let is : closed (suc fuel) s p n (done ++ []) ≡ done ++ [] = ap (λ (o : Option Wanted). stepped fuel n (done ++ []) o) at in
      let all : Each (HasWants (done ++ [])) (done ++ []) = each_append (HasWants (done ++ [])) done [] h tt in
      subst (λ (r : List Wanted). Each (HasWants r) r) (sym is) all
  closed_wants (suc fuel) n done (w ∷ rest) l f h few =
      let all : List Wanted = done ++ w ∷ rest in
      let wants : List Wanted = instance_wants s p w in
      let more : Longer all (and_new all wants) = and_new_is all wants in
      let first : List Wanted = done ++ w ∷ [] in
      let next : List Wanted = first ++ (rest ++ more.0) in
      let split : and_new all wants ≡ next = more.1 ∙ append_assoc done (w ∷ rest) more.0 ∙ sym (append_assoc done (w ∷ []) (rest ++ more.0)) in
      let at : slice_get all n ≡ Some w = ap (λ (m : ℕ). slice_get all m) l ∙ got_next done rest w in
      let is : closed (suc fuel) s p n all ≡ closed fuel s p (n + 1) next = ap (λ (o : Option Wanted). stepped fuel n all o) at ∙ ap (λ (vs : List Wanted). closed fuel s p
      (n + 1) vs) split in
      let old : Each (HasWants next) done = each_weaker (HasWants all) (HasWants next) (λ v g. each_weaker (λ u. is_wanted all u ≡ true) (λ u. is_wanted next u ≡ true) (λ u
      e. in_longer all next u (more.0, sym split ∙ more.1) e) (instance_wants s p v) g) done h in
      let new : HasWants next w = subst (λ (vs : List Wanted). AllIn vs wants) split (and_new_has all wants) in
      let one : n + 1 ≡ length first = omega (arith, l, length-append done (w ∷ [])) in
      let small : length (closed fuel s p (n + 1) next) ≤ 256 = subst (λ (r : List Wanted). length r ≤ 256) is few in
      let later : Each (HasWants (closed fuel s p (n + 1) next)) (closed fuel s p (n + 1) next) = closed_wants fuel (n + 1) first (rest ++ more.0) one (omega (arith, f))
      (each_append (HasWants next) done (w ∷ []) old (new, tt)) small in
      subst (λ (r : List Wanted). Each (HasWants r) r) (sym is) later
