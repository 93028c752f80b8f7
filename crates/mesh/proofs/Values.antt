-- A seat as clauses see it, and its place at the table.
use Rattle.std.proofs.Common.{◌≡◌, ℕ, zero, suc, ◌+◌, List, [], ◌∷◌, ◌++◌, map, length, refl, ap, sym, ◌∙◌, subst, arith}
use mathlib.Core.Option.{some, some-injective, some-ne-none}
use mathlib.Core.List.{IsPrefix, map-append}
use lib.ListN.{get_elem?, length-map}
use Rattle.atomic_table.specs.Seated.{TableId}
use Rattle.atomic_table.specs.declared.shared.Seat as at_table
use Rattle.tags.specs.declared.token.Token.{Token}
use Rattle.semantics.specs.Pool.{LeavesPool}
use Rattle.mesh.specs.declared.view.Part.{Part}
use Rattle.mesh.specs.declared.view.View.{View}
use Rattle.mesh.specs.Deeds.{posted, taken, commits_by, commits_of, wins, entry, Says}
use Rattle.mesh.specs.Rule as rule
use Rattle.mesh.specs.Seats.{MeshId, SeatView, Account, AreAll, HasCommits, Agree, Includes, IsFinal, OneStop, all_wins, account, accounts}
use Rattle.mesh.specs.Seats.{first_of, others_of, seat_view}
use Rattle.mesh.specs.Places.{IsOf, IsReady}
use Rattle.mesh.proofs.Ends.{finished}

none_of : (ps : List Part) → map account ps ≡ [] → ps ≡ []
none_of [] e = refl
none_of (p ∷ ps) e = absurd (cc)

-- a seat to which no other was joined
pub is_of : {S : Type 0} (e : ℕ) (s : at_table.Seat S View) → IsReady e s.me → map account (others_of s.me.0.parts) ≡ [] → IsOf e s
is_of e s r alone = (
  r.seated.0,
  r.seated.1,
  r.parts ∙ ap (λ (ps : List Part). first_of s.me.0.parts ∷ ps) (none_of (others_of s.me.0.parts) alone),
  r.element,
  r.idle,
)

module _ {X Y : Type 0} (f : X → Y) where
  at_map : (xs : List X) (i : ℕ) (y : Y) → get_elem? (map f xs) i ≡ some y → (x : X) × (get_elem? xs i ≡ some x) × (f x ≡ y)
  at_map [] i y e = absurd (some-ne-none y (sym e))
  at_map (x ∷ xs) zero y e = (x, refl, some-injective (f x) y e)
  at_map (x ∷ xs) (suc i) y e = at_map xs i y e

  map_at : (xs : List X) (i : ℕ) (x : X) → get_elem? xs i ≡ some x → get_elem? (map f xs) i ≡ some (f x)
  map_at [] i x e = absurd (some-ne-none x (sym e))
  map_at (y ∷ xs) zero x e = ap (λ (z : X). some (f z)) (some-injective y x e)
  map_at (y ∷ xs) (suc i) x e = map_at xs i x e

abbrev pub HasFirst : List Part → Type 0
HasFirst ps = ps ≡ first_of ps ∷ others_of ps

accounts_are : (t : TableId) (v : View) → HasFirst v.parts → accounts (seat_view t v) ≡ map account v.parts
accounts_are t v e = sym (ap (map account) e)

first_more : (ps qs rs : List Part) → HasFirst ps → rs ≡ ps ++ qs → HasFirst rs
first_more [] qs rs e is = absurd (cc (e))
first_more (p ∷ ps) qs rs e is = subst HasFirst (sym is) refl

-- a seat that another was joined to
pub joins_accounts : (t t' t'' : TableId) (v w u : View) → HasFirst v.parts → HasFirst w.parts → u.parts ≡ v.parts ++ w.parts
    → accounts (seat_view t u) ≡ accounts (seat_view t' v) ++ accounts (seat_view t'' w)
joins_accounts t t' t'' v w u a b e =
    accounts_are t u (first_more v.parts w.parts u.parts a e)
    ∙ (ap (map account) e ∙ (map-append account v.parts w.parts ∙ (λ i. sym (accounts_are t' v a) i ++ sym (accounts_are t'' w b) i)))

empty_list : (ts : List Token) → length ts ≡ 0 → ts ≡ []
empty_list [] e = refl
empty_list (t ∷ ts) e = absurd (omega arith)

abbrev Each : (SeatView → Account → Type 0) → SeatView → Type 0
Each P s = (i : ℕ) (a : Account) → get_elem? (accounts s) i ≡ some a → P s a

module _ (t : TableId) (v : View) (full : HasFirst v.parts) where
  at_account : (i : ℕ) (a : Account) → get_elem? (accounts (seat_view t v)) i ≡ some a → (p : Part) × (get_elem? v.parts i ≡ some p) × (account p ≡ a)
  at_account i a at = at_map account v.parts i a (subst (λ (l : List Account). get_elem? l i ≡ some a) (accounts_are t v full) at)

  pub commits_seen : rule.HasCommits v → rule.NoOthers v → HasCommits (seat_view t v)
  commits_seen h none = (
    (λ i a at. let p = at_account i a at in subst (λ (z : Account). commits_by z.element v.seen ≡ commits_of z.element z.deeds) p.2 (h i p.0 p.1)),
    none,
  )

  pub agree_seen : rule.Agree v → Agree (seat_view t v)
  agree_seen h i j a b at bt = let p = at_account i a at in let q = at_account j b bt in
      subst (λ (z : Account × Account). IsPrefix (taken z.0.element z.1.deeds) (posted z.1.element z.0.deeds)) (λ k. (p.2 k, q.2 k)) (h i j p.0 q.0 p.1 q.1)

  pub includes_seen : rule.Includes v → Includes (seat_view t v)
  includes_seen h i a at = let p = at_account i a at in subst (λ (z : Account). IsPrefix z.last v.seen) p.2 (h i p.0 p.1)

  pub final_seen : (count : ℕ) → rule.Leaves v count → rule.Includes v → IsFinal (seat_view t v)
  final_seen count legal all i a at nothing = let p = at_account i a at in
      ap (λ (z : Account). z.last) (sym p.2) ∙ finished v count p.0 i legal all p.1
      (subst (λ (z : Account × List Token). LeavesPool v.elements v.start (map entry z.0.last) z.1)
      (λ k. (sym p.2 k, empty_list nothing.0 nothing.2 k)) nothing.1)

  wins_are : (ps : List Part) → all_wins (map account ps) ≡ rule.part_wins ps
  wins_are [] = refl
  wins_are (p ∷ ps) = ap (λ (z : ℕ). wins p.deeds + z) (wins_are ps)

  has_all : (mesh : MeshId) (seats : List SeatView) → AreAll mesh seats → mesh.elements ≡ v.elements → accounts (seat_view t v)
      ≡ map (λ s. s.own) seats → rule.HasAll v
  has_all mesh seats all same is =
      let these : map account v.parts ≡ map (λ (s : SeatView). s.own) seats = sym (accounts_are t v full) ∙ is in
      let a : length v.parts ≡ length (map account v.parts) = sym (length-map v.parts account) in
      let b : length (map (λ (s : SeatView). s.own) seats) ≡ length seats = length-map seats (λ (s : SeatView). s.own) in (
        a ∙ (ap length these ∙ (b ∙ (all.0 ∙ same))),
        λ i p at. let s = at_map (λ (s : SeatView). s.own) seats i (account p) (subst (λ (l : List Account). get_elem? l i ≡ some (account p)) these
            (map_at account v.parts i p at)) in
            sym (ap (λ (z : Account). z.element) s.2) ∙ (all.1 i s.0 s.1).2,
      )

  pub stop_seen : (mesh : MeshId) (seats : List SeatView) → AreAll mesh seats → mesh.elements ≡ v.elements → accounts (seat_view t v)
      ≡ map (λ s. s.own) seats → rule.OneStop v → OneStop (seat_view t v)
  stop_seen mesh seats all same is h = (
    h.0,
    (λ i a at. let p = at_account i a at in subst (λ (z : Account). Says h.0 z.deeds) p.2 (h.1 i p.0 p.1)),
    ap all_wins (accounts_are t v full) ∙ (wins_are v.parts ∙ h.2 (has_all mesh seats all same is)),
  )
