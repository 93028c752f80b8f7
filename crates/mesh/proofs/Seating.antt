-- Rows of seats.
use Rattle.std.proofs.Common.{◌≡◌, ℕ, ◌+◌, List, [], ◌∷◌, ◌++◌, map, length, refl, ap, sym, ◌∙◌, subst, ⊎_elim, append_assoc, length-append}
use mathlib.Core.Option.{some}
use mathlib.Core.List.{map-append}
use lib.ListN.{get_elem?}
use Rattle.atomic_table.specs.Seated.{TableId}
use Rattle.atomic_table.proofs.Lists.{at_longer, at_last}
use Rattle.tags.specs.declared.token.Token.{Token}
use Rattle.mesh.specs.declared.view.Commit.{Commit}
use Rattle.mesh.specs.declared.view.View.{View}
use Rattle.mesh.specs.Rule.{fresh, next_view}
use Rattle.mesh.specs.Seats.{MeshId, Account, SeatView, AreAt, AreFresh, fresh_seat, seat_view, mesh_id, account, accounts}
use Rattle.mesh.proofs.SeatSteps.{at_end}

abbrev pub own : SeatView → Account
own s = s.own

-- the last seat of a row, and the row without it
pub popped : (mesh : MeshId) (xs ys : List SeatView) (s : SeatView) → ys ≡ xs ++ s ∷ [] → AreAt mesh ys → AreAt mesh xs × (s.mesh ≡ mesh) × (s.joined ≡ [])
popped mesh xs ys s is all =
    let last = all (length xs) s (subst (λ (l : List SeatView). get_elem? l (length xs) ≡ some s) (sym is) (at_last xs s (length xs) refl)) in
    ((λ i t e. all i t (subst (λ (l : List SeatView). get_elem? l i ≡ some t) (sym is) (at_longer xs (s ∷ []) i t e))), last.0, last.1)

pub owns_more : (xs ys : List SeatView) (s : SeatView) (as_well : List Account) → ys ≡ xs ++ s ∷ [] → s.joined ≡ [] → map own ys ++ as_well
    ≡ map own xs ++ (accounts s ++ as_well)
owns_more xs ys s as_well is alone =
    ap (λ (l : List SeatView). map own l ++ as_well) is ∙ (ap (λ (l : List Account). l ++ as_well) (map-append own xs (s ∷ []))
    ∙ (append_assoc (map own xs) (own s ∷ []) as_well ∙ ap (λ (l : List Account). map own xs ++ ((own s ∷ l) ++ as_well)) (sym alone)))

pub owns_first : (xs ys : List SeatView) (s : SeatView) → ys ≡ xs ++ s ∷ [] → s.joined ≡ [] → map own ys ≡ map own xs ++ accounts s
owns_first xs ys s is alone = ap (map own) is ∙ (map-append own xs (s ∷ []) ∙ ap (λ (l : List Account). map own xs ++ (own s ∷ l)) (sym alone))

pub length_more : (xs ys : List SeatView) (s : SeatView) (i : ℕ) → ys ≡ xs ++ s ∷ [] → length xs ≡ i → length ys ≡ i + 1
length_more xs ys s i is len = ap length is ∙ (length-append xs (s ∷ []) ∙ ap (λ (z : ℕ). z + 1) len)

abbrev made : TableId → ℕ → List Token → ℕ → List Commit → SeatView
made table m st e seen = record { mesh = mesh_id table m st; seen = seen; own = account (fresh m st e); joined = [] }

-- the seat that was just split off
is_fresh : (table : TableId) (n : ℕ) (start : List Token) (i : ℕ) (v w : View) → w ≡ next_view v → v.elements ≡ n → v.start ≡ start → v.spare ≡ i
    → v.seen ≡ [] → seat_view table w ≡ fresh_seat (mesh_id table n start) i
is_fresh table n start i v w is vn vs vi vseen = ap (seat_view table) is ∙ (λ k. made table (vn k) (vs k) (vi k) (vseen k))

pub fresh_step : (table : TableId) (n : ℕ) (start : List Token) (xs ys : List SeatView) (t : TableId) (w : View) (i : ℕ) (v : View) → ys ≡ xs
    ++ seat_view t w ∷ [] → length xs ≡ i → AreFresh (mesh_id table n start) xs
    → t ≡ table → w ≡ next_view v → v.elements ≡ n → v.start ≡ start → v.spare ≡ i → v.seen ≡ [] → AreFresh (mesh_id table n start) ys
fresh_step table n start xs ys t w i v is len all at q vn vs vi vseen j s e = ⊎_elim (λ old. all j s old.1)
    (λ new. sym new.1 ∙ ((λ k. seat_view (at k) w) ∙ (is_fresh table n start i v w q vn vs vi vseen ∙ ap (fresh_seat (mesh_id table n start)) (sym len
    ∙ sym new.0))))
    (at_end xs (seat_view t w) s j (subst (λ (l : List SeatView). get_elem? l j ≡ some s) is e))

-- the same of fresh seats
pub popped_fresh : (mesh : MeshId) (xs ys : List SeatView) (s : SeatView) → ys ≡ xs ++ s ∷ [] → AreFresh mesh ys → AreFresh mesh xs
    × (s ≡ fresh_seat mesh (length xs))
popped_fresh mesh xs ys s is all = (
  (λ i t e. all i t (subst (λ (l : List SeatView). get_elem? l i ≡ some t) (sym is) (at_longer xs (s ∷ []) i t e))),
  all (length xs) s (subst (λ (l : List SeatView). get_elem? l (length xs) ≡ some s) (sym is) (at_last xs s (length xs) refl)),
)
