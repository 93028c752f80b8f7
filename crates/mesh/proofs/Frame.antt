-- What stays true of the other seats and the other boxes over a step of one seat.
use Rattle.std.proofs.Common.{◌≡◌, ◌≢◌, ℕ, zero, suc, ◌+◌, ◌*◌, ◌<◌, ◌≤◌, Bool, true, false, List, [], ◌∷◌, ◌++◌, length, get_or, set, refl, ap}
use Rattle.std.proofs.Common.{sym, ◌∙◌, subst, ⊎_elim, arith, Option, Some, None}
use mathlib.Core.Logic.{dite}
use mathlib.Core.Option.{some, none, some-injective, some-ne-none}
use mathlib.Core.Option as maybe
use mathlib.Core.List.{IsPrefix}
use native.Mathlib.Decide.{ℕ_discrete}
use lib.ListN.{get_elem?}
use Rattle.atomic_table.proofs.Lists.{at_set}
use Rattle.tags.specs.declared.token.Token.{Token}
use Rattle.mesh.specs.declared.view.Commit.{Commit}
use Rattle.mesh.specs.declared.view.Part.{Part}
use Rattle.mesh.specs.declared.view.View.{View}
use Rattle.mesh.specs.Deeds.{Bundle, posted, taken, posting, taking, commits_by}
use Rattle.mesh.specs.Rule.{Fits, BoxIs, BoxAt}

module _ {A : Type 0} where
  abbrev pick : {P : Type 0} → Dec P → A → A → A
  pick (yes _) a b = a
  pick (no _) a b = b

  pub put : (ℕ → A) → ℕ → A → ℕ → A
  put f i c j = pick (ℕ_discrete j i) c (f j)

  pub put_here : (f : ℕ → A) (i : ℕ) (c : A) → put f i c i ≡ c
  unfolding put
  put_here f i c = go (ℕ_discrete i i)
    where
      go : (d : Dec (i ≡ i)) → pick d c (f i) ≡ c
      go (yes _) = refl
      go (no n) = absurd (n refl)

  pub put_else : (f : ℕ → A) (i : ℕ) (c : A) (j : ℕ) → j ≢ i → put f i c j ≡ f j
  unfolding put
  put_else f i c j other = go (ℕ_discrete j i)
    where
      go : (d : Dec (j ≡ i)) → pick d c (f j) ≡ f j
      go (yes e) = absurd (other e)
      go (no _) = refl

pub prefix_trans : {A : Type 0} (xs ys zs : List A) → IsPrefix xs ys → IsPrefix ys zs → IsPrefix xs zs
prefix_trans xs ys zs p q = (p.0 ++ q.0, sym (Rattle.std.proofs.Common.append_assoc xs p.0 q.0) ∙ (ap (λ w. w ++ q.0) p.1 ∙ q.1))

-- two boxes with one number are one box
pub same_box : (a b c d : ℕ) → b < 16 → d < 16 → 16 * a + b ≡ 16 * c + d → (a ≡ c) × (b ≡ d)
same_box a b c d lb ld e = (omega arith, omega arith)

module _ (n : ℕ) (start : List Token) (part : ℕ → Part) (owner : ℕ → ℕ) (log log' : List Commit) where
  abbrev pub OthersSame : ℕ → Type 0
  OthersSame e = (x : ℕ) → x ≢ e → commits_by x log' ≡ commits_by x log

  -- another seat than the one that owns the part e
  pub fits_else : (e id j : ℕ) (p' : Part) (v : View) → owner e ≡ id → j ≢ id → IsPrefix log log' → OthersSame e → Fits n start part owner log j v
      → Fits n start (put part e p') owner log' j v
  fits_else e id j p' v mine other grows same_by ok = record {
    about = λ some_view. let a = ok.about some_view in (
      a.0,
      a.1,
      λ x low high. let b = a.2 x low high in
          (b.0, put_else part e p' x (λ same. other (sym b.0 ∙ (ap owner same ∙ mine))) ∙ b.1),
    );
    parts = λ k p at. let a = ok.parts k p at in (a.0, a.1, put_else part e p' p.element (λ same. other (sym a.1 ∙ (ap owner same ∙ mine))) ∙ a.2);
    apart = ok.apart;
    seen = prefix_trans v.seen log log' ok.seen grows;
    lasts = λ k p at. prefix_trans p.last log log' (ok.lasts k p at) grows;
    whole = λ k p at. let a = ok.parts k p at in ok.whole k p at ∙ sym (same_by p.element (λ same. other (sym a.1 ∙ (ap owner same ∙ mine))));
  }

  -- the seat that has this one part
  pub fits_here : (id : ℕ) (p p' : Part) (v : View) (seen : List Commit) → Fits n start part owner log id v → v.parts ≡ p ∷ [] → n ≤ v.spare
      → p'.element ≡ p.element → IsPrefix seen log' → commits_by p.element seen ≡ commits_by p.element log' → IsPrefix p'.last log'
      → Fits n start (put part p.element p') owner log' id (record v { parts = p' ∷ []; seen = seen })
  fits_here id p p' v seen ok one all_out same pre all_mine last =
      let mine = ok.parts 0 p (ap (λ ps. get_elem? ps 0) one) in record {
        about = λ some_view. let a = ok.about some_view in (a.0, a.1, λ x low high. absurd (omega arith));
        parts = only;
        apart = alone;
        seen = pre;
        lasts = lasts;
        whole = own;
      }
    where
      only : (k : ℕ) (q : Part) → get_elem? (p' ∷ []) k ≡ some q → (q.element < n) × (owner q.element ≡ id) × (put part p.element p' q.element ≡ q)
      only zero q at =
          let mine = ok.parts 0 p (ap (λ ps. get_elem? ps 0) one) in
          let is : p' ≡ q = some-injective p' q at in
          subst (λ (z : Part). (z.element < n) × (owner z.element ≡ id) × (put part p.element p' z.element ≡ z)) is
          (subst (λ (x : ℕ). x < n) (sym same) mine.0, ap owner same ∙ mine.1, ap (put part p.element p') same ∙ put_here part p.element p')
      only (suc k) q at = absurd (some-ne-none q (sym at))

      alone : (i j : ℕ) (x y : Part) → get_elem? (p' ∷ []) i ≡ some x → get_elem? (p' ∷ []) j ≡ some y → x.element ≡ y.element → i ≡ j
      alone zero zero x y a b e = refl
      alone zero (suc j) x y a b e = absurd (some-ne-none y (sym b))
      alone (suc i) j x y a b e = absurd (some-ne-none x (sym a))

      lasts : (k : ℕ) (q : Part) → get_elem? (p' ∷ []) k ≡ some q → IsPrefix q.last log'
      lasts zero q at = subst (λ (z : Part). IsPrefix z.last log') (some-injective p' q at) last
      lasts (suc k) q at = absurd (some-ne-none q (sym at))

      own : (k : ℕ) (q : Part) → get_elem? (p' ∷ []) k ≡ some q → commits_by q.element seen ≡ commits_by q.element log'
      own zero q at = let is : p' ≡ q = some-injective p' q at in subst (λ (x : ℕ). commits_by x seen ≡ commits_by x log') (sym same
          ∙ ap (λ (z : Part). z.element) is) all_mine
      own (suc k) q at = absurd (some-ne-none q (sym at))

  pub seats_step : (views : List View) (id : ℕ) (p p' : Part) (v : View) (seen : List Commit) → get_elem? views id ≡ some v
      → ((j : ℕ) (u : View) → get_elem? views j ≡ some u → Fits n start part owner log j u)
      → v.parts ≡ p ∷ [] → n ≤ v.spare → p'.element ≡ p.element → IsPrefix seen log' → commits_by p.element seen ≡ commits_by p.element log'
      → IsPrefix log log' → OthersSame p.element → IsPrefix p'.last log'
      → (j : ℕ) (u : View) → get_elem? (set views id (record v { parts = p' ∷ []; seen = seen })) j ≡ some u
      → Fits n start (put part p.element p') owner log' j u
  seats_step views id p p' v seen at all one out same pre all_mine grows same_by last j u e =
      let w : View = record v { parts = p' ∷ []; seen = seen } in
      let mine = (all id v at).parts 0 p (ap (λ ps. get_elem? ps 0) one) in
      ⊎_elim (λ (t : (j ≡ id) × (w ≡ u)). subst (λ (x : ℕ × View). Fits n start (put part p.element p') owner log' x.0 x.1) (λ i. (sym t.0 i, t.1 i))
      (fits_here id p p' v seen (all id v at) one out same pre all_mine last))
      (λ (t : (j ≢ id) × (get_elem? views j ≡ some u)). fits_else p.element id j p' u mine.1 t.0 grows same_by (all j u t.1)) (at_set views id j w u e)

-- the two ends of a box
abbrev pub outs : ℕ → Part → List Bundle × Bool
outs b p = (posted b p.deeds, posting b p.stage)

abbrev pub ins : ℕ → Part → List Bundle × Option Bundle
ins a p = (taken a p.deeds, taking a p.stage)

module _ {B : Type 0} (items : B → List Token) where
  abbrev pub Ends : ℕ → maybe.Option (maybe.Option (Option B)) → List Token → List Bundle × Bool → List Bundle × Option Bundle → Type 0
  Ends n h l o i = BoxIs items n h l o.0 o.1 i.0 i.1

  module _ (n : ℕ) (words words' : List ℕ) (homes homes' : List (maybe.Option (Option B))) (load load' : ℕ → List Token) (part : ℕ → Part) (e : ℕ)
      (p' : Part) where
    -- a box whose word and slot are as they were, and whose ends did nothing there
    pub box_stays : (a b : ℕ) → get_or words' (16 * a + b) 0 ≡ get_or words (16 * a + b) 0 → get_elem? homes' (16 * a + b)
        ≡ get_elem? homes (16 * a + b) → load' (16 * a + b) ≡ load (16 * a + b)
        → (a ≡ e → outs b p' ≡ outs b (part e)) → (b ≡ e → ins a p' ≡ ins a (part e)) → BoxAt items words homes load part a b
        → BoxAt items words' homes' load' (put part e p') a b
    box_stays a b w h l out into ok =
        let o : outs b (put part e p' a) ≡ outs b (part a) = dite (ℕ_discrete a e) (λ same. ap (λ (x : ℕ). outs b (put part e p' x)) same
        ∙ (ap (outs b) (put_here part e p') ∙ (out same ∙ ap (λ (x : ℕ). outs b (part x)) (sym same))))
        (λ other. ap (outs b) (put_else part e p' a other)) in
        let i : ins a (put part e p' b) ≡ ins a (part b) = dite (ℕ_discrete b e) (λ same. ap (λ (x : ℕ). ins a (put part e p' x)) same
        ∙ (ap (ins a) (put_here part e p') ∙ (into same ∙ ap (λ (x : ℕ). ins a (part x)) (sym same)))) (λ other. ap (ins a) (put_else part e p' b other)) in
        subst (λ (z : ℕ × maybe.Option (maybe.Option (Option B)) × List Token × (List Bundle × Bool) × (List Bundle × Option Bundle)). Ends z.0 z.1
        z.2 z.3 z.4) (λ k. (sym w k, sym h k, sym l k, sym o k, sym i k)) ok
