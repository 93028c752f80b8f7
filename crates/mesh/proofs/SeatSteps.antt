-- The opening, and seats that are split off, joined and settled.
use Rattle.std.proofs.Common.{◌≡◌, ◌≢◌, ℕ, zero, suc, ◌+◌, ◌*◌, ◌^◌, ◌<◌, ◌≤◌, Bool, true, false, List, [], ◌∷◌, ◌++◌, map, length, replicate}
use Rattle.std.proofs.Common.{get_or, set, refl, ap, sym, ◌∙◌, subst, ⊎_elim, inl, inr, ◌⊎◌, arith, Option, Some, None, length-append, length-set}
use Rattle.std.proofs.Common.{get_or-set_other, get_or-set_same, eq-eqb, ne_eqb, ◌==◌, if◌then◌else◌, nat_lt, filter}
use Rattle.std.proofs.lemmas.List.{append-nil}
use Rattle.std.specs.List.Sorted.{IsPermutation}
use Rattle.std.proofs.lemmas.List.Sorted.{IsPermutation-refl, IsPermutation-sym, IsPermutation-trans, IsPermutation-cons}
use Rattle.std.proofs.lemmas.Bool.Decides.{nat_tests}
use Rattle.std.proofs.lemmas.List.Elements.{All-nil}
use mathlib.Core.Logic.{dite}
use mathlib.Core.Option.{some, none, some-injective, some-ne-none}
use mathlib.Core.Option as maybe
use mathlib.Core.List.{IsPrefix}
use Rattle.semantics.specs.Pool.{LeavesPool}
use native.Mathlib.Decide.{ℕ_discrete}
use lib.ListN.{get_elem?, length-map, length-replicate}
use Rattle.atomic_table.specs.Table.{Step, keeps, Allows, Splits, Joins, opening}
use Rattle.atomic_table.proofs.Lists.{at_set}
use Rattle.lemmas.proofs.Lists.{nothing_before}
use Rattle.tags.specs.declared.token.Token.{Token}
use Rattle.tags.specs.Addresses.{element_of}
use Rattle.tags.proofs.Elements.{element_below}
use Rattle.mesh.specs.declared.view.Commit.{Commit}
use Rattle.mesh.specs.declared.view.Part.{Part}
use Rattle.mesh.specs.declared.view.View.{View}
use Rattle.mesh.specs.Deeds.{Bundle, posted, taken, posting, taking, commits_of, commits_by, wins, Says}
use Rattle.mesh.specs.Rule.{Fits, BoxIs, Preserved, Past, Stops, Sits, gather, total, held_by, wins_by, fresh, first_view, rest_view, next_view}
use Rattle.mesh.specs.Rule.{spent_view, both_views, longer, part_wins}
use Rattle.mesh.specs.Deeds.{Busy, entry}
use Rattle.mesh.specs.Plays.{settled}
use Rattle.mesh.proofs.Deeds.{by_append}
use Rattle.mesh.proofs.Frame.{put, put_here, put_else}
use Rattle.mesh.proofs.Pools.{gather_ext, gather_at, gather_put}
use Rattle.mesh.proofs.BoxSteps.{prefix_self}

abbrev Ts : Type 0
Ts = List Token

-- BEGINNINGS
pub prefix_shorter : {A : Type 0} (xs ys zs : List A) → IsPrefix xs zs → IsPrefix ys zs → length xs ≤ length ys → IsPrefix xs ys
prefix_shorter [] ys zs p q le = (ys, refl)
prefix_shorter (x ∷ xs) [] zs p q le = absurd (omega arith)
prefix_shorter (x ∷ xs) (y ∷ ys) [] p q le = absurd (cc (p.1))
prefix_shorter (x ∷ xs) (y ∷ ys) (z ∷ zs) p q le =
    let heads : x ≡ y = cc (p.1, q.1) in
    let rest = prefix_shorter xs ys zs (p.0, cc (p.1)) (q.0, cc (q.1)) (omega arith) in
    (rest.0, cc (heads, rest.1))

pub prefix_whole : {A : Type 0} (xs ys : List A) → IsPrefix xs ys → length ys ≤ length xs → xs ≡ ys
prefix_whole [] [] p le = refl
prefix_whole [] (y ∷ ys) p le = absurd (omega arith)
prefix_whole (x ∷ xs) [] p le = absurd (cc (p.1))
prefix_whole (x ∷ xs) (y ∷ ys) p le = let rest = prefix_whole xs ys (p.0, cc (p.1)) (omega arith) in cc (p.1, rest)

by_prefix : (e : ℕ) (xs ys : List Commit) → IsPrefix xs ys → IsPrefix (commits_by e xs) (commits_by e ys)
by_prefix e xs ys p = (commits_by e p.0, sym (by_append e xs p.0) ∙ ap (commits_by e) p.1)

prefix_length : {A : Type 0} (xs ys : List A) → IsPrefix xs ys → length xs ≤ length ys
prefix_length xs ys p = omega (arith, sym (ap length p.1) ∙ length-append xs p.0)

-- a longer beginning has no fewer of the commits
whole_longer : (e : ℕ) (xs ys log : List Commit) → IsPrefix xs ys → IsPrefix ys log → commits_by e xs ≡ commits_by e log → commits_by e ys ≡ commits_by e log
whole_longer e xs ys log a b all =
    let short = prefix_length (commits_by e xs) (commits_by e ys) (by_prefix e xs ys a) in
    let same : length (commits_by e xs) ≡ length (commits_by e log) = ap length all in
    prefix_whole (commits_by e ys) (commits_by e log) (by_prefix e ys log b) (omega arith)

longer_is : (xs ys : List Commit) → ((longer xs ys ≡ ys) × (length xs < length ys)) ⊎ ((longer xs ys ≡ xs) × (length ys ≤ length xs))
longer_is xs ys = go (nat_lt (length xs) (length ys)) refl
  where
    go : (b : Bool) → nat_lt (length xs) (length ys) ≡ b → ((longer xs ys ≡ ys) × (length xs < length ys)) ⊎ ((longer xs ys ≡ xs) × (length ys ≤ length xs))
    go true is = inl (rw is, grind (arith, nat_tests))
    go false is = inr (rw is, grind (arith, nat_tests))

module _ {A : Type 0} where
  pub at_end : (l : List A) (a b : A) (j : ℕ) → get_elem? (l ++ a ∷ []) j ≡ some b → ((j < length l) × (get_elem? l j ≡ some b)) ⊎ ((j ≡ length l) × (a ≡ b))
  at_end [] a b zero e = inr (refl, some-injective a b e)
  at_end [] a b (suc j) e = absurd (some-ne-none b (sym e))
  at_end (x ∷ xs) a b zero e = inl (omega arith, e)
  at_end (x ∷ xs) a b (suc j) e = ⊎_elim (λ t. inl (let l = t.0 in omega arith, t.1)) (λ t. inr (ap suc t.0, t.1)) (at_end xs a b j e)

  pub at_append : (l m : List A) (b : A) (j : ℕ) → get_elem? (l ++ m) j ≡ some b → ((j < length l) × (get_elem? l j ≡ some b)) ⊎ ((k : ℕ)
      × (j ≡ length l + k) × (get_elem? m k ≡ some b))
  at_append [] m b j e = inr (j, omega arith, e)
  at_append (x ∷ xs) m b zero e = inl (omega arith, e)
  at_append (x ∷ xs) m b (suc j) e = ⊎_elim (λ t. inl (let l = t.0 in omega arith, t.1)) (λ t. inr (t.0, let h = t.1 in omega arith, t.2))
      (at_append xs m b j e)

  at_there : (l : List A) (b : A) (j : ℕ) → get_elem? l j ≡ some b → j < length l
  at_there [] b j e = absurd (some-ne-none b (sym e))
  at_there (x ∷ xs) b zero e = omega arith
  at_there (x ∷ xs) b (suc j) e = let r = at_there xs b j e in omega arith

all_vacant : {A : Type 0} (n i : ℕ) (a : A) → i < n → get_elem? (map some (replicate n a)) i ≡ some (some a)
all_vacant zero i a h = absurd (omega arith)
all_vacant (suc n) zero a h = refl
all_vacant (suc n) (suc i) a h = all_vacant n i a (omega arith)

all_zero : (n i : ℕ) → ◌≡◌ {A = ℕ} (get_or {A = ℕ} (replicate {A = ℕ} n 0) i 0) 0
all_zero zero i = refl
all_zero (suc n) zero = refl
all_zero (suc n) (suc i) = all_zero n i

total_zero : (m : ℕ) (f : ℕ → ℕ) → ((j : ℕ) → f j ≡ 0) → total m f ≡ 0
unfolding total
total_zero zero f h = refl
total_zero (suc m) f h = let r = total_zero m f h in let t = h m in omega arith

total_shift : (m : ℕ) (f : ℕ → ℕ) → total (suc m) f ≡ f 0 + total m (λ i. f (suc i))
unfolding total
total_shift zero f = omega arith
total_shift (suc m) f = let r = total_shift m f in omega arith

none_total : (f : ℕ → ℕ) → total 0 f ≡ 0
unfolding total
none_total f = refl

parts_total : (m : ℕ) (f : ℕ → ℕ) (ps : List Part) → length ps ≡ m → ((i : ℕ) (p : Part) → get_elem? ps i ≡ some p → wins p.deeds ≡ f i)
    → part_wins ps ≡ total m f
parts_total zero f [] len h = sym (none_total f)
parts_total zero f (p ∷ ps) len h = absurd (omega arith)
parts_total (suc m) f [] len h = absurd (omega arith)
parts_total (suc m) f (p ∷ ps) len h =
    let here : wins p.deeds ≡ f 0 = h 0 p refl in let rest : part_wins ps ≡ total m (λ i. f (suc i)) = parts_total m (λ i. f (suc i)) ps (omega arith)
    (λ i q at. h (suc i) q at) in
    let t = total_shift m f in omega arith

gather_none : (m : ℕ) (f : ℕ → Ts) → ((j : ℕ) → f j ≡ []) → gather m f ≡ []
unfolding gather
gather_none zero f h = refl
gather_none (suc m) f h = let r = gather_none m f h in let t = h m in cc

abbrev theirs : ℕ → Ts → ℕ → Ts
theirs n start e = filter (λ (t : Token). element_of n t.to == e) start

-- each token of the start is some element's
dealt : (n : ℕ) (start : Ts) → 0 < n → IsPermutation start (gather n (theirs n start))
dealt n [] h = subst (λ (z : Ts). IsPermutation [] z) (sym (gather_none n (theirs n []) (λ _. refl))) (IsPermutation-refl [])
dealt n (t ∷ ts) h =
    let e : ℕ = element_of n t.to in let le : e < n = element_below n t.to h in
    let f : ℕ → Ts = theirs n ts in
    let each : (j : ℕ) → j < n → theirs n (t ∷ ts) j ≡ put f e (t ∷ f e) j = λ j _. dite (ℕ_discrete j e)
    (λ hit. (rw (eq-eqb e j (sym hit)) (ap (λ (z : ℕ). t ∷ f z) hit)) ∙ (sym (put_here f e (t ∷ f e)) ∙ ap (put f e (t ∷ f e)) (sym hit)))
    (λ miss. rw (ne_eqb e j (λ z. miss (sym z))) (sym (put_else f e (t ∷ f e) j miss))) in
    let a : IsPermutation (t ∷ ts) (t ∷ gather n f) = IsPermutation-cons t ts (gather n f) (dealt n ts h) in
    let b : IsPermutation (t ∷ gather n f) (t ∷ (f e ++ gather n (put f e []))) = IsPermutation-cons t (gather n f) (f e ++ gather n (put f e []))
    (gather_at n f e le) in
    let c : IsPermutation (gather n (put f e (t ∷ f e))) ((t ∷ f e) ++ gather n (put f e [])) = gather_put n f e (t ∷ f e) le in
    subst (λ (z : Ts). IsPermutation (t ∷ ts) z) (sym (gather_ext n (theirs n (t ∷ ts)) (put f e (t ∷ f e)) each))
    (IsPermutation-trans (t ∷ ts) (t ∷ gather n f) (gather n (put f e (t ∷ f e))) a
    (IsPermutation-trans (t ∷ gather n f) (t ∷ (f e ++ gather n (put f e []))) (gather n (put f e (t ∷ f e))) b (IsPermutation-sym _ _ c)))

module _ {B : Type 0} (items : B → Ts) (n : ℕ) (start : Ts) where
  pub opens : (w h : ℕ) → w ≡ 258 → h ≡ 256 → 0 < n → n ≤ 16 → length start ≤ 2 ^ 40
      → Preserved items n start (opening (set (replicate w 0) 256 (length start)) (replicate h None) (first_view n start))
  opens w h wide deep some_element few brief = record {
    part = fresh n start;
    owner = λ _. 0;
    load = λ _. [];
    log = [];
    few = few;
    wide = length-set (replicate w 0) 256 (length start) ∙ (length-replicate w 0 ∙ wide);
    deep = length-map (replicate h None) some ∙ (length-replicate h None ∙ deep);
    named = λ e l. refl;
    seats = first_seat;
    addressed = λ a b la lb. All-nil (λ (t : Token). element_of n t.to ≡ b);
    past = record {
      pool = start;
      legal = IsPermutation-refl start;
      size = get_or-set_same (replicate w 0) 256 (length start) 0 (let len : ◌≡◌ {A = ℕ} (length (replicate {A = ℕ} w 0)) w = length-replicate w 0
          in omega arith);
      shares = subst (λ (z : Ts). IsPermutation start z)
          (sym (ap (λ (z : Ts). gather n (held_by (fresh n start)) ++ z) (gather_none 256 (λ _. []) (λ _. refl))
          ∙ append-nil (gather n (held_by (fresh n start))))) (dealt n start some_element);
      own = λ e l. refl;
      others = λ e l. refl;
      bound = omega arith;
      each = λ e l. omega arith;
      brief = brief;
      busy = λ j c at. absurd (some-ne-none c (sym at));
    };
    stops = record {
      once = subst (λ (z : ℕ). total n (wins_by (fresh n start)) ≡ (if z == 0 then 0 else 1)) (sym (zeros 257 (λ e. absurd (omega arith))))
          (total_zero n (wins_by (fresh n start)) (λ _. refl));
      known = λ e l. tt;
    };
    boxes = λ a b la lb. inl (zeros (16 * a + b) (λ e. absurd (omega arith)), refl, refl, all_vacant h (16 * a + b) None (omega arith));
  }
    where
      zeros : (i : ℕ) → i ≢ 256 → get_or (set (replicate w 0) 256 (length start)) i 0 ≡ 0
      zeros i other = get_or-set_other (replicate w 0) 256 i (length start) 0 other ∙ all_zero w i

      first_seat : (id : ℕ) (v : View) → get_elem? (first_view n start ∷ []) id ≡ some v → Fits n start (fresh n start) (λ _. 0) [] id v
      first_seat zero v at = subst (Fits n start (fresh n start) (λ _. 0) [] 0) (some-injective (first_view n start) v at) record {
        about = λ _. (refl, refl, λ e _ _. (refl, refl));
        parts = λ j p none_there. absurd (some-ne-none p (sym none_there));
        apart = λ i j p q none_there. absurd (some-ne-none p (sym none_there));
        seen = ([], refl);
        lasts = λ j p none_there. absurd (some-ne-none p (sym none_there));
        whole = λ j p none_there. absurd (some-ne-none p (sym none_there));
      }
      first_seat (suc id) v at = absurd (some-ne-none v (sym at))

  -- the seat that gives out parts has none itself
  pub splits : (id : ℕ) (v : View) → v.parts ≡ [] → 0 < v.elements → v.spare < v.elements → Splits (Preserved items n start) id v (rest_view v) (next_view v)
  splits id v bare some_view more s r at = record {
    part = r.part;
    owner = owner';
    load = r.load;
    log = r.log;
    few = r.few;
    wide = r.wide;
    deep = r.deep;
    named = r.named;
    seats = λ j u e. ⊎_elim (λ (t : (j < length vs') × (get_elem? vs' j ≡ some u)). old j u t.0 t.1)
        (λ (t : (j ≡ length vs') × (next_view v ≡ u)). subst (λ (z : ℕ × View). Fits n start r.part owner' r.log z.0 z.1)
        (λ i. (sym (t.0 ∙ length-set s.views id (rest_view v)) i, t.1 i)) new)
        (at_end vs' (next_view v) u j e);
    addressed = r.addressed;
    past = r.past;
    stops = r.stops;
    boxes = r.boxes;
  }
    where
      vs' : List View
      vs' = set s.views id (rest_view v)

      owner' : ℕ → ℕ
      owner' = put r.owner v.spare (length s.views)

      ok : Fits n start r.part r.owner r.log id v
      ok = r.seats id v at

      about : (v.elements ≡ n) × (v.start ≡ start) × ((e : ℕ) → v.spare ≤ e → e < n → (r.owner e ≡ id) × (r.part e ≡ fresh n start e))
      about = ok.about some_view

      below : v.spare < n
      below = let a = about.0 in omega arith

      its : (r.owner v.spare ≡ id) × (r.part v.spare ≡ fresh n start v.spare)
      its = about.2 v.spare (omega arith) below

      new : Fits n start r.part owner' r.log (length s.views) (next_view v)
      new = record {
        about = λ _. (about.0, about.1, λ e low high. absurd (let a = about.0 in omega arith));
        parts = only;
        apart = alone;
        seen = ok.seen;
        lasts = nothing_seen;
        whole = none_yet;
      }
        where
          f : Part
          f = fresh v.elements v.start v.spare

          f_is : fresh n start v.spare ≡ f
          f_is = λ i. fresh (sym about.0 i) (sym about.1 i) v.spare

          only : (k : ℕ) (q : Part) → get_elem? (f ∷ []) k ≡ some q → (q.element < n) × (owner' q.element ≡ length s.views) × (r.part q.element ≡ q)
          only zero q is = subst (λ (z : Part). (z.element < n) × (owner' z.element ≡ length s.views) × (r.part z.element ≡ z))
              (some-injective f q is) (below, put_here r.owner v.spare (length s.views), its.1 ∙ f_is)
          only (suc k) q is = absurd (some-ne-none q (sym is))

          alone : (i j : ℕ) (x y : Part) → get_elem? (f ∷ []) i ≡ some x → get_elem? (f ∷ []) j ≡ some y → x.element ≡ y.element → i ≡ j
          alone zero zero x y a b e = refl
          alone zero (suc j) x y a b e = absurd (some-ne-none y (sym b))
          alone (suc i) j x y a b e = absurd (some-ne-none x (sym a))

          nothing_seen : (k : ℕ) (q : Part) → get_elem? (f ∷ []) k ≡ some q → IsPrefix q.last r.log
          nothing_seen zero q is = subst (λ (z : Part). IsPrefix z.last r.log) (some-injective f q is) (r.log, refl)
          nothing_seen (suc k) q is = absurd (some-ne-none q (sym is))

          none_yet : (k : ℕ) (q : Part) → get_elem? (f ∷ []) k ≡ some q → commits_by q.element v.seen ≡ commits_by q.element r.log
          none_yet zero q is =
              let all : commits_by v.spare r.log ≡ [] = r.past.own v.spare below ∙ ap (λ (z : Part). commits_of v.spare z.deeds) its.1 in
              let pre = by_prefix v.spare v.seen r.log ok.seen in
              subst (λ (z : Part). commits_by z.element v.seen ≡ commits_by z.element r.log) (some-injective f q is)
              (nothing_before (commits_by v.spare v.seen) pre.0 (pre.1 ∙ all) ∙ sym all)
          none_yet (suc k) q is = absurd (some-ne-none q (sym is))

      old : (j : ℕ) (u : View) → j < length vs' → get_elem? vs' j ≡ some u → Fits n start r.part owner' r.log j u
      old j u lj e = ⊎_elim
          (λ (t : (j ≡ id) × (rest_view v ≡ u)). subst (λ (z : ℕ × View). Fits n start r.part owner' r.log z.0 z.1) (λ i. (sym t.0 i, t.1 i)) record {
            about = λ _. (
              about.0,
              about.1,
              λ x low high. let a = about.2 x (omega arith) high
                  in (put_else r.owner v.spare (length s.views) x (λ h. absurd (omega arith)) ∙ a.0, a.1),
            );
            parts = λ k p is. absurd (some-ne-none p (sym (ap (λ (ps : List Part). get_elem? ps k) (sym bare) ∙ is)));
            apart = ok.apart;
            seen = ok.seen;
            lasts = ok.lasts;
            whole = ok.whole;
          })
          (λ (t : (j ≢ id) × (get_elem? s.views j ≡ some u)). let was = r.seats j u t.1 in record {
            about = λ some_one. let a = was.about some_one in (
              a.0,
              a.1,
              λ x low high. let b = a.2 x low high
                  in (put_else r.owner v.spare (length s.views) x (λ h. t.0 (sym b.0 ∙ (ap r.owner h ∙ its.0))) ∙ b.0, b.1),
            );
            parts = λ k p is. let a = was.parts k p is
                in (a.0, put_else r.owner v.spare (length s.views) p.element (λ h. t.0 (sym a.1 ∙ (ap r.owner h ∙ its.0))) ∙ a.1, a.2);
            apart = was.apart;
            seen = was.seen;
            lasts = was.lasts;
            whole = was.whole;
          })
          (at_set s.views id j (rest_view v) u e)

  abbrev choose : {P : Type 0} → Dec P → ℕ → ℕ → ℕ
  choose (yes _) a b = a
  choose (no _) a b = b

  moved : (ℕ → ℕ) → ℕ → ℕ → ℕ → ℕ
  moved owner other id e = choose (ℕ_discrete (owner e) other) id (owner e)

  moved_here : (owner : ℕ → ℕ) (other id e : ℕ) → owner e ≡ other → moved owner other id e ≡ id
  unfolding moved
  moved_here owner other id e h = go (ℕ_discrete (owner e) other)
    where
      go : (d : Dec (owner e ≡ other)) → choose d id (owner e) ≡ id
      go (yes _) = refl
      go (no x) = absurd (x h)

  moved_else : (owner : ℕ → ℕ) (other id e : ℕ) → owner e ≢ other → moved owner other id e ≡ owner e
  unfolding moved
  moved_else owner other id e h = go (ℕ_discrete (owner e) other)
    where
      go : (d : Dec (owner e ≡ other)) → choose d id (owner e) ≡ owner e
      go (yes x) = absurd (h x)
      go (no _) = refl

  pub joins : (id : ℕ) (v : View) (other : ℕ) (w : View) → Sits v → Sits w → Joins (Preserved items n start) id v other w (both_views v w) spent_view
  joins id v other w sits sits' s r at apart there = record {
    part = r.part;
    owner = owner';
    load = r.load;
    log = r.log;
    few = r.few;
    wide = r.wide;
    deep = r.deep;
    named = r.named;
    seats = λ j u e. ⊎_elim
        (λ (t : (j ≡ other) × (spent_view ≡ u)). subst (λ (z : View). Fits n start r.part owner' r.log j z) t.1 record {
          about = λ z. absurd (omega arith);
          parts = λ k p is. absurd (some-ne-none p (sym is));
          apart = λ i k p q is. absurd (some-ne-none p (sym is));
          seen = (r.log, refl);
          lasts = λ k p is. absurd (some-ne-none p (sym is));
          whole = λ k p is. absurd (some-ne-none p (sym is));
        })
        (λ (t : (j ≢ other) × (get_elem? (set s.views id (both_views v w)) j ≡ some u)). ⊎_elim
        (λ (y : (j ≡ id) × (both_views v w ≡ u)). subst (λ (z : ℕ × View). Fits n start r.part owner' r.log z.0 z.1) (λ i. (sym y.0 i, y.1 i)) joined)
        (λ (y : (j ≢ id) × (get_elem? s.views j ≡ some u)). let was = r.seats j u y.1 in record {
          about = λ some_one. let a = was.about some_one in (
            a.0,
            a.1,
            λ x low high. let b = a.2 x low high
                in (moved_else r.owner other id x (λ h. t.0 (sym b.0 ∙ h)) ∙ b.0, b.1),
          );
          parts = λ k p is. let a = was.parts k p is in (a.0, moved_else r.owner other id p.element (λ h. t.0 (sym a.1 ∙ h)) ∙ a.1, a.2);
          apart = was.apart;
          seen = was.seen;
          lasts = was.lasts;
          whole = was.whole;
        })
        (at_set s.views id j (both_views v w) u t.1))
        (at_set (set s.views id (both_views v w)) other j spent_view u e);
    addressed = r.addressed;
    past = r.past;
    stops = r.stops;
    boxes = r.boxes;
  }
    where
      owner' : ℕ → ℕ
      owner' = moved r.owner other id

      ok : Fits n start r.part r.owner r.log id v
      ok = r.seats id v at

      at_other : get_elem? s.views other ≡ some w
      at_other = ⊎_elim (λ (t : (other ≡ id) × (both_views v w ≡ w)). absurd (apart t.0)) (λ (t : (other ≢ id) × (get_elem? s.views other ≡ some w)).
          t.1) (at_set s.views id other (both_views v w) w there)

      ok' : Fits n start r.part r.owner r.log other w
      ok' = r.seats other w at_other

      longer_seen : IsPrefix (longer v.seen w.seen) r.log × IsPrefix v.seen (longer v.seen w.seen) × IsPrefix w.seen (longer v.seen w.seen)
      longer_seen = ⊎_elim
          (λ t. subst (λ (z : List Commit). IsPrefix z r.log × IsPrefix v.seen z × IsPrefix w.seen z) (sym t.0)
          (ok'.seen, prefix_shorter v.seen w.seen r.log ok.seen ok'.seen (let l = t.1 in omega arith), prefix_self w.seen))
          (λ t. subst (λ (z : List Commit). IsPrefix z r.log × IsPrefix v.seen z × IsPrefix w.seen z) (sym t.0)
          (ok.seen, prefix_self v.seen, prefix_shorter w.seen v.seen r.log ok'.seen ok.seen t.1))
          (longer_is v.seen w.seen)

      joined : Fits n start r.part owner' r.log id (both_views v w)
      joined = record {
        about = λ some_one. let a = ok.about some_one in (a.0, a.1, λ x low high. absurd (let le = sits.1 in let is = a.0 in omega arith));
        parts = λ k p is. ⊎_elim (λ t. let a = ok.parts k p t.1 in (a.0, moved_else r.owner other id p.element (λ h. apart (sym h ∙ a.1)) ∙ a.1, a.2))
            (λ t. let a = ok'.parts t.0 p t.2 in (a.0, moved_here r.owner other id p.element a.1, a.2)) (at_append v.parts w.parts p k is);
        apart = λ i j p q a b same. ⊎_elim
            (λ x. ⊎_elim (λ y. ok.apart i j p q x.1 y.1 same)
            (λ y. absurd (apart (sym (ok'.parts y.0 q y.2).1 ∙ (ap r.owner (sym same) ∙ (ok.parts i p x.1).1)))) (at_append v.parts w.parts q j b))
            (λ x. ⊎_elim (λ y. absurd (apart (sym (ok'.parts x.0 p x.2).1 ∙ (ap r.owner same ∙ (ok.parts j q y.1).1))))
            (λ y. let e : x.0 ≡ y.0 = ok'.apart x.0 y.0 p q x.2 y.2 same in let l = x.1 in let m = y.1 in omega arith) (at_append v.parts w.parts q j b))
            (at_append v.parts w.parts p i a);
        seen = longer_seen.0;
        lasts = λ k p is. ⊎_elim (λ t. ok.lasts k p t.1) (λ t. ok'.lasts t.0 p t.2) (at_append v.parts w.parts p k is);
        whole = λ k p is. ⊎_elim (λ t. whole_longer p.element v.seen (longer v.seen w.seen) r.log longer_seen.1 longer_seen.0 (ok.whole k p t.1))
            (λ t. whole_longer p.element w.seen (longer v.seen w.seen) r.log longer_seen.2 longer_seen.0 (ok'.whole t.0 p t.2))
            (at_append v.parts w.parts p k is);
      }

  -- what was taken of a box is a beginning of what was posted
  begins : (m : ℕ) (h : maybe.Option (maybe.Option (Option B))) (l : Ts) (ps ts : List Bundle) (o : Bool) (hand : Option Bundle)
      → BoxIs items m h l ps o ts hand → IsPrefix ts ps
  begins m h l ps ts true hand box = ([], append-nil ts ∙ sym box.1)
  begins m h l ps ts false (Some x) box = (x ∷ [], sym box.1)
  begins m h l ps ts false None box = ⊎_elim (λ t. ([], append-nil ts ∙ sym t.1)) (λ t. (items t.0 ∷ [], sym t.2)) box

  pub settles : (slots id : ℕ) (v : View) (c : List (ℕ × Option B)) (st : Step (Option B)) → Sits v → Allows (Preserved items n start) slots id (v, c)
      256 (λ x. x) (settled st (v, c))
  settles slots id v c st sits s r _ at below =
      let x : ℕ = get_or s.words 256 0 in let ok = r.seats id v at in let about = ok.about sits.0 in let pre = ok.seen in
      let wide : length s.words ≡ 258 = r.wide in let old = r.past in
      let w : View = record v { seen = v.seen ++ pre.0 } in let words' : List ℕ = set s.words 256 x in
      let same : (i : ℕ) → get_or words' i 0 ≡ get_or s.words i 0 = λ i. dite (ℕ_discrete i 256) (λ hit. ap (λ (z : ℕ). get_or words' z 0) hit
      ∙ (get_or-set_same s.words 256 x 0 (omega arith) ∙ ap (λ (z : ℕ). get_or s.words z 0) (sym hit)))
      (λ miss. get_or-set_other s.words 256 i x 0 miss) in
      let few : n ≤ 16 = r.few in
      let mine : Fits n start r.part r.owner r.log id w = record {
        about = ok.about;
        parts = ok.parts;
        apart = ok.apart;
        seen =
            ([], append-nil (v.seen ++ pre.0) ∙ pre.1);
        lasts = ok.lasts;
        whole = λ k p is. ap (commits_by p.element) pre.1;
      } in (
        w,
        keeps,
        tt,
        record {
          part = r.part;
          owner = r.owner;
          load = r.load;
          log = r.log;
          few = r.few;
          wide = length-set s.words 256 x ∙ r.wide;
          deep = r.deep;
          named = r.named;
          seats = λ j u e. ⊎_elim (λ (t : (j ≡ id) × (w ≡ u)). subst (λ (z : ℕ × View). Fits n start r.part r.owner r.log z.0 z.1)
              (λ i. (sym t.0 i, t.1 i)) mine)
              (λ (t : (j ≢ id) × (get_elem? s.views j ≡ some u)). r.seats j u t.1) (at_set s.views id j w u e);
          addressed = r.addressed;
          past = subst (Past n start r.part r.load r.log) (sym (same 256)) old;
          stops = subst (Stops n r.part) (sym (same 257)) r.stops;
          boxes = λ a b la lb. subst (λ (z : ℕ). BoxIs items z (get_elem? s.homes (16 * a + b)) (r.load (16 * a + b)) (posted b (r.part a).deeds)
              (posting b (r.part a).stage) (taken a (r.part b).deeds) (taking a (r.part b).stage))
              (sym (same (16 * a + b))) (r.boxes a b la lb);
        },
        (
          pre.0,
          refl,
          (
            old.pool,
            subst (λ (z : ℕ × Ts × List Commit). LeavesPool z.0 z.1 (map entry z.2) old.pool)
                (λ i. (sym about.0 i, sym about.1 i, sym pre.1 i)) old.legal,
            sym old.size,
            subst Busy (sym pre.1) old.busy,
          ),
          (λ i j p q a b. let mp = ok.parts i p a in let mq = ok.parts j q b in
              subst (λ (z : Part × Part). IsPrefix (taken p.element z.1.deeds) (posted q.element z.0.deeds)) (λ k. (mp.2 k, mq.2 k))
              (begins _ _ _ _ _ _ _ (r.boxes p.element q.element mp.0 mq.0))),
          (λ i p a. let mp = ok.parts i p a in ap (commits_by p.element) pre.1
              ∙ (old.own p.element mp.0 ∙ ap (λ (z : Part). commits_of p.element z.deeds) mp.2)),
          (
            get_or s.words 257 0,
            (λ i p a. let mp = ok.parts i p a in subst (λ (z : Part). Says (get_or s.words 257 0) z.deeds) mp.2 (r.stops.known p.element mp.0)),
            (λ all. parts_total v.elements (wins_by r.part) v.parts all.0 (λ i p a. ap (λ (z : Part). wins z.deeds) (sym (ok.parts i p a).2)
                ∙ ap (wins_by r.part) (all.1 i p a)) ∙ (ap (λ (z : ℕ). total z (wins_by r.part)) about.0 ∙ r.stops.once)),
          ),
          (λ i p a. subst (λ (z : List Commit). IsPrefix p.last z) (sym pre.1) (ok.lasts i p a)),
          (λ e le. ap (commits_by e) pre.1 ∙ old.others e (subst (λ (z : ℕ). z ≤ e) about.0 le)),
        ),
      )
