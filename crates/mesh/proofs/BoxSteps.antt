-- Each step on a box keeps the rule.
use Rattle.std.proofs.Common.{◌≡◌, ◌≢◌, ℕ, ◌+◌, ◌*◌, ◌<◌, ◌≤◌, Bool, true, false, List, [], ◌∷◌, ◌++◌, length, get_or, set, refl, ap, sym, ◌∙◌}
use Rattle.std.proofs.Common.{subst, ⊎_elim, inl, inr, ◌⊎◌, arith, Option, Some, None, length-set, get_or-set_other, get_or-set_same, eq-eqb}
use Rattle.std.proofs.Common.{ne_eqb}
use Rattle.std.proofs.lemmas.List.{append-nil}
use Rattle.std.specs.List.Sorted.{IsPermutation}
use mathlib.Core.Logic.{dite}
use mathlib.Core.Option.{some, none, some-injective, some-ne-none}
use mathlib.Core.Option as maybe
use mathlib.Core.List.{IsPrefix}
use native.Mathlib.Decide.{ℕ_discrete}
use lib.ListN.{get_elem?}
use Rattle.atomic_table.specs.Table.{State, Me, step, keeps, takes, gives, stepped, Allows}
use Rattle.atomic_table.proofs.Lists.{set_here, set_else}
use Rattle.tags.specs.declared.token.Token.{Token}
use Rattle.mesh.specs.declared.view.Commit.{Commit}
use Rattle.mesh.specs.declared.view.Deed.{Deed}
use Rattle.mesh.specs.declared.view.Deed.TheVariants.{Posted, FoundFull, Took, FoundEmpty}
use Rattle.mesh.specs.declared.view.Stage.{Stage}
use Rattle.mesh.specs.declared.view.Stage.TheVariants.{Idle, Posting, Taking}
use Rattle.mesh.specs.declared.view.Part.{Part}
use Rattle.mesh.specs.declared.view.View.{View}
use Rattle.mesh.specs.Deeds.{Bundle, posts, posted, takes_from, taken, posting, taking, commits_in, made_in, wins_in, says}
use Rattle.std.proofs.lemmas.List.Sorted.{IsPermutation-refl, IsPermutation-trans, IsPermutation-append_comm}
use Rattle.mesh.proofs.Pools.{past_moves, Quiet, quiet_stage, quiet_deed, stops_stay}
use Rattle.mesh.specs.Rule.{Fits, BoxIs, BoxAt, Preserved, with_part, posed, noted, after_post, after_take, Sits}
use Rattle.mesh.specs.Plays.{looked_to, looked_from, gave, gave_back}
use Rattle.mesh.specs.Seats.{AllTo}
use Rattle.std.proofs.lemmas.List.Elements.{All-nil}
use Rattle.tags.specs.Addresses.{element_of}
use Rattle.mesh.proofs.Deeds.{posted_more, posted_same, taken_more, taken_same, posts_here, posts_else, takes_here, takes_else}
use Rattle.mesh.proofs.Frame.{put, put_here, put_else, same_box, seats_step, outs, ins, Ends, box_stays}

pub prefix_self : {A : Type 0} (xs : List A) → IsPrefix xs xs
prefix_self xs = ([], append-nil xs)

pub spared : (n : ℕ) (start : List Token) (part : ℕ → Part) (owner : ℕ → ℕ) (log : List Commit) (id : ℕ) (v : View) → Sits v
    → Fits n start part owner log id v → n ≤ v.spare
spared n start part owner log id v sits ok = let a = ok.about sits.0 in let same = a.0 in let le = sits.1 in omega arith

module _ {B : Type 0} where
  abbrev item_or : B → Option B → B
  item_or d None = d
  item_or d (Some x) = x

  abbrev item_in : B → List (ℕ × Option B) → B
  item_in d [] = d
  item_in d (z ∷ zs) = item_or d z.1

hand_here : (a : ℕ) (x : Bundle) → taking a (Taking a x) ≡ Some x
hand_here a x = rw (eq-eqb a a refl)

hand_else : (a c : ℕ) (x : Bundle) → c ≢ a → taking a (Taking c x) ≡ None
hand_else a c x other = rw (ne_eqb c a other)

-- ends that a step leaves as they were
into : (part : ℕ → Part) (e : ℕ) (p' p : Part) → part e ≡ p → ((c : ℕ) → ins c p' ≡ ins c p) → (a b : ℕ) → ins a (put part e p' b) ≡ ins a (part b)
into part e p' p mine is a b = dite (ℕ_discrete b e) (λ hit. ap (λ (z : ℕ). ins a (put part e p' z)) hit
    ∙ (ap (ins a) (put_here part e p') ∙ (is a ∙ (ap (ins a) (sym mine) ∙ ap (λ (z : ℕ). ins a (part z)) (sym hit)))))
    (λ miss. ap (ins a) (put_else part e p' b miss))

outof : (part : ℕ → Part) (e : ℕ) (p' p : Part) → part e ≡ p → ((c : ℕ) → outs c p' ≡ outs c p) → (b a : ℕ) → outs b (put part e p' a) ≡ outs b (part a)
outof part e p' p mine os b a = dite (ℕ_discrete a e) (λ hit. ap (λ (z : ℕ). outs b (put part e p' z)) hit
    ∙ (ap (outs b) (put_here part e p') ∙ (os b ∙ (ap (outs b) (sym mine) ∙ ap (λ (z : ℕ). outs b (part z)) (sym hit)))))
    (λ miss. ap (outs b) (put_else part e p' a miss))

abbrev Ts : Type 0
Ts = List Token

module _ {B : Type 0} (items : B → List Token) where
  abbrev Homes : Type 0
  Homes = List (maybe.Option (Option B))

  -- a box whose poster does not have the slot is empty with its slot at home, or full
  vacant_or_full : (n : ℕ) (h : maybe.Option (maybe.Option (Option B))) (l : List Token) (ps ts : List Bundle) (hand : Option Bundle)
      → BoxIs items n h l ps false ts hand
      → ((n ≡ 0) × (ps ≡ ts) × (l ≡ []) × (hand ≡ None) × (h ≡ some (some None))) ⊎ (n ≡ 1)
  vacant_or_full n h l ps ts None box = ⊎_elim (λ t. inl (t.0, t.1, t.2, refl, t.3)) (λ t. inr t.1) box
  vacant_or_full n h l ps ts (Some x) box = inr box.0

  -- a box whose taker does not have the slot is empty, or full with its slot at home
  empty_or_ready : (n : ℕ) (h : maybe.Option (maybe.Option (Option B))) (l : List Token) (ps ts : List Bundle) (out : Bool) → BoxIs items n h l ps out ts None
      → (n ≡ 0) ⊎ ((x : B) × (n ≡ 1) × (out ≡ false) × (ps ≡ ts ++ items x ∷ []) × (l ≡ items x) × (h ≡ some (some (Some x))))
  empty_or_ready n h l ps ts true box = inl box.0
  empty_or_ready n h l ps ts false box = ⊎_elim (λ t. inl t.0) (λ t. inr (t.0, t.1, refl, t.2, t.3, t.4)) box

  module _ (n : ℕ) (start : List Token) where
    -- a step of the seat with the part p, to the part p', on the box from a to b
    pub box_step : (s : State (Option B) View) (r : Preserved items n start s) (id a b x : ℕ) (v : View) (p p' : Part) (homes' : Homes) (l' : List Token)
        → get_elem? s.views id ≡ some v → v.parts ≡ p ∷ [] → n ≤ v.spare → a < n → b < n
        → length homes' ≡ length s.homes
        → ((j : ℕ) → j ≢ 16 * a + b → get_elem? homes' j ≡ get_elem? s.homes j)
        → AllTo n b l' → p'.last ≡ p.last → Quiet p p' → IsPermutation (p.held ++ r.load (16 * a + b)) (p'.held ++ l')
        → ((c : ℕ) → ((p.element ≡ a) → (c ≡ b) → ⊥) → outs c p' ≡ outs c p) → ((c : ℕ) → ((p.element ≡ b) → (c ≡ a) → ⊥) → ins c p' ≡ ins c p)
        → BoxAt items (set s.words (16 * a + b) x) homes' (put r.load (16 * a + b) l') (put r.part p.element p') a b
        → Preserved items n start record { words = set s.words (16 * a + b) x; homes = homes'; views = set s.views id (with_part v p') }
    box_step s r id a b x v p p' homes' l' at one out la lb as_deep slots to last quiet perm os is here =
        let e : ℕ = p.element in let k : ℕ = 16 * a + b in
        let mine = (r.seats id v at).parts 0 p (ap (λ ps. get_elem? ps 0) one) in
        let same = quiet.element in let few : n ≤ 16 = r.few in let quiet' : Quiet (r.part e) p' = subst (λ (q : Part). Quiet q p') (sym mine.2) quiet
        in let load' : ℕ → List Token = put r.load k l' in let below : k < 256 = omega arith in record {
          part = put r.part e p';
          owner = r.owner;
          load = load';
          log = r.log;
          few = r.few;
          wide = length-set s.words k x ∙ r.wide;
          deep = as_deep ∙ r.deep;
          named = λ y l. dite (ℕ_discrete y e) (λ hit. ap (λ (z : ℕ). (put r.part e p' z).element) hit
              ∙ (ap (λ (q : Part). q.element) (put_here r.part e p') ∙ (same ∙ sym hit)))
              (λ miss. ap (λ (q : Part). q.element) (put_else r.part e p' y miss) ∙ r.named y l);
          seats = seats_step n start r.part r.owner r.log r.log s.views id p p' v v.seen at r.seats one out same (r.seats id v at).seen
              ((r.seats id v at).whole 0 p (ap (λ ps. get_elem? ps 0) one)) (prefix_self r.log) (λ _ _. refl)
              (subst (λ (z : List Commit). IsPrefix z r.log) (sym last) ((r.seats id v at).lasts 0 p (ap (λ ps. get_elem? ps 0) one)));
          addressed = λ c d lc ld. dite (ℕ_discrete (16 * c + d) k)
              (λ hit. let t = same_box c d a b (omega arith) (omega arith) hit in subst (λ (z : ℕ × Ts). AllTo n z.0 z.1)
              (λ i. (sym t.1 i, (sym (put_here r.load k l') ∙ ap load' (sym hit)) i)) to)
              (λ miss. subst (AllTo n d) (sym (put_else r.load k l' (16 * c + d) miss)) (r.addressed c d lc ld));
          past = past_moves n start r.part r.load r.log (get_or s.words 256 0) e k (get_or (set s.words k x) 256 0) p' l' mine.0 below
              (get_or-set_other s.words k 256 x 0 (λ e. absurd (omega arith)))
              quiet' (subst (λ (q : Part). IsPermutation (q.held ++ r.load k) (p'.held ++ l')) (sym mine.2) perm) r.past;
          stops = stops_stay n r.part (get_or s.words 257 0) (get_or (set s.words k x) 257 0) e p'
              (get_or-set_other s.words k 257 x 0 (λ e. absurd (omega arith))) quiet' r.stops;
          boxes = λ c d lc ld.
              let apart : ((c ≡ a) → (d ≡ b) → ⊥) → 16 * c + d ≢ k = λ no e. let t = same_box c d a b (omega arith) (omega arith) e in no t.0 t.1 in
              let stays : ((c ≡ a) → (d ≡ b) → ⊥) → BoxAt items (set s.words k x) homes' load' (put r.part e p') c d = λ no.
              box_stays items n s.words (set s.words k x) s.homes homes' r.load load' r.part e p' c d
              (get_or-set_other s.words k (16 * c + d) x 0 (apart no)) (slots (16 * c + d) (apart no)) (put_else r.load k l' (16 * c + d) (apart no))
              (λ hit. os d (λ ea db. no (hit ∙ ea) db) ∙ ap (outs d) (sym mine.2)) (λ hit. is c (λ eb ca. no ca (hit ∙ eb)) ∙ ap (ins c) (sym mine.2))
              (r.boxes c d lc ld) in
              dite (ℕ_discrete c a) (λ ca. dite (ℕ_discrete d b)
              (λ db. subst (λ (z : ℕ × ℕ). BoxAt items (set s.words k x) homes' load' (put r.part e p') z.0 z.1) (λ i. (sym ca i, sym db i)) here)
              (λ nd. stays (λ _ db. nd db))) (λ nc. stays (λ ca _. nc ca));
        }

    module _ (s : State (Option B) View) (r : Preserved items n start s) (id : ℕ) (v : View) (p : Part) (at : get_elem? s.views id ≡ some v)
        (one : v.parts ≡ p ∷ []) (out : n ≤ v.spare) where
      abbrev mine : (p.element < n) × (r.owner p.element ≡ id) × (r.part p.element ≡ p)
      mine = (r.seats id v at).parts 0 p (ap (λ ps. get_elem? ps 0) one)

      -- a look that finds nothing to take
      looks_only : (a b : ℕ) (d : Deed) → a < n → b < n → ((c : ℕ) → posts c d ≡ []) → ((c : ℕ) → takes_from c d ≡ [])
          → ((c : ℕ) → commits_in c d ≡ []) → made_in d ≡ 0 → wins_in d ≡ 0 → ((word : ℕ) → says word d)
          → Preserved items n start (stepped s (16 * a + b) (get_or s.words (16 * a + b) 0) id [] (with_part v (noted p d)) keeps)
      looks_only a b d la lb no_post no_take no_commit no_made no_win no_say =
          let few : n ≤ 16 = r.few in let wide : length s.words ≡ 258 = r.wide in
          let os : (c : ℕ) → outs c (noted p d) ≡ outs c p = λ c i. (posted_same c p.deeds d (no_post c) i, posting c p.stage) in
          let is : (c : ℕ) → ins c (noted p d) ≡ ins c p = λ c i. (taken_same c p.deeds d (no_take c) i, taking c p.stage) in
          let k : ℕ = 16 * a + b in
          box_step s r id a b (get_or s.words k 0) v p (noted p d) s.homes (r.load k) at one out la lb refl (λ _ _. refl) (r.addressed a b la lb) refl
          (quiet_deed p (noted p d) d refl refl no_commit no_made no_win no_say) (IsPermutation-refl (p.held ++ r.load k)) (λ c _. os c) (λ c _. is c)
          (box_stays items n s.words (set s.words k (get_or s.words k 0)) s.homes s.homes r.load (put r.load k (r.load k)) r.part p.element (noted p d) a b
          (get_or-set_same s.words k (get_or s.words k 0) 0 (omega arith)) refl (put_here r.load k (r.load k)) (λ _. os b ∙ ap (outs b) (sym mine.2))
          (λ _. is a ∙ ap (ins a) (sym mine.2)) (r.boxes a b la lb))

    -- the two of which a step speaks are the one part and the other end of its box
    told : (v : View) (p q : Part) → v.parts ≡ p ∷ [] → v.parts ≡ q ∷ [] → p ≡ q
    told v p q one two = cc (one, two)

    pub looks_to : (bundle : Bundle) (id b : ℕ) (v : View) (p : Part) → v.parts ≡ p ∷ [] → Sits v → p.stage ≡ Idle → b < n
        → Allows (Preserved items n start) 256 id (v, []) (16 * p.element + b) (λ x. x) (looked_to bundle (step 256 (16 * p.element + b) 0 0 none) (v, []))
    looks_to bundle id b v p one sits idle lb s r _ at small =
        let e : ℕ = p.element in let k : ℕ = 16 * e + b in let x : ℕ = get_or s.words k 0 in
        let out = spared n start r.part r.owner r.log id v sits (r.seats id v at) in let few : n ≤ 16 = r.few in let deep : length s.homes ≡ 256 = r.deep in
        let mine = (r.seats id v at).parts 0 p (ap (λ ps. get_elem? ps 0) one) in let le : e < n = mine.0 in
        let o : outs b (r.part e) ≡ (posted b p.deeds, false) = ap (outs b) mine.2 ∙ ap (λ (g : Stage). (posted b p.deeds, posting b g)) idle in
        let box = subst (λ (z : List Bundle × Bool). Ends items x (get_elem? s.homes k) (r.load k) z (ins e (r.part b))) o (r.boxes e b le lb) in
        let tells : (m : Me (Option B) View) → ((x ≡ 0 → m ≡ (with_part v (posed p (Posting b)), (k, None) ∷ []))
        × (x ≢ 0 → m ≡ (with_part v (noted p (FoundFull b bundle)), []))) → looked_to bundle (step 256 k 0 0 none) (v, []) x m
        = λ m h q c two word lc.
        let same : p ≡ q = told v p q one two in
        let c' : b ≡ c = (same_box e b q.element c (omega arith) lc word).1 in
        subst (λ (z : Part × ℕ). (x ≡ 0 → m ≡ (with_part v (posed z.0 (Posting z.1)), (k, None) ∷ []))
        × (x ≢ 0 → m ≡ (with_part v (noted z.0 (FoundFull z.1 bundle)), []))) (λ i. (same i, c' i)) h in
        ⊎_elim (λ t.
        let p' : Part = posed p (Posting b) in
        let is : (c : ℕ) → ins c p' ≡ ins c p = λ c i. (taken c p.deeds, ap (taking c) (sym idle) i) in (
          with_part v p',
          takes k None,
          t.4,
          box_step s r id e b x v p p' (set s.homes k none) (r.load k) at one out le lb (length-set s.homes k none)
              (λ j other. set_else s.homes k j none other) (r.addressed e b le lb) refl (quiet_stage p p'.stage) (IsPermutation-refl (p.held ++ r.load k))
              (λ c no i. (posted c p.deeds, (ne_eqb b c (λ h. no refl (sym h)) ∙ ap (posting c) (sym idle)) i)) (λ c _. is c)
              (let here : ins e (put r.part e p' b) ≡ ins e (r.part b) = into r.part e p' p mine.2 is e b in
              subst (λ (z : ℕ × maybe.Option (maybe.Option (Option B)) × (List Bundle × Bool) × (List Bundle × Option Bundle)). Ends items z.0 z.1
              (put r.load k (r.load k) k) z.2 z.3)
              (λ i. (
                sym (get_or-set_same s.words k x 0 (let wide : length s.words ≡ 258 = r.wide in omega arith)) i,
                get_elem? (set s.homes k none)
                    k,
                sym (ap (outs b) (put_here r.part e p') ∙ ap (λ (y : Bool). (posted b p.deeds, y)) (eq-eqb b b refl)) i,
                sym here i,
              ))
              (t.0, t.1, put_here r.load k (r.load k) ∙ t.2, t.3, set_here s.homes k none (omega arith))),
          tells _ ((λ _. refl), λ no. absurd (no t.0)),
        ))
        (λ full. (
          with_part v (noted p (FoundFull b bundle)),
          keeps,
          tt,
          looks_only s r id v p at one out e b (FoundFull b bundle) le lb (λ _. refl) (λ _. refl) (λ _. refl) refl refl (λ _. tt),
          tells _ ((λ z. absurd (omega arith)), λ _. refl),
        ))
        (vacant_or_full x (get_elem? s.homes k) (r.load k) (posted b p.deeds) (taken e (r.part b).deeds) (taking e (r.part b).stage) box)

    pub gives_full : (id b : ℕ) (v : View) (p : Part) (x : B) (kept : List Token) → AllTo v.elements b (items x) → v.parts ≡ p ∷ [] → Sits v → p.stage
        ≡ Posting b → b < n → IsPermutation p.held (items x ++ kept)
        → Allows (Preserved items n start) 256 id (v, (16 * p.element + b, Some x) ∷ []) (16 * p.element + b) (λ _. 1)
        (λ _. gave items (step 256 (16 * p.element + b) 1 0 none) (v, (16 * p.element + b, Some x) ∷ []) 1)
    gives_full id b v p x kept to one sits stage lb perm s r _ at small =
        let e : ℕ = p.element in let k : ℕ = 16 * e + b in
        let out = spared n start r.part r.owner r.log id v sits (r.seats id v at) in let few : n ≤ 16 = r.few in let deep : length s.homes
        ≡ 256 = r.deep in let wide : length s.words ≡ 258 = r.wide in
        let mine = (r.seats id v at).parts 0 p (ap (λ ps. get_elem? ps 0) one) in let le : e < n = mine.0 in
        let p' : Part = after_post p b (items x) kept in
        let o : outs b (r.part e) ≡ (posted b p.deeds, true) = ap (outs b) mine.2 ∙ ap (λ (y : Bool). (posted b p.deeds, y)) (ap (posting b) stage
        ∙ eq-eqb b b refl) in
        let box = subst (λ (z : List Bundle × Bool). Ends items (get_or s.words k 0) (get_elem? s.homes k) (r.load k) z (ins e (r.part b))) o
        (r.boxes e b le lb) in
        let is : (c : ℕ) → ins c p' ≡ ins c p = λ c i. (taken_same c p.deeds (Posted b (items x)) refl i, ap (taking c) (sym stage) i) in
        let o' : outs b (put r.part e p' e) ≡ (posted b p.deeds ++ items x ∷ [], false) = ap (outs b) (put_here r.part e p')
        ∙ ap (λ (y : List Bundle). (y, false)) (posted_more b p.deeds (Posted b (items x)) ∙ ap (λ (z : List Bundle). posted b p.deeds ++ z)
        (posts_here b (items x))) in
        let i' : ins e (put r.part e p' b) ≡ (taken e (r.part b).deeds, None) = into r.part e p' p mine.2 is e b
        ∙ ap (λ (z : Option Bundle). (taken e (r.part b).deeds, z)) box.3 in (
          with_part v p',
          gives,
          tt,
          box_step s r id e b 1 v p p' (set s.homes k (some (Some x))) (items x) at one out le lb (length-set s.homes k (some (Some x)))
              (λ j other. set_else s.homes k j (some (Some x)) other)
              (subst (λ (z : ℕ). AllTo z b (items x)) ((r.seats id v at).about sits.0).0 to) refl
              (quiet_deed p p' (Posted b (items x)) refl refl (λ _. refl) refl refl (λ _. tt))
              (let empty : p.held ++ r.load k ≡ p.held = ap (λ (z : List Token). p.held ++ z) box.2 ∙ append-nil p.held in
              subst (λ (z : List Token). IsPermutation z (kept ++ items x)) (sym empty)
              (IsPermutation-trans _ _ _ perm (IsPermutation-append_comm (items x) kept)))
              (λ c no i. (
                (posted_same c p.deeds (Posted b (items x)) (posts_else c b (items x) (λ h. no refl (sym h)))) i,
                (sym (ap (posting c) stage ∙ ne_eqb b c (λ h. no refl (sym h)))) i,
              )) (λ c _. is c)
              (subst (λ (z : ℕ × maybe.Option (maybe.Option (Option B)) × List Token × (List Bundle × Bool) × (List Bundle × Option Bundle)). Ends
              items z.0 z.1 z.2 z.3 z.4)
              (λ i. (
                sym (get_or-set_same s.words k 1 0 (omega arith)) i,
                sym (set_here s.homes k (some (Some x)) (omega arith)) i,
                sym
                    (put_here r.load k (items x)) i,
                sym o' i,
                sym i' i,
              ))
              (inr (x, refl, ap (λ (z : List Bundle). z ++ items x ∷ []) box.1, refl, refl))),
          λ q c y two stage' carried.
              let same : p ≡ q = told v p q one two in
              let bc : b ≡ c = cc (ap (λ (z : Part). z.stage) same, stage, stage') in
              let xy : x ≡ y = ap (item_in x) carried in (
                kept,
                subst (λ (z : Part × B). IsPermutation z.0.held (items z.1 ++ kept)) (λ i. (same i, xy i)) perm,
                λ i.
                    (with_part v (after_post (same i) (bc i) (items (xy i)) kept), []),
              ),
        )

    pub looks_from : (id a : ℕ) (v : View) (p : Part) → v.parts ≡ p ∷ [] → Sits v → p.stage ≡ Idle → a < n
        → Allows (Preserved items n start) 256 id (v, []) (16 * a + p.element) (λ x. x) (looked_from items (step 256 (16 * a + p.element) 0 0 none) (v, []))
    looks_from id a v p one sits idle la s r _ at small =
        let e : ℕ = p.element in let k : ℕ = 16 * a + e in let n0 : ℕ = get_or s.words k 0 in
        let out = spared n start r.part r.owner r.log id v sits (r.seats id v at) in let few : n ≤ 16 = r.few in let deep : length s.homes
        ≡ 256 = r.deep in let wide : length s.words ≡ 258 = r.wide in
        let mine = (r.seats id v at).parts 0 p (ap (λ ps. get_elem? ps 0) one) in let le : e < n = mine.0 in
        let i0 : ins a (r.part e) ≡ (taken a p.deeds, None) = ap (ins a) mine.2 ∙ ap (λ (g : Stage). (taken a p.deeds, taking a g)) idle in
        let box = subst (λ (z : List Bundle × Option Bundle). Ends items n0 (get_elem? s.homes k) (r.load k) (outs e (r.part a)) z) i0 (r.boxes a e la le) in
        let Tells : Me (Option B) View → Part → ℕ → Type 0 = λ m q c. (n0 ≡ 0 → m ≡ (with_part v (noted q (FoundEmpty c)), []))
        × (n0 ≢ 0 → (y : B) × (m ≡ (with_part v (posed q (Taking c (items y))), (k, Some y) ∷ [])) × AllTo v.elements q.element (items y)) in
        let tells : (m : Me (Option B) View) → Tells m p a → looked_from items (step 256 k 0 0 none) (v, []) n0 m
        = λ m h q c two word lq.
        let same : p ≡ q = told v p q one two in
        let c' : a ≡ c = (same_box a e c q.element (omega arith) lq word).0 in
        subst (λ (z : Part × ℕ). Tells m z.0 z.1) (λ i. (same i, c' i)) h in
        ⊎_elim (λ empty. (
          with_part v (noted p (FoundEmpty a)),
          keeps,
          tt,
          looks_only s r id v p at one out a e (FoundEmpty a) la le (λ _. refl) (λ _. refl) (λ _. refl) refl refl (λ _. tt),
          tells _ ((λ _. refl), λ no. absurd (no empty)),
        ))
        (λ t.
        let x : B = t.0 in
        let p' : Part = posed p (Taking a (items x)) in
        let os : (c : ℕ) → outs c p' ≡ outs c p = λ c i. (posted c p.deeds, ap (posting c) (sym idle) i) in
        let o' : outs e (put r.part e p' a) ≡ (posted e (r.part a).deeds, false) = outof r.part e p' p mine.2 os e a
        ∙ ap (λ (z : Bool). (posted e (r.part a).deeds, z)) t.2 in
        let i' : ins a (put r.part e p' e) ≡ (taken a p.deeds, Some (items x)) = ap (ins a) (put_here r.part e p')
        ∙ (λ i. (taken a p.deeds, hand_here a (items x) i)) in (
          with_part v p',
          takes k (Some x),
          t.5,
          box_step s r id a e n0 v p p' (set s.homes k none) (r.load k) at one out la le (length-set s.homes k none)
              (λ j other. set_else s.homes k j none other) (r.addressed a e la le) refl (quiet_stage p p'.stage) (IsPermutation-refl (p.held ++ r.load k))
              (λ c _. os c) (λ c no i. (taken c p.deeds, (hand_else c a (items x) (λ h. no refl (sym h)) ∙ ap (taking c) (sym idle)) i))
              (subst (λ (z : ℕ × maybe.Option (maybe.Option (Option B)) × List Token × (List Bundle × Bool) × (List Bundle × Option Bundle)). Ends
              items z.0 z.1 z.2 z.3 z.4)
              (λ i. (
                sym (get_or-set_same s.words k n0 0 (omega arith)) i,
                sym (set_here s.homes k none (omega arith)) i,
                sym
                    (put_here r.load k (r.load k)) i,
                sym o' i,
                sym i' i,
              ))
              (t.1, t.3, t.4, refl)),
          tells _ (
            (λ z. absurd (let one_there : n0 ≡ 1 = t.1 in omega arith)),
            λ _. (
              x,
              refl,
              subst (λ (z : ℕ × Ts). AllTo z.0 e z.1)
                  (λ i. (sym ((r.seats id v at).about sits.0).0 i, t.4 i)) (r.addressed a e la le),
            ),
          ),
        ))
        (empty_or_ready n0 (get_elem? s.homes k) (r.load k) (posted e (r.part a).deeds) (taken a p.deeds) (posting e (r.part a).stage) box)

    -- a box whose taker has the slot
    in_hand : (m : ℕ) (h : maybe.Option (maybe.Option (Option B))) (l : List Token) (ps ts : List Bundle) (o : Bool) (x : Bundle)
        → BoxIs items m h l ps o ts (Some x) → (o ≡ false) × (ps ≡ ts ++ x ∷ []) × (l ≡ x)
    in_hand m h l ps ts true x box = absurd (cc (box.3))
    in_hand m h l ps ts false x box = (refl, box.1, box.2)

    pub gives_empty : (id a : ℕ) (v : View) (p : Part) (y : Bundle) → v.parts ≡ p ∷ [] → Sits v → p.stage ≡ Taking a y → a < n
        → Allows (Preserved items n start) 256 id (v, (16 * a + p.element, None) ∷ []) (16 * a + p.element) (λ _. 0)
        (λ _. gave_back (step 256 (16 * a + p.element) 0 0 none) (v, (16 * a + p.element, None) ∷ []) 0)
    gives_empty id a v p y one sits stage la s r _ at small =
        let e : ℕ = p.element in let k : ℕ = 16 * a + e in
        let out = spared n start r.part r.owner r.log id v sits (r.seats id v at) in let few : n ≤ 16 = r.few in let deep : length s.homes
        ≡ 256 = r.deep in let wide : length s.words ≡ 258 = r.wide in
        let mine = (r.seats id v at).parts 0 p (ap (λ ps. get_elem? ps 0) one) in let le : e < n = mine.0 in
        let p' : Part = after_take p a y in
        let i0 : ins a (r.part e) ≡ (taken a p.deeds, Some y) = ap (ins a) mine.2 ∙ ap (λ (z : Option Bundle). (taken a p.deeds, z))
        (ap (taking a) stage ∙ hand_here a y) in
        let box = in_hand _ _ _ _ _ _ y (subst (λ (z : List Bundle × Option Bundle). Ends items (get_or s.words k 0) (get_elem? s.homes k) (r.load k)
        (outs e (r.part a)) z) i0 (r.boxes a e la le)) in
        let os : (c : ℕ) → outs c p' ≡ outs c p = λ c i. (posted_same c p.deeds (Took a y) refl i, ap (posting c) (sym stage) i) in
        let o' : outs e (put r.part e p' a) ≡ (posted e (r.part a).deeds, false) = outof r.part e p' p mine.2 os e a
        ∙ ap (λ (z : Bool). (posted e (r.part a).deeds, z)) box.0 in
        let i' : ins a (put r.part e p' e) ≡ (taken a p.deeds ++ y ∷ [], None) = ap (ins a) (put_here r.part e p')
        ∙ ap (λ (z : List Bundle). (z, None)) (taken_more a p.deeds (Took a y) ∙ ap (λ (z : List Bundle). taken a p.deeds ++ z) (takes_here a y)) in (
          with_part v p',
          gives,
          tt,
          box_step s r id a e 0 v p p' (set s.homes k (some None)) [] at one out la le (length-set s.homes k (some None))
              (λ j other. set_else s.homes k j (some None) other)
              (All-nil (λ (t : Token). element_of n t.to ≡ e)) refl (quiet_deed p p' (Took a y) refl refl (λ _. refl) refl refl (λ _. tt))
              (subst (λ (z : List Token × List Token). IsPermutation (p.held ++ z.0) z.1) (λ i. (sym box.2 i, sym (append-nil (y ++ p.held)) i))
              (IsPermutation-append_comm p.held y))
              (λ c _. os c) (λ c no i. (
                taken_same c p.deeds (Took a y) (takes_else c a y (λ h. no refl (sym h))) i,
                sym (ap (taking c) stage
                    ∙ hand_else c a y (λ h. no refl (sym h))) i,
              ))
              (subst (λ (z : ℕ × maybe.Option (maybe.Option (Option B)) × List Token × (List Bundle × Bool) × (List Bundle × Option Bundle)). Ends
              items z.0 z.1 z.2 z.3 z.4)
              (λ i. (
                sym (get_or-set_same s.words k 0 0 (omega arith)) i,
                sym (set_here s.homes k (some None) (omega arith)) i,
                sym
                    (put_here r.load k []) i,
                sym o' i,
                sym i' i,
              ))
              (inl (refl, box.1, refl, refl))),
          λ q c z two stage'.
              let same : p ≡ q = told v p q one two in
              let ac : a ≡ c = cc (ap (λ (z : Part). z.stage) same, stage, stage') in
              let yz : y ≡ z = cc (ap (λ (z : Part). z.stage) same, stage, stage') in
              λ i. (with_part v (after_take (same i) (ac i) (yz i)), []),
        )
