-- What the elements hold and what lies in the boxes, when tokens move between them.
use Rattle.std.proofs.Common.{◌≡◌, ℕ, zero, suc, ◌+◌, ◌*◌, ◌^◌, ◌<◌, ◌≤◌, List, [], ◌∷◌, ◌++◌, length, refl, ap, sym, ◌∙◌, subst, arith}
use Rattle.std.proofs.Common.{append_assoc, suc-mul, ◌==◌, if◌then◌else◌}
use Rattle.std.proofs.lemmas.List.{append-nil}
use Rattle.std.specs.List.Sorted.{IsPermutation}
use Rattle.std.proofs.lemmas.List.Sorted.{IsPermutation-refl, IsPermutation-sym, IsPermutation-trans, IsPermutation-append}
use Rattle.std.proofs.lemmas.List.Sorted.{IsPermutation-append_comm, IsPermutation-append_left, IsPermutation-append_right}
use mathlib.Core.Logic.{dite}
use native.Mathlib.Decide.{ℕ_discrete}
use Rattle.tags.specs.declared.token.Token.{Token}
use Rattle.mesh.specs.declared.view.Commit.{Commit}
use Rattle.mesh.specs.declared.view.Part.{Part}
use Rattle.mesh.specs.Deeds.{created, commits_of, commits_in, made_in, wins, wins_in, says, Says}
use Rattle.mesh.specs.declared.view.Deed.{Deed}
use Rattle.mesh.specs.declared.view.Stage.{Stage}
use Rattle.mesh.proofs.Deeds.{commits_same, created_more, wins_more, says_more}
use Rattle.mesh.specs.Rule.{gather, total, held_by, created_by, Past, posed, Stops, wins_by}
use Rattle.mesh.proofs.Frame.{put, put_here, put_else}

abbrev Ts : Type 0
Ts = List Token

same_as : (xs ys : Ts) → xs ≡ ys → IsPermutation xs ys
same_as xs ys e = subst (λ (z : Ts). IsPermutation xs z) e (IsPermutation-refl xs)

-- (a b) (c d) is (a c) (b d)
pub shuffle : (a b c d : Ts) → IsPermutation ((a ++ b) ++ (c ++ d)) ((a ++ c) ++ (b ++ d))
shuffle a b c d =
    let inner : IsPermutation ((b ++ c) ++ d) ((c ++ b) ++ d) = IsPermutation-append_left d (b ++ c) (c ++ b) (IsPermutation-append_comm b c) in
    let whole : IsPermutation (a ++ ((b ++ c) ++ d)) (a ++ ((c ++ b) ++ d)) = IsPermutation-append_right a ((b ++ c) ++ d) ((c ++ b) ++ d) inner in
    subst (λ (z : Ts × Ts). IsPermutation z.0 z.1)
    (λ i. (
      (ap (λ (z : Ts). a ++ z) (append_assoc b c d) ∙ sym (append_assoc a b (c ++ d))) i,
      (ap (λ (z : Ts). a ++ z) (append_assoc c b d)
          ∙ sym (append_assoc a c (b ++ d))) i,
    )) whole

pub gather_ext : (m : ℕ) (f g : ℕ → Ts) → ((j : ℕ) → j < m → f j ≡ g j) → gather m f ≡ gather m g
unfolding gather
gather_ext zero f g h = refl
gather_ext (suc m) f g h = let r = gather_ext m f g (λ j l. h j (omega arith)) in let t = h m (omega arith) in cc

-- one of the lists, and the others
pub gather_at : (m : ℕ) (f : ℕ → Ts) (i : ℕ) → i < m → IsPermutation (gather m f) (f i ++ gather m (put f i []))
unfolding gather
gather_at zero f i l = absurd (omega arith)
gather_at (suc m) f i l = dite (ℕ_discrete i m)
    (λ hit.
    let low : gather m (put f i []) ≡ gather m f = gather_ext m (put f i []) f (λ j lj. put_else f i [] j (λ e. absurd (omega arith))) in
    let top : put f i [] m ≡ [] = ap (put f i []) (sym hit) ∙ put_here f i [] in
    let all : gather m (put f i []) ++ put f i [] m ≡ gather m f = ap (λ (z : Ts). gather m (put f i []) ++ z) top
    ∙ (append-nil (gather m (put f i [])) ∙ low) in
    subst (λ (z : Ts × Ts). IsPermutation (gather m f ++ f m) (z.0 ++ z.1)) (λ k. (ap f (sym hit) k, sym all k)) (IsPermutation-append_comm (gather m f) (f m)))
    (λ miss.
    let r = gather_at m f i (omega arith) in
    let top : put f i [] m ≡ f m = put_else f i [] m (λ e. miss (sym e)) in
    let more : IsPermutation (gather m f ++ f m) ((f i ++ gather m (put f i [])) ++ f m) = IsPermutation-append_left (f m) (gather m f)
    (f i ++ gather m (put f i [])) r in
    subst (λ (z : Ts). IsPermutation (gather m f ++ f m) z) (append_assoc (f i) (gather m (put f i [])) (f m)
    ∙ ap (λ (z : Ts). f i ++ (gather m (put f i []) ++ z)) (sym top)) more)

pub gather_put : (m : ℕ) (f : ℕ → Ts) (i : ℕ) (c : Ts) → i < m → IsPermutation (gather m (put f i c)) (c ++ gather m (put f i []))
gather_put m f i c l =
    let r = gather_at m (put f i c) i l in
    let e : gather m (put (put f i c) i []) ≡ gather m (put f i []) = gather_ext m (put (put f i c) i []) (put f i []) (λ j _. dite (ℕ_discrete j i)
    (λ hit. ap (put (put f i c) i []) hit ∙ (put_here (put f i c) i [] ∙ (sym (put_here f i []) ∙ ap (put f i []) (sym hit))))
    (λ miss. put_else (put f i c) i [] j miss ∙ (put_else f i c j miss ∙ sym (put_else f i [] j miss)))) in
    subst (λ (z : Ts × Ts). IsPermutation (gather m (put f i c)) (z.0 ++ z.1)) (λ k. (put_here f i c k, e k)) r

-- h and l become h' and l', which are the same tokens
pub moves : (m q : ℕ) (f g : ℕ → Ts) (i k : ℕ) (h' l' : Ts) → i < m → k < q → IsPermutation (f i ++ g k) (h' ++ l')
    → IsPermutation (gather m f ++ gather q g) (gather m (put f i h') ++ gather q (put g k l'))
moves m q f g i k h' l' li lk same =
    let H0 : Ts = gather m (put f i []) in let L0 : Ts = gather q (put g k []) in
    let a : IsPermutation (gather m f ++ gather q g) ((f i ++ H0) ++ (g k ++ L0)) = IsPermutation-append (gather m f) (f i ++ H0) (gather q g)
    (g k ++ L0) (gather_at m f i li) (gather_at q g k lk) in
    let b : IsPermutation ((f i ++ H0) ++ (g k ++ L0)) ((f i ++ g k) ++ (H0 ++ L0)) = shuffle (f i) H0 (g k) L0 in
    let c : IsPermutation ((f i ++ g k) ++ (H0 ++ L0)) ((h' ++ l') ++ (H0 ++ L0)) = IsPermutation-append_left (H0 ++ L0) (f i ++ g k) (h' ++ l') same in
    let d : IsPermutation ((h' ++ l') ++ (H0 ++ L0)) ((h' ++ H0) ++ (l' ++ L0)) = shuffle h' l' H0 L0 in
    let e : IsPermutation (gather m (put f i h') ++ gather q (put g k l')) ((h' ++ H0) ++ (l' ++ L0)) = IsPermutation-append (gather m (put f i h'))
    (h' ++ H0) (gather q (put g k l')) (l' ++ L0) (gather_put m f i h' li) (gather_put q g k l' lk) in
    IsPermutation-trans _ _ _ a (IsPermutation-trans _ _ _ b (IsPermutation-trans _ _ _ c (IsPermutation-trans _ _ _ d (IsPermutation-sym _ _ e))))

pub put_held : (part : ℕ → Part) (i : ℕ) (p' : Part) (j : ℕ) → held_by (put part i p') j ≡ put (held_by part) i p'.held j
put_held part i p' j = dite (ℕ_discrete j i)
    (λ hit. ap (held_by (put part i p')) hit ∙ (ap (λ (q : Part). q.held) (put_here part i p')
    ∙ (sym (put_here (held_by part) i p'.held) ∙ ap (put (held_by part) i p'.held) (sym hit))))
    (λ miss. ap (λ (q : Part). q.held) (put_else part i p' j miss) ∙ sym (put_else (held_by part) i p'.held j miss))

pub total_ext : (m : ℕ) (f g : ℕ → ℕ) → ((j : ℕ) → j < m → f j ≡ g j) → total m f ≡ total m g
unfolding total
total_ext zero f g h = refl
total_ext (suc m) f g h = let r = total_ext m f g (λ j l. h j (omega arith)) in let t = h m (omega arith) in cc

pub total_at : (m : ℕ) (f : ℕ → ℕ) (i c : ℕ) → i < m → total m (put f i c) + f i ≡ total m f + c
unfolding total
total_at zero f i c l = absurd (omega arith)
total_at (suc m) f i c l = dite (ℕ_discrete i m)
    (λ hit.
    let low : total m (put f i c) ≡ total m f = total_ext m (put f i c) f (λ j lj. put_else f i c j (λ e. absurd (omega arith))) in
    let top : put f i c m ≡ c = ap (put f i c) (sym hit) ∙ put_here f i c in
    let at : f i ≡ f m = ap f hit in omega arith)
    (λ miss.
    let r = total_at m f i c (omega arith) in
    let top : put f i c m ≡ f m = put_else f i c m (λ e. miss (sym e)) in omega arith)

pub total_most : (m : ℕ) (f : ℕ → ℕ) (most : ℕ) → ((j : ℕ) → j < m → f j ≤ most) → total m f ≤ m * most
unfolding total
total_most zero f most h = omega arith
total_most (suc m) f most h = let r = total_most m f most (λ j l. h j (omega arith)) in let t = h m (omega arith) in omega (arith, suc-mul m most)

pub put_field : {A : Type 0} (g : Part → A) (part : ℕ → Part) (i : ℕ) (p' : Part) (j : ℕ) → g (put part i p' j) ≡ put (λ (x : ℕ). g (part x)) i (g p') j
put_field g part i p' j = dite (ℕ_discrete j i)
    (λ hit. ap (λ (x : ℕ). g (put part i p' x)) hit
    ∙ (ap g (put_here part i p') ∙ (sym (put_here (λ (x : ℕ). g (part x)) i (g p')) ∙ ap (put (λ (x : ℕ). g (part x)) i (g p')) (sym hit))))
    (λ miss. ap g (put_else part i p' j miss) ∙ sym (put_else (λ (x : ℕ). g (part x)) i (g p') j miss))

-- What a step that neither commits nor stops leaves as it was
pub record Quiet (p p' : Part) : Type 0 where
  pub element : p'.element ≡ p.element
  pub commits : (e : ℕ) → commits_of e p'.deeds ≡ commits_of e p.deeds
  pub created : created p'.deeds ≡ created p.deeds
  pub wins : wins p'.deeds ≡ wins p.deeds
  pub says : (word : ℕ) → Says word p.deeds → Says word p'.deeds

pub quiet_stage : (p : Part) (g : Stage) → Quiet p (posed p g)
quiet_stage p g = record { element = refl; commits = λ _. refl; created = refl; wins = refl; says = λ _ s. s }

-- one deed more
pub quiet_deed : (p p' : Part) (d : Deed) → p'.element ≡ p.element → p'.deeds ≡ p.deeds ++ d ∷ [] → ((e : ℕ) → commits_in e d ≡ []) → made_in d ≡ 0
    → wins_in d ≡ 0 → ((word : ℕ) → says word d) → Quiet p p'
quiet_deed p p' d same is no_commit no_made no_win no_say = record {
  element = same;
  commits = λ e. ap (commits_of e) is ∙ commits_same e p.deeds d (no_commit e);
  created = let m = created_more p.deeds d in ap created is ∙ (omega arith);
  wins = let m = wins_more p.deeds d in ap wins is ∙ (omega arith);
  says = λ word s. subst (Says word) (sym is) (says_more word p.deeds d s (no_say word));
}

pub stops_stay : (n : ℕ) (part : ℕ → Part) (word word' e : ℕ) (p' : Part) → word' ≡ word → Quiet (part e) p' → Stops n part word → Stops n (put part e p') word'
stops_stay n part word word' e p' same quiet old = record {
  once = total_ext n (wins_by (put part e p')) (wins_by part) (λ j _. here j) ∙ (old.once ∙ ap (λ (w : ℕ). if w == 0 then 0 else 1) (sym same));
  known = λ x lx. subst (λ (w : ℕ). Says w (put part e p' x).deeds) (sym same) (dite (ℕ_discrete x e)
      (λ hit. subst (λ (z : ℕ × Part). Says word z.1.deeds) (λ i. (x, (sym (put_here part e p') ∙ ap (put part e p') (sym hit)) i))
      (quiet.says word (subst (λ (z : ℕ). Says word (part z).deeds) hit (old.known x lx))))
      (λ miss. subst (λ (q : Part). Says word q.deeds) (sym (put_else part e p' x miss)) (old.known x lx)));
}
  where
    here : (j : ℕ) → wins_by (put part e p') j ≡ wins_by part j
    here j = dite (ℕ_discrete j e) (λ hit. ap (wins_by (put part e p')) hit ∙ (ap (λ (q : Part). wins q.deeds) (put_here part e p')
        ∙ (quiet.wins ∙ ap (wins_by part) (sym hit))))
        (λ miss. ap (λ (q : Part). wins q.deeds) (put_else part e p' j miss))

module _ (n : ℕ) (start : Ts) (part : ℕ → Part) (load : ℕ → Ts) (log : List Commit) (live : ℕ) where
  -- a step that commits nothing moves tokens between an element and a box
  pub past_moves : (e k live' : ℕ) (p' : Part) (l' : Ts) → e < n → k < 256 → live' ≡ live → Quiet (part e) p'
      → IsPermutation ((part e).held ++ load k) (p'.held ++ l') → Past n start part load log live → Past n start (put part e p') (put load k l') log live'
  past_moves e k live' p' l' le lk same quiet perm old = let by = quiet.commits e in let made = quiet.created in record {
    pool = old.pool;
    legal = old.legal;
    size = same ∙ old.size;
    shares = IsPermutation-trans _ _ _ old.shares
        (subst (λ (z : Ts). IsPermutation (gather n (held_by part) ++ gather 256 load) (z ++ gather 256 (put load k l')))
        (sym (gather_ext n (held_by (put part e p')) (put (held_by part) e p'.held) (λ j _. put_held part e p' j)))
        (moves n 256 (held_by part) load e k p'.held l' le lk perm));
    own = λ x lx. dite (ℕ_discrete x e) (λ hit. old.own x lx ∙ (ap (λ (z : ℕ). commits_of z (part z).deeds) hit
        ∙ (sym by ∙ (ap (λ (q : Part). commits_of e q.deeds) (sym (put_here part e p')) ∙ ap (λ (z : ℕ). commits_of z (put part e p' z).deeds) (sym hit)))))
        (λ miss. old.own x lx ∙ ap (λ (q : Part). commits_of x q.deeds) (sym (put_else part e p' x miss)));
    others = old.others;
    bound = subst (λ (z : ℕ). length old.pool ≤ length start + z) (sym (total_ext n (created_by (put part e p')) (created_by part) (λ j _. here j))) old.bound;
    each = λ x lx. subst (λ (z : ℕ). z ≤ 2 ^ 40) (sym (here x)) (old.each x lx);
    brief = old.brief;
    busy = old.busy;
  }
    where
      here : (j : ℕ) → created_by (put part e p') j ≡ created_by part j
      here j = dite (ℕ_discrete j e) (λ hit. ap (created_by (put part e p')) hit ∙ (ap (λ (q : Part). created q.deeds) (put_here part e p')
          ∙ (quiet.created ∙ ap (created_by part) (sym hit))))
          (λ miss. ap (λ (q : Part). created q.deeds) (put_else part e p' j miss))
