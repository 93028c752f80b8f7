-- Each step on the live word and on the stop word keeps the rule.
use Rattle.std.proofs.Common.{◌≡◌, ◌≢◌, ℕ, ◌+◌, ◌*◌, ◌^◌, ◌<◌, ◌≤◌, Bool, List, [], ◌∷◌, ◌++◌, map, length, get_or, set, refl, ap, sym, ◌∙◌, subst}
use Rattle.std.proofs.Common.{⊎_elim, arith, length-append, append_assoc, get_or-set_other, get_or-set_same, length-set, eq-eqb, ne_eqb, ◌==◌}
use Rattle.std.proofs.Common.{if◌then◌else◌, Option}
use Rattle.std.proofs.lemmas.List.{append-nil}
use Rattle.std.specs.List.{All}
use Rattle.std.specs.List.Sorted.{IsPermutation}
use Rattle.std.proofs.lemmas.List.Sorted.{IsPermutation-refl, IsPermutation-sym, IsPermutation-trans, IsPermutation-append_left, length_permutation}
use mathlib.Core.Logic.{dite}
use mathlib.Core.Option.{some, none}
use mathlib.Core.List.{IsPrefix, map-append}
use native.Mathlib.Decide.{ℕ_discrete}
use lib.ListN.{get_elem?}
use prog.Atomic.{either}
use Rattle.atomic_table.specs.Table.{State, Me, Step, step, Act, Valid, carried_after, keeps, stepped, Allows}
use Rattle.atomic_table.proofs.Lists.{at_snoc}
use Rattle.tags.specs.declared.token.Token.{Token}
use Rattle.tags.specs.Addresses.{element_of}
use Rattle.semantics.specs.Pool as pool
use Rattle.semantics.specs.Pool.{LeavesPool}
use Rattle.mesh.specs.declared.view.Commit.{Commit}
use Rattle.mesh.specs.declared.view.Deed.{Deed}
use Rattle.mesh.specs.declared.view.Deed.TheVariants.{Committed, SawLive, Stopped, SawStop}
use Rattle.mesh.specs.declared.view.Part.{Part}
use Rattle.mesh.specs.declared.view.View.{View}
use Rattle.mesh.specs.Deeds.{posting, taking, commit, commits_of, commits_in, commits_by, if_by, created, made_in, wins, wins_in, says, Says}
use Rattle.mesh.specs.Rule.{Preserved, Past, Stops, Leaves, Sits, gather, total, held_by, created_by, wins_by, noted, after_commit, with_seen, with_part}
use Rattle.mesh.specs.Deeds.{Busy, entry}
use Rattle.mesh.specs.Plays.{committed, saw_live, tried_stop, saw_stop}
use Rattle.mesh.proofs.Deeds.{posted_same, taken_same, commits_same, commits_more, created_more, wins_more, says_more, by_more}
use Rattle.mesh.proofs.Frame.{put, put_here, put_else, seats_step, outs, ins, box_stays}
use Rattle.mesh.proofs.Pools.{Quiet, quiet_deed, stops_stay, put_field, gather_ext, gather_at, gather_put, total_ext, total_at, total_most}
use Rattle.mesh.proofs.BoxSteps.{prefix_self, spared}

abbrev Ts : Type 0
Ts = List Token

-- a history with one commit more
leaves_more : (n : ℕ) (first : Ts) (history : List pool.Commit) (last rest : Ts) (c : pool.Commit) → LeavesPool n first history last
    → IsPermutation last (c.spent ++ rest)
    → All (λ (t : Token). element_of n t.to ≡ c.element) c.spent → LeavesPool n first (history ++ c ∷ []) (c.made ++ rest)
leaves_more n first [] last rest c legal perm to = (rest, IsPermutation-trans first last (c.spent ++ rest) legal perm, to, IsPermutation-refl (c.made ++ rest))
leaves_more n first (d ∷ later) last rest c legal perm to = (legal.0, legal.1, legal.2, leaves_more n (d.made ++ legal.0) later last rest c legal.3 perm to)

says_zero : (word : ℕ) (d : Deed) → says 0 d → says word d
says_zero word (Stopped r f) s = (s.0, (λ z. absurd (s.0 (sym (s.1 z)))), λ nz. absurd (nz (sym (s.2 nz))))
says_zero word (SawStop f) s = λ nz. absurd (nz (sym (s nz)))
says_zero word (Committed a b) s = tt
says_zero word (Deed.Posted a b) s = tt
says_zero word (Deed.FoundFull a b) s = tt
says_zero word (Deed.Took a b) s = tt
says_zero word (Deed.FoundEmpty a) s = tt
says_zero word (SawLive a) s = tt

says_all_zero : (word : ℕ) (ds : List Deed) → Says 0 ds → Says word ds
says_all_zero word [] s = tt
says_all_zero word (d ∷ ds) s = (says_zero word d s.0, says_all_zero word ds s.1)

module _ (n : ℕ) (start : Ts) (part : ℕ → Part) (load : ℕ → Ts) (log : List Commit) (live : ℕ) (e : ℕ) (le : e < n) where
  -- a step that commits nothing and moves no token
  pub past_quiet : (live' : ℕ) (p' : Part) → live' ≡ live → ((k : ℕ) → commits_of k p'.deeds ≡ commits_of k (part e).deeds) → created p'.deeds
      ≡ created (part e).deeds → p'.held ≡ (part e).held → Past n start part load log live → Past n start (put part e p') load log live'
  past_quiet live' p' same by made kept old = record {
    pool = old.pool;
    legal = old.legal;
    size = same ∙ old.size;
    shares = subst (λ (z : Ts). IsPermutation old.pool (z ++ gather 256 load))
        (sym (gather_ext n (held_by (put part e p')) (held_by part) (λ j _. held j))) old.shares;
    own = λ x lx. dite (ℕ_discrete x e) (λ hit. old.own x lx ∙ (ap (λ (z : ℕ). commits_of z (part z).deeds) hit
        ∙ (sym (by e) ∙ (ap (λ (q : Part). commits_of e q.deeds) (sym (put_here part e p')) ∙ ap (λ (z : ℕ). commits_of z (put part e p' z).deeds) (sym hit)))))
        (λ miss. old.own x lx ∙ ap (λ (q : Part). commits_of x q.deeds) (sym (put_else part e p' x miss)));
    others = old.others;
    bound = subst (λ (z : ℕ). length old.pool ≤ length start + z) (sym (total_ext n (created_by (put part e p')) (created_by part) (λ j _. here j))) old.bound;
    each = λ x lx. subst (λ (z : ℕ). z ≤ 2 ^ 40) (sym (here x)) (old.each x lx);
    brief = old.brief;
    busy = old.busy;
  }
    where
      here : (j : ℕ) → created_by (put part e p') j ≡ created_by part j
      here j = dite (ℕ_discrete j e) (λ hit. ap (created_by (put part e p')) hit ∙ (ap (λ (q : Part). created q.deeds) (put_here part e p')
          ∙ (made ∙ ap (created_by part) (sym hit))))
          (λ miss. ap (λ (q : Part). created q.deeds) (put_else part e p' j miss))

      held : (j : ℕ) → held_by (put part e p') j ≡ held_by part j
      held j = dite (ℕ_discrete j e) (λ hit. ap (held_by (put part e p')) hit ∙ (ap (λ (q : Part). q.held) (put_here part e p')
          ∙ (kept ∙ ap (held_by part) (sym hit))))
          (λ miss. ap (λ (q : Part). q.held) (put_else part e p' j miss))

  -- what an element holds is no more than the pool
  pub holds_some : Past n start part load log live → length (part e).held ≤ live
  holds_some old =
      let H0 : Ts = gather n (put (held_by part) e []) in let L : Ts = gather 256 load in
      let a : length (gather n (held_by part) ++ L) ≡ length old.pool = length_permutation old.pool (gather n (held_by part) ++ L) old.shares in
      let b : length ((part e).held ++ H0) ≡ length (gather n (held_by part)) = length_permutation (gather n (held_by part)) ((part e).held ++ H0)
      (gather_at n (held_by part) e le) in
      let c = length-append (part e).held H0 in let d = length-append (gather n (held_by part)) L in let size = old.size in omega arith

  -- the tokens of the pool that are not spent
  abbrev left_over : Ts → Ts
  left_over kept = (kept ++ gather n (put (held_by part) e [])) ++ gather 256 load

  abbrev after : List Commit → Ts → Ts → Ts → Part
  after h spent made kept = record (after_commit (part e) spent made kept) { last = h }

  pub past_takes : (spent kept : Ts) → IsPermutation (part e).held (spent ++ kept) → (old : Past n start part load log live)
      → IsPermutation old.pool (spent ++ left_over kept)
  past_takes spent kept perm old =
      let H0 : Ts = gather n (put (held_by part) e []) in let L : Ts = gather 256 load in
      let a : IsPermutation (gather n (held_by part)) ((spent ++ kept) ++ H0) = IsPermutation-trans (gather n (held_by part)) ((part e).held ++ H0)
      ((spent ++ kept) ++ H0) (gather_at n (held_by part) e le) (IsPermutation-append_left H0 (part e).held (spent ++ kept) perm) in
      let b : IsPermutation (gather n (held_by part) ++ L) (((spent ++ kept) ++ H0) ++ L) = IsPermutation-append_left L (gather n (held_by part))
      ((spent ++ kept) ++ H0) a in
      let same : ((spent ++ kept) ++ H0) ++ L ≡ spent ++ left_over kept = ap (λ (z : Ts). z ++ L) (append_assoc spent kept H0)
      ∙ append_assoc spent (kept ++ H0) L in
      subst (λ (z : Ts). IsPermutation old.pool z) same (IsPermutation-trans old.pool (gather n (held_by part) ++ L) (((spent ++ kept) ++ H0) ++ L)
      old.shares b)

  pub past_commits : (live' : ℕ) (h : List Commit) (spent made kept : Ts) → 0 < length spent → All (λ (t : Token). element_of n t.to ≡ e) spent
      → created (part e).deeds + length made ≤ 2 ^ 40 → (part e).element ≡ e
      → IsPermutation (part e).held (spent ++ kept) → live' + length spent ≡ live + length made → (old : Past n start part load log live)
      → Past n start (put part e (after h spent made kept)) load (log ++ commit e spent made ∷ []) live'
  past_commits live' h spent made kept any to small named perm moved old =
      let H0 : Ts = gather n (put (held_by part) e []) in let L : Ts = gather 256 load in let rest : Ts = left_over kept in
      let takes : IsPermutation old.pool (spent ++ rest) = past_takes spent kept perm old in
      let count : length (spent ++ rest) ≡ length old.pool = length_permutation old.pool (spent ++ rest) takes in
      let split : length (spent ++ rest) ≡ length spent + length rest = length-append spent rest in
      let split' : length (made ++ rest) ≡ length made + length rest = length-append made rest in
      let size = old.size in
      let at_e : total n (created_by (put part e (after h spent made kept))) + created (part e).deeds
      ≡ total n (created_by part) + created (after h spent made kept).deeds =
      ap (λ (z : ℕ). z + created (part e).deeds) (total_ext n (created_by (put part e (after h spent made kept)))
      (put (created_by part) e (created (after h spent made kept).deeds)) (λ j _. put_field (λ (q : Part). created q.deeds) part e
      (after h spent made kept) j))
      ∙ total_at n (created_by part) e (created (after h spent made kept).deeds) le in
      let more : created (after h spent made kept).deeds ≡ created (part e).deeds + length made = created_more (part e).deeds (Committed spent made) in
      let bound = old.bound in
      record {
        pool = made ++ rest;
        legal = subst (λ (h : List pool.Commit). LeavesPool n start h (made ++ rest)) (sym (map-append entry log (commit e spent made ∷ [])))
            (leaves_more n start (map entry log) old.pool rest (entry (commit e spent made)) old.legal takes to);
        size = omega arith;
        shares =
            let g : IsPermutation (gather n (put (held_by part) e (made ++ kept))) ((made ++ kept) ++ H0) = gather_put n (held_by part) e (made ++ kept) le in
            let f : gather n (held_by (put part e (after h spent made kept))) ≡ gather n (put (held_by part) e (made ++ kept)) = gather_ext n
            (held_by (put part e (after h spent made kept))) (put (held_by part) e (made ++ kept))
            (λ j _. put_field (λ (q : Part). q.held) part e (after h spent made kept) j) in
            let same : ((made ++ kept) ++ H0) ++ L ≡ made ++ rest = ap (λ (z : Ts). z ++ L) (append_assoc made kept H0) ∙ append_assoc made (kept ++ H0) L in
            IsPermutation-sym _ _ (subst (λ (z : Ts × Ts). IsPermutation (z.0 ++ L) z.1) (λ i. (sym f i, same i))
            (IsPermutation-append_left L (gather n (put (held_by part) e (made ++ kept))) ((made ++ kept) ++ H0) g));
        own = λ x lx. dite (ℕ_discrete x e)
            (λ hit. subst (λ (z : ℕ). commits_by z (log ++ commit e spent made ∷ []) ≡ commits_of z (put part e (after h spent made kept) z).deeds) (sym hit)
            (by_more e log (commit e spent made) ∙ (ap (λ (z : List Commit). z ++ if_by e (commit e spent made)) (old.own e le)
            ∙ (ap (λ (z : List Commit). commits_of e (part e).deeds ++ z) mine
            ∙ (sym (commits_more e (part e).deeds (Committed spent made)) ∙ ap (λ (q : Part). commits_of e q.deeds)
            (sym (put_here part e (after h spent made kept))))))))
            (λ miss. not_by x miss ∙ (old.own x lx ∙ ap (λ (q : Part). commits_of x q.deeds) (sym (put_else part e (after h spent made kept) x miss))));
        others = λ x out. not_by x (λ hit. absurd (omega arith)) ∙ old.others x out;
        bound = omega arith;
        each = λ x lx. dite (ℕ_discrete x e) (λ hit. subst (λ (z : ℕ). created (put part e (after h spent made kept) z).deeds ≤ 2 ^ 40) (sym hit)
            (subst (λ (q : Part). created q.deeds ≤ 2 ^ 40) (sym (put_here part e (after h spent made kept))) (omega arith)))
            (λ miss. subst (λ (q : Part). created q.deeds ≤ 2 ^ 40) (sym (put_else part e (after h spent made kept) x miss)) (old.each x lx));
        brief = old.brief;
        busy = λ j c at. ⊎_elim (λ here. old.busy j c here) (λ is. subst (λ (z : Commit). 0 < length z.spent) is any)
            (at_snoc log (commit e spent made) c j at);
      }
    where
      mine : if_by e (commit e spent made) ≡ commit e spent made ∷ []
      mine = rw (eq-eqb e e refl)

      not_by : (x : ℕ) → x ≢ e → commits_by x (log ++ commit e spent made ∷ []) ≡ commits_by x log
      not_by x miss = by_more x log (commit e spent made) ∙ (ap (λ (z : List Commit). commits_by x log ++ z) (none_by x miss) ∙ append-nil (commits_by x log))
        where
          none_by : (x : ℕ) → x ≢ e → if_by x (commit e spent made) ≡ []
          none_by x miss = rw (ne_eqb e x (λ z. miss (sym z)))

module _ {B : Type 0} (items : B → Ts) (n : ℕ) (start : Ts) where
  -- a step on the live word or the stop word
  pub word_step : (s : State (Option B) View) (r : Preserved items n start s) (id i x : ℕ) (v : View) (p p' : Part) (seen log' : List Commit)
      → get_elem? s.views id ≡ some v → v.parts ≡ p ∷ [] → n ≤ v.spare → 256 ≤ i
      → p'.element ≡ p.element → ((c : ℕ) → outs c p' ≡ outs c p) → ((c : ℕ) → ins c p' ≡ ins c p) → IsPrefix seen log' → commits_by p.element seen
      ≡ commits_by p.element log' → IsPrefix r.log log'
      → ((y : ℕ) → y ≢ p.element → commits_by y log' ≡ commits_by y r.log) → IsPrefix p'.last log'
      → Past n start (put r.part p.element p') r.load log' (get_or (set s.words i x) 256 0) → Stops n (put r.part p.element p') (get_or (set s.words i x) 257 0)
      → Preserved items n start record { words = set s.words i x; homes = s.homes; views = set s.views id (record v { parts = p' ∷ []; seen = seen }) }
  word_step s r id i x v p p' seen log' at one out far same os is pre all_mine grows others last past stops =
      let e : ℕ = p.element in
      let mine = (r.seats id v at).parts 0 p (ap (λ ps. get_elem? ps 0) one) in
      let few : n ≤ 16 = r.few in record {
        part = put r.part e p';
        owner = r.owner;
        load = r.load;
        log = log';
        few = r.few;
        wide = length-set s.words i x ∙ r.wide;
        deep = r.deep;
        named = λ y l. dite (ℕ_discrete y e) (λ hit. ap (λ (z : ℕ). (put r.part e p' z).element) hit
            ∙ (ap (λ (q : Part). q.element) (put_here r.part e p') ∙ (same ∙ sym hit)))
            (λ miss. ap (λ (q : Part). q.element) (put_else r.part e p' y miss) ∙ r.named y l);
        seats = seats_step n start r.part r.owner r.log log' s.views id p p' v seen at r.seats one out same pre all_mine grows others last;
        addressed = r.addressed;
        past = past;
        stops = stops;
        boxes = λ a b la lb. box_stays items n s.words (set s.words i x) s.homes s.homes r.load r.load r.part e p' a b
            (get_or-set_other s.words i (16 * a + b) x 0 (λ h. absurd (omega arith))) refl refl
            (λ _. os b ∙ ap (outs b) (sym mine.2)) (λ _. is a ∙ ap (ins a) (sym mine.2)) (r.boxes a b la lb);
      }

  told : (v : View) (p q : Part) → v.parts ≡ p ∷ [] → v.parts ≡ q ∷ [] → p ≡ q
  told v p q one two = cc (one, two)

  -- the history that was seen, as the view has it
  leaves : (v w : View) (log : List Commit) (last : Ts) (count : ℕ) → w.elements ≡ n → w.start ≡ start → w.seen ≡ log
      → LeavesPool n start (map entry log) last → length last ≡ count → Busy log → Leaves w count
  leaves v w log last count el st is legal size busy = (
    last,
    subst (λ (z : ℕ × Ts × List Commit). LeavesPool z.0 z.1 (map entry z.2) last) (λ i. (sym el i, sym st i, sym is i)) legal,
    size,
    subst Busy (sym is) busy,
  )

  -- a step on the stop word leaves the past
  past_stop : (s : State (Option B) View) (r : Preserved items n start s) (e : ℕ) → e < n → (p' : Part) (d : Deed) (x : ℕ)
      → ((k : ℕ) → commits_in k d ≡ []) → made_in d ≡ 0 → p'.held ≡ (r.part e).held → p'.deeds ≡ (r.part e).deeds ++ d ∷ []
      → Past n start (put r.part e p') r.load r.log (get_or (set s.words 257 x) 256 0)
  past_stop s r e le p' d x no_commit no_made kept is =
      past_quiet n start r.part r.load r.log (get_or s.words 256 0) e le (get_or (set s.words 257 x) 256 0) p'
      (get_or-set_other s.words 257 256 x 0 (λ h. absurd (omega arith)))
      (λ k. ap (commits_of k) is ∙ commits_same k (r.part e).deeds d (no_commit k)) (ap created is
      ∙ (let m = created_more (r.part e).deeds d in omega arith)) kept r.past

  -- the stop word with one deed more
  stops_more : (part : ℕ → Part) (e : ℕ) → e < n → (p' : Part) (d : Deed) (word word' : ℕ) → word' ≡ word → p'.deeds ≡ (part e).deeds ++ d ∷ []
      → total n (wins_by part) + wins_in d ≡ (if word == 0 then 0 else 1)
      → ((y : ℕ) → y < n → Says word (part y).deeds) → says word d → Stops n (put part e p') word'
  stops_more part e le p' d word word' same is once known this = record {
    once =
        let at_e : total n (wins_by (put part e p')) + wins (part e).deeds ≡ total n (wins_by part) + wins p'.deeds =
        ap (λ (z : ℕ). z + wins (part e).deeds) (total_ext n (wins_by (put part e p')) (put (wins_by part) e (wins p'.deeds))
        (λ j _. put_field (λ (q : Part). wins q.deeds) part e p' j)) ∙ total_at n (wins_by part) e (wins p'.deeds) le in
        let more : wins p'.deeds ≡ wins (part e).deeds + wins_in d = ap wins is ∙ wins_more (part e).deeds d in
        let t : total n (wins_by (put part e p')) ≡ total n (wins_by part) + wins_in d = omega arith in
        t ∙ (once ∙ ap (λ (w : ℕ). if w == 0 then 0 else 1) (sym same));
    known = λ x lx. subst (λ (w : ℕ). Says w (put part e p' x).deeds) (sym same) (dite (ℕ_discrete x e)
        (λ hit. subst (λ (ds : List Deed). Says word ds)
        (sym (ap (λ (z : ℕ). (put part e p' z).deeds) hit ∙ (ap (λ (q : Part). q.deeds) (put_here part e p') ∙ is)))
        (says_more word (part e).deeds d (subst (λ (z : ℕ). Says word (part z).deeds) hit (known x lx)) this))
        (λ miss. subst (λ (q : Part). Says word q.deeds) (sym (put_else part e p' x miss)) (known x lx)));
  }

  module _ (slots id : ℕ) (v : View) (c : List (ℕ × Option B)) (p : Part) (one : v.parts ≡ p ∷ []) (sits : Sits v) where
    pub commits : (st : Step (Option B)) (spent made kept : Ts) (f : ℕ → ℕ) → 0 < length spent → All (λ (t : Token). element_of v.elements t.to
        ≡ p.element) spent → created p.deeds + length made ≤ 2 ^ 40 → IsPermutation p.held (spent ++ kept)
        → ((x : ℕ) → length spent ≤ x → x + length made < 2 ^ 64 → f x + length spent ≡ x + length made) → Allows (Preserved items n start) slots id
        (v, c) 256 f (committed spent made st (v, c))
    commits st spent made kept f any to small perm adds s r _ at below =
        let e : ℕ = p.element in let x : ℕ = get_or s.words 256 0 in
        let ok = r.seats id v at in let mine = ok.parts 0 p (ap (λ ps. get_elem? ps 0) one) in let le : e < n = mine.0 in let about = ok.about sits.0 in
        let out = spared n start r.part r.owner r.log id v sits ok in
        let few : n ≤ 16 = r.few in let wide : length s.words ≡ 258 = r.wide in
        let p0 : Part = after_commit p spent made kept in let d : Commit = commit e spent made in
        let pre = ok.seen in let seen : List Commit = (v.seen ++ pre.0) ++ d ∷ [] in let p' : Part = record p0 { last = seen }
        in let log' : List Commit = r.log ++ d ∷ [] in
        let is_seen : seen ≡ log' = ap (λ (z : List Commit). z ++ d ∷ []) pre.1 in
        let old = r.past in
        let perm' : IsPermutation (r.part e).held (spent ++ kept) = subst (λ (q : Part). IsPermutation q.held (spent ++ kept)) (sym mine.2) perm in
        let to' : All (λ (t : Token). element_of n t.to ≡ e) spent = subst (λ (z : ℕ). All (λ (t : Token). element_of z t.to ≡ e) spent) about.0 to in
        let takes = past_takes n start r.part r.load r.log x e le spent kept perm' old in
        let rest : Ts = left_over n start r.part r.load r.log x e le kept in
        let count : length (spent ++ rest) ≡ length old.pool = length_permutation old.pool (spent ++ rest) takes in
        let split : length (spent ++ rest) ≡ length spent + length rest = length-append spent rest in
        let size = old.size in let bound = old.bound in let brief = old.brief in
        let most : total n (created_by r.part) ≤ n * 2 ^ 40 = total_most n (created_by r.part) (2 ^ 40) old.each in
        let most' : n * 1099511627776 ≤ 16 * 1099511627776 = omega arith in
        let moved : f x + length spent ≡ x + length made = adds x (omega arith) (omega arith) in
        let here : get_or (set s.words 256 (f x)) 256 0 ≡ f x = get_or-set_same s.words 256 (f x) 0 (omega arith) in
        let there : get_or (set s.words 256 (f x)) 257 0 ≡ get_or s.words 257 0 = get_or-set_other s.words 256 257 (f x) 0 (λ h. absurd (omega arith)) in
        let part_is : record (after_commit (r.part e) spent made kept) { last = seen }
        ≡ p' = ap (λ (q : Part). let z : Part = record (after_commit q spent made kept) { last = seen } in z) mine.2 in
        let past' : Past n start (put r.part e p') r.load log' (f x) = subst (λ (q : Part). Past n start (put r.part e q) r.load log' (f x)) part_is
        (past_commits n start r.part r.load r.log x e le (f x) seen spent made kept any to'
        (subst (λ (q : Part). created q.deeds + length made ≤ 2 ^ 40) (sym mine.2) small) (ap (λ (q : Part). q.element) mine.2) perm' moved old) in
        let others : (y : ℕ) → y ≢ e → commits_by y log' ≡ commits_by y r.log = λ y miss. by_more y r.log d
        ∙ (ap (λ (z : List Commit). commits_by y r.log ++ z) (none_by y e spent made miss) ∙ append-nil (commits_by y r.log)) in (
          with_seen v p' seen,
          keeps,
          tt,
          word_step s r id 256 (f x) v p p' seen log' at one out (omega arith) refl
              (λ k i. (posted_same k p.deeds (Committed spent made) refl i, posting k p.stage))
              (λ k i. (taken_same k p.deeds (Committed spent made) refl i, taking k p.stage))
              ([], append-nil seen ∙ is_seen) (ap (commits_by e) is_seen) (d ∷ [], refl) others ([], append-nil seen ∙ is_seen)
              (subst (λ (z : ℕ). Past n start (put r.part e p') r.load log' z) (sym here) past')
              (stops_commit r.part e p' spent made (get_or s.words 257 0) _ there (ap (λ (q : Part). q.deeds ++ Committed spent made ∷ [])
              (sym mine.2)) r.stops),
          λ q two. let same : p ≡ q = told v p q one two in
              subst (λ (z : Part). (kept' : List Token) × (between : List Commit) × IsPermutation z.held (spent ++ kept')
              × ◌≡◌ {A = Me (Option B) View} (with_seen v p' seen, c) (
                with_seen v (after_commit z spent made kept') ((v.seen ++ between)
                    ++ commit z.element spent made ∷ []),
                c,
              )
              × ((count : ℕ) × (count + length spent ≡ x + length made) × Leaves (with_seen v p' seen) count)) same (
                kept,
                pre.0,
                perm,
                refl,
                (
                  f x,
                  moved,
                  leaves v (with_seen v p' seen) log' past'.pool (f x) about.0 about.1 is_seen past'.legal
                      (sym past'.size) past'.busy,
                ),
              ),
        )
      where
        none_by : (y e : ℕ) (spent made : Ts) → y ≢ e → if_by y (commit e spent made) ≡ []
        none_by y e spent made miss = rw (ne_eqb e y (λ h. miss (sym h)))

        stops_commit : (part : ℕ → Part) (e : ℕ) (p' : Part) (spent made : Ts) (word word' : ℕ) → word' ≡ word → p'.deeds ≡ (part e).deeds
            ++ Committed spent made ∷ [] → Stops n part word → Stops n (put part e p') word'
        stops_commit part e p' spent made word word' same is old = record {
          once = total_ext n (wins_by (put part e p')) (wins_by part) (λ j _. here j) ∙ (old.once ∙ ap (λ (w : ℕ). if w == 0 then 0 else 1) (sym same));
          known = λ x lx. subst (λ (w : ℕ). Says w (put part e p' x).deeds) (sym same) (dite (ℕ_discrete x e)
              (λ hit. subst (λ (ds : List Deed). Says word ds)
              (sym (ap (λ (z : ℕ). (put part e p' z).deeds) hit ∙ (ap (λ (q : Part). q.deeds) (put_here part e p') ∙ is)))
              (says_more word (part e).deeds (Committed spent made) (subst (λ (z : ℕ). Says word (part z).deeds) hit (old.known x lx)) tt))
              (λ miss. subst (λ (q : Part). Says word q.deeds) (sym (put_else part e p' x miss)) (old.known x lx)));
        }
          where
            here : (j : ℕ) → wins_by (put part e p') j ≡ wins_by part j
            here j = dite (ℕ_discrete j e) (λ hit. ap (wins_by (put part e p')) hit ∙ (ap (λ (q : Part). wins q.deeds) (put_here part e p')
                ∙ (ap wins is ∙ ((let m = wins_more (part e).deeds (Committed spent made) in let eq : wins ((part e).deeds ++ Committed spent made
                ∷ []) ≡ wins (part e).deeds = omega arith in eq) ∙ ap (wins_by part) (sym hit)))))
                (λ miss. ap (λ (q : Part). wins q.deeds) (put_else part e p' j miss))

    pub looks_live : (st : Step (Option B)) → Allows (Preserved items n start) slots id (v, c) 256 (λ x. x) (saw_live st (v, c))
    looks_live st s r _ at below =
        let e : ℕ = p.element in let x : ℕ = get_or s.words 256 0 in
        let ok = r.seats id v at in let mine = ok.parts 0 p (ap (λ ps. get_elem? ps 0) one) in let le : e < n = mine.0 in let about = ok.about sits.0 in
        let out = spared n start r.part r.owner r.log id v sits ok in let wide : length s.words ≡ 258 = r.wide in
        let pre = ok.seen in let seen : List Commit = v.seen ++ pre.0 in let p' : Part = record (noted p (SawLive x)) { last = seen } in let old = r.past in
        let quiet : Quiet (r.part e) p' = subst (λ (q : Part). Quiet q p') (sym mine.2) (quiet_deed p p' (SawLive x) refl refl (λ _. refl) refl refl
        (λ _. tt)) in (
          with_seen v p' seen,
          keeps,
          tt,
          word_step s r id 256 x v p p' seen r.log at one out (omega arith) refl
              (λ k i. (posted_same k p.deeds (SawLive x) refl i, posting k p.stage)) (λ k i. (taken_same k p.deeds (SawLive x) refl i, taking k p.stage))
              ([], append-nil seen ∙ pre.1) (ap (commits_by e) pre.1) (prefix_self r.log) (λ _ _. refl) ([], append-nil seen ∙ pre.1)
              (past_quiet n start r.part r.load r.log x e le (get_or (set s.words 256 x) 256 0) p' (get_or-set_same s.words 256 x 0 (omega arith))
              quiet.commits quiet.created (ap (λ (q : Part). q.held) (sym mine.2)) old)
              (stops_stay n r.part (get_or s.words 257 0) (get_or (set s.words 256 x) 257 0) e p'
              (get_or-set_other s.words 256 257 x 0 (λ h. absurd (omega arith))) quiet r.stops),
          λ q two. let same : p ≡ q = told v p q one two in
              subst (λ (z : Part). (between : List Commit) × ◌≡◌ {A = Me (Option B) View} (with_seen v p' seen, c)
              (with_seen v (noted z (SawLive x)) (v.seen ++ between), c) × Leaves (with_seen v p' seen) x × (length z.held ≤ x)) same (
                pre.0,
                refl,
                leaves v (with_seen v p' seen) r.log old.pool x about.0 about.1 pre.1 old.legal (sym old.size) old.busy,
                subst
                    (λ (z : Part). length z.held ≤ x) mine.2 (holds_some n start r.part r.load r.log x e le old),
              ),
        )

    pub looks_stop : (st : Step (Option B)) → Allows (Preserved items n start) slots id (v, c) 257 (λ x. x) (saw_stop st (v, c))
    looks_stop st s r _ at below =
        let e : ℕ = p.element in let x : ℕ = get_or s.words 257 0 in
        let ok = r.seats id v at in let mine = ok.parts 0 p (ap (λ ps. get_elem? ps 0) one) in let le : e < n = mine.0 in
        let out = spared n start r.part r.owner r.log id v sits ok in let wide : length s.words ≡ 258 = r.wide in
        let p' : Part = noted p (SawStop x) in let old = r.past in
        let known : Says x p.deeds = subst (λ (q : Part). Says x q.deeds) mine.2 (r.stops.known e le) in (
          with_part v p',
          keeps,
          tt,
          word_step s r id 257 x v p p' v.seen r.log at one out (omega arith) refl
              (λ k i. (posted_same k p.deeds (SawStop x) refl i, posting k p.stage)) (λ k i. (taken_same k p.deeds (SawStop x) refl i, taking k p.stage))
              ok.seen (ok.whole 0 p (ap (λ ps. get_elem? ps 0) one)) (prefix_self r.log) (λ _ _. refl) (ok.lasts 0 p (ap (λ ps. get_elem? ps 0) one))
              (past_stop s r e le p' (SawStop x) x (λ _. refl) refl (ap (λ (q : Part). q.held) (sym mine.2))
              (ap (λ (q : Part). q.deeds ++ SawStop x ∷ []) (sym mine.2)))
              (stops_more r.part e le p' (SawStop x) x (get_or (set s.words 257 x) 257 0) (get_or-set_same s.words 257 x 0 (omega arith))
              (ap (λ (q : Part). q.deeds ++ SawStop x ∷ []) (sym mine.2))
              (let o : total n (wins_by r.part) ≡ (if x == 0 then 0 else 1) = r.stops.once in omega arith) r.stops.known (λ _. refl)),
          λ q two. let same : p ≡ q = told v p q one two in
              subst (λ (z : Part). ◌≡◌ {A = Me (Option B) View} (with_part v p', c) (with_part v (noted z (SawStop x)), c)
              × Says x (z.deeds ++ SawStop x ∷ [])) same (refl, says_more x p.deeds (SawStop x) known (λ _. refl)),
        )

    pub tries_stop : (reason : ℕ) → reason ≢ 0 → Allows (Preserved items n start) slots id (v, c) 257 (λ x. either (x == 0) reason x)
        (tried_stop (step slots 257 0 reason none) (v, c))
    tries_stop reason nonzero s r _ at below =
        let e : ℕ = p.element in let x : ℕ = get_or s.words 257 0 in
        let ok = r.seats id v at in let mine = ok.parts 0 p (ap (λ ps. get_elem? ps 0) one) in let le : e < n = mine.0 in
        let out = spared n start r.part r.owner r.log id v sits ok in let wide : length s.words ≡ 258 = r.wide in
        let d : Deed = Stopped reason x in let p' : Part = noted p d in
        let goes : (y : ℕ) → y ≢ 0 → total n (wins_by r.part) + wins_in d ≡ (if y == 0 then 0 else 1) → ((k : ℕ) → k < n → Says y (r.part k).deeds) → says y d
        → (w : View) × (a : Act (Option B)) × Valid s.homes c a × Preserved items n start (stepped s 257 y id c w a)
        × tried_stop (step slots 257 0 reason none) (v, c) x (w, carried_after c a)
        = λ y ny once known this. (
          with_part v p',
          keeps,
          tt,
          word_step s r id 257 y v p p' v.seen r.log at one out (omega arith) refl (λ k i. (posted_same k p.deeds d refl i, posting k p.stage))
              (λ k i. (taken_same k p.deeds d refl i, taking k p.stage))
              ok.seen (ok.whole 0 p (ap (λ ps. get_elem? ps 0) one)) (prefix_self r.log) (λ _ _. refl) (ok.lasts 0 p (ap (λ ps. get_elem? ps 0) one))
              (past_stop s r e le p' d y (λ _. refl) refl (ap (λ (q : Part). q.held) (sym mine.2)) (ap (λ (q : Part). q.deeds ++ d ∷ []) (sym mine.2)))
              (stops_more r.part e le p' d y (get_or (set s.words 257 y) 257 0) (get_or-set_same s.words 257 y 0 (omega arith))
              (ap (λ (q : Part). q.deeds ++ d ∷ []) (sym mine.2)) once known this),
          λ q two. let same : p ≡ q = told v p q one two in
              subst (λ (z : Part). ◌≡◌ {A = Me (Option B) View} (with_part v p', c) (with_part v (noted z d), c)
              × ((word : ℕ) × (word ≢ 0) × Says word (z.deeds ++ d ∷ []))) same
              (refl, (y, ny, says_more y p.deeds d (subst (λ (z : Part). Says y z.deeds) mine.2 (known e le)) this)),
        ) in
        dite (ℕ_discrete x 0)
        (λ hit. subst (λ (b : Bool). (w : View) × (a : Act (Option B)) × Valid s.homes c a
        × Preserved items n start (stepped s 257 (either b reason x) id c w a) × tried_stop (step slots 257 0 reason none) (v, c) x
        (w, carried_after c a)) (sym (eq-eqb x 0 hit))
        (goes reason nonzero (let o : total n (wins_by r.part) ≡ (if x == 0 then 0 else 1) = r.stops.once in
        let o' : total n (wins_by r.part) ≡ 0 = o ∙ rw (eq-eqb x 0 hit) in let w' : wins_in d ≡ 1 = rw (eq-eqb x 0 hit)
        in let both : total n (wins_by r.part) + wins_in d ≡ 1 = omega arith in both ∙ sym (rw (ne_eqb reason 0 nonzero)))
        (λ k lk. says_all_zero reason (r.part k).deeds (subst (λ (z : ℕ). Says z (r.part k).deeds) hit (r.stops.known k lk)))
        (nonzero, (λ _. refl), λ nz. absurd (nz hit))))
        (λ miss. subst (λ (b : Bool). (w : View) × (a : Act (Option B)) × Valid s.homes c a
        × Preserved items n start (stepped s 257 (either b reason x) id c w a) × tried_stop (step slots 257 0 reason none) (v, c) x
        (w, carried_after c a)) (sym (ne_eqb x 0 miss))
        (goes x miss (let o : total n (wins_by r.part) ≡ (if x == 0 then 0 else 1) = r.stops.once in let w' : wins_in d ≡ 0 = rw (ne_eqb x 0 miss)
        in let both : total n (wins_by r.part) + wins_in d ≡ total n (wins_by r.part) = omega arith in both ∙ o) r.stops.known
        (nonzero, (λ z. absurd (miss z)), λ _. refl)))
