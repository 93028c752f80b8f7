-- One more deed.
use Rattle.std.proofs.Common.{◌≡◌, ◌≢◌, ℕ, Bool, true, false, List, [], ◌∷◌, ◌++◌, refl, ap, sym, append_assoc, eq-eqb, ne_eqb, ◌+◌, ◌∙◌, arith}
use Rattle.std.proofs.Common.{◌||◌, IsTrue, ◌⊎◌, inl, inr, ⊎_elim}
use mathlib.Core.Logic.{dite}
use native.Mathlib.Decide.{ℕ_discrete}
use Rattle.std.proofs.lemmas.List.{append-nil}
use Rattle.mesh.specs.declared.view.Deed.{Deed}
use Rattle.mesh.specs.declared.view.Deed.TheVariants.{Posted, Took, Stopped, SawStop}
use Rattle.mesh.specs.Deeds.{Bundle, posts, posted, takes_from, taken, commits_in, commits_of, commits_by, if_by, created, made_in, wins, wins_in}
use Rattle.mesh.specs.Deeds.{says, Says, gives_reason, knows_reason}
use Rattle.mesh.specs.declared.view.Commit.{Commit}

pub posted_more : (b : ℕ) (ds : List Deed) (d : Deed) → posted b (ds ++ d ∷ []) ≡ posted b ds ++ posts b d
posted_more b [] d = append-nil (posts b d)
posted_more b (x ∷ ds) d = ap (λ zs. posts b x ++ zs) (posted_more b ds d) ∙ sym (append_assoc (posts b x) (posted b ds) (posts b d))

pub taken_more : (a : ℕ) (ds : List Deed) (d : Deed) → taken a (ds ++ d ∷ []) ≡ taken a ds ++ takes_from a d
taken_more a [] d = append-nil (takes_from a d)
taken_more a (x ∷ ds) d = ap (λ zs. takes_from a x ++ zs) (taken_more a ds d) ∙ sym (append_assoc (takes_from a x) (taken a ds) (takes_from a d))

-- a deed that posts nothing to b
pub posted_same : (b : ℕ) (ds : List Deed) (d : Deed) → posts b d ≡ [] → posted b (ds ++ d ∷ []) ≡ posted b ds
posted_same b ds d none = posted_more b ds d ∙ (ap (λ zs. posted b ds ++ zs) none ∙ append-nil (posted b ds))

pub taken_same : (a : ℕ) (ds : List Deed) (d : Deed) → takes_from a d ≡ [] → taken a (ds ++ d ∷ []) ≡ taken a ds
taken_same a ds d none = taken_more a ds d ∙ (ap (λ zs. taken a ds ++ zs) none ∙ append-nil (taken a ds))

pub posts_here : (b : ℕ) (x : Bundle) → posts b (Posted b x) ≡ x ∷ []
posts_here b x = rw (eq-eqb b b refl)

pub posts_else : (b c : ℕ) (x : Bundle) → c ≢ b → posts b (Posted c x) ≡ []
posts_else b c x other = rw (ne_eqb c b other)

pub takes_here : (a : ℕ) (x : Bundle) → takes_from a (Took a x) ≡ x ∷ []
takes_here a x = rw (eq-eqb a a refl)

pub takes_else : (a c : ℕ) (x : Bundle) → c ≢ a → takes_from a (Took c x) ≡ []
takes_else a c x other = rw (ne_eqb c a other)

pub commits_more : (e : ℕ) (ds : List Deed) (d : Deed) → commits_of e (ds ++ d ∷ []) ≡ commits_of e ds ++ commits_in e d
commits_more e [] d = append-nil (commits_in e d)
commits_more e (x ∷ ds) d = ap (λ zs. commits_in e x ++ zs) (commits_more e ds d) ∙ sym (append_assoc (commits_in e x) (commits_of e ds) (commits_in e d))

pub commits_same : (e : ℕ) (ds : List Deed) (d : Deed) → commits_in e d ≡ [] → commits_of e (ds ++ d ∷ []) ≡ commits_of e ds
commits_same e ds d none = commits_more e ds d ∙ (ap (λ zs. commits_of e ds ++ zs) none ∙ append-nil (commits_of e ds))

pub by_more : (e : ℕ) (cs : List Commit) (c : Commit) → commits_by e (cs ++ c ∷ []) ≡ commits_by e cs ++ if_by e c
by_more e [] c = append-nil (if_by e c)
by_more e (x ∷ cs) c = ap (λ zs. if_by e x ++ zs) (by_more e cs c) ∙ sym (append_assoc (if_by e x) (commits_by e cs) (if_by e c))

pub by_append : (e : ℕ) (cs ds : List Commit) → commits_by e (cs ++ ds) ≡ commits_by e cs ++ commits_by e ds
by_append e [] ds = refl
by_append e (x ∷ cs) ds = ap (λ zs. if_by e x ++ zs) (by_append e cs ds) ∙ sym (append_assoc (if_by e x) (commits_by e cs) (commits_by e ds))

pub created_more : (ds : List Deed) (d : Deed) → created (ds ++ d ∷ []) ≡ created ds + made_in d
created_more [] d = omega arith
created_more (x ∷ ds) d = let r = created_more ds d in omega arith

pub wins_more : (ds : List Deed) (d : Deed) → wins (ds ++ d ∷ []) ≡ wins ds + wins_in d
wins_more [] d = omega arith
wins_more (x ∷ ds) d = let r = wins_more ds d in omega arith

pub says_more : (word : ℕ) (ds : List Deed) (d : Deed) → Says word ds → says word d → Says word (ds ++ d ∷ [])
says_more word [] d all this = (this, tt)
says_more word (x ∷ ds) d all this = (all.0, says_more word ds d all.1 this)

-- a deed that gives a reason shows a word that is not 0
knows_one : (word : ℕ) (d : Deed) → says word d → gives_reason d ≡ true → word ≢ 0
knows_one word (Stopped r f) s t z = dite (ℕ_discrete f 0) (λ hit. s.0 (sym (s.1 hit) ∙ z)) (λ miss. miss (sym (s.2 miss) ∙ z))
knows_one word (SawStop f) s t z = dite (ℕ_discrete f 0)
    (λ hit. let not_told : gives_reason (SawStop f) ≡ false = rw (eq-eqb f 0 hit) in cc (t, not_told)) (λ miss. miss (sym (s miss) ∙ z))
knows_one word (Deed.Committed a b) s t z = cc (t)
knows_one word (Posted a b) s t z = cc (t)
knows_one word (Deed.FoundFull a b) s t z = cc (t)
knows_one word (Took a b) s t z = cc (t)
knows_one word (Deed.FoundEmpty a) s t z = cc (t)
knows_one word (Deed.SawLive a) s t z = cc (t)

either_true : (a b : Bool) → a || b ≡ true → (a ≡ true) ⊎ (b ≡ true)
either_true true b e = inl refl
either_true false b e = inr e

knows_some : (word : ℕ) (ds : List Deed) → Says word ds → knows_reason ds ≡ true → word ≢ 0
knows_some word [] s t = absurd (cc (t))
knows_some word (d ∷ ds) s t = ⊎_elim (λ here. knows_one word d s.0 here) (λ later. knows_some word ds s.1 later)
    (either_true (gives_reason d) (knows_reason ds) t)

-- what is true of more deeds is true of the first
says_less : (word : ℕ) (ds more : List Deed) → Says word (ds ++ more) → Says word ds
says_less word [] more s = tt
says_less word (d ∷ ds) more s = (s.0, says_less word ds more s.1)

pub never_zero : (word : ℕ) (ds ds' more : List Deed) → ds ≡ ds' → Says word (ds ++ more) → IsTrue (knows_reason ds') → word ≢ 0
never_zero word ds ds' more same s known = knows_some word ds (says_less word ds more s) (ap knows_reason same ∙ known)

-- a deed that makes nothing
pub created_same : (ds es : List Deed) (d : Deed) (n : ℕ) → es ≡ ds ++ d ∷ [] → made_in d ≡ 0 → created ds ≡ n → created es ≡ n
created_same ds es d n is none was = let more = created_more ds d in let same : created es ≡ created (ds ++ d ∷ []) = ap created is in omega arith
