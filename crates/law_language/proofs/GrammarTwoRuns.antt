-- TWO RUNS over the same tokens, wherever they are and however much may be open.
use Rattle.std.proofs.Common.{◌≡◌, ℕ, ◌+◌, ◌<◌, ◌≤◌, List, [], ◌∷◌, ◌++◌, Result, Ok, Err, refl, subst}
use Rattle.std.specs.Prelude.{◌⊎◌}
use Rattle.source.specs.declared.fault.FaultKind.{FaultKind}
use Rattle.source.specs.declared.fault.FaultKind.TheVariants as fault
use Rattle.source.specs.Spelled.{Lexeme}
use Rattle.source.specs.Words.{Words}
use Rattle.law_language.specs.GrammarAutomaton.{Stack, Outcome, Placed, Moved, moved_after, advance_by, advance}
use Rattle.law_language.specs.GrammarReady.{AllReady}
use Rattle.law_language.proofs.GrammarRuns.{moved_by, advance_all, ready_kept}
use Rattle.law_language.proofs.GrammarSound.{said}
use Rattle.law_language.proofs.GrammarAlike.{AlikeStacks, both_empty, on_top, alike_append, Blame, Like, take_alike, pass_alike, refuse_alike, both_too_deep}
use Rattle.law_language.proofs.GrammarAlike.{one_too_deep}
use Rattle.law_language.proofs.GrammarAlike.{like_step}

-- TWO RUNS
pub data LikeMoved (limit most : ℕ) (l : Lexeme) : Result Moved FaultKind → Result Moved FaultKind → Type 0 where
  ok_alike : {m n : Moved} → AlikeStacks m.stack n.stack → LikeMoved limit most l (Ok m) (Ok n)
  err_alike : (kind : FaultKind) → Blame l kind → LikeMoved limit most l (Err kind) (Err kind)
  both_deep : most ≡ limit → LikeMoved limit most l (Err fault.TooDeep) (Err fault.TooDeep)
  one_deep : {n : Moved} → limit < most → LikeMoved limit most l (Err fault.TooDeep) (Ok n)

module _ (limit most : ℕ) (wide : (most ≡ limit) ⊎ (limit + 3 ≤ most)) where
  like_later : (l : Lexeme) (ws vs : Words) (r q : Result Moved FaultKind) → LikeMoved limit most l r q
      → LikeMoved limit most l (moved_after ws r) (moved_after vs q)
  like_later l ws vs _ _ (ok_alike a) = ok_alike a
  like_later l ws vs _ _ (err_alike kind b) = err_alike kind b
  like_later l ws vs _ _ (both_deep e) = both_deep e
  like_later l ws vs _ _ (one_deep h) = one_deep h

  like_by : (l : Lexeme) (S T : Stack) (o p : Outcome) (r q : Result Moved FaultKind) → AlikeStacks S T → Like limit most l o p → LikeMoved limit most l r q
      → LikeMoved limit most l (advance_by o S r) (advance_by p T q)
  like_by l S T _ _ r q a (take_alike {P = P} {Q = Q} b) h = ok_alike (alike_append P Q S T b a)
  like_by l S T _ _ r q a (pass_alike {ws = ws} {vs = vs}) h = like_later l ws vs r q h
  like_by l S T _ _ r q a (refuse_alike kind b) h = err_alike kind b
  like_by l S T _ _ r q a (both_too_deep e) h = both_deep e
  like_by l S T _ _ r q a (one_too_deep g) h = one_deep g

  pub like_advance : (S T : Stack) → AlikeStacks S T → AllReady limit S → (at to : ℕ) (l : Lexeme)
      → LikeMoved limit most l (advance limit S at l) (advance most T to l)
  like_advance _ _ both_empty r at to l = err_alike fault.Unexpected tt
  like_advance _ _ (on_top {s = s} {t = t} {S = S} {T = T} a h) r at to l =
      like_by l S T _ _ _ _ h (like_step limit most wide s t a at to l r.0) (like_advance S T h r.1 at to l)

  -- the same tokens, wherever they are
  pub record AlikeRun (m : Moved) (T : Stack) (qs : List Placed) : Type 0 where
    pub moved : Moved
    pub is : advance_all most T qs ≡ Ok moved
    pub alike : AlikeStacks m.stack moved.stack

  run_on : (p q : Placed) (ps qs : List Placed) (S T : Stack) (m : Moved) → p.lexeme ≡ q.lexeme
      → ((n : Moved) (k : Moved) → AlikeStacks n.stack k.stack → AllReady limit n.stack → (u : Moved) → advance_all limit n.stack ps ≡ Ok u
      → AlikeRun u k.stack qs)
      → AllReady limit S → (r : Result Moved FaultKind) → advance limit S p.at p.lexeme ≡ r → (x : Result Moved FaultKind)
      → advance most T q.at p.lexeme ≡ x → LikeMoved limit most p.lexeme r x
      → moved_by r (λ stack. advance_all limit stack ps) ≡ Ok m → AlikeRun m T (q ∷ qs)
  run_on p q ps qs S T m head further ready _ e _ f (ok_alike {m = n} {n = k} a) g = go (advance_all limit n.stack ps) refl g
    where
      there : advance most T q.at q.lexeme ≡ Ok k
      there = subst (λ l. advance most T q.at l ≡ Ok k) head f

      go : (r : Result Moved FaultKind) → advance_all limit n.stack ps ≡ r → moved_after n.appended r ≡ Ok m → AlikeRun m T (q ∷ qs)
      go (Ok u) h i =
          let d = further n k a (ready_kept limit S p.at p.lexeme n ready e) u h in
          let stacks : u.stack ≡ m.stack = let j : Ok (record { appended = n.appended ++ u.appended; stack = u.stack }) ≡ Ok m = i in cc in
          record {
            moved = record { appended = k.appended ++ d.moved.appended; stack = d.moved.stack };
            is = rw (there, d.is) refl;
            alike = subst (λ S. AlikeStacks S d.moved.stack) stacks d.alike;
          }
      go (Err kind) h i = absurd cc
  run_on p q ps qs S T m head further ready _ e _ f (err_alike kind b) g = absurd cc
  run_on p q ps qs S T m head further ready _ e _ f (both_deep h) g = absurd cc
  run_on p q ps qs S T m head further ready _ e _ f (one_deep h) g = absurd cc

  pub alike_run : (ps qs : List Placed) (S T : Stack) (m : Moved) → said ps ≡ said qs → AlikeStacks S T → AllReady limit S → advance_all limit S ps ≡ Ok m
      → AlikeRun m T qs
  alike_run [] [] S T m s a r e = let stacks : S ≡ m.stack = let i : Ok (record { appended = []; stack = S }) ≡ Ok m = e in cc in
      record { moved = record { appended = []; stack = T }; is = refl; alike = subst (λ U. AlikeStacks U T) stacks a }
  alike_run [] (q ∷ qs) S T m s a r e = absurd cc
  alike_run (p ∷ ps) [] S T m s a r e = absurd cc
  alike_run (p ∷ ps) (q ∷ qs) S T m s a r e =
      let head : p.lexeme ≡ q.lexeme = cc in
      let tail : said ps ≡ said qs = cc in
      run_on p q ps qs S T m head (λ n k b ready u f. alike_run ps qs n.stack k.stack u tail b ready f) r _ refl _ refl
      (like_advance S T a r p.at q.at p.lexeme) e
