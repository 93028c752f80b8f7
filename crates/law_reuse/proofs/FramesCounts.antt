-- How many events a run has, how many of them ask for a frame, and how many for a credit: beside those of its unfolded
-- run, in which a request that waits is no event yet.
use Rattle.std.proofs.Common.{◌≡◌, ap, ℕ, suc, ◌+◌, Bool, true, false, cond, [], ◌∷◌, ◌++◌, length, length-append, arith}
use Rattle.std.proofs.lemmas.List.Sums.{sum_by-append}
use Rattle.tags.specs.declared.token.Word.{Word}
use Rattle.tags.specs.declared.token.To.{To}
use Rattle.tags.specs.declared.token.Token.{Token}
use Rattle.semantics.specs.Program.{Program}
use Rattle.semantics.specs.Machine.{Events}
use Rattle.law_reuse.specs.FramesGenerations.{is_release, release_count}
use Rattle.semantics.specs.Cause.{is_request, request_count, is_credit_event, credit_count}

pub record Counted (p : Program) (done unfolded : Events) (waiting : ℕ) : Type 0 where
  pub events : length done ≡ length unfolded + waiting
  pub requests : request_count done ≡ request_count unfolded + waiting
  pub credits : credit_count p done ≡ credit_count p unfolded

abbrev unit : Bool → ℕ
unit b = cond b 1 0

pub requests_more : (events : Events) (e : ℕ) (t : Token) → request_count (events ++ (e, t) ∷ []) ≡ request_count events + unit (is_request t.to)
requests_more events e t =
    let a = sum_by-append (λ (ev : ℕ × Token). unit (is_request ev.1.to)) events ((e, t) ∷ []) in omega (arith, a)

pub credits_more : (p : Program) (events : Events) (e : ℕ) (t : Token)
    → credit_count p (events ++ (e, t) ∷ []) ≡ credit_count p events + unit (is_credit_event p t.to)
credits_more p events e t =
    let a = sum_by-append (λ (ev : ℕ × Token). unit (is_credit_event p ev.1.to)) events ((e, t) ∷ []) in omega (arith, a)

releases_more : (g : ℕ) (events : Events) (e : ℕ) (t : Token) → release_count g (events ++ (e, t) ∷ []) ≡ release_count g events + unit (is_release g t.to)
releases_more g events e t =
    let a = sum_by-append (λ (ev : ℕ × Token). unit (is_release g ev.1.to)) events ((e, t) ∷ []) in omega (arith, a)

-- any event but a release of the frame
pub kept_count : (g : ℕ) (events : Events) (e : ℕ) (t : Token) → is_release g t.to ≡ false → release_count g (events ++ (e, t) ∷ []) ≡ release_count g events
kept_count g events e t other = let a = releases_more g events e t in let b = ap unit other in omega (arith, a, b)

-- a release of it
pub more_count : (g : ℕ) (events : Events) (e : ℕ) (t : Token) → is_release g t.to ≡ true
    → release_count g (events ++ (e, t) ∷ []) ≡ suc (release_count g events)
more_count g events e t is = let a = releases_more g events e t in let b = ap unit is in omega (arith, a, b)

pub events_more : (events : Events) (e : ℕ) (t : Token) → length (events ++ (e, t) ∷ []) ≡ length events + 1
events_more events e t = let a = length-append events ((e, t) ∷ []) in omega (arith, a)

-- an event of both
pub counted_both : (p : Program) (done unfolded : Events) (w e f : ℕ) (t u : Token) → is_request u.to ≡ is_request t.to
    → is_credit_event p u.to ≡ is_credit_event p t.to
    → Counted p done unfolded w → Counted p (done ++ (e, t) ∷ []) (unfolded ++ (f, u) ∷ []) w
counted_both p done unfolded w e f t u r c C = record {
  events = (let a = events_more done e t in let b = events_more unfolded f u in let s = C.events in omega (arith, a, b, s));
  requests = (let a = requests_more done e t in let b = requests_more unfolded f u in let s = C.requests in let d = ap unit r in omega (arith, a, b, s, d));
  credits = (let a = credits_more p done e t in let b = credits_more p unfolded f u in let s = C.credits in let d = ap unit c in omega (arith, a, b, s, d));
}

-- a request begins to wait
pub counted_waits : (p : Program) (done unfolded : Events) (w e : ℕ) (k : Word) → Counted p done unfolded w
    → Counted p (done ++ (e, record { to = To.Manager; word = k }) ∷ []) unfolded (w + 1)
counted_waits p done unfolded w e k C =
    let t : Token = record { to = To.Manager; word = k } in
    record {
      events = (let a = events_more done e t in let s = C.events in omega (arith, a, s));
      requests = (let a = requests_more done e t in let s = C.requests in omega (arith, a, s));
      credits = (let a = credits_more p done e t in let s = C.credits in omega (arith, a, s));
    }

-- a request that waits is served
pub counted_serves : (p : Program) (done unfolded : Events) (w e : ℕ) (k : Word) → Counted p done unfolded (suc w)
    → Counted p done (unfolded ++ (e, record { to = To.Manager; word = k }) ∷ []) w
counted_serves p done unfolded w e k C =
    let t : Token = record { to = To.Manager; word = k } in
    record {
      events = (let b = events_more unfolded e t in let s = C.events in omega (arith, b, s));
      requests = (let b = requests_more unfolded e t in let s = C.requests in omega (arith, b, s));
      credits = (let b = credits_more p unfolded e t in let s = C.credits in omega (arith, b, s));
    }
