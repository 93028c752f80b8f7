-- The frames that are out and the requests that wait: no more than main and the requests that were taken.
use Rattle.std.proofs.Common.{◌≡◌, refl, sym, ap, ◌∙◌, subst, ℕ, zero, suc, ◌+◌, ◌*◌, ◌<◌, ◌≤◌, ◌⊎◌, inl, inr, ℤ, Bool, true, false, true≢false, cond}
use Rattle.std.proofs.Common.{List, [], ◌∷◌, length, arith, length-append}
use Rattle.std.specs.Prelude.{◌==◌}
use Rattle.std.proofs.lemmas.Bool.{cases_eq}
use Rattle.std.proofs.lemmas.List.{nil_from_length}
use Rattle.std.proofs.lemmas.List.Sums.{sum_by-cons}
use Rattle.std.proofs.lemmas.List.Sorted.{length_permutation}
use Rattle.tags.specs.declared.token.Cont.{Cont}
use Rattle.tags.specs.declared.token.Word.{Word}
use Rattle.tags.specs.declared.token.To.{To}
use Rattle.tags.specs.declared.token.Token.{Token}
use Rattle.semantics.specs.Program.{Program, instr_at}
use Rattle.semantics.specs.Rule.{rule_at}
use Rattle.semantics.specs.Machine.{Store, Machine, Size, put_at, slot_in, slot_used, outputs_of, Requests, Releases, Happens, Events, Run, at_start}
use Rattle.semantics.specs.Cause.{is_request, request_count}
use Rattle.semantics.specs.Report.{sum_below, one_if}
use Rattle.semantics.proofs.Sums.{sum_same, one_if_le}
use Rattle.law_reuse.proofs.FramesFold.{put_same, put_other, ne_eqb}
use Rattle.law_reuse.proofs.Frames.{fires_out, fetches_out, stores_out, hosts_out}
use Rattle.law_completion.specs.Total.{FramesSuffice}

-- ---- HOW MANY ARE OUT
abbrev pub out_below : ℕ → (ℕ → Bool) → ℕ
out_below n out = sum_below n (λ f. one_if (out f))

-- one more at most
put_true : (n : ℕ) (out : ℕ → Bool) (f : ℕ) → out_below n (put_at out f true) ≤ out_below n out + 1
put_true zero out f = omega arith
put_true (suc n) out f = go (cases_eq f n) (put_true n out f)
  where
    go : (f ≡ n) ⊎ (f ≡ n → ⊥) → out_below n (put_at out f true) ≤ out_below n out + 1 → out_below (suc n) (put_at out f true) ≤ out_below (suc n) out + 1
    go (inl e) more =
        let same = sum_same n (λ g. one_if (put_at out f true g)) (λ g. one_if (out g))
        (λ g low. ap one_if (put_other out f true g (λ d. omega (arith, low, e, d)))) in
        let one = one_if_le (put_at out f true n) in omega (arith, same, one)
    go (inr ne) more = let same = ap one_if (put_other out f true n ne) in omega (arith, same, more)

-- and no more where one is taken back
put_false : (n : ℕ) (out : ℕ → Bool) (f : ℕ) → out_below n (put_at out f false) ≤ out_below n out
put_false zero out f = omega arith
put_false (suc n) out f = go (cases_eq f n) (put_false n out f)
  where
    go : (f ≡ n) ⊎ (f ≡ n → ⊥) → out_below n (put_at out f false) ≤ out_below n out → out_below (suc n) (put_at out f false) ≤ out_below (suc n) out
    go (inl e) more = let none = ap one_if (put_same out f false n e) in omega (arith, none, more)
    go (inr ne) more = let same = ap one_if (put_other out f false n ne) in omega (arith, same, more)

-- all of them
all_out : (n : ℕ) (out : ℕ → Bool) → ((f : ℕ) → f < n → out f ≡ true) → out_below n out ≡ n
all_out zero out h = refl
all_out (suc n) out h = let more = all_out n out (λ f low. h f (omega (arith, low))) in let one = ap one_if (h n (omega arith)) in omega (arith, more, one)

-- at the start main's alone
start_out : (n : ℕ) → out_below n (λ f. f == 0) ≤ 1
start_out zero = omega arith
start_out (suc zero) = let one = one_if_le (0 == 0) in omega (arith, one)
start_out (suc (suc n)) =
    let more = start_out (suc n) in let none = ap one_if (ne_eqb (suc n) 0 (λ e. omega (arith, e))) in omega (arith, more, none)

-- ---- ALONG A RUN. Where a request waits all frames are out; and each frame that is out, and each request that waits, is main's or was asked for.
pub record AreOut (total n : ℕ) (s : Store) : Type 0 where
  pub all : (s.requests ≡ []) ⊎ ((f : ℕ) → f < total → s.out f ≡ true)
  pub few : out_below total s.out + length s.requests ≤ 1 + n

abbrev unit : Bool → ℕ
unit b = cond b 1 0

same_out : (total n k : ℕ) (old new : Store) → (new.out ≡ old.out) × (new.requests ≡ old.requests) → AreOut total n old → AreOut total (n + k) new
same_out total n k old new (o, r) I = record {
  all = go I.all;
  few =
      let a = I.few in let b = ap (λ (g : ℕ → Bool). out_below total g) o in let c = ap (λ (l : List Cont). length l) r in
      omega (arith, a, b, c);
}
  where
    go : (old.requests ≡ []) ⊎ ((f : ℕ) → f < total → old.out f ≡ true) → (new.requests ≡ []) ⊎ ((f : ℕ) → f < total → new.out f ≡ true)
    go (inl e) = inl (r ∙ e)
    go (inr h) = inr (λ f low. ap (λ (g : ℕ → Bool). g f) o ∙ h f low)

request_out : (total n : ℕ) (old new : Store) (c : Cont) (made : List Token) → AreOut total n old → Requests total old c made new → AreOut total (n + 1) new
request_out total n old new c made I (inl (f, low, was, makes, is)) = record {
  all = go I.all;
  few =
      let a = I.few in let b = ap (λ (s : Store). out_below total s.out) is in let d = ap (λ (s : Store). length s.requests) is in
      let e = put_true total old.out f in omega (arith, a, b, d, e);
}
  where
    go : (old.requests ≡ []) ⊎ ((f : ℕ) → f < total → old.out f ≡ true) → (new.requests ≡ []) ⊎ ((f : ℕ) → f < total → new.out f ≡ true)
    go (inl e) = inl (ap (λ (s : Store). s.requests) is ∙ e)
    go (inr h) = absurd (true≢false (sym (h f low) ∙ was))
request_out total n old new c made I (inr (all, makes, is)) = record {
  all = inr (λ f low. ap (λ (s : Store). s.out f) is ∙ all f low);
  few =
      let a = I.few in let b = ap (λ (s : Store). out_below total s.out) is in let d = ap (λ (s : Store). length s.requests) is in
      let e = length-append old.requests (c ∷ []) in omega (arith, a, b, d, e);
}

release_out : (total n : ℕ) (old new : Store) (f : ℕ) (made : List Token) → AreOut total n old → Releases old f made new → AreOut total (n + 0) new
release_out total n old new f made I (out, inl (idle, makes, is)) = record {
  all = inl (ap (λ (s : Store). s.requests) is ∙ idle);
  few =
      let a = I.few in let b = ap (λ (s : Store). out_below total s.out) is in let d = ap (λ (s : Store). length s.requests) is in
      let e = put_false total old.out f in omega (arith, a, b, d, e);
}
release_out total n old new f made I (out, inr (c, rest, moved, makes, is)) = record {
  all = go I.all;
  few =
      let a = I.few in let b = ap (λ (s : Store). out_below total s.out) is in let d = ap (λ (s : Store). length s.requests) is in
      let e = length_permutation _ _ moved in omega (arith, a, b, d, e);
}
  where
    go : (old.requests ≡ []) ⊎ ((f : ℕ) → f < total → old.out f ≡ true) → (new.requests ≡ []) ⊎ ((f : ℕ) → f < total → new.out f ≡ true)
    go (inl e) = let long = length_permutation _ _ moved in let none = ap (λ (l : List Cont). length l) e in absurd (omega (arith, long, none))
    go (inr h) = inr (λ g low. ap (λ (s : Store). s.out g) is ∙ h g low)

event_out : (p : Program) (total n : ℕ) (old new : Store) (to : To) (w : Word) (made : List Token) → AreOut total n old → Happens p total old to w made new
    → AreOut total (n + unit (is_request to)) new
event_out p total n old new (To.Instr f ip q) w made I e =
    same_out total n 0 old new (fires_out old new f (slot_used (instr_at p ip))
    (rule_at p record { frame = f; ip = ip } (instr_at p ip) (slot_in old f (slot_used (instr_at p ip))) q w) made e) I
event_out p total n old new (To.Fetch x) (Word.Back c) made I e = same_out total n 0 old new (fetches_out old new x c (old.cells x) made e) I
event_out p total n old new (To.Store x v) (Word.Back c) made I e = same_out total n 0 old new (stores_out old new x v c (old.cells x) made e) I
event_out p total n old new To.Manager (Word.Back c) made I e = request_out total n old new c made I e
event_out p total n old new (To.Release f) w made I e = release_out total n old new f made I e
event_out p total n old new (To.Host j) w made I e = same_out total n 0 old new (hosts_out (outputs_of p) old new j w made e) I
event_out p total n old new to w made I e = absurd e

more_out : (total n k : ℕ) (s : Store) → n ≡ k → AreOut total n s → AreOut total k s
more_out total n k s e I = subst (λ (n : ℕ). AreOut total n s) e I

pub run_out : (p : Program) (z : Size) (later : Events) (n : ℕ) (m last : Machine) → AreOut (z.elements * z.frames) n m.store → Run p z m later last
    → AreOut (z.elements * z.frames) (n + request_count later) last.store
run_out p z [] n m last I r =
    same_out (z.elements * z.frames) n 0 m.store last.store (ap (λ (s : Store). s.out) r.1, ap (λ (s : Store). s.requests) r.1) I
run_out p z (x ∷ later) n m last I r =
    let next = event_out p (z.elements * z.frames) n m.store r.0.store x.1.to x.1.word r.1.made I r.1.happens in
    let more = run_out p z later (n + unit (is_request x.1.to)) r.0 last next r.2 in
    let cons = sum_by-cons (λ (ev : ℕ × Token). unit (is_request ev.1.to)) x later in
    more_out (z.elements * z.frames) _ _ last.store (omega (arith, cons)) more

pub frames_out : (p : Program) (z : Size) (inputs : List ℤ) (events : Events) (m : Machine) → Run p z (at_start p inputs) events m
    → AreOut (z.elements * z.frames) (request_count events) m.store
frames_out p z inputs events m r =
    let start : AreOut (z.elements * z.frames) 0 (at_start p inputs).store =
    record { all = inl refl; few = let a = start_out (z.elements * z.frames) in omega (arith, a) } in
    more_out (z.elements * z.frames) _ _ m.store (omega arith) (run_out p z events 0 (at_start p inputs) m start r)

pub frames_suffice : FramesSuffice
frames_suffice p z inputs events m r room = go (frames_out p z inputs events m r).all
  where
    go : (m.store.requests ≡ []) ⊎ ((f : ℕ) → f < z.elements * z.frames → m.store.out f ≡ true) → m.store.requests ≡ []
    go (inl e) = e
    go (inr h) =
        let few = (frames_out p z inputs events m r).few in let all = all_out (z.elements * z.frames) m.store.out h in
        nil_from_length m.store.requests (omega (arith, few, all, room))
