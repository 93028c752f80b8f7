-- An element runs on, from whatever it started.
use Rattle.std.proofs.Common.{◌≡◌, ◌≢◌, refl, sym, ◌∙◌, ap, subst, ℕ, zero, suc, ◌^◌, ◌<◌, ◌≤◌, Bool, List, [], ◌∷◌, ◌++◌, length, drop, take}
use Rattle.std.proofs.Common.{get_or, arith, append_assoc, true}
use Rattle.std.specs.Prelude.{All, IsPermutation, flat_map, slice_set, Vec, Option, Some, None, IfSome, IfNone, Result, OnErr, OnOk}
use Rattle.std.proofs.lemmas.List.{append-nil, drop_all, get_or_default, length-set, take-append-drop}
use Rattle.std.proofs.lemmas.List.Elements.{All-nil, All-cons, All-append}
use Rattle.std.proofs.lemmas.List.Sorted.{IsPermutation-sym, IsPermutation-trans, IsPermutation-append_left, IsPermutation-append_right}
use mathlib.Core.Logic.{dite}
use native.Mathlib.Decide.{ℕ_discrete}
use Rattle.lemmas.proofs.Permutations.{permutation_cancel, permutation_same}
use Rattle.law_confluence.proofs.Orders.{shuffled, Part as Piece, ◌⊕◌, at_first, at_last}
use Rattle.tags.specs.declared.token.Token.{Token}
use Rattle.tags.specs.Addresses.{element_of}
use Rattle.element.specs.Near.{Bounds, IsNearToken}
use Rattle.element.specs.Holding.{LaneView, Holding, Fixed, held_of, fixed_of, with_queue}
use Rattle.schedule.specs.declared.halt.Halt.{Halt}
use Rattle.schedule.specs.declared.take.Take.{Take}
use Rattle.schedule.specs.Setting.{Setting}
use Rattle.schedule.specs.State.{RunsAs}
use Rattle.schedule.proofs.Memory.{ok_then}
use Rattle.mesh.specs.declared.view.Commit.{Commit}
use Rattle.mesh.specs.declared.view.Deed.{Deed}
use Rattle.mesh.specs.declared.view.Deed.TheVariants.{Posted, FoundFull, Took, SawLive}
use Rattle.mesh.specs.Deeds.{Bundle, made_in}
use Rattle.mesh.specs.Seats.{MeshId, SeatView, AllTo, Has, Posts, Counts, Leaves, noting, having_taken}
use Rattle.mesh.proofs.Deeds.{created_same}
use Rattle.machine.specs.declared.runner.Departure.{Departure}
use Rattle.machine.specs.declared.runner.Runner.{Runner}
use Rattle.law_linearization.specs.History.{bounds_of}
use Rattle.ordering.specs.Noted.{noted_in}
use Rattle.ordering.specs.Logs.{Logs}
use Rattle.machine.specs.Bundles.{BundleView}
use Rattle.machine.specs.ByDepth.{HasNone, HasNoReason, HaltsFreely}
use Rattle.machine.specs.Runners.{Ended, IsDeparture, StaysAt, Runs, Keeps, IsClear, Receives, KeepsTokens, Fits, away}
use Rattle.machine.proofs.Accounts.{IsQuiet, found_full, saw_live}
use Rattle.machine.proofs.Steps.{ran_as, ran_quiet, ran_beside, ran_received, ran_unqueued, ran_posted}

pub on_err : {X Y : Type 0} (r : Result X Y) (P : Type 0) → P → OnErr r P
on_err (Result.Ok x) P p = tt
on_err (Result.Err y) P p = p

abbrev bundles : List BundleView → List Token
bundles vs = flat_map (λ b. b.tokens) vs

module _ {C A L : Type 0} (keeps_events : Bool) (g : Setting) (mesh : MeshId) where
  pub runs_on : (old new : Runner C A L) → Runs keeps_events g mesh old → Keeps keeps_events g mesh old new → Runs keeps_events g mesh new
  runs_on old new runs keeps = (runs.0, keeps runs.0 runs.1)

  pub keeps_same : (old : Runner C A L) → Keeps keeps_events g mesh old old
  keeps_same old = λ start r. r

  pub keeps_twice : (old mid new : Runner C A L) → Keeps keeps_events g mesh old mid → Keeps keeps_events g mesh mid new → Keeps keeps_events g mesh old new
  keeps_twice old mid new one two = λ start r. two start (one start r)

  pub keeps_on : {X Y : Type 0} (r : Result X Y) (old mid new : Runner C A L) → Keeps keeps_events g mesh old mid
      → OnOk r (Keeps keeps_events g mesh mid new) → OnOk r (Keeps keeps_events g mesh old new)
  keeps_on r old mid new one two = ok_then r (Keeps keeps_events g mesh mid new) (Keeps keeps_events g mesh old new) (λ k. keeps_twice old mid new one k) two

  -- how many blocks it asked for plays no role
  pub keeps_counting : (old : Runner C A L) (blocks : ℕ) → Keeps keeps_events g mesh old (record old { blocks = blocks })
  keeps_counting old blocks = λ start r. record {
    at = r.at;
    alone = r.alone;
    runs = r.runs;
    blocks = r.blocks;
    short = r.short;
    ran = r.ran;
    noted = r.noted;
    unlogged = r.unlogged;
    tidy = record { count = r.tidy.count; addressed = r.tidy.addressed; within = r.tidy.within; near = r.tidy.near; created = r.tidy.created; few = r.tidy.few };
  }

  -- nor what memory it has for later bundles
  pub keeps_sparing : (old : Runner C A L) (spare : Vec BundleView A) → Keeps keeps_events g mesh old (record old { spare = spare })
  keeps_sparing old spare = λ start r. record {
    at = r.at;
    alone = r.alone;
    runs = r.runs;
    blocks = r.blocks;
    short = r.short;
    ran = r.ran;
    noted = r.noted;
    unlogged = r.unlogged;
    tidy = record { count = r.tidy.count; addressed = r.tidy.addressed; within = r.tidy.within; near = r.tidy.near; created = r.tidy.created; few = r.tidy.few };
  }

  -- nor why it left
  pub keeps_leaving : (old : Runner C A L) (departure : Departure) → Keeps keeps_events g mesh old (record old { departure = departure })
  keeps_leaving old departure = λ start r. record {
    at = r.at;
    alone = r.alone;
    runs = r.runs;
    blocks = r.blocks;
    short = r.short;
    ran = r.ran;
    noted = r.noted;
    unlogged = r.unlogged;
    tidy = record { count = r.tidy.count; addressed = r.tidy.addressed; within = r.tidy.within; near = r.tidy.near; created = r.tidy.created; few = r.tidy.few };
  }

  -- one more deed that moves no token
  pub keeps_noting : (old : Runner C A L) (s : SeatView) (d : Deed) → IsQuiet d → made_in d ≡ 0 → s ≡ noting old.seat d
      → Keeps keeps_events g mesh old (record old { seat = s })
  keeps_noting old s d quiet none is = λ start r.
      let own = old.seat.own in
      record {
        at = ap (λ (z : SeatView). z.mesh) is ∙ r.at;
        alone = ap (λ (z : SeatView). z.joined) is ∙ r.alone;
        runs = r.runs;
        blocks = r.blocks;
        short = r.short;
        noted = r.noted;
        unlogged = r.unlogged;
        ran = ran_as g mesh start own.element s.own.element (held_of old.lane) (held_of old.lane) (own.deeds ++ d ∷ []) s.own.deeds own.held
            s.own.held (away old) (away old)
            (ap (λ (z : SeatView). z.own.element) is) refl (ap (λ (z : SeatView). z.own.deeds) is) (ap (λ (z : SeatView). z.own.held) is) refl
            (ran_quiet g mesh start own.element (held_of old.lane) own.deeds own.held (away old) r.ran d quiet);
        tidy = record {
          count = r.tidy.count;
          addressed = r.tidy.addressed;
          within = r.tidy.within;
          near = r.tidy.near;
          created = created_same own.deeds s.own.deeds d old.created (ap (λ (z : SeatView). z.own.deeds) is) none r.tidy.created;
          few = r.tidy.few;
        };
      }

  -- a look at the live word
  pub keeps_counted : (old : Runner C A L) (s : SeatView) (count : ℕ) → Counts count old.seat s → Keeps keeps_events g mesh old (record old { seat = s })
  keeps_counted old s count counts = λ start r.
      let own = old.seat.own in
      let is = counts.1 in
      let d : Deed = SawLive count in
      record {
        at = ap (λ (z : SeatView). z.mesh) is ∙ r.at;
        alone = ap (λ (z : SeatView). z.joined) is ∙ r.alone;
        runs = r.runs;
        blocks = r.blocks;
        short = r.short;
        noted = r.noted;
        unlogged = r.unlogged;
        ran = ran_as g mesh start own.element s.own.element (held_of old.lane) (held_of old.lane) (own.deeds ++ d ∷ []) s.own.deeds own.held
            s.own.held (away old) (away old)
            (ap (λ (z : SeatView). z.own.element) is) refl (ap (λ (z : SeatView). z.own.deeds) is) (ap (λ (z : SeatView). z.own.held) is) refl
            (ran_quiet g mesh start own.element (held_of old.lane) own.deeds own.held (away old) r.ran d (saw_live count));
        tidy = record {
          count = r.tidy.count;
          addressed = r.tidy.addressed;
          within = r.tidy.within;
          near = r.tidy.near;
          created = created_same own.deeds s.own.deeds d old.created (ap (λ (z : SeatView). z.own.deeds) is) refl r.tidy.created;
          few = r.tidy.few;
        };
      }

  -- a bundle was taken, and lies in the queue
  pub keeps_received : (old new : Runner C A L) (s : SeatView) (from : ℕ) (x : Bundle) → from < g.elements → s ≡ having_taken old.seat from x
      → AllTo mesh.elements old.seat.own.element x → Receives g (record old { seat = s }) x new → Keeps keeps_events g mesh old new
  keeps_received old new s from x low is to received = λ start r.
      let own = old.seat.own in
      let seat : new.seat ≡ s = ap (λ (z : Runner C A L). z.seat) received.others in
      let whole : new.seat ≡ having_taken old.seat from x = seat ∙ is in
      let mine : AllTo g.elements own.element x = subst (λ (n : ℕ). AllTo n own.element x) r.ran.elements to in
      record {
        at = ap (λ (z : SeatView). z.mesh) whole ∙ r.at;
        alone = ap (λ (z : SeatView). z.joined) whole ∙ r.alone;
        runs = subst (λ (f : Fixed). RunsAs g f) (sym received.fixed) r.runs;
        blocks = r.blocks;
        short = r.short;
        noted = subst (λ (z : Runner C A L). keeps_events ≡ true → Logs (noted_in z.notes) r.blocks) (sym received.others) r.noted;
        unlogged = ap (λ (z : Runner C A L). z.log.events.items) received.others ∙ r.unlogged;
        ran = ran_as g mesh start own.element new.seat.own.element (with_queue (held_of old.lane) ((held_of old.lane).queue ++ x)) (held_of new.lane)
            (own.deeds ++ Took from x ∷ []) new.seat.own.deeds (x ++ own.held) new.seat.own.held (away old) (away new)
            (ap (λ (z : SeatView). z.own.element) whole) received.lane (ap (λ (z : SeatView). z.own.deeds) whole)
            (ap (λ (z : SeatView). z.own.held) whole) (ap (λ (z : Runner C A L). away z) received.others)
            (ran_received g mesh start own.element (held_of old.lane) own.deeds own.held (away old) r.ran from x low received.near mine);
        tidy = record {
          count = ap (λ (z : Runner C A L). length z.unposted.items) received.others ∙ r.tidy.count;
          addressed = λ i d low. subst (λ (z : Runner C A L). AllTo g.elements i (get_or z.unposted.items i d).tokens) (sym received.others)
              (r.tidy.addressed i d low);
          within = λ i d low. ap (λ (z : Runner C A L). (get_or z.unposted.items i d).bounds) received.others ∙ r.tidy.within i d low;
          near = subst (λ (z : Runner C A L). All (IsNearToken (bounds_of g)) z.sent.items) (sym received.others) r.tidy.near;
          created = created_same own.deeds new.seat.own.deeds (Took from x) new.created (ap (λ (z : SeatView). z.own.deeds) whole) refl
              (r.tidy.created ∙ ap (λ (z : Runner C A L). z.created) (sym received.others));
          few = subst (λ (z : Runner C A L). z.created ≤ 2 ^ 40) (sym received.others) r.tidy.few;
        };
      }

  -- a bundle was taken, and is not in the queue
  pub keeps_unqueued : (old : Runner C A L) (s : SeatView) (from : ℕ) (x : BundleView) (lane : LaneView) → from < g.elements → IsClear old → s
      ≡ having_taken old.seat from x.tokens → lane ≡ old.lane → Keeps keeps_events g mesh old (record old { seat = s; lane = lane; unqueued = x })
  keeps_unqueued old s from x lane low clear is same = λ start r.
      let own = old.seat.own in
      let beside : x.tokens ++ (bundles old.unposted.items ++ drop old.bundled old.sent.items) ≡ x.tokens
      ++ away old = ap (λ (l : List Token). x.tokens ++ (l ++ (bundles old.unposted.items ++ drop old.bundled old.sent.items))) (sym clear.0) in
      record {
        at = ap (λ (z : SeatView). z.mesh) is ∙ r.at;
        alone = ap (λ (z : SeatView). z.joined) is ∙ r.alone;
        runs = subst (λ (l : LaneView). RunsAs g (fixed_of l)) (sym same) r.runs;
        blocks = r.blocks;
        short = r.short;
        noted = r.noted;
        unlogged = r.unlogged;
        ran = ran_as g mesh start own.element s.own.element (held_of old.lane) (held_of lane) (own.deeds ++ Took from x.tokens ∷ []) s.own.deeds
            (x.tokens ++ own.held) s.own.held (x.tokens ++ away old) (x.tokens ++ (bundles old.unposted.items ++ drop old.bundled old.sent.items))
            (ap (λ (z : SeatView). z.own.element) is) (ap (λ (l : LaneView). held_of l) same) (ap (λ (z : SeatView). z.own.deeds) is)
            (ap (λ (z : SeatView). z.own.held) is) beside
            (ran_unqueued g mesh start own.element (held_of old.lane) own.deeds own.held (away old) r.ran from x.tokens low);
        tidy = record {
          count = r.tidy.count;
          addressed = r.tidy.addressed;
          within = r.tidy.within;
          near = r.tidy.near;
          created = created_same own.deeds s.own.deeds (Took from x.tokens) old.created (ap (λ (z : SeatView). z.own.deeds) is) refl r.tidy.created;
          few = r.tidy.few;
        };
      }

  pub keeps_taken : (old new : Runner C A L) (s : SeatView) (from : ℕ) (x : BundleView) (o : Option Halt) → from < g.elements → IsClear old → s
      ≡ having_taken old.seat from x.tokens → AllTo mesh.elements old.seat.own.element x.tokens
      → IfNone o (Receives g (record old { seat = s }) x.tokens new) → IfSome o (λ halt. (halt ≡ Halt.Memory) × (new.lane ≡ old.lane)
      × (new ≡ record old { seat = s; lane = new.lane; unqueued = x })) → Keeps keeps_events g mesh old new
  keeps_taken old new s from x None low clear is to none some_one = keeps_received old new s from x.tokens low is to none
  keeps_taken old new s from x (Some halt) low clear is to none some_one = subst (λ (z : Runner C A L). Keeps keeps_events g mesh old z)
      (sym some_one.2) (keeps_unqueued old s from x new.lane low clear is some_one.1)

  -- FILLING BUNDLES
  pub keeps_filled : (old : Runner C A L) (unposted : Vec BundleView A) (n : ℕ) → old.bundled ≡ 0
      → KeepsTokens g.elements old.unposted.items unposted.items (take n old.sent.items)
      → Keeps keeps_events g mesh old (record old { unposted = unposted; bundled = n })
  keeps_filled old unposted n none keeps = λ start r.
      let front = take n old.sent.items in
      let rest = drop n old.sent.items in
      let whole : drop old.bundled old.sent.items ≡ front ++ rest = ap (λ (k : ℕ). drop k old.sent.items) none
      ∙ sym (take-append-drop n old.sent.items) in
      let beside : IsPermutation (away old) (old.unqueued.tokens ++ (bundles unposted.items ++ rest)) =
      IsPermutation-append_right old.unqueued.tokens _ _ (at_first (ap (λ (l : List Token). bundles old.unposted.items ++ l) whole)
      (IsPermutation-trans _ _ _ (shuffled (bundles old.unposted.items ∷ front ∷ rest ∷ []) (Piece 0 ⊕ (Piece 1 ⊕ Piece 2))
      ((Piece 0 ⊕ Piece 1) ⊕ Piece 2) refl)
      (IsPermutation-append_left rest _ _ (IsPermutation-sym _ _ keeps.tokens)))) in
      record {
        at = r.at;
        alone = r.alone;
        runs = r.runs;
        blocks = r.blocks;
        short = r.short;
        noted = r.noted;
        unlogged = r.unlogged;
        ran = ran_beside g mesh start old.seat.own.element (held_of old.lane) old.seat.own.deeds old.seat.own.held (away old) r.ran
            (old.unqueued.tokens ++ (bundles unposted.items ++ rest)) beside;
        tidy = record {
          count = keeps.count ∙ r.tidy.count;
          addressed = keeps.addressed r.tidy.addressed;
          within = λ i d low. keeps.bounds i d low ∙ r.tidy.within i d low;
          near = r.tidy.near;
          created = r.tidy.created;
          few = r.tidy.few;
        };
      }

  -- each bundle is for what there is, which each token that was sent names
  pub fits_bundles : (old : Runner C A L) → Runs keeps_events g mesh old → All (Fits g.elements old.unposted.items) old.sent.items
  fits_bundles old runs = λ at t low i d within.
      subst (λ (b : Bounds). IsNearToken b (get_or old.sent.items at t)) (sym (runs.1.tidy.within i d within)) (runs.1.tidy.near at t low)

  pub kept_count : (old : Runner C A L) → Runs keeps_events g mesh old → length old.unposted.items ≡ g.elements
  kept_count old runs = runs.1.tidy.count

  -- the bundles have the same tokens
  pub keeps_bundles : (old : Runner C A L) (unposted : Vec BundleView A) → KeepsTokens g.elements old.unposted.items unposted.items []
      → Keeps keeps_events g mesh old (record old { unposted = unposted })
  keeps_bundles old unposted keeps = λ start r.
      let rest = drop old.bundled old.sent.items in
      let same : IsPermutation (bundles old.unposted.items) (bundles unposted.items) = IsPermutation-sym _ _
      (at_last keeps.tokens (append-nil (bundles old.unposted.items))) in
      record {
        at = r.at;
        alone = r.alone;
        runs = r.runs;
        blocks = r.blocks;
        short = r.short;
        noted = r.noted;
        unlogged = r.unlogged;
        ran = ran_beside g mesh start old.seat.own.element (held_of old.lane) old.seat.own.deeds old.seat.own.held (away old) r.ran
            (old.unqueued.tokens ++ (bundles unposted.items ++ rest))
            (IsPermutation-append_right old.unqueued.tokens _ _ (IsPermutation-append_left rest _ _ same));
        tidy = record { count = keeps.count ∙ r.tidy.count; addressed = keeps.addressed r.tidy.addressed; within = λ i d low. keeps.bounds i d low ∙ r.tidy.within i d low; near = r.tidy.near; created = r.tidy.created; few = r.tidy.few };
      }

  -- all are bundled
  pub keeps_cleared : (old : Runner C A L) (sent : Vec Token A) → length old.sent.items ≤ old.bundled → sent.items ≡ []
      → Keeps keeps_events g mesh old (record old { sent = sent; bundled = 0 })
  keeps_cleared old sent past none = λ start r.
      let same : drop old.bundled old.sent.items ≡ sent.items = drop_all old.bundled old.sent.items past ∙ sym none in
      record {
        at = r.at;
        alone = r.alone;
        runs = r.runs;
        blocks = r.blocks;
        short = r.short;
        noted = r.noted;
        unlogged = r.unlogged;
        ran = ran_beside g mesh start old.seat.own.element (held_of old.lane) old.seat.own.deeds old.seat.own.held (away old) r.ran
            (old.unqueued.tokens ++ (bundles old.unposted.items ++ sent.items))
            (permutation_same _ _ (ap (λ (l : List Token). old.unqueued.tokens ++ (bundles old.unposted.items ++ l)) same));
        tidy = record {
          count = r.tidy.count;
          addressed = r.tidy.addressed;
          within = r.tidy.within;
          near = subst (λ (l : List Token). All (IsNearToken (bounds_of g)) l) (sym none) (All-nil (IsNearToken (bounds_of g)));
          created = r.tidy.created;
          few = r.tidy.few;
        };
      }

-- BUNDLES
module _ where
  abbrev in_all : List BundleView → List Token
  in_all vs = flat_map (λ (v : BundleView). v.tokens) vs

  -- one bundle for another
  pub bundle_set : (vs : List BundleView) (i : ℕ) (d v : BundleView) → i < length vs
      → IsPermutation (in_all vs ++ v.tokens) (in_all (slice_set vs i v) ++ (get_or vs i d).tokens)
  bundle_set [] i d v low = absurd (omega (arith, low))
  bundle_set (x ∷ xs) zero d v low = shuffled (x.tokens ∷ in_all xs ∷ v.tokens ∷ []) ((Piece 0 ⊕ Piece 1) ⊕ Piece 2) ((Piece 2 ⊕ Piece 1) ⊕ Piece 0) refl
  bundle_set (x ∷ xs) (suc i) d v low =
      let rest = bundle_set xs i d v (omega arith) in
      at_first (append_assoc x.tokens (in_all xs) v.tokens) (at_last (IsPermutation-append_right x.tokens _ _ rest)
      (sym (append_assoc x.tokens (in_all (slice_set xs i v)) (get_or xs i d).tokens)))

  pub get_same : (vs : List BundleView) (i : ℕ) (d v : BundleView) → i < length vs → get_or (slice_set vs i v) i d ≡ v
  get_same [] i d v low = absurd (omega (arith, low))
  get_same (x ∷ xs) zero d v low = refl
  get_same (x ∷ xs) (suc i) d v low = get_same xs i d v (omega arith)

  pub get_other : (vs : List BundleView) (i k : ℕ) (d v : BundleView) → k ≢ i → get_or (slice_set vs i v) k d ≡ get_or vs k d
  get_other [] i k d v ne = refl
  get_other (x ∷ xs) zero zero d v ne = absurd (ne refl)
  get_other (x ∷ xs) zero (suc k) d v ne = refl
  get_other (x ∷ xs) (suc i) zero d v ne = refl
  get_other (x ∷ xs) (suc i) (suc k) d v ne = get_other xs i k d v (λ (s : k ≡ i). ne (ap (λ (n : ℕ). suc n) s))

  -- one bundle has other tokens
  changed : (n : ℕ) (vs : List BundleView) (i : ℕ) (x new : BundleView) (more : List Token) → length vs ≡ n → i < length vs → x ≡ get_or vs i x
      → new.tokens ≡ x.tokens ++ more → new.bounds ≡ x.bounds → AllTo n i more → KeepsTokens n vs (slice_set vs i new) more
  changed n vs i x new more count low is items bounds to =
      let set = slice_set vs i new in
      let swap : IsPermutation (in_all vs ++ (x.tokens ++ more)) (in_all set ++ x.tokens) = at_first
      (ap (λ (l : List Token). in_all vs ++ l) (sym items))
      (at_last (bundle_set vs i x new low) (ap (λ (v : BundleView). in_all set ++ v.tokens) (sym is))) in
      let front : IsPermutation (x.tokens ++ (in_all vs ++ more)) (in_all vs ++ (x.tokens ++ more)) = shuffled (x.tokens ∷ in_all vs ∷ more ∷ [])
      (Piece 0 ⊕ (Piece 1 ⊕ Piece 2)) (Piece 1 ⊕ (Piece 0 ⊕ Piece 2)) refl in
      let back : IsPermutation (in_all set ++ x.tokens) (x.tokens ++ in_all set) = shuffled (in_all set ∷ x.tokens ∷ []) (Piece 0 ⊕ Piece 1)
      (Piece 1 ⊕ Piece 0) refl in
      record {
        count = length-set vs i new;
        tokens = IsPermutation-sym _ _ (permutation_cancel x.tokens (in_all vs ++ more) (in_all set)
            (IsPermutation-trans _ _ _ front (IsPermutation-trans _ _ _ swap back)));
        addressed = λ all k d within. dite (ℕ_discrete k i)
            (λ hit.
            let own : AllTo n i x.tokens = subst (λ (v : BundleView). AllTo n i v.tokens) (sym is) (all i x (omega (arith, low, count))) in
            let both : AllTo n i (x.tokens ++ more) = All-append (λ (t : Token). element_of n t.to ≡ i) x.tokens more own to in
            let here : AllTo n i new.tokens = subst (λ (l : List Token). AllTo n i l) (sym items) both in
            let at : AllTo n i (get_or set i d).tokens = subst (λ (v : BundleView). AllTo n i v.tokens) (sym (get_same vs i d new low)) here in
            subst (λ (j : ℕ). AllTo n j (get_or set j d).tokens) (sym hit) at)
            (λ miss. subst (λ (v : BundleView). AllTo n k v.tokens) (sym (get_other vs i k d new miss)) (all k d within));
        bounds = λ k d within. dite (ℕ_discrete k i)
            (λ hit.
            let own : (get_or (slice_set vs i new) i d).bounds ≡ (get_or vs i d).bounds = ap (λ (v : BundleView). v.bounds) (get_same vs i d new low)
            ∙ bounds ∙ ap (λ (v : BundleView). v.bounds) (is ∙ get_or_default vs i x d low) in
            subst (λ (j : ℕ). (get_or (slice_set vs i new) j d).bounds ≡ (get_or vs j d).bounds) (sym hit) own)
            (λ miss. ap (λ (v : BundleView). v.bounds) (get_other vs i k d new miss));
      }

  -- no token more
  pub keeps_none : (n : ℕ) (vs : List BundleView) → KeepsTokens n vs vs []
  keeps_none n vs = record {
    count = refl;
    tokens = permutation_same _ _ (sym (append-nil (in_all vs)));
    addressed = λ all. all;
    bounds = λ i d low. refl;
  }

  -- some more, and then others
  pub keeps_both : (n : ℕ) (old mid new : List BundleView) (xs ys : List Token) → KeepsTokens n old mid xs → KeepsTokens n mid new ys
      → KeepsTokens n old new (xs ++ ys)
  keeps_both n old mid new xs ys one two = record {
    count = two.count ∙ one.count;
    tokens = at_last (IsPermutation-trans _ _ _ two.tokens (IsPermutation-append_left ys _ _ one.tokens)) (append_assoc (in_all old) xs ys);
    addressed = λ all. two.addressed (one.addressed all);
    bounds = λ i d low. two.bounds i d low ∙ one.bounds i d low;
  }

  pub still_fits : (n : ℕ) (old new : List BundleView) (xs : List Token) (t : Token) → KeepsTokens n old new xs → Fits n old t → Fits n new t
  still_fits n old new xs t keeps fits = λ i d low. subst (λ (b : Bounds). IsNearToken b t) (sym (keeps.bounds i d low)) (fits i d low)

  pub keeps_more : (n : ℕ) (vs : List BundleView) (i : ℕ) (x new : BundleView) (t : Token) → length vs ≡ n → i < length vs → x ≡ get_or vs i x
      → new.tokens ≡ x.tokens ++ t ∷ [] → new.bounds ≡ x.bounds → element_of n t.to ≡ i → KeepsTokens n vs (slice_set vs i new) (t ∷ [])
  keeps_more n vs i x new t count low is items bounds to = changed n vs i x new (t ∷ []) count low is items bounds (All-cons (λ (u : Token). element_of n u.to ≡ i)
      t [] to (All-nil (λ (u : Token). element_of n u.to ≡ i)))

  pub keeps_as_many : (n : ℕ) (vs : List BundleView) (i : ℕ) (x new : BundleView) → length vs ≡ n → i < length vs → x ≡ get_or vs i x → new ≡ x
      → KeepsTokens n vs (slice_set vs i new) []
  keeps_as_many n vs i x new count low is same = changed n vs i x new [] count low is
      (ap (λ (v : BundleView). v.tokens) same ∙ sym (append-nil x.tokens)) (ap (λ (v : BundleView). v.bounds) same)
      (All-nil (λ (u : Token). element_of n u.to ≡ i))

  -- a bundle is taken out for a post
  out_of : (vs : List BundleView) (i : ℕ) (x empty : BundleView) → i < length vs → x ≡ get_or vs i x → empty.tokens ≡ []
      → IsPermutation (in_all vs) (x.tokens ++ in_all (slice_set vs i empty))
  out_of vs i x empty low is none =
      let one : IsPermutation (in_all vs) (in_all (slice_set vs i empty) ++ x.tokens) = at_first (sym (append-nil (in_all vs))
      ∙ ap (λ (l : List Token). in_all vs ++ l) (sym none))
      (at_last (bundle_set vs i x empty low) (ap (λ (v : BundleView). in_all (slice_set vs i empty) ++ v.tokens) (sym is))) in
      IsPermutation-trans _ _ _ one (shuffled (in_all (slice_set vs i empty) ∷ x.tokens ∷ []) (Piece 0 ⊕ Piece 1) (Piece 1 ⊕ Piece 0) refl)

  set_again : (vs : List BundleView) (i : ℕ) (a b : BundleView) → slice_set (slice_set vs i a) i b ≡ slice_set vs i b
  set_again [] i a b = refl
  set_again (x ∷ xs) zero a b = refl
  set_again (x ∷ xs) (suc i) a b = ap (λ (l : List BundleView). x ∷ l) (set_again xs i a b)

  module _ {A C L : Type 0} (keeps_events : Bool) (g : Setting) (mesh : MeshId) (old : Runner C A L) (i : ℕ) (x empty : BundleView)
      (low : i < length old.unposted.items) (is : x ≡ get_or old.unposted.items i x) (none : empty.tokens ≡ []) (fits : empty.bounds ≡ bounds_of g) where
    abbrev others : List Token
    others = in_all (slice_set old.unposted.items i empty) ++ drop old.bundled old.sent.items

    beside_out : IsPermutation (away old) (x.tokens ++ (old.unqueued.tokens ++ others))
    beside_out =
        let rest = drop old.bundled old.sent.items in
        let set = slice_set old.unposted.items i empty in
        IsPermutation-trans _ _ _ (IsPermutation-append_right old.unqueued.tokens _ _
        (IsPermutation-append_left rest _ _ (out_of old.unposted.items i x empty low is none)))
        (shuffled (old.unqueued.tokens ∷ x.tokens ∷ in_all set ∷ rest ∷ []) (Piece 0 ⊕ ((Piece 1 ⊕ Piece 2) ⊕ Piece 3))
        (Piece 1 ⊕ (Piece 0 ⊕ (Piece 2 ⊕ Piece 3))) refl)

    pub may_post : Runs keeps_events g mesh old → Has old.seat.own.held x.tokens
    may_post (start, r) =
        let q = old.lane.held.queue in (
          q ++ (old.unqueued.tokens ++ others),
          IsPermutation-trans _ _ _ r.ran.holds (IsPermutation-trans _ _ _ (IsPermutation-append_right q _ _ beside_out)
              (shuffled (q ∷ x.tokens ∷ (old.unqueued.tokens ++ others) ∷ []) (Piece 0 ⊕ (Piece 1 ⊕ Piece 2)) (Piece 1 ⊕ (Piece 0 ⊕ Piece 2)) refl)),
        )

    pub keeps_posted : (unposted : Vec BundleView A) (s : SeatView) → unposted.items ≡ slice_set old.unposted.items i empty → i < g.elements
        → Posts i x.tokens old.seat s → Keeps keeps_events g mesh old (record old { unposted = unposted; seat = s })
    keeps_posted unposted s kept_is within posts = λ start r.
        let own = old.seat.own in
        let whole = posts.2 in
        let beside : old.unqueued.tokens ++ (in_all unposted.items ++ drop old.bundled old.sent.items) ≡ old.unqueued.tokens
        ++ others = ap (λ (l : List BundleView). old.unqueued.tokens ++ (in_all l ++ drop old.bundled old.sent.items)) kept_is in
        record {
          at = ap (λ (z : SeatView). z.mesh) whole ∙ r.at;
          alone = ap (λ (z : SeatView). z.joined) whole ∙ r.alone;
          runs = r.runs;
          blocks = r.blocks;
          short = r.short;
          noted = r.noted;
          unlogged = r.unlogged;
          ran = ran_as g mesh start own.element s.own.element (held_of old.lane) (held_of old.lane) (own.deeds ++ Posted i x.tokens ∷ []) s.own.deeds
              posts.0 s.own.held (old.unqueued.tokens ++ others) (old.unqueued.tokens ++ (in_all unposted.items ++ drop old.bundled old.sent.items))
              (ap (λ (z : SeatView). z.own.element) whole) refl (ap (λ (z : SeatView). z.own.deeds) whole) (ap (λ (z : SeatView). z.own.held) whole) beside
              (ran_posted g mesh start own.element (held_of old.lane) own.deeds own.held (away old) r.ran i x.tokens posts.0 (old.unqueued.tokens
              ++ others) within posts.1 beside_out);
          tidy = record {
            count = ap (λ (l : List BundleView). length l) kept_is ∙ length-set old.unposted.items i empty ∙ r.tidy.count;
            addressed = λ k d below. subst (λ (l : List BundleView). AllTo g.elements k (get_or l k d).tokens) (sym kept_is)
                (dite (ℕ_discrete k i)
                (λ hit. subst (λ (j : ℕ). AllTo g.elements j (get_or (slice_set old.unposted.items i empty) j d).tokens) (sym hit)
                (subst (λ (v : BundleView). AllTo g.elements i v.tokens) (sym (get_same old.unposted.items i d empty low))
                (subst (λ (l : List Token). AllTo g.elements i l) (sym none) (All-nil (λ (t : Token). element_of g.elements t.to ≡ i)))))
                (λ miss. subst (λ (v : BundleView). AllTo g.elements k v.tokens) (sym (get_other old.unposted.items i k d empty miss))
                (r.tidy.addressed k d below)));
            within = λ k d below. ap (λ (l : List BundleView). (get_or l k d).bounds) kept_is ∙ dite (ℕ_discrete k i)
                (λ hit. subst (λ (j : ℕ). (get_or (slice_set old.unposted.items i empty) j d).bounds ≡ bounds_of g) (sym hit)
                (ap (λ (v : BundleView). v.bounds) (get_same old.unposted.items i d empty low) ∙ fits))
                (λ miss. ap (λ (v : BundleView). v.bounds) (get_other old.unposted.items i k d empty miss) ∙ r.tidy.within k d below);
            near = r.tidy.near;
            created = created_same own.deeds s.own.deeds (Posted i x.tokens) old.created (ap (λ (z : SeatView). z.own.deeds) whole) refl r.tidy.created;
            few = r.tidy.few;
          };
        }

    pub keeps_refused : (unposted : Vec BundleView A) (back : BundleView) (s : SeatView) (spare : Vec BundleView A)
        → length old.unposted.items ≡ g.elements → unposted.items ≡ slice_set (slice_set old.unposted.items i empty) i back → back ≡ x
        → s ≡ noting old.seat (FoundFull i x.tokens) → Keeps keeps_events g mesh old (record old { unposted = unposted; seat = s; spare = spare })
    keeps_refused unposted back s spare count kept_is same found =
        let all : unposted.items ≡ slice_set old.unposted.items i back = kept_is ∙ set_again old.unposted.items i empty back in
        let keeps : KeepsTokens g.elements old.unposted.items unposted.items [] = subst (λ (l : List BundleView). KeepsTokens g.elements
        old.unposted.items l []) (sym all) (keeps_as_many g.elements old.unposted.items i x back count low is same) in
        let mid : Runner C A L = record old { unposted = unposted } in
        let full : Runner C A L = record old { unposted = unposted; seat = s } in
        keeps_twice keeps_events g mesh old mid (record full { spare = spare }) (keeps_bundles keeps_events g mesh old unposted keeps)
        (keeps_twice keeps_events g mesh mid full (record full { spare = spare }) (keeps_noting keeps_events g mesh mid s
        (FoundFull i x.tokens) (found_full i x.tokens) refl found) (keeps_sparing keeps_events g mesh full spare))

-- THE END
module _ {C A L : Type 0} (order : Take) (keeps_events : Bool) (g : Setting) (mesh : MeshId) (may_stop : Bool) where
  left_as : (old new : Runner C A L) (departure : Departure) → held_of new.lane ≡ held_of old.lane → new.seat.mesh ≡ old.seat.mesh → new.seat.own.last
      ≡ old.seat.own.last → IsDeparture order g may_stop old departure → IsDeparture order g may_stop new departure
  left_as old new Departure.Lost lane at last is = tt
  left_as old new (Departure.Halted halt) lane at last is = subst (λ (h : Holding). HaltsFreely order g may_stop h (Some halt)) (sym lane) is
  left_as old new Departure.Rested lane at last is = (
    subst (λ (m : MeshId). Leaves m new.seat.own.last 0) (sym at) (subst (λ (l : List Commit). Leaves old.seat.mesh l 0) (sym last) is.0),
    subst (λ (h : Holding). HasNoReason order g h) (sym lane) is.1,
  )
  left_as old new Departure.Stopped lane at last is = subst (λ (h : Holding). HasNoReason order g h) (sym lane) is
  left_as old new Departure.Waited lane at last is = subst (λ (h : Holding). HasNone order h) (sym lane) is

  -- it left, and then called for a stop if it had to
  pub ended : (old mid new : Runner C A L) (departure : Departure) → StaysAt old mid → (departure ≢ Departure.Lost → Keeps keeps_events g mesh old mid)
      → IsDeparture order g may_stop mid departure
      → StaysAt (record mid { departure = departure }) new → Keeps keeps_events g mesh (record mid { departure = departure }) new → held_of new.lane
      ≡ held_of mid.lane → new.seat.own.last ≡ mid.seat.own.last → new.departure ≡ departure → (departure ≡ Departure.Waited → IsClear new)
      → Ended order keeps_events g mesh may_stop old new
  ended old mid new departure first keeps is second again lane last same clear = record {
    stays = (second.0 ∙ first.0, second.1 ∙ first.1, second.2 ∙ first.2);
    keeps = λ ne. keeps_twice keeps_events g mesh old mid new (keeps (λ (e : departure ≡ Departure.Lost). ne (same ∙ e)))
        (keeps_twice keeps_events g mesh mid (record mid { departure = departure }) new (keeps_leaving keeps_events g mesh mid departure) again);
    departure = subst (λ (l : Departure). IsDeparture order g may_stop new l) (sym same) (left_as mid new departure lane second.0 last is);
    clear = λ w. clear (sym same ∙ w);
  }

  -- it waited in vain, and went on
  pub ended_twice : (old mid new : Runner C A L) → mid.departure ≡ Departure.Waited → Ended order keeps_events g mesh may_stop old mid
      → Ended order keeps_events g mesh may_stop mid new → Ended order keeps_events g mesh may_stop old new
  ended_twice old mid new waited one two = record {
    stays = (two.stays.0 ∙ one.stays.0, two.stays.1 ∙ one.stays.1, two.stays.2 ∙ one.stays.2);
    keeps = λ ne. keeps_twice keeps_events g mesh old mid new (one.keeps (λ (e : mid.departure ≡ Departure.Lost). let no : ⊥ = cc in no)) (two.keeps ne);
    departure = two.departure;
    clear = two.clear;
  }

  -- one that waited in vain runs still, and is clear
  pub waits_ready : (old mid : Runner C A L) → Runs keeps_events g mesh old → mid.departure ≡ Departure.Waited → Ended order keeps_events g mesh may_stop old mid
      → Runs keeps_events g mesh mid × IsClear mid
  waits_ready old mid runs waited one = (
    runs_on keeps_events g mesh old mid runs (one.keeps (λ (e : mid.departure ≡ Departure.Lost). let no : ⊥ = cc in no)),
    one.clear waited,
  )
