-- What holds of an element before its first event.
use Rattle.std.proofs.Common.{◌≡◌, ◌≢◌, refl, sym, ◌∙◌, ap, subst, ℕ, zero, suc, ◌+◌, ◌<◌, Bool, List, [], ◌∷◌, ◌++◌, drop, get_or, Some, arith}
use Rattle.std.specs.Prelude.{All, slice_get, filter, flat_map, ◌==◌, if◌then◌else◌}
use Rattle.std.proofs.lemmas.Bool.{ne_eqb, eq-eqb}
use Rattle.std.proofs.lemmas.List.{append-nil}
use Rattle.std.proofs.lemmas.List.Elements.{All-head, All-tail, All-nil, filter-append}
use Rattle.std.proofs.lemmas.List.Sorted.{IsPermutation-refl}
use Rattle.law_confluence.proofs.Orders.{at_first, at_last}
use Rattle.tags.specs.declared.token.Token.{Token}
use Rattle.tags.specs.Addresses.{element_of}
use Rattle.element.specs.Near.{Bounds, IsNearToken}
use Rattle.element.specs.Holding.{Holding, held_of, fixed_of}
use Rattle.schedule.specs.Setting.{Setting}
use Rattle.schedule.specs.State.{AllFrom, IsPlaced, RunsAs, tokens_in}
use Rattle.schedule.proofs.Places.{first_get}
use Rattle.mesh.specs.declared.view.Deed.{Deed}
use Rattle.mesh.specs.Seats.{MeshId, SeatView, AllTo, fresh_seat}
use Rattle.machine.specs.declared.runner.Runner.{Runner}
use Rattle.ordering.specs.Noted.{Noted}
use Rattle.ordering.specs.Logs.{Logs}
use Rattle.ordering.proofs.Logging.{notes_nothing}
use Rattle.law_linearization.specs.History.{bounds_of}
use Rattle.machine.specs.Bundles.{BundleView}
use Rattle.machine.specs.Blocks.{IsShort}
use Rattle.machine.specs.Runners.{IsRunning, IsClear, away}
use Rattle.machine.specs.Starts.{IsNew}
use Rattle.mesh.specs.Deeds.{commits_of, created}
use Rattle.machine.proofs.Accounts.{Balance, first_balanced}

-- THE TOKENS OF A LANE among those of all
abbrev to_be : ℕ → ℕ → Token → Bool
to_be n e t = element_of n t.to == e

all_pass : (n e : ℕ) (ts : List Token) → All (λ (t : Token). element_of n t.to ≡ e) ts → filter (to_be n e) ts ≡ ts
all_pass n e [] all = refl
all_pass n e (t ∷ ts) all =
    let head : element_of n t.to ≡ e = All-head (λ (t : Token). element_of n t.to ≡ e) t ts all in
    let tail = all_pass n e ts (All-tail (λ (t : Token). element_of n t.to ≡ e) t ts all) in
    ap (λ (b : Bool). if b then t ∷ filter (to_be n e) ts else filter (to_be n e) ts) (eq-eqb (element_of n t.to) e head) ∙ ap (λ (l : List Token). t ∷ l) tail

none_pass : (n e k : ℕ) (ts : List Token) → k ≢ e → All (λ (t : Token). element_of n t.to ≡ k) ts → filter (to_be n e) ts ≡ []
none_pass n e k [] ne all = refl
none_pass n e k (t ∷ ts) ne all =
    let head : element_of n t.to ≡ k = All-head (λ (t : Token). element_of n t.to ≡ k) t ts all in
    let tail = none_pass n e k ts ne (All-tail (λ (t : Token). element_of n t.to ≡ k) t ts all) in
    ap (λ (b : Bool). if b then t ∷ filter (to_be n e) ts else filter (to_be n e) ts)
    (ne_eqb (element_of n t.to) e (λ (s : element_of n t.to ≡ e). ne (sym head ∙ s))) ∙ tail

addressed : (g : Setting) (k : ℕ) (h : Holding) → IsPlaced g k h → All (λ (t : Token). element_of g.elements t.to ≡ k) h.queue
addressed g k h p = subst (λ (m : ℕ). All (λ (t : Token). element_of g.elements t.to ≡ m) h.queue) p.element
    (subst (λ (n : ℕ). All (λ (t : Token). element_of n t.to ≡ h.part.shape.element) h.queue) p.elements p.sound.addressed)

none_later : (g : Setting) (e k : ℕ) (lanes : List Holding) → e < k → AllFrom (IsPlaced g) k lanes → filter (to_be g.elements e) (tokens_in lanes) ≡ []
none_later g e k [] low placed = refl
none_later g e k (h ∷ hs) low placed =
    let own = none_pass g.elements e k h.queue (λ (s : k ≡ e). omega (arith, low, s)) (addressed g k h placed.0) in
    let rest = none_later g e (suc k) hs (omega (arith, low)) placed.1 in
    filter-append (to_be g.elements e) h.queue (tokens_in hs) ∙ ap (λ (l : List Token). l ++ filter (to_be g.elements e) (tokens_in hs)) own ∙ rest

own_from : (g : Setting) (e k i : ℕ) (lanes : List Holding) (h : Holding) → e ≡ k + i → AllFrom (IsPlaced g) k lanes → slice_get lanes i ≡ Some h
    → filter (to_be g.elements e) (tokens_in lanes) ≡ h.queue
own_from g e k i [] h at placed there = absurd (let no : ⊥ = cc in no)
own_from g e k zero (x ∷ xs) h at placed there =
    let same : x ≡ h = cc in
    let here : e ≡ k = omega (arith, at) in
    let own = all_pass g.elements e x.queue (subst (λ (m : ℕ). All (λ (t : Token). element_of g.elements t.to ≡ m) x.queue) (sym here)
    (addressed g k x placed.0)) in
    let rest = none_later g e (suc k) xs (omega (arith, here)) placed.1 in
    filter-append (to_be g.elements e) x.queue (tokens_in xs) ∙ ap (λ (l : List Token). l ++ filter (to_be g.elements e) (tokens_in xs)) own
    ∙ ap (λ (l : List Token). x.queue ++ l) rest ∙ append-nil x.queue ∙ ap (λ (y : Holding). y.queue) same
own_from g e k (suc i) (x ∷ xs) h at placed there =
    let own = none_pass g.elements e k x.queue (λ (s : k ≡ e). omega (arith, at, s)) (addressed g k x placed.0) in
    filter-append (to_be g.elements e) x.queue (tokens_in xs) ∙ ap (λ (l : List Token). l ++ filter (to_be g.elements e) (tokens_in xs)) own
    ∙ own_from g e (suc k) i xs h (omega (arith, at)) placed.1 there

pub own_tokens : (g : Setting) (e : ℕ) (lanes : List Holding) (h : Holding) → AllFrom (IsPlaced g) 0 lanes → slice_get lanes e ≡ Some h
    → filter (to_be g.elements e) (tokens_in lanes) ≡ h.queue
own_tokens g e lanes h placed there = own_from g e 0 e lanes h (omega arith) placed there

-- EMPTY BUNDLES
abbrev Blank : Bounds → BundleView → Type 0
Blank bounds b = (b.tokens ≡ []) × (b.bounds ≡ bounds)

no_tokens : (bounds : Bounds) (unposted : List BundleView) → All (Blank bounds) unposted → flat_map (λ (b : BundleView). b.tokens) unposted ≡ []
no_tokens bounds [] all = refl
no_tokens bounds (b ∷ bs) all =
    ap (λ (l : List Token). l ++ flat_map (λ (b : BundleView). b.tokens) bs) (All-head (Blank bounds) b bs all).0
    ∙ no_tokens bounds bs (All-tail (Blank bounds) b bs all)

module _ {C A L : Type 0} where
  nothing_beside : (bounds : Bounds) (r : Runner C A L) → IsClear r → All (Blank bounds) r.unposted.items → away r ≡ []
  nothing_beside bounds r (unqueued, sent, bundled) empty =
      ap (λ (l : List Token). l ++ (flat_map (λ (b : BundleView). b.tokens) r.unposted.items ++ drop r.bundled r.sent.items)) unqueued
      ∙ ap (λ (l : List Token). l ++ drop r.bundled r.sent.items) (no_tokens bounds r.unposted.items empty)
      ∙ ap (λ (n : ℕ). drop n r.sent.items) bundled ∙ sent

  -- a lane with its fresh seat
  pub new_running : (keeps_events : Bool) (g : Setting) (mesh : MeshId) (e : ℕ) (lanes : List Holding) (r : Runner C A L) → mesh.elements ≡ g.elements
      → mesh.start ≡ tokens_in lanes → AllFrom (IsPlaced g) 0 lanes → slice_get lanes e ≡ Some (held_of r.lane) → RunsAs g (fixed_of r.lane)
      → r.seat ≡ fresh_seat mesh e → IsNew g.elements (bounds_of g) r → IsRunning keeps_events g mesh (held_of r.lane) r
  new_running keeps_events g mesh e lanes r elements start placed there runs seat new =
      let h : Holding = held_of r.lane in
      let element : r.seat.own.element ≡ e = ap (λ (s : SeatView). s.own.element) seat in
      let deeds : r.seat.own.deeds ≡ [] = ap (λ (s : SeatView). s.own.deeds) seat in
      let mine : filter (to_be mesh.elements e) mesh.start ≡ h.queue = ap (λ (n : ℕ). filter (to_be n e) mesh.start) elements
      ∙ ap (λ (l : List Token). filter (to_be g.elements e) l) start ∙ own_tokens g e lanes h placed there in
      let held : r.seat.own.held ≡ h.queue = ap (λ (s : SeatView). s.own.held) seat ∙ mine in
      let beside : away r ≡ [] = nothing_beside (bounds_of g) r new.clear new.unposted.1 in
      record {
        at = ap (λ (s : SeatView). s.mesh) seat;
        alone = ap (λ (s : SeatView). s.joined) seat;
        runs = runs;
        blocks = [];
        short = All-nil (IsShort g);
        noted = λ on. subst (λ (n : Noted). Logs n []) (sym new.notes) notes_nothing;
        unlogged = new.log;
        ran = record {
          elements = elements;
          placed = subst (λ (i : ℕ). IsPlaced g i h) (sym element) (first_get (IsPlaced g) lanes e h placed there);
          leads = refl;
          count = omega arith;
          commits = ap (λ (ds : List Deed). commits_of r.seat.own.element ds) (sym deeds);
          balanced = subst (λ (ds : List Deed). Balance g.elements h.queue ds r.seat.own.held) (sym deeds)
              (subst (λ (l : List Token). Balance g.elements h.queue [] l) (sym held) (first_balanced g.elements h.queue));
          holds = at_last (at_first held (IsPermutation-refl h.queue)) (sym (append-nil h.queue) ∙ ap (λ (l : List Token). h.queue ++ l) (sym beside));
        };
        tidy = record {
          count = new.unposted.0;
          within = λ i d low. (new.unposted.1 i d (omega (arith, low, new.unposted.0))).1;
          near = subst (λ (l : List Token). All (IsNearToken (bounds_of g)) l) (sym new.clear.1) (All-nil (IsNearToken (bounds_of g)));
          addressed = λ i d low. let none : (get_or r.unposted.items i d).tokens ≡ [] = (new.unposted.1 i d (omega (arith, low, new.unposted.0))).0 in
              subst (λ (l : List Token). AllTo g.elements i l) (sym none) (All-nil (λ (t : Token). element_of g.elements t.to ≡ i));
          created = ap (λ (ds : List Deed). created ds) deeds ∙ sym new.created;
          few = omega (arith, new.created);
        };
      }
