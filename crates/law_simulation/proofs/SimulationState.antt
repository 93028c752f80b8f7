-- A state of the new run and one of the old: the relation, and what it says of the words that arrive.
use Rattle.std.proofs.Common.{◌≡◌, refl, sym, ap, ◌∙◌, subst, ℕ, ◌+◌, ◌*◌, ◌⊎◌, inl, inr, true, true≢false, ℤ, List, [], ◌∷◌, ◌++◌, Option, Some, None}
use Rattle.std.proofs.Common.{IsPermutation, Contains, arith}
use Rattle.std.proofs.lemmas.List.Elements.{Contains-append_left, Contains-append_right, Contains-append_cases}
use Rattle.lemmas.proofs.Contains.{contains_cases, contains_none}
use Rattle.lemmas.proofs.Lists.{map_append}
use Rattle.tags.specs.declared.token.Port.{Port}
use Rattle.tags.specs.declared.token.Port.TheVariants.{Left, Right}
use Rattle.tags.specs.declared.token.Cont.{Cont}
use Rattle.tags.specs.declared.token.Word.{Word}
use Rattle.tags.specs.declared.token.To.{To}
use Rattle.tags.specs.declared.token.Token.{Token}
use Rattle.tags.specs.declared.slot.SlotState.{SlotState}
use Rattle.tags.specs.declared.slot.SlotState.TheVariants as Slot
use Rattle.tags.specs.declared.slot.SlotState.TheVariants.{Empty, Credits, Waiter, Draining}
use Rattle.semantics.specs.declared.program.Op.{Op}
use Rattle.semantics.specs.declared.program.Op.TheVariants.{Return, Ask, Release}
use Rattle.semantics.specs.Program.{Instr, Program, first_of, instr_at}
use Rattle.semantics.specs.Rule.{token, slot_of}
use Rattle.semantics.specs.Machine.{Machine, Store as MStore, Size, Events, at_start, slot_in}
use Rattle.semantics.specs.Cause.{request_count, credit_count, is_credit_event}
use Rattle.semantics.specs.Handed.{EachOnce, UsesEachOnce}
use Rattle.semantics.specs.Plan.{Plan, is_credit}
use Rattle.semantics.specs.Wired.{IsWired}
use Rattle.semantics.specs.Orderly.{Orderly, IsOrderlyRun, IsStart, met}
use Rattle.law_reuse.proofs.SlotsTurns.{dyadic_not_credit}
use Rattle.law_reuse.proofs.SlotsPlaced.{Found, found}
use Rattle.law_reuse.proofs.SlotsPlaced as Places
use Rattle.law_reuse.proofs.SlotsFillings.{at_port, Filled, EmptyOr}
use Rattle.law_reuse.proofs.SlotsUsedArcs.{one_frame}
use Rattle.law_reuse.proofs.SlotsFirings.{holders_of}
use Rattle.law_reuse.proofs.SlotsHistory.{taken, ports_of}
use Rattle.law_fresh_frames.specs.Alike.{offset_of, LandsRightly}
use Rattle.law_reuse.proofs.BoundsTallies.{Counter, Grants, Releases, count_at}
use Rattle.law_fresh_frames.proofs.BoundedWeights.{tot}
use Rattle.law_simulation.specs.Places.{ip_store, ip_to}
use Rattle.law_simulation.specs.Simulates.{Arrives, FitsSlot, Goes, Plain, Relates, Stands}
use Rattle.law_simulation.proofs.SimulationCounts.{Counted}
use Rattle.law_simulation.proofs.SimulationParts.{Clump, Sums, meant_of, seen_of}
use Rattle.law_simulation.proofs.SimulationPast.{Reached, order_of}
use Rattle.law_simulation.proofs.SimulationTold.{Came, Told}
use Rattle.law_simulation.proofs.SimulationTraces.{Step}

-- of what is at no instruction
pub same_credit : (p q : Program) (h : ℕ → ℕ) (to : To) → ((f a : ℕ) (r : Port) → to ≡ To.Instr f a r → ⊥)
    → is_credit_event q (ip_to h to) ≡ is_credit_event p to
same_credit p q h (To.Instr f a r) apart = absurd (apart f a r refl)
same_credit p q h (To.Fetch x) apart = refl
same_credit p q h (To.Store x v) apart = refl
same_credit p q h To.Manager apart = refl
same_credit p q h (To.Release f) apart = refl
same_credit p q h (To.Host j) apart = refl

pub not_instr : (h : ℕ → ℕ) (to : To) → ((f a : ℕ) (r : Port) → to ≡ To.Instr f a r → ⊥) → (f a : ℕ) (r : Port) → ip_to h to ≡ To.Instr f a r → ⊥
not_instr h (To.Instr k b s) apart f a r e = apart k b s refl
not_instr h (To.Fetch x) apart f a r e = cc
not_instr h (To.Store x v) apart f a r e = cc
not_instr h To.Manager apart f a r e = cc
not_instr h (To.Release k) apart f a r e = cc
not_instr h (To.Host j) apart f a r e = cc

-- the counter of what is counted in the new code
abbrev pub new_counter : (ℕ → ℕ) → Counter → Counter
new_counter h (Grants loop) = Grants loop
new_counter h (Releases base) = Releases (h base)

-- what steps count
abbrev pub counted_of : Plan → (ℕ → ℕ) → List Step → Counter → ℕ → ℕ
counted_of q h ss x f = tot (λ (s : Step). count_at q q.program (new_counter h x) f s.before s.taken.to s.made) ss

module _ (p q : Plan) (S : Relates p q) (wired : IsWired p) (orderly : Orderly p) (lands : LandsRightly p) (inputs : List ℤ) (z : Size)
    (start : IsStart p z inputs) where
  abbrev P : Program
  P = p.program

  abbrev Q : Program
  Q = q.program

  abbrev g : ℕ → ℕ
  g = S.g

  abbrev h : ℕ → ℕ
  h = S.h

  abbrev first : Machine
  first = at_start P inputs

  abbrev total : ℕ
  total = z.elements * z.frames

  abbrev pub C : Type 0
  C = Clump P Q g h

  abbrev pub seen_in : List C → List Token
  seen_in cs = seen_of P Q g h cs

  abbrev pub meant_in : List C → List Token
  meant_in cs = meant_of P Q g h cs

  abbrev pub Past : MStore → List Token → Sums → Type 0
  Past = Reached p q g h S.answers wired orderly inputs z start

  abbrev pub Known : List Token → List Token → List C → Type 0
  Known = Counted P Q g h S.apart S.pairs_apart

  abbrev pub sums : Events → List ℕ → List Step → List Token → List Token → List Token → Sums
  sums events gone ss pool olds spent =
      record {
        gone = gone;
        asked = request_count events;
        credited = credit_count Q events;
        olds = olds;
        spent = spent;
        counts = counted_of q h ss;
        arcs = Told p q S ss pool;
      }

  -- ---- THE RELATION
  -- what the token stands for was met in the run of the old code
  pub record Explained (done : Events) (last : Machine) (t : Token) : Type 0 where
    pub tokens : List Token
    pub stands : Stands P Q g h t tokens
    pub were : (u : Token) → Contains tokens u → Contains (met done last) u

  pub record Sim (events : Events) (m : Machine) (gone : List ℕ) (ss : List Step) : Type 0 where
    pub old : MStore
    pub clumps : List C
    pub part : Past old (meant_in clumps) (sums events gone ss m.pool [] [])
    pub seen : IsPermutation m.pool (seen_in clumps)
    pub store : m.store ≡ ip_store h old
    pub known : (t : Token) → Contains (taken events) t → Explained part.done part.last t
    pub counted : Known (taken events) (taken part.done) clumps
    pub came : Came p q S ss m.pool

  pub explained_later : (done more : Events) (last last1 : Machine) → ((u : Token) → Contains (met done last) u → Contains (met more last1) u) → (t : Token)
      → Explained done last t → Explained more last1 t
  explained_later done more last last1 grows t E = record { tokens = E.tokens; stands = E.stands; were = λ u inside. grows u (E.were u inside) }

  pub explained_last : (events : Events) (e : ℕ) (t : Token) (done : Events) (last : Machine)
      → ((x : Token) → Contains (taken events) x → Explained done last x) → Explained done last t
      → (x : Token) → Contains (taken (events ++ (e, t) ∷ [])) x → Explained done last x
  explained_last events e t done last all one x inside =
      go (Contains-append_cases (taken events) (t ∷ []) x
      (subst (λ (l : List Token). Contains l x) (map_append (λ (ev : ℕ × Token). ev.1) events ((e, t) ∷ [])) inside))
    where
      pick : (t ≡ x) ⊎ Contains [] x → Explained done last x
      pick (inl d) = subst (Explained done last) d one
      pick (inr c) = absurd (contains_none x c)

      go : Contains (taken events) x ⊎ Contains (t ∷ []) x → Explained done last x
      go (inl c) = all x c
      go (inr c) = pick (contains_cases t [] x c)

  pub taken_more : (events : Events) (e : ℕ) (t : Token) → taken (events ++ (e, t) ∷ []) ≡ taken events ++ t ∷ []
  taken_more events e t = map_append (λ (ev : ℕ × Token). ev.1) events ((e, t) ∷ [])

  module _ (events : Events) (m : Machine) (gone : List ℕ) (ss : List Step) (V : Sim events m gone ss) (once : EachOnce (0 ∷ gone)) where
    abbrev pub olds : List Token
    olds = met V.part.done V.part.last

    abbrev pub T : Sums
    T = sums events gone ss m.pool olds (taken V.part.done)

    pub past_of : Past V.old (meant_in V.clumps) T
    past_of = record {
      done = V.part.done;
      last = V.part.last;
      run = V.part.run;
      hands = V.part.hands;
      kept = V.part.kept;
      same = V.part.same;
      pool = V.part.pool;
      requests = V.part.requests;
      credits = V.part.credits;
      grown = λ x c. c;
      took = λ f a r. omega arith;
      counts = V.part.counts;
      words = V.part.words;
      arcs = V.part.arcs;
    }

    pub O : IsOrderlyRun p z first V.part.done V.part.last V.part.run
    O = order_of p q g h S.answers wired orderly inputs z start V.old (meant_in V.clumps) (sums events gone ss m.pool [] []) V.part once

    was_once : UsesEachOnce P z inputs V.part.done V.part.last V.part.run
    was_once = subst (λ (l : List ℕ). EachOnce (0 ∷ l)) (sym V.part.hands) once

    -- a left word at the instruction has a landing
    goes : (f a : ℕ) (i : Instr) → instr_at P a ≡ Some i → (l : Word) → Contains (met V.part.done V.part.last) (token (To.Instr f a Left) l)
        → Goes P Q h i.op l
    goes f a i at l inside = go i.op l refl refl
      where
        by : (o g base : ℕ) (r : Port) → offset_of i.op ≡ Some o → l ≡ Word.Back (Cont.Frame g base r) → (h (base + o) ≡ h base + o) × Plain P Q h (base + o)
        by o g base r is e =
            S.landings base o (lands inputs z V.part.done V.part.last start V.part.run was_once f a g base o r i at is
            (subst (λ (l : Word). Contains (met V.part.done V.part.last) (token (To.Instr f a Left) l)) e inside))

        go : (op : Op) (w : Word) → i.op ≡ op → l ≡ w → Goes P Q h op w
        go (Return o) (Word.Back (Cont.Frame g base r)) is e = by o g base r (ap offset_of is) e
        go (Ask o) (Word.Back (Cont.Frame g base r)) is e = by o g base r (ap offset_of is) e
        go (Release o) (Word.Back (Cont.Frame g base r)) is e = by o g base r (ap offset_of is) e
        go (Return o) (Word.Back (Cont.Host j)) is e = tt
        go (Ask o) (Word.Back (Cont.Host j)) is e = tt
        go (Release o) (Word.Back (Cont.Host j)) is e = tt
        go (Return o) (Word.Val v) is e = tt
        go (Ask o) (Word.Val v) is e = tt
        go (Release o) (Word.Val v) is e = tt
        go (Return o) (Word.Frame g) is e = tt
        go (Ask o) (Word.Frame g) is e = tt
        go (Release o) (Word.Frame g) is e = tt
        go op w is e = tt

    -- a word that waits in the slot arrived at the left port of the instruction
    came : (f a : ℕ) (r : Port) (w l : Word) (i : Instr) → instr_at P a ≡ Some i → Contains V.part.last.pool (token (To.Instr f a r) w) → (o : Option ℕ)
        → slot_of i i.op ≡ o → slot_in V.part.last.store f o ≡ Slot.Left l
        → Contains (met V.part.done V.part.last) (token (To.Instr f a Left) l)
    came f a r w l i at inside None holds e = absurd (no_left e)
      where
        no_left : Empty ≡ Slot.Left l → ⊥
        no_left e = cc
    came f a r w l i at inside (Some k) holds e = go (V.part.kept.filled f k)
      where
        F : Found P a i
        F = found P a i at

        no_left : (x : SlotState) → x ≡ Empty → x ≡ Slot.Left l → ⊥
        no_left x d e = cc

        go : EmptyOr P (taken V.part.done) f k (V.part.last.store.slots f k) → Contains (met V.part.done V.part.last) (token (To.Instr f a Left) l)
        go (inl d) = absurd (no_left (V.part.last.store.slots f k) d e)
        go (inr G0) =
            let G : Filled P (taken V.part.done) f k (Slot.Left l) = subst (Filled P (taken V.part.done) f k) e G0 in
            let T : Contains (taken V.part.done) (at_port P f G.b G.n Left l) = G.asserts.1 in
            let inside_b : Contains V.part.last.pool (at_port P f F.b F.n r w) =
            subst (λ (x : ℕ). Contains V.part.last.pool (token (To.Instr f x r) w)) F.place inside in
            let same_b : G.b ≡ F.b = one_frame p (taken V.part.done) V.part.last.pool
            (ports_of p z first V.part.done V.part.last V.part.run O) f G.b F.b G.n F.n G.i i Left r l w G.stands F.stands
            (Contains-append_left (taken V.part.done) V.part.last.pool (at_port P f G.b G.n Left l) T)
            (Contains-append_right (taken V.part.done) V.part.last.pool (at_port P f F.b F.n r w) inside_b) in
            let st : Places.IsPlaced P F.b G.n G.i = subst (λ (b : ℕ). Places.IsPlaced P b G.n G.i) same_b G.stands in
            let same_n : G.n ≡ F.n = pick G (holders_of p wired F.b G.n F.n k G.i i st F.stands G.holds holds) in
            let place : first_of P G.b + G.n ≡ a = (λ t. first_of P (same_b t) + same_n t) ∙ sym F.place in
            subst (λ (x : ℕ). Contains (met V.part.done V.part.last) (token (To.Instr f x Left) l)) place
            (Contains-append_left (taken V.part.done) V.part.last.pool (at_port P f G.b G.n Left l) T)
          where
            pick : (G : Filled P (taken V.part.done) f k (Slot.Left l)) {A B : Type 0} → (G.n ≡ F.n) ⊎ ((is_credit G.i.op ≡ true) × A × B) → G.n ≡ F.n
            pick G (inl e) = e
            pick G (inr c) = absurd (true≢false (sym c.0 ∙ dyadic_not_credit G.i.op G.asserts.0))

    pub arrives : (f a : ℕ) (r : Port) (w : Word) (i : Instr) → instr_at P a ≡ Some i → Contains V.part.last.pool (token (To.Instr f a r) w)
        → Arrives P Q h i.op (slot_in V.part.last.store f (slot_of i i.op)) r w
    arrives f a r w i at inside = go (slot_in V.part.last.store f (slot_of i i.op)) r refl inside
      where
        go : (x : SlotState) (r : Port) → slot_in V.part.last.store f (slot_of i i.op) ≡ x → Contains V.part.last.pool (token (To.Instr f a r) w)
            → Arrives P Q h i.op x r w
        go (Slot.Left l) Right e inn = goes f a i at l (came f a Right w l i at inn (slot_of i i.op) refl e)
        go (Slot.Right l) Left e inn = goes f a i at w (Contains-append_right (taken V.part.done) V.part.last.pool (token (To.Instr f a Left) w) inn)
        go (Slot.Left l) Left e inn = tt
        go (Slot.Right l) Right e inn = tt
        go Empty r e inn = tt
        go (Credits n) r e inn = tt
        go (Waiter c) r e inn = tt
        go (Draining n) r e inn = tt

    pub arrives_old : (f a : ℕ) (r : Port) (w : Word) (i : Instr) → instr_at P a ≡ Some i → Contains V.part.last.pool (token (To.Instr f a r) w)
        → Arrives P Q h i.op (slot_in V.old f (slot_of i i.op)) r w
    arrives_old f a r w i at inside = subst (λ (s : MStore). Arrives P Q h i.op (slot_in s f (slot_of i i.op)) r w) V.part.same (arrives f a r w i at inside)

    pub slot_fits : (f : ℕ) (o : Option ℕ) → FitsSlot P Q h (slot_in V.old f o)
    slot_fits f None = tt
    slot_fits f (Some r) = subst (λ (s : MStore). FitsSlot P Q h (s.slots f r)) V.part.same (V.part.words.1.slots f r)
