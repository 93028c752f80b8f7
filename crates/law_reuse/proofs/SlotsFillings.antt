-- What a state of a run shows of the tokens that were taken before it: who filled a slot, which arcs were used, and that
-- a holder whose end was reached is empty for good.
use Rattle.std.proofs.Common.{◌≡◌, refl, sym, ap, ◌∙◌, subst, ℕ, ◌+◌, ◌≤◌, ◌⊎◌, inl, inr, Bool, true, true≢false, cond, List, [], ◌∷◌, ◌++◌, Option, Some, None}
use Rattle.std.proofs.Common.{Contains, arith}
use Rattle.std.specs.Prelude.{count_by}
use Rattle.std.proofs.lemmas.Bool.{cases_eq}
use Rattle.std.proofs.lemmas.List.Sums.{sum_by-append, sum_by-cons}
use Rattle.std.proofs.lemmas.List.Elements.{Contains-append_left, Contains-push}
use Rattle.lemmas.proofs.Contains.{contains_cases, contains_none}
use Rattle.tags.specs.declared.token.Port.{Port}
use Rattle.tags.specs.declared.token.Port.TheVariants.{Left, Right}
use Rattle.tags.specs.declared.token.Word.{Word}
use Rattle.tags.specs.declared.token.To.{To}
use Rattle.tags.specs.declared.token.Token.{Token}
use Rattle.tags.specs.declared.slot.SlotState.{SlotState}
use Rattle.tags.specs.declared.slot.SlotState.TheVariants as Slot
use Rattle.tags.specs.declared.slot.SlotState.TheVariants.{Empty, Credits, Waiter, Draining}
use Rattle.semantics.specs.Program.{Instr, Program, first_of}
use Rattle.semantics.specs.Rule.{token, Point, Outcome, Becomes, Excluded, outcome_of, rule_at, slot_of}
use Rattle.semantics.specs.Machine.{Store as MStore, put_at, slot_in, with_slot_in, slot_used, Fires, Happens}
use Rattle.semantics.specs.Plan.{is_open}
use Rattle.semantics.specs.Orderly.{is_at}
use Rattle.semantics.specs.Wired.{is_dyadic}
use Rattle.semantics.proofs.Ports.{is_at_itself}
use Rattle.law_reuse.proofs.FramesFold.{put_same, put_other}
use Rattle.law_reuse.proofs.SlotsPlaced.{IsPlaced, stands_at}
use Rattle.law_reuse.proofs.SlotsTurns.{is_counting, Turn, waits_left, waits_right, meets_right, meets_left, lone, begins, counts, turn_of}

-- ---- TOKENS AT PORTS

-- the token at a port of an instruction
abbrev pub at_port : Program → ℕ → ℕ → ℕ → Port → Word → Token
at_port p f b n q w = token (To.Instr f (first_of p b + n) q) w

-- a token came to the port
abbrev pub Came : Program → List Token → ℕ → ℕ → ℕ → Port → Type 0
Came p ts f b n q = (w : Word) × Contains ts (at_port p f b n q w)

abbrev pub later_on : {X : Type 0} (ts : List X) (t x : X) → Contains ts x → Contains (ts ++ t ∷ []) x
later_on ts t x c = Contains-append_left ts (t ∷ []) x c

count_some : (p : Token → Bool) (ts : List Token) (t : Token) → Contains ts t → p t ≡ true → 1 ≤ count_by p ts
count_some p [] t c e = absurd (contains_none t c)
count_some p (x ∷ ts) t c e =
    go (contains_cases x ts t c) (sum_by-cons (λ (x : Token). cond (p x) 1 0) x ts) (λ c. count_some p ts t c e)
  where
    go : (x ≡ t) ⊎ Contains ts t → count_by p (x ∷ ts) ≡ cond (p x) 1 0 + count_by p ts → (Contains ts t → 1 ≤ count_by p ts) → 1 ≤ count_by p (x ∷ ts)
    go (inl same) sum more =
        let one : cond {A = ℕ} (p x) 1 0 ≡ 1 = ap (λ (t : Token). cond {A = ℕ} (p t) 1 0) same ∙ ap (λ (b : Bool). cond {A = ℕ} b 1 0) e in
        omega (arith, sum, one)
    go (inr c) sum more = let some = more c in omega (arith, sum, some)

-- a port that gets one token at most does not get a second one
pub came_twice : (ts pool : List Token) (f ip : ℕ) (q : Port) (v w : Word) → count_by (λ (t : Token). is_at f ip q t.to) (ts ++ pool) ≤ 1
    → Contains ts (token (To.Instr f ip q) v) → Contains pool (token (To.Instr f ip q) w) → ⊥
came_twice ts pool f ip q v w few a b =
    let here : Token → Bool = λ (t : Token). is_at f ip q t.to in
    let one = count_some here ts (token (To.Instr f ip q) v) a (is_at_itself f ip q) in
    let two = count_some here pool (token (To.Instr f ip q) w) b (is_at_itself f ip q) in
    let both : count_by here (ts ++ pool) ≡ count_by here ts + count_by here pool = sum_by-append (λ (x : Token). cond (here x) 1 0) ts pool in
    omega (arith, few, one, two, both)

-- ---- WHO FILLED A SLOT

abbrev pub Opened : Program → List Token → ℕ → ℕ → ℕ → Instr → Type 0
Opened p ts f b n i = (is_open i.op ≡ true) × Came p ts f b n Left

abbrev pub Says : Program → List Token → ℕ → ℕ → ℕ → Instr → SlotState → Type 0
Says p ts f b n i Empty = ⊥
Says p ts f b n i (Slot.Left w) = (is_dyadic i.op ≡ true) × Contains ts (at_port p f b n Left w)
Says p ts f b n i (Slot.Right w) = (is_dyadic i.op ≡ true) × Contains ts (at_port p f b n Right w)
Says p ts f b n i s = Opened p ts f b n i

-- an instruction of holder h filled the slot
pub record Filled (p : Program) (ts : List Token) (f h : ℕ) (s : SlotState) : Type 0 where
  pub b : ℕ
  pub n : ℕ
  pub i : Instr
  pub stands : IsPlaced p b n i
  pub holds : slot_of i i.op ≡ Some h
  pub asserts : Says p ts f b n i s

says_more : (p : Program) (ts : List Token) (t : Token) (f b n : ℕ) (i : Instr) (s : SlotState) → Says p ts f b n i s → Says p (ts ++ t ∷ []) f b n i s
says_more p ts t f b n i Empty h = h
says_more p ts t f b n i (Slot.Left w) h = (h.0, later_on ts t (at_port p f b n Left w) h.1)
says_more p ts t f b n i (Slot.Right w) h = (h.0, later_on ts t (at_port p f b n Right w) h.1)
says_more p ts t f b n i (Credits k) h = (h.0, (h.1.0, later_on ts t (at_port p f b n Left h.1.0) h.1.1))
says_more p ts t f b n i (Waiter c) h = (h.0, (h.1.0, later_on ts t (at_port p f b n Left h.1.0) h.1.1))
says_more p ts t f b n i (Draining k) h = (h.0, (h.1.0, later_on ts t (at_port p f b n Left h.1.0) h.1.1))

pub filled_more : (p : Program) (ts : List Token) (t : Token) (f h : ℕ) (s : SlotState) → Filled p ts f h s → Filled p (ts ++ t ∷ []) f h s
filled_more p ts t f h s F = record { b = F.b; n = F.n; i = F.i; stands = F.stands; holds = F.holds; asserts = says_more p ts t f F.b F.n F.i s F.asserts }

pub opened_from : (p : Program) (ts : List Token) (f b n : ℕ) (i : Instr) (s : SlotState) → is_counting s ≡ true → Says p ts f b n i s → Opened p ts f b n i
opened_from p ts f b n i (Credits k) e h = h
opened_from p ts f b n i (Waiter c) e h = h
opened_from p ts f b n i (Draining k) e h = h
opened_from p ts f b n i s e h = absurd (true≢false (sym e))

says_opened : (p : Program) (ts : List Token) (f b n : ℕ) (i : Instr) (s : SlotState) → is_counting s ≡ true → Opened p ts f b n i → Says p ts f b n i s
says_opened p ts f b n i (Credits k) e h = h
says_opened p ts f b n i (Waiter c) e h = h
says_opened p ts f b n i (Draining k) e h = h
says_opened p ts f b n i s e h = absurd (true≢false (sym e))

pub none_some : (h : ℕ) (o : Option ℕ) → o ≡ None → o ≡ Some h → ⊥
none_some h o a b = cc

abbrev pub EmptyOr : Program → List Token → ℕ → ℕ → SlotState → Type 0
EmptyOr p ts f h s = (s ≡ Empty) ⊎ Filled p ts f h s

-- by an event of an instruction of the holder
filled_next : (p : Program) (ts : List Token) (s : Point) (f b n h : ℕ) (i : Instr) (slot : SlotState) (q : Port) (w : Word) (v : SlotState) (made : List Token)
    → IsPlaced p b n i → slot_of i i.op ≡ Some h → Turn p s i i.op slot q w v made → EmptyOr p ts f h slot → EmptyOr p (ts ++ at_port p f b n q w ∷ []) f h v
filled_next p ts s f b n h i slot q w v made at holds (waits_left d was port is none) before =
    let t : Token = at_port p f b n q w in
    let same : t ≡ at_port p f b n Left w = ap (λ (q : Port). at_port p f b n q w) port in
    inr record {
      b = b;
      n = n;
      i = i;
      stands = at;
      holds = holds;
      asserts = subst (Says p (ts ++ t ∷ []) f b n i) (sym is) (d, subst (Contains (ts ++ t ∷ [])) same (Contains-push ts t));
    }
filled_next p ts s f b n h i slot q w v made at holds (waits_right d was port is none) before =
    let t : Token = at_port p f b n q w in
    let same : t ≡ at_port p f b n Right w = ap (λ (q : Port). at_port p f b n q w) port in
    inr record {
      b = b;
      n = n;
      i = i;
      stands = at;
      holds = holds;
      asserts = subst (Says p (ts ++ t ∷ []) f b n i) (sym is) (d, subst (Contains (ts ++ t ∷ [])) same (Contains-push ts t));
    }
filled_next p ts s f b n h i slot q w v made at holds (meets_right d l was port is makes) before = inl is
filled_next p ts s f b n h i slot q w v made at holds (meets_left d r was port is makes) before = inl is
filled_next p ts s f b n h i slot q w v made at holds (lone none d port) before = absurd (none_some h (slot_of i i.op) none holds)
filled_next p ts s f b n h i slot q w v made at holds (begins d was port is) before =
    let t : Token = at_port p f b n q w in
    let same : t ≡ at_port p f b n Left w = ap (λ (q : Port). at_port p f b n q w) port in
    inr record {
      b = b;
      n = n;
      i = i;
      stands = at;
      holds = holds;
      asserts = says_opened p (ts ++ t ∷ []) f b n i v is (d, (w, subst (Contains (ts ++ t ∷ [])) same (Contains-push ts t)));
    }
filled_next p ts s f b n h i slot q w v made at holds (counts d was port (inl is)) before = inl is
filled_next p ts s f b n h i slot q w v made at holds (counts d was port (inr is)) (inl empty) = absurd (true≢false (sym was ∙ ap is_counting empty))
filled_next p ts s f b n h i slot q w v made at holds (counts d was port (inr is)) (inr F) =
    let t : Token = at_port p f b n q w in
    let G : Filled p (ts ++ t ∷ []) f h slot = filled_more p ts t f h slot F in
    inr record {
      b = G.b;
      n = G.n;
      i = G.i;
      stands = G.stands;
      holds = G.holds;
      asserts = says_opened p (ts ++ t ∷ []) f G.b G.n G.i v is (opened_from p (ts ++ t ∷ []) f G.b G.n G.i slot was G.asserts);
    }

-- ---- AN INSTRUCTION'S EVENT

pub record Move (p : Program) (f b n : ℕ) (q : Port) (w : Word) (i : Instr) (made : List Token) (old new : MStore) : Type 0 where
  pub v : SlotState
  pub becomes : outcome_of p record { frame = f; ip = first_of p b + n } i i.op (slot_in old f (slot_of i i.op)) q w ≡ Becomes v made
  pub after : new ≡ with_slot_in old f (slot_of i i.op) v

move_fires : (o : Outcome) (made : List Token) (f : ℕ) (r : Option ℕ) (old new : MStore) → Fires old f r o made new
    → (v : SlotState) × (o ≡ Becomes v made) × (new ≡ with_slot_in old f r v)
move_fires (Excluded n) made f r old new e = absurd e
move_fires (Becomes v ts) made f r old new e = (v, ap (λ (l : List Token). Becomes v l) (sym e.0), e.1)

pub move_of : (p : Program) (total f b n : ℕ) (q : Port) (w : Word) (i : Instr) (made : List Token) (old new : MStore) → IsPlaced p b n i
    → Happens p total old (To.Instr f (first_of p b + n) q) w made new → Move p f b n q w i made old new
move_of p total f b n q w i made old new at happens =
    let s : Point = record { frame = f; ip = first_of p b + n } in
    let does : Fires old f (slot_of i i.op) (outcome_of p s i i.op (slot_in old f (slot_of i i.op)) q w) made new =
    subst (λ (o : Option Instr). Fires old f (slot_used o) (rule_at p s o (slot_in old f (slot_used o)) q w) made new) (stands_at p b n i at) happens in
    let m = move_fires _ made f (slot_of i i.op) old new does in
    record { v = m.0; becomes = m.1; after = m.2 }

module _ (p : Program) (f b n : ℕ) (q : Port) (w : Word) (i : Instr) (made : List Token) (old new : MStore) (M : Move p f b n q w i made old new) where
  pub turn : Turn p record { frame = f; ip = first_of p b + n } i i.op (slot_in old f (slot_of i i.op)) q w M.v made
  turn = turn_of p record { frame = f; ip = first_of p b + n } i i.op (slot_in old f (slot_of i i.op)) q w M.v made M.becomes

  -- a slot is as before, or it is the holder's
  pub slot_cases : (g h : ℕ) → (new.slots g h ≡ old.slots g h)
      ⊎ ((f ≡ g) × (slot_of i i.op ≡ Some h) × (slot_in old f (slot_of i i.op) ≡ old.slots g h) × (new.slots g h ≡ M.v))
  slot_cases g h = go (slot_of i i.op) refl M.after
    where
      go : (o : Option ℕ) → slot_of i i.op ≡ o → new ≡ with_slot_in old f o M.v
          → (new.slots g h ≡ old.slots g h) ⊎ ((f ≡ g) × (slot_of i i.op ≡ Some h) × (slot_in old f (slot_of i i.op) ≡ old.slots g h) × (new.slots g h ≡ M.v))
      go None at e = inl (ap (λ (s : MStore). s.slots g h) e)
      go (Some k) at e = pick (cases_eq f g) (cases_eq k h)
        where
          row : ℕ → SlotState
          row = put_at (old.slots f) k M.v

          pick : ((f ≡ g) ⊎ (f ≡ g → ⊥)) → ((k ≡ h) ⊎ (k ≡ h → ⊥))
              → (new.slots g h ≡ old.slots g h) ⊎ ((f ≡ g) × (slot_of i i.op ≡ Some h) × (slot_in old f (slot_of i i.op) ≡ old.slots g h)
              × (new.slots g h ≡ M.v))
          pick (inr ne) d = inl (ap (λ (s : MStore). s.slots g h) e ∙ ap (λ (c : ℕ → SlotState). c h) (put_other old.slots f row g ne))
          pick (inl same) (inr ne) =
              inl (ap (λ (s : MStore). s.slots g h) e ∙ ap (λ (c : ℕ → SlotState). c h) (put_same old.slots f row g same) ∙ put_other (old.slots f) k M.v h ne
              ∙ ap (λ (x : ℕ). old.slots x h) same)
          pick (inl same) (inl eq) =
              inr (
                same,
                at ∙ ap Some eq,
                ap (slot_in old f) at ∙ (λ t. old.slots (same t) (eq t)),
                ap (λ (s : MStore). s.slots g h) e ∙ ap (λ (c : ℕ → SlotState). c h) (put_same old.slots f row g same) ∙ put_same (old.slots f) k M.v h eq,
              )

  -- the holder's slot, before and after
  pub slot_new : (h : ℕ) → slot_of i i.op ≡ Some h → (new.slots f h ≡ M.v) × (slot_in old f (slot_of i i.op) ≡ old.slots f h)
  slot_new h holds = (
    ap (λ (s : MStore). s.slots f h) (M.after ∙ ap (λ (o : Option ℕ). with_slot_in old f o M.v) holds)
        ∙ ap (λ (c : ℕ → SlotState). c h) (put_same old.slots f (put_at (old.slots f) h M.v) f refl) ∙ put_same (old.slots f) h M.v h refl,
    ap (slot_in old f) holds,
  )

  pub filled_after : (ts : List Token) → IsPlaced p b n i → ((g h : ℕ) → EmptyOr p ts g h (old.slots g h)) → (g h : ℕ)
      → EmptyOr p (ts ++ at_port p f b n q w ∷ []) g h (new.slots g h)
  filled_after ts at before g h = go (slot_cases g h) (before g h)
    where
      go : (new.slots g h ≡ old.slots g h) ⊎ ((f ≡ g) × (slot_of i i.op ≡ Some h) × (slot_in old f (slot_of i i.op) ≡ old.slots g h) × (new.slots g h ≡ M.v))
          → EmptyOr p ts g h (old.slots g h) → EmptyOr p (ts ++ at_port p f b n q w ∷ []) g h (new.slots g h)
      go (inl same) (inl e) = inl (same ∙ e)
      go (inl same) (inr F) =
          inr (subst (Filled p (ts ++ at_port p f b n q w ∷ []) g h) (sym same) (filled_more p ts (at_port p f b n q w) g h (old.slots g h) F))
      go (inr (frame, holds, was, is)) was_before =
          let t : Token = at_port p f b n q w in
          let here : EmptyOr p ts f h (slot_in old f (slot_of i i.op)) =
          subst (EmptyOr p ts f h) (sym was) (subst (λ (x : ℕ). EmptyOr p ts x h (old.slots g h)) (sym frame) was_before) in
          let after : EmptyOr p (ts ++ t ∷ []) f h M.v = filled_next p ts _ f b n h i _ q w M.v made at holds turn here in
          subst (EmptyOr p (ts ++ t ∷ []) g h) (sym is) (subst (λ (x : ℕ). EmptyOr p (ts ++ t ∷ []) x h M.v) frame after)
