-- An orderly run keeps what its states show: by induction on its history.
use Rattle.std.proofs.Common.{◌≡◌, refl, sym, ap, ◌∙◌, subst, ℕ, ◌+◌, ◌*◌, ◌⊎◌, inl, inr, false, ℤ, List, [], ◌∷◌, ◌++◌, map, Option, Some, None, Contains}
use Rattle.std.specs.Prelude.{slice_get}
use Rattle.std.proofs.lemmas.List.Elements.{Contains-push_cases}
use Rattle.std.proofs.lemmas.List.Sorted.{Contains-permutation, IsPermutation-sym}
use Rattle.std.proofs.lemmas.Option.{same_Some}
use Rattle.lemmas.proofs.Contains.{contains_head, contains_none}
use Rattle.lemmas.proofs.Lists.{map_append}
use Rattle.tags.specs.declared.token.Port.{Port}
use Rattle.tags.specs.declared.token.Word.{Word}
use Rattle.tags.specs.declared.token.To.{To}
use Rattle.tags.specs.declared.token.Token.{Token}
use Rattle.tags.specs.declared.slot.SlotState.{SlotState}
use Rattle.semantics.specs.Program.{Instr, CodeBlock, Program, first_of, instr_at}
use Rattle.semantics.specs.Rule.{token, rule_at}
use Rattle.semantics.specs.Machine.{Machine, Store as MStore, Size, Event, Events, Run, at_start, slot_in, slot_used, Fires, Happens}
use Rattle.semantics.specs.Plan.{Plan}
use Rattle.semantics.specs.Sharing.{arcs_in}
use Rattle.semantics.specs.Arcs.{UsesArc, SomeEvent}
use Rattle.semantics.specs.Orderly.{is_entry, IsOrderlyRun}
use Rattle.semantics.specs.Wired.{IsWired}
use Rattle.law_reuse.proofs.FramesSnoc.{run_snoc, some_snoc}
use Rattle.law_reuse.proofs.SlotsStill.{slots_or}
use Rattle.law_reuse.proofs.SlotsPlaced.{IsPlaced, stands_at, Found, found}
use Rattle.law_reuse.proofs.SlotsFillings.{at_port, Filled, EmptyOr, filled_more, Move, move_of, filled_after}
use Rattle.law_reuse.proofs.SlotsUsedArcs.{arc_stands, Ports, used_same}
use Rattle.law_reuse.proofs.SlotsFirings.{CausedBy, caused_next, caused_by}

-- the tokens that the events took
abbrev pub taken : Events → List Token
taken events = map (λ (ev : ℕ × Token). ev.1) events

pub record Kept (p : Plan) (z : Size) (start : Machine) (events : Events) (u : Machine) (run : Run p.program z start events u) (ts : List Token) : Type 0 where
  pub filled : (g h : ℕ) → EmptyOr p.program ts g h (u.store.slots g h)
  pub was : (f ip : ℕ) (q : Port) → SomeEvent (UsesArc p f ip q) p.program z start events u run → CausedBy p ts u.store.slots f ip q
  pub came : (f ip : ℕ) (q : Port) (w : Word) → is_entry p.program.blocks ip ≡ false → Contains ts (token (To.Instr f ip q) w)
      → CausedBy p ts u.store.slots f ip q

pub ports_of : (p : Plan) (z : Size) (start : Machine) (events : Events) (u : Machine) (run : Run p.program z start events u)
    → IsOrderlyRun p z start events u run → Ports p (taken events) u.pool
ports_of p z start events u run O = record { once = O.once; block = O.block }

-- an instruction's event finds its instruction
pub instr_found : (p : Program) (total f ip : ℕ) (q : Port) (w : Word) (made : List Token) (m new : MStore) → Happens p total m (To.Instr f ip q) w made new
    → (i : Instr) × Found p ip i
instr_found p total f ip q w made m new e = go (instr_at p ip) refl
  where
    go : (o : Option Instr) → instr_at p ip ≡ o → (i : Instr) × Found p ip i
    go None at =
        absurd (subst (λ (o : Option Instr). Fires m f (slot_used o) (rule_at p record { frame = f; ip = ip } o (slot_in m f (slot_used o)) q w) made new) at e)
    go (Some i) at = (i, found p ip i at)

-- ---- ONE MORE EVENT

module _ (p : Plan) (wired : IsWired p) (z : Size) (start : Machine) (events : Events) (u c : Machine) (run : Run p.program z start events u) (e : ℕ)
    (t : Token)
    (ev : Event p.program z e t u c) (O : IsOrderlyRun p z start events u run) (K : Kept p z start events u run (taken events)) where
  abbrev ts : List Token
  ts = taken events

  abbrev now : List Token
  now = ts ++ t ∷ []

  taken_here : Contains u.pool t
  taken_here = Contains-permutation _ _ t (IsPermutation-sym _ _ ev.takes) (contains_head t ev.rest)

  -- the token as that at a port
  move_here : (f b n : ℕ) (q : Port) (i : Instr) → IsPlaced p.program b n i → t.to ≡ To.Instr f (first_of p.program b + n) q
      → Move p.program f b n q t.word i ev.made u.store c.store
  move_here f b n q i at to =
      move_of p.program (z.elements * z.frames) f b n q t.word i ev.made u.store c.store at
      (subst (λ (x : To). Happens p.program (z.elements * z.frames) u.store x t.word ev.made c.store) to ev.happens)

  same_token : (f b n : ℕ) (q : Port) → t.to ≡ To.Instr f (first_of p.program b + n) q → at_port p.program f b n q t.word ≡ t
  same_token f b n q to = ap (λ (x : To). token x t.word) (sym to)

  inside_here : (f b n : ℕ) (q : Port) → t.to ≡ To.Instr f (first_of p.program b + n) q → Contains u.pool (at_port p.program f b n q t.word)
  inside_here f b n q to = subst (Contains u.pool) (sym (same_token f b n q to)) taken_here

  filled_on : (g h : ℕ) → EmptyOr p.program now g h (c.store.slots g h)
  filled_on = go (slots_or p.program (z.elements * z.frames) u.store c.store t.to t.word ev.made ev.happens)
    where
      go : (c.store.slots ≡ u.store.slots) ⊎ ((f : ℕ) × (ip : ℕ) × (q : Port) × (t.to ≡ To.Instr f ip q)) → (g h : ℕ)
          → EmptyOr p.program now g h (c.store.slots g h)
      go (inl same) g h = pick (K.filled g h)
        where
          here : u.store.slots g h ≡ c.store.slots g h
          here = ap (λ (s : ℕ → ℕ → SlotState). s g h) (sym same)

          pick : EmptyOr p.program ts g h (u.store.slots g h) → EmptyOr p.program now g h (c.store.slots g h)
          pick (inl e) = inl (sym here ∙ e)
          pick (inr F) = inr (subst (Filled p.program now g h) here (filled_more p.program ts t g h (u.store.slots g h) F))
      go (inr (f, ip, q, to)) g h =
          let found = instr_found p.program (z.elements * z.frames) f ip q t.word ev.made u.store c.store
          (subst (λ (x : To). Happens p.program (z.elements * z.frames) u.store x t.word ev.made c.store) to ev.happens) in
          let at = to ∙ ap (λ (ip : ℕ). To.Instr f ip q) found.1.place in
          subst (λ (x : Token). EmptyOr p.program (ts ++ x ∷ []) g h (c.store.slots g h)) (same_token f found.1.b found.1.n q at)
          (filled_after p.program f found.1.b found.1.n q t.word found.0 ev.made u.store c.store
          (move_here f found.1.b found.1.n q found.0 found.1.stands at) ts found.1.stands K.filled g h)

  caused_on : (g ip : ℕ) (r : Port) → CausedBy p ts u.store.slots g ip r → CausedBy p now c.store.slots g ip r
  caused_on g ip r C = go (slots_or p.program (z.elements * z.frames) u.store c.store t.to t.word ev.made ev.happens)
    where
      go : (c.store.slots ≡ u.store.slots) ⊎ ((f : ℕ) × (ip : ℕ) × (q : Port) × (t.to ≡ To.Instr f ip q)) → CausedBy p now c.store.slots g ip r
      go (inl same) = record {
        b = C.b;
        x = C.x;
        is_arc = C.is_arc;
        place = C.place;
        port = C.port;
        used = used_same p.program ts t u.store.slots c.store.slots g C.b C.x (λ g h. ap (λ (s : ℕ → ℕ → SlotState). s g h) same) C.used;
      }
      go (inr (f, at_ip, q, to)) =
          let found = instr_found p.program (z.elements * z.frames) f at_ip q t.word ev.made u.store c.store
          (subst (λ (x : To). Happens p.program (z.elements * z.frames) u.store x t.word ev.made c.store) to ev.happens) in
          let at = to ∙ ap (λ (ip : ℕ). To.Instr f ip q) found.1.place in
          subst (λ (x : Token). CausedBy p (ts ++ x ∷ []) c.store.slots g ip r) (same_token f found.1.b found.1.n q at)
          (caused_next p wired ts u.pool (ports_of p z start events u run O) f found.1.b found.1.n q t.word found.0 ev.made u.store c.store found.1.stands
          (move_here f found.1.b found.1.n q found.0 found.1.stands at) (inside_here f found.1.b found.1.n q at) K.filled g ip r C)

  last_used : (f ip : ℕ) (r : Port) → UsesArc p f ip r t ev.made c → CausedBy p now c.store.slots f ip r
  last_used f ip r U = go (slice_get p.program.blocks U.b) refl
    where
      go : (o : Option CodeBlock) → slice_get p.program.blocks U.b ≡ o → CausedBy p now c.store.slots f ip r
      go None at = absurd (contains_none U.x (subst (λ (o : Option CodeBlock). Contains (arcs_in p o) U.x) at U.is_arc))
      go (Some code) at =
          let stands = arc_stands p U.b code U.x at (subst (λ (o : Option CodeBlock). Contains (arcs_in p o) U.x) at U.is_arc) in
          let same : stands.0 ≡ U.i = same_Some stands.0 U.i (sym (stands_at p.program U.b U.x.from stands.0 stands.1) ∙ U.fired) in
          let here : IsPlaced p.program U.b U.x.from U.i = subst (IsPlaced p.program U.b U.x.from) same stands.1 in
          subst (λ (x : Token). CausedBy p (ts ++ x ∷ []) c.store.slots f ip r) (same_token f U.b U.x.from U.side U.taken_at)
          (caused_by p wired ts u.pool (ports_of p z start events u run O) f U.b U.x.from U.side t.word U.i ev.made u.store c.store here
          (move_here f U.b U.x.from U.side U.i here U.taken_at) (inside_here f U.b U.x.from U.side U.taken_at) K.filled
          c refl U.x ip r U.t refl U.is_arc U.place U.port U.is_made U.uses)

  pub kept_next : Kept p z start (events ++ (e, t) ∷ []) c (run_snoc p.program z start u c events e t run ev) (taken (events ++ (e, t) ∷ []))
  kept_next =
      subst (Kept p z start (events ++ (e, t) ∷ []) c (run_snoc p.program z start u c events e t run ev))
      (sym (map_append (λ (ev : ℕ × Token). ev.1) events ((e, t) ∷ []))) record {
        filled = filled_on;
        was = λ f ip q some. was f ip q (some_snoc (UsesArc p f ip q) p.program z start u c events e t run ev some);
        came = λ f ip q w entry inside. came f ip q w entry (Contains-push_cases ts t (token (To.Instr f ip q) w) inside);
      }
    where
      was : (f ip : ℕ) (q : Port) → SomeEvent (UsesArc p f ip q) p.program z start events u run ⊎ UsesArc p f ip q t ev.made c
          → CausedBy p now c.store.slots f ip q
      was f ip q (inl some) = caused_on f ip q (K.was f ip q some)
      was f ip q (inr U) = last_used f ip q U

      came : (f ip : ℕ) (q : Port) (w : Word) → is_entry p.program.blocks ip ≡ false → Contains ts (token (To.Instr f ip q) w) ⊎ (t ≡ token (To.Instr f ip q) w)
          → CausedBy p now c.store.slots f ip q
      came f ip q w entry (inl inside) = caused_on f ip q (K.came f ip q w entry inside)
      came f ip q w entry (inr same) = caused_on f ip q (K.was f ip q (O.caused f ip q w entry (subst (Contains u.pool) same taken_here)))

pub kept_start : (p : Plan) (z : Size) (inputs : List ℤ) (run : Run p.program z (at_start p.program inputs) [] (at_start p.program inputs))
    → Kept p z (at_start p.program inputs) [] (at_start p.program inputs) run []
kept_start p z inputs run =
    record { filled = λ g h. inl refl; was = λ f ip q some. absurd some; came = λ f ip q w entry inside. absurd (contains_none _ inside) }
