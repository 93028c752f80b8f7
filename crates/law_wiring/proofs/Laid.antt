-- A builder's instructions are laid out as the parts of a list, with destinations as the wires of a list: how each step adds to both.
use Rattle.std.proofs.Common.{◌≡◌, ◌≢◌, ℕ, suc, ◌+◌, ◌-◌, ◌<◌, ◌≤◌, ◌⊎◌, inl, inr, Bool, true, false, ◌&&◌, List, [], ◌∷◌, ◌++◌, length, refl, sym, ap, ◌∙◌}
use Rattle.std.proofs.Common.{subst, arith, append-nil, append_assoc, if◌then◌else◌, Some}
use Rattle.std.specs.Prelude.{slice_get, slice_index_or, ⊤, Contains}
use Rattle.lemmas.proofs.Contains.{contains_cases, contains_none}
use Rattle.std.proofs.lemmas.Bool.{and_parts}
use Rattle.std.proofs.lemmas.Option.{slice_get_within, same_Some}
use Rattle.tags.specs.declared.value.Origin.{Origin}
use Rattle.tags.specs.declared.value.Origin.TheVariants.{Untold}
use Rattle.tags.specs.declared.token.Port.TheVariants.{Left, Right}
use Rattle.semantics.specs.declared.graph.Region.{Region}
use Rattle.semantics.specs.declared.graph.Region.TheVariants.{Root, Arm}
use Rattle.semantics.specs.declared.graph.Source.{Source}
use Rattle.semantics.specs.declared.program.Dest.{Dest}
use Rattle.semantics.specs.declared.program.Mark.{Mark}
use Rattle.semantics.specs.declared.program.Mark.TheVariants.{Unmarked}
use Rattle.semantics.specs.declared.program.Op.{Op}
use Rattle.semantics.specs.Graph.{Flow}
use Rattle.semantics.specs.Program.{Instr}
use Rattle.law_wiring.specs.WrittenTypes.{Outlet}
use Rattle.schemas.specs.Builds as Builds
use Rattle.schemas.specs.Builds.{Build, bare, slot_in, added, quieted, connected, with_dest, dest_of, nowhere, exit_at, outlet_of, trigger_of, exited, behind}
use Rattle.schemas.specs.Builds.{meeting, mark_of}
use Rattle.law_wiring.proofs.ArcsLists.{split, get_push, get_new, length_push, length_linked, get_linked, index_old, index_new}
use Rattle.law_wiring.proofs.ArcsLists.{get_left}
use Rattle.law_net.specs.ContextsParts.{Part, Trigger, Gate, TurnCont, TurnFlag, TurnValue, Asker, NextFramer, NextFanned, same_part}
use Rattle.law_net.specs.ContextsBlocks as Blocks
use Rattle.law_net.specs.ContextsBlocks.{Side, side, Site, op_of, origin_of, is_kind, cond_kind}
use Rattle.law_net.proofs.ContextsSames.{same_part-refl}
use Rattle.law_wiring.specs.Written.{Wire, wire, same_side, same_bool, leaves, leaves_at, is_triggered, trigger_side}
use Rattle.law_wiring.specs.WrittenFit.{IsPrior, port_count}

-- `place`: where each part of the whole block is
pub record Env : Type 0 where
  pub flow : Flow
  pub variant : ℕ → ℕ
  pub site : Site
  pub place : Part → ℕ
  pub apart : (r q : Part) → same_part r q ≡ true → place r ≡ place q

-- the region of a switch is determined by its mark; and some parts of a turn, which are no ends, are noted in the root
abbrev pub has_region : Part → Bool
has_region (Trigger k) = false
has_region (Gate n) = false
has_region TurnCont = false
has_region TurnFlag = false
has_region (TurnValue j) = false
has_region Asker = false
has_region NextFramer = false
has_region NextFanned = false
has_region r = true

-- DESTINATIONS of a side
abbrev pub dest : Env → Wire → Dest
dest e w = record { ahead = e.place w.part - e.place w.from.part; port = w.port }

abbrev pub goes : Env → Side → List Wire → List Dest
goes e t [] = []
goes e t (w ∷ ws) = if same_side t w.from then dest e w ∷ goes e t ws else goes e t ws

one_more : (e : Env) (t : Side) (ws : List Wire) (w : Wire) → goes e t (ws ++ w ∷ []) ≡ goes e t ws ++ (if same_side t w.from then dest e w ∷ [] else [])
one_more e t [] w = refl
one_more e t (x ∷ ws) w = go (same_side t x.from) (one_more e t ws w)
  where
    go : (s : Bool) → goes e t (ws ++ w ∷ []) ≡ goes e t ws ++ (if same_side t w.from then dest e w ∷ [] else [])
        → (if s then dest e x ∷ goes e t (ws ++ w ∷ []) else goes e t (ws ++ w ∷ [])) ≡ (if s then dest e x ∷ goes e t ws else goes e t ws)
        ++ (if same_side t w.from then dest e w ∷ [] else [])
    go true h = ap (λ ds. dest e x ∷ ds) h
    go false h = h

-- a side of another part, or the other side
other_side : (e : Env) (t : Side) (ws : List Wire) (w : Wire) → same_side t w.from ≡ false → goes e t (ws ++ w ∷ []) ≡ goes e t ws
other_side e t ws w h = one_more e t ws w ∙ ap (λ s. goes e t ws ++ (if s then dest e w ∷ [] else [])) h ∙ append-nil (goes e t ws)

this_side : (e : Env) (t : Side) (ws : List Wire) (w : Wire) → same_side t w.from ≡ true → goes e t (ws ++ w ∷ []) ≡ goes e t ws ++ dest e w ∷ []
this_side e t ws w h = one_more e t ws w ∙ ap (λ s. goes e t ws ++ (if s then dest e w ∷ [] else [])) h

pub other_part : (e : Env) (r : Part) (s : Bool) (u : Side) → e.place r ≢ e.place u.part → same_side (side r s) u ≡ false
other_part e r s u ne = go (same_side (side r s) u) refl
  where
    go : (x : Bool) → same_side (side r s) u ≡ x → x ≡ false
    go true h = absurd (ne (e.apart r u.part (and_parts (same_part r u.part) (same_bool s u.second) h).0))
    go false h = refl

-- all wires lead ahead, to below a place
abbrev pub Ahead : Env → ℕ → List Wire → Type 0
Ahead e m [] = ⊤
Ahead e m (w ∷ ws) = ((e.place w.from.part < e.place w.part) × (e.place w.part < m)) × Ahead e m ws

ahead_more : (e : Env) (m k : ℕ) (ws : List Wire) → m ≤ k → Ahead e m ws → Ahead e k ws
ahead_more e m k [] l h = tt
ahead_more e m k (w ∷ ws) l h = let a = h.0.1 in ((h.0.0, omega (arith, a, l)), ahead_more e m k ws l h.1)

ahead_push : (e : Env) (m : ℕ) (ws : List Wire) (w : Wire) → Ahead e m ws → (e.place w.from.part < e.place w.part) × (e.place w.part < m)
    → Ahead e m (ws ++ w ∷ [])
ahead_push e m [] w h l = (l, tt)
ahead_push e m (x ∷ ws) w h l = (h.0, ahead_push e m ws w h.1 l)

none_there : (e : Env) (r : Part) (s : Bool) (m : ℕ) (ws : List Wire) → Ahead e m ws → e.place r ≡ m → goes e (side r s) ws ≡ []
none_there e r s m [] h p = refl
none_there e r s m (w ∷ ws) h p =
    let low = h.0.0 in
    let up = h.0.1 in
    ap (λ x. if x then dest e w ∷ goes e (side r s) ws else goes e (side r s) ws) (other_part e r s w.from (λ q. omega (arith, q, p, low, up)))
    ∙ none_there e r s m ws h.1 p

-- so does each destination
abbrev LiesAhead : Env → Side → ℕ → Dest → Type 0
LiesAhead e t m d = (0 < d.ahead) × (e.place t.part + d.ahead < m)

pub goes_ahead : (e : Env) (t : Side) (ws : List Wire) (m : ℕ) (d : Dest) → Ahead e m ws → Contains (goes e t ws) d → LiesAhead e t m d
goes_ahead e t [] m d h c = absurd (contains_none d c)
goes_ahead e t (w ∷ ws) m d h c = go (same_side t w.from) refl c (goes_ahead e t ws m d h.1)
  where
    here : same_side t w.from ≡ true → dest e w ≡ d → LiesAhead e t m d
    here q same =
        let at = e.apart t.part w.from.part (and_parts (same_part t.part w.from.part) (same_bool t.second w.from.second) q).0 in
        let ahead : e.place w.part - e.place w.from.part ≡ d.ahead = ap (λ (x : Dest). x.ahead) same in
        let low = h.0.0 in
        let up = h.0.1 in
        (omega (arith, ahead, low), omega (arith, ahead, low, up, at))

    go : (x : Bool) → same_side t w.from ≡ x → Contains (if x then dest e w ∷ goes e t ws else goes e t ws) d → (Contains (goes e t ws) d → LiesAhead e t m d)
        → LiesAhead e t m d
    go true q c more = elim (contains_cases (dest e w) (goes e t ws) d c) as (λ x. LiesAhead e t m d) [ inl same ↦ here q same | inr old ↦ more old ]
    go false q c more = more c

-- WHAT IS LAID OUT
pub record IsAt (e : Env) (ws : List Wire) (r : Part) (i : Instr) : Type 0 where
  pub op : i.op ≡ op_of e.variant e.site r
  pub origin : i.origin ≡ origin_of e.flow e.site r
  pub firsts : i.firsts ≡ goes e (side r false) ws
  pub seconds : i.seconds ≡ goes e (side r true) ws

pub record IsLaid (e : Env) (b : Build) (rs : List Part) (ws : List Wire) : Type 0 where
  pub size : length b.instrs ≡ length rs
  pub mark_count : length b.marks ≡ length rs
  pub region_count : length b.regions ≡ length rs
  pub instrs : (n : ℕ) (r : Part) (i : Instr) → slice_get rs n ≡ Some r → slice_get b.instrs n ≡ Some i → IsAt e ws r i
  pub marks : (n : ℕ) (r : Part) → slice_get rs n ≡ Some r → mark_of b.marks n ≡ Blocks.mark_of e.site.block r
  pub regions : (n : ℕ) (r : Part) → slice_get rs n ≡ Some r → has_region r ≡ true → Builds.region_of b.regions n ≡ Blocks.region_of e.site.block r
  pub placed : (n : ℕ) (r : Part) → slice_get rs n ≡ Some r → e.place r ≡ n
  pub ahead : Ahead e (length rs) ws

-- an outlet is a side
pub record OutAt (rs : List Part) (o : Outlet) (t : Side) : Type 0 where
  pub part : slice_get rs (o.place + o.port) ≡ Some t.part
  pub second : o.second ≡ t.second

pub out_more : (rs qs : List Part) (o : Outlet) (t : Side) → OutAt rs o t → OutAt (rs ++ qs) o t
out_more rs qs o t h = record { part = get_left rs qs (o.place + o.port) t.part h.part; second = h.second }

-- ONE PART MORE
push_index : {X : Type 0} (xs : List X) (x d : X) (n : ℕ) → n ≡ length xs → slice_index_or (xs ++ x ∷ []) n d ≡ x
push_index xs x d n e = ap (λ k. slice_index_or (xs ++ x ∷ []) k d) e ∙ index_new xs x d

pub laid_added : (e : Env) (b : Build) (rs : List Part) (ws : List Wire) (op : Op) (o : Origin) (m : Mark) (g : Region) (r : Part) → IsLaid e b rs ws
    → op ≡ op_of e.variant e.site r → o ≡ origin_of e.flow e.site r → m ≡ Blocks.mark_of e.site.block r
    → (has_region r ≡ true → g ≡ Blocks.region_of e.site.block r)
    → e.place r ≡ length rs → IsLaid e (added b op o m g) (rs ++ r ∷ []) ws
laid_added e b rs ws op o m g r l p q k f at = record {
  size = length_push b.instrs new ∙ ap suc l.size ∙ sym (length_push rs r);
  mark_count = length_push b.marks m ∙ ap suc l.mark_count ∙ sym (length_push rs r);
  region_count = length_push b.regions g ∙ ap suc l.region_count ∙ sym (length_push rs r);
  instrs = λ n x i y z. instr n x i (get_push rs r n x y) (get_push b.instrs new n i z);
  marks = λ n x y. mark n x (get_push rs r n x y);
  regions = λ n x y z. region n x z (get_push rs r n x y);
  placed = λ n x y. place n x (get_push rs r n x y);
  ahead = let s = length_push rs r in ahead_more e (length rs) (length (rs ++ r ∷ [])) ws (omega (arith, s)) l.ahead;
}
  where
    new : Instr
    new = bare op o (slot_in b op)

    here : IsAt e ws r new
    here = record {
      op = p;
      origin = q;
      firsts = sym (none_there e r false (length rs) ws l.ahead at);
      seconds = sym (none_there e r true (length rs) ws l.ahead at);
    }

    instr : (n : ℕ) (x : Part) (i : Instr) → (slice_get rs n ≡ Some x) ⊎ ((n ≡ length rs) × (r ≡ x))
        → (slice_get b.instrs n ≡ Some i) ⊎ ((n ≡ length b.instrs) × (new ≡ i)) → IsAt e ws x i
    instr n x i (inl y) (inl z) = l.instrs n x i y z
    instr n x i (inl y) (inr z) = let a = slice_get_within rs n x y in let s = l.size in let t = z.0 in absurd (omega (arith, a, s, t))
    instr n x i (inr y) (inl z) = let a = slice_get_within b.instrs n i z in let s = l.size in let t = y.0 in absurd (omega (arith, a, s, t))
    instr n x i (inr y) (inr z) = subst (λ u. IsAt e ws u i) y.1 (subst (λ u. IsAt e ws r u) z.1 here)

    mark : (n : ℕ) (x : Part) → (slice_get rs n ≡ Some x) ⊎ ((n ≡ length rs) × (r ≡ x)) → mark_of (b.marks ++ m ∷ []) n ≡ Blocks.mark_of e.site.block x
    mark n x (inl y) = let a = slice_get_within rs n x y in let s = l.mark_count in index_old b.marks m Unmarked n (omega (arith, a, s)) ∙ l.marks n x y
    mark n x (inr y) = push_index b.marks m Unmarked n (y.0 ∙ sym l.mark_count) ∙ k ∙ ap (Blocks.mark_of e.site.block) y.1

    region : (n : ℕ) (x : Part) → has_region x ≡ true → (slice_get rs n ≡ Some x) ⊎ ((n ≡ length rs) × (r ≡ x))
        → Builds.region_of (b.regions ++ g ∷ []) n ≡ Blocks.region_of e.site.block x
    region n x z (inl y) = let a = slice_get_within rs n x y in let s = l.region_count in index_old b.regions g Root n (omega (arith, a, s)) ∙ l.regions n x y z
    region n x z (inr y) = push_index b.regions g Root n (y.0 ∙ sym l.region_count) ∙ f (ap has_region y.1 ∙ z) ∙ ap (Blocks.region_of e.site.block) y.1

    place : (n : ℕ) (x : Part) → (slice_get rs n ≡ Some x) ⊎ ((n ≡ length rs) × (r ≡ x)) → e.place x ≡ n
    place n x (inl y) = l.placed n x y
    place n x (inr y) = ap e.place (sym y.1) ∙ at ∙ sym y.0

-- ONE WIRE MORE
with_it : (e : Env) (ws : List Wire) (w : Wire) (j : Instr) (s : Bool) (d : Dest) → d ≡ dest e w → s ≡ w.from.second → IsAt e ws w.from.part j
    → IsAt e (ws ++ w ∷ []) w.from.part (with_dest j s d)
with_it e ws w j s d p q h = go s d p q
  where
    r : Part
    r = w.from.part

    self : (t : Bool) → same_side (side r t) w.from ≡ same_bool t w.from.second
    self t = ap (λ x. x && same_bool t w.from.second) (same_part-refl r)

    here : (t : Bool) → same_bool t w.from.second ≡ true → goes e (side r t) (ws ++ w ∷ []) ≡ goes e (side r t) ws ++ dest e w ∷ []
    here t f = this_side e (side r t) ws w (self t ∙ f)

    there : (t : Bool) → same_bool t w.from.second ≡ false → goes e (side r t) (ws ++ w ∷ []) ≡ goes e (side r t) ws
    there t f = other_side e (side r t) ws w (self t ∙ f)

    go : (s : Bool) (d : Dest) → d ≡ dest e w → s ≡ w.from.second → IsAt e (ws ++ w ∷ []) r (with_dest j s d)
    go true d p q = record {
      op = h.op;
      origin = h.origin;
      firsts = h.firsts ∙ sym (there false (ap (same_bool false) (sym q)));
      seconds = ap (λ x. j.seconds ++ x ∷ []) p ∙ ap (λ xs. xs ++ dest e w ∷ []) h.seconds ∙ sym (here true (sym q));
    }
    go false d p q = record {
      op = h.op;
      origin = h.origin;
      firsts = ap (λ x. j.firsts ++ x ∷ []) p ∙ ap (λ xs. xs ++ dest e w ∷ []) h.firsts ∙ sym (here false (ap (same_bool false) (sym q)));
      seconds = h.seconds ∙ sym (there true (sym q));
    }

pub laid_connected : (e : Env) (b : Build) (rs : List Part) (ws : List Wire) (o : Outlet) (to : ℕ) (w : Wire) → IsLaid e b rs ws
    → OutAt rs o w.from → to ≡ e.place w.part → (e.place w.from.part < e.place w.part) × (e.place w.part < length rs)
    → IsLaid e (connected b o to w.port) rs (ws ++ w ∷ [])
laid_connected e b rs ws o to w l out t up = record {
  size = length_linked b.instrs at o.second d ∙ l.size;
  mark_count = l.mark_count;
  region_count = l.region_count;
  instrs = λ n x i y z. instr n x i y (get_linked b.instrs at o.second d n i z);
  marks = l.marks;
  regions = l.regions;
  placed = l.placed;
  ahead = ahead_push e (length rs) ws w l.ahead up;
}
  where
    at : ℕ
    at = o.place + o.port

    d : Dest
    d = dest_of o to w.port

    from_at : e.place w.from.part ≡ at
    from_at = l.placed at w.from.part out.part

    same : d ≡ dest e w
    same = let a = from_at in ap (λ k. record { ahead = k; port = w.port }) (omega (arith, a, t))

    instr : (n : ℕ) (x : Part) (i : Instr) → slice_get rs n ≡ Some x
        → ((n ≡ at → ⊥) × (slice_get b.instrs n ≡ Some i)) ⊎ ((n ≡ at) × (j : Instr) × (slice_get b.instrs at ≡ Some j) × (with_dest j o.second d ≡ i))
        → IsAt e (ws ++ w ∷ []) x i
    instr n x i y (inl z) =
        let old = l.instrs n x i y z.1 in
        let place = l.placed n x y in
        let a = from_at in
        let ne : e.place x ≢ e.place w.from.part = λ f. z.0 (sym place ∙ f ∙ a) in
        record {
          op = old.op;
          origin = old.origin;
          firsts = old.firsts ∙ sym (other_side e (side x false) ws w (other_part e x false w.from ne));
          seconds = old.seconds ∙ sym (other_side e (side x true) ws w (other_part e x true w.from ne));
        }
    instr n x i y (inr z) =
        let part : w.from.part ≡ x = same_Some w.from.part x (sym out.part ∙ ap (slice_get rs) (sym z.0) ∙ y) in
        let old = l.instrs at w.from.part z.1 out.part z.2 in
        subst (λ u. IsAt e (ws ++ w ∷ []) u i) part (subst (λ u. IsAt e (ws ++ w ∷ []) w.from.part u) z.3 (with_it e ws w z.1 o.second d same out.second old))

-- to the part that was added last
pub laid_linked : (e : Env) (b : Build) (rs : List Part) (ws : List Wire) (o : Outlet) (to : ℕ) (w : Wire) → IsLaid e b (rs ++ w.part ∷ []) ws
    → OutAt rs o w.from → to ≡ e.place w.part → IsLaid e (connected b o to w.port) (rs ++ w.part ∷ []) (ws ++ w ∷ [])
laid_linked e b rs ws o to w l out t =
    let here = l.placed (length rs) w.part (get_new rs w.part) in
    let old = out_more rs (w.part ∷ []) o w.from out in
    let from = l.placed (o.place + o.port) w.from.part old.part in
    let low = slice_get_within rs (o.place + o.port) w.from.part out.part in
    let long = length_push rs w.part in
    laid_connected e b (rs ++ w.part ∷ []) ws o to w l old t (omega (arith, here, from, low), omega (arith, here, long))

-- SMALL PARTS
pub laid_behind : (e : Env) (b : Build) (rs : List Part) (ws : List Wire) (o : Outlet) (t : Side) (op : Op) (g : Region) (r : Part) → IsLaid e b rs ws
    → OutAt rs o t
    → op ≡ op_of e.variant e.site r → Untold ≡ origin_of e.flow e.site r → Unmarked ≡ Blocks.mark_of e.site.block r
    → (has_region r ≡ true → g ≡ Blocks.region_of e.site.block r)
    → e.place r ≡ length rs → IsLaid e (behind b o op g) (rs ++ r ∷ []) (ws ++ wire t r Left ∷ [])
laid_behind e b rs ws o t op g r l out p q k f at =
    laid_linked e (quieted b op g) rs ws o (length b.instrs) (wire t r Left) (laid_added e b rs ws op Untold Unmarked g r l p q k f at) out (l.size ∙ sym at)

pub laid_meeting : (e : Env) (b : Build) (rs : List Part) (ws : List Wire) (op : Op) (m : Mark) (g : Region) (left right : Outlet) (t u : Side) (r : Part)
    → IsLaid e b rs ws → OutAt rs left t → OutAt rs right u
    → op ≡ op_of e.variant e.site r → Untold ≡ origin_of e.flow e.site r → m ≡ Blocks.mark_of e.site.block r
    → (has_region r ≡ true → g ≡ Blocks.region_of e.site.block r)
    → e.place r ≡ length rs → IsLaid e (meeting b op m g left right) (rs ++ r ∷ []) (ws ++ wire t r Left ∷ wire u r Right ∷ [])
laid_meeting e b rs ws op m g left right t u r l a c p q k f at =
    let one : Build = added b op Untold m g in
    let first = laid_linked e one rs ws left (length b.instrs) (wire t r Left) (laid_added e b rs ws op Untold m g r l p q k f at) a (l.size ∙ sym at) in
    let second = laid_linked e (connected one left (length b.instrs) Left) rs (ws ++ wire t r Left ∷ []) right (length b.instrs) (wire u r Right) first c
    (l.size ∙ sym at) in
    subst (λ xs. IsLaid e (meeting b op m g left right) (rs ++ r ∷ []) xs) (append_assoc ws (wire t r Left ∷ []) (wire u r Right ∷ [])) second

-- EXITS. Where the output ports of a node leave, and the trigger of a conditional
pub record ExitAt (rs : List Part) (o : Outlet) (q : ℕ) (t : Side) : Type 0 where
  pub part : slice_get rs (o.place + q) ≡ Some t.part
  pub second : o.second ≡ t.second

abbrev pub PortsAt : Env → List Part → ℕ → Outlet → Type 0
PortsAt e rs m o = is_kind cond_kind e.site.block m ≡ false → (q : ℕ) → q < port_count e.flow e.site.block m → ExitAt rs o q (leaves_at e.site m q)

abbrev pub TriggerAt : Env → List Part → ℕ → Outlet → Type 0
TriggerAt e rs m o = is_kind cond_kind e.site.block m ≡ true → is_triggered e.site.block m ≡ true → slice_get rs o.place ≡ Some (Trigger m)

pub record HasExits (e : Env) (b : Build) (rs : List Part) (n : ℕ) : Type 0 where
  pub count : length b.exits ≡ n
  pub at : (m : ℕ) → m < n → PortsAt e rs m (exit_at b m)
  pub triggers : (m : ℕ) → m < n → TriggerAt e rs m (exit_at b m)

pub exits_more : (e : Env) (b : Build) (rs qs : List Part) (n : ℕ) → HasExits e b rs n → HasExits e b (rs ++ qs) n
exits_more e b rs qs n h = record {
  count = h.count;
  at = λ m l c q k. let x = h.at m l c q k in record { part = get_left rs qs ((exit_at b m).place + q) (leaves_at e.site m q).part x.part; second = x.second };
  triggers = λ m l c k. get_left rs qs (exit_at b m).place (Trigger m) (h.triggers m l c k);
}

pub exits_last : (e : Env) (b : Build) (rs : List Part) (n : ℕ) (o : Outlet) → HasExits e b rs n → PortsAt e rs n o → TriggerAt e rs n o
    → HasExits e (exited b o) rs (n + 1)
exits_last e b rs n o h new trigger = record {
  count = length_push b.exits o ∙ ap suc h.count ∙ omega arith;
  at = λ m l. by_place m (split m n (omega (arith, l)));
  triggers = λ m l. trigger_by m (split m n (omega (arith, l)));
}
  where
    by_place : (m : ℕ) → (m < n) ⊎ (m ≡ n) → PortsAt e rs m (slice_index_or (b.exits ++ o ∷ []) m nowhere)
    by_place m (inl l) = let k = h.count in subst (PortsAt e rs m) (sym (index_old b.exits o nowhere m (omega (arith, l, k)))) (h.at m l)
    by_place m (inr l) = subst (PortsAt e rs m) (sym (push_index b.exits o nowhere m (l ∙ sym h.count))) (subst (λ k. PortsAt e rs k o) (sym l) new)

    trigger_by : (m : ℕ) → (m < n) ⊎ (m ≡ n) → TriggerAt e rs m (slice_index_or (b.exits ++ o ∷ []) m nowhere)
    trigger_by m (inl l) = let k = h.count in subst (TriggerAt e rs m) (sym (index_old b.exits o nowhere m (omega (arith, l, k)))) (h.triggers m l)
    trigger_by m (inr l) = subst (TriggerAt e rs m) (sym (push_index b.exits o nowhere m (l ∙ sym h.count))) (subst (λ k. TriggerAt e rs k o) (sym l) trigger)

-- a source leaves at the side of its node's port
pub source_out : (e : Env) (b : Build) (rs : List Part) (n : ℕ) (s : Source) → HasExits e b rs n → IsPrior e.flow e.site.block n s
    → OutAt rs (outlet_of b s) (leaves e.site s)
source_out e b rs n s h c = let x = h.at s.node c.earlier c.no_cond s.port c.port in record { part = x.part; second = x.second }

-- the trigger of an arm leaves at the switch of its conditional
pub trigger_out : (e : Env) (b : Build) (rs : List Part) (n k : ℕ) (t : Bool) → HasExits e b rs n → k < n → is_kind cond_kind e.site.block k ≡ true
    → is_triggered e.site.block k ≡ true
    → OutAt rs (trigger_of b (Arm k t)) (trigger_side (Arm k t))
trigger_out e b rs n k t h l c d =
    let zeroless : (exit_at b k).place + 0 ≡ (exit_at b k).place = omega arith in
    record { part = ap (slice_get rs) zeroless ∙ h.triggers k l c d; second = refl }
