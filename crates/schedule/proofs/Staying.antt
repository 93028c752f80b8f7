-- What stays the same of lanes, and what it says of tokens that arrive there.
use Rattle.std.proofs.Common.{◌≡◌, refl, sym, ◌∙◌, ap, subst, ℕ, suc, ◌*◌, ◌<◌, List, [], ◌∷◌, ◌++◌, length, map, drop, get_or, Option, Some, arith}
use Rattle.std.specs.Prelude.{All, sum, slice_get, slice_set}
use Rattle.std.specs.Option.{option_map}
use Rattle.std.proofs.lemmas.List.{map-set, get_or-map, length-map}
use Rattle.std.proofs.lemmas.List.Elements.{All-nil, All-append, All-weaker, All-get_or}
use Rattle.std.proofs.lemmas.List.Sorted.{All-permutation}
use Rattle.std.proofs.lemmas.Option.{slice_get-map, slice_get_read}
use Rattle.lemmas.proofs.Alls.{all_right}
use Rattle.tags.specs.declared.token.Token.{Token}
use Rattle.semantics.specs.Program.{Program}
use Rattle.element.specs.Near.{Bounds, IsNearToken}
use Rattle.element.specs.Holding.{Holding, LaneView, Fixed, held_of, fixed_of, bounds_at, queued}
use Rattle.schedule.specs.Setting.{Setting}
use Rattle.schedule.specs.State.{State, AllFrom, IsAt, IsPlaced, IsSoundState, RunsAs, IsNearIn, delivered, lanes_of, tokens_in}
use Rattle.schedule.proofs.Places.{to_map}
use Rattle.schedule.proofs.Memory.{state_next}
use Rattle.schedule.proofs.Tokens.{set_same, tokens_delivered}
use Rattle.schedule.proofs.Stepping.{bounds_in, bounds_are, unchanged}

pub fixed_at : (items : List LaneView) (i : ℕ) (x : LaneView) → i < length items → x ≡ get_or items i x → get_or (map fixed_of items) i (fixed_of x)
    ≡ fixed_of x
fixed_at items i x low is = get_or-map fixed_of items i x (fixed_of x) low ∙ ap (λ (y : LaneView). fixed_of y) (sym is)

pub fixed_set : (items : List LaneView) (i : ℕ) (x new : LaneView) → i < length items → x ≡ get_or items i x → fixed_of new ≡ fixed_of x
    → map fixed_of (slice_set items i new) ≡ map fixed_of items
fixed_set items i x new low is same =
    map-set fixed_of items i new ∙ ap (λ (f : Fixed). slice_set (map fixed_of items) i f) same
    ∙ set_same (map fixed_of items) i (fixed_of x) (slice_get-map fixed_of items i ∙ ap (λ (o : Option LaneView). option_map fixed_of o)
    (slice_get_read items (length items) i x refl low is))

pub runs_at : (P : Fixed → Type 0) (items : List LaneView) (i : ℕ) (x : LaneView) → All P (map fixed_of items) → i < length items → x
    ≡ get_or items i x → P (fixed_of x)
runs_at P items i x all low is =
    let count = length-map items fixed_of in
    let within : i < length (map fixed_of items) = omega arith in
    subst P (fixed_at items i x low is) (All-get_or P (map fixed_of items) i (fixed_of x) within all)

pub bounds_as : (g : Setting) (f : Fixed) → RunsAs g f → bounds_at f ≡ bounds_in g
bounds_as g f r =
    ap (λ (p : Program). let b : Bounds = record { frames = f.shape.elements * f.shape.frames; cells = sum p.arrays } in b) r.program
    ∙ ap (λ (n : ℕ). let b : Bounds = record { frames = n * f.shape.frames; cells = sum g.program.arrays } in b) r.elements
    ∙ ap (λ (n : ℕ). let b : Bounds = record { frames = g.elements * n; cells = sum g.program.arrays } in b) r.frames

-- tokens that name what there is do so for each lane
pub near_for : (g : Setting) (fs : List Fixed) → All (RunsAs g) fs → (ts : List Token) → All (IsNearToken (bounds_in g)) ts → All (IsNearIn fs) ts
near_for g fs runs ts near = All-weaker (IsNearToken (bounds_in g)) (IsNearIn fs)
    (λ (t : Token) n. All-weaker (RunsAs g) (λ (f : Fixed). IsNearToken (bounds_at f) t) (λ (f : Fixed) r. subst (λ (b : Bounds). IsNearToken b t)
    (sym (bounds_as g f r)) n) fs runs) ts near

-- the tokens of lanes in their places are near
pub near_in : (g : Setting) (k : ℕ) (lanes : List Holding) → AllFrom (IsPlaced g) k lanes → All (IsNearToken (bounds_in g)) (tokens_in lanes)
near_in g k [] placed = All-nil (IsNearToken (bounds_in g))
near_in g k (h ∷ hs) placed =
    let own : All (IsNearToken (bounds_in g)) h.queue = subst (λ (b : Bounds). All (IsNearToken b) h.queue) (bounds_are g k h placed.0) placed.0.sound.near in
    All-append (IsNearToken (bounds_in g)) h.queue (tokens_in hs) own (near_in g (suc k) hs placed.1)

-- so do tokens that are on their way
pub near_arriving : (g : Setting) (raw : List Holding) (ts : List Token) → IsSoundState (record { setting = g; lanes = delivered ts raw })
    → All (IsNearToken (bounds_in g)) ts
near_arriving g raw ts sound =
    let count : length raw ≡ g.elements = sym (length-map raw (λ (h : Holding). queued h ts)) ∙ sound.count in
    let at = to_map (IsAt g.elements) (IsPlaced g) (λ (h : Holding). queued h ts) (λ (i : ℕ) (h : Holding) (p : IsPlaced g i (queued h ts)).
    (p.element, p.elements)) 0 raw sound.lanes in
    let all = near_in g 0 (delivered ts raw) sound.lanes in
    all_right (IsNearToken (bounds_in g)) (tokens_in raw) ts (All-permutation (IsNearToken (bounds_in g)) (tokens_in (delivered ts raw))
    (tokens_in raw ++ ts) (tokens_delivered g.elements raw ts sound.setting.some count at) all)

-- A step that did nothing
pub stays_so : (g : Setting) (items : List LaneView) (sent after : List Token) (arrived e : ℕ) (x new : LaneView) → sent ≡ [] → arrived ≡ 0
    → slice_get (lanes_of items (drop arrived sent)) e ≡ Some (held_of x) → held_of new ≡ held_of x → after ≡ sent
    → (let s : State = record { setting = g; lanes = lanes_of (slice_set items e new) (drop arrived after) } in s)
    ≡ record { setting = g; lanes = lanes_of items (drop arrived sent) }
stays_so g items sent after arrived e x new none first there held same =
    ap (λ (l : List Holding). let s : State = record { setting = g; lanes = l } in s) (sym (state_next items sent after arrived e new none first))
    ∙ unchanged (record { setting = g; lanes = lanes_of items (drop arrived sent) }) e (held_of x) (held_of new) after there held (same ∙ none)
