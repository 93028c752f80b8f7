-- What a ledger is filled with.
use Rattle.std.proofs.Common.{◌≡◌, refl, sym, ◌∙◌, ap, subst, ℕ, ◌+◌, ◌*◌, ◌<◌, ◌≤◌, ℤ, List, [], ◌∷◌, ◌++◌, length, map, take, get_or, suc, Option, Some}
use Rattle.std.proofs.Common.{arith, length-take-le, take_all, lit<}
use Rattle.std.specs.Prelude.{All}
use Rattle.std.specs.List.{range_with_len}
use Rattle.std.proofs.lemmas.List.{take_more, length-map}
use Rattle.std.proofs.lemmas.List.Elements.{All-nil, All-cons, All-append, All-weaker}
use Rattle.tags.specs.declared.value.Value.TheVariants.{Int}
use Rattle.tags.specs.declared.token.Port.TheVariants.{Left}
use Rattle.tags.specs.declared.token.Cont.{Cont}
use Rattle.tags.specs.declared.token.Word.{Word}
use Rattle.tags.specs.declared.token.To.{To}
use Rattle.tags.specs.declared.token.Token.{Token}
use Rattle.tags.specs.Addresses.{element_of}
use Rattle.semantics.specs.Program.{Program, first_of}
use Rattle.semantics.specs.Rule.{token}
use Rattle.semantics.specs.Machine.{Store, Size, Events, input_tokens}
use Rattle.element.specs.Near.{Bounds, IsNearToken}
use Rattle.element.specs.Holding.{LaneView, Fixed, IsFor, IsSoundLane, fixed_of, bounds_at, with_queue, with_more, emptied}
use Rattle.element.specs.Openings.{StartsAs}
use Rattle.element.specs.Steps.{Does}
use Rattle.replay.specs.Views.{EntryView}
use Rattle.replay.specs.declared.entry.Change.{Change}
use Rattle.replay.specs.Books.{Book, IsEntry, AreEntries, opening, changed, all_changed}
use Rattle.replay.specs.Entering.{start_tokens, on_way, numbers_from, IsWhole, Records, Took, IsExcluded, IsFirstExcluded}
use Rattle.replay.specs.declared.extent.Extent.{Extent}
use Rattle.replay.proofs.Entering.{on_first}
use Rattle.replay.proofs.Places.{all_on_way, all_numbers}

-- one more entry
pub entries_push : (p : Program) (z : Size) (a b c : Book) (events : Events) (xs : List EntryView) (ev : ℕ × Token) (x : EntryView)
    → AreEntries p z a events xs b → IsEntry p z ev.0 ev.1 b c x
    → AreEntries p z a (events ++ ev ∷ []) (xs ++ x ∷ []) c
entries_push p z a b c [] [] ev x w e = (c, subst (λ (m : Book). IsEntry p z ev.0 ev.1 m c x) w e, refl)
entries_push p z a b c [] (y ∷ ys) ev x w e = absurd w
entries_push p z a b c (f ∷ events) [] ev x w e = absurd w
entries_push p z a b c (f ∷ events) (y ∷ ys) ev x w e = (w.0, w.1, entries_push p z w.0 b c events ys ev x w.2 e)

-- THE TOKENS OF THE START
inputs_push : (ip : ℕ) (xs : List ℤ) (x : ℤ) → input_tokens ip (xs ++ x ∷ []) ≡ input_tokens ip xs
    ++ token (To.Instr 0 (ip + length xs) Left) (Word.Val (Int x)) ∷ []
inputs_push ip [] x = let e : ip ≡ ip + 0 = omega arith in ap (λ (n : ℕ). token (To.Instr 0 n Left) (Word.Val (Int x)) ∷ []) e
inputs_push ip (y ∷ ys) x =
    let e : (ip + 1) + length ys ≡ ip + suc (length ys) = omega arith in
    ap (λ (ts : List Token). token (To.Instr 0 ip Left) (Word.Val (Int y)) ∷ ts)
    (inputs_push (ip + 1) ys x ∙ ap (λ (n : ℕ). input_tokens (ip + 1) ys ++ token (To.Instr 0 n Left) (Word.Val (Int x)) ∷ []) e)

-- one more input
pub start_more : (first ip i : ℕ) (inputs : List ℤ) (x : ℤ) → i < length inputs → x ≡ get_or inputs i x → ip ≡ first + i
    → start_tokens first (take i inputs) ++ token (To.Instr 0 (ip + 1) Left) (Word.Val (Int x)) ∷ [] ≡ start_tokens first (take (i + 1) inputs)
start_more first ip i inputs x low is ip_is =
    let count : length (take i inputs) ≡ i = length-take-le i inputs (omega arith) in
    let number : ip + 1 ≡ (first + 1) + length (take i inputs) = omega arith in
    let taken : take (i + 1) inputs ≡ take i inputs ++ x ∷ [] = take_more inputs i x low ∙ ap (λ (y : ℤ). take i inputs ++ y ∷ []) (sym is) in
    ap (λ (ts : List Token). token (To.Instr 0 first Left) (Word.Back (Cont.Host 0)) ∷ ts)
    (ap (λ (n : ℕ). input_tokens (first + 1) (take i inputs) ++ token (To.Instr 0 n Left) (Word.Val (Int x)) ∷ []) number
    ∙ sym (inputs_push (first + 1) (take i inputs) x)
    ∙ ap (λ (xs : List ℤ). input_tokens (first + 1) xs) (sym taken))

inputs_near : (b : Bounds) → 0 < b.frames → (ip : ℕ) (xs : List ℤ) → All (IsNearToken b) (input_tokens ip xs)
inputs_near b some ip [] = All-nil (IsNearToken b)
inputs_near b some ip (x ∷ xs) = All-cons (IsNearToken b) (token (To.Instr 0 ip Left) (Word.Val (Int x))) (input_tokens (ip + 1) xs)
    (record { to = some; word = tt }) (inputs_near b some (ip + 1) xs)

pub start_near : (b : Bounds) → 0 < b.frames → (first : ℕ) (xs : List ℤ) → All (IsNearToken b) (start_tokens first xs)
start_near b some first xs = All-cons (IsNearToken b) (token (To.Instr 0 first Left) (Word.Back (Cont.Host 0))) (input_tokens (first + 1) xs)
    (record { to = some; word = lit< tt }) (inputs_near b some (first + 1) xs)

-- the lane can receive them
pub start_for : (p : Program) (x : Extent) (l : LaneView) → IsWhole p x l → 0 < x.frames → (first : ℕ) (inputs : List ℤ)
    → All (IsFor (fixed_of l)) (start_tokens first inputs)
start_for p x l whole some first inputs =
    let one = whole.elements in
    let all = whole.frames in
    let count : l.held.part.shape.elements * l.held.part.shape.frames ≡ 1 * x.frames = ap (λ (n : ℕ). n * l.held.part.shape.frames) one
    ∙ ap (λ (n : ℕ). 1 * n) all in
    let few : 0 < l.held.part.shape.elements * l.held.part.shape.frames = omega (arith, count, some) in
    All-weaker (IsNearToken (bounds_at (fixed_of l))) (IsFor (fixed_of l))
    (λ t near. record { near = near; addressed = ap (λ (n : ℕ). element_of n t.to) one ∙ on_first t.to ∙ sym whole.element })
    (start_tokens first inputs) (start_near (bounds_at (fixed_of l)) few first inputs)

-- with a token that it can receive, it is sound still
pub more_sound : (l : LaneView) (t : Token) → IsSoundLane l.program l.held → IsFor (fixed_of l) t → (k : LaneView) → k ≡ with_more l (t ∷ [])
    → IsSoundLane k.program k.held
more_sound l t sound fit k is = subst (λ (v : LaneView). IsSoundLane v.program v.held) (sym is) (record {
  part = sound.part;
  near = All-append (IsNearToken (bounds_at (fixed_of l))) l.held.queue (t ∷ []) sound.near
      (All-cons (IsNearToken (bounds_at (fixed_of l))) t [] fit.near (All-nil (IsNearToken (bounds_at (fixed_of l)))));
  addressed = All-append (λ (u : Token). element_of l.held.part.shape.elements u.to ≡ l.held.part.shape.element) l.held.queue (t ∷ []) sound.addressed
      (All-cons (λ (u : Token). element_of l.held.part.shape.elements u.to ≡ l.held.part.shape.element) t [] fit.addressed
      (All-nil (λ (u : Token). element_of l.held.part.shape.elements u.to ≡ l.held.part.shape.element)));
  answered = sound.answered;
})

-- a lane can receive what it holds
pub held_for : (l : LaneView) (f : Fixed) → IsSoundLane l.program l.held → fixed_of l ≡ f → All (IsFor f) l.held.queue
held_for l f sound is = subst (λ (x : Fixed). All (IsFor x) l.held.queue) is
    (λ i d low. record { near = sound.near i d low; addressed = sound.addressed i d low })

-- THE LANE'S ONE TOKEN. It had none, and received this one.
module _ (l k : LaneView) (t u : Token) (idle : l.held.queue ≡ []) (same : u ≡ t) (is : k ≡ with_more l (u ∷ [])) where
  alone : k ≡ with_more (emptied l) (t ∷ [])
  alone = is ∙ ap (λ (ts : List Token). record { program = l.program; steps = l.steps; held = with_queue l.held (ts ++ u ∷ []) }) idle
      ∙ ap (λ (x : Token). record { program = l.program; steps = l.steps; held = with_queue l.held (x ∷ []) }) same

  pub has_one : 0 < length k.held.queue
  has_one = let some : 0 < length (t ∷ []) = omega arith in subst (λ (v : LaneView). 0 < length v.held.queue) (sym alone) some

  pub takes_one : (m n : LaneView) (made sent : List Token) → Does k.program k.held 0 [] m.held sent → made ≡ m.held.queue → n ≡ emptied m
      → Took l.program l t made n
  takes_one m n made sent does made_are after = record {
    between = m.held;
    sent = sent;
    does = subst (λ (v : LaneView). Does v.program v.held 0 [] m.held sent) alone does;
    made_are = made_are;
    after = ap (λ (v : LaneView). v.held) after;
  }

  pub excludes_one : IsFirstExcluded k → IsExcluded l t
  excludes_one excluded = (subst (λ (v : LaneView). IsFirstExcluded v) alone excluded) t refl

  pub same_fixed : fixed_of k ≡ fixed_of l
  same_fixed = ap fixed_of alone

-- THE START. What the ledger has then is what the books have that are opened.
pub opened_records : (p : Program) (l : LaneView) (inputs : List ℤ) (tokens : List Token) (places more : List (Option Token))
    → StartsAs p l.held.part → places ≡ [] → tokens ≡ start_tokens (first_of p p.main) inputs → more ≡ places ++ map Some tokens
    → Records l more (opening p inputs)
opened_records p l inputs tokens places more starts none are more_are =
    let is : more ≡ map Some tokens = more_are ∙ ap (λ (ps : List (Option Token)). ps ++ map Some tokens) none in
    let long = length-map tokens Some in
    record {
      part = starts inputs;
      pool = sym (ap on_way is ∙ all_on_way tokens ∙ are);
      numbers = sym (ap (numbers_from 0) is ∙ all_numbers 0 tokens ∙ ap (λ (ts : List Token). range_with_len 0 (length ts)) are);
      next = sym (ap (λ (ps : List (Option Token)). length ps) is ∙ long ∙ ap (λ (ts : List Token). length ts) are);
    }

pub opened_near : (P : Token → Type 0) (tokens : List Token) (places more : List (Option Token)) → places ≡ [] → more ≡ places ++ map Some tokens
    → All P tokens → All P (on_way more)
opened_near P tokens places more none more_are all = subst (All P)
    (sym (ap on_way (more_are ∙ ap (λ (ps : List (Option Token)). ps ++ map Some tokens) none) ∙ all_on_way tokens)) all

-- the next entry of the events in order
pub entries_next : (p : Program) (z : Size) (a b c : Book) (events : Events) (i : ℕ) (ev : ℕ × Token) (xs ys : List EntryView) (x : EntryView)
    → i < length events → ev ≡ get_or events i ev → ys ≡ xs ++ x ∷ []
    → AreEntries p z a (take i events) xs b → IsEntry p z ev.0 ev.1 b c x → AreEntries p z a (take (i + 1) events) ys c
entries_next p z a b c events i ev xs ys x low is more w e =
    let taken : take (i + 1) events ≡ take i events ++ ev ∷ [] = take_more events i ev low ∙ ap (λ (y : ℕ × Token). take i events ++ y ∷ []) (sym is) in
    subst (λ (es : Events). AreEntries p z a es ys c) (sym taken)
    (subst (λ (ls : List EntryView). AreEntries p z a (take i events ++ ev ∷ []) ls c) (sym more) (entries_push p z a b c (take i events) xs ev x w e))

pub entries_all : (p : Program) (z : Size) (a b : Book) (events : Events) (i : ℕ) (xs : List EntryView) → length events ≤ i
    → AreEntries p z a (take i events) xs b → AreEntries p z a events xs b
entries_all p z a b events i xs high w = subst (λ (es : Events). AreEntries p z a es xs b) (take_all i events high) w

-- one more change
changed_push : (cs : List Change) (c : Change) (s : Store) → all_changed (cs ++ c ∷ []) s ≡ changed c (all_changed cs s)
changed_push [] c s = refl
changed_push (d ∷ cs) c s = changed_push cs c (changed d s)

pub changed_more : (cs ds : List Change) (c : Change) (s m n : Store) → ds ≡ cs ++ c ∷ [] → all_changed cs s ≡ m → n ≡ changed c m
    → all_changed ds s ≡ n
changed_more cs ds c s m n more so_far then = ap (λ (l : List Change). all_changed l s) more ∙ changed_push cs c s
    ∙ ap (λ (x : Store). changed c x) so_far ∙ sym then
