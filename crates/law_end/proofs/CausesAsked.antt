-- What a run asks for, counted: each request for a frame and each credit is of an item that came, and no two are for one context.
use Rattle.std.proofs.Common.{◌≡◌, ℕ, ◌+◌, ◌≤◌, ℤ, Bool, true, false, not, ◌⊎◌, inl, inr, List, [], ◌∷◌, ◌++◌, length, map, Option, Some, None, if◌then◌else◌}
use Rattle.std.proofs.Common.{ltb-true, eqb-true, refl, sym, ap, ◌∙◌, arith, true≢false}
use Rattle.std.specs.Prelude.{Contains, count_by, flat_map}
use Rattle.std.proofs.lemmas.List.Elements.{Contains-append_cases, Contains-append_left, Contains-append_right}
use Rattle.lemmas.proofs.Contains.{contains_cases, contains_none, contains_flat_mapped}
use Rattle.tags.specs.declared.token.Port.{Port}
use Rattle.tags.specs.declared.token.Port.TheVariants.{Left, Right}
use Rattle.tags.specs.declared.token.To.{To}
use Rattle.tags.specs.declared.token.Token.{Token}
use Rattle.semantics.specs.declared.graph.Kind.{Kind}
use Rattle.semantics.specs.declared.program.Op.{Op}
use Rattle.semantics.specs.declared.program.Op.TheVariants.{Open, Take}
use Rattle.semantics.specs.Graph.{Block, Flow, Node, node_at}
use Rattle.semantics.specs.Plan.{Plan}
use Rattle.semantics.specs.Program.{instr_at}
use Rattle.semantics.specs.Meaning.{Context, Called, Turned}
use Rattle.semantics.specs.Machine.{Machine}
use Rattle.semantics.specs.Cause.{is_request, seeks_credit, is_credit_event, is_turn}
use Rattle.law_confluence.specs.OrdersTotals.{one, total}
use Rattle.law_confluence.proofs.Orders.{total-append, total-map, total-IsPermutation}
use Rattle.law_confluence.specs.EquationsContexts.{same_context}
use Rattle.law_confluence.proofs.EquationsContexts.{same_context_is}
use Rattle.law_net.specs.ContextsParts as Parts
use Rattle.law_net.specs.ContextsParts.{Part, Line, Opener, Taker, Asked, NextAsked, InCell, Item, Spot, spot_of, same_spot}
use Rattle.law_net.specs.ContextsBlocks.{Site, there_in, op_of, kind_op, line_op, is_loop}
use Rattle.law_net.specs.Contexts.{Wires, block_in, site_in, wiring_in, child, next}
use Rattle.law_net.specs.ContextsLaws.{Fits, spot_there, way_fits, port_fits}
use Rattle.law_net.specs.ContextsFirings.{Config}
use Rattle.law_net.specs.ContextsMirror.{Past, ip_of, to_of, token_of, is_in_cell, is_cell_token, but_cells, events_taken, only, came}
use Rattle.law_net.specs.ContextsTheorem.{IsGood}
use Rattle.law_net.specs.ContextsPackages.{Keeps}
use Rattle.law_net.proofs.ContextsSames.{hits_at}
use Rattle.law_net.proofs.WiredNets.{all_of, count_total, came_all, came_total, cells_apart, only_contains, only_total, one_passes, once_all, total_below}
use Rattle.law_net.proofs.RunsArrives.{laid, instr_here, fits_in}
use Rattle.law_end.specs.CausesCounted.{frame_for, credit_for, frames, credits, IsCounted}
use Rattle.law_end.proofs.CausesApart.{often, Apart, has, each_once, once_contains, once_back, once_apart, places_apart, fit_in}

-- LISTS
flat_often : (c : Context) (f : Item → List Context) (xs : List Item) → often c (flat_map f xs) ≡ total (λ (i : Item). often c (f i)) xs
flat_often c f [] = refl
flat_often c f (x ∷ xs) =
    let a = total-append (λ (d : Context). one (same_context c d)) (f x) (flat_map f xs) in let more = flat_often c f xs in omega (arith, a, more)

flat_length : (f : Item → List Context) (xs : List Item) → length (flat_map f xs) ≡ total (λ (i : Item). length (f i)) xs
flat_length f [] = refl
flat_length f (x ∷ xs) = let a = both (f x) (flat_map f xs) in let more = flat_length f xs in omega (arith, a, more)
  where
    both : (ds es : List Context) → length (ds ++ es) ≡ length ds + length es
    both [] es = omega arith
    both (d ∷ ds) es = let more = both ds es in omega (arith, more)

count_all : (xs : List Context) → count_by (λ (c : Context). true) xs ≡ length xs
count_all xs = count_total (λ c. true) xs ∙ go xs
  where
    go : (ys : List Context) → total (λ (c : Context). one true) ys ≡ length ys
    go [] = refl
    go (y ∷ ys) = let more = go ys in omega (arith, more)

one_less : (t : Bool) → one t ≤ 1
one_less true = omega arith
one_less false = omega arith

single : (t : Bool) → one t + 0 ≡ one (if t then true else false)
single true = refl
single false = refl

alone_has : (c d : Context) → has c (d ∷ []) ≡ true → c ≡ d
alone_has c d e = go (same_context c d) refl e
  where
    go : (t : Bool) → same_context c d ≡ t → (if t then true else false) ≡ true → c ≡ d
    go true q e = same_context_is c d q
    go false q e = absurd (true≢false (sym e))

-- WHICH INSTRUCTIONS seek a credit
abbrev seeks : Op → Bool
seeks op = elim op as (λ x. Bool) [ Open k ↦ true | Take k ↦ true | _ ↦ false ]

kind_seeks : (k : Kind ℕ) → seeks (kind_op k) ≡ false
kind_seeks (Kind.Lit z) = refl
kind_seeks (Kind.Apply1 op) = refl
kind_seeks (Kind.Apply2 op) = refl
kind_seeks (Kind.Fetch a) = refl
kind_seeks (Kind.Store a) = refl
kind_seeks k = refl

line_seeks : (b : Block ℕ) (n : ℕ) → seeks (line_op b n) ≡ false
line_seeks b n = go (node_at b n)
  where
    go : (o : Option (Node ℕ)) → seeks (elim o as (λ x. Op) [ None ↦ Op.Copy | Some line ↦ kind_op line.kind ]) ≡ false
    go None = refl
    go (Some line) = kind_seeks line.kind

abbrev is_seeker : Part → Bool
is_seeker (Opener n) = true
is_seeker (Taker n) = true
is_seeker r = false

part_seeks : (variant : ℕ → ℕ) (s : Site) (r : Part) → is_seeker r ≡ false → seeks (op_of variant s r) ≡ false
part_seeks variant s (Line n) e = line_seeks s.block n
part_seeks variant s (Opener n) e = absurd (true≢false e)
part_seeks variant s (Taker n) e = absurd (true≢false e)
part_seeks variant s r e = refl

-- FOR WHICH CONTEXT
data FrameFor (i : Item) (c : Context) : Type 0 where
  ByCall : (n : ℕ) → i.inlet.part ≡ Asked n → c ≡ Called i.context n → FrameFor i c
  ByLoop : (n : ℕ) → i.inlet.part ≡ Asked n → c ≡ Turned i.context n 0 → FrameFor i c
  ByTurn : (d : Context) (n t : ℕ) → i.inlet.part ≡ NextAsked → i.context ≡ Turned d n t → c ≡ Turned d n (t + 1) → FrameFor i c

data CreditFor (i : Item) (c : Context) : Type 0 where
  ByOpen : (n : ℕ) → i.inlet.part ≡ Opener n → c ≡ Turned i.context n 0 → CreditFor i c
  ByTake : (n : ℕ) → i.inlet.part ≡ Taker n → c ≡ Turned i.context n i.inlet.way → CreditFor i c

abbrev turn_of : Context → ℕ
turn_of (Turned c n t) = t
turn_of c = 0

abbrev in_loop : Context → Context
in_loop (Turned c n t) = c
in_loop (Called c n) = c
in_loop c = c

abbrev at_node : Context → ℕ
at_node (Turned c n t) = n
at_node (Called c n) = n
at_node c = 0

module _ (fl : Flow) (p : Plan) (w : Wires) (inputs : List ℤ) (q : Past) (m : Machine) (good : IsGood fl p w)
    (k : Keeps fl p w inputs q m) where
  abbrev net : Config
  net = k.tracks.net

  fits : (i : Item) → Contains (came fl net) i → Fits fl w (spot_of i)
  fits i c = fits_in fl p w inputs q m good k i (came_all fl net i c)

  few : (x : Spot) → hits_at x (came fl net) ≤ 1
  few x = let a = came_total fl (λ (i : Item). one (same_spot x (spot_of i))) net in let b = once_all fl w inputs net k.sound x in omega (arith, a, b)

  -- a part that takes one word has it at the left port
  left_at : (i : Item) (r : Part) → Contains (came fl net) i → i.inlet.part ≡ r → port_fits fl i.context r Right ≡ false → i.inlet.port ≡ Left
  left_at i r c e none = go i.inlet.port refl
    where
      go : (x : Port) → i.inlet.port ≡ x → i.inlet.port ≡ Left
      go Left g = g
      go Right g = absurd (true≢false (sym ((λ j. port_fits fl i.context (sym e j) (sym g j)) ∙ (fits i c).port) ∙ none))

  way_at : (i : Item) (r : Part) → Contains (came fl net) i → i.inlet.part ≡ r → way_fits fl i.context r i.inlet.port i.inlet.way ≡ true
  way_at i r c e = ap (λ (r : Part). way_fits fl i.context r i.inlet.port i.inlet.way) (sym e) ∙ (fits i c).way

  same : (i j : Item) → i.context ≡ j.context → i.inlet.part ≡ j.inlet.part → i.inlet.port ≡ j.inlet.port → i.inlet.way ≡ j.inlet.way → spot_of i ≡ spot_of j
  same i j a b c e = λ t. record { context = a t; inlet = record { part = b t; port = c t; way = e t } }

  -- FRAMES
  frame_of_child : (i : Item) (c : Context) (n : ℕ) (t : Bool) → i.inlet.part ≡ Asked n → c ≡ (if t then Turned i.context n 0 else Called i.context n)
      → FrameFor i c
  frame_of_child i c n true e g = ByLoop n e g
  frame_of_child i c n false e g = ByCall n e g

  frame_of_next : (i : Item) (c : Context) (d : Context) → i.inlet.part ≡ NextAsked → i.context ≡ d → is_turn d ≡ true → c ≡ next d → FrameFor i c
  frame_of_next i c (Turned d n t) e g h s = ByTurn d n t e g s
  frame_of_next i c d e g h s = absurd (true≢false (sym h))

  frame_for_by : (i : Item) (c : Context) → Contains (came fl net) i → (r : Part) → i.inlet.part ≡ r → has c (frame_for fl i.context r) ≡ true → FrameFor i c
  frame_for_by i c h (Asked n) e x = frame_of_child i c n (is_loop (block_in fl i.context) n) e (alone_has c (child fl i.context n) x)
  frame_for_by i c h NextAsked e x =
      frame_of_next i c i.context e refl (ap (spot_there fl w i.context) (sym e) ∙ (fits i h).there) (alone_has c (next i.context) x)
  frame_for_by i c h r e x = absurd (true≢false (sym x))

  -- both ask for it: at one place
  asked_same : (i j : Item) (n l : ℕ) → Contains (came fl net) i → Contains (came fl net) j → i.inlet.part ≡ Asked n → j.inlet.part ≡ Asked l
      → i.context ≡ j.context → n ≡ l → spot_of i ≡ spot_of j
  asked_same i j n l x y a b c e =
      same i j c (a ∙ ap Asked e ∙ sym b) (left_at i (Asked n) x a refl ∙ sym (left_at j (Asked l) y b refl))
      (eqb-true i.inlet.way 0 (way_at i (Asked n) x a) ∙ sym (eqb-true j.inlet.way 0 (way_at j (Asked l) y b)))

  frames_meet : (c : Context) (i j : Item) → Contains (came fl net) i → Contains (came fl net) j → FrameFor i c → FrameFor j c → spot_of i ≡ spot_of j
  frames_meet c i j x y (ByCall n a e) (ByCall l b g) = asked_same i j n l x y a b (ap in_loop (sym e ∙ g)) (ap at_node (sym e ∙ g))
  frames_meet c i j x y (ByLoop n a e) (ByLoop l b g) = asked_same i j n l x y a b (ap in_loop (sym e ∙ g)) (ap at_node (sym e ∙ g))
  frames_meet c i j x y (ByTurn d n t a h e) (ByTurn f l u b o g) =
      let turn = ap turn_of (sym e ∙ g) in let s : t ≡ u = omega (arith, turn) in
      let context : i.context ≡ j.context = h ∙ (λ z. Turned (ap in_loop (sym e ∙ g) z) (ap at_node (sym e ∙ g) z) (s z)) ∙ sym o in
      same i j context (a ∙ sym b) (left_at i NextAsked x a refl ∙ sym (left_at j NextAsked y b refl))
      (eqb-true i.inlet.way 0 (way_at i NextAsked x a) ∙ sym (eqb-true j.inlet.way 0 (way_at j NextAsked y b)))
  frames_meet c i j x y (ByCall n a e) (ByLoop l b g) = let z : Called i.context n ≡ Turned j.context l 0 = sym e ∙ g in absurd (cc)
  frames_meet c i j x y (ByLoop n a e) (ByCall l b g) = let z : Turned i.context n 0 ≡ Called j.context l = sym e ∙ g in absurd (cc)
  frames_meet c i j x y (ByCall n a e) (ByTurn f l u b o g) = let z : Called i.context n ≡ Turned f l (u + 1) = sym e ∙ g in absurd (cc)
  frames_meet c i j x y (ByTurn d n t a h e) (ByCall l b g) = let z : Turned d n (t + 1) ≡ Called j.context l = sym e ∙ g in absurd (cc)
  frames_meet c i j x y (ByLoop n a e) (ByTurn f l u b o g) = let z = ap turn_of (sym e ∙ g) in absurd (omega (arith, z))
  frames_meet c i j x y (ByTurn d n t a h e) (ByLoop l b g) = let z = ap turn_of (sym e ∙ g) in absurd (omega (arith, z))

  often_frames : (c d : Context) (r : Part) → often c (frame_for fl d r) ≡ one (has c (frame_for fl d r))
  often_frames c d (Asked n) = single (same_context c (child fl d n))
  often_frames c d NextAsked = single (same_context c (next d))
  often_frames c d r = refl

  abbrev all_frames : List Context
  all_frames = flat_map (frames fl) (came fl net)

  frames_apart : Apart all_frames
  frames_apart c =
      let a = flat_often c (frames fl) (came fl net) in
      let b = total_below (λ (i : Item). often c (frames fl i)) (λ (i : Item). one (has c (frames fl i))) (came fl net)
      (λ i h. let o = often_frames c i.context i.inlet.part in omega (arith, o)) in
      let d = one_passes (λ (i : Item). has c (frames fl i)) (came fl net) few
      (λ i j x y s t. frames_meet c i j x y (frame_for_by i c x i.inlet.part refl s) (frame_for_by j c y j.inlet.part refl t)) in
      omega (arith, a, b, d)

  -- CREDITS
  credit_for_by : (i : Item) (c : Context) (r : Part) → i.inlet.part ≡ r → has c (credit_for i.context r i.inlet.way) ≡ true → CreditFor i c
  credit_for_by i c (Opener n) e x = ByOpen n e (alone_has c (Turned i.context n 0) x)
  credit_for_by i c (Taker n) e x = ByTake n e (alone_has c (Turned i.context n i.inlet.way) x)
  credit_for_by i c r e x = absurd (true≢false (sym x))

  credits_meet : (c : Context) (i j : Item) → Contains (came fl net) i → Contains (came fl net) j → CreditFor i c → CreditFor j c → spot_of i ≡ spot_of j
  credits_meet c i j x y (ByOpen n a e) (ByOpen l b g) =
      same i j (ap in_loop (sym e ∙ g)) (a ∙ ap Opener (ap at_node (sym e ∙ g)) ∙ sym b) (left_at i (Opener n) x a refl ∙ sym (left_at j (Opener l) y b refl))
      (eqb-true i.inlet.way 0 (way_at i (Opener n) x a) ∙ sym (eqb-true j.inlet.way 0 (way_at j (Opener l) y b)))
  credits_meet c i j x y (ByTake n a e) (ByTake l b g) =
      same i j (ap in_loop (sym e ∙ g)) (a ∙ ap Taker (ap at_node (sym e ∙ g)) ∙ sym b) (left_at i (Taker n) x a refl ∙ sym (left_at j (Taker l) y b refl))
      (ap turn_of (sym e ∙ g))
  credits_meet c i j x y (ByOpen n a e) (ByTake l b g) =
      let z = ap turn_of (sym e ∙ g) in let o = ltb-true 0 j.inlet.way (way_at j (Taker l) y b) in absurd (omega (arith, z, o))
  credits_meet c i j x y (ByTake n a e) (ByOpen l b g) =
      let z = ap turn_of (sym e ∙ g) in let o = ltb-true 0 i.inlet.way (way_at i (Taker n) x a) in absurd (omega (arith, z, o))

  often_credits : (c d : Context) (r : Part) (t : ℕ) → often c (credit_for d r t) ≡ one (has c (credit_for d r t))
  often_credits c d (Opener n) t = single (same_context c (Turned d n 0))
  often_credits c d (Taker n) t = single (same_context c (Turned d n t))
  often_credits c d r t = refl

  abbrev all_credits : List Context
  all_credits = flat_map credits (came fl net)

  credits_apart : Apart all_credits
  credits_apart c =
      let a = flat_often c credits (came fl net) in
      let b = total_below (λ (i : Item). often c (credits i)) (λ (i : Item). one (has c (credits i))) (came fl net)
      (λ i h. let o = often_credits c i.context i.inlet.part i.inlet.way in omega (arith, o)) in
      let d = one_passes (λ (i : Item). has c (credits i)) (came fl net) few
      (λ i j x y s t. credits_meet c i j x y (credit_for_by i c i.inlet.part refl s) (credit_for_by j c j.inlet.part refl t)) in
      omega (arith, a, b, d)

  credits_turn : (c d : Context) (r : Part) (t : ℕ) → Contains (credit_for d r t) c → is_turn c ≡ true
  credits_turn c d (Opener n) t h = go (contains_cases (Turned d n 0) [] c h)
    where
      go : (Turned d n 0 ≡ c) ⊎ Contains [] c → is_turn c ≡ true
      go (inl e) = ap is_turn (sym e)
      go (inr k) = absurd (contains_none c k)
  credits_turn c d (Taker n) t h = go (contains_cases (Turned d n t) [] c h)
    where
      go : (Turned d n t ≡ c) ⊎ Contains [] c → is_turn c ≡ true
      go (inl e) = ap is_turn (sym e)
      go (inr k) = absurd (contains_none c k)
  credits_turn c d r t h = absurd (contains_none c h)

  -- EVENTS. What takes no cell's token is counted by the items that came.
  abbrev kept : List Item
  kept = only (λ (i : Item). not (is_in_cell i.inlet.part)) (came fl net)

  counted : (test : To → Bool) (g : Item → ℕ) → ((t : Token) → is_cell_token t ≡ true → test t.to ≡ false)
      → ((i : Item) → Contains kept i → one (test (to_of fl p w net.fired i i.inlet.part)) ≤ g i)
      → count_by (λ (ev : ℕ × Token). test ev.1.to) q.events ≤ total g (came fl net)
  counted test g cells less =
      let on : Token → ℕ = λ (t : Token). one (test t.to) in
      let ts = events_taken q.events ++ m.pool in
      let a = count_total (λ (ev : ℕ × Token). test ev.1.to) q.events in
      let b = total-map (λ (ev : ℕ × Token). ev.1) on q.events in
      let c = total-append on (events_taken q.events) m.pool in
      let d = cells_apart (λ (t : Token). test t.to) cells ts in
      let e = total-IsPermutation on (but_cells ts) (map (token_of fl p w net.fired) kept) k.tracks.met in
      let f = total-map (token_of fl p w net.fired) on kept in
      let h = total_below (λ (i : Item). one (test (to_of fl p w net.fired i i.inlet.part))) g kept less in
      let o = only_total (λ (i : Item). not (is_in_cell i.inlet.part)) g (came fl net) in
      omega (arith, a, b, c, d, e, f, h, o)

  not_held : (i : Item) → Contains kept i → is_in_cell i.inlet.part ≡ false
  not_held i h = go (is_in_cell i.inlet.part) (only_contains (λ (i : Item). not (is_in_cell i.inlet.part)) (came fl net) i h).1
    where
      go : (t : Bool) → not t ≡ true → t ≡ false
      go true e = absurd (true≢false (sym e))
      go false e = refl

  came_kept : (i : Item) → Contains kept i → Contains (came fl net) i
  came_kept i h = (only_contains (λ (i : Item). not (is_in_cell i.inlet.part)) (came fl net) i h).0

  -- a request is of an item that asks for a frame
  request_by : (i : Item) (r : Part) → is_in_cell r ≡ false → one (is_request (to_of fl p w net.fired i r)) ≤ length (frame_for fl i.context r)
  request_by i (Asked n) e = omega arith
  request_by i NextAsked e = omega arith
  request_by i (InCell n) e = absurd (true≢false e)
  request_by i r e = omega arith

  -- and a credit is sought by one that asks for it
  credit_by : (i : Item) (r : Part) → Contains (came fl net) i → i.inlet.part ≡ r → is_in_cell r ≡ false
      → one (is_credit_event p.program (to_of fl p w net.fired i r)) ≤ length (credit_for i.context r i.inlet.way)
  credit_by i (Opener n) h g e = one_less _
  credit_by i (Taker n) h g e = one_less _
  credit_by i (InCell n) h g e = absurd (true≢false e)
  credit_by i (Asked n) h g e = omega arith
  credit_by i NextAsked h g e = omega arith
  credit_by i (Parts.Shown j) h g e = omega arith
  credit_by i Parts.Done h g e = omega arith
  credit_by i Parts.Freed h g e = omega arith
  credit_by i r h g e = none (sym (ap (spot_there fl w i.context) g) ∙ there i h)
    where
      there : (i : Item) → Contains (came fl net) i → spot_there fl w i.context i.inlet.part ≡ true
      there i h = (fits i h).there

      none : there_in fl (site_in fl w i.context) (wiring_in fl w i.context) r ≡ true → one (seeks_credit (instr_at p.program (ip_of fl p w i.context r))) ≤ 0
      none at =
          let con = (fits i h).is_context in
          let found = (laid fl p w inputs q m good k i.context con).here r at in
          let instr = instr_here fl p w inputs q m good k i.context con r at in
          let no : seeks_credit (instr_at p.program (ip_of fl p w i.context r)) ≡ false = ap seeks_credit instr ∙ ap seeks found.2.op
          ∙ part_seeks w.variant (site_in fl w i.context) r refl in
          let z = ap one no in omega (arith, z)

  pub counts : IsCounted fl p q net
  counts =
      let both = all_frames ++ all_credits in
      let asked = fit_in (λ (c : Context). true) all_frames (each_once both) frames_apart
      (λ c h. (once_contains both c (Contains-append_left all_frames all_credits c h), refl)) in
      let turns = fit_in is_turn all_credits (each_once both) credits_apart
      (λ c h. (once_contains both c (Contains-append_right all_frames all_credits c h), turn c h)) in
      let a = flat_length (frames fl) (came fl net) in let b = flat_length credits (came fl net) in
      let all = count_all (each_once both) in
      let requests = counted is_request (λ (i : Item). length (frames fl i)) request_cells (λ i h. request_by i i.inlet.part (not_held i h)) in
      let sought = counted (is_credit_event p.program) (λ (i : Item). length (credits i)) credit_cells
      (λ i h. credit_by i i.inlet.part (came_kept i h) refl (not_held i h)) in
      record {
        due = each_once both;
        arrives = λ c h. arrives c (Contains-append_cases all_frames all_credits c (once_back both c h));
        apart = places_apart (each_once both) (once_apart both);
        enough = omega (arith, asked, a, all, requests);
        turns = omega (arith, turns, b, sought);
      }
    where
      turn : (c : Context) → Contains all_credits c → is_turn c ≡ true
      turn c h = let i = contains_flat_mapped credits (came fl net) c h in credits_turn c i.0.context i.0.inlet.part i.0.inlet.way i.2

      arrives : (c : Context) → Contains all_frames c ⊎ Contains all_credits c
          → (i : Item) × Contains (all_of fl net) i × (Contains (frames fl i) c ⊎ Contains (credits i) c)
      arrives c (inl h) = let i = contains_flat_mapped (frames fl) (came fl net) c h in (i.0, came_all fl net i.0 i.1, inl i.2)
      arrives c (inr h) = let i = contains_flat_mapped credits (came fl net) c h in (i.0, came_all fl net i.0 i.1, inr i.2)

      request_cells : (t : Token) → is_cell_token t ≡ true → is_request t.to ≡ false
      request_cells t e = go t.to e
        where
          go : (to : To) → (elim to as (λ x. Bool) [ To.Fetch x ↦ true | To.Store x v ↦ true | _ ↦ false ]) ≡ true → is_request to ≡ false
          go (To.Fetch x) e = refl
          go (To.Store x v) e = refl
          go to e = absurd (true≢false (sym e))

      credit_cells : (t : Token) → is_cell_token t ≡ true → is_credit_event p.program t.to ≡ false
      credit_cells t e = go t.to e
        where
          go : (to : To) → (elim to as (λ x. Bool) [ To.Fetch x ↦ true | To.Store x v ↦ true | _ ↦ false ]) ≡ true → is_credit_event p.program to ≡ false
          go (To.Fetch x) e = refl
          go (To.Store x v) e = refl
          go to e = absurd (true≢false (sym e))
