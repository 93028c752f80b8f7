-- The frames of a run: each token that is taken lies in a frame that was handed out, and there are no more of these than requests.
use Rattle.std.proofs.Common.{◌≡◌, refl, sym, ap, ◌∙◌, subst, ℕ, zero, suc, ◌+◌, ◌*◌, ◌≤◌, ◌⊎◌, inl, inr, Bool, true, false, true≢false, ℤ, List, [], ◌∷◌, ◌++◌}
use Rattle.std.proofs.Common.{length, Contains, append_assoc, length-append, arith}
use Rattle.std.specs.Prelude.{filter_map, cond, ⊤}
use Rattle.std.proofs.lemmas.Bool.{cases_eq, cases_Bool, eqb-true}
use Rattle.std.proofs.lemmas.List.Elements.{Contains-append_left, Contains-append_right}
use Rattle.std.proofs.lemmas.List.Sorted.{Contains-permutation, IsPermutation-refl, IsPermutation-sym, length_permutation}
use Rattle.std.proofs.lemmas.List.Sums.{sum_by-cons}
use Rattle.lemmas.proofs.Permutations.{Each}
use Rattle.lemmas.proofs.Contains.{contains_cases, contains_head, contains_tail}
use Rattle.tags.specs.declared.token.Cont.{Cont}
use Rattle.tags.specs.declared.token.Word.{Word}
use Rattle.tags.specs.declared.token.To.{To}
use Rattle.tags.specs.declared.token.Token.{Token}
use Rattle.semantics.specs.Program.{Program, instr_at}
use Rattle.semantics.specs.Rule.{token, rule_at}
use Rattle.semantics.specs.Machine.{Machine, Store, Size, Events, Run, at_start, put_at, slot_in, slot_used, outputs_of, Happens}
use Rattle.semantics.specs.Cause.{is_request, request_count}
use Rattle.semantics.specs.Handed.{frame_of, handed_by, handed}
use Rattle.semantics.specs.Plan.{Plan}
use Rattle.semantics.specs.Orderly.{IsFreeOf, IsFreeAtRelease, Orderly, IsStart, met}
use Rattle.law_reuse.proofs.FramesFold.{put_same, put_other}
use Rattle.law_reuse.proofs.FramesSnoc.{run_snoc}
use Rattle.law_reuse.proofs.Frames.{so_start, FreesOnce, fires_out, fetches_out, stores_out, hosts_out}
use Rattle.law_reuse.proofs.FramesAlwaysFreed.{frees_always}
use Rattle.law_reuse.proofs.FramesNames.{known}

-- ---- WHICH FRAMES ARE OUT
abbrev pub OutAmong : List ℕ → Store → Type 0
OutAmong gone s = (f : ℕ) → s.out f ≡ true → Contains gone f

still : (gone more : List ℕ) (old new : Store) → new.out ≡ old.out → OutAmong gone old → OutAmong (gone ++ more) new
still gone more old new e h f is = Contains-append_left gone more f (h f (ap (λ (o : ℕ → Bool). o f) (sym e) ∙ is))

out_put : (gone made : List ℕ) (old : ℕ → Bool) (g f : ℕ) (b : Bool) → ((f : ℕ) → old f ≡ true → Contains gone f) → (b ≡ true → Contains made g)
    → put_at old g b f ≡ true → Contains (gone ++ made) f
out_put gone made old g f b h one is = go (cases_eq g f)
  where
    go : (g ≡ f) ⊎ (g ≡ f → ⊥) → Contains (gone ++ made) f
    go (inl d) = subst (Contains (gone ++ made)) d (Contains-append_right gone made g (one (sym (put_same old g b f d) ∙ is)))
    go (inr ne) = Contains-append_left gone made f (h f (sym (put_other old g b f ne) ∙ is))

out_next : (p : Program) (total : ℕ) (old new : Store) (to : To) (w : Word) (made : List Token) (gone : List ℕ) → OutAmong gone old
    → Happens p total old to w made new → OutAmong (gone ++ handed_by to made) new
out_next p total old new (To.Instr f ip q) w made gone h e =
    let o = slot_used (instr_at p ip) in
    still gone [] old new (fires_out old new f (slot_used (instr_at p ip))
    (rule_at p record { frame = f; ip = ip } (instr_at p ip) (slot_in old f (slot_used (instr_at p ip))) q w) made e).0 h
out_next p total old new (To.Fetch x) (Word.Back c) made gone h e = still gone [] old new (fetches_out old new x c (old.cells x) made e).0 h
out_next p total old new (To.Store x v) (Word.Back c) made gone h e = still gone [] old new (stores_out old new x v c (old.cells x) made e).0 h
out_next p total old new To.Manager (Word.Back c) made gone h (inl e) =
    (λ f is. out_put gone (filter_map frame_of made) old.out e.0 f true h
    (λ _. subst (λ (l : List Token). Contains (filter_map frame_of l) e.0) (sym e.3) (contains_head e.0 [])) (sym (ap (λ (s : Store). s.out f) e.4) ∙ is))
out_next p total old new To.Manager (Word.Back c) made gone h (inr e) = still gone (filter_map frame_of made) old new (ap (λ (s : Store). s.out) e.2) h
out_next p total old new (To.Release g) w made gone h (out, inl e) =
    (λ f is. out_put gone (filter_map frame_of made) old.out g f false h (λ b. absurd (true≢false (sym b))) (sym (ap (λ (s : Store). s.out f) e.2) ∙ is))
out_next p total old new (To.Release g) w made gone h (out, inr e) = still gone (filter_map frame_of made) old new (ap (λ (s : Store). s.out) e.4) h
out_next p total old new (To.Host j) w made gone h e = still gone [] old new (hosts_out (outputs_of p) old new j w made e).0 h
out_next p total old new to w made gone h e = absurd e

-- ---- HOW MANY WERE HANDED OUT
abbrev asked : To → ℕ
asked to = cond (is_request to) 1 0

handed_few : (p : Program) (total : ℕ) (old new : Store) (to : To) (w : Word) (made : List Token) → Happens p total old to w made new
    → length (handed_by to made) + length new.requests ≤ length old.requests + asked to
handed_few p total old new (To.Instr f ip q) w made e =
    let a = ap (λ (l : List Cont). length l)
    (fires_out old new f (slot_used (instr_at p ip))
    (rule_at p record { frame = f; ip = ip } (instr_at p ip) (slot_in old f (slot_used (instr_at p ip))) q w) made e).1 in omega (arith, a)
handed_few p total old new (To.Fetch x) (Word.Back c) made e =
    let a = ap (λ (l : List Cont). length l) (fetches_out old new x c (old.cells x) made e).1 in omega (arith, a)
handed_few p total old new (To.Store x v) (Word.Back c) made e =
    let a = ap (λ (l : List Cont). length l) (stores_out old new x v c (old.cells x) made e).1 in omega (arith, a)
handed_few p total old new To.Manager (Word.Back c) made (inl e) =
    let a : length (filter_map frame_of made) ≡ 1 = ap (λ (l : List Token). length (filter_map frame_of l)) e.3 in
    let b = ap (λ (s : Store). length s.requests) e.4 in omega (arith, a, b)
handed_few p total old new To.Manager (Word.Back c) made (inr e) =
    let a : length (filter_map frame_of made) ≡ 0 = ap (λ (l : List Token). length (filter_map frame_of l)) e.1 in
    let b = ap (λ (s : Store). length s.requests) e.2 in
    let n = length-append old.requests (c ∷ []) in omega (arith, a, b, n)
handed_few p total old new (To.Release g) w made (out, inl e) =
    let a : length (filter_map frame_of made) ≡ 0 = ap (λ (l : List Token). length (filter_map frame_of l)) e.1 in
    let b = ap (λ (s : Store). length s.requests) e.2 in omega (arith, a, b)
handed_few p total old new (To.Release g) w made (out, inr (c, rest, moved, makes, is)) =
    let a : length (filter_map frame_of made) ≡ 1 = ap (λ (l : List Token). length (filter_map frame_of l)) makes in
    let b = ap (λ (s : Store). length s.requests) is in
    let n = length_permutation _ _ moved in omega (arith, a, b, n)
handed_few p total old new (To.Host j) w made e = let a = ap (λ (l : List Cont). length l) (hosts_out (outputs_of p) old new j w made e).1 in omega (arith, a)
handed_few p total old new to w made e = absurd e

requests_cons : (ev : ℕ × Token) (events : Events) → request_count (ev ∷ events) ≡ asked ev.1.to + request_count events
requests_cons ev events = sum_by-cons (λ (ev : ℕ × Token). asked ev.1.to) ev events

pub few_handed : (p : Program) (z : Size) (old : Machine) (events : Events) (new : Machine) (r : Run p z old events new)
    → length (handed p z old events new r) + length new.store.requests ≤ length old.store.requests + request_count events
few_handed p z old [] new r = let a = ap (λ (s : Store). length s.requests) r.1 in omega (arith, a)
few_handed p z old (ev ∷ events) new r =
    let a = few_handed p z r.0 events new r.2 in let b = handed_few p (z.elements * z.frames) old.store (r.0).store ev.1.to ev.1.word r.1.made r.1.happens in
    let c = requests_cons ev events in let d = length-append (handed_by ev.1.to r.1.made) (handed p z r.0 events new r.2) in omega (arith, a, b, c, d)

-- ---- EACH TOKEN'S FRAME
abbrev pub InFrame : List ℕ → To → Type 0
InFrame gone (To.Instr f ip q) = Contains gone f
InFrame gone to = ⊤

-- a token of the pool lies in a frame that is out
in_frame : (m : Machine) (gone : List ℕ) → ((F : ℕ) → m.store.out F ≡ false → IsFreeOf F m.pool m) → OutAmong gone m.store → (w : Word) (to : To)
    → Contains m.pool (token to w) → InFrame gone to
in_frame m gone free out w (To.Instr f ip q) inside = go (cases_Bool (m.store.out f))
  where
    go : (m.store.out f ≡ true) ⊎ (m.store.out f ≡ false) → Contains gone f
    go (inl e) = out f e
    go (inr e) = absurd (((free f e).tokens (token (To.Instr f ip q) w) inside).0 refl)
in_frame m gone free out w (To.Fetch x) inside = tt
in_frame m gone free out w (To.Store x v) inside = tt
in_frame m gone free out w To.Manager inside = tt
in_frame m gone free out w (To.Release f) inside = tt
in_frame m gone free out w (To.Host j) inside = tt

frame_later : (gone more : List ℕ) (to : To) → InFrame gone to → InFrame (gone ++ more) to
frame_later gone more (To.Instr f ip q) h = Contains-append_left gone more f h
frame_later gone more (To.Fetch x) h = tt
frame_later gone more (To.Store x v) h = tt
frame_later gone more To.Manager h = tt
frame_later gone more (To.Release f) h = tt
frame_later gone more (To.Host j) h = tt

module _ (p : Plan) (z : Size) (inputs : List ℤ) (start : IsStart p z inputs) (orderly : Orderly p) where
  abbrev first : Machine
  first = at_start p.program inputs

  frees_once : FreesOnce p.program inputs z.elements
  frees_once frames some events u run once =
      (orderly inputs record { elements = z.elements; frames = frames } events
      u record { some_element = start.some_element; some_frame = some; inputs_fit = start.inputs_fit } run once).release

  frees : (events : Events) (m : Machine) → Run p.program z first events m → IsFreeAtRelease m
  frees events m run = frees_always p p.program inputs z events m start.some_element start.some_frame frees_once run

  free_here : (events : Events) (m : Machine) → Run p.program z first events m → (F : ℕ) → m.store.out F ≡ false → IsFreeOf F m.pool m
  free_here events m run = (known p p.program z inputs frees events m so_start (λ x F. refl) run).free

  framed_from : (later done : Events) (m c : Machine) (gone : List ℕ) → OutAmong gone m.store → Run p.program z first done m → (r : Run p.program z m later c)
      → Each (λ (ev : ℕ × Token). InFrame (gone ++ handed p.program z m later c r) ev.1.to) later
  framed_from [] done m c gone out before r = tt
  framed_from (ev ∷ later) done m c gone out before r =
      let here : Contains m.pool (token ev.1.to ev.1.word) = Contains-permutation _ _ ev.1 (IsPermutation-sym _ _ r.1.takes) (contains_head ev.1 r.1.rest) in
      let more = framed_from later (done ++ (ev.0, ev.1) ∷ []) r.0 c (gone ++ handed_by ev.1.to r.1.made)
      (out_next p.program (z.elements * z.frames) m.store (r.0).store ev.1.to ev.1.word r.1.made gone out r.1.happens)
      (run_snoc p.program z first m r.0 done ev.0 ev.1 before r.1) r.2 in (
        frame_later gone (handed_by ev.1.to r.1.made ++ handed p.program z r.0 later c r.2) ev.1.to
            (in_frame m gone (free_here done m before) out ev.1.word ev.1.to here),
        subst (λ (l : List ℕ). Each (λ (ev : ℕ × Token). InFrame l ev.1.to) later)
            (append_assoc gone (handed_by ev.1.to r.1.made) (handed p.program z r.0 later c r.2)) more,
      )

  pub framed : (events : Events) (m : Machine) (r : Run p.program z first events m)
      → Each (λ (ev : ℕ × Token). InFrame (0 ∷ handed p.program z first events m r) ev.1.to) events
  framed events m r = framed_from events [] first m (0 ∷ []) out (IsPermutation-refl _, refl) r
    where
      out : OutAmong (0 ∷ []) first.store
      out zero e = contains_head 0 []
      out (suc f) e = let d : suc f ≡ 0 = eqb-true (suc f) 0 e in absurd (omega (arith, d))

-- ---- THE TOKENS THAT ARE MET
pub still_met : (p : Program) (z : Size) (old : Machine) (events : Events) (new : Machine) → Run p z old events new → (t : Token) → Contains old.pool t
    → Contains (met events new) t
still_met p z old [] new r t inside = Contains-permutation _ _ t r.0 inside
still_met p z old (ev ∷ events) new r t inside =
    go (contains_cases ev.1 r.1.rest t (Contains-permutation _ _ t r.1.takes inside)) (λ inside. still_met p z r.0 events new r.2 t inside)
  where
    go : (ev.1 ≡ t) ⊎ Contains r.1.rest t → (Contains (r.0).pool t → Contains (met events new) t) → Contains (met (ev ∷ events) new) t
    go (inl e) more = subst (Contains (met (ev ∷ events) new)) e (contains_head ev.1 (met events new))
    go (inr c) more =
        contains_tail ev.1 (met events new) t
        (more (Contains-permutation _ _ t (IsPermutation-sym _ _ r.1.leaves) (Contains-append_right r.1.made r.1.rest t c)))
