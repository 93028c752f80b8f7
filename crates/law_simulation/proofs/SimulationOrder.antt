-- A release finds in the new code what it has to.
use Rattle.std.proofs.Common.{◌≡◌, sym, ap, ◌∙◌, subst, ℕ, ℤ, List, [], ◌∷◌, ◌++◌, IsPermutation, Contains}
use Rattle.std.proofs.lemmas.List.Sorted.{IsPermutation-sym, IsPermutation-trans}
use Rattle.lemmas.proofs.Contains.{contains_head, contains_mapped}
use Rattle.tags.specs.declared.value.Value.TheVariants.{Int}
use Rattle.tags.specs.declared.token.Port.{Port}
use Rattle.tags.specs.declared.token.Port.TheVariants.{Left, Right}
use Rattle.tags.specs.declared.token.Cont.{Cont}
use Rattle.tags.specs.declared.token.Word.{Word}
use Rattle.tags.specs.declared.token.To.{To}
use Rattle.tags.specs.declared.token.Token.{Token}
use Rattle.tags.specs.declared.slot.SlotState.{SlotState}
use Rattle.tags.specs.declared.slot.SlotState.TheVariants as Slot
use Rattle.tags.specs.declared.slot.SlotState.TheVariants.{Empty, Credits, Waiter, Draining}
use Rattle.semantics.specs.Program.{Program}
use Rattle.semantics.specs.Rule.{token}
use Rattle.semantics.specs.Machine.{CellState, Vacant, Full, Deferred, Machine, Store as MStore, Size, Events}
use Rattle.semantics.specs.Handed.{EachOnce}
use Rattle.semantics.specs.Plan.{Plan}
use Rattle.semantics.specs.Wired.{IsWired}
use Rattle.semantics.specs.Orderly.{Orderly, IsOrderlyRun, IsStart}
use Rattle.law_fresh_frames.specs.Alike.{LandsRightly}
use Rattle.law_confluence.proofs.Orders.{first_lifted, flat_map-IsPermutation}
use Rattle.tags.specs.declared.slot.SlotState.TheVariants.{Waiter}
use Rattle.semantics.specs.Orderly.{NamesCont, NamesWord, NamesTo, NamesSlot, readers_of, IsFreeAtRelease}
use Rattle.semantics.specs.declared.program.Op.{Op}
use Rattle.semantics.specs.declared.program.Op.TheVariants.{Lit, Copy}
use Rattle.semantics.specs.Rule.{at_dest, to_all}
use Rattle.lemmas.proofs.Contains.{contains_map}
use Rattle.std.proofs.lemmas.List.Elements.{Contains-append_left, Contains-append_right}
use Rattle.lemmas.proofs.Contains.{contains_cases, contains_none}
use Rattle.std.proofs.Common.{inl, inr, ◌⊎◌}
use Rattle.law_simulation.specs.Places.{ip_cell, ip_cont, ip_slot, ip_store, ip_to, ip_token, ip_word}
use Rattle.law_simulation.specs.Simulates.{HandsOn, IsValue, Relates, StandAll, Stands, left, moved, right, stand_more, stand_none, through}
use Rattle.law_simulation.proofs.SimulationParts.{Clump, in_meant, meant_of}
use Rattle.law_simulation.proofs.SimulationState.{O, Sim}
use Rattle.law_simulation.proofs.SimulationTraces.{Step}

module _ (h : ℕ → ℕ) (f : ℕ) where
  names_cont : (c : Cont) → NamesCont f (ip_cont h c) → NamesCont f c
  names_cont (Cont.Frame g ip r) n = n
  names_cont (Cont.Host j) n = n

  names_word : (w : Word) → NamesWord f (ip_word h w) → NamesWord f w
  names_word (Word.Val v) n = n
  names_word (Word.Frame g) n = n
  names_word (Word.Back c) n = names_cont c n

  names_to : (to : To) → NamesTo f (ip_to h to) → NamesTo f to
  names_to (To.Instr g ip r) n = n
  names_to (To.Release g) n = n
  names_to (To.Fetch x) n = n
  names_to (To.Store x v) n = n
  names_to To.Manager n = n
  names_to (To.Host j) n = n

  names_slot : (s : SlotState) → NamesSlot f (ip_slot h s) → NamesSlot f s
  names_slot (Slot.Left w) n = names_word w n
  names_slot (Slot.Right w) n = names_word w n
  names_slot (Waiter c) n = names_cont c n
  names_slot Empty n = n
  names_slot (Credits k) n = n
  names_slot (Draining k) n = n

  names_reader : (y : CellState) → ((c : Cont) → Contains (readers_of y) c → NamesCont f c → ⊥) → (c : Cont) → Contains (readers_of (ip_cell h y)) c
      → NamesCont f c → ⊥
  names_reader Vacant none c inside n = none c inside n
  names_reader (Full v) none c inside n = none c inside n
  names_reader (Deferred cs) none c inside n =
      let m = contains_mapped (ip_cont h) cs c inside in none m.0 m.1 (names_cont m.0 (subst (NamesCont f) (sym m.2) n))

module _ (p q : Plan) (S : Relates p q) (wired : IsWired p) (orderly : Orderly p) (lands : LandsRightly p) (inputs : List ℤ) (z : Size)
    (start : IsStart p z inputs)
    (events : Events) (m : Machine) (gone : List ℕ) (ss : List Step) (V : Sim p q S wired orderly lands inputs z start events m gone ss)
    (once : EachOnce (0 ∷ gone)) where
  abbrev P : Program
  P = p.program

  abbrev Q : Program
  Q = q.program

  abbrev g : ℕ → ℕ
  g = S.g

  abbrev h : ℕ → ℕ
  h = S.h

  OK : IsOrderlyRun p z _ V.part.done V.part.last V.part.run
  OK = O p q S wired orderly lands inputs z start events m gone ss V once

  abbrev Free : ℕ → Token → Type 0
  Free f t = (NamesTo f t.to → ⊥) × (NamesWord f t.word → ⊥)

  value_silent : (f : ℕ) (w : Word) → IsValue w → NamesWord f w → ⊥
  value_silent f w (v, e) n = subst (NamesWord f) e n

  -- the word that is passed on names what the one that arrives names
  word_silent : (f : ℕ) (op : Op) (w v : Word) → HandsOn IsValue op w v → (NamesWord f v → ⊥) → NamesWord f w → ⊥
  word_silent f (Lit z) w v e free n = value_silent f w e.1 n
  word_silent f Copy w v e free n = free (subst (NamesWord f) (sym e) n)
  word_silent f op w v e free n = e

  -- what nothing names that tokens stand for, the tokens do not name
  mutual
    silent : (f : ℕ) (seen : Token) (meant : List Token) → Stands P Q g h seen meant → ((t : Token) → Contains meant t → Free f t) → Free f seen
    silent f seen meant (moved s ts u is one fits) free =
        let k = free u (subst (λ (l : List Token). Contains l u) (sym one) (contains_head u [])) in (
          λ n. k.0 (names_to h f u.to (subst (λ (t : Token). NamesTo f t.to) is n)),
          λ n. k.1 (names_word h f u.word (subst (λ (t : Token). NamesWord f t.word) is n)),
        )
    silent f seen meant (through s ts k ip w v j is at op all d some fresh) free =
        let t = all_silent f (to_all record { frame = k; ip = ip } v j) meant all free (at_dest record { frame = k; ip = ip } v d)
        (contains_map (at_dest record { frame = k; ip = ip } v) (j.firsts ++ j.seconds) d some) in (
          λ x. t.0 (subst (λ (t : Token). NamesTo f t.to) is x),
          λ x. word_silent f j.op w v op t.1 (subst (λ (t : Token). NamesWord f t.word) is x),
        )
    silent f seen meant (right s ts k a w o n i j is at op to new one fresh) free =
        let t = free (token (To.Instr k a Left) w)
        (subst (λ (l : List Token). Contains l (token (To.Instr k a Left) w)) (sym one)
        (contains_head (token (To.Instr k a Left) w) (token (To.Instr k a Right) (Word.Val (Int n)) ∷ []))) in
        (λ x. t.0 (subst (λ (t : Token). NamesTo f t.to) is x), λ x. t.1 (names_word h f w (subst (λ (t : Token). NamesWord f t.word) is x)))
    silent f seen meant (left s ts k a w o n i j is at op to new one fresh) free =
        let t = free (token (To.Instr k a Right) w)
        (subst (λ (l : List Token). Contains l (token (To.Instr k a Right) w)) (sym one)
        (contains_head (token (To.Instr k a Right) w) (token (To.Instr k a Left) (Word.Val (Int n)) ∷ []))) in
        (λ x. t.0 (subst (λ (t : Token). NamesTo f t.to) is x), λ x. t.1 (names_word h f w (subst (λ (t : Token). NamesWord f t.word) is x)))

    all_silent : (f : ℕ) (xs ys : List Token) → StandAll P Q g h xs ys → ((t : Token) → Contains ys t → Free f t) → (t : Token) → Contains xs t → Free f t
    all_silent f xs ys (stand_none x1 y1 a b) free t inside = absurd (contains_none t (subst (λ (l : List Token). Contains l t) a inside))
    all_silent f xs ys (stand_more x1 y1 t1 ts us vs st more a b) free t inside =
        pick (contains_cases t1 ts t (subst (λ (l : List Token). Contains l t) a inside))
        (silent f t1 us st (λ u c. free u (subst (λ (l : List Token). Contains l u) (sym b) (Contains-append_left us vs u c))))
        (all_silent f ts vs more (λ u c. free u (subst (λ (l : List Token). Contains l u) (sym b) (Contains-append_right us vs u c))) t)
      where
        pick : (t1 ≡ t) ⊎ Contains ts t → Free f t1 → (Contains ts t → Free f t) → Free f t
        pick (inl e) one rest = subst (Free f) e one
        pick (inr c) one rest = rest c

  apart_to : (f k n : ℕ) (r : Port) → To.Release f ≡ To.Instr k n r → ⊥
  apart_to f k n r e = cc

  release_clump : (f : ℕ) (w : Word) (seen : Token) (meant : List Token) → seen ≡ token (To.Release f) w → Stands P Q g h seen meant
      → (k : Word) × (w ≡ ip_word h k) × (meant ≡ token (To.Release f) k ∷ [])
  release_clump f w seen meant e (moved s ts u is one fits) = go u.to u.word (sym e ∙ is) one
    where
      releases : (g k : ℕ) → To.Release f ≡ To.Release g → g ≡ f
      releases g k e = cc

      go : (to : To) (k : Word) → token (To.Release f) w ≡ ip_token h (token to k) → meant ≡ token to k ∷ []
          → (k : Word) × (w ≡ ip_word h k) × (meant ≡ token (To.Release f) k ∷ [])
      go (To.Instr g a r) k d one = absurd (let d1 = ap (λ (t : Token). t.to) d in cc)
      go (To.Fetch y) k d one = absurd (let d1 = ap (λ (t : Token). t.to) d in cc)
      go (To.Store y v) k d one = absurd (let d1 = ap (λ (t : Token). t.to) d in cc)
      go To.Manager k d one = absurd (let d1 = ap (λ (t : Token). t.to) d in cc)
      go (To.Host j) k d one = absurd (let d1 = ap (λ (t : Token). t.to) d in cc)
      go (To.Release g) k d one =
          (k, ap (λ (t : Token). t.word) d, one ∙ ap (λ (x : ℕ). token (To.Release x) k ∷ []) (releases g 0 (ap (λ (t : Token). t.to) d)))
  release_clump f w seen meant e (through s ts k ip v x j is at op all d some fresh) = absurd (apart_to f k ip Left (ap (λ (t : Token). t.to) (sym e ∙ is)))
  release_clump f w seen meant e (right s ts k a v o n i j is at op to new one fresh) = absurd (apart_to f k (g a) Left (ap (λ (t : Token). t.to) (sym e ∙ is)))
  release_clump f w seen meant e (left s ts k a v o n i j is at op to new one fresh) = absurd (apart_to f k (g a) Left (ap (λ (t : Token). t.to) (sym e ∙ is)))

  stores : m.store ≡ ip_store h V.part.last.store
  stores = V.store ∙ ap (ip_store h) (sym V.part.same)

  pub release_kept : IsFreeAtRelease m
  release_kept f w rest takes out =
      let l = first_lifted (λ (c : Clump P Q g h). c.seen) V.clumps (token (To.Release f) w) rest
      (IsPermutation-trans _ _ _ (IsPermutation-sym _ _ V.seen) takes) in
      let r = release_clump f w (l.0).seen (l.0).meant l.3 (l.0).stands in
      let pool : IsPermutation V.part.last.pool (token (To.Release f) r.0 ∷ meant_of P Q g h l.1) =
      subst (λ (ts : List Token). IsPermutation V.part.last.pool (ts ++ meant_of P Q g h l.1)) r.2
      (IsPermutation-trans _ _ _ V.part.pool (flat_map-IsPermutation (λ (c : Clump P Q g h). c.meant) V.clumps (l.0 ∷ l.1) l.2)) in
      let free = OK.release f r.0 (meant_of P Q g h l.1) pool (sym (ap (λ (s : MStore). s.out f) stores) ∙ out) in (
        λ n. free.0 (names_word h f r.0 (subst (NamesWord f) r.1 n)),
        record {
          tokens = λ t inside.
              (let c = contains_mapped (λ (c : Clump P Q g h). c.seen) l.1 t (subst (λ (ts : List Token). Contains ts t) (sym l.4) inside) in
              subst (Free f) c.2 (silent f (c.0).seen (c.0).meant (c.0).stands (λ t there. free.1.tokens t (in_meant P Q g h l.1 c.0 c.1 t there))));
          readers =
              λ x c inside n. names_reader h f (V.part.last.store.cells x) (free.1.readers x) c
              (subst (λ (s : MStore). Contains (readers_of (s.cells x)) c) stores inside) n;
          requests = λ c inside n.
              (let k = contains_mapped (ip_cont h) V.part.last.store.requests c (subst (λ (s : MStore). Contains s.requests c) stores inside) in
              free.1.requests k.0 k.1 (names_cont h f k.0 (subst (NamesCont f) (sym k.2) n)));
          words = λ g2 r n. free.1.words g2 r (names_slot h f (V.part.last.store.slots g2 r) (subst (λ (s : MStore). NamesSlot f (s.slots g2 r)) stores n));
          slots = λ r. ap (λ (s : MStore). s.slots f r) stores ∙ ap (ip_slot h) (free.1.slots r);
        },
      )
