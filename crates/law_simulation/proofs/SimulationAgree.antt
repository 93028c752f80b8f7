-- Switches of one mark take equal predicates in the new code, one block runs in a frame, and a port gets one token.
use Rattle.std.proofs.Common.{◌≡◌, refl, sym, ap, ◌∙◌, subst, ℕ, ◌<◌, ◌≤◌, ◌⊎◌, inl, inr, true, false, ℤ, List, [], ◌∷◌, Contains, arith}
use Rattle.tags.specs.declared.token.Port.{Port}
use Rattle.tags.specs.declared.token.Port.TheVariants.{Left, Right}
use Rattle.tags.specs.declared.token.Word.{Word}
use Rattle.tags.specs.declared.token.To.{To}
use Rattle.tags.specs.declared.token.Token.{Token}
use Rattle.semantics.specs.Program.{Program, instr_at}
use Rattle.semantics.specs.Rule.{token}
use Rattle.semantics.specs.Machine.{Machine, Size, Events}
use Rattle.semantics.specs.Handed.{EachOnce}
use Rattle.semantics.specs.Plan.{Plan}
use Rattle.semantics.specs.Wired.{IsWired}
use Rattle.semantics.specs.Orderly.{Orderly, IsOrderlyRun, IsStart, met}
use Rattle.law_reuse.proofs.SlotsHistory.{taken}
use Rattle.law_fresh_frames.specs.Alike.{LandsRightly}
use Rattle.semantics.specs.Orderly.{is_at}
use Rattle.std.proofs.lemmas.Bool.{cases_order}
use Rattle.std.specs.Prelude.{count_by}
use Rattle.lemmas.proofs.Contains.{contains_head}
use Rattle.semantics.specs.declared.program.Mark.{Mark}
use Rattle.semantics.specs.Orderly.{IsMarked, same_block, often, is_at}
use Rattle.law_fresh_frames.proofs.BoundedRows.{count_tot}
use Rattle.law_simulation.specs.Places.{Spot, ip_token, ip_word}
use Rattle.law_simulation.specs.Simulates.{Fits, Leaf, Plain, Relates, Stands, left, moved, right, through}
use Rattle.law_simulation.proofs.SimulationCounts.{HasLeaf, counted_met, leaf_of}
use Rattle.law_simulation.proofs.SimulationPorts.{ones, ones_some}
use Rattle.law_simulation.proofs.SimulationSeen.{met_known}
use Rattle.law_simulation.proofs.SimulationState.{Explained, O, Sim}
use Rattle.law_simulation.proofs.SimulationTraces.{Step}

-- the marks of moved instructions are those that they had
abbrev pub KeepsMarks : (p q : Plan) → Relates p q → Type 0
KeepsMarks p q S = (a : ℕ) (m : Mark) → Plain p.program q.program S.h a → IsMarked q (S.h a) m → IsMarked p a m

module _ (p q : Plan) (S : Relates p q) (wired : IsWired p) (orderly : Orderly p) (lands : LandsRightly p) (inputs : List ℤ) (z : Size)
    (start : IsStart p z inputs)
    (events : Events) (m : Machine) (gone : List ℕ) (ss : List Step) (V : Sim p q S wired orderly lands inputs z start events m gone ss)
    (once : EachOnce (0 ∷ gone)) where
  abbrev P : Program
  P = p.program

  abbrev Q : Program
  Q = q.program

  abbrev g : ℕ → ℕ
  g = S.g

  abbrev h : ℕ → ℕ
  h = S.h

  OK : IsOrderlyRun p z _ V.part.done V.part.last V.part.run
  OK = O p q S wired orderly lands inputs z start events m gone ss V once

  -- a token at a right port was one at a right port
  pub record WasRight (f ip : ℕ) (v : Word) : Type 0 where
    pub a : ℕ
    pub word : Word
    pub plain : Plain P Q h a
    pub place : ip ≡ h a
    pub same : v ≡ ip_word h word
    pub was : Contains (met V.part.done V.part.last) (token (To.Instr f a Right) word)

  instr_same : (f a g b : ℕ) (r t : Port) → To.Instr f a r ≡ To.Instr g b t → (g ≡ f) × (a ≡ b) × (t ≡ r)
  instr_same f a g b r t e = (cc, cc, cc)

  right_left : Right ≡ Left → ⊥
  right_left e = cc

  right_was : (f ip : ℕ) (v : Word) → Contains (met events m) (token (To.Instr f ip Right) v) → WasRight f ip v
  right_was f ip v inside =
      let E : Explained p q S wired orderly lands inputs z start V.part.done V.part.last (token (To.Instr f ip Right) v) =
      met_known p q S wired orderly lands inputs z start events m gone ss V (token (To.Instr f ip Right) v) inside in
      go E.tokens E.stands E.were
    where
      by_to : (to : To) (w : Word) → Fits P Q h to → token (To.Instr f ip Right) v ≡ ip_token h (token to w)
          → Contains (met V.part.done V.part.last) (token to w) → WasRight f ip v
      by_to (To.Instr k a r) w K e was =
          let s = instr_same f ip k (h a) Right r (ap (λ (t : Token). t.to) e) in
          record {
            a = a;
            word = w;
            plain = K;
            place = s.1;
            same = ap (λ (t : Token). t.word) e;
            was =
                subst (λ (x : ℕ). Contains (met V.part.done V.part.last) (token (To.Instr x a Right) w)) s.0
                (subst (λ (r : Port). Contains (met V.part.done V.part.last) (token (To.Instr k a r) w)) s.2 was);
          }
      by_to (To.Fetch x) w K e was = absurd (let d = ap (λ (t : Token). t.to) e in cc)
      by_to (To.Store x u) w K e was = absurd (let d = ap (λ (t : Token). t.to) e in cc)
      by_to To.Manager w K e was = absurd (let d = ap (λ (t : Token). t.to) e in cc)
      by_to (To.Release g) w K e was = absurd (let d = ap (λ (t : Token). t.to) e in cc)
      by_to (To.Host j) w K e was = absurd (let d = ap (λ (t : Token). t.to) e in cc)

      off : (k n : ℕ) (w : Word) → token (To.Instr f ip Right) v ≡ token (To.Instr k n Left) w → ⊥
      off k n w e = right_left (sym (instr_same f ip k n Right Left (ap (λ (t : Token). t.to) e)).2)

      go : (ts : List Token) → Stands P Q g h (token (To.Instr f ip Right) v) ts → ((u : Token) → Contains ts u → Contains (met V.part.done V.part.last) u)
          → WasRight f ip v
      go ts (moved s us u is one fits) were = by_to u.to u.word fits is (were u (subst (λ (l : List Token). Contains l u) (sym one) (contains_head u [])))
      go ts (through s us k n w y j is at op all d some fresh) were = absurd (off k n w is)
      go ts (right s us k a w o n i j is at op to new one fresh) were = absurd (off k (g a) (ip_word h w) is)
      go ts (left s us k a w o n i j is at op to new one fresh) were = absurd (off k (g a) (ip_word h w) is)

  pub agree_kept : KeepsMarks p q S → (f ip jp : ℕ) (k : Mark) (v w : Word) → IsMarked q ip k → IsMarked q jp k
      → Contains (met events m) (token (To.Instr f ip Right) v) → Contains (met events m) (token (To.Instr f jp Right) w) → v ≡ w
  agree_kept marks f ip jp k v w mi mj ci cj =
      let A = right_was f ip v ci in
      let B = right_was f jp w cj in
      A.same
      ∙ ap (ip_word h) (OK.agree f A.a B.a k A.word B.word (marks A.a k A.plain (subst (λ (x : ℕ). IsMarked q x k) A.place mi))
      (marks B.a k B.plain (subst (λ (x : ℕ). IsMarked q x k) B.place mj)) (OK.block f A.a B.a Right Right A.word B.word A.was B.was) A.was B.was)
      ∙ sym B.same

  -- ---- BLOCKS
  -- a token at a port was one at a port for which that stands
  pub record Was (f ip : ℕ) (r : Port) : Type 0 where
    pub x : Spot
    pub word : Word
    pub leaf : Leaf P Q g h ip r x
    pub was : Contains (met V.part.done V.part.last) (token (To.Instr f x.0 x.1) word)

  pub was_there : (f ip : ℕ) (r : Port) (v : Word) → Contains (met events m) (token (To.Instr f ip r) v) → Was f ip r
  was_there f ip r v inside =
      let E : Explained p q S wired orderly lands inputs z start V.part.done V.part.last (token (To.Instr f ip r) v) =
      met_known p q S wired orderly lands inputs z start events m gone ss V (token (To.Instr f ip r) v) inside in
      let L : HasLeaf P Q g h S.apart S.pairs_apart f ip r E.tokens =
      leaf_of P Q g h S.apart S.pairs_apart (token (To.Instr f ip r) v) E.tokens E.stands f ip r refl in
      record { x = L.x; word = L.word; leaf = L.leaf; was = E.were (token (To.Instr f (L.x).0 (L.x).1) L.word) L.there }

  -- ports stand for ports of the block in which they are
  abbrev pub KeepsBlocks : Type 0
  KeepsBlocks = (ip jp : ℕ) (r t : Port) (x y : Spot) → Leaf P Q g h ip r x → Leaf P Q g h jp t y
      → same_block P.blocks x.0 y.0 ≡ true → same_block Q.blocks ip jp ≡ true

  pub block_kept : KeepsBlocks → (f ip jp : ℕ) (r t : Port) (v w : Word) → Contains (met events m) (token (To.Instr f ip r) v)
      → Contains (met events m) (token (To.Instr f jp t) w) → same_block Q.blocks ip jp ≡ true
  block_kept keeps f ip jp r t v w ci cj =
      let A = was_there f ip r v ci in
      let B = was_there f jp t w cj in
      keeps ip jp r t A.x B.x A.leaf B.leaf (OK.block f (A.x).0 (B.x).0 (A.x).1 (B.x).1 A.word B.word A.was B.was)

  -- ---- ONE TOKEN AT A PORT
  -- where a port stands for one of a literal, that gets one token
  abbrev pub Lone : Type 0
  Lone = (ip : ℕ) (r : Port) (x : Spot) → Leaf P Q g h ip r x → often (instr_at Q ip) ≡ false → often (instr_at P x.0) ≡ false

  pub once_kept : Lone → (f ip : ℕ) (r : Port) → often (instr_at Q ip) ≡ false → count_by (λ (t : Token). is_at f ip r t.to) (met events m) ≤ 1
  once_kept lone f ip r off = go (cases_order (ones f ip r (met events m)) 0)
    where
      same : ones f ip r (met events m) ≡ count_by (λ (t : Token). is_at f ip r t.to) (met events m)
      same = count_tot (λ (t : Token). is_at f ip r t.to) (met events m)

      go : (ones f ip r (met events m) ≡ 0) ⊎ ((ones f ip r (met events m) < 0) ⊎ (0 < ones f ip r (met events m)))
          → count_by (λ (t : Token). is_at f ip r t.to) (met events m) ≤ 1
      go (inl e) = omega (arith, e, same)
      go (inr (inl l)) = absurd (omega (arith, l))
      go (inr (inr l)) =
          let c = ones_some f ip r (met events m) l in
          let W : Was f ip r = was_there f ip r c.0 c.1 in
          let le = counted_met P Q g h S.apart S.pairs_apart (taken events)
          (taken V.part.done) m.pool V.part.last.pool V.clumps V.counted V.seen V.part.pool f ip r W.x W.leaf in
          let few = OK.once f (W.x).0 (W.x).1 (lone ip r W.x W.leaf off) in
          let k = count_tot (λ (t : Token). is_at f (W.x).0 (W.x).1 t.to) (met V.part.done V.part.last) in
          omega (arith, same, le, few, k)
