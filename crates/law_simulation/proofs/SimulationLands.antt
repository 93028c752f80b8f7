-- A word at a return still is a long enough landing's.
use Rattle.std.proofs.Common.{◌≡◌, sym, ap, ◌∙◌, subst, ℕ, ◌⊎◌, inl, inr, true, false, true≢false, List, [], ◌∷◌, Some, None, Contains}
use Rattle.std.proofs.lemmas.Option.{same_Some}
use Rattle.lemmas.proofs.Contains.{contains_head}
use Rattle.tags.specs.declared.token.Port.{Port}
use Rattle.tags.specs.declared.token.Port.TheVariants.{Left}
use Rattle.tags.specs.declared.token.Cont.{Cont}
use Rattle.tags.specs.declared.token.Word.{Word}
use Rattle.tags.specs.declared.token.To.{To}
use Rattle.tags.specs.declared.token.Token.{Token}
use Rattle.semantics.specs.declared.program.Op.{Op}
use Rattle.semantics.specs.declared.program.Op.TheVariants.{Return, Ask, Release}
use Rattle.semantics.specs.Program.{Instr, Program, instr_at}
use Rattle.semantics.specs.Rule.{token}
use Rattle.semantics.specs.Machine.{Machine, Events, Run, at_start}
use Rattle.semantics.specs.Handed.{handed, EachOnce, UsesEachOnce}
use Rattle.semantics.specs.Plan.{Plan}
use Rattle.semantics.specs.Wired.{IsWired}
use Rattle.semantics.specs.Orderly.{Orderly, IsStart, met}
use Rattle.law_fresh_frames.specs.Alike.{offset_of, HasLanding, LandsRightly}
use Rattle.semantics.specs.declared.program.Op.TheVariants.{Return, Ask, Release}
use Rattle.law_simulation.specs.Places.{ip_to, ip_word}
use Rattle.law_simulation.specs.Simulates.{Fits, IsMoved, IsValue, Plain, Relates, Stands, counts_none, empty, itself, left, moved, right, through}
use Rattle.law_simulation.proofs.SimulationFires.{hands_op}
use Rattle.law_simulation.proofs.SimulationParts.{hands_none}
use Rattle.law_simulation.proofs.SimulationRuns.{simulated}
use Rattle.law_simulation.proofs.SimulationSeen.{met_known}
use Rattle.law_simulation.proofs.SimulationState.{Explained}
use Rattle.law_simulation.proofs.SimulationTraces.{Step, steps_of}

-- what is in the new code, and is no literal and no operator with a literal operand, stands for itself
abbrev pub ComesBack : (p q : Plan) → Relates p q → Type 0
ComesBack p q S = (ip : ℕ) (j : Instr) → instr_at q.program ip ≡ Some j → counts_none j.op ≡ false → (a : ℕ) × (ip ≡ S.h a) × Plain p.program q.program S.h a

-- a landing is one in its new place
abbrev pub MovesLandings : (p q : Plan) → Relates p q → Type 0
MovesLandings p q S = (base o : ℕ) → HasLanding p base o → HasLanding q (S.h base) o

module _ (p q : Plan) (S : Relates p q) (moves : MovesLandings p q S) (wired : IsWired p) (orderly : Orderly p) (lands : LandsRightly p) where
  abbrev P : Program
  P = p.program

  abbrev Q : Program
  Q = q.program

  abbrev g : ℕ → ℕ
  g = S.g

  abbrev h : ℕ → ℕ
  h = S.h

  cont_same : (g b k n : ℕ) (r t : Port) → Cont.Frame g b r ≡ Cont.Frame k n t → b ≡ n
  cont_same g b k n r t e = cc

  back_same : (c d : Cont) → Word.Back c ≡ Word.Back d → c ≡ d
  back_same c d e = cc

  instr_same : (f a g b : ℕ) (r t : Port) → To.Instr f a r ≡ To.Instr g b t → (f ≡ g) × (a ≡ b) × (r ≡ t)
  instr_same f a g b r t e = (cc, cc, cc)

  none_some : (o : ℕ) → None ≡ Some o → ⊥
  none_some o e = cc

  nothing_there : (j : Instr) → Some j ≡ None → ⊥
  nothing_there j e = cc

  -- what takes a literal has no offset
  no_offset : (op : Op) (o : ℕ) → counts_none op ≡ true → offset_of op ≡ Some o → ⊥
  no_offset (Return n) o e k = true≢false (sym e)
  no_offset (Ask n) o e k = true≢false (sym e)
  no_offset (Release n) o e k = true≢false (sym e)
  no_offset op o e k = none_some o k

  pub lands_kept : LandsRightly q
  lands_kept inputs z events m start run once f ip g2 base o r i at is inside =
      let st : IsStart p z inputs = record { some_element = start.some_element; some_frame = start.some_frame; inputs_fit = start.inputs_fit ∙ S.inputs } in
      let V = simulated p q S wired orderly lands inputs z st events m run once in
      let gone : List ℕ = handed Q z (at_start Q inputs) events m run in
      let ss : List Step = steps_of Q z (at_start Q inputs) events m run in
      let old_once : UsesEachOnce P z inputs V.part.done V.part.last V.part.run = subst (λ (l : List ℕ). EachOnce (0 ∷ l)) (sym V.part.hands) once in
      let E : Explained p q S wired orderly lands inputs z st V.part.done V.part.last (token (To.Instr f ip Left) (Word.Back (Cont.Frame g2 base r))) =
      met_known p q S wired orderly lands inputs z st events m gone ss V (token (To.Instr f ip Left) (Word.Back (Cont.Frame g2 base r))) inside in
      by_stands st V.part.done V.part.last V.part.run old_once E.tokens E.stands E.were
    where
      at_moved : (st : IsStart p z inputs) (done : Events) (last : Machine) (run : Run P z (at_start P inputs) done last)
          → UsesEachOnce P z inputs done last run → (k a : ℕ) (t : Port) (g3 b2 : ℕ) (r2 : Port) → Plain P Q h a → To.Instr f ip Left ≡ To.Instr k (h a) t
          → base ≡ h b2 → Contains (met done last) (token (To.Instr k a t) (Word.Back (Cont.Frame g3 b2 r2))) → HasLanding q base o
      at_moved st done last run once k a t g3 b2 r2 K e same was = by_place K
        where
          s : (f ≡ k) × (ip ≡ h a) × (Left ≡ t)
          s = instr_same f ip k (h a) Left t e

          go : (i2 : Instr) → instr_at P a ≡ Some i2 → IsMoved P Q g h a i2 → HasLanding q base o
          go i2 at2 M =
              let ji : M.j ≡ i = same_Some M.j i (sym M.there ∙ ap (instr_at Q) (sym s.1) ∙ at) in
              let off : offset_of i2.op ≡ Some o = ap offset_of (sym M.op ∙ ap (λ (i : Instr). i.op) ji) ∙ is in
              let L : HasLanding p b2 o = lands inputs z done last st run once k a g3 b2 o r2 i2 at2 off
              (subst (λ (t : Port). Contains (met done last) (token (To.Instr k a t) (Word.Back (Cont.Frame g3 b2 r2)))) (sym s.2) was) in
              subst (λ (n : ℕ). HasLanding q n o) (sym same) (moves b2 o L)

          by_place : Plain P Q h a → HasLanding q base o
          by_place (itself i2 j at2 there) = by (S.instrs a i2 at2)
            where
              by : IsMoved P Q g h a i2 ⊎ (instr_at Q (h a) ≡ None) → HasLanding q base o
              by (inl M) = go i2 at2 M
              by (inr none_new) = absurd (nothing_there j (sym there ∙ none_new))
          by_place (empty at2 none_new apart) = absurd (nothing_there i (sym at ∙ ap (instr_at Q) s.1 ∙ none_new))

      by_word : (st : IsStart p z inputs) (done : Events) (last : Machine) (run : Run P z (at_start P inputs) done last) → UsesEachOnce P z inputs done last run
          → (k a : ℕ) (t : Port) (w : Word) → Plain P Q h a → To.Instr f ip Left ≡ To.Instr k (h a) t
          → Word.Back (Cont.Frame g2 base r) ≡ ip_word h w → Contains (met done last) (token (To.Instr k a t) w) → HasLanding q base o
      by_word st done last run once k a t (Word.Val v) K e d was = absurd (cc)
      by_word st done last run once k a t (Word.Frame v) K e d was = absurd (cc)
      by_word st done last run once k a t (Word.Back (Cont.Host v)) K e d was = absurd (let x = back_same (Cont.Frame g2 base r) (Cont.Host v) d in cc)
      by_word st done last run once k a t (Word.Back (Cont.Frame g3 b2 r2)) K e d was =
          at_moved st done last run once k a t g3 b2 r2 K e
          (cont_same g2 base g3 (h b2) r r2 (back_same (Cont.Frame g2 base r) (Cont.Frame g3 (h b2) r2) d)) was

      by_to : (st : IsStart p z inputs) (done : Events) (last : Machine) (run : Run P z (at_start P inputs) done last) → UsesEachOnce P z inputs done last run
          → (to : To) (w : Word) → Fits P Q h to → To.Instr f ip Left ≡ ip_to h to
          → Word.Back (Cont.Frame g2 base r) ≡ ip_word h w → Contains (met done last) (token to w) → HasLanding q base o
      by_to st done last run once (To.Instr k a t) w K e d was = by_word st done last run once k a t w K e d was
      by_to st done last run once (To.Fetch x) w K e d was = absurd (cc)
      by_to st done last run once (To.Store x v) w K e d was = absurd (cc)
      by_to st done last run once To.Manager w K e d was = absurd (cc)
      by_to st done last run once (To.Release x) w K e d was = absurd (cc)
      by_to st done last run once (To.Host x) w K e d was = absurd (cc)

      not_there : (k n : ℕ) (w : Word) (j : Instr) → token (To.Instr f ip Left) (Word.Back (Cont.Frame g2 base r)) ≡ token (To.Instr k n Left) w
          → instr_at Q n ≡ Some j → counts_none j.op ≡ true → ⊥
      not_there k n w j e there off =
          let same : j ≡ i = same_Some j i (sym there ∙ ap (instr_at Q) (sym (instr_same f ip k n Left Left (ap (λ (t : Token). t.to) e)).1) ∙ at) in
          no_offset i.op o (sym (ap (λ (i : Instr). counts_none i.op) same) ∙ off) is

      by_stands : (st : IsStart p z inputs) (done : Events) (last : Machine) (run : Run P z (at_start P inputs) done last)
          → UsesEachOnce P z inputs done last run → (ts : List Token)
          → Stands P Q g h (token (To.Instr f ip Left) (Word.Back (Cont.Frame g2 base r))) ts → ((u : Token) → Contains ts u → Contains (met done last) u)
          → HasLanding q base o
      by_stands st done last run once ts (moved t1 ts1 u e one fits) were =
          by_to st done last run once u.to u.word fits (ap (λ (t : Token). t.to) e) (ap (λ (t : Token). t.word) e)
          (were u (subst (λ (l : List Token). Contains l u) (sym one) (contains_head u [])))
      by_stands st done last run once ts (through t1 ts1 k n w y j e to op all d some fresh) were =
          absurd (not_there k n w j e to (hands_none j.op (hands_op IsValue j.op w y op)))
      by_stands st done last run once ts (right t1 ts1 k a w u y i2 j e at2 op2 to new one fresh) were =
          absurd (not_there k (g a) (ip_word h w) j e to (ap counts_none new))
      by_stands st done last run once ts (left t1 ts1 k a w u y i2 j e at2 op2 to new one fresh) were =
          absurd (not_there k (g a) (ip_word h w) j e to (ap counts_none new))
