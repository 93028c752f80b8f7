-- How a wave is gathered, token by token.
use Rattle.std.proofs.Common.{◌≡◌, ℕ, List, [], ◌∷◌, ◌++◌, Option, Some, None, ap, ◌∙◌, subst}
use Rattle.tags.specs.declared.value.Value.{Value}
use Rattle.semantics.specs.Graph.{Graph}
use Rattle.oracle.specs.declared.invocations.Invocation.{Invocation}
use Rattle.oracle.specs.Deeds.{Deed}
use Rattle.oracle.specs.declared.state.Gate.{Gate}
use Rattle.oracle.specs.declared.state.Gate.TheVariants.{Free, Defers, Clashes}
use Rattle.oracle.specs.declared.tokens.Token.{Token}
use Rattle.oracle.specs.declared.report.MeanEnd.TheVariants.{Clash}
use Rattle.oracle.specs.Acting.{gate_of}
use Rattle.oracle.specs.Running.{Matched, Alone, Joins, Fails}
use Rattle.oracle.specs.Rows.{with_row}
use Rattle.oracle.specs.Gathering.{Gathered, Clashed, Failed, gathered}
use Rattle.oracle.proofs.RowRuns.{Among}

module _ (g : Graph) (xs : List Invocation) (cells : List (Option Value)) where
  abbrev pub gated : Token → List Token → (ℕ → List Token) → List Token → List (List Value × Deed) → List Token → List Value → Deed → Gate → Gathered
  gated t ts rows d acts left vs deed gate = elim gate [
    | Free ↦ gathered g xs cells ts (with_row rows t.context left) d (acts ++ (vs, deed) ∷ [])
    | Defers ↦ gathered g xs cells ts (with_row rows t.context left) (d ++ t ∷ []) acts
    | Clashes a i ↦ Clashed (Clash a i)
  ]

  abbrev pub joined : Token → List Token → (ℕ → List Token) → List Token → List (List Value × Deed) → Matched → Gathered
  joined t ts rows d acts j = elim j [
    | Alone ↦ gathered g xs cells ts (with_row rows t.context (rows t.context ++ t ∷ [])) d acts
    | Joins left vs deed ↦ gated t ts rows d acts left vs deed (gate_of cells deed)
    | Fails ↦ Failed
  ]

  module _ (t : Token) (ts d : List Token) (rows new : ℕ → List Token) (acts : List (List Value × Deed)) where
    pub gain_alone : {X : Type 0} (o : Option X) (values : X → List Value) (deed : X → Deed) → o ≡ None → Among g xs t rows new values deed o
        → gathered g xs cells (t ∷ ts) rows d acts ≡ gathered g xs cells ts new d acts
    gain_alone o values deed is h =
        let b = subst (λ o. Among g xs t rows new values deed o) is h in
        ap (λ j. joined t ts rows d acts j) b.0 ∙ ap (λ r. gathered g xs cells ts r d acts) b.1

    pub gain_free : {X : Type 0} (o : Option X) (a : X) (values : X → List Value) (deed : X → Deed) → o ≡ Some a → Among g xs t rows new values deed o
        → gate_of cells (deed a) ≡ Free
        → gathered g xs cells (t ∷ ts) rows d acts ≡ gathered g xs cells ts new d (acts ++ (values a, deed a) ∷ [])
    gain_free o a values deed is h gate =
        let b = subst (λ o. Among g xs t rows new values deed o) is h in
        ap (λ j. joined t ts rows d acts j) b.0 ∙ ap (λ k. gated t ts rows d acts (new t.context) (values a) (deed a) k) gate
        ∙ ap (λ r. gathered g xs cells ts r d (acts ++ (values a, deed a) ∷ [])) b.1

    pub gain_defers : {X : Type 0} (o : Option X) (a : X) (values : X → List Value) (deed : X → Deed) → o ≡ Some a
        → Among g xs t rows new values deed o → gate_of cells (deed a) ≡ Defers
        → gathered g xs cells (t ∷ ts) rows d acts ≡ gathered g xs cells ts new (d ++ t ∷ []) acts
    gain_defers o a values deed is h gate =
        let b = subst (λ o. Among g xs t rows new values deed o) is h in
        ap (λ j. joined t ts rows d acts j) b.0 ∙ ap (λ k. gated t ts rows d acts (new t.context) (values a) (deed a) k) gate
        ∙ ap (λ r. gathered g xs cells ts r (d ++ t ∷ []) acts) b.1

    pub gain_clashes : {X : Type 0} (o : Option X) (a : X) (values : X → List Value) (deed : X → Deed) (k i : ℕ) → o ≡ Some a
        → Among g xs t rows new values deed o → gate_of cells (deed a) ≡ Clashes k i
        → gathered g xs cells (t ∷ ts) rows d acts ≡ Clashed (Clash k i)
    gain_clashes o a values deed k i is h gate =
        let b = subst (λ o. Among g xs t rows new values deed o) is h in
        ap (λ j. joined t ts rows d acts j) b.0 ∙ ap (λ k. gated t ts rows d acts (new t.context) (values a) (deed a) k) gate
