-- A store that happens took an index that its first source has, and that names a cell.
use Rattle.std.proofs.Common.{◌≡◌, ℕ, ◌==◌, Bool, true, false, [], ◌∷◌, length, Some, None, nat_lt, if◌then◌else◌, sym, ap₂, ◌∙◌, subst, le-ltb}
use Rattle.std.specs.Prelude.{slice_get}
use Rattle.std.proofs.lemmas.Option.{same_Some}
use Rattle.tags.specs.declared.value.Value.{Value}
use Rattle.operators.specs.Values.{Outside, index_in}
use Rattle.semantics.specs.declared.graph.Source.{Source}
use Rattle.semantics.specs.declared.graph.Kind.TheVariants as node
use Rattle.semantics.specs.Graph.{Node, Block, node_at, first_cell, array_len}
use Rattle.semantics.specs.Meaning.{Context, Fires, Fills, Deed, start, block_of, origin_at, taken, deed, fired, fired_in, input_passed, on_node, on_block}
use Rattle.semantics.specs.Meaning.{stored}
use Rattle.lemmas.proofs.Permutations.{Within, Each}
use Rattle.law_confluence.proofs.ActivityShapes.{storing}
use Rattle.law_confluence.specs.EquationsHave.{Stored, stores_of}
use Rattle.law_confluence.proofs.EquationsGraphForms.{line_past}
use Rattle.law_confluence.proofs.EquationsEndCells.{stored_from}
use Rattle.law_confluence.proofs.EquationsRunRested.{Rested, Came, GivesIn}
use Rattle.law_confluence.proofs.EquationsRunOrigins.{took_all, operand_from}

-- a store that happens took a good index, which its first source has
module _ (z : Rested) (c : Context) (n : ℕ) (b : Block ℕ) (line : Node ℕ) (a : ℕ) (x : Source)
    (eb : block_of z.flow c ≡ Some b) (el : node_at b n ≡ Some line) (ek : line.kind ≡ node.Store a) (ex : slice_get line.sources 0 ≡ Some x) where
  index_good : (i v : Value) (d : Deed) (cell : ℕ) → d ≡ Fills c n cell v → deed z.flow (Fires c n (i ∷ v ∷ [])) ≡ Some d
      → (fault : Value) → index_in (array_len z.flow a) i (origin_at z.flow c n) ≡ Outside fault → ⊥
  index_good i v d cell is e fault out =
      let past : nat_lt n b.inputs ≡ false = le-ltb n b.inputs (line_past b n line el).0 in
      let by_block = subst (λ o. on_block o (fired_in z.flow c n (i ∷ v ∷ [])) ≡ Some d) eb e in
      let by_input = subst (λ (t : Bool). (if t then input_passed c n (i ∷ v ∷ [])
      else on_node (node_at b n) (λ (node : Node ℕ). if length (i ∷ v ∷ []) == length node.sources then fired z.flow c n node.kind (i ∷ v ∷ []) else None))
      ≡ Some d) past by_block in
      let by_line = subst (λ o. on_node o (λ (node : Node ℕ). if length (i ∷ v ∷ []) == length node.sources then fired z.flow c n node.kind (i ∷ v ∷ [])
      else None) ≡ Some d) el by_input in
      go (length (i ∷ v ∷ []) == length line.sources) by_line
    where
      clash : stored c n (first_cell z.flow a) v (index_in (array_len z.flow a) i (origin_at z.flow c n)) ≡ d → ⊥
      clash f = let g = subst (λ ix. stored c n (first_cell z.flow a) v ix ≡ d) out f in cc

      go : (t : Bool) → (if t then fired z.flow c n line.kind (i ∷ v ∷ []) else None) ≡ Some d → ⊥
      go true f = clash (same_Some _ d (subst (λ k. fired z.flow c n k (i ∷ v ∷ []) ≡ Some d) ek f))
      go false f = cc

  pub index_taken : (w : Stored) → Within w (stores_of z.flow z.run) → w.context ≡ c → w.node ≡ n
      → (i : Value) × GivesIn z c x.node x.port i × ((fault : Value) → index_in (array_len z.flow a) i (origin_at z.flow c n) ≡ Outside fault → ⊥)
  index_taken w h ec en =
      let act = stored_from z.flow (start z.inputs) z.state z.run z.is_run w h in
      let f = storing z.flow act.0 w.context w.node w.cell w.value act.2 in
      let same : act.0 ≡ Fires c n (f.0 ∷ w.value ∷ []) = f.1 ∙ ap₂ (λ c n. Fires c n (f.0 ∷ w.value ∷ [])) ec en in
      let came = (subst (λ act. Each (Came z) (taken act)) same (took_all z act.0 act.1)).0 in
      let got = operand_from z c b n 0 line f.0 eb el came in
      let source : got.0 ≡ x = same_Some got.0 x (sym got.1 ∙ ex) in
      let fills = ap₂ (λ c n. Fills c n w.cell w.value) ec en in (
        f.0,
        subst (λ x. GivesIn z c x.node x.port f.0) source got.2,
        λ fault out. index_good f.0 w.value (Fills w.context w.node w.cell w.value) w.cell fills
            (subst (λ act. deed z.flow act ≡ Some (Fills w.context w.node w.cell w.value)) same act.2) fault out,
      )
