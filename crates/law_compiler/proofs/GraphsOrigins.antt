-- No instruction of a graph of the first version has an origin.
use Rattle.std.proofs.Common.{◌≡◌, refl, sym, ap, ◌∙◌, subst, ℕ, ◌⊎◌, inl, inr, Bool, true, false, List, [], length, Option}
use Rattle.std.proofs.Common.{Some, None, nat_lt, if◌then◌else◌}
use Rattle.std.specs.Prelude.{slice_get, All}
use Rattle.lemmas.proofs.Alls.{all_from}
use Rattle.lemmas.proofs.SliceGet.{map_get}
use Rattle.tags.specs.declared.value.Origin.{Origin}
use Rattle.tags.specs.declared.value.Origin.TheVariants.{Untold, At}
use Rattle.tags.specs.declared.token.Port.{Port}
use Rattle.semantics.specs.declared.graph.Region.{Region}
use Rattle.semantics.specs.declared.program.Mark.{Mark}
use Rattle.semantics.specs.declared.program.Op.{Op}
use Rattle.semantics.specs.Graph.{Block, Flow, flow_of}
use Rattle.semantics.specs.Program.{Instr, CodeBlock}
use Rattle.semantics.specs.Cause.{loop_bounds}
use Rattle.schemas.specs.declared.builder.Outlet.{Outlet}
use Rattle.schemas.specs.Builds.{Build, bare, slot_in, added, connected}
use Rattle.schemas.specs.Scopes.{Scope}
use Rattle.schemas.specs.Variants.{some_block_loops, variants_of}
use Rattle.schemas.specs.Blocks.{entries, variant_of}
use Rattle.schemas.specs.Expanded.{scope_of, plain_code, variant_code, expanded}
use Rattle.law_wiring.specs.BoundsKeeping.{Fits}
use Rattle.law_wiring.proofs.FactsHeads.{push_cases, head, heads, heads_connected, heads_added}
use Rattle.law_wiring.proofs.KeepingSteps.{Stage, Idle, Step, Allows, Any, any, any_allows, any_sends, greatest, code_build, entries_keep, code_keeps}
use Rattle.law_wiring.proofs.FactsCodes.{code_cases}
use Rattle.law_compiler.proofs.ObjectsInstrs.{AllInstrs, IsUntold, all_untold}
use Rattle.semantics.specs.declared.version.Version.TheVariants.{One, Two}
use Rattle.law_compiler.specs.Graphs.{PlansHaveOrigins}

abbrev NoOrigin : Origin → Type 0
NoOrigin o = o ≡ Untold

-- ORIGINS, as instructions are added
abbrev HeadsUntold : Stage → Build → Type 0
HeadsUntold s b = (n : ℕ) (x : Instr) → slice_get (heads b.instrs) n ≡ Some x → x.origin ≡ Untold

adds_untold : (s t : Stage) (b : Build) (op : Op) (o : Origin) (m : Mark) (r : Region) → Step s op t → Fits op m → Any op → NoOrigin o → HeadsUntold s b
    → HeadsUntold t (added b op o m r)
adds_untold s t b op o m r e w k f h n x g =
    let i : Instr = bare op o (slot_in b op) in
    go (push_cases (heads b.instrs) i x n (ap (λ hs. slice_get hs n) (sym (heads_added b.instrs op o (slot_in b op))) ∙ g))
  where
    go : (slice_get (heads b.instrs) n ≡ Some x) ⊎ ((n ≡ length (heads b.instrs)) × (bare op o (slot_in b op) ≡ x)) → x.origin ≡ Untold
    go (inl a) = h n x a
    go (inr a) = subst (λ (x : Instr). x.origin ≡ Untold) a.1 f

links_meant : (s : Stage) (b : Build) (o : Outlet) (to : ℕ) (q : Port) → HeadsUntold s b → HeadsUntold s (connected b o to q)
links_meant s b o to q h n x g = h n x (ap (λ hs. slice_get hs n) (sym (heads_connected b.instrs o to q)) ∙ g)

module _ (fl : Flow) (first : nat_lt fl.version 2 ≡ true) where
  abbrev vars : List ℕ
  vars = variants_of fl.blocks

  abbrev in_scope : ℕ → Block ℕ → Bool → Scope
  in_scope i b turns = scope_of fl.version fl.blocks vars i b turns

  code_meant : (i : ℕ) (b : Block ℕ) (turns : Bool) (turn : Option ℕ) (n : ℕ) (x : Instr) → slice_get (code_build (in_scope i b turns) turn).instrs n ≡ Some x
      → x.origin ≡ Untold
  code_meant i b turns turn n x g =
      let s : Scope = in_scope i b turns in
      let most : ℕ = greatest b in
      let a : Allows Any NoOrigin most s = any_allows NoOrigin s (λ n l. ap (λ (t : Bool). if t then Untold else At i n) first) in
      let begun : HeadsUntold (Idle []) (entries s) =
      entries_keep HeadsUntold Any NoOrigin most (any most) refl adds_untold links_meant (λ s b o h. h) s a (λ n x g. absurd (cc)) in
      let all : HeadsUntold (Idle (loop_bounds b)) (code_build s turn) =
      code_keeps HeadsUntold Any NoOrigin most (any most) refl adds_untold links_meant (λ s b o h. h) s turn a (any_sends s turn) begun in
      all n (head x) (map_get head (code_build s turn).instrs n x g)

  block_meant : (b : ℕ) (c : CodeBlock) → slice_get (expanded fl).program.blocks b ≡ Some c → (n : ℕ) (x : Instr) → slice_get c.instrs n ≡ Some x
      → x.origin ≡ Untold
  unfolding plain_code variant_code
  block_meant b c e n x g = go (code_cases fl.version fl.blocks b c e)
    where
      go : ((x : Block ℕ) × (slice_get fl.blocks b ≡ Some x) × ((plain_code fl.version fl.blocks vars b x).code ≡ c))
          ⊎ ((f : ℕ) × (x : Block ℕ) × (slice_get fl.blocks f ≡ Some x) × (some_block_loops f fl.blocks ≡ true)
          × ((variant_code fl.version fl.blocks vars f x).code ≡ c)) → x.origin ≡ Untold
      go (inl h) = code_meant b h.0 false None n x (ap (λ (c : CodeBlock). slice_get c.instrs n) h.2 ∙ g)
      go (inr h) = code_meant h.0 h.1 true (Some (variant_of vars h.0)) n x (ap (λ (c : CodeBlock). slice_get c.instrs n) h.4 ∙ g)

  pub all_meant : AllInstrs IsUntold (expanded fl).program.blocks
  all_meant =
      all_from (λ (c : CodeBlock). All IsUntold c.instrs) (expanded fl).program.blocks (λ b c e. all_from IsUntold c.instrs (λ n x g. block_meant b c e n x g))

pub plans_have_origins : PlansHaveOrigins
plans_have_origins g One e = all_untold (expanded (flow_of g)) (all_meant (flow_of g) (ap (λ (n : ℕ). nat_lt n 2) (sym e)))
plans_have_origins g Two e = tt
