-- Only the wires of nodes and results stand for tokens: those after the ends stand for none.
use Rattle.std.proofs.Common.{◌≡◌, ℕ, ◌+◌, inl, Bool, true, false, List, [], ◌∷◌, ◌++◌, refl, ap, ◌∙◌, append-nil}
use Rattle.tags.specs.declared.value.Value.{Value}
use Rattle.tags.specs.declared.token.Port.TheVariants.{Left, Right}
use Rattle.semantics.specs.declared.graph.Region.{Region}
use Rattle.semantics.specs.declared.graph.Region.TheVariants.{Root, Arm}
use Rattle.semantics.specs.declared.graph.Kind.{Kind}
use Rattle.semantics.specs.declared.graph.Kind.TheVariants.{Cond}
use Rattle.semantics.specs.Graph.{Node, Flow, node_count}
use Rattle.semantics.specs.Meaning.{Context, Tagged}
use Rattle.law_net.specs.ContextsParts as Parts
use Rattle.law_net.specs.ContextsParts.{Entry, Join, CondEnd}
use Rattle.law_net.specs.ContextsBlocks.{Side, side, Site}
use Rattle.law_wiring.specs.Written as Written
use Rattle.law_wiring.specs.Written.{Wire, wire, inner_wires, chain_wires, joined_wires, signal_wires, Ended, arm_ends, close, close_kind, close_nodes}
use Rattle.law_wiring.specs.Written.{close_flag, inner, root_ends, wires_in}
use Rattle.law_wiring.specs.WrittenFit.{IsFit}
use Rattle.law_wiring.proofs.WrittenMembers.{AllW, all_both}
use Rattle.law_wiring.proofs.Uses.{heard, heard_both, Quiet, quiet}

module _ (fl : Flow) (s : Site) (fit : IsFit fl s.block) (c : Context) (v : Value) (t : Side) where
  abbrev H : List Wire → List Tagged
  H ws = heard fl s fit c v t ws

  abbrev Q : Wire → Type 0
  Q w = Quiet fl s fit c v t w

  chain_quiet : (g : Region) (n : ℕ) (u : Side) (us : List Side) → AllW Q (chain_wires g n u us)
  chain_quiet g n u [] = tt
  chain_quiet g n u (x ∷ xs) = (inl refl, (inl refl, chain_quiet g (n + 1) (side (Join g n) false) xs))

  joined_quiet : (g : Region) (us : List Side) → AllW Q (joined_wires g us)
  joined_quiet g [] = tt
  joined_quiet g (u ∷ us) = chain_quiet g 0 u us

  cond_quiet : (g : Region) (k : ℕ) (us : List Side) → AllW Q (signal_wires g us (CondEnd k) Left)
  cond_quiet g k [] = tt
  cond_quiet g k (u ∷ us) = (inl refl, tt)

  end_quiet : (us : List Side) → AllW Q (signal_wires Root us Parts.End Right)
  end_quiet [] = tt
  end_quiet (u ∷ us) = (inl refl, tt)

  -- quiet ones after others
  quiet_behind : (xs ys : List Wire) → AllW Q ys → H (xs ++ ys) ≡ H xs
  quiet_behind xs ys h = heard_both fl s fit c v t xs ys ∙ ap (λ zs. H xs ++ zs) (quiet fl s fit c v t ys h) ∙ append-nil (H xs)

  close_heard : (n : ℕ) (x : Ended) → H (close s.block n x).wires ≡ H x.wires
  close_heard n x =
      let ts : List Side = arm_ends s.block n true x in
      let us : List Side = arm_ends s.block n false x in
      let up : List Wire = signal_wires (Arm n true) ts (CondEnd n) Left in
      let down : List Wire = signal_wires (Arm n false) us (CondEnd n) Left in
      quiet_behind x.wires (joined_wires (Arm n true) ts ++ (joined_wires (Arm n false) us ++ (up ++ down)))
      (all_both Q (joined_wires (Arm n true) ts) (joined_wires (Arm n false) us ++ (up ++ down)) (joined_quiet (Arm n true) ts)
      (all_both Q (joined_wires (Arm n false) us) (up ++ down) (joined_quiet (Arm n false) us)
      (all_both Q up down (cond_quiet (Arm n true) n ts) (cond_quiet (Arm n false) n us))))

  kind_heard : (n : ℕ) (x : Ended) (k : Kind ℕ) → H (close_kind s.block n x k).wires ≡ H x.wires
  kind_heard n x Cond = close_heard n x
  kind_heard n x k = refl

  nodes_heard : (n : ℕ) (xs : List (Node ℕ)) (x : Ended) → H (close_nodes s.block n xs x).wires ≡ H x.wires
  nodes_heard n [] x = refl
  nodes_heard n (y ∷ xs) x = kind_heard n (close_nodes s.block (n + 1) xs x) y.kind ∙ nodes_heard (n + 1) xs x

  flag_heard : (q : Bool) (x : Ended) → H (close_flag s.block q x).wires ≡ H x.wires
  flag_heard true x = close_heard (node_count s.block) x
  flag_heard false x = refl

  -- only the first wires stand for tokens
  pub all_heard : H (wires_in fl s) ≡ H (inner_wires s)
  all_heard =
      let last : List Wire = wire (side Entry false) Parts.End Left ∷ signal_wires Root (root_ends fl s) Parts.End Right in
      quiet_behind (Written.closed fl s).wires (joined_wires Root (root_ends fl s) ++ last)
      (all_both Q (joined_wires Root (root_ends fl s)) last (joined_quiet Root (root_ends fl s)) (inl refl, end_quiet (root_ends fl s)))
      ∙ nodes_heard s.block.inputs s.block.nodes (close_flag s.block s.turns (inner fl s)) ∙ flag_heard s.turns (inner fl s)
