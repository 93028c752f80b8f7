-- Blocks of contexts, the first reader of a cell, and the parts where two words meet.
use Rattle.std.proofs.Common.{[], ◌∷◌, ◌≡◌, ℕ, Bool, Contains, List, None, Option, Some, false, refl, sym, true, true≢false}
use Rattle.tags.specs.declared.token.Cont.{Cont}
use Rattle.semantics.specs.declared.graph.Kind.{Kind}
use Rattle.semantics.specs.declared.graph.Kind.TheVariants as Kinds
use Rattle.semantics.specs.declared.program.Op.{Op}
use Rattle.semantics.specs.Graph.{Flow, Node, node_at}
use Rattle.semantics.specs.Meaning.{Context, Main, Called, Turned}
use Rattle.semantics.specs.Wired.{is_dyadic}
use Rattle.law_net.specs.Contexts.{IsContext, HasBlock}
use Rattle.law_net.specs.ContextsBlocks.{Site, waits_in, op_of, kind_op, pair_kind}
use Rattle.law_net.specs.ContextsLaws.{is_main}
use Rattle.law_net.specs.ContextsMirror.{first_cont}
use Rattle.law_net.specs.ContextsParts.{Part, Line, Trigger, Gate, Sender, Strict, Result, TurnCont, TurnFlag, TurnValue, Asker, NextSender, LastReturn}
use Rattle.law_net.specs.ContextsParts.{DrainReturn, Join, End}
use Rattle.lemmas.proofs.Contains.{contains_none}

-- the block of a context is there
pub has_block : (fl : Flow) (c : Context) → IsContext fl c → HasBlock fl c
has_block fl Main h = h
has_block fl (Called c n) h = h.2
has_block fl (Turned c n i) h = h.2

pub is_main_true : (c : Context) → is_main c ≡ true → c ≡ Main
is_main_true Main e = refl
is_main_true (Called c n) e = absurd (true≢false (sym e))
is_main_true (Turned c n i) e = absurd (true≢false (sym e))

pub first_cont_some : (cs : List Cont) (k : Cont) → Contains cs k → (a : Cont) × (first_cont cs ≡ Some a)
first_cont_some [] k c = absurd (contains_none k c)
first_cont_some (a ∷ cs) k c = (a, refl)

-- PARTS WHERE TWO WORDS MEET
kind_dyadic : (k : Kind ℕ) → pair_kind k ≡ true → is_dyadic (kind_op k) ≡ true
kind_dyadic (Kinds.Apply2 op) e = refl
kind_dyadic (Kinds.Store a) e = refl
kind_dyadic k e = absurd (true≢false (sym e))

line_dyadic : (x : Option (Node ℕ)) → elim x as (λ y. Bool) [ None ↦ false | Some line ↦ pair_kind line.kind ] ≡ true
    → is_dyadic (elim x as (λ y. Op) [ None ↦ Op.Copy | Some line ↦ kind_op line.kind ]) ≡ true
line_dyadic None e = absurd (true≢false (sym e))
line_dyadic (Some line) e = kind_dyadic line.kind e

-- such a part has an instruction with two operands
pub waits_dyadic : (variant : ℕ → ℕ) (s : Site) (r : Part) → waits_in s.block r ≡ true → is_dyadic (op_of variant s r) ≡ true
waits_dyadic variant s (Line n) e = line_dyadic (node_at s.block n) e
waits_dyadic variant s (Trigger k) e = refl
waits_dyadic variant s (Gate k) e = refl
waits_dyadic variant s (Sender n i) e = refl
waits_dyadic variant s (Strict n i) e = refl
waits_dyadic variant s (Result j) e = refl
waits_dyadic variant s TurnCont e = refl
waits_dyadic variant s TurnFlag e = refl
waits_dyadic variant s (TurnValue j) e = refl
waits_dyadic variant s Asker e = refl
waits_dyadic variant s (NextSender j) e = refl
waits_dyadic variant s (LastReturn j) e = refl
waits_dyadic variant s DrainReturn e = refl
waits_dyadic variant s (Join r i) e = refl
waits_dyadic variant s End e = refl
waits_dyadic variant s r e = absurd (true≢false (sym e))
