-- What starts a call or a loop, and joins the arguments of a strict call: laws of the wires of a code block.
use Rattle.std.specs.Prelude.{◌≡◌, ℕ, zero, suc, ◌+◌, true, false, Contains, ◌==◌, if◌then◌else◌}
use Rattle.tags.specs.declared.token.Port.TheVariants.{Left, Right}
use Rattle.semantics.specs.Graph.{Block, Flow}
use Rattle.semantics.specs.Meaning.{Context}
use Rattle.law_net.specs.ContextsParts.{Opener, Framer, Sender, Strict, TurnFlag, Asker, Inlet, inlet}
use Rattle.law_net.specs.ContextsBlocks.{Side, side, Wiring, Site, there_in, is_call, is_loop, is_strict, source_count}
use Rattle.law_net.specs.ContextsWires.{is_start}
use Rattle.law_net.specs.Contexts.{Wires, site_in, wiring_in, IsContext}

-- where the arguments of a strict call are joined: after the l-th one there is the next join, or the request for the frame
abbrev pub join_after : Block ℕ → ℕ → ℕ → Inlet
join_after b n l = if l + 1 == source_count b n then inlet (Framer n) Left 0 else inlet (Strict n (l + 1)) Left 0

abbrev pub join_of : Block ℕ → ℕ → ℕ → Inlet
join_of b n zero = join_after b n 0
join_of b n (suc l) = inlet (Strict n (suc l)) Right 0

-- A call asks for its frame, and a loop is opened, as soon as the block or the arm is entered; a strict call as soon as its arguments are
-- there; and a turn asks for a credit as soon as its flag is.
pub record StartsRightly (fl : Flow) (s : Site) (w : Wiring) : Type 0 where
  pub calls : (n : ℕ) (t : Side) → is_call s.block n ≡ true → is_strict s.block n ≡ false → there_in fl s w t.part ≡ true
      → Contains (w.wire t) (inlet (Framer n) Left 0) → is_start t.part ≡ true
  pub loops : (n : ℕ) (t : Side) → is_loop s.block n ≡ true → there_in fl s w t.part ≡ true → Contains (w.wire t) (inlet (Opener n) Left 0)
      → is_start t.part ≡ true
  pub asks : (t : Side) → there_in fl s w t.part ≡ true → Contains (w.wire t) (inlet Asker Right 0) → t.part ≡ TurnFlag
  pub joins : (n l : ℕ) (t : Side) → is_strict s.block n ≡ true → there_in fl s w t.part ≡ true → Contains (w.wire t) (inlet (Sender n l) Right 0)
      → Contains (w.wire t) (join_of s.block n l)
  pub chains : (n l : ℕ) → is_strict s.block n ≡ true → there_in fl s w (Strict n l) ≡ true
      → Contains (w.wire (side (Strict n l) false)) (join_after s.block n l)

abbrev pub AllStart : Flow → Wires → Type 0
AllStart fl w = (c : Context) → IsContext fl c → StartsRightly fl (site_in fl w c) (wiring_in fl w c)
