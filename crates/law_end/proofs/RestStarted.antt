-- A good plan starts calls, loops and turns as `AllStart` says, and joins the arguments of a strict call.
use Rattle.std.proofs.Common.{◌≡◌, ℕ, zero, suc, List, true, false, ◌&&◌, nat_lt, ltb-true, subst}
use Rattle.std.specs.Prelude.{Contains}
use Rattle.std.proofs.lemmas.Bool.{and_parts}
use Rattle.tags.specs.declared.token.Port.TheVariants.{Right}
use Rattle.semantics.specs.Graph.{Block, Flow}
use Rattle.semantics.specs.Plan.{Plan}
use Rattle.law_net.specs.ContextsParts.{Sender, Strict, Inlet, inlet}
use Rattle.law_net.specs.ContextsBlocks.{Side, side, invokes, there_in, is_strict, source_count}
use Rattle.law_net.specs.Contexts.{Wires, block_in, site_in, wiring_in}
use Rattle.law_net.specs.ContextsWires.{AreLawful, wait_for}
use Rattle.law_net.specs.ContextsTheorem.{IsGood}
use Rattle.law_net.proofs.WiredInvoked.{lawful_at}
use Rattle.law_net.proofs.WiredFed.{one_feeder}
use Rattle.law_end.specs.RestStarts.{AllStart, join_after, join_of}

same_join : (b : Block ℕ) (n l : ℕ) (xs : List Inlet) → Contains xs (wait_for n (source_count b n) l) → Contains xs (join_of b n l)
same_join b n zero xs h = h
same_join b n (suc l) xs h = h

pub all_start : (fl : Flow) (p : Plan) (w : Wires) → IsGood fl p w → AllStart fl w
all_start fl p w good c con = record {
  calls = laws.leads.starts.calls;
  loops = laws.leads.starts.loops;
  asks = laws.leads.starts.asks;
  joins = joins;
  chains = chains;
}
  where
    laws : AreLawful fl (site_in fl w c) (wiring_in fl w c)
    laws = lawful_at fl p w good c con

    joins : (n l : ℕ) (t : Side) → is_strict (block_in fl c) n ≡ true → there_in fl (site_in fl w c) (wiring_in fl w c) t.part ≡ true
        → Contains ((wiring_in fl w c).wire t) (inlet (Sender n l) Right 0)
        → Contains ((wiring_in fl w c).wire t) (join_of (block_in fl c) n l)
    joins n l t strict h m =
        let k = laws.fed.inlets t (inlet (Sender n l) Right 0) h m in
        let low = ltb-true l (source_count (block_in fl c) n) (and_parts (invokes (block_in fl c) n) (nat_lt l (source_count (block_in fl c) n)) k.0).1 in
        let a = (laws.leads.waits n strict).arguments l low in
        let same : a.0 ≡ t = one_feeder fl p w good c con a.0 t (inlet (Sender n l) Right 0) a.1 h a.2 m in
        subst (λ (t : Side). Contains ((wiring_in fl w c).wire t) (join_of (block_in fl c) n l)) same
        (same_join (block_in fl c) n l ((wiring_in fl w c).wire a.0) a.3)

    chains : (n l : ℕ) → is_strict (block_in fl c) n ≡ true → there_in fl (site_in fl w c) (wiring_in fl w c) (Strict n l) ≡ true
        → Contains ((wiring_in fl w c).wire (side (Strict n l) false)) (join_after (block_in fl c) n l)
    chains n l strict h =
        let within = and_parts (nat_lt 0 l) (nat_lt l (source_count (block_in fl c) n))
        (and_parts (is_strict (block_in fl c) n) (nat_lt 0 l && nat_lt l (source_count (block_in fl c) n)) h).1 in
        (laws.leads.waits n strict).joins l (ltb-true 0 l within.0) (ltb-true l (source_count (block_in fl c) n) within.1)
