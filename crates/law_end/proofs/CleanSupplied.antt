-- A context that was asked for, and at which all its inputs arrived: a call's block, a loop's first turn, and the turn after another.
use Rattle.std.proofs.Common.{◌≡◌, ℕ, suc, ◌+◌, ◌<◌, ◌≤◌, Bool, true, false, List, length, if◌then◌else◌, sym, ap, ◌∙◌, subst, arith}
use Rattle.std.specs.Prelude.{Contains}
use Rattle.lemmas.proofs.Contains.{contains_none}
use Rattle.tags.specs.declared.token.Port.TheVariants.{Left}
use Rattle.semantics.specs.declared.graph.Region.{Region}
use Rattle.semantics.specs.declared.graph.Region.TheVariants.{Root, Arm}
use Rattle.semantics.specs.Meaning.{Context, Main, Called, Turned}
use Rattle.semantics.specs.Faithful.{inputs_in}
use Rattle.law_confluence.specs.OrdersTotals.{total}
use Rattle.law_confluence.proofs.Orders.{total_there}
use Rattle.law_net.specs.ContextsParts.{Part, Entry, Line, Linker, Sender, NextSender, inlet, Firing}
use Rattle.law_net.specs.ContextsBlocks.{there_in, is_call, is_loop, source_count, lies_in, region_of, flag}
use Rattle.law_net.specs.Contexts.{block_in, site_in, wiring_in, IsContext, child}
use Rattle.law_net.specs.ContextsAround.{Way}
use Rattle.law_net.proofs.WiredInvoked.{block_here, not_loop, call_invoked, loop_invoked, is_called, is_turned}
use Rattle.law_net.proofs.WiredRounds.{root_region, round_node, round_next}
use Rattle.law_end.specs.Over.{IsOpen, is_turning}
use Rattle.law_end.proofs.CleanStill.{AtRest, Arrives, Fired, main_entry, main_input, entry_arrives, input_arrives, next_arrives}

-- HOW DEEP a context is, and which turn it is
abbrev pub size : Context → ℕ
size Main = 0
size (Called c n) = suc (size c)
size (Turned c n t) = suc (size c)

abbrev pub turn_of : Context → ℕ
turn_of (Turned c n t) = t
turn_of c = 0

module _ (u : AtRest) where
  abbrev pub Opens : Context → Region → Type 0
  Opens c r = IsOpen u.fl u.w u.kept.tracks.net.fired c r

  -- all parts in open regions have fired
  abbrev pub AllFired : Context → Type 0
  AllFired c = (r : Part) → there_in u.fl (site_in u.fl u.w c) (wiring_in u.fl u.w c) r ≡ true → is_turning r ≡ false
      → IsOpen u.fl u.w u.kept.tracks.net.fired c (region_of (block_in u.fl c) r) → Fired u c r

  pub record Supplied (c : Context) : Type 0 where
    pub is_context : IsContext u.fl c
    pub inside : u.Inside c
    pub entry : Arrives u c (inlet Entry Left 0)
    pub inputs : (l : ℕ) → l < (block_in u.fl c).inputs → Arrives u c (inlet (Line l) Left 0)
    pub opened : IsOpen u.fl u.w u.kept.tracks.net.fired c Root

  -- what invokes sent all that it sends there
  pub record AllSent (c : Context) (n : ℕ) : Type 0 where
    pub linker : Fired u c (Linker n)
    pub senders : (l : ℕ) → l < source_count (block_in u.fl c) n → Fired u c (Sender n l)
    pub opened : IsOpen u.fl u.w u.kept.tracks.net.fired c (lies_in (block_in u.fl c) n)

  pub main_supplied : u.Inside Main → Supplied Main
  main_supplied ins = record {
    is_context = u.good.main;
    inside = ins;
    entry = main_entry u;
    inputs =
        λ l low. main_input u l (let same : length u.inputs ≡ (block_in u.fl Main).inputs = u.fit
        ∙ ap inputs_in (block_here u.fl u.p u.w u.good Main u.good.main) in omega (arith, low, same));
    opened = λ x d. absurd (contains_none x (subst (λ (l : List Way). Contains l x) (root_region u.fl Main) d));
  }

  pub call_supplied : (c : Context) (con : IsContext u.fl c) → u.Inside c → (n : ℕ) → is_call (block_in u.fl c) n ≡ true → AllSent c n → Supplied (Called c n)
  call_supplied c con ins n e s =
      let first : child u.fl c n ≡ Called c n = ap (λ (t : Bool). if t then Turned c n 0 else Called c n) (not_loop (block_in u.fl c) n e) in
      let same = (call_invoked u.fl u.p u.w u.good c n con e).0.inputs in
      record {
        is_context = is_called u.fl u.p u.w u.good c n con e;
        inside = u.called c n ins;
        entry = subst (λ (d : Context). Arrives u d (inlet Entry Left 0)) first (entry_arrives u c n s.linker);
        inputs = λ l low. subst (λ (d : Context). Arrives u d (inlet (Line l) Left 0)) first (input_arrives u c n l (s.senders l (omega (arith, low, same))));
        opened =
            λ x d. s.opened x (subst (λ (l : List Way). Contains l x) (sym (round_node u.fl u.p u.w u.good c n con))
            (subst (λ (l : List Way). Contains l x) (root_region u.fl (Called c n)) d));
      }

  pub loop_supplied : (c : Context) (con : IsContext u.fl c) → u.Inside c → (n : ℕ) → is_loop (block_in u.fl c) n ≡ true → AllSent c n → Supplied (Turned c n 0)
  loop_supplied c con ins n e s =
      let first : child u.fl c n ≡ Turned c n 0 = ap (λ (t : Bool). if t then Turned c n 0 else Called c n) e in
      let same = (loop_invoked u.fl u.p u.w u.good c n 0 con e).0.inputs in
      record {
        is_context = is_turned u.fl u.p u.w u.good c n 0 con e;
        inside = u.turned c n 0 ins;
        entry = subst (λ (d : Context). Arrives u d (inlet Entry Left 0)) first (entry_arrives u c n s.linker);
        inputs = λ l low. subst (λ (d : Context). Arrives u d (inlet (Line l) Left 0)) first (input_arrives u c n l (s.senders l (omega (arith, low, same))));
        opened =
            λ x d. s.opened x (subst (λ (l : List Way). Contains l x) (sym (round_node u.fl u.p u.w u.good c n con))
            (subst (λ (l : List Way). Contains l x) (root_region u.fl (Turned c n 0)) d));
      }

  pub next_supplied : (c : Context) (con : IsContext u.fl c) (n t : ℕ) → u.Inside (Turned c n (suc t)) → is_loop (block_in u.fl c) n ≡ true
      → IsOpen u.fl u.w u.kept.tracks.net.fired (Turned c n t) (Arm (flag (block_in u.fl (Turned c n t))) true)
      → ((j : ℕ) → j < (block_in u.fl (Turned c n t)).inputs + 1 → Fired u (Turned c n t) (NextSender j)) → Supplied (Turned c n (suc t))
  next_supplied c con n t ins e open' sends = record {
    is_context = is_turned u.fl u.p u.w u.good c n (suc t) con e;
    inside = ins;
    entry = next_arrives u c n t 0 (sends 0 (omega arith));
    inputs = λ l low. next_arrives u c n t (suc l) (sends (suc l) (omega (arith, low)));
    opened =
        λ x d. open' x (round_next u.fl u.p u.w u.good c n t x (is_turned u.fl u.p u.w u.good c n t con e)
        (subst (λ (l : List Way). Contains l x) (root_region u.fl (Turned c n (suc t))) d));
  }

  -- BOUNDS: contexts in which something fired are so deep, and turns so late
  abbrev pub deepest : ℕ
  deepest = total (λ (f : Firing). size f.context) u.kept.tracks.net.fired

  abbrev pub latest : ℕ
  latest = total (λ (f : Firing). turn_of f.context) u.kept.tracks.net.fired

  pub deep : (c : Context) (r : Part) → Fired u c r → size c ≤ total (λ (f : Firing). size f.context) u.kept.tracks.net.fired
  deep c r (h, d, a, e) = let o = total_there (λ (f : Firing). size f.context) u.kept.tracks.net.fired h d in let same = ap size a in omega (arith, o, same)

  pub late : (c : Context) (r : Part) → Fired u c r → turn_of c ≤ total (λ (f : Firing). turn_of f.context) u.kept.tracks.net.fired
  late c r (h, d, a, e) =
      let o = total_there (λ (f : Firing). turn_of f.context) u.kept.tracks.net.fired h d in let same = ap turn_of a in omega (arith, o, same)
