-- A block of a sound plan, folded: where its instructions were, and where they are.
use Rattle.std.proofs.Common.{◌≡◌, sym, ap, ◌∙◌, ℕ, ◌+◌, ◌<◌, Bool, true, false, List, [], ◌++◌, length, Some, Contains, if◌then◌else◌}
use Rattle.std.specs.Prelude.{slice_get, ◌&&◌, not}
use Rattle.std.specs.Option.{option_map}
use Rattle.std.proofs.lemmas.List.Elements.{Contains-append_left, Contains-append_right}
use Rattle.std.proofs.lemmas.Option.{slice_get_within, slice_get-map, get_or_from_slice_get}
use Rattle.semantics.specs.declared.program.Dest.{Dest}
use Rattle.semantics.specs.Program.{Instr, CodeBlock, Program, first_of, instr_at}
use Rattle.semantics.specs.Bytes as Bytes
use Rattle.semantics.specs.Plan.{Plan}
use Rattle.code.specs.Sound.{IsSound, IsSoundDest}
use Rattle.law_reuse.proofs.SlotsPlaced.{instr_in}
use Rattle.folding.specs.Folds.{is_folded}
use Rattle.folding.specs.Places.{layout_of, folds_at, gone_at, new_place}
use Rattle.folding.specs.Laws.{dests_of, SparesLiterals}
use Rattle.folding.proofs.Standing.{stands_at}
use Rattle.folding.proofs.SoundDests.{dyadic_is}
use Rattle.folding.proofs.Pairs.{closed_uses}
use Rattle.law_passes.specs.Kept.{slotted, kept_block, kept_blocks, kept_slots}
use Rattle.law_passes.proofs.KeptNumbering.{is_nil, place_ip, word_ip, new_ip, plain_ip, end_of, ip_at, plain_is}

module _ (p : Plan) (s : IsSound p) (b : ℕ) (c : CodeBlock) (at_b : slice_get p.program.blocks b ≡ Some c) where
  abbrev P : Program
  P = p.program

  abbrev Q : Program
  Q = (kept_slots p).program

  abbrev F : ℕ
  F = first_of P b

  abbrev E : ℕ
  E = first_of Q b

  contains_at : {X : Type 0} (xs : List X) (k : ℕ) (x : X) → slice_get xs k ≡ Some x → Contains xs x
  contains_at xs k x e = (k, slice_get_within xs k x e, get_or_from_slice_get xs k x x e)

  named_in : (i : Instr) (side : Bool) (k : ℕ) (d : Dest) → slice_get (dests_of i side) k ≡ Some d → Contains (i.firsts ++ i.seconds) d
  named_in i false k d e = Contains-append_left i.firsts i.seconds d (contains_at i.firsts k d e)
  named_in i true k d e = Contains-append_right i.firsts i.seconds d (contains_at i.seconds k d e)

  pub sound_dest : (n k : ℕ) (i : Instr) (side : Bool) (d : Dest) → slice_get c.instrs n ≡ Some i → slice_get (dests_of i side) k ≡ Some d → IsSoundDest p c n d
  sound_dest n k i side d at e = s.dests b n c d record { i = i; block = at_b; there = at; named = named_in i side k d e }

  pub spares : SparesLiterals c
  spares n k i side d j at named there right =
      sym (dyadic_is j) ∙ ap Bytes.is_dyadic (sym there) ∙ (sound_dest n k i side d at named).dest.right right

  pub inside : (n k : ℕ) (i : Instr) (side : Bool) (d : Dest) → slice_get c.instrs n ≡ Some i → slice_get (dests_of i side) k ≡ Some d
      → n + d.ahead < length c.instrs
  inside n k i side d at e = (sound_dest n k i side d at e).dest.inside

  pub ahead : (n k : ℕ) (i : Instr) (side : Bool) (d : Dest) → slice_get c.instrs n ≡ Some i → slice_get (dests_of i side) k ≡ Some d → 0 < d.ahead
  ahead n k i side d at e = (sound_dest n k i side d at e).dest.later

  pub there_old : (n : ℕ) (i : Instr) → slice_get c.instrs n ≡ Some i → instr_at P (F + n) ≡ Some i
  there_old n i at = instr_in P.blocks b n c at_b (slice_get_within c.instrs n i at) ∙ at

  pub new_block : slice_get Q.blocks b ≡ Some (kept_block p c)
  new_block = slice_get-map (kept_block p) P.blocks b ∙ ap (option_map (kept_block p)) at_b

  pub there_new : (n : ℕ) (i : Instr) → slice_get c.instrs n ≡ Some i → gone_at (layout_of p c) n ≡ false
      → instr_at Q (E + new_place (layout_of p c) n) ≡ Some (slotted (layout_of p c) n i)
  there_new n i at stay =
      let e : slice_get (kept_block p c).instrs (new_place (layout_of p c) n) ≡ Some (slotted (layout_of p c) n i) =
      stands_at p c (slotted (layout_of p c)) n i at stay in
      instr_in Q.blocks b (new_place (layout_of p c) n) (kept_block p c) new_block
      (slice_get_within (kept_block p c).instrs (new_place (layout_of p c) n) (slotted (layout_of p c) n i) e) ∙ e

  pub g_at : (n : ℕ) → n < length c.instrs → place_ip p (F + n) ≡ E + new_place (layout_of p c) n
  g_at n low = ip_at p P.blocks b n c at_b low

  pub h_at : (n : ℕ) → n < length c.instrs → is_folded (folds_at (layout_of p c) n) ≡ false → closed_uses p c n ≡ []
      → word_ip p (F + n) ≡ E + new_place (layout_of p c) n
  h_at n low kept none =
      let plain : plain_ip p P.blocks (F + n) ≡ true = plain_is p P.blocks b n c at_b low ∙ (λ k. not (kept k) && is_nil (none k)) in
      ap (λ (t : Bool). if t then new_ip p P.blocks (F + n) else end_of (kept_blocks p P.blocks)) plain ∙ g_at n low
