-- Where two words meet at a part each of whose ways is 0.
use Rattle.std.proofs.Common.{◌≡◌, true, ap, ◌∙◌, sym, ◌⊎◌}
use Rattle.tags.specs.declared.token.Port.TheVariants.{Left, Right}
use Rattle.semantics.specs.Wired.{is_dyadic}
use Rattle.law_net.specs.ContextsParts.{inlet, Item, item}
use Rattle.law_net.specs.Contexts.{block_in}
use Rattle.law_net.specs.ContextsMirror.{is_instr, in_slot}
use Rattle.law_machine_refines_net.specs.MovesCases.{Taking, Halts}
use Rattle.law_machine_refines_net.proofs.MovesFitted.{IsHere, fits, pair_instr, plain_way, is_plain_way}
use Rattle.law_machine_refines_net.proofs.SendsRules.{instr}
use Rattle.law_machine_refines_net.proofs.OutwardsMeeting as Meeting
use Rattle.law_machine_refines_net.proofs.OutwardsMeeting.{Ways, Both, both_cases}

module _ (s : Taking) (two : in_slot s.fl s.i ≡ true) (plain : is_plain_way s.i.inlet.part ≡ true) where
  no_way : (x : Item) → IsHere s x → x.inlet.part ≡ s.i.inlet.part → x.inlet.way ≡ 0
  no_way x h e = plain_way s.fl x.context x.inlet.part x.inlet.port x.inlet.way (ap is_plain_way e ∙ plain) (fits s x h).way

  pub no_ways : Ways s 0
  no_ways = record {
    on_left = λ x h a e l. no_way x h e;
    on_right = λ x y h k a b e g l r. no_way y k g;
    one_way = λ x y h k a b e g l. no_way x h e ∙ sym (no_way y k g);
  }

  abbrev pub is : is_instr s.i.inlet.part ≡ true
  is = pair_instr (block_in s.fl s.i.context) s.i.inlet.part two

  pub dyadic : is_dyadic (instr s is).op ≡ true
  dyadic = Meeting.dyadic s two 0 no_ways

  -- THE SECOND WORD
  abbrev pub Second : Type 0
  Second = Both s two 0 no_ways

  -- THE FIRST WORD, OR THE SECOND. A first one waits whatever the operation
  pub pair_cases : Halts s ⊎ Second
  pair_cases = both_cases s two 0 no_ways

  pub left_here : (sec : Second) → IsHere s (item s.i.context (inlet s.i.inlet.part Left 0) sec.left)
  left_here sec = Meeting.left_here s two 0 no_ways sec

  pub right_here : (sec : Second) → IsHere s (item s.i.context (inlet s.i.inlet.part Right 0) sec.right)
  right_here sec = Meeting.right_here s two 0 no_ways sec
