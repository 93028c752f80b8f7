-- A request at its cell: what it is, and what it fires.
use Rattle.std.proofs.Common.{◌≡◌, ℕ, ◌+◌, true, false, List, [], ◌∷◌, ◌++◌, refl, sym, ap, ◌∙◌, subst, arith, Some, None, ◌==◌, inr}
use Rattle.tags.specs.declared.value.Value.{Value}
use Rattle.tags.specs.declared.token.Cont.{Cont}
use Rattle.tags.specs.declared.token.Word.{Word}
use Rattle.tags.specs.declared.token.To.{To}
use Rattle.semantics.specs.Rule.{token}
use Rattle.semantics.specs.Graph.{Flow}
use Rattle.semantics.specs.Machine.{answer}
use Rattle.law_net.specs.ContextsParts.{Part, Line, InCell, Datum, BackTo, signal, Item, item, each, Firing}
use Rattle.law_net.specs.ContextsBlocks.{side, is_cell}
use Rattle.law_net.specs.Contexts.{Wires, block_in, wiring_in, IsContext}
use Rattle.law_net.specs.ContextsFirings.{Config, takes, makes, frame_at, cell_of, back_from, makes_by, own_takes, renewed, request_of, sent_word}
use Rattle.law_net.specs.ContextsMirror.{frame_of, ip_of, word_of, token_of, reads, named_by, WasUsed, Mirrors, reads_cell, is_instr}
use Rattle.law_net.specs.ContextsLaws.{Carries, port_fits, spot_there, way_fits}
use Rattle.law_net.specs.ContextsWires.{arrives_at}
use Rattle.law_net.proofs.ContextsWords.{carries_of}
use Rattle.law_machine_refines_net.specs.MovesCases.{Taking, IsCaused, net_of}
use Rattle.law_machine_refines_net.proofs.MovesParts.{is_credit, given_calm}
use Rattle.law_machine_refines_net.proofs.MovesStill.{to_instr}
use Rattle.law_machine_refines_net.proofs.MovesFitted.{fits, framed, IsHere, lone_port, plain_way}
use Rattle.law_machine_refines_net.proofs.SendsInwards.{carried}
use Rattle.law_machine_refines_net.proofs.CellsAnswered.{Answered, answered}

-- a cell's answer, as items
abbrev pub answer_items : Flow → Wires → Value → Item → Part → List Item
answer_items fl w v j (InCell n) = each j.context (Datum v) ((wiring_in fl w j.context).wire (side (Line n) false))
answer_items fl w v j r = []

-- what a request fires
abbrev pub held_firing : Item → Value → Firing
held_firing j v =
    record { context = j.context; part = j.inlet.part; way = 0; left = j.word; right = signal; frame = 0; answer = v; turns = 0; operands = j.held }

-- WHAT A CELL ANSWERS is a value that goes to an instruction, along an arc that was used
pub record IsReply (s : Taking) (i : Item) : Type 0 where
  pub known : (g : ℕ) × (frame_at s.fl (net_of s).fired i.context ≡ Some g)
  pub unnamed : named_by i.word ≡ None
  pub instr : is_instr i.inlet.part ≡ true
  pub calm : is_credit i.inlet.part ≡ false
  pub caused : IsCaused s i

module _ (s : Taking) (j : Item) (h : IsHere s j) (n : ℕ) (e : j.inlet.part ≡ InCell n) where
  abbrev net : Config
  net = net_of s

  abbrev old : Mirrors s.fl s.p s.w s.m net
  old = s.keeps.tracks.stands

  pub is_context : IsContext s.fl j.context
  is_context = (fits s j h).is_context

  pub cell : is_cell (block_in s.fl j.context) n ≡ true
  cell = sym (ap (spot_there s.fl s.w j.context) e) ∙ (fits s j h).there

  -- A REQUEST: its node's wire, its word, and its cell
  pub ans : Answered s.fl s.p s.w s.good j.context is_context n cell
  ans = answered s.fl s.p s.w s.good j.context is_context n cell

  pub word_is : j.word ≡ BackTo j.context ans.inlet
  word_is =
      let k = carries_of s.fl s.w j (carried s j h) in
      let r : j.word ≡ back_from j.context ((wiring_in s.fl s.w j.context).wire (side (Line n) false)) =
      subst (λ (r : Part). Carries s.fl s.w j.context j.inlet.way (arrives_at r j.inlet.port) j.word) e k in
      r ∙ ap (back_from j.context) ans.wire

  abbrev pub cont : Cont
  cont = Cont.Frame (frame_of s.fl net.fired j.context) (ip_of s.fl s.p s.w j.context ans.inlet.part) ans.inlet.port

  pub cont_is : word_of s.fl s.p s.w net.fired j.word ≡ Word.Back cont
  cont_is = ap (word_of s.fl s.p s.w net.fired) word_is

  pub place : (x : ℕ) × (cell_of s.fl j.context n j.held ≡ Some x)
  place = old.good j n h e

  pub takes_is : (v : Value) → takes s.fl (held_firing j v) ≡ j ∷ []
  takes_is v =
      let f = fits s j h in
      let left = lone_port s.fl j.context (InCell n) j.inlet.port refl (subst (λ (r : Part). port_fits s.fl j.context r j.inlet.port ≡ true) e f.port) in
      let way = plain_way s.fl j.context (InCell n) j.inlet.port j.inlet.way refl
      (subst (λ (r : Part). way_fits s.fl j.context r j.inlet.port j.inlet.way ≡ true) e f.way) in
      own (held_firing j v) e
      ∙ (λ t. record { context = j.context; inlet = record { part = j.inlet.part; port = sym left t; way = sym way t }; word = j.word; held = j.held } ∷ [])
    where
      own : (f : Firing) → f.part ≡ InCell n → takes s.fl f ≡ request_of f ∷ []
      own f e = ap (λ (r : Part). own_takes s.fl f r ++ renewed s.fl f r) e

  abbrev pub reply : Value → Item
  reply v = item j.context ans.inlet (Datum v)

  pub makes_is : (v : Value) → makes s.fl s.w (held_firing j v) ≡ reply v ∷ []
  makes_is v =
      (λ t. makes_by s.fl s.w (held_firing j v) (e t))
      ∙ (λ t. each j.context (sent_word s.fl (held_firing j v) (e t)) ((wiring_in s.fl s.w j.context).wire (side (Line n) false)))
      ∙ ap (each j.context (Datum v)) ans.wire

  pub items_is : (v : Value) → answer_items s.fl s.w v j j.inlet.part ≡ reply v ∷ []
  items_is v = ap (answer_items s.fl s.w v j) e ∙ ap (each j.context (Datum v)) ans.wire

  -- its token
  pub reply_token : (v : Value) → token_of s.fl s.p s.w net.fired (reply v) ≡ answer cont (Word.Val v)
  reply_token v = ap (λ (x : To). token x (Word.Val v)) (to_instr s.fl s.p s.w net.fired (reply v) ans.inlet.part ans.is_instr)

  -- its arc was used when it was asked for
  pub was_asked : WasUsed s.p s.q.steps (frame_of s.fl net.fired j.context) (ip_of s.fl s.p s.w j.context ans.inlet.part) ans.inlet.port
  was_asked =
      let r = ans.row in let zero : ip_of s.fl s.p s.w j.context ans.inlet.part + 0 ≡ ip_of s.fl s.p s.w j.context ans.inlet.part = omega arith in
      subst (λ ip. WasUsed s.p s.q.steps (frame_of s.fl net.fired j.context) ip ans.inlet.port) zero
      (s.keeps.tracks.asked j j.context ans.inlet 0 h word_is (omega (arith, r)))

  pub reply_is : (u : Value) → IsReply s (reply u)
  reply_is u = record {
    known = framed s j h;
    unnamed = refl;
    instr = ans.is_instr;
    calm = given_calm (block_in s.fl j.context) ans.inlet.part ans.given;
    caused = inr was_asked;
  }

  -- whether it reads a cell
  pub reads_is : (y : ℕ) → reads s.fl y j j.inlet.part ≡ (y == place.0)
  reads_is y = ap (reads s.fl y j) e ∙ ap (reads_cell y) place.1
