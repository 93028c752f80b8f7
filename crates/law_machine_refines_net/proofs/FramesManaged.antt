-- A request for a frame arrives at the manager.
use Rattle.std.proofs.Common.{◌≡◌, ℕ, ◌*◌, true, false, [], ◌∷◌, refl, sym, ap, ◌∙◌, subst, true≢false, Some}
use Rattle.std.specs.Prelude.{Contains, pos}
use Rattle.tags.specs.declared.value.Value.TheVariants.{Int}
use Rattle.tags.specs.declared.token.Port.TheVariants.{Left}
use Rattle.tags.specs.declared.token.Cont.{Cont}
use Rattle.tags.specs.declared.token.Word.{Word}
use Rattle.tags.specs.declared.token.To.{To}
use Rattle.tags.specs.declared.token.Token.{Token}
use Rattle.semantics.specs.Graph.{Block, Flow}
use Rattle.semantics.specs.Meaning.{Context}
use Rattle.semantics.specs.Machine.{Happens, Requests}
use Rattle.semantics.specs.Credits.{granted_at, released_at}
use Rattle.law_net.specs.ContextsParts.{Part, Asked, NextAsked, inlet, BackTo, FrameOf, signal, Item, item, Firing}
use Rattle.law_net.specs.ContextsBlocks.{waits_in}
use Rattle.law_net.specs.ContextsFirings.{frame_at, frames_of, handed_to, makes, own_takes, renewed, IsProper}
use Rattle.law_net.specs.ContextsLaws.{is_main}
use Rattle.law_net.specs.ContextsMirror.{frame_of, ip_of, word_of, row_of, reads, is_asked, is_instr}
use Rattle.law_machine_refines_net.specs.MovesCases.{Taking, net_of, IsFree}
use Rattle.law_machine_refines_net.proofs.MovesParts.{is_credit, is_lending}
use Rattle.law_machine_refines_net.proofs.MovesPlain.{is_silent}
use Rattle.law_machine_refines_net.proofs.FramesWanted.{asked_to}

-- THE MANAGER'S PART is none of the others
pub asked_alone : (b : Block ℕ) (r : Part) → is_asked r ≡ true → waits_in b r ≡ false
asked_alone b (Asked n) e = refl
asked_alone b NextAsked e = refl
asked_alone b r e = absurd (true≢false (sym e))

pub asked_reads : (fl : Flow) (x : ℕ) (i : Item) (r : Part) → is_asked r ≡ true → reads fl x i r ≡ false
asked_reads fl x i (Asked n) e = refl
asked_reads fl x i NextAsked e = refl
asked_reads fl x i r e = absurd (true≢false (sym e))

pub asked_lends : (r : Part) → is_asked r ≡ true → is_lending r ≡ false
asked_lends (Asked n) e = refl
asked_lends NextAsked e = refl
asked_lends r e = absurd (true≢false (sym e))

pub asked_silent : (r : Part) → is_asked r ≡ true → is_silent r ≡ true
asked_silent (Asked n) e = refl
asked_silent NextAsked e = refl
asked_silent r e = absurd (true≢false (sym e))

-- the firing that hands frame g out
abbrev pub hand_out : Taking → ℕ → Firing
hand_out s g =
    record { context = s.i.context; part = s.i.inlet.part; way = 0; left = s.i.word; right = signal; frame = g; answer = Int (pos 0); turns = 0; operands = [] }

-- THE EVENT'S ITEM asks for a frame of `to`, which has none yet
pub record Hands (s : Taking) : Type 0 where
  pub to : Context
  pub answered : Part
  pub asks : is_asked s.i.inlet.part ≡ true
  pub word : s.i.word ≡ BackTo s.i.context (inlet answered Left 0)
  pub hands : handed_to s.fl s.i.context s.i.inlet.part ≡ Some to
  pub makes_is : (g : ℕ) → makes s.fl s.w (hand_out s g) ≡ item s.i.context (inlet answered Left 0) (FrameOf to) ∷ []
  pub own : (g : ℕ) → own_takes s.fl (hand_out s g) s.i.inlet.part ≡ s.i ∷ []
  pub renews : (g : ℕ) → renewed s.fl (hand_out s g) s.i.inlet.part ≡ []
  pub proper : (g : ℕ) → (Contains (0 ∷ frames_of s.fl (net_of s).fired) g → ⊥) → IsProper s.fl (net_of s).fired (hand_out s g)
  pub not_main : is_main to ≡ false
  pub unframed : (g : ℕ) → frame_at s.fl (net_of s).fired to ≡ Some g → ⊥
  pub is : is_instr answered ≡ true
  pub calm : is_credit answered ≡ false
  pub row : row_of s.fl s.p s.w s.i.context answered ≡ 1

module _ (s : Taking) (k : Hands s) where
  -- where the answer goes
  abbrev pub cont : Cont
  cont = Cont.Frame (frame_of s.fl (net_of s).fired s.i.context) (ip_of s.fl s.p s.w s.i.context k.answered) Left

  pub to_manager : s.t.to ≡ To.Manager
  to_manager = ap (λ (t : Token). t.to) s.is_token ∙ asked_to s.fl s.p s.w (net_of s).fired s.i s.i.inlet.part k.asks

  pub word_is : word_of s.fl s.p s.w (net_of s).fired s.i.word ≡ Word.Back cont
  word_is = ap (word_of s.fl s.p s.w (net_of s).fired) k.word

  pub requested : Requests (s.z.elements * s.z.frames) s.m.store cont s.event.made s.new.store
  requested =
      let a = subst (λ (x : To). Happens s.p.program (s.z.elements * s.z.frames) s.m.store x s.t.word s.event.made s.new.store) to_manager s.event.happens in
      subst (λ (x : Word). Happens s.p.program (s.z.elements * s.z.frames) s.m.store To.Manager x s.event.made s.new.store)
      (ap (λ (t : Token). t.word) s.is_token ∙ word_is) a

  pub manager_free : IsFree s
  manager_free = record {
    granted = λ g h. subst (λ (x : To). granted_at s.p s.p.program g h s.m.store x ≡ 0) (sym to_manager) refl;
    released = λ g base. subst (λ (x : To). released_at s.p.program g base x s.event.made ≡ 0) (sym to_manager) refl;
  }
