-- An event that fires one part, which makes nothing of a loop's credits and passes on what it took.
use Rattle.std.proofs.Common.{◌≡◌, ℕ, false, ap, ◌∙◌, inl, Some}
use Rattle.std.specs.Prelude.{Contains}
use Rattle.semantics.specs.Meaning.{Context}
use Rattle.law_net.specs.ContextsParts.{Item}
use Rattle.law_net.specs.ContextsFirings.{makes, frame_at}
use Rattle.law_net.specs.ContextsMirror.{named_by}
use Rattle.law_machine_refines_net.specs.MovesCases.{net_of, GoesFollow}
use Rattle.law_machine_refines_net.proofs.MovesParts.{is_credit, quiet_calm}
use Rattle.law_machine_refines_net.proofs.MovesSettled.{quiet_held}
use Rattle.law_machine_refines_net.proofs.MovesFitted.{among}
use Rattle.law_machine_refines_net.proofs.OutwardsPassed.{free_counted, taken_there, passes_follow}

-- A PART THAT FIRES
pub goes_follow : GoesFollow
goes_follow s f g = passes_follow s f (record {
  before = g.before;
  kept = g.kept;
  later = g.later;
  waiting = g.waiting;
  paired = g.paired;
  took = g.took;
  still = g.still;
  made = g.made;
  sent = λ j h. record {
    held = quiet_held j.inlet.part (g.quiet j h);
    known = g.known j h;
    named = λ d e. named j d h e;
    asked = λ d x e. let k = g.named j d h (ap named_by e) in inl (k.0, taken_there s g.before g.kept g.later g.waiting k.0 k.1, k.2);
    caused = g.caused j h;
  };
  store = g.store;
  granted = g.free.granted;
  counted = free_counted s g.free (makes s.fl s.w f) calm;
})
  where
    calm : (j : Item) → Contains (makes s.fl s.w f) j → is_credit j.inlet.part ≡ false
    calm j h = quiet_calm j.inlet.part (g.quiet j h)

    named : (j : Item) (d : Context) → Contains (makes s.fl s.w f) j → named_by j.word ≡ Some d → (n : ℕ) × (frame_at s.fl (net_of s).fired d ≡ Some n)
    named j d h e =
        let k = g.named j d h e in s.keeps.tracks.stands.named k.0 d (among s k.0 (taken_there s g.before g.kept g.later g.waiting k.0 k.1))
        (ap named_by k.2 ∙ e)
