-- The frames after an event: the frames before it, and the one that it hands out, if there is one.
use Rattle.std.proofs.Common.{◌≡◌, ℕ, List, [], ◌∷◌, ◌++◌, refl, sym, ap, ◌∙◌, subst, inl, ◌⊎◌, Option, Some, None}
use Rattle.std.specs.Prelude.{Contains}
use Rattle.lemmas.proofs.Contains.{contains_head, contains_tail}
use Rattle.semantics.specs.Graph.{Flow}
use Rattle.semantics.specs.Meaning.{Context, Main, Called, Turned}
use Rattle.semantics.specs.Handed.{handed_by}
use Rattle.law_net.specs.ContextsParts.{Item, Firing}
use Rattle.law_net.specs.Contexts.{or_zero}
use Rattle.law_net.specs.ContextsFirings.{Config, handed_to, frame_at, frame_if, frames_if, frames_of}
use Rattle.law_machine_refines_net.specs.MovesCases.{Taking, net_of}
use Rattle.law_machine_refines_net.proofs.MovesAccount.{Account}
use Rattle.law_machine_refines_net.proofs.MovesLasting.{Lasts}

-- FIRINGS THAT HAND OUT NONE
abbrev pub HandNone : Flow → List Firing → Type 0
HandNone fl fs = (f : Firing) → Contains fs f → handed_to fl f.context f.part ≡ None

rest_hand : (fl : Flow) (f : Firing) (fs : List Firing) → HandNone fl (f ∷ fs) → HandNone fl fs
rest_hand fl f fs none h c = none h (contains_tail f fs h c)

frames_as_before : (fl : Flow) (fs fired : List Firing) → HandNone fl fs → (d : Context) → frame_at fl (fs ++ fired) d ≡ frame_at fl fired d
frames_as_before fl [] fired none d = refl
frames_as_before fl (f ∷ fs) fired none Main = refl
frames_as_before fl (f ∷ fs) fired none (Called d m) =
    ap (λ o. frame_if o (Called d m) f.frame (frame_at fl (fs ++ fired) (Called d m))) (none f (contains_head f fs))
    ∙ frames_as_before fl fs fired (rest_hand fl f fs none) (Called d m)
frames_as_before fl (f ∷ fs) fired none (Turned d m t) =
    ap (λ o. frame_if o (Turned d m t) f.frame (frame_at fl (fs ++ fired) (Turned d m t))) (none f (contains_head f fs))
    ∙ frames_as_before fl fs fired (rest_hand fl f fs none) (Turned d m t)

handed_as_before : (fl : Flow) (fs fired : List Firing) → HandNone fl fs → frames_of fl (fs ++ fired) ≡ frames_of fl fired
handed_as_before fl [] fired none = refl
handed_as_before fl (f ∷ fs) fired none =
    ap (λ o. frames_if o f.frame ++ frames_of fl (fs ++ fired)) (none f (contains_head f fs)) ∙ handed_as_before fl fs fired (rest_hand fl f fs none)

-- whose frame it hands out, and which
abbrev pub Gives : Option (Context × ℕ) → Context → ℕ → Type 0
Gives None c g = ⊥
Gives (Some k) c g = (c ≡ k.0) × (g ≡ k.1)

module _ (s : Taking) where
  pub record Frames (d : Config) : Type 0 where
    pub gave : Option (Context × ℕ)
    pub grows : (c : Context) (g : ℕ) → frame_at s.fl (net_of s).fired c ≡ Some g → frame_at s.fl d.fired c ≡ Some g
    pub newer : (c : Context) (g : ℕ) → frame_at s.fl d.fired c ≡ Some g → (frame_at s.fl (net_of s).fired c ≡ Some g) ⊎ Gives gave c g
    -- that context had none, and the frame was nobody's
    pub fresh : (c : Context) (g : ℕ) → Gives gave c g
        → ((h : ℕ) → frame_at s.fl (net_of s).fired c ≡ Some h → ⊥) × ((e : Context) → frame_at s.fl (net_of s).fired e ≡ Some g → ⊥)
    pub handed : (g : ℕ) → Contains (frames_of s.fl d.fired) g → Contains (frames_of s.fl (net_of s).fired) g ⊎ Contains (handed_by s.t.to s.event.made) g

module _ {s : Taking} {T : Item → Type 0} {d : Config} {new : List Firing} {made : List Item} (l : Account s T d new made) (none : HandNone s.fl new) where
  pub frames_same : (c : Context) → frame_at s.fl d.fired c ≡ frame_at s.fl (net_of s).fired c
  frames_same c = ap (λ fs. frame_at s.fl fs c) l.fired ∙ frames_as_before s.fl new (net_of s).fired none c

  pub frames_stay : Frames s d
  frames_stay = record {
    gave = None;
    grows = λ c g e. frames_same c ∙ e;
    newer = λ c g e. inl (sym (frames_same c) ∙ e);
    fresh = λ c g h. absurd h;
    handed = λ g h. inl (subst (λ l. Contains l g) (ap (frames_of s.fl) l.fired ∙ handed_as_before s.fl new (net_of s).fired none) h);
  }

  -- so all tokens stay
  pub all_last : (j : Item) → Lasts s.fl s.p s.w (net_of s).fired d.fired j
  all_last j = record { own = ap or_zero (frames_same j.context); named = λ c h. ap or_zero (frames_same c) }
