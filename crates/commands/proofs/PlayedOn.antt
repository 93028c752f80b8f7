-- A machine whose run is continued: what it plays by a list and then by another one, it plays by both.
use Rattle.std.proofs.Common.{◌≡◌, ℕ, ◌+◌, ◌*◌, inl, inr, true, List, [], ◌∷◌, ◌++◌, Option, Some, None, refl, sym, ap, ◌∙◌, subst, arith}
use Rattle.std.proofs.Common.{append_assoc, append-nil}
use Rattle.semantics.specs.Machine.{Events}
use Rattle.element.specs.declared.lane.Stepped.{Stepped}
use Rattle.element.specs.declared.lane.Stepped.TheVariants.{Idle, Did, Clash, Stuck, Memory}
use Rattle.schedule.specs.declared.halt.Halt.{Halt}
use Rattle.schedule.specs.State.{State}
use Rattle.schedule.specs.Runs.{SoFar, Advances, IsHalt, NamesCell, Plays, Then}
use Rattle.commands.specs.Agreed.{most_picks}
use Rattle.commands.specs.Ordered.{number_after, picks_from}
use Rattle.commands.specs.Played.{PlaysDrawn}
use Rattle.commands.proofs.Drawn.{after_joined, picks_joined}

-- no step of a list ends it as if it were used up
never_used_up : (answer : Option Stepped) (s : State) (halt : Halt) → IsHalt true answer s (Some halt) → halt ≡ Halt.Steps → ⊥
never_used_up None s halt h e = cc
never_used_up (Some Did) s halt h e = cc
never_used_up (Some Idle) s halt (inl h) e = let no = h.1 in cc
never_used_up (Some Idle) s halt (inr h) e = let no = h.1 in cc
never_used_up (Some (Clash cell)) s halt h e = cc
never_used_up (Some (Stuck rule)) s halt h e = cc
never_used_up (Some Memory) s halt h e = cc

pub plays_on : (p q : List (ℕ × ℕ)) (s mid last : State) (halt : Halt) (first later : Events) → Plays true p s mid Halt.Steps first
    → Plays true q mid last halt later → Plays true (p ++ q) s last halt (first ++ later)
plays_on [] q s mid last halt first later plays rest =
    subst (λ (l : Events). Plays true q s last halt (l ++ later)) (sym plays.2) (subst (λ (x : State). Plays true q x last halt later) plays.1 rest)
plays_on (a ∷ p) q s mid last halt first later (next, now, after, why, advances, is, rest_of) rest = by why advances rest_of
    (λ h. plays_on p q next mid last halt after later h rest)
  where
    by : (why : Option Halt) → Advances true s a.0 a.1 next now why → Then why next mid Halt.Steps after (Plays true p next mid Halt.Steps after)
        → (Plays true p next mid Halt.Steps after → Plays true (p ++ q) next last halt (after ++ later))
        → Plays true ((a ∷ p) ++ q) s last halt (first ++ later)
    by None x then_on go = (next, now, after ++ later, None, x, ap (λ (l : Events). l ++ later) is ∙ append_assoc now after later, go then_on)
    by (Some w) x then_on go = absurd (never_used_up x.answer next w x.halts (sym then_on.1))

-- What was played so far, by that many times 4096 picks: what is played from there on is played from the start.
pub record PlayedSo (elements first time : ℕ) (old now : SoFar) : Type 0 where
  pub made : Events
  pub events : now.events ≡ old.events ++ made
  pub on : (q : List (ℕ × ℕ)) (last : State) (halt : Halt) (later : Events) → Plays true q now.state last halt later
      → Plays true (picks_from elements (4096 * time) first ++ q) old.state last halt (made ++ later)
  pub setting : now.state.setting ≡ old.state.setting

module _ (elements first : ℕ) (old : SoFar) where
  pub begin : PlayedSo elements first 0 old old
  unfolding picks_from
  begin = record { made = []; events = sym (append-nil old.events); on = λ q last halt later h. h; setting = refl }

  module _ (time number : ℕ) (now new : SoFar) (so : PlayedSo elements first time old now) (at : number ≡ number_after (4096 * time) first)
      (picks : List (ℕ × ℕ)) (drawn : picks ≡ picks_from elements 4096 number) (made : Events) (events : new.events ≡ now.events ++ made) where
    joined : picks_from elements (4096 * time) first ++ picks ≡ picks_from elements (4096 * time + 4096) first
    joined = ap (λ (l : List (ℕ × ℕ)). picks_from elements (4096 * time) first ++ l) (drawn ∙ ap (λ (n : ℕ). picks_from elements 4096 n) at)
        ∙ sym (picks_joined elements (4096 * time) 4096 first)

    all_events : new.events ≡ old.events ++ (so.made ++ made)
    all_events = events ∙ ap (λ (l : Events). l ++ made) so.events ∙ append_assoc old.events so.made made

    pub go_on : Plays true picks now.state new.state Halt.Steps made → new.state.setting ≡ now.state.setting → PlayedSo elements first (time + 1) old new
    unfolding joined all_events
    go_on plays setting =
        let more : 4096 * time + 4096 ≡ 4096 * (time + 1) = omega arith in
        let all = joined ∙ ap (λ (n : ℕ). picks_from elements n first) more in
        record {
          made = so.made ++ made;
          events = all_events;
          on = λ q last halt later h.
              let here = so.on (picks ++ q) last halt (made ++ later) (plays_on picks q now.state new.state last halt made later plays h) in
              let lists = sym (append_assoc (picks_from elements (4096 * time) first) picks q) ∙ ap (λ (l : List (ℕ × ℕ)). l ++ q) all in
              subst (λ (l : List (ℕ × ℕ)). Plays true l old.state last halt ((so.made ++ made) ++ later)) lists
              (subst (λ (l : Events). Plays true (picks_from elements (4096 * time) first ++ (picks ++ q)) old.state last halt l)
              (sym (append_assoc so.made made later)) here);
          setting = setting ∙ so.setting;
        }

    pub halted : (halt : Halt) → Plays true picks now.state new.state halt made → NamesCell new.state.setting.program halt → (halt ≡ Halt.Steps → ⊥)
        → PlaysDrawn elements first old new halt
    unfolding joined all_events
    halted halt plays cell other = record {
      count = 4096 * time + 4096;
      made = so.made ++ made;
      plays = subst (λ (l : List (ℕ × ℕ)). Plays true l old.state new.state halt (so.made ++ made)) joined (so.on picks new.state halt made plays);
      events = all_events;
      cell = cell;
      enough = λ e. absurd (other e);
    }

  pub begin_at : first ≡ number_after (4096 * 0) first
  unfolding number_after
  begin_at = refl

  pub next_at : (time number : ℕ) → number ≡ number_after (4096 * time) first → (next : ℕ) → next ≡ number_after 4096 number → next
      ≡ number_after (4096 * (time + 1)) first
  next_at time number at next is =
      let more : 4096 * time + 4096 ≡ 4096 * (time + 1) = omega arith in
      is ∙ ap (λ (n : ℕ). number_after 4096 n) at ∙ sym (after_joined (4096 * time) 4096 first) ∙ ap (λ (n : ℕ). number_after n first) more

  -- all that can be drawn were drawn
  pub used_up : (time : ℕ) (now new : SoFar) → PlayedSo elements first time old now → 4096 * time ≡ most_picks → (halt : Halt) (picks : List (ℕ × ℕ))
      → picks ≡ [] → (made : Events) → new.events ≡ now.events ++ made
      → Plays true picks now.state new.state halt made → NamesCell new.state.setting.program halt → PlaysDrawn elements first old new halt
  used_up time now new so all halt picks none made events plays cell = record {
    count = 4096 * time;
    made = so.made ++ made;
    plays = subst (λ (l : List (ℕ × ℕ)). Plays true l old.state new.state halt (so.made ++ made))
        (ap (λ (l : List (ℕ × ℕ)). picks_from elements (4096 * time) first ++ l) none ∙ append-nil (picks_from elements (4096 * time) first))
        (so.on picks new.state halt made plays);
    events = events ∙ ap (λ (l : Events). l ++ made) so.events ∙ append_assoc old.events so.made made;
    cell = cell;
    enough = λ e. all;
  }
