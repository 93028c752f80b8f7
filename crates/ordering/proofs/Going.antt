-- How an element goes on.
use Rattle.std.proofs.Common.{◌≡◌, refl, sym, ◌∙◌, ap, subst, ℕ, ◌+◌, ◌<◌, true, ◌==◌, List, [], ◌∷◌, ◌++◌, length, take, drop, append_assoc, append-nil, arith}
use Rattle.std.proofs.lemmas.Bool.{eqb-true}
use Rattle.lemmas.proofs.Lists.{same_head, same_tail}
use Rattle.tags.specs.declared.token.Token.{Token}
use Rattle.semantics.specs.Machine.{Events}
use Rattle.rounds.specs.Turns.{by}
use Rattle.law_linearization.specs.History.{Block, by_element}
use Rattle.ordering.specs.declared.log.Counts.{Counts}
use Rattle.ordering.specs.declared.rest.Rest.{Rest}
use Rattle.ordering.specs.Logs.{taken_in}
use Rattle.ordering.specs.Pools.{all_copies}
use Rattle.ordering.specs.Rests.{first_spent, IsLogOf, IsWhole, IsRestOf, Holds, with_spent, TakesNeeded, GoesOn}
use Rattle.ordering.proofs.Copies.{taken_out, copies_append}
use Rattle.ordering.proofs.Moving.{leads_nowhere, leads_aside, leads_block, leads_then}
use Rattle.ordering.proofs.Standing.{stands_same, stands_whole, by_tokens}

abbrev Tokens : Type 0
Tokens = List Token

abbrev Amounts : Type 0
Amounts = Token → ℕ

pub goes_nowhere : (n e : ℕ) (tokens : Tokens) (blocks : List Block) (before : Events) (amounts : Amounts) (r : Rest) → Holds amounts tokens
    → IsRestOf r blocks → GoesOn n e tokens blocks before amounts r before
goes_nowhere n e tokens blocks before amounts r holds stands = record {
  left = tokens;
  later = blocks;
  made = [];
  holds = holds;
  stands = stands;
  noted = sym (append-nil before);
  leads = leads_nowhere n e tokens blocks;
}

pub goes_then : (n e : ℕ) (tokens : Tokens) (blocks : List Block) (one two three : Events) (f g : Amounts) (r s : Rest)
    → (first : GoesOn n e tokens blocks one f r two) → GoesOn n e first.left first.later two g s three → GoesOn n e tokens blocks one g s three
goes_then n e tokens blocks one two three f g r s first second = record {
  left = second.left;
  later = second.later;
  made = first.made ++ second.made;
  holds = second.holds;
  stands = second.stands;
  noted = second.noted ∙ ap (λ (l : Events). l ++ second.made) first.noted ∙ append_assoc one first.made second.made;
  leads = leads_then n e tokens first.left second.left blocks first.later second.later first.made second.made first.leads second.leads;
}

abbrev Goes : ℕ → Amounts → Rest → Events → Amounts → Rest → Events → Type 0
Goes e before old one after new two = (n : ℕ) (tokens : Tokens) (blocks : List Block) → Holds before tokens → IsRestOf old blocks
    → GoesOn n e tokens blocks one after new two

pub goes_twice : (e : ℕ) (one two three : Events) (f g h : Amounts) (r s t : Rest) → Goes e f r one g s two → Goes e g s two h t three
    → Goes e f r one h t three
goes_twice e one two three f g h r s t first second n tokens blocks holds stands =
    let a = first n tokens blocks holds stands in
    goes_then n e tokens blocks one two three g h s t a (second n a.left a.later a.holds a.stands)

-- tokens of the next block are taken out of the pool
pub goes_aside : (n e : ℕ) (tokens : Tokens) (blocks : List Block) (events : Events) (before after : Amounts) (old new : Rest)
    → 0 < length old.blocks.now → Holds before tokens → IsRestOf old blocks → TakesNeeded before old after new
    → GoesOn n e tokens blocks events after new events
goes_aside n e tokens [] events before after old new some holds stands takes = absurd (let none : length old.blocks.now
    ≡ 0 = ap (λ (l : List Counts). length l) stands.1 in let no : ⊥ = omega (arith, some, none) in no)
goes_aside n e tokens (b ∷ later) events before after old new some holds stands takes =
    let ts : Tokens = takes.0 in
    let need : Tokens = new.needed.now in
    let out = taken_out tokens ts after (λ q. sym (holds q) ∙ takes.2 q) in
    let spent : b.spent ≡ ts ++ need = sym stands.0 ∙ takes.1 in
    let same : IsLogOf need old.taken.now old.made.now old.blocks.now (with_spent need b ∷ later) =
    (refl, stands.1, stands.2, stands.3, stands.4, stands.5, stands.6) in
    record {
      left = out.0;
      later = with_spent need b ∷ later;
      made = [];
      holds = out.2;
      stands = stands_same need need new.taken.now old.taken.now new.made.now old.made.now new.blocks.now old.blocks.now (with_spent need b ∷ later)
          refl takes.3 takes.4 takes.5 same;
      noted = sym (append-nil events);
      leads = leads_aside n e b later tokens out.0 ts need spent out.1;
    }

pub no_tokens : (ts : Tokens) → (length ts == 0) ≡ true → ts ≡ []
no_tokens [] is = refl
no_tokens (t ∷ ts) is = absurd (let some : length (t ∷ ts) ≡ 0 = eqb-true (length (t ∷ ts)) 0 is in let no : ⊥ = omega (arith, some) in no)

no_counts : (c : Counts) (cs : List Counts) → [] ≡ c ∷ cs → ⊥
no_counts c cs e = cc

-- a block whose tokens were all taken out has its place
pub goes_block : (n e : ℕ) (tokens : Tokens) (blocks : List Block) (one two : Events) (before after : Amounts) (old new : Rest) (c : Counts) (cs : List Counts)
    → old.blocks.now ≡ c ∷ cs → old.needed.now ≡ [] → Holds before tokens → IsRestOf old blocks
    → IsWhole (drop c.events old.taken.now) (drop c.made old.made.now) cs new → two ≡ one ++ by e (take c.events old.taken.now)
    → ((q : Token) → after q ≡ before q + all_copies q (take c.made old.made.now))
    → GoesOn n e tokens blocks one after new two
goes_block n e tokens [] one two before after old new c cs counts none holds stands whole noted amounts = absurd (no_counts c cs (sym stands.1 ∙ counts))
goes_block n e tokens (b ∷ later) one two before after old new c cs counts none holds stands whole noted amounts =
    let all = sym stands.3 ∙ counts in
    let c_is : stands.1 ≡ c = same_head stands.1 c stands.2 cs all in
    let cs_is : stands.2 ≡ cs = same_tail stands.1 c stands.2 cs all in
    let taken_is : take c.events old.taken.now ≡ taken_in b = subst (λ (d : Counts). take d.events old.taken.now ≡ taken_in b) c_is stands.4 in
    let made_is : take c.made old.made.now ≡ b.made = subst (λ (d : Counts). take d.made old.made.now ≡ b.made) c_is stands.5 in
    let rest : IsLogOf (first_spent (drop c.events old.taken.now) cs) (drop c.events old.taken.now) (drop c.made old.made.now) cs later
    = subst (λ (ds : List Counts). IsLogOf (first_spent (drop c.events old.taken.now) ds) (drop c.events old.taken.now) (drop c.made old.made.now) ds
    later) cs_is
    (subst (λ (d : Counts). IsLogOf (first_spent (drop d.events old.taken.now) stands.2) (drop d.events old.taken.now) (drop d.made old.made.now)
    stands.2 later) c_is stands.6) in
    record {
      left = b.made ++ tokens;
      later = later;
      made = by_element e b.acts;
      holds = λ q.
          let a = amounts q in
          let h = holds q in
          let m = ap (all_copies q) made_is in
          let p = copies_append q b.made tokens in
          omega (arith, a, h, m, p);
      stands = stands_whole new (drop c.events old.taken.now) (drop c.made old.made.now) cs later whole rest;
      noted = noted ∙ ap (λ (l : Events). one ++ l) (ap (by e) taken_is ∙ by_tokens e b.acts);
      leads = leads_block n e b later tokens (sym stands.0 ∙ none);
    }
