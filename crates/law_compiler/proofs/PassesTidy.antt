-- Destinations and landings of tidy plans.
use Rattle.std.proofs.Common.{◌≡◌, refl, ap, ℕ, ◌<◌, ◌⊎◌, inl, inr, Bool, true, false, List, ◌∷◌, ◌++◌, Some, Contains, arith}
use Rattle.std.proofs.lemmas.List.Elements.{Contains-append_right}
use Rattle.semantics.specs.declared.program.Dest.{Dest}
use Rattle.semantics.specs.declared.program.Op.{Op}
use Rattle.semantics.specs.declared.program.Op.TheVariants.{Link}
use Rattle.semantics.specs.Program.{Instr, CodeBlock}
use Rattle.semantics.specs.Plan.{landing_in}
use Rattle.semantics.specs.Orderly.{often}
use Rattle.law_fresh_frames.specs.Alike.{plain_dests}

-- a landing holds at least one instruction, where there is such a block
pub some_landing : (t : Bool) (c : CodeBlock) → 0 < landing_in t (Some c)
some_landing true c = omega arith
some_landing false c = omega arith

pub one_only : (d : Dest) (ds : List Dest) (x : Dest) (xs : List Dest) → d ∷ ds ≡ x ∷ xs → d ≡ x
one_only d ds x xs e = cc

pub often_op : (i j : Instr) → i.op ≡ j.op → often (Some i) ≡ often (Some j)
often_op i j e = ap (λ (op : Op). often (Some record i { op = op })) e

pub all_named : (i : Instr) (op : Op) (d : Dest) → Contains (plain_dests i op) d → Contains (i.firsts ++ i.seconds) d
all_named i (Link b) d h = Contains-append_right i.firsts i.seconds d h
all_named i op d h = h

-- an operation whose destinations are all plain, or a link's
abbrev pub PlainOr : Op → Type 0
PlainOr op = ((j : Instr) → plain_dests j op ≡ j.firsts ++ j.seconds) ⊎ ((callee : ℕ) × (op ≡ Link callee))

pub plain_or : (op : Op) → PlainOr op
plain_or (Link callee) = inr (callee, refl)
plain_or op = inl (λ j. refl)
