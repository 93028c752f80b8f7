-- When what a function returned is what a definition gives.
use Rattle.std.specs.Prelude.{◌≡◌, ◌⊎◌, Result, Ok, Err}
use Rattle.graph_file.specs.declared.fault.ReadFaultKind.{ReadFaultKind}
use Rattle.graph_file.specs.declared.fault.ReadFaultKind.TheVariants.{Memory}
use Rattle.graph_file.specs.declared.cause.ReadCause.{ReadCause}
use Rattle.graph_file.specs.Causes.{fault_kind}

-- first this, and then that with its answer; the first fault counts
infixl 10 ◌>>=◌
abbrev pub ◌>>=◌ : {A B E : Type 0} → Result A E → (A → Result B E) → Result B E
(Ok x) >>= f = f x
(Err e) >>= f = Err e

-- A fault is the one that the definition gives, unless memory ran out.
abbrev pub Fails : {Y : Type 0} → ReadFaultKind → Result Y ReadFaultKind → Type 0
Fails e spec = (e ≡ Memory) ⊎ (spec ≡ Err e)

-- What a function returned, as contracts see it, is what the definition gives, unless memory ran out.
abbrev pub Gives : {X Y : Type 0} → (X → Y) → Result X ReadCause → Result Y ReadFaultKind → Type 0
Gives view (Ok x) spec = spec ≡ Ok (view x)
Gives view (Err cause) spec = Fails (fault_kind cause) spec
