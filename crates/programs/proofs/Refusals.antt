-- What refuses a program's run, from what refuses its graph's.
use Rattle.std.proofs.Common.{◌≡◌, ◌≢◌, ◌⊎◌, inl, inr, ℕ, ℤ, List, refl, sym, ap, subst}
use Rattle.semantics.specs.Graph.{Graph}
use Rattle.semantics.specs.Program.{Code}
use Rattle.semantics.specs.Text.{HasText, text_of}
use Rattle.schedule.specs.declared.config.Config.{Config}
use Rattle.schedule.specs.Starts.{IsCause}
use Rattle.graph_check.specs.declared.causes.CheckRefusal.{CheckRefusal}
use Rattle.graph_check.specs.declared.faults.CheckFault.{CheckFault}
use Rattle.graph_check.specs.Causes.{fault_of}
use Rattle.graph_check.specs.declared.faults.CheckFaultKind.TheVariants as CheckFaultKind
use Rattle.semantics.specs.WellFormed.{WellFormed}
use Rattle.graph_check.specs.FirstFault.{IsRefusal}
use Rattle.source.specs.Tree.{Program}
use Rattle.lowered_text.specs.declared.fault.LowerFault.{LowerFault}
use Rattle.lowered_text.specs.Lowers.{Lowers, IsRefusedProgram}
use Rattle.driver.specs.declared.fault.Fault.{Fault}
use Rattle.driver.specs.Compiled.{IsTooLarge}
use Rattle.driver.specs.Reported.{IsUnchecked}
use Rattle.driver.specs.Refused.{IsGoodText, IsCompiled, IsRefused, IsRefusedObject}
use Rattle.programs.specs.declared.fault.RunRefusal.{RunRefusal}
use Rattle.programs.specs.Refused.{IsNotRun, IsNotCompiled, IsRefusedRun, OfGraph, unlowered_as, IsUnrun}

-- a graph that is well formed is refused only for lack of memory
pub refused_memory : (g : Graph) (r : CheckRefusal) (reported : Fault) → WellFormed g → IsRefusal g (fault_of r) → IsUnchecked r reported → reported
    ≡ Fault.Memory
refused_memory g r reported well h (inl (m, is)) = is
refused_memory g r reported well (inl e) (inr (n, is)) = absurd (n (ap (λ (f : CheckFault). f.kind) e))
refused_memory g r reported well (inr (e, n, ill)) (inr k) = absurd (ill well)

pub memory_is_too_large : (g : Graph) (f : Fault) → f ≡ Fault.Memory → IsTooLarge g f
memory_is_too_large g f e = subst (λ f. IsTooLarge g f) (sym e) tt

-- of a program that is not lowered
pub not_lowered : (text : List ℕ) (f : LowerFault) (reported : RunRefusal) → reported ≡ unlowered_as f → IsRefusedProgram text f → IsNotCompiled text reported
not_lowered text (LowerFault.Program f) reported e h = subst (λ t. IsNotCompiled text t) (sym e) h
not_lowered text LowerFault.Memory reported e h = subst (λ t. IsNotCompiled text t) (sym e) tt

-- of a graph without an object
pub not_compiled : (text : List ℕ) (p : Program) (g : Graph) → Lowers text p g → (f : Fault) (reported : RunRefusal) → IsUnrun f reported → IsTooLarge g f
    → IsNotCompiled text reported
not_compiled text p g h f reported (inl (m, e)) k = subst (λ t. IsNotCompiled text t) (sym e) tt
not_compiled text p g h f reported (inr (n, e)) k = subst (λ t. IsNotCompiled text t) (sym e) (n, (p, g, h, k))

-- what has no object is not run
too_large_is_not_run : (g : Graph) (inputs : List ℤ) (c : Config) (f : Fault) → IsTooLarge g f → IsNotRun g inputs c f
too_large_is_not_run g inputs c (Fault.Read f) h = absurd h
too_large_is_not_run g inputs c (Fault.Check f) h = absurd h
too_large_is_not_run g inputs c (Fault.TooManySlots b) h = h
too_large_is_not_run g inputs c (Fault.TooFar b) h = h
too_large_is_not_run g inputs c (Fault.Object f) h = absurd h
too_large_is_not_run g inputs c (Fault.Start f) h = absurd h
too_large_is_not_run g inputs c Fault.Memory h = h

pub not_compiled_is_not_run : (text : List ℕ) (inputs : List ℤ) (c : Config) (f : RunRefusal) → IsNotCompiled text f → IsRefusedRun text inputs c f
not_compiled_is_not_run text inputs c (RunRefusal.Program f) h = h
not_compiled_is_not_run text inputs c (RunRefusal.Graph f) (n, (p, g, h, k)) = (n, (p, g, h, too_large_is_not_run g inputs c f k))
not_compiled_is_not_run text inputs c RunRefusal.Memory h = tt

-- of an object that is not run
object_is_not_run : (g : Graph) (bytes : List ℕ) (inputs : List ℤ) (c : Config) → IsCompiled (text_of g) g bytes → (f : Fault) → f ≢ Fault.Memory
    → IsRefusedObject bytes inputs c f → IsNotRun g inputs c f
object_is_not_run g bytes inputs c k (Fault.Read f) n h = absurd h
object_is_not_run g bytes inputs c k (Fault.Check f) n h = absurd h
object_is_not_run g bytes inputs c k (Fault.TooManySlots b) n h = absurd h
object_is_not_run g bytes inputs c k (Fault.TooFar b) n h = absurd h
object_is_not_run g bytes inputs c k (Fault.Object f) n h = absurd (h.1 g.version k.object.code k.object.object)
object_is_not_run g bytes inputs c k (Fault.Start f) n (version, d, is, only, cause, other) =
    let C : Code → Type 0 = λ x. IsCause x.program c inputs f in
    (bytes, k.object, subst C (only g.version k.object.code k.object.object) cause, other)
object_is_not_run g bytes inputs c k Fault.Memory n h = absurd (n refl)

pub not_run : (text : List ℕ) (p : Program) (g : Graph) → Lowers text p g → (bytes : List ℕ) → IsCompiled (text_of g) g bytes → (inputs : List ℤ) (c : Config)
    (f : Fault) (reported : RunRefusal) → IsUnrun f reported → IsRefusedObject bytes inputs c f → IsRefusedRun text inputs c reported
not_run text p g h bytes k inputs c f reported (inl (m, e)) r = subst (λ t. IsRefusedRun text inputs c t) (sym e) tt
not_run text p g h bytes k inputs c f reported (inr (n, e)) r =
    subst (λ t. IsRefusedRun text inputs c t) (sym e) (n, (p, g, h, object_is_not_run g bytes inputs c k f n r))

-- AND OF ITS TEXT
refused_text : (g : Graph) → IsGoodText (text_of g) g → (inputs : List ℤ) (c : Config) (f : Fault) → IsNotRun g inputs c f → IsRefused (text_of g) inputs c f
refused_text g good inputs c (Fault.Read f) h = absurd h
refused_text g good inputs c (Fault.Check f) h = absurd h
refused_text g good inputs c (Fault.TooManySlots b) h = (g, good, h)
refused_text g good inputs c (Fault.TooFar b) h = (g, good, h)
refused_text g good inputs c (Fault.Object f) h = absurd h
refused_text g good inputs c (Fault.Start f) (bytes, object, cause, other) = (g, bytes, record { good = good; object = object }, cause, other)
refused_text g good inputs c Fault.Memory h = tt

pub refused_as_text : (text : List ℕ) (p : Program) (g : Graph) → Lowers text p g → HasText g → (inputs : List ℤ) (c : Config) (f : Fault)
    → IsNotRun g inputs c f → IsRefused (text_of g) inputs c f
refused_as_text text p g h has inputs c f k = refused_text g (record { is_text = (refl, has); well_formed = h.well_formed }) inputs c f k
