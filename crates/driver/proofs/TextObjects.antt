-- The object of a text's graph: what is written of it, and what refuses a run of it.
use Rattle.std.proofs.Common.{◌≡◌, ◌≢◌, ℕ, ◌++◌, ℤ, List, Option, Ok, Err, refl, sym, ap, ◌∙◌, subst}
use Rattle.std.specs.Prelude.{⊤}
use Rattle.std.specs.Io.KnownBytes.{Appends}
use Rattle.semantics.specs.Graph.{Graph}
use Rattle.semantics.specs.Program.{Code}
use Rattle.semantics.specs.Bytes.{IsCode, IsObject, bytes_of}
use Rattle.sink.specs.Sends.{Sends}
use Rattle.schedule.specs.declared.config.Config.{Config}
use Rattle.schedule.specs.declared.config.StartFault.{StartFault}
use Rattle.schedule.specs.Setting.{inputs_of}
use Rattle.schedule.specs.Starts.{IsCause}
use Rattle.schedule.specs.Runs.{SoFar}
use Rattle.driver.specs.declared.fault.Fault.{Fault}
use Rattle.driver.specs.Compiled.{IsCodeFor, IsObjectOf, IsTooLarge}
use Rattle.driver.specs.Objects.{StartsObject}
use Rattle.driver.specs.Refused.{IsGoodText, IsCompiled, IsRefusedText, refusal_of, IsReady, IsReadyObject, IsRefused, IsNoObject, IsRefusedObject}

-- WRITING
pub sends_whole : (E : Type 0) (x : ⊤) (old new : Option (List ℕ)) (bytes : List ℕ) → Sends {E = E} (Ok x) old new bytes → Appends old new bytes
unfolding Sends
sends_whole E x old new bytes h = h

pub sends_front : (E : Type 0) (e : E) (old new : Option (List ℕ)) (bytes : List ℕ) → Sends {E = E} (Err e) old new bytes
    → (front : List ℕ) × (rest : List ℕ) × (bytes ≡ front ++ rest) × Appends old new front
unfolding Sends
sends_front E e old new bytes h = h

-- the one object of the graph's code
pub object_bytes : (g : Graph) (c : Code) → IsCodeFor g c → (n : ℕ) → n ≡ g.version → (bytes : List ℕ) → bytes ≡ bytes_of n c → IsObjectOf g bytes
object_bytes g c made n e bytes is = record { code = c; made = made; object = (is ∙ ap (λ k. bytes_of k c) e, made.lawful) }

pub compiled_bytes : (text : List ℕ) (g : Graph) (c : Code) → IsGoodText text g → IsCodeFor g c → (n : ℕ) → n ≡ g.version → IsCompiled text g (bytes_of n c)
compiled_bytes text g c good made n e = record { good = good; object = object_bytes g c made n e (bytes_of n c) refl }

pub lawful_as : (g : Graph) (c : Code) → IsCodeFor g c → (n : ℕ) → n ≡ g.version → IsCode n c
lawful_as g c made n e = subst (λ (k : ℕ). IsCode k c) (sym e) made.lawful

-- or none, where it is too large
pub too_large : (text : List ℕ) (g : Graph) → IsGoodText text g → (f : Fault) → IsTooLarge g f → IsRefusedText text f
too_large text g good (Fault.Read f) x = absurd x
too_large text g good (Fault.Check f) x = absurd x
too_large text g good (Fault.TooManySlots b) x = (g, good, x)
too_large text g good (Fault.TooFar b) x = (g, good, x)
too_large text g good (Fault.Object f) x = absurd x
too_large text g good (Fault.Start f) x = absurd x
too_large text g good Fault.Memory x = tt

-- and then no run of it starts
pub too_large_to_run : (text : List ℕ) (g : Graph) → IsGoodText text g → (inputs : List ℤ) (c : Config) (f : Fault) → IsTooLarge g f → IsRefused text inputs c f
too_large_to_run text g good inputs c (Fault.Read f) x = absurd x
too_large_to_run text g good inputs c (Fault.Check f) x = absurd x
too_large_to_run text g good inputs c (Fault.TooManySlots b) x = (g, good, x)
too_large_to_run text g good inputs c (Fault.TooFar b) x = (g, good, x)
too_large_to_run text g good inputs c (Fault.Object f) x = absurd x
too_large_to_run text g good inputs c (Fault.Start f) x = absurd x
too_large_to_run text g good inputs c Fault.Memory x = tt

-- RUNNING
-- a run of the object that can start is a run of the text that can
pub ready_as_text : (text : List ℕ) (g : Graph) (bytes : List ℕ) (inputs : List ℤ) (c : Config) → IsCompiled text g bytes
    → IsReadyObject bytes inputs c → IsReady text inputs c
ready_as_text text g bytes inputs c k ready = record {
  graph = g;
  bytes = bytes;
  compiled = k;
  inputs_fit = ready.inputs_fit ∙ ap (λ (x : Code). inputs_of x.program) (ready.only g.version k.object.code k.object.object);
  some_frame = ready.some_frame;
  good = ready.good;
}

-- what refuses a run of the object refuses a run of the text
pub refused_as_text : (text : List ℕ) (g : Graph) (bytes : List ℕ) (inputs : List ℤ) (c : Config) → IsCompiled text g bytes → (f : Fault)
    → IsRefusedObject bytes inputs c f → IsRefused text inputs c f
refused_as_text text g bytes inputs c k (Fault.Read f) h = absurd h
refused_as_text text g bytes inputs c k (Fault.Check f) h = absurd h
refused_as_text text g bytes inputs c k (Fault.TooManySlots b) h = absurd h
refused_as_text text g bytes inputs c k (Fault.TooFar b) h = absurd h
refused_as_text text g bytes inputs c k (Fault.Object f) h = absurd (h.1 g.version k.object.code k.object.object)
refused_as_text text g bytes inputs c k (Fault.Start f) (version, d, is, only, cause, other) =
    let C : Code → Type 0 = λ x. IsCause x.program c inputs f in
    (g, bytes, k, subst C (only g.version k.object.code k.object.object) cause, other)
refused_as_text text g bytes inputs c k Fault.Memory h = tt

-- A MACHINE THAT DOES NOT START
wrong_inputs_is_no_want : StartFault.WrongInputs ≡ StartFault.Memory → ⊥
wrong_inputs_is_no_want e = cc

no_frames_is_no_want : StartFault.NoFrames ≡ StartFault.Memory → ⊥
no_frames_is_no_want e = cc

bad_config_is_no_want : StartFault.BadConfig ≡ StartFault.Memory → ⊥
bad_config_is_no_want e = cc

object_is_refused : (bytes : List ℕ) (inputs : List ℤ) (c : Config) (version : ℕ) (code : Code) → IsObject bytes version code
    → ((v : ℕ) (d : Code) → IsObject bytes v d → code ≡ d)
    → (f : StartFault) → IsCause code.program c inputs f → f ≢ StartFault.Memory → IsRefusedObject bytes inputs c (Fault.Start f)
object_is_refused bytes inputs c version code object only f cause other = (version, code, object, only, cause, other)

pub object_refused : (bytes : List ℕ) (inputs : List ℤ) (c : Config) (version : ℕ) (code : Code) → IsObject bytes version code
    → ((v : ℕ) (d : Code) → IsObject bytes v d → code ≡ d)
    → (f : StartFault) → IsCause code.program c inputs f → IsRefusedObject bytes inputs c (refusal_of f)
object_refused bytes inputs c version code object only StartFault.WrongInputs h = object_is_refused bytes inputs c version code object only
    StartFault.WrongInputs h wrong_inputs_is_no_want
object_refused bytes inputs c version code object only StartFault.NoFrames h = object_is_refused bytes inputs c version code object only
    StartFault.NoFrames h no_frames_is_no_want
object_refused bytes inputs c version code object only StartFault.BadConfig h = object_is_refused bytes inputs c version code object only
    StartFault.BadConfig h bad_config_is_no_want
object_refused bytes inputs c version code object only StartFault.Memory h = tt

-- what is not opened is not run
pub unopened_refused : (bytes : List ℕ) (inputs : List ℤ) (c : Config) (f : Fault) → IsNoObject bytes f → IsRefusedObject bytes inputs c f
unopened_refused bytes inputs c (Fault.Read f) h = absurd h
unopened_refused bytes inputs c (Fault.Check f) h = absurd h
unopened_refused bytes inputs c (Fault.TooManySlots b) h = absurd h
unopened_refused bytes inputs c (Fault.TooFar b) h = absurd h
unopened_refused bytes inputs c (Fault.Object f) h = h
unopened_refused bytes inputs c (Fault.Start f) h = absurd h
unopened_refused bytes inputs c Fault.Memory h = tt

-- A RUN OF AN OBJECT that can start
pub object_is_ready : (bytes : List ℕ) (inputs : List ℤ) (c : Config) (m : SoFar) → StartsObject bytes inputs c m → IsReadyObject bytes inputs c
object_is_ready bytes inputs c m s = record {
  version = s.version;
  code = s.code;
  object = s.object;
  only = s.only;
  inputs_fit = s.opens.arity;
  some_frame = s.opens.some_frame;
  good = s.opens.good;
}
