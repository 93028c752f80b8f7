-- The text of a trace: the events of a run, each as a line, or all of them as one object of the Trace Event format.
use Rattle.std.specs.Prelude.{ℕ, zero, suc, ◌+◌, ◌-◌, Option, Some, None, List, [], ◌∷◌, ◌++◌, length, decimal, codes, nat_lt, if◌then◌else◌}
use Rattle.tags.specs.declared.value.FaultKind.{FaultKind}
use Rattle.tags.specs.declared.value.FaultKind.TheVariants.{Zero, Range}
use Rattle.tags.specs.declared.value.Origin.{Origin}
use Rattle.tags.specs.declared.value.Origin.TheVariants.{Untold, At}
use Rattle.tags.specs.declared.value.Value.{Value}
use Rattle.tags.specs.declared.value.Value.TheVariants.{Int, Fault}
use Rattle.tags.specs.declared.token.Cont.{Cont}
use Rattle.tags.specs.declared.token.Cont.TheVariants as cont
use Rattle.tags.specs.declared.token.Word.{Word}
use Rattle.tags.specs.declared.token.Word.TheVariants as word
use Rattle.tags.specs.declared.token.To.{To}
use Rattle.tags.specs.declared.token.To.TheVariants as to
use Rattle.tags.specs.declared.token.Token.{Token}
use Rattle.semantics.specs.Program.{Instr, CodeBlock, Program, instr_at}
use Rattle.semantics.specs.Text.{field, line, literal}
use Rattle.disassembler.specs.Listing.{port_letter}
use Rattle.semantics.specs.Opcodes.{op_word}
use Rattle.replay.specs.declared.moment.Deed.{Deed}
use Rattle.replay.specs.declared.moment.Deed.TheVariants.{Waited, Fired, Answered, Deferred, Stored, Served, Given, Queued, Freed, HandedOn, Arrived}
use Rattle.replay.specs.declared.moment.Moment.{Moment}

-- WHERE A TOKEN GOES. Of an instruction its block and its number in the block, as the listing has them: the instructions are numbered
-- through all blocks, of which these are the ones from number b on.
abbrev pub place_from : ℕ → List CodeBlock → ℕ → Option (ℕ × ℕ)
place_from b [] ip = None
place_from b (x ∷ blocks) ip = if nat_lt ip (length x.instrs) then Some (b, ip) else place_from (b + 1) blocks (ip - length x.instrs)

abbrev pub place_text : Option (ℕ × ℕ) → List ℕ
place_text None = codes "-"
place_text (Some p) = decimal p.0 ++ codes "." ++ decimal p.1

abbrev pub at_text : Program → To → List ℕ
at_text p (to.Instr f ip port) = place_text (place_from 0 p.blocks ip)
at_text p (to.Fetch x) = codes "cell" ++ decimal x
at_text p (to.Store x v) = codes "cell" ++ decimal x
at_text p to.Manager = codes "manager"
at_text p (to.Release f) = codes "manager"
at_text p (to.Host j) = codes "host" ++ decimal j

abbrev pub frame_text : To → List ℕ
frame_text (to.Instr f ip port) = decimal f
frame_text (to.Release f) = decimal f
frame_text address = codes "-"

-- WHAT IS DONE THERE
abbrev pub instr_name : Option Instr → List ℕ
instr_name None = codes "-"
instr_name (Some i) = op_word i.op

abbrev pub name_text : Program → To → List ℕ
name_text p (to.Instr f ip port) = instr_name (instr_at p ip)
name_text p (to.Fetch x) = codes "read"
name_text p (to.Store x v) = codes "write"
name_text p to.Manager = codes "request"
name_text p (to.Release f) = codes "release"
name_text p (to.Host j) = codes "result"

abbrev pub port_text : To → List ℕ
port_text (to.Instr f ip port) = port_letter port
port_text address = codes "-"

abbrev pub deed_text : Deed → List ℕ
deed_text Waited = codes "waited"
deed_text Fired = codes "fired"
deed_text Answered = codes "answered"
deed_text Deferred = codes "deferred"
deed_text Stored = codes "stored"
deed_text Served = codes "served"
deed_text Given = codes "given"
deed_text Queued = codes "queued"
deed_text Freed = codes "freed"
deed_text HandedOn = codes "handed"
deed_text Arrived = codes "arrived"

-- WHAT A TOKEN CARRIES. Values as reports have them.
abbrev pub kind_word : FaultKind → List ℕ
kind_word Zero = codes "zero"
kind_word Range = codes "range"

abbrev pub origin_text : Origin → List ℕ
origin_text Untold = []
origin_text (At b n) = codes " at" ++ field (decimal b) ++ field (decimal n)

abbrev pub value_text : Value → List ℕ
value_text (Int z) = literal z
value_text (Fault k o) = codes "fault" ++ field (kind_word k) ++ origin_text o

abbrev pub cont_text : Cont → List ℕ
cont_text (cont.Frame f ip port) = codes "to" ++ field (decimal f) ++ field (decimal ip) ++ field (port_letter port)
cont_text (cont.Host j) = codes "to host" ++ field (decimal j)

abbrev pub word_text : Word → List ℕ
word_text (word.Val v) = value_text v
word_text (word.Frame f) = codes "frame" ++ field (decimal f)
word_text (word.Back c) = cont_text c

-- of a store the value, which is in the address
abbrev pub carried_text : To → Word → List ℕ
carried_text (to.Store x v) w = value_text v
carried_text address w = word_text w

-- PAIRS: the texts of what is in two lists at the same places, numbered from n on. The shorter list ends it.
abbrev pub paired : {X Y : Type 0} → (ℕ → X → Y → List ℕ) → ℕ → List X → List Y → List ℕ
paired text n [] ys = []
paired text n (x ∷ xs) [] = []
paired text n (x ∷ xs) (y ∷ ys) = text n x y ++ paired text (n + 1) xs ys

-- LINES. The number of an event and its element; where its token goes; what is done there; what it did, and what it carries.
abbrev pub head_text : ℕ → ℕ → List ℕ
head_text n e = codes "event" ++ field (decimal n) ++ field (decimal e)

abbrev pub doing_text : Program → To → Deed → List ℕ
doing_text p address d = field (name_text p address) ++ field (port_text address) ++ field (deed_text d)

abbrev pub columns_text : Program → To → Deed → List ℕ
columns_text p address d = field (frame_text address) ++ field (at_text p address) ++ doing_text p address d

abbrev pub event_line : Program → ℕ → ℕ × Token → Moment → List ℕ
event_line p n (e, t) x = line (head_text n e ++ columns_text p t.to x.deed ++ codes " " ++ carried_text t.to t.word)

abbrev pub trace_text : Program → ℕ → List (ℕ × Token) → List Moment → List ℕ
trace_text p first events moments = paired (event_line p) first events moments

-- THE TRACE EVENT FORMAT: an array of objects, each on a line. One names the lane of an element.
abbrev pub lane_text : ℕ → List ℕ
lane_text e = codes "{\"ph\":\"M\",\"pid\":0,\"tid\":" ++ decimal e ++ codes ",\"name\":\"thread_name\",\"args\":{\"name\":\"element " ++ decimal e
    ++ codes "\"}},\n"

-- a number of elements from e on
abbrev pub lanes_text : ℕ → ℕ → List ℕ
lanes_text e zero = []
lanes_text e (suc more) = lane_text e ++ lanes_text (e + 1) more

-- An event is a slice in the lane of its element, one unit long.
abbrev pub slice_open : Program → ℕ → ℕ → To → List ℕ
slice_open p n e address = codes "{\"ph\":\"X\",\"pid\":0,\"tid\":" ++ decimal e ++ codes ",\"ts\":" ++ decimal n ++ codes ",\"dur\":1,\"name\":\""
    ++ name_text p address

abbrev pub slice_deed : To → Deed → List ℕ
slice_deed address d = codes "\",\"port\":\"" ++ port_text address ++ codes "\",\"deed\":\"" ++ deed_text d

abbrev pub slice_place : Program → To → Deed → List ℕ
slice_place p address d = (codes "\",\"args\":{\"frame\":\"" ++ frame_text address) ++ (codes "\",\"at\":\"" ++ at_text p address) ++ slice_deed address d

abbrev pub slice_text : Program → ℕ → ℕ × Token → Deed → List ℕ
slice_text p n (e, t) d = slice_open p n e t.to ++ slice_place p t.to d ++ codes "\",\"word\":\"" ++ carried_text t.to t.word ++ codes "\"}},\n"

-- what the machine holds after it
abbrev pub counter_text : ℕ → Moment → List ℕ
counter_text n x = codes "{\"ph\":\"C\",\"pid\":0,\"ts\":" ++ decimal n ++ codes ",\"name\":\"machine\",\"args\":{\"tokens\":" ++ decimal x.tokens
    ++ codes ",\"full slots\":" ++ decimal x.full_slots ++ codes ",\"frames out\":" ++ decimal x.frames_out ++ codes "}},\n"

abbrev pub event_objects : Program → ℕ → ℕ × Token → Moment → List ℕ
event_objects p n ev x = slice_text p n ev x.deed ++ counter_text n x

-- The last object, which names the whole, has no comma after it.
abbrev pub chrome_text : Program → ℕ → ℕ → List (ℕ × Token) → List Moment → List ℕ
chrome_text p elements first events moments = codes "{\"traceEvents\":[\n" ++ lanes_text 0 elements ++ paired (event_objects p) first events moments
    ++ codes "{\"ph\":\"M\",\"pid\":0,\"name\":\"process_name\",\"args\":{\"name\":\"ets\"}}\n]}\n"
