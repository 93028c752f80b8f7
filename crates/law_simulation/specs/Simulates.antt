-- When the code of one plan does what the code of another plan does, in terms of tokens: a token of the new code stands for a token of the old code
-- at another place, or, at an instruction that the old code does not have or has already executed, for what results from it.
use Rattle.std.specs.Prelude.{◌≡◌, ℕ, ◌+◌, ◌<◌, ◌≤◌, ℤ, Bool, true, false, ◌⊎◌, List, [], ◌∷◌, ◌++◌, Some, None, Contains, IsPermutation, ⊤}
use Rattle.tags.specs.declared.value.Value.{Value}
use Rattle.tags.specs.declared.value.Value.TheVariants.{Int}
use Rattle.tags.specs.declared.token.Port.{Port}
use Rattle.tags.specs.declared.token.Port.TheVariants.{Left, Right}
use Rattle.tags.specs.declared.token.Cont.{Cont}
use Rattle.tags.specs.declared.token.Word.{Word}
use Rattle.tags.specs.declared.token.To.{To}
use Rattle.tags.specs.declared.token.Token.{Token}
use Rattle.tags.specs.declared.slot.SlotState.{SlotState}
use Rattle.tags.specs.declared.slot.SlotState.TheVariants as Slot
use Rattle.tags.specs.declared.slot.SlotState.TheVariants.{Waiter}
use Rattle.operators.specs.declared.Binary.{Binary}
use Rattle.semantics.specs.declared.program.Dest.{Dest}
use Rattle.semantics.specs.declared.program.Mark.{Mark}
use Rattle.semantics.specs.declared.program.Op.{Op}
use Rattle.semantics.specs.declared.program.Op.TheVariants.{Apply2, Apply2Right, Apply2Left, Lit, Copy, Switch, Link, Send, Return, Ask, Release}
use Rattle.semantics.specs.Program.{Instr, Program, first_of, instr_at}
use Rattle.semantics.specs.Rule.{token, to_each, to_all, back_to}
use Rattle.semantics.specs.Machine.{outputs_of}
use Rattle.semantics.specs.Plan.{Plan, landing}
use Rattle.semantics.specs.Holders.{holder_at}
use Rattle.semantics.specs.Credits.{IsLink}
use Rattle.semantics.specs.Wired.{IsWired}
use Rattle.semantics.specs.Orderly.{Orderly, IsMarked, inputs_of, is_entry, often, same_block}
use Rattle.folding.specs.Laws.{other_port}
use Rattle.law_fresh_frames.specs.Alike.{HasLanding, RunsAlike, LandsRightly, Keeps}
use Rattle.law_simulation.specs.Places.{Spot, ip_word, ip_token, is_answered}

abbrev pub fires_lit : ℕ → ℕ → ℤ → Instr → List Token
fires_lit f a z i = to_all record { frame = f; ip = a } (Word.Val (Int z)) i

-- An instruction that stands for itself: its tokens do, in its new place. So does a place at which there is nothing, if no two places become one.
pub data Plain (p q : Program) (h : ℕ → ℕ) (a : ℕ) : Type 0 where
  itself : (i j : Instr) → instr_at p a ≡ Some i → instr_at q (h a) ≡ Some j → Plain p q h a
  empty : instr_at p a ≡ None → instr_at q (h a) ≡ None → ((b c : ℕ) → h b ≡ h c → b ≡ c) → Plain p q h a

abbrev pub Fits : Program → Program → (ℕ → ℕ) → To → Type 0
Fits p q h (To.Instr f a r) = Plain p q h a
Fits p q h to = ⊤

-- no such instruction is there
abbrev pub Fresh : Program → Program → (ℕ → ℕ) → ℕ → Type 0
Fresh p q h ip = (b : ℕ) → Plain p q h b → ip ≡ h b → ⊥

-- what passes on
abbrev pub hands_on : Op → Bool
hands_on (Lit z) = true
hands_on Copy = true
hands_on op = false

-- A copy that is left out: it has one destination, which stands for itself, and each token that arrived at it goes there at once. It is no entry,
-- and nothing that passes on and leads to it is left out as well.
pub record Skips (p q : Program) (h : ℕ → ℕ) (a : ℕ) : Type 0 where
  pub i : Instr
  pub d : Dest
  pub at : instr_at p a ≡ Some i
  pub op : i.op ≡ Copy
  pub dests : i.firsts ++ i.seconds ≡ d ∷ []
  pub entry : is_entry p.blocks a ≡ false
  pub apart : Plain p q h a → ⊥
  pub behind : Plain p q h (a + d.ahead)
  pub before : (b : ℕ) (k : Instr) (e : Dest) → instr_at p b ≡ Some k → hands_on k.op ≡ true → Contains (k.firsts ++ k.seconds) e → b + e.ahead ≡ a
      → Plain p q h b

-- The port that stands for itself at which what is sent to that one arrives: it, or the one after a copy that is left out
pub data Reaches (p q : Program) (h : ℕ → ℕ) (a : ℕ) (r : Port) (x : Spot) : Type 0 where
  straight : Plain p q h a → x ≡ (a, r) → Reaches p q h a r x
  over : (K : Skips p q h a) → x ≡ (a + K.d.ahead, K.d.port) → Reaches p q h a r x

-- PASSING ON. A copy passes on the word that arrives, and a literal its number.

-- that it passes on v for w, if the words that trigger literals are of that kind
abbrev pub HandsOn : (Word → Type 0) → Op → Word → Word → Type 0
HandsOn kind (Lit z) w v = (v ≡ Word.Val (Int z)) × kind w
HandsOn kind Copy w v = v ≡ w
HandsOn kind op w v = ⊥

-- An instruction that passes on and stands for no old one, or for one that fired already in the old code: a token is at it, or at another such one
-- that leads to it.
pub data Node (p q : Program) (h : ℕ → ℕ) (f : ℕ) (seen : List Token) : ℕ → Type 0 where
  top : (ip : ℕ) (t : Token) (j : Instr) → Contains seen t → t.to ≡ To.Instr f ip Left → instr_at q ip ≡ Some j → hands_on j.op ≡ true → Fresh p q h ip
      → Node p q h f seen ip
  next : (ip up : ℕ) (k j : Instr) (d : Dest) → Node p q h f seen up → instr_at q up ≡ Some k → hands_on k.op ≡ true → Contains (k.firsts ++ k.seconds) d
      → ip ≡ up + d.ahead → d.port ≡ Left → instr_at q ip ≡ Some j → hands_on j.op ≡ true → Fresh p q h ip → Node p q h f seen ip

-- such a one leads to the port of the instruction of that number
pub record Pend (p q : Program) (h : ℕ → ℕ) (f a : ℕ) (r : Port) (seen : List Token) : Type 0 where
  pub ip : ℕ
  pub j : Instr
  pub d : Dest
  pub node : Node p q h f seen ip
  pub at : instr_at q ip ≡ Some j
  pub op : hands_on j.op ≡ true
  pub named : Contains (j.firsts ++ j.seconds) d
  pub place : ip + d.ahead ≡ h a
  pub port : d.port ≡ r

-- what results from the one of that number that passes on, in frame f, is on its way
abbrev pub Pends : Program → Program → (ℕ → ℕ) → List Token → ℕ → ℕ → Type 0
Pends p q h new f l =
    (Plain p q h l → ⊥) × ((i : Instr) (d : Dest) → instr_at p l ≡ Some i → Contains (i.firsts ++ i.seconds) d → Plain p q h (l + d.ahead)
    → Pend p q h f (l + d.ahead) d.port new)

-- or it is left out
abbrev pub Sends : Program → Program → (ℕ → ℕ) → List Token → ℕ → ℕ → Type 0
Sends p q h new f l = Pends p q h new f l ⊎ Skips p q h l

abbrev pub IsValue : Word → Type 0
IsValue w = (v : Value) × (w ≡ Word.Val v)

-- WHAT A TOKEN STANDS FOR. `g` is the new place of an instruction that is not left out. `h` is the same where the tokens
-- of an instruction stand for themselves; elsewhere it is a place where there is nothing. The words that trigger literals that
-- fired already are of the kind `kind`.
mutual
  pub data StandsBy (kind : Word → Type 0) (p q : Program) (g h : ℕ → ℕ) : Token → List Token → Type 0 where
    -- for one in its new place
    moved : (t : Token) (ts : List Token) (u : Token) → t ≡ ip_token h u → ts ≡ u ∷ [] → Fits p q h u.to → StandsBy kind p q g h t ts
    -- at one that passes on: for what results from it, which is something
    through : (t : Token) (ts : List Token) (f ip : ℕ) (w v : Word) (j : Instr) → t ≡ token (To.Instr f ip Left) w → instr_at q ip ≡ Some j
        → HandsOn kind j.op w v → StandAllBy kind p q g h (to_all record { frame = f; ip = ip } v j) ts
        → (d : Dest) → Contains (j.firsts ++ j.seconds) d → Fresh p q h ip → StandsBy kind p q g h t ts
    -- at an operator with a literal operand: for both operands
    right : (t : Token) (ts : List Token) (f a : ℕ) (w : Word) (o : Binary) (z : ℤ) (i j : Instr) → t ≡ token (To.Instr f (g a) Left) (ip_word h w)
        → instr_at p a ≡ Some i → i.op ≡ Apply2 o
        → instr_at q (g a) ≡ Some j → j.op ≡ Apply2Right o z → ts ≡ token (To.Instr f a Left) w ∷ token (To.Instr f a Right) (Word.Val (Int z)) ∷ []
        → Fresh p q h (g a) → StandsBy kind p q g h t ts
    left : (t : Token) (ts : List Token) (f a : ℕ) (w : Word) (o : Binary) (z : ℤ) (i j : Instr) → t ≡ token (To.Instr f (g a) Left) (ip_word h w)
        → instr_at p a ≡ Some i → i.op ≡ Apply2 o
        → instr_at q (g a) ≡ Some j → j.op ≡ Apply2Left o z → ts ≡ token (To.Instr f a Right) w ∷ token (To.Instr f a Left) (Word.Val (Int z)) ∷ []
        → Fresh p q h (g a) → StandsBy kind p q g h t ts

  pub data StandAllBy (kind : Word → Type 0) (p q : Program) (g h : ℕ → ℕ) : List Token → List Token → Type 0 where
    stand_none : (xs ys : List Token) → xs ≡ [] → ys ≡ [] → StandAllBy kind p q g h xs ys
    stand_more : (xs ys : List Token) (t : Token) (ts us vs : List Token) → StandsBy kind p q g h t us → StandAllBy kind p q g h ts vs → xs ≡ t ∷ ts
        → ys ≡ us ++ vs → StandAllBy kind p q g h xs ys

abbrev pub Stands : Program → Program → (ℕ → ℕ) → (ℕ → ℕ) → Token → List Token → Type 0
Stands p q g h = StandsBy IsValue p q g h

abbrev pub StandAll : Program → Program → (ℕ → ℕ) → (ℕ → ℕ) → List Token → List Token → Type 0
StandAll p q g h = StandAllBy IsValue p q g h

-- what results from tokens as those that pass on fire among the ones at which they are, if they may
pub data Settles (may : ℕ → ℕ → Type 0) (p : Program) : List Token → List Token → Type 0 where
  settled : (xs ys : List Token) → IsPermutation xs ys → Settles may p xs ys
  fired : (xs ys : List Token) (f a : ℕ) (w v : Word) (i : Instr) (rest : List Token) → IsPermutation xs (token (To.Instr f a Left) w ∷ rest)
      → instr_at p a ≡ Some i → HandsOn (λ w. ⊤) i.op w v
      → Settles may p (to_all record { frame = f; ip = a } v i ++ rest) ys → may f a → Settles may p xs ys

-- tokens of the new code stand for what results from those of the old one
pub record Clumped (p q : Program) (g h : ℕ → ℕ) (new old : List Token) : Type 0 where
  pub meant : List Token
  pub stand : StandAll p q g h new meant
  pub settles : Settles (Sends p q h new) p old meant

-- What results from the old tokens has both operands of an operator: the word, and a value.
pub record Pairs (p : Program) (old : List Token) (w : Word) : Type 0 where
  pub frame : ℕ
  pub a : ℕ
  pub r : Port
  pub v : Value
  pub i : Instr
  pub o : Binary
  pub rest : List Token
  pub at : instr_at p a ≡ Some i
  pub op : i.op ≡ Apply2 o
  pub settles : Settles (λ f l. ⊤) p old (token (To.Instr frame a r) w ∷ token (To.Instr frame a (other_port r)) (Word.Val v) ∷ rest)

-- The new tokens stand for what results from the old ones if the word is a value; and if this is needed, an operator that takes the
-- word shows it.
pub record Ready (p q : Program) (g h : ℕ → ℕ) (w : Word) (new old : List Token) : Type 0 where
  pub value : IsValue w → Clumped p q g h new old
  pub tells : Clumped p q g h new old ⊎ Pairs p old w

-- WAYS. One that passes on leads to the port.
pub data Path (p q : Program) (h : ℕ → ℕ) : ℕ → Spot → Type 0 where
  at_end : (ip : ℕ) (x : Spot) (j : Instr) (d : Dest) → instr_at q ip ≡ Some j → hands_on j.op ≡ true → Fresh p q h ip → Contains (j.firsts ++ j.seconds) d
      → ip + d.ahead ≡ h x.0 → d.port ≡ x.1 → Path p q h ip x
  onward : (ip : ℕ) (x : Spot) (j : Instr) (d : Dest) → instr_at q ip ≡ Some j → hands_on j.op ≡ true → Fresh p q h ip → Contains (j.firsts ++ j.seconds) d
      → d.port ≡ Left → Path p q h (ip + d.ahead) x → Path p q h ip x

-- one of the destinations is that port, or leads to it
pub record Way (p q : Program) (h : ℕ → ℕ) (ip : ℕ) (ds : List Dest) (x : Spot) : Type 0 where
  pub d : Dest
  pub named : Contains ds d
  pub leads : ((ip + d.ahead ≡ h x.0) × (d.port ≡ x.1)) ⊎ ((d.port ≡ Left) × Path p q h (ip + d.ahead) x)

-- The new destinations of the one stand for the old ones of the other, and lead where these led.
pub record Leads (p q : Program) (g h : ℕ → ℕ) (ip : ℕ) (ds : List Dest) (a : ℕ) (es : List Dest) : Type 0 where
  pub made : (f : ℕ) (w : Word)
      → Ready p q g h w (to_each record { frame = f; ip = ip } (ip_word h w) ds) (to_each record { frame = f; ip = a } w es)
  pub ways : (e : Dest) → Contains es e → Plain p q h (a + e.ahead) → Way p q h ip ds (a + e.ahead, e.port)
  pub overs : (e : Dest) → Contains es e → (K : Skips p q h (a + e.ahead)) → Way p q h ip ds (a + e.ahead + K.d.ahead, K.d.port)

-- what it enters is where it was
abbrev pub Enters : Program → Program → (ℕ → ℕ) → Op → Type 0
Enters p q h (Link b) = (h (first_of p b) ≡ first_of q b) × Plain p q h (first_of p b)
Enters p q h (Send b e) = (h (first_of p b + e) ≡ first_of q b + e) × Plain p q h (first_of p b + e)
Enters p q h op = ⊤

-- the instruction i of number a, in its new place
pub record IsMoved (p q : Program) (g h : ℕ → ℕ) (a : ℕ) (i : Instr) : Type 0 where
  pub j : Instr
  pub there : instr_at q (h a) ≡ Some j
  pub op : j.op ≡ i.op
  pub origin : j.origin ≡ i.origin
  pub slot : j.slot ≡ i.slot
  pub all : Leads p q g h (h a) (j.firsts ++ j.seconds) a (i.firsts ++ i.seconds)
  pub firsts : i.op ≡ Switch → Leads p q g h (h a) j.firsts a i.firsts
  pub seconds : (i.op ≡ Switch → Leads p q g h (h a) j.seconds a i.seconds) × ((b : ℕ) → i.op ≡ Link b → Leads p q g h (h a) j.seconds a i.seconds)
  pub answered : is_answered i.op ≡ true
      → (d : Dest) × (e : Dest) × (i.firsts ≡ d ∷ []) × (j.firsts ≡ e ∷ []) × (h (a + d.ahead) ≡ h a + e.ahead) × (e.port ≡ d.port) × Plain p q h (a + d.ahead)
  pub enters : Enters p q h i.op

-- an operator with a literal operand does what it did with both
pub record IsPair (p q : Program) (g h : ℕ → ℕ) (a : ℕ) (i j : Instr) : Type 0 where
  pub origin : j.origin ≡ i.origin
  pub all : Leads p q g h (g a) (j.firsts ++ j.seconds) a (i.firsts ++ i.seconds)

pub record Relates (p q : Plan) : Type 0 where
  pub g : ℕ → ℕ
  pub h : ℕ → ℕ
  pub arrays : q.program.arrays ≡ p.program.arrays
  pub outputs : outputs_of q.program ≡ outputs_of p.program
  pub inputs : inputs_of q ≡ inputs_of p
  pub instrs : (a : ℕ) (i : Instr) → instr_at p.program a ≡ Some i → IsMoved p.program q.program g h a i ⊎ (instr_at q.program (h a) ≡ None)
  pub rights : (a : ℕ) (o : Binary) (z : ℤ) (i j : Instr) → instr_at p.program a ≡ Some i → i.op ≡ Apply2 o → instr_at q.program (g a) ≡ Some j
      → j.op ≡ Apply2Right o z → IsPair p.program q.program g h a i j
  pub lefts : (a : ℕ) (o : Binary) (z : ℤ) (i j : Instr) → instr_at p.program a ≡ Some i → i.op ≡ Apply2 o → instr_at q.program (g a) ≡ Some j
      → j.op ≡ Apply2Left o z → IsPair p.program q.program g h a i j
  pub landings : (base o : ℕ) → HasLanding p base o → (h (base + o) ≡ h base + o) × Plain p.program q.program h (base + o)
  pub entries : (n : ℕ) → n ≤ inputs_of p
      → (h (first_of p.program p.program.main + n) ≡ first_of q.program q.program.main + n)
      × Plain p.program q.program h (first_of p.program p.program.main + n)
  -- where answers go
  pub answers : (a : ℕ) (i : Instr) → instr_at p.program a ≡ Some i → is_answered i.op ≡ true
      → (d : Dest) × (i.firsts ≡ d ∷ []) × Plain p.program q.program h (a + d.ahead)
  -- each has its holder
  pub holders : (a : ℕ) → Plain p.program q.program h a → holder_at q (h a) ≡ holder_at p a
  -- no two are at one place
  pub apart : (a b : ℕ) → Plain p.program q.program h a → Plain p.program q.program h b → h a ≡ h b → a ≡ b
  pub pairs_apart : (a b : ℕ) (i k j : Instr) (o u : Binary) → instr_at p.program a ≡ Some i → instr_at p.program b ≡ Some k → i.op ≡ Apply2 o → k.op ≡ Apply2 u
      → instr_at q.program (g a) ≡ Some j → g a ≡ g b → a ≡ b
  -- what passes on leads ahead
  pub later : (ip : ℕ) (j : Instr) (d : Dest) → instr_at q.program ip ≡ Some j → hands_on j.op ≡ true → Fresh p.program q.program h ip
      → Contains (j.firsts ++ j.seconds) d → 0 < d.ahead

-- WORDS. What a word names stands for itself,
abbrev pub FitsWord : Program → Program → (ℕ → ℕ) → Word → Type 0
FitsWord p q h (Word.Back c) = Fits p q h (back_to c)
FitsWord p q h w = ⊤

abbrev pub FitsSlot : Program → Program → (ℕ → ℕ) → SlotState → Type 0
FitsSlot p q h (Slot.Left w) = FitsWord p q h w
FitsSlot p q h (Slot.Right w) = FitsWord p q h w
FitsSlot p q h (Waiter c) = Fits p q h (back_to c)
FitsSlot p q h s = ⊤

-- the landing that it names stays a row,
abbrev pub Goes : Program → Program → (ℕ → ℕ) → Op → Word → Type 0
Goes p q h (Return o) (Word.Back (Cont.Frame f base r)) = (h (base + o) ≡ h base + o) × Plain p q h (base + o)
Goes p q h (Ask o) (Word.Back (Cont.Frame f base r)) = (h (base + o) ≡ h base + o) × Plain p q h (base + o)
Goes p q h (Release o) (Word.Back (Cont.Frame f base r)) = (h (base + o) ≡ h base + o) × Plain p q h (base + o)
Goes p q h op w = ⊤

-- of the left word that is there when the token arrives.
abbrev pub Arrives : Program → Program → (ℕ → ℕ) → Op → SlotState → Port → Word → Type 0
Arrives p q h op (Slot.Left l) Right w = Goes p q h op l
Arrives p q h op (Slot.Right r) Left w = Goes p q h op w
Arrives p q h op slot r w = ⊤

-- an operator with a literal operand
abbrev pub is_pair : Op → Bool
is_pair (Apply2Right o z) = true
is_pair (Apply2Left o z) = true
is_pair op = false

-- PORTS. A port of the new code stands for one of the old: the port of what passes on for one after it.
pub data Leaf (p q : Program) (g h : ℕ → ℕ) : ℕ → Port → Spot → Type 0 where
  at_moved : (ip : ℕ) (r : Port) (x : Spot) (a : ℕ) → ip ≡ h a → Plain p q h a → x ≡ (a, r) → Leaf p q g h ip r x
  at_pair : (ip : ℕ) (r : Port) (x : Spot) (a : ℕ) (i j : Instr) (o : Binary) → ip ≡ g a → instr_at p a ≡ Some i → i.op ≡ Apply2 o
      → instr_at q (g a) ≡ Some j → is_pair j.op ≡ true → Fresh p q h (g a) → r ≡ Left → x ≡ (a, Left) → Leaf p q g h ip r x
  behind : (ip : ℕ) (r : Port) (x : Spot) (j : Instr) (d : Dest) → instr_at q ip ≡ Some j → hands_on j.op ≡ true → Fresh p q h ip → r ≡ Left
      → Contains (j.firsts ++ j.seconds) d → Leaf p q g h (ip + d.ahead) d.port x → Leaf p q g h ip r x

-- an event that grants nothing and releases nothing
abbrev pub counts_none : Op → Bool
counts_none (Lit z) = true
counts_none Copy = true
counts_none (Apply2 o) = true
counts_none (Apply2Right o z) = true
counts_none (Apply2Left o z) = true
counts_none op = false

-- THE PRINCIPLE. The tokens of the new code stand for those of the old one, and what order and bounds require of instructions holds in their new
-- places.
pub record Simulates (p q : Plan) : Type 0 where
  pub relates : Relates p q
  -- what grants, releases or is answered stands for itself, and where it is in the new code it was in the old one
  pub stays : (a : ℕ) (i : Instr) → instr_at p.program a ≡ Some i → counts_none i.op ≡ false → Plain p.program q.program relates.h a
  pub back : (ip : ℕ) (j : Instr) → instr_at q.program ip ≡ Some j → counts_none j.op ≡ false
      → (a : ℕ) × (ip ≡ relates.h a) × Plain p.program q.program relates.h a
  -- landings stay rows, and as long
  pub sizes : (b : ℕ) → landing q b ≡ landing p b
  pub rows : (ip callee base o : ℕ) → IsLink p.program ip callee base → o < landing p callee → relates.h (base + o) ≡ relates.h base + o
  pub lands : (base o : ℕ) → HasLanding p base o → HasLanding q (relates.h base) o
  -- and no copy of them is left out
  pub unskipped : (ip callee base o : ℕ) → IsLink p.program ip callee base → o < landing p callee → Skips p.program q.program relates.h (base + o) → ⊥
  -- marks, blocks, ports with one token, and entries
  pub marks : (a : ℕ) (m : Mark) → Plain p.program q.program relates.h a → IsMarked q (relates.h a) m → IsMarked p a m
  pub blocks : (ip jp : ℕ) (r t : Port) (x y : Spot) → Leaf p.program q.program relates.g relates.h ip r x
      → Leaf p.program q.program relates.g relates.h jp t y
      → same_block p.program.blocks x.0 y.0 ≡ true → same_block q.program.blocks ip jp ≡ true
  pub lone : (ip : ℕ) (r : Port) (x : Spot) → Leaf p.program q.program relates.g relates.h ip r x → often (instr_at q.program ip) ≡ false
      → often (instr_at p.program x.0) ≡ false
  pub entries : (a : ℕ) → is_entry p.program.blocks a ≡ true → is_entry q.program.blocks (relates.h a) ≡ true

-- Each run of the new code looks like one of the old code beside it,
abbrev pub RelatedRunsAlike : Type 0
RelatedRunsAlike = (p q : Plan) → Relates p q → IsWired p → Orderly p → LandsRightly p → RunsAlike p q

-- and so all that passes must keep is kept.
abbrev pub SimulationKeeps : Type 0
SimulationKeeps = (p q : Plan) → Simulates p q → IsWired p → Orderly p → LandsRightly p → Keeps p q
