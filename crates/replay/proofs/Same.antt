-- Tokens that are found to be equal are one token.
use Rattle.std.specs.Prelude.{◌≡◌, ℕ, ℤ, Bool, ◌&&◌, ◌==◌, IsTrue}
use Rattle.std.proofs.Common.{refl, sym, ap, ap₂, true≢false}
use Rattle.std.proofs.lemmas.Bool.{and_parts, eqb-true}
use Rattle.std.specs.Cmp.{signed_Decides}
use Rattle.tags.specs.declared.token.Token.{Token}
use Rattle.tags.specs.declared.token.To.{To}
use Rattle.tags.specs.declared.token.Word.{Word}
use Rattle.tags.specs.declared.token.Cont.{Cont}
use Rattle.tags.specs.declared.token.Port.{Port}
use Rattle.tags.specs.declared.value.Value.{Value}
use Rattle.tags.specs.declared.value.FaultKind.{FaultKind}
use Rattle.tags.specs.declared.value.Origin.{Origin}
use Rattle.tags.specs.contracts.token.PortPartialEq.TheImpl as port_eq
use Rattle.tags.specs.contracts.token.ContPartialEq.TheImpl as cont_eq
use Rattle.tags.specs.contracts.token.WordPartialEq.TheImpl as word_eq
use Rattle.tags.specs.contracts.token.ToPartialEq.TheImpl as to_eq
use Rattle.tags.specs.contracts.token.TokenPartialEq.TheImpl as token_eq
use Rattle.tags.specs.contracts.value.FaultKindPartialEq.TheImpl as kind_eq
use Rattle.tags.specs.contracts.value.OriginPartialEq.TheImpl as origin_eq
use Rattle.tags.specs.contracts.value.ValuePartialEq.TheImpl as value_eq

-- whether two tokens are equal
abbrev pub same : Token → Token → Bool
same = (token_eq.ghosts).eq

port_exact : (p q : Port) → IsTrue ((port_eq.ghosts).eq p q) → p ≡ q
port_exact Port.Left Port.Left e = refl
port_exact Port.Right Port.Right e = refl
port_exact p q e = absurd (true≢false (sym e))

kind_exact : (k l : FaultKind) → IsTrue ((kind_eq.ghosts).eq k l) → k ≡ l
kind_exact FaultKind.Zero FaultKind.Zero e = refl
kind_exact FaultKind.Range FaultKind.Range e = refl
kind_exact k l e = absurd (true≢false (sym e))

origin_exact : (o p : Origin) → IsTrue ((origin_eq.ghosts).eq o p) → o ≡ p
origin_exact Origin.Untold Origin.Untold e = refl
origin_exact (Origin.At b n) (Origin.At c m) e = let h = and_parts (b == c) (n == m) e in ap₂ (λ (x y : ℕ). Origin.At x y) (eqb-true b c h.0) (eqb-true n m h.1)
origin_exact o p e = absurd (true≢false (sym e))

value_exact : (v w : Value) → IsTrue ((value_eq.ghosts).eq v w) → v ≡ w
value_exact (Value.Int z) (Value.Int y) e = ap (λ (x : ℤ). Value.Int x) ((signed_Decides z y).0 e)
value_exact (Value.Fault k o) (Value.Fault l p) e =
    let h = and_parts ((kind_eq.ghosts).eq k l) ((origin_eq.ghosts).eq o p) e in
    ap₂ (λ (x : FaultKind) (y : Origin). Value.Fault x y) (kind_exact k l h.0) (origin_exact o p h.1)
value_exact v w e = absurd (true≢false (sym e))

placed : (f g i j : ℕ) (p q : Port) → IsTrue ((f == g) && ((i == j) && (port_eq.ghosts).eq p q)) → (f ≡ g) × (i ≡ j) × (p ≡ q)
placed f g i j p q e =
    let h = and_parts (f == g) ((i == j) && (port_eq.ghosts).eq p q) e in
    let k = and_parts (i == j) ((port_eq.ghosts).eq p q) h.1 in
    (eqb-true f g h.0, eqb-true i j k.0, port_exact p q k.1)

cont_exact : (c d : Cont) → IsTrue ((cont_eq.ghosts).eq c d) → c ≡ d
cont_exact (Cont.Frame f i p) (Cont.Frame g j q) e = let h = placed f g i j p q e in ap₂ (λ (x : ℕ) (y : ℕ × Port). Cont.Frame x y.0 y.1) h.0
    (ap₂ (λ (x : ℕ) (y : Port). (x, y)) h.1 h.2)
cont_exact (Cont.Host p) (Cont.Host q) e = ap (λ (x : ℕ). Cont.Host x) (eqb-true p q e)
cont_exact c d e = absurd (true≢false (sym e))

word_exact : (u v : Word) → IsTrue ((word_eq.ghosts).eq u v) → u ≡ v
word_exact (Word.Val v) (Word.Val w) e = ap (λ (x : Value). Word.Val x) (value_exact v w e)
word_exact (Word.Frame f) (Word.Frame g) e = ap (λ (x : ℕ). Word.Frame x) (eqb-true f g e)
word_exact (Word.Back c) (Word.Back d) e = ap (λ (x : Cont). Word.Back x) (cont_exact c d e)
word_exact u v e = absurd (true≢false (sym e))

to_exact : (a b : To) → IsTrue ((to_eq.ghosts).eq a b) → a ≡ b
to_exact (To.Instr f ip p) (To.Instr g iq q) e = let h = placed f g ip iq p q e in ap₂ (λ (x : ℕ) (y : ℕ × Port). To.Instr x y.0 y.1) h.0
    (ap₂ (λ (x : ℕ) (y : Port). (x, y)) h.1 h.2)
to_exact (To.Fetch x) (To.Fetch y) e = ap (λ (z : ℕ). To.Fetch z) (eqb-true x y e)
to_exact (To.Store x v) (To.Store y w) e = let h = and_parts (x == y) ((value_eq.ghosts).eq v w) e in ap₂ (λ (z : ℕ) (u : Value). To.Store z u)
    (eqb-true x y h.0)
    (value_exact v w h.1)
to_exact To.Manager To.Manager e = refl
to_exact (To.Release f) (To.Release g) e = ap (λ (z : ℕ). To.Release z) (eqb-true f g e)
to_exact (To.Host p) (To.Host q) e = ap (λ (z : ℕ). To.Host z) (eqb-true p q e)
to_exact a b e = absurd (true≢false (sym e))

pub same_exact : (t u : Token) → IsTrue (same t u) → t ≡ u
same_exact t u e =
    let h = and_parts ((to_eq.ghosts).eq t.to u.to) ((word_eq.ghosts).eq t.word u.word) e in
    ap₂ (λ (x : To) (y : Word). record { to = x; word = y }) (to_exact t.to u.to h.0) (word_exact t.word u.word h.1)
