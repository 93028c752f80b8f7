-- One text sent after another.
use Rattle.std.proofs.Common.{◌≡◌, ℕ, List, [], ◌++◌, Option, Result, Ok, Err, sym, ap, ◌∙◌, append_assoc}
use Rattle.std.specs.Prelude.{⊤}
use Rattle.std.specs.Io.KnownBytes.{Appends}
use Rattle.sink.specs.Sends.{Sends}
use Rattle.sink.proofs.Sent.{appends_none, appends_then, sends_from, sends_less, sends_more, sends_other, sends_same, sends_whole}
use Rattle.std.proofs.lemmas.List.{append-nil}

-- the first text was not sent whole
pub stopped : {E : Type 0} (d e : E) (a b : Option (List ℕ)) (first more : List ℕ) → Sends (Err d) a b first → Sends (Err e) a b (first ++ more)
stopped d e a b first more p = sends_less e a b first more (sends_other d e a b first p)

-- it was
pub after : {E : Type 0} (before r : Result ⊤ E) (a b c : Option (List ℕ)) (first more : List ℕ) → before ≡ Ok tt → Sends before a b first
    → Sends r b c more → Sends r a c (first ++ more)
after before r a b c first more ok p q = sends_more r a b c first more (sends_from before a b first ok p) q

-- OF A WHOLE TEXT a beginning is sent, and this is left.
abbrev pub Walked : List ℕ → List ℕ → Option (List ℕ) → Option (List ℕ) → Type 0
Walked whole left a b = (front : List ℕ) × (whole ≡ front ++ left) × Appends a b front

pub begins : (whole left : List ℕ) (a : Option (List ℕ)) → whole ≡ left → Walked whole left a a
begins whole left a e = ([], e, appends_none a)

pub ends_with : {E : Type 0} (r : Result ⊤ E) (whole left last : List ℕ) (a b c : Option (List ℕ)) → left ≡ last → Walked whole left a b → Sends r b c last
    → Sends r a c whole
ends_with r whole left last a b c e w q =
    sends_same r a c (w.0 ++ last) whole (sym (w.1 ∙ ap (λ (l : List ℕ). w.0 ++ l) e)) (sends_more r a b c w.0 last w.2 q)

pub ends : {E : Type 0} (r : Result ⊤ E) (x : ⊤) (whole left : List ℕ) (a b : Option (List ℕ)) → r ≡ Ok x → left ≡ [] → Walked whole left a b → Sends r a b whole
ends r x whole left a b ok e w =
    sends_same r a b w.0 whole (sym (w.1 ∙ ap (λ (l : List ℕ). w.0 ++ l) e ∙ append-nil w.0)) (sends_whole r x a b w.0 ok w.2)

one_more : (whole left next more front : List ℕ) → left ≡ next ++ more → whole ≡ front ++ left → whole ≡ (front ++ next) ++ more
one_more whole left next more front e w = w ∙ ap (λ (l : List ℕ). front ++ l) e ∙ sym (append_assoc front next more)

pub stops : {E : Type 0} (d e : E) (whole left next more : List ℕ) (a b c : Option (List ℕ)) → left ≡ next ++ more → Walked whole left a b
    → Sends (Err d) b c next → Sends (Err e) a c whole
stops d e whole left next more a b c is w q =
    sends_same (Err e) a c ((w.0 ++ next) ++ more) whole (sym (one_more whole left next more w.0 is w.1))
    (sends_less e a c (w.0 ++ next) more (sends_more (Err e) a b c w.0 next w.2 (sends_other d e b c next q)))

pub goes_on : {E : Type 0} (r : Result ⊤ E) (whole left next more : List ℕ) (a b c : Option (List ℕ)) → left ≡ next ++ more → r ≡ Ok tt → Walked whole left a b
    → Sends r b c next → Walked whole more a c
goes_on r whole left next more a b c is ok w q =
    (w.0 ++ next, one_more whole left next more w.0 is w.1, appends_then a b c w.0 next w.2 (sends_from r b c next ok q))
