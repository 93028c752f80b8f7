-- Objects whose pieces were sent.
use Rattle.std.proofs.Common.{◌≡◌, ◌∙◌, ℕ, List, [], ◌++◌, Option, Result, sym, ap, append_assoc, append-nil}
use Rattle.std.specs.Prelude.{⊤, codes, decimal}
use Rattle.tags.specs.declared.token.To.{To}
use Rattle.semantics.specs.Program.{Program}
use Rattle.replay.specs.declared.moment.Moment.{Moment}
use Rattle.sink.specs.Sends.{Sends}
use Rattle.sink.proofs.Sent.{sends_same}
use Rattle.trace_text.specs.TraceText.{lane_text, slice_open, counter_text, name_text}

-- pieces that are joined from the last one on
join3 : (a b c : List ℕ) → a ++ (b ++ c) ≡ (a ++ b) ++ c
join3 a b c = sym (append_assoc a b c)

join4 : (a b c d : List ℕ) → a ++ (b ++ (c ++ d)) ≡ ((a ++ b) ++ c) ++ d
join4 a b c d = join3 a b (c ++ d) ∙ join3 (a ++ b) c d

join5 : (a b c d e : List ℕ) → a ++ (b ++ (c ++ (d ++ (e)))) ≡ (((a ++ b) ++ c) ++ d) ++ e
join5 a b c d e = join3 a b (c ++ (d ++ (e))) ∙ join4 (a ++ b) c d e

join6 : (a b c d e f : List ℕ) → a ++ (b ++ (c ++ (d ++ (e ++ (f))))) ≡ ((((a ++ b) ++ c) ++ d) ++ e) ++ f
join6 a b c d e f = join3 a b (c ++ (d ++ (e ++ (f)))) ∙ join5 (a ++ b) c d e f

join7 : (a b c d e f g : List ℕ) → a ++ (b ++ (c ++ (d ++ (e ++ (f ++ (g)))))) ≡ (((((a ++ b) ++ c) ++ d) ++ e) ++ f) ++ g
join7 a b c d e f g = join3 a b (c ++ (d ++ (e ++ (f ++ (g))))) ∙ join6 (a ++ b) c d e f g

join8 : (a b c d e f g h : List ℕ) → a ++ (b ++ (c ++ (d ++ (e ++ (f ++ (g ++ (h))))))) ≡ ((((((a ++ b) ++ c) ++ d) ++ e) ++ f) ++ g) ++ h
join8 a b c d e f g h = join3 a b (c ++ (d ++ (e ++ (f ++ (g ++ (h)))))) ∙ join7 (a ++ b) c d e f g h

join9 : (a b c d e f g h i : List ℕ) → a ++ (b ++ (c ++ (d ++ (e ++ (f ++ (g ++ (h ++ (i)))))))) ≡ (((((((a ++ b) ++ c) ++ d) ++ e) ++ f) ++ g) ++ h) ++ i
join9 a b c d e f g h i = join3 a b (c ++ (d ++ (e ++ (f ++ (g ++ (h ++ (i))))))) ∙ join8 (a ++ b) c d e f g h i

pub lane : {E : Type 0} (r : Result ⊤ E) (a b : Option (List ℕ)) (e : ℕ) (x : List ℕ) → x ≡ decimal e
    → Sends r a b (codes "{\"ph\":\"M\",\"pid\":0,\"tid\":"
    ++ (x ++ (codes ",\"name\":\"thread_name\",\"args\":{\"name\":\"element " ++ (x ++ (codes "\"}},\n")))))
    → Sends r a b (lane_text e)
lane r a b e x is h =
    sends_same r a b (codes "{\"ph\":\"M\",\"pid\":0,\"tid\":"
    ++ (x ++ (codes ",\"name\":\"thread_name\",\"args\":{\"name\":\"element " ++ (x ++ (codes "\"}},\n"))))) (lane_text e)
    (join5 (codes "{\"ph\":\"M\",\"pid\":0,\"tid\":") x (codes ",\"name\":\"thread_name\",\"args\":{\"name\":\"element ") x (codes "\"}},\n")
    ∙ ap (λ (t : List ℕ). (((codes "{\"ph\":\"M\",\"pid\":0,\"tid\":" ++ t) ++ codes ",\"name\":\"thread_name\",\"args\":{\"name\":\"element ")
    ++ t) ++ codes "\"}},\n") is) h

pub opened : {E : Type 0} (r : Result ⊤ E) (a b : Option (List ℕ)) (p : Program) (n e : ℕ) (address : To) (x y z : List ℕ) → x ≡ decimal e → y
    ≡ decimal n → z ≡ name_text p address
    → Sends r a b (codes "{\"ph\":\"X\",\"pid\":0,\"tid\":" ++ (x ++ (codes ",\"ts\":" ++ (y ++ (codes ",\"dur\":1,\"name\":\"" ++ ((z ++ [])))))))
    → Sends r a b (slice_open p n e address)
opened r a b p n e address x y z is_x is_y is_z h =
    sends_same r a b (codes "{\"ph\":\"X\",\"pid\":0,\"tid\":" ++ (x ++ (codes ",\"ts\":" ++ (y ++ (codes ",\"dur\":1,\"name\":\"" ++ ((z ++ [])))))))
    (slice_open p n e address)
    (ap (λ (t : List ℕ). codes "{\"ph\":\"X\",\"pid\":0,\"tid\":" ++ (x ++ (codes ",\"ts\":" ++ (y ++ (codes ",\"dur\":1,\"name\":\"" ++ (t)))))) (append-nil z)
    ∙ join6 (codes "{\"ph\":\"X\",\"pid\":0,\"tid\":") x (codes ",\"ts\":") y (codes ",\"dur\":1,\"name\":\"") z
    ∙ ap (λ (t : List ℕ). ((((codes "{\"ph\":\"X\",\"pid\":0,\"tid\":" ++ t) ++ codes ",\"ts\":") ++ y) ++ codes ",\"dur\":1,\"name\":\"") ++ z) is_x
    ∙ ap (λ (t : List ℕ). ((((codes "{\"ph\":\"X\",\"pid\":0,\"tid\":" ++ decimal e) ++ codes ",\"ts\":") ++ t) ++ codes ",\"dur\":1,\"name\":\"") ++ z) is_y
    ∙ ap (λ (t : List ℕ). ((((codes "{\"ph\":\"X\",\"pid\":0,\"tid\":" ++ decimal e) ++ codes ",\"ts\":") ++ decimal n)
    ++ codes ",\"dur\":1,\"name\":\"") ++ t) is_z) h

pub counter : {E : Type 0} (r : Result ⊤ E) (a b : Option (List ℕ)) (n : ℕ) (x : Moment) (w t s f : List ℕ) → w ≡ decimal n → t ≡ decimal x.tokens → s
    ≡ decimal x.full_slots → f ≡ decimal x.frames_out
    → Sends r a b (codes "{\"ph\":\"C\",\"pid\":0,\"ts\":"
    ++ (w ++ (codes ",\"name\":\"machine\",\"args\":{\"tokens\":"
    ++ (t ++ (codes ",\"full slots\":" ++ (s ++ (codes ",\"frames out\":" ++ (f ++ (codes "}},\n")))))))))
    → Sends r a b (counter_text n x)
counter r a b n x w t s f is_w is_t is_s is_f h =
    sends_same r a b (codes "{\"ph\":\"C\",\"pid\":0,\"ts\":"
    ++ (w ++ (codes ",\"name\":\"machine\",\"args\":{\"tokens\":"
    ++ (t ++ (codes ",\"full slots\":" ++ (s ++ (codes ",\"frames out\":" ++ (f ++ (codes "}},\n"))))))))) (counter_text n x)
    (join9 (codes "{\"ph\":\"C\",\"pid\":0,\"ts\":") w (codes ",\"name\":\"machine\",\"args\":{\"tokens\":") t (codes ",\"full slots\":") s
    (codes ",\"frames out\":") f (codes "}},\n")
    ∙ ap (λ (l : List ℕ). (((((((codes "{\"ph\":\"C\",\"pid\":0,\"ts\":" ++ l) ++ codes ",\"name\":\"machine\",\"args\":{\"tokens\":") ++ t)
    ++ codes ",\"full slots\":") ++ s) ++ codes ",\"frames out\":") ++ f) ++ codes "}},\n") is_w
    ∙ ap (λ (l : List ℕ). (((((((codes "{\"ph\":\"C\",\"pid\":0,\"ts\":" ++ decimal n) ++ codes ",\"name\":\"machine\",\"args\":{\"tokens\":") ++ l)
    ++ codes ",\"full slots\":") ++ s) ++ codes ",\"frames out\":") ++ f) ++ codes "}},\n") is_t
    ∙ ap (λ (l : List ℕ). (((((((codes "{\"ph\":\"C\",\"pid\":0,\"ts\":" ++ decimal n) ++ codes ",\"name\":\"machine\",\"args\":{\"tokens\":")
    ++ decimal x.tokens) ++ codes ",\"full slots\":") ++ l) ++ codes ",\"frames out\":") ++ f) ++ codes "}},\n") is_s
    ∙ ap (λ (l : List ℕ). (((((((codes "{\"ph\":\"C\",\"pid\":0,\"ts\":" ++ decimal n) ++ codes ",\"name\":\"machine\",\"args\":{\"tokens\":")
    ++ decimal x.tokens) ++ codes ",\"full slots\":") ++ decimal x.full_slots) ++ codes ",\"frames out\":") ++ l) ++ codes "}},\n") is_f) h
