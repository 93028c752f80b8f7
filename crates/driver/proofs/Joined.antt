-- Pieces of a line, and the line.
use Rattle.std.proofs.Common.{◌≡◌, ℕ, List, ◌++◌, sym, ap, ◌∙◌, append_assoc}

pub joined : (p k q b r n end : List ℕ) → p ++ (k ++ (q ++ (b ++ (r ++ (n ++ end))))) ≡ p ++ (((((k ++ q) ++ b) ++ r) ++ n) ++ end)
joined p k q b r n end = ap (λ (l : List ℕ). p ++ l)
    (sym (append_assoc k q (b ++ (r ++ (n ++ end))))
    ∙ sym (append_assoc (k ++ q) b (r ++ (n ++ end)))
    ∙ sym (append_assoc ((k ++ q) ++ b) r (n ++ end))
    ∙ sym (append_assoc (((k ++ q) ++ b) ++ r) n end))
