-- Bars, sent one after the other.
use Rattle.std.proofs.Common.{◌≡◌, ℕ, suc, ◌+◌, ◌-◌, ◌<◌, ◌≤◌, List, [], ◌++◌, length, take, drop, Option, Result, Ok, Err, sym, ap, ◌∙◌, subst}
use Rattle.std.proofs.Common.{arith, append_assoc, append-nil}
use Rattle.std.specs.Prelude.{⊤}
use Rattle.std.specs.Io.KnownBytes.{Appends}
use Rattle.sink.specs.Sends.{Sends}
use Rattle.sink.proofs.Sent.{appends_none, appends_then, sends_more, sends_less, sends_same, sends_whole}
use Rattle.profile_text.specs.Picture.{greatest, waves_a_bar, bar_count, bar_text, bars_from, bars_text}

-- these bars were sent, and those from k on are left
abbrev pub SentSo : (bars size top : ℕ) → List ℕ → List ℕ → ℕ → Option (List ℕ) → Option (List ℕ) → Type 0
SentSo bars size top counts rest k a b = (sent : List ℕ) × (bars_from bars size top 0 bars counts ≡ sent ++ bars_from bars size top k (bars - k) rest)
    × Appends a b sent

pub none_sent : (bars size top : ℕ) (counts : List ℕ) (a : Option (List ℕ)) → SentSo bars size top counts counts 0 a a
none_sent bars size top counts a =
    let all : bars ≡ bars - 0 = omega arith in
    ([], ap (λ m. bars_from bars size top 0 m counts) all, appends_none a)

one_bar : (bars size top k n : ℕ) (rest : List ℕ) → k < n → bars_from bars size top k (n - k) rest ≡ bar_text bars k (greatest (take size rest)) top
    ++ bars_from bars size top (k + 1) (n - (k + 1)) (drop size rest)
unfolding bars_from
one_bar bars size top k n rest low =
    let less : n - k ≡ suc (n - (k + 1)) = omega (arith, low) in
    ap (λ m. bars_from bars size top k m rest) less

pub more_sent : (bars size top k : ℕ) (counts rest group behind : List ℕ) (a b c : Option (List ℕ)) → k < bars → group ≡ take size rest → behind
    ≡ drop size rest
    → SentSo bars size top counts rest k a b → Appends b c (bar_text bars k (greatest group) top) → SentSo bars size top counts behind (k + 1) a c
more_sent bars size top k counts rest group behind a b c low first last so sent =
    let bar = bar_text bars k (greatest (take size rest)) top in
    let later = bars_from bars size top (k + 1) (bars - (k + 1)) in (
      so.0 ++ bar,
      so.1 ∙ ap (λ l. so.0 ++ l) (one_bar bars size top k bars rest low) ∙ sym (append_assoc so.0 bar (later (drop size rest)))
          ∙ ap (λ l. (so.0 ++ bar) ++ later l) (sym last),
      appends_then a b c so.0 bar so.2 (subst (λ g. Appends b c (bar_text bars k (greatest g) top)) first sent),
    )

pub stopped : {E : Type 0} (e : E) (bars size top k : ℕ) (counts rest group : List ℕ) (a b c : Option (List ℕ)) → k < bars → group ≡ take size rest
    → SentSo bars size top counts rest k a b → Sends (Err e) b c (bar_text bars k (greatest group) top)
    → Sends (Err e) a c (bars_from bars size top 0 bars counts)
stopped {E} e bars size top k counts rest group a b c low first so sent =
    let bar = bar_text bars k (greatest (take size rest)) top in
    let later = bars_from bars size top (k + 1) (bars - (k + 1)) (drop size rest) in
    sends_same (Err e) a c ((so.0 ++ bar) ++ later) (bars_from bars size top 0 bars counts)
    (append_assoc so.0 bar later ∙ ap (λ l. so.0 ++ l) (sym (one_bar bars size top k bars rest low)) ∙ sym so.1)
    (sends_less e a c (so.0 ++ bar) later (sends_more (Err e) a b c so.0 bar so.2 (subst (λ g. Sends (Err e) b c (bar_text bars k (greatest g) top))
    first sent)))

no_bar : (bars size top k n : ℕ) (rest : List ℕ) → n ≤ k → bars_from bars size top k (n - k) rest ≡ []
unfolding bars_from
no_bar bars size top k n rest le =
    let none : n - k ≡ 0 = omega (arith, le) in
    ap (λ m. bars_from bars size top k m rest) none

pub all_sent : {E : Type 0} (r : Result ⊤ E) (x : ⊤) (bars size top k : ℕ) (counts rest : List ℕ) (a b : Option (List ℕ)) → r ≡ Ok x → bars ≤ k
    → SentSo bars size top counts rest k a b → Sends r a b (bars_from bars size top 0 bars counts)
all_sent r x bars size top k counts rest a b is le so =
    sends_whole r x a b (bars_from bars size top 0 bars counts) is
    (subst (λ l. Appends a b l) (sym (so.1 ∙ ap (λ l. so.0 ++ l) (no_bar bars size top k bars rest le) ∙ append-nil so.0)) so.2)

-- how many bars there are, of how many waves, and how high
pub by_counts : (counts : List ℕ) (bars size top : ℕ) → bars ≡ bar_count (length counts) → size ≡ waves_a_bar (length counts) → top ≡ greatest counts
    → bars_from bars size top 0 bars counts ≡ bars_text counts
by_counts counts bars size top b s t =
    ap (λ n. bars_from n size top 0 n counts) b ∙ ap (λ n. bars_from (bar_count (length counts)) n top 0 (bar_count (length counts)) counts) s
    ∙ ap (λ n. bars_from (bar_count (length counts)) (waves_a_bar (length counts)) n 0 (bar_count (length counts)) counts) t
