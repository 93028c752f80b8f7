-- Tokens, one after the other.
use Rattle.std.proofs.Common.{◌≡◌, ℕ, ◌+◌, ◌-◌, ◌≤◌, zero, suc, List, [], ◌∷◌, ◌++◌, length, drop, Option, Some, None, option_map, Result, Ok, Err}
use Rattle.std.proofs.Common.{refl, sym, ap, subst, ◌∙◌, append_assoc, arith}
use Rattle.std.proofs.lemmas.List.{append-nil, drop-drop, length-drop}
use Rattle.surface.specs.declared.fault.Fault.{Fault}
use Rattle.surface.specs.declared.token.Token.{Token}
use Rattle.surface.specs.declared.token.TokenKind.{TokenKind}
use Rattle.surface.specs.Tokens.{Beginning, Skipped, Read, beginning, preceded, lexed_then, lexed_from}
use Rattle.surface_tokens.specs.declared.beginning.Beginning as code
use Rattle.surface_tokens.specs.Beginnings.{said, opening}
use Rattle.surface_tokens.proofs.Sound.{IsSound, beginning_is_sound}

-- what was read before, and what is still read
abbrev pub with_front : List Token → Result (List Token) Fault → Result (List Token) Fault
with_front front (Ok ts) = Ok (front ++ ts)
with_front front (Err fault) = Err fault

with_one_more : (front : List Token) (t : Token) (read : Result (List Token) Fault)
    → with_front front (preceded t read) ≡ with_front (front ++ t ∷ []) read
with_one_more front t (Ok ts) = ap (λ (xs : List Token). Ok xs) (simp append_assoc)
with_one_more front t (Err fault) = refl

-- bytes that were read before are passed over
passed_over : (bytes : List ℕ) (at past : ℕ) → lexed_from bytes at past ≡ lexed_from (drop past bytes) (at + past) 0
passed_over [] at zero = refl
passed_over [] at (suc past) = refl
passed_over (b ∷ bytes) at zero = let n : at ≡ at + 0 = omega arith in ap (λ (k : ℕ). lexed_from (b ∷ bytes) k 0) n
passed_over (b ∷ bytes) at (suc past) =
    let n : at + 1 + past ≡ at + suc past = omega arith in
    passed_over bytes (at + 1) past ∙ ap (λ (k : ℕ). lexed_from (drop past bytes) k 0) n

beyond : (b : ℕ) (bytes : List ℕ) (at len : ℕ) → 1 ≤ len → lexed_from bytes (at + 1) (len - 1) ≡ lexed_from (drop len (b ∷ bytes)) (at + len) 0
beyond b bytes at zero some = absurd (omega arith)
beyond b bytes at (suc len) some =
    let n : suc len - 1 ≡ len = omega arith in
    let k : at + 1 + len ≡ at + suc len = omega arith in
    ap (λ (i : ℕ). lexed_from bytes (at + 1) i) n ∙ passed_over bytes (at + 1) len ∙ ap (λ (i : ℕ). lexed_from (drop len bytes) i 0) k

-- A STEP from a place: what is left there, what it begins with, and its result
pub seen : (rest : List ℕ) (o : Option code.Beginning) (b c : code.Beginning)
    → option_map said o ≡ opening rest → o ≡ Some b → b ≡ c → opening rest ≡ Some (said c)
seen rest o b c e is as_c = sym e ∙ ap (λ (v : Option code.Beginning). option_map said v) (is ∙ ap (λ (x : code.Beginning). Some x) as_c)

first_step : (b : ℕ) (bytes : List ℕ) (at : ℕ) (o : Beginning)
    → opening (b ∷ bytes) ≡ Some o → lexed_from (b ∷ bytes) at 0 ≡ lexed_then at o (λ n. lexed_from bytes (at + 1) n)
first_step b bytes at o is =
    let same : beginning b bytes ≡ o = cc in
    ap (λ (v : Beginning). lexed_then at v (λ n. lexed_from bytes (at + 1) n)) same

its_bytes : (b : ℕ) (bytes : List ℕ) (o : Beginning) → opening (b ∷ bytes) ≡ Some o → IsSound (b ∷ bytes) o
its_bytes b bytes o is =
    let same : beginning b bytes ≡ o = cc in
    subst (λ (v : Beginning). IsSound (b ∷ bytes) v) same (beginning_is_sound b bytes)

stays_within : (text rest : List ℕ) (at len : ℕ) → at ≤ length text → rest ≡ drop at text → len ≤ length rest → at + len ≤ length text
stays_within text rest at len low e few =
    let l = ap (λ (xs : List ℕ). length xs) e in
    let m = length-drop at text in
    omega (arith, l, m)

further : (text : List ℕ) (b : ℕ) (bytes : List ℕ) (at len : ℕ) → 1 ≤ len → b ∷ bytes ≡ drop at text
    → lexed_from bytes (at + 1) (len - 1) ≡ lexed_from (drop (at + len) text) (at + len) 0
further text b bytes at len some e =
    let d : drop len (b ∷ bytes) ≡ drop (at + len) text = ap (λ (xs : List ℕ). drop len xs) e ∙ drop-drop len at text in
    beyond b bytes at len some ∙ ap (λ (xs : List ℕ). lexed_from xs (at + len) 0) d

-- what holds of the next place, where these tokens were read before it
pub record IsNext (text : List ℕ) (at len : ℕ) (tokens : List Token) (total : Result (List Token) Fault) : Type 0 where
  pub some : 1 ≤ len
  pub within : at + len ≤ length text
  pub so_far : with_front tokens (lexed_from (drop (at + len) text) (at + len) 0) ≡ total

pub behind_blank : (text rest : List ℕ) (at len : ℕ) (tokens : List Token) (total : Result (List Token) Fault)
    → at ≤ length text → rest ≡ drop at text → opening rest ≡ Some (Skipped len)
    → with_front tokens (lexed_from (drop at text) at 0) ≡ total → IsNext text at len tokens total
behind_blank text [] at len tokens total low e is so_far = absurd cc
behind_blank text (b ∷ bytes) at len tokens total low e is so_far =
    let w = its_bytes b bytes (Skipped len) is in
    let same : lexed_from (drop at text) at 0 ≡ lexed_from (drop (at + len) text) (at + len) 0 =
    ap (λ (xs : List ℕ). lexed_from xs at 0) (sym e) ∙ first_step b bytes at (Skipped len) is ∙ further text b bytes at len w.0 e in
    record {
      some = w.0;
      within = stays_within text (b ∷ bytes) at len low e w.1;
      so_far = ap (λ (r : Result (List Token) Fault). with_front tokens r) (sym same) ∙ so_far;
    }

pub behind_token : (text rest : List ℕ) (at len : ℕ) (kind : TokenKind) (tokens more : List Token) (total : Result (List Token) Fault)
    → at ≤ length text → rest ≡ drop at text → opening rest ≡ Some (Read kind len) → more ≡ tokens ++ record { kind = kind; at = at } ∷ []
    → with_front tokens (lexed_from (drop at text) at 0) ≡ total → IsNext text at len more total
behind_token text [] at len kind tokens more total low e is pushed so_far = absurd cc
behind_token text (b ∷ bytes) at len kind tokens more total low e is pushed so_far =
    let w = its_bytes b bytes (Read kind len) is in
    let token : Token = record { kind = kind; at = at } in
    let rest : Result (List Token) Fault = lexed_from (drop (at + len) text) (at + len) 0 in
    let same : lexed_from (drop at text) at 0 ≡ preceded token rest =
    ap (λ (xs : List ℕ). lexed_from xs at 0) (sym e) ∙ first_step b bytes at (Read kind len) is
    ∙ ap (λ (r : Result (List Token) Fault). preceded token r) (further text b bytes at len w.0 e) in
    let one_more : with_front tokens (lexed_from (drop at text) at 0) ≡ with_front (tokens ++ token ∷ []) rest =
    ap (λ (r : Result (List Token) Fault). with_front tokens r) same ∙ with_one_more tokens token rest in
    record {
      some = w.0;
      within = stays_within text (b ∷ bytes) at len low e w.1;
      so_far = ap (λ (ts : List Token). with_front ts rest) pushed ∙ sym one_more ∙ so_far;
    }

pub ends : (text rest : List ℕ) (at : ℕ) (tokens : List Token) (total : Result (List Token) Fault)
    → rest ≡ drop at text → opening rest ≡ None → with_front tokens (lexed_from (drop at text) at 0) ≡ total → total ≡ Ok tokens
ends text [] at tokens total e is so_far =
    let nothing : with_front tokens (Ok []) ≡ Ok tokens = ap (λ (xs : List Token). Ok xs) (append-nil tokens) in
    sym so_far ∙ ap (λ (xs : List ℕ). with_front tokens (lexed_from xs at 0)) (sym e) ∙ nothing
ends text (b ∷ bytes) at tokens total e is so_far = absurd cc
