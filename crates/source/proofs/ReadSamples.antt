-- The texts of the samples have the tokens of their trees, which fit, and keep the rules.
use Rattle.std.specs.Prelude.{◌≡◌, ℕ, List, [], length, Ok, Err, refl}
use Rattle.std.proofs.Common.{arith, inl, inr}
use Rattle.source.specs.declared.token.Token.{Token}
use Rattle.source.specs.Tokens.{lexed}
use Rattle.source.specs.Spelled.{program_tokens}
use Rattle.source.specs.Parses.{Parses}
use Rattle.source.specs.Rules.{checked}
use Rattle.source.specs.Samples.{literals_text, literals, least_text, least, signs_text, signs, arithmetic_text, arithmetic, swapped_text, swapped}
use Rattle.source.specs.Samples.{cells_text, cells, stored_twice_text, stored_twice, pairs_text, pairs, strict_call_text, strict_call}
use Rattle.source.specs.Samples.{factorial_text, factorial, else_if_text, else_if, two_arms_text, two_arms, sum_up_text, sum_up, count_up_text}
use Rattle.source.specs.Samples.{count_up, nested_text, nested, hidden_text, hidden, shared_text, shared, misses_text, misses, two_faults_text}
use Rattle.source.specs.Samples.{two_faults}
use Rattle.source.proofs.Spelling.{spelled}

abbrev read : List ℕ → List Token
read text = elim (lexed text) as (λ _. List Token) [ Ok ts ↦ ts | Err fault ↦ [] ]

literals_read : Parses literals_text (read literals_text) literals
literals_read = record {
  fits = ((omega arith, tt, (omega arith, omega arith, (omega arith, inl (omega arith)), omega arith)), tt);
  depth = omega arith;
  spelled = spelled literals_text (program_tokens literals) (read literals_text) refl refl;
}

literals_good : checked (length literals_text) literals ≡ Ok tt
literals_good = refl

least_read : Parses least_text (read least_text) least
least_read = record {
  fits = ((omega arith, tt, (omega arith, inr refl)), tt);
  depth = omega arith;
  spelled = spelled least_text (program_tokens least)
      (read least_text) refl refl;
}

least_good : checked (length least_text) least ≡ Ok tt
least_good = refl

signs_read : Parses signs_text (read signs_text) signs
signs_read = record {
  fits = (
    (
      omega arith,
      tt,
      (
        ((omega arith, inl tt), omega arith, (omega arith, inl (omega arith, inl tt)), omega arith),
        omega arith,
        (omega arith, inl (omega arith)),
        omega arith,
      ),
    ),
    tt,
  );
  depth = omega arith;
  spelled = spelled signs_text (program_tokens signs) (read signs_text) refl refl;
}

signs_good : checked (length signs_text) signs ≡ Ok tt
signs_good = refl

arithmetic_read : Parses arithmetic_text (read arithmetic_text) arithmetic
arithmetic_read = record {
  fits = (
    (
      omega arith,
      tt,
      (
        (
          (
            (
              (
                (tt, omega arith, (omega arith, omega arith, tt, omega arith), omega arith),
                omega arith,
                tt,
                omega arith,
              ),
              omega arith,
              omega arith,
              omega arith,
            ),
            omega arith,
            tt,
            omega arith,
          ),
          omega arith,
          tt,
          omega arith,
        ),
        omega arith,
        tt,
        omega arith,
      ),
    ),
    tt,
  );
  depth = omega arith;
  spelled = spelled arithmetic_text (program_tokens arithmetic) (read arithmetic_text) refl refl;
}

arithmetic_good : checked (length arithmetic_text) arithmetic ≡ Ok tt
arithmetic_good = refl

swapped_read : Parses swapped_text (read swapped_text) swapped
swapped_read = record {
  fits = (
    (
      omega arith,
      tt,
      (
        (
          ((tt, omega arith, tt, omega arith), omega arith, (tt, omega arith, tt, omega arith), omega arith),
          omega arith,
          (tt, omega arith, tt, omega arith),
          omega arith,
        ),
        omega arith,
        (tt, omega arith, tt, omega arith),
        omega arith,
      ),
    ),
    tt,
  );
  depth = omega arith;
  spelled = spelled swapped_text (program_tokens swapped) (read swapped_text) refl refl;
}

swapped_good : checked (length swapped_text) swapped ≡ Ok tt
swapped_good = refl

cells_read : Parses cells_text (read cells_text) cells
cells_read = record {
  fits = (omega arith, ((omega arith, tt, ((omega arith, (tt, omega arith, omega arith, omega arith)), omega arith)), tt));
  depth =
      omega arith;
  spelled = spelled cells_text (program_tokens cells) (read cells_text) refl refl;
}

cells_good : checked (length cells_text) cells ≡ Ok tt
cells_good = refl

stored_twice_read : Parses stored_twice_text (read stored_twice_text) stored_twice
stored_twice_read = record {
  fits = (omega arith, (omega arith, ((omega arith, tt, (omega arith, (tt, omega arith))), tt)));
  depth = omega arith;
  spelled =
      spelled stored_twice_text (program_tokens stored_twice) (read stored_twice_text) refl refl;
}

stored_twice_good : checked (length stored_twice_text) stored_twice ≡ Ok tt
stored_twice_good = refl

pairs_read : Parses pairs_text (read pairs_text) pairs
pairs_read = record {
  fits = ((omega arith, omega arith, (tt, tt)), ((omega arith, tt, (omega arith, (tt, omega arith), tt)), tt));
  depth = omega arith;
  spelled = spelled pairs_text (program_tokens pairs) (read pairs_text) refl refl;
}

pairs_good : checked (length pairs_text) pairs ≡ Ok tt
pairs_good = refl

strict_call_read : Parses strict_call_text (read strict_call_text) strict_call
strict_call_read = record {
  fits = (omega arith, ((omega arith, tt, tt), ((omega arith, tt, (omega arith, tt)), tt)));
  depth = omega arith;
  spelled =
      spelled strict_call_text (program_tokens strict_call) (read strict_call_text) refl refl;
}

strict_call_good : checked (length strict_call_text) strict_call ≡ Ok tt
strict_call_good = refl

factorial_read : Parses factorial_text (read factorial_text) factorial
factorial_read = record {
  fits = (
    (
      omega arith,
      tt,
      (
        (tt, omega arith, omega arith, omega arith),
        omega arith,
        (
          tt,
          omega arith,
          (
            tt,
            omega arith,
            omega
                arith,
            omega arith,
          ),
          omega arith,
        ),
      ),
    ),
    tt,
  );
  depth = omega arith;
  spelled = spelled factorial_text (program_tokens factorial) (read factorial_text) refl refl;
}

factorial_good : checked (length factorial_text) factorial ≡ Ok tt
factorial_good = refl

else_if_read : Parses else_if_text (read else_if_text) else_if
else_if_read = record {
  fits = (
    (
      omega arith,
      tt,
      (
        tt,
        tt,
        (
          refl,
          refl,
          (
            (tt, omega arith, omega arith, omega arith),
            omega arith,
            (
              (tt, omega arith),
              omega
                  arith,
            ),
          ),
        ),
      ),
    ),
    tt,
  );
  depth = omega arith;
  spelled = spelled else_if_text (program_tokens else_if) (read else_if_text) refl refl;
}

else_if_good : checked (length else_if_text) else_if ≡ Ok tt
else_if_good = refl

two_arms_read : Parses two_arms_text (read two_arms_text) two_arms
two_arms_read = record {
  fits = (
    (omega arith, omega arith, (omega arith, tt, (tt, (tt, (tt, omega arith, tt, omega arith)), (omega arith, tt, (tt, tt))))),
    tt,
  );
  depth = omega arith;
  spelled = spelled two_arms_text (program_tokens two_arms) (read two_arms_text) refl refl;
}

two_arms_good : checked (length two_arms_text) two_arms ≡ Ok tt
two_arms_good = refl

sum_up_read : Parses sum_up_text (read sum_up_text) sum_up
sum_up_read = record {
  fits = (
    (
      omega arith,
      tt,
      (
        omega arith,
        (
          omega arith,
          (omega arith, omega arith),
          refl,
          (
            (tt, omega arith, tt, omega arith),
            (
              (
                tt,
                omega arith,
                omega arith,
                omega arith,
              ),
              (tt, omega arith, tt, omega arith),
            ),
          ),
        ),
        tt,
      ),
    ),
    tt,
  );
  depth = omega arith;
  spelled = spelled sum_up_text
      (program_tokens sum_up) (read sum_up_text) refl refl;
}

sum_up_good : checked (length sum_up_text) sum_up ≡ Ok tt
sum_up_good = refl

count_up_read : Parses count_up_text (read count_up_text) count_up
count_up_read = record {
  fits = (
    (
      omega arith,
      tt,
      (
        omega arith,
        omega arith,
        refl,
        (
          (tt, omega arith, omega arith, omega arith),
          (
            tt,
            omega arith,
            tt,
            omega arith,
          ),
        ),
      ),
    ),
    tt,
  );
  depth = omega arith;
  spelled = spelled count_up_text (program_tokens count_up) (read count_up_text) refl refl;
}

count_up_good : checked (length count_up_text) count_up ≡ Ok tt
count_up_good = refl

nested_read : Parses nested_text (read nested_text) nested
nested_read = record {
  fits = (
    (
      omega arith,
      tt,
      (
        omega arith,
        (omega arith, tt, refl, ((tt, omega arith, omega arith, omega arith), tt)),
        refl,
        (
          (
            omega
                arith,
            tt,
            refl,
            (tt, tt),
          ),
          (omega arith, tt, refl, (tt, omega arith)),
        ),
      ),
    ),
    (
      (
        omega arith,
        tt,
        (
          (tt, omega arith),
          (
            omega arith,
            tt,
            refl,
            (
              tt,
              (
                tt,
                omega arith,
                omega arith,
                omega arith,
              ),
            ),
          ),
        ),
      ),
      tt,
    ),
  );
  depth = omega arith;
  spelled = spelled nested_text (program_tokens nested) (read nested_text) refl refl;
}

nested_good : checked (length nested_text) nested ≡ Ok tt
nested_good = refl

hidden_read : Parses hidden_text (read hidden_text) hidden
hidden_read = record {
  fits = (
    (
      omega arith,
      tt,
      (
        omega arith,
        (tt, omega arith, omega arith, omega arith),
        (
          omega arith,
          (omega arith, (tt, omega arith)),
          tt,
        ),
      ),
    ),
    tt,
  );
  depth = omega arith;
  spelled = spelled hidden_text (program_tokens hidden) (read hidden_text) refl refl;
}

hidden_good : checked (length hidden_text) hidden ≡ Ok tt
hidden_good = refl

shared_read : Parses shared_text (read shared_text) shared
shared_read = record {
  fits = ((omega arith, omega arith, (omega arith, tt, (tt, (tt, tt)))), tt);
  depth = omega arith;
  spelled = spelled shared_text
      (program_tokens shared) (read shared_text) refl refl;
}

shared_good : checked (length shared_text) shared ≡ Ok tt
shared_good = refl

misses_read : Parses misses_text (read misses_text) misses
misses_read = record {
  fits = (omega arith, ((omega arith, tt, (tt, omega arith)), tt));
  depth = omega arith;
  spelled = spelled misses_text (program_tokens
      misses) (read misses_text) refl refl;
}

misses_good : checked (length misses_text) misses ≡ Ok tt
misses_good = refl

two_faults_read : Parses two_faults_text (read two_faults_text) two_faults
two_faults_read = record {
  fits = (
    (
      omega arith,
      tt,
      (
        (tt, omega arith, omega arith, omega arith),
        omega arith,
        (tt, omega arith, omega arith, omega arith),
        omega arith,
      ),
    ),
    tt,
  );
  depth = omega arith;
  spelled = spelled two_faults_text (program_tokens two_faults) (read two_faults_text) refl refl;
}

two_faults_good : checked (length two_faults_text) two_faults ≡ Ok tt
two_faults_good = refl
