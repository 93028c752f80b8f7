-- Numbers of addresses and words, by which tokens are found. Different ones may have one number.
use Rattle.std.specs.Prelude.{ℕ, ◌+◌, ◌*◌}
use Rattle.std.specs.Int.{w64, cast_unsigned}
use Rattle.tags.specs.declared.token.To.{To}
use Rattle.tags.specs.declared.token.Word.{Word}
use Rattle.tags.specs.declared.token.Cont.{Cont}
use Rattle.tags.specs.declared.value.Value.{Value}

abbrev pub joined : ℕ → ℕ → ℕ
joined high low = high * 4294967296 + low

abbrev pub to_number : To → ℕ
to_number (To.Instr f ip p) = joined f ip
to_number (To.Fetch x) = joined x 1
to_number (To.Store x v) = joined x 2
to_number To.Manager = 3
to_number (To.Release f) = joined f 4
to_number (To.Host p) = joined p 5

abbrev pub word_number : Word → ℕ
word_number (Word.Val (Value.Int z)) = cast_unsigned w64 z
word_number (Word.Val (Value.Fault k o)) = 0
word_number (Word.Frame f) = joined f 1
word_number (Word.Back (Cont.Frame f ip p)) = joined f ip
word_number (Word.Back (Cont.Host p)) = joined p 2
