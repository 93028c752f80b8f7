-- What a file has, what a command reads of it, the inputs among the words as lines, and what is said of a file that cannot be read.
use Rattle.std.specs.Prelude.{ℕ, ◌*◌, ◌-◌, min, Bool, true, false, nat_lt, ℤ, List, [], ◌∷◌, ◌++◌, length, take, flat_map, if◌then◌else◌, codes}
use Rattle.std.specs.Str.{bytes_eq}
use Rattle.std.specs.declared.io.ErrorKind.{ErrorKind}
use Rattle.semantics.specs.Text.{line, literal}
use Rattle.command_line.specs.declared.Request.{Request}
use Rattle.command_line.specs.declared.inputs.Inputs.{Inputs}
use Rattle.files.specs.declared.content.Content.{Content}
use Rattle.files.specs.declared.content.Reads.{Reads}
use Rattle.files.specs.declared.unread.Unread.{Unread}

-- CONTENT: it shows in the first bytes
abbrev pub content_of : List ℕ → Content
content_of bytes =
    if bytes_eq (take 9 bytes) (codes "etsgraph ") then Content.Graph
    else (if bytes_eq (take 8 bytes) (codes "ETSOBJCT") then Content.Object else Content.Program)

-- WHAT A COMMAND READS: the bytes as they are, or a graph, or a graph and the inputs after it
abbrev pub reads_of : Request → Reads
reads_of (Request.Run o) = Reads.Inputs
reads_of (Request.RunEnough o) = Reads.Inputs
reads_of (Request.Mean steps) = Reads.Inputs
reads_of (Request.Trace o last format) = Reads.Inputs
reads_of (Request.Profile o sizes svg) = Reads.Inputs
reads_of (Request.Orders o count seed) = Reads.Inputs
reads_of Request.Check = Reads.Graph
reads_of Request.Compile = Reads.Graph
reads_of (Request.Dot false) = Reads.Graph
reads_of (Request.Dot true) = Reads.Bytes
reads_of (Request.Dis literals) = Reads.Bytes
reads_of Request.Upgrade = Reads.Bytes
reads_of (Request.Exec o ins) = Reads.Bytes
reads_of Request.Asm = Reads.Bytes
reads_of (Request.Lower what) = Reads.Bytes

-- INPUTS AMONG THE WORDS, as lines
abbrev pub are_given : Inputs → Bool
are_given (Inputs.Integers zs) = nat_lt 0 (length zs.items)
are_given (Inputs.NoInteger n) = true
are_given Inputs.TooMany = true

abbrev pub integer_line : ℤ → List ℕ
integer_line z = line (literal z)

-- seventeen inputs, more than any block takes
abbrev pub seventeen_lines : List ℕ
seventeen_lines =
    48 ∷ 10 ∷ 48 ∷ 10 ∷ 48 ∷ 10 ∷ 48 ∷ 10 ∷ 48 ∷ 10 ∷ 48 ∷ 10 ∷ 48 ∷ 10 ∷ 48 ∷ 10 ∷ 48 ∷ 10 ∷ 48 ∷ 10 ∷ 48 ∷ 10 ∷ 48 ∷ 10 ∷ 48 ∷ 10
    ∷ 48 ∷ 10 ∷ 48 ∷ 10 ∷ 48 ∷ 10 ∷ 48 ∷ 10 ∷ []

-- the lines before that of the input with this number, counted from 1
abbrev pub lines_before : ℕ → List ℕ
lines_before n = take (2 * min (n - 1) 17) seventeen_lines

-- a word that is no integer is a line without one (63 is `?`)
abbrev pub inputs_lines : Inputs → List ℕ
inputs_lines (Inputs.Integers zs) = flat_map integer_line zs.items
inputs_lines (Inputs.NoInteger n) = lines_before n ++ 63 ∷ 10 ∷ []
inputs_lines Inputs.TooMany = seventeen_lines

-- A FILE THAT CANNOT BE READ
abbrev pub unread_of : ErrorKind → Unread
unread_of ErrorKind.NotFound = Unread.Missing
unread_of ErrorKind.PermissionDenied = Unread.Denied
unread_of ErrorKind.IsADirectory = Unread.Directory
unread_of ErrorKind.NotADirectory = Unread.NotDirectory
unread_of ErrorKind.FileTooLarge = Unread.TooLarge
unread_of ErrorKind.FilesystemLoop = Unread.Links
unread_of ErrorKind.InvalidFilename = Unread.LongName
unread_of ErrorKind.OutOfMemory = Unread.Memory
unread_of kind = Unread.Other

abbrev pub unread_text : Unread → List ℕ
unread_text Unread.Missing = codes "No such file or directory"
unread_text Unread.Denied = codes "Permission denied"
unread_text Unread.Directory = codes "Is a directory"
unread_text Unread.NotDirectory = codes "Not a directory"
unread_text Unread.TooLarge = codes "File too large"
unread_text Unread.Links = codes "Too many levels of symbolic links"
unread_text Unread.LongName = codes "File name too long"
unread_text Unread.Memory = codes "Cannot allocate memory"
unread_text Unread.Other = codes "Input/output error"

abbrev pub unread_words : List ℕ → List ℕ → List ℕ
unread_words name text = codes "ets: cannot read " ++ name ++ codes ": " ++ text ++ 10 ∷ []

abbrev pub unread_line : List ℕ → Unread → List ℕ
unread_line name unread = unread_words name (unread_text unread)
