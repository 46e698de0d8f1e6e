-- Files as contracts see them: their bytes, if known. A file is either read whole, or opened and
-- then streamed.
-- Code: `read_whole` reads a file chunk by chunk, into a vector that grows.
-- Test: tests/cases/desk-program.toml, tests/cases/desk-messages.toml
use Rattle.std.specs.Prelude.{◌≡◌, ℕ, ◌+◌, ◌≤◌, nat_le, Bool, true, false, IsTrue, List, [], ◌∷◌, ◌++◌, map}
use Rattle.std.specs.Prelude.{length, Option, Some, None, Result, Ok, Err, find, bytes_eq, option_map, if◌then◌else◌}
use Rattle.std.specs.Result.{result_map_both}
use Rattle.std.specs.Borrow.{Bor}
use Rattle.std.specs.Io.KnownBytes.{Consumes, IsAtEnd}
use Rattle.kd_tables.specs.Answers.{AgreesOrNoMemory}
use Rattle.kd_tables.specs.Ports.{read_limit, Port, KeepsFailureFlag}
use Rattle.kd_host.specs.declared.file_fault.FileFault.{FileFault}
use Rattle.kd_host.specs.declared.file_fault.FileFault.TheVariants.{NoMemory, Device, ReadTooLong}

-- the bytes of a file; `Device` if there is no file, and `ReadTooLong` if the file is too long
abbrev pub content_of : Option (List ℕ) → Result (List ℕ) FileFault
content_of None = Err Device
content_of (Some bytes) = if nat_le (length bytes) read_limit then Ok bytes else Err ReadTooLong

-- An opened file: its unread bytes, if they are known, and whether a read has failed.
pub record KnownFile : Type 0 where
  pub bytes : Option (List ℕ)
  pub failed : Bool

abbrev pub known_file : {O : Type 0} → (O → Option (List ℕ)) → (O → Bool) → O → KnownFile
known_file bytes failed file = record { bytes = bytes file; failed = failed file }

-- an opened file with all of its bytes unread, or the fault `Device` if there is no file
abbrev pub opening_of : Option (List ℕ) → Result KnownFile FileFault
opening_of None = Err Device
opening_of (Some bytes) = Ok (record { bytes = Some bytes; failed = false })

-- the bytes of the first file called `name`; each of `files` is a pair of a name and bytes
abbrev pub bytes_in_files : List (Bor (List ℕ) × Bor (List ℕ)) → List ℕ → Option (List ℕ)
bytes_in_files files name = option_map (λ file. file.1.now) (find (λ file. bytes_eq file.0.now name) files)

-- `meant` is the expected result of opening a file, and `answer` fits it. Either both are the same fault, or `answer`
-- is an opened file, which `known` maps to the file in `meant`.
abbrev pub IsOpenAnswer : {O : Type 0} → Result KnownFile FileFault → (O → KnownFile) → Result O FileFault → Type 0
IsOpenAnswer meant known answer = result_map_both known (λ fault. fault) answer ≡ meant

-- The list `read` has the bytes that were read from a source. A file may have at most `read_limit` bytes.
-- - `Ok`: the result has all bytes up to the source's end, at most `read_limit`.
-- - `ReadTooLong`: one byte more than `read_limit` was read.
-- - `Device`: a read failed, after at most `read_limit` bytes.
-- - `NoMemory`: memory ran out, after at most `read_limit + 1` bytes.
abbrev pub IsReadWholeAs : Port → List ℕ → Result (List ℕ) FileFault → Type 0
IsReadWholeAs source read (Ok bytes) = (bytes ≡ read) × (length read ≤ read_limit) × IsAtEnd source.has
    × KeepsFailureFlag source
IsReadWholeAs source read (Err ReadTooLong) = (length read ≡ read_limit + 1) × KeepsFailureFlag source
IsReadWholeAs source read (Err Device) = (length read ≤ read_limit) × IsTrue source.has_failed
IsReadWholeAs source read (Err NoMemory) = (length read ≤ read_limit + 1) × KeepsFailureFlag source

pub record IsReadWhole (source : Port) (answer : Result (List ℕ) FileFault) : Type 0 where
  pub read : List ℕ
  pub given : Consumes source.had source.has read
  pub is : IsReadWholeAs source read answer

-- ---- Which names of files were asked for.
-- Code: `HostFiles` keeps a record, `AskedNames`, of the file names that were asked for.
-- Test: tests/cases/desk-program.toml

-- A file name that the program asked for, and whether the file could be read or opened.
abbrev pub AskedName : Type 0
AskedName = List ℕ × Bool

abbrev pub asked_and_had : List ℕ → AskedName
asked_and_had name = (name, true)

abbrev pub asked_and_missed : List ℕ → AskedName
asked_and_missed name = (name, false)

pub record MissesOne (names : List (List ℕ)) (old new : List AskedName) : Type 0 where
  pub before : List (List ℕ)
  pub name : List ℕ
  pub after : List (List ℕ)
  pub names_are : names ≡ before ++ name ∷ after
  pub asked : new ≡ old ++ (map asked_and_had before ++ asked_and_missed name ∷ [])

-- The list `new` is the list `old`, followed by the file names that the program asked for. With the flag `true`, the
-- program asked for all of `names`. With `false`, it asked for the names up to the first one whose file couldn't be
-- read or opened.
abbrev pub AreAskedFor : List (List ℕ) → List AskedName → List AskedName → Bool → Type 0
AreAskedFor names old new true = new ≡ old ++ map asked_and_had names
AreAskedFor names old new false = MissesOne names old new

-- ---- The answers of inner functions that read or open several files. No public contract cites this definition.

-- `meant` is the expected result of reading files, and `answer` fits it. One of three things holds:
-- - `answer` is `NoMemory`.
-- - `answer` and `meant` are the same fault.
-- - `known` maps the value of `answer` to the value of `meant`.
abbrev pub IsReadAnswer : {X Y : Type 0} → Result Y FileFault → (X → Y) → Result X FileFault → Type 0
IsReadAnswer meant known answer = AgreesOrNoMemory NoMemory meant (result_map_both known (λ fault. fault) answer)
