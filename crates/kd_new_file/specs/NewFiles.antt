-- Files by their names, before and after a new file is written.
-- Code: `begin` makes the new file under another name, and `publish` renames it. Files in memory are a `BTreeMap`.
-- Test: tests/new-files
use Rattle.std.specs.Prelude.{codes, decimal, ◌≡◌, ◌≢◌, ◌≤◌, ◌++◌, ℕ, List, Option, Some, None, String, Vec, bytes_eq}
use Rattle.std.specs.Prelude.{◌↔◌, IfSome, IsSome, option_map}
use Rattle.std.specs.BTreeMap.{BTreeMap, get_by_text}
use Rattle.std.specs.Map.{update}
use Rattle.kd_new_file.specs.declared.new_file_fault.NewFileFault.{NewFileFault}
use Rattle.kd_new_file.specs.declared.new_file_fault.NewFileFault.TheVariants.{Device, Taken}

-- Files by their names: for a name, the file's bytes, or `None` if no file has this name.
abbrev pub FilesByName : Type 0
FilesByName = List ℕ → Option (List ℕ)

-- all files after a change: the file `name` gets the bytes `content`, or is removed if `content` is `None`
abbrev pub with_content : FilesByName → List ℕ → Option (List ℕ) → FilesByName
with_content files name content = update bytes_eq files name content

-- No file in `old` is called `name`. `new` has the files of `old`, and a file called `name` with the bytes `bytes`. If
-- the files aren't known, `old` and `new` are `None`.
abbrev pub AddsFile : Option FilesByName → Option FilesByName → List ℕ → Option (List ℕ) → Type 0
AddsFile None new name bytes = new ≡ None
AddsFile (Some files) new name bytes = (files name ≡ None) × (new ≡ Some (with_content files name bytes))

-- the name under which the file `name` is written at first: `name`, `.part` and `number`, for example `a.txt.part1`
abbrev pub part_name : List ℕ → ℕ → List ℕ
part_name name number = name ++ (codes ".part" ++ decimal number)

-- `fault` is the reason why no file could be begun for `name`. It isn't `Taken`: if a name is taken, the next of the
-- 100 names of `part_name` is tried. If the files are known, and the reason is `Device`, all 100 names are taken.
pub record IsWhyNotBegun (files : Option FilesByName) (name : List ℕ) (fault : NewFileFault) : Type 0 where
  pub other : fault ≢ Taken
  pub device : IfSome files (λ known. fault ≡ Device → (number : ℕ) → 1 ≤ number → number ≤ 100
      → IsSome (known (part_name name number)))

-- `fault` is the reason why a file that was begun under another name wasn't renamed to `name`. `files` are the files
-- before this file was begun. If they are known, the reason is never `Device`, and is `Taken` exactly if one of them is
-- called `name`.
abbrev pub IsWhyUnnamed : Option FilesByName → List ℕ → NewFileFault → Type 0
IsWhyUnnamed files name fault = IfSome files (λ known. ((fault ≡ Taken) ↔ IsSome (known name)) × (fault ≢ Device))

-- the files in a map from file names to bytes
abbrev pub files_in : {A B : Type 0} → BTreeMap (String A) (Vec ℕ B) → FilesByName
files_in map name = option_map (λ bytes. bytes.items) (get_by_text map name)
