-- How files are read, one after another.
use Rattle.std.proofs.Common.{◌≡◌, ◌∙◌, ◌+◌, ◌<◌, ◌≤◌, ℕ, Bool, true, false, List, [], ◌∷◌, ◌++◌, Bor, IfSome, Option, Some, None}
use Rattle.std.proofs.Common.{Result, Ok, Err, inl, inr, ap, refl, subst, sym, append_assoc, append-nil, arith, drop, get_or, length}
use Rattle.std.proofs.lemmas.List.{drop_more, drop_all, get_or-map, length-map, length-append}
use Rattle.kd_tables.specs.Answers.{AgreesOrNoMemory}
use Rattle.kd_sheet.specs.Document.{◌>>=◌}
use Rattle.kd_host.proofs.FileNames.{all_on, misses_first as no_first, misses_on}
use Rattle.kd_host.specs.Files.{AreAskedFor, AskedName, asked_and_had, asked_and_missed, content_of}
use Rattle.kd_host.specs.declared.file_fault.FileFault.{FileFault}
use Rattle.kd_host.specs.declared.file_fault.FileFault.TheVariants.{NoMemory}
use Rattle.kd_curator_command.specs.CommandLine.{unborrowed_names}
use Rattle.kd_curator.specs.Files.{behind, contents_of}

-- the files that are known, if they are
abbrev pub Known : Type 0
Known = Option (List ℕ → Option (List ℕ))

-- what is known of an answer to the reading of these files, behind what was read before
abbrev pub Reads : Known → List (List ℕ) → List (List ℕ) → Result (List (List ℕ)) FileFault → Type 0
Reads known before names answer =
    IfSome known (λ held. AgreesOrNoMemory NoMemory (behind before (contents_of held names)) answer)

abbrev pub ReadsOne : Known → List ℕ → Result (List ℕ) FileFault → Type 0
ReadsOne known name answer = IfSome known (λ held. AgreesOrNoMemory NoMemory (content_of (held name)) answer)

-- the files from the first on, given what the first has
abbrev pub from_first : (List ℕ → Option (List ℕ)) → List (List ℕ) → List (List ℕ) → Result (List ℕ) FileFault
    → Result (List (List ℕ)) FileFault
from_first held before names first =
    behind before (first >>= (λ bytes. contents_of held names >>= (λ rest. Ok (bytes ∷ rest))))

lacks_too : {A B : Type 0} (fault : FileFault) → ◌≡◌ {A = Result A FileFault} (Err fault) (Err NoMemory)
    → ◌≡◌ {A = Result B FileFault} (Err fault) (Err NoMemory)
lacks_too fault lacks = grind (arith, lacks)

-- if the first file can't be read, the files can't
misses_first : (known : Known) (before : List (List ℕ)) (name : List ℕ) (names : List (List ℕ)) (fault : FileFault)
    → ReadsOne known name (Err fault) → Reads known before (name ∷ names) (Err fault)
misses_first None before name names fault one = tt
misses_first (Some held) before name names fault (inl is) = inl (ap (from_first held before names) is)
misses_first (Some held) before name names fault (inr lacks) = inr (lacks_too fault lacks)

after_first : (before : List (List ℕ)) (bytes : List ℕ) (read : Result (List (List ℕ)) FileFault)
    → behind (before ++ bytes ∷ []) read ≡ behind before (read >>= (λ rest. Ok (bytes ∷ rest)))
after_first before bytes (Ok texts) = ap Ok (append_assoc before (bytes ∷ []) texts)
after_first before bytes (Err fault) = refl

-- if the first file was read, the others decide
reads_on : (known : Known) (before : List (List ℕ)) (name bytes : List ℕ) (names : List (List ℕ))
    (answer : Result (List (List ℕ)) FileFault) → ReadsOne known name (Ok bytes)
    → Reads known (before ++ bytes ∷ []) names answer → Reads known before (name ∷ names) answer
reads_on None before name bytes names answer one more = tt
reads_on (Some held) before name bytes names answer (inl is) (inl more) =
    inl (more ∙ after_first before bytes (contents_of held names) ∙ ap (from_first held before names) is)
reads_on (Some held) before name bytes names answer (inl is) (inr lacks) = inr lacks
reads_on (Some held) before name bytes names answer (inr lacks) more = absurd (cc)

asks_on : (name : List ℕ) (names : List (List ℕ)) (old new newer : List AskedName) (had : Bool)
    → new ≡ old ++ asked_and_had name ∷ [] → AreAskedFor names new newer had → AreAskedFor (name ∷ names) old newer had
asks_on name names old new newer true is more = all_on name names old new newer is more
asks_on name names old new newer false is more = misses_on name names old new newer is more

-- ---- a step of the loop, at the file at `place`

module _ (names : List (Bor (List ℕ))) (place : ℕ) (none : Bor (List ℕ)) (left : place < length names) where
  -- the file's name
  abbrev name : Bor (List ℕ)
  name = get_or names place none

  next_name : drop place (unborrowed_names names) ≡ name.now ∷ drop (place + 1) (unborrowed_names names)
  next_name =
      let named = get_or-map (λ (n : Bor (List ℕ)). n.now) names place none none.now left in
      let within = length-map names (λ (n : Bor (List ℕ)). n.now) in
      drop_more (unborrowed_names names) place none.now (omega (arith, within, left))
      ∙ ap (λ n. n ∷ drop (place + 1) (unborrowed_names names)) named

  pub read_step : (known later : Known) (before after : List (List ℕ)) (bytes file : List ℕ)
      (answer : Result (List (List ℕ)) FileFault) → later ≡ known → file ≡ bytes → after ≡ before ++ file ∷ []
      → ReadsOne later name.now (Ok bytes) → Reads known after (drop (place + 1) (unborrowed_names names)) answer
      → Reads known before (drop place (unborrowed_names names)) answer
  read_step known later before after bytes file answer same holds is one more =
      let rest = drop (place + 1) (unborrowed_names names) in
      let joined = is ∙ ap (λ f. before ++ f ∷ []) holds in
      subst (λ ns. Reads known before ns answer) (sym next_name)
      (reads_on known before name.now bytes rest answer (subst (λ k. ReadsOne k name.now (Ok bytes)) same one)
      (subst (λ b. Reads known b rest answer) joined more))

  pub read_missed : (known later : Known) (before : List (List ℕ)) (fault : FileFault) → later ≡ known
      → ReadsOne later name.now (Err fault) → Reads known before (drop place (unborrowed_names names)) (Err fault)
  read_missed known later before fault same one =
      subst (λ ns. Reads known before ns (Err fault)) (sym next_name)
      (misses_first known before name.now (drop (place + 1) (unborrowed_names names)) fault
      (subst (λ k. ReadsOne k name.now (Err fault)) same one))

  pub ask_step : (old new newer : List AskedName) (had : Bool) → new ≡ old ++ asked_and_had name.now ∷ []
      → AreAskedFor (drop (place + 1) (unborrowed_names names)) new newer had
      → AreAskedFor (drop place (unborrowed_names names)) old newer had
  ask_step old new newer had is more =
      subst (λ ns. AreAskedFor ns old newer had) (sym next_name)
      (asks_on name.now (drop (place + 1) (unborrowed_names names)) old new newer had is more)

  pub ask_missed : (old new : List AskedName) → new ≡ old ++ asked_and_missed name.now ∷ []
      → AreAskedFor (drop place (unborrowed_names names)) old new false
  ask_missed old new is =
      subst (λ ns. AreAskedFor ns old new false) (sym next_name)
      (no_first name.now (drop (place + 1) (unborrowed_names names)) old new is)

-- one more file was asked for
pub asks_one : (one : AskedName) (old new : List AskedName) (count : ℕ) → new ≡ old ++ one ∷ [] → length old ≡ count
    → length new ≡ count + 1
asks_one one old new count is many = ap length is ∙ length-append old (one ∷ []) ∙ ap (λ n. n + 1) many

-- ---- behind the last file

module _ (names : List (Bor (List ℕ))) (place : ℕ) (none : length names ≤ place) where
  no_name : drop place (unborrowed_names names) ≡ []
  no_name = drop_all place (unborrowed_names names) (omega (arith, length-map names (λ (n : Bor (List ℕ)). n.now)))

  pub ask_end : (old : List AskedName) → AreAskedFor (drop place (unborrowed_names names)) old old true
  ask_end old = subst (λ ns. AreAskedFor ns old old true) (sym no_name) (sym (append-nil old))

-- ---- what is read of all files of a command

behind_none : (read : Result (List (List ℕ)) FileFault) → behind [] read ≡ read
behind_none (Ok texts) = refl
behind_none (Err fault) = refl

pub reads_all : (known : Known) (before names due : List (List ℕ)) (answer : Result (List (List ℕ)) FileFault)
    → before ≡ [] → names ≡ due → Reads known before names answer
    → IfSome known (λ held. AgreesOrNoMemory NoMemory (contents_of held due) answer)
reads_all None before names due answer empty same read = tt
reads_all (Some held) before names due answer empty same read =
    subst (λ r. AgreesOrNoMemory NoMemory r answer) (behind_none (contents_of held due))
    (subst (λ b. AgreesOrNoMemory NoMemory (behind b (contents_of held due)) answer) empty
    (subst (λ ns. AgreesOrNoMemory NoMemory (behind before (contents_of held ns)) answer) same read))
